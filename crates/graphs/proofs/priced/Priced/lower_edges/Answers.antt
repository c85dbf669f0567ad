use Rattle.std.proofs.Common.{rules, tests, filter, ap, ap₂, ◌∙◌, arith}
use Rattle.std.proofs.lemmas.Iterator.Consumers.{YieldsList-from_filter, fold_from_yields_List}
use Rattle.std.specs.List.{fold}
use Rattle.graphs.specs.Masks.{with_member}
use Rattle.graphs.proofs.Chains.{run, run_yields, mask_of_run}
use Rattle.graphs.specs.Edges.{edge, lower_edges}
use Rattle.graphs.specs.Stored.{model_at}
use Rattle.graphs.proofs.priced.Priced.lower_edges.Goals as goal

pub returns : goal.returns
unfolding lower_edges
returns g c =
    let t = edge g.P.Price (model_at g.P.Price c.args.self.now) c.args.v in
    fold_from_yields_List _ with_member 0 c.fold.result c.fold.ensures.ran
    (YieldsList-from_filter _ t (run_yields (λ r. r.next) (λ r. r.end) _) c.filter.ensures.closure (λ x b q k. search (rules, tests)))
    (λ a x b q k. search (rules, tests))
    ∙ ap (λ xs. fold with_member 0 (filter t xs)) (ap (λ r. run r.next r.end) c.filter.ensures.source ∙ ap₂ run c.before-2.ensures.next c.before-2.ensures.end)
    ∙ mask_of_run t c.args.v (omega (arith, c.before-2.ensures.within))
