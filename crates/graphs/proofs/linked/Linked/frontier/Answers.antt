use Rattle.std.proofs.Common.{ℕ, ◌+◌, ◌≤◌, ◌&&◌, filter, get_or, rules, tests, sym, ap, ap₂, ◌∙◌, arith}
use Rattle.std.specs.List.{fold}
use Rattle.std.proofs.lemmas.Bool.{le-leb}
use Rattle.std.proofs.lemmas.Iterator.Consumers.{YieldsList-from_filter, fold_from_yields_List}
use Rattle.graphs.specs.Edges.{edges}
use Rattle.graphs.specs.Frontier.{reaches_above}
use Rattle.graphs.specs.Masks.{with_member}
use Rattle.graphs.specs.Stored.{model_at}
use Rattle.graphs.proofs.Chains.{run, run_yields, mask_of_run, mask_same}
use Rattle.graphs.specs.Fronts.{frontier_by_lem, frontier_same}
use Rattle.graphs.proofs.linked.Linked.frontier.Goals as goal

pub returns : goal.returns
returns g c =
    let v = c.args.v in
    let s = c.args.self.now in
    let e = λ (y : ℕ). get_or s.edges y 0 in
    let t = λ (y : ℕ). reaches_above (e y) v in
    let few : v + 1 ≤ 12 = omega (arith, c.through.ensures.within, c.through.ensures.end) in
    fold_from_yields_List _ with_member 0 c.fold.result c.fold.ensures.ran
    (YieldsList-from_filter _ t (run_yields (λ r. r.next) (λ r. r.end) _) c.filter.ensures.closure (λ x b q k. search (rules, tests)))
    (λ a x b q k. search (rules, tests))
    ∙ ap (λ xs. fold with_member 0 (filter t xs)) (ap (λ r. run r.next r.end) c.filter.ensures.source ∙ ap₂ run c.through.ensures.next c.through.ensures.end)
    ∙ mask_of_run t (v + 1) (omega (arith, few))
    ∙ mask_same t _ (v + 1) (λ y h. ap (λ b. b && t y) (sym (le-leb y v (omega arith))))
    ∙ frontier_by_lem e v (omega (arith, few))
    ∙ frontier_same e (edges g.P.Price (model_at g.P.Price s.priced)) v s.joined
