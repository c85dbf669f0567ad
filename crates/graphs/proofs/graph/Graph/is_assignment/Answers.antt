use Rattle.std.proofs.Common.{ℕ, ◌||◌, not, rules, tests, ap, ap₂, ◌∙◌}
use Rattle.std.specs.List.{list_all}
use Rattle.std.proofs.lemmas.Iterator.Search.{all_from_yields_List}
use Rattle.graphs.specs.Masks.{has, twelve}
use Rattle.graphs.specs.Asked.{has_pick}
use Rattle.graphs.proofs.Chains.{run, run_yields}
use Rattle.graphs.proofs.Asking.{all_kept}
use Rattle.graphs.proofs.graph.Graph.is_assignment.Goals as goal

pub returns : goal.returns
unfolding twelve
returns c =
    let p = has c.args.self.now.present in
    let t = has_pick c.args.self.now c.args.picks.now in
    let s = λ (v : ℕ). not (p v) || t v in
    all_from_yields_List s c.all-2.new.self _ c.all-2.result c.all-2.ensures.ran (run_yields (λ r. r.next) (λ r. r.end) c.all.result) (λ x b q k. search (rules, tests))
    ∙ ap (list_all s) (ap₂ run c.all.ensures.next c.all.ensures.end) ∙ all_kept t p (run 0 12)
