use Rattle.std.proofs.Common.{ℕ, cond, get_or, rules, tests, ap₂, ◌∙◌}
use Rattle.std.proofs.lemmas.Iterator.Consumers.{fold_from_yields_List}
use Rattle.std.specs.List.{fold}
use Rattle.graphs.specs.Masks.{has, with_member}
use Rattle.graphs.proofs.Chains.{run, run_yields}
use Rattle.graphs.proofs.edges.joined.Goals as goal

pub returns : goal.returns
returns c =
    let h = λ (m u : ℕ). cond (has (get_or c.args.lower.now u 0) c.args.v) (with_member m u) m in
    fold_from_yields_List _ h (get_or c.args.lower.now c.number.result 0) c.fold.result c.fold.ensures.ran
    (run_yields (λ r. r.next) (λ r. r.end) _)
    (λ a x b q k. search (rules, tests))
    ∙ ap₂ (λ n xs. fold h (get_or c.args.lower.now n 0) xs) c.number.ensures.value (ap₂ run c.after.ensures.next c.after.ensures.end)
