use Rattle.std.proofs.Common.{rules, tests, ◌≡◌, true, sym, subst, arith}
use Rattle.graphs.specs.Counts.{sized, clamped_to}
use Rattle.graphs.proofs.Clamped.{sized_clamped, mapped_by}
use Rattle.graphs.proofs.graph.Graph.new.Goals as goal

pub invariant_of-result-clause-counted : goal.invariant_of-result-clause-counted
invariant_of-result-clause-counted c =
    let e = mapped_by clamped_to _ c.args.counts c.map.result 12 (omega arith) c.map.ensures.items (λ x y p q k. search (rules, tests)) in
    subst (λ l. sized l ≡ true) (sym e) (sized_clamped c.args.counts)

pub returns-clause-counts : goal.returns-clause-counts
returns-clause-counts c = mapped_by clamped_to _ c.args.counts c.map.result 12 (omega arith) c.map.ensures.items (λ x y p q k. search (rules, tests))
