use Rattle.std.proofs.Common.{◌≤◌, None, Err, length, take, sym, ap, ◌∙◌, subst, arith, length-take, rules}
use Rattle.std.proofs.lemmas.Result.{err_from_is_err_and}
use Rattle.graphs.specs.Outcome.{Chosen}
use Rattle.graphs.specs.Stored.{model_of}
use Rattle.graphs.proofs.Branching.{answers, chosen}
use Rattle.graphs.specs.Outcomes.{fitted_ok, nothing_fits}
use Rattle.graphs.specs.Reading.{proper}
use Rattle.graphs.proofs.branch_and_bound.BranchAndBoundSolver.solve.Goals as goal

pub slice_bounds-priced-end-2 : goal.slice_bounds-priced-end-2
slice_bounds-priced-end-2 g c = let h : 1710 ≤ length c.args.memory.now = omega (arith, c.in_ok-check_room.ensures) in search rules

pub invariant_of-priced : goal.invariant_of-priced
invariant_of-priced g c = record { whole = simp length-take (omega (arith, c.in_ok-check_room.ensures)) }

pub returns-in_err-price-clause-answer : goal.returns-in_err-price-clause-answer
returns-in_err-price-clause-answer g c =
    let mem = c.args.memory.now in
    let p = err_from_is_err_and c.from_residual-in_err-price.result c.from_residual-in_err-price.ensures.1 in
    p.1 ∙ ap Err p.2 ∙ sym c.in_err-price.was ∙ c.fitting.ensures ∙ sym (answers g.P.Price c.args.graph.now mem c.args.picks.now c.searched-best.result c.searched-best.ensures (length mem) c.in_ok-check_room.ensures)

pub returns-in_err-price-clause-nothing : goal.returns-in_err-price-clause-nothing
returns-in_err-price-clause-nothing g c =
    let mem = c.args.memory.now in
    let md = model_of g.P.Price c.args.graph.now mem in
    nothing_fits g.P.Price 2010 None md (length mem) _ (proper g.P.Price c.args.graph.now (take 1710 mem)) (returns-in_err-price-clause-answer g c)

pub returns-clause-answer : goal.returns-clause-answer
returns-clause-answer g c =
    let mem = c.args.memory.now in
    sym c.in_ok-price.was ∙ c.fitting.ensures ∙ sym (answers g.P.Price c.args.graph.now mem c.args.picks.now c.searched-best.result c.searched-best.ensures (length mem) c.in_ok-check_room.ensures)

pub returns-clause-picked : goal.returns-clause-picked
returns-clause-picked g c =
    let k = g.P.Price in
    let best = c.searched-best.result in
    let md = model_of k c.args.graph.now c.args.memory.now in
    let f = fitted_ok k best.price c.in_ok-price.price (sym c.fitting.ensures ∙ c.in_ok-price.was) in
    subst (λ p. Chosen k md p c.args.picks.now best.picks) f.same (chosen k c.args.graph.now c.args.memory.now c.args.picks.now best c.searched-best.ensures f.below)
