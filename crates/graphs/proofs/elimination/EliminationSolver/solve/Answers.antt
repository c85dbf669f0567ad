use Rattle.std.proofs.Common.{Err, length, take, sym, ap, ◌∙◌, subst, arith}
use Rattle.std.proofs.lemmas.Result.{err_from_is_err_and}
use Rattle.graphs.specs.Frontier.{widest, at_depth_zero}
use Rattle.graphs.specs.Outcome.{Chosen}
use Rattle.graphs.specs.Stored.{model_of, pick_of}
use Rattle.graphs.specs.Ending.{swept_found, assigned, front_stands}
use Rattle.graphs.specs.Outcomes.{fitted_ok, nothing_fits}
use Rattle.graphs.specs.Reading.{proper}
use Rattle.graphs.proofs.Eliminating.{found, answers}
use Rattle.graphs.proofs.elimination.EliminationSolver.solve.Goals as goal

pub returns-in_err-best-clause-stands : goal.returns-in_err-best-clause-stands
returns-in_err-best-clause-stands g c = front_stands c.args.memory.now _ _ c.split_at_mut-prices.ensures.front (omega (arith, c.in_ok-check_room.ensures))

pub returns-in_err-price-clause-answer : goal.returns-in_err-price-clause-answer
returns-in_err-price-clause-answer g c =
    let mem = c.args.memory.now in
    let p = err_from_is_err_and c.from_residual-in_err-price.result c.from_residual-in_err-price.ensures.1 in
    p.1 ∙ ap Err p.2 ∙ sym c.in_err-price.was ∙ c.fitting.ensures ∙ sym (answers g.P.Price _ _ mem c.in_ok-best.best c.new-linked.ensures c.split_at_mut-prices.ensures.front c.in_ok-best.ensures (length mem) c.in_ok-check_room.ensures)

pub returns-in_err-price-clause-stands : goal.returns-in_err-price-clause-stands
returns-in_err-price-clause-stands g c = front_stands c.args.memory.now _ _ c.split_at_mut-prices.ensures.front (omega (arith, c.in_ok-check_room.ensures))

pub returns-in_err-price-clause-nothing : goal.returns-in_err-price-clause-nothing
returns-in_err-price-clause-nothing g c =
    let mem = c.args.memory.now in
    let md = model_of g.P.Price c.args.graph.now mem in
    nothing_fits g.P.Price 2010 (at_depth_zero (widest g.P.Price md)) md (length mem) _ (proper g.P.Price c.args.graph.now (take 1710 mem)) (returns-in_err-price-clause-answer g c)

pub returns-clause-answer : goal.returns-clause-answer
returns-clause-answer g c =
    let mem = c.args.memory.now in
    sym c.in_ok-price.was ∙ c.fitting.ensures ∙ sym (answers g.P.Price _ _ mem c.in_ok-best.best c.new-linked.ensures c.split_at_mut-prices.ensures.front c.in_ok-best.ensures (length mem) c.in_ok-check_room.ensures)

pub returns-clause-stands : goal.returns-clause-stands
returns-clause-stands g c = front_stands c.args.memory.now _ _ c.split_at_mut-prices.ensures.front (omega (arith, c.in_ok-check_room.ensures))

pub returns-clause-picked : goal.returns-clause-picked
returns-clause-picked g c =
    let k = g.P.Price in
    let gr = c.args.graph.now in
    let mem = c.args.memory.now in
    let best = c.in_ok-best.best in
    let swept = found k _ _ mem best c.new-linked.ensures c.split_at_mut-prices.ensures.front c.in_ok-best.ensures in
    let f = fitted_ok k best.price c.in_ok-price.price (sym c.fitting.ensures ∙ c.in_ok-price.was) in
    let w = assigned k gr (take 1710 mem) best.price c.args.picks.now best.picks c.assign.new.picks (swept_found k gr (take 1710 mem) best.price (pick_of best.picks) swept.1 f.below) c.assign.ensures in
    subst (λ p. Chosen k (model_of k gr mem) p c.args.picks.now c.assign.new.picks) f.same w
