use Rattle.std.proofs.Common.{◌≤◌, arith}
use Rattle.graphs.specs.Kept.{prices_in, picks_in}
use Rattle.graphs.specs.Turning.{all_covered}
use Rattle.graphs.proofs.priced.Priced.advance.Goals as goal

pub returns : goal.returns
returns g c =
    let s = c.args.self.now in
    let inv = c.loop-j.invariant in
    let all : 125 ≤ c.loop-j.j-iterator.next = omega (arith, inv.0, inv.1, c.in-None.ensures.steps.0) in
    all_covered g.P.Price s.graph s.prices.now c.args.turn.now.variable (prices_in g.P.Price c.loop-j.new.prices.now) (picks_in c.loop-j.new.picks) c.loop-j.j-iterator.next all c.requires.next.present c.requires.slim inv.2
