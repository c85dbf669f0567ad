use Rattle.std.proofs.Common.{rules, tests}
use Rattle.graphs.proofs.Filled.{filled}
use Rattle.graphs.proofs.table.Table.clear.Goals as goal

pub returns : goal.returns
returns g c = filled _ g.P.Price.greatest _ _ c.fill_with.new.self c.fill_with.ensures.ran.1 (λ y q k. search (rules, tests))
