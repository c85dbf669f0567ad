use Rattle.std.proofs.Common.{rules}
use Rattle.sheets.proofs.words.LineDisplay.fmt.Goals as goal

pub returns-in-UpperHalf-clause-writes : goal.returns-in-UpperHalf-clause-writes
returns-in-UpperHalf-clause-writes g c = rw c.in-UpperHalf.is (search rules)
