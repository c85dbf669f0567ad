use Rattle.std.proofs.Common.{◌∙◌, ap}
use Rattle.sheets.specs.Usage.{times}
use Rattle.sheets.proofs.Totals.{times_present}
use Rattle.sheets.proofs.line.Line.times.Goals as goal

pub returns-clause-value : goal.returns-clause-value
returns-clause-value c = c.times_in.ensures.value ∙ times_present c.args.variable c.named.result ∙ ap (times c.args.variable) c.named.ensures
