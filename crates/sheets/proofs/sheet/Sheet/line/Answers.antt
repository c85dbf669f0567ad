use Rattle.sheets.proofs.Ruling.{line_by_rule}
use Rattle.sheets.proofs.sheet.Sheet.line.Goals as goal

pub returns-in_err-line-clause-rule : goal.returns-in_err-line-clause-rule
returns-in_err-line-clause-rule c = line_by_rule _ _

pub returns-in_err-map_err-clause-rule : goal.returns-in_err-map_err-clause-rule
returns-in_err-map_err-clause-rule c = line_by_rule _ _

pub returns-clause-rule : goal.returns-clause-rule
returns-clause-rule c = line_by_rule _ _
