use Rattle.sheets.proofs.Ruling.{declaration_by_rule}
use Rattle.sheets.proofs.sheet.Sheet.declare.Goals as goal

pub returns-in_err-declaration-clause-rule : goal.returns-in_err-declaration-clause-rule
returns-in_err-declaration-clause-rule c = declaration_by_rule _ _

pub returns-clause-rule : goal.returns-clause-rule
returns-clause-rule c = declaration_by_rule _ _
