use Rattle.std.proofs.Common.{length, arith}
use Rattle.files.proofs.Ruling.{cut_by_kind, cut_joined}
use Rattle.files.proofs.reader.Reader.new.Goals as goal

pub returns-clause-rule : goal.returns-clause-rule
returns-clause-rule c = cut_by_kind _

pub returns-clause-whole : goal.returns-clause-whole
returns-clause-whole c = cut_joined (length c.args.file.now) 0 _ (omega arith)
