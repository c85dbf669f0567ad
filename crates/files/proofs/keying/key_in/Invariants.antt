use Rattle.std.proofs.Common.{◌≡◌}
use Rattle.sheets.specs.Contents.{content_of}
use Rattle.files.specs.Cut.{left_of, cut}
use Rattle.files.specs.Keyed.{keyed_records}
use Rattle.files.proofs.keying.key_in.Given as goal

abbrev pub invariant-loop-part : goal.invariant-loop-part
invariant-loop-part l = keyed_records (content_of l.initial.sheet) (cut l.file) ≡ keyed_records (content_of l.sheet) (left_of l.part-iterator)
