-- How refusals of files are written.
use Rattle.std.specs.Prelude.{ℕ, List, ◌++◌, codes, decimal}
use Rattle.refusals.specs.Words.{told_words}
use Rattle.sheets.specs.Words as sheet
use Rattle.files.specs.declared.fault.FileCause.{FileCause}
use Rattle.files.specs.declared.fault.FileCause.TheVariants.{TooLong}
use Rattle.files.specs.declared.fault.FileRefusal.{FileRefusal}
use Rattle.files.specs.declared.fault.FileRefusal.TheVariants.{File, Record}
use Rattle.files.specs.Faults.{told}

abbrev pub cause_words : FileCause → List ℕ
cause_words TooLong = codes "the file is above 4096 bytes"

abbrev pub refusal_words : FileRefusal → List ℕ
refusal_words (File f) = cause_words f.cause ++ told_words (told (File f))
refusal_words (Record r) = sheet.refusal_words r.refusal ++ (codes " in the record at offset " ++ decimal r.offset)
