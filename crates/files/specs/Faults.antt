-- The table of refusals, continued: what is refused of a file.
use Rattle.std.specs.Prelude.{ℕ, Some, None, Option}
use Rattle.refusals.specs.declared.told.Told.{Told}
use Rattle.sheets.specs.Faults as sheet
use Rattle.files.specs.declared.fault.FileCause.{FileCause}
use Rattle.files.specs.declared.fault.FileCause.TheVariants.{TooLong}
use Rattle.files.specs.declared.fault.FileRefusal.{FileRefusal}
use Rattle.files.specs.declared.fault.FileRefusal.TheVariants.{File, Record}

abbrev pub number_of : FileCause → ℕ
number_of TooLong = 15

abbrev pub told : FileRefusal → Told
told (File f) = record { number = number_of f.cause; place = f.place; depth = 0 }
told (Record r) = sheet.told r.refusal

abbrev pub offset_of : FileRefusal → Option ℕ
offset_of (File f) = None
offset_of (Record r) = Some r.offset
