-- Worked examples of prices, records and files, as equations that compute; those of graphs beside them.
use Rattle.std.specs.Prelude.{◌≡◌, ℕ, true, List, [], ◌∷◌, replicate, Some, None, Err, Option}
use Rattle.prices.specs.PlainKind.{plain, plain_sum, plain_access, plain_move}
use Rattle.prices.specs.PlainLaws.{plain_kind}
use Rattle.prices.specs.RankedKind.{ranked, ranked_sum, ranked_at_most, ranked_access, ranked_move}
use Rattle.prices.specs.RankedLaws.{ranked_kind}
use Rattle.sheets.specs.declared.line.Line.TheVariants.{Input, GoToIfZero, End}
use Rattle.sheets.specs.declared.fault.Cause.TheVariants.{NoLine}
use Rattle.sheets.specs.declared.access.Access.TheVariants.{Read, Write}
use Rattle.sheets.specs.Table.{length_of}
use Rattle.sheets.specs.Records.{fault}
use Rattle.sheets.specs.Contents.{blank, withdrawing}
use Rattle.sheets.specs.Placement.{price, everything_in_memory}
use Rattle.sheets.specs.Usage.{count_in, weight_in}
use Rattle.files.specs.declared.fault.FileRefusal.{FileRefusal}
use Rattle.files.specs.Faults.{offset_of}
use Rattle.files.specs.Faults as file
use Rattle.files.specs.Cut.{cut}
use Rattle.files.specs.Keyed.{Keyed, keyed_records}
use Rattle.worked.specs.Graphs.{GraphsWork}

-- # What is compared

-- number, place and offset of the first fault
abbrev pub fault_of : Option FileRefusal → Option (ℕ × ℕ × Option ℕ)
fault_of None = None
fault_of (Some f) = Some ((file.told f).number, (file.told f).place, offset_of f)

abbrev pub keyed_file : List ℕ → Keyed
keyed_file f = keyed_records blank (cut f)

abbrev pub first_fault : List ℕ → Option (ℕ × ℕ × Option ℕ)
first_fault f = fault_of (keyed_file f).fault

-- # The sheets

-- two words are read in; each goes on to the end where it is zero
abbrev pub branches : List ℕ
branches =
    0x01 ∷ 0 ∷ 1 ∷ 0x01 ∷ 1 ∷ 1 ∷ 0x10 ∷ 0 ∷ 0 ∷ 1 ∷ 0x10 ∷ 1 ∷ 0 ∷ 1 ∷ 0x17 ∷ 0 ∷ 4 ∷ 1 ∷ 0x17 ∷ 1 ∷ 4 ∷ 9 ∷ 0x18 ∷ []

-- v0 is a word, v1 is wide
abbrev pub word_and_wide : List ℕ
word_and_wide = 0x01 ∷ 0 ∷ 1 ∷ 0x01 ∷ 1 ∷ 2 ∷ []

-- # The equations

pub record PricesWork : Type 0 where
  pub plain_stops : (plain_sum (plain 4294967290) (plain 9)).value ≡ 4294967295
  pub plain_prices : ((plain_access 7).value ≡ 21) × ((plain_move 7).value ≡ 7)
  pub reaches_top : ((ranked_sum (ranked 65534 1) (ranked 1 0)).first ≡ 65535) × ((ranked_sum (ranked 65534 1) (ranked 1 0)).second ≡ 0)
  pub second_stops : ((ranked_sum (ranked 1 65000) (ranked 2 1000)).first ≡ 3) × ((ranked_sum (ranked 1 65000) (ranked 2 1000)).second ≡ 65535)
  pub ranked_prices : ((ranked_access 7).first ≡ 7) × ((ranked_access 7).second ≡ 0) × ((ranked_move 7).first ≡ 0) × ((ranked_move 7).second ≡ 7)
  pub first_decides : ranked_at_most (ranked 65000 9) (ranked 65001 0) ≡ true
  pub order_kept : ranked_at_most (ranked_sum (ranked 65000 9) (ranked 1000 0)) (ranked_sum (ranked 65001 0) (ranked 1000 0)) ≡ true

pub record RecordsWork : Type 0 where
  pub lengths : (length_of 0x01 ≡ Some 3) × (length_of 0x14 ≡ Some 5) × (length_of 0x16 ≡ Some 2) × (length_of 0x18 ≡ Some 1) × (length_of 0x19 ≡ None) × (length_of 0 ≡ None)
  pub unknown_kind : first_fault (0x0f ∷ []) ≡ Some (1, 0, Some 0)
  pub cut_short : first_fault (0x01 ∷ 0 ∷ 1 ∷ 0x10 ∷ 0 ∷ []) ≡ Some (2, 4, Some 3)
  pub lowest_out_of_range : first_fault (0x01 ∷ 12 ∷ 3 ∷ []) ≡ Some (3, 1, Some 0)
  pub no_width : first_fault (0x01 ∷ 11 ∷ 3 ∷ []) ≡ Some (3, 2, Some 0)
  pub no_weight : first_fault (0x01 ∷ 0 ∷ 1 ∷ 0x10 ∷ 0 ∷ 7 ∷ 0 ∷ []) ≡ Some (3, 3, Some 3)
  pub declared_again : first_fault (0x01 ∷ 0 ∷ 1 ∷ 0x01 ∷ 0 ∷ 2 ∷ []) ≡ Some (4, 1, Some 3)
  -- ranges come before declarations, and these before widths
  pub range_before_declaration : first_fault (0x14 ∷ 1 ∷ 0 ∷ 2 ∷ 0 ∷ []) ≡ Some (3, 4, Some 0)
  pub declaration_before_width : first_fault (0x01 ∷ 0 ∷ 1 ∷ 0x14 ∷ 0 ∷ 0 ∷ 3 ∷ 1 ∷ []) ≡ Some (4, 3, Some 3)
  pub lowest_undeclared : first_fault (0x01 ∷ 0 ∷ 1 ∷ 0x13 ∷ 0 ∷ 3 ∷ 2 ∷ 1 ∷ []) ≡ Some (4, 2, Some 3)
  pub wide_dest : fault_of (keyed_records (keyed_file word_and_wide).content (cut (0x10 ∷ 1 ∷ 0 ∷ 1 ∷ []))).fault ≡ Some (5, 1, Some 0)
  -- a copy is held to the width of its first variable
  pub unequal_copy : fault_of (keyed_records (keyed_file word_and_wide).content (cut (0x12 ∷ 1 ∷ 0 ∷ 1 ∷ []))).fault ≡ Some (5, 2, Some 0)
  pub full : first_fault (replicate 65 0x18) ≡ Some (6, 64, Some 64)
  pub none_to_withdraw : withdrawing blank ≡ Err (fault NoLine 0)

pub record SheetWorks : Type 0 where
  pub accepted : (keyed_file branches).fault ≡ None
  pub lines : (keyed_file branches).content.lines ≡ Input 0 0 1 ∷ Input 1 0 1 ∷ GoToIfZero 0 4 1 ∷ GoToIfZero 1 4 9 ∷ End ∷ []
  pub usage : (count_in Read (keyed_file branches).content.lines 1 ≡ 1) × (weight_in Read (keyed_file branches).content.lines 1 ≡ 9) × (weight_in Write (keyed_file branches).content.lines 1 ≡ 1)
  pub in_memory_plain : (price plain_kind (keyed_file branches).content.lines everything_in_memory).value ≡ 36
  pub in_memory_ranked : ((price ranked_kind (keyed_file branches).content.lines everything_in_memory).first ≡ 12) × ((price ranked_kind (keyed_file branches).content.lines everything_in_memory).second ≡ 0)

pub record Worked : Type 0 where
  pub prices : PricesWork
  pub records : RecordsWork
  pub graphs : GraphsWork
  pub sheet : SheetWorks
