-- How a file is cut, and what keying it in means, as relations.
use Rattle.std.specs.Prelude.{◌≡◌, ℕ, ◌+◌, ◌<◌, ◌≤◌, List, [], ◌∷◌, ◌++◌, length, take, drop, Some, None, Ok, Err, slice_index}
use Rattle.sheets.specs.declared.fault.SheetFault.{SheetFault}
use Rattle.sheets.specs.Contents.{Content}
use Rattle.files.specs.Cut.{size_of, Piece, piece}
use Rattle.files.specs.Keyed.{entering, Keyed, keeps, refused_at}

-- the length of the first record, by its kind
abbrev pub first_size : List ℕ → ℕ
first_size bs = size_of (slice_index bs 0)

-- bytes from this offset on are cut into these records
pub data Cuts : ℕ → List ℕ → List Piece → Type 0 where
  none_left : {i : ℕ} → Cuts i [] []
  whole_record : {i : ℕ} {bs : List ℕ} {ps : List Piece} → 0 < length bs → first_size bs ≤ length bs
      → Cuts (i + first_size bs) (drop (first_size bs) bs) ps → Cuts i bs (piece i (take (first_size bs) bs) ∷ ps)
  cut_short : {i : ℕ} {bs : List ℕ} → 0 < length bs → length bs < first_size bs → Cuts i bs (piece i bs ∷ [])

-- a file is cut into these records, and can be cut into no others
pub record CutByKind (f : List ℕ) (ps : List Piece) : Type 0 where
  pub holds : Cuts 0 f ps
  pub alone : (qs : List Piece) → Cuts 0 f qs → qs ≡ ps

-- a sheet accepts these records in order, and what stands goes from the one content to the other
pub data Accepts : Content → List Piece → Content → Type 0 where
  none_given : {c : Content} → Accepts c [] c
  one_more : {c d e : Content} {p : Piece} {ps : List Piece} → entering p.bytes c ≡ Ok d → Accepts d ps e → Accepts c (p ∷ ps) e

-- either all records are accepted, or those before the first that is refused
pub data FirstFault (c : Content) (ps : List Piece) : Keyed → Type 0 where
  no_fault : {d : Content} → Accepts c ps d → FirstFault c ps (keeps d None)
  fault_at : {d : Content} (before after : List Piece) (p : Piece) (f : SheetFault) → ps ≡ before ++ (p ∷ after)
      → Accepts c before d → entering p.bytes d ≡ Err f → FirstFault c ps (keeps d (Some (refused_at p.at f)))

-- keying these records in leaves this, and nothing else
pub record KeyedByRule (c : Content) (ps : List Piece) (k : Keyed) : Type 0 where
  pub holds : FirstFault c ps k
  pub alone : (j : Keyed) → FirstFault c ps j → j ≡ k
