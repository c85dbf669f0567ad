-- One record more handed to a sheet.
use Rattle.std.proofs.Common.{◌≡◌, ℕ, Bool, true, false, cond, leb, List, [], ◌∷◌, length, Some, None, Ok, Err, Result, sym, refl, ap, ◌∙◌, arith}
use Rattle.sheets.specs.declared.fault.SheetFault.{SheetFault}
use Rattle.sheets.specs.declared.fault.SheetRefusal.{SheetRefusal}
use Rattle.sheets.specs.Contents.{Content, answered, left}
use Rattle.files.specs.declared.fault.RecordRefusal.{RecordRefusal}
use Rattle.files.specs.declared.fault.FileFault.{FileFault}
use Rattle.files.specs.declared.fault.FileRefusal.TheVariants.{Record}
use Rattle.files.specs.Cut.{Piece, piece, cut}
use Rattle.files.specs.Keyed.{entering, Keyed, keeps, after, located, fitted, too_long, keyed, keyed_records}

-- # The records

pub keyed_end : (c : Content) (ps : List Piece) → ps ≡ [] → keyed_records c ps ≡ keeps c None
unfolding keyed_records
keyed_end c ps e = ap (keyed_records c) e

module _ (at : ℕ) (c : Content) where
  accepted : (v : Result Content SheetFault) (rest : Content → Keyed) (x : Unit {0}) → located at (answered v) ≡ Ok x → after at c v rest ≡ rest (left v c)
  accepted (Ok next) rest x h = refl
  accepted (Err f) rest x h = absurd (let z : ◌≡◌ {A = ℕ} 0 1 = cc in omega arith)

  refused : (v : Result Content SheetFault) (rest : Content → Keyed) (f : RecordRefusal) → located at (answered v) ≡ Err f → after at c v rest ≡ keeps (left v c) (Some (Record f))
  refused (Ok next) rest f h = absurd (let z : ◌≡◌ {A = ℕ} 0 1 = cc in omega arith)
  refused (Err g) rest f h = cc

module _ (c next : Content) (ps qs : List Piece) (at : ℕ) (bs : List ℕ) (a : Result (Unit {0}) SheetRefusal) (r : Result (Unit {0}) RecordRefusal)
    (e : ps ≡ piece at bs ∷ qs) (k : a ≡ answered (entering bs c)) (s : next ≡ left (entering bs c) c) (l : r ≡ located at a) where
  step : keyed_records c ps ≡ after at c (entering bs c) (λ d. keyed_records d qs)
  unfolding keyed_records
  step = ap (keyed_records c) e

  pub keyed_more : (x : Unit {0}) → r ≡ Ok x → keyed_records c ps ≡ keyed_records next qs
  keyed_more x o =
      step ∙ accepted at c (entering bs c) (λ d. keyed_records d qs) x (ap (located at) (sym k) ∙ sym l ∙ o) ∙ ap (λ (d : Content). keyed_records d qs) (sym s)

  pub keyed_stop : (f : RecordRefusal) → r ≡ Err f → keyed_records c ps ≡ keeps next (Some (Record f))
  keyed_stop f o =
      step ∙ refused at c (entering bs c) (λ d. keyed_records d qs) f (ap (located at) (sym k) ∙ sym l ∙ o) ∙ ap (λ (d : Content). keeps d (Some (Record f))) (sym s)

-- # The file's length

module _ (some whole : Keyed) where
  pass : (b : Bool) (x : Unit {0}) → ◌≡◌ {A = Result (Unit {0}) FileFault} (cond b (Ok tt) (Err too_long)) (Ok x) → cond b some whole ≡ some
  pass true x h = refl
  pass false x h = absurd (let z : ◌≡◌ {A = ℕ} 0 1 = cc in omega arith)

pub keyed_short : (c : Content) (f : List ℕ) (r : Result (Unit {0}) FileFault) → r ≡ fitted (length f) → (x : Unit {0}) → r ≡ Ok x → keyed c f ≡ keyed_records c (cut f)
keyed_short c f r e x o = pass _ _ (leb (length f) 4096) x (sym e ∙ o)
