-- A file's cut into records, each as long as its kind asks.
use Rattle.std.specs.Prelude.{ℕ, zero, suc, ◌+◌, ◌-◌, List, [], ◌∷◌, length, take, drop, Some, None, Option}
use Rattle.sheets.specs.Table.{length_of}
use Rattle.files.specs.declared.part.Part.{Part}
use Rattle.files.specs.declared.reader.Reader.{Reader}

abbrev pub or_one : Option ℕ → ℕ
or_one None = 1
or_one (Some n) = n

-- the length of a record of this kind; an unknown kind is a record of one byte
abbrev pub size_of : ℕ → ℕ
size_of k = or_one (length_of k)

-- a record and its offset in the file
pub record Piece : Type 0 where
  pub at : ℕ
  pub bytes : List ℕ

abbrev pub piece : ℕ → List ℕ → Piece
piece i bs = record { at = i; bytes = bs }

abbrev pub bytes_of : Piece → List ℕ
bytes_of p = p.bytes

-- the records of what is left of a file from offset `i` on, at most so many; the last one may be short
unfoldable pub cut_from : ℕ → ℕ → List ℕ → List Piece
cut_from zero i bs = []
cut_from (suc n) i [] = []
cut_from (suc n) i (k ∷ bs) = piece i (take (size_of k) (k ∷ bs)) ∷ cut_from n (i + size_of k) (drop (size_of k) (k ∷ bs))

-- a record has one byte at least, so a file has no more records than bytes
abbrev pub cut : List ℕ → List Piece
cut f = cut_from (length f) 0 f

-- what a reader has still to hand out
abbrev pub left_of : Reader → List Piece
left_of r = cut_from (length r.file.now - r.offset) r.offset (drop r.offset r.file.now)

abbrev pub piece_of : Part → Piece
piece_of p = piece p.offset p.bytes.now
