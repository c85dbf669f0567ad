-- Laws of a file's cut.
use Rattle.std.proofs.Common.{◌≡◌, ℕ, zero, suc, ◌+◌, ◌-◌, ◌<◌, ◌≤◌, List, [], ◌∷◌, length, min, get_or, take, drop, Some, None, Option, slice_get, sym, refl, ap, ◌∙◌, ⊎_elim, arith, length-drop}
use Rattle.std.proofs.lemmas.Bool.{cases_lt}
use Rattle.std.proofs.lemmas.List.{drop_all, drop-drop, take_all}
use Rattle.sheets.specs.Table.{Row, size_or, row_of, line_rows, declaration_rows}
use Rattle.files.specs.Cut.{or_one, size_of, piece, Piece, cut_from}

-- # Every record has a byte

size_or_lem : {A : Type 0} (o : Option ℕ) (x : Option (Row A)) → 1 ≤ or_one o → 1 ≤ or_one (size_or o x)
size_or_lem o None h = h
size_or_lem o (Some x) h = omega arith

pub size_pos : (k : ℕ) → 1 ≤ size_of k
size_pos k = size_or_lem (size_or None (row_of k line_rows)) (row_of k declaration_rows) (size_or_lem None (row_of k line_rows) (omega arith))

-- # One record more

pub cut_none : (n i : ℕ) → cut_from n i [] ≡ []
unfolding cut_from
cut_none zero i = refl
cut_none (suc n) i = refl

-- as many turns as bytes are enough
cut_enough : (n m i : ℕ) (bs : List ℕ) → length bs ≤ n → length bs ≤ m → cut_from n i bs ≡ cut_from m i bs
unfolding cut_from
cut_enough n m i [] p q = cut_none n i ∙ sym (cut_none m i)
cut_enough zero m i (k ∷ bs) p q = absurd (omega arith)
cut_enough (suc n) zero i (k ∷ bs) p q = absurd (omega arith)
cut_enough (suc n) (suc m) i (k ∷ bs) p q =
    let s = size_pos k in
    let d = length-drop (size_of k) (k ∷ bs) in
    ap (λ (ps : List Piece). piece i (take (size_of k) (k ∷ bs)) ∷ ps)
    (cut_enough n m (i + size_of k) (drop (size_of k) (k ∷ bs)) (omega arith) (omega arith))

pub cut_step : (n i : ℕ) (bs : List ℕ) → 0 < length bs → length bs ≤ n
    → cut_from n i bs ≡ piece i (take (size_of (get_or bs 0 0)) bs) ∷ cut_from (length bs - size_of (get_or bs 0 0)) (i + size_of (get_or bs 0 0)) (drop (size_of (get_or bs 0 0)) bs)
unfolding cut_from
cut_step n i [] p q = absurd (omega arith)
cut_step zero i (k ∷ bs) p q = absurd (omega arith)
cut_step (suc n) i (k ∷ bs) p q =
    let s = size_pos k in
    let d = length-drop (size_of k) (k ∷ bs) in
    ap (λ (ps : List Piece). piece i (take (size_of k) (k ∷ bs)) ∷ ps)
    (cut_enough n (length (k ∷ bs) - size_of k) (i + size_of k) (drop (size_of k) (k ∷ bs)) (omega arith) (omega arith))

-- # What is left at an offset

module _ (f : List ℕ) (o : ℕ) where
  -- the bytes from there on, as `&f[o..]` gives them
  abbrev rest : List ℕ
  rest = take (length f - o) (drop o f)

  rest_is : rest ≡ drop o f
  rest_is = let l = length-drop o f in take_all (length f - o) (drop o f) (omega arith)

  none_left : (bs : List ℕ) → bs ≡ drop o f → slice_get bs 0 ≡ None → cut_from (length f - o) o (drop o f) ≡ []
  none_left [] r h = rw (sym r) (cut_none _ _)
  none_left (b ∷ bs) r h = cc

  pub at_end : slice_get rest 0 ≡ None → cut_from (length f - o) o (drop o f) ≡ []
  at_end = none_left rest rest_is

  -- a record has as many bytes as its kind asks, or as many as there are
  one_left : (all : List ℕ) → all ≡ drop o f → (k s n : ℕ) → slice_get all 0 ≡ Some k → s ≡ size_of k → n ≡ min s (length all)
      → cut_from (length f - o) o (drop o f) ≡ piece o (take n all) ∷ cut_from (length f - (o + n)) (o + n) (drop (o + n) f)
  one_left [] r k s n h z e = cc
  one_left (b ∷ bs) r k s n h z e =
      let l = length-drop o f in
      let long : length (b ∷ bs) ≡ length (drop o f) = ap length r in
      let same : k ≡ b = cc in
      let sizes : size_of k ≡ size_of b = ap size_of same in
      let st = cut_step (length f - o) o (b ∷ bs) (omega arith) (omega arith) in
      ⊎_elim
      (λ q.
      let m : n ≡ length (b ∷ bs) = omega arith in
      let t : take n (b ∷ bs) ≡ b ∷ bs = take_all n (b ∷ bs) (omega arith) in
      let t' : take (size_of b) (b ∷ bs) ≡ b ∷ bs = take_all (size_of b) (b ∷ bs) (omega arith) in
      let d : drop (size_of b) (b ∷ bs) ≡ [] = drop_all (size_of b) (b ∷ bs) (omega arith) in
      let d' : drop (o + n) f ≡ [] = drop_all (o + n) f (omega arith) in
      let c = cut_none (length (b ∷ bs) - size_of b) (o + size_of b) in
      let c' = cut_none (length f - (o + n)) (o + n) in
      cc)
      (λ q.
      let m : n ≡ size_of b = omega arith in
      let t : length f - (o + n) ≡ length (b ∷ bs) - n = omega arith in
      let d : drop n (b ∷ bs) ≡ drop (o + n) f = ap (drop n) r ∙ drop-drop n o f in
      cc)
      (cases_lt (length (b ∷ bs)) (size_of b))

  pub at_record : (k s n : ℕ) → slice_get rest 0 ≡ Some k → s ≡ size_of k → n ≡ min s (length rest)
      → cut_from (length f - o) o (drop o f) ≡ piece o (take n rest) ∷ cut_from (length f - (o + n)) (o + n) (drop (o + n) f)
  at_record = one_left rest rest_is
