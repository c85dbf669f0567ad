-- The definitions of a file's cut and of its first fault keep the rules.
use Rattle.std.proofs.Common.{◌≡◌, ℕ, zero, suc, ◌+◌, ◌-◌, ◌<◌, ◌≤◌, List, [], ◌∷◌, ◌++◌, length, take, drop, Some, None, Ok, Err, Result, sym, refl, ap, ◌∙◌, subst, ⊎_elim, arith, length-drop}
use Rattle.std.proofs.lemmas.Bool.{cases_lt}
use Rattle.std.proofs.lemmas.List.{drop_all, take_all, take-append-drop, append-nil}
use Rattle.std.specs.List.{flat_map}
use Rattle.sheets.specs.declared.fault.SheetFault.{SheetFault}
use Rattle.sheets.specs.Contents.{Content}
use Rattle.files.specs.Cut.{size_of, Piece, piece, bytes_of, cut_from, cut}
use Rattle.files.specs.Keyed.{entering, Keyed, keeps, after, refused_at, keyed_records}
use Rattle.files.specs.Rules.{first_size, Cuts, CutByKind, Accepts, FirstFault, KeyedByRule}
use Rattle.files.proofs.Cuts.{size_pos, cut_none, cut_step}

-- # The cut

cuts : (n i : ℕ) (bs : List ℕ) → length bs ≤ n → Cuts i bs (cut_from n i bs)
unfolding cut_from
cuts n i [] h = subst (λ (ps : List Piece). Cuts i [] ps) (sym (cut_none n i)) Cuts.none_left
cuts zero i (k ∷ bs) h = absurd (omega arith)
cuts (suc n) i (k ∷ bs) h =
    let s = size_pos k in
    let l = length-drop (size_of k) (k ∷ bs) in
    let some : 0 < length (k ∷ bs) = omega arith in
    ⊎_elim
    (λ q. rw (take_all (size_of k) (k ∷ bs) (omega arith), drop_all (size_of k) (k ∷ bs) (omega arith), cut_none n (i + size_of k)) (Cuts.cut_short some q))
    (λ q. Cuts.whole_record some q (cuts n (i + size_of k) (drop (size_of k) (k ∷ bs)) (omega arith)))
    (cases_lt (length (k ∷ bs)) (size_of k))

alone : (n i : ℕ) (bs : List ℕ) (ps : List Piece) → length bs ≤ n → Cuts i bs ps → ps ≡ cut_from n i bs
alone n i bs ps h (Cuts.none_left) = sym (cut_none n i)
alone n i bs ps h (Cuts.whole_record some fits rest) =
    let l = length-drop (first_size bs) bs in
    sym (cut_step n i bs some h ∙ ap (λ (qs : List Piece). piece i (take (first_size bs) bs) ∷ qs) (sym (alone (length bs - first_size bs) (i + first_size bs) (drop (first_size bs) bs) _ (omega arith) rest)))
alone n i bs ps h (Cuts.cut_short some lacks) =
    let st = cut_step n i bs some h in
    let t : take (first_size bs) bs ≡ bs = take_all (first_size bs) bs (omega arith) in
    let d : drop (first_size bs) bs ≡ [] = drop_all (first_size bs) bs (omega arith) in
    let e = cut_none (length bs - first_size bs) (i + first_size bs) in
    sym (cc)

pub cut_by_kind : (bs : List ℕ) → CutByKind bs (cut bs)
cut_by_kind bs = record { holds = cuts (length bs) 0 bs (omega arith); alone = λ ps c. alone (length bs) 0 bs ps (omega arith) c }

-- nothing is lost
pub cut_joined : (n i : ℕ) (bs : List ℕ) → length bs ≤ n → flat_map bytes_of (cut_from n i bs) ≡ bs
unfolding cut_from
cut_joined n i [] h = rw (cut_none n i)
cut_joined zero i (k ∷ bs) h = absurd (omega arith)
cut_joined (suc n) i (k ∷ bs) h =
    let s = size_pos k in
    let l = length-drop (size_of k) (k ∷ bs) in
    ap (λ (r : List ℕ). take (size_of k) (k ∷ bs) ++ r) (cut_joined n (i + size_of k) (drop (size_of k) (k ∷ bs)) (omega arith))
    ∙ take-append-drop (size_of k) (k ∷ bs)

-- # The first fault

later : {c d : Content} {ps : List Piece} (p : Piece) (k : Keyed) → entering p.bytes c ≡ Ok d → FirstFault d ps k → FirstFault c (p ∷ ps) k
later p k e (FirstFault.no_fault a) = FirstFault.no_fault (Accepts.one_more e a)
later p k e (FirstFault.fault_at before after q f s a r) = FirstFault.fault_at (p ∷ before) after q f (ap (λ (qs : List Piece). p ∷ qs) s) (Accepts.one_more e a) r

by_answer : (c : Content) (p : Piece) (ps : List Piece) → ((d : Content) → FirstFault d ps (keyed_records d ps))
    → (v : Result Content SheetFault) → entering p.bytes c ≡ v → FirstFault c (p ∷ ps) (after p.at c v (λ d. keyed_records d ps))
by_answer c p ps rest (Ok d) e = later p _ e (rest d)
by_answer c p ps rest (Err f) e = FirstFault.fault_at [] ps p f refl Accepts.none_given e

first_fault_lem : (c : Content) (ps : List Piece) → FirstFault c ps (keyed_records c ps)
unfolding keyed_records
first_fault_lem c [] = FirstFault.no_fault Accepts.none_given
first_fault_lem c (p ∷ ps) = by_answer c p ps (λ d. first_fault_lem d ps) (entering p.bytes c) refl

accepts_front : {c d : Content} {ps : List Piece} → Accepts c ps d → (qs : List Piece) → keyed_records c (ps ++ qs) ≡ keyed_records d qs
unfolding keyed_records
accepts_front (Accepts.none_given) qs = refl
accepts_front (Accepts.one_more e a) qs = rw e (accepts_front a qs)

refused_next : (d : Content) (p : Piece) (ps : List Piece) (f : SheetFault) → entering p.bytes d ≡ Err f → keyed_records d (p ∷ ps) ≡ keeps d (Some (refused_at p.at f))
unfolding keyed_records
refused_next d p ps f e = rw e

end_of : (d : Content) → keyed_records d [] ≡ keeps d None
unfolding keyed_records
end_of d = refl

no_other : (c : Content) (ps : List Piece) (k : Keyed) → FirstFault c ps k → k ≡ keyed_records c ps
no_other c ps k (FirstFault.no_fault {d} a) = sym (ap (keyed_records c) (sym (append-nil ps)) ∙ accepts_front a [] ∙ end_of d)
no_other c ps k (FirstFault.fault_at {d} before after p f s a r) = sym (ap (keyed_records c) s ∙ accepts_front a (p ∷ after) ∙ refused_next d p after f r)

pub keyed_by_rule : (c : Content) (ps : List Piece) → KeyedByRule c ps (keyed_records c ps)
keyed_by_rule c ps = record { holds = first_fault_lem c ps; alone = no_other c ps }
