-- Lemmas on buffers of results.
use Rattle.std.proofs.Common.{◌≡◌, ◌≢◌, ◌<◌, ◌≤◌, ◌+◌, ◌-◌, ◌/◌, ◌*◌, ◌^◌, ℕ, pos, List, [], ◌∷◌, ◌++◌, take, drop, length, map, get_or, set, arith, sym, ◌∙◌, refl, ap, subst, Result, Ok, Err, inl, inr, below_more, get_or-set_other, get_or-set_same}
use Prim.Native.Nat.{zero, suc}
use Rattle.std.specs.List.{range_with_len, All}
use Rattle.std.specs.Int.RustNames.{bit_or}
use Rattle.std.proofs.lemmas.Bool.{cases_eq, cases_lt}
use Rattle.std.proofs.lemmas.List.{get_or_default, get_or-map, get_or_append_left, get_or-append-add, length-map, drop_all, take_all, append-nil, take-append-le, length-drop, take-append-drop}
use Rattle.std.proofs.lemmas.List.FromFn.{fill_by_all}
use Rattle.std.proofs.lemmas.Nat.{le_or_l, le_or_r, div_below, div-mul-add, row_fits}
use Rattle.j_definitions.specs.Array.{Atom, number}
use Rattle.j_definitions.specs.Cells.{in_order}
use Rattle.j_definitions.specs.Cells.{atom_at}
use Rattle.j_definitions.specs.declared.Fault.{Fault}
use Rattle.j_definitions.specs.declared.Kind.TheVariants.{Number}
use Rattle.j_noun.specs.declared.noun.Atoms.{Atoms}
use Rattle.j_noun.specs.Held.{atoms_kept, kind_kept, AreBits, AreAtoms}
use Rattle.j_loops.specs.Results.{IsGiven, AreResults, outcome}

-- the result at k is written
pub results_more : {X Y Z : Type 0} (u : X → Atom) (v : Y → Atom) (g : Z → Atom) (P : Z → Type 0) (f : Atom → Atom → Result Atom Fault)
    (l r : ℕ) (xs : List X) (ys : List Y) (zs : List Z) (k i j : ℕ) (x : X) (y : Y) (z : Z) → i ≡ k / l → j ≡ k / r →
    i < length xs → j < length ys → k < length zs → x ≡ get_or xs i x → y ≡ get_or ys j y → IsGiven g P (f (u x) (v y)) z →
    AreResults u v g P f l r xs ys zs k → AreResults u v g P f l r xs ys (set zs k z) (k + 1)
results_more u v g P f l r xs ys zs k i j x y z il jr hi hj hk ex ey given before =
    let Q : ℕ → Type 0 = λ n. (a : _) (b : _) (c : _) → IsGiven g P (f (u (get_or xs (n / l) a)) (v (get_or ys (n / r) b))) (get_or (set zs k z) n c) in
    let below : (n : ℕ) → n < k → Q n = λ n h a b c.
    let ne : n ≢ k = omega arith in rw get_or-set_other (before.each n a b c h) in
    let here : Q k = λ a b c.
    rw (← il, ← jr, get_or_default xs i a x hi, get_or_default ys j b y hj, ← ex, ← ey, get_or-set_same zs k z c hk) given in
    let all = below_more Q k below here in
    record { each = λ n a b c h. all n h a b c }

-- no top bit in two masks together
pub both_low : (a b : ℕ) → bit_or a b < 2 ^ 63 → (a < 2 ^ 63) × (b < 2 ^ 63)
both_low a b h = (omega (arith, le_or_l a b), omega (arith, le_or_r a b))

-- all of them in order
pub in_order-Ok : {C E : Type 0} (F : ℕ → Result C E) (G : ℕ → C) (s n : ℕ) → ((k : ℕ) → s ≤ k → k < s + n → F k ≡ Ok (G k)) →
    in_order (map F (range_with_len s n)) ≡ Ok (map G (range_with_len s n))
in_order-Ok F G s zero h = refl
in_order-Ok F G s (suc n) h =
    let rest = in_order-Ok F G (s + 1) n (λ k a b. h k (omega arith) (omega arith)) in
    rw (h s (omega arith) (omega arith), rest) refl

-- the first fault
pub in_order-Err : {C E : Type 0} (F : ℕ → Result C E) (G : ℕ → C) (s n k : ℕ) (e : E) → s ≤ k → k < s + n → ((j : ℕ) → s ≤ j → j < k → F j ≡ Ok (G j)) →
    F k ≡ Err e → in_order (map F (range_with_len s n)) ≡ Err e
in_order-Err F G s zero k e a b h f = absurd (omega arith)
in_order-Err F G s (suc n) k e a b h f = elim (cases_eq s k) [
  | inl same ↦ rw (same, f) refl
  | inr ne ↦
      let rest = in_order-Err F G (s + 1) n k e (omega arith) (omega arith) (λ j p q. h j (omega arith) q) f in
      rw (h s (omega arith) (omega arith), rest) refl
]

-- the row of a place
pub row_of : (i m k lo : ℕ) → lo ≡ i * m → lo ≤ k → k < lo + m → i ≡ k / m
row_of i m k lo e h g =
    let b : k ≡ i * m + (k - lo) = omega arith in
    sym (ap (λ n. n / m) b ∙ div-mul-add i m (k - lo) (omega arith))

pub row_within : (len l n k : ℕ) → len * l ≡ n → k < n → k / l < len
row_within len zero n k e h = absurd (omega arith)
row_within len (suc l) n k e h = div_below k (suc l) len (omega arith) (omega arith)

some_of : {X : Type 0} (xs : List X) (i : ℕ) → i < length xs → X
some_of [] i h = absurd (omega arith)
some_of (x ∷ xs) i h = x

-- what a pair of atoms gives
pub atoms_give : {X Y Z : Type 0} (u : X → Atom) (v : Y → Atom) (g : Z → Atom) (P : Z → Type 0) (f : Atom → Atom → Result Atom Fault)
    (l r : ℕ) (xs : List X) (ys : List Y) (zs : List Z) (n k : ℕ) → k < n → k / l < length xs → k / r < length ys → k < length zs →
    AreResults u v g P f l r xs ys zs n → f (atom_at (map u xs) (k / l)) (atom_at (map v ys) (k / r)) ≡ Ok (atom_at (map g zs) k)
atoms_give u v g P f l r xs ys zs n k h hx hy hz are =
    let a = some_of xs (k / l) hx in
    let b = some_of ys (k / r) hy in
    let c = some_of zs k hz in
    rw (get_or-map u xs (k / l) a (number (pos 0)) hx, get_or-map v ys (k / r) b (number (pos 0)) hy, get_or-map g zs k c (number (pos 0)) hz)
    (are.each k a b c h).result

-- all pairs have results
pub outcome-Ok : {X Y Z : Type 0} (u : X → Atom) (v : Y → Atom) (g : Z → Atom) (P : Z → Type 0) (f : Atom → Atom → Result Atom Fault)
    (l r : ℕ) (xs : List X) (ys : List Y) (zs : List Z) → length xs * l ≡ length zs → length ys * r ≡ length zs →
    AreResults u v g P f l r xs ys zs (length zs) → outcome f l r (map u xs) (map v ys) (length zs) ≡ Ok (map g zs)
outcome-Ok u v g P f l r xs ys zs ex ey are =
    in_order-Ok (λ k. f (atom_at (map u xs) (k / l)) (atom_at (map v ys) (k / r))) (atom_at (map g zs)) 0 (length zs)
    (λ k _ h. atoms_give u v g P f l r xs ys zs (length zs) k (omega arith) (row_within (length xs) l (length zs) k ex (omega arith)) (row_within (length ys) r (length zs) k ey (omega arith)) (omega arith) are)
    ∙ ap Ok (sym (fill_by_all (atom_at (map g zs)) (map g zs) (length zs) (number (pos 0)) (length-map zs g) (λ k h. refl)))

-- the first pair without a result
pub outcome-Err : {X Y Z : Type 0} (u : X → Atom) (v : Y → Atom) (g : Z → Atom) (P : Z → Type 0) (f : Atom → Atom → Result Atom Fault)
    (l r : ℕ) (xs : List X) (ys : List Y) (zs : List Z) (k : ℕ) (x : X) (y : Y) (e : Fault) → k < length zs → length xs * l ≡ length zs → length ys * r ≡ length zs →
    x ≡ get_or xs (k / l) x → y ≡ get_or ys (k / r) y → f (u x) (v y) ≡ Err e → AreResults u v g P f l r xs ys zs k →
    outcome f l r (map u xs) (map v ys) (length zs) ≡ Err e
outcome-Err u v g P f l r xs ys zs k x y e h ex ey isx isy fails are =
    let hx = row_within (length xs) l (length zs) k ex h in
    let hy = row_within (length ys) r (length zs) k ey h in
    let at : f (atom_at (map u xs) (k / l)) (atom_at (map v ys) (k / r)) ≡ Err e =
    rw (get_or-map u xs (k / l) x (number (pos 0)) hx, get_or-map v ys (k / r) y (number (pos 0)) hy, ← isx, ← isy) fails in
    in_order-Err (λ j. f (atom_at (map u xs) (j / l)) (atom_at (map v ys) (j / r))) (atom_at (map g zs)) 0 (length zs) k e (omega arith) (omega arith)
    (λ j _ q. atoms_give u v g P f l r xs ys zs k j q (row_within (length xs) l (length zs) j ex (omega arith)) (row_within (length ys) r (length zs) j ey (omega arith)) (omega arith) are)
    at

-- a place in row i of len rows
pub place_within : (i len m lo k n : ℕ) → lo ≡ i * m → i < len → len * m ≡ n → k < lo + m → k < n
place_within i len m lo k n e h f g = omega (arith, row_fits i m len m h (omega arith))

pub rows_end : (i len m lo n : ℕ) → lo ≡ i * m → i ≡ len → len * m ≡ n → lo ≡ n
rows_end i len m lo n e h f = e ∙ ap (λ j. j * m) h ∙ f

pub results_at : {X Y Z : Type 0} (u : X → Atom) (v : Y → Atom) (g : Z → Atom) (P : Z → Type 0) (f : Atom → Atom → Result Atom Fault)
    (l r : ℕ) (xs : List X) (ys : List Y) (zs : List Z) (k n : ℕ) → k ≡ n → AreResults u v g P f l r xs ys zs k → AreResults u v g P f l r xs ys zs n
results_at u v g P f l r xs ys zs k n e are = subst (λ (q : ℕ). AreResults u v g P f l r xs ys zs q) e are

pub all_kept : {X Y Z : Type 0} (u : X → Atom) (v : Y → Atom) (g : Z → Atom) (P : Z → Type 0) (f : Atom → Atom → Result Atom Fault)
    (l r : ℕ) (xs : List X) (ys : List Y) (zs : List Z) → length xs * l ≡ length zs → length ys * r ≡ length zs →
    AreResults u v g P f l r xs ys zs (length zs) → All P zs
all_kept u v g P f l r xs ys zs ex ey are k d h =
    let a = some_of xs (k / l) (row_within (length xs) l (length zs) k ex h) in
    let b = some_of ys (k / r) (row_within (length ys) r (length zs) k ey h) in
    (are.each k a b d h).kept

-- a buffer that was written whole
pub written : {Z : Type 0} (len : ℕ) (new old : List Z) → length new ≡ len → length old ≡ len → take len (new ++ drop (length new) old) ≡ new
written len new old h e = rw (drop_all (length new) old (omega arith), append-nil new) (take_all len new (omega arith))

pub filled : {X Y Z : Type 0} (u : X → Atom) (v : Y → Atom) (g : Z → Atom) (P : Z → Type 0) (f : Atom → Atom → Result Atom Fault)
    (l r : ℕ) (xs : List X) (ys : List Y) (n len : ℕ) (new old : List Z) (a : Atoms) → length xs * l ≡ n → length ys * r ≡ n → length new ≡ n → length old ≡ n → len ≡ n →
    AreResults u v g P f l r xs ys new (length new) → AreAtoms a Number (map g (take len (new ++ drop (length new) old))) →
    (outcome f l r (map u xs) (map v ys) n ≡ Ok (atoms_kept a)) × (kind_kept a ≡ Number) × AreBits a
filled u v g P f l r xs ys n len new old a ex ey en eo el are atoms =
    let w = written len new old (en ∙ sym el) (eo ∙ sym el) in
    let o = outcome-Ok u v g P f l r xs ys new (ex ∙ sym en) (ey ∙ sym en) are in
    ((rw (← en) (o ∙ ap Ok (ap (map g) (sym w) ∙ sym atoms.atoms))), atoms.kind, atoms.bits)

-- a block of results is appended, which were made of the parts a and b of xs and ys
block_more : {X Y Z : Type 0} (u : X → Atom) (v : Y → Atom) (g : Z → Atom) (P : Z → Type 0) (f : Atom → Atom → Result Atom Fault)
    (left right l r : ℕ) (xs : List X) (ys : List Y) (zs : List Z) (a : List X) (b : List Y) (c : List Z) (start len : ℕ) → length zs ≡ start → length c ≡ len →
    ((k : ℕ) (d : X) → k < len → get_or a (k / l) d ≡ get_or xs ((start + k) / left) d) → ((k : ℕ) (d : Y) → k < len → get_or b (k / r) d ≡ get_or ys ((start + k) / right) d) →
    AreResults u v g P f l r a b c len → AreResults u v g P f left right xs ys zs start → AreResults u v g P f left right xs ys (zs ++ c) (start + len)
block_more u v g P f left right l r xs ys zs a b c start len ez ec ea eb block before =
    let Q : ℕ → Type 0 = λ j. (x : _) (y : _) (z : _) → IsGiven g P (f (u (get_or xs (j / left) x)) (v (get_or ys (j / right) y))) (get_or (zs ++ c) j z) in
    let early : (j : ℕ) → j < start → Q j = λ j h x y z. rw (get_or_append_left zs c z j (omega arith)) (before.each j x y z h) in
    let late : (k : ℕ) → k < len → Q (start + k) = λ k h x y z.
    rw (← ea k x h, ← eb k y h, ← ez, get_or-append-add zs c k z) (block.each k x y z h) in
    record {
      each = λ j x y z h. elim (cases_lt j start) [
        | inl below ↦ early j below x y z
        | inr above ↦ let at : start + (j - start) ≡ j = omega arith in subst Q at (late (j - start) (omega arith)) x y z
      ];
    }

pub block_appended : {X Y Z : Type 0} (u : X → Atom) (v : Y → Atom) (g : Z → Atom) (P : Z → Type 0) (f : Atom → Atom → Result Atom Fault)
    (left right l r : ℕ) (xs : List X) (ys : List Y) (zs : List Z) (a : List X) (b : List Y) (c zs' : List Z) (start len n : ℕ) → zs' ≡ zs ++ c → n ≡ start + len → length zs ≡ start → length c ≡ len →
    ((k : ℕ) (d : X) → k < len → get_or a (k / l) d ≡ get_or xs ((start + k) / left) d) → ((k : ℕ) (d : Y) → k < len → get_or b (k / r) d ≡ get_or ys ((start + k) / right) d) →
    AreResults u v g P f l r a b c len → AreResults u v g P f left right xs ys zs start → AreResults u v g P f left right xs ys zs' n
block_appended u v g P f left right l r xs ys zs a b c zs' start len n e en ez ec ea eb block before =
    rw (e, en) (block_more u v g P f left right l r xs ys zs a b c start len ez ec ea eb block before)

-- what is kept of all results
pub all_given : {X Y Z : Type 0} (u : X → Atom) (v : Y → Atom) (g : Z → Atom) (P : Z → Type 0) (f : Atom → Atom → Result Atom Fault)
    (left right : ℕ) (xs : List X) (ys : List Y) (zs : List Z) (n : ℕ) (a : Atoms) → length xs * left ≡ n → length ys * right ≡ n → length zs ≡ n →
    AreResults u v g P f left right xs ys zs n → AreAtoms a Number (map g zs) →
    (outcome f left right (map u xs) (map v ys) n ≡ Ok (atoms_kept a)) × (kind_kept a ≡ Number) × AreBits a
all_given u v g P f left right xs ys zs n a ex ey ez are atoms =
    let o = outcome-Ok u v g P f left right xs ys zs (ex ∙ sym ez) (ey ∙ sym ez) (results_at u v g P f left right xs ys zs n (length zs) (sym ez) are) in
    ((rw (← ez) (o ∙ ap Ok (sym atoms.atoms))), atoms.kind, atoms.bits)

pub all_kept_of : {X Y Z : Type 0} (u : X → Atom) (v : Y → Atom) (g : Z → Atom) (P : Z → Type 0) (f : Atom → Atom → Result Atom Fault)
    (l r : ℕ) (xs : List X) (ys : List Y) (zs : List Z) (n : ℕ) → length xs * l ≡ n → length ys * r ≡ n → length zs ≡ n →
    AreResults u v g P f l r xs ys zs n → All P zs
all_kept_of u v g P f l r xs ys zs n ex ey ez are =
    all_kept u v g P f l r xs ys zs (ex ∙ sym ez) (ey ∙ sym ez) (results_at u v g P f l r xs ys zs n (length zs) (sym ez) are)

-- the end of a slice was written
slice_end : {Z : Type 0} (zs old new rep : List Z) (start end len : ℕ) → old ≡ take end zs ++ rep → length zs ≡ start → start ≤ end → length new ≡ end → length old ≡ end → len ≡ end →
    take start new ≡ take start old → take len (new ++ drop (length new) old) ≡ zs ++ drop start new
slice_end zs old new rep start end len eo ez le en el e front =
    let whole : take end zs ≡ zs = take_all end zs (omega arith) in
    let before : take start old ≡ zs =
    ap (take start) (eo ∙ ap (λ q. q ++ rep) whole) ∙ take-append-le start zs rep (omega arith) ∙ take_all start zs (omega arith) in
    written len new old (en ∙ sym e) (el ∙ sym e) ∙ sym (take-append-drop start new) ∙ ap (λ q. q ++ drop start new) (front ∙ before)

pub slice_appended : {X Y Z : Type 0} (u : X → Atom) (v : Y → Atom) (g : Z → Atom) (P : Z → Type 0) (f : Atom → Atom → Result Atom Fault)
    (left right l r : ℕ) (xs : List X) (ys : List Y) (zs : List Z) (a : List X) (b : List Y) (old new rep : List Z) (start end len : ℕ) →
    old ≡ take end zs ++ rep → length zs ≡ start → start ≤ end → length new ≡ end → length old ≡ end → len ≡ end → take start new ≡ take start old →
    ((k : ℕ) (d : X) → k < end - start → get_or a (k / l) d ≡ get_or xs ((start + k) / left) d) → ((k : ℕ) (d : Y) → k < end - start → get_or b (k / r) d ≡ get_or ys ((start + k) / right) d) →
    AreResults u v g P f l r a b (drop start new) (length new - start) → AreResults u v g P f left right xs ys zs start →
    AreResults u v g P f left right xs ys (take len (new ++ drop (length new) old)) end
slice_appended u v g P f left right l r xs ys zs a b old new rep start end len eo ez le en el e front ea eb block before =
    let n : length new - start ≡ end - start = omega arith in
    let many : length (drop start new) ≡ end - start = omega (arith, length-drop start new) in
    let m : end ≡ start + (end - start) = omega arith in
    block_appended u v g P f left right l r xs ys zs a b (drop start new) (take len (new ++ drop (length new) old)) start (end - start) end
    (slice_end zs old new rep start end len eo ez le en el e front) m ez many ea eb
    (results_at u v g P f l r a b (drop start new) (length new - start) (end - start) n block) before
