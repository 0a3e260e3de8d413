-- What follows of the limits of nouns.
use Rattle.std.proofs.Common.{◌≡◌, ◌<◌, ◌≤◌, ℕ, Bool, true, false, ◌&&◌, nat_le, cond, List, [], ◌∷◌, length, arith, refl, ap, ◌∙◌, Result, Ok, Err}
use Rattle.std.specs.List.{sum_by, All, list_all}
use Rattle.std.proofs.lemmas.Bool.{leb-true, le-leb}
use Rattle.std.proofs.lemmas.List.Elements.{All-nil, All-cons, All-head, All-tail}
use Rattle.j_definitions.specs.Array.{Array, atom_weight, weight, level, IsWithin, IsNoun}
use Rattle.j_definitions.specs.declared.Fault.{Fault}
use Rattle.j_definitions.specs.declared.Fault.TheVariants.{Limit}
use Rattle.j_definitions.specs.Limits.{is_within, limited}
use Rattle.j_definitions.proofs.Laws.{length_le-weight}

all_true : (a b c d : Bool) → a ≡ true → b ≡ true → c ≡ true → d ≡ true → (a && b && c && d) ≡ true
all_true a b c d ea eb ec ed = rw (ea, eb, ec, ed) refl

pub true_left : (a b : Bool) → (a && b) ≡ true → a ≡ true
true_left true b h = refl
true_left false b h = cc

pub true_right : (a b : Bool) → (a && b) ≡ true → b ≡ true
true_right true b h = h
true_right false b h = cc

axes_true : (s : List ℕ) → All (λ n. n ≤ 4194304) s → list_all (λ n. nat_le n 4194304) s ≡ true
axes_true [] h = refl
axes_true (n ∷ s) h =
    ap (λ b. b && list_all (λ m. nat_le m 4194304) s) (le-leb n 4194304 (All-head (λ m. m ≤ 4194304) n s h)) ∙ axes_true s (All-tail (λ m. m ≤ 4194304) n s h)

true_axes : (s : List ℕ) → list_all (λ n. nat_le n 4194304) s ≡ true → All (λ n. n ≤ 4194304) s
true_axes [] h = All-nil (λ n. n ≤ 4194304)
true_axes (n ∷ s) h =
    All-cons (λ m. m ≤ 4194304) n s (leb-true n 4194304 (true_left (nat_le n 4194304) (list_all (λ m. nat_le m 4194304) s) h))
    (true_axes s (true_right (nat_le n 4194304) (list_all (λ m. nat_le m 4194304) s) h))

-- the limits hold where the test says so
pub within_true : (a : Array) → IsWithin a.shape a.atoms → is_within a ≡ true
within_true a h = all_true _ _ _ _ (le-leb (length a.shape) 32 h.rank) (axes_true a.shape h.axes) (le-leb (weight a) 4194304 h.light) (le-leb (level a) 64 h.shallow)

pub true_within : (a : Array) → is_within a ≡ true → IsWithin a.shape a.atoms
true_within a h =
    let rank : Bool = nat_le (length a.shape) 32 in
    let axes : Bool = list_all (λ n. nat_le n 4194304) a.shape in
    let light : Bool = nat_le (weight a) 4194304 in
    let shallow : Bool = nat_le (level a) 64 in
    let three = true_left (rank && axes && light) shallow h in
    let two = true_left (rank && axes) light three in
    record {
      rank = leb-true (length a.shape) 32 (true_left rank axes two);
      axes = true_axes a.shape (true_right rank axes two);
      light = leb-true (weight a) 4194304 (true_right (rank && axes) light three);
      shallow = leb-true (level a) 64 (true_right (rank && axes && light) shallow h);
    }

pub limited-Ok : (a : Array) → IsWithin a.shape a.atoms → limited a ≡ Ok a
limited-Ok a h = ap (λ b. let r : Result Array Fault = cond b (Ok a) (Err Limit) in r) (within_true a h)

beyond : (a : Array) (b : Bool) → is_within a ≡ b → (IsWithin a.shape a.atoms → ⊥) → (let r : Result Array Fault = cond b (Ok a) (Err Limit) in r) ≡ Err Limit
beyond a true e h = absurd (h (true_within a e))
beyond a false e h = refl

pub limited-Err : (a : Array) → (IsWithin a.shape a.atoms → ⊥) → limited a ≡ Err Limit
limited-Err a h = beyond a (is_within a) refl h

-- too many atoms
pub many_beyond : (a : Array) → 4194304 < length a.atoms → limited a ≡ Err Limit
many_beyond a many = limited-Err a (λ h. let light : sum_by atom_weight a.atoms ≤ 4194304 = h.light in omega (arith, length_le-weight a.atoms))

-- a noun has at most as many atoms as its weight
pub noun_few : (a : Array) → IsNoun a → length a.atoms ≤ 4194304
noun_few a noun = let light : sum_by atom_weight a.atoms ≤ 4194304 = noun.within.light in omega (arith, length_le-weight a.atoms)
