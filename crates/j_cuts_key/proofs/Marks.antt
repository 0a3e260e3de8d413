-- Numbers that mark frets.
use Rattle.std.proofs.Common.{◌≡◌, ◌<◌, ◌≤◌, ◌+◌, ◌*◌, ℕ, ℤ, pos, negsuc, Bool, true, false, List, [], ◌∷◌, ◌++◌, length, map, replicate, get_or, arith, refl, sym, ap, ◌∙◌, Result, Ok, Err, IfOk}
use Prim.Native.Nat.{zero, suc}
use Rattle.std.proofs.lemmas.List.{length-map}
use Rattle.j_definitions.specs.Array.{Atom, number, byte, boxed, Array, product}
use Rattle.j_definitions.specs.Cells.{in_order, with_first}
use Rattle.j_definitions.specs.declared.Fault.{Fault}
use Rattle.j_definitions.specs.declared.Fault.TheVariants.{Domain}
use Rattle.std.specs.declared.alloc.Global.{Global}
use Rattle.std.specs.declared.vec.Vec.{Vec}
use Rattle.j_noun.specs.declared.refusal.Refusal.{Refusal}
use Rattle.j_noun.specs.Refused.{OrWantingAs}
use Rattle.j_cuts_key.specs.Cuts.{mark_in}

pub mark_none : (z : ℤ) → z ≡ pos 0 → mark_in (number z) ≡ Ok false
mark_none z e = ap (λ w. mark_in (number w)) e

pub mark_one : (z : ℤ) → z ≡ pos 1 → mark_in (number z) ≡ Ok true
mark_one z e = ap (λ w. mark_in (number w)) e

pub mark_other : (z : ℤ) → (z ≡ pos 0 → ⊥) → (z ≡ pos 1 → ⊥) → mark_in (number z) ≡ Err Domain
mark_other (pos zero) h g = absurd (h refl)
mark_other (pos (suc zero)) h g = absurd (g refl)
mark_other (pos (suc (suc n))) h g = refl
mark_other (negsuc n) h g = refl

-- as many values as results
more_many : {C E : Type 0} (z : C) (rest : List (Result C E)) (r : Result (List C) E) (vs : List C) → in_order rest ≡ r → ((ws : List C) → r ≡ Ok ws → length ws ≡ length rest) → with_first z r ≡ Ok vs → length vs ≡ suc (length rest)
more_many z rest (Ok ws) vs is h e = let same : z ∷ ws ≡ vs = cc in ap length (sym same) ∙ ap suc (h ws refl)
more_many z rest (Err x) vs is h e = cc

in_order_many : {C E : Type 0} (rs : List (Result C E)) (vs : List C) → in_order rs ≡ Ok vs → length vs ≡ length rs
in_order_many [] vs e = let none : [] ≡ vs = cc in ap length (sym none)
in_order_many (Err x ∷ rest) vs e = cc
in_order_many (Ok z ∷ rest) vs e = more_many z rest (in_order rest) vs refl (in_order_many rest) e

pub marks_many : (xs : List Atom) (bs : List Bool) → in_order (map mark_in xs) ≡ Ok bs → length bs ≡ length xs
marks_many xs bs e = in_order_many (map mark_in xs) bs e ∙ length-map xs mark_in

-- as many marks as a noun has atoms, where they are answered
pub marks_as_many : (r : Result (Vec Bool Global) Refusal) (xs ys : List Atom) (n : ℕ) → xs ≡ ys → length ys ≡ n → OrWantingAs (λ (v : Vec Bool Global). v.items) (in_order (map mark_in xs)) r → IfOk r (λ v. length v.items ≡ n)
marks_as_many (Ok v) xs ys n e many h = marks_many xs v.items h ∙ ap length e ∙ many
marks_as_many (Err x) xs ys n e many h = tt

-- characters and boxes are no marks
pub bytes_refused : (bs : List ℕ) → 0 < length bs → in_order (map mark_in (map byte bs)) ≡ Err Domain
bytes_refused [] h = absurd (omega arith)
bytes_refused (b ∷ bs) h = refl

pub boxes_refused : (ys : List Array) → 0 < length ys → in_order (map mark_in (map boxed ys)) ≡ Err Domain
boxes_refused [] h = absurd (omega arith)
boxes_refused (y ∷ ys) h = refl
