-- Characters and boxes say no cut.
use Rattle.std.proofs.Common.{◌≡◌, ◌≤◌, ℕ, ℤ, pos, Option, None, List, [], ◌∷◌, length, get_or, map, refl, arith}
use Rattle.j_definitions.specs.Array.{Array, number, byte, boxed}
use Rattle.j_search.specs.declared.cut.CutForm.{CutForm}
use Rattle.j_eval.specs.Pieces.{form_of, form_said}

pub no_byte_form : (bytes : List ℕ) → form_said (map byte bytes) ≡ None
no_byte_form [] = refl
no_byte_form (b ∷ bytes) = refl

pub no_box_form : (nouns : List Array) → form_said (map boxed nouns) ≡ None
no_box_form [] = refl
no_box_form (n ∷ nouns) = refl

-- the first of some numbers says which cut
pub first_says : (f : Option CutForm) (ns : List ℤ) → 1 ≤ length ns → f ≡ form_of (get_or ns 0 (pos 0)) → f ≡ form_said (map (λ n. number n) ns)
first_says f [] l e = absurd (omega arith)
first_says f (n ∷ ns) l e = e
