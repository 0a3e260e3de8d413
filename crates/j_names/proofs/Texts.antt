-- The texts of nouns that name a locale.
use Rattle.std.proofs.Common.{◌≡◌, ℕ, ◌≤◌, cond, true, List, [], ◌∷◌, length, map, Some, None, refl, sym, ap, ◌∙◌, get_or, arith}
use Rattle.j_definitions.specs.Array.{Array, Atom, byte, boxed}
use Rattle.j_definitions.specs.declared.Kind.{Kind}
use Rattle.j_definitions.specs.declared.Kind.TheVariants.{Character, Boxed}
use Rattle.j_definitions.proofs.Laws.{opened-boxed}
use Rattle.j_names.specs.Locales.{bytes_in, is_text, locale_text, in_box, box_locale}

bytes_of_bytes : (bs : List ℕ) → bytes_in (map byte bs) ≡ bs
bytes_of_bytes [] = refl
bytes_of_bytes (b ∷ bs) = ap (λ (r : List ℕ). b ∷ r) (bytes_of_bytes bs)

short_text : (s : List ℕ) → length s ≤ 1 → is_text Character s ≡ true
short_text [] h = refl
short_text (n ∷ []) h = refl
short_text (n ∷ m ∷ s) h = absurd (omega arith)

text_held : (s : List ℕ) (bs : List ℕ) → length s ≤ 1 → Some bs ≡ cond (is_text Character s) (Some (bytes_in (map byte bs))) None
text_held s bs h = rw (short_text s h, bytes_of_bytes bs) refl

pub text_viewed : (k : Kind) (s : List ℕ) (xs : List Atom) (bs : List ℕ) → Character ≡ k → map byte bs ≡ xs → length s ≤ 1
    → Some bs ≡ cond (is_text k s) (Some (bytes_in xs)) None
text_viewed k s xs bs kind atoms h =
    text_held s bs h
    ∙ ap (λ (xs : List Atom). cond (is_text Character s) (Some (bytes_in xs)) None) atoms
    ∙ ap (λ (k : Kind). cond (is_text k s) (Some (bytes_in xs)) None) kind

-- one box and what it holds
one_box : (vs : List Array) (d : Array) → length vs ≡ 1 → d ≡ get_or vs 0 d → in_box (map boxed vs) ≡ locale_text d
one_box [] d h is = absurd (omega arith)
one_box (v ∷ []) d h is = ap locale_text (opened-boxed v ∙ sym is)
one_box (v ∷ w ∷ vs) d h is = absurd (omega arith)

no_axes : (s : List ℕ) → length s ≡ 0 → s ≡ []
no_axes [] h = refl
no_axes (n ∷ s) h = absurd (omega arith)

pub box_viewed : (k : Kind) (s : List ℕ) (xs : List Atom) (vs : List Array) (d : Array) → Boxed ≡ k → map boxed vs ≡ xs → length s ≡ 0 → length vs ≡ 1 → d ≡ get_or vs 0 d
    → locale_text d ≡ box_locale k s xs
box_viewed k s xs vs d kind atoms none one is =
    sym (one_box vs d one is)
    ∙ ap in_box atoms
    ∙ ap (λ (s : List ℕ). box_locale Boxed s xs) (sym (no_axes s none))
    ∙ ap (λ (k : Kind). box_locale k s xs) kind
