-- Lists of characters within the limits, and the texts of words so far.
use Rattle.std.proofs.Common.{◌≡◌, ℕ, ℤ, pos, ◌+◌, ◌<◌, ◌≤◌, List, [], ◌∷◌, ◌++◌, length, map, take, get_or, arith, refl, sym, ap, subst, ◌∙◌, Some, Err}
use Rattle.std.specs.List.{All}
use Rattle.std.proofs.lemmas.List.{take_more, map-append}
use Rattle.std.proofs.lemmas.List.Elements.{All-nil, All-cons}
use Rattle.j_definitions.specs.Array.{Array, Atom, number, byte, boxed, IsWithin}
use Rattle.j_definitions.specs.declared.Fault.TheVariants.{Domain}
use Rattle.j_definitions.proofs.Laws.{unit_weights, no_level}
use Rattle.j_words.specs.Lines.{IsWithin as IsWordWithin}
use Rattle.j_words.specs.declared.Word.{Word}
use Rattle.j_verbs.specs.WordForms.{with_byte, bytes_among, text_of, word_forms_of, word_forms}

-- a list of characters is within the limits
pub list_within : (bytes : List ℕ) → length bytes ≤ 4194304 → IsWithin (length bytes ∷ []) (map byte bytes)
list_within bytes few = record {
  rank = omega arith;
  axes = All-cons (λ n. n ≤ 4194304) (length bytes) [] few (All-nil (λ n. n ≤ 4194304));
  light = omega (arith, unit_weights byte (λ _. refl) bytes);
  shallow = omega (arith, no_level byte (λ _. refl) bytes);
}

-- the bytes of characters are known
pub bytes_known : (bytes : List ℕ) → bytes_among (map byte bytes) ≡ Some bytes
bytes_known [] = refl
bytes_known (b ∷ bytes) = ap (with_byte b) (bytes_known bytes)

pub bytes_are : (atoms : List Atom) (bytes : List ℕ) → map byte bytes ≡ atoms → bytes_among atoms ≡ Some bytes
bytes_are atoms bytes is = ap bytes_among (sym is) ∙ bytes_known bytes

-- other atoms are no characters
pub numbers_refused : (y : Array) (zs : List ℤ) → 0 < length zs → map number zs ≡ y.atoms → word_forms y ≡ Err Domain
numbers_refused y [] some is = absurd (omega arith)
numbers_refused y (z ∷ zs) some is = ap (λ (xs : List Atom). word_forms_of (bytes_among xs)) (sym is)

pub bits_refused : (y : Array) (bits : List ℕ) → 0 < length bits → map (λ b. number (pos b)) bits ≡ y.atoms → word_forms y ≡ Err Domain
bits_refused y [] some is = absurd (omega arith)
bits_refused y (b ∷ bits) some is = ap (λ (xs : List Atom). word_forms_of (bytes_among xs)) (sym is)

pub boxes_refused : (y : Array) (nouns : List Array) → 0 < length nouns → map boxed nouns ≡ y.atoms → word_forms y ≡ Err Domain
boxes_refused y [] some is = absurd (omega arith)
boxes_refused y (a ∷ nouns) some is = ap (λ (xs : List Atom). word_forms_of (bytes_among xs)) (sym is)

-- a text more
pub text_more : (line : List ℕ) (words : List Word) (i : ℕ) (w : Word) (texts : List Array) (text : Array) → i < length words → w ≡ get_or words i w → text ≡ text_of line w →
    texts ≡ map (text_of line) (take i words) → texts ++ text ∷ [] ≡ map (text_of line) (take (i + 1) words)
text_more line words i w texts text h is e before =
    ap (λ (t : Array). texts ++ t ∷ []) (e ∙ ap (text_of line) is)
    ∙ ap (λ (ts : List Array). ts ++ text_of line (get_or words i w) ∷ []) before
    ∙ sym (ap (map (text_of line)) (take_more words i w h) ∙ map-append (text_of line) (take i words) (get_or words i w ∷ []))

-- each word lies within the line
pub word_within : (n : ℕ) (words : List Word) (i : ℕ) (w : Word) → All (IsWordWithin n) words → i < length words → w ≡ get_or words i w → IsWordWithin n w
word_within n words i w within h is = subst (IsWordWithin n) (sym is) (within i w h)
