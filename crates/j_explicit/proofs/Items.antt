-- The words of a line, as they are read: what was read so far, before what is left.
use Rattle.std.proofs.Common.{◌≡◌, ℕ, ◌+◌, ◌<◌, ◌≤◌, Bool, List, [], ◌∷◌, ◌++◌, length, map, drop, get_or, Result, Ok, Err, refl, sym, ap, ◌∙◌, subst}
use Rattle.std.proofs.lemmas.List.{append_assoc, append-nil, drop_more, drop_all, map-append}
use Rattle.std.specs.List.{All}
use Rattle.j_definitions.specs.Cells.{with_first}
use Rattle.j_definitions.specs.declared.Fault.{Fault}
use Rattle.j_words.specs.Lines.{IsWithin}
use Rattle.j_words.specs.declared.Word.{Word}
use Rattle.j_entity.specs.Tree.{WordTree}
use Rattle.j_entity.specs.View.{word_of, takes_ranks}
use Rattle.j_entity.specs.declared.entity.Item.{Item}
use Rattle.j_explicit.specs.Reading.{item_of, read_on, items_of}

-- the words xs before those of r
abbrev pub after : List WordTree → Result (List WordTree) Fault → Result (List WordTree) Fault
after xs (Ok ys) = Ok (xs ++ ys)
after xs (Err e) = Err e

pub after_none : (r : Result (List WordTree) Fault) → after [] r ≡ r
after_none (Ok ys) = refl
after_none (Err e) = refl

after_first : (xs : List WordTree) (x : WordTree) (r : Result (List WordTree) Fault) → after xs (with_first x r) ≡ after (xs ++ x ∷ []) r
after_first xs x (Ok ys) = ap Ok (sym (append_assoc xs (x ∷ []) ys))
after_first xs x (Err e) = refl

module _ (line : List ℕ) (ranks : Bool) (ws : List Word) (i : ℕ) where
  next : (w : Word) → i < length ws → w ≡ get_or ws i w → items_of line ranks (drop i ws) ≡ read_on (item_of line ranks w) (λ x. items_of line (takes_ranks x) (drop (i + 1) ws))
  next w l e = ap (items_of line ranks) (drop_more ws i w l ∙ ap (λ v. v ∷ drop (i + 1) ws) (sym e))

  pub items_more : (xs : List Item) (x : Item) (w : Word) → i < length ws → w ≡ get_or ws i w → item_of line ranks w ≡ Ok (word_of x)
      → after (map word_of xs) (items_of line ranks (drop i ws)) ≡ after (map word_of (xs ++ x ∷ [])) (items_of line (takes_ranks (word_of x)) (drop (i + 1) ws))
  items_more xs x w l e h =
      ap (after (map word_of xs)) (next w l e ∙ ap (λ r. read_on r (λ y. items_of line (takes_ranks y) (drop (i + 1) ws))) h)
      ∙ after_first (map word_of xs) (word_of x) (items_of line (takes_ranks (word_of x)) (drop (i + 1) ws))
      ∙ ap (λ ys. after ys (items_of line (takes_ranks (word_of x)) (drop (i + 1) ws))) (sym (map-append word_of xs (x ∷ [])))

  pub items_fault : (xs : List Item) (f : Fault) (w : Word) → i < length ws → w ≡ get_or ws i w → item_of line ranks w ≡ Err f → after (map word_of xs) (items_of line ranks (drop i ws)) ≡ Err f
  items_fault xs f w l e h = ap (after (map word_of xs)) (next w l e ∙ ap (λ r. read_on r (λ y. items_of line (takes_ranks y) (drop (i + 1) ws))) h)

  pub items_end : (xs : List Item) → length ws ≤ i → after (map word_of xs) (items_of line ranks (drop i ws)) ≡ Ok (map word_of xs)
  items_end xs l = ap (λ vs. after (map word_of xs) (items_of line ranks vs)) (drop_all i ws l) ∙ ap Ok (append-nil (map word_of xs))

-- each word lies within the line
pub word_within : (n : ℕ) (ws : List Word) (i : ℕ) (w : Word) → All (IsWithin n) ws → i < length ws → w ≡ get_or ws i w → IsWithin n w
word_within n ws i w h l e = subst (IsWithin n) (sym e) (h i w l)
