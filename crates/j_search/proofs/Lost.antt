-- Items that no cell matches.
use Rattle.std.proofs.Common.{◌≡◌, ◌<◌, ◌≤◌, ◌+◌, ◌*◌, ℕ, ℤ, pos, Bool, true, false, ◌&&◌, ◌||◌, ◌==◌, not, nat_eq, List, map, drop, arith, refl, sym, ap, ◌∙◌, subst}
use Prim.Native.Nat.{zero, suc}
use Rattle.std.specs.List.{All, filter, range_with_len, list_any}
use Rattle.std.specs.Cmp.Lexicographic.{pointwise, same_text}
use Rattle.j_definitions.specs.Array.{Array, product, tally, atom_match, arrays_match, IsNoun}
use Rattle.j_definitions.specs.Items.{part}
use Rattle.j_definitions.proofs.Limits.{noun_few}
use Rattle.j_rank.specs.Cells.{cell}
use Rattle.j_rank.proofs.Products.{product_parts}
use Rattle.j_search.specs.Matching.{places, item_of, frame_for, cells_for, cell_for, first_of, is_cell}
use Rattle.j_search.specs.Kept.{lost_places}
use Rattle.j_search.proofs.Picks.{All-kept, filter_same}
use Rattle.j_search.proofs.Keeping.{lost_places_of, none_passes, none_where}
use Rattle.j_search.proofs.Nouns.{own_cell, cells_match}

-- an item is lost where no cell matches it
pub lost_less : (x y : Array) (zs : List ℤ) (ks : List ℕ) (m : ℕ) → zs ≡ map (λ j. pos (first_of (λ k. arrays_match (cell_for x y k) (item_of x j)) (cells_for x y))) (places (tally x.shape)) → m ≡ cells_for x y →
    ks ≡ lost_places m zs → ks ≡ filter (λ j. not (is_cell x y j)) (places (tally x.shape))
lost_less x y zs ks m ez em ek =
    ek ∙ ap (λ i. lost_places i zs) em ∙ lost_places_of (λ j. first_of (λ k. arrays_match (cell_for x y k) (item_of x j)) (cells_for x y)) (tally x.shape) (cells_for x y) zs ez
    ∙ filter_same (λ j. nat_eq (first_of (λ k. arrays_match (cell_for x y k) (item_of x j)) (cells_for x y)) (cells_for x y)) (λ j. not (is_cell x y j)) 0 (tally x.shape)
    (λ j l u. none_passes (λ k. arrays_match (cell_for x y k) (item_of x j)) (cells_for x y))

pub lost_below : (x y : Array) (ks : List ℕ) → ks ≡ filter (λ j. not (is_cell x y j)) (places (tally x.shape)) → All (λ k. k < tally x.shape) ks
lost_below x y ks e = subst (All (λ k. k < tally x.shape)) (sym e) (All-kept (λ j. not (is_cell x y j)) (tally x.shape))

-- cells without atoms are all alike
any_none : (p : ℕ → Bool) (a n : ℕ) → ((k : ℕ) → p k ≡ false) → list_any p (range_with_len a n) ≡ false
any_none p a zero h = refl
any_none p a (suc n) h = ap (λ b. b || list_any p (range_with_len (a + 1) n)) (h a) ∙ any_none p (a + 1) n h

any_first : (p : ℕ → Bool) (n : ℕ) → 0 < n → p 0 ≡ true → list_any p (places n) ≡ true
any_first p zero some h = absurd (omega arith)
any_first p (suc n) some h = ap (λ b. b || list_any p (range_with_len (0 + 1) n)) h

no_size : (p q n limit : ℕ) → p * q ≡ n → n ≤ limit → limit < p → 0 ≡ q
no_size p zero n limit e h g = refl
no_size p (suc q) n limit e h g = absurd (omega arith)

-- an item is lost, as a place that isn't 0
one_is : (b : Bool) (place : ℕ) → place ≡ none_where b → nat_eq place 1 ≡ not b
one_is true place e = ap (λ n. nat_eq n 1) e
one_is false place e = ap (λ n. nat_eq n 1) e

pub empty_less : (x y : Array) (m place : ℕ) (zs : List ℤ) (ks : List ℕ) → IsNoun y → 4194304 < cells_for x y → m ≡ frame_for x x → place ≡ none_where (pointwise ◌==◌ (drop (frame_for x y) y.shape) (drop m x.shape)) →
    zs ≡ map (λ j. pos place) (places (tally x.shape)) → ks ≡ lost_places 1 zs → ks ≡ filter (λ j. not (is_cell x y j)) (places (tally x.shape))
empty_less x y m place zs ks noun many em ep ez ek =
    ek ∙ lost_places_of (λ j. place) (tally x.shape) 1 zs ez
    ∙ filter_same (λ j. nat_eq place 1) (λ j. not (is_cell x y j)) 0 (tally x.shape)
    (λ j l u. one_is (pointwise ◌==◌ (drop (frame_for x y) y.shape) (drop m x.shape)) place ep ∙ ap not (sym (is_alike j (pointwise ◌==◌ (drop (frame_for x y) y.shape) (drop m x.shape)) refl)))
  where
    size : 0 ≡ product (drop (frame_for x y) y.shape)
    size = no_size (cells_for x y) (product (drop (frame_for x y) y.shape)) (product y.shape) 4194304 (product_parts y.shape (frame_for x y)) (omega (arith, noun_few y noun, noun.as_many)) many

    is_alike : (j : ℕ) (b : Bool) → pointwise ◌==◌ (drop (frame_for x y) y.shape) (drop m x.shape) ≡ b → is_cell x y j ≡ b
    is_alike j true h =
        any_first (λ k. arrays_match (cell_for x y k) (item_of x j)) (cells_for x y) (omega arith)
        (ap (λ (c : Array). arrays_match (cell_for x y 0) c) (sym (own_cell x j) ∙ ap (λ a. cell a x j) (sym em))
        ∙ sym (cells_match y x (frame_for x y) m 0 0 j (sym h) size (size ∙ ap product (same_text (drop (frame_for x y) y.shape) (drop m x.shape) (sym h)))))
    is_alike j false h =
        any_none (λ k. arrays_match (cell_for x y k) (item_of x j)) 0 (cells_for x y)
        (λ k. ap (λ (c : Array). arrays_match (cell_for x y k) c) (sym (own_cell x j) ∙ ap (λ a. cell a x j) (sym em))
        ∙ ap (λ b. b && pointwise atom_match (part (product (drop (frame_for x y) y.shape)) y.atoms k) (part (product (drop m x.shape)) x.atoms j)) h)
