-- Items from the right, one after the other.
use Rattle.std.proofs.Common.{◌≡◌, ◌+◌, ◌<◌, ◌-◌, ℕ, [], ◌∷◌, map, reverse, drop, sym, ap, ◌∙◌, arith, Some}
use Rattle.std.specs.List.{range_with_len}
use Rattle.std.proofs.lemmas.List.{reverse-append}
use Rattle.std.proofs.lemmas.List.FromFn.{map-range_with_len_more}
use Rattle.j_definitions.specs.Array.{Array}
use Rattle.j_rank.specs.Cells.{cell}
use Rattle.j_insert.specs.Insertion.{Remaining, items_from_right, first_noun}

-- the last of n + 1 items comes first
pub one_more : (y : Array) (n : ℕ) → reverse (map (cell 1 y) (range_with_len 0 (n + 1))) ≡ cell 1 y n ∷ reverse (map (cell 1 y) (range_with_len 0 n))
one_more y n =
    ap reverse (map-range_with_len_more (cell 1 y) 0 n n (omega arith)) ∙ reverse-append (map (cell 1 y) (range_with_len 0 n)) (cell 1 y n ∷ [])

pub next_item : (r : Remaining) → 0 < r.left → items_from_right r ≡ cell 1 r.noun (r.left - 1) ∷ reverse (map (cell 1 r.noun) (range_with_len 0 (r.left - 1)))
next_item r h =
    let e : r.left ≡ (r.left - 1) + 1 = omega arith in
    ap (λ n. reverse (map (cell 1 r.noun) (range_with_len 0 n))) e ∙ one_more r.noun (r.left - 1)

-- as the code has them: r is a noun y of which n items are left
pub item_said : (r : Remaining) (y a : Array) (n : ℕ) → (let now : Remaining = record { noun = y; left = n } in now) ≡ r → 0 < n → a ≡ cell 1 y (n - 1) → Some a ≡ first_noun (items_from_right r)
item_said r y a n e h is =
    let left : n ≡ r.left = ap (λ (q : Remaining). q.left) e in
    ap Some is ∙ sym (ap first_noun (next_item (record { noun = y; left = n }) h)) ∙ ap (λ (q : Remaining). first_noun (items_from_right q)) e

pub rest_said : (r : Remaining) (y : Array) (n : ℕ) → (let now : Remaining = record { noun = y; left = n } in now) ≡ r → 0 < n →
    reverse (map (cell 1 y) (range_with_len 0 (n - 1))) ≡ drop 1 (items_from_right r)
rest_said r y n e h = sym (ap (drop 1) (next_item (record { noun = y; left = n }) h)) ∙ ap (λ (q : Remaining). drop 1 (items_from_right q)) e
