-- Nouns of the places that were found.
use Rattle.std.proofs.Common.{◌≡◌, ◌<◌, ◌≤◌, ℕ, ℤ, pos, Bool, nat_eq, List, length, map, take, get_or, arith, sym, ap, ◌∙◌, subst, Err}
use Rattle.std.specs.List.{All}
use Rattle.std.specs.Ordering.{int_eq}
use Rattle.std.specs.declared.alloc.Global.{Global}
use Rattle.std.specs.declared.vec.Vec.{Vec}
use Rattle.std.proofs.lemmas.List.{length-map}
use Rattle.std.proofs.lemmas.List.FromFn.{length-map-range_with_len}
use Rattle.j_definitions.specs.Array.{Array, Atom, number, tally, arrays_match}
use Rattle.j_definitions.specs.declared.Kind.TheVariants.{Number}
use Rattle.j_definitions.specs.declared.Fault.TheVariants.{Limit}
use Rattle.j_definitions.proofs.Limits.{many_beyond}
use Rattle.j_noun.specs.declared.noun.Atoms.TheVariants.{Wholes, Bits}
use Rattle.j_noun.specs.Held.{array_kept}
use Rattle.j_search.specs.declared.seeking.Side.TheVariants.{First}
use Rattle.j_search.specs.Matching.{places, bit, item_of, frame_for, cells_for, cell_for, for_each_cell, has_item, first_item, is_first, firsts}
use Rattle.j_search.specs.Sought.{item_place}
use Rattle.j_search.specs.Kept.{found_bits, own_bits, own_places}
use Rattle.j_search.proofs.Picks.{map_places, All-kept}
use Rattle.j_search.proofs.Keeping.{found_bits_of, own_bits_of, own_places_of, any_bit, map_map, none_where, one_where}

pub too_many : (x y : Array) (f : Array → Atom) → 4194304 < cells_for x y → for_each_cell x y f ≡ Err Limit
too_many x y f h =
    many_beyond (record { kind = Number; shape = take (frame_for x y) y.shape; atoms = map (λ k. f (cell_for x y k)) (places (cells_for x y)) })
    (omega (arith, length-map-range_with_len (λ k. f (cell_for x y k)) 0 (cells_for x y)))

pub many_mapped : {X Y : Type 0} (f : X → Y) (F : ℕ → X) (n : ℕ) (xs : List X) → xs ≡ map F (places n) → length (map f xs) ≡ n
many_mapped f F n xs e = length-map xs f ∙ ap length e ∙ length-map-range_with_len F 0 n

pub kept_numbers : (shape s : List ℕ) (v : Vec ℤ Global) (F : ℕ → ℕ) (n : ℕ) → shape ≡ s → v.items ≡ map (λ k. pos (F k)) (places n) →
    array_kept shape (Wholes v) ≡ record { kind = Number; shape = s; atoms = map (λ k. number (pos (F k))) (places n) }
kept_numbers shape s v F n e h =
    let A : List ℕ → List Atom → Array = λ t xs. record { kind = Number; shape = t; atoms = xs } in
    ap (λ t. A t (map number v.items)) e ∙ ap (λ zs. A s (map number zs)) h ∙ ap (A s) (map_map number (λ k. pos (F k)) (places n))

pub kept_bits : (shape s : List ℕ) (v : Vec ℕ Global) (xs : List Atom) → shape ≡ s → map (λ b. number (pos b)) v.items ≡ xs →
    array_kept shape (Bits v) ≡ record { kind = Number; shape = s; atoms = xs }
kept_bits shape s v xs e h =
    let A : List ℕ → List Atom → Array = λ t ys. record { kind = Number; shape = t; atoms = ys } in
    ap (λ t. A t (map (λ b. number (pos b)) v.items)) e ∙ ap (A s) h

abbrev match_at : Array → Array → ℕ → Bool
match_at y c j = arrays_match (item_of y j) c

abbrev none_bit : Array → Array → ℕ
none_bit y c = none_where (nat_eq (item_place First y c) (tally y.shape))

-- an item is there where a place was found
pub member_bits : (x y : Array) (bits : List ℕ) (zs : List ℤ) (m n : ℕ) → bits ≡ found_bits m zs → m ≡ tally y.shape → zs ≡ map (λ k. pos (item_place First y (cell_for y x k))) (places n) →
    map (λ b. number (pos b)) bits ≡ map (λ k. bit (has_item y (cell_for y x k))) (places n)
member_bits x y bits zs m n e em ez =
    ap (map (λ b. number (pos b))) (e ∙ ap (λ i. found_bits i zs) em) ∙ found_bits_of (λ k. item_place First y (cell_for y x k)) n (tally y.shape) zs ez
    ∙ map_places (λ k. number (pos (none_bit y (cell_for y x k)))) (λ k. bit (has_item y (cell_for y x k))) n (λ k h. any_bit (λ j. match_at y (cell_for y x k) j) (tally y.shape))

pub own_nub : (y : Array) (zs : List ℤ) (ks : List ℕ) → zs ≡ map (λ k. pos (first_item y (item_of y k))) (places (tally y.shape)) → ks ≡ own_places zs → ks ≡ firsts y
own_nub y zs ks e h = h ∙ own_places_of (λ k. first_item y (item_of y k)) (tally y.shape) zs e

pub nub_below : (y : Array) (ks : List ℕ) → ks ≡ firsts y → All (λ k. k < tally y.shape) ks
nub_below y ks e = subst (All (λ k. k < tally y.shape)) (sym e) (All-kept (is_first y) (tally y.shape))

pub sieve_bits : (y : Array) (zs : List ℤ) (bits : List ℕ) → zs ≡ map (λ k. pos (first_item y (item_of y k))) (places (tally y.shape)) → bits ≡ own_bits zs →
    map (λ b. number (pos b)) bits ≡ map (λ k. bit (is_first y k)) (places (tally y.shape))
sieve_bits y zs bits e h = ap (map (λ b. number (pos b))) h ∙ own_bits_of (λ k. first_item y (item_of y k)) (tally y.shape) zs e

pub places_few : (F : ℕ → ℤ) (n limit : ℕ) (zs : List ℤ) → zs ≡ map F (places n) → n ≤ limit → length zs ≤ limit
places_few F n limit zs e h = omega (arith, ap length e, length-map-range_with_len F 0 n)

pub found_many : (F : ℕ → ℤ) (m n : ℕ) (bits : List ℕ) (zs : List ℤ) → bits ≡ found_bits m zs → zs ≡ map F (places n) → length (map (λ b. number (pos b)) bits) ≡ n
found_many F m n bits zs e ez =
    length-map bits (λ b. number (pos b)) ∙ ap length e ∙ length-map zs (λ z. none_where (int_eq z (pos m))) ∙ ap length ez ∙ length-map-range_with_len F 0 n

pub own_many : (F : ℕ → ℤ) (n : ℕ) (bits : List ℕ) (zs : List ℤ) → bits ≡ own_bits zs → zs ≡ map F (places n) → length (map (λ b. number (pos b)) bits) ≡ n
own_many F n bits zs e ez =
    length-map bits (λ b. number (pos b)) ∙ ap length e ∙ length-map-range_with_len (λ k. one_where (int_eq (get_or zs k (pos 0)) (pos k))) 0 (length zs) ∙ ap length ez ∙ length-map-range_with_len F 0 n
