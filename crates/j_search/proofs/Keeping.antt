-- What is kept of the places that were found.
use Rattle.std.proofs.Common.{◌≡◌, ◌<◌, ◌+◌, ℕ, ℤ, pos, negsuc, Bool, true, false, not, cond, nat_eq, List, [], ◌∷◌, ◌++◌, length, map, get_or, arith, refl, sym, ap, ◌∙◌, subst}
use Rattle.std.specs.List.{filter, list_any, All}
use Rattle.std.specs.Ordering.{int_eq}
use Rattle.std.proofs.lemmas.Bool.{false_from_ne_true}
use Rattle.std.proofs.lemmas.Bool.Decides.{Decides-int_eq, Decides-eqb, same_from_decides}
use Rattle.std.proofs.lemmas.List.Elements.{All-nil, All-cons}
use Rattle.std.proofs.lemmas.List.FromFn.{map-range_with_len_more, length-map-range_with_len, get_or-map-range_with_len}
use Rattle.j_definitions.specs.Array.{Atom, number}
use Rattle.j_search.specs.Matching.{places, bit, first_of}
use Rattle.j_search.specs.Kept.{found_bits, own_bits, own_places, lost_places}
use Rattle.j_search.proofs.Picks.{filter_same, map_places, found_where_any}

pub int_same : (z w : ℤ) → z ≡ w → int_eq z w ≡ true
int_same z w e = (Decides-int_eq z w).1 e

pub int_other : (z w : ℤ) → (z ≡ w → ⊥) → int_eq z w ≡ false
int_other z w h = false_from_ne_true (int_eq z w) (λ e. h ((Decides-int_eq z w).0 e))

abbrev of_pos : ℤ → ℕ
of_pos (pos n) = n
of_pos (negsuc n) = 0

pub same_pos : (a b : ℕ) → int_eq (pos a) (pos b) ≡ nat_eq a b
same_pos a b = same_from_decides (int_eq (pos a) (pos b)) (nat_eq a b) (Decides-int_eq (pos a) (pos b)) ((λ e. ap pos ((Decides-eqb a b).0 e)), (λ p. (Decides-eqb a b).1 (ap of_pos p)))

abbrev pub one_where : Bool → ℕ
one_where b = cond b 1 0

abbrev pub none_where : Bool → ℕ
none_where b = cond b 0 1

pub is_one : (b : Bool) (n : ℕ) → n ≡ 1 → b ≡ true → n ≡ one_where b
is_one b n e h = e ∙ ap one_where (sym h)

pub is_zero : (b : Bool) (n : ℕ) → n ≡ 0 → b ≡ false → n ≡ one_where b
is_zero b n e h = e ∙ ap one_where (sym h)

pub bit_more : (F : ℕ → ℕ) (k b : ℕ) (old new : List ℕ) → old ≡ map F (places k) → b ≡ F k → new ≡ old ++ b ∷ [] → new ≡ map F (places (k + 1))
bit_more F k b old new so_far is pushed = pushed ∙ ap (λ xs. xs ++ b ∷ []) so_far ∙ ap (λ n. map F (places k) ++ n ∷ []) is ∙ sym (map-range_with_len_more F 0 k k (omega arith))

-- what holds of the places of a function
at_place : (F : ℕ → ℕ) (n k : ℕ) → k < n → get_or (map (λ j. pos (F j)) (places n)) k (pos 0) ≡ pos (F k)
at_place F n k h = get_or-map-range_with_len (λ j. pos (F j)) 0 n k k (pos 0) h (omega arith)

own_is : (F : ℕ → ℕ) (n k m : ℕ) → k < n → int_eq (get_or (map (λ j. pos (F j)) (places n)) k (pos 0)) (pos m) ≡ nat_eq (F k) m
own_is F n k m h = ap (λ z. int_eq z (pos m)) (at_place F n k h) ∙ same_pos (F k) m

pub map_map : {X Y Z : Type 0} (f : Y → Z) (g : X → Y) (xs : List X) → map f (map g xs) ≡ map (λ x. f (g x)) xs
map_map f g [] = refl
map_map f g (x ∷ xs) = ap (λ r. f (g x) ∷ r) (map_map f g xs)

pub own_places_of : (F : ℕ → ℕ) (n : ℕ) (zs : List ℤ) → zs ≡ map (λ k. pos (F k)) (places n) → own_places zs ≡ filter (λ k. nat_eq (F k) k) (places n)
own_places_of F n zs e =
    ap own_places e ∙ ap (λ m. filter (λ k. int_eq (get_or (map (λ j. pos (F j)) (places n)) k (pos 0)) (pos k)) (places m)) (length-map-range_with_len (λ k. pos (F k)) 0 n)
    ∙ filter_same (λ k. int_eq (get_or (map (λ j. pos (F j)) (places n)) k (pos 0)) (pos k)) (λ k. nat_eq (F k) k) 0 n (λ k l u. own_is F n k k (omega arith))

pub lost_places_of : (F : ℕ → ℕ) (n m : ℕ) (zs : List ℤ) → zs ≡ map (λ k. pos (F k)) (places n) → lost_places m zs ≡ filter (λ k. nat_eq (F k) m) (places n)
lost_places_of F n m zs e =
    ap (lost_places m) e ∙ ap (λ i. filter (λ k. int_eq (get_or (map (λ j. pos (F j)) (places n)) k (pos 0)) (pos m)) (places i)) (length-map-range_with_len (λ k. pos (F k)) 0 n)
    ∙ filter_same (λ k. int_eq (get_or (map (λ j. pos (F j)) (places n)) k (pos 0)) (pos m)) (λ k. nat_eq (F k) m) 0 n (λ k l u. own_is F n k m (omega arith))

abbrev number_of_bit : ℕ → Atom
number_of_bit b = number (pos b)

pub own_bits_of : (F : ℕ → ℕ) (n : ℕ) (zs : List ℤ) → zs ≡ map (λ k. pos (F k)) (places n) → map (λ b. number (pos b)) (own_bits zs) ≡ map (λ k. bit (nat_eq (F k) k)) (places n)
own_bits_of F n zs e =
    ap (λ ws. map (λ b. number (pos b)) (own_bits ws)) e
    ∙ ap (λ m. map (λ b. number (pos b)) (map (λ k. one_where (int_eq (get_or (map (λ j. pos (F j)) (places n)) k (pos 0)) (pos k))) (places m))) (length-map-range_with_len (λ k. pos (F k)) 0 n)
    ∙ map_map number_of_bit (λ k. one_where (int_eq (get_or (map (λ j. pos (F j)) (places n)) k (pos 0)) (pos k))) (places n)
    ∙ map_places (λ k. bit (int_eq (get_or (map (λ j. pos (F j)) (places n)) k (pos 0)) (pos k))) (λ k. bit (nat_eq (F k) k)) n (λ k h. ap bit (own_is F n k k h))

pub found_bits_of : (F : ℕ → ℕ) (n m : ℕ) (zs : List ℤ) → zs ≡ map (λ k. pos (F k)) (places n) → map (λ b. number (pos b)) (found_bits m zs) ≡ map (λ k. number_of_bit (none_where (nat_eq (F k) m))) (places n)
found_bits_of F n m zs e =
    ap (λ ws. map (λ b. number (pos b)) (found_bits m ws)) e
    ∙ ap (map number_of_bit) (map_map (λ z. none_where (int_eq z (pos m))) (λ k. pos (F k)) (places n))
    ∙ map_map number_of_bit (λ k. none_where (int_eq (pos (F k)) (pos m))) (places n)
    ∙ map_places (λ k. number_of_bit (none_where (int_eq (pos (F k)) (pos m)))) (λ k. number_of_bit (none_where (nat_eq (F k) m))) n (λ k h. ap (λ b. number_of_bit (none_where b)) (same_pos (F k) m))

-- whether any passes, as a bit
none_flips : (b : Bool) → none_where b ≡ one_where (not b)
none_flips true = refl
none_flips false = refl

pub any_bit : (p : ℕ → Bool) (n : ℕ) → number_of_bit (none_where (nat_eq (first_of p n) n)) ≡ bit (list_any p (places n))
any_bit p n = ap number_of_bit (none_flips (nat_eq (first_of p n) n)) ∙ ap bit (found_where_any p n)

none_any : (b c : Bool) → not b ≡ c → b ≡ not c
none_any true c e = ap not e
none_any false c e = ap not e

pub none_passes : (p : ℕ → Bool) (n : ℕ) → nat_eq (first_of p n) n ≡ not (list_any p (places n))
none_passes p n = none_any (nat_eq (first_of p n) n) (list_any p (places n)) (found_where_any p n)

low_one : (b : Bool) → one_where b < 2
low_one true = omega arith
low_one false = omega arith

low_none : (b : Bool) → none_where b < 2
low_none true = omega arith
low_none false = omega arith

all_low : {X : Type 0} (f : X → ℕ) (xs : List X) → ((x : X) → f x < 2) → All (λ b. b < 2) (map f xs)
all_low f [] h = All-nil (λ b. b < 2)
all_low f (x ∷ xs) h = All-cons (λ b. b < 2) (f x) (map f xs) (h x) (all_low f xs h)

pub own_low : (zs : List ℤ) (bits : List ℕ) → bits ≡ own_bits zs → All (λ b. b < 2) bits
own_low zs bits e = subst (All (λ b. b < 2)) (sym e) (all_low (λ k. one_where (int_eq (get_or zs k (pos 0)) (pos k))) (places (length zs)) (λ k. low_one (int_eq (get_or zs k (pos 0)) (pos k))))

pub found_low : (n : ℕ) (zs : List ℤ) (bits : List ℕ) → bits ≡ found_bits n zs → All (λ b. b < 2) bits
found_low n zs bits e = subst (All (λ b. b < 2)) (sym e) (all_low (λ z. none_where (int_eq z (pos n))) zs (λ z. low_none (int_eq z (pos n))))
