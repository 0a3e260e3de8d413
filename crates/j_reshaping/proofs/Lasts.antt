-- The axes last, and the others before, are an order.
use Rattle.std.proofs.Common.{◌≡◌, ◌<◌, ◌≤◌, ◌+◌, ℕ, ℤ, pos, negsuc, Bool, true, false, ◌||◌, not, nat_eq, cond, List, [], ◌∷◌, ◌++◌, map, arith, refl, sym, ap, ◌∙◌}
use Prim.Native.Nat.{zero, suc}
use Rattle.std.specs.List.{All, sum_by, filter, list_any, range_with_len}
use Rattle.std.specs.Ordering.{int_eq}
use Rattle.std.proofs.lemmas.Bool.{eqb-true}
use Rattle.std.proofs.lemmas.Bool.Decides.{Decides-int_eq, Decides-eqb, same_from_decides}
use Rattle.std.proofs.lemmas.List.Elements.{All-nil, All-cons, All-head, All-tail, All-append}
use Rattle.std.proofs.lemmas.List.Sums.{sum_by-cons, sum_by-append}
use Rattle.j_reshaping.specs.Axes.{is_other, others, axes_of, repeats}
use Rattle.j_reshaping.specs.Steps.{IsOrder}
use Rattle.j_reshaping.proofs.Orders.{all_range}

abbrev of_pos : ℤ → ℕ
of_pos (pos n) = n
of_pos (negsuc n) = 0

same_pos : (a b : ℕ) → int_eq (pos a) (pos b) ≡ nat_eq b a
same_pos a b = same_from_decides (int_eq (pos a) (pos b)) (nat_eq b a) (Decides-int_eq (pos a) (pos b)) ((λ e. ap pos (sym ((Decides-eqb b a).0 e))), (λ p. (Decides-eqb b a).1 (sym (ap of_pos p))))

abbrev stands : List ℕ → ℕ → Bool
stands axes a = list_any (λ b. nat_eq b a) axes

pos_stands : (a : ℕ) (axes : List ℕ) → list_any (int_eq (pos a)) (map pos axes) ≡ stands axes a
pos_stands a [] = refl
pos_stands a (b ∷ axes) = ap (λ t. t || list_any (int_eq (pos a)) (map pos axes)) (same_pos a b) ∙ ap (λ t. nat_eq b a || t) (pos_stands a axes)

either_false : (a b : Bool) → (a || b) ≡ false → (a ≡ false) × (b ≡ false)
either_false true b h = cc
either_false false b h = (refl, h)

sum_same : (f g : ℕ → ℕ) (xs : List ℕ) → ((k : ℕ) → f k ≡ g k) → sum_by f xs ≡ sum_by g xs
sum_same f g [] h = refl
sum_same f g (x ∷ xs) h = omega (arith, sum_by-cons f x xs, sum_by-cons g x xs, h x, sum_same f g xs h)

sum_plus : (f g : ℕ → ℕ) (xs : List ℕ) → sum_by (λ k. f k + g k) xs ≡ sum_by f xs + sum_by g xs
sum_plus f g [] = refl
sum_plus f g (x ∷ xs) = omega (arith, sum_by-cons (λ k. f k + g k) x xs, sum_by-cons f x xs, sum_by-cons g x xs, sum_plus f g xs)

-- a weight where a test holds
abbrev where_holds : (ℕ → Bool) → (ℕ → ℕ) → ℕ → ℕ
where_holds p w k = cond (p k) (w k) 0

filter_step : (p : ℕ → Bool) (w : ℕ → ℕ) (x : ℕ) (xs : List ℕ) (b : Bool) → sum_by w (cond b (x ∷ filter p xs) (filter p xs)) ≡ cond b (w x) 0 + sum_by w (filter p xs)
filter_step p w x xs true = sum_by-cons w x (filter p xs)
filter_step p w x xs false = omega arith

filter_sum : (p : ℕ → Bool) (w : ℕ → ℕ) (xs : List ℕ) → sum_by w (filter p xs) ≡ sum_by (where_holds p w) xs
filter_sum p w [] = refl
filter_sum p w (x ∷ xs) = filter_step p w x xs (p x) ∙ ap (λ n. where_holds p w x + n) (filter_sum p w xs) ∙ sym (sum_by-cons (where_holds p w) x xs)

-- a weight at one number
abbrev at_one : ℕ → (ℕ → ℕ) → ℕ → ℕ
at_one a w k = cond (nat_eq a k) (w k) 0

unlike : (a k : ℕ) (b : Bool) → nat_eq a k ≡ b → (a ≡ k → ⊥) → b ≡ false
unlike a k true e h = absurd (h (eqb-true a k e))
unlike a k false e h = refl

alike : (k : ℕ) → nat_eq k k ≡ true
alike k = (Decides-eqb k k).1 refl

none_at_one : (a c m : ℕ) (w : ℕ → ℕ) → a < c → sum_by (at_one a w) (range_with_len c m) ≡ 0
none_at_one a c zero w h = refl
none_at_one a c (suc m) w h =
    let apart : a ≡ c → ⊥ = λ e. omega arith in
    let here : at_one a w c ≡ 0 = ap (λ (b : Bool). cond b (w c) 0) (unlike a c (nat_eq a c) refl apart) in
    omega (arith, sum_by-cons (at_one a w) c (range_with_len (c + 1) m), none_at_one a (c + 1) m w (omega arith))

one_of : (a c m : ℕ) (w : ℕ → ℕ) (b : Bool) → nat_eq a c ≡ b → c ≤ a → a < c + suc m → ((c + 1 ≤ a) → sum_by (at_one a w) (range_with_len (c + 1) m) ≡ w a) →
    sum_by (at_one a w) (range_with_len c (suc m)) ≡ w a
one_of a c m w true e l h rest =
    let same : a ≡ c = eqb-true a c e in
    let here : at_one a w c ≡ w c = ap (λ (t : Bool). cond t (w c) 0) e in
    let there : w c ≡ w a = sym (ap w same) in
    omega (arith, sum_by-cons (at_one a w) c (range_with_len (c + 1) m), none_at_one a (c + 1) m w (omega arith))
one_of a c m w false e l h rest =
    let here : at_one a w c ≡ 0 = ap (λ (t : Bool). cond t (w c) 0) e in
    let apart : a ≡ c → ⊥ = λ (same : a ≡ c). let t : nat_eq a c ≡ true = ap (λ k. nat_eq a k) (sym same) ∙ alike a in let wrong : true ≡ false = sym t ∙ e in cc in
    omega (arith, sum_by-cons (at_one a w) c (range_with_len (c + 1) m), rest (omega (arith, apart)))

at_one_sum : (a c m : ℕ) (w : ℕ → ℕ) → c ≤ a → a < c + m → sum_by (at_one a w) (range_with_len c m) ≡ w a
at_one_sum a c zero w l h = absurd (omega arith)
at_one_sum a c (suc m) w l h = one_of a c m w (nat_eq a c) refl l h (λ l. at_one_sum a (c + 1) m w l (omega arith))

-- one axis more, at one number
other_or_one : (axes : List ℕ) (a k : ℕ) (w : ℕ → ℕ) (b : Bool) → nat_eq a k ≡ b → stands axes a ≡ false → where_holds (is_other axes) w k ≡ cond (not (b || stands axes k)) (w k) 0 + cond b (w k) 0
other_or_one axes a k w true e out =
    let same : a ≡ k = eqb-true a k e in
    let none : stands axes k ≡ false = ap (stands axes) (sym same) ∙ out in
    let all : w k ≡ 0 + w k = omega arith in
    ap (λ (t : Bool). cond (not t) (w k) 0) none ∙ all
other_or_one axes a k w false e out = omega arith

others_sum : (n : ℕ) (axes : List ℕ) (w : ℕ → ℕ) → All (λ a. a < n) axes → repeats (map pos axes) ≡ false → sum_by (where_holds (is_other axes) w) (axes_of n) + sum_by w axes ≡ sum_by w (axes_of n)
others_sum n [] w h once = omega arith
others_sum n (a ∷ axes) w h once =
    let both = either_false (list_any (int_eq (pos a)) (map pos axes)) (repeats (map pos axes)) once in
    let out : stands axes a ≡ false = sym (pos_stands a axes) ∙ both.0 in
    let within : a < n = All-head (λ b. b < n) a axes h in
    let parts : sum_by (where_holds (is_other axes) w) (axes_of n) ≡ sum_by (λ k. where_holds (is_other (a ∷ axes)) w k + at_one a w k) (axes_of n) =
    sum_same (where_holds (is_other axes) w) (λ k. where_holds (is_other (a ∷ axes)) w k + at_one a w k) (axes_of n) (λ k. other_or_one axes a k w (nat_eq a k) refl out) in
    omega (
      arith,
      parts,
      sum_plus (where_holds (is_other (a ∷ axes)) w) (at_one a w) (axes_of n),
      at_one_sum a 0 n w (omega arith) (omega arith),
      sum_by-cons w a axes,
      others_sum n axes w (All-tail (λ b. b < n) a axes h) both.1,
    )

kept_step : (n : ℕ) (p : ℕ → Bool) (x : ℕ) (xs : List ℕ) (b : Bool) → x < n → All (λ a. a < n) (filter p xs) → All (λ a. a < n) (cond b (x ∷ filter p xs) (filter p xs))
kept_step n p x xs true g h = All-cons (λ a. a < n) x (filter p xs) g h
kept_step n p x xs false g h = h

kept_within : (n : ℕ) (p : ℕ → Bool) (xs : List ℕ) → All (λ a. a < n) xs → All (λ a. a < n) (filter p xs)
kept_within n p [] h = All-nil (λ a. a < n)
kept_within n p (x ∷ xs) h = kept_step n p x xs (p x) (All-head (λ a. a < n) x xs h) (kept_within n p xs (All-tail (λ a. a < n) x xs h))

-- the axes last, each once, and the others before
pub last_order : (n : ℕ) (axes : List ℕ) → All (λ a. a < n) axes → repeats (map pos axes) ≡ false → IsOrder n (others n axes ++ axes)
last_order n axes h once = record {
  within = All-append (λ a. a < n) (others n axes) axes (kept_within n (is_other axes) (axes_of n) (all_range 0 n n (omega arith))) h;
  each = λ w. sum_by-append w (others n axes) axes ∙ ap (λ k. k + sum_by w axes) (filter_sum (is_other axes) w (axes_of n)) ∙ others_sum n axes w h once;
}
