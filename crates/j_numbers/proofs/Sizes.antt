-- Sizes beyond the range, where one is as good as another.
use Rattle.std.proofs.Common.{◌≡◌, ℕ, pos, ◌+◌, ◌*◌, ◌^◌, ◌<◌, ◌≤◌, ◌≢◌, ◌⊎◌, Bool, true, false, List, [], ◌∷◌, length, drop, get_or, Some, refl, sym, ap, ◌∙◌, subst, ⊎_elim, inl, inr, zero, suc, arith, IsTrue, Ok, Err, ◌&&◌}
use Rattle.std.specs.Char.{digit_value, is_ascii_digit}
use Rattle.std.specs.Str.Parse.{digits_value_after, digits_value}
use Rattle.std.proofs.lemmas.Bool.{cases_lt, cond-true, cond-false, le-ltb, false≢true, and_parts, false_from_ne_true}
use Rattle.std.proofs.lemmas.List.{drop_more, at_drop_more}
use Rattle.std.specs.List.{list_all}
use Rattle.std.specs.Str.{all_ascii_digits}
use Rattle.std.proofs.Math.Nat.{le-mul_of_pos_right, pow-le-pow_right}
use Rattle.j_definitions.specs.Range.{in_range}
use Rattle.j_numbers.specs.declared.fault.NumberFault.TheVariants.{Overflow, IllFormed}
use Rattle.j_noun.specs.declared.ranks.RankPart.TheVariants.{Number}
use Rattle.j_numbers.specs.Capped.{capped}
use Rattle.j_numbers.specs.Numbers.{signed, ranged, is_minus, unsigned, are_digits, are_base_digits, is_base_digit, plain, scaled, based}

-- the same size, or both beyond the range
abbrev pub Alike : ℕ → ℕ → Type 0
Alike m n = (m ≡ n) ⊎ ((9223372036854775809 ≤ m) × (9223372036854775809 ≤ n))

pub alike_capped : (m n : ℕ) → Alike m n → capped m ≡ capped n
alike_capped m n (inl e) = ap capped e
alike_capped m n (inr h) = omega (arith, h.0, h.1)

pub capped_alike : (n : ℕ) → Alike (capped n) n
capped_alike n = ⊎_elim (λ l. inl (omega arith)) (λ g. inr (omega arith, omega arith)) (cases_lt n 9223372036854775809)

alike_of : (m n : ℕ) → m ≡ capped n → Alike m n
alike_of m n e = subst (λ k. Alike k n) (sym e) (capped_alike n)

le-mul_of_pos_left : {m : ℕ} (k : ℕ) → 0 < m → k ≤ m * k
le-mul_of_pos_left {m} k some = omega (arith, le-mul_of_pos_right {m = m} k some)

-- a digit more
digit_alike : (base m n d : ℕ) → 1 ≤ base → Alike m n → Alike (m * base + d) (n * base + d)
digit_alike base m n d some (inl e) = inl (ap (λ k. k * base + d) e)
digit_alike base m n d some (inr h) = inr (omega (arith, h.0, le-mul_of_pos_right {m = base} m some), omega (arith, h.1, le-mul_of_pos_right {m = base} n some))

after_alike : (base m n : ℕ) (ds : List ℕ) → 1 ≤ base → Alike m n → Alike (digits_value_after base m ds) (digits_value_after base n ds)
after_alike base m n [] some h = h
after_alike base m n (d ∷ ds) some h = after_alike base (m * base + digit_value d) (n * base + digit_value d) ds some (digit_alike base m n (digit_value d) some h)

small_digit : (b : ℕ) → digit_value b ≤ 36
small_digit b = grind arith

-- a base of 0 keeps the last digit alone
capped_after : (base n d : ℕ) (ds : List ℕ) → d ≤ 36 → capped (digits_value_after base (capped (n * base + d)) ds) ≡ capped (digits_value_after base (n * base + d) ds)
capped_after zero n d ds l = ap (λ k. capped (digits_value_after 0 k ds)) (omega arith)
capped_after (suc b) n d ds l = alike_capped _ _ (after_alike (suc b) _ _ ds (omega arith) (capped_alike (n * suc b + d)))

pub base_more : (base n i : ℕ) (ds : List ℕ) → i < length ds → capped (digits_value_after base (capped (n * base + digit_value (get_or ds i 0))) (drop (i + 1) ds)) ≡ capped (digits_value_after base n (drop i ds))
base_more base n i ds l =
    let e : drop i ds ≡ get_or ds i 0 ∷ drop (i + 1) ds = drop_more ds i 0 l in
    capped_after base n (digit_value (get_or ds i 0)) (drop (i + 1) ds) (small_digit (get_or ds i 0)) ∙ ap (λ xs. capped (digits_value_after base n xs)) (sym e)

-- two bases beyond the range
base_digit_alike : (b c m n d : ℕ) → 9223372036854775809 ≤ b → 9223372036854775809 ≤ c → Alike m n → Alike (m * b + d) (n * c + d)
base_digit_alike b c m n d p q (inr h) = inr (omega (arith, h.0, le-mul_of_pos_right {m = b} m (omega arith)), omega (arith, h.1, le-mul_of_pos_right {m = c} n (omega arith)))
base_digit_alike b c zero n d p q (inl e) = inl (let z : n ≡ 0 = sym e in rw z (omega arith))
base_digit_alike b c (suc m) n d p q (inl e) = inr (omega (arith, p), subst (λ k. 9223372036854775809 ≤ k * c + d) e (omega (arith, q)))

base_after_alike : (b c m n : ℕ) (ds : List ℕ) → 9223372036854775809 ≤ b → 9223372036854775809 ≤ c → Alike m n → Alike (digits_value_after b m ds) (digits_value_after c n ds)
base_after_alike b c m n [] p q h = h
base_after_alike b c m n (d ∷ ds) p q h = base_after_alike b c (m * b + digit_value d) (n * c + digit_value d) ds p q (base_digit_alike b c m n (digit_value d) p q h)

base_alike : (b c : ℕ) (ds : List ℕ) → Alike b c → Alike (digits_value b ds) (digits_value c ds)
base_alike b c ds (inl e) = inl (ap (λ k. digits_value k ds) e)
base_alike b c ds (inr h) = base_after_alike b c 0 0 ds h.0 h.1 (inl refl)

large_power : (e : ℕ) → 19 ≤ e → 10000000000000000000 ≤ 10 ^ e
large_power e l = pow-le-pow_right {n = 10} (omega arith) l

some_power : (e : ℕ) → 1 ≤ 10 ^ e
some_power e = let l : 0 ≤ e = omega arith in pow-le-pow_right {n = 10} (omega arith) l

pub power_large : (n e : ℕ) → n ≢ 0 → 19 ≤ e → 9223372036854775809 ≡ capped (n * 10 ^ e)
power_large n e some l = omega (arith, large_power e l, le-mul_of_pos_left {m = n} (10 ^ e) (omega arith))

times_alike : (m n e f : ℕ) → Alike m n → Alike e f → Alike (m * 10 ^ e) (n * 10 ^ f)
times_alike m n e f (inr h) g = inr (omega (arith, h.0, le-mul_of_pos_right {m = 10 ^ e} m (some_power e)), omega (arith, h.1, le-mul_of_pos_right {m = 10 ^ f} n (some_power f)))
times_alike m n e f (inl h) (inl g) = inl (ap (λ k. k * 10 ^ e) h ∙ ap (λ k. n * 10 ^ k) g)
times_alike zero n e f (inl h) (inr g) = inl (let z : n ≡ 0 = sym h in rw z (omega arith))
times_alike (suc m) n e f (inl h) (inr g) =
    inr (omega (arith, large_power e (omega (arith, g.0)), le-mul_of_pos_left {m = suc m} (10 ^ e) (omega arith)), subst (λ k. 9223372036854775809 ≤ k * 10 ^ f) h (omega (arith, large_power f (omega (arith, g.1)), le-mul_of_pos_left {m = suc m} (10 ^ f) (omega arith))))

both_true : (a b : Bool) → IsTrue a → IsTrue b → IsTrue (a && b)
both_true true b h k = k
both_true false b h k = absurd (false≢true h)

beyond_range : (minus : Bool) (n : ℕ) → 9223372036854775809 ≤ n → in_range (signed minus n) ≡ false
beyond_range false n l = le-ltb n (2 ^ 63) (omega arith)
beyond_range true zero l = absurd (omega arith)
beyond_range true (suc n) l = le-ltb n (2 ^ 63) (omega arith)

ranged_beyond : (minus : Bool) (n : ℕ) → 9223372036854775809 ≤ n → ranged (Some (signed minus n)) ≡ Err Overflow
ranged_beyond minus n l = cond-false (in_range (signed minus n)) (Ok (Number (signed minus n))) (Err Overflow) (beyond_range minus n l)

ranged_alike : (minus : Bool) (m n : ℕ) → Alike m n → ranged (Some (signed minus m)) ≡ ranged (Some (signed minus n))
ranged_alike minus m n (inl e) = ap (λ k. ranged (Some (signed minus k))) e
ranged_alike minus m n (inr h) = ranged_beyond minus m h.0 ∙ sym (ranged_beyond minus n h.1)

-- the forms of a part, from sizes as far as they matter
pub plain_alike : (numeral : List ℕ) (size : ℕ) → IsTrue (are_digits (unsigned numeral)) → size ≡ capped (digits_value 10 (unsigned numeral)) → ranged (Some (signed (is_minus numeral) size)) ≡ ranged (plain numeral)
plain_alike numeral size h e =
    ranged_alike (is_minus numeral) size (digits_value 10 (unsigned numeral)) (alike_of _ _ e) ∙ ap ranged (sym (cond-true (are_digits (unsigned numeral)) _ _ h))

pub plain_ill : (numeral : List ℕ) → (IsTrue (are_digits (unsigned numeral)) → ⊥) → ranged (plain numeral) ≡ Err IllFormed
plain_ill numeral h = ap ranged (cond-false (are_digits (unsigned numeral)) _ _ (false_from_ne_true _ h))

pub scaled_alike : (numeral exponent : List ℕ) (size power : ℕ) → IsTrue (are_digits (unsigned numeral)) → IsTrue (are_digits exponent) → size ≡ capped (digits_value 10 (unsigned numeral)) → power ≡ capped (digits_value 10 exponent) → ranged (Some (signed (is_minus numeral) (capped (size * 10 ^ power)))) ≡ ranged (scaled numeral exponent)
scaled_alike numeral exponent size power h k e f =
    ranged_alike (is_minus numeral) _ _ (capped_alike (size * 10 ^ power)) ∙ ranged_alike (is_minus numeral) _ _ (times_alike size _ power _ (alike_of _ _ e) (alike_of _ _ f)) ∙ ap ranged (sym (cond-true (are_digits (unsigned numeral) && are_digits exponent) _ _ (both_true _ _ h k)))

pub scaled_ill : (numeral exponent : List ℕ) → (IsTrue (are_digits (unsigned numeral)) → IsTrue (are_digits exponent) → ⊥) → ranged (scaled numeral exponent) ≡ Err IllFormed
scaled_ill numeral exponent h =
    ap ranged (cond-false (are_digits (unsigned numeral) && are_digits exponent) _ _ (false_from_ne_true _ (λ k. h (and_parts _ _ k).0 (and_parts _ _ k).1)))

pub based_alike : (base digits : List ℕ) (b size : ℕ) → IsTrue (are_digits base) → IsTrue (are_base_digits digits) → b ≡ capped (digits_value 10 base) → size ≡ capped (digits_value b digits) → ranged (Some (pos size)) ≡ ranged (based base digits)
based_alike base digits b size h k e f =
    ranged_alike false _ _ (alike_of _ _ f) ∙ ranged_alike false _ _ (base_alike b (digits_value 10 base) digits (alike_of _ _ e)) ∙ ap ranged (sym (cond-true (are_digits base && are_base_digits digits) _ _ (both_true _ _ h k)))

pub based_ill : (base digits : List ℕ) → (IsTrue (are_digits base) → IsTrue (are_base_digits digits) → ⊥) → ranged (based base digits) ≡ Err IllFormed
based_ill base digits h =
    ap ranged (cond-false (are_digits base && are_base_digits digits) _ _ (false_from_ne_true _ (λ k. h (and_parts _ _ k).0 (and_parts _ _ k).1)))

pub digits_more : (ds : List ℕ) (i : ℕ) → i < length ds → all_ascii_digits (drop i ds) ≡ (is_ascii_digit (get_or ds i 0) && all_ascii_digits (drop (i + 1) ds))
digits_more ds i l = at_drop_more all_ascii_digits ds i 0 l

pub base_digits_more : (ds : List ℕ) (i : ℕ) → i < length ds → list_all is_base_digit (drop i ds) ≡ (is_base_digit (get_or ds i 0) && list_all is_base_digit (drop (i + 1) ds))
base_digits_more ds i l = at_drop_more (list_all is_base_digit) ds i 0 l
