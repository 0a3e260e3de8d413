-- The digits of a number, read back.
use Rattle.std.proofs.Common.{◌≡◌, ℕ, suc, ℤ, pos, neg_ℤ, negsuc, ◌<◌, ◌≤◌, ◌^◌, Bool, true, false, not, cond, eqb, ◌&&◌, List, [], ◌∷◌, length, map, Option, Some, None, Ok, decimal, refl, ap, ◌∙◌, arith}
use lib.Signed.{mag}
use Rattle.std.specs.List.{All, filter}
use Rattle.std.specs.Char.{is_ascii_digit}
use Rattle.std.specs.Str.{all_ascii_digits}
use Rattle.std.specs.Str.Parse.{digits_value}
use Rattle.std.proofs.lemmas.Bool.{and_parts, cond-true, cond-false, lt-ltb, ltb-true}
use Rattle.std.proofs.lemmas.Fmt.{decimal_nonempty, length-decimal-le, digits_decimal, digits_value-decimal}
use Rattle.std.proofs.lemmas.Str.Parse.{IsNumeralModel, numerals_by_value, tells_all_ascii_digits}
use Rattle.std.proofs.lemmas.List.Elements.{All-cons}
use Rattle.std.proofs.lemmas.List.Splits.{slice_split_none}
use Rattle.j_definitions.specs.Cells.{in_order}
use Rattle.j_definitions.specs.Range.{in_range}
use Rattle.j_noun.specs.declared.ranks.RankPart.TheVariants.{Number}
use Rattle.j_definitions.specs.Bytes.{is_blank}
use Rattle.j_numbers.specs.Numbers.{is_empty, parts, are_digits, unsigned, signed, plain, is_mark, number_of, ranged, is_infinity, part_value, within_limit, literal}
use Rattle.j_numbers.specs.Printed.{printed}
use Rattle.j_numbers.proofs.Forms.{and_false, digit_apart, digits_no_blank, one_longer, digits_no_mark, unmarked}

one_part : (b : ℕ) (bs : List ℕ) → All (λ c. is_blank c ≡ false) (b ∷ bs) → parts (b ∷ bs) ≡ (b ∷ bs) ∷ []
one_part b bs a = ap (λ ps. filter (λ part. not (is_empty part)) ps) (slice_split_none is_blank (b ∷ bs) a)

abbrev plain_from : Bool → List ℕ → Option ℤ
plain_from m u = cond (are_digits u) (Some (signed m (digits_value 10 u))) None

plain_digits : (d : ℕ) (ds : List ℕ) → all_ascii_digits (d ∷ ds) ≡ true → plain (d ∷ ds) ≡ Some (pos (digits_value 10 (d ∷ ds)))
plain_digits d ds h =
    let k = and_parts (is_ascii_digit d) (all_ascii_digits ds) h in
    let e : eqb d 95 ≡ false = digit_apart d 95 k.0 (λ l. omega arith) in
    ap (λ m. plain_from m (unsigned (d ∷ ds))) e ∙ ap (λ u. plain_from false u) (cond-false (eqb d 95) ds (d ∷ ds) e) ∙ cond-true (are_digits (d ∷ ds)) _ _ h

plain_minus : (d : ℕ) (ds : List ℕ) → all_ascii_digits (d ∷ ds) ≡ true → plain (95 ∷ d ∷ ds) ≡ Some (neg_ℤ (pos (digits_value 10 (d ∷ ds))))
plain_minus d ds h = cond-true (are_digits (d ∷ ds)) _ _ h

read_ranged : (infinite : Bool) (text : List ℕ) (z : ℤ) → parts text ≡ text ∷ [] → is_infinity text ≡ false → number_of text ≡ Some z → in_range z ≡ true → literal text infinite ≡ Ok (Number z ∷ [])
read_ranged infinite text z e i n h =
    let value : part_value infinite text ≡ Ok (Number z) = cond-false (infinite && is_infinity text) _ _ (rw i (and_false infinite)) ∙ ap ranged n ∙ cond-true (in_range z) _ _ h in
    ap (λ ps. within_limit (in_order (map (part_value infinite) ps))) e ∙ ap (λ r. within_limit (in_order (r ∷ []))) value

digits_back : (infinite : Bool) (ds : List ℕ) → 0 < length ds → all_ascii_digits ds ≡ true → in_range (pos (digits_value 10 ds)) ≡ true → literal ds infinite ≡ Ok (Number (pos (digits_value 10 ds)) ∷ [])
digits_back infinite [] some h r = absurd (omega arith)
digits_back infinite (d ∷ ds) some h r =
    let k = and_parts (is_ascii_digit d) (all_ascii_digits ds) h in
    let e : eqb d 95 ≡ false = digit_apart d 95 k.0 (λ l. omega arith) in
    read_ranged infinite (d ∷ ds) _ (one_part d ds (digits_no_blank (d ∷ ds) h)) (ap (λ m. m && is_empty (unsigned (d ∷ ds))) e) (unmarked (d ∷ ds) (digits_no_mark (d ∷ ds) h) ∙ plain_digits d ds h) r

minus_back : (infinite : Bool) (ds : List ℕ) → 0 < length ds → all_ascii_digits ds ≡ true → in_range (neg_ℤ (pos (digits_value 10 ds))) ≡ true → literal (95 ∷ ds) infinite ≡ Ok (Number (neg_ℤ (pos (digits_value 10 ds))) ∷ [])
minus_back infinite [] some h r = absurd (omega arith)
minus_back infinite (d ∷ ds) some h r =
    read_ranged infinite (95 ∷ d ∷ ds) _ (one_part 95 (d ∷ ds) (All-cons (λ b. is_blank b ≡ false) 95 (d ∷ ds) refl (digits_no_blank (d ∷ ds) h))) refl (unmarked (95 ∷ d ∷ ds) (one_longer is_mark (d ∷ ds) (digits_no_mark (d ∷ ds) h)) ∙ plain_minus d ds h) r

abbrev own_digits : IsNumeralModel (λ ds. all_ascii_digits ds ≡ true) (digits_value 10)
own_digits = numerals_by_value (λ ds. all_ascii_digits ds ≡ true) tells_all_ascii_digits

decimal_back : (infinite : Bool) (n : ℕ) → n < 2 ^ 63 → literal (decimal n) infinite ≡ Ok (Number (pos n) ∷ [])
decimal_back infinite n l =
    let value : digits_value 10 (decimal n) ≡ n = digits_value-decimal own_digits n (omega arith) in
    digits_back infinite (decimal n) (decimal_nonempty n (omega arith)) (digits_decimal own_digits n (omega arith)) (rw value (lt-ltb n (2 ^ 63) l)) ∙ ap (λ k. Ok (Number (pos k) ∷ [])) value

minus_decimal_back : (infinite : Bool) (n : ℕ) → n < 2 ^ 63 → literal (95 ∷ decimal (suc n)) infinite ≡ Ok (Number (negsuc n) ∷ [])
minus_decimal_back infinite n l =
    let value : digits_value 10 (decimal (suc n)) ≡ suc n = digits_value-decimal own_digits (suc n) (omega arith) in
    minus_back infinite (decimal (suc n)) (decimal_nonempty (suc n) (omega arith)) (digits_decimal own_digits (suc n) (omega arith)) (rw value (lt-ltb n (2 ^ 63) l)) ∙ ap (λ k. Ok (Number (neg_ℤ (pos k)) ∷ [])) value

pub reads_back : (z : ℤ) → in_range z ≡ true → (infinite : Bool) → literal (printed z) infinite ≡ Ok (Number z ∷ [])
reads_back (pos n) h infinite = decimal_back infinite n (ltb-true n (2 ^ 63) h)
reads_back (negsuc n) h infinite = minus_decimal_back infinite n (ltb-true n (2 ^ 63) h)

pub few_digits : (n : ℕ) → n ≤ 2 ^ 63 → length (decimal n) ≤ 19
few_digits n l = length-decimal-le 19 n (omega arith) (omega arith) (omega arith)

pub fits_range : (z : ℤ) → mag z < 2 ^ 63 → in_range z ≡ true
fits_range (pos n) h = lt-ltb n (2 ^ 63) h
fits_range (negsuc n) h = lt-ltb n (2 ^ 63) h
