-- The forms of a part, which its marks tell.
use Rattle.std.proofs.Common.{◌≡◌, ℕ, suc, ◌+◌, ◌<◌, ◌≤◌, Bool, true, false, not, cond, eqb, leb, ◌&&◌, ◌||◌, List, [], ◌∷◌, ◌++◌, length, take, drop, Some, Ok, Err, IsTrue, IsFalse, refl, sym, ap, ◌∙◌, arith}
use Rattle.std.specs.List.{All, position_or_len}
use Rattle.std.specs.Char.{is_ascii_digit}
use Rattle.std.specs.Str.{all_ascii_digits}
use Rattle.std.specs.Str.Parse.{digits_value}
use Rattle.std.proofs.lemmas.Bool.{and_parts, cond-false, leb-true, eqb-true, ne_eqb, not-true, false_from_ne_true}
use Rattle.std.proofs.lemmas.List.{take_all, drop_all, take-append-drop, append-nil}
use Rattle.std.proofs.lemmas.List.Elements.{All-cons, All-nil}
use Rattle.j_numbers.specs.declared.fault.NumberFault.TheVariants.{IllFormed}
use Rattle.j_noun.specs.declared.ranks.RankPart.TheVariants.{Infinite}
use Rattle.j_numbers.specs.Capped.{capped}
use Rattle.j_definitions.specs.Bytes.{is_blank}
use Rattle.j_numbers.specs.Numbers.{is_empty, are_digits, is_minus, unsigned, signed, plain, is_mark, split_number, number_of, ranged, is_infinity, part_value}
use Rattle.j_numbers.proofs.Sizes.{plain_alike}

neither : (a b : Bool) → a ≡ false → b ≡ false → (a || b) ≡ false
neither a b e f = rw e f

pub and_false : (a : Bool) → (a && false) ≡ false
and_false true = refl
and_false false = refl

-- a byte of printed numbers
abbrev IsPrinted : ℕ → Type 0
IsPrinted b = (is_blank b ≡ false) × (is_mark b ≡ false)

pub digit_apart : (b c : ℕ) → is_ascii_digit b ≡ true → (48 ≤ c → 57 < c) → eqb b c ≡ false
digit_apart b c h out =
    let low : 48 ≤ b = leb-true 48 b (and_parts (leb 48 b) (leb b 57) h).0 in
    let top : b ≤ 57 = leb-true b 57 (and_parts (leb 48 b) (leb b 57) h).1 in
    ne_eqb b c (λ e. absurd (omega (arith, e, out)))

digit_printed : (b : ℕ) → is_ascii_digit b ≡ true → IsPrinted b
digit_printed b h = (
  neither (eqb b 32) (eqb b 9) (digit_apart b 32 h (λ l. absurd (omega arith))) (digit_apart b 9 h (λ l. absurd (omega arith))),
  neither (eqb b 101) (eqb b 98) (digit_apart b 101 h (λ l. omega arith)) (digit_apart b 98 h (λ l. omega arith)),
)

pub digits_no_blank : (ds : List ℕ) → all_ascii_digits ds ≡ true → All (λ b. is_blank b ≡ false) ds
digits_no_blank [] h = All-nil (λ b. is_blank b ≡ false)
digits_no_blank (d ∷ ds) h = let k = and_parts (is_ascii_digit d) (all_ascii_digits ds) h in All-cons (λ b. is_blank b ≡ false) d ds (digit_printed d k.0).0 (digits_no_blank ds k.1)

pub one_longer : (p : ℕ → Bool) (ds : List ℕ) → position_or_len p ds ≡ length ds → 1 + position_or_len p ds ≡ suc (length ds)
one_longer p ds e = omega (arith, e)

pub digits_no_mark : (ds : List ℕ) → all_ascii_digits ds ≡ true → position_or_len is_mark ds ≡ length ds
digits_no_mark [] h = refl
digits_no_mark (d ∷ ds) h = let k = and_parts (is_ascii_digit d) (all_ascii_digits ds) h in rw (digit_printed d k.0).1 (one_longer is_mark ds (digits_no_mark ds k.1))

pub unmarked : (bs : List ℕ) → position_or_len is_mark bs ≡ length bs → number_of bs ≡ plain bs
unmarked bs e =
    ap (λ k. split_number (take k bs) (drop k bs)) e ∙ ap (λ t. split_number t (drop (length bs) bs)) (take_all (length bs) bs (omega arith)) ∙ ap (λ t. split_number bs t) (drop_all (length bs) bs (omega arith))

no_mark_by : (m : Bool) (b : ℕ) (bs : List ℕ) → eqb b 95 ≡ m → all_ascii_digits (cond m bs (b ∷ bs)) ≡ true → position_or_len is_mark (b ∷ bs) ≡ length (b ∷ bs)
no_mark_by true b bs e h = let z : is_mark b ≡ false = ap is_mark (eqb-true b 95 e) in rw z (one_longer is_mark bs (digits_no_mark bs h))
no_mark_by false b bs e h = digits_no_mark (b ∷ bs) h

no_mark : (part : List ℕ) → all_ascii_digits (unsigned part) ≡ true → position_or_len is_mark part ≡ length part
no_mark [] h = refl
no_mark (b ∷ bs) h = no_mark_by (eqb b 95) b bs refl h

-- a plain number
pub plain_part : (infinite : Bool) (part : List ℕ) (size : ℕ) → IsTrue (are_digits (unsigned part)) → size ≡ capped (digits_value 10 (unsigned part))
    → ranged (Some (signed (is_minus part) size)) ≡ part_value infinite part
plain_part infinite part size h e =
    let k = and_parts (not (is_empty (unsigned part))) (all_ascii_digits (unsigned part)) h in
    let some : is_empty (unsigned part) ≡ false = not-true (is_empty (unsigned part)) k.0 in
    let mark : is_infinity part ≡ false = rw some (and_false (is_minus part)) in
    let finite : (infinite && is_infinity part) ≡ false = ap (λ t. infinite && t) mark ∙ and_false infinite in
    plain_alike part size h e ∙ ap ranged (sym (unmarked part (no_mark part k.1))) ∙ sym (cond-false (infinite && is_infinity part) (Ok Infinite) (ranged (number_of part)) finite)

pub not_plain : (part : List ℕ) → (IsTrue (are_digits (unsigned part)) → ⊥) → IsFalse (are_digits (unsigned part))
not_plain part h = false_from_ne_true (are_digits (unsigned part)) h

-- neither a plain number nor a mark
pub unmarked_ill : (part : List ℕ) → IsFalse (are_digits (unsigned part)) → drop (position_or_len is_mark part) part ≡ [] → ranged (number_of part) ≡ Err IllFormed
unmarked_ill part h e =
    let n = position_or_len is_mark part in
    let whole : take n part ≡ part = sym (append-nil (take n part)) ∙ ap (λ t. take n part ++ t) (sym e) ∙ take-append-drop n part in
    ap (λ t. ranged (split_number (take n part) t)) e ∙ ap (λ t. ranged (plain t)) whole ∙ ap ranged (cond-false (are_digits (unsigned part)) _ _ h)
