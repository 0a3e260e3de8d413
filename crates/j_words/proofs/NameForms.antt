-- Where the bases of locatives end.
use Rattle.std.proofs.Common.{◌≡◌, ℕ, ◌+◌, ◌-◌, ◌<◌, ◌&&◌, true, nat_lt, List, length, take, drop, Option, Some, ap, ◌∙◌, sym, ⊎_elim, arith}
use Rattle.std.proofs.lemmas.Bool.{and_parts, ltb-true, cases_lt, true≢false}
use Rattle.std.proofs.lemmas.List.{length-take, drop_all}
use Rattle.j_words.specs.Names.{begins_letter, double_at, last_low, ends_low, is_simple, has_locale, is_direct, is_object}

locale_ends : (front : List ℕ) (o : Option ℕ) (n : ℕ) → has_locale front o ≡ true → o ≡ Some n → n + 1 < length front
locale_ends front o n h e =
    let p = and_parts (is_simple (take n front)) (nat_lt (n + 1) (length front)) (ap (has_locale front) (sym e) ∙ h) in
    ltb-true (n + 1) (length front) p.1

pub direct_ends : (name : List ℕ) (n : ℕ) → is_direct name ≡ true → last_low (take (length name - 1) name) ≡ Some n → n + 2 < length name
direct_ends name n h e =
    let front = take (length name - 1) name in
    let p = and_parts (ends_low name) (has_locale front (last_low front)) h in
    omega (arith, locale_ends front (last_low front) n p.1 e, length-take (length name - 1) name)

letter_within : (name : List ℕ) (n : ℕ) → begins_letter (drop n name) ≡ true → n < length name
letter_within name n h = ⊎_elim (λ l. l) (λ g. absurd (true≢false (sym h ∙ ap begins_letter (drop_all n name g)))) (cases_lt n (length name))

pub object_ends : (name : List ℕ) → is_object name ≡ true → double_at name + 2 < length name
object_ends name h =
    let n = double_at name in
    let p = and_parts (nat_lt n (length name)) (is_simple (take n name) && (begins_letter (drop (n + 2) name) && is_simple (drop (n + 2) name))) h in
    let q = and_parts (is_simple (take n name)) (begins_letter (drop (n + 2) name) && is_simple (drop (n + 2) name)) p.1 in
    letter_within name (n + 2) (and_parts (begins_letter (drop (n + 2) name)) (is_simple (drop (n + 2) name)) q.1).0
