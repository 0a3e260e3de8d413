-- The parts of a text, taken off from the left.
use Rattle.std.proofs.Common.{◌≡◌, ℕ, ◌+◌, ◌-◌, ◌<◌, ◌≤◌, Bool, true, false, not, ◌&&◌, List, [], ◌∷◌, ◌++◌, length, take, drop, get_or, refl, sym, ap, ◌∙◌, subst, ⊎_elim, add-zero, arith}
use Rattle.std.specs.List.{list_all, position_or_len, All, filter}
use Rattle.std.specs.Char.{is_ascii_digit}
use Rattle.std.specs.Str.{all_ascii_digits}
use Rattle.std.proofs.lemmas.Bool.{cases_lt, true≢false, not-false, not-true}
use Rattle.std.proofs.lemmas.List.{take-append-drop, get_or-take, get_or-drop, drop_more, drop_all, length-take-le, length-drop, append-nil}
use Rattle.std.proofs.lemmas.List.Sums.{fails_before_first, passes_at_first, prefix_len-le-length}
use Rattle.std.proofs.lemmas.List.Elements.{All-from_get_or, All-head, All-tail, All-weaker}
use Rattle.std.proofs.lemmas.List.Splits.{slice_split-cons_yes, slice_split_none, slice_split_at}
use Rattle.j_definitions.specs.Bytes.{is_blank}
use Rattle.j_numbers.specs.Numbers.{is_empty, parts}

-- whether a list is empty or begins with an element that passes
abbrev pub begins : (ℕ → Bool) → List ℕ → Bool
begins p [] = true
begins p (y ∷ ys) = p y

pub digits_all : (xs : List ℕ) → list_all is_ascii_digit xs ≡ all_ascii_digits xs
digits_all [] = refl
digits_all (x ∷ xs) = ap (λ r. is_ascii_digit x && r) (digits_all xs)

pub place_within : (p : ℕ → Bool) (xs : List ℕ) → position_or_len p xs ≤ length xs
place_within p xs = prefix_len-le-length (λ x. not (p x)) xs

-- nothing passes before the first place, and what stands from there on begins with what passes
pub front_fails : (p : ℕ → Bool) (xs : List ℕ) → All (λ x. p x ≡ false) (take (position_or_len p xs) xs)
front_fails p xs =
    All-from_get_or (λ x. p x ≡ false) (take (position_or_len p xs) xs) 0
    (λ i h. let e : length (take (position_or_len p xs) xs) ≡ position_or_len p xs = length-take-le (position_or_len p xs) xs (place_within p xs) in
    let l : i < position_or_len p xs = omega arith in
    rw get_or-take (fails_before_first p xs i 0 l))

begins_drop : (p : ℕ → Bool) (xs : List ℕ) (n : ℕ) → (n < length xs → p (get_or xs n 0) ≡ true) → begins p (drop n xs) ≡ true
begins_drop p xs n h =
    ⊎_elim (λ l. let e : drop n xs ≡ get_or xs n 0 ∷ drop (n + 1) xs = drop_more xs n 0 l in subst (λ ys. begins p ys ≡ true) (sym e) (h l))
    (λ g. let e : drop n xs ≡ [] = drop_all n xs g in subst (λ ys. begins p ys ≡ true) (sym e) refl)
    (cases_lt n (length xs))

pub rest_begins : (p : ℕ → Bool) (xs : List ℕ) → begins p (drop (position_or_len p xs) xs) ≡ true
rest_begins p xs = begins_drop p xs (position_or_len p xs) (passes_at_first p xs 0)

-- the first place is after one up to which nothing passes
pub place_after : (p : ℕ → Bool) (xs : List ℕ) (i : ℕ) → i < length xs → ((k : ℕ) → k ≤ i → p (get_or xs k 0) ≡ false) → i < position_or_len p xs
place_after p xs i l before =
    ⊎_elim (λ h. h)
    (λ g. absurd (true≢false (sym (passes_at_first p xs 0 (omega arith)) ∙ before (position_or_len p xs) g)))
    (cases_lt i (position_or_len p xs))

abbrev pub is_nonblank : ℕ → Bool
is_nonblank b = not (is_blank b)

nonempty : List (List ℕ) → List (List ℕ)
nonempty ps = filter (λ part. not (is_empty part)) ps

parts_skip : (t rest : List ℕ) → All (λ b. is_blank b ≡ true) t → parts (t ++ rest) ≡ parts rest
unfolding nonempty
parts_skip [] rest a = refl
parts_skip (b ∷ t) rest a =
    ap nonempty (slice_split-cons_yes is_blank b (t ++ rest) (All-head (λ b. is_blank b ≡ true) b t a)) ∙ parts_skip t rest (All-tail (λ b. is_blank b ≡ true) b t a)

parts_front : (t rest : List ℕ) → 0 < length t → All (λ b. is_blank b ≡ false) t → begins is_blank rest ≡ true → parts (t ++ rest) ≡ t ∷ parts rest
unfolding nonempty
parts_front [] rest l a h = absurd (omega arith)
parts_front (b ∷ t) [] l a h =
    ap parts (append-nil (b ∷ t)) ∙ ap nonempty (slice_split_none is_blank (b ∷ t) a)
parts_front (b ∷ t) (y ∷ ys) l a h =
    ap nonempty (slice_split_at is_blank (b ∷ t) y ys a h) ∙ ap (λ ps. (b ∷ t) ∷ ps) (sym (ap nonempty (slice_split-cons_yes is_blank y ys h)))

pub blanks_front : (text : List ℕ) → All (λ b. is_blank b ≡ true) (take (position_or_len is_nonblank text) text)
blanks_front text =
    All-weaker (λ b. not (is_blank b) ≡ false) (λ b. is_blank b ≡ true) (λ b h. not-false (is_blank b) h) (take (position_or_len is_nonblank text) text) (front_fails is_nonblank text)

parts_skipped : (text : List ℕ) → parts text ≡ parts (drop (position_or_len is_nonblank text) text)
parts_skipped text =
    let n = position_or_len is_nonblank text in
    ap parts (sym (take-append-drop n text)) ∙ parts_skip (take n text) (drop n text) (blanks_front text)

pub no_part : (text : List ℕ) (n : ℕ) → n ≡ position_or_len is_nonblank text → length text ≤ n → parts text ≡ []
no_part text n e l =
    parts_skipped text ∙ ap parts (drop_all (position_or_len is_nonblank text) text (omega arith))

parts_from : (rest : List ℕ) → 0 < length rest → is_blank (get_or rest 0 0) ≡ false → (parts rest ≡ take (position_or_len is_blank rest) rest ∷ parts (drop (position_or_len is_blank rest) rest)) × (0 < position_or_len is_blank rest)
parts_from rest l h =
    let n = position_or_len is_blank rest in
    let some : 0 < n = place_after is_blank rest 0 l (λ k g. let e : k ≡ 0 = omega arith in subst (λ i. is_blank (get_or rest i 0) ≡ false) (sym e) h) in
    let long : length (take n rest) ≡ n = length-take-le n rest (place_within is_blank rest) in
    (ap parts (sym (take-append-drop n rest)) ∙ parts_front (take n rest) (drop n rest) (omega arith) (front_fails is_blank rest) (rest_begins is_blank rest), some)

part_at : (text : List ℕ) (start : ℕ) (rest : List ℕ) (n : ℕ) → start ≡ position_or_len is_nonblank text → start < length text → rest ≡ drop start text → n ≡ position_or_len is_blank rest → (parts text ≡ take n rest ∷ parts (drop n rest)) × (length (drop n rest) < length text)
part_at text start rest n e l r m =
    let at : not (is_blank (get_or text start 0)) ≡ true = subst (λ i. not (is_blank (get_or text i 0)) ≡ true) (sym e) (passes_at_first is_nonblank text 0 (omega arith)) in
    let head : get_or rest 0 0 ≡ get_or text start 0 = ap (λ xs. get_or xs 0 0) r ∙ get_or-drop start text 0 0 ∙ ap (λ i. get_or text i 0) (add-zero start) in
    let dark : is_blank (get_or rest 0 0) ≡ false = ap is_blank head ∙ not-true (is_blank (get_or text start 0)) at in
    let long : length rest ≡ length text - start = ap length r ∙ length-drop start text in
    let both = parts_from rest (omega arith) dark in (
      parts_skipped text ∙ ap (λ i. parts (drop i text)) (sym e) ∙ ap parts (sym r) ∙ both.0 ∙ ap (λ i. take i rest ∷ parts (drop i rest)) (sym m),
      omega (arith, both.1, m, length-drop n rest),
    )

-- the first part, after the blanks before it
pub next_part : (text : List ℕ) (start : ℕ) (rest : List ℕ) (n : ℕ) (front back : List ℕ) → start ≡ position_or_len is_nonblank text → start < length text → rest ≡ drop start text → n ≡ position_or_len is_blank rest → front ≡ take n rest → back ≡ drop n rest → (parts text ≡ front ∷ parts back) × (length back < length text)
next_part text start rest n front back e l r m f b =
    let both = part_at text start rest n e l r m in
    (both.0 ∙ ap (λ xs. xs ∷ parts (drop n rest)) (sym f) ∙ ap (λ xs. front ∷ parts xs) (sym b), subst (λ (xs : List ℕ). length xs < length text) (sym b) both.1)
