-- Bytes as loops go over them.
use Rattle.std.proofs.Common.{◌≡◌, ℕ, zero, suc, ◌+◌, ◌-◌, ◌<◌, ◌≤◌, ◌==◌, ◌||◌, ◌&&◌, Bool, true, false, cond, List, [], ◌∷◌, ◌++◌, length, take, drop, get_or, Option, Some, None, refl, sym, ap, ◌∙◌, subst, ⊎_elim, arith}
use Rattle.std.specs.List.{list_any, All}
use Rattle.std.specs.Str.{bytes_eq}
use Rattle.std.proofs.lemmas.Bool.{ne_eqb, eqb-true, cases_lt, true≢false}
use Rattle.std.proofs.lemmas.List.{take-append-drop, drop_more, drop_all, get_or-take, get_or-drop, length-take-le, length-drop, drop-drop, take_rest, get_or_default}
use Rattle.std.proofs.lemmas.List.Splits.{slice_split_at, slice_split_none}
use Rattle.memchr.specs.Find.{IsFirstByte, is_byte}
use Rattle.j_words.specs.Forms.{further, text_bytes}
use Rattle.j_words.specs.Names.{begins_low, ends_low, double_at, low_here, last_low}
use Rattle.j_words.specs.Vocabulary.{is_among}

-- a text's bytes from a place on
pub further_none : (o : Option ℕ) → further 0 o ≡ o
further_none None = refl
further_none (Some n) = ap Some (omega arith)

further_more : (i k : ℕ) (o : Option ℕ) → further i (further k o) ≡ further (i + k) o
further_more i k None = refl
further_more i k (Some n) = ap Some (omega arith)

pub other_byte : (b : ℕ) (bs : List ℕ) → (b == 39) ≡ false → text_bytes (b ∷ bs) ≡ further 1 (text_bytes bs)
other_byte b [] e = ap (λ t. cond t (Some 1) None) e
other_byte b (c ∷ bs) e = ap (λ t. cond t (cond (c == 39) (further 2 (text_bytes bs)) (Some 1)) (further 1 (text_bytes (c ∷ bs)))) e

text_other : (bs : List ℕ) (i : ℕ) → i < length bs → (get_or bs i 0 ≡ 39 → ⊥) → further i (text_bytes (drop i bs)) ≡ further (i + 1) (text_bytes (drop (i + 1) bs))
text_other bs i l h =
    ap (λ xs. further i (text_bytes xs)) (drop_more bs i 0 l) ∙ ap (further i) (other_byte (get_or bs i 0) (drop (i + 1) bs) (ne_eqb (get_or bs i 0) 39 h)) ∙ further_more i 1 (text_bytes (drop (i + 1) bs))

two_more : (bs : List ℕ) (i : ℕ) → i + 1 < length bs → drop i bs ≡ get_or bs i 0 ∷ get_or bs (i + 1) 0 ∷ drop (i + 2) bs
two_more bs i l =
    let e : i + 1 + 1 ≡ i + 2 = omega arith in
    drop_more bs i 0 (omega arith) ∙ ap (λ xs. get_or bs i 0 ∷ xs) (drop_more bs (i + 1) 0 l ∙ ap (λ n. get_or bs (i + 1) 0 ∷ drop n bs) e)

text_doubled : (bs : List ℕ) (i : ℕ) → i + 1 < length bs → get_or bs i 0 ≡ 39 → get_or bs (i + 1) 0 ≡ 39 → further i (text_bytes (drop i bs)) ≡ further (i + 2) (text_bytes (drop (i + 2) bs))
text_doubled bs i l h g =
    ap (λ xs. further i (text_bytes xs)) (two_more bs i l ∙ ap (λ b. b ∷ get_or bs (i + 1) 0 ∷ drop (i + 2) bs) h ∙ ap (λ c. 39 ∷ c ∷ drop (i + 2) bs) g) ∙ further_more i 2 (text_bytes (drop (i + 2) bs))

text_closed : (bs : List ℕ) (i : ℕ) → i + 1 < length bs → get_or bs i 0 ≡ 39 → (get_or bs (i + 1) 0 ≡ 39 → ⊥) → further i (text_bytes (drop i bs)) ≡ Some (i + 1)
text_closed bs i l h g =
    ap (λ xs. further i (text_bytes xs)) (two_more bs i l ∙ ap (λ b. b ∷ get_or bs (i + 1) 0 ∷ drop (i + 2) bs) h)
    ∙ ap (λ t. further i (cond t (further 2 (text_bytes (drop (i + 2) bs))) (Some 1))) (ne_eqb (get_or bs (i + 1) 0) 39 g)

text_ended : (bs : List ℕ) (i : ℕ) → i < length bs → length bs ≤ i + 1 → get_or bs i 0 ≡ 39 → further i (text_bytes (drop i bs)) ≡ Some (i + 1)
text_ended bs i l m h =
    ap (λ xs. further i (text_bytes xs)) (drop_more bs i 0 l ∙ ap (λ xs. get_or bs i 0 ∷ xs) (drop_all (i + 1) bs m) ∙ ap (λ b. b ∷ []) h)

-- no quote among the n bytes from i on
clear_run : (bs : List ℕ) (i n : ℕ) → i + n ≤ length bs → ((k : ℕ) → 0 ≤ k → k < n → (get_or (drop i bs) k 0 == 39) ≡ true → ⊥) → further i (text_bytes (drop i bs)) ≡ further (i + n) (text_bytes (drop (i + n) bs))
clear_run bs i zero l none = ap (λ m. further m (text_bytes (drop m bs))) (omega arith)
clear_run bs i (suc n) l none =
    clear_run bs i n (omega arith) (λ k a b. none k a (omega arith))
    ∙ text_other bs (i + n) (omega arith) (λ e. none n (omega arith) (omega arith) (ap (λ b. b == 39) (get_or-drop i bs n 0 ∙ e)))
    ∙ ap (λ m. further m (text_bytes (drop m bs))) (omega arith)

-- the first quote from i on, n bytes behind it
pub first_doubled : (bs : List ℕ) (i n : ℕ) → IsFirstByte (is_byte 39) (drop i bs) (Some n) → i + n + 1 < length bs → get_or bs (i + n + 1) 0 ≡ 39 → further i (text_bytes (drop i bs)) ≡ further (i + n + 1 + 1) (text_bytes (drop (i + n + 1 + 1) bs))
first_doubled bs i n found l g =
    clear_run bs i n (omega arith) found.0.before ∙ text_doubled bs (i + n) l (sym (get_or-drop i bs n 0) ∙ eqb-true _ 39 found.1) g
    ∙ ap (λ m. further m (text_bytes (drop m bs))) (omega arith)

pub first_closed : (bs : List ℕ) (i n : ℕ) → IsFirstByte (is_byte 39) (drop i bs) (Some n) → i + n + 1 < length bs → (get_or bs (i + n + 1) 0 ≡ 39 → ⊥) → further i (text_bytes (drop i bs)) ≡ Some (i + n + 1)
first_closed bs i n found l g =
    clear_run bs i n (omega arith) found.0.before ∙ text_closed bs (i + n) l (sym (get_or-drop i bs n 0) ∙ eqb-true _ 39 found.1) g

pub first_ended : (bs : List ℕ) (i n : ℕ) → IsFirstByte (is_byte 39) (drop i bs) (Some n) → i + n + 1 ≡ length bs → further i (text_bytes (drop i bs)) ≡ Some (i + n + 1)
first_ended bs i n found l =
    clear_run bs i n (omega arith) found.0.before ∙ text_ended bs (i + n) (omega arith) (omega arith) (sym (get_or-drop i bs n 0) ∙ eqb-true _ 39 found.1)

pub text_open : (bs : List ℕ) (i : ℕ) → i ≤ length bs → IsFirstByte (is_byte 39) (drop i bs) None → further i (text_bytes (drop i bs)) ≡ None
text_open bs i l none =
    clear_run bs i (length bs - i) (omega arith) (λ k a b. none k a (omega (arith, length-drop i bs)))
    ∙ ap (λ xs. further (i + (length bs - i)) (text_bytes xs)) (drop_all (i + (length bs - i)) bs (omega arith))

-- the first `__`
pub low_first : (bs : List ℕ) (n : ℕ) → begins_low (drop n bs) ≡ true → n < length bs
low_first bs n h = ⊎_elim (λ l. l) (λ g. absurd (true≢false (sym h ∙ ap begins_low (drop_all n bs g)))) (cases_lt n (length bs))

pub double_more : (bs : List ℕ) (i : ℕ) → i < length bs → ((get_or bs i 0 == 95) && begins_low (drop (i + 1) bs)) ≡ false → i + double_at (drop i bs) ≡ i + 1 + double_at (drop (i + 1) bs)
double_more bs i l h =
    ap (λ xs. i + double_at xs) (drop_more bs i 0 l) ∙ ap (λ t. i + cond t 0 (suc (double_at (drop (i + 1) bs)))) h ∙ omega arith

pub double_found : (bs : List ℕ) (i : ℕ) → i < length bs → get_or bs i 0 ≡ 95 → begins_low (drop (i + 1) bs) ≡ true → i + double_at (drop i bs) ≡ i
double_found bs i l h g =
    ap (λ xs. i + double_at xs) (drop_more bs i 0 l) ∙ ap (λ b. i + cond ((b == 95) && begins_low (drop (i + 1) bs)) 0 (suc (double_at (drop (i + 1) bs)))) h ∙ ap (λ t. i + cond t 0 (suc (double_at (drop (i + 1) bs)))) g ∙ omega arith

pub double_none : (bs : List ℕ) (i : ℕ) → length bs ≤ i → i + double_at (drop i bs) ≡ i
double_none bs i l = ap (λ xs. i + double_at xs) (drop_all i bs l) ∙ omega arith

-- the last `_`
abbrev pub later : Option ℕ → ℕ → Option ℕ → Option ℕ
later old i None = old
later old i (Some n) = Some (i + n)

pub later_none : (o : Option ℕ) → later None 0 o ≡ o
later_none None = refl
later_none (Some n) = ap Some (omega arith)

later_yes : (old : Option ℕ) (i : ℕ) (o : Option ℕ) → later old i (low_here true o) ≡ later (Some i) (i + 1) o
later_yes old i None = ap Some (omega arith)
later_yes old i (Some n) = ap Some (omega arith)

later_no : (old : Option ℕ) (i : ℕ) (o : Option ℕ) → later old i (low_here false o) ≡ later old (i + 1) o
later_no old i None = refl
later_no old i (Some n) = ap Some (omega arith)

pub low_more : (bs : List ℕ) (old : Option ℕ) (i : ℕ) → i < length bs → get_or bs i 0 ≡ 95 → later old i (last_low (drop i bs)) ≡ later (Some i) (i + 1) (last_low (drop (i + 1) bs))
low_more bs old i l h =
    ap (λ xs. later old i (last_low xs)) (drop_more bs i 0 l) ∙ ap (λ b. later old i (low_here (b == 95) (last_low (drop (i + 1) bs)))) h ∙ later_yes old i (last_low (drop (i + 1) bs))

pub low_other : (bs : List ℕ) (old : Option ℕ) (i : ℕ) → i < length bs → (get_or bs i 0 ≡ 95 → ⊥) → later old i (last_low (drop i bs)) ≡ later old (i + 1) (last_low (drop (i + 1) bs))
low_other bs old i l h =
    ap (λ xs. later old i (last_low xs)) (drop_more bs i 0 l) ∙ ap (λ t. later old i (low_here t (last_low (drop (i + 1) bs)))) (ne_eqb (get_or bs i 0) 95 h) ∙ later_no old i (last_low (drop (i + 1) bs))

pub low_end : (bs : List ℕ) (old : Option ℕ) (i : ℕ) → length bs ≤ i → later old i (last_low (drop i bs)) ≡ old
low_end bs old i l = ap (λ xs. later old i (last_low xs)) (drop_all i bs l)

pub low_none : (bs : List ℕ) → length bs ≡ 0 → ends_low bs ≡ false
low_none [] h = refl
low_none (b ∷ bs) h = absurd (omega arith)

pub low_last : (bs : List ℕ) → 0 < length bs → ends_low bs ≡ (get_or bs (length bs - 1) 0 == 95)
low_last [] h = absurd (omega arith)
low_last (b ∷ []) h = refl
low_last (b ∷ c ∷ bs) h =
    let e : suc (length (c ∷ bs) - 1) ≡ length (b ∷ c ∷ bs) - 1 = omega arith in
    low_last (c ∷ bs) (omega arith) ∙ ap (λ n. get_or (b ∷ c ∷ bs) n 0 == 95) e

-- the words of a text
none_between : (text : List ℕ) (s n : ℕ) → s + n ≤ length text → ((k : ℕ) → s ≤ k → k < s + n → (get_or text k 0 ≡ 32 → ⊥)) → All (λ b. (b == 32) ≡ false) (take n (drop s text))
none_between text s n m none = λ k d lt.
    let short : k < n = omega (arith, length-take-le n (drop s text) (omega (arith, length-drop s text))) in
    let same : get_or (take n (drop s text)) k d ≡ get_or text (s + k) 0 = get_or-take n (drop s text) k d short ∙ get_or-drop s text k d ∙ get_or_default text (s + k) d 0 (omega arith) in
    ap (λ b. b == 32) same ∙ ne_eqb (get_or text (s + k) 0) 32 (none (s + k) (omega arith) (omega arith))

parted : (text : List ℕ) (s n : ℕ) → s + n < length text → get_or text (s + n) 0 ≡ 32 → drop s text ≡ take n (drop s text) ++ 32 ∷ drop (s + n + 1) text
parted text s n l e =
    sym (take-append-drop n (drop s text)) ∙ ap (λ xs. take n (drop s text) ++ xs) (drop-drop n s text ∙ drop_more text (s + n) 0 l ∙ ap (λ b. b ∷ drop (s + n + 1) text) e)

pub among_more : (word text : List ℕ) (s n : ℕ) → s + n < length text → ((k : ℕ) → s ≤ k → k < s + n → (get_or text k 0 ≡ 32 → ⊥)) → get_or text (s + n) 0 ≡ 32
    → is_among word (drop s text) ≡ (bytes_eq (take n (drop s text)) word || is_among word (drop (s + n + 1) text))
among_more word text s n l none e =
    ap (is_among word) (parted text s n l e) ∙ ap (list_any (λ w. bytes_eq w word)) (slice_split_at (λ b. b == 32) (take n (drop s text)) 32 (drop (s + n + 1) text) (none_between text s n (omega arith) none) refl)

pub among_here : (word text : List ℕ) (s i : ℕ) → s ≤ i → i < length text → ((k : ℕ) → s ≤ k → k < i → (get_or text k 0 ≡ 32 → ⊥)) → get_or text i 0 ≡ 32
    → bytes_eq (take (i - s) (drop s text)) word ≡ true → is_among word (drop s text) ≡ true
among_here word text s i m l none e h =
    let at : s + (i - s) ≡ i = omega arith in
    among_more word text s (i - s) (omega arith) (λ k a b. none k a (omega arith)) (ap (λ n. get_or text n 0) at ∙ e) ∙ ap (λ t. t || is_among word (drop (s + (i - s) + 1) text)) h

pub among_step : (word text : List ℕ) (s i : ℕ) → s ≤ i → i < length text → ((k : ℕ) → s ≤ k → k < i → (get_or text k 0 ≡ 32 → ⊥)) → get_or text i 0 ≡ 32
    → bytes_eq (take (i - s) (drop s text)) word ≡ false → is_among word (drop s text) ≡ is_among word (drop (i + 1) text)
among_step word text s i m l none e h =
    let at : s + (i - s) ≡ i = omega arith in
    among_more word text s (i - s) (omega arith) (λ k a b. none k a (omega arith)) (ap (λ n. get_or text n 0) at ∙ e) ∙ ap (λ t. t || is_among word (drop (s + (i - s) + 1) text)) h
    ∙ ap (λ n. is_among word (drop (n + 1) text)) at

or_false : (b : Bool) → (b || false) ≡ b
or_false true = refl
or_false false = refl

pub among_last : (word text : List ℕ) (s : ℕ) → s ≤ length text → ((k : ℕ) → s ≤ k → k < length text → (get_or text k 0 ≡ 32 → ⊥)) → is_among word (drop s text) ≡ bytes_eq (drop s text) word
among_last word text s m none =
    let all : All (λ b. (b == 32) ≡ false) (drop s text) = subst (All (λ b. (b == 32) ≡ false)) (take_rest text s) (none_between text s (length text - s) (omega arith) (λ k a b. none k a (omega arith))) in
    ap (list_any (λ w. bytes_eq w word)) (slice_split_none (λ b. b == 32) (drop s text) all) ∙ or_false (bytes_eq (drop s text) word)
