-- The first line of a text.
use Rattle.std.proofs.Common.{◌≡◌, ◌<◌, ◌≤◌, ◌+◌, List, ℕ, ◌++◌, [], ◌∷◌, ◌==◌, true, false, refl, ap, sym, ◌∙◌, take, drop, length, get_or, arith}
use Rattle.std.specs.Prelude.{cond}
use Rattle.std.specs.List.{All, slice_split}
use Rattle.std.specs.Str.Lines.{lines, lines_of_parts, strip_carriage_return}
use Rattle.std.proofs.lemmas.Bool.{ne_eqb, false_from_ne_true}
use Rattle.std.proofs.lemmas.List.{take-append-drop, drop_more, get_or-take, get_or_default, length-take-le}
use Rattle.std.proofs.lemmas.List.Splits.{slice_split_at, slice_split_none, length-slice_split}

lines_of_parts-cons : (x : List ℕ) (parts : List (List ℕ)) → 0 < length parts → lines_of_parts (x ∷ parts) ≡ strip_carriage_return x ∷ lines_of_parts parts
lines_of_parts-cons x [] h = absurd (omega arith)
lines_of_parts-cons x (y ∷ more) h = refl

-- a line that ends before a line feed
pub lines_at : (text : List ℕ) (i : ℕ) → i < length text → get_or text i 0 ≡ 10 → All (λ b. (b == 10) ≡ false) (take i text)
    → lines text ≡ strip_carriage_return (take i text) ∷ lines (drop (i + 1) text)
lines_at text i lt e none =
    let p = λ (b : ℕ). b == 10 in
    let front = take i text in
    let after = drop (i + 1) text in
    let parted : text ≡ front ++ 10 ∷ after = sym (ap (λ ys. front ++ ys) (ap (λ b. b ∷ after) (sym e) ∙ sym (drop_more text i 0 lt)) ∙ take-append-drop i text) in
    ap lines parted ∙ ap lines_of_parts (slice_split_at p front 10 after none refl)
    ∙ lines_of_parts-cons front (slice_split p after) (omega (arith, length-slice_split p after))

-- a last line
pub lines_last : (text : List ℕ) → 0 < length text → All (λ b. (b == 10) ≡ false) text → lines text ≡ text ∷ []
lines_last text some none =
    ap lines_of_parts (slice_split_none (λ b. b == 10) text none) ∙ ap (λ t. cond t [] (text ∷ [])) (ne_eqb (length text) 0 (λ z. omega arith))

-- no line feed before that place
pub none_before : (text : List ℕ) (i : ℕ) → i ≤ length text → ((k : ℕ) → 0 ≤ k → k < i → (get_or text k 0 == 10) ≡ true → ⊥) → All (λ b. (b == 10) ≡ false) (take i text)
none_before text i le none = λ k d lt.
    let short : k < i = omega (arith, length-take-le i text le) in
    let within : k < length text = omega arith in
    let same : get_or (take i text) k d ≡ get_or text k 0 = get_or-take i text k d short ∙ get_or_default text k d 0 within in
    ap (λ b. b == 10) same ∙ false_from_ne_true (get_or text k 0 == 10) (none k (omega arith) short)

pub none_within : (text : List ℕ) → ((k : ℕ) → 0 ≤ k → k < length text → (get_or text k 0 == 10) ≡ true → ⊥) → All (λ b. (b == 10) ≡ false) text
none_within text none = λ k d lt.
    ap (λ b. b == 10) (get_or_default text k d 0 lt) ∙ false_from_ne_true (get_or text k 0 == 10) (none k (omega arith) lt)
