-- The rows of numbers as one noun of characters.
use Rattle.std.proofs.Common.{◌≡◌, ℕ, ◌+◌, ◌*◌, ◌<◌, List, [], ◌∷◌, ◌++◌, length, map, take, drop, replicate, refl, sym, ap, ◌∙◌, subst, arith, Result, Err}
use Prim.Native.Nat.{zero, suc}
use Rattle.std.specs.List.{flat_map, range_with_len}
use Rattle.std.proofs.lemmas.List.{append-nil, length-append, length-map}
use Rattle.std.proofs.lemmas.List.Concat.{flat_map-append}
use Rattle.std.proofs.Math.Nat.{add-mul}
use Rattle.j_definitions.specs.Array.{Array, Atom, byte, product}
use Rattle.j_definitions.specs.Limits.{limited}
use Rattle.j_definitions.specs.declared.Fault.TheVariants.{Limit}
use Rattle.j_definitions.specs.declared.Kind.{Kind}
use Rattle.j_definitions.specs.declared.Kind.TheVariants.{Number, Character}
use Rattle.j_definitions.proofs.Limits.{many_beyond}
use Rattle.j_noun.specs.Viewed.{viewed, kind_viewed}
use Rattle.j_display.specs.Rows.{pieces, line_frame, line_length, line_row, line_rows, column_widths, width_of}
use Rattle.j_display.specs.declared.lines.Lines.{Lines}
use Rattle.j_display.specs.Lines.{row_at}
use Rattle.j_display.specs.Formatted.{number_rows, row_characters, formatted_as, formatted}
use Rattle.j_display.proofs.Bounds.{product-append}
use Rattle.j_noun.specs.Refused.{OrWanting}
use Rattle.j_noun.specs.declared.refusal.Refusal.{Refusal}
use Rattle.j_display.proofs.LeafRows.{width-empties}
use Rattle.j_display.proofs.Maxima.{range-push}

flat_of : (f : ℕ → List ℕ) (ks : List ℕ) → flat_map f ks ≡ flat_map (λ row. row) (map f ks)
flat_of f [] = refl
flat_of f (k ∷ ks) = ap (λ t. f k ++ t) (flat_of f ks)

map_map : {X Y Z : Type 0} (f : Y → Z) (g : X → Y) (xs : List X) → map f (map g xs) ≡ map (λ x. f (g x)) xs
map_map f g [] = refl
map_map f g (x ∷ xs) = ap (λ r. f (g x) ∷ r) (map_map f g xs)

-- the lines as they are kept give those rows
pub kept_rows : (l : Lines) (s : List ℕ) (count : ℕ) → count ≡ product (line_frame s) → l.columns ≡ line_length s → kind_viewed l.atoms ≡ Number → l.widths.now ≡ column_widths l.columns (pieces count l.columns (viewed l.atoms)) →
    map (row_at l) (range_with_len 0 count) ≡ number_rows s (viewed l.atoms)
kept_rows l s count ep ec ek ew =
    ap (λ k. map (λ i. line_row k l.widths.now (take l.columns (drop (i * l.columns) (viewed l.atoms)))) (range_with_len 0 count)) ek
    ∙ ap (λ ws. map (λ i. line_row Number ws (take l.columns (drop (i * l.columns) (viewed l.atoms)))) (range_with_len 0 count)) ew
    ∙ sym (map_map (line_row Number (column_widths l.columns (pieces count l.columns (viewed l.atoms)))) (λ i. take l.columns (drop (i * l.columns) (viewed l.atoms))) (range_with_len 0 count))
    ∙ ap (λ n. line_rows Number n (pieces count n (viewed l.atoms))) ec ∙ ap (λ p. line_rows Number (line_length s) (pieces p (line_length s) (viewed l.atoms))) ep

all_wide : (f : ℕ → List ℕ) (a n w : ℕ) → ((k : ℕ) → k < a + suc n → length (f k) ≡ w) → width_of (map f (range_with_len a (suc n))) ≡ w
all_wide f a zero w h = omega (arith, h a (omega arith))
all_wide f a (suc n) w h = omega (arith, h a (omega arith), all_wide f (a + 1) n w (λ k g. h k (omega arith)))

rows_width : (f : ℕ → List ℕ) (n w : ℕ) → 0 < n → ((k : ℕ) → k < n → length (f k) ≡ w) → width_of (map f (range_with_len 0 n)) ≡ w
rows_width f zero w some h = absurd (omega arith)
rows_width f (suc n) w some h = all_wide f 0 n w (λ k g. h k (omega arith))

pub flat_many : (f : ℕ → List ℕ) (a n w : ℕ) → ((k : ℕ) → k < a + n → length (f k) ≡ w) → length (flat_map f (range_with_len a n)) ≡ n * w
flat_many f a zero w h = omega arith
flat_many f a (suc n) w h =
    let more : suc n * w ≡ n * w + 1 * w = ap (λ m. m * w) (let one : suc n ≡ n + 1 = omega arith in one) ∙ add-mul n 1 w in
    omega (arith, length-append (f a) (flat_map f (range_with_len (a + 1) n)), h a (omega arith), flat_many f (a + 1) n w (λ k g. h k (omega arith)))

pub flat_push : (f : ℕ → List ℕ) (k : ℕ) → flat_map f (range_with_len 0 (k + 1)) ≡ flat_map f (range_with_len 0 k) ++ f k
flat_push f k =
    ap (flat_map f) (range-push 0 k) ∙ flat_map-append f (range_with_len 0 k) ((0 + k) ∷ []) ∙ ap (λ t. flat_map f (range_with_len 0 k) ++ t) (append-nil (f (0 + k)))
    ∙ ap (λ i. flat_map f (range_with_len 0 k) ++ f i) (let e : 0 + k ≡ k = omega arith in e)

-- the noun of a shape and characters
abbrev pub characters_of : List ℕ → List ℕ → Array
characters_of s bs = record { kind = Character; shape = s; atoms = map byte bs }

pub formatted_is : (l : Lines) (s frame : List ℕ) (count size : ℕ) → frame ≡ line_frame s → count ≡ product (line_frame s) → l.columns ≡ line_length s → 0 < count → kind_viewed l.atoms ≡ Number →
    l.widths.now ≡ column_widths l.columns (pieces count l.columns (viewed l.atoms)) → ((k : ℕ) → k < count → length (row_at l k) ≡ size) →
    characters_of (frame ++ size ∷ []) (flat_map (row_at l) (range_with_len 0 count)) ≡ row_characters s (number_rows s (viewed l.atoms))
formatted_is l s frame count size ef ep ec some ek ew many =
    let rows = kept_rows l s count ep ec ek ew in
    let width : size ≡ width_of (number_rows s (viewed l.atoms)) = sym (rows_width (row_at l) count size some many) ∙ ap width_of rows in
    let text : flat_map (row_at l) (range_with_len 0 count) ≡ flat_map (λ row. row) (number_rows s (viewed l.atoms)) = flat_of (row_at l) (range_with_len 0 count) ∙ ap (flat_map (λ row. row)) rows in
    ap (λ f. characters_of (f ++ size ∷ []) (flat_map (row_at l) (range_with_len 0 count))) ef ∙ ap (λ w. characters_of (line_frame s ++ w ∷ []) (flat_map (row_at l) (range_with_len 0 count))) width
    ∙ ap (characters_of (line_frame s ++ width_of (number_rows s (viewed l.atoms)) ∷ [])) text

pub formatted_beyond : (l : Lines) (s : List ℕ) (count size : ℕ) → count ≡ product (line_frame s) → l.columns ≡ line_length s → kind_viewed l.atoms ≡ Number → l.widths.now ≡ column_widths l.columns (pieces count l.columns (viewed l.atoms)) →
    ((k : ℕ) → k < count → length (row_at l k) ≡ size) → 4194304 < count * size → limited (row_characters s (number_rows s (viewed l.atoms))) ≡ Err Limit
formatted_beyond l s count size ep ec ek ew many h =
    let rows = kept_rows l s count ep ec ek ew in
    let text : flat_map (row_at l) (range_with_len 0 count) ≡ flat_map (λ row. row) (number_rows s (viewed l.atoms)) = flat_of (row_at l) (range_with_len 0 count) ∙ ap (flat_map (λ row. row)) rows in
    let size_is : length (flat_map (λ row. row) (number_rows s (viewed l.atoms))) ≡ count * size = sym (ap length text) ∙ flat_many (row_at l) 0 count size (λ k g. many k (omega arith)) in
    many_beyond (row_characters s (number_rows s (viewed l.atoms))) (omega (arith, length-map (flat_map (λ row. row) (number_rows s (viewed l.atoms))) byte))

pub product-last : (frame : List ℕ) (w n : ℕ) → product frame * w ≡ n → n ≡ product (frame ++ w ∷ [])
product-last frame w n e = sym (product-append frame (w ∷ []) ∙ ap (λ m. product frame * m) (let one : w * 1 ≡ w = omega arith in one) ∙ e)

-- without numbers
take_nothing : (n k : ℕ) (xs : List Atom) → length xs ≡ 0 → take n (drop k xs) ≡ []
take_nothing n k (x ∷ xs) h = absurd (omega arith)
take_nothing zero zero [] h = refl
take_nothing zero (suc k) [] h = refl
take_nothing (suc n) zero [] h = refl
take_nothing (suc n) (suc k) [] h = refl

row_nothing : (ws : List ℕ) (xs : List Atom) → xs ≡ [] → line_row Number ws xs ≡ []
row_nothing [] xs h = ap (line_row Number []) h
row_nothing (w ∷ ws) xs h = ap (line_row Number (w ∷ ws)) h

rows_nothing : (ws : List ℕ) (n a p : ℕ) (xs : List Atom) → length xs ≡ 0 → map (line_row Number ws) (map (λ k. take n (drop (k * n) xs)) (range_with_len a p)) ≡ replicate p []
rows_nothing ws n a zero xs h = refl
rows_nothing ws n a (suc p) xs h =
    ap (λ r. r ∷ map (line_row Number ws) (map (λ k. take n (drop (k * n) xs)) (range_with_len (a + 1) p))) (row_nothing ws (take n (drop (a * n) xs)) (take_nothing n (a * n) xs h))
    ∙ ap (λ t. [] ∷ t) (rows_nothing ws n (a + 1) p xs h)

flat_nothing : (p : ℕ) → flat_map (λ (row : List ℕ). row) (replicate p []) ≡ []
flat_nothing zero = refl
flat_nothing (suc p) = flat_nothing p

pub no_characters : (s frame : List ℕ) (xs : List Atom) → frame ≡ line_frame s → length xs ≡ 0 → characters_of (frame ++ 0 ∷ []) [] ≡ row_characters s (number_rows s xs)
no_characters s frame xs ef h =
    let p : ℕ = product (line_frame s) in
    let n : ℕ = line_length s in
    let rows : number_rows s xs ≡ replicate p [] = rows_nothing (column_widths n (pieces p n xs)) n 0 p xs h in
    let width : 0 ≡ width_of (number_rows s xs) = sym (ap width_of rows ∙ width-empties p) in
    let text : [] ≡ flat_map (λ row. row) (number_rows s xs) = sym (ap (flat_map (λ row. row)) rows ∙ flat_nothing p) in
    ap (λ f. characters_of (f ++ 0 ∷ []) []) ef ∙ ap (λ w. characters_of (line_frame s ++ w ∷ []) []) width ∙ ap (characters_of (line_frame s ++ width_of (number_rows s xs) ∷ [])) text

pub answers_as : (a b : Array) (m : Result Array Refusal) → a ≡ b → OrWanting (limited a) m → OrWanting (limited b) m
answers_as a b m e h = subst (λ (w : Array). OrWanting (limited w) m) e h

pub format_done : (y : Array) (s : List ℕ) (xs : List Atom) (m : Result Array Refusal) → y.kind ≡ Number → s ≡ y.shape → xs ≡ y.atoms → OrWanting (limited (row_characters s (number_rows s xs))) m → OrWanting (formatted y) m
format_done y s xs m ek es ex h =
    let P : Kind → Type 0 = λ k. OrWanting (formatted_as k y) m in
    subst P (sym ek) (answers_as (row_characters s (number_rows s xs)) (row_characters y.shape (number_rows y.shape y.atoms)) m (ap (λ t. row_characters t (number_rows t xs)) es ∙ ap (λ zs. row_characters y.shape (number_rows y.shape zs)) ex) h)

pub no_atoms : (xs : List Atom) → length xs ≡ 0 → [] ≡ xs
no_atoms [] h = refl
no_atoms (x ∷ xs) h = absurd (omega arith)
