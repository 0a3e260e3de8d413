-- All lines of a noun.
use Rattle.std.proofs.Common.{◌≡◌, ◌≢◌, ℕ, ◌+◌, ◌*◌, ◌/◌, ◌<◌, ◌≤◌, List, [], ◌∷◌, length, map, take, drop, refl, sym, ap, ◌∙◌, arith}
use Rattle.std.specs.List.{range_with_len}
use Rattle.std.proofs.lemmas.Nat.{div-mul-add}
use Rattle.std.proofs.Math.Nat.{mul-le-mul_left, mul_comm, mul_left_comm}
use Rattle.j_definitions.specs.Array.{Atom, byte, product}
use Rattle.j_definitions.specs.declared.Kind.{Kind}
use Rattle.j_definitions.specs.declared.Kind.TheVariants.{Number, Character, Boxed}
use Rattle.j_display.specs.Rows.{pieces, line_row, column_widths, stacked, joined, lines_stacked}
use Rattle.j_display.specs.Sizes.{row_bytes, stacked_bytes}
use Rattle.j_display.proofs.Cells.{bytes_row}
use Rattle.j_display.proofs.Fitting.{line_many, number_row_many, stacked_many}

map_map : {X Y Z : Type 0} (f : Y → Z) (g : X → Y) (xs : List X) → map f (map g xs) ≡ map (λ x. f (g x)) xs
map_map f g [] = refl
map_map f g (x ∷ xs) = ap (λ r. f (g x) ∷ r) (map_map f g xs)

-- the rows of lines that are told one by one
abbrev pub told : Kind → List ℕ → ℕ → List Atom → List ℕ → List (List ℕ)
told k ws columns xs frame = map (λ i. line_row k ws (take columns (drop (i * columns) xs))) (range_with_len 0 (product frame))

pub all_told : (k : Kind) (ws : List ℕ) (columns : ℕ) (xs : List Atom) (frame : List ℕ) → told k ws columns xs frame ≡ map (line_row k ws) (pieces (product frame) columns xs)
all_told k ws columns xs frame = sym (map_map (line_row k ws) (λ i. take columns (drop (i * columns) xs)) (range_with_len 0 (product frame)))

-- what is written for all lines is what their rows are
pub characters_whole : (ws frame bs : List ℕ) (columns : ℕ) → joined (stacked frame (told Character ws columns (map byte bs) frame)) ≡ joined (lines_stacked Character frame columns (map byte bs))
characters_whole ws frame bs columns = ap (λ rows. joined (stacked frame rows)) (all_told Character ws columns (map byte bs) frame)

pub numbers_whole : (k : Kind) (ws frame : List ℕ) (xs : List Atom) (columns : ℕ) → k ≡ Number → ws ≡ column_widths columns (pieces (product frame) columns xs) →
    joined (stacked frame (told k ws columns xs frame)) ≡ joined (lines_stacked Number frame columns xs)
numbers_whole k ws frame xs columns ek ew =
    ap (λ kind. joined (stacked frame (told kind ws columns xs frame))) ek ∙ ap (λ rows. joined (stacked frame rows)) (all_told Number ws columns xs frame)
    ∙ ap (λ vs. joined (stacked frame (map (line_row Number vs) (pieces (product frame) columns xs)))) ew

-- how many bytes they take
pub characters_many : (ws frame bs : List ℕ) (columns : ℕ) → product frame * columns ≡ length bs →
    length (joined (stacked frame (told Character ws columns (map byte bs) frame))) ≡ stacked_bytes frame (columns + 1)
characters_many ws frame bs columns e =
    stacked_many frame (λ i. line_row Character ws (take columns (drop (i * columns) (map byte bs)))) 0 (columns + 1)
    (λ k h. ap (λ r. length r + 1) (bytes_row bs (k * columns) columns) ∙ ap (λ n. n + 1) (line_many (product frame) columns k bs e (omega arith)))

pub numbers_many : (k : Kind) (ws frame : List ℕ) (xs : List Atom) (columns : ℕ) → k ≡ Number → ws ≡ column_widths columns (pieces (product frame) columns xs) → product frame * columns ≡ length xs → 0 < columns →
    length (joined (stacked frame (told k ws columns xs frame))) ≡ stacked_bytes frame (row_bytes ws)
numbers_many k ws frame xs columns ek ew e some =
    ap (λ kind. length (joined (stacked frame (told kind ws columns xs frame)))) ek
    ∙ stacked_many frame (λ i. line_row Number ws (take columns (drop (i * columns) xs))) 0 (row_bytes ws) (λ i h. number_row_many (product frame) columns i xs ws ew e (omega arith) some)

-- numbers that are as many as their lines
pub product_over : (p columns n : ℕ) → 0 < columns → p * columns ≡ n → n / columns ≡ p
product_over p columns n some e = let none : n ≡ p * columns + 0 = omega arith in ap (λ m. m / columns) none ∙ div-mul-add p columns 0 some

pub columns_few : (p columns n : ℕ) → 0 < p → p * columns ≡ n → n ≤ 4194304 → columns ≤ 4194304
columns_few p columns n some e few =
    let one : 1 ≤ p = omega arith in
    let a : columns * 1 ≤ columns * p = mul-le-mul_left columns one in
    omega (arith, mul_comm columns p)

pub rows_light : (p columns n row : ℕ) → p * columns ≡ n → n ≤ 4194304 → row ≤ 256 * columns → p * row ≤ 1073741824
rows_light p columns n row e few h =
    let a : p * row ≤ p * (256 * columns) = mul-le-mul_left p h in
    let b : p * (256 * columns) ≡ 256 * (p * columns) = mul_left_comm p 256 columns in
    omega arith

pub not_boxed : (k : Kind) → k ≡ Number → k ≢ Boxed
not_boxed k e f = let g : Number ≡ Boxed = sym e ∙ f in cc
