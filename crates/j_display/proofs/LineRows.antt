-- The rows of lines.
use Rattle.std.proofs.Common.{◌≡◌, ℕ, ◌+◌, ◌-◌, ◌*◌, ◌<◌, ◌≤◌, List, ◌∷◌, ◌++◌, length, map, take, drop, sym, ap, ◌∙◌, arith}
use Rattle.std.proofs.lemmas.Nat.{row_fits}
use Rattle.std.proofs.lemmas.List.{length-append}
use Rattle.std.proofs.Math.Nat.{mul-le-mul_left, mul_comm, add-mul}
use Rattle.j_definitions.specs.Array.{byte, product}
use Rattle.j_definitions.specs.declared.Kind.TheVariants.{Character}
use Rattle.j_noun.specs.Viewed.{viewed, kind_viewed}
use Rattle.j_display.specs.Rows.{line_row, joined}
use Rattle.j_display.specs.declared.lines.Lines.{Lines}
use Rattle.j_display.specs.Lines.{between, row_at, HasLines, shown_lines}
use Rattle.j_display.proofs.Cells.{bytes_row}
use Rattle.j_display.proofs.Stacking.{first_items, item_rows, item_fits, items_all}

-- the row of a line of characters
pub characters_at : (l : Lines) (k : ℕ) (bs : List ℕ) → kind_viewed l.atoms ≡ Character → viewed l.atoms ≡ map byte bs →
    row_at l k ≡ take (k * l.columns + l.columns - k * l.columns) (drop (k * l.columns) bs)
characters_at l k bs ek ev =
    let n : l.columns ≡ k * l.columns + l.columns - k * l.columns = omega arith in
    ap (λ kind. line_row kind l.widths.now (take l.columns (drop (k * l.columns) (viewed l.atoms)))) ek
    ∙ ap (λ xs. line_row Character l.widths.now (take l.columns (drop (k * l.columns) xs))) ev ∙ bytes_row bs (k * l.columns) l.columns
    ∙ ap (λ m. take m (drop (k * l.columns) bs)) n

-- fewer lines are there too
pub fewer_lines : (l : Lines) (m j : ℕ) → HasLines l m → j ≤ m → HasLines l j
fewer_lines l m j h le =
    let less : l.columns * j ≤ l.columns * m = mul-le-mul_left l.columns le in
    let ej : j * l.columns ≡ l.columns * j = mul_comm j l.columns in
    let em : m * l.columns ≡ l.columns * m = mul_comm m l.columns in
    record { not_boxed = h.not_boxed; enough = omega (arith, h.enough); counted = omega (arith, h.counted); few = h.few; wide = h.wide }

-- the line after an item
pub after_item : (from k p next : ℕ) → next ≡ from + k * p → next + p ≡ from + (k + 1) * p
after_item from k p next e = omega (arith, add-mul k 1 p)

pub item_ends : (n from k p next : ℕ) → k < n → next ≡ from + k * p → next + p ≤ from + n * p
item_ends n from k p next h e = omega (arith, row_fits k p n p h (omega arith))

-- there is room for the next item and for what stands before it
pub item_has_room : (n : ℕ) (frame item : List ℕ) (l : Lines) (from k next many size least capacity : ℕ) (old now : List ℕ) → frame ≡ n ∷ item → k < n → next ≡ from + k * product item →
    now ≡ old ++ joined (first_items item (row_at l) from k) → many ≡ length old → size ≡ length now → many + length (shown_lines frame l from) ≤ least → least ≤ capacity →
    size + between k (length item) + length (shown_lines item l next) ≤ capacity
item_has_room n frame item l from k next many size least capacity old now e h en eo em es room more =
    let fits = item_fits n item (row_at l) from k h in
    let all : length (shown_lines frame l from) ≡ length (shown_lines (n ∷ item) l from) = ap (λ s. length (shown_lines s l from)) e in
    let here : length (shown_lines item l next) ≡ length (joined (item_rows item (row_at l) from k)) = ap (λ b. length (shown_lines item l b)) en in
    let now_many : length now ≡ length old + length (joined (first_items item (row_at l) from k)) = ap length eo ∙ length-append old (joined (first_items item (row_at l) from k)) in
    omega arith

-- all items
pub items_done : (n : ℕ) (frame item : List ℕ) (l : Lines) (from k : ℕ) (old now : List ℕ) → frame ≡ n ∷ item → k ≡ n → now ≡ old ++ joined (first_items item (row_at l) from k) → now ≡ old ++ shown_lines frame l from
items_done n frame item l from k old now e ek eo =
    eo ∙ ap (λ m. old ++ joined (first_items item (row_at l) from m)) ek ∙ ap (λ rows. old ++ joined rows) (items_all n item (row_at l) from) ∙ ap (λ s. old ++ shown_lines s l from) (sym e)
