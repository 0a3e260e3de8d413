-- One more item of lines, as it is painted.
use Rattle.std.proofs.Common.{◌≡◌, ℕ, ◌+◌, ◌*◌, List, [], ◌++◌, length, map, replicate, sym, ap, ◌∙◌, arith}
use Rattle.std.specs.List.{range_with_len}
use Rattle.std.proofs.lemmas.List.{length-append, length-map, length-replicate, map-append}
use Rattle.j_definitions.specs.Array.{product}
use Rattle.j_display.specs.Rows.{padded, stacked}
use Rattle.j_display.specs.Blocks.{extended}
use Rattle.j_display.specs.Lines.{between}
use Rattle.j_display.specs.Measured.{blanks_below}
use Rattle.j_display.proofs.Blocks.{extended-under, extended-nil}
use Rattle.j_display.proofs.Paints.{padded-empties}
use Rattle.j_display.proofs.Stacking.{first_items, item_rows, items_more}

item_at : (frame : List ℕ) (f : ℕ → List ℕ) (from k next : ℕ) → next ≡ from + k * product frame → stacked frame (map f (range_with_len next (product frame))) ≡ item_rows frame f from k
item_at frame f from k next e = ap (λ b. stacked frame (map f (range_with_len b (product frame)))) e

pub item_row : (frame : List ℕ) (f : ℕ → List ℕ) (from k next start row0 row1 row2 gap : ℕ) → next ≡ from + k * product frame → row0 ≡ start + length (first_items frame f from k) → gap ≡ between k (length frame) → row1 ≡ row0 + gap →
    row2 ≡ row1 + length (stacked frame (map f (range_with_len next (product frame)))) → row2 ≡ start + length (first_items frame f from (k + 1))
item_row frame f from k next start row0 row1 row2 gap en e0 eg e1 e2 =
    let blank : List (List ℕ) = replicate (between k (length frame)) [] in
    let size : length (first_items frame f from (k + 1)) ≡ length (first_items frame f from k) + (length blank + length (item_rows frame f from k)) =
    ap length (items_more frame f from k) ∙ length-append (first_items frame f from k) (blank ++ item_rows frame f from k) ∙ ap (λ m. length (first_items frame f from k) + m) (length-append blank (item_rows frame f from k)) in
    let blanks : length blank ≡ between k (length frame) = length-replicate (between k (length frame)) [] in
    let last : length (stacked frame (map f (range_with_len next (product frame)))) ≡ length (item_rows frame f from k) = ap length (item_at frame f from k next en) in
    omega arith

pub item_canvas : (frame : List ℕ) (f : ℕ → List ℕ) (from k next start row0 row1 gap w : ℕ) (base c0 c1 c2 : List (List ℕ)) → next ≡ from + k * product frame → row0 ≡ start + length (first_items frame f from k) → gap ≡ between k (length frame) → row1 ≡ row0 + gap →
    c0 ≡ extended base start (map (padded w) (first_items frame f from k)) → c1 ≡ extended c0 row0 (blanks_below gap w) → c2 ≡ extended c1 row1 (map (padded w) (stacked frame (map f (range_with_len next (product frame))))) →
    c2 ≡ extended base start (map (padded w) (first_items frame f from (k + 1)))
item_canvas frame f from k next start row0 row1 gap w base c0 c1 c2 en e0 eg er f0 f1 f2 =
    let first : List (List ℕ) = map (padded w) (first_items frame f from k) in
    let last : List (List ℕ) = map (padded w) (item_rows frame f from k) in
    let under0 : row0 ≡ start + length first = omega (arith, length-map (first_items frame f from k) (padded w)) in
    let under1 : row1 ≡ row0 + length (blanks_below gap w) = omega (arith, length-replicate gap (replicate {A = ℕ} w 32)) in
    let rows : map (padded w) (first_items frame f from (k + 1)) ≡ first ++ (blanks_below gap w ++ last) =
    ap (map (padded w)) (items_more frame f from k) ∙ map-append (padded w) (first_items frame f from k) (replicate (between k (length frame)) [] ++ item_rows frame f from k)
    ∙ ap (λ t. first ++ t) (map-append (padded w) (replicate (between k (length frame)) []) (item_rows frame f from k) ∙ ap (λ t. t ++ last) (padded-empties w (between k (length frame)) ∙ ap (λ n. blanks_below n w) (sym eg))) in
    f2 ∙ ap (λ t. extended c1 row1 (map (padded w) t)) (item_at frame f from k next en) ∙ ap (λ c. extended c row1 last) f1 ∙ extended-under c0 row0 row1 (blanks_below gap w) last under1
    ∙ ap (λ c. extended c row0 (blanks_below gap w ++ last)) f0 ∙ extended-under base start row0 first (blanks_below gap w ++ last) under0 ∙ ap (extended base start) (sym rows)

pub none_painted : (base : List (List ℕ)) (start : ℕ) → base ≡ extended base start []
none_painted base start = sym (extended-nil base start)
