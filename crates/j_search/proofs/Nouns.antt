-- Cells of nouns that are looked up.
use Rattle.std.proofs.Common.{◌≡◌, ◌<◌, ◌-◌, ◌*◌, ◌/◌, ℕ, ℤ, pos, true, false, ◌&&◌, ◌==◌, List, [], ◌∷◌, length, map, take, drop, replicate, arith, refl, sym, ap, ◌∙◌}
use Rattle.std.specs.Cmp.Lexicographic.{pointwise, same_text}
use Rattle.std.proofs.Math.Nat.{mul-div_cancel_left}
use Rattle.j_definitions.specs.Array.{Array, Atom, product, tally, atom_match, arrays_match}
use Rattle.j_definitions.specs.Items.{part}
use Rattle.j_definitions.specs.declared.Kind.{Kind}
use Rattle.j_rank.specs.Cells.{cell, cell_size}
use Rattle.j_rank.proofs.Products.{product_parts}
use Rattle.j_search.specs.declared.frames.Frame.{Frame}
use Rattle.j_search.specs.declared.seeking.Side.{Side}
use Rattle.j_search.specs.declared.seeking.Side.TheVariants.{First}
use Rattle.j_search.specs.Matching.{places, item_of, frame_for, cells_for, cell_for, first_of, first_item}
use Rattle.j_search.specs.Sought.{place_of, atom_places, item_place}
use Rattle.j_search.specs.Framed.{IsFrame, cell_places}
use Rattle.j_search.proofs.Picks.{none_place, place_same, map_places}
use Rattle.j_search.proofs.Runs.{all_same}

-- cells that match none
pub unmatched : (side : Side) (x : Array) (f : Frame) (y : Array) (g : Frame) → ((j k : ℕ) → j < f.count → arrays_match (cell f.axes x j) (cell g.axes y k) ≡ false) →
    replicate g.count (pos f.count) ≡ cell_places side x f y g
unmatched side x f y g h =
    all_same (pos f.count) (λ k. pos (place_of side (λ j. arrays_match (cell f.axes x j) (cell g.axes y k)) f.count)) g.count
    (λ k l. ap pos (none_place side (λ j. arrays_match (cell f.axes x j) (cell g.axes y k)) f.count (λ j m. h j k m)))

-- where there are none, or their shape is another
pub none_there : (side : Side) (x : Array) (f : Frame) (y : Array) (g : Frame) → f.count ≡ 0 → replicate g.count (pos f.count) ≡ cell_places side x f y g
none_there side x f y g e = unmatched side x f y g (λ j k m. absurd (omega arith))

pub other_shape : (side : Side) (x : Array) (f : Frame) (y : Array) (g : Frame) → pointwise ◌==◌ (drop f.axes x.shape) (drop g.axes y.shape) ≡ false → replicate g.count (pos f.count) ≡ cell_places side x f y g
other_shape side x f y g h =
    unmatched side x f y g (λ j k m. ap (λ b. b && pointwise atom_match (part (cell_size f.axes x.shape) x.atoms j) (part (cell_size g.axes y.shape) y.atoms k)) h)

-- how many atoms a cell has
pub size_is : (shape : List ℕ) (f : Frame) (len : ℕ) → IsFrame shape f → len ≡ product shape → 0 < f.count → len / f.count ≡ product (drop f.axes shape)
size_is shape f len frame e some =
    let count : f.count ≡ product (take f.axes shape) = frame.count in
    ap (λ n. n / f.count) (e ∙ sym (product_parts shape f.axes) ∙ ap (λ n. n * product (drop f.axes shape)) (sym count)) ∙ mul-div_cancel_left (product (drop f.axes shape)) some

pub cells_many : (shape : List ℕ) (f : Frame) (len size : ℕ) → IsFrame shape f → len ≡ product shape → size ≡ product (drop f.axes shape) → len ≡ f.count * size
cells_many shape f len size frame e es =
    let count : f.count ≡ product (take f.axes shape) = frame.count in
    e ∙ sym (product_parts shape f.axes) ∙ ap (λ n. n * product (drop f.axes shape)) (sym count) ∙ ap (λ n. f.count * n) (sym es)

pub other_size : (x : Array) (f : Frame) (y : Array) (g : Frame) (size : ℕ) → true ≡ pointwise ◌==◌ (drop f.axes x.shape) (drop g.axes y.shape) → size ≡ product (drop f.axes x.shape) → size ≡ product (drop g.axes y.shape)
other_size x f y g size h e = e ∙ ap product (same_text (drop f.axes x.shape) (drop g.axes y.shape) h)

pub cells_match : (x y : Array) (m n size j k : ℕ) → true ≡ pointwise ◌==◌ (drop m x.shape) (drop n y.shape) → size ≡ product (drop m x.shape) → size ≡ product (drop n y.shape) →
    pointwise atom_match (part size x.atoms j) (part size y.atoms k) ≡ arrays_match (cell m x j) (cell n y k)
cells_match x y m n size j k h e g =
    ap (λ s. pointwise atom_match (part s x.atoms j) (part size y.atoms k)) e ∙ ap (λ s. pointwise atom_match (part (product (drop m x.shape)) x.atoms j) (part s y.atoms k)) g
    ∙ ap (λ b. b && pointwise atom_match (part (product (drop m x.shape)) x.atoms j) (part (product (drop n y.shape)) y.atoms k)) h

pub found_cells : (side : Side) (x : Array) (f : Frame) (y : Array) (g : Frame) (size : ℕ) → true ≡ pointwise ◌==◌ (drop f.axes x.shape) (drop g.axes y.shape) → size ≡ product (drop f.axes x.shape) →
    atom_places side size f.count g.count x.atoms y.atoms ≡ cell_places side x f y g
found_cells side x f y g size h e =
    map_places (λ k. pos (place_of side (λ j. pointwise atom_match (part size x.atoms j) (part size y.atoms k)) f.count)) (λ k. pos (place_of side (λ j. arrays_match (cell f.axes x j) (cell g.axes y k)) f.count)) g.count
    (λ k l. ap pos (place_same side (λ j. pointwise atom_match (part size x.atoms j) (part size y.atoms k)) (λ j. arrays_match (cell f.axes x j) (cell g.axes y k)) f.count
    (λ j m. cells_match x y f.axes g.axes size j k h e (other_size x f y g size h e))))

-- cells without atoms match all
pub all_match : (side : Side) (x : Array) (f : Frame) (y : Array) (g : Frame) (place : ℕ) → true ≡ pointwise ◌==◌ (drop f.axes x.shape) (drop g.axes y.shape) → 0 ≡ product (drop f.axes x.shape) →
    place ≡ place_of side (λ j. true) f.count → replicate g.count (pos place) ≡ cell_places side x f y g
all_match side x f y g place h e is =
    all_same (pos place) (λ k. pos (place_of side (λ j. arrays_match (cell f.axes x j) (cell g.axes y k)) f.count)) g.count
    (λ k l. ap pos (is ∙ place_same side (λ j. true) (λ j. arrays_match (cell f.axes x j) (cell g.axes y k)) f.count
    (λ j m. cells_match x y f.axes g.axes 0 j k h e (other_size x f y g 0 h e))))

-- an item is a cell of the items' frame
own_cell_of : (kind : Kind) (s : List ℕ) (xs : List Atom) (j : ℕ) →
    (let y : Array = record { kind = kind; shape = s; atoms = xs } in cell (length s - length (drop 1 s)) y j ≡ cell 1 y j)
own_cell_of kind [] xs j = refl
own_cell_of kind (n ∷ s) xs j =
    let y : Array = record { kind = kind; shape = n ∷ s; atoms = xs } in
    let one : length (n ∷ s) - length (drop 1 (n ∷ s)) ≡ 1 = omega arith in
    ap (λ m. cell m y j) one

pub own_cell : (y : Array) (j : ℕ) → cell (frame_for y y) y j ≡ item_of y j
own_cell y j = own_cell_of y.kind y.shape y.atoms j

-- the places of cells among items
pub places_of_items : (side : Side) (x : Array) (f : Frame) (y : Array) (g : Frame) → f.axes ≡ frame_for x x → f.count ≡ tally x.shape → g.axes ≡ frame_for x y → g.count ≡ cells_for x y →
    cell_places side x f y g ≡ map (λ k. pos (item_place side x (cell_for x y k))) (places (cells_for x y))
places_of_items side x f y g fa fc ga gc =
    let P : ℕ → ℕ → ℕ → ℕ → List ℤ = λ a n b m. map (λ k. pos (place_of side (λ j. arrays_match (cell a x j) (cell b y k)) n)) (places m) in
    ap (λ a. P a f.count g.axes g.count) fa ∙ ap (λ n. P (frame_for x x) n g.axes g.count) fc ∙ ap (λ b. P (frame_for x x) (tally x.shape) b g.count) ga
    ∙ ap (λ m. P (frame_for x x) (tally x.shape) (frame_for x y) m) gc
    ∙ (λ i. map (λ k. pos (place_of side (λ j. arrays_match (own_cell x j i) (cell_for x y k)) (tally x.shape))) (places (cells_for x y)))

-- the places of items among items
pub places_of_own : (y : Array) (f : Frame) → f.axes ≡ frame_for y y → f.count ≡ tally y.shape →
    cell_places First y f y f ≡ map (λ k. pos (first_item y (item_of y k))) (places (tally y.shape))
places_of_own y f fa fc =
    let P : ℕ → ℕ → List ℤ = λ a n. map (λ k. pos (first_of (λ j. arrays_match (cell a y j) (cell a y k)) n)) (places n) in
    ap (λ a. P a f.count) fa ∙ ap (λ n. P (frame_for y y) n) fc
    ∙ (λ i. map (λ k. pos (first_of (λ j. arrays_match (own_cell y j i) (own_cell y k i)) (tally y.shape))) (places (tally y.shape)))

-- the places of items among cells
pub places_among_cells : (x : Array) (f : Frame) (y : Array) (g : Frame) → f.axes ≡ frame_for x x → f.count ≡ tally x.shape → g.axes ≡ frame_for x y → g.count ≡ cells_for x y →
    cell_places First y g x f ≡ map (λ j. pos (first_of (λ k. arrays_match (cell_for x y k) (item_of x j)) (cells_for x y))) (places (tally x.shape))
places_among_cells x f y g fa fc ga gc =
    let P : ℕ → ℕ → ℕ → ℕ → List ℤ = λ a n b m. map (λ j. pos (first_of (λ k. arrays_match (cell b y k) (cell a x j)) m)) (places n) in
    ap (λ a. P a f.count g.axes g.count) fa ∙ ap (λ n. P (frame_for x x) n g.axes g.count) fc ∙ ap (λ b. P (frame_for x x) (tally x.shape) b g.count) ga
    ∙ ap (λ m. P (frame_for x x) (tally x.shape) (frame_for x y) m) gc
    ∙ (λ i. map (λ j. pos (first_of (λ k. arrays_match (cell_for x y k) (own_cell x j i)) (cells_for x y))) (places (tally x.shape)))
