-- The sizes of boxes, as they are found and kept.
use Rattle.std.proofs.Common.{◌≡◌, ℕ, ◌+◌, ◌*◌, ◌<◌, ◌≤◌, List, [], ◌∷◌, ◌++◌, length, map, take, drop, get_or, fold, replicate, refl, sym, ap, ◌∙◌, arith, append_assoc}
use Rattle.std.specs.List.{flat_map}
use Rattle.std.proofs.lemmas.List.{append-nil, length-append, length-map, length-replicate, take_at, drop_at, take_more, drop-drop, length-take}
use Rattle.std.proofs.lemmas.List.Concat.{flat_map-append}
use Rattle.j_definitions.specs.Array.{Array, product}
use Rattle.j_display.specs.Rows.{pieces, wider, greatest, line_frame, line_length, width_of, height_of, box_widths, noun_rows, box_rows}
use Rattle.j_display.specs.Sizes.{row_bytes}
use Rattle.j_display.specs.Measured.{grid_height}
use Rattle.j_display.proofs.Grids.{widths_same, heights_same, box_widths_many, heights_many, grid_wide, grid_high}

map_map : {X Y Z : Type 0} (f : Y → Z) (g : X → Y) (xs : List X) → map (λ x. f (g x)) xs ≡ map f (map g xs)
map_map f g [] = refl
map_map f g (x ∷ xs) = ap (λ r. f (g x) ∷ r) (map_map f g xs)

pub own_widths : (s : List ℕ) (cs : List Array) (count columns : ℕ) (ws vs : List ℕ) → count ≡ product (line_frame s) → columns ≡ line_length s → vs ≡ map (λ y. width_of (noun_rows y)) cs → ws ≡ fold wider (replicate columns 0) (pieces count columns vs) →
    ws ≡ box_widths (line_length s) (pieces (product (line_frame s)) (line_length s) (map noun_rows cs))
own_widths s cs count columns ws vs ep ec ev ew =
    ew ∙ ap (λ us. fold wider (replicate columns 0) (pieces count columns us)) (ev ∙ map_map width_of noun_rows cs) ∙ widths_same count columns (map noun_rows cs)
    ∙ ap (λ n. box_widths n (pieces count n (map noun_rows cs))) ec ∙ ap (λ p. box_widths (line_length s) (pieces p (line_length s) (map noun_rows cs))) ep

pub own_heights : (s : List ℕ) (cs : List Array) (count columns : ℕ) (hs vs : List ℕ) → count ≡ product (line_frame s) → columns ≡ line_length s → vs ≡ map (λ y. length (noun_rows y)) cs → hs ≡ map greatest (pieces count columns vs) →
    hs ≡ map height_of (pieces (product (line_frame s)) (line_length s) (map noun_rows cs))
own_heights s cs count columns hs vs ep ec ev eh =
    eh ∙ ap (λ us. map greatest (pieces count columns us)) (ev ∙ map_map (λ rows. length rows) noun_rows cs) ∙ heights_same count columns (map noun_rows cs)
    ∙ ap (λ n. map height_of (pieces count n (map noun_rows cs))) ec ∙ ap (λ p. map height_of (pieces p (line_length s) (map noun_rows cs))) ep

whole_in : (s : List ℕ) (cs : List Array) (count columns : ℕ) → count ≡ product (line_frame s) → columns ≡ line_length s → count * columns ≡ length cs → product (line_frame s) * line_length s ≡ length (map noun_rows cs)
whole_in s cs count columns ep ec e = sym (ap (λ m. m * columns) ep ∙ ap (λ m. product (line_frame s) * m) ec) ∙ e ∙ sym (length-map cs noun_rows)

pub own_width : (s : List ℕ) (cs : List Array) (count columns width : ℕ) (ws : List ℕ) → count ≡ product (line_frame s) → columns ≡ line_length s → count * columns ≡ length cs → 0 < count →
    ws ≡ box_widths (line_length s) (pieces (product (line_frame s)) (line_length s) (map noun_rows cs)) → width ≡ row_bytes ws + 1 → width ≡ width_of (box_rows s (map noun_rows cs))
own_width s cs count columns width ws ep ec e some ew en =
    en ∙ ap (λ vs. row_bytes vs + 1) ew
    ∙ sym (grid_wide (line_frame s) (box_widths (line_length s) (pieces (product (line_frame s)) (line_length s) (map noun_rows cs))) (line_length s) (map noun_rows cs) refl (whole_in s cs count columns ep ec e) (omega arith))

pub own_height : (s frame : List ℕ) (cs : List Array) (height : ℕ) (hs : List ℕ) → frame ≡ line_frame s → hs ≡ map height_of (pieces (product (line_frame s)) (line_length s) (map noun_rows cs)) →
    height ≡ grid_height frame hs (length hs) → height ≡ length (box_rows s (map noun_rows cs))
own_height s frame cs height hs ef eh en =
    en ∙ ap (λ f. grid_height f hs (length hs)) ef ∙ sym (grid_high (line_frame s) (box_widths (line_length s) (pieces (product (line_frame s)) (line_length s) (map noun_rows cs))) hs (line_length s) (map noun_rows cs) eh)

pub own_widths_many : (s : List ℕ) (cs : List Array) (count columns : ℕ) (ws : List ℕ) → count ≡ product (line_frame s) → columns ≡ line_length s → count * columns ≡ length cs →
    ws ≡ box_widths (line_length s) (pieces (product (line_frame s)) (line_length s) (map noun_rows cs)) → length ws ≡ line_length s
own_widths_many s cs count columns ws ep ec e ew = ap length ew ∙ box_widths_many (product (line_frame s)) (line_length s) (map noun_rows cs) (whole_in s cs count columns ep ec e)

pub own_heights_many : (s : List ℕ) (cs : List Array) (hs : List ℕ) → hs ≡ map height_of (pieces (product (line_frame s)) (line_length s) (map noun_rows cs)) → length hs ≡ product (line_frame s)
own_heights_many s cs hs eh = ap length eh ∙ heights_many (product (line_frame s)) (line_length s) (map noun_rows cs)

-- room among others, and what is written there
pub room_written : (old own inner now new : List ℕ) (start n : ℕ) → now ≡ (old ++ replicate n 0) ++ inner → start ≡ length old → new ≡ take start now ++ (own ++ drop (start + n) now) → new ≡ old ++ (own ++ inner)
room_written old own inner now new start n en es e =
    let first : take start now ≡ old = ap (take start) (en ∙ append_assoc old (replicate n 0) inner) ∙ take_at old (replicate n 0 ++ inner) start (sym es) in
    let size : length (old ++ replicate n 0) ≡ start + n = omega (arith, length-append old (replicate n 0), length-replicate {A = ℕ} n 0) in
    let last : drop (start + n) now ≡ inner = ap (drop (start + n)) en ∙ drop_at (old ++ replicate n 0) inner (start + n) size in
    e ∙ ap (λ t. t ++ (own ++ drop (start + n) now)) first ∙ ap (λ t. old ++ (own ++ t)) last

-- what one more noun adds
pub flat_more : {X : Type 0} (f : X → List ℕ) (xs : List X) (i : ℕ) (d : X) → i < length xs → flat_map f (take (i + 1) xs) ≡ flat_map f (take i xs) ++ f (get_or xs i d)
flat_more f xs i d h = ap (flat_map f) (take_more xs i d h) ∙ flat_map-append f (take i xs) (get_or xs i d ∷ []) ∙ ap (λ t. flat_map f (take i xs) ++ t) (append-nil (f (get_or xs i d)))

pub two_written : (xs ys zs ws hs : List ℕ) (start middle n m : ℕ) → n ≡ length ws → m ≡ length hs → middle ≡ start + n → start ≤ length xs → ys ≡ take start xs ++ (ws ++ drop (start + length ws) xs) → zs ≡ take middle ys ++ (hs ++ drop (middle + length hs) ys) →
    zs ≡ take start xs ++ ((ws ++ hs) ++ drop (start + (n + m)) xs)
two_written xs ys zs ws hs start middle n m en em ei room e1 e2 =
    let front : List ℕ = take start xs ++ ws in
    let rest : List ℕ = drop (start + length ws) xs in
    let split : ys ≡ front ++ rest = e1 ∙ sym (append_assoc (take start xs) ws rest) in
    let size : length front ≡ middle = omega (arith, length-append (take start xs) ws, length-take start xs) in
    let first : take middle ys ≡ front = ap (take middle) split ∙ take_at front rest middle size in
    let behind : drop middle ys ≡ rest = ap (drop middle) split ∙ drop_at front rest middle size in
    let past : start + length ws + length hs ≡ start + (n + m) = omega arith in
    let last : drop (middle + length hs) ys ≡ drop (start + (n + m)) xs =
    sym (drop-drop (length hs) middle ys) ∙ ap (drop (length hs)) behind ∙ drop-drop (length hs) (start + length ws) xs ∙ ap (λ k. drop k xs) past in
    e2 ∙ ap (λ t. t ++ (hs ++ drop (middle + length hs) ys)) first ∙ ap (λ t. front ++ (hs ++ t)) last ∙ append_assoc (take start xs) ws (hs ++ drop (start + (n + m)) xs)
    ∙ ap (λ t. take start xs ++ t) (sym (append_assoc ws hs (drop (start + (n + m)) xs)))
