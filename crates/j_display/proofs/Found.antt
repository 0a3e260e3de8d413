-- The grid of boxes as its sizes are found.
use Rattle.std.proofs.Common.{◌≡◌, ℕ, ◌+◌, ◌*◌, ◌<◌, ◌≤◌, List, length, map, take, drop, refl, sym, ap, ◌∙◌, arith}
use Rattle.std.proofs.lemmas.List.{length-append, length-map}
use Rattle.j_definitions.specs.Array.{Array, product}
use Rattle.j_display.specs.Rows.{pieces, line_frame, line_length, box_widths, height_of, noun_rows, box_rows, grid}
use Rattle.j_display.specs.Measured.{own_sizes, IsGridOf, StandAt}
use Rattle.j_display.specs.declared.paint.Grid.{Grid}
use Rattle.j_display.proofs.Own.{own_widths_many, own_heights_many}
use Rattle.j_display.proofs.Rules.{stand_room, stand_widths, stand_heights}

-- the lines of some boxes
pub record AreLines (s : List ℕ) (cs : List Array) (count columns : ℕ) : Type 0 where
  pub lines : count ≡ product (line_frame s)
  pub wide : columns ≡ line_length s
  pub whole : count * columns ≡ length cs
  pub some : 0 < count
  pub column : 0 < columns
  pub few : count ≤ 4194304

abbrev pub ws_of : List ℕ → List Array → List ℕ
ws_of s cs = box_widths (line_length s) (pieces (product (line_frame s)) (line_length s) (map noun_rows cs))

abbrev pub hs_of : List ℕ → List Array → List ℕ
hs_of s cs = map height_of (pieces (product (line_frame s)) (line_length s) (map noun_rows cs))

pub ws_many : (s : List ℕ) (cs : List Array) (count columns : ℕ) → AreLines s cs count columns → columns ≡ length (ws_of s cs)
ws_many s cs count columns h = h.wide ∙ sym (own_widths_many s cs count columns (ws_of s cs) h.lines h.wide h.whole refl)

pub hs_many : (s : List ℕ) (cs : List Array) (count columns : ℕ) → AreLines s cs count columns → count ≡ length (hs_of s cs)
hs_many s cs count columns h = h.lines ∙ sym (own_heights_many s cs (hs_of s cs) refl)

pub own_many : (s : List ℕ) (cs : List Array) (count columns : ℕ) → AreLines s cs count columns → length (own_sizes s (map noun_rows cs)) ≡ columns + count
own_many s cs count columns h = omega (arith, length-append (ws_of s cs) (hs_of s cs), ws_many s cs count columns h, hs_many s cs count columns h)

pub sizes_room : (s : List ℕ) (cs : List Array) (count columns : ℕ) (sizes : List ℕ) (at : ℕ) → AreLines s cs count columns → StandAt sizes at (own_sizes s (map noun_rows cs)) → at + (columns + count) ≤ length sizes
sizes_room s cs count columns sizes at h st =
    let many = own_many s cs count columns h in
    let some = h.column in
    omega (arith, stand_room sizes at (own_sizes s (map noun_rows cs)) st (omega arith))

pub widths_found : (s : List ℕ) (cs : List Array) (count columns m : ℕ) (sizes : List ℕ) (at : ℕ) → AreLines s cs count columns → StandAt sizes at (own_sizes s (map noun_rows cs)) → m ≡ columns → take m (drop at sizes) ≡ ws_of s cs
widths_found s cs count columns m sizes at h st em = stand_widths sizes at m (ws_of s cs) (hs_of s cs) st (em ∙ ws_many s cs count columns h)

pub heights_found : (s : List ℕ) (cs : List Array) (count columns m middle : ℕ) (sizes : List ℕ) (at : ℕ) → AreLines s cs count columns → StandAt sizes at (own_sizes s (map noun_rows cs)) → middle ≡ at + columns → m ≡ count → take m (drop middle sizes) ≡ hs_of s cs
heights_found s cs count columns m middle sizes at h st ei em =
    stand_heights sizes at middle m (ws_of s cs) (hs_of s cs) st (ei ∙ ap (λ n. at + n) (ws_many s cs count columns h)) (em ∙ hs_many s cs count columns h)

pub grid_found : (g : Grid) (s : List ℕ) (cs : List Array) (count columns : ℕ) → AreLines s cs count columns → length s ≤ 32 → length cs ≤ 4194304 → length (line_frame s) ≤ 32 → g.frame.now ≡ line_frame s → g.widths.now ≡ ws_of s cs → g.heights.now ≡ hs_of s cs → IsGridOf g (map noun_rows cs)
grid_found g s cs count columns h rank few short ef ew eh =
    let n : length g.widths.now ≡ line_length s = ap length ew ∙ sym (ws_many s cs count columns h) ∙ h.wide in
    let p : product g.frame.now ≡ product (line_frame s) = ap product ef in
    record {
      some = omega (arith, h.lines, h.some);
      few = omega (arith, h.lines, h.few);
      rank = omega (arith, ap length ef);
      whole = ap (λ m. m * length g.widths.now) (p ∙ sym h.lines) ∙ ap (λ m. count * m) (n ∙ sym h.wide) ∙ h.whole ∙ sym (length-map cs noun_rows);
      atoms = omega (arith, length-map cs noun_rows);
      widths = ew ∙ sym (ap (λ m. box_widths m (pieces (product g.frame.now) m (map noun_rows cs))) n ∙ ap (λ m. box_widths (line_length s) (pieces m (line_length s) (map noun_rows cs))) p);
      heights = eh ∙ sym (ap (λ m. map height_of (pieces (product g.frame.now) m (map noun_rows cs))) n ∙ ap (λ m. map height_of (pieces m (line_length s) (map noun_rows cs))) p);
    }

pub rows_same : (frame ws s : List ℕ) (cs : List Array) (count columns : ℕ) → AreLines s cs count columns → frame ≡ line_frame s → ws ≡ ws_of s cs → grid frame ws (length ws) (map noun_rows cs) ≡ box_rows s (map noun_rows cs)
rows_same frame ws s cs count columns h ef ew =
    let n : length ws ≡ line_length s = ap length ew ∙ sym (ws_many s cs count columns h) ∙ h.wide in
    ap (λ m. grid frame ws m (map noun_rows cs)) n ∙ ap (λ vs. grid frame vs (line_length s) (map noun_rows cs)) ew ∙ ap (λ f. grid f (ws_of s cs) (line_length s) (map noun_rows cs)) ef
