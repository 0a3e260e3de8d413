-- Rules as they are painted, and what stands above a line.
use Rattle.std.proofs.Common.{◌≡◌, ℕ, ◌+◌, ◌-◌, ◌<◌, ◌≤◌, List, [], ◌∷◌, ◌++◌, length, map, take, drop, get_or, replicate, refl, sym, ap, ◌∙◌, arith, append_assoc}
use Rattle.std.specs.List.{flat_map}
use Rattle.std.proofs.lemmas.List.{append-nil, length-append, length-replicate, map-append, take_all, drop-drop, take_at, drop_at, length-drop}
use Rattle.j_display.specs.Rows.{padded, rule, rule_part, gap, rules_above, above}
use Rattle.j_display.specs.Sizes.{row_bytes}
use Rattle.j_display.specs.Blocks.{extended}
use Rattle.j_display.specs.Measured.{StandAt, blanks_below}
use Rattle.j_display.proofs.Blocks.{extended-alongside, extended-under}
use Rattle.j_display.proofs.Grids.{rule_many}
use Rattle.j_display.proofs.Own.{flat_more}
use Rattle.j_display.proofs.Paints.{padded-empties}

pub rule_more : (base c0 c1 c2 : List (List ℕ)) (ws : List ℕ) (row i w : ℕ) → c0 ≡ extended base row ((43 ∷ flat_map rule_part (take i ws)) ∷ []) → c1 ≡ extended c0 row (replicate w 45 ∷ []) → c2 ≡ extended c1 row ((43 ∷ []) ∷ []) →
    i < length ws → get_or ws i 0 ≡ w → c2 ≡ extended base row ((43 ∷ flat_map rule_part (take (i + 1) ws)) ∷ [])
rule_more base c0 c1 c2 ws row i w e0 e1 e2 h ew =
    let first : List ℕ = 43 ∷ flat_map rule_part (take i ws) in
    let dashes : List ℕ = replicate w 45 in
    let more : 43 ∷ flat_map rule_part (take (i + 1) ws) ≡ (first ++ dashes) ++ 43 ∷ [] =
    ap (λ t. 43 ∷ t) (flat_more rule_part ws i 0 h) ∙ ap (λ v. first ++ rule_part v) ew ∙ sym (append_assoc first dashes (43 ∷ [])) in
    e2 ∙ ap (λ c. extended c row ((43 ∷ []) ∷ [])) (e1 ∙ ap (λ c. extended c row (dashes ∷ [])) e0 ∙ extended-alongside base row (first ∷ []) (dashes ∷ []))
    ∙ extended-alongside base row ((first ++ dashes) ∷ []) ((43 ∷ []) ∷ []) ∙ ap (λ t. extended base row (t ∷ [])) (sym more)

pub rule_done : (base c0 c1 : List (List ℕ)) (ws : List ℕ) (row i size width : ℕ) → length ws ≤ i → c0 ≡ extended base row ((43 ∷ flat_map rule_part (take i ws)) ∷ []) → c1 ≡ extended c0 row (replicate (width - size) 32 ∷ []) → size ≡ row_bytes ws + 1 →
    c1 ≡ extended base row (padded width (rule ws) ∷ [])
rule_done base c0 c1 ws row i size width h e0 e1 es =
    e1 ∙ ap (λ c. extended c row (replicate (width - size) 32 ∷ [])) (e0 ∙ ap (λ vs. extended base row ((43 ∷ flat_map rule_part vs) ∷ [])) (take_all i ws h))
    ∙ extended-alongside base row (rule ws ∷ []) (replicate (width - size) 32 ∷ []) ∙ ap (λ n. extended base row ((rule ws ++ replicate (width - n) 32) ∷ [])) (es ∙ sym (rule_many ws))

pub above_none : (c0 c1 : List (List ℕ)) (frame ws : List ℕ) (k row g width : ℕ) → c1 ≡ extended c0 row (blanks_below g width) → g ≡ gap frame k → rules_above frame k ≡ 0 → c1 ≡ extended c0 row (map (padded width) (above frame ws k))
above_none c0 c1 frame ws k row g width e eg er =
    let none : above frame ws k ≡ replicate (gap frame k) [] = ap (λ m. replicate (gap frame k) [] ++ replicate m (rule ws)) er ∙ append-nil (replicate (gap frame k) []) in
    e ∙ ap (λ n. extended c0 row (blanks_below n width)) eg ∙ ap (extended c0 row) (sym (ap (map (padded width)) none ∙ padded-empties width (gap frame k)))

pub above_one : (c0 c1 c2 : List (List ℕ)) (frame ws : List ℕ) (k row end g width : ℕ) → c1 ≡ extended c0 row (blanks_below g width) → g ≡ gap frame k → end ≡ row + g → c2 ≡ extended c1 end (padded width (rule ws) ∷ []) → rules_above frame k ≡ 1 →
    c2 ≡ extended c0 row (map (padded width) (above frame ws k))
above_one c0 c1 c2 frame ws k row end g width e1 eg en e2 er =
    let one : map (padded width) (above frame ws k) ≡ blanks_below (gap frame k) width ++ padded width (rule ws) ∷ [] =
    ap (λ m. map (padded width) (replicate (gap frame k) [] ++ replicate m (rule ws))) er ∙ map-append (padded width) (replicate (gap frame k) []) (rule ws ∷ []) ∙ ap (λ t. t ++ padded width (rule ws) ∷ []) (padded-empties width (gap frame k)) in
    let under : end ≡ row + length (blanks_below g width) = omega (arith, length-replicate g (replicate {A = ℕ} width 32)) in
    e2 ∙ ap (λ c. extended c end (padded width (rule ws) ∷ [])) e1 ∙ extended-under c0 row end (blanks_below g width) (padded width (rule ws) ∷ []) under
    ∙ ap (λ n. extended c0 row (blanks_below n width ++ padded width (rule ws) ∷ [])) eg ∙ ap (extended c0 row) (sym one)

pub line_closed : (c0 c1 c2 : List (List ℕ)) (row end h w : ℕ) (last : List ℕ) → c1 ≡ extended c0 row (blanks_below h w) → end ≡ row + h → c2 ≡ extended c1 end (last ∷ []) → c2 ≡ extended c0 row (blanks_below h w ++ last ∷ [])
line_closed c0 c1 c2 row end h w last e1 en e2 =
    let under : end ≡ row + length (blanks_below h w) = omega (arith, length-replicate h (replicate {A = ℕ} w 32)) in
    e2 ∙ ap (λ c. extended c end (last ∷ [])) e1 ∙ extended-under c0 row end (blanks_below h w) (last ∷ []) under

-- there are as many sizes
pub stand_room : (sizes : List ℕ) (at : ℕ) (xs : List ℕ) → StandAt sizes at xs → 0 < length xs → at + length xs ≤ length sizes
stand_room sizes at xs h some = omega (arith, length-drop at sizes, ap length h.1, length-append xs h.0)

pub stand_widths : (sizes : List ℕ) (at n : ℕ) (ws hs : List ℕ) → StandAt sizes at (ws ++ hs) → n ≡ length ws → take n (drop at sizes) ≡ ws
stand_widths sizes at n ws hs h e = ap (take n) (h.1 ∙ append_assoc ws hs h.0) ∙ take_at ws (hs ++ h.0) n (sym e)

pub stand_heights : (sizes : List ℕ) (at middle n : ℕ) (ws hs : List ℕ) → StandAt sizes at (ws ++ hs) → middle ≡ at + length ws → n ≡ length hs → take n (drop middle sizes) ≡ hs
stand_heights sizes at middle n ws hs h em e =
    ap (λ m. take n (drop m sizes)) em ∙ ap (take n) (sym (drop-drop (length ws) at sizes) ∙ ap (drop (length ws)) (h.1 ∙ append_assoc ws hs h.0) ∙ drop_at ws (hs ++ h.0) (length ws) refl) ∙ take_at hs h.0 n (sym e)
