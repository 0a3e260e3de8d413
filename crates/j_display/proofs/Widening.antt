-- How wide columns are.
use Rattle.std.proofs.Common.{◌≡◌, ℕ, ℤ, ◌+◌, ◌*◌, ◌<◌, ◌≤◌, max, List, [], ◌∷◌, ◌++◌, length, map, take, drop, get_or, fold, replicate, refl, sym, ap, ◌∙◌, arith, add-one}
use Prim.Native.Nat.{zero, suc}
use Rattle.std.proofs.Math.ListN.{set}
use Rattle.std.proofs.lemmas.List.{map-append, get_or-drop, length-drop, take_at}
use Rattle.std.proofs.lemmas.List.Sums.{fold_push}
use Rattle.std.proofs.lemmas.List.FromFn.{map-range_with_len_more}
use Rattle.j_definitions.specs.Array.{Atom, number}
use Rattle.j_definitions.specs.Cells.{atom_at}
use Rattle.j_numbers.specs.Printed.{printed}
use Rattle.j_display.specs.Rows.{atom_text, pieces, wider, text_widths, column_widths}

-- one more piece
pub pieces-push : {X : Type 0} (k size : ℕ) (xs : List X) → pieces (k + 1) size xs ≡ pieces k size xs ++ take size (drop (k * size) xs) ∷ []
pieces-push k size xs = map-range_with_len_more (λ i. take size (drop (i * size) xs)) 0 k k (omega arith)

-- columns of which the first j are as wide as a line needs
abbrev pub widened : ℕ → List ℕ → List Atom → List ℕ
widened zero ws xs = ws
widened (suc j) [] xs = []
widened (suc j) (w ∷ ws) [] = w ∷ ws
widened (suc j) (w ∷ ws) (x ∷ xs) = max w (length (atom_text x)) ∷ widened j ws xs

widened_at : (j : ℕ) (ws : List ℕ) (xs : List Atom) (d : ℕ) → get_or (widened j ws xs) j d ≡ get_or ws j d
widened_at zero ws xs d = refl
widened_at (suc j) [] xs d = refl
widened_at (suc j) (w ∷ ws) [] d = refl
widened_at (suc j) (w ∷ ws) (x ∷ xs) d = widened_at j ws xs d

widened_next : (j : ℕ) (ws : List ℕ) (xs : List Atom) (d : ℕ) → j < length ws → j < length xs →
    widened (suc j) ws xs ≡ set (widened j ws xs) j (max (get_or ws j d) (length (atom_text (atom_at xs j))))
widened_next j [] xs d h g = absurd (omega arith)
widened_next j (w ∷ ws) [] d h g = absurd (omega arith)
widened_next zero (w ∷ ws) (x ∷ xs) d h g = refl
widened_next (suc j) (w ∷ ws) (x ∷ xs) d h g = ap (λ r. max w (length (atom_text x)) ∷ r) (widened_next j ws xs d (omega arith) (omega arith))

widest : (j : ℕ) (ws : List ℕ) (xs : List Atom) (i : ℕ) (z : ℤ) → i + length ws ≤ length xs → j < length ws → atom_at xs (i + j) ≡ number z →
    widened (j + 1) ws (drop i xs) ≡ set (widened j ws (drop i xs)) j (max (get_or (widened j ws (drop i xs)) j 0) (length (printed z)))
widest j ws xs i z enough h e =
    let there : atom_at (drop i xs) j ≡ number z = get_or-drop i xs j _ ∙ e in
    let g : j < length (drop i xs) = omega (arith, length-drop i xs) in
    ap (λ k. widened k ws (drop i xs)) (add-one j) ∙ widened_next j ws (drop i xs) 0 h g
    ∙ ap (λ x. set (widened j ws (drop i xs)) j (max (get_or ws j 0) (length (atom_text x)))) there
    ∙ ap (λ w. set (widened j ws (drop i xs)) j (max w (length (printed z)))) (sym (widened_at j ws (drop i xs) 0))

-- one more column
pub made_wider : (now ws : List ℕ) (xs : List Atom) (i j width value : ℕ) (z : ℤ) → i + length ws ≤ length xs → j < length ws → atom_at xs (i + j) ≡ number z → width ≡ length (printed z) →
    now ≡ widened j ws (drop i xs) → value ≡ max (get_or now j 0) width → set now j value ≡ widened (j + 1) ws (drop i xs)
made_wider now ws xs i j width value z enough h e w n v =
    ap (set now j) (v ∙ ap (max (get_or now j 0)) w) ∙ ap (λ r. set r j (max (get_or r j 0) (length (printed z)))) n ∙ sym (widest j ws xs i z enough h e)

-- all columns
pub all_widened : (ws : List ℕ) (xs : List Atom) → length ws ≤ length xs → widened (length ws) ws xs ≡ wider ws (text_widths (take (length ws) xs))
all_widened [] xs h = refl
all_widened (w ∷ ws) [] h = absurd (omega arith)
all_widened (w ∷ ws) (x ∷ xs) h = ap (λ r. max w (length (atom_text x)) ∷ r) (all_widened ws xs (omega arith))

pub widened_whole : (now ws : List ℕ) (xs : List Atom) (i j : ℕ) → i + length ws ≤ length xs → j ≡ length ws → now ≡ widened j ws (drop i xs) → now ≡ wider ws (text_widths (take (length ws) (drop i xs)))
widened_whole now ws xs i j enough e n = n ∙ ap (λ k. widened k ws (drop i xs)) e ∙ all_widened ws (drop i xs) (omega (arith, length-drop i xs))

-- one more line
pub columns_more : (n k : ℕ) (xs : List Atom) → column_widths n (pieces (k + 1) n xs) ≡ wider (column_widths n (pieces k n xs)) (text_widths (take n (drop (k * n) xs)))
columns_more n k xs =
    ap (column_widths n) (pieces-push k n xs) ∙ ap (fold wider (replicate n 0)) (map-append text_widths (pieces k n xs) (take n (drop (k * n) xs) ∷ []))
    ∙ fold_push wider (replicate n 0) (map text_widths (pieces k n xs)) (text_widths (take n (drop (k * n) xs)))

-- one more line, in a buffer that was lent
pub line_widened : (n k len : ℕ) (xs : List Atom) (now lent new : List ℕ) → lent ≡ now → now ≡ column_widths n (pieces k n xs) → length lent ≡ n → length new ≡ len →
    new ≡ wider lent (text_widths (take (length lent) (drop (k * n) xs))) → take len (new ++ drop (length new) now) ≡ column_widths n (pieces (k + 1) n xs)
line_widened n k len xs now lent new el en em el' e =
    take_at new (drop (length new) now) len el' ∙ e ∙ ap (λ m. wider lent (text_widths (take m (drop (k * n) xs)))) em ∙ ap (λ ws. wider ws (text_widths (take n (drop (k * n) xs)))) (el ∙ en)
    ∙ sym (columns_more n k xs)
