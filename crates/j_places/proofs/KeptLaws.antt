-- The atoms at the kept places of axes.
use Rattle.std.proofs.Common.{◌≡◌, ◌<◌, ◌≤◌, ◌+◌, ◌*◌, ℕ, List, [], ◌∷◌, ◌++◌, length, map, take, drop, replicate, get_or, arith, refl, sym, ap, ◌∙◌, mul-one, Option, Some, None}
use Prim.Native.Nat.{zero, suc}
use Rattle.std.specs.List.{All, flat_map, range_with_len}
use Rattle.std.proofs.lemmas.List.{take-map, drop-map, map-append, length-take, length-drop, length-append, length-replicate, nil_from_length, replicate-append-replicate}
use Rattle.std.proofs.lemmas.List.Elements.{All-nil, All-cons, All-head, All-tail, All-append, All-replicate, All-take, All-drop}
use Rattle.std.proofs.Math.Nat.{mul-le-mul_left, mul_comm}
use Rattle.j_definitions.specs.Array.{product}
use Rattle.j_rank.proofs.Made.{fills_map}
use Rattle.j_rank.proofs.Products.{product_append}
use Rattle.j_places.specs.AxisPlaces.{kept_shape, kept_atoms, at_place}
use Rattle.j_places.specs.Axes.{places_of, extents, IsAxis}
use Rattle.j_places.specs.declared.axis.Axis.{Axis}

abbrev piece : {X : Type 0} → ℕ → List X → ℕ → List X
piece size xs k = take size (drop (k * size) xs)

-- pieces that are equal
same_pieces : {P X : Type 0} (f g : P → List X) (ps : List P) → ((p : P) → f p ≡ g p) → flat_map f ps ≡ flat_map g ps
same_pieces f g [] h = refl
same_pieces f g (p ∷ ps) h = ap (λ r. r ++ flat_map f ps) (h p) ∙ ap (λ r. g p ++ r) (same_pieces f g ps h)

map-pieces : {P X Y : Type 0} (f : X → Y) (g : P → List X) (ps : List P) → map f (flat_map g ps) ≡ flat_map (λ p. map f (g p)) ps
map-pieces f g [] = refl
map-pieces f g (p ∷ ps) = map-append f (g p) (flat_map g ps) ∙ ap (λ r. map f (g p) ++ r) (map-pieces f g ps)

piece_map : {X Y : Type 0} (f : X → Y) (size : ℕ) (xs : List X) (k : ℕ) → piece size (map f xs) k ≡ map f (piece size xs k)
piece_map f size xs k = ap (take size) (drop-map f (k * size) xs) ∙ take-map f size (drop (k * size) xs)

-- what atoms are made of is kept as the atoms are
pub map-kept_atoms : {X Y : Type 0} (f : X → Y) (z : X) (pss : List (List (Option ℕ))) (s : List ℕ) (xs : List X) → map f (kept_atoms z pss s xs) ≡ kept_atoms (f z) pss s (map f xs)
map-kept_atoms f z [] s xs = refl
map-kept_atoms f z (ps ∷ more) [] xs = refl
map-kept_atoms f z (ps ∷ more) (n ∷ s) xs =
    let size = product s in
    let fills : ℕ = product (kept_shape more s) in
    let item : Option ℕ → List _ = at_place (λ k. kept_atoms z more s (piece size xs k)) (replicate fills z) in
    let item_of : Option ℕ → List _ = at_place (λ k. kept_atoms (f z) more s (piece size (map f xs) k)) (replicate fills (f z)) in
    let each : (p : Option ℕ) → map f (item p) ≡ item_of p =
    λ p. elim p as (λ q. map f (item q) ≡ item_of q) [
      | Some k ↦ map-kept_atoms f z more s (piece size xs k) ∙ ap (kept_atoms (f z) more s) (sym (piece_map f size xs k))
      | None ↦ fills_map f z fills
    ] in
    map-pieces f item ps ∙ same_pieces (λ p. map f (item p)) item_of ps each

-- what holds of the atoms and of the fill holds of all
all_pieces : {Q X : Type 0} (P : X → Type 0) (f : Q → List X) (ps : List Q) → ((p : Q) → All P (f p)) → All P (flat_map f ps)
all_pieces P f [] h = All-nil P
all_pieces P f (p ∷ ps) h = All-append P (f p) (flat_map f ps) (h p) (all_pieces P f ps h)

pub All-kept_atoms : {X : Type 0} (P : X → Type 0) (z : X) (pss : List (List (Option ℕ))) (s : List ℕ) (xs : List X) → P z → All P xs → All P (kept_atoms z pss s xs)
All-kept_atoms P z [] s xs g h = h
All-kept_atoms P z (ps ∷ more) [] xs g h = h
All-kept_atoms P z (ps ∷ more) (n ∷ s) xs g h =
    let size = product s in
    let fills : ℕ = product (kept_shape more s) in
    let item : Option ℕ → List _ = at_place (λ k. kept_atoms z more s (piece size xs k)) (replicate fills z) in
    let each : (p : Option ℕ) → All P (item p) =
    λ p. elim p as (λ q. All P (item q)) [
      | Some k ↦ All-kept_atoms P z more s (piece size xs k) g (All-take P size (drop (k * size) xs) (All-drop P (k * size) xs h))
      | None ↦ All-replicate P fills z g
    ] in
    all_pieces P item ps each

-- places within an axis, and within axes
abbrev pub IsIn : ℕ → Option ℕ → Type 0
IsIn n (Some k) = k < n
IsIn n None = Unit {0}

abbrev pub AreIn : List (List (Option ℕ)) → List ℕ → Type 0
AreIn (ps ∷ more) (n ∷ s) = All (IsIn n) ps × AreIn more s
AreIn _ _ = Unit {0}

pub piece_many : {X : Type 0} (xs : List X) (m size k : ℕ) → length xs ≡ m * size → k < m → length (piece size xs k) ≡ size
piece_many xs m size k e h =
    let more : k + 1 ≤ m = omega arith in
    omega (arith, length-take size (drop (k * size) xs), length-drop (k * size) xs, mul_comm size (k + 1), mul_comm size m, mul-le-mul_left size more)

pieces_many : {P X : Type 0} (f : P → List X) (m : ℕ) (ps : List P) → All (λ p. length (f p) ≡ m) ps → length (flat_map f ps) ≡ length ps * m
pieces_many f m [] h = omega arith
pieces_many f m (p ∷ ps) h =
    omega (arith, length-append (f p) (flat_map f ps), All-head (λ q. length (f q) ≡ m) p ps h, pieces_many f m ps (All-tail (λ q. length (f q) ≡ m) p ps h))

pub length-kept_atoms : {X : Type 0} (z : X) (pss : List (List (Option ℕ))) (s : List ℕ) (xs : List X) → AreIn pss s → length xs ≡ product s → length (kept_atoms z pss s xs) ≡ product (kept_shape pss s)
length-kept_atoms z [] s xs h e = e
length-kept_atoms z (ps ∷ more) [] xs h e = e
length-kept_atoms z (ps ∷ more) (n ∷ s) xs h e =
    let size = product s in
    let fills : ℕ = product (kept_shape more s) in
    let item : Option ℕ → List _ = at_place (λ k. kept_atoms z more s (piece size xs k)) (replicate fills z) in
    let each : (p : Option ℕ) → IsIn n p → length (item p) ≡ fills =
    λ p. elim p as (λ q. IsIn n q → length (item q) ≡ fills) [
      | Some k ↦ λ g. length-kept_atoms z more s (piece size xs k) h.1 (piece_many xs n size k e g)
      | None ↦ λ g. length-replicate fills z
    ] in
    pieces_many item fills ps (λ i d l. each (get_or ps i d) (h.0 i d l))

-- without atoms all are fills
pub fill_pieces : {P X : Type 0} (f : P → List X) (z : X) (m : ℕ) (ps : List P) → All (λ p. f p ≡ replicate m z) ps → flat_map f ps ≡ replicate (length ps * m) z
fill_pieces f z m [] h = let none : 0 ≡ 0 * m = omega arith in ap (λ k. replicate k z) none
fill_pieces f z m (p ∷ ps) h =
    let more : m + length ps * m ≡ suc (length ps) * m = omega arith in
    ap (λ r. r ++ flat_map f ps) (All-head (λ q. f q ≡ replicate m z) p ps h) ∙ ap (λ r. replicate m z ++ r) (fill_pieces f z m ps (All-tail (λ q. f q ≡ replicate m z) p ps h))
    ∙ replicate-append-replicate m (length ps * m) z ∙ ap (λ k. replicate k z) more

no_factor : (n p k : ℕ) → n * p ≡ 0 → k < n → p ≡ 0
no_factor zero p k e h = absurd (omega arith)
no_factor (suc n) p k e h = omega arith

no_elements : {X : Type 0} (z : X) (xs : List X) (n : ℕ) → length xs ≡ n → n ≡ 0 → xs ≡ replicate n z
no_elements z xs n e h = nil_from_length xs (omega arith) ∙ ap (λ k. replicate k z) (sym h)

pub kept_without_atoms : {X : Type 0} (z : X) (pss : List (List (Option ℕ))) (s : List ℕ) (xs : List X) → AreIn pss s → length xs ≡ product s → product s ≡ 0 → kept_atoms z pss s xs ≡ replicate (product (kept_shape pss s)) z
kept_without_atoms z [] s xs h e none = no_elements z xs (product s) e none
kept_without_atoms z (ps ∷ more) [] xs h e none = no_elements z xs 1 e none
kept_without_atoms z (ps ∷ more) (n ∷ s) xs h e none =
    let size = product s in
    let fills : ℕ = product (kept_shape more s) in
    let item : Option ℕ → List _ = at_place (λ k. kept_atoms z more s (piece size xs k)) (replicate fills z) in
    let each : (p : Option ℕ) → IsIn n p → item p ≡ replicate fills z =
    λ p. elim p as (λ q. IsIn n q → item q ≡ replicate fills z) [
      | Some k ↦ λ g. kept_without_atoms z more s (piece size xs k) h.1 (piece_many xs n size k e g) (no_factor n size k none g)
      | None ↦ λ g. refl
    ] in
    fill_pieces item z fills ps (λ i d l. each (get_or ps i d) (h.0 i d l))

-- the places of axes are within them
in_run : (n a count : ℕ) → a + count ≤ n → All (IsIn n) (map Some (range_with_len a count))
in_run n a zero h = All-nil (IsIn n)
in_run n a (suc count) h = All-cons (IsIn n) (Some a) (map Some (range_with_len (a + 1) count)) (let g : a < n = omega arith in g) (in_run n (a + 1) count (omega arith))

pub places_in : (a : Axis) → IsAxis a → All (IsIn a.extent) (places_of a)
places_in a h =
    let z : Option ℕ = None in
    let run : a.start + a.count ≤ a.extent = h.run in
    let wrap : a.wrapped ≤ a.extent = h.wrap in
    let fills_after : All (IsIn a.extent) (replicate a.after z) = All-replicate (IsIn a.extent) a.after z tt in
    let wrapped = in_run a.extent 0 a.wrapped (omega arith) in
    let behind = All-append (IsIn a.extent) (map Some (range_with_len 0 a.wrapped)) (replicate a.after z) wrapped fills_after in
    let middle = All-append (IsIn a.extent) (map Some (range_with_len a.start a.count)) (map Some (range_with_len 0 a.wrapped) ++ replicate a.after z) (in_run a.extent a.start a.count run) behind in
    All-append (IsIn a.extent) (replicate a.before z) (map Some (range_with_len a.start a.count) ++ (map Some (range_with_len 0 a.wrapped) ++ replicate a.after z))
    (All-replicate (IsIn a.extent) a.before z tt) middle

pub axes_in : (axes : List Axis) (unit : ℕ) → All IsAxis axes → AreIn (map places_of axes) (extents axes unit)
axes_in [] unit h = tt
axes_in (a ∷ axes) unit h = (places_in a (All-head IsAxis a axes h), axes_in axes unit (All-tail IsAxis a axes h))

-- the axes behind those that have numbers, as one
pub tail_product : (s t : List ℕ) → product (s ++ t) ≡ product (s ++ product t ∷ [])
tail_product s t = product_append s t ∙ ap (λ n. product s * n) (sym (mul-one (product t))) ∙ sym (product_append s (product t ∷ []))

pub tail_shape : (pss : List (List (Option ℕ))) (s t : List ℕ) → length pss ≡ length s → product (kept_shape pss (s ++ t)) ≡ product (kept_shape pss (s ++ product t ∷ []))
tail_shape [] [] t e = sym (mul-one (product t))
tail_shape [] (n ∷ s) t e = absurd (omega arith)
tail_shape (ps ∷ more) [] t e = absurd (omega arith)
tail_shape (ps ∷ more) (n ∷ s) t e = ap (λ m. length ps * m) (tail_shape more s t (omega arith))

pub tail_kept : {X : Type 0} (z : X) (pss : List (List (Option ℕ))) (s t : List ℕ) (xs : List X) → length pss ≡ length s → kept_atoms z pss (s ++ t) xs ≡ kept_atoms z pss (s ++ product t ∷ []) xs
tail_kept z [] [] t xs e = refl
tail_kept z [] (n ∷ s) t xs e = absurd (omega arith)
tail_kept z (ps ∷ more) [] t xs e = absurd (omega arith)
tail_kept z (ps ∷ more) (n ∷ s) t xs e =
    let far : List ℕ = s ++ t in
    let near : List ℕ = s ++ product t ∷ [] in
    let item : Option ℕ → List _ = at_place (λ k. kept_atoms z more far (piece (product far) xs k)) (replicate (product (kept_shape more far)) z) in
    let item_of : Option ℕ → List _ = at_place (λ k. kept_atoms z more near (piece (product near) xs k)) (replicate (product (kept_shape more near)) z) in
    let each : (p : Option ℕ) → item p ≡ item_of p =
    λ p. elim p as (λ q. item q ≡ item_of q) [
      | Some k ↦ tail_kept z more s t (piece (product far) xs k) (omega arith) ∙ ap (λ n. kept_atoms z more near (piece n xs k)) (tail_product s t)
      | None ↦ ap (λ n. replicate n z) (tail_shape more s t (omega arith))
    ] in
    same_pieces item item_of ps each
