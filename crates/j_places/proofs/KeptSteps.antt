-- What is kept along axes, as it is appended.
use Rattle.std.proofs.Common.{◌≡◌, ◌<◌, ◌≤◌, ◌+◌, ◌-◌, ◌*◌, ◌/◌, ℕ, List, [], ◌∷◌, ◌++◌, length, map, take, drop, replicate, get_or, arith, refl, sym, ap, ◌∙◌, subst, zero-mul, Option, Some, None}
use Prim.Native.Nat.{zero, suc}
use Rattle.std.specs.List.{All, flat_map, range_with_len}
use Rattle.std.proofs.lemmas.List.{length-replicate, append-nil, append_assoc, drop_more, take_rest, take_more, take_all}
use Rattle.std.proofs.lemmas.List.Concat.{flat_map-append}
use Rattle.std.proofs.lemmas.List.Elements.{All-take, All-drop, All-replicate}
use Rattle.std.proofs.Math.Nat.{mul-le-mul_left, mul_comm, mul-div_cancel_left}
use Rattle.j_definitions.specs.Array.{product}
use Rattle.j_places.specs.ItemPlaces.{parts_at}
use Rattle.j_places.specs.AxisPlaces.{kept_shape, kept_atoms, at_place}
use Rattle.j_places.specs.Axes.{places_of, extents, item_kept, IsAxis}
use Rattle.j_places.specs.declared.axis.Axis.{Axis}
use Rattle.j_places.proofs.PartLaws.{parts_joined}
use Rattle.j_places.proofs.KeptLaws.{fill_pieces, piece_many, places_in, IsIn}

abbrev along : {X : Type 0} → X → ℕ → List X → Option ℕ → List X
along z size xs = at_place (λ k. take size (drop (k * size) xs)) (replicate size z)

none_pieces : {X : Type 0} (z : X) (size : ℕ) (xs : List X) (n : ℕ) → flat_map (along z size xs) (replicate n None) ≡ replicate (n * size) z
none_pieces z size xs n =
    let nowhere : Option ℕ = None in
    fill_pieces (along z size xs) z size (replicate n nowhere) (All-replicate (λ p. along z size xs p ≡ replicate size z) n nowhere refl) ∙ ap (λ k. replicate (k * size) z) (length-replicate n nowhere)

some_pieces : {X : Type 0} (z : X) (size : ℕ) (xs : List X) (ks : List ℕ) → flat_map (along z size xs) (map Some ks) ≡ parts_at size xs ks
some_pieces z size xs [] = refl
some_pieces z size xs (k ∷ ks) = ap (λ r. take size (drop (k * size) xs) ++ r) (some_pieces z size xs ks)

run_pieces : {X : Type 0} (z : X) (size : ℕ) (xs : List X) (a n : ℕ) → flat_map (along z size xs) (map Some (range_with_len a n)) ≡ take (n * size) (drop (a * size) xs)
run_pieces z size xs a n = some_pieces z size xs (range_with_len a n) ∙ parts_joined size xs a n

-- one axis in four runs
axis_pieces : {X : Type 0} (z : X) (size : ℕ) (xs : List X) (a : Axis) →
    flat_map (along z size xs) (places_of a) ≡ replicate (a.before * size) z ++ (take (a.count * size) (drop (a.start * size) xs) ++ (take (a.wrapped * size) (drop 0 xs) ++ replicate (a.after * size) z))
axis_pieces z size xs a =
    let nowhere : Option ℕ = None in
    let run : List (Option ℕ) = map Some (range_with_len a.start a.count) in
    let wrap : List (Option ℕ) = map Some (range_with_len 0 a.wrapped) in
    let behind : List (Option ℕ) = replicate a.after nowhere in
    let f : Option ℕ → List _ = along z size xs in
    flat_map-append f (replicate a.before nowhere) (run ++ (wrap ++ behind))
    ∙ ap (λ r. r ++ flat_map f (run ++ (wrap ++ behind))) (none_pieces z size xs a.before)
    ∙ ap (λ r. replicate (a.before * size) z ++ r)
    (flat_map-append f run (wrap ++ behind) ∙ ap (λ r. r ++ flat_map f (wrap ++ behind)) (run_pieces z size xs a.start a.count)
    ∙ ap (λ r. take (a.count * size) (drop (a.start * size) xs) ++ r)
    (flat_map-append f wrap behind ∙ ap (λ r. r ++ flat_map f behind) (run_pieces z size xs 0 a.wrapped ∙ ap (λ k. take (a.wrapped * size) (drop k xs)) (zero-mul size))
    ∙ ap (λ r. take (a.wrapped * size) (drop 0 xs) ++ r) (none_pieces z size xs a.after)))

pub runs_appended : {X : Type 0} (z : X) (size : ℕ) (xs : List X) (a : Axis) (out one two three new run wrap : List X) → one ≡ out ++ replicate (a.before * size) z → run ≡ take (a.count * size) (drop (a.start * size) xs) → two ≡ one ++ run →
    wrap ≡ take (a.wrapped * size) (drop 0 xs) → three ≡ two ++ wrap → new ≡ three ++ replicate (a.after * size) z → new ≡ out ++ flat_map (along z size xs) (places_of a)
runs_appended z size xs a out one two three new run wrap e1 r e2 w e3 e4 =
    let behind = replicate (a.after * size) z in
    let front = replicate (a.before * size) z in
    e4 ∙ ap (λ l. l ++ behind) (e3 ∙ ap (λ l. l ++ wrap) (e2 ∙ ap (λ l. l ++ run) e1))
    ∙ append_assoc ((out ++ front) ++ run) wrap behind ∙ append_assoc (out ++ front) run (wrap ++ behind) ∙ append_assoc out front (run ++ (wrap ++ behind))
    ∙ ap (λ l. out ++ (front ++ (l ++ (wrap ++ behind)))) r ∙ ap (λ l. out ++ (front ++ (take (a.count * size) (drop (a.start * size) xs) ++ (l ++ behind)))) w
    ∙ ap (λ l. out ++ l) (sym (axis_pieces z size xs a))

-- axes as the first one and the rest
abbrev pub no_axis : Axis
no_axis = record { extent = 0; before = 0; start = 0; count = 0; wrapped = 0; after = 0 }

abbrev pub first_axis : List Axis → Axis
first_axis axes = get_or axes 0 no_axis

abbrev pub rest_axes : List Axis → List Axis
rest_axes axes = take (length axes - 1) (drop 1 axes)

pub axes_are : (axes : List Axis) → 1 ≤ length axes → axes ≡ first_axis axes ∷ rest_axes axes
axes_are axes h = drop_more axes 0 no_axis (omega arith) ∙ ap (λ (r : List Axis). first_axis axes ∷ r) (sym (take_rest axes 1))

-- sizes of the items, and of what is kept of each
pub extents_are : (axes inner : List Axis) (a : Axis) (unit : ℕ) → axes ≡ a ∷ inner → product (extents axes unit) ≡ a.extent * product (extents inner unit)
extents_are axes inner a unit e = ap (λ (l : List Axis). product (extents l unit)) e

pub places_are : (axes inner : List Axis) (a : Axis) (unit : ℕ) → axes ≡ a ∷ inner →
    product (kept_shape (map places_of axes) (extents axes unit)) ≡ length (places_of a) * product (kept_shape (map places_of inner) (extents inner unit))
places_are axes inner a unit e = ap (λ (l : List Axis). product (kept_shape (map places_of l) (extents l unit))) e

left_some : (m p : ℕ) → 0 < m * p → 0 < m
left_some zero p h = absurd (omega arith)
left_some (suc m) p h = omega arith

right_some : (m p : ℕ) → 0 < m * p → 0 < p
right_some m zero h = absurd (omega arith)
right_some m (suc p) h = omega arith

pub quotient_is : (n m p : ℕ) → n ≡ m * p → 0 < n → n / m ≡ p
quotient_is n m p e h =
    let some : 0 < m * p = omega arith in
    let positive : 0 < m = left_some m p some in
    ap (λ k. k / m) e ∙ mul-div_cancel_left p positive

pub divisor_some : (n m p : ℕ) → n ≡ m * p → 0 < n → 0 < m
divisor_some n m p e h = left_some m p (omega arith)

pub quotient_some : (n m p : ℕ) → n ≡ m * p → 0 < n → 0 < p
quotient_some n m p e h = right_some m p (omega arith)

pub quotient_few : (n m p limit : ℕ) → n ≡ m * p → 0 < n → n ≤ limit → p ≤ limit
quotient_few n zero p limit e h g = absurd (omega arith)
quotient_few n (suc m) p limit e h g = omega arith

-- an item of the axis
pub place_inside : (a : Axis) (k item : ℕ) → IsAxis a → k < length (places_of a) → Some item ≡ get_or (places_of a) k (Some item) → item < a.extent
place_inside a k item is h e = subst (IsIn a.extent) (sym e) (places_in a is k (Some item) h)

-- one kept place more
pub place_more : {X : Type 0} (f : Option ℕ → List X) (ps : List (Option ℕ)) (p : Option ℕ) (k : ℕ) (out mid new : List X) → k < length ps → p ≡ get_or ps k p → mid ≡ out ++ flat_map f (take k ps) → new ≡ mid ++ f p →
    new ≡ out ++ flat_map f (take (k + 1) ps)
place_more f ps p k out mid new h is before more =
    more ∙ ap (λ l. l ++ f p) before ∙ append_assoc out (flat_map f (take k ps)) (f p)
    ∙ ap (λ l. out ++ l)
    (ap (λ l. flat_map f (take k ps) ++ l) (sym (append-nil (f p))) ∙ sym (flat_map-append f (take k ps) (p ∷ []))
    ∙ ap (flat_map f) (ap (λ q. take k ps ++ q ∷ []) is ∙ sym (take_more ps k p h)))

pub places_ended : {X : Type 0} (z : X) (axes inner : List Axis) (a : Axis) (unit k : ℕ) (xs out new : List X) → axes ≡ a ∷ inner → length (places_of a) ≤ k →
    new ≡ out ++ flat_map (item_kept z inner unit xs) (take k (places_of a)) → new ≡ out ++ kept_atoms z (map places_of axes) (extents axes unit) xs
places_ended z axes inner a unit k xs out new e h all =
    all ∙ ap (λ ps. out ++ flat_map (item_kept z inner unit xs) ps) (take_all k (places_of a) h) ∙ ap (λ (l : List Axis). out ++ kept_atoms z (map places_of l) (extents l unit) xs) (sym e)

pub item_more : {X : Type 0} (z : X) (inner : List Axis) (unit size item : ℕ) (xs run mid new : List X) → size ≡ product (extents inner unit) → run ≡ take size (drop (item * size) xs) →
    new ≡ mid ++ kept_atoms z (map places_of inner) (extents inner unit) run → new ≡ mid ++ item_kept z inner unit xs (Some item)
item_more z inner unit size item xs run mid new e is more =
    more ∙ ap (λ r. mid ++ kept_atoms z (map places_of inner) (extents inner unit) r) (is ∙ ap (λ n. take n (drop (item * n) xs)) e)

pub fills_more : {X : Type 0} (z : X) (inner : List Axis) (unit count : ℕ) (xs mid new : List X) → count ≡ product (kept_shape (map places_of inner) (extents inner unit)) → new ≡ mid ++ replicate count z →
    new ≡ mid ++ item_kept z inner unit xs None
fills_more z inner unit count xs mid new e more = more ∙ ap (λ n. mid ++ replicate n z) e

-- the same of the first axis and the rest
pub inner_extent : {X : Type 0} (axes : List Axis) (unit : ℕ) (xs : List X) → 1 ≤ length axes → length xs ≡ product (extents axes unit) → 0 < length xs →
    length xs / (first_axis axes).extent ≡ product (extents (rest_axes axes) unit)
inner_extent axes unit xs h e some =
    quotient_is (length xs) (first_axis axes).extent (product (extents (rest_axes axes) unit)) (e ∙ extents_are axes (rest_axes axes) (first_axis axes) unit (axes_are axes h)) some

pub inner_extent_some : {X : Type 0} (axes : List Axis) (unit : ℕ) (xs : List X) → 1 ≤ length axes → length xs ≡ product (extents axes unit) → 0 < length xs → 0 < product (extents (rest_axes axes) unit)
inner_extent_some axes unit xs h e some =
    quotient_some (length xs) (first_axis axes).extent (product (extents (rest_axes axes) unit)) (e ∙ extents_are axes (rest_axes axes) (first_axis axes) unit (axes_are axes h)) some

abbrev pub kept_count : List Axis → ℕ → ℕ
kept_count axes unit = product (kept_shape (map places_of axes) (extents axes unit))

kept_factor : (axes : List Axis) (unit size places : ℕ) → 1 ≤ length axes → size ≡ kept_count axes unit → places ≡ length (places_of (first_axis axes)) → size ≡ places * kept_count (rest_axes axes) unit
kept_factor axes unit size places h e p =
    e ∙ places_are axes (rest_axes axes) (first_axis axes) unit (axes_are axes h) ∙ ap (λ n. n * kept_count (rest_axes axes) unit) (sym p)

pub inner_count : (axes : List Axis) (unit size places : ℕ) → 1 ≤ length axes → size ≡ kept_count axes unit → 0 < size → places ≡ length (places_of (first_axis axes)) → size / places ≡ kept_count (rest_axes axes) unit
inner_count axes unit size places h e some p = quotient_is size places (kept_count (rest_axes axes) unit) (kept_factor axes unit size places h e p) some

pub inner_count_some : (axes : List Axis) (unit size places : ℕ) → 1 ≤ length axes → size ≡ kept_count axes unit → 0 < size → places ≡ length (places_of (first_axis axes)) → 0 < size / places
inner_count_some axes unit size places h e some p =
    subst (λ n. 0 < n) (sym (inner_count axes unit size places h e some p)) (quotient_some size places (kept_count (rest_axes axes) unit) (kept_factor axes unit size places h e p) some)

pub inner_count_few : (axes : List Axis) (unit size places limit : ℕ) → 1 ≤ length axes → size ≡ kept_count axes unit → 0 < size → size ≤ limit → places ≡ length (places_of (first_axis axes)) → size / places ≤ limit
inner_count_few axes unit size places limit h e some few p =
    subst (λ n. n ≤ limit) (sym (inner_count axes unit size places h e some p)) (quotient_few size places (kept_count (rest_axes axes) unit) limit (kept_factor axes unit size places h e p) some few)

pub inner_axes : (axes : List Axis) → All IsAxis axes → All IsAxis (rest_axes axes)
inner_axes axes h = All-take IsAxis (length axes - 1) (drop 1 axes) (All-drop IsAxis 1 axes h)

inside : (axes : List Axis) (k places item : ℕ) → 1 ≤ length axes → All IsAxis axes → places ≡ length (places_of (first_axis axes)) → k < places → Some item ≡ get_or (places_of (first_axis axes)) k (Some item) →
    item < (first_axis axes).extent
inside axes k places item h are p g e = place_inside (first_axis axes) k item (are 0 no_axis (omega arith)) (omega arith) e

pub item_fits : {X : Type 0} (axes : List Axis) (unit k places item : ℕ) (xs : List X) → 1 ≤ length axes → All IsAxis axes → length xs ≡ product (extents axes unit) → 0 < length xs →
    places ≡ length (places_of (first_axis axes)) → k < places → Some item ≡ get_or (places_of (first_axis axes)) k (Some item) → (item + 1) * (length xs / (first_axis axes).extent) ≤ length xs
item_fits axes unit k places item xs h are e some p g is =
    let size : ℕ = product (extents (rest_axes axes) unit) in
    let extent : ℕ = (first_axis axes).extent in
    let within : item < extent = inside axes k places item h are p g is in
    let more : item + 1 ≤ extent = omega arith in
    omega (arith, ap (λ n. (item + 1) * n) (inner_extent axes unit xs h e some), e, extents_are axes (rest_axes axes) (first_axis axes) unit (axes_are axes h), mul_comm (item + 1) size, mul_comm extent size, mul-le-mul_left size more)

pub item_many : {X : Type 0} (axes : List Axis) (unit k places item : ℕ) (xs run : List X) → 1 ≤ length axes → All IsAxis axes → length xs ≡ product (extents axes unit) → 0 < length xs →
    places ≡ length (places_of (first_axis axes)) → k < places → Some item ≡ get_or (places_of (first_axis axes)) k (Some item) →
    run ≡ take (length xs / (first_axis axes).extent) (drop (item * (length xs / (first_axis axes).extent)) xs) → length run ≡ product (extents (rest_axes axes) unit)
item_many axes unit k places item xs run h are e some p g is r =
    ap length (r ∙ ap (λ n. take n (drop (item * n) xs)) (inner_extent axes unit xs h e some))
    ∙ piece_many xs (first_axis axes).extent (product (extents (rest_axes axes) unit)) item (e ∙ extents_are axes (rest_axes axes) (first_axis axes) unit (axes_are axes h)) (inside axes k places item h are p g is)
