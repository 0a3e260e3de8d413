-- The places of an axis.
use Rattle.std.proofs.Common.{◌≡◌, ◌<◌, ◌≤◌, ◌+◌, ◌-◌, ℕ, ℤ, pos, negsuc, min, List, [], ◌∷◌, ◌++◌, length, map, take, drop, replicate, get_or, arith, refl, sym, ap, ◌∙◌, Option, Some, None, ◌<ℤ◌, ◌≤ℤ◌}
use Prim.Native.Nat.{zero, suc}
use Rattle.std.specs.List.{range_with_len}
use Rattle.std.specs.Int.{int_rem_euclid}
use Rattle.std.specs.Int.RustNames.{unsigned_abs}
use Rattle.std.proofs.lemmas.Int.{ints}
use Rattle.j_places.specs.declared.axis.Keeping.TheVariants.{Taken, Dropped, Rotated}
use Rattle.std.proofs.lemmas.List.{take-map, drop-map, take-replicate, drop-replicate, length-append, length-map, length-replicate, append-nil, get_or-append_right, get_or_append_left, get_or-replicate, take-append-le, take-append-drop, length-drop, length-take}
use Rattle.std.proofs.lemmas.List.FromFn.{length-range_with_len, get_or-map-range_with_len}
use Rattle.j_places.specs.AxisPlaces.{kept, taken, dropped, rotated}
use Rattle.j_places.specs.Axes.{places_of}
use Rattle.j_places.specs.declared.axis.Axis.{Axis}

pub take_split : {X : Type 0} (k : ℕ) (xs ys : List X) → take k (xs ++ ys) ≡ take k xs ++ take (k - length xs) ys
take_split zero xs ys = let none : 0 - length xs ≡ 0 = omega arith in ap (λ n. take n ys) (sym none)
take_split (suc k) [] ys = let all : suc k - 0 ≡ suc k = omega arith in ap (λ n. take n ys) (sym all)
take_split (suc k) (x ∷ xs) ys =
    let less : suc k - suc (length xs) ≡ k - length xs = omega arith in
    ap (λ r. x ∷ r) (take_split k xs ys) ∙ ap (λ n. (x ∷ take k xs) ++ take n ys) (sym less)

pub drop_split : {X : Type 0} (k : ℕ) (xs ys : List X) → drop k (xs ++ ys) ≡ drop k xs ++ drop (k - length xs) ys
drop_split zero xs ys = let none : 0 - length xs ≡ 0 = omega arith in ap (λ n. xs ++ drop n ys) (sym none)
drop_split (suc k) [] ys = let all : suc k - 0 ≡ suc k = omega arith in ap (λ n. drop n ys) (sym all)
drop_split (suc k) (x ∷ xs) ys =
    let less : suc k - suc (length xs) ≡ k - length xs = omega arith in
    drop_split k xs ys ∙ ap (λ n. drop k xs ++ drop n ys) (sym less)

pub take_range : (k a n : ℕ) → take k (range_with_len a n) ≡ range_with_len a (min k n)
take_range zero a n = let none : min 0 n ≡ 0 = omega arith in ap (range_with_len a) (sym none)
take_range (suc k) a zero = let none : min (suc k) 0 ≡ 0 = omega arith in ap (range_with_len a) (sym none)
take_range (suc k) a (suc n) =
    let less : min (suc k) (suc n) ≡ suc (min k n) = omega arith in
    ap (λ r. a ∷ r) (take_range k (a + 1) n) ∙ ap (range_with_len a) (sym less)

pub drop_range : (k a n : ℕ) → drop k (range_with_len a n) ≡ range_with_len (a + min k n) (n - k)
drop_range zero a n =
    let all : n - 0 ≡ n = omega arith in
    let from : a + min 0 n ≡ a = omega arith in
    ap (range_with_len a) (sym all) ∙ ap (λ b. range_with_len b (n - 0)) (sym from)
drop_range (suc k) a zero = let none : 0 - suc k ≡ 0 = omega arith in ap (range_with_len (a + min (suc k) 0)) (sym none)
drop_range (suc k) a (suc n) =
    let less : suc n - suc k ≡ n - k = omega arith in
    let from : (a + 1) + min k n ≡ a + min (suc k) (suc n) = omega arith in
    drop_range k (a + 1) n ∙ ap (λ b. range_with_len b (n - k)) from ∙ ap (range_with_len (a + min (suc k) (suc n))) (sym less)

abbrev whole : ℕ → List (Option ℕ)
whole n = map Some (range_with_len 0 n)

whole_many : (n : ℕ) → length (whole n) ≡ n
whole_many n = length-map (range_with_len 0 n) Some ∙ length-range_with_len 0 n

-- a run alone
abbrev run : ℕ → ℕ → List (Option ℕ)
run a n = map Some (range_with_len a n)

take_whole : (k n : ℕ) → take k (whole n) ≡ run 0 (min k n)
take_whole k n = take-map Some k (range_with_len 0 n) ∙ ap (map Some) (take_range k 0 n)

drop_whole : (k n : ℕ) → drop k (whole n) ≡ run (min k n) (n - k)
drop_whole k n =
    let from : 0 + min k n ≡ min k n = omega arith in
    drop-map Some k (range_with_len 0 n) ∙ ap (map Some) (drop_range k 0 n ∙ ap (λ b. range_with_len b (n - k)) from)

-- the items that are taken, with fills behind or before
pub taken_first : (k n : ℕ) → taken (pos k) None (whole n) ≡ run 0 (min k n) ++ replicate (k - n) None
taken_first k n =
    take_split k (whole n) (replicate k None) ∙ ap (λ r. r ++ take (k - length (whole n)) (replicate k None)) (take_whole k n)
    ∙ ap (λ r. run 0 (min k n) ++ r) (ap (λ m. take (k - m) (replicate k None)) (whole_many n) ∙ take-replicate (k - n) k None (omega arith))

pub taken_last : (k n : ℕ) → taken (negsuc k) None (whole n) ≡ replicate (k + 1 - n) None ++ run (n - min (k + 1) n) (min (k + 1) n)
taken_last k n =
    let many : length (replicate (k + 1) (let z : Option ℕ = None in z)) ≡ k + 1 = length-replicate (k + 1) (let z : Option ℕ = None in z) in
    let from : min (n - (k + 1)) n ≡ n - min (k + 1) n = omega arith in
    let left : n - (n - (k + 1)) ≡ min (k + 1) n = omega arith in
    ap (λ m. drop m (replicate (k + 1) None ++ whole n)) (whole_many n) ∙ drop_split n (replicate (k + 1) None) (whole n)
    ∙ ap (λ r. r ++ drop (n - length (replicate (k + 1) (let z : Option ℕ = None in z))) (whole n)) (drop-replicate n (k + 1) None)
    ∙ ap (λ m. replicate (k + 1 - n) None ++ drop (n - m) (whole n)) many
    ∙ ap (λ r. replicate (k + 1 - n) None ++ r) (drop_whole (n - (k + 1)) n ∙ ap (λ a. run a (n - (n - (k + 1)))) from ∙ ap (run (n - min (k + 1) n)) left)

pub dropped_first : (k n : ℕ) → dropped (pos k) (whole n) ≡ run (n - (n - k)) (n - k)
dropped_first k n = let from : min k n ≡ n - (n - k) = omega arith in drop_whole k n ∙ ap (λ a. run a (n - k)) from

pub dropped_last : (k n : ℕ) → dropped (negsuc k) (whole n) ≡ run 0 (n - (k + 1))
dropped_last k n =
    let less : min (n - (k + 1)) n ≡ n - (k + 1) = omega arith in
    ap (λ m. take (m - (k + 1)) (whole n)) (whole_many n) ∙ take_whole (n - (k + 1)) n ∙ ap (run 0) less

-- how many places are kept, and which
pub places_many : (a : Axis) → length (places_of a) ≡ a.before + a.count + a.wrapped + a.after
places_many a =
    let z : Option ℕ = None in
    omega (
      arith,
      length-append (replicate a.before z) (run a.start a.count ++ (run 0 a.wrapped ++ replicate a.after z)),
      length-append (run a.start a.count) (run 0 a.wrapped ++ replicate a.after z),
      length-append (run 0 a.wrapped) (replicate a.after z),
      length-replicate a.before z,
      length-replicate a.after z,
      length-map (range_with_len a.start a.count) Some,
      length-map (range_with_len 0 a.wrapped) Some,
      length-range_with_len a.start a.count,
      length-range_with_len 0 a.wrapped,
    )

run_many : (a n : ℕ) → length (run a n) ≡ n
run_many a n = length-map (range_with_len a n) Some ∙ length-range_with_len a n

past_before : (a : Axis) (k : ℕ) (d : Option ℕ) → a.before ≤ k → get_or (places_of a) k d ≡ get_or (run a.start a.count ++ (run 0 a.wrapped ++ replicate a.after None)) (k - a.before) d
past_before a k d h = get_or-append_right (replicate a.before None) (run a.start a.count ++ (run 0 a.wrapped ++ replicate a.after None)) a.before k d (length-replicate a.before (let z : Option ℕ = None in z)) h

past_run : (a : Axis) (k : ℕ) (d : Option ℕ) → a.before ≤ k → a.count ≤ k - a.before → get_or (places_of a) k d ≡ get_or (run 0 a.wrapped ++ replicate a.after None) (k - a.before - a.count) d
past_run a k d h g = past_before a k d h ∙ get_or-append_right (run a.start a.count) (run 0 a.wrapped ++ replicate a.after None) a.count (k - a.before) d (run_many a.start a.count) g

pub place_before : (a : Axis) (k : ℕ) (d : Option ℕ) → k < a.before → None ≡ get_or (places_of a) k d
place_before a k d h =
    let z : Option ℕ = None in
    sym (get_or_append_left (replicate a.before z) (run a.start a.count ++ (run 0 a.wrapped ++ replicate a.after z)) d k (omega (arith, length-replicate a.before z)) ∙ get_or-replicate a.before k z d h)

pub place_in_run : (a : Axis) (k : ℕ) (d : Option ℕ) → a.before ≤ k → k - a.before < a.count → Some (a.start + (k - a.before)) ≡ get_or (places_of a) k d
place_in_run a k d h g =
    sym (past_before a k d h ∙ get_or_append_left (run a.start a.count) (run 0 a.wrapped ++ replicate a.after None) d (k - a.before) (omega (arith, run_many a.start a.count))
    ∙ get_or-map-range_with_len Some a.start a.count (k - a.before) (a.start + (k - a.before)) d g refl)

pub place_wrapped : (a : Axis) (k : ℕ) (d : Option ℕ) → a.before ≤ k → a.count ≤ k - a.before → k - a.before - a.count < a.wrapped → Some (k - a.before - a.count) ≡ get_or (places_of a) k d
place_wrapped a k d h g w =
    sym (past_run a k d h g ∙ get_or_append_left (run 0 a.wrapped) (replicate a.after None) d (k - a.before - a.count) (omega (arith, run_many 0 a.wrapped))
    ∙ get_or-map-range_with_len Some 0 a.wrapped (k - a.before - a.count) (k - a.before - a.count) d w (omega arith))

pub place_after : (a : Axis) (k : ℕ) (d : Option ℕ) → k < length (places_of a) → a.before ≤ k → a.count ≤ k - a.before → a.wrapped ≤ k - a.before - a.count → None ≡ get_or (places_of a) k d
place_after a k d l h g w =
    let z : Option ℕ = None in
    sym (past_run a k d h g ∙ get_or-append_right (run 0 a.wrapped) (replicate a.after z) a.wrapped (k - a.before - a.count) d (run_many 0 a.wrapped) w
    ∙ get_or-replicate a.after (k - a.before - a.count - a.wrapped) z d (omega (arith, places_many a)))

-- the axes that the verbs make
pub taken_before : (z : ℤ) (n wanted fills : ℕ) → z <ℤ pos 0 → wanted ≡ unsigned_abs z → fills ≡ wanted - n →
    replicate fills None ++ (run (n - (wanted - fills)) (wanted - fills) ++ (run 0 0 ++ replicate 0 None)) ≡ kept Taken z n
taken_before (pos k) n wanted fills h e f = absurd (omega (arith, ints, h))
taken_before (negsuc k) n wanted fills h e f =
    let none : fills ≡ k + 1 - n = omega (arith, e) in
    let many : wanted - fills ≡ min (k + 1) n = omega (arith, e) in
    ap (λ m. replicate m None ++ (run (n - (wanted - fills)) (wanted - fills) ++ [])) none ∙ ap (λ r. replicate (k + 1 - n) None ++ r) (append-nil (run (n - (wanted - fills)) (wanted - fills)))
    ∙ ap (λ m. replicate (k + 1 - n) None ++ run (n - m) m) many ∙ sym (taken_last k n)

pub taken_behind : (z : ℤ) (n wanted fills : ℕ) → pos 0 ≤ℤ z → wanted ≡ unsigned_abs z → fills ≡ wanted - n →
    replicate 0 None ++ (run 0 (wanted - fills) ++ (run 0 0 ++ replicate fills None)) ≡ kept Taken z n
taken_behind (pos k) n wanted fills h e f =
    let none : fills ≡ k - n = omega (arith, e) in
    let many : wanted - fills ≡ min k n = omega (arith, e) in
    ap (λ m. run 0 (wanted - fills) ++ replicate m None) none ∙ ap (λ m. run 0 m ++ replicate (k - n) None) many ∙ sym (taken_first k n)
taken_behind (negsuc k) n wanted fills h e f = absurd (omega (arith, ints, h))

pub dropped_behind : (z : ℤ) (n out count start : ℕ) → z <ℤ pos 0 → out ≡ unsigned_abs z → count ≡ n - out → start ≡ 0 →
    replicate 0 None ++ (run start count ++ (run 0 0 ++ replicate 0 None)) ≡ kept Dropped z n
dropped_behind (pos k) n out count start h e c s = absurd (omega (arith, ints, h))
dropped_behind (negsuc k) n out count start h e c s =
    let many : count ≡ n - (k + 1) = omega (arith, e) in
    append-nil (run start count) ∙ ap (λ a. run a count) s ∙ ap (run 0) many ∙ sym (dropped_last k n)

pub dropped_before : (z : ℤ) (n out count start : ℕ) → pos 0 ≤ℤ z → out ≡ unsigned_abs z → count ≡ n - out → start ≡ n - count →
    replicate 0 None ++ (run start count ++ (run 0 0 ++ replicate 0 None)) ≡ kept Dropped z n
dropped_before (pos k) n out count start h e c s =
    let many : count ≡ n - k = omega (arith, e) in
    append-nil (run start count) ∙ ap (λ a. run a count) s ∙ ap (λ m. run (n - m) m) many ∙ sym (dropped_first k n)
dropped_before (negsuc k) n out count start h e c s = absurd (omega (arith, ints, h))

pub left_below : (z : ℤ) (n left : ℕ) → 0 < n → left ≡ unsigned_abs (int_rem_euclid z (pos n)) → left < n
left_below (pos k) n left some e = omega (arith, e)
left_below (negsuc k) n left some e = omega (arith, e)

pub rotated_round : (z : ℤ) (n left : ℕ) → 0 < n → left ≡ unsigned_abs (int_rem_euclid z (pos n)) →
    replicate 0 None ++ (run left (n - left) ++ (run 0 left ++ replicate 0 None)) ≡ kept Rotated z n
rotated_round z n left some e =
    let below = left_below z n left some e in
    let front : min left n ≡ left = omega arith in
    let m : ℕ → ℕ = λ len. unsigned_abs (int_rem_euclid z (pos len)) in
    ap (λ r. run left (n - left) ++ r) (append-nil (run 0 left))
    ∙ ap (λ r. r ++ run 0 left) (sym (drop_whole left n ∙ ap (λ a. run a (n - left)) front))
    ∙ ap (λ r. drop left (whole n) ++ r) (sym (take_whole left n ∙ ap (run 0) front))
    ∙ ap (λ k. drop k (whole n) ++ take k (whole n)) (e ∙ ap m (sym (whole_many n)))

none_left : (m : ℕ) → (let r : List (Option ℕ) = [] in r) ≡ drop m [] ++ take m []
none_left zero = refl
none_left (suc m) = refl

pub rotated_none : (z : ℤ) → kept Dropped (pos 0) 0 ≡ kept Rotated z 0
rotated_none z = none_left (unsigned_abs (int_rem_euclid z (pos 0)))

-- what is taken and what is left make the list
pub taken_and_left : {X : Type 0} (k : ℕ) (z : X) (xs : List X) → k ≤ length xs → taken (pos k) z xs ++ dropped (pos k) xs ≡ xs
taken_and_left k z xs h = ap (λ r. r ++ drop k xs) (take-append-le k xs (replicate k z) h) ∙ take-append-drop k xs

-- moving round the end keeps the length
pub length-rotated : {X : Type 0} (k : ℤ) (xs : List X) → length (rotated k xs) ≡ length xs
length-rotated k xs =
    let m : ℕ = unsigned_abs (int_rem_euclid k (pos (length xs))) in
    omega (arith, length-append (drop m xs) (take m xs), length-drop m xs, length-take m xs)
