-- What is entered into a table of places, and what is read from it.
use Rattle.std.proofs.Common.{◌≡◌, ◌<◌, ◌+◌, ◌-◌, inl, inr, ℕ, ℤ, pos, negsuc, ◌+ℤ◌, ◌-ℤ◌, Bool, true, false, ◌&&◌, cond, List, [], ◌∷◌, ◌++◌, length, map, take, drop, reverse, replicate, get_or, arith, refl, sym, ap, ◌∙◌, set, subst, ◌≤◌, mul-one, drop-cons, get_or-take, length-take-le, ◌≤ℤ◌, ◌<ℤ◌, Option, Some, None, IfSome}
use Prim.Native.Nat.{suc}
use Rattle.std.specs.List.{All, filter, range_with_len}
use Rattle.std.specs.Ordering.{int_eq}
use Rattle.std.specs.Cmp.Lexicographic.{pointwise}
use Rattle.std.proofs.lemmas.Int.{ints}
use Rattle.std.proofs.lemmas.Bool.{cases_eq, cases_lt}
use Rattle.std.proofs.lemmas.List.{get_or-set_same, get_or-set_other, get_or-replicate, get_or-map, get_or_default, length-map, reverse-append, append-nil}
use Rattle.std.proofs.lemmas.List.Elements.{All-contains, Contains-get_or}
use Rattle.std.proofs.lemmas.List.FromFn.{map-range_with_len_more}
use Rattle.j_search.specs.declared.seeking.Side.{Side}
use Rattle.j_search.specs.declared.seeking.Side.TheVariants.{First, Last}
use Rattle.j_search.specs.declared.numbered.Range.{Range}
use Rattle.j_search.specs.Matching.{places}
use Rattle.j_search.specs.Sought.{run, place_of, run_places}
use Rattle.j_search.specs.Ranged.{IsBetween, LiesIn}
use Rattle.j_search.specs.Tabled.{IsTable, number_place}
use Rattle.j_search.proofs.Keeping.{int_same, int_other}
use Rattle.j_search.proofs.Picks.{keep, filter_more, none_place, place_same}

-- the entry of one place
abbrev pub IsEntered : ℤ → ℕ → ℤ → ℕ → List ℤ → List ℤ → Type 0
IsEntered low width z place old new = (w : ℕ) → w < width → get_or new w (pos 0) ≡ cond (int_eq z (low +ℤ pos w)) (pos place) (get_or old w (pos 0))

pub entered_none : (low z : ℤ) (width place : ℕ) (old : List ℤ) → ((w : ℕ) → w < width → z ≡ (low +ℤ pos w) → ⊥) → IsEntered low width z place old old
entered_none low z width place old none = λ w l. ap (λ b. cond b (pos place) (get_or old w (pos 0))) (sym (int_other z (low +ℤ pos w) (none w l)))

pub entered_one : (low z : ℤ) (width place v : ℕ) (old new : List ℤ) → v < width → z ≡ (low +ℤ pos v) → length old ≡ width → new ≡ set old v (pos place) → IsEntered low width z place old new
entered_one low z width place v old new within is wide e = λ w l. elim (cases_eq w v) [
  | inl same ↦
      ap (λ zs. get_or zs w (pos 0)) e ∙ ap (λ i. get_or (set old v (pos place)) i (pos 0)) same ∙ get_or-set_same old v (pos place) (pos 0) (omega arith)
      ∙ ap (λ b. cond b (pos place) (get_or old w (pos 0))) (sym (int_same z (low +ℤ pos w) (is ∙ ap (λ i. low +ℤ pos i) (sym same))))
  | inr other ↦
      ap (λ zs. get_or zs w (pos 0)) e ∙ get_or-set_other old v w (pos place) (pos 0) other
      ∙ ap (λ b. cond b (pos place) (get_or old w (pos 0))) (sym (int_other z (low +ℤ pos w) (λ q. other (omega (arith, ints, is, q)))))
]

head_kept : (b : Bool) (a d : ℕ) (rest : List ℕ) → get_or (keep b a rest) 0 d ≡ cond b a (get_or rest 0 d)
head_kept true a d rest = refl
head_kept false a d rest = refl

last_kept : (b : Bool) (a d : ℕ) (rest : List ℕ) → get_or (reverse (rest ++ keep b a [])) 0 d ≡ cond b a (get_or (reverse rest) 0 d)
last_kept true a d rest = ap (λ xs. get_or xs 0 d) (reverse-append rest (a ∷ []))
last_kept false a d rest = ap (λ xs. get_or (reverse xs) 0 d) (append-nil rest)

first_step : (p : ℕ → Bool) (j n d : ℕ) → get_or (filter p (range_with_len j (suc n))) 0 d ≡ cond (p j) j (get_or (filter p (range_with_len (j + 1) n)) 0 d)
first_step p j n d = head_kept (p j) j d (filter p (range_with_len (j + 1) n))

last_step : (p : ℕ → Bool) (j d : ℕ) → get_or (reverse (filter p (places (j + 1)))) 0 d ≡ cond (p j) j (get_or (reverse (filter p (places j))) 0 d)
last_step p j d = ap (λ xs. get_or (reverse xs) 0 d) (filter_more p j) ∙ last_kept (p j) j d (filter p (places j))

pos_cond : (b : Bool) (j r : ℕ) → cond b (pos j) (pos r) ≡ pos (cond b j r)
pos_cond true j r = refl
pos_cond false j r = refl

-- whether the number at a place is the one at w in a range
abbrev pub is_at : List ℤ → ℤ → ℕ → ℕ → Bool
is_at zs low w j = int_eq (get_or zs j (pos 0)) (low +ℤ pos w)

-- the first place from so many before the end on, and the last below a place
abbrev pub first_behind : List ℤ → ℤ → ℕ → ℕ → ℕ → ℕ
first_behind zs low w count behind = get_or (filter (is_at zs low w) (range_with_len (count - behind) behind)) 0 count

abbrev pub last_below : List ℤ → ℤ → ℕ → ℕ → ℕ → ℕ
last_below zs low w count j = get_or (reverse (filter (is_at zs low w) (places j))) 0 count

pub first_more : (zs old new : List ℤ) (low z : ℤ) (width count behind j : ℕ) → ((w : ℕ) → w < width → get_or old w (pos 0) ≡ pos (first_behind zs low w count behind)) →
    behind < count → j ≡ count - 1 - behind → z ≡ get_or zs j (pos 0) → IsEntered low width z j old new → (w : ℕ) → w < width → get_or new w (pos 0) ≡ pos (first_behind zs low w count (behind + 1))
first_more zs old new low z width count behind j so_far less is at here w l =
    let from : count - behind ≡ j + 1 = omega arith in
    let next : j ≡ count - (behind + 1) = omega arith in
    let more : suc behind ≡ behind + 1 = omega arith in
    here w l ∙ ap (cond (int_eq z (low +ℤ pos w)) (pos j)) (so_far w l) ∙ pos_cond (int_eq z (low +ℤ pos w)) j (first_behind zs low w count behind)
    ∙ ap (λ y. pos (cond (int_eq y (low +ℤ pos w)) j (first_behind zs low w count behind))) at
    ∙ ap (λ a. pos (cond (is_at zs low w j) j (get_or (filter (is_at zs low w) (range_with_len a behind)) 0 count))) from
    ∙ ap pos (sym (first_step (is_at zs low w) j behind count))
    ∙ ap (λ m. pos (get_or (filter (is_at zs low w) (range_with_len j m)) 0 count)) more
    ∙ ap (λ a. pos (get_or (filter (is_at zs low w) (range_with_len a (behind + 1))) 0 count)) next

pub last_more : (zs old new : List ℤ) (low z : ℤ) (width count j : ℕ) → ((w : ℕ) → w < width → get_or old w (pos 0) ≡ pos (last_below zs low w count j)) →
    z ≡ get_or zs j (pos 0) → IsEntered low width z j old new → (w : ℕ) → w < width → get_or new w (pos 0) ≡ pos (last_below zs low w count (j + 1))
last_more zs old new low z width count j so_far at here w l =
    here w l ∙ ap (cond (int_eq z (low +ℤ pos w)) (pos j)) (so_far w l) ∙ pos_cond (int_eq z (low +ℤ pos w)) j (last_below zs low w count j)
    ∙ ap (λ y. pos (cond (int_eq y (low +ℤ pos w)) j (last_below zs low w count j))) at ∙ ap pos (sym (last_step (is_at zs low w) j count))

pub none_yet : (width count : ℕ) (none : ℤ) (table : List ℤ) → none ≡ pos count → table ≡ replicate width none → (w : ℕ) → w < width → get_or table w (pos 0) ≡ pos count
none_yet width count none table is e w l = ap (λ zs. get_or zs w (pos 0)) e ∙ get_or-replicate width w none (pos 0) l ∙ is

pub first_done : (zs table : List ℤ) (r : Range) (count : ℕ) → count ≡ length zs → length table ≡ r.width → ((w : ℕ) → w < r.width → get_or table w (pos 0) ≡ pos (first_behind zs r.low w count count)) → IsTable First r zs table
first_done zs table r count many wide all =
    let start : count - count ≡ 0 = omega arith in
    record {
      wide = wide;
      there = λ w l. all w l ∙ ap (λ a. pos (get_or (filter (is_at zs r.low w) (range_with_len a count)) 0 count)) start
          ∙ ap (λ n. pos (place_of First (is_at zs r.low w) n)) many;
    }

pub last_done : (zs table : List ℤ) (r : Range) (count : ℕ) → count ≡ length zs → length table ≡ r.width → ((w : ℕ) → w < r.width → get_or table w (pos 0) ≡ pos (last_below zs r.low w count count)) → IsTable Last r zs table
last_done zs table r count many wide all = record { wide = wide; there = λ w l. all w l ∙ ap (λ n. pos (place_of Last (is_at zs r.low w) n)) many }

-- what is read from a table at a number of its range, and beyond it
read_at : (side : Side) (r : Range) (zs table : List ℤ) (z place : ℤ) (d : ℤ) → IsTable side r zs table → ((j : ℕ) → j < length zs → LiesIn r (get_or zs j (pos 0))) →
    ((w : ℕ) → w < r.width → z ≡ (r.low +ℤ pos w) → place ≡ get_or table w (pos 0)) → (((w : ℕ) → w < r.width → z ≡ (r.low +ℤ pos w) → ⊥) → place ≡ pos (length zs)) →
    z ≡ (r.low +ℤ d) → place ≡ pos (number_place side zs z)
read_at side r zs table z place (pos w) t all there beyond e = elim (cases_lt w r.width) [
  | inl l ↦ there w l e ∙ t.there w l ∙ ap (λ y. pos (number_place side zs y)) (sym e)
  | inr l ↦
      beyond (λ v m q. omega (arith, ints, e, q))
      ∙ ap pos (none_place side (λ j. int_eq (get_or zs j (pos 0)) z) (length zs) (λ j m. int_other (get_or zs j (pos 0)) z (λ q. let h = all j m in omega (arith, ints, e, q, h.high))))
]
read_at side r zs table z place (negsuc m) t all there beyond e =
    beyond (λ v l q. omega (arith, ints, e, q))
    ∙ ap pos (none_place side (λ j. int_eq (get_or zs j (pos 0)) z) (length zs) (λ j l. int_other (get_or zs j (pos 0)) z (λ q. let h = all j l in omega (arith, ints, e, q, h.low))))

pub one_run : {X : Type 0} (xs : List X) (j : ℕ) (d : X) → j < length xs → run 1 xs j ≡ get_or xs j d ∷ []
one_run xs j d l = ap (λ i. take 1 (drop i xs)) (mul-one j) ∙ ap (take 1) (drop-cons xs j d l)

and_true : (b : Bool) → (b && true) ≡ b
and_true true = refl
and_true false = refl

module _ {X : Type 0} (value : X → ℤ) (same : X → X → Bool) (law : (x y : X) → same x y ≡ int_eq (value x) (value y)) (xs : List X) where
  by_number : (side : Side) (y : X) → number_place side (map value xs) (value y) ≡ place_of side (λ j. pointwise same (run 1 xs j) (y ∷ [])) (length xs)
  by_number side y =
      ap (λ n. place_of side (λ j. int_eq (get_or (map value xs) j (pos 0)) (value y)) n) (length-map xs value)
      ∙ place_same side (λ j. int_eq (get_or (map value xs) j (pos 0)) (value y)) (λ j. pointwise same (run 1 xs j) (y ∷ [])) (length xs)
      (λ j l.
      ap (λ z. int_eq z (value y)) (get_or-map value xs j y (pos 0) l) ∙ sym (law (get_or xs j y) y) ∙ sym (and_true (same (get_or xs j y) y))
      ∙ ap (λ r. pointwise same r (y ∷ [])) (sym (one_run xs j y l)))

  pub table_more : (side : Side) (r : Range) (table : List ℤ) (ys : List X) (y : X) (k : ℕ) (place none : ℤ) (old new : List ℤ) → IsTable side r (map value xs) table → All (λ x. LiesIn r (value x)) xs → k < length ys → y ≡ get_or ys k y → none ≡ pos (length xs) →
      ((w : ℕ) → w < r.width → value y ≡ (r.low +ℤ pos w) → place ≡ get_or table w (pos 0)) → (((w : ℕ) → w < r.width → value y ≡ (r.low +ℤ pos w) → ⊥) → place ≡ none) →
      old ≡ run_places same side 1 (length xs) k xs ys → new ≡ old ++ place ∷ [] → new ≡ run_places same side 1 (length xs) (k + 1) xs ys
  table_more side r table ys y k place none old new t all l is beyond_is there beyond so_far pushed =
      let F : ℕ → ℤ = λ m. pos (place_of side (λ j. pointwise same (run 1 xs j) (run 1 ys m)) (length xs)) in
      let offset : ℤ = value y -ℤ r.low in
      let found : place ≡ pos (number_place side (map value xs) (value y)) =
      read_at side r (map value xs) table (value y) place offset t
      (λ j m.
      let within : j < length xs = omega (arith, length-map xs value) in
      subst (LiesIn r) (sym (get_or-map value xs j y (pos 0) within)) (All-contains (λ x. LiesIn r (value x)) xs (get_or xs j y) all (Contains-get_or xs j y within)))
      there (λ none_there. beyond none_there ∙ beyond_is ∙ ap pos (sym (length-map xs value))) (omega (arith, ints)) in
      pushed ∙ ap (λ zs. zs ++ place ∷ []) so_far
      ∙ ap (λ z. map F (places k) ++ z ∷ [])
      (found ∙ ap pos (by_number side y) ∙ ap (λ c. pos (place_of side (λ j. pointwise same (run 1 xs j) c) (length xs))) (ap (λ x. x ∷ []) is ∙ sym (one_run ys k y l)))
      ∙ sym (map-range_with_len_more F 0 k k (omega arith))

-- one element more lies between wider bounds
pub between_more : {X : Type 0} (value : X → ℤ) (xs : List X) (i : ℕ) (x : X) (low high least most : ℤ) → i < length xs → x ≡ get_or xs i x → All (IsBetween value low high) (take i xs) →
    least ≤ℤ low → least ≤ℤ value x → high ≤ℤ most → value x ≤ℤ most → All (IsBetween value least most) (take (i + 1) xs)
between_more value xs i x low high least most within is all l1 l2 h1 h2 = λ k d m.
    let short : k < i + 1 = omega (arith, length-take-le (i + 1) xs (omega arith)) in
    let here : get_or (take (i + 1) xs) k d ≡ get_or xs k d = get_or-take (i + 1) xs k d short in
    subst (IsBetween value least most) (sym here) (elim (cases_lt k i) [
      | inl less ↦
          let old : IsBetween value low high (get_or xs k d) = subst (IsBetween value low high) (get_or-take i xs k d less) (all k d (omega (arith, length-take-le i xs (omega arith)))) in
          (omega (arith, ints, l1, old.0), omega (arith, ints, h1, old.1))
      | inr more ↦
          let same : k ≡ i = omega arith in
          let one : get_or xs k d ≡ x = ap (λ j. get_or xs j d) same ∙ get_or_default xs i d x within ∙ sym is in
          subst (IsBetween value least most) (sym one) (l2, h2)
    ])

-- elements between the ends of a range lie in it
pub between_lies : {X : Type 0} (value : X → ℤ) (xs : List X) (low high : ℤ) (r : Range) → All (IsBetween value low high) xs → r.low ≤ℤ low → high <ℤ (r.low +ℤ pos r.width) → All (λ x. LiesIn r (value x)) xs
between_lies value xs low high r all l h = λ k d m. let b = all k d m in record { low = omega (arith, ints, b.0, l); high = omega (arith, ints, b.1, h) }

pub range_all : {X : Type 0} (value : X → ℤ) (xs : List X) (low high : ℤ) (most : ℕ) (r : Option Range) → All (IsBetween value low high) xs → IfSome r (λ r. (r.low ≡ low) × (high <ℤ (r.low +ℤ pos r.width)) × (r.width ≤ most)) →
    IfSome r (λ r. All (λ x. LiesIn r (value x)) xs × (r.width ≤ most))
range_all value xs low high most (Some r) all h = (between_lies value xs low high r all (omega (arith, ints, h.0)) h.1, h.2)
range_all value xs low high most None all h = tt

pub range_both : {X : Type 0} (value : X → ℤ) (xs ys : List X) (low high least greatest from to : ℤ) (most : ℕ) (r : Option Range) → All (IsBetween value low high) xs → All (IsBetween value least greatest) ys →
    from ≤ℤ low → from ≤ℤ least → high ≤ℤ to → greatest ≤ℤ to → IfSome r (λ r. (r.low ≡ from) × (to <ℤ (r.low +ℤ pos r.width)) × (r.width ≤ most)) →
    IfSome r (λ r. All (λ x. LiesIn r (value x)) xs × All (λ x. LiesIn r (value x)) ys × (r.width ≤ most))
range_both value xs ys low high least greatest from to most (Some r) all each l1 l2 h1 h2 h = (
  between_lies value xs low high r all (omega (arith, ints, h.0, l1)) (omega (arith, ints, h.1, h1)),
  between_lies value ys least greatest r each (omega (arith, ints, h.0, l2)) (omega (arith, ints, h.1, h2)),
  h.2,
)
range_both value xs ys low high least greatest from to most None all each l1 l2 h1 h2 h = tt

-- a range that isn't wider than so much
pub range_within : {X : Type 0} (value : X → ℤ) (xs : List X) (most bound : ℕ) (r : Option Range) → most < bound → IfSome r (λ r. All (λ x. LiesIn r (value x)) xs × (r.width ≤ most)) →
    IfSome r (λ r. All (λ x. LiesIn r (value x)) xs × (r.width < bound))
range_within value xs most bound (Some r) below h = (h.0, omega (arith, h.1))
range_within value xs most bound None below h = tt

pub range_few : {X : Type 0} (value : X → ℤ) (xs : List X) (most limit : ℕ) (r : Option Range) → length xs ≤ limit → IfSome r (λ r. All (λ x. LiesIn r (value x)) xs × (r.width ≤ most)) →
    IfSome r (λ r. (length xs ≤ limit) × All (λ x. LiesIn r (value x)) xs × (r.width ≤ most))
range_few value xs most limit (Some r) few h = (few, h.0, h.1)
range_few value xs most limit None few h = tt

pub range_both_few : {X : Type 0} (value : X → ℤ) (xs ys : List X) (most limit : ℕ) (r : Option Range) → length xs ≤ limit → length ys ≤ limit →
    IfSome r (λ r. All (λ x. LiesIn r (value x)) xs × All (λ x. LiesIn r (value x)) ys × (r.width ≤ most)) →
    IfSome r (λ r. (length xs ≤ limit) × (length ys ≤ limit) × All (λ x. LiesIn r (value x)) xs × All (λ x. LiesIn r (value x)) ys × (r.width ≤ most))
range_both_few value xs ys most limit (Some r) few many h = (few, many, h.0, h.1, h.2)
range_both_few value xs ys most limit None few many h = tt
