-- Items that match have one place among the items.
use Rattle.std.proofs.Common.{◌≡◌, ◌<◌, ◌≤◌, ◌+◌, ℕ, ℤ, pos, Bool, true, false, ◌&&◌, nat_eq, List, [], ◌∷◌, length, map, get_or, unsigned_abs, arith, refl, sym, ap, ◌∙◌, subst, Result, Ok, Err, IfOk}
use Prim.Native.Nat.{zero, suc}
use Rattle.std.specs.List.{filter, range_with_len}
use Rattle.std.specs.declared.alloc.Global.{Global}
use Rattle.std.specs.declared.vec.Vec.{Vec}
use Rattle.std.proofs.lemmas.Bool.{eqb-true, eq-eqb}
use Rattle.std.proofs.lemmas.Cmp.{int_eq_equiv, nat_eq_equiv, nat_list_eq_equiv}
use Rattle.j_definitions.specs.Array.{Array, Atom, number, byte, nested, boxed, Row, row_end, row_more, tally, atom_match, row_match, arrays_match}
use Rattle.j_definitions.proofs.Laws.{boxed_match}
use Rattle.j_search.specs.Matching.{places, item_of, first_item, firsts, is_first}
use Rattle.j_search.specs.Kept.{lost_places, own_places}
use Rattle.j_search.proofs.Alike.{arrays_symm, arrays_trans, first_passes, first_before}
use Rattle.j_search.proofs.Picks.{keep, filter_same}
use Rattle.j_search.proofs.Keeping.{lost_places_of, own_places_of}
use Rattle.std.proofs.lemmas.List.FromFn.{length-map-range_with_len, get_or-map-range_with_len}
use Rattle.j_search.specs.declared.cut.CutForm.{CutForm}
use Rattle.j_search.specs.declared.cut.CutForm.TheVariants.{Begin, BeginDrop, End, EndDrop}
use Rattle.j_cuts_key.specs.Cuts.{frets, fret_place}
use Rattle.j_cuts_key.specs.Keys.{key_places, keys}
use Rattle.j_cuts_key.specs.Kept.{linked, ArePlaces, IsRising}
use Rattle.j_cuts_key.proofs.Rising.{rising_filter}

mutual
  atom_own : (x : Atom) → atom_match x x ≡ true
  atom_own (number z) = int_eq_equiv.refl z
  atom_own (byte b) = nat_eq_equiv.refl b
  atom_own (nested k s r) = ap (λ c. c && row_match r r) (nat_list_eq_equiv.refl s) ∙ row_own r

  row_own : (r : Row) → row_match r r ≡ true
  row_own row_end = refl
  row_own (row_more x r) = ap (λ c. c && row_match r r) (atom_own x) ∙ row_own r

-- a noun matches itself
arrays_own : (a : Array) → arrays_match a a ≡ true
arrays_own a = sym (boxed_match a a) ∙ atom_own (boxed a)

same_answers : (s t : Bool) → (s ≡ true → t ≡ true) → (t ≡ true → s ≡ true) → s ≡ t
same_answers true t f g = sym (f refl)
same_answers false true f g = g refl
same_answers false false f g = refl

-- the first item that matches an item
abbrev pub class_of : Array → ℕ → ℕ
class_of y k = first_item y (item_of y k)

class_up_to : (y : Array) (m j : ℕ) → m < tally y.shape → arrays_match (item_of y m) (item_of y j) ≡ true → class_of y j ≤ m
class_up_to y m j h e = first_before (λ i. arrays_match (item_of y i) (item_of y j)) (tally y.shape) m h e

pub class_below : (y : Array) (m : ℕ) → m < tally y.shape → class_of y m < tally y.shape
class_below y m h = omega (arith, class_up_to y m m h (arrays_own (item_of y m)))

class_matches : (y : Array) (m : ℕ) → m < tally y.shape → arrays_match (item_of y (class_of y m)) (item_of y m) ≡ true
class_matches y m h = first_passes (λ i. arrays_match (item_of y i) (item_of y m)) (tally y.shape) (class_below y m h)

class_before : (y : Array) (m j : ℕ) → m < tally y.shape → arrays_match (item_of y m) (item_of y j) ≡ true → class_of y j ≤ class_of y m
class_before y m j h e =
    class_up_to y (class_of y m) j (class_below y m h) (arrays_trans (item_of y (class_of y m)) (item_of y m) (item_of y j) (class_matches y m h) e)

-- two items match where the same item is the first that matches them
pub class_same : (y : Array) (m j : ℕ) → m < tally y.shape → j < tally y.shape → arrays_match (item_of y m) (item_of y j) ≡ nat_eq (class_of y j) (class_of y m)
class_same y m j hm hj =
    same_answers (arrays_match (item_of y m) (item_of y j)) (nat_eq (class_of y j) (class_of y m))
    (λ e.
    let up : class_of y j ≤ class_of y m = class_before y m j hm e in
    let down : class_of y m ≤ class_of y j = class_before y j m hj (arrays_symm (item_of y j) (item_of y m) ∙ e) in
    eq-eqb (class_of y j) (class_of y m) (omega arith))
    (λ e.
    let one : class_of y j ≡ class_of y m = eqb-true (class_of y j) (class_of y m) e in
    let there : arrays_match (item_of y (class_of y m)) (item_of y j) ≡ true = ap (λ i. arrays_match (item_of y i) (item_of y j)) (sym one) ∙ class_matches y j hj in
    arrays_trans (item_of y m) (item_of y (class_of y m)) (item_of y j) (arrays_symm (item_of y m) (item_of y (class_of y m)) ∙ class_matches y m hm) there)

-- the items that match an item
pub matching_places : (y : Array) (zs : List ℤ) (m : ℕ) → zs ≡ map (λ k. pos (class_of y k)) (places (tally y.shape)) → m < tally y.shape →
    lost_places (class_of y m) zs ≡ filter (λ j. arrays_match (item_of y m) (item_of y j)) (places (tally y.shape))
matching_places y zs m e h =
    lost_places_of (class_of y) (tally y.shape) (class_of y m) zs e
    ∙ sym (filter_same (λ j. arrays_match (item_of y m) (item_of y j)) (λ k. nat_eq (class_of y k) (class_of y m)) 0 (tally y.shape) (λ k l u. class_same y m k h (omega arith)))

map_kept : (f g : ℕ → List ℕ) (b : Bool) (a : ℕ) (rest : List ℕ) → (b ≡ true → f a ≡ g a) → map f rest ≡ map g rest → map f (keep b a rest) ≡ map g (keep b a rest)
map_kept f g true a rest h e = ap (λ r. f a ∷ r) e ∙ ap (λ x. x ∷ map g rest) (h refl)
map_kept f g false a rest h e = e

map_filtered : (f g : ℕ → List ℕ) (p : ℕ → Bool) (a n : ℕ) → ((k : ℕ) → a ≤ k → k < a + n → p k ≡ true → f k ≡ g k) → map f (filter p (range_with_len a n)) ≡ map g (filter p (range_with_len a n))
map_filtered f g p a zero h = refl
map_filtered f g p a (suc n) h =
    map_kept f g (p a) a (filter p (range_with_len (a + 1) n)) (h a (omega arith) (omega arith)) (map_filtered f g p (a + 1) n (λ k l u e. h k (omega arith) (omega arith) e))

-- the places of keys are the linked ones
pub keys_linked : (x : Array) (zs : List ℤ) (fs : List ℕ) → zs ≡ map (λ k. pos (class_of x k)) (places (tally x.shape)) → fs ≡ own_places zs → linked zs fs ≡ keys x
keys_linked x zs fs e own =
    ap (linked zs) (own ∙ own_places_of (class_of x) (tally x.shape) zs e)
    ∙ map_filtered (λ i. lost_places i zs) (key_places x) (is_first x) 0 (tally x.shape)
    (λ k l u here. let one : class_of x k ≡ k = eqb-true (class_of x k) k here in ap (λ i. lost_places i zs) (sym one) ∙ matching_places x zs k e (omega arith))

-- frets are places that stand with one place
pub fret_below : (form : CutForm) (t : ℕ) → 0 < t → fret_place form t < t
fret_below Begin t h = h
fret_below BeginDrop t h = h
fret_below End t h = omega arith
fret_below EndDrop t h = omega arith

pub fret_inside : (form : CutForm) (zs : List ℤ) (t m : ℕ) → t ≡ length zs → (t ≡ 0 → ⊥) → m ≡ fret_place form t → m < length zs
fret_inside form zs t m e some is = omega (arith, fret_below form t (omega arith))

pub classes_many : (y : Array) (zs : List ℤ) → zs ≡ map (λ k. pos (class_of y k)) (places (tally y.shape)) → length zs ≡ tally y.shape
classes_many y zs e = ap length e ∙ length-map-range_with_len (λ k. pos (class_of y k)) 0 (tally y.shape)

pub class_found : (y : Array) (zs : List ℤ) (m : ℕ) → zs ≡ map (λ k. pos (class_of y k)) (places (tally y.shape)) → m < tally y.shape → get_or zs m (pos 0) ≡ pos (class_of y m)
class_found y zs m e h = let own : 0 + m ≡ m = omega arith in ap (λ xs. get_or xs m (pos 0)) e ∙ get_or-map-range_with_len (λ k. pos (class_of y k)) 0 (tally y.shape) m m (pos 0) h own

pub class_low : (y : Array) (zs : List ℤ) (m c : ℕ) → zs ≡ map (λ k. pos (class_of y k)) (places (tally y.shape)) → m < length zs → c ≡ unsigned_abs (get_or zs m (pos 0)) → c < tally y.shape
class_low y zs m c e h is =
    let inside : m < tally y.shape = omega (arith, classes_many y zs e) in
    omega (arith, is ∙ ap unsigned_abs (class_found y zs m e inside), class_below y m inside)

pub class_few : (y : Array) (zs : List ℤ) (m c : ℕ) → zs ≡ map (λ k. pos (class_of y k)) (places (tally y.shape)) → tally y.shape ≤ 4194304 → m < length zs → c ≡ unsigned_abs (get_or zs m (pos 0)) → c ≤ 4194304
class_few y zs m c e few h is = omega (arith, class_low y zs m c e h is)

pub are_places : (y : Array) (zs : List ℤ) → zs ≡ map (λ k. pos (class_of y k)) (places (tally y.shape)) → ArePlaces zs
are_places y zs e k h =
    let inside : k < tally y.shape = omega (arith, classes_many y zs e) in
    let at : get_or zs k (pos 0) ≡ pos (class_of y k) = class_found y zs k e inside in
    (at ∙ ap (λ z. pos (unsigned_abs z)) (sym at), omega (arith, ap unsigned_abs at, class_below y k inside, classes_many y zs e))

pub frets_found : (form : CutForm) (y : Array) (zs : List ℤ) (m c : ℕ) (found : List ℕ) → zs ≡ map (λ k. pos (class_of y k)) (places (tally y.shape)) → 0 < length zs → m ≡ fret_place form (length zs) →
    c ≡ unsigned_abs (get_or zs m (pos 0)) → found ≡ lost_places c zs → found ≡ frets form y
frets_found form y zs m c found e some place is all =
    let many : length zs ≡ tally y.shape = classes_many y zs e in
    let own : m ≡ fret_place form (tally y.shape) = place ∙ ap (fret_place form) many in
    let inside : m < tally y.shape = omega (arith, own, fret_below form (tally y.shape) (omega arith)) in
    all ∙ ap (λ d. lost_places d zs) (is ∙ ap unsigned_abs (class_found y zs m e inside)) ∙ matching_places y zs m e inside
    ∙ ap (λ i. filter (λ j. arrays_match (item_of y i) (item_of y j)) (places (tally y.shape))) own

pub no_frets : (form : CutForm) (y : Array) (found : List ℕ) → tally y.shape ≡ 0 → found ≡ [] → found ≡ frets form y
no_frets form y found e is = is ∙ ap (λ n. filter (λ j. arrays_match (item_of y (fret_place form (tally y.shape))) (item_of y j)) (places n)) (sym e)

-- what a call answers, where it answers
pub frets_answered : {E : Type 0} (form : CutForm) (y : Array) (zs ds : List ℤ) (t m c : ℕ) (r : Result (Vec ℕ Global) E) → zs ≡ map (λ k. pos (class_of y k)) (places (tally y.shape)) → ds ≡ zs → t ≡ length zs → (t ≡ 0 → ⊥) →
    m ≡ fret_place form t → c ≡ unsigned_abs (get_or zs m (pos 0)) → IfOk r (λ v. v.items ≡ lost_places c ds) → IfOk r (λ v. v.items ≡ frets form y)
frets_answered form y zs ds t m c (Ok v) e same many some place is all = frets_found form y zs m c v.items e (omega arith) (place ∙ ap (fret_place form) many) is (all ∙ ap (lost_places c) same)
frets_answered form y zs ds t m c (Err x) e same many some place is all = tt

pub none_answered : {E : Type 0} (form : CutForm) (y : Array) (r : Result (Vec ℕ Global) E) (P : Vec ℕ Global → Type 0) → tally y.shape ≡ 0 → IfOk r (λ v. (v.items ≡ []) × P v) → IfOk r (λ v. v.items ≡ frets form y)
none_answered form y (Ok v) P e is = no_frets form y v.items e is.0
none_answered form y (Err x) P e is = tt

frets_rise : (form : CutForm) (y : Array) → IsRising 0 (tally y.shape) (frets form y)
frets_rise form y = rising_filter (λ j. arrays_match (item_of y (fret_place form (tally y.shape))) (item_of y j)) 0 (tally y.shape) 0 (tally y.shape) (omega arith) (omega arith)

pub answered_rise : {E : Type 0} (form : CutForm) (y : Array) (r : Result (Vec ℕ Global) E) → IfOk r (λ v. v.items ≡ frets form y) → IfOk r (λ v. IsRising 0 (tally y.shape) v.items)
answered_rise form y (Ok v) e = subst (λ (l : List ℕ). IsRising 0 (tally y.shape) l) (sym e) (frets_rise form y)
answered_rise form y (Err x) e = tt
