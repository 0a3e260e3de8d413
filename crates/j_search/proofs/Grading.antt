-- Items that are graded.
use Rattle.std.proofs.Common.{◌≡◌, ◌<◌, ◌≤◌, ◌*◌, ℕ, ℤ, pos, ◌<ℤ◌, Bool, true, false, cond, nat_lt, nat_eq, List, [], ◌∷◌, length, map, arith, refl, sym, ap, ◌∙◌, subst, not, ◌&&◌, Result, Ok, Err}
use Prim.Native.Nat.{zero, suc}
use Rattle.std.specs.List.{All, count_by}
use Rattle.std.specs.declared.cmp.Ordering.{Ordering}
use Rattle.std.specs.declared.cmp.Ordering.TheVariants.{Less, Equal, Greater}
use Rattle.std.specs.Ordering.{is_lt, ordering_then, nat_cmp, int_cmp, MatchOrdering}
use Rattle.std.specs.Cmp.{int_cmp_is}
use Rattle.std.specs.Cmp.Lexicographic.{slice_cmp}
use Rattle.std.proofs.lemmas.Cmp.{ranked as by_cmp}
use Rattle.std.proofs.lemmas.Int.{ints}
use Rattle.std.proofs.lemmas.List.{length-map}
use Rattle.j_definitions.specs.Array.{Array, Atom, number, product, tally}
use Rattle.j_definitions.specs.Items.{part, item, item_size, atom_cmp, items_cmp}
use Rattle.j_rank.proofs.Parts.{part_map}
use Rattle.j_search.specs.declared.order.Direction.{Direction}
use Rattle.j_search.specs.declared.order.Direction.TheVariants.{Up, Down}
use Rattle.j_search.specs.Matching.{places, first_of}
use Rattle.j_search.specs.Sought.{run}
use Rattle.j_search.specs.Order.{ranked, ordered, less_or_earlier, comes_before}
use Rattle.j_search.specs.Graded.{run_cmp, run_order}
use Rattle.std.specs.declared.alloc.Global.{Global}
use Rattle.std.specs.declared.vec.Vec.{Vec}
use Rattle.std.proofs.lemmas.Bool.{eqb-true, ne_eqb, le-ltb}
use Rattle.std.proofs.lemmas.List.{nil_from_length}
use Rattle.std.proofs.lemmas.List.FromFn.{length-map-range_with_len}
use Rattle.j_definitions.specs.declared.Kind.TheVariants.{Number, Boxed}
use Rattle.j_definitions.specs.declared.Fault.{Fault}
use Rattle.j_definitions.specs.declared.Fault.TheVariants.{Nonce, Index}
use Rattle.j_definitions.specs.Limits.{limited}
use Rattle.j_noun.specs.declared.noun.Atoms.TheVariants.{Wholes}
use Rattle.j_noun.specs.declared.refusal.Refusal.{Refusal}
use Rattle.j_noun.specs.Held.{array_kept}
use Rattle.j_noun.specs.Refused.{OrWanting}
use Rattle.j_search.specs.Matching.{items_at}
use Rattle.j_search.specs.Order.{is_boxed, has_boxes, grade, sort}
use Rattle.j_search.proofs.Keeping.{map_map}
use Rattle.j_search.proofs.Picked.{items_many, answer_is}

bit_ranks : (a b : ℕ) (r : Ordering) → MatchOrdering r (a < b) (a ≡ b) (b < a) → MatchOrdering r (pos a <ℤ pos b) (pos a ≡ pos b) (pos b <ℤ pos a)
bit_ranks a b Less h = omega (arith, ints)
bit_ranks a b Equal h = ap pos h
bit_ranks a b Greater h = omega (arith, ints)

-- bits are ordered as numbers are
pub bit_order : (a b : ℕ) → nat_cmp a b ≡ int_cmp (pos a) (pos b)
bit_order a b = int_cmp_is (pos a) (pos b) (nat_cmp a b) (bit_ranks a b (nat_cmp a b) (by_cmp a b (nat_cmp a b) refl))

lifted_cmp : {X : Type 0} (f : X → Atom) (C : X → X → Ordering) → ((x y : X) → C x y ≡ atom_cmp (f x) (f y)) → (xs ys : List X) → slice_cmp C xs ys ≡ slice_cmp atom_cmp (map f xs) (map f ys)
lifted_cmp f C h [] [] = refl
lifted_cmp f C h [] (y ∷ ys) = refl
lifted_cmp f C h (x ∷ xs) [] = refl
lifted_cmp f C h (x ∷ xs) (y ∷ ys) =
    ap (λ o. ordering_then o (slice_cmp C xs ys)) (h x y) ∙ ap (ordering_then (atom_cmp (f x) (f y))) (lifted_cmp f C h xs ys)

by_lt : (b c : Bool) → is_lt (cond b Less (cond c Equal Greater)) ≡ b
by_lt true c = refl
by_lt false true = refl
by_lt false false = refl

lt_then : (o : Ordering) (i j : ℕ) → is_lt (ordering_then o (nat_cmp i j)) ≡ less_or_earlier o i j
lt_then Less i j = refl
lt_then Equal i j = by_lt (nat_lt i j) (nat_eq i j)
lt_then Greater i j = refl

ranked_same : (A B : ℕ → ℕ → Bool) (n : ℕ) → ((i j : ℕ) → 0 < n → A i j ≡ B i j) → ranked A n ≡ ranked B n
ranked_same A B zero h = refl
ranked_same A B (suc n) h =
    let some : 0 < suc n = omega arith in
    λ t. map (λ r. first_of (λ j. nat_eq (count_by (λ i. h i j some t) (places (suc n))) r) (suc n)) (places (suc n))

module _ {X : Type 0} (f : X → Atom) (C : X → X → Ordering) (h : (x y : X) → C x y ≡ atom_cmp (f x) (f y)) (a : Array) (xs : List X) (size : ℕ) (atoms : map f xs ≡ a.atoms) where
  run_item : size ≡ item_size a.shape → (i : ℕ) → map f (run size xs i) ≡ item a i
  run_item e i = part_map f xs (run size xs i) i size refl ∙ ap (λ ds. part size ds i) atoms ∙ ap (λ n. part n a.atoms i) e

  runs_cmp : size ≡ item_size a.shape → (i j : ℕ) → slice_cmp C (run size xs i) (run size xs j) ≡ items_cmp a i j
  runs_cmp e i j =
      lifted_cmp f C h (run size xs i) (run size xs j) ∙ ap (λ us. slice_cmp atom_cmp us (map f (run size xs j))) (run_item e i) ∙ ap (λ us. slice_cmp atom_cmp (item a i) us) (run_item e j)

  comes : (d : Direction) → size ≡ item_size a.shape → (i j : ℕ) → is_lt (run_cmp C d size xs i j) ≡ comes_before d a i j
  comes Up e i j = ap (λ o. is_lt (ordering_then o (nat_cmp i j))) (runs_cmp e i j) ∙ lt_then (items_cmp a i j) i j
  comes Down e i j = ap (λ o. is_lt (ordering_then o (nat_cmp i j))) (runs_cmp e j i) ∙ lt_then (items_cmp a j i) i j

  pub order_is : (d : Direction) (n : ℕ) → n ≡ tally a.shape → (0 < tally a.shape → size ≡ item_size a.shape) → run_order C d size n xs ≡ ordered d a
  order_is d n e is =
      ap (λ m. run_order C d size m xs) e
      ∙ ranked_same (λ i j. is_lt (run_cmp C d size xs i j)) (comes_before d a) (tally a.shape) (λ i j some. comes d (is some) i j)

runs_many : (t item size len count : ℕ) → len ≡ t * item → count ≡ t → (0 < t → size ≡ item) → len ≡ count * size
runs_many zero item size len count e ec is = omega (arith, ap (λ n. n * size) ec)
runs_many (suc t) item size len count e ec is =
    let some : 0 < suc t = omega arith in
    e ∙ ap (λ n. suc t * n) (sym (is some)) ∙ ap (λ n. n * size) (sym ec)

-- as many runs as items
pub all_runs : {X : Type 0} (f : X → Atom) (a : Array) (xs : List X) (size count : ℕ) → map f xs ≡ a.atoms → length a.atoms ≡ product a.shape → count ≡ tally a.shape → (0 < tally a.shape → size ≡ item_size a.shape) → length xs ≡ count * size
all_runs f a xs size count atoms many ec is =
    runs_many (tally a.shape) (item_size a.shape) size (length xs) count (sym (length-map xs f) ∙ ap length atoms ∙ many ∙ items_many a.shape) ec is

pub not_false : (b : Bool) → not b ≡ false → b ≡ true
not_false true h = refl
not_false false h = cc

-- boxes without boxes have no atoms
pub no_atoms : (y : Array) → Boxed ≡ y.kind → has_boxes y ≡ false → y.atoms ≡ []
no_atoms y kind h =
    let none : not (nat_eq (length y.atoms) 0) ≡ false = ap (λ k. is_boxed k && not (nat_eq (length y.atoms) 0)) kind ∙ h in
    nil_from_length y.atoms (eqb-true (length y.atoms) 0 (not_false (nat_eq (length y.atoms) 0) none))

pub length-ordered : (d : Direction) (y : Array) → length (ordered d y) ≡ tally y.shape
length-ordered d y = length-map-range_with_len (λ r. first_of (λ j. nat_eq (count_by (λ i. comes_before d y i j) (places (tally y.shape))) r) (tally y.shape)) 0 (tally y.shape)

pub graded_many : (d : Direction) (y : Array) (numbers : List ℤ) (ks : List ℕ) → numbers ≡ map pos ks → ks ≡ ordered d y → length (map number numbers) ≡ tally y.shape
graded_many d y numbers ks e h = length-map numbers number ∙ ap length e ∙ length-map ks pos ∙ ap length h ∙ length-ordered d y

pub one_axis : (y : Array) (shape : List ℕ) → shape ≡ tally y.shape ∷ [] → product shape ≡ tally y.shape
one_axis y shape e = let one : product (tally y.shape ∷ []) ≡ tally y.shape = omega arith in ap product e ∙ one

abbrev graded_by : Bool → Array → Result Array Fault
graded_by b a = cond b (Err Nonce) (limited a)

pub grade_answer : (d : Direction) (y : Array) (r : Result Array Refusal) (shape : List ℕ) (v : Vec ℤ Global) (ks : List ℕ) → has_boxes y ≡ false → shape ≡ tally y.shape ∷ [] → v.items ≡ map pos ks → ks ≡ ordered d y →
    OrWanting (limited (array_kept shape (Wholes v))) r → OrWanting (grade d y) r
grade_answer d y r shape v ks h es ev ek answer =
    let A : List ℕ → List Atom → Array = λ s xs. record { kind = Number; shape = s; atoms = xs } in
    let made : array_kept shape (Wholes v) ≡ A (tally y.shape ∷ []) (map (λ k. number (pos k)) (ordered d y)) =
    ap (λ s. A s (map number v.items)) es ∙ ap (λ zs. A (tally y.shape ∷ []) (map number zs)) ev ∙ ap (λ js. A (tally y.shape ∷ []) (map number (map pos js))) ek
    ∙ ap (A (tally y.shape ∷ [])) (map_map number pos (ordered d y)) in
    let said : graded_by (has_boxes y) (A (tally y.shape ∷ []) (map (λ k. number (pos k)) (ordered d y))) ≡ limited (A (tally y.shape ∷ []) (map (λ k. number (pos k)) (ordered d y))) =
    ap (λ b. graded_by b (A (tally y.shape ∷ []) (map (λ k. number (pos k)) (ordered d y)))) h in
    subst (λ (s : Result Array Fault). OrWanting s r) (sym said) (answer_is r made answer)

pub all_below : (ks js : List ℕ) (n m : ℕ) → n ≤ m → All (λ k. k < n) ks → js ≡ ks → All (λ k. k < m) js
all_below ks js n m h all e = subst (All (λ k. k < m)) (sym e) (λ k d l. let low = all k d l in omega arith)

abbrev sorted_by : Bool → Bool → Bool → Array → Result Array Fault
sorted_by a b c made = cond a (Err Nonce) (cond b (Err Index) (cond c (Ok (record { kind = Number; shape = 0 ∷ []; atoms = [] })) (limited made)))

pub sort_answer : (d : Direction) (x y : Array) (r : Result Array Refusal) (ks : List ℕ) → has_boxes y ≡ false → tally y.shape ≤ tally x.shape → 0 < tally x.shape → ks ≡ ordered d y →
    OrWanting (limited (items_at x ks)) r → OrWanting (sort d x y) r
sort_answer d x y r ks h le some e answer =
    let said : sorted_by (has_boxes y) (nat_lt (tally x.shape) (tally y.shape)) (nat_eq (tally x.shape) 0) (items_at x (ordered d y)) ≡ limited (items_at x (ordered d y)) =
    ap (λ b. sorted_by b (nat_lt (tally x.shape) (tally y.shape)) (nat_eq (tally x.shape) 0) (items_at x (ordered d y))) h
    ∙ ap (λ b. sorted_by false b (nat_eq (tally x.shape) 0) (items_at x (ordered d y))) (le-ltb (tally x.shape) (tally y.shape) le)
    ∙ ap (λ b. sorted_by false false b (items_at x (ordered d y))) (ne_eqb (tally x.shape) 0 (λ z. omega arith)) in
    subst (λ (s : Result Array Fault). OrWanting s r) (sym said) (answer_is r (ap (items_at x) e) answer)
