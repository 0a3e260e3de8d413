-- `x { y` for all numbers x at once is what the rule of cells makes of it.
use Rattle.std.proofs.Common.{◌≡◌, ◌<◌, ◌≤◌, ◌+◌, ◌-◌, ◌*◌, ◌/◌, ℕ, ℤ, pos, negsuc, Bool, true, false, nat_lt, ◌&&◌, cond, List, [], ◌∷◌, ◌++◌, length, map, take, drop, replicate, arith, refl, sym, ap, subst, ◌∙◌, rules, tests, Some, None, Result, Ok, Err}
use Prim.Native.Nat.{zero, suc}
use Rattle.std.specs.Prelude.{max, nat_eq, fold}
use Rattle.std.specs.List.{All, list_all, range_with_len, sum_by}
use Rattle.std.proofs.lemmas.Bool.{le-leb}
use Rattle.std.proofs.lemmas.Nat.{div_below}
use Rattle.std.proofs.lemmas.List.{take_all, drop_all, drop_more, length-replicate}
use Rattle.std.proofs.lemmas.List.Sums.{sum_by-take-le, sum_by-cons, sum_by-take-drop}
use Rattle.std.proofs.lemmas.List.Elements.{All-nil, All-cons, All-head, All-tail, All-drop}
use Rattle.j_definitions.specs.Array.{Array, Atom, number, byte, nested, atom_array, atom_weight, atom_level, greatest_level, product, tally, fill_atom, IsNoun, IsOfKind, IsWithin}
use Rattle.j_definitions.specs.Cells.{Agreed, agree, atom_at, in_order, with_first}
use Rattle.j_definitions.specs.Limits.{limited}
use Rattle.j_definitions.specs.declared.Fault.{Fault}
use Rattle.j_definitions.specs.declared.Fault.TheVariants.{Limit, Index}
use Rattle.j_definitions.specs.declared.Kind.{Kind}
use Rattle.j_definitions.specs.declared.Kind.TheVariants.{Number, Character, Boxed}
use Rattle.j_definitions.proofs.Limits.{limited-Ok, noun_few}
use Rattle.j_definitions.proofs.Laws.{length_le-weight}
use Rattle.j_leaves.specs.declared.ranks.Ranks.{Ranks}
use Rattle.j_noun.specs.declared.ranks.Rank.{Rank}
use Rattle.j_noun.specs.declared.ranks.Rank.TheVariants as rank
use Rattle.j_rank.specs.Assembly.{assemble, atoms_of_all, common_shape, greatest_axes, greatest_rank, greater_axes, joined_kind, kinds_with_atoms, one_kind, padded, same_kind, with_rank}
use Rattle.j_rank.specs.Cells.{cell, cell_of_fills}
use Rattle.j_rank.specs.Plans.{Planned, plan_of, dyad_plan}
use Rattle.j_rank.proofs.Assembled.{assemble_as}
use Rattle.j_rank.proofs.Joining.{same_self}
use Rattle.j_rank.proofs.Paddings.{padded_same, part_many}
use Rattle.j_rank.proofs.Single.{whole_cell}
use Rattle.j_rank.proofs.Widest.{with_rank_same}
use Rattle.j_indices.specs.Indexing.{from_at, from_list, from_numbers}
use Rattle.j_indices.specs.Numbers.{and_then, index_in, indices_in, whole_numbers}
use Rattle.j_indices.specs.Selecting.{cells_at, items_indexed, runs_at}
use Rattle.j_verbs.specs.ByRank.{Doing, Cells, planned_for, pair, with_left, on_pair, on_pairs, fills, fill_result, zero_atom, on_fills, source, by_source, by_plan, by_ranks}
use Rattle.j_verbs.specs.State.{State, Outcome, then_do, else_do, pure, or_fault}
use Rattle.j_verbs.proofs.Sources.{none_met, some_met}
use Rattle.j_verbs.proofs.CellLaw.{atom_cell, fill_cell_limited}
use Rattle.j_verbs.proofs.CellMonad.{pure_range}

-- (1) An item is a noun: a part of atoms is no heavier and no deeper than all of them.

level_drop : (n : ℕ) (xs : List Atom) → greatest_level (drop n xs) ≤ greatest_level xs
level_drop zero xs = omega arith
level_drop (suc n) [] = omega arith
level_drop (suc n) (x ∷ xs) = let h = level_drop n xs in omega (arith, h)

level_take : (n : ℕ) (xs : List Atom) → greatest_level (take n xs) ≤ greatest_level xs
level_take zero xs = omega arith
level_take (suc n) [] = omega arith
level_take (suc n) (x ∷ xs) = let h = level_take n xs in omega (arith, h)

-- item k of y
abbrev one : Array → ℕ → Array
one y k = cells_at [] 1 y (k ∷ [])

-- its atoms
abbrev run : Array → ℕ → List Atom
run y k = take (product (drop 1 y.shape)) (drop (k * product (drop 1 y.shape)) y.atoms)

append_none : (xs : List Atom) → xs ++ [] ≡ xs
append_none [] = refl
append_none (x ∷ xs) = ap (λ (ys : List Atom). x ∷ ys) (append_none xs)

item_of : (y : Array) (k : ℕ) → one y k ≡ record { kind = y.kind; shape = drop 1 y.shape; atoms = run y k }
item_of y k = ap (λ (xs : List Atom). let r : Array = record { kind = y.kind; shape = drop 1 y.shape; atoms = xs } in r) (append_none (run y k))

shorter : (s : List ℕ) → length (drop 1 s) ≤ length s
shorter [] = omega arith
shorter (n ∷ s) = omega arith

run_within : (y : Array) (k : ℕ) → IsNoun y → IsWithin (drop 1 y.shape) (run y k)
run_within y k n =
    let size = product (drop 1 y.shape) in
    let rest = drop (k * size) y.atoms in
    let w = n.within in
    record {
      rank = omega (arith, w.rank, shorter y.shape);
      axes = All-drop (λ (m : ℕ). m ≤ 4194304) 1 y.shape w.axes;
      light = omega (arith, w.light, sum_by-take-le atom_weight rest size, sum_by-take-drop atom_weight y.atoms (k * size));
      shallow = omega (arith, w.shallow, level_take size rest, level_drop (k * size) y.atoms);
    }

item_limited : (y : Array) (k : ℕ) → IsNoun y → limited (one y k) ≡ Ok (one y k)
item_limited y k n = ap limited (item_of y k) ∙ limited-Ok (record { kind = y.kind; shape = drop 1 y.shape; atoms = run y k }) (run_within y k n) ∙ ap (λ (a : Array). let r : Result Array Fault = Ok a in r) (sym (item_of y k))

items_are : (s : List ℕ) (xs : List Atom) → length xs ≡ product s → length xs ≡ tally s * product (drop 1 s)
items_are [] xs e = omega (arith, e)
items_are (m ∷ s) xs e = e

run_many : (y : Array) (k : ℕ) → IsNoun y → k < tally y.shape → length (run y k) ≡ product (drop 1 y.shape)
run_many y k n l = part_many y.atoms (tally y.shape) (product (drop 1 y.shape)) k (items_are y.shape y.atoms n.as_many) l

-- (2) Items are assembled one behind the other.

-- numbers below n
abbrev AreBelow : ℕ → List ℕ → Type 0
AreBelow n [] = Unit {0}
AreBelow n (k ∷ ks) = (k < n) × AreBelow n ks

wider_same : (t : List ℕ) → greater_axes t t ≡ t
wider_same [] = refl
wider_same (m ∷ t) = let e : max m m ≡ m = omega arith in ap (λ (n : ℕ). n ∷ greater_axes t t) e ∙ ap (λ (u : List ℕ). m ∷ u) (wider_same t)

wider_none : (t : List ℕ) → greater_axes (replicate (length t) 0) t ≡ t
wider_none [] = refl
wider_none (m ∷ t) = let e : max 0 m ≡ m = omega arith in ap (λ (n : ℕ). n ∷ greater_axes (replicate (length t) 0) t) e ∙ ap (λ (u : List ℕ). m ∷ u) (wider_none t)

length_runs : {A B : Type 0} (f : A → B) (xs : List A) → length (map f xs) ≡ length xs
length_runs f [] = refl
length_runs f (x ∷ xs) = let h = length_runs f xs in omega (arith, h)

module _ (y : Array) where
  abbrev t : List ℕ
  t = drop 1 y.shape

  abbrev size : ℕ
  size = product (drop 1 y.shape)

  ranks_from : (ks : List ℕ) → fold (λ n (a : Array). max n (length a.shape)) (length t) (map (one y) ks) ≡ length t
  ranks_from [] = refl
  ranks_from (k ∷ ks) = let e : max (length t) (length t) ≡ length t = omega arith in ap (λ (n : ℕ). fold (λ n (a : Array). max n (length a.shape)) n (map (one y) ks)) e ∙ ranks_from ks

  axes_from : (ks : List ℕ) → fold (λ s (a : Array). greater_axes s (with_rank (length t) a.shape)) t (map (one y) ks) ≡ t
  axes_from [] = refl
  axes_from (k ∷ ks) =
      ap (λ (s : List ℕ). fold (λ s (a : Array). greater_axes s (with_rank (length t) a.shape)) s (map (one y) ks))
      (ap (λ (u : List ℕ). greater_axes t u) (with_rank_same (length t) t refl) ∙ wider_same t)
      ∙ axes_from ks

  rank_is : (k : ℕ) (ks : List ℕ) → greatest_rank (map (one y) (k ∷ ks)) ≡ length t
  rank_is k ks = let e : max 0 (length t) ≡ length t = omega arith in ap (λ (n : ℕ). fold (λ n (a : Array). max n (length a.shape)) n (map (one y) ks)) e ∙ ranks_from ks

  shape_is : (k : ℕ) (ks : List ℕ) → common_shape (map (one y) (k ∷ ks)) ≡ t
  shape_is k ks =
      ap (λ (n : ℕ). greatest_axes n (map (one y) (k ∷ ks))) (rank_is k ks)
      ∙ ap (λ (s : List ℕ). fold (λ s (a : Array). greater_axes s (with_rank (length t) a.shape)) s (map (one y) ks))
      (ap (λ (u : List ℕ). greater_axes (replicate (length t) 0) u) (with_rank_same (length t) t refl) ∙ wider_none t)
      ∙ axes_from ks

  one_many : (k : ℕ) → IsNoun y → k < tally y.shape → length (one y k).atoms ≡ size
  one_many k n l = ap (λ (xs : List Atom). length xs) (append_none (run y k)) ∙ run_many y k n l

  abbrev kinds : Bool → List ℕ → List Kind
  kinds true ks = []
  kinds false ks = map (λ _. y.kind) ks

  kinds_are : (b : Bool) (ks : List ℕ) → nat_eq size 0 ≡ b → IsNoun y → AreBelow (tally y.shape) ks → kinds_with_atoms (map (one y) ks) ≡ kinds b ks
  kinds_are true [] e n below = refl
  kinds_are false [] e n below = refl
  kinds_are b (k ∷ ks) e n below =
      ap (λ (m : ℕ). cond (nat_eq m 0) (kinds_with_atoms (map (one y) ks)) (y.kind ∷ kinds_with_atoms (map (one y) ks))) (one_many k n below.0)
      ∙ ap (λ (c : Bool). cond c (kinds_with_atoms (map (one y) ks)) (y.kind ∷ kinds_with_atoms (map (one y) ks))) e
      ∙ first b (kinds_are b ks e n below.1)
    where
      first : (b : Bool) → kinds_with_atoms (map (one y) ks) ≡ kinds b ks → cond b (kinds_with_atoms (map (one y) ks)) (y.kind ∷ kinds_with_atoms (map (one y) ks)) ≡ kinds b (k ∷ ks)
      first true h = h
      first false h = ap (λ (js : List Kind). y.kind ∷ js) h

  all_same : (ks : List ℕ) → list_all (same_kind y.kind) (map (λ _. y.kind) ks) ≡ true
  all_same [] = refl
  all_same (k ∷ ks) = ap (λ (b : Bool). b && list_all (same_kind y.kind) (map (λ _. y.kind) ks)) (same_self y.kind) ∙ all_same ks

  one_kind_of : (b : Bool) (k : ℕ) (ks : List ℕ) → one_kind (kinds b (k ∷ ks)) (map (one y) (k ∷ ks)) ≡ Some y.kind
  one_kind_of true k ks = refl
  one_kind_of false k ks = ap (λ (b : Bool). cond b (Some y.kind) None) (all_same ks)

  kind_is : (k : ℕ) (ks : List ℕ) → IsNoun y → AreBelow (tally y.shape) (k ∷ ks) → joined_kind (map (one y) (k ∷ ks)) ≡ Some y.kind
  kind_is k ks n below =
      ap (λ (js : List Kind). one_kind js (map (one y) (k ∷ ks))) (kinds_are (nat_eq size 0) (k ∷ ks) refl n below) ∙ one_kind_of (nat_eq size 0) k ks

  atoms_are : (ks : List ℕ) → IsNoun y → AreBelow (tally y.shape) ks → atoms_of_all y.kind t (map (one y) ks) ≡ runs_at size y.atoms ks
  atoms_are [] n below = refl
  atoms_are (k ∷ ks) n below =
      ap (λ (xs : List Atom). xs ++ atoms_of_all y.kind t (map (one y) ks))
      (ap (λ (u : List ℕ). padded (fill_atom y.kind) u t (one y k).atoms) (with_rank_same (length t) t refl)
      ∙ padded_same (fill_atom y.kind) t (one y k).atoms (one_many k n below.0)
      ∙ append_none (run y k))
      ∙ ap (λ (xs : List Atom). run y k ++ xs) (atoms_are ks n below.1)

  items_assembled : (f : List ℕ) (k : ℕ) (ks : List ℕ) → IsNoun y → AreBelow (tally y.shape) (k ∷ ks) → length (k ∷ ks) ≡ product f → assemble f (map (one y) (k ∷ ks)) ≡ limited (cells_at f 1 y (k ∷ ks))
  items_assembled f k ks n below e =
      let many : length (map (one y) (k ∷ ks)) ≡ product f = length_runs (one y) (k ∷ ks) ∙ e in
      assemble_as f (map (one y) (k ∷ ks)) y.kind (kind_is k ks n below)
      ∙ ap (λ (u : List ℕ). limited (let r : Array = record { kind = y.kind; shape = f ++ u; atoms = atoms_of_all y.kind u (take (product f) (map (one y) (k ∷ ks))) } in r)) (shape_is k ks)
      ∙ ap (λ (xs : List Array). limited (let r : Array = record { kind = y.kind; shape = f ++ t; atoms = atoms_of_all y.kind t xs } in r)) (take_all (product f) (map (one y) (k ∷ ks)) (omega (arith, many)))
      ∙ ap (λ (xs : List Atom). limited (let r : Array = record { kind = y.kind; shape = f ++ t; atoms = xs } in r)) (atoms_are (k ∷ ks) n below)

  -- where there are no cells, one result says what they would be
  none_assembled : (f : List ℕ) (r : Array) → product f ≡ 0 → assemble f (r ∷ []) ≡ limited (let a : Array = record { kind = r.kind; shape = f ++ common_shape (r ∷ []); atoms = [] } in a)
  none_assembled f r e =
      assemble_as f (r ∷ []) r.kind (alone_kind (nat_eq (length r.atoms) 0))
      ∙ ap (λ (n : ℕ). limited (let a : Array = record { kind = r.kind; shape = f ++ common_shape (r ∷ []); atoms = atoms_of_all r.kind (common_shape (r ∷ [])) (take n (r ∷ [])) } in a)) e
    where
      alone_kind : (b : Bool) → one_kind (cond b [] (r.kind ∷ [])) (r ∷ []) ≡ Some r.kind
      alone_kind true = refl
      alone_kind false = refl

-- (3) Each number alone, in order.

module _ (y : Array) (n : IsNoun y) where
  abbrev single : ℤ → Result Array Fault
  single z = items_indexed [] (z ∷ []) y

  abbrev all_of : Result (List ℕ) Fault → Result (List Array) Fault
  all_of r = and_then r (λ ks. let q : Result (List Array) Fault = Ok (map (one y) ks) in q)

  firsts : (k : ℕ) (r : Result (List ℕ) Fault) → with_first (one y k) (all_of r) ≡ all_of (with_first k r)
  firsts k (Ok ks) = refl
  firsts k (Err e) = refl

  abbrev alone_at : Result ℕ Fault → Result Array Fault
  alone_at q = and_then (in_order (q ∷ [])) (λ ks. limited (cells_at [] 1 y ks))

  one_more_item : (q : Result ℕ Fault) (qs : List (Result ℕ Fault)) (rest : List (Result Array Fault)) → in_order rest ≡ all_of (in_order qs) → in_order (alone_at q ∷ rest) ≡ all_of (in_order (q ∷ qs))
  one_more_item (Ok k) qs rest e = ap (λ (a : Result Array Fault). in_order (a ∷ rest)) (item_limited y k n) ∙ ap (with_first (one y k)) e ∙ firsts k (in_order qs)
  one_more_item (Err e) qs rest h = refl

  singles : (zs : List ℤ) → in_order (map single zs) ≡ all_of (indices_in (tally y.shape) zs)
  singles [] = refl
  singles (z ∷ zs) = one_more_item (index_in (tally y.shape) z) (map (index_in (tally y.shape)) zs) (map single zs) (singles zs)

  -- what an index gives is below the number of items
  abbrev IsBelowOr : Result ℕ Fault → Type 0
  IsBelowOr (Ok k) = k < tally y.shape
  IsBelowOr (Err e) = Unit {0}

  either_below : (b : Bool) (k m : ℕ) → (b ≡ true → m < tally y.shape) → IsBelowOr (cond b (Ok m) (Err Index))
  either_below true k m h = h refl
  either_below false k m h = tt

  index_below : (z : ℤ) → IsBelowOr (index_in (tally y.shape) z)
  index_below (pos k) = either_below (nat_lt k (tally y.shape)) k k (λ h. search (rules, tests))
  index_below (negsuc k) = either_below (nat_lt k (tally y.shape)) k (tally y.shape - suc k) (λ h. let l : k < tally y.shape = search (rules, tests) in omega (arith, l))

  -- and there are as many as indices
  abbrev AreFound : ℕ → Result (List ℕ) Fault → Type 0
  AreFound m (Ok ks) = AreBelow (tally y.shape) ks × (length ks ≡ m)
  AreFound m (Err e) = Unit {0}

  found_first : (q : Result ℕ Fault) (m : ℕ) (qs : List (Result ℕ Fault)) → IsBelowOr q → AreFound m (in_order qs) → AreFound (suc m) (in_order (q ∷ qs))
  found_first (Ok k) m qs l h = found_more k m (in_order qs) l h
    where
      found_more : (k m : ℕ) (r : Result (List ℕ) Fault) → k < tally y.shape → AreFound m r → AreFound (suc m) (with_first k r)
      found_more k m (Ok ks) l h = ((l, h.0), ap suc h.1)
      found_more k m (Err e) l h = tt
  found_first (Err e) m qs l h = tt

  found : (zs : List ℤ) → AreFound (length zs) (indices_in (tally y.shape) zs)
  found [] = (tt, refl)
  found (z ∷ zs) = found_first (index_in (tally y.shape) z) (length zs) (map (index_in (tally y.shape)) zs) (index_below z) (found zs)

  finished : (f : List ℕ) (m : ℕ) (r : Result (List ℕ) Fault) (s : State) → suc m ≡ product f → AreFound (suc m) r →
      then_do (or_fault (all_of r) s) (λ rs. or_fault (assemble f rs)) ≡ or_fault (and_then r (λ ks. limited (cells_at f 1 y ks))) s
  finished f m (Err e) s many h = refl
  finished f m (Ok []) s many h = absurd (omega (arith, h.1))
  finished f m (Ok (k ∷ ks)) s many h = ap (λ (q : Result Array Fault). or_fault q s) (items_assembled y f k ks n h.0 (h.1 ∙ many))

  in_frame : (f : List ℕ) (z : ℤ) (zs : List ℤ) (s : State) → length (z ∷ zs) ≡ product f → then_do (or_fault (in_order (map single (z ∷ zs))) s) (λ rs. or_fault (assemble f rs)) ≡ or_fault (items_indexed f (z ∷ zs) y) s
  in_frame f z zs s e =
      ap (λ (q : Result (List Array) Fault). then_do (or_fault q s) (λ rs. or_fault (assemble f rs))) (singles (z ∷ zs))
      ∙ finished f (length zs) (indices_in (tally y.shape) (z ∷ zs)) s e (found (z ∷ zs))

-- (4) The numbers of a noun, and its cells.

abbrev values : List Atom → List ℤ
values [] = []
values (number z ∷ xs) = z ∷ values xs
values (byte b ∷ xs) = values xs
values (nested k s r ∷ xs) = values xs

with_value : (z : ℤ) (r : Result (List ℤ) Fault) (zs : List ℤ) → r ≡ Ok zs → with_first z r ≡ Ok (z ∷ zs)
with_value z r zs e = ap (with_first z) e

-- the numbers of atoms that are numbers
record AreValues (y : Array) (xs : List Atom) : Type 0 where
  whole : whole_numbers xs ≡ Ok (values xs)
  many : length (values xs) ≡ length xs
  each : map (λ a. from_at a y) xs ≡ map (λ z. items_indexed [] (z ∷ []) y) (values xs)

value_first : (y : Array) (x : Atom) (xs : List Atom) → IsOfKind Number x → AreValues y xs → AreValues y (x ∷ xs)
value_first y (number z) xs h v = record {
  whole = with_value z (whole_numbers xs) (values xs) v.whole;
  many = ap suc v.many;
  each = ap (λ (rs : List (Result Array Fault)). items_indexed [] (z ∷ []) y ∷ rs) v.each;
}
value_first y (byte b) xs h v = absurd h
value_first y (nested k s r) xs h v = absurd h

values_of : (y : Array) (xs : List Atom) → All (IsOfKind Number) xs → AreValues y xs
values_of y [] h = record { whole = refl; many = refl; each = refl }
values_of y (x ∷ xs) h = value_first y x xs (All-head (IsOfKind Number) x xs h) (values_of y xs (All-tail (IsOfKind Number) x xs h))

-- what is done at each place is what is done with each atom
at_places : (f : Atom → Result Array Fault) (xs : List Atom) (a n : ℕ) → a + n ≡ length xs → map (λ k. f (atom_at xs k)) (range_with_len a n) ≡ map f (drop a xs)
at_places f xs a zero e = ap (map f) (sym (drop_all a xs (omega (arith, e))))
at_places f xs a (suc n) e =
    let l : a < length xs = omega (arith, e) in
    let m : (a + 1) + n ≡ length xs = omega (arith, e) in
    ap (λ (rs : List (Result Array Fault)). f (atom_at xs a) ∷ rs) (at_places f xs (a + 1) n m) ∙ sym (ap (map f) (drop_more xs a (number (pos 0)) l))

none_left : (xs : List Atom) → length xs ≡ 0 → xs ≡ []
none_left [] e = refl
none_left (x ∷ xs) e = absurd (omega arith)

-- the frame is that of x, since y is taken whole
agreed : (s : List ℕ) → agree s [] ≡ Some (record { frame = s; left = 1; right = product s })
agreed [] = refl
agreed (n ∷ s) = refl

abbrev agreement : List ℕ → Agreed
agreement s = record { frame = s; left = 1; right = product s }

weight_same : (n : ℕ) (a : Atom) → atom_weight a ≡ 1 → sum_by atom_weight (replicate n a) ≡ n
weight_same zero a e = refl
weight_same (suc n) a e = let h = weight_same n a e in omega (arith, e, h, sum_by-cons atom_weight a (replicate n a))

level_same : (n : ℕ) (a : Atom) → greatest_level (replicate n a) ≤ atom_level a
level_same zero a = omega arith
level_same (suc n) a = let h = level_same n a in omega (arith, h)

fill_weight : (k : Kind) → atom_weight (fill_atom k) ≡ 1
fill_weight Number = refl
fill_weight Character = refl
fill_weight Boxed = refl

fill_level : (k : Kind) → atom_level (fill_atom k) ≤ 1
fill_level Number = omega arith
fill_level Character = omega arith
fill_level Boxed = omega arith

fills_of_kind : (k : Kind) (n : ℕ) → All (IsOfKind k) (replicate n (fill_atom k))
fills_of_kind k zero = All-nil (IsOfKind k)
fills_of_kind k (suc n) = All-cons (IsOfKind k) (fill_atom k) (replicate n (fill_atom k)) (fill_kind k) (fills_of_kind k n)
  where
    fill_kind : (k : Kind) → IsOfKind k (fill_atom k)
    fill_kind Number = tt
    fill_kind Character = tt
    fill_kind Boxed = tt

-- a noun of fills, in the shape of a noun
fills_noun : (y : Array) → IsNoun y → IsNoun (cell_of_fills 0 y)
fills_noun y n =
    let w = n.within in
    let few = length_le-weight y.atoms in
    record {
      as_many = length-replicate (product y.shape) (fill_atom y.kind);
      of_kind = fills_of_kind y.kind (product y.shape);
      within = record {
        rank = w.rank;
        axes = w.axes;
        light = omega (arith, w.light, few, n.as_many, weight_same (product y.shape) (fill_atom y.kind) (fill_weight y.kind));
        shallow = omega (arith, level_same (product y.shape) (fill_atom y.kind), fill_level y.kind);
      };
    }

module _ (F : Doing) (x y : Array) (s : State) (is : (a : Atom) (b : Array) → F (Some (atom_array x.kind a)) b s ≡ or_fault (from_at a b) s) (nx : IsNoun x) (ny : IsNoun y) (kx : x.kind ≡ Number) where
  abbrev plan : Planned
  plan = record { left = length x.shape; right = 0; agreed = agreement x.shape }

  abbrev at : ℕ → Result Array Fault
  at k = from_at (atom_at x.atoms k) y

  abbrev met : ℕ → Cells
  met k = pair plan (Some x) y k

  atom_is : (k : ℕ) → k < length x.atoms → cell (length x.shape) x k ≡ atom_array x.kind (atom_at x.atoms k)
  atom_is k l = atom_cell x k ∙ ap (λ (xs : List Atom). let c : Array = record { kind = x.kind; shape = []; atoms = take 1 xs } in c) (drop_more x.atoms k (number (pos 0)) l)

  pair_is : (k : ℕ) → k < product x.shape → F (met k).0 (met k).1 s ≡ or_fault (at k) s
  pair_is k l =
      let m : k < length x.atoms = omega (arith, l, nx.as_many) in
      let none : k / product x.shape ≡ 0 = let d = div_below k (product x.shape) 1 (omega (arith, l)) (omega (arith, l)) in omega (arith, d) in
      let same : k / 1 ≡ k = omega arith in
      ap (λ (i : ℕ). F (Some (cell (length x.shape) x i)) (cell 0 y (k / product x.shape)) s) same
      ∙ ap (λ (i : ℕ). F (Some (cell (length x.shape) x k)) (cell 0 y i) s) none
      ∙ ap (λ (c : Array). F (Some c) (cell 0 y 0) s) (atom_is k m)
      ∙ ap (λ (b : Array). F (Some (atom_array x.kind (atom_at x.atoms k))) b s) (whole_cell y ny)
      ∙ is (atom_at x.atoms k) y

  numbers : AreValues y x.atoms
  numbers = values_of y x.atoms (subst (λ (j : Kind). All (IsOfKind j) x.atoms) kx nx.of_kind)

  all_at : map at (range_with_len 0 (product x.shape)) ≡ map (λ z. items_indexed [] (z ∷ []) y) (values x.atoms)
  all_at = at_places (λ a. from_at a y) x.atoms 0 (product x.shape) (omega (arith, nx.as_many)) ∙ numbers.each

  list_is : from_list x y ≡ from_numbers x.shape (values x.atoms) y
  list_is = ap (λ (r : Result (List ℤ) Fault). and_then r (λ zs. from_numbers x.shape zs y)) numbers.whole

  some_values : (zs : List ℤ) → length zs ≡ product x.shape → 0 < product x.shape →
      then_do (or_fault (in_order (map (λ z. items_indexed [] (z ∷ []) y) zs)) s) (λ rs. or_fault (assemble x.shape rs)) ≡ or_fault (from_numbers x.shape zs y) s
  some_values [] e l = absurd (omega (arith, e, l))
  some_values (z ∷ zs) e l = in_frame y ny x.shape z zs s e

  some_cells : 0 < product x.shape → on_pairs F (source plan (Some x) y) s ≡ or_fault (from_list x y) s
  some_cells l =
      ap (λ (o : Outcome (List Array)). then_do o (λ rs. or_fault (assemble x.shape rs)))
      (pure_range F met at s 0 (product x.shape) (λ k m. pair_is k (omega (arith, m)))
      ∙ ap (λ (rs : List (Result Array Fault)). or_fault (in_order rs) s) all_at)
      ∙ some_values (values x.atoms) (omega (arith, numbers.many, nx.as_many)) l
      ∙ ap (λ (r : Result Array Fault). or_fault r s) (sym list_is)

  abbrev filled : Array
  filled = cell_of_fills 0 y

  fills_are : fills plan (Some x) y ≡ Ok (Some (atom_array x.kind (fill_atom x.kind)), filled)
  fills_are =
      ap (λ (l : Result Array Fault). with_left l (limited filled)) (fill_cell_limited x)
      ∙ ap (λ (r : Result Array Fault). with_left (Ok (atom_array x.kind (fill_atom x.kind))) r) (limited-Ok filled (fills_noun y ny).within)

  fill_is : fill_result F (source plan (Some x) y) s ≡ or_fault (from_at (number (pos 0)) filled) s
  fill_is =
      ap (λ (q : Result Cells Fault). then_do (or_fault q s) (on_pair F)) fills_are
      ∙ is (fill_atom x.kind) filled
      ∙ ap (λ (k : Kind). or_fault (from_at (fill_atom k) filled) s) kx

  -- item 0 of fills says what an item is, or the number 0 where there is none
  abbrev no_items : Bool → Result Array Fault
  no_items b = cond b (limited (cells_at x.shape 1 y [])) (limited (record { kind = Number; shape = x.shape; atoms = [] }))

  by_tally : (b : Bool) → nat_lt 0 (tally y.shape) ≡ b → product x.shape ≡ 0 →
      then_do (else_do (or_fault (and_then (in_order (cond b (Ok 0) (Err Index) ∷ [])) (λ ks. limited (cells_at [] 1 filled ks))) s) (pure zero_atom)) (λ r. or_fault (assemble x.shape (r ∷ []))) ≡ or_fault (no_items b) s
  by_tally true h e =
      ap (λ (q : Result Array Fault). then_do (else_do (or_fault q s) (pure zero_atom)) (λ r. or_fault (assemble x.shape (r ∷ [])))) (item_limited filled 0 (fills_noun y ny))
      ∙ ap (λ (q : Result Array Fault). or_fault q s) (none_assembled filled x.shape (one filled 0) e)
      ∙ ap (λ (u : List ℕ). or_fault (limited (let a : Array = record { kind = y.kind; shape = x.shape ++ u; atoms = [] } in a)) s) (shape_is filled 0 [])
  by_tally false h e =
      ap (λ (q : Result Array Fault). or_fault q s) (none_assembled filled x.shape zero_atom e)
      ∙ ap (λ (u : List ℕ). or_fault (limited (let a : Array = record { kind = Number; shape = u; atoms = [] } in a)) s) (no_axes x.shape)
    where
      no_axes : (u : List ℕ) → u ++ [] ≡ u
      no_axes [] = refl
      no_axes (n ∷ u) = ap (λ (v : List ℕ). n ∷ v) (no_axes u)

  no_cells : product x.shape ≡ 0 → on_fills F (source plan (Some x) y) s ≡ or_fault (from_list x y) s
  no_cells e =
      let none : x.atoms ≡ [] = none_left x.atoms (omega (arith, nx.as_many, e)) in
      ap (λ (o : Outcome Array). then_do (else_do o (pure zero_atom)) (λ r. or_fault (assemble x.shape (r ∷ [])))) fill_is
      ∙ by_tally (nat_lt 0 (tally y.shape)) refl e
      ∙ ap (λ (zs : List ℤ). or_fault (from_numbers x.shape zs y) s) (ap values (sym none))
      ∙ ap (λ (r : Result Array Fault). or_fault r s) (sym list_is)

  by_number : (n : ℕ) → product x.shape ≡ n → by_source F (source plan (Some x) y) s ≡ or_fault (from_list x y) s
  by_number zero e = none_met F (source plan (Some x) y) met s (product x.shape) e ∙ no_cells e
  by_number (suc n) e = some_met F (source plan (Some x) y) met s (product x.shape) n e ∙ some_cells (omega (arith, e))

  few : product x.shape ≤ 4194304
  few = let h = noun_few x nx in omega (arith, h, nx.as_many)

  plan_is : (r : Ranks) → r.left ≡ rank.Number (pos 0) → r.right ≡ rank.Infinite → planned_for r (Some x) y ≡ Ok plan
  plan_is r l g =
      let n : length x.shape - 0 ≡ length x.shape = omega arith in
      ap (λ (k : Rank). dyad_plan k r.right x.shape y.shape) l ∙ ap (λ (k : Rank). dyad_plan (rank.Number (pos 0)) k x.shape y.shape) g
      ∙ ap (λ (m : ℕ). plan_of m 0 (agree (take m x.shape) [])) n
      ∙ ap (λ (u : List ℕ). plan_of (length x.shape) 0 (agree u [])) (take_all (length x.shape) x.shape (omega arith))
      ∙ ap (plan_of (length x.shape) 0) (agreed x.shape)
      ∙ ap (λ (b : Bool). let p : Result Planned Fault = cond b (Ok plan) (Err Limit) in p) (le-leb (product x.shape) 4194304 few)

  pub from_by_cells : (r : Ranks) → r.left ≡ rank.Number (pos 0) → r.right ≡ rank.Infinite → by_ranks r F (Some x) y s ≡ or_fault (from_list x y) s
  unfolding by_ranks
  from_by_cells r l g = ap (λ (p : Result Planned Fault). by_plan p F (Some x) y s) (plan_is r l g) ∙ by_number (product x.shape) refl
