-- `<` on each of some cells: their boxes, as one noun.
use Rattle.std.proofs.Common.{◌≡◌, ◌≤◌, ◌<◌, ◌+◌, ◌++◌, ℕ, max, Bool, true, false, cond, List, [], ◌∷◌, length, map, take, arith, refl, sym, ap, subst, ◌∙◌, append-nil, Option, Some, None, Result, Ok, Err}
use Prim.Native.Nat.{zero, suc}
use Rattle.std.specs.List.{All, sum_by, list_all}
use Rattle.std.proofs.lemmas.List.{take_all, take-map, length-map}
use Rattle.std.proofs.lemmas.List.Elements.{All-nil, All-cons, All-head, All-tail}
use Rattle.std.proofs.lemmas.List.Sums.{sum_by-cons}
use Rattle.j_definitions.specs.Array.{Array, Atom, boxed, atom_array, atom_weight, atom_level, greatest_level, product, IsOfKind, IsNoun, IsWithin}
use Rattle.j_definitions.specs.Cells.{with_first, in_order}
use Rattle.j_definitions.specs.Limits.{is_within, limited}
use Rattle.j_definitions.specs.declared.Kind.{Kind}
use Rattle.j_definitions.specs.declared.Kind.TheVariants.{Boxed}
use Rattle.j_definitions.specs.declared.Fault.{Fault}
use Rattle.j_definitions.specs.declared.Fault.TheVariants.{Limit}
use Rattle.j_definitions.proofs.Limits.{limited-Ok, limited-Err, true_within}
use Rattle.j_rank.specs.Assembly.{greatest_rank, greatest_axes, common_shape, atoms_of_all, assembled, assemble, same_kind, kinds_with_atoms, joined_kind}
use Rattle.j_rank.proofs.Assembled.{assemble_as}
use Rattle.j_joining.specs.Joining.{in_box}
use Rattle.j_entity.specs.Ranks.{verb_ranks}
use Rattle.j_entity.specs.Tree.{primitive, verb}
use Rattle.j_leaves.specs.declared.primitive.Primitive.TheVariants.{Less}
use Rattle.j_rank.proofs.Single.{assemble_one, whole_cell}
use Rattle.j_rank.specs.Cells.{cell}
use Rattle.j_verbs.specs.ByRank.{Doing, Cells, Source, over_pairs, on_pairs, by_ranks}
use Rattle.j_verbs.specs.PureCells.{then_pure}
use Rattle.j_verbs.specs.Words.{word}
use Rattle.j_verbs.specs.State.{State, Outcome, then_do, pure, or_fault}
use Rattle.j_verbs.proofs.CellLaw.{pure_first}
use Rattle.j_eval.specs.Applying.{Calls, does}
use Rattle.j_eval.specs.Boxing.{alone_each}
use Rattle.j_eval.specs.RunVerbs.{spoken}

-- atoms as nouns of their own
abbrev alone : Atom → Array
alone z = atom_array Boxed z

no_rank : (zs : List Atom) → greatest_rank (map alone zs) ≡ 0
no_rank [] = refl
no_rank (z ∷ zs) = no_rank zs

no_axes : (zs : List Atom) → greatest_axes 0 (map alone zs) ≡ []
no_axes [] = refl
no_axes (z ∷ zs) = no_axes zs

no_shape : (zs : List Atom) → common_shape (map alone zs) ≡ []
no_shape zs = ap (λ (n : ℕ). greatest_axes n (map alone zs)) (no_rank zs) ∙ no_axes zs

own_atoms : (zs : List Atom) → atoms_of_all Boxed [] (map alone zs) ≡ zs
own_atoms [] = refl
own_atoms (z ∷ zs) = ap (λ (r : List Atom). z ∷ r) (own_atoms zs)

-- the noun of a frame and its boxes
abbrev pub boxes_in : List ℕ → List Atom → Array
boxes_in f zs = record { kind = Boxed; shape = f; atoms = zs }

assembled_boxes : (f : List ℕ) (zs : List Atom) → assembled f (map alone zs) Boxed ≡ boxes_in f (take (product f) zs)
assembled_boxes f zs =
    ap (λ (t : List ℕ). boxes_in (f ++ t) (atoms_of_all Boxed t (take (product f) (map alone zs)))) (no_shape zs)
    ∙ ap (λ (t : List ℕ). boxes_in t (atoms_of_all Boxed [] (take (product f) (map alone zs)))) (append-nil f)
    ∙ ap (λ (xs : List Array). boxes_in f (atoms_of_all Boxed [] xs)) (take-map alone (product f) zs)
    ∙ ap (boxes_in f) (own_atoms (take (product f) zs))

all_boxes : (zs : List Atom) → list_all (same_kind Boxed) (kinds_with_atoms (map alone zs)) ≡ true
all_boxes [] = refl
all_boxes (z ∷ zs) = all_boxes zs

boxes_join : (zs : List Atom) → 0 < length zs → joined_kind (map alone zs) ≡ Some Boxed
boxes_join [] some = absurd (omega arith)
boxes_join (z ∷ zs) some = ap (λ (b : Bool). let k : Option Kind = cond b (Some Boxed) None in k) (all_boxes zs)

assemble_boxes : (f : List ℕ) (zs : List Atom) → 0 < length zs → length zs ≡ product f → assemble f (map alone zs) ≡ limited (boxes_in f zs)
assemble_boxes f zs some many =
    assemble_as f (map alone zs) Boxed (boxes_join zs some) ∙ ap limited (assembled_boxes f zs)
    ∙ ap (λ (us : List Atom). limited (boxes_in f us)) (take_all (product f) zs (omega (arith, many)))

-- each noun in its box
abbrev box_of : Array → Array
box_of a = alone (boxed a)

-- boxes that are light and shallow together are so alone
box_within : (a : Array) (rest : List Atom) → sum_by atom_weight (boxed a ∷ rest) ≤ 4194304 → greatest_level (boxed a ∷ rest) ≤ 64 → IsWithin [] (boxed a ∷ [])
box_within a rest light shallow = record {
  rank = omega arith;
  axes = All-nil (λ n. n ≤ 4194304);
  light = omega (arith, light, sum_by-cons atom_weight (boxed a) rest, sum_by-cons atom_weight (boxed a) []);
  shallow = omega (arith, shallow);
}

all_given : (ns : List Array) → sum_by atom_weight (map boxed ns) ≤ 4194304 → greatest_level (map boxed ns) ≤ 64 → in_order (map in_box ns) ≡ Ok (map alone (map boxed ns))
all_given [] light shallow = refl
all_given (a ∷ ns) light shallow =
    let first : in_box a ≡ Ok (box_of a) = limited-Ok (box_of a) (box_within a (map boxed ns) light shallow) in
    let rest = all_given ns (omega (arith, light, sum_by-cons atom_weight (boxed a) (map boxed ns))) (omega (arith, shallow)) in
    ap (λ (r : Result Array Fault). in_order (r ∷ map in_box ns)) first ∙ ap (λ (q : Result (List Array) Fault). with_first (box_of a) q) rest

-- all the boxes, or `limit error`
abbrev GivenOr : Result (List Array) Fault → List Array → Type 0
GivenOr (Ok zs) ns = zs ≡ map alone (map boxed ns)
GivenOr (Err e) ns = e ≡ Limit

given_more : (a : Array) (ns : List Array) (q : Result (List Array) Fault) → GivenOr q ns → GivenOr (with_first (box_of a) q) (a ∷ ns)
given_more a ns (Ok zs) h = ap (λ (zs : List Array). box_of a ∷ zs) h
given_more a ns (Err e) h = h

given_first : (a : Array) (ns : List Array) (b : Bool) → GivenOr (in_order (map in_box ns)) ns → GivenOr (in_order ((let r : Result Array Fault = cond b (Ok (box_of a)) (Err Limit) in r) ∷ map in_box ns)) (a ∷ ns)
given_first a ns true h = given_more a ns (in_order (map in_box ns)) h
given_first a ns false h = refl

all_or_limit : (ns : List Array) → GivenOr (in_order (map in_box ns)) ns
all_or_limit [] = refl
all_or_limit (a ∷ ns) = given_first a ns (is_within (box_of a)) (all_or_limit ns)

module _ (f : List ℕ) (ns : List Array) where
  abbrev whole : Array
  whole = boxes_in f (map boxed ns)

  abbrev then_joined : Result (List Array) Fault → Result Array Fault
  then_joined q = then_pure q (assemble f)

  of_boxes : 0 < length ns → length ns ≡ product f → assemble f (map alone (map boxed ns)) ≡ limited whole
  of_boxes some many =
      let as_many : length (map boxed ns) ≡ length ns = length-map ns boxed in
      assemble_boxes f (map boxed ns) (omega (arith, as_many)) (as_many ∙ many)

  or_limit : 0 < length ns → length ns ≡ product f → (q : Result (List Array) Fault) → GivenOr q ns → limited whole ≡ Err Limit → then_joined q ≡ limited whole
  or_limit some many (Ok zs) h e = ap (assemble f) h ∙ of_boxes some many
  or_limit some many (Err x) h e = ap (λ (x : Fault). let r : Result Array Fault = Err x in r) h ∙ sym e

  by_limit : 0 < length ns → length ns ≡ product f → (b : Bool) → is_within whole ≡ b → then_joined (in_order (map in_box ns)) ≡ limited whole
  by_limit some many true e =
      let within = true_within whole e in
      ap then_joined (all_given ns within.light within.shallow) ∙ of_boxes some many
  by_limit some many false e =
      or_limit some many (in_order (map in_box ns)) (all_or_limit ns) (ap (λ (b : Bool). let r : Result Array Fault = cond b (Ok whole) (Err Limit) in r) e)

  -- the boxes of some nouns, each made and then assembled, are the noun of these boxes
  pub boxes_assembled : 0 < length ns → length ns ≡ product f → then_pure (in_order (map in_box ns)) (assemble f) ≡ limited whole
  boxes_assembled some many = by_limit some many (is_within whole) refl

-- `<` on the whole of a noun is its box, or `limit error`
box_alone : (a : Array) (b : Bool) (s : State) → is_within (box_of a) ≡ b →
    then_do (then_do (or_fault (let r : Result Array Fault = cond b (Ok (box_of a)) (Err Limit) in r) s) (λ r. pure (r ∷ []))) (λ rs. or_fault (assemble [] rs)) ≡ or_fault (let r : Result Array Fault = cond b (Ok (box_of a)) (Err Limit) in r) s
box_alone a true s e =
    let within = true_within (box_of a) e in
    ap (λ (q : Result Array Fault). or_fault q s) (assemble_one (box_of a) (record { as_many = refl; of_kind = All-cons (IsOfKind Boxed) (boxed a) [] tt (All-nil (IsOfKind Boxed)); within = within }))
box_alone a false s e = refl

box_whole : (a : Array) (s : State) → IsNoun a → by_ranks (verb_ranks (primitive Less)) (spoken Less) None a s ≡ or_fault (in_box a) s
unfolding by_ranks word
box_whole a s noun =
    ap (λ (c : Array). then_do (then_do (or_fault (in_box c) s) (λ r. pure (r ∷ []))) (λ rs. or_fault (assemble [] rs))) (whole_cell a noun)
    ∙ box_alone a (is_within (box_of a)) s refl

module _ (calls : Calls) where
  abbrev box : Doing
  box = does calls (verb (primitive Less))

  over_each : (ns : List Array) (s : State) → All IsNoun ns → over_pairs box (alone_each ns) s ≡ or_fault (in_order (map in_box ns)) s
  over_each [] s nouns = refl
  over_each (a ∷ ns) s nouns =
      ap (λ (o : Outcome Array). then_do o (λ r s. then_do (over_pairs box (alone_each ns) s) (λ rs. pure (r ∷ rs)))) (box_whole a s (All-head IsNoun a ns nouns))
      ∙ pure_first (in_box a) (map in_box ns) (over_pairs box (alone_each ns)) s (over_each ns s (All-tail IsNoun a ns nouns))

  then_is : (q : Result (List Array) Fault) (f : List ℕ) (s : State) → then_do (or_fault q s) (λ rs. or_fault (assemble f rs)) ≡ or_fault (then_pure q (assemble f)) s
  then_is (Ok ns) f s = refl
  then_is (Err e) f s = refl

  -- `<` on each of some nouns is one noun of their boxes
  pub boxes_each : (c : Source) (ns : List Array) (s : State) → c.pairs ≡ alone_each ns → All IsNoun ns → 0 < length ns → length ns ≡ product c.frame →
      on_pairs box c s ≡ or_fault (limited (boxes_in c.frame (map boxed ns))) s
  boxes_each c ns s e nouns some many =
      ap (λ (ps : List Cells). then_do (over_pairs box ps s) (λ rs. or_fault (assemble c.frame rs))) e
      ∙ ap (λ (o : Outcome (List Array)). then_do o (λ rs. or_fault (assemble c.frame rs))) (over_each ns s nouns)
      ∙ then_is (in_order (map in_box ns)) c.frame s
      ∙ ap (λ (q : Result Array Fault). or_fault q s) (boxes_assembled c.frame ns some many)
