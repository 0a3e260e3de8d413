-- The items at some places.
use Rattle.std.proofs.Common.{◌≡◌, ◌<◌, ◌≤◌, ◌+◌, ◌*◌, ◌/◌, ℕ, List, [], ◌∷◌, ◌++◌, length, map, drop, arith, refl, sym, ap, ◌∙◌, subst, Result}
use Rattle.std.specs.List.{flat_map, All}
use Rattle.std.proofs.lemmas.List.{map-append, length-append}
use Rattle.std.proofs.lemmas.List.Elements.{All-nil, All-cons, All-head, All-tail, All-append, All-take, All-drop}
use Rattle.std.proofs.Math.Nat.{mul-div_cancel_left}
use Rattle.j_definitions.specs.Array.{Array, Atom, product, tally, IsNoun}
use Rattle.j_definitions.specs.Items.{part, item, item_size}
use Rattle.j_definitions.specs.Limits.{limited}
use Rattle.j_noun.specs.declared.noun.Atoms.{Atoms}
use Rattle.j_noun.specs.declared.refusal.Refusal.{Refusal}
use Rattle.j_noun.specs.Held.{AreAtoms, array_kept, atoms_kept, kind_kept}
use Rattle.j_noun.specs.Refused.{OrWanting}
use Rattle.j_rank.proofs.Parts.{part_map}
use Rattle.j_search.specs.Matching.{items_at}
use Rattle.j_search.specs.Sought.{run}
use Rattle.j_search.proofs.Runs.{run_within, length-run}

-- runs of what atoms are made of
picks_map : {X : Type 0} (f : X → Atom) (size : ℕ) (xs : List X) (ks : List ℕ) → map f (flat_map (run size xs) ks) ≡ flat_map (part size (map f xs)) ks
picks_map f size xs [] = refl
picks_map f size xs (k ∷ ks) =
    map-append f (run size xs k) (flat_map (run size xs) ks) ∙ ap (λ r. r ++ map f (flat_map (run size xs) ks)) (part_map f xs (run size xs k) k size refl)
    ∙ ap (λ r. part size (map f xs) k ++ r) (picks_map f size xs ks)

pub picked_map : {X : Type 0} (f : X → Atom) (size : ℕ) (xs out : List X) (ks : List ℕ) → out ≡ flat_map (run size xs) ks → map f out ≡ flat_map (part size (map f xs)) ks
picked_map f size xs out ks e = ap (map f) e ∙ picks_map f size xs ks

picks_low : (size : ℕ) (xs : List ℕ) (ks : List ℕ) → All (λ b. b < 2) xs → All (λ b. b < 2) (flat_map (run size xs) ks)
picks_low size xs [] h = All-nil (λ b. b < 2)
picks_low size xs (k ∷ ks) h =
    All-append (λ b. b < 2) (run size xs k) (flat_map (run size xs) ks) (All-take (λ b. b < 2) size (drop (k * size) xs) (All-drop (λ b. b < 2) (k * size) xs h)) (picks_low size xs ks h)

pub picked_low : (size : ℕ) (xs out ks : List ℕ) → out ≡ flat_map (run size xs) ks → All (λ b. b < 2) xs → All (λ b. b < 2) out
picked_low size xs out ks e h = subst (All (λ b. b < 2)) (sym e) (picks_low size xs ks h)

-- the items of a shape
pub items_many : (s : List ℕ) → product s ≡ tally s * item_size s
items_many [] = refl
items_many (n ∷ s) = refl

pub item_size_is : (s : List ℕ) (len count : ℕ) → len ≡ product s → count ≡ tally s → 0 < tally s → len / count ≡ item_size s
item_size_is s len count e ec some =
    ap (λ n. n / count) (e ∙ items_many s) ∙ ap (λ n. tally s * item_size s / n) ec ∙ mul-div_cancel_left (item_size s) some

-- the size is that of an item, where there are places
pub picks_same : (y : Array) (xs : List Atom) (size : ℕ) (ks : List ℕ) → xs ≡ y.atoms → All (λ k. k < tally y.shape) ks → (0 < tally y.shape → size ≡ item_size y.shape) → flat_map (part size xs) ks ≡ flat_map (item y) ks
picks_same y xs size [] e h is = refl
picks_same y xs size (k ∷ ks) e h is =
    let here : k < tally y.shape = All-head (λ j. j < tally y.shape) k ks h in
    ap (λ ds. part size ds k ++ flat_map (part size xs) ks) e ∙ ap (λ n. part n y.atoms k ++ flat_map (part size xs) ks) (is (omega arith))
    ∙ ap (λ r. item y k ++ r) (picks_same y xs size ks e (All-tail (λ j. j < tally y.shape) k ks h) is)

pub picks_within : (y : Array) (len size : ℕ) (ks : List ℕ) → len ≡ product y.shape → All (λ k. k < tally y.shape) ks → (0 < tally y.shape → size ≡ item_size y.shape) → All (λ k. (k + 1) * size ≤ len) ks
picks_within y len size [] e h is = All-nil (λ k. (k + 1) * size ≤ len)
picks_within y len size (k ∷ ks) e h is =
    let here : k < tally y.shape = All-head (λ j. j < tally y.shape) k ks h in
    All-cons (λ j. (j + 1) * size ≤ len) k ks
    (run_within k (tally y.shape) size len here (e ∙ items_many y.shape ∙ ap (λ n. tally y.shape * n) (sym (is (omega arith)))))
    (picks_within y len size ks e (All-tail (λ j. j < tally y.shape) k ks h) is)

pub length-picks : (y : Array) (ks : List ℕ) → IsNoun y → All (λ k. k < tally y.shape) ks → length (flat_map (item y) ks) ≡ length ks * item_size y.shape
length-picks y [] noun h = omega arith
length-picks y (k ∷ ks) noun h =
    let here : k < tally y.shape = All-head (λ j. j < tally y.shape) k ks h in
    let many : length y.atoms ≡ tally y.shape * item_size y.shape = noun.as_many ∙ items_many y.shape in
    let one : length (item y k) ≡ item_size y.shape = length-run (item_size y.shape) y.atoms k (run_within k (tally y.shape) (item_size y.shape) (length y.atoms) here many) in
    let more : length (flat_map (item y) ks) ≡ length ks * item_size y.shape = length-picks y ks noun (All-tail (λ j. j < tally y.shape) k ks h) in
    length-append (item y k) (flat_map (item y) ks) ∙ omega arith

-- what is made of the atoms
pub made_items : (y : Array) (t : Atoms) (ks shape : List ℕ) (xs : List Atom) → AreAtoms t y.kind xs → xs ≡ flat_map (item y) ks → shape ≡ length ks ∷ drop 1 y.shape → array_kept shape t ≡ items_at y ks
made_items y t ks shape xs are e es =
    let atoms : atoms_kept t ≡ xs = are.atoms in
    let kind : kind_kept t ≡ y.kind = are.kind in
    ap (λ s. let it : Array = record { kind = kind_kept t; shape = s; atoms = atoms_kept t } in it) es
    ∙ ap (λ j. let it : Array = record { kind = j; shape = length ks ∷ drop 1 y.shape; atoms = atoms_kept t } in it) kind
    ∙ ap (λ ds. let it : Array = record { kind = y.kind; shape = length ks ∷ drop 1 y.shape; atoms = ds } in it) (atoms ∙ e)

pub answer_is : (r : Result Array Refusal) {a b : Array} → a ≡ b → OrWanting (limited a) r → OrWanting (limited b) r
answer_is r e h = subst (λ (a : Array). OrWanting (limited a) r) e h
