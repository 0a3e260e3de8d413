-- Lists that are joined in one pass, and nouns that are joined from the right.
use Rattle.std.proofs.Common.{◌≡◌, ◌<◌, ◌≤◌, ◌+◌, ℕ, max, Bool, true, false, cond, List, [], ◌∷◌, ◌++◌, length, map, take, drop, get_or, arith, refl, sym, ap, ◌∙◌, subst, append-nil, mul-one, Option, Some, None, Result, Ok, Err}
use Prim.Native.Nat.{zero, suc}
use Rattle.std.specs.List.{All}
use Rattle.std.proofs.lemmas.List.{take_more, length-append, drop_more, length-drop, nil_from_length}
use Rattle.std.proofs.lemmas.List.Concat.{flat_map-append}
use Rattle.std.proofs.lemmas.List.Elements.{All-nil, All-cons, All-head, All-tail, All-more}
use Rattle.std.proofs.lemmas.List.Folds.{length-flat_map-take}
use Rattle.std.proofs.lemmas.List.Sums.{sum_by-append}
use Rattle.j_definitions.specs.Array.{Array, Atom, product, tally, fill_atom, boxed, opened, atom_weight, greatest_level, IsNoun, IsWithin}
use Rattle.j_definitions.specs.Limits.{is_within, limited}
use Rattle.j_definitions.specs.declared.Kind.{Kind}
use Rattle.j_definitions.specs.declared.Kind.TheVariants.{Boxed}
use Rattle.j_definitions.specs.declared.Fault.{Fault}
use Rattle.j_definitions.specs.declared.Fault.TheVariants.{Limit}
use Rattle.j_definitions.proofs.Laws.{opened-boxed}
use Rattle.j_definitions.proofs.Limits.{within_true, limited-Err, limited-Ok}
use Rattle.j_noun.specs.declared.refusal.Refusal.{Refusal}
use Rattle.j_noun.specs.declared.refusal.Refusal.TheVariants.{Fault as RefusedFault, NoMemory}
use Rattle.j_noun.specs.Refused.{OrWanting}
use Rattle.j_rank.specs.Assembly.{padded, same_kind}
use Rattle.j_rank.specs.Joined.{AreBitsOf}
use Rattle.j_rank.proofs.Joining.{same_self, same_is}
use Rattle.j_rank.proofs.Paddings.{padded_same}
use Rattle.j_joining.specs.Joining.{spread, joined, joined_as, items_joined, append, appended, one_item, joined_right, all_joined, ravelled, raze_by, raze}
use Rattle.j_joining.specs.Brought.{brought, Fits, IsGroup, group_atoms, two_kinds, IsListOf, all_atoms, list_of}
use Rattle.j_joining.proofs.Beside.{kind_of_two}

fits_list : (s : List ℕ) → length s ≤ 1 → Fits (tally s ∷ []) s
fits_list [] h = tt
fits_list (n ∷ []) h = (omega arith, tt)
fits_list (n ∷ m ∷ s) h = absurd (omega arith)

brought_list : (z : Atom) (s : List ℕ) (xs : List Atom) → length s ≤ 1 → length xs ≡ product s → brought z (tally s ∷ []) s xs ≡ xs
brought_list z [] [] h e = absurd (omega (arith, e))
brought_list z [] (x ∷ []) h e = refl
brought_list z [] (x ∷ y ∷ xs) h e = absurd (omega (arith, e))
brought_list z (n ∷ []) xs h e = padded_same z (n ∷ []) xs e
brought_list z (n ∷ m ∷ s) xs h e = absurd (omega arith)

-- a list as a group
pub list_group : (k : Kind) (a : Array) (t : List ℕ) → IsListOf k a → t ≡ tally a.shape ∷ [] → IsGroup k a t
list_group k a t list e = subst (λ (r : List ℕ). IsGroup k a r) (sym e) (record {
  rank = list.flat;
  few = omega arith;
  fits = fits_list a.shape list.flat;
  joins = λ some h. list.kind;
})

list_atoms : (k : Kind) (a : Array) → IsListOf k a → group_atoms k a (tally a.shape ∷ []) ≡ a.atoms
list_atoms k a list = brought_list (fill_atom k) a.shape a.atoms list.flat list.noun.as_many

pub list_at : (k : Kind) (xs : List Array) (i : ℕ) (a : Array) → All (IsListOf k) xs → i < length xs → a ≡ get_or xs i a → IsListOf k a
list_at k xs i a all h is = subst (λ (b : Array). IsListOf k b) (sym is) (all i a h)

-- the atoms of one noun more
pub atoms_more : (xs : List Array) (i : ℕ) (a : Array) → i < length xs → a ≡ get_or xs i a → all_atoms (take (i + 1) xs) ≡ all_atoms (take i xs) ++ a.atoms
atoms_more xs i a h is =
    ap all_atoms (take_more xs i a h ∙ ap (λ (b : Array). take i xs ++ b ∷ []) (sym is)) ∙ flat_map-append (λ (b : Array). b.atoms) (take i xs) (a ∷ []) ∙ ap (λ r. all_atoms (take i xs) ++ r) (append-nil a.atoms)

pub list_more : {X : Type 0} (f : X → Atom) (k : Kind) (xs : List Array) (i : ℕ) (a : Array) (t : List ℕ) (out new : List X) → All (IsListOf k) xs → i < length xs → a ≡ get_or xs i a → t ≡ tally a.shape ∷ [] →
    map f out ≡ all_atoms (take i xs) → map f new ≡ map f out ++ group_atoms k a t → map f new ≡ all_atoms (take (i + 1) xs)
list_more f k xs i a t out new all h is e before more =
    more ∙ ap (λ r. map f out ++ group_atoms k a r) e ∙ ap (λ r. map f out ++ r) (list_atoms k a (list_at k xs i a all h is)) ∙ ap (λ r. r ++ a.atoms) before ∙ sym (atoms_more xs i a h is)

pub list_bits_more : (k : Kind) (xs : List Array) (i : ℕ) (a : Array) (t : List ℕ) (out new : List ℕ) → All (IsListOf k) xs → i < length xs → a ≡ get_or xs i a → t ≡ tally a.shape ∷ [] →
    AreBitsOf (all_atoms (take i xs) ++ group_atoms k a t) new → AreBitsOf (all_atoms (take (i + 1) xs)) new
list_bits_more k xs i a t out new all h is e bits =
    subst (λ (r : List Atom). AreBitsOf r new)
    (ap (λ r. all_atoms (take i xs) ++ group_atoms k a r) e ∙ ap (λ r. all_atoms (take i xs) ++ r) (list_atoms k a (list_at k xs i a all h is)) ∙ sym (atoms_more xs i a h is)) bits

-- too many atoms already
pub many_already : (xs : List Array) (i : ℕ) (a : Array) (total more : ℕ) → i < length xs → a ≡ get_or xs i a → total ≡ length (all_atoms (take i xs)) → more ≤ length a.atoms → 4194304 < total + more → 4194304 < length (all_atoms xs)
many_already xs i a total more h is e le many = omega (arith, length-flat_map-take (λ (b : Array). b.atoms) xs i a h, ap (λ (b : Array). length b.atoms) is)

-- a list, by its atoms
as_list_of : (k : Kind) (s : List ℕ) (xs : List Atom) → length s ≤ 1 → length xs ≡ product s → spread (1 ∷ []) (record { kind = k; shape = s; atoms = xs }) ≡ list_of k xs
as_list_of k [] [] h e = absurd (omega (arith, e))
as_list_of k [] (x ∷ []) h e = refl
as_list_of k [] (x ∷ y ∷ xs) h e = absurd (omega (arith, e))
as_list_of k (n ∷ []) xs h e = let f : n ≡ length xs = omega (arith, e) in ap (λ m. let it : Array = record { kind = k; shape = m ∷ []; atoms = xs } in it) f
as_list_of k (n ∷ m ∷ s) xs h e = absurd (omega arith)

list_is : (k : Kind) (a : Array) → IsListOf k a → spread (1 ∷ []) a ≡ list_of k a.atoms
list_is k a list = as_list_of a.kind a.shape a.atoms list.flat list.noun.as_many ∙ ap (λ j. list_of j a.atoms) list.kind

two_alike : (k : Kind) (p q : Bool) → two_kinds k p k q ≡ Some k
two_alike k true true = refl
two_alike k true false = refl
two_alike k false true = refl
two_alike k false false = ap (λ b. let r : Option Kind = cond b (Some k) None in r) (same_self k)

joined_lists : (k : Kind) (xs ys : List Atom) → joined k (list_of k xs) (list_of k ys) ≡ list_of k (xs ++ ys)
joined_lists k xs ys =
    let z : Atom = fill_atom k in
    let many : length xs + length ys ≡ length (xs ++ ys) = sym (length-append xs ys) in
    let left : padded z (length xs ∷ []) (length xs ∷ []) xs ≡ xs = padded_same z (length xs ∷ []) xs (sym (mul-one (length xs))) in
    let right : padded z (length ys ∷ []) (length ys ∷ []) ys ≡ ys = padded_same z (length ys ∷ []) ys (sym (mul-one (length ys))) in
    ap (λ n. let it : Array = record { kind = k; shape = n ∷ []; atoms = padded z (length xs ∷ []) (length xs ∷ []) xs ++ padded z (length ys ∷ []) (length ys ∷ []) ys } in it) many
    ∙ ap (λ r. let it : Array = record { kind = k; shape = length (xs ++ ys) ∷ []; atoms = r ++ padded z (length ys ∷ []) (length ys ∷ []) ys } in it) left
    ∙ ap (λ r. let it : Array = record { kind = k; shape = length (xs ++ ys) ∷ []; atoms = xs ++ r } in it) right

pub lists_joined : (k : Kind) (xs ys : List Atom) → items_joined (list_of k xs) (list_of k ys) ≡ limited (list_of k (xs ++ ys))
lists_joined k xs ys =
    ap (λ o. joined_as o (list_of k xs) (list_of k ys)) (kind_of_two (list_of k xs) (list_of k ys) ∙ two_alike k _ _) ∙ ap limited (joined_lists k xs ys)

-- an item of an atom or a list
short_item : (s : List ℕ) → length s ≤ 1 → one_item s ≡ 1 ∷ []
short_item [] h = refl
short_item (n ∷ []) h = refl
short_item (n ∷ m ∷ s) h = absurd (omega arith)

append_lists : (k : Kind) (a b : Array) → IsListOf k a → IsListOf k b → append a b ≡ limited (list_of k (a.atoms ++ b.atoms))
append_lists k a b left right =
    ap (λ (t : List ℕ). items_joined (spread t a) (spread (one_item a.shape) b)) (short_item b.shape right.flat)
    ∙ ap (λ (t : List ℕ). items_joined (spread (1 ∷ []) a) (spread t b)) (short_item a.shape left.flat)
    ∙ ap (λ (c : Array). items_joined c (spread (1 ∷ []) b)) (list_is k a left)
    ∙ ap (items_joined (list_of k a.atoms)) (list_is k b right)
    ∙ lists_joined k a.atoms b.atoms

append_list : (k : Kind) (a : Array) (ys : List Atom) → IsListOf k a → append a (list_of k ys) ≡ limited (list_of k (a.atoms ++ ys))
append_list k a ys list = ap (λ (b : Array). items_joined b (list_of k ys)) (list_is k a list) ∙ lists_joined k a.atoms ys

level-append : (xs ys : List Atom) → greatest_level (xs ++ ys) ≡ max (greatest_level xs) (greatest_level ys)
level-append [] ys = omega arith
level-append (x ∷ xs) ys = omega (arith, level-append xs ys)

-- a list within the limits is so without its front
within_rest : (k : Kind) (xs ys : List Atom) → IsWithin (length (xs ++ ys) ∷ []) (xs ++ ys) → IsWithin (length ys ∷ []) ys
within_rest k xs ys w = record {
  rank = omega arith;
  axes = All-cons (λ n. n ≤ 4194304) (length ys) [] (omega (arith, All-head (λ n. n ≤ 4194304) (length (xs ++ ys)) [] w.axes, length-append xs ys)) (All-nil (λ n. n ≤ 4194304));
  light = omega (arith, w.light, sum_by-append atom_weight xs ys);
  shallow = omega (arith, w.shallow, level-append xs ys);
}

false_within : (a : Array) → is_within a ≡ false → IsWithin a.shape a.atoms → ⊥
false_within a e w = let h = within_true a w in cc

joined_before : (k : Kind) (a : Array) (ys : List Atom) (b : Bool) → IsListOf k a → is_within (list_of k ys) ≡ b →
    appended (Ok a) (cond b (Ok (list_of k ys)) (Err Limit)) ≡ limited (list_of k (a.atoms ++ ys))
joined_before k a ys true list e = append_list k a ys list
joined_before k a ys false list e = sym (limited-Err (list_of k (a.atoms ++ ys)) (λ w. false_within (list_of k ys) e (within_rest k a.atoms ys w)))

-- lists of a kind are joined as one list of all atoms
lists_from_right : (k : Kind) (xs : List Array) → All (IsListOf k) xs → 1 < length xs → joined_right xs ≡ limited (list_of k (all_atoms xs))
lists_from_right k [] all some = absurd (omega arith)
lists_from_right k (a ∷ []) all some = absurd (omega arith)
lists_from_right k (a ∷ b ∷ []) all some =
    append_lists k a b (All-head (IsListOf k) a (b ∷ []) all) (All-head (IsListOf k) b [] (All-tail (IsListOf k) a (b ∷ []) all)) ∙ ap (λ (ys : List Atom). limited (list_of k (a.atoms ++ ys))) (sym (append-nil b.atoms))
lists_from_right k (a ∷ b ∷ c ∷ rest) all some =
    ap (appended (Ok a)) (lists_from_right k (b ∷ c ∷ rest) (All-tail (IsListOf k) a (b ∷ c ∷ rest) all) (omega arith))
    ∙ joined_before k a (all_atoms (b ∷ c ∷ rest)) (is_within (list_of k (all_atoms (b ∷ c ∷ rest)))) (All-head (IsListOf k) a (b ∷ c ∷ rest) all) refl

pub lists_are_joined : (k : Kind) (xs : List Array) → All (IsListOf k) xs → 0 < length xs → all_joined xs ≡ limited (list_of k (all_atoms xs))
lists_are_joined k [] all some = absurd (omega arith)
lists_are_joined k (a ∷ []) all some = ap limited (list_is k a (All-head (IsListOf k) a [] all) ∙ ap (list_of k) (sym (append-nil a.atoms)))
lists_are_joined k (a ∷ b ∷ rest) all some = lists_from_right k (a ∷ b ∷ rest) all (omega arith)

-- several nouns are joined as they are, and one alone as a list
pub several_joined : (xs : List Array) (m : Result Array Refusal) → 1 < length xs → OrWanting (joined_right xs) m → OrWanting (all_joined xs) m
several_joined [] m some h = absurd (omega arith)
several_joined (a ∷ []) m some h = absurd (omega arith)
several_joined (a ∷ b ∷ rest) m some h = h

pub one_joined : (xs : List Array) (a : Array) (m : Result Array Refusal) → length xs ≡ 1 → a ≡ get_or xs 0 a → OrWanting (all_joined (a ∷ [])) m → OrWanting (all_joined xs) m
one_joined [] a m one is h = absurd (omega arith)
one_joined (x ∷ []) a m one is h = subst (λ (b : Array). OrWanting (all_joined (b ∷ [])) m) is h
one_joined (x ∷ y ∷ xs) a m one is h = absurd (omega arith)

-- one noun more on the left
joined_on : (a : Array) (ds : List Array) (b : Array) → 0 < length ds → joined_right ds ≡ Ok b → joined_right (a ∷ ds) ≡ append a b
joined_on a [] b some e = absurd (omega arith)
joined_on a (d ∷ ds) b some e = ap (appended (Ok a)) e

pub joined_more : (xs : List Array) (k j : ℕ) (a b : Array) → j ≡ k + 1 → j < length xs → a ≡ get_or xs k a → joined_right (drop j xs) ≡ Ok b → joined_right (drop k xs) ≡ append a b
joined_more xs k j a b next h is e =
    let low : k < length xs = omega arith in
    ap joined_right (drop_more xs k a low ∙ ap (λ (w : Array). w ∷ drop (k + 1) xs) (sym is))
    ∙ joined_on a (drop (k + 1) xs) b (omega (arith, length-drop (k + 1) xs)) (ap (λ i. joined_right (drop i xs)) (sym next) ∙ e)

fault_on : (a : Array) (ds : List Array) (e : Fault) → 0 < length ds → joined_right ds ≡ Err e → joined_right (a ∷ ds) ≡ Err e
fault_on a [] e some h = absurd (omega arith)
fault_on a (d ∷ ds) e some h = ap (appended (Ok a)) h

-- a fault stays
fault_stays : (xs : List Array) (k : ℕ) (e : Fault) → k < length xs → joined_right (drop k xs) ≡ Err e → joined_right xs ≡ Err e
fault_stays xs zero e h f = f
fault_stays [] (suc k) e h f = absurd (omega arith)
fault_stays (a ∷ xs) (suc k) e h f = fault_on a xs e (omega arith) (fault_stays xs k e (omega arith) f)

pub refused_stays : (xs : List Array) (k : ℕ) (said : Result Array Fault) (r : Refusal) → k < length xs → joined_right (drop k xs) ≡ said → OrWanting said (Err r) → OrWanting (joined_right xs) (Err r)
refused_stays xs k said (RefusedFault e) h is f = fault_stays xs k e h (is ∙ f)
refused_stays xs k said NoMemory h is f = tt

pub last_dropped : (xs : List Array) (k : ℕ) (a b : Array) → k + 1 ≡ length xs → a ≡ get_or xs k a → b ≡ a → joined_right (drop k xs) ≡ Ok b
last_dropped xs k a b e is same =
    ap joined_right (drop_more xs k a (omega arith) ∙ ap (λ (w : Array). w ∷ drop (k + 1) xs) (sym is) ∙ ap (λ r. a ∷ r) (nil_from_length (drop (k + 1) xs) (omega (arith, length-drop (k + 1) xs))))
    ∙ ap (λ (w : Array). let r : Result Array Fault = Ok w in r) (sym same)

pub opened_contents : (vs : List Array) → map opened (map boxed vs) ≡ vs
opened_contents [] = refl
opened_contents (v ∷ vs) = ap (λ (a : Array). a ∷ map opened (map boxed vs)) (opened-boxed v) ∙ ap (λ r. v ∷ r) (opened_contents vs)

pub are_more : (k j : Kind) (xs : List Array) (i : ℕ) (a : Array) (axes : List ℕ) → i < length xs → a ≡ get_or xs i a → IsNoun a → axes ≡ a.shape → length axes ≤ 1 → j ≡ a.kind → same_kind k j ≡ true →
    All (IsListOf k) (take i xs) → All (IsListOf k) (take (i + 1) xs)
are_more k j xs i a axes h is noun shape flat kind same all =
    let list : IsListOf k a = record { noun = noun; flat = omega (arith, ap length shape); kind = sym kind ∙ same_is k j same } in
    All-more (IsListOf k) xs i a h all (subst (λ (b : Array). IsListOf k b) is list)

spread_kept : (t : List ℕ) (k : Kind) (s : List ℕ) (xs : List Atom) → 0 < length s → spread t (record { kind = k; shape = s; atoms = xs }) ≡ record { kind = k; shape = s; atoms = xs }
spread_kept t k [] xs some = absurd (omega arith)
spread_kept t k (n ∷ s) xs some = refl

-- a noun that isn't an atom is taken as it is
pub one_kept : (y z : Array) → IsNoun y → 0 < length y.shape → z ≡ y → limited (spread (1 ∷ []) y) ≡ Ok z
one_kept y z noun some same =
    ap limited (spread_kept (1 ∷ []) y.kind y.shape y.atoms some) ∙ limited-Ok y noun.within ∙ ap (λ (a : Array). let r : Result Array Fault = Ok a in r) (sym same)

-- an atom is a list
pub one_listed : (y : Array) (m : Result Array Refusal) → IsNoun y → length y.shape ≤ 1 → OrWanting (limited (ravelled y)) m → OrWanting (limited (spread (1 ∷ []) y)) m
one_listed y m noun flat h = subst (λ (a : Array). OrWanting (limited a) m) (sym (as_list_of y.kind y.shape y.atoms flat noun.as_many)) h

pub flattened_is : (k : Kind) (xs : List Array) (m : Result Array Refusal) → All (IsListOf k) xs → 0 < length xs → OrWanting (limited (list_of k (all_atoms xs))) m → OrWanting (all_joined xs) m
flattened_is k xs m all some h = subst (λ (r : Result Array Fault). OrWanting r m) (sym (lists_are_joined k xs all some)) h

pub raze_boxes : (y : Array) (vs : List Array) (m : Result Array Refusal) → map boxed vs ≡ y.atoms → Boxed ≡ y.kind → OrWanting (all_joined vs) m → OrWanting (raze y) m
raze_boxes y vs m atoms kind h =
    subst (λ (r : Result Array Fault). OrWanting r m)
    (ap all_joined (sym (opened_contents vs) ∙ ap (map opened) atoms) ∙ ap (λ j. raze_by j y) kind) h
