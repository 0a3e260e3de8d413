-- What is taken and what is left, joined.
use Rattle.std.proofs.Common.{◌≡◌, ◌<◌, ◌≤◌, ◌+◌, ◌-◌, ◌*◌, ℕ, pos, max, Bool, true, false, nat_eq, cond, ◌&&◌, List, [], ◌∷◌, ◌++◌, length, take, drop, arith, refl, sym, ap, ◌∙◌, Option, Some, None, Result, Ok, Err}
use Prim.Native.Nat.{suc}
use Rattle.std.proofs.lemmas.List.{length-take, length-drop, take-append-drop}
use Rattle.j_definitions.specs.Array.{Array, Atom, product, tally, fill_atom, IsNoun}
use Rattle.j_definitions.specs.Limits.{is_within, limited}
use Rattle.j_definitions.proofs.Limits.{limited-Ok}
use Rattle.j_definitions.specs.declared.Kind.{Kind}
use Rattle.j_definitions.specs.declared.Kind.TheVariants.{Number, Character, Boxed}
use Rattle.j_definitions.specs.declared.Fault.{Fault}
use Rattle.j_definitions.specs.declared.Fault.TheVariants.{Limit}
use Rattle.j_rank.specs.Assembly.{with_rank, greater_axes, padded, same_kind, one_kind, joined_kind}
use Rattle.j_rank.proofs.Paddings.{padded_same}
use Rattle.j_rank.proofs.Widest.{with_rank_same}
use Rattle.j_places.specs.AxisPlaces.{numbers, take_axes, drop_axes}
use Rattle.j_places.proofs.TakingLaws.{split_product, take_is, drop_is}
use Rattle.j_joining.specs.Joining.{append, joined_as, joined_items}
use Rattle.j_joining.proofs.Beside.{greater_self}

abbrev noun : Kind → ℕ → List ℕ → List Atom → Array
noun j n s xs = record { kind = j; shape = n ∷ s; atoms = xs }

-- what is within the limits is its own result
result_by : (a r : Array) (b : Bool) → (let q : Result Array Fault = cond b (Ok a) (Err Limit) in q) ≡ Ok r → r ≡ a
result_by a r true h = cc
result_by a r false h = cc

result_is : (a r : Array) → limited a ≡ Ok r → r ≡ a
result_is a r h = result_by a r (is_within a) h

same_self : (j : Kind) → same_kind j j ≡ true
same_self Number = refl
same_self Character = refl
same_self Boxed = refl

-- two nouns of one kind join to it
kind_by : (j : Kind) (b c : Bool) (x y : Array) → x.kind ≡ j → one_kind (cond b (cond c [] (j ∷ [])) (j ∷ cond c [] (j ∷ []))) (x ∷ y ∷ []) ≡ Some j
kind_by j true true x y e = ap Some e
kind_by j true false x y e = refl
kind_by j false true x y e = refl
kind_by j false false x y e = ap (λ b. let r : Option Kind = cond (b && true) (Some j) None in r) (same_self j)

-- items of one shape, one after the other
append_is : (j : Kind) (m n : ℕ) (s : List ℕ) (xs ys : List Atom) → length xs ≡ m * product s → length ys ≡ n * product s → append (noun j m s xs) (noun j n s ys) ≡ limited (noun j (m + n) s (xs ++ ys))
append_is j m n s xs ys ex ey =
    let x : Array = noun j m s xs in
    let y : Array = noun j n s ys in
    let r : ℕ = max (suc (length s)) (suc (length s)) in
    let z : Atom = fill_atom j in
    let wide : suc (length s) ≡ r = omega arith in
    let kind : joined_kind (x ∷ y ∷ []) ≡ Some j = kind_by j (nat_eq (length xs) 0) (nat_eq (length ys) 0) x y refl in
    let left : with_rank r (m ∷ s) ≡ m ∷ s = with_rank_same r (m ∷ s) wide in
    let right : with_rank r (n ∷ s) ≡ n ∷ s = with_rank_same r (n ∷ s) wide in
    ap (λ (o : Option Kind). joined_as o x y) kind
    ∙ ap limited
    (ap (λ t. joined_items j (greater_axes (drop 1 t) (drop 1 (with_rank r (n ∷ s)))) t (with_rank r (n ∷ s)) xs ys) left
    ∙ ap (λ t. joined_items j (greater_axes s (drop 1 t)) (m ∷ s) t xs ys) right
    ∙ ap (λ c. joined_items j c (m ∷ s) (n ∷ s) xs ys) (greater_self s)
    ∙ ap (λ v. noun j (m + n) s (v ++ padded z (n ∷ s) (n ∷ s) ys)) (padded_same z (m ∷ s) xs ex) ∙ ap (λ v. noun j (m + n) s (xs ++ v)) (padded_same z (n ∷ s) ys ey))

joined_again : (v : Array) (j : Kind) (n : ℕ) (s : List ℕ) (xs : List Atom) (k : ℕ) (x y : Array) → numbers v ≡ Ok (pos k ∷ []) → IsNoun (noun j n s xs) → k ≤ n →
    take_axes v (noun j n s xs) ≡ Ok x → drop_axes v (noun j n s xs) ≡ Ok y → append x y ≡ Ok (noun j n s xs)
joined_again v j n s xs k x y e is_noun h ex ey =
    let p : ℕ = product s in
    let many : length xs ≡ n * p = is_noun.as_many in
    let parts : n * p ≡ k * p + (n - k) * p = split_product n k p h in
    let front : List Atom = take (k * p) xs in
    let rest : List Atom = drop (k * p) xs in
    let x_is : x ≡ noun j k s front = result_is (noun j k s front) x (sym (take_is v j n s xs k e h) ∙ ex) in
    let y_is : y ≡ noun j (n - k) s rest = result_is (noun j (n - k) s rest) y (sym (drop_is v j n s xs k e h many) ∙ ey) in
    let front_many : length front ≡ k * p = omega (arith, many, parts, length-take (k * p) xs) in
    let rest_many : length rest ≡ (n - k) * p = omega (arith, many, parts, length-drop (k * p) xs) in
    let all : k + (n - k) ≡ n = omega arith in
    ap (λ a. append a y) x_is ∙ ap (append (noun j k s front)) y_is ∙ append_is j k (n - k) s front rest front_many rest_many ∙ ap (λ m. limited (noun j m s (front ++ rest))) all
    ∙ ap (λ w. limited (noun j n s w)) (take-append-drop (k * p) xs) ∙ limited-Ok (noun j n s xs) is_noun.within

by_shape : (v : Array) (j : Kind) (s : List ℕ) (xs : List Atom) (k : ℕ) (x y : Array) → numbers v ≡ Ok (pos k ∷ []) → IsNoun (record { kind = j; shape = s; atoms = xs }) → 0 < length s → k ≤ tally s →
    take_axes v (record { kind = j; shape = s; atoms = xs }) ≡ Ok x → drop_axes v (record { kind = j; shape = s; atoms = xs }) ≡ Ok y → append x y ≡ Ok (record { kind = j; shape = s; atoms = xs })
by_shape v j [] xs k x y e is_noun some h ex ey = absurd (omega arith)
by_shape v j (n ∷ s) xs k x y e is_noun some h ex ey = joined_again v j n s xs k x y e is_noun h ex ey

pub taken_and_left : (x y front rest : Array) (k : ℕ) → numbers x ≡ Ok (pos k ∷ []) → IsNoun y → 0 < length y.shape → k ≤ tally y.shape → take_axes x y ≡ Ok front → drop_axes x y ≡ Ok rest → append front rest ≡ Ok y
taken_and_left x y front rest k e is_noun some h et ed = by_shape x y.kind y.shape y.atoms k front rest e is_noun some h et ed
