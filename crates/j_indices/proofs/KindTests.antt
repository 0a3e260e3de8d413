-- Which nouns have atoms of a kind.
use Rattle.std.proofs.Common.{◌≡◌, ◌<◌, ◌≤◌, ◌+◌, ℕ, Bool, true, false, ◌&&◌, ◌||◌, not, nat_eq, List, [], ◌∷◌, ◌++◌, length, take, drop, get_or, arith, refl, sym, ap, ◌∙◌, Result, Ok, Err, append-nil, map}
use Prim.Native.Nat.{zero, suc}
use Rattle.std.specs.List.{All, list_any, flat_map}
use Rattle.std.proofs.Math.Dec.{eqb-suc-zero}
use Rattle.j_definitions.specs.Cells.{in_order}
use Rattle.std.proofs.lemmas.List.{map-append, length-append, drop_more, take_more, take_all, take-append-drop}
use Rattle.std.proofs.lemmas.List.Concat.{flat_map-append}
use Rattle.std.proofs.lemmas.List.Elements.{All-head, All-tail}
use Rattle.std.proofs.lemmas.List.Folds.{list_any_more, list_any_at}
use Rattle.j_definitions.specs.Array.{Array, Atom, number, byte, nested, IsOfKind, product}
use Rattle.j_definitions.specs.declared.Kind.{Kind}
use Rattle.j_definitions.specs.declared.Kind.TheVariants.{Number, Character, Boxed}
use Rattle.j_definitions.specs.declared.Fault.{Fault}
use Rattle.j_noun.specs.declared.refusal.Refusal.{Refusal}
use Rattle.j_noun.specs.declared.refusal.Refusal.TheVariants.{Fault as RefusedFault, NoMemory}
use Rattle.j_noun.specs.Refused.{OrWantingAs}
use Rattle.j_rank.specs.Assembly.{same_kind}
use Rattle.j_indices.specs.Numbers.{whole_numbers, indices_in, and_then}
use Rattle.j_indices.specs.Indexing.{is_of, places_in, AreInside}
use Rattle.j_indices.proofs.Indices.{oks, all_in_order, stops_in_order}

kind_test : (k j : Kind) (x : Atom) → IsOfKind k x → is_of j x ≡ same_kind k j
kind_test Number Number (number z) h = refl
kind_test Number Character (number z) h = refl
kind_test Number Boxed (number z) h = refl
kind_test Number j (byte b) h = absurd h
kind_test Number j (nested k s r) h = absurd h
kind_test Character j (number z) h = absurd h
kind_test Character Number (byte b) h = refl
kind_test Character Character (byte b) h = refl
kind_test Character Boxed (byte b) h = refl
kind_test Character j (nested k s r) h = absurd h
kind_test Boxed j (number z) h = absurd h
kind_test Boxed j (byte b) h = absurd h
kind_test Boxed Number (nested k s r) h = refl
kind_test Boxed Character (nested k s r) h = refl
kind_test Boxed Boxed (nested k s r) h = refl

and_false : (b : Bool) → (b && false) ≡ false
and_false true = refl
and_false false = refl

first_of_kind : (b r : Bool) (n : ℕ) → r ≡ (b && not (nat_eq n 0)) → (b || r) ≡ (b && not (nat_eq (suc n) 0))
first_of_kind true r n h = sym (ap not (eqb-suc-zero n))
first_of_kind false r n h = h

pub any_of_one_kind : (k j : Kind) (xs : List Atom) → All (IsOfKind k) xs → list_any (is_of j) xs ≡ (same_kind k j && not (nat_eq (length xs) 0))
any_of_one_kind k j [] h = sym (and_false (same_kind k j))
any_of_one_kind k j (x ∷ xs) h =
    ap (λ b. b || list_any (is_of j) xs) (kind_test k j x (All-head (IsOfKind k) x xs h))
    ∙ first_of_kind (same_kind k j) (list_any (is_of j) xs) (length xs) (any_of_one_kind k j xs (All-tail (IsOfKind k) x xs h))

pub none_more : {X : Type 0} (p : X → Bool) (xs : List X) (i : ℕ) (x : X) → i < length xs → x ≡ get_or xs i x → list_any p (take i xs) ≡ false → p x ≡ false → list_any p (take (i + 1) xs) ≡ false
none_more p xs i x h is before e = list_any_more p xs i x h ∙ ap (λ b. b || p (get_or xs i x)) before ∙ sym (ap p is) ∙ e

pub one_found : {X : Type 0} (p : X → Bool) (xs : List X) (i : ℕ) (x : X) → i < length xs → x ≡ get_or xs i x → p x ≡ true → list_any p xs ≡ true
one_found p xs i x h is e = list_any_at p xs i x h (sym (ap p is) ∙ e)

pub inside_none : (s : List ℕ) → AreInside s []
inside_none [] = tt
inside_none (n ∷ s) = tt

-- places, noun by noun
pub length-places : (s : List ℕ) (nouns : List Array) → length nouns ≤ length s → length (places_in s nouns) ≡ length nouns
length-places [] [] h = refl
length-places (n ∷ s) [] h = refl
length-places [] (a ∷ nouns) h = absurd (omega arith)
length-places (n ∷ s) (a ∷ nouns) h = let rest = length-places s nouns (omega arith) in omega arith

pub places_at : (s : List ℕ) (nouns : List Array) (i : ℕ) (a : Array) (r : Result (List ℕ) Fault) → length nouns ≤ length s → i < length nouns → a ≡ get_or nouns i a →
    get_or (places_in s nouns) i r ≡ and_then (whole_numbers a.atoms) (indices_in (get_or s i 0))
places_at [] nouns i a r few h is = absurd (omega arith)
places_at (n ∷ s) [] i a r few h is = absurd (omega arith)
places_at (n ∷ s) (b ∷ nouns) zero a r few h is = ap (λ (w : Array). and_then (whole_numbers w.atoms) (indices_in n)) (sym is)
places_at (n ∷ s) (b ∷ nouns) (suc i) a r few h is = let within : i < length nouns = omega arith in let fewer : length nouns ≤ length s = omega arith in places_at s nouns i a r fewer within is

-- the first i results are these values
pub results_more : {C : Type 0} (rs : List (Result C Fault)) (i : ℕ) (r : Result C Fault) (v : C) (vs new : List C) → i < length rs → get_or rs i r ≡ Ok v → new ≡ vs ++ v ∷ [] → take i rs ≡ oks vs → take (i + 1) rs ≡ oks new
results_more {C = C} rs i r v vs new h e more before =
    let ok : C → Result C Fault = λ w. Ok w in
    take_more rs i r h ∙ ap (λ q. take i rs ++ q ∷ []) e ∙ ap (λ q. q ++ ok v ∷ []) before ∙ sym (map-append ok vs (v ∷ [])) ∙ ap oks (sym more)

pub results_all : {C : Type 0} (rs : List (Result C Fault)) (i : ℕ) (vs : List C) → length rs ≤ i → take i rs ≡ oks vs → in_order rs ≡ Ok vs
results_all rs i vs h before = ap in_order (sym (take_all i rs h) ∙ before) ∙ all_in_order vs

pub results_fault : {C : Type 0} (rs : List (Result C Fault)) (i : ℕ) (r : Result C Fault) (e : Fault) (vs : List C) → i < length rs → get_or rs i r ≡ Err e → take i rs ≡ oks vs → in_order rs ≡ Err e
results_fault rs i r e vs h fault before =
    ap in_order (sym (take-append-drop i rs) ∙ ap (λ q. take i rs ++ q) (drop_more rs i r h) ∙ ap (λ q. take i rs ++ q ∷ drop (i + 1) rs) fault ∙ ap (λ q. q ++ Err e ∷ drop (i + 1) rs) before)
    ∙ stops_in_order vs e (drop (i + 1) rs)

-- shapes joined
pub joined_more : (nouns : List Array) (i : ℕ) (a : Array) (old axes new : List ℕ) → i < length nouns → a ≡ get_or nouns i a → axes ≡ a.shape → old ≡ flat_map (λ b. b.shape) (take i nouns) → new ≡ old ++ axes →
    new ≡ flat_map (λ b. b.shape) (take (i + 1) nouns)
joined_more nouns i a old axes new h is e before more =
    more ∙ ap (λ r. old ++ r) e ∙ ap (λ r. r ++ a.shape) before ∙ ap (λ r. flat_map (λ b. b.shape) (take i nouns) ++ r) (sym (append-nil a.shape))
    ∙ ap (λ (w : Array). flat_map (λ b. b.shape) (take i nouns) ++ (w.shape ++ [])) is
    ∙ sym (flat_map-append (λ (b : Array). b.shape) (take i nouns) (get_or nouns i a ∷ [])) ∙ ap (flat_map (λ (b : Array). b.shape)) (sym (take_more nouns i a h))

joined_part : (nouns : List Array) (i : ℕ) → length (flat_map (λ (b : Array). b.shape) (take i nouns)) ≤ length (flat_map (λ (b : Array). b.shape) nouns)
joined_part nouns i =
    omega (
      arith,
      ap length (flat_map-append (λ (b : Array). b.shape) (take i nouns) (drop i nouns)),
      ap (λ (ns : List Array). length (flat_map (λ (b : Array). b.shape) ns)) (take-append-drop i nouns),
      length-append (flat_map (λ (b : Array). b.shape) (take i nouns)) (flat_map (λ (b : Array). b.shape) (drop i nouns)),
    )

pub joined_long : (nouns : List Array) (i : ℕ) (a : Array) (old axes : List ℕ) → i < length nouns → a ≡ get_or nouns i a → axes ≡ a.shape → old ≡ flat_map (λ b. b.shape) (take i nouns) → 32 < length old + length axes →
    32 < length (flat_map (λ (b : Array). b.shape) nouns)
joined_long nouns i a old axes h is e before long =
    omega (arith, joined_part nouns (i + 1), ap length (joined_more nouns i a old axes (old ++ axes) h is e before refl), length-append old axes)

pub stopped : {C V W : Type 0} (f : V → List C) (g : W → C) (rs : List (Result C Fault)) (i : ℕ) (r said : Result C Fault) (vs : List C) (e : Refusal) → i < length rs → get_or rs i r ≡ said → take i rs ≡ oks vs →
    OrWantingAs {B = W} g said (Err e) → OrWantingAs {B = V} f (in_order rs) (Err e)
stopped f g rs i r said vs NoMemory h is before wanting = tt
stopped f g rs i r said vs (RefusedFault x) h is before fault = results_fault rs i r x vs h (is ∙ fault) before

-- places within, of one more noun
pub inside_push : (s : List ℕ) (taken : List (List ℕ)) (ks : List ℕ) (i : ℕ) → length taken ≡ i → i < length s → AreInside s taken → All (λ k. k < get_or s i 0) ks → AreInside s (taken ++ ks ∷ [])
inside_push [] taken ks i e h inside within = absurd (omega arith)
inside_push (n ∷ s) [] ks zero e h inside within = (within, inside_none s)
inside_push (n ∷ s) [] ks (suc i) e h inside within = absurd (omega arith)
inside_push (n ∷ s) (js ∷ taken) ks zero e h inside within = absurd (omega arith)
inside_push (n ∷ s) (js ∷ taken) ks (suc i) e h inside within =
    let same : length taken ≡ i = omega arith in
    let fewer : i < length s = omega arith in
    (inside.0, inside_push s taken ks i same fewer inside.1 within)

pub sizes_more : (nouns : List Array) (i : ℕ) (a : Array) (sizes : List ℕ) (size : ℕ) → i < length nouns → a ≡ get_or nouns i a → size ≡ product a.shape → sizes ≡ map (λ (b : Array). product b.shape) (take i nouns) →
    sizes ++ size ∷ [] ≡ map (λ (b : Array). product b.shape) (take (i + 1) nouns)
sizes_more nouns i a sizes size h is e before =
    let product_of : Array → ℕ = λ b. product b.shape in
    ap (λ r. r ++ size ∷ []) before ∙ ap (λ n. map product_of (take i nouns) ++ n ∷ []) (e ∙ ap product_of is) ∙ sym (map-append product_of (take i nouns) (get_or nouns i a ∷ []))
    ∙ ap (map product_of) (sym (take_more nouns i a h))
