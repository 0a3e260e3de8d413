-- Places of all choices along axes.
use Rattle.std.proofs.Common.{◌≡◌, ◌<◌, ◌≤◌, ◌+◌, ◌-◌, ◌*◌, ℕ, List, [], ◌∷◌, ◌++◌, length, map, take, drop, get_or, arith, refl, sym, ap, ◌∙◌, subst, add_assoc, append_assoc, append-nil, zero-add}
use Prim.Native.Nat.{zero, suc}
use Rattle.std.specs.List.{All, flat_map}
use Rattle.std.specs.declared.alloc.Global.{Global}
use Rattle.std.specs.declared.vec.Vec.{Vec}
use Rattle.std.proofs.Math.Nat.{mul-le-mul_left, mul_comm}
use Rattle.std.proofs.lemmas.List.{length-map, length-take, length-drop, take_more, take_all, take_rest, drop_more, nil_from_length}
use Rattle.std.proofs.lemmas.List.Concat.{flat_map-append}
use Rattle.std.proofs.lemmas.List.Elements.{All-nil, All-cons, All-append, All-head, All-tail}
use Rattle.j_definitions.specs.Array.{Array, Atom, product, IsNoun}
use Rattle.j_rank.proofs.Products.{product_append, product_parts}
use Rattle.j_rank.specs.Places.{place}
use Rattle.j_indices.specs.Choices.{choices}
use Rattle.j_indices.specs.Selecting.{runs_at}
use Rattle.j_indices.specs.Indexing.{AreInside, places_from}
use Rattle.j_indices.proofs.Chosen.{map_map, map-flat_map, length-choices}
use Rattle.j_indices.proofs.Runs.{cells_many}

pub places_parts : (start n : ℕ) (s ks : List ℕ) (rest : List (List ℕ)) → places_from start (n ∷ s) (ks ∷ rest) ≡ flat_map (λ k. places_from (start + k * product s) s rest) ks
places_parts start n s ks rest =
    let all = choices rest in
    let at : List ℕ → ℕ = λ c. start + place (n ∷ s) c in
    map-flat_map at (λ x. map (λ c. x ∷ c) all) ks ∙ (λ i. flat_map (λ x. map_map at (λ c. x ∷ c) all i) ks)
    ∙ sym (λ i. flat_map (λ x. map (λ c. add_assoc start (x * product s) (place s c) i) all) ks)

pub taken_more : (f : ℕ → List ℕ) (ks : List ℕ) (i : ℕ) (out mid new : List ℕ) → i < length ks → mid ≡ out ++ flat_map f (take i ks) → new ≡ mid ++ f (get_or ks i 0) → new ≡ out ++ flat_map f (take (i + 1) ks)
taken_more f ks i out mid new h before more =
    let piece = f (get_or ks i 0) in
    more ∙ ap (λ r. r ++ piece) before ∙ append_assoc out (flat_map f (take i ks)) piece
    ∙ ap (λ r. out ++ r) (ap (λ r. flat_map f (take i ks) ++ r) (sym (append-nil piece)) ∙ sym (flat_map-append f (take i ks) (get_or ks i 0 ∷ [])) ∙ ap (flat_map f) (sym (take_more ks i 0 h)))

pub taken_all : (start n step i : ℕ) (axes s ks out mid : List ℕ) (taken rest : List (List ℕ)) → axes ≡ n ∷ s → taken ≡ ks ∷ rest → step ≡ product s → length ks ≤ i →
    mid ≡ out ++ flat_map (λ k. places_from (start + k * step) s rest) (take i ks) → mid ≡ out ++ places_from start axes taken
taken_all start n step i axes s ks out mid taken rest ea et es ended before =
    before ∙ ap (λ js. out ++ flat_map (λ k. places_from (start + k * step) s rest) js) (take_all i ks ended) ∙ ap (λ m. out ++ flat_map (λ k. places_from (start + k * m) s rest) ks) es
    ∙ ap (λ r. out ++ r) (sym (places_parts start n s ks rest) ∙ ap (places_from start (n ∷ s)) (sym et) ∙ ap (λ a. places_from start a taken) (sym ea))

pub inside_split : (axes s ks : List ℕ) (n : ℕ) (taken rest : List (List ℕ)) → axes ≡ n ∷ s → taken ≡ ks ∷ rest → AreInside axes taken → All (λ k. k < n) ks × AreInside s rest
inside_split axes s ks n taken rest ea et h = subst (λ (a : List ℕ). AreInside a (ks ∷ rest)) ea (subst (λ (t : List (List ℕ)). AreInside axes t) et h)

pub head_rest : (s : List ℕ) → 1 ≤ length s → s ≡ get_or s 0 0 ∷ take (length s - 1) (drop 1 s)
head_rest s h = drop_more s 0 0 (omega arith) ∙ ap (λ r. get_or s 0 0 ∷ r) (sym (take_rest s 1))

pub start_few : (start size n step k : ℕ) → size ≡ n * step → k < n → start + size ≤ 4194304 → (start + k * step) + step ≤ 4194304
start_few start size n step k e h few = let more : k + 1 ≤ n = omega arith in omega (arith, mul-le-mul_left step more, mul_comm step (k + 1), mul_comm step n)

-- all of these places are within
all_flat_map : {X Y : Type 0} (P : Y → Type 0) (Q : X → Type 0) (f : X → List Y) → ((x : X) → Q x → All P (f x)) → (xs : List X) → All Q xs → All P (flat_map f xs)
all_flat_map P Q f h [] all = All-nil P
all_flat_map P Q f h (x ∷ xs) all = All-append P (f x) (flat_map f xs) (h x (All-head Q x xs all)) (all_flat_map P Q f h xs (All-tail Q x xs all))

pub places_within : (start : ℕ) (s : List ℕ) (taken : List (List ℕ)) → length taken ≡ length s → AreInside s taken → All (λ k. k < start + product s) (places_from start s taken)
places_within start [] [] e h = All-cons (λ k. k < start + 1) (start + 0) [] (omega arith) (All-nil (λ k. k < start + 1))
places_within start (n ∷ s) [] e h = absurd (omega arith)
places_within start [] (ks ∷ rest) e h = absurd h
places_within start (n ∷ s) (ks ∷ rest) e h =
    let same : length rest ≡ length s = omega arith in
    subst (λ (js : List ℕ). All (λ k. k < start + n * product s) js) (sym (places_parts start n s ks rest))
    (all_flat_map (λ k. k < start + n * product s) (λ k. k < n) (λ k. places_from (start + k * product s) s rest)
    (λ k less. λ j d within. let more : k + 1 ≤ n = omega arith in
    omega (arith, places_within (start + k * product s) s rest same h.1 j d within, mul-le-mul_left (product s) more, mul_comm (product s) (k + 1), mul_comm (product s) n)) ks h.0)

pub from_start : (s : List ℕ) (taken : List (List ℕ)) → places_from 0 s taken ≡ map (place s) (choices taken)
from_start s taken = λ i. map (λ c. zero-add (place s c) i) (choices taken)

pub inside_take : (s : List ℕ) (taken : List (List ℕ)) → AreInside s taken → AreInside (take (length taken) s) taken
inside_take [] [] h = tt
inside_take (n ∷ s) [] h = tt
inside_take [] (ks ∷ rest) h = absurd h
inside_take (n ∷ s) (ks ∷ rest) h = (h.0, inside_take s rest h.1)

joined_product : (nouns : List Array) → product (flat_map (λ (a : Array). a.shape) nouns) ≡ product (map (λ (a : Array). product a.shape) nouns)
joined_product [] = refl
joined_product (a ∷ nouns) = product_append a.shape (flat_map (λ (b : Array). b.shape) nouns) ∙ ap (λ p. product a.shape * p) (joined_product nouns)

abbrev pub places : Vec ℕ Global → List ℕ
places w = w.items

-- as many choices as the frame has places
pub choices_many : (nouns : List Array) (taken : List (Vec ℕ Global)) (start : ℕ) (s : List ℕ) → map (λ (w : Vec ℕ Global). length w.items) taken ≡ map (λ (a : Array). product a.shape) nouns →
    product (flat_map (λ (a : Array). a.shape) nouns) ≡ length (places_from start s (map places taken))
choices_many nouns taken start s e =
    joined_product nouns ∙ ap product (sym e ∙ sym (map_map (λ (ks : List ℕ). length ks) places taken)) ∙ sym (length-choices (map places taken))
    ∙ sym (length-map (choices (map places taken)) (λ c. start + place s c))

pub taken_many : (nouns : List Array) (taken : List (Vec ℕ Global)) → map (λ (w : Vec ℕ Global). length w.items) taken ≡ map (λ (a : Array). product a.shape) nouns → length (map places taken) ≡ length nouns
taken_many nouns taken e = length-map taken places ∙ sym (length-map taken (λ (w : Vec ℕ Global). length w.items)) ∙ ap length e ∙ length-map nouns (λ (a : Array). product a.shape)

-- of nothing no run has an element
no_run : (size j : ℕ) → take size (drop j (let none : List Atom = [] in none)) ≡ []
no_run size j = let none : List Atom = [] in nil_from_length (take size (drop j none)) (omega (arith, length-take size (drop j none), length-drop j none))

pub runs_of_nothing : (size : ℕ) (ks : List ℕ) → runs_at size (let none : List Atom = [] in none) ks ≡ []
runs_of_nothing size [] = refl
runs_of_nothing size (k ∷ ks) = ap (λ r. r ++ runs_at size (let none : List Atom = [] in none) ks) (no_run size (k * size)) ∙ runs_of_nothing size ks

pub runs_none : (y : Array) (n : ℕ) (ks : List ℕ) → length y.atoms ≡ 0 → runs_at (product (drop n y.shape)) y.atoms ks ≡ []
runs_none y n ks e = ap (λ (xs : List Atom). runs_at (product (drop n y.shape)) xs ks) (nil_from_length y.atoms e) ∙ runs_of_nothing (product (drop n y.shape)) ks

pub none_framed : (frame : List ℕ) (n : ℕ) (y : Array) (ks : List ℕ) → IsNoun y → length y.atoms ≡ 0 → product frame ≡ length ks → All (λ k. k < product (take n y.shape)) ks → product frame * product (drop n y.shape) ≡ 0
none_framed frame n y ks noun none e within =
    omega (arith, cells_many frame n y ks noun e within, ap length (runs_none y n ks none), product_append frame (drop n y.shape))

factor_limits : (p q n limit : ℕ) → p * q ≡ n → 0 < n → n ≤ limit → (0 < p) × (p ≤ limit) × (0 < q)
factor_limits zero q n limit e some few = absurd (omega arith)
factor_limits (suc p) zero n limit e some few = absurd (omega arith)
factor_limits (suc p) (suc q) n limit e some few = let more : 1 ≤ suc q = omega arith in (omega arith, omega (arith, mul-le-mul_left (suc p) more), omega arith)

pub axes_limits : (y : Array) (n : ℕ) → IsNoun y → 0 < length y.atoms → length y.atoms ≤ 4194304 → (0 < product (take n y.shape)) × (product (take n y.shape) ≤ 4194304) × (0 < product (drop n y.shape))
axes_limits y n noun some few = factor_limits (product (take n y.shape)) (product (drop n y.shape)) (length y.atoms) 4194304 (product_parts y.shape n ∙ sym noun.as_many) some few

place_none : (s : List ℕ) → place s [] ≡ 0
place_none [] = refl
place_none (n ∷ s) = refl

pub none_taken : (start : ℕ) (axes : List ℕ) (taken : List (Vec ℕ Global)) (out new : List ℕ) → length taken < 1 → new ≡ out ++ start ∷ [] → new ≡ out ++ places_from start axes (map places taken)
none_taken start axes [] out new h e =
    let zero_more : start + 0 ≡ start = omega arith in
    e ∙ ap (λ n. out ++ n ∷ []) (sym (ap (λ p. start + p) (place_none axes) ∙ zero_more))
none_taken start axes (t ∷ ts) out new h e = absurd (omega arith)

-- what is known of the places that nouns take
pub record AreChosen (nouns : List Array) (taken : List (Vec ℕ Global)) (y : Array) : Type 0 where
  pub many : product (flat_map (λ (a : Array). a.shape) nouns) ≡ length (places_from 0 (take (length nouns) y.shape) (map places taken))
  pub within : All (λ k. k < product (take (length nouns) y.shape)) (places_from 0 (take (length nouns) y.shape) (map places taken))
  pub inside : AreInside (take (length nouns) y.shape) (map places taken)

pub chosen_known : (nouns : List Array) (taken : List (Vec ℕ Global)) (y : Array) → length nouns ≤ length y.shape →
    map (λ (w : Vec ℕ Global). length w.items) taken ≡ map (λ (a : Array). product a.shape) nouns → AreInside y.shape (map places taken) → AreChosen nouns taken y
chosen_known nouns taken y few e inside =
    let lead : List ℕ = take (length nouns) y.shape in
    let count = taken_many nouns taken e in
    let held : AreInside lead (map places taken) = subst (λ (n : ℕ). AreInside (take n y.shape) (map places taken)) count (inside_take y.shape (map places taken) inside) in
    let same : length (map places taken) ≡ length lead = omega (arith, count, length-take (length nouns) y.shape) in
    record {
      many = choices_many nouns taken 0 lead e;
      within = λ k d h. omega (arith, places_within 0 lead (map places taken) same held k d h);
      inside = held;
    }

pub more_beyond : (p q limit : ℕ) → 0 < q → limit < p → limit < p * q
more_beyond p q limit some many = let one : 1 ≤ q = omega arith in omega (arith, mul-le-mul_left p one)
