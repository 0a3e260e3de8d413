-- The places that numbers take of a list.
use Rattle.std.proofs.Common.{◌≡◌, ◌<◌, ◌≤◌, ◌+◌, ◌*◌, ℕ, ℤ, pos, unsigned_abs, List, [], ◌∷◌, ◌++◌, length, map, take, drop, get_or, arith, refl, sym, ap, ◌∙◌, append-nil, Result, Ok, Err}
use Prim.Native.Nat.{suc}
use Rattle.std.specs.List.{All, range_with_len}
use Rattle.std.proofs.lemmas.List.{drop_more, map_more}
use Rattle.std.proofs.lemmas.List.Elements.{All-head, All-tail}
use Rattle.std.proofs.lemmas.List.FromFn.{length-range_with_len, length-map-range_with_len, get_or-map-range_with_len}
use Rattle.j_definitions.specs.Array.{Array, Atom, number, product, tally, IsNoun}
use Rattle.j_definitions.specs.Limits.{limited}
use Rattle.j_definitions.proofs.Limits.{limited-Ok, noun_few}
use Rattle.j_definitions.proofs.Laws.{unit_weights, no_level}
use Rattle.j_definitions.specs.declared.Kind.{Kind}
use Rattle.j_definitions.specs.declared.Kind.TheVariants.{Number}
use Rattle.j_definitions.specs.declared.Fault.{Fault}
use Rattle.j_noun.specs.declared.refusal.Refusal.{Refusal}
use Rattle.j_noun.specs.declared.refusal.Refusal.TheVariants.{Fault as RefusedFault, NoMemory}
use Rattle.j_noun.specs.Refused.{OrWantingAs}
use Rattle.j_indices.specs.Numbers.{whole_numbers, magnitudes, indices_in, and_then}
use Rattle.j_indices.specs.Selecting.{runs_at, cells_at, items_indexed}
use Rattle.j_indices.specs.Indexing.{from_numbers}
use Rattle.j_select.specs.Amending.{all_places, taken, places_taken}
use Rattle.j_indices.proofs.Indexed.{numbers_some}
use Rattle.j_indices.proofs.Chosen.{map_map}
use Rattle.j_indices.proofs.Readings.{whole_wholes}

one_at : (f : ℕ → Atom) (n k : ℕ) → k < n → take 1 (drop (k * 1) (map f (range_with_len 0 n))) ≡ f k ∷ []
one_at f n k h =
    let xs : List Atom = map f (range_with_len 0 n) in
    let less : k < length xs = omega (arith, length-map-range_with_len f 0 n) in
    let same : k * 1 ≡ k = omega arith in
    ap (λ j. take 1 (drop j xs)) same ∙ ap (take 1) (drop_more xs k (f k) less) ∙ ap (λ w. w ∷ []) (get_or-map-range_with_len f 0 n k k (f k) h (omega arith))

runs_one : (f : ℕ → Atom) (n : ℕ) (ks : List ℕ) → All (λ k. k < n) ks → runs_at 1 (map f (range_with_len 0 n)) ks ≡ map f ks
runs_one f n [] h = refl
runs_one f n (k ∷ ks) h =
    ap (λ r. r ++ runs_at 1 (map f (range_with_len 0 n)) ks) (one_at f n k (All-head (λ j. j < n) k ks h)) ∙ ap (λ r. f k ∷ r) (runs_one f n ks (All-tail (λ j. j < n) k ks h))

abbrev numbered : ℕ → Atom
numbered k = number (pos (suc k))

abbrev found : List ℕ → List ℕ → Array
found t ks = record { kind = Number; shape = t; atoms = map numbered ks }

-- the items at places of a list of places are those places
cells_found : (t s ks : List ℕ) → length s ≤ 1 → All (λ k. k < tally s) ks → cells_at t 1 (all_places s) ks ≡ found t ks
cells_found t [] ks few within =
    ap (λ f. let r : Array = record { kind = Number; shape = f; atoms = runs_at 1 (map numbered (range_with_len 0 1)) ks } in r) (append-nil t) ∙ ap (λ xs. let r : Array = record { kind = Number; shape = t; atoms = xs } in r) (runs_one numbered 1 ks within)
cells_found t (n ∷ []) ks few within =
    let same : n * 1 ≡ n = omega arith in
    ap (λ f. let r : Array = record { kind = Number; shape = f; atoms = runs_at 1 (map numbered (range_with_len 0 (n * 1))) ks } in r) (append-nil t)
    ∙ ap (λ m. let r : Array = record { kind = Number; shape = t; atoms = runs_at 1 (map numbered (range_with_len 0 m)) ks } in r) same
    ∙ ap (λ xs. let r : Array = record { kind = Number; shape = t; atoms = xs } in r) (runs_one numbered n ks within)
cells_found t (n ∷ m ∷ s) ks few within = absurd (omega arith)

found_within : (m : Array) (ks : List ℕ) → IsNoun m → length ks ≡ length m.atoms → length m.atoms ≤ 4194304 → limited (found m.shape ks) ≡ Ok (found m.shape ks)
found_within m ks noun many few =
    limited-Ok (found m.shape ks) (record {
      rank = noun.within.rank;
      axes = noun.within.axes;
      light = omega (arith, unit_weights numbered (λ k. refl) ks);
      shallow = omega (arith, no_level numbered (λ k. refl) ks);
    })

-- the places of a noun are within the limits
pub places_fit : (y : Array) → IsNoun y → limited (all_places y.shape) ≡ Ok (all_places y.shape)
places_fit y noun =
    let ks : List ℕ = range_with_len 0 (product y.shape) in
    let many : length ks ≤ 4194304 = omega (arith, length-range_with_len 0 (product y.shape), noun.as_many, noun_few y noun) in
    limited-Ok (all_places y.shape) (record {
      rank = noun.within.rank;
      axes = noun.within.axes;
      light = omega (arith, unit_weights numbered (λ k. refl) ks);
      shallow = omega (arith, no_level numbered (λ k. refl) ks);
    })

pub never_refused : (a b : Array) (e : Fault) → a ≡ b → limited b ≡ Ok b → limited a ≡ Err e → ⊥
never_refused a b e same fits refused = let h : (let r : Result Array Fault = Ok b in r) ≡ Err e = sym fits ∙ ap limited (sym same) ∙ refused in cc

abbrev read : Array → Result (List ℕ) Fault
read p = and_then (whole_numbers p.atoms) (λ zs. Ok (magnitudes zs))

read_found : (t ks : List ℕ) → read (found t ks) ≡ Ok (map (λ k. suc k) ks)
read_found t ks =
    let whole : ℕ → ℤ = λ k. pos (suc k) in
    ap (λ xs. and_then (whole_numbers xs) (λ zs. let r : Result (List ℕ) Fault = Ok (magnitudes zs) in r)) (sym (map_map number whole ks))
    ∙ ap (λ (w : Result (List ℤ) Fault). and_then w (λ zs. let r : Result (List ℕ) Fault = Ok (magnitudes zs) in r)) (whole_wholes (map whole ks))
    ∙ ap (λ ns. let r : Result (List ℕ) Fault = Ok ns in r) (map_map unsigned_abs whole ks)

-- numbers take items
taken_numbers : (k : Kind) (atoms : List Atom) (t : List ℕ) (y : Array) (zs : List ℤ) → Number ≡ k → whole_numbers atoms ≡ Ok zs → 0 < length atoms → 0 < length zs → taken k atoms t y ≡ items_indexed t zs y
taken_numbers k [] t y zs ek e some more = absurd (omega arith)
taken_numbers k (a ∷ atoms) t y zs ek e some more =
    ap (λ (j : Kind). taken j (a ∷ atoms) t y) (sym ek) ∙ ap (λ (r : Result (List ℤ) Fault). and_then r (λ ws. from_numbers t ws y)) e ∙ numbers_some t zs y more

abbrev by_places : List ℕ → List ℕ → Result (List ℕ) Fault → Result (List ℕ) Fault
by_places t s r = and_then (and_then r (λ ks. limited (cells_at t 1 (all_places s) ks))) read

pub list_places : (m : Array) (s : List ℕ) (zs : List ℤ) → Number ≡ m.kind → whole_numbers m.atoms ≡ Ok zs → 0 < length m.atoms → 0 < length zs → places_taken m s ≡ by_places m.shape s (indices_in (tally s) zs)
list_places m s zs ek e some more = ap (λ (r : Result Array Fault). and_then r read) (taken_numbers m.kind m.atoms m.shape (all_places s) zs ek e some more)

pub list_refused : (m : Array) (s : List ℕ) (zs : List ℤ) (e : Fault) → Number ≡ m.kind → whole_numbers m.atoms ≡ Ok zs → 0 < length m.atoms → 0 < length zs → indices_in (tally s) zs ≡ Err e → places_taken m s ≡ Err e
list_refused m s zs e ek ez some more h = list_places m s zs ek ez some more ∙ ap (by_places m.shape s) h

pub list_taken : (m : Array) (s : List ℕ) (zs : List ℤ) (ks : List ℕ) → Number ≡ m.kind → whole_numbers m.atoms ≡ Ok zs → 0 < length m.atoms → 0 < length zs → indices_in (tally s) zs ≡ Ok ks → IsNoun m → length m.atoms ≤ 4194304 →
    length ks ≡ length m.atoms → length s ≤ 1 → All (λ k. k < tally s) ks → places_taken m s ≡ Ok (map (λ k. suc k) ks)
list_taken m s zs ks ek ez some more h noun few many list within =
    list_places m s zs ek ez some more ∙ ap (by_places m.shape s) h ∙ ap (λ (a : Array). and_then (limited a) read) (cells_found m.shape s ks list within)
    ∙ ap (λ (r : Result Array Fault). and_then r read) (found_within m ks noun many few) ∙ read_found m.shape ks

pub list_stopped : {V W : Type 0} (g : V → List ℕ) (h : W → List ℕ) (m : Array) (s : List ℕ) (zs : List ℤ) (n : ℕ) (e : Refusal) → Number ≡ m.kind → whole_numbers m.atoms ≡ Ok zs → 0 < length m.atoms → 0 < length zs → n ≡ tally s →
    OrWantingAs {B = W} h (indices_in n zs) (Err e) → OrWantingAs {B = V} g (places_taken m s) (Err e)
list_stopped g h m s zs n NoMemory ek ez some more en wanting = tt
list_stopped g h m s zs n (RefusedFault x) ek ez some more en fault = list_refused m s zs x ek ez some more (ap (λ j. indices_in j zs) (sym en) ∙ fault)

pub map_same : (zs : List ℤ) → map (λ (z : ℤ). z) zs ≡ zs
map_same [] = refl
map_same (z ∷ zs) = ap (λ r. z ∷ r) (map_same zs)

-- one more place of those behind
pub next_more : (ks : List ℕ) (i : ℕ) (old new : List ℕ) → i < length ks → old ≡ map (λ k. suc k) (take i ks) → new ≡ old ++ (get_or ks i 0 + 1) ∷ [] → new ≡ map (λ k. suc k) (take (i + 1) ks)
next_more ks i old new h before more =
    let next : get_or ks i 0 + 1 ≡ suc (get_or ks i 0) = omega arith in
    more ∙ ap (λ r. r ++ (get_or ks i 0 + 1) ∷ []) before ∙ ap (λ k. map (λ j. suc j) (take i ks) ++ k ∷ []) next ∙ sym (map_more (λ j. suc j) ks i 0 h)
