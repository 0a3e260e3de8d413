-- Runs at places.
use Rattle.std.proofs.Common.{◌≡◌, ◌<◌, ◌≤◌, ◌+◌, ◌*◌, ◌/◌, ℕ, List, [], ◌∷◌, ◌++◌, length, map, take, drop, get_or, arith, refl, sym, ap, ◌∙◌, append-nil, Err}
use Prim.Native.Nat.{zero, suc}
use Rattle.std.specs.List.{All}
use Rattle.std.proofs.Math.Nat.{mul-div_cancel_left}
use Rattle.std.proofs.lemmas.List.{map-append, length-append, take-map, drop-map, take_more, nil_from_length}
use Rattle.std.proofs.lemmas.List.Concat.{flat_map-append}
use Rattle.std.proofs.lemmas.List.Elements.{All-head, All-tail, All-nil, All-append, All-take, All-drop}
use Rattle.j_definitions.specs.Array.{Array, product, IsNoun}
use Rattle.j_definitions.specs.Limits.{limited}
use Rattle.j_definitions.proofs.Limits.{limited-Err, many_beyond}
use Rattle.j_definitions.specs.declared.Fault.TheVariants.{Limit}
use Rattle.j_rank.proofs.Parts.{run_fits}
use Rattle.j_rank.proofs.Paddings.{part_many}
use Rattle.j_rank.proofs.Products.{product_parts, product_append}
use Rattle.j_indices.specs.Selecting.{runs_at, cells_at}

pub map_runs : {X Y : Type 0} (f : X → Y) (size : ℕ) (xs : List X) (ks : List ℕ) → map f (runs_at size xs ks) ≡ runs_at size (map f xs) ks
map_runs f size xs [] = refl
map_runs f size xs (k ∷ ks) =
    map-append f (take size (drop (k * size) xs)) (runs_at size xs ks)
    ∙ ap (λ r. r ++ map f (runs_at size xs ks)) (sym (ap (take size) (drop-map f (k * size) xs) ∙ take-map f size (drop (k * size) xs)))
    ∙ ap (λ r. take size (drop (k * size) (map f xs)) ++ r) (map_runs f size xs ks)

pub length-runs : {X : Type 0} (size m : ℕ) (xs : List X) (ks : List ℕ) → length xs ≡ m * size → All (λ k. k < m) ks → length (runs_at size xs ks) ≡ length ks * size
length-runs size m xs [] e h = omega arith
length-runs size m xs (k ∷ ks) e h =
    omega (arith, length-append (take size (drop (k * size) xs)) (runs_at size xs ks), part_many xs m size k e (All-head (λ j. j < m) k ks h), length-runs size m xs ks e (All-tail (λ j. j < m) k ks h))

pub bits_of_runs : (size : ℕ) (bs : List ℕ) (ks : List ℕ) → All (λ b. b < 2) bs → All (λ b. b < 2) (runs_at size bs ks)
bits_of_runs size bs [] h = All-nil (λ b. b < 2)
bits_of_runs size bs (k ∷ ks) h =
    All-append (λ b. b < 2) (take size (drop (k * size) bs)) (runs_at size bs ks) (All-take (λ b. b < 2) size (drop (k * size) bs) (All-drop (λ b. b < 2) (k * size) bs h)) (bits_of_runs size bs ks h)

-- one more run
pub runs_more : {X : Type 0} (size : ℕ) (xs run old new : List X) (ks : List ℕ) (i : ℕ) → i < length ks → run ≡ take size (drop (get_or ks i 0 * size) xs) → old ≡ runs_at size xs (take i ks) → new ≡ old ++ run →
    new ≡ runs_at size xs (take (i + 1) ks)
runs_more size xs run old new ks i h is before more =
    let k = get_or ks i 0 in
    more ∙ ap (λ r. r ++ run) before ∙ ap (λ r. runs_at size xs (take i ks) ++ r) (is ∙ sym (append-nil (take size (drop (k * size) xs))))
    ∙ sym (flat_map-append (λ j. take size (drop (j * size) xs)) (take i ks) (k ∷ [])) ∙ ap (runs_at size xs) (sym (take_more ks i 0 h))

-- places are within as many elements as there are
pub all_fit : (s : List ℕ) (n size len : ℕ) (ks : List ℕ) → size ≡ product (drop n s) → len ≡ product s → All (λ k. k < product (take n s)) ks → All (λ k. (k + 1) * size ≤ len) ks
all_fit s n size len ks e many within = λ k d h. run_fits s n (get_or ks k d) size len (within k d h) e many

-- the size of a run
pub run_size : (total m size : ℕ) → total ≡ m * size → 0 < total → total / m ≡ size
run_size total zero size e some = absurd (omega arith)
run_size total (suc m) size e some = let positive : 0 < suc m = omega arith in ap (λ n. n / suc m) e ∙ mul-div_cancel_left size positive

pub some_places : (total m size : ℕ) → total ≡ m * size → 0 < total → 0 < m
some_places total zero size e some = absurd (omega arith)
some_places total (suc m) size e some = omega arith

pub cell_atoms : (y : Array) (n : ℕ) (ks : List ℕ) → IsNoun y → All (λ k. k < product (take n y.shape)) ks → length (runs_at (product (drop n y.shape)) y.atoms ks) ≡ length ks * product (drop n y.shape)
cell_atoms y n ks noun within = length-runs (product (drop n y.shape)) (product (take n y.shape)) y.atoms ks (noun.as_many ∙ sym (product_parts y.shape n)) within

pub no_runs : (y : Array) (n total : ℕ) (ks : List ℕ) → IsNoun y → All (λ k. k < product (take n y.shape)) ks → total ≡ length ks * product (drop n y.shape) → total ≡ 0 →
    runs_at (product (drop n y.shape)) y.atoms ks ≡ []
no_runs y n total ks noun within e none = nil_from_length (runs_at (product (drop n y.shape)) y.atoms ks) (cell_atoms y n ks noun within ∙ sym e ∙ none)

pub cells_many : (frame : List ℕ) (n : ℕ) (y : Array) (ks : List ℕ) → IsNoun y → product frame ≡ length ks → All (λ k. k < product (take n y.shape)) ks →
    length (cells_at frame n y ks).atoms ≡ product (frame ++ drop n y.shape)
cells_many frame n y ks noun e within = cell_atoms y n ks noun within ∙ ap (λ m. m * product (drop n y.shape)) (sym e) ∙ sym (product_append frame (drop n y.shape))

pub cells_long : (frame : List ℕ) (n : ℕ) (y : Array) (ks : List ℕ) → 32 < length frame + length (drop n y.shape) → limited (cells_at frame n y ks) ≡ Err Limit
cells_long frame n y ks long = limited-Err (cells_at frame n y ks) (λ w. omega (arith, w.rank, length-append frame (drop n y.shape)))

pub cells_beyond : (frame : List ℕ) (n : ℕ) (y : Array) (ks : List ℕ) (s : List ℕ) → IsNoun y → product frame ≡ length ks → All (λ k. k < product (take n y.shape)) ks → s ≡ frame ++ drop n y.shape → 4194304 < product s →
    limited (cells_at frame n y ks) ≡ Err Limit
cells_beyond frame n y ks s noun e within shape many = many_beyond (cells_at frame n y ks) (omega (arith, cells_many frame n y ks noun e within, ap product shape))
