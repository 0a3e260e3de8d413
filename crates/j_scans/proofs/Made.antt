-- Nouns of items that are made.
use Rattle.std.proofs.Common.{◌≡◌, ◌<◌, ◌≤◌, ◌+◌, ◌-◌, ◌*◌, ℕ, List, [], ◌∷◌, ◌++◌, length, map, drop, get_or, arith, refl, sym, ap, ◌∙◌, mul-one}
use Rattle.std.specs.List.{All, flat_map}
use Rattle.std.proofs.lemmas.List.{length-append, length-map, get_or-map}
use Rattle.std.proofs.lemmas.List.FromFn.{length-range_with_len}
use Rattle.std.proofs.lemmas.List.Elements.{All-head, All-append}
use Rattle.j_definitions.specs.Array.{Array, Atom, byte, tally, product, IsNoun}
use Rattle.j_definitions.specs.Items.{item, item_size}
use Rattle.j_definitions.specs.declared.Kind.{Kind}
use Rattle.j_definitions.specs.declared.Kind.TheVariants.{Character}
use Rattle.j_noun.specs.declared.noun.Atoms.{Atoms}
use Rattle.j_noun.specs.Held.{AreAtoms, array_kept, atoms_kept, kind_kept}
use Rattle.j_scans.specs.declared.copying.Span.{Span}
use Rattle.j_scans.specs.Pieced.{items_at, parts_at}
use Rattle.j_scans.specs.Spans.{places_in, IsSpan}
use Rattle.j_scans.proofs.Parts.{parts_many, map-parts_at}
use Rattle.j_scans.proofs.Ranges.{All-range}

abbrev array_of : Kind → List ℕ → List Atom → Array
array_of k s xs = record { kind = k; shape = s; atoms = xs }

tally_of_axes : (s : List ℕ) → All (λ n. n ≤ 4194304) s → tally s ≤ 4194304
tally_of_axes [] h = omega arith
tally_of_axes (n ∷ s) h = All-head (λ n. n ≤ 4194304) n s h

-- no axis of a noun is long
pub tally_few : (y : Array) → IsNoun y → tally y.shape ≤ 4194304
tally_few y noun = tally_of_axes y.shape noun.within.axes

-- items at places are the parts at these places
same_parts : (y : Array) (ks : List ℕ) (size : ℕ) → All (λ k. k < tally y.shape) ks → (0 < tally y.shape → size ≡ item_size y.shape) → parts_at size y.atoms ks ≡ flat_map (item y) ks
same_parts y [] size h e = refl
same_parts y (k ∷ ks) size h e =
    let inside : k < tally y.shape = All-head (λ j. j < tally y.shape) k ks h in
    ap (λ n. parts_at n y.atoms (k ∷ ks)) (e (omega arith))

-- a noun that was made of the parts at some places is the items at these places
pub piece_made : (t : Atoms) (shape own : List ℕ) (k : Kind) (y : Array) (xs : List Atom) (ks : List ℕ) (count size : ℕ) → AreAtoms t k (parts_at size xs ks) → k ≡ y.kind → xs ≡ y.atoms → All (λ j. j < tally y.shape) ks →
    (0 < tally y.shape → size ≡ item_size y.shape) → length ks ≡ count → shape ≡ count ∷ own → own ≡ drop 1 y.shape → array_kept shape t ≡ items_at y ks
piece_made t shape own k y xs ks count size are kind is inside e many s o =
    let kinds : kind_kept t ≡ y.kind = are.kind ∙ kind in
    let axes : shape ≡ length ks ∷ drop 1 y.shape = s ∙ ap (λ ns. count ∷ ns) o ∙ ap (λ n. n ∷ drop 1 y.shape) (sym many) in
    let all : atoms_kept t ≡ flat_map (item y) ks = are.atoms ∙ ap (λ ys. parts_at size ys ks) is ∙ same_parts y ks size inside e in
    ap (λ j. let it : Array = record { kind = j; shape = shape; atoms = atoms_kept t } in it) kinds
    ∙ ap (λ r. let it : Array = record { kind = y.kind; shape = r; atoms = atoms_kept t } in it) axes
    ∙ ap (λ ys. let it : Array = record { kind = y.kind; shape = length ks ∷ drop 1 y.shape; atoms = ys } in it) all

times_same : (ks : List ℕ) (t size own : ℕ) → All (λ k. k < t) ks → (0 < t → size ≡ own) → length ks * size ≡ length ks * own
times_same [] t size own h e = omega arith
times_same (k ∷ ks) t size own h e = let inside : k < t = All-head (λ j. j < t) k ks h in ap (λ n. length (k ∷ ks) * n) (e (omega arith))

-- its atoms are as many as its shape says
pub piece_many : (y : Array) (xs : List Atom) (shape own : List ℕ) (ks : List ℕ) (count size : ℕ) → All (λ k. k < tally y.shape) ks → (0 < tally y.shape → size ≡ item_size y.shape) → tally y.shape * size ≡ length y.atoms →
    xs ≡ y.atoms → length ks ≡ count → shape ≡ count ∷ own → own ≡ drop 1 y.shape → length (parts_at size xs ks) ≡ product shape
piece_many y xs shape own ks count size inside e all is many s o =
    parts_many size (tally y.shape) xs ks (all ∙ sym (ap length is)) inside ∙ times_same ks (tally y.shape) size (item_size y.shape) inside e
    ∙ ap (λ n. n * item_size y.shape) many ∙ ap (λ r. count * product r) (sym o) ∙ ap product (sym s)

-- two spans
pub both_inside : (t : ℕ) (a b : Span) → IsSpan t a → IsSpan t b → All (λ k. k < t) (places_in a ++ places_in b)
both_inside t a b f g =
    All-append (λ k. k < t) (places_in a) (places_in b)
    (All-range a.start (a.end - a.start) t (omega (arith, f.ordered, f.inside)))
    (All-range b.start (b.end - b.start) t (omega (arith, g.ordered, g.inside)))

pub both_many : (a b : Span) → length (places_in a ++ places_in b) ≡ (a.end - a.start) + (b.end - b.start)
both_many a b = omega (arith, length-append (places_in a) (places_in b), length-range_with_len a.start (a.end - a.start), length-range_with_len b.start (b.end - b.start))

-- a shape of one axis
one_axis : (s : List ℕ) → 1 ≤ length s → length s < 2 → s ≡ tally s ∷ []
one_axis [] a b = absurd (omega arith)
one_axis (n ∷ []) a b = refl
one_axis (n ∷ m ∷ s) a b = absurd (omega arith)

-- the characters of a list at some places
pub short_made : (y : Array) (all bytes : List ℕ) (ks : List ℕ) → IsNoun y → 1 ≤ length y.shape → length y.shape < 2 → Character ≡ y.kind → map byte all ≡ y.atoms → bytes ≡ parts_at 1 all ks → All (λ k. k < tally y.shape) ks →
    array_of Character (length bytes ∷ []) (map byte bytes) ≡ items_at y ks
short_made y all bytes ks noun some one kind atoms is inside =
    let axes : y.shape ≡ tally y.shape ∷ [] = one_axis y.shape some one in
    let own : item_size y.shape ≡ 1 = ap item_size axes in
    let many : tally y.shape * 1 ≡ length all = sym (ap product axes) ∙ sym noun.as_many ∙ sym (ap length atoms) ∙ length-map all byte in
    let count : length bytes ≡ length ks = ap length is ∙ parts_many 1 (tally y.shape) all ks many inside ∙ mul-one (length ks) in
    let shape : length bytes ∷ [] ≡ length ks ∷ drop 1 y.shape = ap (λ n. n ∷ []) count ∙ ap (λ s. length ks ∷ drop 1 s) (sym axes) in
    let parts : map byte bytes ≡ flat_map (item y) ks =
    ap (map byte) is ∙ map-parts_at byte 1 all ks ∙ ap (λ xs. parts_at 1 xs ks) atoms ∙ same_parts y ks 1 inside (λ _. sym own) in
    ap (λ k. array_of k (length bytes ∷ []) (map byte bytes)) kind ∙ ap (λ s. array_of y.kind s (map byte bytes)) shape ∙ ap (array_of y.kind (length ks ∷ drop 1 y.shape)) parts

-- piece k of those at some lists of places
pub piece_at : (y : Array) (kss : List (List ℕ)) (k : ℕ) (ks : List ℕ) (d : Array) → k < length (map (items_at y) kss) → get_or kss k [] ≡ ks → get_or (map (items_at y) kss) k d ≡ items_at y ks
piece_at y kss k ks d h e = get_or-map (items_at y) kss k [] d (omega (arith, length-map kss (items_at y))) ∙ ap (items_at y) e
