-- Binary digits, as the code finds them.
use Rattle.std.proofs.Common.{◌≡◌, ◌<◌, ◌≤◌, ◌+◌, ◌-◌, ◌*◌, ◌++◌, ℕ, ℤ, pos, negsuc, List, [], ◌∷◌, length, map, drop, reverse, get_or, replicate, refl, sym, ap, ◌∙◌, arith, append_assoc, Err}
use Prim.Native.Nat.{zero, suc}
use Rattle.std.specs.List.{All, flat_map}
use Rattle.std.specs.Int.{int_rem_euclid, int_div_euclid}
use Rattle.std.proofs.lemmas.Int.{ints}
use Rattle.std.proofs.lemmas.List.{drop_more, reverse-append, reverse-reverse, length-reverse, length-map, length-append, length-replicate, map-append, append-nil}
use Rattle.std.proofs.lemmas.List.Elements.{All-append, All-cons, All-nil}
use Rattle.std.proofs.Math.Nat.{zero-mul}
use Rattle.std.proofs.lemmas.Grind.{replicate_next}
use Rattle.j_definitions.specs.Array.{Array, Atom, number, product, IsNoun}
use Rattle.j_definitions.proofs.Limits.{limited-Err, many_beyond}
use Rattle.j_definitions.specs.declared.Fault.TheVariants.{Limit}
use Rattle.j_definitions.specs.declared.Kind.TheVariants.{Number}
use Rattle.j_rank.proofs.Products.{product_append}
use Rattle.j_kernels.specs.Scalars.{residue}
use Rattle.j_insert.specs.Digits.{left_by, digits_from_last, digits_backward, numbers, most_digits, binary, binaries}

-- by 2
pub residue_two : (r : ℤ) → residue (pos 2) r ≡ int_rem_euclid r (pos 2)
residue_two (pos a) = omega (arith, ints)
residue_two (negsuc a) = omega (arith, ints)

replicate_more : (d k : ℕ) (z : ℤ) → k < d → replicate (d - k) z ≡ z ∷ replicate (d - (k + 1)) z
replicate_more d k z h = let e : d - k ≡ suc (d - (k + 1)) = omega arith in ap (λ (m : ℕ). replicate m z) e

-- one more digit of z, of which d in all
pub bit_more : (old out : List ℕ) (d k b : ℕ) (r s z : ℤ) → k < d → pos b ≡ residue (pos 2) r → s ≡ int_div_euclid r (pos 2) →
    map pos out ++ digits_from_last (replicate (d - k) (pos 2)) r ≡ map pos old ++ digits_from_last (replicate d (pos 2)) z →
    map pos (out ++ b ∷ []) ++ digits_from_last (replicate (d - (k + 1)) (pos 2)) s ≡ map pos old ++ digits_from_last (replicate d (pos 2)) z
bit_more old out d k b r s z h eb es e =
    let more : digits_from_last (replicate (d - k) (pos 2)) r ≡ residue (pos 2) r ∷ digits_from_last (replicate (d - (k + 1)) (pos 2)) (left_by (pos 2) r) =
    ap (λ (ws : List ℤ). digits_from_last ws r) (replicate_more d k (pos 2) h) in
    ap (λ (ws : List ℤ). ws ++ digits_from_last (replicate (d - (k + 1)) (pos 2)) s) (map-append pos out (b ∷ []))
    ∙ append_assoc (map pos out) (pos b ∷ []) (digits_from_last (replicate (d - (k + 1)) (pos 2)) s)
    ∙ ap (λ (w : ℤ). map pos out ++ (w ∷ digits_from_last (replicate (d - (k + 1)) (pos 2)) s)) eb
    ∙ ap (λ (w : ℤ). map pos out ++ (residue (pos 2) r ∷ digits_from_last (replicate (d - (k + 1)) (pos 2)) w)) es
    ∙ sym (ap (λ (ws : List ℤ). map pos out ++ ws) more) ∙ e

pub bits_end : (old out : List ℕ) (d k : ℕ) (r z : ℤ) → d ≤ k → map pos out ++ digits_from_last (replicate (d - k) (pos 2)) r ≡ map pos old ++ digits_from_last (replicate d (pos 2)) z →
    map pos out ≡ map pos old ++ digits_from_last (replicate d (pos 2)) z
bits_end old out d k r z h e =
    let none : d - k ≡ 0 = omega arith in
    sym (ap (λ (m : ℕ). map pos out ++ digits_from_last (replicate m (pos 2)) r) none ∙ append-nil (map pos out)) ∙ e

-- the digits of all numbers from the last number
reverse_replicate : (n : ℕ) (z : ℤ) → reverse (replicate n z) ≡ replicate n z
reverse_replicate zero z = refl
reverse_replicate (suc n) z =
    let e : suc n ≡ n + 1 = omega arith in
    ap (λ (m : ℕ). reverse (replicate m z)) e ∙ ap reverse (replicate_next n z) ∙ reverse-append (replicate n z) (z ∷ []) ∙ ap (λ (ws : List ℤ). z ∷ ws) (reverse_replicate n z)

binary_backward : (d : ℕ) (z : ℤ) → reverse (binary d z) ≡ digits_from_last (replicate d (pos 2)) z
binary_backward d z = reverse-reverse (digits_backward (replicate d (pos 2)) z) ∙ ap (λ (ws : List ℤ). digits_from_last ws z) (reverse_replicate d (pos 2))

pub number_more : (xs : List ℤ) (out new : List ℕ) (d n k : ℕ) (x : ℤ) → length xs ≡ n → k < n → x ≡ get_or xs (n - 1 - k) (pos 0) →
    map pos out ≡ reverse (flat_map (binary d) (drop (n - k) xs)) → map pos new ≡ map pos out ++ digits_from_last (replicate d (pos 2)) x →
    map pos new ≡ reverse (flat_map (binary d) (drop (n - (k + 1)) xs))
number_more xs out new d n k x m h is e added =
    let place : n - (k + 1) ≡ n - 1 - k = omega arith in
    let next : n - 1 - k + 1 ≡ n - k = omega arith in
    let within : n - 1 - k < length xs = omega arith in
    let list : drop (n - (k + 1)) xs ≡ x ∷ drop (n - k) xs =
    ap (λ (j : ℕ). drop j xs) place ∙ drop_more xs (n - 1 - k) (pos 0) within ∙ ap (λ (w : ℤ). w ∷ drop (n - 1 - k + 1) xs) (sym is) ∙ ap (λ (j : ℕ). x ∷ drop j xs) next in
    added ∙ ap (λ (ws : List ℤ). ws ++ digits_from_last (replicate d (pos 2)) x) e
    ∙ ap (λ (ws : List ℤ). reverse (flat_map (binary d) (drop (n - k) xs)) ++ ws) (sym (binary_backward d x))
    ∙ sym (reverse-append (binary d x) (flat_map (binary d) (drop (n - k) xs)))
    ∙ ap (λ (ws : List ℤ). reverse (flat_map (binary d) ws)) (sym list)

map_reverse : (bs : List ℕ) → map pos (reverse bs) ≡ reverse (map pos bs)
map_reverse [] = refl
map_reverse (b ∷ bs) = ap (map pos) (reverse-append (b ∷ []) bs) ∙ map-append pos (reverse bs) (b ∷ []) ∙ ap (λ (ws : List ℤ). ws ++ pos b ∷ []) (map_reverse bs) ∙ sym (reverse-append (pos b ∷ []) (map pos bs))

pub all_backward : (xs : List ℤ) (out new : List ℕ) (d n k : ℕ) → n ≤ k → map pos out ≡ reverse (flat_map (binary d) (drop (n - k) xs)) → new ≡ reverse out → map pos new ≡ flat_map (binary d) xs
all_backward xs out new d n k h e is =
    let none : n - k ≡ 0 = omega arith in
    ap (map pos) is ∙ map_reverse out ∙ ap reverse e ∙ ap (λ (j : ℕ). reverse (reverse (flat_map (binary d) (drop j xs)))) none ∙ reverse-reverse (flat_map (binary d) xs)

-- how many digits there are
length-digits : (xs : List ℤ) (r : ℤ) → length (digits_from_last xs r) ≡ length xs
length-digits [] r = refl
length-digits (x ∷ xs) r = ap suc (length-digits xs (left_by x r))

length-binary : (d : ℕ) (z : ℤ) → length (binary d z) ≡ d
length-binary d z =
    length-reverse (digits_backward (replicate d (pos 2)) z) ∙ length-digits (reverse (replicate d (pos 2))) z ∙ length-reverse (replicate d (pos 2)) ∙ length-replicate d (pos 2)

length-binaries : (d : ℕ) (zs : List ℤ) → length (flat_map (binary d) zs) ≡ length zs * d
length-binaries d [] = omega arith
length-binaries d (z ∷ zs) = omega (arith, length-append (binary d z) (flat_map (binary d) zs), length-binary d z, length-binaries d zs)

frame_size : (s : List ℕ) (d : ℕ) → product (s ++ d ∷ []) ≡ product s * d
frame_size s d = omega (arith, product_append s (d ∷ []))

pub digits_many : (zs : List ℤ) (s : List ℕ) (d : ℕ) → length zs ≡ product s → length (map number (flat_map (binary d) zs)) ≡ product (s ++ d ∷ [])
digits_many zs s d m = length-map (flat_map (binary d) zs) number ∙ length-binaries d zs ∙ ap (λ (n : ℕ). n * d) m ∙ sym (frame_size s d)

-- what is beyond the limits
pub axes_beyond : (zs : List ℤ) (s : List ℕ) → 32 < length s + 1 → binaries s zs ≡ Err Limit
axes_beyond zs s h = limited-Err (numbers (s ++ most_digits zs ∷ []) (flat_map (binary (most_digits zs)) zs)) (λ w. let r : length (s ++ most_digits zs ∷ []) ≤ 32 = w.rank in omega (arith, length-append s (most_digits zs ∷ [])))

pub size_beyond : (zs : List ℤ) (s shape : List ℕ) → length zs ≡ product s → shape ≡ s ++ most_digits zs ∷ [] → 4194304 < product shape → binaries s zs ≡ Err Limit
size_beyond zs s shape m e h = many_beyond (numbers (s ++ most_digits zs ∷ []) (flat_map (binary (most_digits zs)) zs)) (omega (arith, digits_many zs s (most_digits zs) m, ap product e))

-- bits as numbers
as_numbers : (bits : List ℕ) → map (λ b. number (pos b)) bits ≡ map number (map pos bits)
as_numbers [] = refl
as_numbers (b ∷ bits) = ap (λ (xs : List Atom). number (pos b) ∷ xs) (as_numbers bits)

pub bits_many : (zs : List ℤ) (s shape bits : List ℕ) (d : ℕ) → length zs ≡ product s → map pos bits ≡ flat_map (binary d) zs → shape ≡ s ++ d ∷ [] → length (map (λ b. number (pos b)) bits) ≡ product shape
bits_many zs s shape bits d m e es = ap length (as_numbers bits ∙ ap (map number) e) ∙ digits_many zs s d m ∙ sym (ap product es)

pub frame_made : (zs : List ℤ) (s shape bits : List ℕ) (d : ℕ) → d ≡ most_digits zs → map pos bits ≡ flat_map (binary d) zs → shape ≡ s ++ d ∷ [] →
    (let made : Array = record { kind = Number; shape = shape; atoms = map (λ b. number (pos b)) bits } in made) ≡ numbers (s ++ most_digits zs ∷ []) (flat_map (binary (most_digits zs)) zs)
frame_made zs s shape bits d ed e es =
    ap (λ (xs : List Atom). let made : Array = record { kind = Number; shape = shape; atoms = xs } in made) (as_numbers bits ∙ ap (map number) e)
    ∙ ap (λ (t : List ℕ). numbers t (flat_map (binary d) zs)) es
    ∙ ap (λ (m : ℕ). numbers (s ++ m ∷ []) (flat_map (binary m) zs)) ed

-- no atoms
pub none_many : (y : Array) (shape t bits : List ℕ) → IsNoun y → length y.atoms ≡ 0 → shape ≡ y.shape ++ t → bits ≡ [] → length (map (λ b. number (pos b)) bits) ≡ product shape
none_many y shape t bits noun none es eb =
    let size : product shape ≡ product y.shape * product t = ap product es ∙ product_append y.shape t in
    let zero_size : product y.shape ≡ 0 = sym noun.as_many ∙ none in
    ap (λ (bs : List ℕ). length (map (λ b. number (pos b)) bs)) eb ∙ sym (size ∙ ap (λ (m : ℕ). m * product t) zero_size ∙ zero-mul (product t))

pub bits_push : (out : List ℕ) (b : ℕ) → b < 2 → All (λ b. b < 2) out → All (λ b. b < 2) (out ++ b ∷ [])
bits_push out b h all = All-append (λ b. b < 2) out (b ∷ []) all (All-cons (λ b. b < 2) b [] h (All-nil (λ b. b < 2)))
