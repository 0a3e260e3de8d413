-- Frames, and the nouns that are made of results.
use Rattle.std.proofs.Common.{◌≡◌, ◌<◌, ◌*◌, ◌/◌, ℕ, ℤ, List, [], ◌∷◌, length, map, drop, arith, refl, sym, ap, ◌∙◌, subst, Result, Ok, Err, IfOk, IfErr, Bool, true, false, ◌&&◌, nat_eq, pos, mul_assoc}
use Prim.Native.Nat.{zero, suc}
use Rattle.std.specs.List.{range_with_len, All}
use Rattle.std.proofs.lemmas.List.Elements.{All-head, All-tail}
use Rattle.std.proofs.lemmas.List.{length-map, get_or-map}
use Rattle.std.proofs.lemmas.List.FromFn.{length-map-range_with_len, fill_by_all}
use Rattle.std.proofs.lemmas.Bool.{eqb-true}
use Rattle.j_definitions.specs.Array.{Array, Atom, number, byte, nested, product, IsWithin, IsNoun, IsOfKind}
use Rattle.j_definitions.proofs.Laws.{length_le-weight}
use Rattle.j_definitions.specs.Cells.{Agreed, in_order, with_first, is_prefix, atom_at}
use Rattle.j_definitions.specs.declared.Fault.{Fault}
use Rattle.j_definitions.specs.declared.Fault.TheVariants.{Domain, Limit}
use Rattle.j_definitions.specs.declared.Kind.{Kind}
use Rattle.j_definitions.specs.declared.Kind.TheVariants.{Number, Character, Boxed}
use Rattle.j_noun.specs.declared.noun.Atoms.{Atoms}
use Rattle.j_noun.specs.declared.noun.Atoms.TheVariants.{Wholes, Bits, Bytes, Boxes}
use Rattle.j_noun.specs.declared.refusal.Refusal.{Refusal}
use Rattle.j_noun.specs.declared.refusal.Refusal.TheVariants.{Fault as RefusedFault, NoMemory}
use Rattle.j_noun.specs.Held.{atoms_kept, kind_kept, array_kept, AreBits}
use Rattle.j_noun.specs.Refused.{IsRefusedBeyond, OrWanting}
use Rattle.j_noun.proofs.Rules.{numbers_weight, bits_weight, numbers_level, bits_level}
use Rattle.j_loops.specs.Results.{outcome, IsFilled}
use Rattle.j_kernels.specs.Scalars.{answers, numbers_of, of_number, of_numbers, scalar_monad, monad_of, monad_on}
use Rattle.j_kernels.specs.declared.scalar.Scalar.{Scalar}
use Rattle.j_kernels.specs.declared.scalar.Scalar.TheVariants.{Plus}

-- as many results as pairs
length_with_first : {C E : Type 0} (z : C) (q : Result (List C) E) (n : ℕ) (zs : List C) → ((ws : List C) → q ≡ Ok ws → length ws ≡ n) → with_first z q ≡ Ok zs → length zs ≡ suc n
length_with_first z (Ok ws) n zs h e = let k : length ws ≡ n = h ws refl in let same : (z ∷ ws) ≡ zs = cc in sym (ap length same) ∙ ap suc k
length_with_first z (Err f) n zs h e = cc

length-in_order : {C E : Type 0} (rs : List (Result C E)) (zs : List C) → in_order rs ≡ Ok zs → length zs ≡ length rs
length-in_order [] zs e = let same : [] ≡ zs = cc in sym (ap length same)
length-in_order (Err f ∷ rs) zs e = cc
length-in_order (Ok z ∷ rs) zs e = length_with_first z (in_order rs) (length rs) zs (length-in_order rs) e

pub length-outcome : (f : Atom → Atom → Result Atom Fault) (l r : ℕ) (xs ys : List Atom) (n : ℕ) (zs : List Atom) → outcome f l r xs ys n ≡ Ok zs → length zs ≡ n
length-outcome f l r xs ys n zs e = length-in_order (map (λ k. f (atom_at xs (k / l)) (atom_at ys (k / r))) (range_with_len 0 n)) zs e ∙ length-map-range_with_len (λ k. f (atom_at xs (k / l)) (atom_at ys (k / r))) 0 n

pub filled_many : (f : Atom → Atom → Result Atom Fault) (l r n : ℕ) (xs ys : List Atom) (s : List ℕ) (a : Result Atoms Refusal) → IsFilled (outcome f l r xs ys n) a → n ≡ product s →
    IfOk a (λ v. length (atoms_kept v) ≡ product s)
filled_many f l r n xs ys s (Ok v) is e = length-outcome f l r xs ys n (atoms_kept v) is.0 ∙ e
filled_many f l r n xs ys s (Err e) is h = tt

pub filled_bits : (q : Result (List Atom) Fault) (a : Result Atoms Refusal) → IsFilled q a → IfOk a AreBits
filled_bits q (Ok v) is = is.2
filled_bits q (Err e) is = tt

-- numbers in the shape of a noun
numbers_within : (a : Array) (v : Atoms) → IsNoun a → kind_kept v ≡ Number → length (atoms_kept v) ≡ product a.shape → IsWithin a.shape (atoms_kept v)
numbers_within a (Wholes v) h k e = record {
  rank = h.within.rank;
  axes = h.within.axes;
  light = omega (arith, numbers_weight v.items, length-map v.items number, h.as_many, length_le-weight a.atoms, h.within.light);
  shallow = omega (arith, numbers_level v.items);
}
numbers_within a (Bits v) h k e = record {
  rank = h.within.rank;
  axes = h.within.axes;
  light = omega (arith, bits_weight v.items, length-map v.items (λ b. number (pos b)), h.as_many, length_le-weight a.atoms, h.within.light);
  shallow = omega (arith, bits_level v.items);
}
numbers_within a (Bytes v) h k e = cc
numbers_within a (Boxes v) h k e = cc

make_answers : (q : Result (List Atom) Fault) (s : List ℕ) (a : Atoms) (m : Result Array Refusal) → q ≡ Ok (atoms_kept a) → kind_kept a ≡ Number → IsWithin s (atoms_kept a) →
    IfOk m (λ n. (n ≡ array_kept s a) × IsWithin s (atoms_kept a)) → IfErr m (IsRefusedBeyond (IsWithin s (atoms_kept a))) → OrWanting (numbers_of s q) m
make_answers q s a (Ok b) e k w ok err = rw (e, ok.0, k) refl
make_answers q s a (Err NoMemory) e k w ok err = tt
make_answers q s a (Err (RefusedFault Limit)) e k w ok err = absurd (err w)
make_answers q s a (Err (RefusedFault _)) e k w ok err = absurd err

-- the noun of results in the shape of a
pub made_answers : (a : Array) (q : Result (List Atom) Fault) (s : List ℕ) (v : Atoms) (m : Result Array Refusal) → IsNoun a → s ≡ a.shape → IsFilled q (Ok v) →
    length (atoms_kept v) ≡ product a.shape → IfOk m (λ n. (n ≡ array_kept s v) × IsWithin s (atoms_kept v)) → IfErr m (IsRefusedBeyond (IsWithin s (atoms_kept v))) →
    OrWanting (numbers_of a.shape q) m
made_answers a q s v m h es is many ok err =
    subst (λ (t : List ℕ). OrWanting (numbers_of t q) m) es
    (make_answers q s v m is.0 is.1 (rw es (numbers_within a v h is.1 many)) ok err)

-- what is refused for want of memory or for the first fault
pub refused_answers : (s : List ℕ) (q : Result (List Atom) Fault) (e : Refusal) → IsFilled q (Err e) → OrWanting (numbers_of s q) (Err e)
refused_answers s q NoMemory is = tt
refused_answers s q (RefusedFault f) is = ap (numbers_of s) is

both_true : (a b : Bool) → (a && b) ≡ true → (a ≡ true) × (b ≡ true)
both_true true true h = (refl, refl)
both_true true false h = cc
both_true false b h = cc

-- the product of a prefix and of the rest
product_prefix : (s t : List ℕ) → is_prefix s t ≡ true → product s * product (drop (length s) t) ≡ product t
product_prefix [] t h = omega arith
product_prefix (m ∷ s) [] h = cc
product_prefix (m ∷ s) (n ∷ t) h =
    let both = both_true (nat_eq m n) (is_prefix s t) h in
    let same : m ≡ n = eqb-true m n both.0 in
    let rest = product_prefix s t both.1 in
    rw (same, ← rest) (mul_assoc n (product s) (product (drop (length s) t)))

prefix_many : (x y : Array) → IsNoun x → IsNoun y → is_prefix x.shape y.shape ≡ true → length x.atoms * product (drop (length x.shape) y.shape) ≡ length y.atoms
prefix_many x y nx ny h = rw (nx.as_many, ny.as_many) (product_prefix x.shape y.shape h)

-- how many in a row have one atom of x, whose frame is the prefix
pub repeats_fit : (x y : Array) (m n l : ℕ) → m ≡ length x.atoms → n ≡ length y.atoms → IsNoun x → IsNoun y → is_prefix x.shape y.shape ≡ true →
    ((q : ℕ) → m * q ≡ n → (m * l ≡ n) × (0 < n → l ≡ q)) → (length x.atoms * l ≡ n) × (0 < n → l ≡ product (drop (length x.shape) y.shape))
repeats_fit x y m n l em en nx ny h of =
    let it = of (product (drop (length x.shape) y.shape)) (rw (em, en) (prefix_many x y nx ny h)) in
    (rw (← em) it.0, it.1)

map_twice : {A B C : Type 0} (g : B → C) (f : A → B) (xs : List A) → map g (map f xs) ≡ map (λ x. g (f x)) xs
map_twice g f [] = refl
map_twice g f (x ∷ xs) = ap (λ ys. g (f x) ∷ ys) (map_twice g f xs)

same_outcome : (f : Atom → Atom → Result Atom Fault) (l r l' r' : ℕ) (xs ys : List Atom) (n m : ℕ) → n ≡ m → (0 < n → (l ≡ l') × (r ≡ r')) →
    outcome f l' r' xs ys m ≡ outcome f l r xs ys n
same_outcome f l r l' r' xs ys zero m e h = ap (outcome f l' r' xs ys) (sym e)
same_outcome f l r l' r' xs ys (suc n) m e h =
    let s = h (omega arith) in
    ap (λ q. outcome f q r' xs ys m) (sym s.0) ∙ ap (λ q. outcome f l q xs ys m) (sym s.1) ∙ ap (outcome f l r xs ys) (sym e)

-- the pairs of an agreement
answers_outcome : (f : Atom → Atom → Result Atom Fault) (a : Agreed) (xs ys vx vy : List Atom) (l r n : ℕ) → vx ≡ xs → vy ≡ ys → n ≡ product a.frame → (0 < n → (l ≡ a.left) × (r ≡ a.right)) →
    in_order (answers f a xs ys) ≡ outcome f l r vx vy n
answers_outcome f a xs ys vx vy l r n ex ey e h =
    ap in_order (map_twice (λ (p : ℕ × ℕ). f (atom_at xs p.0) (atom_at ys p.1)) (λ k. (k / a.left, k / a.right)) (range_with_len 0 (product a.frame)))
    ∙ same_outcome f l r a.left a.right xs ys n (product a.frame) e h
    ∙ ap (λ q. outcome f l r q ys n) (sym ex) ∙ ap (λ q. outcome f l r vx q n) (sym ey)

pub answers_filled : (f : Atom → Atom → Result Atom Fault) (a : Agreed) (xs ys vx vy : List Atom) (l r n : ℕ) (m : Result Atoms Refusal) → vx ≡ xs → vy ≡ ys → n ≡ product a.frame →
    (0 < n → (l ≡ a.left) × (r ≡ a.right)) → IsFilled (outcome f l r vx vy n) m → IsFilled (in_order (answers f a xs ys)) m
answers_filled f a xs ys vx vy l r n m ex ey e h is = rw (answers_outcome f a xs ys vx vy l r n ex ey e h) is

-- a verb of one number, on each
on_both : (m : ℤ → Result Atom Fault) (a : Atom) → of_number m a ≡ of_numbers (λ _ z. m z) a a
on_both m (number z) = refl
on_both m (byte b) = refl
on_both m (nested k s r) = refl

pub each_outcome : (m : ℤ → Result Atom Fault) (xs : List Atom) → in_order (map (of_number m) xs) ≡ outcome (of_numbers (λ _ z. m z)) 1 1 xs xs (length xs)
each_outcome m xs =
    ap in_order (fill_by_all (λ k. of_numbers (λ _ z. m z) (atom_at xs (k / 1)) (atom_at xs (k / 1))) (map (of_number m) xs) (length xs) (Err Domain) (length-map xs (of_number m))
    (λ k h. get_or-map (of_number m) xs k (number (pos 0)) (Err Domain) h ∙ on_both m (atom_at xs k) ∙ ap (λ j. of_numbers (λ _ z. m z) (atom_at xs j) (atom_at xs j)) (omega arith)))

pub each_filled : (f : Atom → Atom → Result Atom Fault) (v xs : List Atom) (n : ℕ) (m : Result Atoms Refusal) → v ≡ xs → n ≡ length xs →
    IsFilled (outcome f 1 1 v v n) m → IsFilled (outcome f 1 1 xs xs (length xs)) m
each_filled f v xs n m e en is = rw (← en, ← e) is

pub monad_answered : (v : Scalar) (y : Array) (m : Result Array Refusal) → OrWanting (numbers_of y.shape (outcome (of_numbers (λ _ z. monad_on v z)) 1 1 y.atoms y.atoms (length y.atoms))) m →
    OrWanting (scalar_monad (monad_of v) y) m
monad_answered v y m is = subst (λ (q : Result (List Atom) Fault). OrWanting (numbers_of y.shape q) m) (sym (each_outcome (monad_on v) y.atoms)) is

-- numbers that are all given again
with_itself : (z : ℤ) (xs : List Atom) (q : Result (List Atom) Fault) → q ≡ Ok xs → with_first (number z) q ≡ Ok (number z ∷ xs)
with_itself z xs q e = ap (with_first (number z)) e

each_itself : (xs : List Atom) → All (IsOfKind Number) xs → in_order (map (monad_of Plus) xs) ≡ Ok xs
each_itself [] h = refl
each_itself (number z ∷ xs) h = with_itself z xs (in_order (map (monad_of Plus) xs)) (each_itself xs (All-tail (IsOfKind Number) (number z) xs h))
each_itself (byte b ∷ xs) h = absurd (All-head (IsOfKind Number) (byte b) xs h)
each_itself (nested k s r ∷ xs) h = absurd (All-head (IsOfKind Number) (nested k s r) xs h)

numbers_again : (k : Kind) (s : List ℕ) (xs : List Atom) → k ≡ Number → All (IsOfKind k) xs → numbers_of s (in_order (map (monad_of Plus) xs)) ≡ Ok (record { kind = k; shape = s; atoms = xs })
numbers_again Number s xs e h = ap (numbers_of s) (each_itself xs h)
numbers_again Character s xs e h = cc
numbers_again Boxed s xs e h = cc

pub itself_again : (y : Array) → IsNoun y → y.kind ≡ Number → scalar_monad (monad_of Plus) y ≡ Ok y
itself_again y noun e = numbers_again y.kind y.shape y.atoms e noun.of_kind
