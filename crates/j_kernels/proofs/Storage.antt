-- Verbs of numbers, and what is not a number.
use Rattle.std.proofs.Common.{◌≡◌, ◌<◌, ◌+◌, ◌++◌, ◌*◌, ◌/◌, ◌==◌, cond, ℕ, ℤ, pos, List, [], ◌∷◌, length, map, get_or, arith, refl, sym, ap, ◌∙◌, Bool, true, false, Result, Ok, Err, w64, to_z, of_z, FitsSigned}
use Rattle.std.proofs.lemmas.Int.{to_z-of_z}
use Prim.Native.Nat.{zero, suc}
use mir.Val.{bool_byte}
use Rattle.std.proofs.Math.Dec.{eqb-suc-zero}
use Rattle.std.proofs.Math.Nat.{zero-div}
use Rattle.std.proofs.lemmas.List.{length-map, get_or-map}
use Rattle.j_definitions.specs.Array.{Array, Atom, number, byte, nested, boxed, atom_match}
use Rattle.j_definitions.specs.Cells.{atom_at}
use Rattle.j_kernels.specs.Scalars.{of_numbers, of_truths, truth}
use Rattle.j_kernels.specs.Answers.{AreNotNumbers, said_of_match}
use Rattle.j_definitions.specs.declared.Fault.{Fault}
use Rattle.std.specs.List.{range_with_len, All}
use Rattle.std.proofs.lemmas.List.Elements.{All-map}
use Rattle.std.proofs.lemmas.List.FromFn.{map-range_with_len_more}
use Rattle.j_definitions.specs.declared.Kind.TheVariants.{Number}
use Rattle.j_definitions.specs.declared.Fault.TheVariants.{Domain}
use Rattle.j_noun.specs.declared.view.View.{View}
use Rattle.j_noun.specs.declared.view.View.TheVariants.{Wholes, Bits, Bytes, Boxes}
use Rattle.j_noun.specs.declared.noun.Atoms.{Atoms}
use Rattle.j_noun.specs.declared.refusal.Refusal.{Refusal}
use Rattle.j_noun.specs.Viewed.{viewed}
use Rattle.j_loops.specs.Results.{outcome, IsFilled, IsGiven}
use Rattle.j_loops.proofs.Filling.{in_order-Err, in_order-Ok}

-- the first pair has a fault
first_fails : (f : Atom → Atom → Result Atom Fault) (l r : ℕ) (xs ys : List Atom) (n : ℕ) (e : Fault) →
    f (atom_at xs 0) (atom_at ys 0) ≡ Err e → outcome f l r xs ys (suc n) ≡ Err e
first_fails f l r xs ys n e h =
    in_order-Err (λ k. f (atom_at xs (k / l)) (atom_at ys (k / r))) (λ k. atom_at xs k) 0 (suc n) 0 e (omega arith) (omega arith) (λ j _ b. absurd (omega arith))
    (rw (zero-div l, zero-div r) h)

wrong_left : {X : Type 0} (f : ℤ → ℤ → Result Atom Fault) (b : X → Atom) → ((x : X) (y : Atom) → of_numbers f (b x) y ≡ Err Domain) →
    (l r : ℕ) (xs : List X) (ys : List Atom) (n : ℕ) → length xs * l ≡ n → outcome (of_numbers f) l r (map b xs) ys n ≡ cond (n == 0) (Ok []) (Err Domain)
wrong_left f b h l r xs ys zero e = refl
wrong_left f b h l r [] ys (suc n) e = absurd (omega arith)
wrong_left f b h l r (x ∷ xs) ys (suc n) e = rw eqb-suc-zero (first_fails (of_numbers f) l r (map b (x ∷ xs)) ys n Domain (h x (atom_at ys 0)))

wrong_right : {Y : Type 0} (f : ℤ → ℤ → Result Atom Fault) (b : Y → Atom) → ((x : Atom) (y : Y) → of_numbers f x (b y) ≡ Err Domain) →
    (l r : ℕ) (xs : List Atom) (ys : List Y) (n : ℕ) → length ys * r ≡ n → outcome (of_numbers f) l r xs (map b ys) n ≡ cond (n == 0) (Ok []) (Err Domain)
wrong_right f b h l r xs ys zero e = refl
wrong_right f b h l r xs [] (suc n) e = absurd (omega arith)
wrong_right f b h l r xs (y ∷ ys) (suc n) e = rw eqb-suc-zero (first_fails (of_numbers f) l r xs (map b (y ∷ ys)) n Domain (h (atom_at xs 0) y))

right_byte : (f : ℤ → ℤ → Result Atom Fault) (x : Atom) (y : ℕ) → of_numbers f x (byte y) ≡ Err Domain
right_byte f (number x) y = refl
right_byte f (byte x) y = refl
right_byte f (nested k s r) y = refl

right_box : (f : ℤ → ℤ → Result Atom Fault) (x : Atom) (y : Array) → of_numbers f x (boxed y) ≡ Err Domain
right_box f (number x) y = refl
right_box f (byte x) y = refl
right_box f (nested k s r) y = refl

pub bytes_left : (f : ℤ → ℤ → Result Atom Fault) (l r : ℕ) (xs : List ℕ) (ys : List Atom) (n : ℕ) → length (map byte xs) * l ≡ n →
    outcome (of_numbers f) l r (map byte xs) ys n ≡ cond (n == 0) (Ok []) (Err Domain)
bytes_left f l r xs ys n e = wrong_left f byte (λ x y. refl) l r xs ys n (rw length-map at e)

pub boxes_left : (f : ℤ → ℤ → Result Atom Fault) (l r : ℕ) (xs : List Array) (ys : List Atom) (n : ℕ) → length (map boxed xs) * l ≡ n →
    outcome (of_numbers f) l r (map boxed xs) ys n ≡ cond (n == 0) (Ok []) (Err Domain)
boxes_left f l r xs ys n e = wrong_left f boxed (λ x y. refl) l r xs ys n (rw length-map at e)

pub bytes_right : (f : ℤ → ℤ → Result Atom Fault) (l r : ℕ) (xs : List Atom) (ys : List ℕ) (n : ℕ) → length (map byte ys) * r ≡ n →
    outcome (of_numbers f) l r xs (map byte ys) n ≡ cond (n == 0) (Ok []) (Err Domain)
bytes_right f l r xs ys n e = wrong_right f byte (right_byte f) l r xs ys n (rw length-map at e)

pub boxes_right : (f : ℤ → ℤ → Result Atom Fault) (l r : ℕ) (xs : List Atom) (ys : List Array) (n : ℕ) → length (map boxed ys) * r ≡ n →
    outcome (of_numbers f) l r xs (map boxed ys) n ≡ cond (n == 0) (Ok []) (Err Domain)
boxes_right f l r xs ys n e = wrong_right f boxed (right_box f) l r xs ys n (rw length-map at e)

-- views of which one is not of numbers
pub wrong_views : (f : ℤ → ℤ → Result Atom Fault) (l r : ℕ) (x y : View) (n : ℕ) → length (viewed x) * l ≡ n → length (viewed y) * r ≡ n → AreNotNumbers x y →
    (a : Result Atoms Refusal) → IsFilled (cond (n == 0) (Ok []) (Err Domain)) a → IsFilled (outcome (of_numbers f) l r (viewed x) (viewed y) n) a
wrong_views f l r (Bytes v) y n e g h a is = rw (bytes_left f l r v.now (viewed y) n e) is
wrong_views f l r (Boxes v) y n e g h a is = rw (boxes_left f l r v.now (viewed y) n e) is
wrong_views f l r (Wholes v) (Bytes w) n e g h a is = rw (bytes_right f l r (viewed (Wholes v)) w.now n g) is
wrong_views f l r (Wholes v) (Boxes w) n e g h a is = rw (boxes_right f l r (viewed (Wholes v)) w.now n g) is
wrong_views f l r (Bits v) (Bytes w) n e g h a is = rw (bytes_right f l r (viewed (Bits v)) w.now n g) is
wrong_views f l r (Bits v) (Boxes w) n e g h a is = rw (boxes_right f l r (viewed (Bits v)) w.now n g) is
wrong_views f l r (Wholes v) (Wholes w) n e g h a is = absurd h
wrong_views f l r (Wholes v) (Bits w) n e g h a is = absurd h
wrong_views f l r (Bits v) (Wholes w) n e g h a is = absurd h
wrong_views f l r (Bits v) (Bits w) n e g h a is = absurd h

pub ruleset lengths = (length-map)

-- an atom of a view
pub whole_at : (xs : List ℤ) (i : ℕ) (d : ℤ) → i < length (map number xs) → atom_at (map number xs) i ≡ number (get_or xs i d)
whole_at xs i d h = get_or-map number xs i d (number (pos 0)) (rw length-map at h)

pub bit_at : (xs : List ℕ) (i d : ℕ) → i < length (map (λ b. number (pos b)) xs) → atom_at (map (λ b. number (pos b)) xs) i ≡ number (pos (get_or xs i d))
bit_at xs i d h = get_or-map (λ b. number (pos b)) xs i d (number (pos 0)) (rw length-map at h)

pub byte_at : (xs : List ℕ) (i d : ℕ) → i < length (map byte xs) → atom_at (map byte xs) i ≡ byte (get_or xs i d)
byte_at xs i d h = get_or-map byte xs i d (number (pos 0)) (rw length-map at h)

pub box_at : (xs : List Array) (i : ℕ) (d : Array) → i < length (map boxed xs) → atom_at (map boxed xs) i ≡ boxed (get_or xs i d)
box_at xs i d h = get_or-map boxed xs i d (number (pos 0)) (rw length-map at h)

-- an atom that is like none of a view
pub unlike_at : {X : Type 0} (a : X → Atom) (c : Atom) → ((x : X) → atom_match c (a x) ≡ false) → (xs : List X) (i : ℕ) → i < length (map a xs) → false ≡ atom_match c (atom_at (map a xs) i)
unlike_at a c h [] i lt = absurd (omega arith)
unlike_at a c h (x ∷ xs) zero lt = sym (h x)
unlike_at a c h (x ∷ xs) (suc i) lt = unlike_at a c h xs i (omega arith)

below_two : (b : Bool) → cond b 1 0 < 2
below_two true = omega arith
below_two false = omega arith

map_twice : {A B C : Type 0} (g : B → C) (f : A → B) (xs : List A) → map g (map f xs) ≡ map (λ x. g (f x)) xs
map_twice g f [] = refl
map_twice g f (x ∷ xs) = ap (λ ys. g (f x) ∷ ys) (map_twice g f xs)

-- what is said of pair k
abbrev pub said_at : (Bool → Bool) → ℕ → ℕ → List Atom → List Atom → ℕ → Bool
said_at said l r xs ys k = said (atom_match (atom_at xs (k / l)) (atom_at ys (k / r)))

said_filled : (said : Bool → Bool) (l r n : ℕ) (xs ys : List Atom) (v : List ℕ) → v ≡ map (λ k. cond (said_at said l r xs ys k) 1 0) (range_with_len 0 n) →
    (outcome (said_of_match said) l r xs ys n ≡ Ok (map (λ b. number (pos b)) v)) × All (λ b. b < 2) v
said_filled said l r n xs ys v e =
    let bits : All (λ b. b < 2) (map (λ k. cond (said_at said l r xs ys k) 1 0) (range_with_len 0 n)) =
    All-map (λ b. b < 2) (λ k. cond (said_at said l r xs ys k) 1 0) (range_with_len 0 n) (λ k d _. below_two (said_at said l r xs ys (get_or (range_with_len 0 n) k d))) in (
      in_order-Ok (λ k. said_of_match said (atom_at xs (k / l)) (atom_at ys (k / r))) (λ k. truth (said_at said l r xs ys k)) 0 n (λ k _ _. refl)
          ∙ ap Ok (sym (ap (map (λ b. number (pos b))) e ∙ map_twice (λ b. number (pos b)) (λ k. cond (said_at said l r xs ys k) 1 0) (range_with_len 0 n))),
      rw e bits,
    )

byte_of : (b : Bool) → bool_byte b ≡ cond b 1 0
byte_of true = refl
byte_of false = refl

pub said_more : (said : Bool → Bool) (l r : ℕ) (xs ys : List Atom) (k z : ℕ) (v w : List ℕ) (b : Bool) → v ≡ map (λ k. cond (said_at said l r xs ys k) 1 0) (range_with_len 0 k) →
    w ≡ v ++ z ∷ [] → z ≡ bool_byte b → b ≡ said_at said l r xs ys k → w ≡ map (λ k. cond (said_at said l r xs ys k) 1 0) (range_with_len 0 (k + 1))
said_more said l r xs ys k z v w b ev ew ez eb =
    ew ∙ ap (λ q. q ++ z ∷ []) ev ∙ ap (λ q. map (λ k. cond (said_at said l r xs ys k) 1 0) (range_with_len 0 k) ++ q ∷ []) (ez ∙ byte_of b ∙ ap (λ q. cond q 1 0) eb)
    ∙ sym (map-range_with_len_more (λ k. cond (said_at said l r xs ys k) 1 0) 0 k k (omega arith))

pub said_ended : (said : Bool → Bool) (l r k n : ℕ) (xs ys : List Atom) (v : List ℕ) → k ≡ n → v ≡ map (λ k. cond (said_at said l r xs ys k) 1 0) (range_with_len 0 k) →
    (outcome (said_of_match said) l r xs ys n ≡ Ok (map (λ b. number (pos b)) v)) × (Number ≡ Number) × All (λ b. b < 2) v
said_ended said l r k n xs ys v e is =
    let it = said_filled said l r n xs ys v (is ∙ ap (λ q. map (λ k. cond (said_at said l r xs ys k) 1 0) (range_with_len 0 q)) e) in (it.0, refl, it.1)

pub ruleset element_rules = (length-map)

-- a truth value that is told
pub truth_given : (r : Result Atom Fault) (b : Bool) (z : ℕ) → r ≡ Ok (truth b) → z ≡ bool_byte b → IsGiven (λ n. number (pos n)) (λ n. n < 2) r z
truth_given r b z e h = record { result = e ∙ ap (λ n. Ok (number (pos n))) (sym (h ∙ byte_of b)); kept = rw (h, byte_of b) (below_two b) }

-- truth values as the code passes them
pub passed_truths : (f : Bool → Bool → Bool) (x y : ℤ) (r : Result Atom Fault) → FitsSigned w64 x → FitsSigned w64 y → of_truths f (to_z w64 (of_z w64 x)) (to_z w64 (of_z w64 y)) ≡ r → of_truths f x y ≡ r
passed_truths f x y r fx fy is = rw (← to_z-of_z w64 x fx, ← to_z-of_z w64 y fy) is
