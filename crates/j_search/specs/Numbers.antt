-- Numbers below a bound as integers.
use Rattle.std.specs.Prelude.{◌≡◌, ◌<◌, ◌<ℤ◌, ℕ, ℤ, pos, negsuc, nat_eq, refl}
use Rattle.std.specs.declared.cmp.Ordering.{Ordering}
use Rattle.std.specs.declared.cmp.Ordering.TheVariants.{Less, Equal, Greater}
use Rattle.std.specs.Ordering.{int_eq, nat_cmp, int_cmp, MatchOrdering}
use Rattle.std.specs.Cmp.{int_cmp_is}
use Rattle.std.proofs.Common.{ap, arith}
use Rattle.std.proofs.lemmas.Cmp.{ranked}
use Rattle.std.proofs.lemmas.Int.{ints}
use Rattle.std.proofs.lemmas.Bool.Decides.{Decides-int_eq, Decides-eqb, same_from_decides}

abbrev of_pos : ℤ → ℕ
of_pos (pos n) = n
of_pos (negsuc n) = 0

-- they are the same where they are as integers
pub same_number : (x y : ℕ) → nat_eq x y ≡ int_eq (pos x) (pos y)
same_number x y =
    same_from_decides (nat_eq x y) (int_eq (pos x) (pos y)) ((λ e. ap pos ((Decides-eqb x y).0 e)), (λ p. (Decides-eqb x y).1 (ap of_pos p))) (Decides-int_eq (pos x) (pos y))

number_ranks : (a b : ℕ) (r : Ordering) → MatchOrdering r (a < b) (a ≡ b) (b < a) → MatchOrdering r (pos a <ℤ pos b) (pos a ≡ pos b) (pos b <ℤ pos a)
number_ranks a b Less h = omega (arith, ints)
number_ranks a b Equal h = ap pos h
number_ranks a b Greater h = omega (arith, ints)

-- they are ordered as they are as integers
pub same_order : (x y : ℕ) → nat_cmp x y ≡ int_cmp (pos x) (pos y)
same_order x y = int_cmp_is (pos x) (pos y) (nat_cmp x y) (number_ranks x y (nat_cmp x y) (ranked x y (nat_cmp x y) refl))
