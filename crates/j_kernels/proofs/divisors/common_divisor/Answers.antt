use Rattle.std.proofs.Common.{sym, arith}
use Rattle.std.proofs.lemmas.Nat.Gcd.{IsGcd-from_zero, IsGcd-from_mod}
use Rattle.j_kernels.proofs.Gcd.{divisor_is}
use Rattle.j_kernels.proofs.divisors.common_divisor.Goals as goal

pub loop-b-preserved : goal.loop-b-preserved
loop-b-preserved c = λ g h. c.loop-b.invariant g (IsGcd-from_mod c.loop-b.a c.loop-b.b g h)

pub returns-clause-value : goal.returns-clause-value
returns-clause-value c = sym (divisor_is c.args.m c.args.n c.loop-b.a (c.loop-b.invariant c.loop-b.a (IsGcd-from_zero c.loop-b.a c.loop-b.b (omega arith))))

pub returns-clause-divides : goal.returns-clause-divides
returns-clause-divides c = c.loop-b.invariant c.loop-b.a (IsGcd-from_zero c.loop-b.a c.loop-b.b (omega arith))
