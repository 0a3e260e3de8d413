use Rattle.std.proofs.Common.{◌∙◌, ap, sym, Ok}
use Rattle.j_kernels.specs.declared.scalar.Scalar.TheVariants.{Plus}
use Rattle.j_kernels.proofs.Framing.{itself_again, monad_answered}
use Rattle.j_kernels.proofs.monads.on_itself.Goals as goal

pub returns-then-is_numbers : goal.returns-then-is_numbers
returns-then-is_numbers c = itself_again c.args.y.now c.is_numbers.ensures.noun (c.is_numbers.ensures.kind c.if-is_numbers.true) ∙ ap Ok (sym c.in_ok-duplicate.ensures.ok)

pub returns : goal.returns
returns c = monad_answered Plus c.args.y.now c.on_each.result c.on_each.ensures
