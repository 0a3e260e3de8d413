use Rattle.j_kernels.proofs.Framing.{monad_answered}
use Rattle.j_kernels.specs.declared.scalar.Scalar.TheVariants.{Minus, Times, Divide, Residue, LessEqual, GreaterEqual, Double, Square, Not, Halve}
use Rattle.j_kernels.proofs.monads.monad.Goals as goal

pub returns-in-Plus : goal.returns-in-Plus
returns-in-Plus c = rw c.in-Plus.is c.on_itself.ensures

pub returns-in-Minus : goal.returns-in-Minus
returns-in-Minus c = rw c.in-Minus.is (monad_answered Minus c.args.y.now c.on_each.result c.on_each.ensures)

pub returns-in-Times : goal.returns-in-Times
returns-in-Times c = rw c.in-Times.is (monad_answered Times c.args.y.now c.on_each-in-Times.result c.on_each-in-Times.ensures)

pub returns-in-Divide : goal.returns-in-Divide
returns-in-Divide c = rw c.in-Divide.is (monad_answered Divide c.args.y.now c.on_each-in-Divide.result c.on_each-in-Divide.ensures)

pub returns-in-LesserOf : goal.returns-in-LesserOf
returns-in-LesserOf c = rw c.in-LesserOf.is c.on_itself-in-LesserOf.ensures

pub returns-in-GreaterOf : goal.returns-in-GreaterOf
returns-in-GreaterOf c = rw c.in-GreaterOf.is c.on_itself-in-GreaterOf.ensures

pub returns-in-LessEqual : goal.returns-in-LessEqual
returns-in-LessEqual c = rw c.in-LessEqual.is (monad_answered LessEqual c.args.y.now c.on_each-in-LessEqual.result c.on_each-in-LessEqual.ensures)

pub returns-in-GreaterEqual : goal.returns-in-GreaterEqual
returns-in-GreaterEqual c = rw c.in-GreaterEqual.is (monad_answered GreaterEqual c.args.y.now c.on_each-in-GreaterEqual.result c.on_each-in-GreaterEqual.ensures)

pub returns-in-Double : goal.returns-in-Double
returns-in-Double c = rw c.in-Double.is (monad_answered Double c.args.y.now c.on_each-in-Double.result c.on_each-in-Double.ensures)

pub returns-in-Square : goal.returns-in-Square
returns-in-Square c = rw c.in-Square.is (monad_answered Square c.args.y.now c.on_each-in-Square.result c.on_each-in-Square.ensures)

pub returns-in-Not : goal.returns-in-Not
returns-in-Not c = rw c.in-Not.is (monad_answered Not c.args.y.now c.on_each_bit.result c.on_each_bit.ensures)

pub returns-in-Halve : goal.returns-in-Halve
returns-in-Halve c = rw c.in-Halve.is (monad_answered Halve c.args.y.now c.on_each-in-Halve.result c.on_each-in-Halve.ensures)

pub returns-in-Residue : goal.returns-in-Residue
returns-in-Residue c = rw c.in-Residue.is (monad_answered Residue c.args.y.now c.on_each-in-Residue.result c.on_each-in-Residue.ensures)
