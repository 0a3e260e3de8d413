use Rattle.j_kernels.proofs.dyads.dyad.Goals as goal

pub returns-in-Plus : goal.returns-in-Plus
returns-in-Plus c = rw c.in-Plus.is c.of_numbers.ensures

pub returns-in-Minus : goal.returns-in-Minus
returns-in-Minus c = rw c.in-Minus.is c.of_numbers-in-Minus.ensures

pub returns-in-Times : goal.returns-in-Times
returns-in-Times c = rw c.in-Times.is c.of_bits.ensures

pub returns-in-Divide : goal.returns-in-Divide
returns-in-Divide c = rw c.in-Divide.is c.of_numbers-in-Divide.ensures

pub returns-in-LesserOf : goal.returns-in-LesserOf
returns-in-LesserOf c = rw c.in-LesserOf.is c.of_bits-in-LesserOf.ensures

pub returns-in-GreaterOf : goal.returns-in-GreaterOf
returns-in-GreaterOf c = rw c.in-GreaterOf.is c.of_bits-in-GreaterOf.ensures

pub returns-in-LessEqual : goal.returns-in-LessEqual
returns-in-LessEqual c = rw c.in-LessEqual.is c.of_numbers-in-LessEqual.ensures

pub returns-in-GreaterEqual : goal.returns-in-GreaterEqual
returns-in-GreaterEqual c = rw c.in-GreaterEqual.is c.of_numbers-in-GreaterEqual.ensures

pub returns-in-Double : goal.returns-in-Double
returns-in-Double c = rw c.in-Double.is c.of_numbers-in-Double.ensures

pub returns-in-Square : goal.returns-in-Square
returns-in-Square c = rw c.in-Square.is c.of_numbers-in-Square.ensures

pub returns-in-Less : goal.returns-in-Less
returns-in-Less c = rw c.in-Less.is c.of_numbers-in-Less.ensures

pub returns-in-Greater : goal.returns-in-Greater
returns-in-Greater c = rw c.in-Greater.is c.of_numbers-in-Greater.ensures

pub returns-in-Equal : goal.returns-in-Equal
returns-in-Equal c = rw c.in-Equal.is c.agreed.ensures

pub returns-in-NotEqual : goal.returns-in-NotEqual
returns-in-NotEqual c = rw c.in-NotEqual.is c.agreed-in-NotEqual.ensures

pub returns-in-Or : goal.returns-in-Or
returns-in-Or c = rw c.in-Or.is c.of_bits-in-Or.ensures

pub returns-in-Residue : goal.returns-in-Residue
returns-in-Residue c = rw c.in-Residue.is c.of_numbers-in-Residue.ensures

pub returns-in-And : goal.returns-in-And
returns-in-And c = rw c.in-And.is c.of_bits-in-And.ensures

pub returns-in-Power : goal.returns-in-Power
returns-in-Power c = rw c.in-Power.is c.of_bits-in-Power.ensures
