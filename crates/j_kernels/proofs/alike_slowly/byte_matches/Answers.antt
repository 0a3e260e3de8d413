use Rattle.std.proofs.Common.{refl, pos}
use Rattle.j_definitions.specs.Array.{number, byte, boxed}
use Rattle.j_kernels.proofs.Storage.{unlike_at}
use Rattle.j_kernels.proofs.alike_slowly.byte_matches.Goals as goal

pub returns-in-Wholes : goal.returns-in-Wholes
returns-in-Wholes c = rw c.in-Wholes.is (unlike_at number (byte c.args.x) (λ _. refl) c.in-Wholes.field-0.now c.args.j (rw c.in-Wholes.is at c.requires))

pub returns-in-Bits : goal.returns-in-Bits
returns-in-Bits c = rw c.in-Bits.is (unlike_at (λ b. number (pos b)) (byte c.args.x) (λ _. refl) c.in-Bits.field-0.now c.args.j (rw c.in-Bits.is at c.requires))

pub returns-in-Boxes : goal.returns-in-Boxes
returns-in-Boxes c = rw c.in-Boxes.is (unlike_at boxed (byte c.args.x) (λ _. refl) c.in-Boxes.field-0.now c.args.j (rw c.in-Boxes.is at c.requires))
