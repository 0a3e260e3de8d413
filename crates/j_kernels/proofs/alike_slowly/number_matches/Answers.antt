use Rattle.std.proofs.Common.{refl}
use Rattle.j_definitions.specs.Array.{number, byte, boxed}
use Rattle.j_kernels.proofs.Storage.{unlike_at}
use Rattle.j_kernels.proofs.alike_slowly.number_matches.Goals as goal

pub returns-in-Bytes : goal.returns-in-Bytes
returns-in-Bytes c = rw c.in-Bytes.is (unlike_at byte (number c.args.x) (λ _. refl) c.in-Bytes.field-0.now c.args.j (rw c.in-Bytes.is at c.requires))

pub returns-in-Boxes : goal.returns-in-Boxes
returns-in-Boxes c = rw c.in-Boxes.is (unlike_at boxed (number c.args.x) (λ _. refl) c.in-Boxes.field-0.now c.args.j (rw c.in-Boxes.is at c.requires))
