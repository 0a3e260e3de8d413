use Rattle.std.proofs.Common.{◌∙◌, sym, refl, pos}
use Rattle.j_definitions.specs.Array.{number, byte, boxed}
use Rattle.j_definitions.proofs.Laws.{boxed_match}
use Rattle.j_kernels.proofs.Storage.{unlike_at, box_at}
use Rattle.j_kernels.proofs.alike_slowly.box_matches.Goals as goal

pub returns-in-Wholes : goal.returns-in-Wholes
returns-in-Wholes c = rw c.in-Wholes.is (unlike_at number (boxed c.args.x.now) (λ _. refl) c.in-Wholes.field-0.now c.args.j (rw c.in-Wholes.is at c.requires))

pub returns-in-Bits : goal.returns-in-Bits
returns-in-Bits c = rw c.in-Bits.is (unlike_at (λ b. number (pos b)) (boxed c.args.x.now) (λ _. refl) c.in-Bits.field-0.now c.args.j (rw c.in-Bits.is at c.requires))

pub returns-in-Bytes : goal.returns-in-Bytes
returns-in-Bytes c = rw c.in-Bytes.is (unlike_at byte (boxed c.args.x.now) (λ _. refl) c.in-Bytes.field-0.now c.args.j (rw c.in-Bytes.is at c.requires))

pub returns-in-Boxes : goal.returns-in-Boxes
returns-in-Boxes c =
    rw (c.in-Boxes.is, box_at c.in-Boxes.b.now c.args.j c.index-b-j.result (rw c.in-Boxes.is at c.requires), ← c.index-b-j.is) (c.matches.ensures ∙ sym (boxed_match c.args.x.now c.index-b-j.result))
