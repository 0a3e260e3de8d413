use Rattle.std.proofs.Common.{pos}
use Rattle.j_definitions.specs.Array.{number, byte, boxed}
use Rattle.j_reshaping.proofs.Walks.{picked_atoms, picked_bits}
use Rattle.j_reshaping.proofs.transposing.atoms_along.Goals as goal

pub returns-in_ok-along-in-Wholes : goal.returns-in_ok-along-in-Wholes
returns-in_ok-along-in-Wholes c = record {
  kind = c.in-Wholes.ensures.kind;
  atoms = picked_atoms number c.in-Wholes.v.now _ c.args.y.now.atoms c.args.lengths.now c.args.steps.now c.in-Wholes.ensures.atoms c.requires.within c.in_ok-along-in-Wholes.ensures;
  bits = tt;
}

pub returns-in_ok-along-in-Bits : goal.returns-in_ok-along-in-Bits
returns-in_ok-along-in-Bits c = record {
  kind = c.in-Bits.ensures.kind;
  atoms = picked_atoms (λ b. number (pos b)) c.in-Bits.v.now _ c.args.y.now.atoms c.args.lengths.now c.args.steps.now c.in-Bits.ensures.atoms c.requires.within c.in_ok-along-in-Bits.ensures;
  bits = picked_bits c.in-Bits.v.now _ _ c.in_ok-along-in-Bits.ensures c.in-Bits.ensures.bits;
}

pub returns-in_ok-along-in-Bytes : goal.returns-in_ok-along-in-Bytes
returns-in_ok-along-in-Bytes c = record {
  kind = c.in-Bytes.ensures.kind;
  atoms = picked_atoms byte c.in-Bytes.v.now _ c.args.y.now.atoms c.args.lengths.now c.args.steps.now c.in-Bytes.ensures.atoms c.requires.within c.in_ok-along-in-Bytes.ensures;
  bits = tt;
}

pub returns-in_ok-along-in-Boxes : goal.returns-in_ok-along-in-Boxes
returns-in_ok-along-in-Boxes c = record {
  kind = c.in-Boxes.ensures.kind;
  atoms = picked_atoms boxed c.in-Boxes.v.now _ c.args.y.now.atoms c.args.lengths.now c.args.steps.now c.in-Boxes.ensures.atoms c.requires.within c.in_ok-along-in-Boxes.ensures;
  bits = tt;
}
