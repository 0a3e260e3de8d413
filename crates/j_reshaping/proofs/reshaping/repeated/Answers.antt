use Rattle.std.proofs.Common.{◌∙◌, sym, pos}
use Rattle.j_definitions.specs.Array.{number, byte, boxed}
use Rattle.j_reshaping.proofs.Reshapes.{repeated_atoms, repeated_bits, none_repeated, nothing_repeated, fills_are, no_atoms, some_atoms}
use Rattle.j_reshaping.proofs.reshaping.repeated.Goals as goal

pub returns-then-size-eq0 : goal.returns-then-size-eq0
returns-then-size-eq0 c = λ n e h. fills_are c.fills.result _ _ _ c.kind.ensures (nothing_repeated c.args.y.now n (sym e ∙ c.if-size-eq0.true)) c.fills.ensures

pub returns-then-has_no_atoms : goal.returns-then-has_no_atoms
returns-then-has_no_atoms c =
    λ n e h. fills_are c.fills-then-has_no_atoms.result _ _ _ c.kind-then-has_no_atoms.ensures (none_repeated c.args.y.now n (no_atoms c.args.y.now.atoms _ c.has_no_atoms.ensures c.if-has_no_atoms.true)) c.fills-then-has_no_atoms.ensures

pub returns-in_ok-cycled-in-Wholes : goal.returns-in_ok-cycled-in-Wholes
returns-in_ok-cycled-in-Wholes c =
    λ n e h. record {
      kind = c.in-Wholes.ensures.kind;
      atoms = repeated_atoms number c.args.y.now c.in-Wholes.v.now _ n c.args.size c.view.ensures.noun c.in-Wholes.ensures.atoms (some_atoms number c.in-Wholes.v.now _ _ c.in-Wholes.ensures.atoms c.has_no_atoms.ensures c.if-has_no_atoms.false) e c.in_ok-cycled-in-Wholes.ensures;
      bits = tt;
    }

pub returns-in_ok-cycled-in-Bits : goal.returns-in_ok-cycled-in-Bits
returns-in_ok-cycled-in-Bits c =
    λ n e h. record {
      kind = c.in-Bits.ensures.kind;
      atoms = repeated_atoms (λ b. number (pos b)) c.args.y.now c.in-Bits.v.now _ n c.args.size c.view.ensures.noun c.in-Bits.ensures.atoms (some_atoms (λ b. number (pos b)) c.in-Bits.v.now _ _ c.in-Bits.ensures.atoms c.has_no_atoms.ensures c.if-has_no_atoms.false) e c.in_ok-cycled-in-Bits.ensures;
      bits = repeated_bits c.in-Bits.v.now _ _ _ c.in_ok-cycled-in-Bits.ensures c.in-Bits.ensures.bits;
    }

pub returns-in_ok-cycled-in-Bytes : goal.returns-in_ok-cycled-in-Bytes
returns-in_ok-cycled-in-Bytes c =
    λ n e h. record {
      kind = c.in-Bytes.ensures.kind;
      atoms = repeated_atoms byte c.args.y.now c.in-Bytes.v.now _ n c.args.size c.view.ensures.noun c.in-Bytes.ensures.atoms (some_atoms byte c.in-Bytes.v.now _ _ c.in-Bytes.ensures.atoms c.has_no_atoms.ensures c.if-has_no_atoms.false) e c.in_ok-cycled-in-Bytes.ensures;
      bits = tt;
    }

pub returns-in_ok-cycled-in-Boxes : goal.returns-in_ok-cycled-in-Boxes
returns-in_ok-cycled-in-Boxes c =
    λ n e h. record {
      kind = c.in-Boxes.ensures.kind;
      atoms = repeated_atoms boxed c.args.y.now c.in-Boxes.v.now _ n c.args.size c.view.ensures.noun c.in-Boxes.ensures.atoms (some_atoms boxed c.in-Boxes.v.now _ _ c.in-Boxes.ensures.atoms c.has_no_atoms.ensures c.if-has_no_atoms.false) e c.in_ok-cycled-in-Boxes.ensures;
      bits = tt;
    }
