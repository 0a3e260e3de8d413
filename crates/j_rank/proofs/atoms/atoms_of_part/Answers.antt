use Rattle.std.proofs.Common.{◌<◌, ◌∙◌, pos, refl, subst}
use Rattle.std.specs.List.{All}
use Rattle.j_definitions.specs.Array.{number, byte, boxed}
use Rattle.j_noun.specs.Viewed.{ShowsBits}
use Rattle.j_rank.proofs.Parts.{part_map, bits_part}
use Rattle.j_rank.proofs.atoms.atoms_of_part.Goals as goal

pub returns-in_ok-copied-in-Wholes : goal.returns-in_ok-copied-in-Wholes
returns-in_ok-copied-in-Wholes c = rw c.in-Wholes.is (record { kind = refl; atoms = part_map number _ _ c.args.k c.args.size (c.in_ok-copied-in-Wholes.ensures ∙ c.part.ensures); bits = tt })

pub returns-in_ok-copied-in-Bits : goal.returns-in_ok-copied-in-Bits
returns-in_ok-copied-in-Bits c =
    let bits : All (λ b. b < 2) c.in-Bits.v.now = subst ShowsBits c.in-Bits.is c.requires.bits in
    rw c.in-Bits.is (record { kind = refl; atoms = part_map (λ b. number (pos b)) _ _ c.args.k c.args.size (c.in_ok-copied-in-Bits.ensures ∙ c.part-in-Bits.ensures); bits = (bits_part _ _ c.args.k c.args.size (c.in_ok-copied-in-Bits.ensures ∙ c.part-in-Bits.ensures) bits) })

pub returns-in_ok-copied-in-Bytes : goal.returns-in_ok-copied-in-Bytes
returns-in_ok-copied-in-Bytes c = rw c.in-Bytes.is (record { kind = refl; atoms = part_map byte _ _ c.args.k c.args.size (c.in_ok-copied-in-Bytes.ensures ∙ c.part-in-Bytes.ensures); bits = tt })

pub returns-in_ok-copied-in-Boxes : goal.returns-in_ok-copied-in-Boxes
returns-in_ok-copied-in-Boxes c = rw c.in-Boxes.is (record { kind = refl; atoms = part_map boxed _ _ c.args.k c.args.size (c.in_ok-copied-in-Boxes.ensures ∙ c.part-in-Boxes.ensures); bits = tt })
