use Rattle.std.proofs.Common.{◌<◌, pos, refl, subst}
use Rattle.std.specs.List.{All}
use Rattle.j_definitions.specs.Array.{number, byte, boxed}
use Rattle.j_noun.specs.Viewed.{ShowsBits}
use Rattle.j_search.proofs.Picked.{picked_map, picked_low}
use Rattle.j_search.proofs.picking.pick_atoms.Goals as goal

pub returns-in_ok-picked-in-Wholes : goal.returns-in_ok-picked-in-Wholes
returns-in_ok-picked-in-Wholes c =
    rw c.in-Wholes.is (record { kind = refl; atoms = picked_map number c.args.size c.in-Wholes.v.now c.in_ok-picked-in-Wholes.field-0.items c.args.places.now c.in_ok-picked-in-Wholes.ensures; bits = tt })

pub returns-in_ok-picked-in-Bits : goal.returns-in_ok-picked-in-Bits
returns-in_ok-picked-in-Bits c =
    let bits : All (λ b. b < 2) c.in-Bits.v.now = subst ShowsBits c.in-Bits.is c.requires.bits in
    rw c.in-Bits.is (record { kind = refl; atoms = picked_map (λ b. number (pos b)) c.args.size c.in-Bits.v.now c.in_ok-picked-in-Bits.field-0.items c.args.places.now c.in_ok-picked-in-Bits.ensures; bits = picked_low c.args.size c.in-Bits.v.now c.in_ok-picked-in-Bits.field-0.items c.args.places.now c.in_ok-picked-in-Bits.ensures bits })

pub returns-in_ok-picked-in-Bytes : goal.returns-in_ok-picked-in-Bytes
returns-in_ok-picked-in-Bytes c =
    rw c.in-Bytes.is (record { kind = refl; atoms = picked_map byte c.args.size c.in-Bytes.v.now c.in_ok-picked-in-Bytes.field-0.items c.args.places.now c.in_ok-picked-in-Bytes.ensures; bits = tt })

pub returns-in_ok-picked-in-Boxes : goal.returns-in_ok-picked-in-Boxes
returns-in_ok-picked-in-Boxes c =
    rw c.in-Boxes.is (record { kind = refl; atoms = picked_map boxed c.args.size c.in-Boxes.v.now c.in_ok-picked-in-Boxes.field-0.items c.args.places.now c.in_ok-picked-in-Boxes.ensures; bits = tt })
