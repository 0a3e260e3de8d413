use Rattle.std.proofs.Common.{◌<◌, ◌∙◌, pos, refl, subst}
use Rattle.std.specs.List.{All}
use Rattle.j_definitions.specs.Array.{number, byte, boxed}
use Rattle.j_noun.specs.Viewed.{ShowsBits}
use Rattle.j_places.proofs.ItemLaws.{run_map, bits_run}
use Rattle.j_places.proofs.item_places.atoms_of_run.Goals as goal

pub returns-in_ok-copied-in-Wholes : goal.returns-in_ok-copied-in-Wholes
returns-in_ok-copied-in-Wholes c = rw c.in-Wholes.is (record { kind = refl; atoms = run_map number _ _ c.args.start c.args.count (c.in_ok-copied-in-Wholes.ensures ∙ c.run_of.ensures); bits = tt })

pub returns-in_ok-copied-in-Bits : goal.returns-in_ok-copied-in-Bits
returns-in_ok-copied-in-Bits c =
    let bits : All (λ b. b < 2) c.in-Bits.v.now = subst ShowsBits c.in-Bits.is c.requires.bits in
    rw c.in-Bits.is (record { kind = refl; atoms = run_map (λ b. number (pos b)) _ _ c.args.start c.args.count (c.in_ok-copied-in-Bits.ensures ∙ c.run_of-in-Bits.ensures); bits = (bits_run _ _ c.args.start c.args.count (c.in_ok-copied-in-Bits.ensures ∙ c.run_of-in-Bits.ensures) bits) })

pub returns-in_ok-copied-in-Bytes : goal.returns-in_ok-copied-in-Bytes
returns-in_ok-copied-in-Bytes c = rw c.in-Bytes.is (record { kind = refl; atoms = run_map byte _ _ c.args.start c.args.count (c.in_ok-copied-in-Bytes.ensures ∙ c.run_of-in-Bytes.ensures); bits = tt })

pub returns-in_ok-copied-in-Boxes : goal.returns-in_ok-copied-in-Boxes
returns-in_ok-copied-in-Boxes c = rw c.in-Boxes.is (record { kind = refl; atoms = run_map boxed _ _ c.args.start c.args.count (c.in_ok-copied-in-Boxes.ensures ∙ c.run_of-in-Boxes.ensures); bits = tt })
