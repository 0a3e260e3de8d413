use Rattle.std.proofs.Common.{◌<◌, ◌∙◌, ap, map, pos, refl, subst, sym, reverse}
use Rattle.std.specs.List.{All, range_with_len}
use Rattle.j_definitions.specs.Array.{number, byte, boxed}
use Rattle.j_noun.specs.Viewed.{ShowsBits}
use Rattle.j_places.proofs.PartLaws.{map-parts_at, All-parts_at}
use Rattle.j_places.proofs.item_places.reversed_atoms.Goals as goal

pub returns-in_ok-reversed-in-Wholes : goal.returns-in_ok-reversed-in-Wholes
returns-in_ok-reversed-in-Wholes c = rw c.in-Wholes.is (record { kind = refl; atoms = ap (map number) c.in_ok-reversed-in-Wholes.ensures ∙ map-parts_at number c.args.size _ (reverse (range_with_len 0 c.args.count)); bits = tt })

pub returns-in_ok-reversed-in-Bits : goal.returns-in_ok-reversed-in-Bits
returns-in_ok-reversed-in-Bits c =
    let low : All (λ b. b < 2) c.in-Bits.v.now = subst ShowsBits c.in-Bits.is c.requires.bits in
    rw c.in-Bits.is (record {
      kind = refl;
      atoms = ap (map (λ b. number (pos b))) c.in_ok-reversed-in-Bits.ensures ∙ map-parts_at (λ b. number (pos b)) c.args.size _ (reverse (range_with_len 0 c.args.count));
      bits = subst (All (λ b. b < 2)) (sym c.in_ok-reversed-in-Bits.ensures) (All-parts_at (λ b. b < 2) c.args.size c.in-Bits.v.now (reverse (range_with_len 0 c.args.count)) low);
    })

pub returns-in_ok-reversed-in-Bytes : goal.returns-in_ok-reversed-in-Bytes
returns-in_ok-reversed-in-Bytes c = rw c.in-Bytes.is (record { kind = refl; atoms = ap (map byte) c.in_ok-reversed-in-Bytes.ensures ∙ map-parts_at byte c.args.size _ (reverse (range_with_len 0 c.args.count)); bits = tt })

pub returns-in_ok-reversed-in-Boxes : goal.returns-in_ok-reversed-in-Boxes
returns-in_ok-reversed-in-Boxes c = rw c.in-Boxes.is (record { kind = refl; atoms = ap (map boxed) c.in_ok-reversed-in-Boxes.ensures ∙ map-parts_at boxed c.args.size _ (reverse (range_with_len 0 c.args.count)); bits = tt })
