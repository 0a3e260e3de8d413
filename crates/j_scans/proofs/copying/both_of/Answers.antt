use Rattle.std.proofs.Common.{◌<◌, ◌∙◌, ◌++◌, ap, map, pos, refl, subst, sym}
use Rattle.std.specs.List.{All}
use Rattle.j_definitions.specs.Array.{number, byte, boxed}
use Rattle.j_noun.specs.Viewed.{ShowsBits}
use Rattle.j_scans.specs.Spans.{places_in}
use Rattle.j_scans.proofs.Parts.{map-parts_at, All-parts_at}
use Rattle.j_scans.proofs.copying.both_of.Goals as goal

pub returns-in_ok-both-in-Wholes : goal.returns-in_ok-both-in-Wholes
returns-in_ok-both-in-Wholes c =
    rw c.in-Wholes.is (record { kind = refl; atoms = ap (map number) c.in_ok-both-in-Wholes.ensures ∙ map-parts_at number c.args.size _ (places_in c.args.front ++ places_in c.args.back); bits = tt })

pub returns-in_ok-both-in-Bits : goal.returns-in_ok-both-in-Bits
returns-in_ok-both-in-Bits c =
    let low : All (λ b. b < 2) c.in-Bits.v.now = subst ShowsBits c.in-Bits.is c.requires.bits in
    rw c.in-Bits.is (record { kind = refl; atoms = ap (map (λ b. number (pos b))) c.in_ok-both-in-Bits.ensures ∙ map-parts_at (λ b. number (pos b)) c.args.size _ (places_in c.args.front ++ places_in c.args.back); bits = subst (All (λ b. b < 2)) (sym c.in_ok-both-in-Bits.ensures) (All-parts_at (λ b. b < 2) c.args.size c.in-Bits.v.now (places_in c.args.front ++ places_in c.args.back) low) })

pub returns-in_ok-both-in-Bytes : goal.returns-in_ok-both-in-Bytes
returns-in_ok-both-in-Bytes c =
    rw c.in-Bytes.is (record { kind = refl; atoms = ap (map byte) c.in_ok-both-in-Bytes.ensures ∙ map-parts_at byte c.args.size _ (places_in c.args.front ++ places_in c.args.back); bits = tt })

pub returns-in_ok-both-in-Boxes : goal.returns-in_ok-both-in-Boxes
returns-in_ok-both-in-Boxes c =
    rw c.in-Boxes.is (record { kind = refl; atoms = ap (map boxed) c.in_ok-both-in-Boxes.ensures ∙ map-parts_at boxed c.args.size _ (places_in c.args.front ++ places_in c.args.back); bits = tt })
