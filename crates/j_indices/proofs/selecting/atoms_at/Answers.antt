use Rattle.std.proofs.Common.{◌<◌, ◌∙◌, pos, map, ap, refl, subst}
use Rattle.std.specs.List.{All}
use Rattle.j_definitions.specs.Array.{number, byte, boxed}
use Rattle.j_noun.specs.Viewed.{ShowsBits}
use Rattle.j_indices.proofs.Runs.{map_runs, bits_of_runs}
use Rattle.j_indices.proofs.selecting.atoms_at.Goals as goal

pub returns-in_ok-runs_at-in-Wholes : goal.returns-in_ok-runs_at-in-Wholes
returns-in_ok-runs_at-in-Wholes c =
    rw c.in-Wholes.is (record { kind = refl; atoms = ap (map number) c.in_ok-runs_at-in-Wholes.ensures ∙ map_runs number c.args.size c.in-Wholes.v.now c.args.places.now; bits = tt })

pub returns-in_ok-runs_at-in-Bits : goal.returns-in_ok-runs_at-in-Bits
returns-in_ok-runs_at-in-Bits c =
    let bits : All (λ b. b < 2) c.in-Bits.v.now = subst ShowsBits c.in-Bits.is c.requires.bits in
    rw c.in-Bits.is (record {
      kind = refl;
      atoms = ap (map (λ b. number (pos b))) c.in_ok-runs_at-in-Bits.ensures ∙ map_runs (λ b. number (pos b)) c.args.size c.in-Bits.v.now c.args.places.now;
      bits = rw c.in_ok-runs_at-in-Bits.ensures (bits_of_runs c.args.size c.in-Bits.v.now c.args.places.now bits);
    })

pub returns-in_ok-runs_at-in-Bytes : goal.returns-in_ok-runs_at-in-Bytes
returns-in_ok-runs_at-in-Bytes c =
    rw c.in-Bytes.is (record { kind = refl; atoms = ap (map byte) c.in_ok-runs_at-in-Bytes.ensures ∙ map_runs byte c.args.size c.in-Bytes.v.now c.args.places.now; bits = tt })

pub returns-in_ok-runs_at-in-Boxes : goal.returns-in_ok-runs_at-in-Boxes
returns-in_ok-runs_at-in-Boxes c =
    rw c.in-Boxes.is (record { kind = refl; atoms = ap (map boxed) c.in_ok-runs_at-in-Boxes.ensures ∙ map_runs boxed c.args.size c.in-Boxes.v.now c.args.places.now; bits = tt })
