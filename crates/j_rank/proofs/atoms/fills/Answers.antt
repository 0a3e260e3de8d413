use Rattle.std.proofs.Common.{◌∙◌, ap, pos, map, replicate, refl}
use Rattle.j_definitions.specs.Array.{Array, number, byte, boxed}
use Rattle.j_rank.proofs.Made.{fills_map, no_bits}
use Rattle.j_rank.proofs.atoms.fills.Goals as goal

pub returns-in_ok-filled-in-Number : goal.returns-in_ok-filled-in-Number
returns-in_ok-filled-in-Number c =
    rw c.in-Number.is (record { kind = refl; atoms = ap (map (λ b. number (pos b))) c.in_ok-filled-in-Number.ensures ∙ fills_map (λ b. number (pos b)) 0 c.args.count; bits = no_bits _ c.args.count c.in_ok-filled-in-Number.ensures })

pub returns-in_ok-filled-in-Character : goal.returns-in_ok-filled-in-Character
returns-in_ok-filled-in-Character c =
    rw c.in-Character.is (record { kind = refl; atoms = ap (map byte) c.in_ok-filled-in-Character.ensures ∙ fills_map byte 32 c.args.count; bits = tt })

pub returns-in_ok-filled-in-Boxed : goal.returns-in_ok-filled-in-Boxed
returns-in_ok-filled-in-Boxed c =
    rw c.in-Boxed.is (record { kind = refl; atoms = ap (map boxed) c.in_ok-filled-in-Boxed.ensures ∙ fills_map boxed c.in_ok-list-in-Boxed.list c.args.count ∙ ap (λ (a : Array). replicate c.args.count (boxed a)) c.in_ok-list-in-Boxed.ensures; bits = tt })
