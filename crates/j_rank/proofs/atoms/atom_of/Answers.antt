use Rattle.std.proofs.Common.{◌<◌, ◌∙◌, ap, arith, refl, rules, length, pos, get_or, w64, FitsSigned}
use Rattle.std.proofs.lemmas.Int.{to_z-of_z}
use Rattle.std.proofs.lemmas.List.{length-map}
use Rattle.j_definitions.specs.Array.{number, byte, boxed, atom_array}
use Rattle.j_definitions.specs.declared.Kind.TheVariants.{Number, Character, Boxed}
use Rattle.j_rank.proofs.Parts.{one_atom, if_ok}
use Rattle.j_rank.proofs.atoms.atom_of.Goals as goal

pub returns-in-Wholes-clause-ok : goal.returns-in-Wholes-clause-ok
returns-in-Wholes-clause-ok c =
    let within : c.args.k < length c.in-Wholes.v.now = omega (arith, c.requires, ap length c.in-Wholes.ensures.atoms, length-map c.in-Wholes.v.now number) in
    let fits : FitsSigned w64 (get_or c.in-Wholes.v.now c.args.k (pos 0)) = search rules in
    c.number.ensures ∙ one_atom number c.args.y.now c.in-Wholes.v.now Number c.args.k _ (pos 0) c.in-Wholes.ensures.atoms c.in-Wholes.ensures.kind within (to_z-of_z w64 _ fits)

pub returns-in-Bits-clause-ok : goal.returns-in-Bits-clause-ok
returns-in-Bits-clause-ok c =
    let within : c.args.k < length c.in-Bits.v.now = omega (arith, c.requires, ap length c.in-Bits.ensures.atoms, length-map c.in-Bits.v.now (λ b. number (pos b))) in
    let fits : FitsSigned w64 c.from.result = search rules in
    c.number-in-Bits.ensures ∙ ap (λ z. atom_array Number (number z)) (to_z-of_z w64 c.from.result fits ∙ c.from.ensures)
    ∙ one_atom (λ b. number (pos b)) c.args.y.now c.in-Bits.v.now Number c.args.k (get_or c.in-Bits.v.now c.args.k 0) 0 c.in-Bits.ensures.atoms c.in-Bits.ensures.kind within refl

pub returns-in-Bytes-clause-ok : goal.returns-in-Bytes-clause-ok
returns-in-Bytes-clause-ok c =
    let within : c.args.k < length c.in-Bytes.v.now = omega (arith, c.requires, ap length c.in-Bytes.ensures.atoms, length-map c.in-Bytes.v.now byte) in
    c.character.ensures ∙ one_atom byte c.args.y.now c.in-Bytes.v.now Character c.args.k _ 0 c.in-Bytes.ensures.atoms c.in-Bytes.ensures.kind within refl

pub returns-in-Boxes-clause-ok : goal.returns-in-Boxes-clause-ok
returns-in-Boxes-clause-ok c =
    let within : c.args.k < length c.in-Boxes.v.now = omega (arith, c.requires, ap length c.in-Boxes.ensures.atoms, length-map c.in-Boxes.v.now boxed) in
    if_ok c.box_of.result (one_atom boxed c.args.y.now c.in-Boxes.v.now Boxed c.args.k c.index-v-k.result c.index-v-k.result c.in-Boxes.ensures.atoms c.in-Boxes.ensures.kind within c.index-v-k.is) c.box_of.ensures
