use Rattle.std.proofs.Common.{◌∙◌, ap, map, refl}
use Rattle.j_definitions.specs.Array.{Array, boxed}
use Rattle.j_noun.specs.declared.noun.Atoms.TheVariants.{Boxes}
use Rattle.j_select.specs.Catalogue.{boxes_of_choices}
use Rattle.j_indices.specs.Choices.{choices}
use Rattle.j_select.specs.Listed.{listed}
use Rattle.j_indices.proofs.Answering.{answers}
use Rattle.j_indices.proofs.Chosen.{map_map}
use Rattle.j_select.proofs.choosing.boxes_of_choices.Goals as goal

pub returns : goal.returns
returns c =
    let chosen = choices (map (λ (a : Array). a.atoms) c.args.contents.now) in
    answers c.args.frame (Boxes c.in_ok-chosen.chosen) (boxes_of_choices c.args.contents.now chosen c.args.kind) c.make.result c.requires.frame
    (record { kind = refl; atoms = ap (map boxed) c.in_ok-chosen.ensures ∙ map_map boxed (listed c.args.kind) chosen; bits = tt }) c.make.ensures.limited
