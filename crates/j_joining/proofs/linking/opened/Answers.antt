use Rattle.std.proofs.Common.{◌∙◌, ap, sym, Ok, Result}
use Rattle.j_definitions.specs.Array.{Array}
use Rattle.j_definitions.specs.declared.Fault.{Fault}
use Rattle.j_joining.proofs.Contents.{content_held}
use Rattle.j_joining.proofs.linking.opened.Goals as goal

pub returns-in_ok-duplicate-in-Boxes : goal.returns-in_ok-duplicate-in-Boxes
returns-in_ok-duplicate-in-Boxes c =
    content_held c.args.y.now c.in-Boxes.v.now c.index-v-0.result c.view.ensures.noun c.requires c.in-Boxes.ensures.atoms c.index-v-0.is
    ∙ ap (λ (a : Array). let r : Result Array Fault = Ok a in r) (sym c.in_ok-duplicate-in-Boxes.ensures.ok)
