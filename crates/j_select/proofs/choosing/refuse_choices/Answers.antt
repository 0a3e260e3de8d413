use Rattle.std.proofs.Common.{◌∙◌, arith, Result, Ok}
use Rattle.j_definitions.specs.declared.Kind.{Kind}
use Rattle.j_definitions.specs.declared.Fault.{Fault}
use Rattle.j_select.proofs.Listings.{catalogue_kind, chosen_beyond}
use Rattle.j_select.proofs.choosing.refuse_choices.Goals as goal

pub returns-in-Some : goal.returns-in-Some
returns-in-Some c =
    let said : Result Kind Fault = Ok c.in-Some.field-0 in
    catalogue_kind c.args.kind c.args.contents.now said (omega (arith, c.requires)) c.in-Some.ensures.value ∙ chosen_beyond c.args.contents.now c.in-Some.field-0 c.requires
