use Rattle.std.proofs.Common.{◌++◌, sym, ap, ◌∙◌, option_map}
use Rattle.j_numbers.specs.Numbers.{parts}
use Rattle.j_eval.specs.Several.{names_of}
use Rattle.j_eval.proofs.SeveralNames.{one_more}
use Rattle.j_eval.proofs.several.names_in.Goals as goal

pub loop-part-preserved : goal.loop-part-preserved
loop-part-preserved c =
    let before = parts c.loop-part.rest.now in
    let behind = parts c.in-Some.after.now in
    c.loop-part.invariant
    ∙ one_more c.loop-part.names.items c.in-Some-2.name c.in-Some.part.now before behind c.in-Some.ensures.0 (sym c.in_ok-name.ensures ∙ c.in-Some-2.is)
    ∙ ap (λ ns. option_map (λ xs. ns ++ xs) (names_of behind)) (sym c.in_ok-push_name.ensures)
