use Rattle.std.proofs.Common.{◌∙◌, sym, ap, pos, get_or, w64, FitsSigned, rules, map, Ok}
use Rattle.std.proofs.lemmas.Int.{to_z-of_z}
use Rattle.j_definitions.specs.Array.{number}
use Rattle.j_definitions.specs.Cells.{in_order}
use Rattle.j_reshaping.specs.Reshaping.{length_of}
use Rattle.j_reshaping.proofs.Orderly.{orderly_more, orderly_fault, orderly_all, map-map}
use Rattle.j_reshaping.proofs.reshaping.whole_lengths.Goals as goal

pub returns-in-Err : goal.returns-in-Err
returns-in-Err c =
    let fits : FitsSigned w64 (get_or c.args.numbers.now c.loop-z.z-index (pos 0)) = search rules in
    ap in_order (map-map length_of number c.args.numbers.now)
    ∙ orderly_fault (λ z. length_of (number z)) c.args.numbers.now c.loop-z.z-index (pos 0) c.loop-z.lengths.items c.in-Err.fault c.loop-z-test.true c.loop-z.invariant
    (ap (λ z. length_of (number z)) (sym (to_z-of_z w64 _ fits)) ∙ sym c.in-Err.ensures)

pub loop-z-preserved : goal.loop-z-preserved
loop-z-preserved c =
    let fits : FitsSigned w64 (get_or c.args.numbers.now c.loop-z.z-index (pos 0)) = search rules in
    orderly_more (λ z. length_of (number z)) c.args.numbers.now c.loop-z.z-index (pos 0) c.loop-z.lengths.items c.in-Ok.n c.loop-z-test.true c.loop-z.invariant
    (ap (λ z. length_of (number z)) (sym (to_z-of_z w64 _ fits)) ∙ sym c.in-Ok.ensures)
    ∙ ap (map Ok) (sym c.in_ok-append_length-in-Ok.ensures)

pub returns : goal.returns
returns c =
    ap in_order (map-map length_of number c.args.numbers.now)
    ∙ orderly_all (λ z. length_of (number z)) c.args.numbers.now c.loop-z.z-index c.loop-z.lengths.items c.loop-z-test.false c.loop-z.invariant
