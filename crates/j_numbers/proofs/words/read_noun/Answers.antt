use Rattle.std.proofs.Common.{length, Err, ◌≤◌, sym, ap, ◌∙◌, arith}
use Rattle.j_numbers.proofs.Readings.{fault_given, noun_beyond}
use Rattle.j_noun.specs.declared.ranks.RankPart.TheVariants.{Number}
use Rattle.std.specs.Prelude.{map}
use Rattle.std.proofs.lemmas.List.{length-map}
use Rattle.j_numbers.proofs.words.read_noun.Goals as goal

pub returns-then-len-eq-MOST_PARTS-clause-err : goal.returns-then-len-eq-MOST_PARTS-clause-err
returns-then-len-eq-MOST_PARTS-clause-err c =
    let many : 4194304 ≤ length c.loop-part.numbers.items = omega (arith, c.len.ensures, c.if-len-eq-MOST_PARTS.true) in
    fault_given _ _ (sym c.loop-part.invariant.same ∙ noun_beyond (map Number c.loop-part.numbers.items) c.loop-part.rest.now c.in-Some-first_part.part.now c.in-Some-first_part.after.now c.in-Some-first_part.ensures.0 (omega (arith, many, length-map c.loop-part.numbers.items Number)) ∙ ap Err (sym c.fault_beyond.ensures))
