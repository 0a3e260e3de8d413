use Rattle.std.proofs.Common.{rules, ◌≡◌, ◌≤◌, ◌+◌, ◌++◌, length, take, arith}
use Rattle.j_cli.specs.Answer.{limit}
use Rattle.j_cli.proofs.Parts.{read_more, length_more}
use Rattle.j_cli.proofs.reading.read_text.Goals as goal

pub returns-then-len-eq-LIMIT-clause-most : goal.returns-then-len-eq-LIMIT-clause-most
returns-then-len-eq-LIMIT-clause-most g c =
    let text = c.pieces.text.items in
    let piece = c.read.new.into in
    let full : length text ≡ limit = search rules in
    let one : c.in_ok-count.count ≡ 1 = search rules in (
      text ++ take c.in_ok-count.count piece,
      read_more _ (g.S.Source.left c.pieces.source) _ text piece c.in_ok-count.count c.pieces.invariant.took c.in_ok-count.ensures.bytes c.in_ok-count.ensures.bound (omega arith),
    )

pub returns-then-len-eq-LIMIT-clause-too_long : goal.returns-then-len-eq-LIMIT-clause-too_long
returns-then-len-eq-LIMIT-clause-too_long g c = λ _.
    let text = c.pieces.text.items in
    let piece = c.read.new.into in
    let within : c.in_ok-count.count ≤ length piece = c.in_ok-count.ensures.bound in
    let full : length text ≡ limit = search rules in
    let one : c.in_ok-count.count ≡ 1 = search rules in (
      text ++ take c.in_ok-count.count piece,
      read_more _ (g.S.Source.left c.pieces.source) _ text piece c.in_ok-count.count c.pieces.invariant.took c.in_ok-count.ensures.bytes within (omega arith),
      omega (arith, length_more text piece c.in_ok-count.count within),
    )

pub returns-in_err-extend_from_slice-clause-most : goal.returns-in_err-extend_from_slice-clause-most
returns-in_err-extend_from_slice-clause-most g c =
    let text = c.pieces.text.items in
    let piece = c.read.new.into in
    let room : length text + c.in_ok-count.count ≤ limit = search rules in (
      text ++ take c.in_ok-count.count piece,
      read_more _ (g.S.Source.left c.pieces.source) _ text piece c.in_ok-count.count c.pieces.invariant.took c.in_ok-count.ensures.bytes c.in_ok-count.ensures.bound (omega arith),
    )
