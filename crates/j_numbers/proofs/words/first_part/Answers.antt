use Rattle.std.proofs.Common.{length, take, drop, ◌<◌, ◌-◌, arith}
use Rattle.std.proofs.lemmas.List.{take_rest}
use Rattle.j_numbers.proofs.Parts.{next_part}
use Rattle.j_numbers.proofs.words.first_part.Goals as goal

pub returns : goal.returns
returns c =
    let text = c.args.text.now in
    let start = c.first_nonblank-start.result in
    let before : start < length text = omega arith in
    next_part text start (take (length text - start) (drop start text)) c.first_blank.result c.split_at.result.0.now c.split_at.result.1.now
    c.first_nonblank-start.ensures.place before (take_rest text start) c.first_blank.ensures.place c.split_at.ensures.front c.split_at.ensures.back
