use Rattle.std.proofs.Common.{◌<◌, ◌+◌, Some, None, sym, ◌∙◌, subst, length, arith}
use Rattle.std.proofs.lemmas.List.{take_rest, length-drop}
use Rattle.memchr.specs.Find.{IsFirstByte, is_byte}
use Rattle.j_words.proofs.Scans.{first_doubled, first_closed, first_ended, text_open}
use Rattle.j_words.proofs.forms.text_bytes.Goals as goal
use Rattle.j_words.proofs.forms.text_bytes.Goals.{then-after-bytes-via-then-after-bytes, then-after-bytes-via-else-after-bytes+then-bytes-after-ne39}

pub returns-then-after-bytes-clause-same : goal.returns-then-after-bytes-clause-same
returns-then-after-bytes-clause-same c =
    let bytes = c.args.bytes.now in
    let place = c.loop-before.place in
    let found = subst (λ xs. IsFirstByte (is_byte 39) xs (Some c.in-Some.before)) (take_rest bytes place) c.in-Some.ensures in
    elim c.then-after-bytes.branch [
      | then-after-bytes-via-then-after-bytes w ↦ sym (first_ended bytes place c.in-Some.before found w.if-after-bytes.true) ∙ c.loop-before.invariant.same
      | then-after-bytes-via-else-after-bytes+then-bytes-after-ne39 w ↦ sym (first_closed bytes place c.in-Some.before found (omega (arith, found.0.high, length-drop place bytes, w.if-after-bytes.false)) w.if-bytes-after-ne39.true) ∙ c.loop-before.invariant.same
    ]

pub loop-before-preserved : goal.loop-before-preserved
loop-before-preserved c =
    let bytes = c.args.bytes.now in
    let place = c.loop-before.place in
    let found = subst (λ xs. IsFirstByte (is_byte 39) xs (Some c.in-Some.before)) (take_rest bytes place) c.in-Some.ensures in
    let within : place + c.in-Some.before + 1 < length bytes = omega (arith, found.0.high, length-drop place bytes) in
    record {
      within = omega (arith, within);
      same = sym (first_doubled bytes place c.in-Some.before found within c.if-bytes-after-ne39.false) ∙ c.loop-before.invariant.same;
    }

pub returns-clause-same : goal.returns-clause-same
returns-clause-same c =
    let bytes = c.args.bytes.now in
    let place = c.loop-before.place in
    sym (text_open bytes place c.loop-before.invariant.within (subst (λ xs. IsFirstByte (is_byte 39) xs None) (take_rest bytes place) c.in_default.ensures)) ∙ c.loop-before.invariant.same
