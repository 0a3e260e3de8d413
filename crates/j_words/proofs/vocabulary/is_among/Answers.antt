use Rattle.std.proofs.Common.{◌≡◌, drop, sym, ap, ◌∙◌, ⊎_elim, bytes_eq, get_or, arith}
use Rattle.std.proofs.lemmas.Bool.{cases_lt}
use Rattle.std.proofs.lemmas.List.{take_rest}
use Rattle.j_words.specs.Vocabulary.{is_among}
use Rattle.j_words.proofs.Scans.{among_step, among_last}
use Rattle.j_words.proofs.vocabulary.is_among.Goals as goal
use Rattle.j_words.proofs.vocabulary.is_among.Goals.{then-b-eq32+else-is_same, else-b-eq32}

pub loop-place-preserved : goal.loop-place-preserved
loop-place-preserved c =
    let word = c.args.word.now in
    let text = c.args.text.now in
    let start = c.loop-place.start in
    let place = c.loop-place.place in
    let was = c.loop-place.invariant in
    elim c.if-b-eq32.branch [
      | then-b-eq32+else-is_same w ↦
          let e = w.start-is in
          record {
            within = omega arith;
            none = λ k a b. absurd (omega arith);
            same = ap (λ n. is_among word (drop n text)) e ∙ sym (among_step word text start place was.within c.loop-place-test.true was.none w.if-b-eq32.true (sym w.is_same.ensures ∙ w.if-is_same.false)) ∙ was.same;
          }
      | else-b-eq32 w ↦
          let e = w.start-is in
          record {
            within = omega (arith, was.within);
            none = λ k a b. ⊎_elim (λ before. was.none k (omega arith) before) (λ here. let at : k ≡ place = omega arith in λ s. w.if-b-eq32.false (ap (λ n. get_or text n 0) (sym at) ∙ s)) (cases_lt k place);
            same = ap (λ n. is_among word (drop n text)) e ∙ was.same;
          }
    ]

pub returns : goal.returns
returns c =
    let word = c.args.word.now in
    let text = c.args.text.now in
    let start = c.loop-place.start in
    let was = c.loop-place.invariant in
    c.is_same-2.ensures ∙ ap (λ xs. bytes_eq xs word) (take_rest text start)
    ∙ sym (among_last word text start (omega (arith, was.within, c.loop-place.auto.place-end)) (λ k a b. was.none k a (omega (arith, c.loop-place-test.false)))) ∙ was.same
