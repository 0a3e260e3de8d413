use Rattle.std.proofs.Common.{◌≡◌, ◌+◌, ◌-◌, ◌++◌, Some, None, ap, sym, ◌∙◌, subst, take, drop, length, arith, rules}
use Rattle.std.proofs.lemmas.List.{take_rest, drop_min, drop-drop, append_assoc}
use Rattle.memchr.specs.Find.{IsFirstByte, is_byte}
use Rattle.j_explicit.specs.Texts.{halved}
use Rattle.j_explicit.proofs.Texts.{quote_halved, none_left}
use Rattle.j_explicit.proofs.text.halved.Goals as goal

pub loop-before-preserved : goal.loop-before-preserved
loop-before-preserved c =
    let text = c.args.text.now in
    let place = c.loop-before.place in
    let n = c.in-Some.before in
    let old = c.loop-before.bytes.items in
    let rest = drop place text in
    let found = subst (λ xs. IsFirstByte (is_byte 39) xs (Some n)) (take_rest text place) c.in-Some.ensures in
    let extended : c.extend_from_slice.new.self.items ≡ old ++ take (place + n + 1 - place) rest = search rules in
    let count : place + n + 1 - place ≡ n + 1 = omega arith in
    let left : drop c.min-place.result text ≡ drop (n + 2) rest =
    ap (λ m. drop m text) c.min-place.ensures ∙ drop_min (place + n + 1 + 1) text ∙ ap (λ m. drop m text) (omega arith) ∙ sym (drop-drop (n + 2) place text) in
    record {
      within = search rules;
      same =
          ap (λ t. t ++ halved (drop c.min-place.result text)) (extended ∙ ap (λ m. old ++ take m rest) count)
          ∙ ap (λ t. (old ++ take (n + 1) rest) ++ halved t) left
          ∙ append_assoc old (take (n + 1) rest) (halved (drop (n + 2) rest))
          ∙ ap (λ t. old ++ t) (sym (quote_halved rest n found))
          ∙ c.loop-before.invariant.same;
    }

pub returns : goal.returns
returns c =
    let text = c.args.text.now in
    let place = c.loop-before.place in
    let old = c.loop-before.bytes.items in
    let extended : c.extend_from_slice-2.new.self.items ≡ old ++ take (length text - place) (drop place text) = search rules in
    extended ∙ ap (λ t. old ++ t) (take_rest text place ∙ sym (none_left (drop place text) (subst (λ xs. IsFirstByte (is_byte 39) xs None) (take_rest text place) c.in_default.ensures)))
    ∙ c.loop-before.invariant.same
