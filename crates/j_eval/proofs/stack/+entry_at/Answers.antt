use Rattle.std.proofs.Common.{◌≡◌, ◌+◌, ◌-◌, List, [], ◌∷◌, ◌++◌, rules, arith, sym, ap, ◌∙◌}
use Rattle.j_eval.proofs.Stacks.{stack_more, stack_empty, slot_past}
use Rattle.j_eval.specs.Table.{Slot, slot_at}
use Rattle.j_eval.specs.Stack.{slot_of, stack_of}
use Rattle.j_eval.proofs.stack.+entry_at.Goals as goal

pub returns-in-None : goal.returns-in-None
returns-in-None t c = rw (stack_empty c.args.stack.now (search rules))

pub returns-then-k-eq0 : goal.returns-then-k-eq0
returns-then-k-eq0 t c =
    let h : c.args.stack.now ≡ c.in-Some.rest.now ++ c.in-Some.first.now ∷ [] = search rules in
    let k : c.args.k ≡ 0 = omega arith in
    rw (stack_more c.args.stack.now c.in-Some.rest.now c.in-Some.first.now h, k)

pub returns-else-k-eq0 : goal.returns-else-k-eq0
returns-else-k-eq0 t c =
    let h : c.args.stack.now ≡ c.in-Some.rest.now ++ c.in-Some.first.now ∷ [] = search rules in
    let k : c.args.k ≡ c.args.k - 1 + 1 = omega arith in
    c.entry_at.ensures ∙ (sym (slot_past (slot_of c.in-Some.first.now) (stack_of c.in-Some.rest.now) c.args.k (c.args.k - 1) k) ∙ ap (λ (es : List Slot). slot_at es c.args.k) (sym (stack_more c.args.stack.now c.in-Some.rest.now c.in-Some.first.now h)))
