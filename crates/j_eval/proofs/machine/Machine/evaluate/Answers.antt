use Rattle.std.proofs.Common.{rules, arith, sym, ◌∙◌, ◌≡◌, ◌+◌, ◌*◌, ◌-◌, List, [], length, map, subst, false, true, Some, None, ap}
use Rattle.j_entity.specs.View.{word_of}
use Rattle.j_eval.specs.Applying.{nested}
use Rattle.j_eval.specs.Table.{row_of}
use Rattle.j_eval.specs.Stack.{stack_of}
use Rattle.j_eval.specs.Meaning.{queue_of, finished, parsed, sentence}
use Rattle.j_eval.specs.Meets.{MeetsAs, given_of}
use Rattle.std.proofs.lemmas.List.{length-map}
use Rattle.j_eval.specs.Table.{Slot}
use Rattle.j_eval.proofs.Stacks.{stack_nil}
use Rattle.j_eval.proofs.Shorter.{items_left}
use Rattle.j_eval.proofs.Sentences.{sentence_begun, queue_rest, marks, tick_err, reduce_more, reduce_err, item_more, item_err, mark_more, queue_end, still_open}
use Rattle.j_eval.proofs.machine.Machine.evaluate.Goals as goal

pub returns-in_err-tick-2-clause-gives : goal.returns-in_err-tick-2-clause-gives
returns-in_err-tick-2-clause-gives c =
    let v = c.turns.invariant in
    let is : row_of (stack_of c.turns.stack.items) ≡ Some c.in-Some.row = search rules in
    let h = tick_err (nested c.args.room) c.turns.quiet (queue_rest c.turns.started (map word_of c.turns.left.now)) (stack_of c.turns.stack.items) c.turns.self.state v.bound c.in-Some.row c.in_err-tick-2.field-0.0 c.tick-in-Some.new.self
    (sentence (nested c.args.room) (map word_of c.args.items.now) c.args.self.now.state) (omega (arith, v.enough)) is v.same c.in_err-tick-2.ensures.gives in
    search rules

pub turns-preserved-in-Some : goal.turns-preserved-in-Some
turns-preserved-in-Some c =
    let v = c.turns.invariant in
    let is : row_of (stack_of c.turns.stack.items) ≡ Some c.in-Some.row = search rules in
    let more = reduce_more (nested c.args.room) c.turns.quiet (queue_rest c.turns.started (map word_of c.turns.left.now)) (stack_of c.turns.stack.items) c.turns.self.state v.bound c.in-Some.row (stack_of c.reduce.new.stack.items)
    c.tick-in-Some.new.self.state c.reduce.new.self.state (omega (arith, v.enough)) is c.in_ok-tick-2.ensures.gives c.in_ok-reduce.ensures.gives in
    let short = items_left (nested c.args.room) c.in-Some.row c.turns.stack.items c.reduce.new.stack.items c.tick-in-Some.new.self.state c.reduce.new.self.state c.in_ok-reduce.ensures.gives in
    record {
      bound = v.bound - 1;
      enough = omega (arith, v.enough, short.1);
      same = ap (λ q. parsed (v.bound - 1) (nested c.args.room) q (queue_rest c.turns.started (map word_of c.turns.left.now)) (stack_of c.reduce.new.stack.items) c.reduce.new.self.state) c.is_assignment-quiet.ensures ∙ sym more ∙ v.same;
      ended = λ e. ((v.ended e).0, short.0);
      onward = search rules;
    }

pub returns-in_err-reduce-clause-gives : goal.returns-in_err-reduce-clause-gives
returns-in_err-reduce-clause-gives c =
    let v = c.turns.invariant in
    let is : row_of (stack_of c.turns.stack.items) ≡ Some c.in-Some.row = search rules in
    let h = reduce_err (nested c.args.room) c.turns.quiet (queue_rest c.turns.started (map word_of c.turns.left.now)) (stack_of c.turns.stack.items) c.turns.self.state v.bound c.in-Some.row c.in_err-reduce.field-0.0 c.reduce.new.self
    c.tick-in-Some.new.self.state (stack_of c.reduce.new.stack.items) (sentence (nested c.args.room) (map word_of c.args.items.now) c.args.self.now.state) (omega (arith, v.enough)) is c.in_ok-tick-2.ensures.gives v.same c.in_err-reduce.ensures.gives in
    search rules

pub turns-preserved-in-Some-split_last : goal.turns-preserved-in-Some-split_last
turns-preserved-in-Some-split_last c =
    let v = c.turns.invariant in
    let last = c.in-Some-split_last.ensures.cases in
    let none : row_of (stack_of c.turns.stack.items) ≡ None = search rules in
    let unstarted : c.turns.started ≡ false = still_open c.turns.started c.turns.left.now (λ e. (v.ended e).0) (omega (arith, last.1)) in
    let more = item_more (nested c.args.room) c.turns.quiet c.turns.started c.turns.left.now c.in-Some-split_last.rest.now c.in-Some-split_last.item.now (stack_of c.turns.stack.items) (stack_of c.move_word.new.stack.items)
    c.turns.self.state v.bound unstarted last.0 c.in_ok-move_word.ensures.gives (omega (arith, v.enough)) none in
    record {
      bound = v.bound - 1;
      enough = omega (arith, v.enough, last.1, c.in_ok-move_word.ensures.one);
      same = sym more ∙ v.same;
      ended = λ e. absurd (let no : false ≡ true = sym unstarted ∙ e in cc);
      onward = v.onward;
    }

pub returns-in_err-move_word-clause-gives : goal.returns-in_err-move_word-clause-gives
returns-in_err-move_word-clause-gives c =
    let v = c.turns.invariant in
    let last = c.in-Some-split_last.ensures.cases in
    let none : row_of (stack_of c.turns.stack.items) ≡ None = search rules in
    let unstarted : c.turns.started ≡ false = still_open c.turns.started c.turns.left.now (λ e. (v.ended e).0) (omega (arith, last.1)) in
    let h = item_err (nested c.args.room) c.turns.quiet c.turns.started c.turns.left.now c.in-Some-split_last.rest.now c.in-Some-split_last.item.now (stack_of c.turns.stack.items) (stack_of c.move_word.new.stack.items) c.in_err-move_word.field-0.0
    c.turns.self v.bound (sentence (nested c.args.room) (map word_of c.args.items.now) c.args.self.now.state) unstarted last.0 (omega (arith, v.enough)) none v.same c.in_err-move_word.ensures.gives in
    search rules

pub turns-preserved : goal.turns-preserved
turns-preserved c =
    let v = c.turns.invariant in
    let none : row_of (stack_of c.turns.stack.items) ≡ None = search rules in
    let empty : length c.turns.left.now ≡ 0 = search rules in
    let unstarted : c.turns.started ≡ false = search rules in
    let pushed = c.in_ok-push.ensures in
    let left : marks c.turns.started ≡ 1 = ap marks unstarted in
    let more = mark_more (nested c.args.room) c.turns.quiet c.turns.started c.turns.left.now (stack_of c.turns.stack.items) (stack_of c.push.new.stack.items) c.turns.self.state v.bound unstarted empty pushed.0 (omega (arith, v.enough)) none in
    record {
      bound = v.bound - 1;
      enough = omega (arith, v.enough, left, pushed.1);
      same = sym more ∙ v.same;
      ended = λ _. (empty, omega (arith, pushed.1));
      onward = v.onward;
    }

pub returns-else-not-started-clause-gives : goal.returns-else-not-started-clause-gives
returns-else-not-started-clause-gives c =
    let v = c.turns.invariant in
    let none : row_of (stack_of c.turns.stack.items) ≡ None = search rules in
    let started : c.turns.started ≡ true = search rules in
    let end = queue_end (nested c.args.room) c.turns.quiet c.turns.started (map word_of c.turns.left.now) (stack_of c.turns.stack.items) c.turns.self.state v.bound started (omega (arith, v.enough)) none in
    let f : MeetsAs given_of c.finished.result c.turns.self (finished c.turns.quiet (stack_of c.turns.stack.items) c.turns.self.state) = search rules in
    subst (MeetsAs given_of c.finished.result c.turns.self) (sym end ∙ v.same) f

pub turns-init : goal.turns-init
turns-init c =
    let words = map word_of c.args.items.now in
    let none : stack_of c.empty_stack-stack.result.items ≡ [] = stack_nil c.empty_stack-stack.result.items c.empty_stack-stack.ensures in
    record {
      bound = 2 * length words + 3;
      enough = omega (arith, length-map c.args.items.now word_of, ap length c.empty_stack-stack.ensures);
      same = ap (λ (es : List Slot). parsed (2 * length words + 3) (nested c.args.room) false (queue_of words) es c.tick.new.self.state) none ∙ sentence_begun (nested c.args.room) words c.args.self.now.state c.tick.new.self.state c.in_ok-tick.ensures.gives;
      ended = λ e. absurd (cc);
      onward = search rules;
    }

pub turns-smaller-in-Some : goal.turns-smaller-in-Some
turns-smaller-in-Some c =
    let short = items_left (nested c.args.room) c.in-Some.row c.turns.stack.items c.reduce.new.stack.items c.tick-in-Some.new.self.state c.reduce.new.self.state c.in_ok-reduce.ensures.gives in
    omega (arith, short.1)
