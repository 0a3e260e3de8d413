use Rattle.std.proofs.Common.{◌≡◌, ℕ, ◌+◌, ◌*◌, ◌<◌, length, map, true}
use Rattle.j_entity.specs.View.{word_of}
use Rattle.j_eval.specs.Applying.{nested}
use Rattle.j_eval.specs.Meaning.{parsed, sentence}
use Rattle.j_eval.specs.Stack.{stack_of}
use Rattle.j_eval.specs.Meets.{Onward}
use Rattle.j_eval.proofs.Sentences.{queue_rest, marks}
use Rattle.j_eval.proofs.machine.Machine.evaluate.Given as goal

-- what is left from here is the whole
abbrev pub invariant-turns : goal.invariant-turns
invariant-turns l = record {
  bound : ℕ;
  enough : 2 * (length l.left + marks l.started) + length l.stack.items < bound;
  same : parsed bound (nested l.room) l.quiet (queue_rest l.started (map word_of l.left)) (stack_of l.stack.items) l.self.state ≡ sentence (nested l.room) (map word_of l.items) l.fn.self.state;
  ended : l.started ≡ true → (length l.left ≡ 0) × (0 < length l.stack.items);
  onward : Onward l.fn.self l.self;
}

abbrev pub decreases-turns : goal.decreases-turns
decreases-turns l = 2 * (length l.left + marks l.started) + length l.stack.items
