-- What a row does, by the words that it takes.
use Rattle.std.proofs.Common.{◌≡◌, List, ◌∷◌, Some, None, refl}
use Rattle.j_definitions.specs.Array.{Array}
use Rattle.j_entity.specs.Tree.{EntityTree, a_noun, a_verb, an_adverb, a_conjunction, entity}
use Rattle.j_eval.specs.declared.stack.Row.{Row}
use Rattle.j_eval.specs.declared.stack.Row.TheVariants as row
use Rattle.j_eval.specs.Applying.{Calls, call}
use Rattle.j_eval.specs.Meaning.{monad_at, dyad_at, modified, joined, train, bident, assignment, is_local, assigned, word, reduced, reduced_by_places}
use Rattle.j_eval.specs.Stack.{word_at, entity_at, noun_at, verb_at, operand_at, adverb_at, conjunction_at}
use Rattle.j_verbs.specs.State.{State, Outcome, Gave, Erred, Spent, Unit0, then_do, pure}
use Rattle.j_eval.specs.Table.{Slot, Word}

-- what a call gives, as a word
by_call : (o : Outcome Array) (f : EntityTree → List Slot) → then_do o (λ r. pure (f (a_noun r))) ≡ then_do (then_do o (λ r. pure (a_noun r))) (λ e. pure (f e))
by_call (Gave r s) f = refl
by_call (Erred e s) f = refl
by_call (Spent s) f = refl

by_set : (o : Outcome Unit0) (e : EntityTree) (es : List Slot) → then_do o (λ u. pure (word e ∷ es)) ≡ then_do (then_do o (λ u. pure e)) (λ e. pure (word e ∷ es))
by_set (Gave r s) e es = refl
by_set (Erred x s) e es = refl
by_set (Spent s) e es = refl

module _ (calls : Calls) (s : State) where
  pub reduced_is : (r : Row) (es : List Slot) → reduced calls r es s ≡ reduced_by_places calls r es s
  unfolding reduced reduced_by_places monad_at dyad_at modified joined train bident assignment word_at entity_at noun_at verb_at operand_at adverb_at conjunction_at
  reduced_is row.Monad (a ∷ Word (entity (a_verb v)) ∷ Word (entity (a_noun y)) ∷ es) = by_call (call calls v None y s) (λ e. a ∷ word e ∷ es)
  reduced_is row.MonadRight (a ∷ b ∷ Word (entity (a_verb v)) ∷ Word (entity (a_noun y)) ∷ es) = by_call (call calls v None y s) (λ e. a ∷ b ∷ word e ∷ es)
  reduced_is row.Dyad (a ∷ Word (entity (a_noun x)) ∷ Word (entity (a_verb v)) ∷ Word (entity (a_noun y)) ∷ es) = by_call (call calls v (Some x) y s) (λ e. a ∷ word e ∷ es)
  reduced_is row.Conjunction (a ∷ u ∷ Word (entity (a_conjunction c)) ∷ v ∷ es) = refl
  reduced_is row.Adverb (a ∷ u ∷ Word (entity (an_adverb b)) ∷ es) = refl
  reduced_is row.Fork (a ∷ f ∷ Word (entity (a_verb g)) ∷ Word (entity (a_verb h)) ∷ es) = refl
  reduced_is row.Bident (a ∷ Word (entity b) ∷ Word c ∷ es) = refl
  reduced_is row.Assignment (a ∷ c ∷ Word (entity e) ∷ es) = by_set (assigned (is_local (Some c)) (Some a) e s) e es
  reduced_is row.Parentheses (a ∷ Word (entity e) ∷ es) = refl
  reduced_is r es = refl
