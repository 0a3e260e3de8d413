-- What the obverse of an operand does.
use Rattle.std.proofs.Common.{◌≡◌, Result, Option, Some, None, subst, refl}
use Rattle.j_definitions.specs.Array.{Array}
use Rattle.j_definitions.specs.declared.Fault.TheVariants.{Domain}
use Rattle.j_leaves.specs.declared.primitive.Primitive.{Primitive}
use Rattle.j_entity.specs.Tree.{VerbTree, primitive}
use Rattle.j_trains.specs.Obverses.{verb_of_word}
use Rattle.j_eval.specs.declared.outcome.Halt.{Halt}
use Rattle.j_eval.specs.Applying.{Calls, apply}
use Rattle.j_eval.specs.Compositions.{word_does}
use Rattle.j_eval.specs.Meets.{Running, Meets}
use Rattle.j_verbs.specs.State.{State, Erred}

pub undone : (calls : Calls) (o : Option Primitive) (w : VerbTree) (a : Result Array Halt) (m : Running) (y : Array) (s : State) → Some w ≡ verb_of_word o → Meets a m (apply calls w None y s) → Meets a m (word_does o None y s)
unfolding apply
undone calls None w a m y s e h = absurd (cc)
undone calls (Some p) w a m y s e h = let same : w ≡ primitive p = cc in subst (λ (w : VerbTree). Meets a m (apply calls w None y s)) same h

pub not_undone : (o : Option Primitive) (y : Array) (s : State) → None ≡ verb_of_word o → word_does o None y s ≡ Erred Domain s
not_undone None y s e = refl
not_undone (Some p) y s e = absurd (cc)
