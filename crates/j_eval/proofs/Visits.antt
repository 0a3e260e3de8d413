-- Calls in a locale, and words that change the state of a run.
use Rattle.std.proofs.Common.{◌≡◌, ℕ, List, Option, Some, None, Result, Ok, Err, ap, sym, subst, refl}
use Rattle.j_definitions.specs.Array.{Array}
use Rattle.j_definitions.specs.declared.Fault.{Fault}
use Rattle.j_noun.specs.declared.refusal.Refusal.{Refusal}
use Rattle.j_leaves.specs.declared.primitive.Primitive.{Primitive}
use Rattle.j_leaves.specs.declared.ranks.Ranks.{Ranks}
use Rattle.j_names.specs.Names.{IsRefused}
use Rattle.j_verbs.specs.Answered.{Gives}
use Rattle.j_verbs.specs.ByRank.{by_ranks}
use Rattle.j_verbs.specs.State.{State, Outcome, or_fault}
use Rattle.j_verbs.specs.Words.{word}
use Rattle.j_eval.specs.Halting.{halt_of, halted}
use Rattle.j_eval.specs.Names.{in_locale, back_in}
use Rattle.j_eval.specs.RunVerbs.{run_verb, in_run, spoken, spoken_as}
use Rattle.j_eval.specs.declared.outcome.Halt.{Halt}
use Rattle.j_eval.specs.declared.outcome.Halt.TheVariants as halt
use Rattle.j_eval.specs.declared.run_verbs.RunVerb.{RunVerb}
use Rattle.j_eval.specs.Meets.{Running, Meets}
use Rattle.j_eval.proofs.Parts.{gives_meets}

-- the answer of a call, after which another locale is the current one
pub back_meets : (a : Result Array Halt) (m : Running) (o : Outcome Array) (l : List ℕ) → Meets a m o → Meets a (record m { state = in_locale l m.state }) (back_in l o)
back_meets (Ok y) m o l h = ap (back_in l) h
back_meets (Err (halt.Failed f)) m o l h = ap (back_in l) h
back_meets (Err halt.Spent) m o l h = ap (back_in l) h
back_meets (Err halt.NoMemory) m o l h = tt

-- a refused part
pub refused_part : {A : Type 0} (q : Result A Fault) (r : Refusal) (m : Running) → IsRefused q r → Meets {A = A} (Err (halt_of r)) m (or_fault q m.state)
refused_part {A} (Err f) r m h = subst (λ (r : Refusal). Meets {A = A} (Err (halt_of r)) m (or_fault (Err f) m.state)) (sym h) refl
refused_part {A} (Ok a) r m h = subst (λ (r : Refusal). Meets {A = A} (Err (halt_of r)) m (or_fault (Ok a) m.state)) (sym h) tt

-- a word that isn't a verb of a run
pub spoken_word : (p : Primitive) (x : Option Array) (y : Array) (a : Result Array Refusal) (m : Running) → run_verb p ≡ None → Gives (word p x y) a → Meets (halted a) m (spoken p x y m.state)
spoken_word p x y a m none h = subst (λ (o : Option RunVerb). Meets (halted a) m (spoken_as o p x y m.state)) (sym none) (gives_meets (word p x y) a m h)

pub spoken_whole : (p : Primitive) (r : Ranks) (x : Option Array) (y : Array) (a : Result Array Refusal) (m : Running) → run_verb p ≡ None → Gives (by_ranks r (word p) x y) a
    → Meets (halted a) m (by_ranks r (spoken p) x y m.state)
spoken_whole p r x y a m none h = subst (λ (o : Option RunVerb). Meets (halted a) m (by_ranks r (spoken_as o p) x y m.state)) (sym none) (gives_meets (by_ranks r (word p) x y) a m h)

pub spoken_run : (p : Primitive) (v : RunVerb) (x : Option Array) (y : Array) (a : Result Array Halt) (m : Running) (s : State) → run_verb p ≡ Some v → Meets a m (in_run v x y s) → Meets a m (spoken p x y s)
spoken_run p v x y a m s is h = subst (λ (o : Option RunVerb). Meets a m (spoken_as o p x y s)) (sym is) h
