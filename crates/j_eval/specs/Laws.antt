-- Laws of the definitions.
use Rattle.std.specs.Prelude.{◌≡◌, ℕ, ◌+◌, ◌*◌, ◌≤◌, List, [], length, false}
use Rattle.j_entity.specs.Tree.{WordTree}
use Rattle.j_verbs.specs.State.{State, counted}
use Rattle.j_eval.specs.Applying.{Calls}
use Rattle.j_eval.specs.Meaning.{parsed, queue_of, sentence}

-- The bound on rows and moves is never met: with any greater one a sentence does the same.
abbrev pub BoundIsEnough : Type 0
BoundIsEnough = (calls : Calls) (words : List WordTree) (bound : ℕ) (s : State) → 2 * length words + 3 ≤ bound → counted (parsed bound calls false (queue_of words) []) s ≡ sentence calls words s
