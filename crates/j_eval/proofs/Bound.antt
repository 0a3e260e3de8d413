-- The bound on rows and moves is never met.
use Rattle.std.proofs.Common.{◌≡◌, ℕ, zero, suc, ◌+◌, ◌*◌, ◌<◌, List, [], ◌∷◌, length, map, Bool, false, nat_lt, if◌then◌else◌, Option, Some, None, refl, ap, ◌∙◌, arith}
use Rattle.std.proofs.lemmas.List.{length-reverse, length-map}
use Rattle.j_entity.specs.Tree.{WordTree}
use Rattle.j_verbs.specs.State.{State, Outcome, Gave, Erred, Spent, Run, then_do, ◌>>=◌, pure, counted}
use Rattle.j_eval.specs.declared.stack.Row.{Row}
use Rattle.j_eval.specs.Applying.{Calls}
use Rattle.j_eval.specs.Laws.{BoundIsEnough}
use Rattle.j_eval.specs.Meaning.{Given, goes_on, next_slot, is_assignment, word_moved, moved, finished, reduced, parsed, queue_of}
use Rattle.j_eval.specs.Table.{Slot, Start, Word, row_of, is_copula, kind_at}
use Rattle.j_eval.proofs.Shorter.{left_shorter}

abbrev next : State → State
next s = record s { steps = s.steps + 1 }

-- what follows may differ where nothing is given
then_same : {A B : Type 0} (o : Outcome A) (go go' : A → Run B) → ((a : A) (t : State) → o ≡ Gave a t → go a t ≡ go' a t) → then_do o go ≡ then_do o go'
then_same (Gave a t) go go' h = h a t refl
then_same (Erred e t) go go' h = refl
then_same (Spent t) go go' h = refl

put_long : (o : Outcome WordTree) (es es' : List Slot) (t : State) → then_do o (λ v. pure (Word v ∷ es)) ≡ Gave es' t → length es' ≡ suc (length es)
put_long (Gave v s) es es' t h = let e : es' ≡ Word v ∷ es = cc in ap length e
put_long (Erred x s) es es' t h = absurd (cc)
put_long (Spent s) es es' t h = absurd (cc)

-- a move makes the stack longer by one
moved_long : (e : Slot) (es es' : List Slot) (s t : State) → moved es e s ≡ Gave es' t → length es' ≡ suc (length es)
moved_long Start es es' s t h = let e : es' ≡ Start ∷ es = cc in ap length e
moved_long (Word w) es es' s t h = put_long (word_moved (is_copula (kind_at es 0)) w s) es es' t h

module _ (calls : Calls) where
  -- two bounds that are enough give the same
  abbrev Same : ℕ → ℕ → Type 0
  Same k j = (quiet : Bool) (queue es : List Slot) (s : State) → 2 * length queue + length es < k → 2 * length queue + length es < j → parsed k calls quiet queue es s ≡ parsed j calls quiet queue es s

  move : (k j : ℕ) → Same k j → (quiet : Bool) (queue es : List Slot) (s : State) → 2 * length queue + length es < suc k → 2 * length queue + length es < suc j →
      next_slot queue (λ e queue. moved es e >>= parsed k calls quiet queue) (finished quiet es) s ≡ next_slot queue (λ e queue. moved es e >>= parsed j calls quiet queue) (finished quiet es) s
  move k j again quiet [] es s l m = refl
  move k j again quiet (e ∷ queue) es s l m =
      then_same (moved es e s) (parsed k calls quiet queue) (parsed j calls quiet queue)
      (λ es' t h. let n = moved_long e es es' s t h in again quiet queue es' t (omega (arith, n)) (omega (arith, n)))

  turn : (k j : ℕ) → Same k j → (quiet : Bool) (queue es : List Slot) (s : State) → 2 * length queue + length es < suc k → 2 * length queue + length es < suc j → (o : Option Row) →
      goes_on o (λ r. counted (reduced calls r es >>= parsed k calls (is_assignment r) queue)) (next_slot queue (λ e queue. moved es e >>= parsed k calls quiet queue) (finished quiet es)) s
      ≡ goes_on o (λ r. counted (reduced calls r es >>= parsed j calls (is_assignment r) queue)) (next_slot queue (λ e queue. moved es e >>= parsed j calls quiet queue) (finished quiet es)) s
  turn k j again quiet queue es s l m None = move k j again quiet queue es s l m
  turn k j again quiet queue es s l m (Some r) =
      ap (λ (o : Outcome Given). if nat_lt s.steps s.budget then o else Spent s) (
      then_same (reduced calls r es (next s)) (parsed k calls (is_assignment r) queue) (parsed j calls (is_assignment r) queue)
      (λ es' t h. let n = left_shorter calls r es es' (next s) t h in again (is_assignment r) queue es' t (omega (arith, n.1)) (omega (arith, n.1)))
      )

  enough : (k j : ℕ) → Same k j
  enough zero j quiet queue es s l m = absurd (omega arith)
  enough (suc k) zero quiet queue es s l m = absurd (omega arith)
  enough (suc k) (suc j) quiet queue es s l m = turn k j (enough k j) quiet queue es s l m (row_of es)

queue_long : (words : List WordTree) → length (queue_of words) ≡ suc (length words)
queue_long words = length-reverse (Start ∷ map Word words) ∙ ap suc (length-map words Word)

pub bound_is_enough : BoundIsEnough
bound_is_enough calls words bound s l =
    let n = queue_long words in
    ap (λ (o : Outcome Given). if nat_lt s.steps s.budget then o else Spent s) (enough calls bound (2 * length words + 3) false (queue_of words) [] (record s { steps = s.steps + 1 }) (omega (arith, n)) (omega (arith, n)))
