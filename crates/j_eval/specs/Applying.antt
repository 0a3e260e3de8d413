-- What a verb does with one noun or two.
use Rattle.std.specs.Prelude.{ℕ, zero, suc}
use Rattle.j_definitions.specs.declared.Fault.TheVariants.{Nonce, Stack}
use Rattle.j_leaves.specs.Names.{NameParts}
use Rattle.j_entity.specs.Tree.{VerbTree, OperandTree, primitive, named, fork, noun_fork, hook, derived, derived2, explicit, explicit1, explicit2, verb, noun, rank_list}
use Rattle.j_entity.specs.Heights.{verb_height}
use Rattle.j_entity.specs.Ranks.{verb_ranks}
use Rattle.j_verbs.specs.State.{◌>>=◌, fail, counted}
use Rattle.j_verbs.specs.ByRank.{Doing, by_ranks}
use Rattle.j_eval.specs.Names.{locale_named, verb_named, visiting}
use Rattle.j_eval.specs.RunVerbs.{spoken}
use Rattle.j_eval.specs.Trains.{is_cap, forked, noun_forked, hooked}
use Rattle.j_eval.specs.Operands.{Operand, unformed}
use Rattle.j_eval.specs.Modifiers.{adverb, conjunction}

-- what a call of a verb does, by the verb's height
abbrev pub Calls : Type 0
Calls = ℕ → VerbTree → Doing

-- a call of a verb
abbrev pub call : Calls → VerbTree → Doing
call calls v = calls (verb_height v) v

-- A name on one cell or two: it is looked up, which is a step, and the verb that it holds then is called, in the locale of a locative.
abbrev pub named_cell : Calls → NameParts → Doing
named_cell calls n x y = counted (locale_named n >>= (λ l. verb_named n >>= (λ v. visiting l (call calls v x y))))

abbrev mutual
  -- What a verb does on one cell or two. Its parts are applied by their own ranks. Bodies aren't applied yet.
  pub cell : Calls → VerbTree → Doing
  cell calls (primitive p) = spoken p
  cell calls (named n r) = named_cell calls n
  cell calls (fork f g h) = forked (is_cap f) (by_ranks (verb_ranks f) (cell calls f)) (by_ranks (verb_ranks g) (cell calls g)) (by_ranks (verb_ranks h) (cell calls h))
  cell calls (noun_fork n g h) = noun_forked n (by_ranks (verb_ranks g) (cell calls g)) (by_ranks (verb_ranks h) (cell calls h))
  cell calls (hook g h) = hooked (by_ranks (verb_ranks g) (cell calls g)) (by_ranks (verb_ranks h) (cell calls h))
  cell calls (derived m u) = adverb m (record { tree = u; does = does calls u })
  cell calls (derived2 m u v) = conjunction m (record { tree = u; does = does calls u }) (record { tree = v; does = does calls v })
  cell calls (explicit b) = (λ x y. fail Nonce)
  cell calls (explicit1 b u) = (λ x y. fail Nonce)
  cell calls (explicit2 b u v) = (λ x y. fail Nonce)

  -- what an operand does as a verb
  pub does : Calls → OperandTree → Doing
  does calls (verb v) = by_ranks (verb_ranks v) (cell calls v)
  does calls (noun n) = unformed
  does calls (rank_list l) = unformed

-- an operand, as an equation of a modifier sees it
abbrev pub seen : Calls → OperandTree → Operand
seen calls u = record { tree = u; does = does calls u }

-- A verb inside a call: what it does on each cell, by its ranks.
unfoldable pub apply : Calls → VerbTree → Doing
apply calls v = by_ranks (verb_ranks v) (cell calls v)

-- The calls where so many levels are left. A call of a verb takes a level, and one more for each of its height.
abbrev pub nested : ℕ → Calls
nested zero h v x y = fail Stack
nested (suc room) zero v x y = apply (nested room) v x y
nested (suc room) (suc h) v x y = nested room h v x y
