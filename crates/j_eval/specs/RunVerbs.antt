-- The verbs that change the state of a run.
use Rattle.std.specs.Prelude.{ℕ, List, [], ◌∷◌, Option, Some, None, Result, Ok, Err}
use Rattle.j_definitions.specs.Array.{Array}
use Rattle.j_definitions.specs.declared.Fault.{Fault}
use Rattle.j_definitions.specs.declared.Fault.TheVariants.{Domain}
use Rattle.j_definitions.specs.declared.Kind.TheVariants.{Number}
use Rattle.j_entity.specs.Tree.{a_noun}
use Rattle.j_leaves.specs.declared.primitive.Primitive.{Primitive}
use Rattle.j_leaves.specs.declared.primitive.Primitive.TheVariants as p
use Rattle.j_names.specs.Locales.{locale_given}
use Rattle.j_verbs.specs.State.{Run, Gave, ◌>>=◌, pure, fail, or_fault}
use Rattle.j_verbs.specs.ByRank.{Doing}
use Rattle.j_verbs.specs.Words.{word}
use Rattle.j_eval.specs.Names.{in_locale}
use Rattle.j_eval.specs.Showing.{show}
use Rattle.j_eval.specs.declared.run_verbs.RunVerb.{RunVerb}
use Rattle.j_eval.specs.declared.run_verbs.RunVerb.TheVariants.{Echo, Cocurrent}

-- which verb of a run a word is, if it is one
abbrev pub run_verb : Primitive → Option RunVerb
run_verb p.Echo = Some Echo
run_verb p.Cocurrent = Some Cocurrent
run_verb _ = None

-- `i. 0 0`
abbrev pub no_rows : Array
no_rows = record { kind = Number; shape = 0 ∷ 0 ∷ []; atoms = [] }

-- shows a noun
abbrev pub echo : Array → Run Array
echo y = show (a_noun y) >>= (λ u. pure no_rows)

abbrev pub a_locale : Option (List ℕ) → Result (List ℕ) Fault
a_locale None = Err Domain
a_locale (Some l) = Ok l

-- makes the locale of a text, or of a box of it, the current one
abbrev pub cocurrent : Array → Run Array
cocurrent y = or_fault (a_locale (locale_given y)) >>= (λ l s. Gave no_rows (in_locale l s))

-- neither is a dyad
abbrev pub in_run : RunVerb → Doing
in_run Echo None y = echo y
in_run Echo (Some x) y = fail Domain
in_run Cocurrent None y = cocurrent y
in_run Cocurrent (Some x) y = fail Domain

abbrev pub spoken_as : Option RunVerb → Primitive → Doing
spoken_as None p = word p
spoken_as (Some v) p = in_run v

-- a word on one cell or two
abbrev pub spoken : Primitive → Doing
spoken p = spoken_as (run_verb p) p
