-- Names, as runs.
use Rattle.std.specs.Prelude.{ℕ, Bool, List, Option, Some, None, Result, Ok, Err}
use Rattle.j_definitions.specs.declared.Fault.{Fault}
use Rattle.j_definitions.specs.declared.Fault.TheVariants.{Value}
use Rattle.j_entity.specs.Tree.{EntityTree, VerbTree, a_noun, a_verb, an_adverb, a_conjunction}
use Rattle.j_leaves.specs.Names.{NameParts}
use Rattle.j_names.specs.Names.{Scopes, look, locale_at, switched, assign}
use Rattle.j_verbs.specs.State.{State, Outcome, Run, Gave, Erred, Spent, then_do, ◌>>=◌, or_fault, Unit0}

-- what a name holds, if anything
abbrev pub found : NameParts → Run (Option EntityTree)
found n s = or_fault (look s.names n) s

-- the locale that a locative names
abbrev pub locale_named : NameParts → Run (Option (List ℕ))
locale_named n s = or_fault (locale_at s.names n.place) s

abbrev pub with_names : Scopes → Run Unit0
with_names names s = Gave tt (record s { names = names })

-- A name is given what it holds, by `=.` or by `=:`.
abbrev pub set_name : Bool → NameParts → EntityTree → Run Unit0
set_name local n e s = then_do (or_fault (assign local s.names n e) s) with_names

abbrev pub verb_held : Option EntityTree → Result VerbTree Fault
verb_held None = Err Value
verb_held (Some (a_noun y)) = Err Value
verb_held (Some (a_verb v)) = Ok v
verb_held (Some (an_adverb a)) = Err Value
verb_held (Some (a_conjunction c)) = Err Value

-- the verb that a name holds
abbrev pub verb_named : NameParts → Run VerbTree
verb_named n = found n >>= (λ e. or_fault (verb_held e))

-- a state with another current locale
abbrev pub in_locale : List ℕ → State → State
in_locale l s = record s { names = switched s.names l }

abbrev pub back_in : {A : Type 0} → List ℕ → Outcome A → Outcome A
back_in l (Gave a s) = Gave a (in_locale l s)
back_in l (Erred f s) = Erred f (in_locale l s)
back_in l (Spent s) = Spent (in_locale l s)

-- A run in a locale, where there is one. However it ends, the current locale is then what it was.
abbrev pub visiting : {A : Type 0} → Option (List ℕ) → Run A → Run A
visiting None m s = m s
visiting (Some l) m s = back_in s.names.current (m (in_locale l s))
