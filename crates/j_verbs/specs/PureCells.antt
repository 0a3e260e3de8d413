-- What is done on cells where it neither reads nor changes the state: the answer alone.
use Rattle.std.specs.Prelude.{[], ◌∷◌, map, Option, Result, Ok, Err}
use Rattle.j_definitions.specs.Array.{Array}
use Rattle.j_definitions.specs.Cells.{in_order}
use Rattle.j_definitions.specs.declared.Fault.{Fault}
use Rattle.j_rank.specs.Assembly.{assemble}
use Rattle.j_verbs.specs.ByRank.{Cells, Source, zero_atom}

-- what follows a value, and a value in place of a fault
abbrev pub then_pure : {A B : Type 0} → Result A Fault → (A → Result B Fault) → Result B Fault
then_pure (Ok a) go = go a
then_pure (Err e) go = Err e

abbrev pub else_pure : {A : Type 0} → Result A Fault → A → Result A Fault
else_pure (Ok a) b = Ok a
else_pure (Err e) b = Ok b

abbrev pub on_two_cells : (Option Array → Array → Result Array Fault) → Cells → Result Array Fault
on_two_cells h c = h c.0 c.1

-- the results of all pairs, as one noun
abbrev pub pairs_answer : (Option Array → Array → Result Array Fault) → Source → Result Array Fault
pairs_answer h c = then_pure (in_order (map (on_two_cells h) c.pairs)) (assemble c.frame)

-- what the cells of fills give, and the noun of no results
abbrev pub fill_answer : (Option Array → Array → Result Array Fault) → Source → Result Array Fault
fill_answer h c = then_pure c.fills (on_two_cells h)

abbrev pub fills_answer : (Option Array → Array → Result Array Fault) → Source → Result Array Fault
fills_answer h c = then_pure (else_pure (fill_answer h c) zero_atom) (λ r. assemble c.frame (r ∷ []))
