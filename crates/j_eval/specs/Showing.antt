-- What a run shows.
use Rattle.std.specs.Prelude.{ℕ, ◌+◌, nat_le, Bool, true, false, List, ◌++◌, length, if◌then◌else◌}
use Rattle.j_definitions.specs.declared.Fault.TheVariants.{Limit}
use Rattle.j_display.specs.Display.{entity_rows}
use Rattle.j_display.specs.Rows.{joined as joined_rows}
use Rattle.j_entity.specs.Tree.{EntityTree}
use Rattle.j_verbs.specs.State.{Gave, Erred, Run, pure, Unit0}

-- most bytes that a top line shows
abbrev pub most_shown : ℕ
most_shown = 67108864

-- the bytes that a value shows: its rows, each with a line feed
abbrev pub shown_as : EntityTree → List ℕ
shown_as e = joined_rows (entity_rows e)

abbrev pub show : EntityTree → Run Unit0
show e s =
    if nat_le (length s.shown + length (shown_as e)) most_shown
    then Gave tt (record s { shown = s.shown ++ shown_as e })
    else Erred Limit s

abbrev pub show_unless : Bool → EntityTree → Run Unit0
show_unless true e = pure tt
show_unless false e = show e
