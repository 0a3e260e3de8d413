-- How the code keeps pieces: what they are made by, and the items.
use Rattle.std.specs.Prelude.{ℕ, Bool, true, false, List}
use Rattle.j_definitions.specs.Array.{Array, tally}
use Rattle.j_scans.specs.declared.copying.Span.{Span}
use Rattle.j_scans.specs.declared.forms.Form.{Form}
use Rattle.j_scans.specs.declared.forms.Form.TheVariants.{Prefixes, Suffixes, Infixes, Outfixes}
use Rattle.j_scans.specs.Pieced.{Pieced, pieces_at}
use Rattle.j_scans.specs.Scans.{prefix_places, suffix_places, infix_places, outfix_places}
use Rattle.j_scans.specs.Spans.{places_in, places_out}

-- the places of each piece of t items
abbrev pub listed : Form → ℕ → List (List ℕ)
listed Prefixes t = prefix_places t
listed Suffixes t = suffix_places t
listed (Infixes n) t = infix_places n t
listed (Outfixes n) t = outfix_places n t

abbrev pub pieced : Form → Array → Pieced
pieced form y = pieces_at y (listed form (tally y.shape))

-- whether a piece is what a span leaves out
abbrev pub is_without : Form → Bool
is_without (Outfixes n) = true
is_without _ = false

abbrev pub spanned : Bool → ℕ → Span → List ℕ
spanned true t s = places_out t s
spanned false t s = places_in s
