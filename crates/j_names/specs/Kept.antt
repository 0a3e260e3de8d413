-- The names that the code's rows stand for. The first row with a key counts.
use Rattle.std.specs.Prelude.{ℕ, List, [], ◌∷◌, Bool, map, reverse}
use Rattle.std.specs.Ordering.{nat_cmp, eq_by_cmp}
use Rattle.std.specs.Cmp.Lexicographic.{slice_cmp}
use Rattle.std.specs.FinMap as finite
use Rattle.j_entity.specs.Tree.{EntityTree}
use Rattle.j_entity.specs.View.{entity_of}
use Rattle.j_names.specs.Names.{Key, key_cmp, LocaleRows, Locals, Scopes}
use Rattle.j_names.specs.declared.names.Row.{Row}
use Rattle.j_names.specs.declared.names.Local.{Local}
use Rattle.j_names.specs.declared.names.Names.TheInside.{Inside}

abbrev pub row_key : Row → Key
row_key r = (r.locale, r.name)

abbrev pub row_value : Row → EntityTree
row_value r = entity_of r.value

abbrev pub row_entry : Row → Key × EntityTree
row_entry r = (row_key r, row_value r)

abbrev pub kept : List Row → LocaleRows
kept rows = finite.from_entries (map row_entry rows)

abbrev pub has_key : Key → Row → Bool
has_key k r = eq_by_cmp key_cmp k (row_key r)

abbrev pub local_name : Local → List ℕ
local_name l = l.name

abbrev pub local_value : Local → EntityTree
local_value l = entity_of l.value

abbrev pub local_entry : Local → List ℕ × EntityTree
local_entry l = (local_name l, local_value l)

abbrev pub kept_locals : List Local → Locals
kept_locals ls = finite.from_entries (map local_entry ls)

abbrev pub has_name : List ℕ → Local → Bool
has_name n l = eq_by_cmp (slice_cmp nat_cmp) n (local_name l)

-- The locals of the innermost definition, before those outside it. What is kept for the top level are no locals.
abbrev pub levels : Locals → List Locals → List Locals
levels l [] = []
levels l (m ∷ outer) = l ∷ levels m outer

abbrev pub scopes_of : Inside → Scopes
scopes_of n = record {
  rows = kept n.rows.items;
  locals = levels (kept_locals n.locals.items) (reverse (map (λ ls. kept_locals ls.items) n.outer.items));
  current = n.current;
}
