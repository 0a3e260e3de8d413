-- How the logic stores an entity and the names.
use Rattle.std.specs.Prelude.{ℕ, List, refl}
use Rattle.std.specs.Coded.{Coded, code_by, coded×, coded_list, coded_ℕ}
use Rattle.std.specs.FinMap as map
use Rattle.j_entity.specs.Packed.{Packed, coded_packed}
use Rattle.j_entity.specs.Code.{Leaf, coded_leaf, entity_code, entity_from, entity_back}
use Rattle.j_entity.specs.Tree.{EntityTree}
use Rattle.j_names.specs.Names.{LocaleRows, Locals, Scopes}

abbrev pub coded_entity : Coded EntityTree
coded_entity = code_by (Packed Leaf) (coded_packed coded_leaf) entity_code entity_from entity_back

abbrev pub scopes_code : Scopes → LocaleRows × (List Locals × List ℕ)
scopes_code s = (s.rows, (s.locals, s.current))

abbrev pub scopes_from : LocaleRows × (List Locals × List ℕ) → Scopes
scopes_from c = record { rows = c.0; locals = c.1.0; current = c.1.1 }

abbrev pub coded_text : Coded (List ℕ)
coded_text = coded_list coded_ℕ

abbrev pub coded_scopes : Coded Scopes
coded_scopes =
    code_by (LocaleRows × (List Locals × List ℕ))
    (coded× (map.code (coded× coded_text coded_text) coded_entity) (coded× (coded_list (map.code coded_text coded_entity)) coded_text))
    scopes_code scopes_from (λ s. refl)
