use Rattle.std.proofs.Common.{ap}
use Rattle.std.specs.Ordering.{nat_cmp}
use Rattle.std.specs.Cmp.Lexicographic.{slice_cmp}
use Rattle.j_names.specs.Names.{LocaleRows, Scopes, key_cmp}
use Rattle.j_names.proofs.Keys.{key_total, key_exact, text_total, text_exact}
use Rattle.j_names.proofs.Laws.{given, others, last}
use Rattle.j_names.proofs.rows.name_laws.Goals as goal

pub returns-clause-in_locale : goal.returns-clause-in_locale
returns-clause-in_locale c s l n e = given key_cmp key_total key_exact s.rows (l, n) e

pub returns-clause-in_current : goal.returns-clause-in_current
returns-clause-in_current c s n e = given key_cmp key_total key_exact s.rows (s.current, n) e

pub returns-clause-in_locals : goal.returns-clause-in_locals
returns-clause-in_locals c rows l outer here n e = given (slice_cmp nat_cmp) text_total text_exact l n e

pub returns-clause-other_rows : goal.returns-clause-other_rows
returns-clause-other_rows c s l n e k apart = others key_cmp key_total key_exact s.rows (l, n) k e apart

pub returns-clause-other_locals : goal.returns-clause-other_locals
returns-clause-other_locals c l n m e apart = others (slice_cmp nat_cmp) text_total text_exact l n m e apart

pub returns-clause-last : goal.returns-clause-last
returns-clause-last c s l n d e =
    ap (λ (rows : LocaleRows). let it : Scopes = record { rows = rows; locals = s.locals; current = s.current } in it)
    (last key_cmp key_total key_exact s.rows (l, n) d e)
