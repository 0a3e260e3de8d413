use Rattle.std.proofs.Common.{false, ap}
use Rattle.std.specs.FinMap as map
use Rattle.j_entity.specs.View.{entity_of}
use Rattle.j_names.specs.Names.{Scopes}
use Rattle.j_names.proofs.Levels.{on_ok}
use Rattle.j_names.proofs.Assigned.{either, on_err, same_rows}
use Rattle.j_names.proofs.names.Names.set_global.Goals as goal

pub returns-clause-others : goal.returns-clause-others
returns-clause-others c l n apart =
    either c.assign.result
    (on_ok c.assign.result (λ h. same_rows false _ _ c.args.name (entity_of c.args.e) h l n apart) c.assign.ensures.ok)
    (on_err c.assign.result (λ h. ap (λ (s : Scopes). map.get s.rows (l, n)) h) c.assign.ensures.unchanged)
