use Rattle.std.proofs.Common.{◌≡◌, length, sym, subst}
use Rattle.std.specs.Option.{option_copied}
use Rattle.j_eval.specs.Sources.{source_of}
use Rattle.j_eval.specs.declared.sources.CellsFrom.{CellsFrom}
use Rattle.j_eval.proofs.Taken.{planned_count}
use Rattle.j_eval.proofs.sources.cell_count.Goals as goal

pub returns-in-Arguments-clause-count : goal.returns-in-Arguments-clause-count
returns-in-Arguments-clause-count c =
    subst (λ (cells : CellsFrom). c.count.result ≡ length (source_of cells).pairs) (sym c.in-Arguments.is)
    (planned_count c.count.result c.in-Arguments.plan.now (option_copied c.in-Arguments.field-1) c.in-Arguments.field-2.now c.count.ensures.value)
