use Rattle.std.proofs.Common.{sym}
use Rattle.j_rank.proofs.Paddings.{on_ok}
use Rattle.j_places.proofs.PartLaws.{parts_within}
use Rattle.j_places.proofs.KeptSteps.{runs_appended}
use Rattle.j_places.proofs.keeping.append_runs.Goals as goal

pub run_of-requires : goal.run_of-requires
run_of-requires g c = parts_within c.args.axis.now.start c.args.axis.now.count c.args.axis.now.extent c.args.size _ c.requires.is.run (sym c.requires.many)

pub returns : goal.returns
returns g c =
    on_ok c.append_fills-2.result _ _
    (runs_appended c.args.fill.now c.args.size c.args.all.now c.args.axis.now c.args.out.now.items c.append_fills.new.out.items c.append.new.out.items c.append-2.new.out.items c.append_fills-2.new.out.items c.run_of.result.now
    c.run_of-2.result.now c.in_ok-append_fills.ensures c.run_of.ensures c.in_ok-append.ensures c.run_of-2.ensures c.in_ok-append-2.ensures) c.append_fills-2.ensures
