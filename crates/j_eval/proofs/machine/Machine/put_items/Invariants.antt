use Rattle.std.proofs.Common.{◌≡◌, drop}
use Rattle.j_eval.specs.Meets.{Onward}
use Rattle.j_eval.specs.Several.{put_items}
use Rattle.j_eval.proofs.machine.Machine.put_items.Given as goal

abbrev pub invariant-loop-k : goal.invariant-loop-k
invariant-loop-k l = record {
  state : record l.self.state { names = put_items l.self.state.names (drop l.k l.names) (drop l.k l.targets) l.y l.k } ≡ record l.initial.self.state { names = put_items l.initial.self.state.names l.names l.targets l.y 0 };
  onward : Onward l.initial.self l.self;
}
