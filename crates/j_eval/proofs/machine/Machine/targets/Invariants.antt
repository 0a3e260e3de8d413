use Rattle.std.proofs.Common.{◌≡◌, drop, length}
use Rattle.j_eval.specs.Several.{targets_of}
use Rattle.j_eval.proofs.SeveralNames.{behind}
use Rattle.j_eval.proofs.machine.Machine.targets.Given as goal

abbrev pub invariant-loop-name : goal.invariant-loop-name
invariant-loop-name l = record {
  same : targets_of l.local l.self.state.names l.names ≡ behind l.targets.items (targets_of l.local l.self.state.names (drop l.name-index l.names));
  many : length l.targets.items ≡ l.name-index;
}
