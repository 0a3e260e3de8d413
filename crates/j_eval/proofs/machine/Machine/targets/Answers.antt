use Rattle.std.proofs.Common.{rules, arith, sym, ap, ◌∙◌, ◌+◌, ◌<◌, drop, Vec, Global}
use Rattle.j_names.specs.declared.target.Target.{Target}
use Rattle.j_eval.specs.Several.{targets_of}
use Rattle.j_eval.proofs.SeveralNames.{behind, more_targets, no_target}
use Rattle.j_eval.proofs.machine.Machine.targets.Goals as goal

pub returns-in_err-target-clause-gives : goal.returns-in_err-target-clause-gives
returns-in_err-target-clause-gives c =
    let all = targets_of c.args.local c.args.self.now.state.names c.args.names.now in
    let h = no_target (λ (v : Vec Target Global). v.items) c.in_err-target.field-0.0 c.args.self.now c.args.local c.args.self.now.state.names c.loop-name.targets.items c.args.names.now c.loop-name.name-index c.name-item.result all (omega arith) c.name-item.is
    c.loop-name.invariant.same c.in_err-target.ensures in
    search rules

pub loop-name-preserved : goal.loop-name-preserved
loop-name-preserved c =
    let names = c.args.self.now.state.names in
    let next = drop (c.loop-name.name-index + 1) c.args.names.now in
    record {
      same =
          c.loop-name.invariant.same
          ∙ more_targets c.args.local names c.loop-name.targets.items c.args.names.now c.loop-name.name-index c.name-item.result c.args.self.now.state c.args.self.now.state c.in_ok-target.target (omega arith) c.name-item.is c.in_ok-target.ensures
          ∙ ap (λ ts. behind ts (targets_of c.args.local names next)) (sym c.in-Ok.ensures.items);
      many = search rules;
    }
