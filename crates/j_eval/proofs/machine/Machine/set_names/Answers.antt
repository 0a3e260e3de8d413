use Rattle.std.proofs.Common.{◌≡◌, sym, subst, arith}
use Rattle.j_entity.specs.View.{entity_of}
use Rattle.j_eval.specs.Meets.{Meets}
use Rattle.j_eval.specs.Names.{set_name}
use Rattle.j_eval.specs.Several.{set_names}
use Rattle.j_eval.proofs.SeveralNames.{one_name}
use Rattle.j_eval.proofs.machine.Machine.set_names.Goals as goal

pub returns-in-len1-clause-gives : goal.returns-in-len1-clause-gives
returns-in-len1-clause-gives c =
    let name = c.name-item.result in
    let alone = one_name c.args.names.now name name (omega arith) (omega arith) c.name-item.is in
    let given = subst (λ n. Meets c.set_name.result c.set_name.new.self (set_name c.args.local n (entity_of c.args.e) c.args.self.now.state)) c.in_ok-duplicate-in-len1.ensures c.set_name.ensures.gives in
    subst (λ ns. Meets c.set_name.result c.set_name.new.self (set_names c.args.local (entity_of c.args.e) ns c.args.self.now.state)) (sym alone) given
