use Rattle.std.proofs.Common.{◌≡◌, ◌∙◌, length, sym, rules}
use Rattle.std.proofs.lemmas.List.{nil_from_length}
use Rattle.j_joining.proofs.Beside.{atom_bare}
use Rattle.j_joining.proofs.joining.is_bare.Goals as goal

pub returns-then-is_empty : goal.returns-then-is_empty
returns-then-is_empty c =
    let none : length c.axes.result.now ≡ 0 = search rules in
    atom_bare c.args.axes.now c.args.y.now.shape c.args.y.now.atoms c.contains.result (sym c.axes.ensures.value ∙ nil_from_length c.axes.result.now none) c.view.ensures.noun.as_many c.contains.ensures.value
