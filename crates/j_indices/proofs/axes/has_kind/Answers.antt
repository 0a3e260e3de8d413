use Rattle.std.proofs.Common.{◌≡◌, true, false, ◌&&◌, not, nat_eq, ◌∙◌, ap, sym, length}
use Rattle.j_rank.specs.Assembly.{same_kind}
use Rattle.j_indices.proofs.KindTests.{any_of_one_kind}
use Rattle.j_indices.proofs.axes.has_kind.Goals as goal

pub returns-then-is_same : goal.returns-then-is_same
returns-then-is_same c =
    let same : same_kind c.args.y.now.kind c.args.kind ≡ true = ap (λ k. same_kind k c.args.kind) (sym c.kind.ensures) ∙ sym c.is_same.ensures ∙ c.if-is_same.true in
    ap not c.has_no_atoms.ensures
    ∙ sym (any_of_one_kind c.args.y.now.kind c.args.kind c.args.y.now.atoms c.view.ensures.noun.of_kind ∙ ap (λ b. b && not (nat_eq (length c.args.y.now.atoms) 0)) same)

pub returns : goal.returns
returns c =
    let differ : same_kind c.args.y.now.kind c.args.kind ≡ false = ap (λ k. same_kind k c.args.kind) (sym c.kind.ensures) ∙ sym c.is_same.ensures ∙ c.if-is_same.false in
    sym (any_of_one_kind c.args.y.now.kind c.args.kind c.args.y.now.atoms c.view.ensures.noun.of_kind ∙ ap (λ b. b && not (nat_eq (length c.args.y.now.atoms) 0)) differ)
