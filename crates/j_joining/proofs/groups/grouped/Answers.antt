use Rattle.std.proofs.Common.{◌∙◌, ap, sym, arith, length}
use Rattle.j_joining.proofs.Joinings.{groups_beyond, length-groups}
use Rattle.j_joining.proofs.groups.grouped.Goals as goal

pub returns-in_default : goal.returns-in_default
returns-in_default c =
    groups_beyond c.args.kind c.args.shape c.args.x.now c.args.left.now c.args.y.now c.args.right.now c.requires.left c.view.ensures.noun c.requires.right c.view-2.ensures.noun (omega (arith, c.in_default.ensures))

pub returns-in_default-size_within : goal.returns-in_default-size_within
returns-in_default-size_within c =
    groups_beyond c.args.kind c.args.shape c.args.x.now c.args.left.now c.args.y.now c.args.right.now c.requires.left c.view.ensures.noun c.requires.right c.view-2.ensures.noun (omega (arith, c.in_default-size_within.ensures))

pub returns-then-left_size-right_size-gt-CELL_LIMIT : goal.returns-then-left_size-right_size-gt-CELL_LIMIT
returns-then-left_size-right_size-gt-CELL_LIMIT c =
    groups_beyond c.args.kind c.args.shape c.args.x.now c.args.left.now c.args.y.now c.args.right.now c.requires.left c.view.ensures.noun c.requires.right c.view-2.ensures.noun
    (omega (arith, c.in-Some.ensures, c.in-Some-size_within.ensures))

pub make-requires-clause-as_many : goal.make-requires-clause-as_many
make-requires-clause-as_many c =
    ap length c.in_ok-atoms.ensures.atoms
    ∙ length-groups c.args.kind c.args.shape c.args.x.now c.args.left.now c.args.y.now c.args.right.now c.requires.left c.view.ensures.noun c.requires.right c.view-2.ensures.noun
    ∙ sym c.requires.sizes
