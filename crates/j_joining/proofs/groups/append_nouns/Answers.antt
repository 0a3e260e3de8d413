use Rattle.std.proofs.Common.{◌∙◌, map, ap, ◌++◌, arith}
use Rattle.j_definitions.specs.Array.{boxed}
use Rattle.j_definitions.specs.declared.Kind.TheVariants.{Boxed}
use Rattle.j_rank.proofs.Paddings.{on_ok}
use Rattle.j_joining.specs.Brought.{brought}
use Rattle.j_joining.proofs.Joinings.{group_appended, nothing_brought}
use Rattle.j_joining.proofs.groups.append_nouns.Goals as goal

pub returns-then-g-eq0 : goal.returns-then-g-eq0
returns-then-g-eq0 c = nothing_brought Boxed c.args.g.now.noun.now c.args.g.now.shape.now (map boxed c.args.out.now.items) c.requires.group c.view.ensures.noun (omega arith)

pub returns : goal.returns
returns c =
    on_ok c.append_brought.result _ _
    (λ h. group_appended boxed c.args.fill.now c.args.g.now.shape.now c.axes-axes.result.now c.args.g.now.noun.now.shape c.nouns_of.result.now c.args.out.now.items c.append_brought.new.out.items c.args.g.now.noun.now.atoms
    c.axes-axes.ensures.value c.nouns_of.ensures.atoms h
    ∙ ap (λ z. map boxed c.args.out.now.items ++ brought z c.args.g.now.shape.now c.args.g.now.noun.now.shape c.args.g.now.noun.now.atoms) c.requires.fill) c.append_brought.ensures
