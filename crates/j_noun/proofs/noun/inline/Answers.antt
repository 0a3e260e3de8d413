use Rattle.std.proofs.Common.{length}
use Rattle.j_noun.specs.Held.{atoms_kept}
use Rattle.j_noun.proofs.Rules.{only_axis}
use Rattle.j_noun.proofs.noun.inline.Goals as goal

pub returns-in-len1-clause-value : goal.returns-in-len1-clause-value
returns-in-len1-clause-value c =
    let one = only_axis c.args.axes.now (length (atoms_kept c.args.atoms.now)) c.in-len1.len_at_least c.in-len1.len_below c.requires in
    rw one at c.short_list.ensures
