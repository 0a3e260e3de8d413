use Rattle.std.proofs.Common.{refl, arith}
use Rattle.j_cuts_key.proofs.Rising.{ended_at, after_before, rising_high}
use Rattle.j_cuts_key.proofs.spans.to_fret.Goals as goal

pub overflow_add-result : goal.overflow_add-result
overflow_add-result c = omega (arith, c.requires.few, rising_high 0 c.args.items c.args.frets.now c.args.k 0 c.requires.rising c.requires.place)

pub returns-clause-places : goal.returns-clause-places
returns-clause-places c = ended_at 0 c.args.frets.now c.args.k c.after_fret.result _ c.requires.place c.after_fret.ensures refl

pub returns-clause-some : goal.returns-clause-some
returns-clause-some c = omega (arith, after_before c.args.items c.args.frets.now c.args.k c.after_fret.result c.requires.rising c.requires.place c.after_fret.ensures)

pub returns-clause-inside : goal.returns-clause-inside
returns-clause-inside c = omega (arith, rising_high 0 c.args.items c.args.frets.now c.args.k 0 c.requires.rising c.requires.place)
