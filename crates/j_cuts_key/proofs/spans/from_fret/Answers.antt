use Rattle.std.proofs.Common.{refl, arith}
use Rattle.j_cuts_key.proofs.Rising.{begun_from, next_after, next_inside}
use Rattle.j_cuts_key.proofs.spans.from_fret.Goals as goal

pub returns-clause-places : goal.returns-clause-places
returns-clause-places c = begun_from c.args.items c.args.frets.now c.args.k _ c.next_fret.result c.requires.place refl c.next_fret.ensures

pub returns-clause-some : goal.returns-clause-some
returns-clause-some c = next_after c.args.items c.args.frets.now c.args.k c.next_fret.result c.requires.rising c.requires.place c.next_fret.ensures

pub returns-clause-inside : goal.returns-clause-inside
returns-clause-inside c = next_inside c.args.items c.args.frets.now c.args.k c.next_fret.result c.requires.rising c.next_fret.ensures
