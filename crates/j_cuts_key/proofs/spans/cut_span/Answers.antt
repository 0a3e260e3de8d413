use Rattle.j_cuts_key.proofs.Rising.{begun_dropped, ended_dropped}
use Rattle.j_cuts_key.proofs.spans.cut_span.Goals as goal

pub returns-in-BeginDrop-clause-places : goal.returns-in-BeginDrop-clause-places
returns-in-BeginDrop-clause-places c =
    rw c.in-BeginDrop.is
    (begun_dropped c.args.items c.args.frets.now c.args.k c.from_fret-whole.result.start c.from_fret-whole.result.end c.requires.place c.from_fret-whole.ensures.places)

pub returns-in-EndDrop-clause-places : goal.returns-in-EndDrop-clause-places
returns-in-EndDrop-clause-places c =
    rw c.in-EndDrop.is
    (ended_dropped c.args.frets.now c.args.k c.to_fret-whole.result.start c.to_fret-whole.result.end c.requires.place c.to_fret-whole.ensures.some c.to_fret-whole.ensures.places)
