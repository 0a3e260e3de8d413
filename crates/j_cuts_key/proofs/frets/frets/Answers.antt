use Rattle.j_cuts_key.proofs.Texts.{bytes_answered}
use Rattle.j_cuts_key.proofs.Alike.{answered_rise}
use Rattle.j_cuts_key.proofs.frets.frets.Goals as goal

pub returns-in-Some-clause-places : goal.returns-in-Some-clause-places
returns-in-Some-clause-places c = bytes_answered c.args.form c.args.y.now c.in-Some.text.now c.text_frets.result c.in-Some.ensures c.text_frets.ensures

pub returns-in-Some-clause-rising : goal.returns-in-Some-clause-rising
returns-in-Some-clause-rising c =
    answered_rise c.args.form c.args.y.now c.text_frets.result (bytes_answered c.args.form c.args.y.now c.in-Some.text.now c.text_frets.result c.in-Some.ensures c.text_frets.ensures)
