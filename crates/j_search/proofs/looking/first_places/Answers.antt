use Rattle.j_search.proofs.Runs.{ok_places}
use Rattle.j_search.proofs.Nouns.{places_of_own}
use Rattle.j_search.proofs.looking.first_places.Goals as goal

pub returns-clause-places : goal.returns-clause-places
returns-clause-places c = ok_places c.look_up.result (places_of_own c.args.y.now c.items_frame-frame.result c.items_frame-frame.ensures.axes c.items_frame-frame.ensures.count) c.look_up.ensures
