use Rattle.std.proofs.Common.{◌-◌, ap, arith}
use Rattle.j_places.proofs.MadeLaws.{beheaded_is}
use Rattle.j_places.proofs.item_places.behead.Goals as goal

pub returns : goal.returns
returns c = beheaded_is c.args.y.now _ c.saturating_sub-left.result c.items_from.result (omega (arith, c.saturating_sub-left.ensures, c.tally-count.ensures)) (ap (λ n. n - c.saturating_sub-left.result) c.tally-count.ensures) c.items_from.ensures
