use Rattle.std.proofs.Common.{true, ap, sym, ◌∙◌}
use Rattle.j_search.specs.Sought.{place_of}
use Rattle.j_search.proofs.Picks.{last_of_all}
use Rattle.j_search.proofs.looking.place_of_all.Goals as goal

pub returns-in-Last-clause-value : goal.returns-in-Last-clause-value
returns-in-Last-clause-value c =
    last_of_all c.args.count c.saturating_sub.result c.saturating_sub.ensures ∙ ap (λ s. place_of s (λ j. true) c.args.count) (sym c.in-Last.is)
