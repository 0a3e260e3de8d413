use Rattle.std.proofs.Common.{List, ℕ, ap, sym, Result, Ok}
use Rattle.j_definitions.specs.declared.Fault.{Fault}
use Rattle.j_scans.specs.Pieced.{Pieced}
use Rattle.j_cuts_key.specs.Cuts.{pieces_between}
use Rattle.j_cuts_key.proofs.pieces.cuts.Goals as goal

pub returns : goal.returns
returns c = ap (λ (fs : List ℕ). let r : Result Pieced Fault = Ok (pieces_between c.args.form fs c.args.y.now) in r) (sym c.in_ok-places.ensures.places)
