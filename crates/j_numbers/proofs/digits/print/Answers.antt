use Rattle.std.proofs.Common.{rules, ◌≡◌}
use Rattle.j_numbers.specs.Printed.{printed}
use Rattle.j_numbers.proofs.Printed.{reads_back, fits_range}
use Rattle.j_numbers.proofs.digits.print.Goals as goal

pub returns-clause-reads_back : goal.returns-clause-reads_back
returns-clause-reads_back c infinite =
    let text : c.append-2.new.self ≡ printed c.args.n = search rules in
    rw text (reads_back c.args.n (fits_range c.args.n c.ranges.n.sfits) infinite)
