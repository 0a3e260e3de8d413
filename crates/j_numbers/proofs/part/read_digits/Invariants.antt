use Rattle.std.proofs.Common.{◌≡◌, ◌≤◌, drop}
use Rattle.std.specs.Str.{all_ascii_digits}
use Rattle.std.specs.Str.Parse.{digits_value, digits_value_after}
use Rattle.j_numbers.specs.Capped.{capped}
use Rattle.j_numbers.proofs.part.read_digits.Given as goal

abbrev pub invariant-loop-digit : goal.invariant-loop-digit
invariant-loop-digit l = record {
  rest : capped (digits_value_after 10 l.size (drop l.digit-index l.digits)) ≡ capped (digits_value 10 l.digits);
  digits : all_ascii_digits (drop l.digit-index l.digits) ≡ all_ascii_digits l.digits;
  small : l.size ≤ 9223372036854775809;
}
