use Rattle.std.proofs.Common.{◌≡◌, ◌≤◌, drop}
use Rattle.std.specs.List.{list_all}
use Rattle.std.specs.Str.Parse.{digits_value, digits_value_after}
use Rattle.j_numbers.specs.Capped.{capped}
use Rattle.j_numbers.specs.Numbers.{is_base_digit}
use Rattle.j_numbers.proofs.part.read_base_digits.Given as goal

abbrev pub invariant-loop-b : goal.invariant-loop-b
invariant-loop-b l = record {
  rest : capped (digits_value_after l.base l.size (drop l.b-index l.digits)) ≡ capped (digits_value l.base l.digits);
  digits : list_all is_base_digit (drop l.b-index l.digits) ≡ list_all is_base_digit l.digits;
  small : l.size ≤ 9223372036854775809;
}
