-- The bytes of words.
use Rattle.std.specs.Prelude.{ℕ, ◌==◌, ◌||◌, ◌&&◌, not, Bool, List, nat_le}
use Rattle.std.specs.List.{position_or_len}
use Rattle.std.specs.Char.{is_ascii_alphanumeric}
use Rattle.j_words.specs.declared.bytes.Set.{Set}
use Rattle.j_words.specs.declared.bytes.Set.TheVariants.{Name, Part, Mark}

abbrev pub is_graphic : ℕ → Bool
is_graphic b = nat_le 33 b && nat_le b 126

-- names have letters, digits and `_`, number parts also `.`, and the marks after a word are `.` and `:`
abbrev pub is_in : Set → ℕ → Bool
is_in Name b = is_ascii_alphanumeric b || (b == 95)
is_in Part b = is_ascii_alphanumeric b || ((b == 95) || (b == 46))
is_in Mark b = (b == 46) || (b == 58)

-- how many bytes at the front pass
abbrev pub run : (ℕ → Bool) → List ℕ → ℕ
run p bytes = position_or_len (λ b. not (p b)) bytes
