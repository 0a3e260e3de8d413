-- The numbers that a noun may hold.
use Rattle.std.specs.Prelude.{ℤ, ◌^◌, pos, negsuc, Bool, nat_lt}

-- from _2^63 to 2^63-1
abbrev pub in_range : ℤ → Bool
in_range (pos n) = nat_lt n (2 ^ 63)
in_range (negsuc n) = nat_lt n (2 ^ 63)
