-- Names: letters, digits and `_`, of which the `_` say what a name is.
use Rattle.std.specs.Prelude.{ℕ, suc, ◌+◌, ◌-◌, ◌==◌, ◌||◌, ◌&&◌, not, Bool, true, false, cond, nat_lt, List, [], ◌∷◌, length, take, drop, Option, Some, None, Result, Ok, Err}
use Rattle.std.specs.Char.{is_ascii_alphabetic}
use Rattle.j_words.specs.Bytes.{is_in, run}
use Rattle.j_words.specs.declared.bytes.Set.TheVariants as set
use Rattle.j_words.specs.declared.Class.{Class}
use Rattle.j_words.specs.declared.Class.TheVariants as class
use Rattle.j_words.specs.declared.WordFault.{WordFault}
use Rattle.j_words.specs.declared.WordFault.TheVariants.{Spelling}

abbrev pub begins_low : List ℕ → Bool
begins_low [] = false
begins_low (b ∷ bs) = b == 95

abbrev pub begins_letter : List ℕ → Bool
begins_letter [] = false
begins_letter (b ∷ bs) = is_ascii_alphabetic b

-- a letter, and then letters, digits and `_`
abbrev pub has_name_bytes : List ℕ → Bool
has_name_bytes name = begins_letter name && (run (is_in set.Name) name == length name)

-- the place of the first `__`, or the length where there is none
abbrev pub double_at : List ℕ → ℕ
double_at [] = 0
double_at (b ∷ bs) = cond ((b == 95) && begins_low bs) 0 (suc (double_at bs))

-- the place of the last `_`
abbrev pub low_here : Bool → Option ℕ → Option ℕ
low_here b (Some n) = Some (1 + n)
low_here true None = Some 0
low_here false None = None

abbrev pub last_low : List ℕ → Option ℕ
last_low [] = None
last_low (b ∷ bs) = low_here (b == 95) (last_low bs)

-- whether the last byte is `_`
abbrev pub ends_low : List ℕ → Bool
ends_low [] = false
ends_low (b ∷ []) = b == 95
ends_low (b ∷ c ∷ bs) = ends_low (c ∷ bs)

-- A simple name has no `__` and doesn't end with `_`.
abbrev pub is_simple : List ℕ → Bool
is_simple name = (double_at name == length name) && not (ends_low name)

-- a simple name before the `_` at that place, and something behind it
abbrev pub has_locale : List ℕ → Option ℕ → Bool
has_locale front None = false
has_locale front (Some n) = is_simple (take n front) && nat_lt (n + 1) (length front)

-- A direct locative is a simple name, `_`, a locale of letters and digits and `_`.
abbrev pub is_direct : List ℕ → Bool
is_direct name = ends_low name && (let front = take (length name - 1) name in has_locale front (last_low front))

-- An object locative is two simple names with `__` between them.
abbrev pub is_object : List ℕ → Bool
is_object name =
    let n = double_at name in
    nat_lt n (length name) && (is_simple (take n name) && (begins_letter (drop (n + 2) name) && is_simple (drop (n + 2) name)))

abbrev pub name_class : List ℕ → Result Class WordFault
name_class name = cond (is_simple name || (is_direct name || is_object name)) (Ok class.Name) (Err Spelling)
