-- The nouns that name a locale.
use Rattle.std.specs.Prelude.{ℕ, Bool, true, false, ◌&&◌, ◌==◌, not, cond, length, List, [], ◌∷◌, Option, Some, None}
use Rattle.std.specs.List.{list_all}
use Rattle.std.specs.Char.{is_ascii_alphanumeric}
use Rattle.std.specs.Option.{option_or}
use Rattle.j_definitions.specs.Array.{Array, Atom, number, byte, nested, opened}
use Rattle.j_definitions.specs.declared.Kind.{Kind}
use Rattle.j_definitions.specs.declared.Kind.TheVariants.{Number, Character, Boxed}

-- the bytes among atoms
abbrev pub bytes_in : List Atom → List ℕ
bytes_in [] = []
bytes_in (number z ∷ xs) = bytes_in xs
bytes_in (byte b ∷ xs) = b ∷ bytes_in xs
bytes_in (nested k s r ∷ xs) = bytes_in xs

-- whether a noun is a character atom or list
abbrev pub is_text : Kind → List ℕ → Bool
is_text Character [] = true
is_text Character (n ∷ []) = true
is_text Character (n ∷ m ∷ s) = false
is_text Number s = false
is_text Boxed s = false

-- A locale's name has letters and digits, at least one.
abbrev pub is_locale : List ℕ → Bool
is_locale name = not (length name == 0) && list_all is_ascii_alphanumeric name

-- the locale that a text names
abbrev pub locale_text : Array → Option (List ℕ)
locale_text y = cond (is_text y.kind y.shape && is_locale (bytes_in y.atoms)) (Some (bytes_in y.atoms)) None

abbrev pub in_box : List Atom → Option (List ℕ)
in_box [] = None
in_box (x ∷ []) = locale_text (opened x)
in_box (x ∷ y ∷ xs) = None

abbrev pub box_locale : Kind → List ℕ → List Atom → Option (List ℕ)
box_locale Boxed [] xs = in_box xs
box_locale Boxed (n ∷ s) xs = None
box_locale Number s xs = None
box_locale Character s xs = None

-- the locale whose name is in a box
abbrev pub locale_boxed : Array → Option (List ℕ)
locale_boxed y = box_locale y.kind y.shape y.atoms

-- the locale of a text or of a box of it
abbrev pub locale_given : Array → Option (List ℕ)
locale_given y = option_or (locale_text y) (locale_boxed y)
