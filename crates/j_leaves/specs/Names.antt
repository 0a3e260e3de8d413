-- What contracts see of names, and which bytes are one.
use Rattle.std.specs.Prelude.{◌≡◌, ℕ, ◌+◌, ◌-◌, ◌∷◌, ◌++◌, List, [], length, take, drop, Option, Some, option_map}
use Rattle.j_words.specs.NameForms.{name_form}
use Rattle.j_words.specs.declared.names.NameForm.{NameForm}
use Rattle.j_words.specs.declared.names.NameForm.TheVariants as form
use Rattle.j_leaves.specs.declared.name.Place.{Place}
use Rattle.j_leaves.specs.declared.name.Place.TheVariants as place

pub record NameParts : Type 0 where
  pub base : List ℕ
  pub place : Place

-- the parts of bytes that are a name of that form
abbrev pub parted : List ℕ → NameForm → NameParts
parted bytes form.Simple = record { base = bytes; place = place.Here }
parted bytes (form.Direct n) = record { base = take n bytes; place = place.Locale (drop (n + 1) (take (length bytes - 1) bytes)) }
parted bytes (form.Object n) = record { base = take n bytes; place = place.Object (drop (n + 2) bytes) }

-- The name that bytes are, or none where they aren't one.
abbrev pub name_of : List ℕ → Option NameParts
name_of bytes = option_map (parted bytes) (name_form bytes)

abbrev pub spelled_at : List ℕ → Place → List ℕ
spelled_at base place.Here = base
spelled_at base (place.Locale l) = (base ++ 95 ∷ l) ++ 95 ∷ []
spelled_at base (place.Object o) = base ++ 95 ∷ 95 ∷ o

-- the bytes of a name
abbrev pub name_spelling : NameParts → List ℕ
name_spelling n = spelled_at n.base n.place

-- parts that are those of their bytes
pub record IsName (n : NameParts) : Type 0 where
  pub read : name_of (name_spelling n) ≡ Some n
