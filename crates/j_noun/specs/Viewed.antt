-- The atoms that a view shows.
use Rattle.std.specs.Prelude.{ℕ, ℤ, Bool, ◌<◌, pos, List, map}
use Rattle.std.specs.List.{All}
use Rattle.std.specs.Ordering.{int_eq}
use Rattle.j_definitions.specs.Array.{Atom, number, byte, boxed}
use Rattle.j_definitions.specs.declared.Kind.{Kind}
use Rattle.j_definitions.specs.declared.Kind.TheVariants.{Number, Character, Boxed}
use Rattle.j_noun.specs.declared.view.View.{View}
use Rattle.j_noun.specs.declared.view.View.TheVariants.{Wholes, Bits, Bytes, Boxes}

abbrev pub viewed : View → List Atom
viewed (Wholes v) = map number v.now
viewed (Bits v) = map (λ b. number (pos b)) v.now
viewed (Bytes v) = map byte v.now
viewed (Boxes v) = map boxed v.now

-- not both are boxed
abbrev pub AreNotBoxes : View → View → Type 0
AreNotBoxes (Boxes v) (Boxes w) = ⊥
AreNotBoxes _ _ = Unit {0}

abbrev pub match_bit : ℤ → ℕ → Bool
match_bit z b = int_eq z (pos b)

-- the bits are 0 or 1
abbrev pub ShowsBits : View → Type 0
ShowsBits (Bits v) = All (λ b. b < 2) v.now
ShowsBits _ = Unit {0}

abbrev pub kind_viewed : View → Kind
kind_viewed (Wholes v) = Number
kind_viewed (Bits v) = Number
kind_viewed (Bytes v) = Character
kind_viewed (Boxes v) = Boxed
