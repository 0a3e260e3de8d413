-- The items of a noun, and their order.
use Rattle.std.specs.Prelude.{ℕ, ◌*◌, List, take, drop}
use Rattle.std.specs.declared.cmp.Ordering.{Ordering}
use Rattle.std.specs.declared.cmp.Ordering.TheVariants.{Less, Equal, Greater}
use Rattle.std.specs.Ordering.{nat_cmp, int_cmp}
use Rattle.std.specs.Cmp.Lexicographic.{slice_cmp}
use Rattle.j_definitions.specs.Array.{Array, Atom, number, byte, nested, product}

-- how many atoms an item has
abbrev pub item_size : List ℕ → ℕ
item_size s = product (drop 1 s)

-- part k of atoms, where each part has that many
abbrev pub part : ℕ → List Atom → ℕ → List Atom
part size xs k = take size (drop (k * size) xs)

-- the atoms of item k
abbrev pub item : Array → ℕ → List Atom
item a k = part (item_size a.shape) a.atoms k

-- numbers come before bytes and bytes before boxes, and boxes are not ordered
abbrev pub atom_cmp : Atom → Atom → Ordering
atom_cmp (number y) (number z) = int_cmp y z
atom_cmp (number y) _ = Less
atom_cmp (byte b) (number z) = Greater
atom_cmp (byte b) (byte c) = nat_cmp b c
atom_cmp (byte b) (nested k s r) = Less
atom_cmp (nested k s r) (nested l t q) = Equal
atom_cmp (nested k s r) _ = Greater

-- items are compared atom by atom
abbrev pub items_cmp : Array → ℕ → ℕ → Ordering
items_cmp a i j = slice_cmp atom_cmp (item a i) (item a j)
