-- How the code keeps pieces.
use Rattle.std.specs.Prelude.{◌≡◌, ℕ, ℤ, pos, unsigned_abs, ◌+◌, ◌-◌, ◌<◌, ◌≤◌, Bool, true, nat_eq, List, [], ◌∷◌, length, map, filter}
use Prim.Native.Nat.{zero, suc}
use Rattle.std.specs.List.{All, range_with_len}
use Rattle.std.specs.Ordering.{int_eq}
use lib.ListN.{get_or}
use Rattle.j_definitions.specs.Array.{Array, byte, tally}
use Rattle.j_definitions.specs.declared.Kind.TheVariants.{Character}
use Rattle.j_search.specs.Kept.{lost_places}
use Rattle.j_scans.specs.Pieced.{Pieced, pieces_at}
use Rattle.j_cuts_key.specs.declared.lines.Links.{Links}
use Rattle.j_cuts_key.specs.declared.lines.Lines.{Lines}
use Rattle.j_cuts_key.specs.declared.lines.Lines.TheVariants.{Obliques, Cuts, Keys}
use Rattle.j_cuts_key.specs.Obliques.{obliques}
use Rattle.j_cuts_key.specs.Cuts.{pieces_between}

-- the places of each key
abbrev pub linked : List ℤ → List ℕ → List (List ℕ)
linked classes firsts = map (λ i. lost_places i classes) firsts

abbrev pub pieced : Lines → Array → Pieced
pieced Obliques y = obliques y
pieced (Cuts form frets) y = pieces_between form frets.items y
pieced (Keys k) y = pieces_at y (linked k.classes.items k.firsts.items)

-- places that rise, from a on and below t
abbrev pub IsRising : ℕ → ℕ → List ℕ → Type 0
IsRising a t [] = Unit {0}
IsRising a t (f ∷ fs) = (a ≤ f) × (f < t) × IsRising (f + 1) t fs

-- after the fret before fret k, or from the place a
abbrev pub after_fret : ℕ → List ℕ → ℕ → ℕ
after_fret a fs zero = a
after_fret a fs (suc k) = get_or fs k 0 + 1

-- each of these is a place below their number
abbrev pub ArePlaces : List ℤ → Type 0
ArePlaces classes = (k : ℕ) → k < length classes → (get_or classes k (pos 0) ≡ pos (unsigned_abs (get_or classes k (pos 0)))) × (unsigned_abs (get_or classes k (pos 0)) < length classes)

-- whether a key's place stands at a place
abbrev pub is_class : List ℤ → ℕ → ℕ → Bool
is_class classes c k = int_eq (get_or classes k (pos 0)) (pos c)

-- p is the first place from k on at which a key's place c stands, or the end
pub record StandsFor (classes : List ℤ) (c k p : ℕ) : Type 0 where
  pub ahead : k ≤ p
  pub inside : p ≤ length classes
  pub here : p < length classes → is_class classes c p ≡ true
  pub same : filter (is_class classes c) (range_with_len k (length classes - k)) ≡ filter (is_class classes c) (range_with_len p (length classes - p))

-- the links of keys
pub record AreLinks (classes : List ℤ) (heads next : List ℕ) : Type 0 where
  pub many_heads : length heads ≡ length classes
  pub many_next : length next ≡ length classes
  pub of_heads : (c : ℕ) → c < length classes → StandsFor classes c 0 (get_or heads c 0)
  pub of_next : (c k : ℕ) → k < length classes → is_class classes c k ≡ Rattle.std.specs.Prelude.true → StandsFor classes c (k + 1) (get_or next k 0)

-- what holds of keys of t items
pub record AreKept (k : Links) (t : ℕ) : Type 0 where
  pub many : length k.classes.items ≡ t
  pub inside : All (λ i. i < t) k.firsts.items
  pub linked : AreLinks k.classes.items k.heads.items k.next.items

-- what holds of what is kept, of t items
abbrev pub IsKept : Lines → ℕ → Type 0
IsKept Obliques t = Unit {0}
IsKept (Cuts form frets) t = IsRising 0 t frets.items
IsKept (Keys k) t = AreKept k t

-- the places of a byte
abbrev pub byte_places : ℕ → List ℕ → List ℕ
byte_places b bytes = filter (λ k. nat_eq b (get_or bytes k 0)) (range_with_len 0 (length bytes))

-- a list of some characters
pub record IsText (y : Array) (bytes : List ℕ) : Type 0 where
  pub axis : y.shape ≡ length bytes ∷ []
  pub atoms : map byte bytes ≡ y.atoms
  pub kind : Character ≡ y.kind
  pub some : 0 < length bytes
