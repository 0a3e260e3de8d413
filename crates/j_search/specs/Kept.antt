-- What is kept of the places that were found.
use Rattle.std.specs.Prelude.{ℕ, ℤ, pos, cond, List, length, map, filter}
use Rattle.std.specs.List.{flat_map}
use Rattle.std.specs.Ordering.{int_eq}
use lib.ListN.{get_or}
use Rattle.j_search.specs.Matching.{places}

-- 1 for each that isn't n
abbrev pub found_bits : ℕ → List ℤ → List ℕ
found_bits n zs = map (λ z. cond (int_eq z (pos n)) 0 1) zs

-- 1 for each that is its own place
abbrev pub own_bits : List ℤ → List ℕ
own_bits zs = map (λ k. cond (int_eq (get_or zs k (pos 0)) (pos k)) 1 0) (places (length zs))

-- the places of those that are their own place, and of those that are n
abbrev pub own_places : List ℤ → List ℕ
own_places zs = filter (λ k. int_eq (get_or zs k (pos 0)) (pos k)) (places (length zs))

abbrev pub lost_places : ℕ → List ℤ → List ℕ
lost_places n zs = filter (λ k. int_eq (get_or zs k (pos 0)) (pos n)) (places (length zs))

-- 1 for each that is i, and such a row for each of these
abbrev pub class_row : ℕ → List ℤ → List ℕ
class_row i zs = map (λ z. cond (int_eq z (pos i)) 1 0) zs

abbrev pub class_rows : List ℕ → List ℤ → List ℕ
class_rows ks zs = flat_map (λ i. class_row i zs) ks
