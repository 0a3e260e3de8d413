-- Bytes that are told, or not.
use Rattle.std.proofs.Common.{◌≡◌, List, ℕ, ◌++◌, [], Option, None, Some, refl, ap, sym, ◌∙◌, append_assoc, take, drop, ◌+◌, ◌≤◌, arith}
use Rattle.std.proofs.lemmas.List.{append-nil, take-append-drop, take-take, drop-take}
use Rattle.std.specs.Io.KnownBytes.{append_known, prepend_known}
use Rattle.j_io.specs.Outside.{Grew, GrewByPrefix, Took}

pub grew_nothing : (o : Option (List ℕ)) → Grew o o []
grew_nothing None = refl
grew_nothing (Some xs) = ap (λ (ys : List ℕ). Some ys) (sym (append-nil xs))

pub grew_twice : (o : Option (List ℕ)) (xs ys : List ℕ) → append_known (append_known o xs) ys ≡ append_known o (xs ++ ys)
grew_twice None xs ys = refl
grew_twice (Some zs) xs ys = ap (λ (ws : List ℕ). Some ws) (append_assoc zs xs ys)

pub grew_then : (o m n : Option (List ℕ)) (xs ys : List ℕ) → Grew o m xs → Grew m n ys → Grew o n (xs ++ ys)
grew_then o m n xs ys p q = q ∙ (ap (λ k. append_known k ys) p ∙ grew_twice o xs ys)

pub took_twice : (o : Option (List ℕ)) (xs ys : List ℕ) → prepend_known xs (prepend_known ys o) ≡ prepend_known (xs ++ ys) o
took_twice None xs ys = refl
took_twice (Some zs) xs ys = ap (λ (ws : List ℕ). Some ws) (sym (append_assoc xs ys zs))

pub took_then : (o m n : Option (List ℕ)) (xs ys : List ℕ) → Took o m xs → Took m n ys → Took o n (xs ++ ys)
took_then o m n xs ys p q = p ∙ (ap (λ k. prepend_known xs k) q ∙ took_twice n xs ys)

-- a prefix after what was written whole
pub grew_prefix : (o m n : Option (List ℕ)) (xs ys : List ℕ) → Grew o m xs → GrewByPrefix m n ys → GrewByPrefix o n (xs ++ ys)
grew_prefix o m n xs ys p q = (xs ++ q.0, (q.1.0, append_assoc xs q.0 q.1.0 ∙ ap (λ ws. xs ++ ws) q.1.1), grew_then o m n xs q.0 p q.2)

-- a piece of the list and the next one
pub take_two : (i k : ℕ) (xs : List ℕ) → take i xs ++ take k (drop i xs) ≡ take (i + k) xs
take_two i k xs =
    let within : i ≤ i + k = omega arith in
    ap (λ ys. ys ++ take k (drop i xs)) (sym (take-take i (i + k) xs within)) ∙ (ap (λ ys. take i (take (i + k) xs) ++ ys) (sym (drop-take i k xs)) ∙ take-append-drop i (take (i + k) xs))
