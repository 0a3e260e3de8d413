-- The first place that passes, as a loop finds it.
use Rattle.std.proofs.Common.{◌≡◌, ℕ, ◌<◌, ◌≤◌, Bool, true, false, List, length, get_or, sym, arith}
use Rattle.std.specs.List.{position_or_len}
use Rattle.std.proofs.lemmas.List.Sums.{position_or_len_is}

pub found_first : (p : ℕ → Bool) (xs : List ℕ) (i : ℕ) → i < length xs → ((k : ℕ) → k < i → p (get_or xs k 0) ≡ false) → p (get_or xs i 0) ≡ true → i ≡ position_or_len p xs
found_first p xs i l before here = sym (position_or_len_is p xs i 0 (omega arith) before (λ _. here))

pub found_none : (p : ℕ → Bool) (xs : List ℕ) (n : ℕ) → length xs ≤ n → ((k : ℕ) → k < n → p (get_or xs k 0) ≡ false) → length xs ≡ position_or_len p xs
found_none p xs n l before =
    sym (position_or_len_is p xs (length xs) 0 (omega arith) (λ k h. before k (omega arith)) (λ h. absurd (omega arith)))
