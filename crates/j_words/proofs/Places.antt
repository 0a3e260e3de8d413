-- The first place that fails, as a loop finds it.
use Rattle.std.proofs.Common.{◌≡◌, ℕ, ◌<◌, ◌≤◌, Bool, true, false, not, List, length, get_or, sym, ap, arith}
use Rattle.std.proofs.lemmas.List.Sums.{position_or_len_is}
use Rattle.j_words.specs.Bytes.{run}

pub run_ends : (p : ℕ → Bool) (xs : List ℕ) (i : ℕ) → i < length xs → ((k : ℕ) → k < i → p (get_or xs k 0) ≡ true) → p (get_or xs i 0) ≡ false → i ≡ run p xs
run_ends p xs i l before here = sym (position_or_len_is (λ b. not (p b)) xs i 0 (omega arith) (λ k h. ap not (before k h)) (λ _. ap not here))

pub run_whole : (p : ℕ → Bool) (xs : List ℕ) (n : ℕ) → length xs ≤ n → ((k : ℕ) → k < n → p (get_or xs k 0) ≡ true) → length xs ≡ run p xs
run_whole p xs n l before =
    sym (position_or_len_is (λ b. not (p b)) xs (length xs) 0 (omega arith) (λ k h. ap not (before k (omega arith))) (λ h. absurd (omega arith)))
