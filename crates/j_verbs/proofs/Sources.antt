-- Where a source has pairs, and where it has none.
use Rattle.std.proofs.Common.{◌≡◌, ℕ, map, ap}
use Prim.Native.Nat.{suc}
use Rattle.std.specs.List.{range_with_len}
use Rattle.j_verbs.specs.ByRank.{Doing, Cells, Source, on_pairs, on_fills, by_pairs}
use Rattle.j_verbs.specs.State.{State}

pub none_met : (f : Doing) (c : Source) (g : ℕ → Cells) (s : State) (n : ℕ) → n ≡ 0 → by_pairs (map g (range_with_len 0 n)) f c s ≡ on_fills f c s
none_met f c g s n e = ap (λ (n : ℕ). by_pairs (map g (range_with_len 0 n)) f c s) e

pub some_met : (f : Doing) (c : Source) (g : ℕ → Cells) (s : State) (n m : ℕ) → n ≡ suc m → by_pairs (map g (range_with_len 0 n)) f c s ≡ on_pairs f c s
some_met f c g s n m e = ap (λ (n : ℕ). by_pairs (map g (range_with_len 0 n)) f c s) e
