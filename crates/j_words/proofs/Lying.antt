-- Words lie one after the other.
use Rattle.std.proofs.Common.{ℕ, ◌+◌, ◌<◌, ◌≤◌, ◌&&◌, Bool, true, false, cond, List, [], ◌∷◌, length, arith}
use Rattle.std.specs.List.{All, AllByRecursion}
use Rattle.std.proofs.lemmas.List.Elements.{All-from_recursion}
use Rattle.j_words.specs.Lines.{is_number, joined, Lie, IsWithin}
use Rattle.j_words.specs.declared.Word.{Word}

lie_joined : (at n : ℕ) (v w : Word) (b : Bool) → at ≤ v.from → v.from < v.to → v.to ≤ n → n ≤ w.from → w.from < w.to → Lie at w.to (cond b (record { class = v.class; from = v.from; to = w.to } ∷ []) (v ∷ w ∷ []))
lie_joined at n v w true a l m k h = (a, (omega arith, omega arith))
lie_joined at n v w false a l m k h = (a, (l, (omega arith, (h, omega arith))))

pub lie_added : (at n : ℕ) (ws : List Word) (w : Word) → Lie at n ws → n ≤ w.from → w.from < w.to → Lie at w.to (joined ws (w ∷ []))
lie_added at n [] w lie k h = (omega arith, (h, omega arith))
lie_added at n (v ∷ []) w lie k h = lie_joined at n v w (is_number v.class && is_number w.class) lie.0 lie.1.0 lie.1.1 k h
lie_added at n (v ∷ x ∷ ws) w lie k h = (lie.0, (lie.1.0, lie_added v.to n (x ∷ ws) w lie.1.1 k h))

pub lie_further : (at n m : ℕ) (ws : List Word) → Lie at n ws → n ≤ m → Lie at m ws
lie_further at n m [] lie k = omega arith
lie_further at n m (w ∷ ws) lie k = (lie.0, (lie.1.0, lie_further w.to n m ws lie.1.1 k))

pub lie_few : (at n : ℕ) (ws : List Word) → Lie at n ws → at + length ws ≤ n
lie_few at n [] lie = omega arith
lie_few at n (w ∷ ws) lie = omega (arith, lie.0, lie.1.0, lie_few w.to n ws lie.1.1)

each_within : (at n : ℕ) (ws : List Word) → Lie at n ws → AllByRecursion (IsWithin n) ws
each_within at n [] lie = tt
each_within at n (w ∷ ws) lie = ((lie.1.0, omega (arith, lie_few w.to n ws lie.1.1)), each_within w.to n ws lie.1.1)

pub lie_within : (at n : ℕ) (ws : List Word) → Lie at n ws → All (IsWithin n) ws
lie_within at n ws lie = All-from_recursion (IsWithin n) ws (each_within at n ws lie)
