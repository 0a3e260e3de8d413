use Rattle.std.proofs.Common.{◌≡◌, ◌≤◌, ◌<◌, ℕ, drop, get_or}
use Rattle.j_words.specs.Vocabulary.{is_among}
use Rattle.j_words.proofs.vocabulary.is_among.Given as goal

abbrev pub invariant-loop-place : goal.invariant-loop-place
invariant-loop-place l = record {
  within : l.start ≤ l.place;
  none : (k : ℕ) → l.start ≤ k → k < l.place → (get_or l.text k 0 ≡ 32 → ⊥);
  same : is_among l.word (drop l.start l.text) ≡ is_among l.word l.text;
}
