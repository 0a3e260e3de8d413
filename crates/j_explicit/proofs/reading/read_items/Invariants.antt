use Rattle.std.proofs.Common.{◌≡◌, ◌≤◌, false, map, drop, vec_len}
use Rattle.j_entity.specs.View.{word_of}
use Rattle.j_explicit.specs.Reading.{items_of}
use Rattle.j_explicit.proofs.Items.{after}
use Rattle.j_explicit.proofs.reading.read_items.Given as goal

abbrev pub invariant-loop-word : goal.invariant-loop-word
invariant-loop-word l = record {
  same : after (map word_of l.items.items) (items_of l.line l.ranks (drop l.word-index l.words)) ≡ items_of l.line false l.words;
  few : vec_len l.items ≤ l.word-index;
}
