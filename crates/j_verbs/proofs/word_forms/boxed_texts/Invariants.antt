use Rattle.std.proofs.Common.{◌≡◌, map, take}
use Rattle.j_verbs.specs.WordForms.{text_of}
use Rattle.j_verbs.proofs.word_forms.boxed_texts.Given as goal

abbrev pub invariant-loop-word : goal.invariant-loop-word
invariant-loop-word l = l.texts.items ≡ map (text_of l.line) (take l.word-index l.words)
