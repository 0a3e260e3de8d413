use Rattle.j_noun.proofs.Rules.{text-IsNoun}
use Rattle.j_noun.proofs.noun.Noun.short_text.Goals as goal

pub invariant_of-result : goal.invariant_of-result
invariant_of-result c = record { noun = rw c.in-Some.ensures.0 (text-IsNoun c.args.bytes.now c.in-Some.ensures.1); stored = tt }
