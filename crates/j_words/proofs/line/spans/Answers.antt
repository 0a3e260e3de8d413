use Rattle.std.proofs.Common.{◌≢◌}
use Rattle.std.proofs.lemmas.Result.{IfErr-weaker}
use Rattle.j_words.specs.Lines.{spans, IsFault}
use Rattle.j_words.specs.declared.WordFault.TheVariants.{Nonce}
use Rattle.j_words.proofs.Plain.{never_nonce}
use Rattle.j_words.proofs.line.spans.Goals as goal

pub returns-clause-formal : goal.returns-clause-formal
returns-clause-formal c = IfErr-weaker c.form.result (λ f. IsFault (spans c.args.line.now) f) (λ f. f ≢ Nonce) (never_nonce c.args.line.now) c.form.ensures.err
