use Rattle.std.proofs.Common.{ℕ, List, subst, Option}
use Rattle.std.specs.Prelude.{IfSome, Some}
use Rattle.j_io.specs.Outside.{Grew}
use Rattle.j_cli.specs.Answer.{answer, words_of, IsAnswer}
use Rattle.j_trials.proofs.run_in_memory.Goals as goal

pub returns : goal.returns
returns c =
    subst (λ (o : Option (List ℕ → Option (List ℕ))). IfSome o (λ held. (written : List ℕ) × Grew (Some c.args.sink.now.bytes.items) (Some c.run_command.new.sink.bytes.items) written
    × IsAnswer (answer (words_of c.args.words.now.items) held) c.run_command.result written)) c.new-source.ensures.texts c.run_command.ensures.headline
