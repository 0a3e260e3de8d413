-- Why a run gives nothing, where a call was refused.
use Rattle.std.specs.Prelude.{Result, Ok, Err}
use Rattle.j_definitions.specs.Array.{Array}
use Rattle.j_noun.specs.declared.refusal.Refusal.{Refusal}
use Rattle.j_noun.specs.declared.refusal.Refusal.TheVariants as refusal
use Rattle.j_eval.specs.declared.outcome.Halt.{Halt}
use Rattle.j_eval.specs.declared.outcome.Halt.TheVariants as halt

abbrev pub halt_of : Refusal → Halt
halt_of (refusal.Fault e) = halt.Failed e
halt_of refusal.NoMemory = halt.NoMemory

abbrev pub halted : Result Array Refusal → Result Array Halt
halted (Ok a) = Ok a
halted (Err r) = Err (halt_of r)
