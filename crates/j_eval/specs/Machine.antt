-- A machine as the code keeps it.
use Rattle.j_eval.specs.declared.machine.Machine.TheInside.{Inside}
use Rattle.j_eval.specs.declared.machine.Fitness.{Fitness}
use Rattle.j_eval.specs.declared.machine.Fitness.TheVariants as fitness
use Rattle.j_eval.specs.Meets.{Readiness, ready, spent, exhausted, Running}

abbrev pub readiness_of : Fitness → Readiness
readiness_of fitness.Ready = ready
readiness_of fitness.Spent = spent
readiness_of fitness.Exhausted = exhausted

abbrev pub running_of : Inside → Running
running_of m = record {
  state = record { steps = m.steps; budget = m.budget; shown = m.shown.items; names = m.names };
  readiness = readiness_of m.fitness;
  asked = m.pool;
}
