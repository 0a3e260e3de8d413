-- How the logic stores a machine.
use Rattle.std.specs.Prelude.{◌≡◌, ℕ, zero, suc, List, refl}
use Rattle.std.specs.Coded.{Coded, code_by, coded×, coded_list, coded_ℕ}
use Rattle.j_names.specs.Coded.{coded_scopes}
use Rattle.j_names.specs.Names.{Scopes}
use Rattle.j_eval.specs.Meets.{Readiness, ready, spent, exhausted, Running}
use Rattle.j_verbs.specs.State.{State}

abbrev pub readiness_number : Readiness → ℕ
readiness_number ready = 0
readiness_number spent = 1
readiness_number exhausted = 2

abbrev pub readiness_from : ℕ → Readiness
readiness_from zero = ready
readiness_from (suc zero) = spent
readiness_from (suc (suc n)) = exhausted

abbrev pub running_code : Running → ℕ × (ℕ × (List ℕ × (Scopes × (ℕ × ℕ))))
running_code m = (m.state.steps, (m.state.budget, (m.state.shown, (m.state.names, (readiness_number m.readiness, m.asked)))))

abbrev pub running_from : ℕ × (ℕ × (List ℕ × (Scopes × (ℕ × ℕ)))) → Running
running_from p = record {
  state = record { steps = p.0; budget = p.1.0; shown = p.1.1.0; names = p.1.1.1.0 };
  readiness = readiness_from p.1.1.1.1.0;
  asked = p.1.1.1.1.1;
}

pub running_back : (s : State) (r : Readiness) (n : ℕ) → running_from (running_code (record { state = s; readiness = r; asked = n })) ≡ record { state = s; readiness = r; asked = n }
running_back s ready n = refl
running_back s spent n = refl
running_back s exhausted n = refl

abbrev pub coded_running : Coded Running
coded_running =
    code_by (ℕ × (ℕ × (List ℕ × (Scopes × (ℕ × ℕ))))) (coded× coded_ℕ (coded× coded_ℕ (coded× (coded_list coded_ℕ) (coded× coded_scopes (coded× coded_ℕ coded_ℕ)))))
    running_code running_from (λ m. running_back m.state m.readiness m.asked)
