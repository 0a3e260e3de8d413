-- Results that are collected.
use Rattle.std.specs.Prelude.{ℕ, List, [], Option, Some, None, refl}
use Rattle.std.specs.declared.alloc.Global.{Global}
use Rattle.std.specs.declared.vec.Vec.{Vec}
use Rattle.std.specs.Coded.{Coded, code_by, coded×, coded_ℕ, coded_list}
use Rattle.j_definitions.specs.Array.{Array}
use Rattle.j_definitions.specs.Stored.{array_code}

-- the results so far, in the order of a frame
pub record Collected : Type 0 where
  pub frame : List ℕ
  pub results : List Array

-- the results in a buffer, of which there is none before the first
abbrev pub results_kept : Option (Vec Array Global) → List Array
results_kept (Some v) = v.items
results_kept None = []

abbrev pub collected_code : Coded Collected
collected_code =
    code_by (List ℕ × List Array) (coded× (coded_list coded_ℕ) (coded_list array_code)) (λ c. (c.frame, c.results)) (λ p. record { frame = p.0; results = p.1 }) (λ _. refl)
