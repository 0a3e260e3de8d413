-- The shape that `x $ y` has.
use Rattle.std.proofs.Common.{◌≡◌, ℕ, List, ◌++◌, drop, map, Bool, true, false, cond, sym, ap, ◌∙◌, Result, Ok, Err}
use Rattle.j_definitions.specs.Array.{Array}
use Rattle.j_definitions.specs.Cells.{in_order}
use Rattle.j_definitions.specs.Limits.{is_within, limited}
use Rattle.j_definitions.specs.declared.Fault.{Fault}
use Rattle.j_definitions.specs.declared.Fault.TheVariants.{Length, Limit}
use Rattle.j_reshaping.specs.Reshaping.{length_of, wants_items, in_shape, reshaped, reshape}

-- what is within the limits is its own result
result_by : (a r : Array) (b : Bool) → (let q : Result Array Fault = cond b (Ok a) (Err Limit) in q) ≡ Ok r → r ≡ a
result_by a r true h = cc
result_by a r false h = cc

shape_by : (s : List ℕ) (y r : Array) (wants : Bool) → (let q : Result Array Fault = cond wants (Err Length) (limited (in_shape s y)) in q) ≡ Ok r → r.shape ≡ s ++ drop 1 y.shape
shape_by s y r true h = cc
shape_by s y r false h = ap (λ (a : Array). a.shape) (result_by (in_shape s y) r (is_within (in_shape s y)) h)

pub shape_reshaped : (x y r : Array) (s : List ℕ) → in_order (map length_of x.atoms) ≡ Ok s → reshape x y ≡ Ok r → r.shape ≡ s ++ drop 1 y.shape
shape_reshaped x y r s are h = shape_by s y r (wants_items s y) (sym (ap (λ (q : Result (List ℕ) Fault). reshaped q y) are) ∙ h)
