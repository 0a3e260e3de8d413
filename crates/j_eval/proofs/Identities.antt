-- A number throughout a shape.
use Rattle.std.proofs.Common.{◌≡◌, ◌<◌, ℕ, ℤ, List, map, replicate, Result, Err, ap, subst, ◌∙◌, arith}
use Rattle.std.proofs.lemmas.List.{length-replicate}
use Rattle.j_definitions.specs.Array.{Array, Atom, number, product}
use Rattle.j_definitions.specs.Limits.{limited}
use Rattle.j_definitions.specs.declared.Fault.{Fault}
use Rattle.j_definitions.specs.declared.Fault.TheVariants.{Limit}
use Rattle.j_definitions.specs.declared.Kind.TheVariants.{Number}
use Rattle.j_definitions.proofs.Limits.{many_beyond}
use Rattle.j_noun.specs.Refused.{OrWanting}
use Rattle.j_noun.specs.declared.refusal.Refusal.{Refusal}
use Rattle.j_rank.proofs.Made.{fills_map}
use Rattle.j_eval.specs.Insertion.{throughout}

pub beyond : (z : ℤ) (s : List ℕ) → 4194304 < product s → limited (throughout z s) ≡ Err Limit
beyond z s l = many_beyond (throughout z s) (omega (arith, l, length-replicate (product s) (number z)))

pub made : (z : ℤ) (s t : List ℕ) (n : ℕ) (zs : List ℤ) (a : Result Array Refusal) → t ≡ s → n ≡ product s → zs ≡ replicate n z →
    OrWanting (limited (record { kind = Number; shape = t; atoms = map number zs })) a → OrWanting (limited (throughout z s)) a
made z s t n zs a e f g h =
    subst (λ (r : Result Array Fault). OrWanting r a)
    (ap (λ (t : List ℕ). limited (let r : Array = record { kind = Number; shape = t; atoms = map number zs } in r)) e
    ∙ ap (λ (zs : List ℤ). limited (let r : Array = record { kind = Number; shape = s; atoms = map number zs } in r)) g
    ∙ ap (λ (xs : List Atom). limited (let r : Array = record { kind = Number; shape = s; atoms = xs } in r)) (fills_map number z n)
    ∙ ap (λ (n : ℕ). limited (let r : Array = record { kind = Number; shape = s; atoms = replicate n (number z) } in r)) f) h
