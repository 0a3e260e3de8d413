-- What a refused locale says of a target.
use Rattle.std.proofs.Common.{◌≡◌, ℕ, Bool, true, false, List, arith, Some, Result, Ok, Err, refl}
use Rattle.j_definitions.specs.declared.Fault.{Fault}
use Rattle.j_noun.specs.declared.refusal.Refusal.{Refusal}
use Rattle.j_leaves.specs.declared.name.Place.{Place}
use Rattle.j_leaves.specs.declared.name.Place.TheVariants as place
use Rattle.j_names.specs.Names.{Scopes, then_in, locale_at, locale_held, simple, target_in, IsRefused}

not_so : false ≡ true → ⊥
not_so e = grind arith

held_target : (q : Result (List ℕ) Fault) (by_local : Bool) (s : Scopes) (n : List ℕ) (r : Refusal) → IsRefused (then_in q (λ l. Ok (Some l))) r
    → IsRefused (then_in (then_in q (λ l. Ok (Some l))) (target_in by_local s n)) r
held_target (Ok l) by_local s n r h = h
held_target (Err f) by_local s n r h = h

-- a simple name has no locale that could be refused
pub refused_target : (p : Place) (by_local : Bool) (s : Scopes) (n : List ℕ) (r : Refusal) → IsRefused (locale_at s p) r → (p ≡ place.Here → false ≡ true)
    → IsRefused (then_in (locale_at s p) (target_in by_local s n)) r
refused_target place.Here by_local s n r h ok = absurd (not_so (ok refl))
refused_target (place.Locale l) by_local s n r h ok = h
refused_target (place.Object o) by_local s n r h ok = held_target (locale_held (simple s o)) by_local s n r h
