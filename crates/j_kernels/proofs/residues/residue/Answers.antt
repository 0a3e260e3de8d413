use Rattle.std.proofs.Common.{◌≡◌, ◌∙◌, ℤ, pos, ◌+ℤ◌, ◌<ℤ◌, sym, ap, refl, arith, w64, to_z, of_z, FitsSigned}
use Rattle.std.proofs.lemmas.Int.{ints, to_z-of_z}
use Rattle.std.specs.Int.{int_rem_euclid}
use Rattle.j_kernels.proofs.ResidueLaws.{left_over}
use Rattle.j_kernels.proofs.residues.residue.Goals as goal

passed_rest : (x y e : ℤ) → FitsSigned w64 x → FitsSigned w64 y → e ≡ int_rem_euclid (to_z w64 (of_z w64 y)) (to_z w64 (of_z w64 x)) → e ≡ int_rem_euclid y x
passed_rest x y e fx fy is = is ∙ rw (to_z-of_z w64 y fy, to_z-of_z w64 x fx) refl

zero_passed : (e : ℤ) → FitsSigned w64 e → of_z w64 e ≡ 0 → e ≡ pos 0
zero_passed e f h = sym (to_z-of_z w64 e f) ∙ ap (to_z w64) h

sum_passed : (e x z : ℤ) → FitsSigned w64 e → FitsSigned w64 x → FitsSigned w64 (e +ℤ x) → z ≡ e +ℤ x → to_z w64 (of_z w64 (to_z w64 (of_z w64 e) +ℤ to_z w64 (of_z w64 x))) ≡ z
sum_passed e x z fe fx fs is = rw (to_z-of_z w64 e fe, to_z-of_z w64 x fx) (to_z-of_z w64 (e +ℤ x) fs ∙ sym is)

pub returns-then-rest-eq0 : goal.returns-then-rest-eq0
returns-then-rest-eq0 c =
    let left = left_over c.args.x c.args.y c.rem_euclid-rest.result (omega (arith, ints)) (passed_rest c.args.x c.args.y c.rem_euclid-rest.result c.ranges.x c.ranges.y c.rem_euclid-rest.ensures.value) in
    sym (left.0 (zero_passed c.rem_euclid-rest.result (record { sfits = c.rem_euclid-rest.type_inv }) c.if-rest-eq0.true))

pub returns-else-rest-eq0 : goal.returns-else-rest-eq0
returns-else-rest-eq0 c =
    let below : c.args.x <ℤ pos 0 = omega (arith, ints) in
    let left = left_over c.args.x c.args.y c.rem_euclid-rest.result below (passed_rest c.args.x c.args.y c.rem_euclid-rest.result c.ranges.x c.ranges.y c.rem_euclid-rest.ensures.value) in
    let fe : FitsSigned w64 c.rem_euclid-rest.result = record { sfits = c.rem_euclid-rest.type_inv } in
    sum_passed c.rem_euclid-rest.result c.args.x _ fe c.ranges.x (omega (arith, ints)) (left.1 (λ none. c.if-rest-eq0.false (ap (of_z w64) none)))
