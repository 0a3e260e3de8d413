use Rattle.std.proofs.Common.{◌≡◌, ◌*◌, ◌∙◌, ◌++◌, ap, sym, arith, length, subst}
use Rattle.j_definitions.specs.Array.{product}
use Rattle.j_noun.specs.Refused.{OrWanting}
use Rattle.j_noun.specs.Held.{AreAtoms, array_kept}
use Rattle.j_rank.specs.Assembly.{common_shape, atoms_of_all, assembled}
use Rattle.j_rank.proofs.Made.{answers_as}
use Rattle.j_rank.proofs.Widest.{ranks_below}
use Rattle.j_rank.proofs.Assembled.{size_beyond, total_is, gathered, assembled_many, assembled_is, assemble_as}
use Rattle.j_rank.proofs.collector.assemble.Goals as goal

pub returns-in_default-size_within : goal.returns-in_default-size_within
returns-in_default-size_within c =
    let shape : c.axes-2.result.now ≡ c.args.frame ++ common_shape c.args.results.now =
    c.axes-2.ensures.value ∙ c.in-Ok.ensures.ok ∙ ap (λ s. c.args.frame ++ s) (c.axes.ensures.value ∙ c.common_shape-common.ensures.value) in
    size_beyond c.args.frame c.args.results.now c.in-Some.kind (sym c.in-Some.ensures.value) c.common_shape-common.ensures.nouns c.requires
    (omega (arith, c.in_default-size_within.ensures, ap product shape))

pub gather-requires-clause-rank : goal.gather-requires-clause-rank
gather-requires-clause-rank c = λ k d h.
    omega (arith, ranks_below c.args.results.now k d h, ap length c.axes-3.ensures.value, c.common_shape-common.ensures.rank)

pub gather-requires-clause-total : goal.gather-requires-clause-total
gather-requires-clause-total c = λ some.
    let shape : c.axes-2.result.now ≡ c.args.frame ++ common_shape c.args.results.now =
    c.axes-2.ensures.value ∙ c.in-Ok.ensures.ok ∙ ap (λ s. c.args.frame ++ s) (c.axes.ensures.value ∙ c.common_shape-common.ensures.value) in
    total_is c.args.frame c.args.results.now c.in-Some-size_within.total c.requires (c.in-Some-size_within.ensures.0 ∙ ap product shape) some
    ∙ ap (λ s. length c.args.results.now * product s) (sym (c.axes-3.ensures.value ∙ c.common_shape-common.ensures.value))

pub make-requires-clause-as_many : goal.make-requires-clause-as_many
make-requires-clause-as_many c =
    let ends : c.in-Ok.shape ≡ c.args.frame ++ common_shape c.args.results.now = c.in-Ok.ensures.ok ∙ ap (λ s. c.args.frame ++ s) (c.axes.ensures.value ∙ c.common_shape-common.ensures.value) in
    let common : c.axes-3.result.now ≡ common_shape c.args.results.now = c.axes-3.ensures.value ∙ c.common_shape-common.ensures.value in
    let atoms = gathered c.args.frame c.args.results.now c.in-Some.kind c.in_ok-atoms.atoms c.in-Some-size_within.total c.common_shape-common.ensures.nouns c.requires
    (c.in-Some-size_within.ensures.0 ∙ ap product (c.axes-2.ensures.value ∙ ends)) c.in_ok-atoms.ensures.none
    (λ some. subst (λ s. AreAtoms c.in_ok-atoms.atoms c.in-Some.kind (atoms_of_all c.in-Some.kind s c.args.results.now)) common (c.in_ok-atoms.ensures.all some)) in
    ap length atoms.atoms ∙ assembled_many c.args.frame c.args.results.now c.in-Some.kind c.common_shape-common.ensures.nouns c.requires ∙ ap product (sym ends)

pub returns : goal.returns
returns c =
    let ends : c.in-Ok.shape ≡ c.args.frame ++ common_shape c.args.results.now = c.in-Ok.ensures.ok ∙ ap (λ s. c.args.frame ++ s) (c.axes.ensures.value ∙ c.common_shape-common.ensures.value) in
    let common : c.axes-3.result.now ≡ common_shape c.args.results.now = c.axes-3.ensures.value ∙ c.common_shape-common.ensures.value in
    let atoms = gathered c.args.frame c.args.results.now c.in-Some.kind c.in_ok-atoms.atoms c.in-Some-size_within.total c.common_shape-common.ensures.nouns c.requires
    (c.in-Some-size_within.ensures.0 ∙ ap product (c.axes-2.ensures.value ∙ ends)) c.in_ok-atoms.ensures.none
    (λ some. subst (λ s. AreAtoms c.in_ok-atoms.atoms c.in-Some.kind (atoms_of_all c.in-Some.kind s c.args.results.now)) common (c.in_ok-atoms.ensures.all some)) in
    subst (λ r. OrWanting r c.make.result) (sym (assemble_as c.args.frame c.args.results.now c.in-Some.kind (sym c.in-Some.ensures.value)))
    (answers_as (array_kept c.in-Ok.shape c.in_ok-atoms.atoms) (assembled c.args.frame c.args.results.now c.in-Some.kind) c.make.result
    (assembled_is c.args.frame c.args.results.now c.in-Some.kind c.in_ok-atoms.atoms c.in-Ok.shape ends atoms) c.make.ensures.limited)
