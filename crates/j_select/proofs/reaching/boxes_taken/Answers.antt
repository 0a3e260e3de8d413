use Rattle.std.proofs.Common.{◌≡◌, ◌+◌, ◌∙◌, ap, sym, subst, arith, map, length, List, ℕ, Result, Err}
use Rattle.std.proofs.lemmas.List.{length_push}
use Rattle.j_definitions.specs.Array.{Array, Atom, boxed, opened}
use Rattle.j_definitions.specs.Cells.{in_order}
use Rattle.j_definitions.specs.declared.Fault.{Fault}
use Rattle.j_noun.specs.declared.refusal.Refusal.{Refusal}
use Rattle.j_noun.specs.Refused.{OrWanting, OrWantingAs}
use Rattle.j_rank.specs.Assembly.{assemble}
use Rattle.j_rank.specs.Collected.{Collected}
use Rattle.j_indices.specs.Indexing.{from_at, along_axes}
use Rattle.j_indices.specs.Numbers.{and_then}
use Rattle.j_indices.proofs.Answering.{refused}
use Rattle.j_indices.proofs.Chosen.{map_map}
use Rattle.j_indices.proofs.Indices.{gives_more, gives_all}
use Rattle.j_select.proofs.Reached.{cell_again, gives_refused}
use Rattle.j_select.proofs.reaching.boxes_taken.Goals as goal

-- what each takes
abbrev takes : Array → Array → Result Array Fault
takes y a = from_at (boxed a) y

each : (y : Array) (held : List Array) → map (λ (b : Atom). from_at b y) (map boxed held) ≡ map (takes y) held
each y held = map_map (λ (b : Atom). from_at b y) boxed held

pub returns-in-Err : goal.returns-in-Err
returns-in-Err c =
    let noun : Array = c.noun-item.result in
    let y : Array = c.args.y.now in
    let given : Result (List Array) Refusal = Err c.in-Err.e in
    let stopped : OrWantingAs (λ (rs : List Array). rs) (in_order (map (takes y) c.args.held.now)) given =
    gives_refused (λ (rs : List Array). rs) (λ (a : Array). a) (takes y) c.args.held.now c.loop-noun.noun-index noun c.loop-noun.results.results (along_axes (length noun.shape) (map opened noun.atoms) y) c.in-Err.e (omega arith)
    c.noun-item.is (cell_again noun y) c.loop-noun.invariant.given c.in-Err.ensures in
    refused {B = Array} (λ (rs : List Array). rs) (in_order (map (λ (b : Atom). from_at b y) (map boxed c.args.held.now))) (assemble c.args.frame) c.in-Err.e
    (subst (λ (said : Result (List Array) Fault). OrWantingAs (λ (rs : List Array). rs) said given) (ap (λ (rs : List (Result Array Fault)). in_order rs) (sym (each y c.args.held.now))) stopped)

pub loop-noun-preserved : goal.loop-noun-preserved
loop-noun-preserved c =
    let noun : Array = c.noun-item.result in
    let more = ap (λ (r : Collected). r.results) c.in_ok-push.ensures.ok in
    record {
      frame = ap (λ (r : Collected). r.frame) c.in_ok-push.ensures.ok ∙ c.loop-noun.invariant.frame;
      given = gives_more (takes c.args.y.now) c.args.held.now c.loop-noun.noun-index noun c.in-Ok.cell c.loop-noun.results.results c.push.new.self.results (omega arith) c.noun-item.is
          (cell_again noun c.args.y.now ∙ c.in-Ok.ensures) more c.loop-noun.invariant.given;
      many = ap length more ∙ length_push c.loop-noun.results.results c.in-Ok.cell ∙ ap (λ n. n + 1) c.loop-noun.invariant.many;
    }

pub returns : goal.returns
returns c =
    let y : Array = c.args.y.now in
    let all = gives_all (takes y) c.args.held.now c.loop-noun.noun-index c.loop-noun.results.results (omega arith) c.loop-noun.invariant.given in
    let frame : c.loop-noun.results.frame ≡ c.args.frame = c.loop-noun.invariant.frame ∙ ap (λ (r : Collected). r.frame) c.new-results.ensures in
    let answer = ap (λ (rs : List (Result Array Fault)). and_then (in_order rs) (assemble c.args.frame)) (each y c.args.held.now) ∙ ap (λ (r : Result (List Array) Fault). and_then r (assemble c.args.frame)) all
    ∙ ap (λ (t : List ℕ). assemble t c.loop-noun.results.results) (sym frame) in
    subst (λ (r : Result Array Fault). OrWanting r c.finish.result) (sym answer) c.finish.ensures
