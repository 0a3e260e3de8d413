use Rattle.std.proofs.Common.{◌≡◌, ◌≤◌, ◌++◌, ◌∙◌, ap, rules, length, drop, List, ℕ, Option, None}
use Rattle.std.specs.List.{All, flat_map}
use Rattle.j_definitions.specs.Array.{Array}
use Rattle.j_definitions.specs.declared.Fault.{Fault}
use Rattle.j_indices.specs.Indexing.{index_fault}
use Rattle.j_select.specs.Amending.{outlined}
use Rattle.j_select.proofs.Reached.{outline_within}
use Rattle.j_select.proofs.reaching.outline_along.Goals as goal

pub returns-then-is_within : goal.returns-then-is_within
returns-then-is_within c =
    let fine : Option Fault = None in
    let none : index_fault c.args.rank c.args.nouns.now c.args.axes.now ≡ fine = search rules in
    let shapes : List ℕ = flat_map (λ (a : Array). a.shape) c.args.nouns.now in
    let axes : All (λ n. n ≤ 4194304) c.in-Ok-extended.shape = search rules in
    let shape : c.in-Ok-extended.shape ≡ shapes ++ drop (length c.args.nouns.now) c.args.axes.now =
    c.in-Ok-extended.ensures.ok ∙ ap (λ s. s ++ c.behind.result.now) c.in-Ok.ensures.ok ∙ ap (λ s. shapes ++ s) c.behind.ensures in
    ap (λ f. outlined f (shapes ++ drop (length c.args.nouns.now) c.args.axes.now)) none
    ∙ outline_within (shapes ++ drop (length c.args.nouns.now) c.args.axes.now) c.in-Ok-extended.shape shape c.is_within.ensures.rank axes
