use Rattle.std.proofs.Common.{◌∙◌, ap, arith, sym, map, length, List, ℕ, Result, Ok}
use Rattle.std.specs.declared.alloc.Global.{Global}
use Rattle.std.specs.declared.vec.Vec.{Vec}
use Rattle.std.proofs.lemmas.List.{map-append}
use Rattle.j_definitions.specs.Array.{Array, boxed, opened}
use Rattle.j_definitions.specs.declared.Fault.{Fault}
use Rattle.j_select.specs.Amending.{outline, outline_along, outline_at}
use Rattle.j_indices.proofs.Indices.{gives_more, gives_all}
use Rattle.j_select.proofs.Reached.{alone, box_again, gives_refused}
use Rattle.j_select.proofs.reaching.outlines_of.Goals as goal

pub returns-in-Err : goal.returns-in-Err
returns-in-Err c =
    let noun = c.noun-item.result in
    gives_refused (λ (v : Vec Array Global). map alone v.items) outline (λ (a : Array). outline_at c.args.axes.now (boxed a)) c.args.held.now c.loop-noun.noun-index noun (map alone c.loop-noun.blanks.items)
    (outline_along (length noun.shape) (map opened noun.atoms) c.args.axes.now) c.in-Err.e (omega arith) c.noun-item.is (box_again noun c.args.axes.now) c.loop-noun.invariant c.in-Err.ensures

pub loop-noun-preserved : goal.loop-noun-preserved
loop-noun-preserved c =
    let noun = c.noun-item.result in
    gives_more (λ (a : Array). outline_at c.args.axes.now (boxed a)) c.args.held.now c.loop-noun.noun-index noun (alone c.in_ok-blank.blank) (map alone c.loop-noun.blanks.items) (map alone c.push.new.self.items) (omega arith)
    c.noun-item.is (box_again noun c.args.axes.now ∙ c.in-Ok.ensures ∙ ap (λ (s : List ℕ). let r : Result Array Fault = Ok (outline s) in r) (sym c.in_ok-blank.ensures))
    (ap (map alone) c.in-Ok-push.ensures.items ∙ map-append alone c.loop-noun.blanks.items _) c.loop-noun.invariant

pub returns : goal.returns
returns c = gives_all (λ (a : Array). outline_at c.args.axes.now (boxed a)) c.args.held.now c.loop-noun.noun-index (map alone c.loop-noun.blanks.items) (omega arith) c.loop-noun.invariant
