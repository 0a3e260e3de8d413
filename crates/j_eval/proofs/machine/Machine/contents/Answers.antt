use Rattle.std.proofs.Common.{rules, arith, sym, subst}
use Rattle.std.specs.List.{All}
use Rattle.std.proofs.lemmas.List.Elements.{All-push}
use Rattle.j_definitions.specs.Array.{IsNoun}
use Rattle.j_eval.specs.Sources.{source_of}
use Rattle.j_eval.proofs.Contents.{contents_more, contents_all}
use Rattle.j_eval.proofs.machine.Machine.contents.Goals as goal

pub loop-k-preserved : goal.loop-k-preserved
loop-k-preserved c =
    let v = c.loop-k.invariant in
    record {
      cells = contents_more c.args.cells c.loop-k.k c.loop-k.contents.items c.push.new.self.items (c.in_ok-left.left, c.in_ok-left.cell) (omega arith) c.requires.alone c.in_ok-left.ensures.value c.in-Ok.ensures.items v.cells;
      nouns = subst (All IsNoun) (sym c.in-Ok.ensures.items) (All-push IsNoun c.loop-k.contents.items c.in_ok-left.cell v.nouns c.view.ensures.noun);
      kept = search rules;
    }

pub returns-clause-value : goal.returns-clause-value
returns-clause-value c =
    let v = c.loop-k.invariant in
    (contents_all (source_of c.args.cells).pairs c.loop-k.contents.items c.loop-k.k (omega arith) v.cells, v.nouns)
