use Rattle.std.proofs.Common.{Ok, Err, ◌∷◌, rules, arith, sym, ℕ, ◌∙◌, ◌≡◌, ◌+◌, ◌-◌, [], length, subst, ap, refl}
use Rattle.std.proofs.lemmas.List.{length_push}
use Rattle.std.specs.Option.{option_copied}
use Rattle.j_definitions.specs.Array.{Array}
use Rattle.j_rank.specs.Assembly.{assemble}
use Rattle.j_rank.specs.Collected.{Collected}
use Rattle.j_entity.specs.View.{operand_of}
use Rattle.j_eval.specs.Applying.{does, nested}
use Rattle.j_eval.specs.EachCell.{on_each}
use Rattle.j_eval.specs.Meets.{Meets}
use Rattle.j_eval.proofs.Runs.{meets_call}
use Rattle.j_eval.specs.Sources.{source_of, cells_at}
use Rattle.j_eval.proofs.Taken.{cells_from}
use Rattle.j_eval.proofs.Cells.{ranks_err, ranks_ok, ranks_whole, cells_begun, cells_more, cells_err, cells_end}
use Rattle.j_eval.proofs.Repeats.{times_more, times_err, more, end, end_err}
use Rattle.j_insert.specs.Insertion.{items_from_right}
use Rattle.j_eval.proofs.Between.{between_more}
use Rattle.j_eval.proofs.machine.Machine.+eval.Goals as goal

pub call-returns-in-Some-clause-gives : goal.call-returns-in-Some-clause-gives
call-returns-in-Some-clause-gives t c = meets_call c.apply.result c.apply.new.self c.args.room c.in-Some.below c.args.v.now (option_copied c.args.x) c.args.y.now c.args.self.now.state c.in-Some.ensures c.apply.ensures.gives

pub by_cells-returns-in-Err-clause-gives : goal.by_cells-returns-in-Err-clause-gives
by_cells-returns-in-Err-clause-gives t c = ranks_err c.args.r (on_each (nested c.args.room) c.args.each) (option_copied c.args.x) c.args.y.now c.in-Err.fault c.args.self.now.state (sym c.in-Err.ensures.plan)

pub by_cells-returns-in-Ok-clause-gives : goal.by_cells-returns-in-Ok-clause-gives
by_cells-returns-in-Ok-clause-gives t c =
    ranks_ok c.args.r (on_each (nested c.args.room) c.args.each) (option_copied c.args.x) c.args.y.now c.in-Ok.plan c.by_source.result c.by_source.new.self c.args.self.now.state (sym c.in-Ok.ensures.plan) c.by_source.ensures.gives

pub on_whole-returns-in-Err-clause-gives : goal.on_whole-returns-in-Err-clause-gives
on_whole-returns-in-Err-clause-gives t c =
    ranks_whole c.args.r (on_each (nested c.args.room) c.args.each) (option_copied c.args.x) c.args.y.now (Err c.in-Err.halt) c.on_cell.new.self c.args.self.now.state c.requires tt c.in-Err.ensures.gives

pub on_whole-returns-in-Ok-clause-gives : goal.on_whole-returns-in-Ok-clause-gives
on_whole-returns-in-Ok-clause-gives t c =
    let same = sym c.alone.ensures.same in
    ranks_whole c.args.r (on_each (nested c.args.room) c.args.each) (option_copied c.args.x) c.args.y.now (Ok c.alone.result) c.on_cell.new.self c.args.self.now.state c.requires
    (subst (λ (r : Array). assemble [] (r ∷ []) ≡ Ok c.alone.result) same c.alone.ensures.noun)
    (subst (λ (r : Array). Meets (Ok r) c.on_cell.new.self (on_each (nested c.args.room) c.args.each (option_copied c.args.x) c.args.y.now c.args.self.now.state)) same c.in-Ok.ensures.gives)

pub over_pairs-loop-k-init : goal.over_pairs-loop-k-init
over_pairs-loop-k-init t c =
    let none : c.collector-results.result.results ≡ [] = ap (λ (r : Collected). r.results) c.collector-results.ensures in
    record {
      frame = ap (λ (r : Collected). r.frame) c.collector-results.ensures;
      many = ap length none;
      same = cells_begun (on_each (nested c.args.room) c.args.each) (source_of c.args.cells) c.collector-results.result.results c.args.self.now.state c.args.self.now.state none refl;
      onward = search rules;
    }

pub over_pairs-loop-k-preserved : goal.over_pairs-loop-k-preserved
over_pairs-loop-k-preserved t c =
    let v = c.loop-k.invariant in
    let pushed = ap (λ (r : Collected). r.results) c.in_ok-collect.ensures.value in
    let left = cells_from c.args.cells c.loop-k.k (omega arith) in
    let more = cells_more (on_each (nested c.args.room) c.args.each) (source_of c.args.cells) c.loop-k.k (cells_at c.args.cells c.loop-k.k) c.in_ok-left.left c.in_ok-left.left c.in_ok-left.right c.loop-k.results.results c.collect.new.results.results c.in_ok-r.r
    c.loop-k.self.state c.cells_at.new.self.state c.on_cells.new.self.state c.collect.new.self.state left refl c.in_ok-left.ensures.value c.in_ok-r.ensures.gives pushed c.in_ok-left.ensures.kept.state c.in_ok-collect.ensures.kept.state in
    record {
      frame = ap (λ (r : Collected). r.frame) c.in_ok-collect.ensures.value ∙ v.frame;
      many = ap length pushed ∙ (length_push c.loop-k.results.results c.in_ok-r.r ∙ ap (λ (n : ℕ). n + 1) v.many);
      same = sym more ∙ v.same;
      onward = search rules;
    }

pub over_pairs-returns-then-are_alone-clause-gives : goal.over_pairs-returns-then-are_alone-clause-gives
over_pairs-returns-then-are_alone-clause-gives t c = c.boxes_of.ensures.gives (nested c.args.room)

pub over_pairs-returns-in_err-r-clause-gives : goal.over_pairs-returns-in_err-r-clause-gives
over_pairs-returns-in_err-r-clause-gives t c =
    let left = cells_from c.args.cells c.loop-k.k (omega arith) in
    let h = cells_err (on_each (nested c.args.room) c.args.each) (source_of c.args.cells) c.loop-k.k (cells_at c.args.cells c.loop-k.k) c.in_ok-left.left c.in_ok-left.left c.in_ok-left.right c.loop-k.results.results c.in_err-r.field-0.0 c.on_cells.new.self
    c.loop-k.self.state c.cells_at.new.self.state _ left refl c.in_ok-left.ensures.value c.in_err-r.ensures.gives c.loop-k.invariant.same c.in_ok-left.ensures.kept.state in
    search rules

pub over_pairs-returns-clause-gives : goal.over_pairs-returns-clause-gives
over_pairs-returns-clause-gives t c =
    let v = c.loop-k.invariant in
    let end = cells_end (on_each (nested c.args.room) c.args.each) (source_of c.args.cells) c.loop-k.k c.loop-k.results.frame c.loop-k.results.results c.loop-k.self.state (omega arith) v.frame in
    subst (Meets c.assembled.result c.assembled.new.self) (sym end ∙ v.same) c.assembled.ensures.gives

pub times-loop-preserved : goal.times-loop-preserved
times-loop-preserved t c =
    let v = c.loop.invariant in
    record {
      same = times_more (does (nested c.args.room) (operand_of c.args.u.now)) (option_copied c.args.x) (c.args.count - c.loop.counter) (c.args.count - (c.loop.counter + 1)) c.loop.last c.in_ok-last-2.last c.loop.self.state c.once.new.self.state _ (omega arith) c.in_ok-last-2.ensures.gives v.same;
      onward = search rules;
    }

pub times-returns-in_err-last-2-clause-gives : goal.times-returns-in_err-last-2-clause-gives
times-returns-in_err-last-2-clause-gives t c =
    let h = times_err (does (nested c.args.room) (operand_of c.args.u.now)) (option_copied c.args.x) (c.args.count - c.loop.counter) (c.args.count - (c.loop.counter + 1)) c.in_err-last-2.field-0.0 c.once.new.self c.loop.last c.loop.self.state _ (omega arith) c.in_err-last-2.ensures.gives c.loop.invariant.same in
    search rules

pub endless-loop-last-preserved : goal.endless-loop-last-preserved
endless-loop-last-preserved t c =
    let v = c.loop-last.invariant in
    record {
      going = more (does (nested c.args.room) (operand_of c.args.u.now)) (option_copied c.args.x) c.loop-last.last c.in_ok-next.next c.loop-last.self.state c.once.new.self.state _ v.going c.in_ok-next.ensures.gives (search rules) c.in_ok-next.ensures.counts c.in_ok-next.ensures.onward.budget;
      onward = search rules;
    }

pub endless-returns-in_err-next-clause-gives : goal.endless-returns-in_err-next-clause-gives
endless-returns-in_err-next-clause-gives t c =
    let h = end_err (does (nested c.args.room) (operand_of c.args.u.now)) (option_copied c.args.x) c.in_err-next.field-0.0 c.once.new.self c.loop-last.last c.loop-last.self.state _ c.loop-last.invariant.going c.in_err-next.ensures.gives in
    search rules

pub endless-returns-then-matches-clause-gives : goal.endless-returns-then-matches-clause-gives
endless-returns-then-matches-clause-gives t c =
    end (does (nested c.args.room) (operand_of c.args.u.now)) (option_copied c.args.x) c.loop-last.last c.in_ok-next.next c.loop-last.self.state c.once.new.self.state _ c.loop-last.invariant.going c.in_ok-next.ensures.gives (search rules)

pub between-loop-last-preserved : goal.between-loop-last-preserved
between-loop-last-preserved t c =
    let v = c.loop-last.invariant in
    record {
      same = between_more (does (nested c.args.room) (operand_of c.args.u.now)) (items_from_right c.loop-last.items) (items_from_right c.next_item.new.items) c.in-Some.item c.loop-last.last c.in_ok-next.next c.loop-last.self.state c.next_item.new.self.state c.does.new.self.state _ (search rules) (search rules) (search rules) c.in_ok-next.ensures.gives v.same;
      onward = search rules;
    }
