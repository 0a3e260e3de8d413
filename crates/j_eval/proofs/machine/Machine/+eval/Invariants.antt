use Rattle.std.proofs.Common.{◌≡◌, ℕ, ◌+◌, ◌*◌, ◌-◌, max, length}
use Rattle.std.specs.Option.{option_copied}
use Rattle.j_entity.specs.Heights.{verb_height, operand_height}
use Rattle.j_entity.specs.View.{operand_of}
use Rattle.j_eval.specs.Applying.{does, nested}
use Rattle.j_eval.specs.EachCell.{on_each}
use Rattle.j_eval.specs.declared.by_rank.EachCell.{EachCell}
use Rattle.j_eval.specs.declared.by_rank.EachCell.TheVariants.{Cell, Does}
use Rattle.j_verbs.specs.ByRank.{on_pairs}
use Rattle.j_eval.specs.Sources.{source_of}
use Rattle.j_eval.specs.Meets.{Onward}
use Rattle.j_insert.specs.Insertion.{items_from_right}
use Rattle.j_eval.specs.Insertion.{between}
use Rattle.j_eval.specs.Powers.{times, endless}
use Rattle.j_eval.proofs.Repeats.{Left}
use Rattle.j_eval.proofs.Cells.{going}
use Rattle.j_eval.proofs.machine.Machine.+eval.Given as goal

-- The levels that are left come first, then the height of a verb, then the function: there is room for 64 of them.
abbrev level : ℕ
level = 1000

abbrev step : ℕ
step = 64

-- by what is done on each cell
abbrev weight : EachCell → ℕ
weight (Cell v) = step * verb_height v.now
weight (Does u) = step * operand_height (operand_of u.now) + 10

abbrev pub decreases-call : goal.decreases-call
decreases-call l = level * l.room

abbrev pub decreases-apply : goal.decreases-apply
decreases-apply l = level * l.room + step * verb_height l.v.now + 34

abbrev pub decreases-ranked : goal.decreases-ranked
decreases-ranked l = level * l.room + weight l.each + 32

abbrev pub decreases-on_cell : goal.decreases-on_cell
decreases-on_cell l = level * l.room + weight l.each + 26

abbrev pub decreases-on_whole : goal.decreases-on_whole
decreases-on_whole l = level * l.room + weight l.each + 30

abbrev pub decreases-by_cells : goal.decreases-by_cells
decreases-by_cells l = level * l.room + weight l.each + 31

abbrev pub decreases-by_source : goal.decreases-by_source
decreases-by_source l = level * l.room + weight l.each + 30

abbrev pub decreases-over_fills : goal.decreases-over_fills
decreases-over_fills l = level * l.room + weight l.each + 29

abbrev pub decreases-over_pairs : goal.decreases-over_pairs
decreases-over_pairs l = level * l.room + weight l.each + 28

abbrev pub decreases-fill_result : goal.decreases-fill_result
decreases-fill_result l = level * l.room + weight l.each + 28

abbrev pub decreases-on_cells : goal.decreases-on_cells
decreases-on_cells l = level * l.room + weight l.each + 27

abbrev pub decreases-cell : goal.decreases-cell
decreases-cell l = level * l.room + step * verb_height l.v.now + 25

abbrev pub decreases-named_cell : goal.decreases-named_cell
decreases-named_cell l = level * l.room + 3

abbrev pub decreases-visiting : goal.decreases-visiting
decreases-visiting l = level * l.room + 2

abbrev pub decreases-visit : goal.decreases-visit
decreases-visit l = level * l.room + 1

abbrev pub decreases-fork : goal.decreases-fork
decreases-fork l = level * l.room + step * max (verb_height l.f.now) (max (verb_height l.g.now) (verb_height l.h.now)) + 40

abbrev pub decreases-fork_left : goal.decreases-fork_left
decreases-fork_left l = level * l.room + step * max (verb_height l.f.now) (verb_height l.g.now) + 38

abbrev pub decreases-noun_fork : goal.decreases-noun_fork
decreases-noun_fork l = level * l.room + step * max (verb_height l.g.now) (verb_height l.h.now) + 40

abbrev pub decreases-hook : goal.decreases-hook
decreases-hook l = level * l.room + step * max (verb_height l.g.now) (verb_height l.h.now) + 40

abbrev pub decreases-does : goal.decreases-does
decreases-does l = level * l.room + step * operand_height (operand_of l.u.now) + 35

abbrev pub decreases-adverb : goal.decreases-adverb
decreases-adverb l = level * l.room + step * operand_height (operand_of l.u.now) + 51

abbrev pub decreases-modified : goal.decreases-modified
decreases-modified l = level * l.room + step * operand_height (operand_of l.u.now) + 50

abbrev pub decreases-insert : goal.decreases-insert
decreases-insert l = level * l.room + step * operand_height (operand_of l.u.now) + 45

abbrev pub decreases-insert_items : goal.decreases-insert_items
decreases-insert_items l = level * l.room + step * operand_height (operand_of l.u.now) + 38

abbrev pub decreases-between : goal.decreases-between
decreases-between l = level * l.room + step * operand_height (operand_of l.u.now) + 37

abbrev pub decreases-prefix : goal.decreases-prefix
decreases-prefix l = level * l.room + step * operand_height (operand_of l.u.now) + 46

abbrev pub decreases-suffix : goal.decreases-suffix
decreases-suffix l = level * l.room + step * operand_height (operand_of l.u.now) + 46

abbrev pub decreases-oblique : goal.decreases-oblique
decreases-oblique l = level * l.room + step * operand_height (operand_of l.u.now) + 46

abbrev pub decreases-cut : goal.decreases-cut
decreases-cut l = level * l.room + step * operand_height (operand_of l.u.now) + 46

abbrev pub decreases-on_pieces : goal.decreases-on_pieces
decreases-on_pieces l = level * l.room + step * operand_height (operand_of l.u.now) + 45

abbrev pub decreases-product : goal.decreases-product
decreases-product l = level * l.room + step * max (operand_height (operand_of l.u.now)) (operand_height (operand_of l.v.now)) + 45

abbrev pub decreases-passive : goal.decreases-passive
decreases-passive l = level * l.room + step * operand_height (operand_of l.u.now) + 40

abbrev pub decreases-conjunction : goal.decreases-conjunction
decreases-conjunction l = level * l.room + step * max (operand_height (operand_of l.u.now)) (operand_height (operand_of l.v.now)) + 51

abbrev pub decreases-joined : goal.decreases-joined
decreases-joined l = level * l.room + step * max (operand_height (operand_of l.u.now)) (operand_height (operand_of l.v.now)) + 50

abbrev pub decreases-at : goal.decreases-at
decreases-at l = level * l.room + step * max (operand_height (operand_of l.u.now)) (operand_height (operand_of l.v.now)) + 40

abbrev pub decreases-over : goal.decreases-over
decreases-over l = level * l.room + step * max (operand_height (operand_of l.u.now)) (operand_height (operand_of l.v.now)) + 41

abbrev pub decreases-over_left : goal.decreases-over_left
decreases-over_left l = level * l.room + step * max (operand_height (operand_of l.u.now)) (operand_height (operand_of l.v.now)) + 39

abbrev pub decreases-under : goal.decreases-under
decreases-under l = level * l.room + step * max (operand_height (operand_of l.u.now)) (operand_height (operand_of l.v.now)) + 43

abbrev pub decreases-undo : goal.decreases-undo
decreases-undo l = level * l.room + 36

abbrev pub decreases-bond : goal.decreases-bond
decreases-bond l = level * l.room + step * max (operand_height (operand_of l.u.now)) (operand_height (operand_of l.v.now)) + 42

abbrev pub decreases-left_bound : goal.decreases-left_bound
decreases-left_bound l = level * l.room + step * operand_height (operand_of l.v.now) + 40

abbrev pub decreases-right_bound : goal.decreases-right_bound
decreases-right_bound l = level * l.room + step * operand_height (operand_of l.u.now) + 40

abbrev pub decreases-rank : goal.decreases-rank
decreases-rank l = level * l.room + step * operand_height (operand_of l.u.now) + 40

abbrev pub decreases-power : goal.decreases-power
decreases-power l = level * l.room + step * max (operand_height (operand_of l.u.now)) (operand_height (operand_of l.v.now)) + 40

abbrev pub decreases-as_often : goal.decreases-as_often
decreases-as_often l = level * l.room + step * operand_height (operand_of l.u.now) + 38

abbrev pub decreases-times : goal.decreases-times
decreases-times l = level * l.room + step * operand_height (operand_of l.u.now) + 37

abbrev pub decreases-endless : goal.decreases-endless
decreases-endless l = level * l.room + step * operand_height (operand_of l.u.now) + 37

abbrev pub decreases-once : goal.decreases-once
decreases-once l = level * l.room + step * operand_height (operand_of l.u.now) + 36

-- the results so far, then what the other pairs give, is the whole
abbrev pub invariant-over_pairs-loop-k : goal.invariant-over_pairs-loop-k
invariant-over_pairs-loop-k l = record {
  frame : l.results.frame ≡ (source_of l.cells).frame;
  many : length l.results.results ≡ l.k;
  same : going (on_each (nested l.room) l.each) (source_of l.cells) l.k l.results.results l.self.state ≡ on_pairs (on_each (nested l.room) l.each) (source_of l.cells) l.fn.self.state;
  onward : Onward l.fn.self l.self;
}

-- the times that are left, on what was given last, are all the times
abbrev pub invariant-times-loop : goal.invariant-times-loop
invariant-times-loop l = record {
  same : times (l.count - l.counter) (does (nested l.room) (operand_of l.u)) (option_copied l.x) l.last l.self.state ≡ times l.count (does (nested l.room) (operand_of l.u)) (option_copied l.x) l.y l.fn.self.state;
  onward : Onward l.fn.self l.self;
}

abbrev pub invariant-endless-loop-last : goal.invariant-endless-loop-last
invariant-endless-loop-last l = record {
  going : Left (does (nested l.room) (operand_of l.u)) (option_copied l.x) l.last l.self.state (endless (does (nested l.room) (operand_of l.u)) (option_copied l.x) l.y l.fn.self.state);
  onward : Onward l.fn.self l.self;
}

abbrev pub decreases-endless-loop-last : goal.decreases-endless-loop-last
decreases-endless-loop-last l = l.self.state.budget - l.self.state.steps

-- what u gives between the items that are left and what came so far is what it gives between all
abbrev pub invariant-between-loop-last : goal.invariant-between-loop-last
invariant-between-loop-last l = record {
  same : between (does (nested l.room) (operand_of l.u)) (items_from_right l.items) l.last l.self.state ≡ between (does (nested l.room) (operand_of l.u)) (items_from_right l.fn.items) l.fn.last l.fn.self.state;
  onward : Onward l.fn.self l.self;
}

abbrev pub decreases-between-loop-last : goal.decreases-between-loop-last
decreases-between-loop-last l = l.items.left
