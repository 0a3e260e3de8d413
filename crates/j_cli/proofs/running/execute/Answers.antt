use Rattle.std.proofs.Common.{◌≡◌, [], ◌++◌, ◌∙◌, Ok, List, ℕ, subst, ap, length, sym, refl}
use Rattle.std.proofs.lemmas.List.{nil_from_length}
use Rattle.j_eval.specs.declared.outcome.Outcome.TheVariants as answer
use Rattle.j_explicit.specs.Reading.{reading}
use Rattle.j_cli.specs.Report.{report}
use Rattle.j_cli.specs.Run.{Turn, next, left_by, stopped, spent}
use Rattle.j_cli.specs.Halts.{Answered, run_of, run_status, status_by}
use Rattle.j_cli.proofs.Known.{grew_nothing}
use Rattle.j_cli.proofs.Executing.{answered_by, answered_turn, on_ok, turn_fits, next_misread, next_empty}
use Rattle.j_cli.proofs.running.execute.Goals as goal

pub returns-in-Err-Fault-clause-answer : goal.returns-in-Err-Fault-clause-answer
returns-in-Err-Fault-clause-answer g c =
    let m = c.args.machine.now in
    let line = c.args.line.now in
    let f = c.in-Err-Fault.fault in
    answered_turn (next (run_of m) line) (record { run = left_by m.state stopped; piece = report f line }) (status_by run_status c.stop.result) (g.K.Sink.bytes c.args.sink.now) (g.K.Sink.bytes c.stop.new.sink)
    (next_misread line f m (rw c.in-Err-Fault.field-0-is at c.in-Err-Fault.ensures.err)) c.stop.ensures.piece

pub returns-then-count-eq0-clause-run : goal.returns-then-count-eq0-clause-run
returns-then-count-eq0-clause-run g c =
    let none : c.in-Ok.sentence ≡ [] = nil_from_length c.in-Ok.sentence (sym c.count.ensures ∙ c.if-count-eq0.true) in
    let empty : reading c.args.line.now ≡ Ok [] = rw none at c.in-Ok.ensures.ok in
    sym (ap (λ (t : Turn). t.run) (next_empty c.args.line.now c.args.machine.now empty))

pub returns-then-count-eq0-clause-answer : goal.returns-then-count-eq0-clause-answer
returns-then-count-eq0-clause-answer g c =
    let m = c.args.machine.now in
    let line = c.args.line.now in
    let o = g.K.Sink.bytes c.args.sink.now in
    let none : c.in-Ok.sentence ≡ [] = nil_from_length c.in-Ok.sentence (sym c.count.ensures ∙ c.if-count-eq0.true) in
    let empty : reading line ≡ Ok [] = rw none at c.in-Ok.ensures.ok in
    answered_turn (next (run_of m) line) (record { run = run_of m; piece = [] }) 0 o o (next_empty line m empty) (answered_by (record { bytes = []; status = 0 }) 0 o o refl (grew_nothing o))

pub returns-in-Value-clause-run : goal.returns-in-Value-clause-run
returns-in-Value-clause-run g c =
    let some : c.in-Ok.sentence ≡ [] → ⊥ = λ e. c.if-count-eq0.false (c.count.ensures ∙ ap length e) in
    let fits = turn_fits (answer.Value c.in-Value.field-0) c.args.machine.now c.sentence-2.new.self c.args.line.now c.in-Ok.sentence c.in-Ok.ensures.ok some (c.in-Value.ensures.answer c.requires.ready) in
    on_ok c.show.result (sym (ap (λ (t : Turn). t.run) fits.0))

pub returns-in-Value-clause-answer : goal.returns-in-Value-clause-answer
returns-in-Value-clause-answer g c =
    let m = c.args.machine.now in
    let new = c.sentence-2.new.self in
    let line = c.args.line.now in
    let some : c.in-Ok.sentence ≡ [] → ⊥ = λ e. c.if-count-eq0.false (c.count.ensures ∙ ap length e) in
    let fits = turn_fits (answer.Value c.in-Value.field-0) m new line c.in-Ok.sentence c.in-Ok.ensures.ok some (c.in-Value.ensures.answer c.requires.ready) in
    answered_turn (next (run_of m) line) (record { run = run_of new; piece = new.state.shown }) (status_by run_status c.show.result) (g.K.Sink.bytes c.args.sink.now) (g.K.Sink.bytes c.show.new.sink) fits.0
    (subst (λ (bs : List ℕ). Answered (record { bytes = bs; status = 0 }) (status_by run_status c.show.result) (g.K.Sink.bytes c.args.sink.now) (g.K.Sink.bytes c.show.new.sink)) c.shown.ensures c.show.ensures.piece)

pub returns-in-Failed-clause-answer : goal.returns-in-Failed-clause-answer
returns-in-Failed-clause-answer g c =
    let m = c.args.machine.now in
    let new = c.sentence-2.new.self in
    let line = c.args.line.now in
    let f = c.in-Failed.fault in
    let some : c.in-Ok.sentence ≡ [] → ⊥ = λ e. c.if-count-eq0.false (c.count.ensures ∙ ap length e) in
    let fits = turn_fits (answer.Failed f) m new line c.in-Ok.sentence c.in-Ok.ensures.ok some (c.in-Failed.ensures.answer c.requires.ready) in
    answered_turn (next (run_of m) line) (record { run = left_by new.state stopped; piece = new.state.shown ++ report f line }) (status_by run_status c.stop-in-Failed.result) (g.K.Sink.bytes c.args.sink.now) (g.K.Sink.bytes c.stop-in-Failed.new.sink) fits
    (subst (λ (bs : List ℕ). Answered (record { bytes = bs ++ report f line; status = 3 }) (status_by run_status c.stop-in-Failed.result) (g.K.Sink.bytes c.args.sink.now) (g.K.Sink.bytes c.stop-in-Failed.new.sink)) c.shown-in-Failed.ensures c.stop-in-Failed.ensures.piece)

pub returns-in-Spent-clause-answer : goal.returns-in-Spent-clause-answer
returns-in-Spent-clause-answer g c =
    let m = c.args.machine.now in
    let new = c.sentence-2.new.self in
    let line = c.args.line.now in
    let some : c.in-Ok.sentence ≡ [] → ⊥ = λ e. c.if-count-eq0.false (c.count.ensures ∙ ap length e) in
    let fits = turn_fits answer.Spent m new line c.in-Ok.sentence c.in-Ok.ensures.ok some (c.in-Spent.ensures.answer c.requires.ready) in
    answered_turn (next (run_of m) line) (record { run = left_by new.state spent; piece = new.state.shown }) (status_by run_status c.spend.result) (g.K.Sink.bytes c.args.sink.now) (g.K.Sink.bytes c.spend.new.sink) fits
    (subst (λ (bs : List ℕ). Answered (record { bytes = bs; status = 4 }) (status_by run_status c.spend.result) (g.K.Sink.bytes c.args.sink.now) (g.K.Sink.bytes c.spend.new.sink)) c.shown-in-Spent.ensures c.spend.ensures.piece)
