use Rattle.std.proofs.Common.{arith, rules, ℕ, List, ◌≡◌, ◌<◌, ◌++◌, ◌∷◌, [], length, take, sym, ap, ◌∙◌}
use Rattle.std.proofs.lemmas.List.{length-append}
use Rattle.j_display.specs.Rows.{joined}
use Rattle.j_display.proofs.Shows.{row_room, row_more}
use Rattle.j_display.proofs.canvas.Canvas.append_to.Goals as goal

pub append-requires : goal.append-requires
append-requires c =
    let i : ℕ = c.loop-r.r in
    let text : List ℕ = c.row.result.now in
    let there : i < length c.args.self.now = omega (arith, c.height-r-end.ensures) in
    let room = row_room c.args.self.now i text there (sym c.row.ensures) in
    let size = ap length c.loop-r.invariant.items ∙ length-append c.args.into.now.items (joined (take i c.args.self.now)) in
    let asked = c.requires.room in
    record { room = omega arith }

pub push_reserved-requires : goal.push_reserved-requires
push_reserved-requires c =
    let i : ℕ = c.loop-r.r in
    let text : List ℕ = c.row.result.now in
    let there : i < length c.args.self.now = omega (arith, c.height-r-end.ensures) in
    let room = row_room c.args.self.now i text there (sym c.row.ensures) in
    let size = ap length c.loop-r.invariant.items ∙ length-append c.args.into.now.items (joined (take i c.args.self.now)) in
    let asked = c.requires.room in
    let grown = ap length c.append.ensures.items ∙ length-append c.loop-r.into.items text in
    omega arith

pub loop-r-preserved : goal.loop-r-preserved
loop-r-preserved c =
    let i : ℕ = c.loop-r.r in
    let text : List ℕ = c.row.result.now in
    let there : i < length c.args.self.now = omega (arith, c.height-r-end.ensures) in
    let pushed : c.push_reserved.new.self.items ≡ c.append.new.into.items ++ 10 ∷ [] = search rules in
    record {
      items = row_more c.args.self.now i text c.args.into.now.items c.loop-r.into.items c.append.new.into.items c.push_reserved.new.self.items there (sym c.row.ensures) c.loop-r.invariant.items c.append.ensures.items pushed;
      capacity = omega arith;
    }
