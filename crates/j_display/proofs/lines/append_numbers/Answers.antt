use Rattle.std.proofs.Common.{arith, rules, ◌≡◌, ◌+◌, get_or, length, replicate, ap, ◌∙◌, FitsSigned, w64, ◌++◌, vec_len, vec_capacity}
use Rattle.std.proofs.lemmas.Int.{to_z-of_z}
use Rattle.std.proofs.lemmas.List.{length-append, length-replicate}
use Rattle.j_noun.specs.Viewed.{viewed}
use Rattle.j_numbers.specs.Printed.{printed}
use Rattle.j_display.specs.Rows.{set_right}
use Rattle.j_display.specs.Lines.{between}
use Rattle.j_display.proofs.Cells.{number_more, number_fits, blank_fits, numbers_done}
use Rattle.j_display.proofs.lines.append_numbers.Goals as goal

pub append_copies-requires : goal.append_copies-requires
append_copies-requires c =
    let some =
    blank_fits c.args.widths.now (viewed c.args.atoms) c.args.from c.loop-j.j c.args.into.now.items c.loop-j.into.items (vec_len c.args.into.now) (vec_len c.loop-j.into) (vec_capacity c.args.into.now) (vec_capacity c.loop-j.into) c.requires.place c.loop-j-test.true
    c.loop-j.invariant.items (search rules) (search rules) c.requires.room c.loop-j.invariant.capacity in
    record { room = omega arith }

pub append_number-requires : goal.append_number-requires
append_number-requires c =
    let fits : FitsSigned w64 c.number_at-n.result = search rules in
    let read = to_z-of_z w64 c.number_at-n.result fits in
    let text : length (set_right (get_or c.args.widths.now c.loop-j.j 0) (printed _)) ≡ length (set_right (get_or c.args.widths.now c.loop-j.j 0) (printed c.number_at-n.result)) = ap (λ z. length (set_right (get_or c.args.widths.now c.loop-j.j 0) (printed z))) read in
    let some =
    number_fits c.args.widths.now (viewed c.args.atoms) c.args.from c.loop-j.j c.number_at-n.result c.args.into.now.items c.loop-j.into.items (vec_len c.args.into.now) (vec_len c.loop-j.into) (vec_capacity c.args.into.now) (vec_capacity c.append_copies.new.into)
    c.requires.place c.loop-j-test.true c.number_at-n.ensures c.loop-j.invariant.items (search rules) (search rules) c.requires.room (omega arith) in
    let parted : length c.append_copies.new.into.items ≡ length c.loop-j.into.items + between c.loop-j.j 1 =
    ap length c.append_copies.ensures.items ∙ length-append c.loop-j.into.items (replicate c.between.result 32) ∙ ap (λ m. length c.loop-j.into.items + m) (length-replicate c.between.result 32 ∙ c.between.ensures) in
    record { room = omega arith }

pub loop-j-preserved : goal.loop-j-preserved
loop-j-preserved c =
    let fits : FitsSigned w64 c.number_at-n.result = search rules in
    let read = to_z-of_z w64 c.number_at-n.result fits in
    record {
      items =
          number_more c.args.widths.now (viewed c.args.atoms) c.args.from c.loop-j.j c.number_at-n.result c.args.into.now.items c.loop-j.into.items c.append_copies.new.into.items c.append_number.new.into.items
          c.requires.place c.loop-j-test.true c.number_at-n.ensures c.loop-j.invariant.items (c.append_copies.ensures.items ∙ ap (λ n. c.loop-j.into.items ++ replicate n 32) c.between.ensures)
          (c.append_number.ensures.items ∙ ap (λ z. c.append_copies.new.into.items ++ set_right (get_or c.args.widths.now c.loop-j.j 0) (printed z)) read);
      capacity = omega arith;
    }

pub returns-clause-items : goal.returns-clause-items
returns-clause-items c = numbers_done c.args.widths.now (viewed c.args.atoms) c.args.from c.loop-j.j c.args.into.now.items c.loop-j.into.items c.requires.place c.loop-j-test.false c.loop-j.invariant.items
