use Rattle.std.proofs.Common.{◌∙◌, sym, FitsSigned, w64, rules}
use Rattle.std.proofs.lemmas.Int.{to_z-of_z}
use Rattle.j_insert.specs.Listed.{listed}
use Rattle.j_insert.proofs.Binary.{number_more}
use Rattle.j_insert.proofs.binaries.bits_of.Goals as goal

pub loop-k-preserved : goal.loop-k-preserved
loop-k-preserved c =
    let fx : FitsSigned w64 c.number_at.result = search rules in
    record {
      digits = number_more (listed c.args.numbers) c.loop-k.out.items c.append_backward.new.out.items c.args.d c.count-n.result c.loop-k.k _ (sym c.count-n.ensures) c.loop-k-test.true
          (to_z-of_z w64 c.number_at.result fx ∙ c.number_at.ensures) c.loop-k.invariant.digits c.in_ok-append_backward.ensures.digits;
      bits = c.in_ok-append_backward.ensures.bits;
    }
