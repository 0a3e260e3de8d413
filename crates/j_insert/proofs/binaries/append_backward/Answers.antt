use Rattle.std.proofs.Common.{◌∙◌, FitsSigned, w64, rules}
use Rattle.std.proofs.lemmas.Int.{to_z-of_z}
use Rattle.j_insert.proofs.Binary.{bit_more, bits_push}
use Rattle.j_insert.proofs.binaries.append_backward.Goals as goal

pub loop-preserved : goal.loop-preserved
loop-preserved c =
    let f : FitsSigned w64 c.div_euclid-rest.result = search rules in
    record {
      digits = rw c.in-Ok.ensures.items (bit_more c.args.out.now.items c.loop.out.items c.args.d c.loop.counter c.last_bit.result _ _ _ c.loop-test.true c.last_bit.ensures.value (to_z-of_z w64 c.div_euclid-rest.result f ∙ c.div_euclid-rest.ensures) c.loop.invariant.digits);
      bits = rw c.in-Ok.ensures.items (bits_push c.loop.out.items c.last_bit.result c.last_bit.ensures.bit c.loop.invariant.bits);
    }
