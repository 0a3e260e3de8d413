-- Texts that are read in pieces.
use Rattle.std.proofs.Common.{◌≡◌, ◌≤◌, ◌+◌, List, ℕ, ◌++◌, Option, length, take, ap, ◌∙◌, arith, length-append}
use Rattle.std.proofs.lemmas.List.{length-take-le}
use Rattle.j_io.specs.Outside.{Took}
use Rattle.j_cli.specs.Answer.{limit}
use Rattle.j_cli.specs.Halts.{HasRead}
use Rattle.j_cli.proofs.Known.{took_then}

pub length_more : (text piece : List ℕ) (count : ℕ) → count ≤ length piece → length (text ++ take count piece) ≡ length text + count
length_more text piece count within = length-append text (take count piece) ∙ ap (λ n. length text + n) (length-take-le count piece within)

-- a piece more was read
pub read_more : (o m n : Option (List ℕ)) (text piece : List ℕ) (count : ℕ) → Took o m text → Took m n (take count piece) → count ≤ length piece → length text + count ≤ limit + 1 → HasRead o n (text ++ take count piece)
read_more o m n text piece count p q within most =
    let e = length_more text piece count within in
    record { took = took_then o m n text (take count piece) p q; most = omega (arith, e) }
