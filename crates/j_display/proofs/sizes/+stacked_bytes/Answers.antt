use Rattle.std.proofs.Common.{rules, arith, ℕ, List, ◌≡◌, ◌*◌, ◌≤◌, ◌<◌, ◌+◌, ◌-◌, ◌∷◌, length, ap, ◌∙◌}
use Prim.Native.Nat.{suc}
use Rattle.j_definitions.specs.Array.{product}
use Rattle.j_display.proofs.Bounds.{item_bounds, items_bytes, bytes_fit}
use Rattle.j_display.proofs.sizes.+stacked_bytes.Goals as goal

pub stacked_bytes-requires : goal.stacked_bytes-requires
stacked_bytes-requires t c =
    let frame : c.args.frame.now ≡ c.in-Some.n.now ∷ c.in-Some.item.now = search rules in
    let p : product c.args.frame.now ≡ c.in-Some.n.now * product c.in-Some.item.now = ap product frame in
    let r : product c.args.frame.now * c.args.row ≡ c.in-Some.n.now * product c.in-Some.item.now * c.args.row = ap (λ m. m * c.args.row) p in
    let n = ap length frame in
    let b = item_bounds c.in-Some.n.now (product c.in-Some.item.now) c.args.row (omega arith) (omega arith) (omega arith) in
    (search rules, (b.0, (b.1, (omega arith, b.2))))

-- the bytes of the items, and of all
bounded : (frame item : List ℕ) (n row bytes : ℕ) → frame ≡ n ∷ item → 0 < product frame → length frame ≤ 32 → bytes ≤ product item * (row + 32 * length item) →
    n * bytes + (n - 1) * length item ≤ product frame * (row + 32 * length frame)
bounded frame item n row bytes e some few h =
    let p : product frame ≡ n * product item = ap product e in
    let k : length frame ≡ suc (length item) = ap length e in
    let b = items_bytes n (product item) row (length item) bytes (omega arith) (omega arith) h in
    let same : product frame * (row + 32 * length frame) ≡ n * product item * (row + 32 * suc (length item)) = ap (λ q. q * (row + 32 * length frame)) p ∙ ap (λ j. n * product item * (row + 32 * j)) k in
    omega arith

pub overflow_mul-result : goal.overflow_mul-result
overflow_mul-result t c =
    let b = bounded c.args.frame.now c.in-Some.item.now c.in-Some.n.now c.args.row c.stacked_bytes.result (search rules) c.requires.some c.requires.rank c.stacked_bytes.ensures.few in
    let f = bytes_fit (product c.args.frame.now) c.args.row (length c.args.frame.now) _ c.requires.few (omega arith) c.requires.light b in
    omega arith

pub overflow_add-result : goal.overflow_add-result
overflow_add-result t c =
    let b = bounded c.args.frame.now c.in-Some.item.now c.in-Some.n.now c.args.row c.stacked_bytes.result (search rules) c.requires.some c.requires.rank c.stacked_bytes.ensures.few in
    let f = bytes_fit (product c.args.frame.now) c.args.row (length c.args.frame.now) _ c.requires.few (omega arith) c.requires.light b in
    omega arith

pub returns-in-Some-clause-few : goal.returns-in-Some-clause-few
returns-in-Some-clause-few t c = bounded c.args.frame.now c.in-Some.item.now c.in-Some.n.now c.args.row c.stacked_bytes.result (search rules) c.requires.some c.requires.rank c.stacked_bytes.ensures.few
