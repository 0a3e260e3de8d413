-- Sizes stay within what a number holds.
use Rattle.std.proofs.Common.{◌≡◌, ℕ, ◌+◌, ◌-◌, ◌*◌, ◌<◌, ◌≤◌, ◌^◌, List, [], ◌∷◌, ◌++◌, sym, ap, ◌∙◌, arith, zero-mul}
use Prim.Native.Nat.{zero, suc}
use Rattle.std.proofs.Math.Nat.{mul-le-mul_left, mul_comm, mul_assoc, mul-add, one-mul}
use Rattle.j_definitions.specs.Array.{product}

pub factors_some : (n p : ℕ) → 0 < n * p → (0 < n) × (0 < p)
factors_some zero p h = absurd (omega (arith, zero-mul p))
factors_some (suc n) zero h = absurd (omega arith)
factors_some (suc n) (suc p) h = (omega arith, omega arith)

-- an item is no larger than the whole
pub item_bounds : (n p row : ℕ) → 0 < n * p → n * p ≤ 4194304 → n * p * row ≤ 1073741824 → (0 < p) × (p ≤ 4194304) × (p * row ≤ 1073741824)
item_bounds n p row some few light =
    let f = factors_some n p some in
    let one : 1 ≤ n = omega (arith, f.0) in
    let a : p * 1 ≤ p * n = mul-le-mul_left p one in
    let b : (p * row) * 1 ≤ (p * row) * n = mul-le-mul_left (p * row) one in
    let e : (p * row) * n ≡ n * p * row = mul_comm (p * row) n ∙ sym (mul_assoc n p row) in
    let ae : p * n ≡ n * p = mul_comm p n in
    (f.1, omega arith, omega arith)

-- the bytes of n items of a frame with k axes
pub items_bytes : (n p row k bytes : ℕ) → 0 < n * p → k ≤ 32 → bytes ≤ p * (row + 32 * k) → n * bytes + (n - 1) * k ≤ n * p * (row + 32 * suc k)
items_bytes n p row k bytes some few h =
    let f = factors_some n p some in
    let one : 1 ≤ p = omega (arith, f.1) in
    let a : n * bytes ≤ n * (p * (row + 32 * k)) = mul-le-mul_left n h in
    let b : n * (p * (row + 32 * k)) ≡ n * p * (row + 32 * k) = sym (mul_assoc n p (row + 32 * k)) in
    let c : (n - 1) * k ≤ (n - 1) * 32 = mul-le-mul_left (n - 1) few in
    let d : n * 1 ≤ n * p = mul-le-mul_left n one in
    let e : row + 32 * suc k ≡ (row + 32 * k) + 32 = omega arith in
    let g : n * p * (row + 32 * suc k) ≡ n * p * (row + 32 * k) + n * p * 32 = ap (λ q. n * p * q) e ∙ mul-add (n * p) (row + 32 * k) 32 in
    omega arith

pub bytes_fit : (p row k bytes : ℕ) → p ≤ 4194304 → k ≤ 33 → p * row ≤ 1073741824 → bytes ≤ p * (row + 32 * k) → bytes < 2 ^ 63
bytes_fit p row k bytes few rank light h =
    let a : 32 * k ≤ 1056 = omega arith in
    let b : p * (32 * k) ≤ p * 1056 = mul-le-mul_left p a in
    let c : p * (row + 32 * k) ≡ p * row + p * (32 * k) = mul-add p row (32 * k) in
    omega arith

pub product-append : (s t : List ℕ) → product (s ++ t) ≡ product s * product t
product-append [] t = sym (one-mul (product t))
product-append (n ∷ s) t = ap (λ m. n * m) (product-append s t) ∙ sym (mul_assoc n (product s) (product t))

-- the lines of a noun with atoms, by the axes before the last and the last
pub record AreSplit (lines columns n : ℕ) : Type 0 where
  pub whole : lines * columns ≡ n
  pub some : 0 < lines
  pub column : 0 < columns
  pub few : lines ≤ 4194304

pub atoms_split : (axes front back : List ℕ) (columns n : ℕ) → axes ≡ front ++ back → columns ≡ product back → n ≡ product axes → 0 < n → n ≤ 4194304 → AreSplit (product front) columns n
atoms_split axes front back columns n ea ec en some few =
    let whole : product front * columns ≡ n = ap (λ m. product front * m) ec ∙ sym (en ∙ ap product ea ∙ product-append front back) in
    let both = factors_some (product front) columns (omega arith) in
    let one : 1 ≤ columns = omega (arith, both.1) in
    let more : product front * 1 ≤ product front * columns = mul-le-mul_left (product front) one in
    record { whole = whole; some = both.0; column = both.1; few = omega arith }
