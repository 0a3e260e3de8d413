-- The locals of the definitions that run, as they are kept.
use Rattle.std.proofs.Common.{◌≡◌, ℕ, zero, suc, ◌<◌, ◌==◌, Bool, true, false, List, [], ◌∷◌, length, map, reverse, None, Result, Ok, Err, OnOk, refl, ap, arith}
use Rattle.std.proofs.lemmas.List.{length-reverse}
use Rattle.std.proofs.Math.Dec.{eqb-suc-zero}
use Rattle.std.specs.FinMap as finite
use Rattle.j_entity.specs.Tree.{EntityTree}
use Rattle.j_names.specs.Names.{Locals, local_in, local_target, put_local}
use Rattle.j_names.specs.Kept.{levels}
use Rattle.j_names.specs.declared.target.Target.TheVariants as target

seen : (l : Locals) (ls : List Locals) (n : List ℕ) → 0 < length ls → finite.get l n ≡ local_in (levels l ls) n
seen l [] n h = absurd (omega arith)
seen l (m ∷ outer) n h = refl

aimed : (l : Locals) (ls : List Locals) → 0 < length ls → target.Local ≡ local_target (levels l ls)
aimed l [] h = absurd (omega arith)
aimed l (m ∷ outer) h = refl

mapped_length : {V : Type 0} (f : V → Locals) (outer : List V) → length (map f outer) ≡ length outer
mapped_length f [] = refl
mapped_length f (x ∷ xs) = omega (arith, mapped_length f xs)

some_kept : {V : Type 0} (f : V → Locals) (outer : List V) → 0 < length outer → 0 < length (reverse (map f outer))
some_kept f outer h = omega (arith, length-reverse (map f outer), mapped_length f outer)

pub local_seen : {V : Type 0} (f : V → Locals) (l : Locals) (outer : List V) (n : List ℕ) → 0 < length outer → finite.get l n ≡ local_in (levels l (reverse (map f outer))) n
local_seen f l outer n h = seen l (reverse (map f outer)) n (some_kept f outer h)

pub local_aimed : {V : Type 0} (f : V → Locals) (l : Locals) (outer : List V) → 0 < length outer → target.Local ≡ local_target (levels l (reverse (map f outer)))
local_aimed f l outer h = aimed l (reverse (map f outer)) (some_kept f outer h)

pub top_aimed : {V : Type 0} (f : V → Locals) (l : Locals) (outer : List V) → length outer ≡ 0 → target.Current ≡ local_target (levels l (reverse (map f outer)))
top_aimed f l [] h = refl
top_aimed f l (x ∷ xs) h = absurd (omega arith)

-- what a test of a length says
pub some_length : (n : ℕ) (b : Bool) → b ≡ (n == 0) → b ≡ false → 0 < n
some_length zero b e t = cc
some_length (suc n) b e t = omega arith

pub no_length : (n : ℕ) (b : Bool) → b ≡ (n == 0) → b ≡ true → n ≡ 0
no_length zero b e t = refl
no_length (suc n) b e t = cc (eqb-suc-zero n)

pub put_levels : (l m : Locals) (ls : List Locals) (n : List ℕ) (e : EntityTree) → m ≡ finite.insert l n e → levels m ls ≡ put_local (levels l ls) n e
put_levels l m [] n e h = refl
put_levels l m (k ∷ outer) n e h = ap (λ (x : Locals). x ∷ levels k outer) h

pub none_seen : (l : Locals) (ls : List Locals) (n : List ℕ) → finite.get l n ≡ None → local_in (levels l ls) n ≡ None
none_seen l [] n h = refl
none_seen l (m ∷ outer) n h = h

pub on_ok : {T E P Q : Type 0} (r : Result T E) → (P → Q) → OnOk r P → OnOk r Q
on_ok (Ok x) f h = f h
on_ok (Err e) f h = tt
