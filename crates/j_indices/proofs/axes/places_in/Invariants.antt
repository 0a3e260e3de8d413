use Rattle.std.proofs.Common.{◌≡◌, length, map, take, ℕ}
use Rattle.std.specs.declared.alloc.Global.{Global}
use Rattle.std.specs.declared.vec.Vec.{Vec}
use Rattle.j_definitions.specs.Array.{Array, product}
use Rattle.j_indices.specs.Indexing.{places_in, AreInside}
use Rattle.j_indices.proofs.Indices.{oks}
use Rattle.j_indices.proofs.axes.places_in.Given as goal

abbrev pub invariant-loop-i : goal.invariant-loop-i
invariant-loop-i l = record {
  given : take l.i (places_in l.axes l.nouns) ≡ oks (map (λ (w : Vec ℕ Global). w.items) l.out.items);
  inside : AreInside l.axes (map (λ (w : Vec ℕ Global). w.items) l.out.items);
  many : map (λ (w : Vec ℕ Global). length w.items) l.out.items ≡ map (λ (a : Array). product a.shape) (take l.i l.nouns);
}
