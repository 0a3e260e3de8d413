-- Bits that are padded.
use Rattle.std.proofs.Common.{◌≡◌, ◌<◌, ◌+◌, ◌-◌, ◌*◌, ℕ, pos, List, [], ◌∷◌, ◌++◌, length, map, take, drop, replicate, get_or, arith, sym, ap, ◌∙◌, subst, append-nil}
use Prim.Native.Nat.{zero, suc}
use Rattle.std.specs.List.{All, flat_map, range_with_len}
use Rattle.std.proofs.lemmas.List.{take_more}
use Rattle.std.proofs.lemmas.List.Concat.{flat_map-append}
use Rattle.std.proofs.lemmas.List.Elements.{All-nil, All-append, All-replicate, All-take, All-drop}
use Rattle.j_definitions.specs.Array.{Array, number, product, fill_atom}
use Rattle.j_definitions.specs.declared.Kind.{Kind}
use Rattle.j_definitions.specs.declared.Kind.TheVariants.{Number}
use Rattle.j_rank.specs.Assembly.{with_rank, padded, atoms_of_all}
use Rattle.j_rank.specs.Joined.{AreBitsOf}
use Rattle.j_rank.proofs.Paddings.{part, appended}

all_pieces : {X : Type 0} (P : X → Type 0) (f : ℕ → List X) (a n : ℕ) → ((k : ℕ) → All P (f k)) → All P (flat_map f (range_with_len a n))
all_pieces P f a zero h = All-nil P
all_pieces P f a (suc n) h = All-append P (f a) (flat_map f (range_with_len (a + 1) n)) (h a) (all_pieces P f (a + 1) n h)

-- what holds of the elements and of the fill holds of all
pub All-padded : {X : Type 0} (P : X → Type 0) (z : X) (t s : List ℕ) (xs : List X) → P z → All P xs → All P (padded z t s xs)
All-padded P z [] s xs g h = h
All-padded P z (m ∷ t) [] xs g h = h
All-padded P z (m ∷ t) (n ∷ s) xs g h =
    All-append P (flat_map (λ k. padded z t s (part (product t) xs k)) (range_with_len 0 m)) (replicate ((n - m) * product s) z)
    (all_pieces P (λ k. padded z t s (part (product t) xs k)) 0 m
    (λ k. All-padded P z t s (part (product t) xs k) g (All-take P (product t) (drop (k * product t) xs) (All-drop P (k * product t) xs h))))
    (All-replicate P ((n - m) * product s) z g)

-- the atoms of one result more
atoms_more : (k : Kind) (s : List ℕ) (xs : List Array) (i : ℕ) (a : Array) → i < length xs → a ≡ get_or xs i a →
    atoms_of_all k s (take (i + 1) xs) ≡ atoms_of_all k s (take i xs) ++ padded (fill_atom k) (with_rank (length s) a.shape) s a.atoms
atoms_more k s xs i a h is =
    ap (atoms_of_all k s) (take_more xs i a h ∙ ap (λ (b : Array). take i xs ++ b ∷ []) (sym is))
    ∙ flat_map-append (λ b. padded (fill_atom k) (with_rank (length s) b.shape) s b.atoms) (take i xs) (a ∷ [])
    ∙ ap (λ r. atoms_of_all k s (take i xs) ++ r) (append-nil (padded (fill_atom k) (with_rank (length s) a.shape) s a.atoms))

-- the bits of one result more
pub bits_more : (s axes : List ℕ) (xs : List Array) (i : ℕ) (a : Array) (run out new : List ℕ) → i < length xs → a ≡ get_or xs i a → axes ≡ a.shape →
    map (λ b. number (pos b)) run ≡ a.atoms → All (λ b. b < 2) run → AreBitsOf (atoms_of_all Number s (take i xs)) out →
    new ≡ out ++ padded 0 (with_rank (length s) axes) s run → AreBitsOf (atoms_of_all Number s (take (i + 1) xs)) new
bits_more s axes xs i a run out new h is same atoms low so_far more = record {
  atoms =
      appended (λ b. number (pos b)) 0 (length s) axes a.shape s run out new a.atoms same atoms more
      ∙ ap (λ r. r ++ padded (fill_atom Number) (with_rank (length s) a.shape) s a.atoms) so_far.atoms ∙ sym (atoms_more Number s xs i a h is);
  low =
      subst (All (λ b. b < 2)) (sym more)
      (All-append (λ b. b < 2) out (padded 0 (with_rank (length s) axes) s run) so_far.low (All-padded (λ b. b < 2) 0 (with_rank (length s) axes) s run (omega arith) low));
}
