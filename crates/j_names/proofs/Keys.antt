-- The keys of rows, and the searches of rows and of locals.
use Rattle.std.proofs.Common.{◌≡◌, ℕ, Bool, IsTrue, List, [], ◌∷◌, ap}
use Rattle.std.specs.Ordering.{nat_cmp}
use Rattle.std.specs.Cmp.{IsTotalOrder, on_total}
use Rattle.std.specs.Cmp.Lexicographic.{slice_cmp, nat_list_cmp_total, lists_total}
use Rattle.std.specs.FinMap.{IsAntisymmetric, nat_cmp-IsAntisymmetric, slice_cmp-IsAntisymmetric}
use Rattle.j_names.specs.Kept.{row_key, row_value, has_key, local_name, local_value, has_name}
use Rattle.j_names.specs.declared.names.Row.{Row}
use Rattle.j_names.specs.declared.names.Local.{Local}
use Rattle.j_names.proofs.Search.{row_has}
use Rattle.j_names.specs.Names.{Key, key_texts, key_cmp}

pub text_total : IsTotalOrder (slice_cmp nat_cmp)
text_total = nat_list_cmp_total

pub text_exact : IsAntisymmetric (slice_cmp nat_cmp)
text_exact = slice_cmp-IsAntisymmetric nat_cmp-IsAntisymmetric

pub key_total : IsTotalOrder key_cmp
key_total = on_total key_texts (lists_total nat_list_cmp_total)

first : List (List ℕ) → List ℕ
first [] = []
first (x ∷ xs) = x

second : List (List ℕ) → List ℕ
second [] = []
second (x ∷ xs) = first xs

same_texts : (k l : Key) → key_texts k ≡ key_texts l → k ≡ l
unfolding first second
same_texts k l e = λ i. (first (e i), second (e i))

pub key_exact : IsAntisymmetric key_cmp
key_exact k l e = same_texts k l (slice_cmp-IsAntisymmetric text_exact (key_texts k) (key_texts l) e)

same_key : (k l : Key) → k.1 ≡ l.1 → k.0 ≡ l.0 → k ≡ l
same_key k l n o = λ i. (o i, n i)

pub key_has : (b : Bool) (k : Key) (r : Row) → (IsTrue b → (r.name ≡ k.1) × (r.locale ≡ k.0)) × ((r.name ≡ k.1) × (r.locale ≡ k.0) → IsTrue b) → has_key k r ≡ b
key_has b k r h =
    row_has key_cmp key_total key_exact row_key row_value b k (row_key r)
    (λ t. same_key (row_key r) k (h.0 t).0 (h.0 t).1, λ e. h.1 (ap (λ (k : Key). k.1) e, ap (λ (k : Key). k.0) e))

pub name_has : (b : Bool) (n : List ℕ) (l : Local) → (IsTrue b → l.name ≡ n) × (l.name ≡ n → IsTrue b) → has_name n l ≡ b
name_has b n l h = row_has (slice_cmp nat_cmp) text_total text_exact local_name local_value b n l.name h
