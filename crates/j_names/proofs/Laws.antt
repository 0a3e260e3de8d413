-- What a finite map holds after it was given something.
use Rattle.std.proofs.Common.{◌≡◌, ◌≢◌, ℕ, cond, List, Some, None, refl, sym, ap, ◌∙◌}
use Rattle.std.specs.Ordering.{nat_cmp, eq_by_cmp}
use Rattle.std.specs.declared.cmp.Ordering.{Ordering}
use Rattle.std.specs.Cmp.{IsTotalOrder}
use Rattle.std.specs.Cmp.Lexicographic.{slice_cmp}
use Rattle.std.specs.FinMap.{FinMap, get, insert, empty, same_map, get-insert, get-empty, IsAntisymmetric}
use Rattle.j_entity.specs.Tree.{EntityTree}
use Rattle.j_names.specs.Names.{Key, key_cmp, LocaleRows, Locals}
use Rattle.j_names.proofs.Keys.{key_total, text_total}
use Rattle.j_names.proofs.Search.{equal_same, same_equal, not_true, shadowed}

pub got : (m : LocaleRows) (k : Key) (e : EntityTree) (q : Key) → get (insert m k e) q ≡ cond (eq_by_cmp key_cmp q k) (Some e) (get m q)
got m k e q = get-insert key_total m k e q

pub got_none : (q : Key) → get (empty {X = EntityTree} {R = key_cmp}) q ≡ None
got_none q = get-empty key_cmp q

pub got_local : (m : Locals) (k : List ℕ) (e : EntityTree) (q : List ℕ) → get (insert m k e) q ≡ cond (eq_by_cmp (slice_cmp nat_cmp) q k) (Some e) (get m q)
got_local m k e q = get-insert text_total m k e q

pub got_no_local : (q : List ℕ) → get (empty {X = EntityTree} {R = slice_cmp nat_cmp}) q ≡ None
got_no_local q = get-empty (slice_cmp nat_cmp) q

module _ {K : Type 0} (cmp : K → K → Ordering) (total : IsTotalOrder cmp) (exact : IsAntisymmetric cmp) where
  pub given : (m : FinMap cmp EntityTree) (k : K) (e : EntityTree) → get (insert m k e) k ≡ Some e
  given m k e = get-insert total m k e k ∙ ap (λ b. cond b (Some e) (get m k)) (equal_same cmp total exact (λ (k : K). k) (λ (k : K). e) k k refl)

  pub others : (m : FinMap cmp EntityTree) (k l : K) (e : EntityTree) → l ≢ k → get (insert m k e) l ≡ get m l
  others m k l e apart =
      get-insert total m k e l
      ∙ ap (λ b. cond b (Some e) (get m l)) (not_true (eq_by_cmp cmp l k) (λ t. absurd (apart (same_equal cmp total exact (λ (k : K). k) (λ (k : K). e) l k t))))

  pub last : (m : FinMap cmp EntityTree) (k : K) (d e : EntityTree) → insert (insert m k d) k e ≡ insert m k e
  last m k d e =
      same_map total exact _ _
      (λ q. get-insert total (insert m k d) k e q
      ∙ ap (cond (eq_by_cmp cmp q k) (Some e)) (get-insert total m k d q)
      ∙ sym (get-insert total m k e q ∙ shadowed (eq_by_cmp cmp q k) (Some e) (Some d) (get m q)))
