-- What an assignment gives, and what it leaves as it was.
use Rattle.std.proofs.Common.{◌≡◌, ◌≢◌, ℕ, Bool, false, List, [], ◌∷◌, Option, Some, None, Result, Ok, Err, OnOk, OnErr, refl, sym, ap, ◌∙◌, subst, arith}
use Rattle.std.specs.Ordering.{nat_cmp}
use Rattle.std.specs.Cmp.Lexicographic.{slice_cmp}
use Rattle.std.specs.FinMap.{get}
use Rattle.j_definitions.specs.declared.Fault.{Fault}
use Rattle.j_entity.specs.Tree.{EntityTree}
use Rattle.j_leaves.specs.Names.{NameParts}
use Rattle.j_names.specs.Names.{Key, key_cmp, Scopes, Locals, local, local_in, assign, put, put_local, target_of, target_in, global_target, locale_at, then_in, without_first}
use Rattle.j_names.specs.declared.target.Target.{Target}
use Rattle.j_names.specs.declared.target.Target.TheVariants as target
use Rattle.j_names.proofs.Keys.{key_total, key_exact, text_total, text_exact}
use Rattle.j_names.proofs.Laws.{others}

same_Ok : {A : Type 0} (x y : A) → (let r : Result A Fault = Ok x in r) ≡ Ok y → x ≡ y
same_Ok x y e = grind arith

not_Ok : {A : Type 0} (f : Fault) (x : A) → Err f ≡ Ok x → ⊥
not_Ok f x e = grind arith

-- an assignment puts at its target
put_by : (q : Result Target Fault) (s t : Scopes) (n : List ℕ) (e : EntityTree) → then_in q (λ g. Ok (put s g n e)) ≡ Ok t
    → (g : Target) × (q ≡ Ok g) × (put s g n e ≡ t)
put_by (Ok g) s t n e h = (g, refl, same_Ok _ _ h)
put_by (Err f) s t n e h = absurd (not_Ok f t h)

put_current : (s : Scopes) (g : Target) (n : List ℕ) (e : EntityTree) → (put s g n e).current ≡ s.current
put_current s target.Local n e = refl
put_current s target.Current n e = refl
put_current s (target.Locale l) n e = refl

outer_put : (ls : List Locals) (n : List ℕ) (e : EntityTree) → without_first (put_local ls n e) ≡ without_first ls
outer_put [] n e = refl
outer_put (l ∷ outer) n e = refl

put_levels : (s : Scopes) (g : Target) (n : List ℕ) (e : EntityTree) → without_first (put s g n e).locals ≡ without_first s.locals
put_levels s target.Local n e = outer_put s.locals n e
put_levels s target.Current n e = refl
put_levels s (target.Locale l) n e = refl

put_rows : (s : Scopes) (g : Target) (n : List ℕ) (e : EntityTree) (l m : List ℕ) → m ≢ n → get (put s g n e).rows (l, m) ≡ get s.rows (l, m)
put_rows s target.Local n e l m apart = refl
put_rows s target.Current n e l m apart = others key_cmp key_total key_exact s.rows (s.current, n) (l, m) e (λ h. apart (ap (λ (k : Key). k.1) h))
put_rows s (target.Locale o) n e l m apart = others key_cmp key_total key_exact s.rows (o, n) (l, m) e (λ h. apart (ap (λ (k : Key). k.1) h))

other_local : (ls : List Locals) (n : List ℕ) (e : EntityTree) (m : List ℕ) → m ≢ n → local_in (put_local ls n e) m ≡ local_in ls m
other_local [] n e m apart = refl
other_local (l ∷ outer) n e m apart = others (slice_cmp nat_cmp) text_total text_exact l n m e apart

put_names : (s : Scopes) (g : Target) (n : List ℕ) (e : EntityTree) (m : List ℕ) → m ≢ n → local (put s g n e) m ≡ local s m
put_names s target.Local n e m apart = other_local s.locals n e m apart
put_names s target.Current n e m apart = refl
put_names s (target.Locale l) n e m apart = refl

pub same_current : (b : Bool) (s t : Scopes) (n : NameParts) (e : EntityTree) → assign b s n e ≡ Ok t → t.current ≡ s.current
same_current b s t n e h =
    let p = put_by (target_of b s n) s t n.base e h in
    ap (λ (x : Scopes). x.current) (sym p.2) ∙ put_current s p.0 n.base e

pub same_levels : (b : Bool) (s t : Scopes) (n : NameParts) (e : EntityTree) → assign b s n e ≡ Ok t → without_first t.locals ≡ without_first s.locals
same_levels b s t n e h =
    let p = put_by (target_of b s n) s t n.base e h in
    ap (λ (x : Scopes). without_first x.locals) (sym p.2) ∙ put_levels s p.0 n.base e

pub same_rows : (b : Bool) (s t : Scopes) (n : NameParts) (e : EntityTree) → assign b s n e ≡ Ok t → (l m : List ℕ) → m ≢ n.base → get t.rows (l, m) ≡ get s.rows (l, m)
same_rows b s t n e h l m apart =
    let p = put_by (target_of b s n) s t n.base e h in
    ap (λ (x : Scopes). get x.rows (l, m)) (sym p.2) ∙ put_rows s p.0 n.base e l m apart

pub same_names : (b : Bool) (s t : Scopes) (n : NameParts) (e : EntityTree) → assign b s n e ≡ Ok t → (m : List ℕ) → m ≢ n.base → local t m ≡ local s m
same_names b s t n e h m apart =
    let p = put_by (target_of b s n) s t n.base e h in
    ap (λ (x : Scopes). local x m) (sym p.2) ∙ put_names s p.0 n.base e m apart

global_put : (q : Option EntityTree) (s : Scopes) (g : Target) (n : List ℕ) (e : EntityTree) → global_target q ≡ Ok g → (put s g n e).locals ≡ s.locals
global_put None s g n e h = subst (λ (g : Target). (put s g n e).locals ≡ s.locals) (same_Ok target.Current g h) refl
global_put (Some x) s g n e h = absurd (not_Ok _ g h)

put_global : (q : Result (Option (List ℕ)) Fault) (s : Scopes) (g : Target) (n m : List ℕ) (e : EntityTree) → then_in q (target_in false s m) ≡ Ok g → (put s g n e).locals ≡ s.locals
put_global (Ok None) s g n m e h = global_put (local_in s.locals m) s g n e h
put_global (Ok (Some l)) s g n m e h = subst (λ (g : Target). (put s g n e).locals ≡ s.locals) (same_Ok (target.Locale l) g h) refl
put_global (Err f) s g n m e h = absurd (not_Ok f g h)

pub same_locals : (s t : Scopes) (n : NameParts) (e : EntityTree) → assign false s n e ≡ Ok t → t.locals ≡ s.locals
same_locals s t n e h =
    let p = put_by (target_of false s n) s t n.base e h in
    ap (λ (x : Scopes). x.locals) (sym p.2) ∙ put_global (locale_at s n.place) s p.0 n.base n.base e p.1

-- what both results of a call say
pub either : {T E P : Type 0} (r : Result T E) → OnOk r P → OnErr r P → P
either (Ok x) p q = p
either (Err e) p q = q

pub on_err : {T E P Q : Type 0} (r : Result T E) → (P → Q) → OnErr r P → OnErr r Q
on_err (Ok x) f h = tt
on_err (Err e) f h = f h
