-- A name is read from its bytes, and its bytes are those it was read from.
use Rattle.std.proofs.Common.{◌≡◌, ℕ, suc, ◌+◌, ◌-◌, ◌<◌, ◌≤◌, ◌==◌, ◌&&◌, Bool, true, false, cond, nat_lt, List, [], ◌∷◌, ◌++◌, length, take, drop, Option, Some, None, option_map, refl, sym, ap, ◌∙◌, subst, length-append, arith}
use Rattle.std.proofs.lemmas.Bool.{and_parts, eqb-true, ltb-true}
use Rattle.std.proofs.lemmas.List.{take_at, take-take, length-take}
use Rattle.j_words.specs.Names.{has_name_bytes, double_at, low_here, last_low, ends_low, is_simple, has_locale, is_direct, is_object}
use Rattle.j_words.specs.NameForms.{name_form}
use Rattle.j_words.specs.declared.names.NameForm.{NameForm}
use Rattle.j_words.specs.declared.names.NameForm.TheVariants as form
use Rattle.j_leaves.specs.declared.name.Place.{Place}
use Rattle.j_leaves.specs.Names.{NameParts, parted, name_of, name_spelling, IsName}

-- where bytes part
ends_parted : (bs : List ℕ) → ends_low bs ≡ true → (front : List ℕ) × (bs ≡ front ++ 95 ∷ [])
ends_parted [] h = absurd (cc)
ends_parted (b ∷ []) h = ([], ap (λ c. c ∷ []) (eqb-true b 95 h))
ends_parted (b ∷ c ∷ bs) h =
    let rest = ends_parted (c ∷ bs) h in
    (b ∷ rest.0, ap (λ xs. b ∷ xs) rest.1)

end_parted : (bs : List ℕ) → ends_low bs ≡ true → bs ≡ take (length bs - 1) bs ++ 95 ∷ []
end_parted bs h =
    let p = ends_parted bs h in
    let n : length p.0 ≡ length bs - 1 = omega (arith, ap length p.1, length-append p.0 (95 ∷ [])) in
    let front : take (length bs - 1) bs ≡ p.0 = ap (λ xs. take (length bs - 1) xs) p.1 ∙ take_at p.0 (95 ∷ []) (length bs - 1) n in
    p.1 ∙ ap (λ xs. xs ++ 95 ∷ []) (sym front)

last_within : (bs : List ℕ) (n : ℕ) → last_low bs ≡ Some n → n < length bs
last_within [] n h = absurd (cc)
last_within (b ∷ bs) n h = go (last_within bs) (b == 95) (last_low bs) refl h
  where
    go : ((m : ℕ) → last_low bs ≡ Some m → m < length bs) → (v : Bool) (o : Option ℕ) → last_low bs ≡ o → low_here v o ≡ Some n → n < length (b ∷ bs)
    go i v (Some m) f g =
        let same : 1 + m ≡ n = cc in
        omega (arith, i m f)
    go i true None f g =
        let same : 0 ≡ n = cc in
        omega arith
    go i false None f g = absurd (cc)

low_parted : (bs : List ℕ) (n : ℕ) → last_low bs ≡ Some n → bs ≡ take n bs ++ 95 ∷ drop (n + 1) bs
low_parted [] n h = absurd (cc)
low_parted (b ∷ bs) n h = go (low_parted bs) (b == 95) (last_low bs) refl refl h
  where
    go : ((m : ℕ) → last_low bs ≡ Some m → bs ≡ take m bs ++ 95 ∷ drop (m + 1) bs) → (v : Bool) (o : Option ℕ) → (b == 95) ≡ v → last_low bs ≡ o → low_here v o ≡ Some n → b ∷ bs ≡ take n (b ∷ bs) ++ 95 ∷ drop (n + 1) (b ∷ bs)
    go i v (Some m) e f g =
        let same : 1 + m ≡ n = cc in
        let at : suc m ≡ n = omega arith in
        let more : suc (m + 1) ≡ n + 1 = omega arith in
        ap (λ xs. b ∷ xs) (i m f) ∙ ap (λ k. take k (b ∷ bs) ++ 95 ∷ drop (m + 1) bs) at ∙ ap (λ k. take n (b ∷ bs) ++ 95 ∷ drop k (b ∷ bs)) more
    go i true None e f g =
        let at : 0 ≡ n = cc in
        subst (λ k. b ∷ bs ≡ take k (b ∷ bs) ++ 95 ∷ drop (k + 1) (b ∷ bs)) at (ap (λ c. c ∷ bs) (eqb-true b 95 e))
    go i false None e f g = absurd (cc)

double_parted : (bs : List ℕ) → double_at bs < length bs → bs ≡ take (double_at bs) bs ++ 95 ∷ 95 ∷ drop (double_at bs + 2) bs
double_parted [] h = absurd (omega arith)
double_parted (b ∷ []) h = go (b == 95) h
  where
    go : (v : Bool) → cond (v && false) 0 1 < 1 → b ∷ [] ≡ take (cond (v && false) 0 1) (b ∷ []) ++ 95 ∷ 95 ∷ drop (cond (v && false) 0 1 + 2) (b ∷ [])
    go true l = absurd (omega arith)
    go false l = absurd (omega arith)
double_parted (b ∷ c ∷ bs) h = go (double_parted (c ∷ bs)) ((b == 95) && (c == 95)) refl h
  where
    go : (double_at (c ∷ bs) < length (c ∷ bs) → c ∷ bs ≡ take (double_at (c ∷ bs)) (c ∷ bs) ++ 95 ∷ 95 ∷ drop (double_at (c ∷ bs) + 2) (c ∷ bs))
        → (v : Bool) → ((b == 95) && (c == 95)) ≡ v → cond v 0 (suc (double_at (c ∷ bs))) < length (b ∷ c ∷ bs)
        → b ∷ c ∷ bs ≡ take (cond v 0 (suc (double_at (c ∷ bs)))) (b ∷ c ∷ bs) ++ 95 ∷ 95 ∷ drop (cond v 0 (suc (double_at (c ∷ bs))) + 2) (b ∷ c ∷ bs)
    go i true e l =
        let p = and_parts (b == 95) (c == 95) e in
        ap (λ x. x ∷ c ∷ bs) (eqb-true b 95 p.0) ∙ ap (λ x. 95 ∷ x ∷ bs) (eqb-true c 95 p.1)
    go i false e l =
        let m = double_at (c ∷ bs) in
        let more : suc (m + 2) ≡ suc m + 2 = omega arith in
        ap (λ xs. b ∷ xs) (i (omega arith)) ∙ ap (λ k. take (suc m) (b ∷ c ∷ bs) ++ 95 ∷ 95 ∷ drop k (b ∷ c ∷ bs)) more

-- what a form tells
abbrev Told : Bool → Bool → Option ℕ → ℕ → NameForm → Type 0
Told direct object low double form.Simple = Unit {0}
Told direct object low double (form.Direct n) = (direct ≡ true) × (low ≡ Some n)
Told direct object low double (form.Object n) = (object ≡ true) × (double ≡ n)

told : (bytes simple direct object : Bool) (low : Option ℕ) (double : ℕ) (f : NameForm)
    → cond bytes (cond simple (Some form.Simple) (cond direct (option_map form.Direct low) (cond object (Some (form.Object double)) None))) None ≡ Some f → Told direct object low double f
told false simple direct object low double f h = absurd (cc)
told true true direct object low double f h =
    let same : form.Simple ≡ f = cc in
    subst (Told direct object low double) same tt
told true false true object None double f h = absurd (cc)
told true false true object (Some n) double f h =
    let same : form.Direct n ≡ f = cc in
    subst (Told true object (Some n) double) same (refl, refl)
told true false false true low double f h =
    let same : form.Object double ≡ f = cc in
    subst (Told false true low double) same (refl, refl)
told true false false false low double f h = absurd (cc)

form_told : (bs : List ℕ) (f : NameForm) → name_form bs ≡ Some f → Told (is_direct bs) (is_object bs) (last_low (take (length bs - 1) bs)) (double_at bs) f
form_told bs f h = told (has_name_bytes bs) (is_simple bs) (is_direct bs) (is_object bs) (last_low (take (length bs - 1) bs)) (double_at bs) f h

-- the bytes of the parts
parts_spelled : (bs : List ℕ) (f : NameForm) → Told (is_direct bs) (is_object bs) (last_low (take (length bs - 1) bs)) (double_at bs) f → name_spelling (parted bs f) ≡ bs
parts_spelled bs form.Simple h = refl
parts_spelled bs (form.Direct n) h =
    let front = take (length bs - 1) bs in
    let ends = (and_parts (ends_low bs) (has_locale front (last_low front)) h.0).0 in
    let short : n ≤ length bs - 1 = omega (arith, last_within front n h.1, length-take (length bs - 1) bs) in
    ap (λ xs. (xs ++ 95 ∷ drop (n + 1) front) ++ 95 ∷ []) (sym (take-take n (length bs - 1) bs short)) ∙ ap (λ xs. xs ++ 95 ∷ []) (sym (low_parted front n h.1)) ∙ sym (end_parted bs ends)
parts_spelled bs (form.Object n) h =
    let within = (and_parts (nat_lt (double_at bs) (length bs)) _ h.0).0 in
    subst (λ k. take k bs ++ 95 ∷ 95 ∷ drop (k + 2) bs ≡ bs) h.1 (sym (double_parted bs (ltb-true (double_at bs) (length bs) within)))

form_spelled : (bs : List ℕ) (f : NameForm) → name_form bs ≡ Some f → name_spelling (parted bs f) ≡ bs
form_spelled bs f h = parts_spelled bs f (form_told bs f h)

pub name_kept : (bs : List ℕ) (f : NameForm) (n : NameParts) → name_form bs ≡ Some f → n ≡ parted bs f → IsName n
name_kept bs f n h e = record { read = ap (λ m. name_of (name_spelling m)) e ∙ ap name_of (form_spelled bs f h) ∙ ap (option_map (parted bs)) h ∙ ap Some (sym e) }

-- an equal name
pub same_name : (base base' : List ℕ) (place place' : Place) → IsName (record { base = base; place = place }) → base' ≡ base → place' ≡ place → IsName (record { base = base'; place = place' })
same_name base base' place place' h e f =
    let there : IsName (record { base = base; place = place' }) = subst (λ p. IsName (record { base = base; place = p })) (sym f) h in
    subst (λ b. IsName (record { base = b; place = place' })) (sym e) there

-- the name of bytes, by their form
pub name_read : (bs : List ℕ) (f : NameForm) (n : NameParts) → name_form bs ≡ Some f → n ≡ parted bs f → Some n ≡ name_of bs
name_read bs f n h e = ap Some e ∙ sym (ap (option_map (parted bs)) h)

pub none_read : (bs : List ℕ) → name_form bs ≡ None → None ≡ name_of bs
none_read bs h = sym (ap (option_map (parted bs)) h)

pub name_spelled : (bs : List ℕ) (n : NameParts) → name_of bs ≡ Some n → name_spelling n ≡ bs
name_spelled bs n h = go (name_form bs) refl h
  where
    go : (o : Option NameForm) → name_form bs ≡ o → option_map (parted bs) o ≡ Some n → name_spelling n ≡ bs
    go None e g = absurd (cc)
    go (Some f) e g =
        let same : parted bs f ≡ n = cc in
        ap name_spelling (sym same) ∙ form_spelled bs f e
