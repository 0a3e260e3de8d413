-- Numbers that are sorted, as the items at the places in order.
use Rattle.std.proofs.Common.{◌≡◌, ◌<◌, ◌+◌, ◌*◌, ℕ, ℤ, Bool, true, false, ◌&&◌, List, [], ◌∷◌, ◌++◌, length, map, get_or, take, arith, refl, sym, ap, ◌∙◌, subst, FitsSigned}
use Rattle.std.specs.List.{All, flat_map}
use Rattle.std.specs.Int.{w64}
use Rattle.std.specs.Ordering.{int_cmp, int_eq}
use Rattle.std.specs.Cmp.Lexicographic.{pointwise}
use Rattle.std.proofs.lemmas.Bool.{true≢false}
use Rattle.std.proofs.lemmas.Bool.Decides.{Decides-int_eq}
use Rattle.std.proofs.lemmas.List.{take_more, append-nil, length-map}
use Rattle.std.proofs.lemmas.Grind.{flat_map-append}
use Rattle.j_definitions.specs.Array.{Array, IsNoun, number, product, tally}
use Rattle.j_definitions.specs.Items.{item, item_size}
use Rattle.j_definitions.specs.declared.Kind.TheVariants.{Number}
use Rattle.j_search.specs.declared.numbered.Range.{Range}
use Rattle.j_search.specs.declared.order.Direction.{Direction}
use Rattle.j_search.specs.Graded.{run_order, IsSortedOf}
use Rattle.j_search.specs.Order.{ordered}
use Rattle.j_search.specs.Packed.{place_in, distance_in, IsDistance, IsPacked}
use Rattle.j_search.specs.Sought.{run}
use Rattle.j_search.proofs.Grading.{order_is, all_runs, length-ordered}
use Rattle.j_search.proofs.Picked.{picked_map, picks_same, length-picks}

-- the number at a word's distance is the one at its place
pub number_here : (d : Direction) (r : Range) (xs : List ℤ) (w : ℕ) (z : ℤ) → IsPacked (λ x. x) d r xs w → ((y : ℤ) → FitsSigned w64 y → IsDistance d r y (distance_in w) → z ≡ y) → run 1 xs (place_in w) ≡ z ∷ []
number_here d r xs w z p told = p.here ∙ ap (λ y. y ∷ []) (sym (told p.element p.fits p.distance))

-- one word more
pub word_taken : (F : ℕ → List ℤ) (us : List ℕ) (i : ℕ) (old new : List ℤ) (z : ℤ) → i < length us → old ≡ flat_map F (take i us) → F (get_or us i 0) ≡ z ∷ [] → new ≡ old ++ z ∷ [] → new ≡ flat_map F (take (i + 1) us)
word_taken F us i old new z l h here pushed =
    pushed ∙ ap (λ zs. zs ++ z ∷ []) h ∙ ap (λ zs. flat_map F (take i us) ++ zs) (sym here ∙ sym (append-nil (F (get_or us i 0)))) ∙ sym (flat_map-append F (take i us) (get_or us i 0 ∷ []))
    ∙ ap (flat_map F) (sym (take_more us i 0 l))

both_true : (a b : Bool) → (a && b) ≡ true → (a ≡ true) × (b ≡ true)
both_true true b h = (refl, h)
both_true false b h = absurd (true≢false (sym h))

pub same_numbers : (xs ys : List ℤ) → pointwise int_eq xs ys ≡ true → xs ≡ ys
same_numbers [] [] h = refl
same_numbers [] (y ∷ ys) h = absurd (true≢false (sym h))
same_numbers (x ∷ xs) [] h = absurd (true≢false (sym h))
same_numbers (x ∷ xs) (y ∷ ys) h =
    let both = both_true (int_eq x y) (pointwise int_eq xs ys) h in
    ap (λ z. z ∷ xs) ((Decides-int_eq x y).0 both.0) ∙ ap (λ zs. y ∷ zs) (same_numbers xs ys both.1)

pub sorted_of : (d : Direction) (x y : Array) (b zs : List ℤ) → IsNoun x → Number ≡ x.kind → map number b ≡ x.atoms → map number b ≡ y.atoms → length y.atoms ≡ product y.shape → tally x.shape ≡ tally y.shape → 1 ≡ item_size x.shape → 1 ≡ item_size y.shape →
    All (λ k. k < length b) (run_order int_cmp d 1 (length b) b) → zs ≡ flat_map (run 1 b) (run_order int_cmp d 1 (length b) b) → IsSortedOf d x y zs
sorted_of d x y b zs noun kind ax ay as_many same sx sy within e =
    let all : length b ≡ tally y.shape * 1 = all_runs number y b 1 (tally y.shape) ay as_many refl (λ s. sy) in
    let many : length b ≡ tally y.shape = omega arith in
    let order : run_order int_cmp d 1 (length b) b ≡ ordered d y = order_is number int_cmp (λ _ _. refl) y b 1 ay d (length b) many (λ s. sy) in
    let low : All (λ k. k < tally x.shape) (ordered d y) = subst (All (λ k. k < tally x.shape)) order (λ k c l. let less = within k c l in omega arith) in
    let atoms : map number zs ≡ flat_map (item x) (ordered d y) = picked_map number 1 b zs (ordered d y) (e ∙ ap (flat_map (run 1 b)) order) ∙ picks_same x (map number b) 1 (ordered d y) ax low (λ s. sx) in
    record {
      kind = kind;
      atoms = atoms;
      as_many = sym (length-map zs number) ∙ ap length atoms ∙ length-picks x (ordered d y) noun low ∙ ap (λ n. n * item_size x.shape) (length-ordered d y ∙ sym same);
    }
