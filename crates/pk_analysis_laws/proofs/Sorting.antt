-- A strictly rising list of integers is determined by its members.
use Rattle.std.specs.Prelude.{◌≡◌, zero, suc, ℤ, ◌<ℤ◌, List, [], ◌∷◌, Contains}
use Rattle.std.specs.List.Sorted.{IsStrictlySortedBy}
use Rattle.std.specs.Ordering.{int_cmp}
use Rattle.std.proofs.Common.{Less, arith, refl, subst, sym, ap, ◌∙◌}
use Rattle.std.specs.Int.Signed.{<ℤ_irrefl}
use Rattle.std.proofs.lemmas.Int.{ints}
use Rattle.std.proofs.lemmas.Cmp.{int_ranked}
use Rattle.std.proofs.lemmas.Map.Keys.{Less-from_sorted, sorted_tail}
use Rattle.pk_graph.specs.Graphs.{GraphOf}
use Rattle.pk_thresh.specs.Thresholds.{AreThresholds}

-- what stands behind the first is greater
behind : (x : ℤ) (xs : List ℤ) (z : ℤ) → IsStrictlySortedBy int_cmp (x ∷ xs) → Contains xs z → x <ℤ z
behind x xs z s h =
    let less = Less-from_sorted int_cmp (x ∷ xs) 0 (suc h.0) z s (omega arith) (omega (arith, h.1)) in
    int_ranked x z Less (sym (sym (ap (int_cmp x) h.2) ∙ less))

-- a member is the first or stands behind it
first_is : (x y : ℤ) (xs ys : List ℤ) → IsStrictlySortedBy int_cmp (x ∷ xs) → IsStrictlySortedBy int_cmp (y ∷ ys) → Contains (y ∷ ys) x → Contains (x ∷ xs) y → x ≡ y
first_is x y xs ys s t (zero, l, is) k = sym is
first_is x y xs ys s t (suc i, l, is) (zero, m, js) = js
first_is x y xs ys s t (suc i, l, is) (suc j, m, js) =
    let up = behind y ys x t (i, omega (arith, l), is) in
    let down = behind x xs y s (j, omega (arith, m), js) in
    absurd (omega (arith, ints, up, down))

rest_of : (x : ℤ) (xs ys : List ℤ) → IsStrictlySortedBy int_cmp (x ∷ xs) → ((z : ℤ) → Contains (x ∷ xs) z → Contains (x ∷ ys) z) → (z : ℤ) → Contains xs z → Contains ys z
rest_of x xs ys s f z h = by (f z (suc h.0, omega (arith, h.1), h.2))
  where
    by : Contains (x ∷ ys) z → Contains ys z
    by (zero, l, is) = absurd (<ℤ_irrefl (subst (λ (w : ℤ). w <ℤ z) is (behind x xs z s h)))
    by (suc i, l, is) = (i, omega (arith, l), is)

same_members : (xs ys : List ℤ) → IsStrictlySortedBy int_cmp xs → IsStrictlySortedBy int_cmp ys → ((z : ℤ) → Contains xs z → Contains ys z) → ((z : ℤ) → Contains ys z → Contains xs z) → xs ≡ ys
same_members [] [] s t f g = refl
same_members [] (y ∷ ys) s t f g = let h = g y (0, omega arith, refl) in absurd (omega (arith, h.1))
same_members (x ∷ xs) [] s t f g = let h = f x (0, omega arith, refl) in absurd (omega (arith, h.1))
same_members (x ∷ xs) (y ∷ ys) s t f g =
    let same : x ≡ y = first_is x y xs ys s t (f x (0, omega arith, refl)) (g y (0, omega arith, refl)) in
    let t' : IsStrictlySortedBy int_cmp (x ∷ ys) = subst (λ (w : ℤ). IsStrictlySortedBy int_cmp (w ∷ ys)) (sym same) t in
    let f' : (z : ℤ) → Contains (x ∷ xs) z → Contains (x ∷ ys) z = λ z h. subst (λ (w : ℤ). Contains (w ∷ ys) z) (sym same) (f z h) in
    let g' : (z : ℤ) → Contains (x ∷ ys) z → Contains (x ∷ xs) z = λ z h. g z (subst (λ (w : ℤ). Contains (w ∷ ys) z) same h) in
    ap (λ (w : ℤ). w ∷ xs) same ∙ ap (λ (zs : List ℤ). y ∷ zs) (same_members xs ys (sorted_tail int_cmp x xs s) (sorted_tail int_cmp y ys t) (rest_of x xs ys s f') (rest_of x ys xs t' g'))

-- so the thresholds of a graph are determined
pub thresholds_same : (g : GraphOf) (a b : List ℤ) → AreThresholds g a → AreThresholds g b → a ≡ b
thresholds_same g a b h k = same_members a b h.rising k.rising (λ z i. (k.each z).1 ((h.each z).0 i)) (λ z i. (h.each z).1 ((k.each z).0 i))
