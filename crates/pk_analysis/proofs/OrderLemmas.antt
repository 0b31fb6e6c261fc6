-- The tests say what they test.
use Rattle.std.proofs.Common.{◌≡◌, ◌<◌, ◌*◌, ◌==◌, ◌&&◌, ℕ, zero, suc, ap, ◌∙◌, sym, subst, refl, Bool, true, false, Option, None, Some, List, [], ◌∷◌, length, ℤ, arith}
use Rattle.std.specs.List.{slice_index_or}
use Rattle.std.specs.Bool.{Decides}
use Rattle.std.specs.Ordering.{int_eq}
use Rattle.std.proofs.lemmas.Bool.Decides.{Decides-int_eq, Decides-eqb}
use Rattle.pk_value.specs.Known.{Known, is_within}
use Rattle.pk_octmat.specs.Bounds.{AtMost, is_at_most}
use Rattle.pk_octmat.specs.Octagon.{Octagon, entry, cell_at, IsOctagon}
use Rattle.pk_octops.specs.Tables as tables
use Rattle.pk_octops.proofs.Pointwise.{at_most_from, not_at_most, cells_below, cells_at}
use Rattle.pk_octagons.specs.Values.{known_at}
use Rattle.pk_octagons.specs.Octagons.{octagon_at, AreOctagons, AreBelow}
use Rattle.pk_octagons.proofs.Sound.{first_of, no_octagons, no_packs}
use Rattle.pk_state.specs.Layouts.{Layout}
use Rattle.pk_state.specs.Facts.{Facts, AreFactsIf, AreFacts, AreWithin, IsBelow}
use Rattle.pk_analysis.specs.Orders.{values_within, bounds_within, octagons_within, is_below, same_known, same_values, same_bound, same_bounds, same_octagon, same_octagons, is_same}

split : (a b : Bool) → (a && b) ≡ true → (a ≡ true) × (b ≡ true)
split true true e = (refl, refl)
split true false e = absurd (cc)
split false b e = absurd (cc)

both : (a b : Bool) → a ≡ true → b ≡ true → (a && b) ≡ true
both true true e f = refl
both true false e f = absurd (cc)
both false b e f = absurd (cc)

-- ---- the order

at_most_to : (a b : Option ℤ) → AtMost a b → is_at_most a b ≡ true
at_most_to a b h = by (is_at_most a b) refl
  where
    by : (t : Bool) → is_at_most a b ≡ t → t ≡ true
    by true e = refl
    by false e = absurd (not_at_most a b e h)

bounds_from : (xs ys : List (Option ℤ)) (k : ℕ) → length xs ≡ length ys → bounds_within xs ys ≡ true → k < length xs → AtMost (slice_index_or xs k None) (slice_index_or ys k None)
bounds_from [] ys k s e h = absurd (omega arith)
bounds_from (x ∷ xs) [] k s e h = absurd (omega (arith, s))
bounds_from (x ∷ xs) (y ∷ ys) zero s e h = at_most_from x y (split (is_at_most x y) (bounds_within xs ys) e).0
bounds_from (x ∷ xs) (y ∷ ys) (suc k) s e h = bounds_from xs ys k (omega (arith, s)) (split (is_at_most x y) (bounds_within xs ys) e).1 (omega arith)

bounds_to : (xs ys : List (Option ℤ)) → length xs ≡ length ys → ((k : ℕ) → k < length xs → AtMost (slice_index_or xs k None) (slice_index_or ys k None)) → bounds_within xs ys ≡ true
bounds_to [] ys s h = refl
bounds_to (x ∷ xs) [] s h = refl
bounds_to (x ∷ xs) (y ∷ ys) s h = both (is_at_most x y) (bounds_within xs ys) (at_most_to x y (h 0 (omega arith))) (bounds_to xs ys (omega (arith, s)) (λ k l. h (suc k) (omega arith)))

values_from : (xs ys : List Known) (k : ℕ) → length xs ≡ length ys → values_within xs ys ≡ true → k < length xs → is_within (known_at xs k) (known_at ys k) ≡ true
values_from [] ys k s e h = absurd (omega arith)
values_from (x ∷ xs) [] k s e h = absurd (omega (arith, s))
values_from (x ∷ xs) (y ∷ ys) zero s e h = (split (is_within x y) (values_within xs ys) e).0
values_from (x ∷ xs) (y ∷ ys) (suc k) s e h = values_from xs ys k (omega (arith, s)) (split (is_within x y) (values_within xs ys) e).1 (omega arith)

values_to : (xs ys : List Known) → length xs ≡ length ys → ((k : ℕ) → k < length xs → is_within (known_at xs k) (known_at ys k) ≡ true) → values_within xs ys ≡ true
values_to [] ys s h = refl
values_to (x ∷ xs) [] s h = refl
values_to (x ∷ xs) (y ∷ ys) s h = both (is_within x y) (values_within xs ys) (h 0 (omega arith)) (values_to xs ys (omega (arith, s)) (λ k l. h (suc k) (omega arith)))

module _ (a b : Octagon) (f : IsOctagon a) (g : IsOctagon b) (same_vars : b.vars ≡ a.vars) where
  as_large : length a.cells ≡ length b.cells
  as_large = f.whole.size ∙ ap (λ (n : ℕ). 2 * n * (2 * n)) (sym same_vars) ∙ sym g.whole.size

  entry_is : (i j : ℕ) → entry b i j ≡ cell_at (2 * a.vars) b.cells i j
  entry_is i j = ap (λ (n : ℕ). cell_at (2 * n) b.cells i j) same_vars

  octagon_from : bounds_within a.cells b.cells ≡ true → tables.IsBelow a b
  octagon_from e = record {
    each = λ i j. subst (λ (o : Option ℤ). AtMost (entry a i j) o) (sym (entry_is i j))
        (cells_below (2 * a.vars) a.cells b.cells (length a.cells) f.whole.size (omega arith) (λ k h. bounds_from a.cells b.cells k as_large e h) i j);
  }

  pub octagon_to : tables.IsBelow a b → bounds_within a.cells b.cells ≡ true
  octagon_to h = bounds_to a.cells b.cells as_large
      (λ k l. cells_at (2 * a.vars) a.cells b.cells k f.whole.size l (λ i j. subst (λ (o : Option ℤ). AtMost (entry a i j) o) (entry_is i j) (h.each i j)))

octagons_from : (packs : List (List ℕ)) (ms ns : List Octagon) → AreOctagons packs ms → AreOctagons packs ns → octagons_within ms ns ≡ true → (p : ℕ) → p < length ms → tables.IsBelow (octagon_at ms p) (octagon_at ns p)
octagons_from [] [] ns h k e p q = absurd (omega (arith, q))
octagons_from [] (m ∷ ms) ns h k e p q = no_packs m ms h
octagons_from (c ∷ packs) [] ns h k e p q = no_octagons c packs h
octagons_from (c ∷ packs) (m ∷ ms) [] h k e p q = no_octagons c packs k
octagons_from (c ∷ packs) (m ∷ ms) (n ∷ ns) h k e zero q =
    let f = first_of c packs m ms h in
    let g = first_of c packs n ns k in
    octagon_from m n f.octagon g.octagon (g.vars ∙ sym f.vars) (split (bounds_within m.cells n.cells) (octagons_within ms ns) e).0
octagons_from (c ∷ packs) (m ∷ ms) (n ∷ ns) h k e (suc p) q =
    octagons_from packs ms ns (first_of c packs m ms h).rest (first_of c packs n ns k).rest (split (bounds_within m.cells n.cells) (octagons_within ms ns) e).1 p (omega (arith, q))

octagons_to : (packs : List (List ℕ)) (ms ns : List Octagon) → AreOctagons packs ms → AreOctagons packs ns → AreBelow ms ns → octagons_within ms ns ≡ true
octagons_to [] [] ns h k b = refl
octagons_to [] (m ∷ ms) ns h k b = no_packs m ms h
octagons_to (c ∷ packs) [] ns h k b = refl
octagons_to (c ∷ packs) (m ∷ ms) [] h k b = refl
octagons_to (c ∷ packs) (m ∷ ms) (n ∷ ns) h k b =
    let f = first_of c packs m ms h in
    let g = first_of c packs n ns k in
    both (bounds_within m.cells n.cells) (octagons_within ms ns) (octagon_to m n f.octagon g.octagon (g.vars ∙ sym f.vars) (b 0 (omega arith))) (octagons_to packs ms ns f.rest g.rest (λ p q. b (suc p) (omega (arith, q))))

module _ (l : Layout) (a b : Facts) (f : AreFacts l a) (g : AreFacts l b) where
  as_many : length a.values ≡ length b.values
  as_many = f.values.size ∙ sym g.values.size

  within_decides : Decides (values_within a.values b.values && octagons_within a.octagons b.octagons) (AreWithin a b)
  within_decides = (
    (λ e. let s = split (values_within a.values b.values) (octagons_within a.octagons b.octagons) e in
        record { values = λ x h. values_from a.values b.values x as_many s.0 h; octagons = octagons_from l.packs a.octagons b.octagons f.octagons g.octagons s.1 }),
    (λ h. both (values_within a.values b.values) (octagons_within a.octagons b.octagons) (values_to a.values b.values as_many h.values) (octagons_to l.packs a.octagons b.octagons f.octagons g.octagons h.octagons)),
  )

pub below_decides : (l : Layout) (a b : Option Facts) → AreFactsIf l a → AreFactsIf l b → Decides (is_below a b) (IsBelow a b)
below_decides l None b f g = ((λ e. tt), (λ h. refl))
below_decides l (Some a) None f g = ((λ e. absurd (cc)), (λ h. absurd h))
below_decides l (Some a) (Some b) f g = within_decides l a b f g

-- ---- sameness

known_decides : (a b : Known) → Decides (same_known a b) (a ≡ b)
known_decides a b = (
  (λ e. let s = split (int_eq a.range.lo b.range.lo) (int_eq a.range.hi b.range.hi && (int_eq a.class.m b.class.m && int_eq a.class.r b.class.r)) e in
      let t = split (int_eq a.range.hi b.range.hi) (int_eq a.class.m b.class.m && int_eq a.class.r b.class.r) s.1 in
      let u = split (int_eq a.class.m b.class.m) (int_eq a.class.r b.class.r) t.1 in
      of_parts ((Decides-int_eq a.range.lo b.range.lo).0 s.0) ((Decides-int_eq a.range.hi b.range.hi).0 t.0) ((Decides-int_eq a.class.m b.class.m).0 u.0) ((Decides-int_eq a.class.r b.class.r).0 u.1)),
  (λ e. both (int_eq a.range.lo b.range.lo) (int_eq a.range.hi b.range.hi && (int_eq a.class.m b.class.m && int_eq a.class.r b.class.r)) ((Decides-int_eq a.range.lo b.range.lo).1 (ap (λ (k : Known). k.range.lo) e))
      (both (int_eq a.range.hi b.range.hi) (int_eq a.class.m b.class.m && int_eq a.class.r b.class.r) ((Decides-int_eq a.range.hi b.range.hi).1 (ap (λ (k : Known). k.range.hi) e))
      (both (int_eq a.class.m b.class.m) (int_eq a.class.r b.class.r) ((Decides-int_eq a.class.m b.class.m).1 (ap (λ (k : Known). k.class.m) e)) ((Decides-int_eq a.class.r b.class.r).1 (ap (λ (k : Known). k.class.r) e))))),
)
  where
    of_parts : a.range.lo ≡ b.range.lo → a.range.hi ≡ b.range.hi → a.class.m ≡ b.class.m → a.class.r ≡ b.class.r → a ≡ b
    of_parts lo hi m r =
        ap (λ (z : ℤ). let k : Known = record { range = record { lo = z; hi = a.range.hi }; class = a.class } in k) lo
        ∙ ap (λ (z : ℤ). let k : Known = record { range = record { lo = b.range.lo; hi = z }; class = a.class } in k) hi
        ∙ ap (λ (z : ℤ). let k : Known = record { range = b.range; class = record { m = z; r = a.class.r } } in k) m
        ∙ ap (λ (z : ℤ). let k : Known = record { range = b.range; class = record { m = b.class.m; r = z } } in k) r

values_same : (xs ys : List Known) → Decides (same_values xs ys) (xs ≡ ys)
values_same [] [] = ((λ e. refl), (λ e. refl))
values_same [] (y ∷ ys) = ((λ e. absurd (cc)), (λ e. absurd (cc)))
values_same (x ∷ xs) [] = ((λ e. absurd (cc)), (λ e. absurd (cc)))
values_same (x ∷ xs) (y ∷ ys) =
    let first = known_decides x y in
    let rest = values_same xs ys in (
      (λ e. let s = split (same_known x y) (same_values xs ys) e in let one = first.0 s.0 in let other = rest.0 s.1 in cc),
      (λ e. let one : x ≡ y = cc in let other : xs ≡ ys = cc in both (same_known x y) (same_values xs ys) (first.1 one) (rest.1 other)),
    )

bound_decides : (a b : Option ℤ) → Decides (same_bound a b) (a ≡ b)
bound_decides None None = ((λ e. refl), (λ e. refl))
bound_decides None (Some b) = ((λ e. absurd (cc)), (λ e. absurd (cc)))
bound_decides (Some a) None = ((λ e. absurd (cc)), (λ e. absurd (cc)))
bound_decides (Some a) (Some b) = ((λ e. ap Some ((Decides-int_eq a b).0 e)), (λ e. let one : a ≡ b = cc in (Decides-int_eq a b).1 one))

bounds_same : (xs ys : List (Option ℤ)) → Decides (same_bounds xs ys) (xs ≡ ys)
bounds_same [] [] = ((λ e. refl), (λ e. refl))
bounds_same [] (y ∷ ys) = ((λ e. absurd (cc)), (λ e. absurd (cc)))
bounds_same (x ∷ xs) [] = ((λ e. absurd (cc)), (λ e. absurd (cc)))
bounds_same (x ∷ xs) (y ∷ ys) =
    let first = bound_decides x y in
    let rest = bounds_same xs ys in (
      (λ e. let s = split (same_bound x y) (same_bounds xs ys) e in let one = first.0 s.0 in let other = rest.0 s.1 in cc),
      (λ e. let one : x ≡ y = cc in let other : xs ≡ ys = cc in both (same_bound x y) (same_bounds xs ys) (first.1 one) (rest.1 other)),
    )

octagon_decides : (a b : Octagon) → Decides (same_octagon a b) (a ≡ b)
octagon_decides a b = (
  (λ e. let t = split (a.vars == b.vars) (same_bounds a.cells b.cells) e in
      ap (λ (n : ℕ). let m : Octagon = record { vars = n; cells = a.cells } in m) ((Decides-eqb a.vars b.vars).0 t.0)
      ∙ ap (λ (cs : List (Option ℤ)). let m : Octagon = record { vars = b.vars; cells = cs } in m) ((bounds_same a.cells b.cells).0 t.1)),
  (λ e. both (a.vars == b.vars) (same_bounds a.cells b.cells) ((Decides-eqb a.vars b.vars).1 (ap (λ (m : Octagon). m.vars) e)) ((bounds_same a.cells b.cells).1 (ap (λ (m : Octagon). m.cells) e))),
)

octagons_same : (ms ns : List Octagon) → Decides (same_octagons ms ns) (ms ≡ ns)
octagons_same [] [] = ((λ e. refl), (λ e. refl))
octagons_same [] (n ∷ ns) = ((λ e. absurd (cc)), (λ e. absurd (cc)))
octagons_same (m ∷ ms) [] = ((λ e. absurd (cc)), (λ e. absurd (cc)))
octagons_same (m ∷ ms) (n ∷ ns) =
    let first = octagon_decides m n in
    let rest = octagons_same ms ns in (
      (λ e. let s = split (same_octagon m n) (same_octagons ms ns) e in let one = first.0 s.0 in let other = rest.0 s.1 in cc),
      (λ e. let one : m ≡ n = cc in let other : ms ≡ ns = cc in both (same_octagon m n) (same_octagons ms ns) (first.1 one) (rest.1 other)),
    )

facts_same : (a b : Facts) → Decides (is_same (Some a) (Some b)) (Some a ≡ Some b)
facts_same a b = (
  (λ e. let s = split (same_values a.values b.values) (same_octagons a.octagons b.octagons) e in
      ap (λ (vs : List Known). let f : Facts = record { values = vs; octagons = a.octagons } in Some f) ((values_same a.values b.values).0 s.0)
      ∙ ap (λ (ms : List Octagon). let f : Facts = record { values = b.values; octagons = ms } in Some f) ((octagons_same a.octagons b.octagons).0 s.1)),
  (λ e. let one : a ≡ b = cc in
      both (same_values a.values b.values) (same_octagons a.octagons b.octagons) ((values_same a.values b.values).1 (ap (λ (f : Facts). f.values) one)) ((octagons_same a.octagons b.octagons).1 (ap (λ (f : Facts). f.octagons) one))),
)

pub same_decides : (a b : Option Facts) → Decides (is_same a b) (a ≡ b)
same_decides None None = ((λ e. refl), (λ e. refl))
same_decides None (Some b) = ((λ e. absurd (cc)), (λ e. absurd (cc)))
same_decides (Some a) None = ((λ e. absurd (cc)), (λ e. absurd (cc)))
same_decides (Some a) (Some b) = facts_same a b
