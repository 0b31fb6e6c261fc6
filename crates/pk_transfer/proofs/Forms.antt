-- A tree's value is that of its linear form.
use Rattle.std.specs.Prelude.{◌≡◌, ◌⊎◌, ℕ, ◌*◌, ◌/◌, ◌%◌, ◌==◌, nat_le, Bool, true, false, ◌||◌, if◌then◌else◌, ℤ, pos, ◌+ℤ◌, ◌-ℤ◌, ◌≤ℤ◌, neg_ℤ, int_le, List, [], ◌∷◌, length, map, Option, Some, None, option_map, Ok}
use Rattle.std.proofs.Common.{arith, refl, ap, sym, subst, inl, inr, ◌∙◌}
use Rattle.std.proofs.lemmas.Int.{ints}
use Rattle.std.proofs.lemmas.Bool.Decides.{nat_tests}
use Rattle.pk_ctypes.specs.declared.types.IntType.{IntType}
use Rattle.pk_ctypes.specs.declared.types.Op.TheVariants.{Add, Sub, Mul, Div, Rem, Shl, Shr, And, Or, Xor, Lt, Gt, Le, Ge, Eq, Ne, Neg, BitNot, Not}
use Rattle.pk_ctypes.specs.declared.types.Op.{Op}
use Rattle.pk_ctypes.specs.declared.faults.Fault.{Fault}
use Rattle.pk_ctypes.specs.declared.faults.Fault.TheVariants.{Overflow}
use Rattle.pk_ctypes.specs.Types.{low_of, high_of, is_signed_of, InType, is_in_type, wrapped}
use Rattle.pk_ctypes.specs.Operators.{fitted, value_of}
use Rattle.pk_ctypes.proofs.Values.{fitted_inside, fitted_past, cases_of_type, wrapped_inside, test_le}
use Rattle.pk_interval.specs.declared.outcome.Outcome.{Outcome}
use Rattle.pk_interval.specs.declared.outcome.Outcome.TheVariants.{Empty, Within, TooLarge}
use Rattle.pk_interval.specs.Ranges.{Range, Holds}
use Rattle.pk_interval.specs.Operators.{range_of}
use Rattle.pk_interval.specs.Laws.{KnownBy}
use Rattle.pk_interval.proofs.Sound.{sound as ranges_sound}
use Rattle.pk_ctypes.proofs.Small.{both_true}
use Rattle.pk_octmat.specs.Octagon.{bar, side}
use Rattle.pk_octmat.proofs.Bars.{side_bar}
use Rattle.pk_graph.specs.Trees.{TreeOf, constant, variable, converted, unary, binary}
use Rattle.pk_graph.specs.Kinds.{type_of, IsTyped, IsRight}
use Rattle.pk_graph.specs.Steps.{at_site, and_then, tree_value}
use Rattle.pk_graph.specs.Stores.{Stored, storing, number_of}
use Rattle.pk_value.specs.Known.{Known, IsOf, IsKnown}
use Rattle.pk_value.proofs.Sound.{Knows}
use Rattle.pk_octagons.specs.Packs.{is_chosen}
use Rattle.pk_state.specs.Layouts.{Layout}
use Rattle.pk_state.specs.Facts.{Facts, AreFactsIf}
use Rattle.pk_state.specs.Members.{Member}
use Rattle.pk_state.specs.Changes.{known_in}
use Rattle.pk_transfer.specs.Trees.{tree_known, kinds_of}
use Rattle.pk_transfer.specs.Linear.{Linear, sum_of, linear_value, with_place, with_places, negative, sum, difference, is_near, with_constant, if_few, both, where_known, where_both, is_inside, stays, is_exact, if_negative, if_sum, linear, IsBounded, FormsAreExact}
use Rattle.pk_transfer.proofs.Told.{then_ok, site_ok, in_wider, right_wider, tree_knows}
use Rattle.pk_transfer.proofs.Apart.{differences_guards}
use Rattle.pk_transfer.proofs.ByPack.{by_pack}

-- z is the value of the form, if there is one
abbrev pub Tells : (ℕ → ℤ) → Option Linear → ℤ → Type 0
Tells x None z = Unit {0}
Tells x (Some l) z = z ≡ linear_value x l

pub equal_numbers : (m n : ℕ) → (m == n) ≡ true → m ≡ n
equal_numbers m n e = grind (arith, nat_tests)

-- ---- sums

opposite : (x : ℕ → ℤ) (p q : ℕ) → (q == bar p) ≡ true → side x q ≡ neg_ℤ (side x p)
opposite x p q e = let same : q ≡ bar p = equal_numbers q (bar p) e in ap (side x) same ∙ side_bar x p

sum_with_place : (x : ℕ → ℤ) (p : ℕ) (qs : List ℕ) → sum_of x (with_place p qs) ≡ side x p +ℤ sum_of x qs
sum_with_place x p [] = refl
sum_with_place x p (q ∷ qs) = by (sum_with_place x p qs) (q == bar p) refl
  where
    by : sum_of x (with_place p qs) ≡ side x p +ℤ sum_of x qs → (b : Bool) → (q == bar p) ≡ b → sum_of x (if b then qs else q ∷ with_place p qs) ≡ side x p +ℤ (side x q +ℤ sum_of x qs)
    by rest true e = let gone = opposite x p q e in omega (arith, ints, gone)
    by rest false e = omega (arith, ints, rest)

sum_with_places : (x : ℕ → ℤ) (ps qs : List ℕ) → sum_of x (with_places ps qs) ≡ sum_of x ps +ℤ sum_of x qs
sum_with_places x [] qs = omega (arith, ints)
sum_with_places x (p ∷ ps) qs = omega (arith, ints, sum_with_place x p (with_places ps qs), sum_with_places x ps qs)

sum_negative : (x : ℕ → ℤ) (ps : List ℕ) → sum_of x (map bar ps) ≡ neg_ℤ (sum_of x ps)
sum_negative x [] = refl
sum_negative x (p ∷ ps) = omega (arith, ints, side_bar x p, sum_negative x ps)

value_negative : (x : ℕ → ℤ) (l : Linear) → linear_value x (negative l) ≡ neg_ℤ (linear_value x l)
value_negative x l = omega (arith, ints, sum_negative x l.places)

value_sum : (x : ℕ → ℤ) (l m : Linear) → linear_value x (sum l m) ≡ linear_value x l +ℤ linear_value x m
value_sum x l m = omega (arith, ints, sum_with_places x l.places m.places)

value_difference : (x : ℕ → ℤ) (l m : Linear) → linear_value x (difference l m) ≡ linear_value x l -ℤ linear_value x m
value_difference x l m = omega (arith, ints, value_sum x l (negative m), value_negative x m)

-- ---- what forms tell

tells_few : (x : ℕ → ℤ) (l : Linear) (z : ℤ) → z ≡ linear_value x l → Tells x (if_few l) z
tells_few x l z e = by (nat_le (length l.places) 2)
  where
    near : (b : Bool) → Tells x (if b then Some l else None) z
    near true = e
    near false = tt

    by : (b : Bool) → Tells x (with_constant l.constant (if b then Some l.places else None)) z
    by true = near (is_near l.constant)
    by false = tt

tells_both : (x : ℕ → ℤ) (f : Linear → Linear → Linear) (o n : Option Linear) (y w z : ℤ) → ((l m : Linear) → y ≡ linear_value x l → w ≡ linear_value x m → z ≡ linear_value x (f l m)) → Tells x o y → Tells x n w → Tells x (both f o n) z
tells_both x f None n y w z g h k = tt
tells_both x f (Some l) None y w z g h k = tt
tells_both x f (Some l) (Some m) y w z g h k = tells_few x (f l m) z (g l m h k)

tells_negative : (x : ℕ → ℤ) (o : Option Linear) (y : ℤ) → Tells x o y → Tells x (option_map negative o) (neg_ℤ y)
tells_negative x None y h = tt
tells_negative x (Some l) y h = ap neg_ℤ h ∙ sym (value_negative x l)

tells_where : (x : ℕ → ℤ) (o : Option Known) (f : Known → Bool) (l : Option Linear) (z : ℤ) → ((k : Known) → o ≡ Some k → f k ≡ true → Tells x l z) → Tells x (where_known o f l) z
tells_where x None f l z g = tt
tells_where x (Some k) f l z g = by (f k) refl
  where
    by : (b : Bool) → f k ≡ b → Tells x (if b then l else None) z
    by true e = g k refl e
    by false e = tt

tells_where_both : (x : ℕ → ℤ) (o n : Option Known) (f : Known → Known → Bool) (l : Option Linear) (z : ℤ) → ((j k : Known) → o ≡ Some j → n ≡ Some k → f j k ≡ true → Tells x l z) → Tells x (where_both o n f l) z
tells_where_both x None n f l z g = tt
tells_where_both x (Some j) n f l z g = tells_where x n (f j) l z (λ k e h. g j k refl e h)

-- ---- numbers that are not wrapped

inside_holds : (t : IntType) (r : Range) (y : ℤ) → is_inside t r ≡ true → Holds r y → InType t y
inside_holds t r y e h =
    let two = both_true (int_le (low_of t) r.lo) (int_le r.hi (high_of t)) e in
    let low = test_le (low_of t) r.lo two.0 in
    let high = test_le r.hi (high_of t) two.1 in
    record { from = omega (arith, ints, low, h.from); to = omega (arith, ints, high, h.to) }

kept_signed : (fault : Fault) (t : IntType) (u w : ℤ) → is_signed_of t ≡ true → fitted fault t u ≡ Ok w → u ≡ w
kept_signed fault t u w s e = by (cases_of_type t u)
  where
    by : InType t u ⊎ ((is_in_type t u ≡ false) × (InType t u → ⊥)) → u ≡ w
    by (inl h) = cc (fitted_inside fault t u h)
    by (inr o) = absurd (cc (fitted_past fault t u s o.1))

kept_inside : (fault : Fault) (t : IntType) (u w : ℤ) → InType t u → fitted fault t u ≡ Ok w → u ≡ w
kept_inside fault t u w h e = cc (fitted_inside fault t u h)

kept : (fault : Fault) (t : IntType) (o : Outcome) (u w : ℤ) → stays t o ≡ true → KnownBy o u → fitted fault t u ≡ Ok w → u ≡ w
kept fault t Empty u w s k e = absurd k
kept fault t (Within r) u w s k e = by (is_signed_of t) refl s
  where
    by : (b : Bool) → is_signed_of t ≡ b → (b || is_inside t r) ≡ true → u ≡ w
    by true f g = kept_signed fault t u w f e
    by false f g = kept_inside fault t u w (inside_holds t r u g k) e
kept fault t TooLarge u w s k e = kept_signed fault t u w s e

-- ---- variables

pub side_double : (x : ℕ → ℤ) (k : ℕ) → side x (2 * k) ≡ x k
side_double x k =
    let none : (2 * k) % 2 ≡ 0 = omega arith in
    let half : (2 * k) / 2 ≡ k = omega arith in
    ap (λ n. if n == 0 then x ((2 * k) / 2) else neg_ℤ (x ((2 * k) / 2))) none ∙ ap x half

-- ---- trees

at_some : (t : IntType) (o : Option Known) (k : Known) (z : ℤ) → o ≡ Some k → Knows t o z → IsOf k z × IsKnown t k
at_some t o k z e h = subst (λ v. Knows t v z) e h

tells_if_negative : (x : ℕ → ℤ) (op : Op) (l : Option Linear) (z : ℤ) → (op ≡ Neg → Tells x l z) → Tells x (if_negative op l) z
tells_if_negative x Add l z g = tt
tells_if_negative x Sub l z g = tt
tells_if_negative x Mul l z g = tt
tells_if_negative x Div l z g = tt
tells_if_negative x Rem l z g = tt
tells_if_negative x Shl l z g = tt
tells_if_negative x Shr l z g = tt
tells_if_negative x And l z g = tt
tells_if_negative x Or l z g = tt
tells_if_negative x Xor l z g = tt
tells_if_negative x Lt l z g = tt
tells_if_negative x Gt l z g = tt
tells_if_negative x Le l z g = tt
tells_if_negative x Ge l z g = tt
tells_if_negative x Eq l z g = tt
tells_if_negative x Ne l z g = tt
tells_if_negative x Neg l z g = g refl
tells_if_negative x BitNot l z g = tt
tells_if_negative x Not l z g = tt

tells_if_sum : (x : ℕ → ℤ) (op : Op) (l m : Option Linear) (z : ℤ) → (op ≡ Add → Tells x l z) → (op ≡ Sub → Tells x m z) → Tells x (if_sum op l m) z
tells_if_sum x Add l m z g h = g refl
tells_if_sum x Sub l m z g h = h refl
tells_if_sum x Mul l m z g h = tt
tells_if_sum x Div l m z g h = tt
tells_if_sum x Rem l m z g h = tt
tells_if_sum x Shl l m z g h = tt
tells_if_sum x Shr l m z g h = tt
tells_if_sum x And l m z g h = tt
tells_if_sum x Or l m z g h = tt
tells_if_sum x Xor l m z g h = tt
tells_if_sum x Lt l m z g h = tt
tells_if_sum x Gt l m z g h = tt
tells_if_sum x Le l m z g h = tt
tells_if_sum x Ge l m z g h = tt
tells_if_sum x Eq l m z g h = tt
tells_if_sum x Ne l m z g h = tt
tells_if_sum x Neg l m z g h = tt
tells_if_sum x BitNot l m z g h = tt
tells_if_sum x Not l m z g h = tt

pub tree_tells : (y : Layout) (f : Option Facts) (s : Stored) (e : TreeOf ℕ) (z : ℤ) → AreFactsIf y f → Member y f s → IsTyped (kinds_of y) e → tree_value storing e s ≡ Ok z → Tells (number_of s) (linear y.packs (known_in f) e) z
tree_tells y f s (variable x) z a m h e = by (is_chosen y.packs x)
  where
    by : (b : Bool) → Tells (number_of s) (if b then Some (record { constant = pos 0; places = 2 * x ∷ [] }) else None) z
    by false = tt
    by true = let same : number_of s x ≡ z = cc in omega (arith, ints, same, side_double (number_of s) x)
tree_tells y f s (constant t c) z a m h e = let same : c ≡ z = cc in omega (arith, ints, same)
tree_tells y f s (converted t e) z a m h k =
    let is = then_ok (tree_value storing e s) (λ v. Ok (wrapped t v)) z k in
    let same : wrapped t is.0 ≡ z = cc in
    let ih = tree_tells y f s e is.0 a m h is.1 in
    tells_where (number_of s) (tree_known (known_in f) e) (λ j. is_inside t j.range) (linear y.packs (known_in f) e) z
    (λ j q g.
    let known = at_some (type_of (kinds_of y) e) (tree_known (known_in f) e) j is.0 q (tree_knows y f s e is.0 a m h is.1) in
    let stay : is.0 ≡ z = sym (wrapped_inside t is.0 (inside_holds t j.range is.0 g known.0.in_range)) ∙ same in
    subst (Tells (number_of s) (linear y.packs (known_in f) e)) stay ih)
tree_tells y f s (unary op p t e) z a m h k =
    let x = number_of s in
    let u = type_of (kinds_of y) e in
    let is = then_ok (tree_value storing e s) (λ v. at_site p (value_of op t v v)) z k in
    let known_e = tree_knows y f s e is.0 a m h.1 is.1 in
    let ih = tells_negative x (linear y.packs (known_in f) e) is.0 (tree_tells y f s e is.0 a m h.1 is.1) in
    tells_if_negative x op (where_known (tree_known (known_in f) e) (λ j. is_exact Neg t j j) (option_map negative (linear y.packs (known_in f) e))) z
    (λ c. tells_where x (tree_known (known_in f) e) (λ j. is_exact Neg t j j) (option_map negative (linear y.packs (known_in f) e)) z
    (λ j q g.
    let known = at_some u (tree_known (known_in f) e) j is.0 q known_e in
    let inside = in_wider t u j.range h.2 known.1.inside in
    let before = ranges_sound.before Neg t j.range j.range is.0 is.0 (neg_ℤ is.0) inside tt known.0.in_range known.0.in_range refl in
    let value : value_of Neg t is.0 is.0 ≡ Ok z = subst (λ o. value_of o t is.0 is.0 ≡ Ok z) c (site_ok p (value_of op t is.0 is.0) z is.2) in
    subst (Tells x (option_map negative (linear y.packs (known_in f) e))) (kept Overflow t (range_of Neg t j.range j.range) (neg_ℤ is.0) z g before value) ih))
tree_tells y f s (binary op p t d b) z a m h k =
    let x = number_of s in
    let n = linear y.packs (known_in f) d in
    let r = linear y.packs (known_in f) b in
    let left = then_ok (tree_value storing d s) (λ v. and_then (tree_value storing b s) (λ w. at_site p (value_of op t v w))) z k in
    let right = then_ok (tree_value storing b s) (λ w. at_site p (value_of op t left.0 w)) z left.2 in
    let known_d = tree_knows y f s d left.0 a m h.0 left.1 in
    let known_b = tree_knows y f s b right.0 a m h.1 right.1 in
    let ih = tree_tells y f s d left.0 a m h.0 left.1 in
    let ih' = tree_tells y f s b right.0 a m h.1 right.1 in
    tells_if_sum x op (where_both (tree_known (known_in f) d) (tree_known (known_in f) b) (is_exact Add t) (both sum n r)) (where_both (tree_known (known_in f) d) (tree_known (known_in f) b) (is_exact Sub t) (both difference n r)) z
    (λ c. tells_where_both x (tree_known (known_in f) d) (tree_known (known_in f) b) (is_exact Add t) (both sum n r) z
    (λ i j q q' g.
    let known = at_some (type_of (kinds_of y) d) (tree_known (known_in f) d) i left.0 q known_d in
    let known' = at_some (type_of (kinds_of y) b) (tree_known (known_in f) b) j right.0 q' known_b in
    let right_of = right_wider Add t (type_of (kinds_of y) b) j.range (subst (λ o. IsRight o t (type_of (kinds_of y) b)) c h.3) known'.1.inside in
    let before = ranges_sound.before Add t i.range j.range left.0 right.0 (left.0 +ℤ right.0) (in_wider t (type_of (kinds_of y) d) i.range h.2 known.1.inside) right_of known.0.in_range known'.0.in_range refl in
    let value : value_of Add t left.0 right.0 ≡ Ok z = subst (λ o. value_of o t left.0 right.0 ≡ Ok z) c (site_ok p (value_of op t left.0 right.0) z right.2) in
    let stay = kept Overflow t (range_of Add t i.range j.range) (left.0 +ℤ right.0) z g before value in
    tells_both x sum n r left.0 right.0 z (λ l o u v. omega (arith, ints, stay, u, v, value_sum x l o)) ih ih'))
    (λ c. tells_where_both x (tree_known (known_in f) d) (tree_known (known_in f) b) (is_exact Sub t) (both difference n r) z
    (λ i j q q' g.
    let known = at_some (type_of (kinds_of y) d) (tree_known (known_in f) d) i left.0 q known_d in
    let known' = at_some (type_of (kinds_of y) b) (tree_known (known_in f) b) j right.0 q' known_b in
    let right_of = right_wider Sub t (type_of (kinds_of y) b) j.range (subst (λ o. IsRight o t (type_of (kinds_of y) b)) c h.3) known'.1.inside in
    let before = ranges_sound.before Sub t i.range j.range left.0 right.0 (left.0 -ℤ right.0) (in_wider t (type_of (kinds_of y) d) i.range h.2 known.1.inside) right_of known.0.in_range known'.0.in_range refl in
    let value : value_of Sub t left.0 right.0 ≡ Ok z = subst (λ o. value_of o t left.0 right.0 ≡ Ok z) c (site_ok p (value_of op t left.0 right.0) z right.2) in
    let stay = kept Overflow t (range_of Sub t i.range j.range) (left.0 -ℤ right.0) z g before value in
    tells_both x difference n r left.0 right.0 z (λ l o u v. omega (arith, ints, stay, u, v, value_difference x l o)) ih ih'))

bounded : (x : ℕ → ℤ) (ps : List ℕ) (c : ℤ) → sum_of x ps ≤ℤ c → IsBounded x ps c
bounded x [] c h = h
bounded x (a ∷ []) c h = omega (arith, ints, h)
bounded x (a ∷ (b ∷ [])) c h = omega (arith, ints, h)
bounded x (a ∷ (b ∷ (d ∷ ps))) c h = tt

pub forms_exact : FormsAreExact
forms_exact = record {
  values = λ y f s e z l a m h v q. subst (λ o. Tells (number_of s) o z) q (tree_tells y f s e z a m h v);
  bounded = λ x l r h. bounded x (difference l r).places (r.constant -ℤ l.constant) (omega (arith, ints, h, sum_with_places x l.places (map bar r.places), sum_negative x r.places));
  guards = differences_guards;
  by_pack = by_pack;
}
