-- What is tight, and its reduction.
use Rattle.std.specs.Prelude.{◌≡◌, ◌⊎◌, Bool, true, false, if◌then◌else◌, ℤ, pos, ◌+ℤ◌, ◌-ℤ◌, ◌*ℤ◌, ◌≤ℤ◌, ◌<ℤ◌, int_lt, Option, Some, None, IfSome}
use Rattle.std.specs.Int.{int_min, int_max}
use Rattle.std.proofs.Common.{arith, refl, ap, sym, subst, ◌∙◌, inl, inr}
use Rattle.std.proofs.lemmas.Int.{ints, clamps}
use Rattle.pk_ctypes.specs.declared.types.IntType.{IntType}
use Rattle.pk_interval.specs.Ranges.{Range, single, IsIn}
use Rattle.pk_congr.specs.Classes.{Class, IsMember, IsReduced, constant, next_up_of, next_down_of}
use Rattle.pk_congr.specs.Classes as classes
use Rattle.pk_congr.specs.Laws.{IsOf}
use Rattle.pk_congr.proofs.Next.{next_members}
use Rattle.pk_congr.proofs.Order.{join_is_least}
use Rattle.pk_congr.proofs.Keeping.{unchanged}
use Rattle.pk_value.specs.Reduction.{red, reduced_at, reduced_if}
use Rattle.pk_value.specs.Known.{Known, known_of, red_known, joined}
use Rattle.pk_value.specs.Laws.{IsTight, TightIsReduced}
use Rattle.pk_value.proofs.Reducing.{exact as reduction, red_class}

-- a member is the next one to itself
own_up : (c : Class) (x : ℤ) → pos 0 ≤ℤ c.m → IsMember c x → next_up_of c x ≡ Some x
own_up c x n m = go (next_up_of c x) refl
  where
    go : (o : Option ℤ) → next_up_of c x ≡ o → next_up_of c x ≡ Some x
    go None e = absurd (next_members.no_up c x e x m (omega (arith, ints)))
    go (Some y) e =
        let is = next_members.up c x y n e in
        let least = is.least x m (omega (arith, ints)) in
        let same : y ≡ x = omega (arith, ints, is.above, least) in
        e ∙ ap (λ (z : ℤ). Some z) same

own_down : (c : Class) (x : ℤ) → pos 0 ≤ℤ c.m → IsMember c x → next_down_of c x ≡ Some x
own_down c x n m = go (next_down_of c x) refl
  where
    go : (o : Option ℤ) → next_down_of c x ≡ o → next_down_of c x ≡ Some x
    go None e = absurd (next_members.no_down c x e x m (omega (arith, ints)))
    go (Some y) e =
        let is = next_members.down c x y n e in
        let most = is.greatest x m (omega (arith, ints)) in
        let same : y ≡ x = omega (arith, ints, is.below, most) in
        e ∙ ap (λ (z : ℤ). Some z) same

at_own : (k : Known) → IsTight k → known_of (reduced_at k.class k.range.lo k.range.hi) ≡ Some k
at_own k h = by (int_lt k.range.lo k.range.hi) refl (int_lt k.range.hi k.range.lo) refl
  where
    by : (b : Bool) → int_lt k.range.lo k.range.hi ≡ b → (n : Bool) → int_lt k.range.hi k.range.lo ≡ n
        → known_of (let all : Range × Class = (record { lo = k.range.lo; hi = k.range.hi }, k.class) in let one : Range × Class = (single k.range.lo, constant k.range.lo) in (if b then Some all else (if n then None else Some one))) ≡ Some k
    by true e n f = refl
    by false e true f = absurd (omega (arith, ints, h.some, f))
    by false e false f =
        let same : k.range.lo ≡ k.range.hi = omega (arith, ints, e, f) in
        ap (λ (c : Class). let l : Known = record { range = single k.range.lo; class = c } in Some l) (sym (h.one same))
        ∙ ap (λ (z : ℤ). let r : Range = record { lo = k.range.lo; hi = z } in let l : Known = record { range = r; class = k.class } in Some l) same

again : (k : Known) → pos 0 ≤ℤ k.class.m → IsTight k → red_known k ≡ Some k
again k n h =
    ap (λ o. known_of (reduced_if k.class o (next_down_of k.class k.range.hi))) (own_up k.class k.range.lo n h.least)
    ∙ ap (λ o. known_of (reduced_if k.class (Some k.range.lo) o)) (own_down k.class k.range.hi n h.greatest) ∙ at_own k h

-- one number that is left is a constant
one_left : (c : Class) (lo hi : ℤ) (p : Range × Class) → reduced_at c lo hi ≡ Some p → p.0.lo ≡ p.0.hi → p.1 ≡ constant p.0.lo
one_left c lo hi p e = by (int_lt lo hi) refl (int_lt hi lo) e
  where
    by : (b : Bool) → int_lt lo hi ≡ b → (n : Bool)
        → (let all : Range × Class = (record { lo = lo; hi = hi }, c) in let one : Range × Class = (single lo, constant lo) in (if b then Some all else (if n then None else Some one))) ≡ Some p → p.0.lo ≡ p.0.hi → p.1 ≡ constant p.0.lo
    by true l n f = let all : Range × Class = (record { lo = lo; hi = hi }, c) in let same : all ≡ p = cc in subst (λ (q : Range × Class). q.0.lo ≡ q.0.hi → q.1 ≡ constant q.0.lo) same (λ s. absurd (omega (arith, ints, l, s)))
    by false l true f = absurd (cc)
    by false l false f = let one : Range × Class = (single lo, constant lo) in let same : one ≡ p = cc in subst (λ (q : Range × Class). q.0.lo ≡ q.0.hi → q.1 ≡ constant q.0.lo) same (λ s. refl)

left_if : (c : Class) (l h : Option ℤ) (p : Range × Class) → reduced_if c l h ≡ Some p → p.0.lo ≡ p.0.hi → p.1 ≡ constant p.0.lo
left_if c None h p e = absurd (cc)
left_if c (Some lo) None p e = absurd (cc)
left_if c (Some lo) (Some hi) p e = one_left c lo hi p e

tight_pair : (k : Known) (p : Range × Class) → pos 0 ≤ℤ k.class.m → red k.range k.class ≡ Some p → (let r : Known = record { range = p.0; class = p.1 } in IsTight r)
tight_pair k p n e =
    let low = reduction.least k.range k.class p n e in
    let high = reduction.greatest k.range k.class p n e in
    record { some = low.range.to; least = low.class; greatest = high.class; one = left_if k.class (next_up_of k.class k.range.lo) (next_down_of k.class k.range.hi) p e }

tight : (k r : Known) → pos 0 ≤ℤ k.class.m → red_known k ≡ Some r → IsTight r
tight k r n e = go (red k.range k.class) refl e
  where
    go : (o : Option (Range × Class)) → red k.range k.class ≡ o → known_of o ≡ Some r → IsTight r
    go None f g = absurd (cc)
    go (Some p) f g = let l : Known = record { range = p.0; class = p.1 } in let same : l ≡ r = cc in subst IsTight same (tight_pair k p n f)

-- a bound of a join is a bound of one of both, and so a number of the joined class
low_of_both : (a b : Range) → (int_min a.lo b.lo ≡ a.lo) ⊎ (int_min a.lo b.lo ≡ b.lo)
low_of_both a b = by (int_lt a.lo b.lo) refl
  where
    by : (t : Bool) → int_lt a.lo b.lo ≡ t → (int_min a.lo b.lo ≡ a.lo) ⊎ (int_min a.lo b.lo ≡ b.lo)
    by true e = inl (omega (arith, ints, clamps, e))
    by false e = inr (omega (arith, ints, clamps, e))

high_of_both : (a b : Range) → (int_max a.hi b.hi ≡ a.hi) ⊎ (int_max a.hi b.hi ≡ b.hi)
high_of_both a b = by (int_lt a.hi b.hi) refl
  where
    by : (t : Bool) → int_lt a.hi b.hi ≡ t → (int_max a.hi b.hi ≡ a.hi) ⊎ (int_max a.hi b.hi ≡ b.hi)
    by true e = inr (omega (arith, ints, clamps, e))
    by false e = inl (omega (arith, ints, clamps, e))

joins_tight : (a b : Known) → IsReduced a.class.m a.class.r → IsTight a → IsTight b → IsTight (joined a b)
joins_tight a b f h k = record {
  some = omega (arith, ints, clamps, h.some, k.some);
  least = least (low_of_both a.range b.range);
  greatest = greatest (high_of_both a.range b.range);
  one = one;
}
  where
    class : Class
    class = classes.joined a.class b.class

    least : (int_min a.range.lo b.range.lo ≡ a.range.lo) ⊎ (int_min a.range.lo b.range.lo ≡ b.range.lo) → IsMember class (int_min a.range.lo b.range.lo)
    least (inl e) = subst (IsMember class) (sym e) (join_is_least.left a.class b.class a.range.lo h.least)
    least (inr e) = subst (IsMember class) (sym e) (join_is_least.right a.class b.class b.range.lo k.least)

    greatest : (int_max a.range.hi b.range.hi ≡ a.range.hi) ⊎ (int_max a.range.hi b.range.hi ≡ b.range.hi) → IsMember class (int_max a.range.hi b.range.hi)
    greatest (inl e) = subst (IsMember class) (sym e) (join_is_least.left a.class b.class a.range.hi h.greatest)
    greatest (inr e) = subst (IsMember class) (sym e) (join_is_least.right a.class b.class b.range.hi k.greatest)

    one : int_min a.range.lo b.range.lo ≡ int_max a.range.hi b.range.hi → class ≡ constant (int_min a.range.lo b.range.lo)
    one e =
        let left : a.range.lo ≡ a.range.hi = omega (arith, ints, clamps, e, h.some, k.some) in
        let right : b.range.lo ≡ b.range.hi = omega (arith, ints, clamps, e, h.some, k.some) in
        let same : b.range.lo ≡ a.range.lo = omega (arith, ints, clamps, e, h.some, k.some) in
        let low : a.range.lo ≡ int_min a.range.lo b.range.lo = omega (arith, ints, clamps, e, h.some, k.some) in
        let first : a.class ≡ constant a.range.lo = h.one left in
        let second : b.class ≡ a.class = k.one right ∙ ap constant same ∙ sym first in
        ap (λ c. classes.joined a.class c) second ∙ unchanged.joins a.class a.class f (unchanged.within_itself a.class) ∙ first ∙ ap constant low

pub tight_is_reduced : TightIsReduced
tight_is_reduced = record { again = again; tight = tight; joins = joins_tight }

-- a tight value in a type has a class of it
pub class_of_tight : (t : IntType) (k : Known) → IsIn t k.range → IsReduced k.class.m k.class.r → IsTight k → IsOf t k.class
class_of_tight t k i r h = go (red k.range k.class) refl (again k r.from h)
  where
    go : (o : Option (Range × Class)) → red k.range k.class ≡ o → known_of o ≡ Some k → IsOf t k.class
    go None f g = absurd (cc)
    go (Some p) f g =
        let l : Known = record { range = p.0; class = p.1 } in
        let same : l ≡ k = cc in
        let class : IsOf t p.1 = subst (λ o. IfSome o (λ q. IsOf t q.1)) f (red_class t k.range k.class i r) in
        subst (λ (q : Known). IsOf t q.class) same class

-- all numbers between two
pub all_tight : (k : Known) → k.class.m ≡ pos 1 → k.range.lo <ℤ k.range.hi → IsTight k
all_tight k one less = record { some = omega (arith, ints, less); least = every k.class k.range.lo one; greatest = every k.class k.range.hi one; one = λ e. absurd (omega (arith, ints, e, less)) }
  where
    every : (c : Class) (x : ℤ) → c.m ≡ pos 1 → IsMember c x
    every c x e = (x -ℤ c.r, let own : x ≡ c.r +ℤ (x -ℤ c.r) *ℤ pos 1 = omega (arith, ints) in own ∙ ap (λ m. c.r +ℤ (x -ℤ c.r) *ℤ m) (sym e))

-- one number
pub one_tight : (k : Known) → k.class.m ≡ pos 0 → k.class.r ≡ k.range.lo → k.range.lo ≡ k.range.hi → IsTight k
one_tight k none rest same = record { some = omega (arith, ints, same); least = own k.class k.range.lo rest; greatest = own k.class k.range.hi (rest ∙ same); one = λ _. ap (λ (m : ℤ). let c : Class = record { m = m; r = k.class.r } in c) none ∙ ap constant rest }
  where
    own : (c : Class) (x : ℤ) → c.r ≡ x → IsMember c x
    own c x e = (pos 0, omega (arith, ints, e))
