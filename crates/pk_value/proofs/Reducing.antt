-- Reduction keeps exactly the numbers of both, and numbers past 127 bits never matter to it.
use Rattle.std.specs.Prelude.{◌≡◌, ◌⊎◌, ◌<◌, ◌-◌, ◌^◌, Bool, true, false, if◌then◌else◌, ℤ, pos, ◌+ℤ◌, ◌-ℤ◌, ◌≤ℤ◌, ◌<ℤ◌, int_lt, unsigned_abs, Option, Some, None, IfSome}
use Rattle.std.proofs.Common.{arith, ◌∙◌, ap, sym, refl, subst, inl, inr}
use Rattle.std.proofs.lemmas.Int.{ints, by_lt_z}
use Rattle.std.proofs.lemmas.Bool.Decides.{nat_tests}
use Rattle.pk_ctypes.specs.declared.types.IntType.{IntType}
use Rattle.pk_ctypes.specs.Types.{InType}
use Rattle.pk_ctypes.proofs.Wrapped.{sized}
use Rattle.pk_interval.specs.Ranges.{Range, IsIn, LiesIn, single}
use Rattle.pk_interval.proofs.Order.{lies_in_type}
use Rattle.pk_congr.specs.Classes.{Class, IsMember, IsReduced, constant, is_held, held_number, next_up_of, next_down_of}
use Rattle.pk_congr.specs.Laws.{IsNextUp, IsNextDown, IsOf}
use Rattle.pk_congr.proofs.Next.{next_members, not_less}
use Rattle.pk_congr.proofs.Numbers.{two_members}
use Rattle.pk_congr.proofs.Sound.{constant_is}
use Rattle.pk_congr.proofs.Widening.{distance}
use Rattle.pk_value.specs.Reduction.{reduced_at, reduced_if, red, IsInBoth, ReductionIsExact}

pub held_small : (o : Option ℤ) → IfSome (held_number o) (λ z. unsigned_abs z < 2 ^ 127)
held_small None = tt
held_small (Some z) = by (is_held z) refl
  where
    by : (b : Bool) → is_held z ≡ b → IfSome (if b then Some z else None) (λ z. unsigned_abs z < 2 ^ 127)
    by true e = grind (arith, nat_tests)
    by false e = tt

-- bounds in the wrong order leave nothing
crossed : (c : Class) (lo hi : ℤ) → hi <ℤ lo → reduced_at c lo hi ≡ None
crossed c lo hi h =
    let first : int_lt lo hi ≡ false = grind (arith, ints) in
    let second : int_lt hi lo ≡ true = grind (arith, ints) in
    rw (first, second) refl

not_held : (z : ℤ) → is_held z ≡ false → (z <ℤ pos (2 ^ 127) → pos 0 ≤ℤ (z +ℤ pos (2 ^ 127 - 1)) → ⊥)
not_held z e l h = absurd (grind (arith, ints, nat_tests))

pub held_red : (t : IntType) (r : Range) (c : Class) → IsIn t r → pos 0 ≤ℤ c.m → reduced_if c (held_number (next_up_of c r.lo)) (held_number (next_down_of c r.hi)) ≡ red r c
held_red t r c i m = by (next_up_of c r.lo) (next_down_of c r.hi) refl refl
  where
    low : (pos 0 ≤ℤ (r.lo +ℤ pos (2 ^ 63))) × (r.hi ≤ℤ pos (2 ^ 64))
    low = let first = sized t r.lo i.from in let second = sized t r.hi i.to in (omega (arith, ints, first.0), omega (arith, ints, second.1))

    both : (y z : ℤ) → r.lo ≤ℤ y → z ≤ℤ r.hi → (a b : Bool) → is_held y ≡ a → is_held z ≡ b → reduced_if c (if a then Some y else None) (if b then Some z else None) ≡ reduced_at c y z
    both y z h k true true e f = refl
    both y z h k false b e f = sym (crossed c y z (by_lt_z z y (λ l. l) (λ l. absurd (not_held y e (omega (arith, ints, l, k, low.1)) (omega (arith, ints, h, low.0))))))
    both y z h k true false e f = sym (crossed c y z (by_lt_z z y (λ l. l) (λ l. absurd (not_held z f (omega (arith, ints, k, low.1)) (omega (arith, ints, l, h, low.0))))))

    by : (u d : Option ℤ) → next_up_of c r.lo ≡ u → next_down_of c r.hi ≡ d → reduced_if c (held_number u) (held_number d) ≡ reduced_if c u d
    by None d e f = refl
    by (Some y) None e f = one (is_held y)
      where
        one : (a : Bool) → reduced_if c (if a then Some y else None) None ≡ None
        one true = refl
        one false = refl
    by (Some y) (Some z) e f =
        let up = next_members.up c r.lo y m e in
        let down = next_members.down c r.hi z m f in
        both y z up.above down.below (is_held y) (is_held z) refl refl

-- ---- the numbers of both

-- what is found, with the next numbers that it was found by
record IsFound (r : Range) (c : Class) (p : Range × Class) : Type 0 where
  lo : ℤ
  hi : ℤ
  up : IsNextUp c r.lo lo
  down : IsNextDown c r.hi hi
  low : p.0.lo ≡ lo
  high : p.0.hi ≡ hi
  order : lo ≤ℤ hi
  same : ((p.1 ≡ c) × (lo <ℤ hi)) ⊎ ((p.1 ≡ constant lo) × (lo ≡ hi))

at_found : (r : Range) (c : Class) (p : Range × Class) (lo hi : ℤ) → IsNextUp c r.lo lo → IsNextDown c r.hi hi → reduced_at c lo hi ≡ Some p → IsFound r c p
at_found r c p lo hi u d e = by (int_lt lo hi) (int_lt hi lo) refl refl e
  where
    by : (a b : Bool) → int_lt lo hi ≡ a → int_lt hi lo ≡ b → (if a then Some (record { lo = lo; hi = hi }, c) else (if b then None else Some (single lo, constant lo))) ≡ Some p → IsFound r c p
    by true b f g k =
        let q : Range × Class = (record { lo = lo; hi = hi }, c) in
        let is : q ≡ p = cc in
        record { lo = lo; hi = hi; up = u; down = d; low = ap (λ (v : Range × Class). v.0.lo) (sym is); high = ap (λ (v : Range × Class). v.0.hi) (sym is); order = omega (arith, ints, f); same = inl (ap (λ (v : Range × Class). v.1) (sym is), omega (arith, ints, f)) }
    by false true f g k = absurd (cc)
    by false false f g k =
        let q : Range × Class = (single lo, constant lo) in
        let is : q ≡ p = cc in
        let one : lo ≡ hi = omega (arith, ints, f, g) in
        record { lo = lo; hi = hi; up = u; down = d; low = ap (λ (v : Range × Class). v.0.lo) (sym is); high = ap (λ (v : Range × Class). v.0.hi) (sym is) ∙ one; order = omega (arith, ints, one); same = inr (ap (λ (v : Range × Class). v.1) (sym is), one) }

found : (r : Range) (c : Class) (p : Range × Class) → pos 0 ≤ℤ c.m → red r c ≡ Some p → IsFound r c p
found r c p m e = by (next_up_of c r.lo) (next_down_of c r.hi) refl refl e
  where
    by : (u d : Option ℤ) → next_up_of c r.lo ≡ u → next_down_of c r.hi ≡ d → reduced_if c u d ≡ Some p → IsFound r c p
    by None d f g k = absurd (cc)
    by (Some y) None f g k = absurd (cc)
    by (Some y) (Some z) f g k = at_found r c p y z (next_members.up c r.lo y m f) (next_members.down c r.hi z m g) k

own_member : (x : ℤ) → IsMember (constant x) x
own_member x = (pos 0, omega (arith, ints))

of_constant : (x y : ℤ) → IsMember (constant x) y → y ≡ x
of_constant x y h = omega (arith, ints, h.1)

all : (r : Range) (c : Class) (p : Range × Class) (x : ℤ) → pos 0 ≤ℤ c.m → red r c ≡ Some p → IsInBoth (r, c) x → IsInBoth p x
all r c p x m e h =
    let f = found r c p m e in
    let low = f.up.least x h.class h.range.from in
    let high = f.down.greatest x h.class h.range.to in
    record {
      range = record { from = omega (arith, ints, low, f.low); to = omega (arith, ints, high, f.high) };
      class = elim f.same [
        | inl s ↦ subst (λ (d : Class). IsMember d x) (sym s.0) h.class
        | inr s ↦ let one : f.lo ≡ x = omega (arith, ints, low, high, s.1) in subst (λ (d : Class). IsMember d x) (sym s.0) (subst (IsMember (constant f.lo)) one (own_member f.lo))
      ];
    }

only : (r : Range) (c : Class) (p : Range × Class) (x : ℤ) → pos 0 ≤ℤ c.m → red r c ≡ Some p → IsInBoth p x → IsInBoth (r, c) x
only r c p x m e h =
    let f = found r c p m e in
    record {
      range = record { from = omega (arith, ints, f.up.above, f.low, h.range.from); to = omega (arith, ints, f.down.below, f.high, h.range.to) };
      class = elim f.same [
        | inl s ↦ subst (λ (d : Class). IsMember d x) s.0 h.class
        | inr s ↦
            let is : x ≡ f.lo = of_constant f.lo x (subst (λ (d : Class). IsMember d x) s.0 h.class) in
            subst (IsMember c) (sym is) f.up.member
      ];
    }

none : (r : Range) (c : Class) (x : ℤ) → pos 0 ≤ℤ c.m → red r c ≡ None → IsInBoth (r, c) x → ⊥
none r c x m e h = by (next_up_of c r.lo) (next_down_of c r.hi) refl refl e
  where
    at : (lo hi : ℤ) → IsNextUp c r.lo lo → IsNextDown c r.hi hi → (a b : Bool) → int_lt lo hi ≡ a → int_lt hi lo ≡ b → (let o : Option (Range × Class) = (if a then Some (record { lo = lo; hi = hi }, c) else (if b then None else Some (single lo, constant lo))) in let n : Option (Range × Class) = None in o ≡ n) → ⊥
    at lo hi u d true b f g k = absurd (cc)
    at lo hi u d false true f g k =
        let low = u.least x h.class h.range.from in
        let high = d.greatest x h.class h.range.to in
        absurd (omega (arith, ints, low, high, g))
    at lo hi u d false false f g k = absurd (cc)

    by : (u d : Option ℤ) → next_up_of c r.lo ≡ u → next_down_of c r.hi ≡ d → reduced_if c u d ≡ None → ⊥
    by None d f g k = next_members.no_up c r.lo f x h.class h.range.from
    by (Some y) None f g k = next_members.no_down c r.hi g x h.class h.range.to
    by (Some y) (Some z) f g k = at y z (next_members.up c r.lo y m f) (next_members.down c r.hi z m g) (int_lt y z) (int_lt z y) refl refl k

least : (r : Range) (c : Class) (p : Range × Class) → pos 0 ≤ℤ c.m → red r c ≡ Some p → IsInBoth p p.0.lo
least r c p m e =
    let f = found r c p m e in
    record {
      range = record { from = omega (arith, ints); to = omega (arith, ints, f.low, f.high, f.order) };
      class = elim f.same [
        | inl s ↦ subst (λ (d : Class). IsMember d p.0.lo) (sym s.0) (subst (IsMember c) (sym f.low) f.up.member)
        | inr s ↦ subst (λ (d : Class). IsMember d p.0.lo) (sym s.0) (subst (IsMember (constant f.lo)) (sym f.low) (own_member f.lo))
      ];
    }

greatest : (r : Range) (c : Class) (p : Range × Class) → pos 0 ≤ℤ c.m → red r c ≡ Some p → IsInBoth p p.0.hi
greatest r c p m e =
    let f = found r c p m e in
    record {
      range = record { from = omega (arith, ints, f.low, f.high, f.order); to = omega (arith, ints) };
      class = elim f.same [
        | inl s ↦ subst (λ (d : Class). IsMember d p.0.hi) (sym s.0) (subst (IsMember c) (sym f.high) f.down.member)
        | inr s ↦ subst (λ (d : Class). IsMember d p.0.hi) (sym s.0) (subst (IsMember (constant f.lo)) (s.1 ∙ sym f.high) (own_member f.lo))
      ];
    }

pub exact : ReductionIsExact
exact = record { all = all; only = only; none = none; least = least; greatest = greatest }

-- ---- what is found lies in the range, and its class is one of the type

if_some : {A : Type 0} (P : A → Type 0) (o : Option A) → ((p : A) → o ≡ Some p → P p) → IfSome o P
if_some P None f = tt
if_some P (Some p) f = f p refl

lies : (r : Range) (c : Class) (p : Range × Class) → IsFound r c p → LiesIn r p.0
lies r c p f = record { from = omega (arith, ints, f.up.above, f.low); some = omega (arith, ints, f.low, f.high, f.order); to = omega (arith, ints, f.down.below, f.high) }

pub red_lies : (r : Range) (c : Class) → pos 0 ≤ℤ c.m → IfSome (red r c) (λ p. LiesIn r p.0)
red_lies r c m = if_some (λ p. LiesIn r p.0) (red r c) (λ p e. lies r c p (found r c p m e))

pub red_inside : (t : IntType) (r : Range) (c : Class) → IsIn t r → pos 0 ≤ℤ c.m → IfSome (red r c) (λ p. IsIn t p.0)
red_inside t r c i m = if_some (λ p. IsIn t p.0) (red r c) (λ p e. lies_in_type t r p.0 i (lies r c p (found r c p m e)))

pub constant_of : (t : IntType) (x : ℤ) → InType t x → IsOf t (constant x)
constant_of t x h =
    let size = sized t x h in
    record {
      reduced = record { from = omega (arith, ints); rest = inl refl; modulus_held = omega arith; rest_held = omega (arith, ints, size.0, size.1) };
      modulus = omega (arith, ints);
      constant = λ _. h;
    }

-- two of its numbers in the type are a modulus or more apart
class_of_two : (t : IntType) (c : Class) (x y : ℤ) → IsReduced c.m c.r → InType t x → InType t y → IsMember c x → IsMember c y → x <ℤ y → IsOf t c
class_of_two t c x y reduced h k p q less =
    let apart = not_less c.m (y -ℤ x) reduced.from (two_members c y x q p) (omega (arith, ints, less)) in
    let near = distance t y x k h in
    record {
      reduced = reduced;
      modulus = omega (arith, ints, apart, near, less);
      constant = λ e. subst (InType t) (constant_is c x e p) h;
    }

class_in : (t : IntType) (r : Range) (c : Class) (p : Range × Class) → IsIn t r → IsReduced c.m c.r → IsFound r c p → IsOf t p.1
class_in t r c p i reduced f =
    let low : InType t f.lo = record { from = omega (arith, ints, i.from.from, f.up.above); to = omega (arith, ints, i.to.to, f.order, f.down.below) } in
    let high : InType t f.hi = record { from = omega (arith, ints, i.from.from, f.up.above, f.order); to = omega (arith, ints, i.to.to, f.down.below) } in
    elim f.same [
      | inl s ↦ subst (IsOf t) (sym s.0) (class_of_two t c f.lo f.hi reduced low high f.up.member f.down.member s.1)
      | inr s ↦ subst (IsOf t) (sym s.0) (constant_of t f.lo low)
    ]

pub red_class : (t : IntType) (r : Range) (c : Class) → IsIn t r → IsReduced c.m c.r → IfSome (red r c) (λ p. IsOf t p.1)
red_class t r c i reduced = if_some (λ p. IsOf t p.1) (red r c) (λ p e. class_in t r c p i reduced (found r c p reduced.from e))
