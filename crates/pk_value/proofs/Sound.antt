-- What is known of an operator's result has the result.
use Rattle.std.specs.Prelude.{◌≡◌, ℕ, ◌-◌, ◌/◌, ◌^◌, ◌<◌, neg_ℤ, int_div, Bool, true, false, not, ◌&&◌, if◌then◌else◌, ℤ, pos, negsuc, ◌+ℤ◌, ◌-ℤ◌, ◌*ℤ◌, ◌≤ℤ◌, int_lt, unsigned_abs, Option, Some, None, Result, Ok, Err, IfSome}
use Rattle.std.specs.Ordering.{int_eq}
use Rattle.std.specs.Int.{int_min, int_max}
use Rattle.std.proofs.Common.{arith, refl, ap, sym, subst, ◌∙◌}
use Rattle.std.proofs.lemmas.Int.{ints, clamps}
use Rattle.std.proofs.lemmas.Bool.Decides.{Decides-int_eq}
use Rattle.pk_ctypes.specs.declared.types.IntType.{IntType}
use Rattle.pk_ctypes.specs.declared.types.IntType.TheVariants.{Int}
use Rattle.pk_ctypes.specs.declared.types.Op.{Op}
use Rattle.pk_ctypes.specs.declared.types.Op.TheVariants.{Add, Sub, Mul, Div, Rem, Shl, Shr, And, Or, Xor, Lt, Gt, Le, Ge, Eq, Ne, Neg, BitNot, Not}
use Rattle.pk_ctypes.specs.declared.faults.Fault.{Fault}
use Rattle.pk_ctypes.specs.declared.faults.Fault.TheVariants.{Overflow}
use Rattle.pk_ctypes.specs.Types.{size_of, low_of, high_of, is_signed_of, InType, wrapped}
use Rattle.pk_ctypes.specs.Operators.{exact, truth, fitted, fitted_if, fault_past, value_of, result_type}
use Rattle.pk_ctypes.proofs.Wrapped.{sized}
use Rattle.pk_ctypes.proofs.Values.{fitted_in, fitted_inside, wrapped_inside, truth_in}
use Rattle.pk_interval.specs.declared.outcome.Outcome.{Outcome}
use Rattle.pk_interval.specs.declared.outcome.Outcome.TheVariants.{Empty, Within, TooLarge}
use Rattle.pk_interval.specs.Ranges.{Range, Holds, HeldBy, IsIn, single, whole}
use Rattle.pk_interval.specs.Fitting.{clamped, shifted, unmoved, finish_of}
use Rattle.pk_interval.specs.Operators.{range_of, HasRightIn, CanWrap}
use Rattle.pk_interval.specs.Laws.{KnownBy}
use Rattle.pk_interval.proofs.Fits.{clamps_members, converts, fitted_signed, fitted_unsigned}
use Rattle.pk_interval.proofs.Keeping.{stays}
use Rattle.pk_interval.proofs.Moves.{from_in, shifted_in}
use Rattle.pk_interval.proofs.Sound.{sound as ranges_sound}
use Rattle.pk_congr.specs.Classes.{Class, IsMember, every, constant, class_of, class_if, is_held, are_apart, int_gcd}
use Rattle.pk_congr.specs.Operators.{result_of, wrapped_class, are_products_held, is_divided, is_counted, complement_total}
use Rattle.pk_congr.specs.Laws.{TookIn}
use Rattle.pk_congr.proofs.Sound.{sound as classes_sound, wrapping_sound}
use Rattle.pk_congr.proofs.Order.{tests}
use Rattle.pk_ctypes.proofs.Small.{both_true}
use Rattle.pk_congr.proofs.Numbers.{rest_member}
use Rattle.pk_value.specs.Reduction.{red, reduced_if, reduced_at}
use Rattle.pk_value.proofs.Reducing.{exact as reduction}
use Rattle.pk_congr.specs.Classes.{next_up_of, next_down_of}
use Rattle.pk_value.specs.Known.{Known, IsOf, IsOneOf, IsKnown, exactly, known_of}
use Rattle.pk_value.specs.Values.{one_if, compared, red_as, fitted as fitted_known, from_table, is_constant, exact_if, operated, converted}
use Rattle.pk_value.specs.Laws.{ValuesAreSound}

-- z is one of the numbers of type t that are known
abbrev pub Knows : IntType → Option Known → ℤ → Type 0
Knows t None z = ⊥
Knows t (Some k) z = IsOf k z × IsKnown t k

pub knows_one : (t : IntType) (o : Option Known) (z : ℤ) → Knows t o z → IsOneOf o z
knows_one t None z h = h
knows_one t (Some k) z h = h.0

pub equal_by_test : (x y : ℤ) → int_eq x y ≡ true → x ≡ y
equal_by_test x y e = go (Decides-int_eq x y)
  where
    go : (int_eq x y ≡ true → x ≡ y) × (x ≡ y → int_eq x y ≡ true) → x ≡ y
    go d = d.0 e

-- ---- fitted numbers

fitted_wraps : (fault : Fault) (t : IntType) (u w : ℤ) → fitted fault t u ≡ Ok w → wrapped t u ≡ w
fitted_wraps fault t u w e = by (is_signed_of t) refl
  where
    by : (s : Bool) → is_signed_of t ≡ s → wrapped t u ≡ w
    by true s = let is = fitted_signed fault t u w s e in wrapped_inside t u is.0 ∙ is.1
    by false s = fitted_unsigned fault t u w s e

ok_of_fitted : (fault : Fault) (t : IntType) (r : Result ℤ Fault) (z : ℤ) → fitted_if fault t r ≡ Ok z → (u : ℤ) × (r ≡ Ok u) × (fitted fault t u ≡ Ok z)
ok_of_fitted fault t (Ok u) z e = (u, refl, e)
ok_of_fitted fault t (Err f) z e = absurd (cc)

truth_refitted : (t : IntType) (b : Bool) (u z : ℤ) → (let r : Result ℤ Fault = Ok (truth b) in r ≡ Ok u) → fitted Overflow t u ≡ Ok z → fitted Overflow Int u ≡ Ok z
truth_refitted t b u z e f =
    let same : truth b ≡ u = cc in
    let here : fitted Overflow t u ≡ Ok u = subst (λ v. fitted Overflow t v ≡ Ok v) same (fitted_inside Overflow t (truth b) (truth_in t b)) in
    let there : fitted Overflow Int u ≡ Ok u = subst (λ v. fitted Overflow Int v ≡ Ok v) same (fitted_inside Overflow Int (truth b) (truth_in Int b)) in
    cc

-- a result fits its own type as it fits the operands'
refitted : (op : Op) (t : IntType) (x y u z : ℤ) → exact op t x y ≡ Ok u → fitted (fault_past op) t u ≡ Ok z → fitted (fault_past op) (result_type op t) u ≡ Ok z
refitted Add t x y u z e f = f
refitted Sub t x y u z e f = f
refitted Mul t x y u z e f = f
refitted Div t x y u z e f = f
refitted Rem t x y u z e f = f
refitted Shl t x y u z e f = f
refitted Shr t x y u z e f = f
refitted And t x y u z e f = f
refitted Or t x y u z e f = f
refitted Xor t x y u z e f = f
refitted Lt t x y u z e f = truth_refitted t _ u z e f
refitted Gt t x y u z e f = truth_refitted t _ u z e f
refitted Le t x y u z e f = truth_refitted t _ u z e f
refitted Ge t x y u z e f = truth_refitted t _ u z e f
refitted Eq t x y u z e f = truth_refitted t _ u z e f
refitted Ne t x y u z e f = truth_refitted t _ u z e f
refitted Neg t x y u z e f = f
refitted BitNot t x y u z e f = f
refitted Not t x y u z e f = truth_refitted t _ u z e f

-- ---- outcomes

single_holds : (z u : ℤ) → u ≡ z → Holds (single z) u
single_holds z u e = record { from = omega (arith, ints, e); to = omega (arith, ints, e) }

-- numbers of two classes that are apart differ
differ : (a b : Class) (x y : ℤ) → IsMember a x → IsMember b y → are_apart a b ≡ true → int_eq x y ≡ false
differ a b x y h k m = by (int_eq x y) refl
  where
    by : (n : Bool) → int_eq x y ≡ n → n ≡ false
    by true e = absurd (tests.apart a b m x h (subst (IsMember b) (sym (equal_by_test x y e)) k))
    by false e = refl

one_known : (b : Bool) (z u : ℤ) (r : Outcome) → (b ≡ true → u ≡ z) → KnownBy r u → KnownBy (one_if b z r) u
one_known true z u r f k = single_holds z u (f refl)
one_known false z u r f k = k

truth_is : (b : Bool) (u : ℤ) → (let r : Result ℤ Fault = Ok (truth b) in r ≡ Ok u) → u ≡ truth b
truth_is b u e = cc

compared_known : (op : Op) (t : IntType) (a b : Class) (r : Outcome) (x y u : ℤ) → IsMember a x → IsMember b y → exact op t x y ≡ Ok u → KnownBy r u → KnownBy (compared op a b r) u
compared_known Eq t a b r x y u h k e g =
    one_known (are_apart a b) (pos 0) u r (λ m. truth_is (int_eq x y) u e ∙ ap truth (differ a b x y h k m)) g
compared_known Ne t a b r x y u h k e g =
    one_known (are_apart a b) (pos 1) u r (λ m. truth_is _ u e ∙ ap (λ n. truth (not n)) (differ a b x y h k m)) g
compared_known Not t a b r x y u h k e g =
    one_known (are_apart a (constant (pos 0))) (pos 0) u r (λ m. truth_is (int_eq x (pos 0)) u e ∙ ap truth (differ a (constant (pos 0)) x (pos 0) h (rest_member (constant (pos 0))) m)) g
compared_known Add t a b r x y u h k e g = g
compared_known Sub t a b r x y u h k e g = g
compared_known Mul t a b r x y u h k e g = g
compared_known Div t a b r x y u h k e g = g
compared_known Rem t a b r x y u h k e g = g
compared_known Shl t a b r x y u h k e g = g
compared_known Shr t a b r x y u h k e g = g
compared_known And t a b r x y u h k e g = g
compared_known Or t a b r x y u h k e g = g
compared_known Xor t a b r x y u h k e g = g
compared_known Lt t a b r x y u h k e g = g
compared_known Gt t a b r x y u h k e g = g
compared_known Le t a b r x y u h k e g = g
compared_known Ge t a b r x y u h k e g = g
compared_known Neg t a b r x y u h k e g = g
compared_known BitNot t a b r x y u h k e g = g

-- ---- ranges in the type

held_in : (t : IntType) (r : Range) (z : ℤ) → IsIn t r → Holds r z → InType t z
held_in t r z i h = record { from = omega (arith, ints, i.from.from, h.from); to = omega (arith, ints, i.to.to, h.to) }

pub red_in : (t : IntType) (r : Range) (c : Class) (p : Range × Class) → pos 0 ≤ℤ c.m → IsIn t r → red r c ≡ Some p → IsIn t p.0
red_in t r c p n i e =
    let low = reduction.only r c p p.0.lo n e (reduction.least r c p n e) in
    let high = reduction.only r c p p.0.hi n e (reduction.greatest r c p n e) in
    record { from = held_in t r p.0.lo i low.range; to = held_in t r p.0.hi i high.range }

-- ---- classes

class_if_from : (m r : ℤ) → pos 0 ≤ℤ m → pos 0 ≤ℤ (class_if m r).m
class_if_from m r h = by (is_held m && is_held r)
  where
    by : (b : Bool) → pos 0 ≤ℤ (if b then class_of m r else every).m
    by true = h
    by false = omega (arith, ints)

if_from : (b : Bool) (c : Class) → pos 0 ≤ℤ c.m → pos 0 ≤ℤ (if b then c else every).m
if_from true c h = h
if_from false c h = omega (arith, ints)

pub product_from_zero : (z : ℤ) (n : ℕ) → pos 0 ≤ℤ z → pos 0 ≤ℤ (z *ℤ pos n)
product_from_zero (pos k) n h = omega (arith, ints)
product_from_zero (negsuc k) n h = absurd (omega (arith, ints))

pub natural : (n : ℕ) → pos 0 ≤ℤ pos n
natural n = omega (arith, ints)

result_from : (op : Op) (t : IntType) (a b : Class) → pos 0 ≤ℤ a.m → pos 0 ≤ℤ (result_of op t a b).m
result_from Add t a b h = class_if_from (int_gcd a.m b.m) (a.r +ℤ b.r) (natural _)
result_from Sub t a b h = class_if_from (int_gcd a.m b.m) (a.r -ℤ b.r) (natural _)
result_from Mul t a b h =
    let g = int_gcd (int_gcd (a.m *ℤ b.m) (a.m *ℤ b.r)) (b.m *ℤ a.r) in
    if_from (are_products_held a b) (class_if g (a.r *ℤ b.r)) (class_if_from g (a.r *ℤ b.r) (natural _))
result_from Div t a b h =
    let g = pos (unsigned_abs a.m / unsigned_abs b.r) in
    if_from (is_divided a b) (class_if g (int_div a.r b.r)) (class_if_from g (int_div a.r b.r) (natural _))
result_from Rem t a b h = class_if_from (int_gcd (int_gcd a.m b.m) b.r) a.r (natural _)
result_from Shl t a b h =
    let g = a.m *ℤ pos (2 ^ unsigned_abs b.r) in
    if_from (is_counted t b) (class_if g (a.r *ℤ pos (2 ^ unsigned_abs b.r))) (class_if_from g (a.r *ℤ pos (2 ^ unsigned_abs b.r)) (product_from_zero a.m (2 ^ unsigned_abs b.r) h))
result_from Shr t a b h = natural 1
result_from And t a b h = natural 1
result_from Or t a b h = natural 1
result_from Xor t a b h = natural 1
result_from Lt t a b h = natural 1
result_from Gt t a b h = natural 1
result_from Le t a b h = natural 1
result_from Ge t a b h = natural 1
result_from Eq t a b h = natural 1
result_from Ne t a b h = natural 1
result_from Neg t a b h = class_if_from a.m (neg_ℤ a.r) h
result_from BitNot t a b h = class_if_from a.m (complement_total t -ℤ a.r) h
result_from Not t a b h = natural 1

wrapped_from : (t : IntType) (c : Class) (o : Option ℤ) → pos 0 ≤ℤ c.m → pos 0 ≤ℤ (wrapped_class t c o).m
wrapped_from t c (Some added) h = class_if_from c.m (c.r +ℤ added) h
wrapped_from t c None h = class_if_from (int_gcd c.m (pos (size_of t))) c.r (natural _)

took : (t : IntType) (r : Range) (u : ℤ) → Holds r u → TookIn t u (shifted t r).1
took t r u h = go (shifted t r).1 refl
  where
    go : (o : Option ℤ) → (shifted t r).1 ≡ o → TookIn t u o
    go (Some added) e = sym (converts.adds t r u added h e)
    go None e = tt

-- ---- both parts

at_from : (c : Class) (lo hi : ℤ) (p : Range × Class) → pos 0 ≤ℤ c.m → reduced_at c lo hi ≡ Some p → pos 0 ≤ℤ p.1.m
at_from c lo hi p h e = by (int_lt lo hi) (int_lt hi lo) e
  where
    by : (b n : Bool) → (let one : Range × Class = (single lo, constant lo) in let all : Range × Class = ((record { lo = lo; hi = hi }), c) in (if b then Some all else (if n then None else Some one)) ≡ Some p) → pos 0 ≤ℤ p.1.m
    by true n f = let all : Range × Class = ((record { lo = lo; hi = hi }), c) in let same : all ≡ p = cc in subst (λ (q : Range × Class). pos 0 ≤ℤ q.1.m) same h
    by false true f = absurd (cc)
    by false false f = let one : Range × Class = (single lo, constant lo) in let same : one ≡ p = cc in subst (λ (q : Range × Class). pos 0 ≤ℤ q.1.m) same (natural 0)

pub red_from : (r : Range) (c : Class) (p : Range × Class) → pos 0 ≤ℤ c.m → red r c ≡ Some p → pos 0 ≤ℤ p.1.m
red_from r c p h e = by (next_up_of c r.lo) (next_down_of c r.hi) e
  where
    by : (l m : Option ℤ) → reduced_if c l m ≡ Some p → pos 0 ≤ℤ p.1.m
    by None m f = absurd (cc)
    by (Some lo) None f = absurd (cc)
    by (Some lo) (Some hi) f = at_from c lo hi p h f

reduced_knows : (t : IntType) (r : Range) (c : Class) (z : ℤ) → pos 0 ≤ℤ c.m → IsIn t r → Holds r z → IsMember c z → Knows t (red_as r c) z
reduced_knows t r c z n i h m = go (red r c) refl
  where
    go : (p : Option (Range × Class)) → red r c ≡ p → Knows t (known_of p) z
    go None e = absurd (reduction.none r c z n e (record { range = h; class = m }))
    go (Some p) e =
        let both = reduction.all r c p z n e (record { range = h; class = m }) in
        (record { in_range = both.range; in_class = both.class }, record { inside = red_in t r c p n i e; modulus = red_from r c p n e })

clamped_in : (t : IntType) (r : Range) → IfSome (clamped t r) (IsIn t)
clamped_in t r = from_in t (int_max r.lo (low_of t)) (int_min r.hi (high_of t)) (omega (arith, ints, clamps)) (omega (arith, ints, clamps))

-- a range to whose numbers nothing was added
unmoved_knows : (t : IntType) (o : Option Range) (c : Class) (u z : ℤ) → pos 0 ≤ℤ c.m → IfSome o (IsIn t) → HeldBy o u → IsMember c u → InType t u → u ≡ z → Knows t (fitted_known t (unmoved o) c) z
unmoved_knows t None c u z n i h m k e = absurd h
unmoved_knows t (Some r) c u z n i h m k e =
    let took : TookIn t u (Some (pos 0)) = omega (arith, ints, wrapped_inside t u k) in
    reduced_knows t r (wrapped_class t c (Some (pos 0))) z (wrapped_from t c (Some (pos 0)) n) i (subst (Holds r) e h)
    (subst (IsMember (wrapped_class t c (Some (pos 0)))) (wrapped_inside t u k ∙ e) (wrapping_sound t c (Some (pos 0)) u m took))

finish_knows : (fault : Fault) (t : IntType) (o : Outcome) (c : Class) (u z : ℤ) → pos 0 ≤ℤ c.m → KnownBy o u → IsMember c u → fitted fault t u ≡ Ok z → Knows t (fitted_known t (finish_of t o) c) z
finish_knows fault t Empty c u z n k m e = absurd k
finish_knows fault t (Within r) c u z n k m e = by (is_signed_of t) refl
  where
    by : (s : Bool) → is_signed_of t ≡ s → Knows t (fitted_known t (if s then unmoved (clamped t r) else Some (shifted t r)) c) z
    by true s =
        let is = fitted_signed fault t u z s e in
        unmoved_knows t (clamped t r) c u z n (clamped_in t r) (clamps_members t r u k is.0) m is.0 is.1
    by false s =
        let is = fitted_unsigned fault t u z s e in
        let some : r.lo ≤ℤ r.hi = omega (arith, ints, k.from, k.to) in
        reduced_knows t (shifted t r).0 (wrapped_class t c (shifted t r).1) z (wrapped_from t c (shifted t r).1 n) (shifted_in t r some) (subst (Holds (shifted t r).0) is (converts.holds t r u k))
        (subst (IsMember (wrapped_class t c (shifted t r).1)) is (wrapping_sound t c (shifted t r).1 u m (took t r u k)))
finish_knows fault t TooLarge c u z n k m e =
    let inside = fitted_in fault t u z e in
    reduced_knows t (whole t) (wrapped_class t c None) z (wrapped_from t c None n) (stays.whole_in t) (record { from = inside.from; to = inside.to })
    (subst (IsMember (wrapped_class t c None)) (fitted_wraps fault t u z e) (wrapping_sound t c None u m tt))

table_knows : (op : Op) (t : IntType) (a b : Known) (x y z : ℤ) → IsIn t a.range → HasRightIn op t b.range → pos 0 ≤ℤ a.class.m → IsOf a x → IsOf b y → value_of op t x y ≡ Ok z → Knows (result_type op t) (from_table op t a b) z
table_knows op t a b x y z i j n h k e =
    let is = ok_of_fitted (fault_past op) t (exact op t x y) z e in
    let u = is.0 in
    let fit = refitted op t x y u z is.1 is.2 in
    let before = ranges_sound.before op t a.range b.range x y u i j h.in_range k.in_range is.1 in
    let o = compared op a.class b.class (range_of op t a.range b.range) in
    let known : KnownBy o u = compared_known op t a.class b.class (range_of op t a.range b.range) x y u h.in_class k.in_class is.1 before in
    let class = classes_sound op t a.class b.class x y u (λ s. held_in t a.range x i h.in_range) h.in_class k.in_class is.1 in
    finish_knows (fault_past op) (result_type op t) o (result_of op t a.class b.class) u z (result_from op t a.class b.class n) known class fit

-- ---- constants

constant_is : (a : Known) (x : ℤ) → is_constant a ≡ true → Holds a.range x → a.range.lo ≡ x
constant_is a x e h = let same = equal_by_test a.range.lo a.range.hi e in omega (arith, ints, same, h.from, h.to)

pub exactly_knows : (t : IntType) (z : ℤ) → InType t z → Knows t (Some (exactly z)) z
exactly_knows t z i =
    (record { in_range = single_holds z z refl; in_class = rest_member (constant z) }, record { inside = record { from = i; to = i }; modulus = natural 0 })

-- the value of an operator lies in the type of its result
pub value_in : (op : Op) (t : IntType) (x y z : ℤ) → value_of op t x y ≡ Ok z → InType (result_type op t) z
value_in op t x y z e =
    let is = ok_of_fitted (fault_past op) t (exact op t x y) z e in
    fitted_in (fault_past op) (result_type op t) is.0 z (refitted op t x y is.0 z is.1 is.2)

pub operated_knows : (op : Op) (t : IntType) (a b : Known) (x y z : ℤ) → IsIn t a.range → HasRightIn op t b.range → pos 0 ≤ℤ a.class.m → IsOf a x → IsOf b y → value_of op t x y ≡ Ok z → Knows (result_type op t) (operated op t a b) z
operated_knows op t a b x y z i j n h k e = go (is_constant a && is_constant b) refl
  where
    go : (m : Bool) → (is_constant a && is_constant b) ≡ m → Knows (result_type op t) (if m then exact_if (value_of op t a.range.lo b.range.lo) (from_table op t a b) else from_table op t a b) z
    go true m =
        let both = both_true (is_constant a) (is_constant b) m in
        let left = constant_is a x both.0 h.in_range in
        let right = constant_is b y both.1 k.in_range in
        let same : value_of op t a.range.lo b.range.lo ≡ Ok z = ap (λ v. value_of op t v b.range.lo) left ∙ ap (λ v. value_of op t x v) right ∙ e in
        subst (λ r. Knows (result_type op t) (exact_if r (from_table op t a b)) z) (sym same) (exactly_knows (result_type op t) z (value_in op t x y z e))
    go false m = table_knows op t a b x y z i j n h k e

pub converted_knows : (t : IntType) (k : Known) (z : ℤ) → pos 0 ≤ℤ k.class.m → IsOf k z → Knows t (converted t k) (wrapped t z)
converted_knows t k z n h =
    let some : k.range.lo ≤ℤ k.range.hi = omega (arith, ints, h.in_range.from, h.in_range.to) in
    reduced_knows t (shifted t k.range).0 (wrapped_class t k.class (shifted t k.range).1) (wrapped t z)
    (wrapped_from t k.class (shifted t k.range).1 n)
    (shifted_in t k.range some)
    (converts.holds t k.range z h.in_range)
    (wrapping_sound t k.class (shifted t k.range).1 z h.in_class (took t k.range z h.in_range))

pub values_sound : ValuesAreSound
values_sound = record {
  operator = λ op t a b x y z i j n h k e. knows_one (result_type op t) (operated op t a b) z (operated_knows op t a b x y z i j n h k e);
  conversion = λ t k z n h. knows_one t (converted t k) (wrapped t z) (converted_knows t k z n h);
}

-- ---- wrapping

one_wraps : (b : Bool) (z : ℤ) (r : Outcome) → negsuc (2 ^ 126 - 1) ≤ℤ z → CanWrap r → CanWrap (one_if b z r)
one_wraps true z r h w = h
one_wraps false z r h w = w

-- what comparisons say can be wrapped, as what the intervals say
pub compared_wraps : (op : Op) (a b : Class) (r : Outcome) → CanWrap r → CanWrap (compared op a b r)
compared_wraps Eq a b r w = one_wraps (are_apart a b) (pos 0) r (omega (arith, ints)) w
compared_wraps Ne a b r w = one_wraps (are_apart a b) (pos 1) r (omega (arith, ints)) w
compared_wraps Not a b r w = one_wraps (are_apart a (constant (pos 0))) (pos 0) r (omega (arith, ints)) w
compared_wraps Add a b r w = w
compared_wraps Sub a b r w = w
compared_wraps Mul a b r w = w
compared_wraps Div a b r w = w
compared_wraps Rem a b r w = w
compared_wraps Shl a b r w = w
compared_wraps Shr a b r w = w
compared_wraps And a b r w = w
compared_wraps Or a b r w = w
compared_wraps Xor a b r w = w
compared_wraps Lt a b r w = w
compared_wraps Gt a b r w = w
compared_wraps Le a b r w = w
compared_wraps Ge a b r w = w
compared_wraps Neg a b r w = w
compared_wraps BitNot a b r w = w

-- a number of a type is below 2^127 in absolute value
pub small_in : (t : IntType) (z : ℤ) → InType t z → unsigned_abs z < 2 ^ 127
small_in t z h = let size = sized t z h in omega (arith, ints, size.0, size.1)
