-- What the operators give on ranges, before the result is clamped to a signed type or wrapped into an unsigned one.
use Rattle.std.specs.Prelude.{ℕ, zero, suc, ◌-◌, ◌^◌, Bool, true, false, ◌&&◌, ◌||◌, if◌then◌else◌, ◌==◌, nat_lt, ℤ, pos, negsuc, ◌+ℤ◌, ◌-ℤ◌, ◌*ℤ◌, ◌≤ℤ◌, ◌<ℤ◌, neg_ℤ, int_le, int_lt, int_div, unsigned_abs, max, ◌⊎◌, Option, Some, None}
use Rattle.std.specs.Int.{int_min, int_max, int_shr}
use Rattle.pk_ctypes.specs.declared.types.IntType.{IntType}
use Rattle.pk_ctypes.specs.declared.types.Op.{Op}
use Rattle.pk_ctypes.specs.Classes.{OperatorClass, arithmetic, shift, comparison, unary, negation, class_of}
use Rattle.pk_ctypes.specs.declared.types.Op.TheVariants.{Add, Sub, Mul, Div, Rem, Shl, Shr, And, Or, Xor, Lt, Gt, Le, Ge, Eq, Ne, Neg, BitNot, Not}
use Rattle.pk_ctypes.specs.Types.{width_of, is_signed_of, high_of}
use Rattle.pk_interval.specs.declared.outcome.Outcome.{Outcome}
use Rattle.pk_interval.specs.declared.outcome.Outcome.TheVariants.{Empty, Within, TooLarge}
use Rattle.pk_interval.specs.Ranges.{Range, IsIn, single, whole, range_from, joined}

-- the range, if there is one
abbrev pub within_if : Option Range → Outcome
within_if None = Empty
within_if (Some r) = Within r

-- ---- sums

abbrev pub range_sum : Range → Range → Range
range_sum a b = record { lo = a.lo +ℤ b.lo; hi = a.hi +ℤ b.hi }

abbrev pub range_difference : Range → Range → Range
range_difference a b = record { lo = a.lo -ℤ b.hi; hi = a.hi -ℤ b.lo }

abbrev pub range_negative : Range → Range
range_negative a = record { lo = neg_ℤ a.hi; hi = neg_ℤ a.lo }

-- ---- products

-- the least and the greatest of four numbers
abbrev pub hull_of : ℤ → ℤ → ℤ → ℤ → Range
hull_of p q r s = record { lo = int_min (int_min p q) (int_min r s); hi = int_max (int_max p q) (int_max r s) }

-- a product, unless it is 2^127 or more in absolute value
abbrev pub product_of : ℤ → ℤ → Option ℤ
product_of x y = if nat_lt (unsigned_abs (x *ℤ y)) (2 ^ 127) then Some (x *ℤ y) else None

-- the hull of four numbers, each of which can be held or not
abbrev pub hull_if : Option ℤ → Option ℤ → Option ℤ → Option ℤ → Outcome
hull_if (Some p) (Some q) (Some r) (Some s) = Within (hull_of p q r s)
hull_if (Some p) (Some q) (Some r) None = TooLarge
hull_if (Some p) (Some q) None s = TooLarge
hull_if (Some p) None r s = TooLarge
hull_if None q r s = TooLarge

abbrev pub range_product : Range → Range → Outcome
range_product a b = hull_if (product_of a.lo b.lo) (product_of a.lo b.hi) (product_of a.hi b.lo) (product_of a.hi b.hi)

-- ---- quotients

-- the divisors of one sign
abbrev pub above_zero : Range → Option Range
above_zero b = range_from (int_max b.lo (pos 1)) b.hi

abbrev pub below_zero : Range → Option Range
below_zero b = range_from b.lo (int_min b.hi (negsuc 0))

abbrev pub HasOneSign : Range → Type 0
HasOneSign d = (pos 1 ≤ℤ d.lo) ⊎ (d.hi ≤ℤ negsuc 0)

abbrev pub corner_quotients : Range → Range → Range
corner_quotients a d = hull_of (int_div a.lo d.lo) (int_div a.lo d.hi) (int_div a.hi d.lo) (int_div a.hi d.hi)

-- the quotients by both parts, of which there may be none
abbrev pub both_parts : Range → Option Range → Option Range → Option Range
both_parts a None None = None
both_parts a (Some d) None = Some (corner_quotients a d)
both_parts a None (Some e) = Some (corner_quotients a e)
both_parts a (Some d) (Some e) = Some (joined (corner_quotients a d) (corner_quotients a e))

abbrev pub range_quotient : Range → Range → Option Range
range_quotient a b = both_parts a (above_zero b) (below_zero b)

-- ---- rests

-- the greatest absolute value of a divisor
abbrev pub greatest_of : Range → ℕ
greatest_of b = max (unsigned_abs b.lo) (unsigned_abs b.hi)

-- rests of m at most in absolute value, each between its dividend and 0
abbrev pub rest_low : ℤ → ℤ → ℤ
rest_low lo m = if int_le (pos 0) lo then pos 0 else int_max lo (neg_ℤ m)

abbrev pub rest_high : ℤ → ℤ → ℤ
rest_high hi m = if int_le hi (pos 0) then pos 0 else int_min hi m

abbrev pub rests_within : Range → ℤ → Range
rests_within a m = record { lo = rest_low a.lo m; hi = rest_high a.hi m }

abbrev pub range_rest : Range → Range → Option Range
range_rest a b = if greatest_of b == 0 then None else Some (rests_within a (pos (greatest_of b) -ℤ pos 1))

-- ---- shifts

-- the counts that are fewer than the type's bits
abbrev pub counts_of : IntType → Range → Option Range
counts_of t b = range_from (int_max b.lo (pos 0)) (int_min b.hi (pos (width_of t) -ℤ pos 1))

-- they are fewer than the bits of every type
pub record AreCounts (c : Range) : Type 0 where
  pub from : pos 0 ≤ℤ c.lo
  pub to : c.hi <ℤ pos 64
  pub some : c.lo ≤ℤ c.hi

-- the numbers that may be shifted to the left
abbrev pub shiftable : Range → Option Range
shiftable a = range_from (int_max a.lo (pos 0)) a.hi

abbrev pub shifted_left : ℤ → ℤ → ℤ
shifted_left x c = x *ℤ pos (2 ^ unsigned_abs c)

abbrev pub shifted_right : ℤ → ℤ → ℤ
shifted_right x c = int_shr x (unsigned_abs c)

abbrev pub left_by : Option Range → Option Range → Option Range
left_by None c = None
left_by (Some a) None = None
left_by (Some a) (Some c) = Some (record { lo = shifted_left a.lo c.lo; hi = shifted_left a.hi c.hi })

abbrev pub right_by : Range → Option Range → Option Range
right_by a None = None
right_by a (Some c) =
    Some (hull_of (shifted_right a.lo c.lo) (shifted_right a.lo c.hi) (shifted_right a.hi c.lo)
    (shifted_right a.hi c.hi))

-- ---- bits

-- how many binary digits a number below 2^k has
unfoldable pub digits_of : ℕ → ℕ → ℕ
digits_of zero m = 0
digits_of (suc k) m = if nat_lt m (2 ^ k) then digits_of k m else suc k

abbrev pub is_natural : Range → Bool
is_natural a = int_le (pos 0) a.lo

abbrev pub range_and : IntType → Range → Range → Range
range_and t a b =
    if is_natural a then record { lo = pos 0; hi = if is_natural b then int_min a.hi b.hi else a.hi }
    else (if is_natural b then record { lo = pos 0; hi = b.hi } else whole t)

-- all numbers of as many digits as the greatest has
abbrev pub range_or : IntType → Range → Range → Range
range_or t a b =
    if is_natural a && is_natural b
    then record { lo = pos 0; hi = pos (2 ^ digits_of 64 (unsigned_abs (int_max a.hi b.hi)) - 1) } else whole t

abbrev pub complement_of : IntType → ℤ → ℤ
complement_of t x = if is_signed_of t then negsuc 0 -ℤ x else high_of t -ℤ x

abbrev pub range_complement : IntType → Range → Range
range_complement t a = record { lo = complement_of t a.hi; hi = complement_of t a.lo }

-- ---- comparisons

-- 1 where a comparison surely holds, 0 where it surely doesn't
abbrev pub truths : Bool → Bool → Range
truths sure never =
    if sure then single (pos 1) else (if never then single (pos 0) else record { lo = pos 0; hi = pos 1 })

-- each number of the left is below each of the right
abbrev pub is_below : Range → Range → Bool
is_below a b = int_lt a.hi b.lo

-- each number of the left is at most each of the right
abbrev pub is_at_most : Range → Range → Bool
is_at_most a b = int_le a.hi b.lo

-- both are one number, and the same
abbrev pub is_one : Range → Range → Bool
is_one a b = is_at_most a b && is_at_most b a

abbrev pub are_apart : Range → Range → Bool
are_apart a b = is_below a b || is_below b a

-- ---- each operator

abbrev pub range_of : Op → IntType → Range → Range → Outcome
range_of Add t a b = Within (range_sum a b)
range_of Sub t a b = Within (range_difference a b)
range_of Mul t a b = range_product a b
range_of Div t a b = within_if (range_quotient a b)
range_of Rem t a b = within_if (range_rest a b)
range_of Shl t a b = within_if (left_by (shiftable a) (counts_of t b))
range_of Shr t a b = within_if (right_by a (counts_of t b))
range_of And t a b = Within (range_and t a b)
range_of Or t a b = Within (range_or t a b)
range_of Xor t a b = Within (range_or t a b)
range_of Lt t a b = Within (truths (is_below a b) (is_at_most b a))
range_of Gt t a b = Within (truths (is_below b a) (is_at_most a b))
range_of Le t a b = Within (truths (is_at_most a b) (is_below b a))
range_of Ge t a b = Within (truths (is_at_most b a) (is_below a b))
range_of Eq t a b = Within (truths (is_one a b) (are_apart a b))
range_of Ne t a b = Within (truths (are_apart a b) (is_one a b))
range_of Neg t a b = Within (range_negative a)
range_of BitNot t a b = Within (range_complement t a)
range_of Not t a b = Within (truths (is_one a (single (pos 0))) (are_apart a (single (pos 0))))

-- what is given can be wrapped into a type: its least number is -2^126 or more
abbrev pub CanWrap : Outcome → Type 0
CanWrap Empty = Unit {0}
CanWrap (Within r) = negsuc (2 ^ 126 - 1) ≤ℤ r.lo
CanWrap TooLarge = Unit {0}

-- what is asked of the right operand: nothing of a shift's counts, and a unary operator has none
abbrev pub IsRightIn : OperatorClass → IntType → Range → Type 0
IsRightIn arithmetic t b = IsIn t b
IsRightIn shift t b = Unit {0}
IsRightIn comparison t b = IsIn t b
IsRightIn unary t b = Unit {0}
IsRightIn negation t b = Unit {0}

abbrev pub HasRightIn : Op → IntType → Range → Type 0
HasRightIn op t b = IsRightIn (class_of op) t b

-- the operators with one operand
abbrev pub is_of_one : OperatorClass → Bool
is_of_one arithmetic = false
is_of_one shift = false
is_of_one comparison = false
is_of_one unary = true
is_of_one negation = true

abbrev pub is_unary : Op → Bool
is_unary op = is_of_one (class_of op)
