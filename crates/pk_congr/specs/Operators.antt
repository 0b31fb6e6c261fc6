-- What the operators give on classes, before a result is clamped to its type or wrapped (after Granger 1989), and what wrapping makes of it.
use Rattle.std.specs.Prelude.{◌^◌, ◌/◌, Bool, not, ◌&&◌, if◌then◌else◌, ℤ, pos, negsuc, ◌+ℤ◌, ◌-ℤ◌, ◌*ℤ◌, neg_ℤ, int_div, unsigned_abs, Option, Some, None}
use Rattle.std.specs.Ordering.{int_eq}
use Rattle.pk_ctypes.specs.declared.types.IntType.{IntType}
use Rattle.pk_ctypes.specs.declared.types.Op.{Op}
use Rattle.pk_ctypes.specs.declared.types.Op.TheVariants.{Add, Sub, Mul, Div, Rem, Shl, Neg, BitNot}
use Rattle.pk_ctypes.specs.Types.{is_signed_of, size_of, high_of}
use Rattle.pk_ctypes.specs.Operators.{is_count}
use Rattle.pk_congr.specs.Classes.{Class, int_gcd, divides, is_held, every, class_if}

-- the class of a modulus and any number of it, if there is such a number
abbrev pub class_if_some : ℤ → Option ℤ → Class
class_if_some m (Some r) = class_if m r
class_if_some m None = every

abbrev pub class_sum : Class → Class → Class
class_sum a b = class_if (int_gcd a.m b.m) (a.r +ℤ b.r)

abbrev pub class_difference : Class → Class → Class
class_difference a b = class_if (int_gcd a.m b.m) (a.r -ℤ b.r)

-- each of the four products is below 2 ^ 127 in absolute value
abbrev pub are_products_held : Class → Class → Bool
are_products_held a b = is_held (a.m *ℤ b.m) && is_held (a.m *ℤ b.r) && is_held (b.m *ℤ a.r) && is_held (a.r *ℤ b.r)

abbrev pub class_product : Class → Class → Class
class_product a b =
    if are_products_held a b then class_if (int_gcd (int_gcd (a.m *ℤ b.m) (a.m *ℤ b.r)) (b.m *ℤ a.r)) (a.r *ℤ b.r)
    else every

-- a product, unless it is 2 ^ 127 or more in absolute value
abbrev pub product_of : ℤ → ℤ → Option ℤ
product_of x y = if is_held (x *ℤ y) then Some (x *ℤ y) else None

-- the class of a product, if the four products of its parts are there
abbrev pub class_of_products : (moduli left right rests : Option ℤ) → Class
class_of_products None q s r = every
class_of_products (Some p) None s r = every
class_of_products (Some p) (Some q) None r = every
class_of_products (Some p) (Some q) (Some s) None = every
class_of_products (Some p) (Some q) (Some s) (Some r) = class_if (int_gcd (int_gcd p q) s) r

-- the class of a modulus and a rest, if they are there
abbrev pub class_of_both : Option ℤ → Option ℤ → Class
class_of_both None r = every
class_of_both (Some m) None = every
class_of_both (Some m) (Some r) = class_if (pos (unsigned_abs m)) r

-- the divisor is a constant other than 0, and divides the modulus and the rest
abbrev pub is_divided : Class → Class → Bool
is_divided a b = int_eq b.m (pos 0) && not (int_eq b.r (pos 0)) && divides b.r a.m && divides b.r a.r

abbrev pub class_quotient : Class → Class → Class
class_quotient a b =
    if is_divided a b then class_if (pos (unsigned_abs a.m / unsigned_abs b.r)) (int_div a.r b.r) else every

abbrev pub class_rest : Class → Class → Class
class_rest a b = class_if (int_gcd (int_gcd a.m b.m) b.r) a.r

-- the count is a constant that a shift may have
abbrev pub is_counted : IntType → Class → Bool
is_counted t b = int_eq b.m (pos 0) && is_count t b.r

abbrev pub class_doubled : IntType → Class → Class → Class
class_doubled t a b =
    if is_counted t b then class_if (a.m *ℤ pos (2 ^ unsigned_abs b.r)) (a.r *ℤ pos (2 ^ unsigned_abs b.r)) else every

abbrev pub class_negative : Class → Class
class_negative a = class_if a.m (neg_ℤ a.r)

-- what a number and its complement add up to
abbrev pub complement_total : IntType → ℤ
complement_total t = if is_signed_of t then negsuc 0 else high_of t

abbrev pub class_complement : IntType → Class → Class
class_complement t a = class_if a.m (complement_total t -ℤ a.r)

-- The class of an operator's result before it is fitted to the type. A unary operator doesn't use the second class.
abbrev pub result_of : Op → IntType → Class → Class → Class
result_of Add t a b = class_sum a b
result_of Sub t a b = class_difference a b
result_of Mul t a b = class_product a b
result_of Div t a b = class_quotient a b
result_of Rem t a b = class_rest a b
result_of Shl t a b = class_doubled t a b
result_of Neg t a b = class_negative a
result_of BitNot t a b = class_complement t a
result_of op t a b = every

-- The class after its numbers were shifted into the type by adding one number, or each by a multiple of the type's size of its own.
abbrev pub wrapped_class : IntType → Class → Option ℤ → Class
wrapped_class t a (Some added) = class_if a.m (a.r +ℤ added)
wrapped_class t a None = class_if (int_gcd a.m (pos (size_of t))) a.r
