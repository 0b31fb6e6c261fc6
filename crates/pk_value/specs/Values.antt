-- What is known of the result of an operator or a conversion.
use Rattle.std.specs.Prelude.{Bool, ◌&&◌, if◌then◌else◌, ℤ, pos, Option, Some, None, Result, Ok, Err}
use Rattle.std.specs.Ordering.{int_eq}
use Rattle.pk_ctypes.specs.declared.types.IntType.{IntType}
use Rattle.pk_ctypes.specs.declared.types.Op.{Op}
use Rattle.pk_ctypes.specs.declared.types.Op.TheVariants.{Eq, Ne, Not}
use Rattle.pk_ctypes.specs.declared.faults.Fault.{Fault}
use Rattle.pk_ctypes.specs.Operators.{value_of, result_type}
use Rattle.pk_interval.specs.declared.outcome.Outcome.{Outcome}
use Rattle.pk_interval.specs.declared.outcome.Outcome.TheVariants.{Within}
use Rattle.pk_interval.specs.Ranges.{Range, single}
use Rattle.pk_interval.specs.Fitting.{shifted, finish_of}
use Rattle.pk_interval.specs.Operators.{range_of}
use Rattle.pk_congr.specs.Classes.{Class, are_apart, constant}
use Rattle.pk_congr.specs.Operators.{result_of, wrapped_class}
use Rattle.pk_value.specs.Reduction.{red}
use Rattle.pk_value.specs.Known.{Known, exactly, known_of}

-- ---- the table

-- one number, if the test holds
abbrev pub one_if : Bool → ℤ → Outcome → Outcome
one_if b z r = if b then Within (single z) else r

-- equality is surely false where no number is in both classes; `!` is equality with 0
abbrev pub compared : Op → Class → Class → Outcome → Outcome
compared Eq a b r = one_if (are_apart a b) (pos 0) r
compared Ne a b r = one_if (are_apart a b) (pos 1) r
compared Not a b r = one_if (are_apart a (constant (pos 0))) (pos 0) r
compared op a b r = r

abbrev pub red_as : Range → Class → Option Known
red_as r c = known_of (red r c)

-- a range in the type and what was added to each number: the class gets the same
abbrev pub fitted : IntType → Option (Range × Option ℤ) → Class → Option Known
fitted t None c = None
fitted t (Some p) c = red_as p.0 (wrapped_class t c p.1)

-- The table's row: both parts in the type of the result, and reduced.
abbrev pub from_table : Op → IntType → Known → Known → Option Known
from_table op t a b =
    let u = result_type op t in
    fitted u (finish_of u (compared op a.class b.class (range_of op t a.range b.range)))
    (result_of op t a.class b.class)

-- ---- constants

abbrev pub is_constant : Known → Bool
is_constant k = int_eq k.range.lo k.range.hi

-- the number, or where there is a fault what else is known
abbrev pub exact_if : Result ℤ Fault → Option Known → Option Known
exact_if (Ok z) k = Some (exactly z)
exact_if (Err f) k = k

-- What is known of an operator's result at operands in its type; a result of constants without fault is exact. An operator with one operand doesn't use the second.
abbrev pub operated : Op → IntType → Known → Known → Option Known
operated op t a b =
    if is_constant a && is_constant b then exact_if (value_of op t a.range.lo b.range.lo) (from_table op t a b)
    else from_table op t a b

abbrev pub converted : IntType → Known → Option Known
converted t k = let p = shifted t k.range in red_as p.0 (wrapped_class t k.class p.1)
