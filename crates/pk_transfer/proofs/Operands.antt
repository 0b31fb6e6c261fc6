-- What is told of operands, in what is asked of them.
use Rattle.std.specs.Prelude.{◌≡◌, ◌-◌, ◌^◌, negsuc, ◌≤ℤ◌, Option, Some, IfSome}
use Rattle.std.proofs.Common.{arith, subst, sym}
use Rattle.std.proofs.lemmas.Int.{ints}
use Rattle.pk_ctypes.specs.declared.types.IntType.{IntType}
use Rattle.pk_ctypes.specs.declared.types.IntType.TheVariants.{Char, SChar, UChar, Short, UShort, Int, UInt, Long, ULong, LLong, ULLong}
use Rattle.pk_ctypes.specs.declared.types.Op.{Op}
use Rattle.pk_ctypes.specs.Types.{Represents}
use Rattle.pk_interval.specs.Ranges.{Range, IsIn}
use Rattle.pk_interval.specs.Operators.{HasRightIn}
use Rattle.pk_graph.specs.Kinds.{IsRight}
use Rattle.pk_value.specs.Known.{Known}
use Rattle.pk_octagons.specs.Values.{IsValue}
use Rattle.pk_transfer.specs.Told.{Told}
use Rattle.pk_transfer.proofs.Told.{in_wider, right_wider}

pub told_value : (t : IntType) (o : Option Known) (k : Known) → IfSome o (IsValue t) → o ≡ Some k → IsValue t k
told_value t o k i s = subst (λ (v : Option Known). IfSome v (IsValue t)) s i

pub told_in : (d a : Told) (t : IntType) (k : Known) → d ≡ a → Represents t a.int_type → IfSome d.known (IsValue d.int_type) → d.known ≡ Some k → IsIn t k.range
told_in d a t k e w i s = in_wider t d.int_type k.range (subst (λ (v : Told). Represents t v.int_type) (sym e) w) (told_value d.int_type d.known k i s).inside

pub told_right : (d b : Told) (op : Op) (t : IntType) (k : Known) → d ≡ b → IsRight op t b.int_type → IfSome d.known (IsValue d.int_type) → d.known ≡ Some k → HasRightIn op t k.range
told_right d b op t k e w i s = right_wider op t d.int_type k.range (subst (λ (v : Told). IsRight op t v.int_type) (sym e) w) (told_value d.int_type d.known k i s).inside

-- no number of a type is below -2^126
pub not_low : (t : IntType) (r : Range) → IsIn t r → negsuc (2 ^ 126 - 1) ≤ℤ r.lo
not_low Char r h = omega (arith, ints, h.from)
not_low SChar r h = omega (arith, ints, h.from)
not_low UChar r h = omega (arith, ints, h.from)
not_low Short r h = omega (arith, ints, h.from)
not_low UShort r h = omega (arith, ints, h.from)
not_low Int r h = omega (arith, ints, h.from)
not_low UInt r h = omega (arith, ints, h.from)
not_low Long r h = omega (arith, ints, h.from)
not_low ULong r h = omega (arith, ints, h.from)
not_low LLong r h = omega (arith, ints, h.from)
not_low ULLong r h = omega (arith, ints, h.from)
