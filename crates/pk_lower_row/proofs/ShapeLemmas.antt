-- The number of a converted shape lies in its type.
use Rattle.std.proofs.Common.{◌≡◌, sym, subst, refl, Bool, true, false, Option, Some, None, IfSome}
use Rattle.std.specs.Prelude.{ℤ}
use Rattle.pk_ctypes.specs.declared.types.IntType.{IntType}
use Rattle.pk_ctypes.specs.declared.types.Op.{Op}
use Rattle.pk_ctypes.specs.Types.{InType, represents}
use Rattle.pk_ctypes.specs.Operators.{HasRight}
use Rattle.pk_ctypes.proofs.Wrapped.{conversion}
use Rattle.pk_draft.specs.Folding.{right_type}
use Rattle.pk_draft.proofs.FoldingLemmas.{right_number}
use Rattle.pk_lower_row.specs.declared.shapes.Shape.{Shape}
use Rattle.pk_lower_row.specs.declared.shapes.Shape.TheVariants.{Fixed, Temporary, Named, Other}
use Rattle.pk_lower_row.specs.Shapes.{number_in_shape, kept_shape_if, converted_shape}

of_kept : (b : Bool) (s : Shape) → number_in_shape s ≡ None → number_in_shape (kept_shape_if b s) ≡ None
of_kept true s h = h
of_kept false s h = refl

none_holds : (o : Option ℤ) (P : ℤ → Type 0) → o ≡ None → IfSome o P
none_holds o P h = subst (λ (p : Option ℤ). IfSome p P) (sym h) tt

pub in_type : (u t : IntType) (s : Shape) → IfSome (number_in_shape (converted_shape u t s)) (InType t)
in_type u t (Fixed z) = (conversion.holds t z).inside
in_type u t Temporary = none_holds _ _ (of_kept (represents t u) Temporary refl)
in_type u t Named = none_holds _ _ (of_kept (represents t u) Named refl)
in_type u t Other = none_holds _ _ (of_kept (represents t u) Other refl)

some_right : (o : Option ℤ) (op : Op) (v t : IntType) → IfSome o (InType (right_type op v t)) → IfSome o (HasRight op t)
some_right None op v t h = tt
some_right (Some z) op v t h = right_number op v t z h

-- a right operand's number is one that the operator takes
pub is_right : (op : Op) (v t : IntType) (s : Shape) → IfSome (number_in_shape (converted_shape v (right_type op v t) s)) (HasRight op t)
is_right op v t s = some_right _ op v t (in_type v (right_type op v t) s)
