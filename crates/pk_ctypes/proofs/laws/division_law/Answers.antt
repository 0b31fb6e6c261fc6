use Rattle.std.specs.Prelude.{◌≡◌, ℤ, pos, false, ◌⊎◌, int_div, int_rem, Ok}
use Rattle.std.proofs.Common.{subst, inl, inr}
use Rattle.pk_ctypes.specs.declared.types.IntType.{IntType}
use Rattle.pk_ctypes.specs.declared.types.Op.TheVariants.{Div, Rem}
use Rattle.pk_ctypes.specs.Types.{InType, is_in_type}
use Rattle.pk_ctypes.specs.Operators.{value_of}
use Rattle.pk_ctypes.specs.Laws.{IsTruncatedDivision}
use Rattle.pk_ctypes.proofs.Quotients.{only_division, truncated}
use Rattle.pk_ctypes.proofs.Values.{in_type_test, cases_of_type, rest_past, rest_value, quotient_value, by_zero}
use Rattle.pk_ctypes.proofs.laws.division_law.Goals as goal

holds : (t : IntType) (a b q r : ℤ) → InType t a → InType t b → value_of Div t a b ≡ Ok q → value_of Rem t a b ≡ Ok r → IsTruncatedDivision a b q r
holds t a b q r h k e f = inside (cases_of_type t (int_div a b))
  where
    some : b ≡ pos 0 → ⊥
    some z = absurd (cc (by_zero t a b z))

    inside : InType t (int_div a b) ⊎ ((is_in_type t (int_div a b) ≡ false) × (InType t (int_div a b) → ⊥)) → IsTruncatedDivision a b q r
    inside (inr out) = absurd (cc (rest_past t a b some out.0))
    inside (inl h') =
        let quotient : int_div a b ≡ q = cc (quotient_value t a b some h') in
        let rest : int_rem a b ≡ r = cc (rest_value t a b h some (in_type_test t (int_div a b) h')) in
        subst (λ (x : ℤ). IsTruncatedDivision a b x r) quotient (subst (λ (x : ℤ). IsTruncatedDivision a b (int_div a b) x) rest (truncated a b some))

pub returns : goal.returns
returns c = record { holds = holds; only = only_division }
