-- Lists of values and of mentions.
use Rattle.std.proofs.Common.{◌≡◌, ◌<◌, ℕ, List, [], ◌∷◌, ◌++◌, Some, None, length, refl, ap, arith, false, Vec, Global}
use Rattle.std.specs.Vec.{vec_len}
use Rattle.std.specs.Bool.{◌==◌}
use Rattle.std.proofs.lemmas.Bool.Decides.{nat_tests}
use Rattle.pk_typed.specs.declared.values.Value.{Value}
use Rattle.pk_typed.specs.Trees.{ValueTrees, no_values, value_before}
use Rattle.pk_typed.specs.Views.{value_tree, value_trees}
use Rattle.pk_type_expression.specs.Forms.{append_values}
use Rattle.pk_type_expression.specs.Typed.{if_none, only}

pub value_trees_push : (vs : List Value) (v : Value) → value_trees (vs ++ v ∷ []) ≡ append_values (value_trees vs) (value_before (value_tree v) no_values)
value_trees_push [] v = refl
value_trees_push (w ∷ vs) v = ap (value_before (value_tree w)) (value_trees_push vs v)

pub append_values_none : (vs : ValueTrees) → append_values vs no_values ≡ vs
append_values_none no_values = refl
append_values_none (value_before v vs) = ap (value_before v) (append_values_none vs)

pub append_values_assoc : (a b c : ValueTrees) → append_values (append_values a b) c ≡ append_values a (append_values b c)
append_values_assoc no_values b c = refl
append_values_assoc (value_before v vs) b c = ap (value_before v) (append_values_assoc vs b c)

pub not_zero : (n : ℕ) → false ≡ (n == 0) → 0 < n
not_zero n h = grind (arith, nat_tests)

-- there are values
pub none_of_some : {A : Type 0} (vs : List Value) (x : A) → 0 < length vs → if_none (value_trees vs) x ≡ None
none_of_some [] x h = absurd (omega (arith, h))
none_of_some (v ∷ vs) x h = refl

-- one value alone, and any other count of them
pub only_one : (v : Value) → only (value_trees (v ∷ [])) ≡ Some (value_tree v)
only_one v = refl

not_one_of : (vs : List Value) → (length vs ≡ 1 → ⊥) → only (value_trees vs) ≡ None
not_one_of [] h = refl
not_one_of (v ∷ []) h = absurd (h refl)
not_one_of (v ∷ w ∷ vs) h = refl

pub not_one : (vs : Vec Value Global) → (vec_len vs ≡ 1 → ⊥) → only (value_trees vs.items) ≡ None
not_one vs h = not_one_of vs.items (λ e. h (omega (arith, e, vs.ok)))
