-- The edges of each expression stay among its points.
use Rattle.std.proofs.Common.{ℕ, List, [], ◌∷◌, ◌++◌}
use Rattle.pk_ctypes.specs.declared.types.IntType.TheVariants.{Int}
use Rattle.pk_ctypes.specs.Types.{represents}
use Rattle.pk_typed.specs.Trees.{PlaceTree, ValueTree, EffectTree, ValueTrees}
use Rattle.pk_typed.specs.Trees as tree
use Rattle.pk_typed.specs.Types.{type_of}
use Rattle.pk_welltyped.specs.Listed.{Numbered, calls_at_place, calls_in, calls_in_effect, calls_in_values}
use Rattle.pk_lower_row.specs.declared.shapes.Shape.TheVariants.{Fixed, Named}
use Rattle.pk_lower_row.specs.Shapes.{any_makes}
use Rattle.pk_lower_row.specs.Contexts.{Context, site, callee, size_in, parameters_of}
use Rattle.pk_lower_row.specs.Rows.{Operand, operand, convert_ways, types_of, and_choice, or_choice}
use Rattle.pk_lower_expression.specs.Expressions.{target, ways, performed, passed}
use Rattle.pk_edge_laws.specs.Edges.{AreSized, ExpressionsStay}
use Rattle.pk_edge_laws.proofs.Rows.{WaysGo, TargetGoes, PassGoes, Makes, goes_trans, goes_refl, emit_goes, valuing, reading, assigning, updating, stepping, havocking, converting, unary_goes, binary_goes, and_splits, or_splits, deciding, conditional_goes, then_goes, assuming, calling, passing, either_way, zero_goes}

pub front_sized : (z : ℕ → ℕ) (c : Context) (xs ys : List Numbered) → AreSized z c (xs ++ ys) → AreSized z c xs
front_sized z c [] ys h = tt
front_sized z c (x ∷ xs) ys h = (h.0, front_sized z c xs ys h.1)

pub back_sized : (z : ℕ → ℕ) (c : Context) (xs ys : List Numbered) → AreSized z c (xs ++ ys) → AreSized z c ys
back_sized z c [] ys h = h
back_sized z c (x ∷ xs) ys h = back_sized z c xs ys h.1

abbrev pub lowered : {V : Type 0} → Context → ValueTree → Operand V
lowered c e = operand e (ways c e)

mutual
  unfolding target ways performed passed calls_at_place calls_in calls_in_effect calls_in_values

  pub targets : (V : Type 0) (z : ℕ → ℕ) (c : Context) (r : PlaceTree) → AreSized z c (calls_at_place r) → TargetGoes {V = V} z (target c r)
  targets V z c (tree.scalar t x) h = tt
  targets V z c (tree.element t x at i) h = values V z c i h

  pub values : (V : Type 0) (z : ℕ → ℕ) (c : Context) (e : ValueTree) → AreSized z c (calls_in e) → WaysGo {V = V} z (ways c e)
  values V z c (tree.constant t n) h = valuing (Fixed n) t _ (goes_refl)
  values V z c (tree.read r) h = reading (target c r) (targets V z c r h)
  values V z c (tree.assign at r e) h =
      assigning (target c r) (lowered c e) (targets V z c r (front_sized z c (calls_at_place r) (calls_in e) h)) (values V z c e (back_sized z c (calls_at_place r) (calls_in e) h))
  values V z c (tree.update op at o r e) h =
      updating op (site c at) o (target c r) (lowered c e) (targets V z c r (front_sized z c (calls_at_place r) (calls_in e) h)) (values V z c e (back_sized z c (calls_at_place r) (calls_in e) h))
  values V z c (tree.step op at o r prefix) h = stepping op (site c at) o (target c r) prefix (targets V z c r h)
  values V z c (tree.call t f n at es) h =
      valuing Named t _ (calling (callee c n) (size_in c.sizes f) (parameters_of c.unit f) (types_of es) (passed c es) h.0 (arguments V z c es h.1))
  values V z c (tree.any t at) h = havocking {V = V} t
  values V z c (tree.unary op at t e) h = unary_goes op (site c at) t (lowered c e) (values V z c e h)
  values V z c (tree.convert t e) h = converting t (lowered c e) (values V z c e h)
  values V z c (tree.binary op at t a b) h =
      binary_goes op (site c at) t (lowered c a) (lowered c b) (values V z c a (front_sized z c (calls_in a) (calls_in b) h)) (values V z c b (back_sized z c (calls_in a) (calls_in b) h))
  values V z c (tree.and a b) h =
      deciding (and_choice (ways c a) (ways c b)) (and_splits (ways c a) (ways c b) (values V z c a (front_sized z c (calls_in a) (calls_in b) h)) (values V z c b (back_sized z c (calls_in a) (calls_in b) h)))
  values V z c (tree.or a b) h =
      deciding (or_choice (ways c a) (ways c b)) (or_splits (ways c a) (ways c b) (values V z c a (front_sized z c (calls_in a) (calls_in b) h)) (values V z c b (back_sized z c (calls_in a) (calls_in b) h)))
  values V z c (tree.conditional t e a b) h =
      let k = front_sized z c (calls_in e ++ calls_in a) (calls_in b) h in
      conditional_goes t (ways c e) (lowered c a) (lowered c b) (values V z c e (front_sized z c (calls_in e) (calls_in a) k)) (values V z c a (back_sized z c (calls_in e) (calls_in a) k))
      (values V z c b (back_sized z c (calls_in e ++ calls_in a) (calls_in b) h))
  values V z c (tree.then_value f v) h =
      then_goes (performed c f) (ways c v) (effects V z c f (front_sized z c (calls_in_effect f) (calls_in v) h)) (values V z c v (back_sized z c (calls_in_effect f) (calls_in v) h))

  pub effects : (V : Type 0) (z : ℕ → ℕ) (c : Context) (f : EffectTree) → AreSized z c (calls_in_effect f) → Makes {V = V} z (performed c f)
  effects V z c (tree.unused v) h = (values V z c v h).unused
  effects V z c (tree.run f n at es) h = calling (callee c n) (size_in c.sizes f) (parameters_of c.unit f) (types_of es) (passed c es) h.0 (arguments V z c es h.1)
  effects V z c (tree.assume at v) h =
      assuming _ (either_way (represents Int (type_of v)) (ways c v) (convert_ways Int (lowered c v)) (values V z c v h) (converting Int (lowered c v) (values V z c v h)))
  effects V z c (tree.assert at v) h = λ d. goes_trans ((values V z c v h).value d) (emit_goes _ ((ways c v).value d).1)
  effects V z c (tree.abort at) h = assuming _ (zero_goes {V = V})
  effects V z c (tree.then_effect a b) h = λ d.
      goes_trans (effects V z c a (front_sized z c (calls_in_effect a) (calls_in_effect b) h) d)
      (effects V z c b (back_sized z c (calls_in_effect a) (calls_in_effect b) h) (performed c a d))

  pub arguments : (V : Type 0) (z : ℕ → ℕ) (c : Context) (es : ValueTrees) → AreSized z c (calls_in_values es) → PassGoes {V = V} z (passed c es)
  arguments V z c tree.no_values h = goes_refl
  arguments V z c (tree.value_before e es) h =
      passing (any_makes es) (lowered c e) (passed c es) (values V z c e (front_sized z c (calls_in e) (calls_in_values es) h)) (arguments V z c es (back_sized z c (calls_in e) (calls_in_values es) h))

pub expressions_stay : {V : Type 0} → ExpressionsStay V
expressions_stay {V} = record {
  value = λ z c e d h. (values V z c e h).value d;
  choice = λ z c e p q d h. (values V z c e h).choice p q d;
  unused = λ z c e d h. (values V z c e h).unused d;
  effect = λ z c e d h. effects V z c e h d;
}
