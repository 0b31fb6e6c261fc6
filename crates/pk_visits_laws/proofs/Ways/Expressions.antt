-- Each value of a program goes on at a point without edges, each choice leads away.
use Rattle.std.proofs.Common.{ℕ, List, ◌++◌}
use Rattle.pk_ctypes.specs.declared.types.IntType.TheVariants.{Int}
use Rattle.pk_ctypes.specs.Types.{represents}
use Rattle.pk_typed.specs.Trees.{PlaceTree, ValueTree, EffectTree, ValueTrees}
use Rattle.pk_typed.specs.Trees as tree
use Rattle.pk_typed.specs.Types.{type_of}
use Rattle.pk_welltyped.specs.Listed.{Numbered, calls_at_place, calls_in, calls_in_effect, calls_in_values}
use Rattle.pk_lower_row.specs.declared.shapes.Shape.TheVariants.{Fixed, Named}
use Rattle.pk_lower_row.specs.Shapes.{any_makes}
use Rattle.pk_lower_row.specs.Contexts.{Context, site, callee, size_in, parameters_of}
use Rattle.pk_lower_row.specs.Rows.{Operand, operand, convert_ways, types_of, and_choice, or_choice}
use Rattle.pk_lower_expression.specs.Expressions.{target, ways, performed, passed}
use Rattle.pk_visits.proofs.Grows.Expressions.{AllCalled, front_called, back_called}
use Rattle.pk_visits_laws.proofs.Ways.Rows.{WaysGo, TargetGoes, PassGoes, Makes, Fits, goes_trans, goes_refl, emit_goes, valuing, reading, assigning, updating, stepping, havocking, converting, unary_goes, binary_goes, and_splits, or_splits, deciding, conditional_goes, then_goes, assuming, calling, passing, either_way, zero_goes}

-- the paths that calls lead to have parts of such sizes
abbrev pub Sized : (ℕ → ℕ) → Context → List Numbered → Type 0
Sized z c xs = AllCalled (Fits z) c xs

abbrev pub lowered : {V : Type 0} → Context → ValueTree → Operand V
lowered c e = operand e (ways c e)

mutual
  unfolding target ways performed passed calls_at_place calls_in calls_in_effect calls_in_values

  pub targets : (V : Type 0) (z : ℕ → ℕ) (c : Context) (r : PlaceTree) → Sized z c (calls_at_place r) → TargetGoes {V = V} z (target c r)
  targets V z c (tree.scalar t x) h = tt
  targets V z c (tree.element t x at i) h = values V z c i h

  pub values : (V : Type 0) (z : ℕ → ℕ) (c : Context) (e : ValueTree) → Sized z c (calls_in e) → WaysGo {V = V} z (ways c e)
  values V z c (tree.constant t n) h = valuing z (Fixed n) t _ (goes_refl z)
  values V z c (tree.read r) h = reading z (target c r) (targets V z c r h)
  values V z c (tree.assign at r e) h =
      assigning z (target c r) (lowered c e) (targets V z c r (front_called (Fits z) c (calls_at_place r) (calls_in e) h)) (values V z c e (back_called (Fits z) c (calls_at_place r) (calls_in e) h))
  values V z c (tree.update op at o r e) h =
      updating z op (site c at) o (target c r) (lowered c e) (targets V z c r (front_called (Fits z) c (calls_at_place r) (calls_in e) h)) (values V z c e (back_called (Fits z) c (calls_at_place r) (calls_in e) h))
  values V z c (tree.step op at o r prefix) h = stepping z op (site c at) o (target c r) prefix (targets V z c r h)
  values V z c (tree.call t f n at es) h =
      valuing z Named t _ (calling z (callee c n) (size_in c.sizes f) (parameters_of c.unit f) (types_of es) (passed c es) h.0 (arguments V z c es h.1))
  values V z c (tree.any t at) h = havocking {V = V} z t
  values V z c (tree.unary op at t e) h = unary_goes z op (site c at) t (lowered c e) (values V z c e h)
  values V z c (tree.convert t e) h = converting z t (lowered c e) (values V z c e h)
  values V z c (tree.binary op at t a b) h =
      binary_goes z op (site c at) t (lowered c a) (lowered c b) (values V z c a (front_called (Fits z) c (calls_in a) (calls_in b) h)) (values V z c b (back_called (Fits z) c (calls_in a) (calls_in b) h))
  values V z c (tree.and a b) h =
      deciding z (and_choice (ways c a) (ways c b)) (and_splits z (ways c a) (ways c b) (values V z c a (front_called (Fits z) c (calls_in a) (calls_in b) h)) (values V z c b (back_called (Fits z) c (calls_in a) (calls_in b) h)))
  values V z c (tree.or a b) h =
      deciding z (or_choice (ways c a) (ways c b)) (or_splits z (ways c a) (ways c b) (values V z c a (front_called (Fits z) c (calls_in a) (calls_in b) h)) (values V z c b (back_called (Fits z) c (calls_in a) (calls_in b) h)))
  values V z c (tree.conditional t e a b) h =
      let k = front_called (Fits z) c (calls_in e ++ calls_in a) (calls_in b) h in
      conditional_goes z t (ways c e) (lowered c a) (lowered c b) (values V z c e (front_called (Fits z) c (calls_in e) (calls_in a) k)) (values V z c a (back_called (Fits z) c (calls_in e) (calls_in a) k))
      (values V z c b (back_called (Fits z) c (calls_in e ++ calls_in a) (calls_in b) h))
  values V z c (tree.then_value f v) h =
      then_goes z (performed c f) (ways c v) (effects V z c f (front_called (Fits z) c (calls_in_effect f) (calls_in v) h)) (values V z c v (back_called (Fits z) c (calls_in_effect f) (calls_in v) h))

  pub effects : (V : Type 0) (z : ℕ → ℕ) (c : Context) (f : EffectTree) → Sized z c (calls_in_effect f) → Makes {V = V} z (performed c f)
  effects V z c (tree.unused v) h = (values V z c v h).unused
  effects V z c (tree.run f n at es) h = calling z (callee c n) (size_in c.sizes f) (parameters_of c.unit f) (types_of es) (passed c es) h.0 (arguments V z c es h.1)
  effects V z c (tree.assume at v) h =
      assuming z _ (either_way z (represents Int (type_of v)) (ways c v) (convert_ways Int (lowered c v)) (values V z c v h) (converting z Int (lowered c v) (values V z c v h)))
  effects V z c (tree.assert at v) h = λ d. goes_trans ((values V z c v h).value d) (emit_goes z _ ((ways c v).value d).1)
  effects V z c (tree.abort at) h = assuming z _ (zero_goes {V = V} z)
  effects V z c (tree.then_effect a b) h = λ d.
      goes_trans (effects V z c a (front_called (Fits z) c (calls_in_effect a) (calls_in_effect b) h) d)
      (effects V z c b (back_called (Fits z) c (calls_in_effect a) (calls_in_effect b) h) (performed c a d))

  pub arguments : (V : Type 0) (z : ℕ → ℕ) (c : Context) (es : ValueTrees) → Sized z c (calls_in_values es) → PassGoes {V = V} z (passed c es)
  arguments V z c tree.no_values h = goes_refl z
  arguments V z c (tree.value_before e es) h =
      passing z (any_makes es) (lowered c e) (passed c es) (values V z c e (front_called (Fits z) c (calls_in e) (calls_in_values es) h)) (arguments V z c es (back_called (Fits z) c (calls_in e) (calls_in_values es) h))
