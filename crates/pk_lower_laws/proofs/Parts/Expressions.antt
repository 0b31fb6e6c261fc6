-- An expression makes as much wherever a draft's numbers are, on whatever path, and however variables are named.
use Rattle.std.proofs.Common.{ℕ, refl}
use Rattle.std.specs.Prelude.{List, Option}
use Rattle.pk_draft.specs.declared.drafts.Size.{Size}
use Rattle.pk_ctypes.specs.declared.types.IntType.TheVariants.{Int}
use Rattle.pk_ctypes.specs.Types.{represents}
use Rattle.pk_typed.specs.Trees.{PlaceTree, ValueTree, EffectTree, ValueTrees}
use Rattle.pk_typed.specs.Trees as tree
use Rattle.pk_typed.specs.Types.{type_of}
use Rattle.pk_lower_row.specs.declared.shapes.Shape.TheVariants.{Fixed, Named}
use Rattle.pk_lower_row.specs.Shapes.{any_makes}
use Rattle.pk_lower_row.specs.Contexts.{Context, site, callee, size_in, parameters_of}
use Rattle.pk_lower_row.specs.Rows.{Operand, operand, convert_ways, called, types_of, and_choice, or_choice}
use Rattle.pk_lower_expression.specs.Expressions.{target, ways, performed, passed}
use Rattle.pk_lower_laws.specs.Parts.Called.{AtPlace, AtValue, AtEffect, AtValues}
use Rattle.pk_lower_laws.specs.Parts.Steps.{AgreeAt, AsMuch, PassAsMuch, WaysInStep, moved}
use Rattle.pk_lower_laws.specs.Parts.Laws.{ExpressionsMakeAsMuch}
use Rattle.pk_lower_laws.proofs.Parts.Verbs.{pointed}
use Rattle.pk_lower_laws.proofs.Parts.Forms.{OperandsInStep, TargetsInStep, valuing, zero_in_step, reading, assigning, updating, stepping, havocking, converting, unary_step, binary_step, both_true, one_true, deciding, conditional_step, then_step, calling, passing, assuming, ways_either}

abbrev pub lowered : (V : Type 0) → Context → ValueTree → Operand V
lowered V c e = operand e (ways c e)

abbrev pub operands : (V W : Type 0) (c : Context) (k n : ℕ) (ss : List (Option Size)) (e : ValueTree) → WaysInStep {V = V} {W = W} (ways c e) (ways (moved k n ss c) e) → OperandsInStep (lowered V c e) (lowered W (moved k n ss c) e)
operands V W c k n ss e h = record { shape = refl; makes = refl; ways = h }

mutual
  unfolding target ways performed passed AtPlace AtValue AtEffect AtValues

  pub targets : (V W : Type 0) (c : Context) (k n : ℕ) (ss : List (Option Size)) (r : PlaceTree) → AtPlace (AgreeAt c.sizes ss) r → TargetsInStep {V = V} {W = W} (target c r) (target (moved k n ss c) r)
  targets V W c k n ss (tree.scalar t x) h = tt
  targets V W c k n ss (tree.element t x o i) h = operands V W c k n ss i (values V W c k n ss i h)

  pub values : (V W : Type 0) (c : Context) (k n : ℕ) (ss : List (Option Size)) (v : ValueTree) → AtValue (AgreeAt c.sizes ss) v → WaysInStep {V = V} {W = W} (ways c v) (ways (moved k n ss c) v)
  values V W c k n ss (tree.constant t z) h = valuing (Fixed z) t t _ _ (λ p v d e s. s)
  values V W c k n ss (tree.read r) h = reading (target c r) (target (moved k n ss c) r) (targets V W c k n ss r h)
  values V W c k n ss (tree.assign o r a) h =
      assigning (target c r) (target (moved k n ss c) r) (lowered V c a) (lowered W (moved k n ss c) a) (targets V W c k n ss r h.0) (operands V W c k n ss a (values V W c k n ss a h.1))
  values V W c k n ss (tree.update op o t r a) h =
      updating op (site c o) (site (moved k n ss c) o) t (target c r) (target (moved k n ss c) r) (lowered V c a) (lowered W (moved k n ss c) a) (targets V W c k n ss r h.0) (operands V W c k n ss a (values V W c k n ss a h.1))
  values V W c k n ss (tree.step op o t r prefix) h = stepping op (site c o) (site (moved k n ss c) o) t (target c r) (target (moved k n ss c) r) prefix (targets V W c k n ss r h)
  values V W c k n ss (tree.call t f m o xs) h =
      valuing Named t t (called c f m (types_of xs) (passed c xs)) (called (moved k n ss c) f m (types_of xs) (passed (moved k n ss c) xs))
      (calling (callee c m) (callee (moved k n ss c) m) (size_in c.sizes f) (size_in ss f) h.0 (parameters_of c.unit f) (types_of xs) (passed c xs) (passed (moved k n ss c) xs) (arguments V W c k n ss xs h.1))
  values V W c k n ss (tree.any t o) h = havocking V W t
  values V W c k n ss (tree.unary op o t a) h =
      unary_step op (site c o) (site (moved k n ss c) o) t (lowered V c a) (lowered W (moved k n ss c) a) refl (operands V W c k n ss a (values V W c k n ss a h))
  values V W c k n ss (tree.convert t a) h = converting t (lowered V c a) (lowered W (moved k n ss c) a) refl (operands V W c k n ss a (values V W c k n ss a h))
  values V W c k n ss (tree.binary op o t a b) h =
      binary_step op (site c o) (site (moved k n ss c) o) t (lowered V c a) (lowered W (moved k n ss c) a) (lowered V c b) (lowered W (moved k n ss c) b) refl
      (operands V W c k n ss a (values V W c k n ss a h.0)) (operands V W c k n ss b (values V W c k n ss b h.1))
  values V W c k n ss (tree.and a b) h =
      deciding (and_choice (ways c a) (ways c b)) (and_choice (ways (moved k n ss c) a) (ways (moved k n ss c) b))
      (both_true (ways c a) (ways (moved k n ss c) a) (ways c b) (ways (moved k n ss c) b) (values V W c k n ss a h.0) (values V W c k n ss b h.1))
  values V W c k n ss (tree.or a b) h =
      deciding (or_choice (ways c a) (ways c b)) (or_choice (ways (moved k n ss c) a) (ways (moved k n ss c) b))
      (one_true (ways c a) (ways (moved k n ss c) a) (ways c b) (ways (moved k n ss c) b) (values V W c k n ss a h.0) (values V W c k n ss b h.1))
  values V W c k n ss (tree.conditional t w a b) h =
      conditional_step t (ways c w) (ways (moved k n ss c) w) (lowered V c a) (lowered W (moved k n ss c) a) (lowered V c b) (lowered W (moved k n ss c) b)
      (values V W c k n ss w h.0) (operands V W c k n ss a (values V W c k n ss a h.1)) (operands V W c k n ss b (values V W c k n ss b h.2))
  values V W c k n ss (tree.then_value f v) h =
      then_step (performed c f) (performed (moved k n ss c) f) (ways c v) (ways (moved k n ss c) v) (effects V W c k n ss f h.0) (values V W c k n ss v h.1)

  pub effects : (V W : Type 0) (c : Context) (k n : ℕ) (ss : List (Option Size)) (f : EffectTree) → AtEffect (AgreeAt c.sizes ss) f → AsMuch {V = V} {W = W} (performed c f) (performed (moved k n ss c) f)
  effects V W c k n ss (tree.unused v) h = (values V W c k n ss v h).unused
  effects V W c k n ss (tree.run f m o xs) h =
      calling (callee c m) (callee (moved k n ss c) m) (size_in c.sizes f) (size_in ss f) h.0 (parameters_of c.unit f) (types_of xs) (passed c xs) (passed (moved k n ss c) xs) (arguments V W c k n ss xs h.1)
  effects V W c k n ss (tree.assume o v) h =
      assuming _ _ (ways_either (represents Int (type_of v)) (ways c v) (convert_ways Int (lowered V c v)) (ways (moved k n ss c) v) (convert_ways Int (lowered W (moved k n ss c) v))
      (values V W c k n ss v h) (converting Int (lowered V c v) (lowered W (moved k n ss c) v) refl (operands V W c k n ss v (values V W c k n ss v h))))
  effects V W c k n ss (tree.assert o a) h = λ p v d e s. pointed 1 ((values V W c k n ss a h).value p v d e s)
  effects V W c k n ss (tree.abort o) h = assuming _ _ (zero_in_step V W)
  effects V W c k n ss (tree.then_effect a b) h = λ p v d e s. effects V W c k n ss b h.1 p v (performed c a d) (performed (moved k n ss c) a e) (effects V W c k n ss a h.0 p v d e s)

  pub arguments : (V W : Type 0) (c : Context) (k n : ℕ) (ss : List (Option Size)) (xs : ValueTrees) → AtValues (AgreeAt c.sizes ss) xs → PassAsMuch {V = V} {W = W} (passed c xs) (passed (moved k n ss c) xs)
  arguments V W c k n ss tree.no_values h = λ p v d e s. (tt, s)
  arguments V W c k n ss (tree.value_before a xs) h =
      passing (any_makes xs) (lowered V c a) (lowered W (moved k n ss c) a) (passed c xs) (passed (moved k n ss c) xs) (operands V W c k n ss a (values V W c k n ss a h.0)) (arguments V W c k n ss xs h.1)

pub expressions_make_as_much : (V W : Type 0) → ExpressionsMakeAsMuch V W
expressions_make_as_much V W = record { values = values V W; effects = effects V W; arguments = arguments V W }
