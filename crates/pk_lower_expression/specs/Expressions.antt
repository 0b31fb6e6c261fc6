-- The lowering of expressions: each form by its row, on how its parts are lowered.
use Rattle.std.specs.Prelude.{[]}
use Rattle.pk_typed.specs.Trees.{PlaceTree, ValueTree, EffectTree, ValueTrees}
use Rattle.pk_typed.specs.Trees as tree
use Rattle.pk_typed.specs.Types.{type_of}
use Rattle.pk_draft.specs.Drafts.{DraftOf}
use Rattle.pk_lower_row.specs.declared.shapes.Shape.TheVariants.{Fixed, Temporary, Named}
use Rattle.pk_lower_row.specs.Shapes.{any_makes}
use Rattle.pk_lower_row.specs.Contexts.{Context, site, variable_of, array_of}
use Rattle.pk_lower_row.specs.Rows.{Ways, Target, scalar, element, Passed, operand, by_value, read_ways, assign_ways, update_ways, step_ways, any_value, unary_ways, convert_ways, binary_ways, and_choice, or_choice, truth_ways, conditional_ways, then_ways, types_of, passed_before, called, assumed, as_int, zero_ways, check_after}
use Rattle.pk_graph.specs.Trees.{constant}

unfoldable mutual
  pub target : {V : Type 0} → Context → PlaceTree → Target V
  target c (tree.scalar t x) = scalar t (variable_of c x)
  target c (tree.element t x at i) = element t (site c at) (array_of c x) (operand i (ways c i))

  pub ways : {V : Type 0} → Context → ValueTree → Ways V
  ways c (tree.constant t z) = by_value (Fixed z) t (λ d. (constant t z, d))
  ways c (tree.read p) = read_ways (target c p)
  ways c (tree.assign at p e) = assign_ways (target c p) (operand e (ways c e))
  ways c (tree.update op at o p e) = update_ways op (site c at) o (target c p) (operand e (ways c e))
  ways c (tree.step op at o p prefix) = step_ways op (site c at) o (target c p) prefix
  ways c (tree.call t f n at es) = by_value Named t (called c f n (types_of es) (passed c es))
  ways c (tree.any t at) = by_value Temporary t (any_value t)
  ways c (tree.unary op at t e) = unary_ways op (site c at) t (operand e (ways c e))
  ways c (tree.convert t e) = convert_ways t (operand e (ways c e))
  ways c (tree.binary op at t a b) = binary_ways op (site c at) t (operand a (ways c a)) (operand b (ways c b))
  ways c (tree.and a b) = truth_ways (and_choice (ways c a) (ways c b))
  ways c (tree.or a b) = truth_ways (or_choice (ways c a) (ways c b))
  ways c (tree.conditional t e a b) = conditional_ways t (ways c e) (operand a (ways c a)) (operand b (ways c b))
  ways c (tree.then_value e v) = then_ways (performed c e) (ways c v)

  -- for its effect alone
  pub performed : {V : Type 0} → Context → EffectTree → DraftOf V → DraftOf V
  performed c (tree.unused v) d = (ways c v).unused d
  performed c (tree.run f n at es) d = (called c f n (types_of es) (passed c es) d).1
  performed c (tree.assume at v) d = assumed (as_int (operand v (ways c v))) d
  performed c (tree.assert at v) d = check_after (site c at) (type_of v) ((ways c v).value d)
  performed c (tree.abort at) d = assumed zero_ways d
  performed c (tree.then_effect a b) d = performed c b (performed c a d)

  -- arguments in order
  pub passed : {V : Type 0} → Context → ValueTrees → DraftOf V → Passed V
  passed c tree.no_values d = record { trees = []; draft = d }
  passed c (tree.value_before e es) d = passed_before (any_makes es) (operand e (ways c e)) (passed c es) d
