-- Expressions keep what holds of places and names.
use Rattle.std.specs.Prelude.{◌<◌, IfSome, All}
use Rattle.pk_typed.specs.Trees.{PlaceTree, ValueTree, EffectTree, ValueTrees, LocalTree}
use Rattle.pk_typed.specs.Trees as tree
use Rattle.pk_typed.specs.Types.{type_of}
use Rattle.pk_graph.specs.Trees.{constant}
use Rattle.pk_draft.specs.Drafts.{DraftOf}
use Rattle.pk_lower_row.specs.declared.shapes.Shape.TheVariants.{Fixed, Named}
use Rattle.pk_lower_row.specs.Shapes.{any_makes}
use Rattle.pk_lower_row.specs.Contexts.{Context, site}
use Rattle.pk_lower_row.specs.Rows.{operand, and_choice, or_choice, called, types_of, as_int, zero_ways}
use Rattle.pk_lower_expression.specs.Expressions.{target, ways, performed, passed}
use Rattle.pk_places_laws.specs.Places.{InPlace, InValue, InEffect, InValues}
use Rattle.pk_places_laws.proofs.Told.{Asked, Keeps}
use Rattle.pk_places_laws.proofs.Rows.{WaysTold, IsTarget, Passes, by_value, read_told, assign_told, update_told, step_told, any_told, convert_told, unary_ways_told, binary_ways_told, and_told, or_told, truth_told, conditional_told, then_told, passed_before, called_told, assumed_told, as_int_told, check_told, zero_told}

-- the path is one of so many, and the names of its function's objects are such
pub record Stands (w : Asked) (c : Context) : Type 0 where
  pub path : c.path < w.paths
  pub locals : All (λ (x : LocalTree). IfSome x.name w.N) c.locals

mutual
  unfolding target ways performed passed InPlace InValue InEffect InValues

  target_told : (V : Type 0) (w : Asked) (c : Context) (p : PlaceTree) → Stands w c → InPlace w.P p → IsTarget {V = V} w (target c p)
  target_told V w c (tree.scalar t x) s h = tt
  target_told V w c (tree.element t x at i) s h = ((h.0, s.path), values V w c i s h.1)

  pub values : (V : Type 0) (w : Asked) (c : Context) (e : ValueTree) → Stands w c → InValue w.P e → WaysTold {V = V} w (ways c e)
  values V w c (tree.constant t z) s h = by_value w (Fixed z) t (λ (d : DraftOf V). (constant t z, d)) (λ d k. (tt, k))
  values V w c (tree.read p) s h = read_told w (target c p) (target_told V w c p s h)
  values V w c (tree.assign at p e) s h = assign_told w (target c p) (operand e (ways c e)) (target_told V w c p s h.1) (values V w c e s h.2)
  values V w c (tree.update op at o p e) s h =
      update_told w op (site c at) o (target c p) (operand e (ways c e)) (h.0, s.path) (target_told V w c p s h.1) (values V w c e s h.2)
  values V w c (tree.step op at o p prefix) s h = step_told w op (site c at) o (target c p) prefix (h.0, s.path) (target_told V w c p s h.1)
  values V w c (tree.call t f n at es) s h =
      by_value w Named t (called c f n (types_of es) (passed c es)) (called_told w c f n (types_of es) (passed c es) (arguments V w c es s h.1))
  values V w c (tree.any t at) s h = any_told V w t
  values V w c (tree.unary op at t e) s h = unary_ways_told w op (site c at) t (operand e (ways c e)) (h.0, s.path) (values V w c e s h.1)
  values V w c (tree.convert t e) s h = convert_told w t (operand e (ways c e)) (values V w c e s h)
  values V w c (tree.binary op at t a b) s h =
      binary_ways_told w op (site c at) t (operand a (ways c a)) (operand b (ways c b)) (h.0, s.path) (values V w c a s h.1) (values V w c b s h.2)
  values V w c (tree.and a b) s h =
      truth_told w (and_choice (ways c a) (ways c b)) (and_told w (ways c a) (ways c b) (values V w c a s h.0) (values V w c b s h.1))
  values V w c (tree.or a b) s h =
      truth_told w (or_choice (ways c a) (ways c b)) (or_told w (ways c a) (ways c b) (values V w c a s h.0) (values V w c b s h.1))
  values V w c (tree.conditional t e a b) s h =
      conditional_told w t (ways c e) (operand a (ways c a)) (operand b (ways c b)) (values V w c e s h.0) (values V w c a s h.1) (values V w c b s h.2)
  values V w c (tree.then_value e v) s h = then_told w (performed c e) (ways c v) (effects V w c e s h.0) (values V w c v s h.1)

  pub effects : (V : Type 0) (w : Asked) (c : Context) (e : EffectTree) → Stands w c → InEffect w.P e → Keeps {V = V} w (performed c e)
  effects V w c (tree.unused v) s h = λ d z. (values V w c v s h).unused d z
  effects V w c (tree.run f n at es) s h =
      λ d z. (called_told w c f n (types_of es) (passed c es) (arguments V w c es s h.1) d z).1
  effects V w c (tree.assume at v) s h =
      λ d z. assumed_told w (as_int (operand v (ways c v))) (as_int_told w (operand v (ways c v)) (values V w c v s h.1)) d z
  effects V w c (tree.assert at v) s h =
      λ d z. check_told w (site c at) (type_of v) ((ways c v).value d) (h.0, s.path) ((values V w c v s h.1).value d z)
  effects V w c (tree.abort at) s h = λ d z. assumed_told w zero_ways (zero_told V w) d z
  effects V w c (tree.then_effect a b) s h = λ d z. effects V w c b s h.1 (performed c a d) (effects V w c a s h.0 d z)

  pub arguments : (V : Type 0) (w : Asked) (c : Context) (es : ValueTrees) → Stands w c → InValues w.P es → Passes {V = V} w (passed c es)
  arguments V w c tree.no_values s h = λ d z. (tt, z)
  arguments V w c (tree.value_before e es) s h =
      λ d z. passed_before w (any_makes es) (operand e (ways c e)) (passed c es) (values V w c e s h.0) (arguments V w c es s h.1) d z
