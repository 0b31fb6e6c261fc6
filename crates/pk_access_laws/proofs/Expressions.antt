-- Expressions add no more than their operators count that are kept.
use Rattle.std.specs.Prelude.{ℕ, ◌+◌, Bool, true, false}
use Rattle.std.proofs.Common.{refl, arith}
use Rattle.pk_ctypes.specs.declared.places.Pos.{Pos}
use Rattle.pk_ctypes.specs.declared.types.IntType.{IntType}
use Rattle.pk_ctypes.specs.declared.types.Op.{Op}
use Rattle.pk_typed.specs.Trees.{PlaceTree, ValueTree, EffectTree, ValueTrees}
use Rattle.pk_typed.specs.Trees as tree
use Rattle.pk_typed.specs.Types.{type_of}
use Rattle.pk_graph.specs.Trees.{constant}
use Rattle.pk_draft.specs.Drafts.{DraftOf}
use Rattle.pk_lower_row.specs.declared.shapes.Shape.TheVariants.{Fixed, Named}
use Rattle.pk_lower_row.specs.Shapes.{any_makes, shape_of, shape_of_place}
use Rattle.pk_lower_row.specs.Contexts.{Context, site}
use Rattle.pk_lower_row.specs.Rows.{operand, and_choice, or_choice, called, types_of, zero_ways, read_ways, assign_ways, update_ways, step_ways}
use Rattle.pk_lower_expression.specs.Expressions.{target, ways, performed, passed}
use Rattle.pk_access_laws.specs.Operators.{Counting}
use Rattle.pk_access_laws.specs.Kept.{counts_in_place, counts_in_value, counts_in_effect, counts_in_values, kept_in_place, kept_in_value, kept_in_effect, kept_in_values}
use Rattle.pk_access_laws.proofs.Spent.{Asked, then_adds}
use Rattle.pk_access_laws.proofs.Rows.{Keeps, WaysTold, Targets, by_value, read_told, assign_told, update_told, after_told, before_told, zero_told}
use Rattle.pk_access_laws.proofs.Operators.{Passes, any_told, convert_told, unary_told, binary_told, and_told, or_told, truth_told, conditional_told, then_told, passed_before, called_told, assumed_told, as_int_told, check_told}

-- what an operator counts in a context
abbrev pub counting : Asked → Context → Counting
counting w c at = w.count (site c at)

read_by : (V : Type 0) (w : Asked) (c : Context) (m : ℕ) (p : PlaceTree) → Targets {V = V} w m (target c p) → WaysTold {V = V} w m (shape_of_place p) (read_ways (target c p))
unfolding target
read_by V w c m (tree.scalar t x) h = read_told w m (target c (tree.scalar t x)) h
read_by V w c m (tree.element t x at i) h = read_told w m (target c (tree.element t x at i)) h

assign_by : (V : Type 0) (w : Asked) (c : Context) (m k : ℕ) (p : PlaceTree) (e : ValueTree) → Targets {V = V} w m (target c p) → WaysTold {V = V} w k (shape_of e) (ways c e) → WaysTold {V = V} w (m + k) (shape_of_place p) (assign_ways (target c p) (operand e (ways c e)))
unfolding target
assign_by V w c m k (tree.scalar t x) e h g = assign_told w m k (target c (tree.scalar t x)) (operand e (ways c e)) h g
assign_by V w c m k (tree.element t x at i) e h g = assign_told w m k (target c (tree.element t x at i)) (operand e (ways c e)) h g

update_by : (V : Type 0) (w : Asked) (c : Context) (m k : ℕ) (op : Op) (at : Pos) (o : IntType) (p : PlaceTree) (e : ValueTree) → Targets {V = V} w m (target c p) → WaysTold {V = V} w k (shape_of e) (ways c e)
    → WaysTold {V = V} w (counting w c at + (m + k)) (shape_of_place p) (update_ways op (site c at) o (target c p) (operand e (ways c e)))
unfolding target
update_by V w c m k op at o (tree.scalar t x) e h g = update_told w m k op (site c at) o (target c (tree.scalar t x)) (operand e (ways c e)) h g
update_by V w c m k op at o (tree.element t x b i) e h g = update_told w m k op (site c at) o (target c (tree.element t x b i)) (operand e (ways c e)) h g

step_by : (V : Type 0) (w : Asked) (c : Context) (m : ℕ) (op : Op) (at : Pos) (o t : IntType) (p : PlaceTree) (prefix : Bool) → Targets {V = V} w m (target c p)
    → WaysTold {V = V} w (counting w c at + m) (shape_of (tree.step op at t p prefix)) (step_ways op (site c at) o (target c p) prefix)
unfolding target
step_by V w c m op at o t p false h = after_told w m op (site c at) o (target c p) h
step_by V w c m op at o t (tree.scalar u x) true h = before_told w m op (site c at) o (target c (tree.scalar u x)) h
step_by V w c m op at o t (tree.element u x b i) true h = before_told w m op (site c at) o (target c (tree.element u x b i)) h

mutual
  unfolding target ways performed passed counts_in_place counts_in_value counts_in_effect counts_in_values

  target_told : (V : Type 0) (w : Asked) (c : Context) (p : PlaceTree) → Targets {V = V} w (kept_in_place (counting w c) p) (target c p)
  target_told V w c (tree.scalar t x) = tt
  target_told V w c (tree.element t x at i) = record { cost = kept_in_value (counting w c) i; ways = values V w c i; fits = omega arith }

  pub values : (V : Type 0) (w : Asked) (c : Context) (e : ValueTree) → WaysTold {V = V} w (kept_in_value (counting w c) e) (shape_of e) (ways c e)
  values V w c (tree.constant t z) = by_value w 0 (Fixed z) t (λ (d : DraftOf V). (constant t z, d)) (λ d. record { spent = omega arith; shaped = refl })
  values V w c (tree.read p) = read_by V w c (kept_in_place (counting w c) p) p (target_told V w c p)
  values V w c (tree.assign at p e) = assign_by V w c (kept_in_place (counting w c) p) (kept_in_value (counting w c) e) p e (target_told V w c p) (values V w c e)
  values V w c (tree.update op at o p e) = update_by V w c (kept_in_place (counting w c) p) (kept_in_value (counting w c) e) op at o p e (target_told V w c p) (values V w c e)
  values V w c (tree.step op at o p prefix) = step_by V w c (kept_in_place (counting w c) p) op at o o p prefix (target_told V w c p)
  values V w c (tree.call t f n at es) =
      by_value w (kept_in_values (counting w c) es) Named t (called c f n (types_of es) (passed c es)) (called_told w (kept_in_values (counting w c) es) c f n (types_of es) (passed c es) (arguments V w c es))
  values V w c (tree.any t at) = any_told V w t
  values V w c (tree.unary op at t e) = unary_told w (kept_in_value (counting w c) e) op (site c at) t (operand e (ways c e)) (values V w c e)
  values V w c (tree.convert t e) = convert_told w (kept_in_value (counting w c) e) t (operand e (ways c e)) (values V w c e)
  values V w c (tree.binary op at t a b) =
      binary_told w (kept_in_value (counting w c) a) (kept_in_value (counting w c) b) op (site c at) t (operand a (ways c a)) (operand b (ways c b)) (values V w c a) (values V w c b)
  values V w c (tree.and a b) =
      truth_told w (kept_in_value (counting w c) a + kept_in_value (counting w c) b) (and_choice (ways c a) (ways c b))
      (and_told w (kept_in_value (counting w c) a) (kept_in_value (counting w c) b) (ways c a) (ways c b) (values V w c a).choice (values V w c b).choice)
  values V w c (tree.or a b) =
      truth_told w (kept_in_value (counting w c) a + kept_in_value (counting w c) b) (or_choice (ways c a) (ways c b))
      (or_told w (kept_in_value (counting w c) a) (kept_in_value (counting w c) b) (ways c a) (ways c b) (values V w c a).choice (values V w c b).choice)
  values V w c (tree.conditional t e a b) =
      conditional_told w (kept_in_value (counting w c) e) (kept_in_value (counting w c) a) (kept_in_value (counting w c) b) (shape_of e) t (ways c e) (operand a (ways c a)) (operand b (ways c b)) (values V w c e) (values V w c a) (values V w c b)
  values V w c (tree.then_value e v) =
      then_told w (kept_in_effect (counting w c) e) (kept_in_value (counting w c) v) (shape_of v) (performed c e) (ways c v) (effects V w c e) (values V w c v)

  pub effects : (V : Type 0) (w : Asked) (c : Context) (e : EffectTree) → Keeps {V = V} w (kept_in_effect (counting w c) e) (performed c e)
  effects V w c (tree.unused v) = λ d. (values V w c v).unused d
  effects V w c (tree.run f n at es) =
      λ d. let h = called_told w (kept_in_values (counting w c) es) c f n (types_of es) (passed c es) (arguments V w c es) d in record { most = omega (arith, h.spent) }
  effects V w c (tree.assume at v) = λ d. as_int_told w (kept_in_value (counting w c) v) (operand v (ways c v)) (values V w c v) d
  effects V w c (tree.assert at v) =
      λ d. check_told w _ (kept_in_value (counting w c) v) (shape_of v) (site c at) (type_of v) ((ways c v).value d) ((values V w c v).value d)
  effects V w c (tree.abort at) = λ d. assumed_told w 0 _ zero_ways (zero_told V w) d
  effects V w c (tree.then_effect a b) = λ d. then_adds (effects V w c a d) (effects V w c b (performed c a d))

  pub arguments : (V : Type 0) (w : Asked) (c : Context) (es : ValueTrees) → Passes {V = V} w (kept_in_values (counting w c) es) (passed c es)
  arguments V w c tree.no_values = λ d. record { most = omega arith }
  arguments V w c (tree.value_before e es) =
      λ d. passed_before w (kept_in_value (counting w c) e) (kept_in_values (counting w c) es) (any_makes es) (operand e (ways c e)) (passed c es) (values V w c e) (arguments V w c es) d
