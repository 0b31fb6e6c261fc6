-- The operators of a typed expression count no more than those of the expression.
use Rattle.std.proofs.Common.{ℕ, ◌+◌, ◌≤◌, Bool, true, false, Option, Some, None, length, if◌then◌else◌, arith}
use Rattle.std.specs.Option.{option_map}
use Rattle.pk_ctypes.specs.declared.places.Pos.{Pos}
use Rattle.pk_ctypes.specs.declared.types.IntType.{IntType}
use Rattle.pk_ctypes.specs.declared.types.Op.{Op}
use Rattle.pk_ast.specs.declared.operators.StepOperator.{StepOperator}
use Rattle.pk_ast.specs.Operators.{binary_number_operator, unary_number_operator, assignment_number_operator}
use Rattle.pk_ast.specs.Trees as ast
use Rattle.pk_ast.specs.Trees.{ExpressionTree, ExpressionTrees, no_expressions, expression_then}
use Rattle.pk_typed.specs.declared.values.Variable.{Variable}
use Rattle.pk_typed.specs.Trees as tree
use Rattle.pk_typed.specs.Trees.{PlaceTree, ValueTree, EffectTree, ValueTrees, no_values, value_before}
use Rattle.pk_type_scope.specs.declared.declarations.Callee.{Callee}
use Rattle.pk_type_scope.specs.declared.declarations.Callee.TheVariants.{Ordinary, Any, Assume, Assert, Abort}
use Rattle.pk_type_scope.specs.declared.declarations.Declaration.{Declaration}
use Rattle.pk_type_scope.specs.declared.declarations.Declaration.TheVariants.{Object, Function, Enumerator, TypeName}
use Rattle.pk_type_scope.specs.declared.declarations.Typing.{Typing}
use Rattle.pk_type_scope.specs.declared.declarations.Typing.TheVariants.{Void, Integer, Unknown}
use Rattle.pk_type_scope.specs.Declarations.{Names, own_site}
use Rattle.pk_type_scope.specs.Specifiers.{type_named}
use Rattle.pk_type_expression.specs.Types.{type_of, of_object}
use Rattle.pk_type_expression.specs.Typed.{EvaluatedTree, value, effect, value_of, effect_of, valued, OperandTree, operand_of, place_of, of_both, scalar_value, name_value, element_value, typed_call, called, call_of, step_value, unary_value, typed_cast, is_or, logical_value, binary_value, typed_conditional, assignment_value, comma_after, typed, typed_all, calls_after, operand}
use Rattle.pk_access_laws.specs.Operators.{Counting, in_place, in_value, in_effect, in_values, if_some}
use Rattle.pk_operator_laws.specs.Trees.{in_expression, in_expressions}

abbrev in_evaluated : Counting → Option EvaluatedTree → ℕ
in_evaluated q None = 0
in_evaluated q (Some (value v)) = in_value q v
in_evaluated q (Some (effect e)) = in_effect q e

abbrev in_operand : Counting → Option OperandTree → ℕ
in_operand q = if_some (λ (y : OperandTree). in_value q y.tree)

valued_counts : (q : Counting) (v : Option ValueTree) → in_evaluated q (valued v) ≤ if_some (in_value q) v
valued_counts q None = omega arith
valued_counts q (Some v) = omega arith

value_counts : (q : Counting) (e : Option EvaluatedTree) → if_some (in_value q) (value_of e) ≤ in_evaluated q e
value_counts q None = omega arith
value_counts q (Some (value v)) = omega arith
value_counts q (Some (effect e)) = omega arith

effect_counts : (q : Counting) (e : Option EvaluatedTree) → if_some (in_effect q) (effect_of e) ≤ in_evaluated q e
unfolding in_effect
effect_counts q None = omega arith
effect_counts q (Some (value v)) = omega arith
effect_counts q (Some (effect e)) = omega arith

operand_counts : (q : Counting) (t : Typing) (e : Option EvaluatedTree) → in_operand q (operand_of t e) ≤ in_evaluated q e
operand_counts q Void e = omega arith
operand_counts q Unknown e = omega arith
operand_counts q (Integer t) None = omega arith
operand_counts q (Integer t) (Some (value v)) = omega arith
operand_counts q (Integer t) (Some (effect e)) = omega arith

place_counts : (q : Counting) (e : Option EvaluatedTree) → if_some (in_place q) (place_of e) ≤ in_evaluated q e
unfolding in_value
place_counts q None = omega arith
place_counts q (Some (effect e)) = omega arith
place_counts q (Some (value (tree.read p))) = omega arith
place_counts q (Some (value (tree.constant t z))) = omega arith
place_counts q (Some (value (tree.assign at p v))) = omega arith
place_counts q (Some (value (tree.update op at t p v))) = omega arith
place_counts q (Some (value (tree.step op at t p b))) = omega arith
place_counts q (Some (value (tree.call t f n at vs))) = omega arith
place_counts q (Some (value (tree.any t at))) = omega arith
place_counts q (Some (value (tree.unary op at t v))) = omega arith
place_counts q (Some (value (tree.convert t v))) = omega arith
place_counts q (Some (value (tree.binary op at t v w))) = omega arith
place_counts q (Some (value (tree.and v w))) = omega arith
place_counts q (Some (value (tree.or v w))) = omega arith
place_counts q (Some (value (tree.conditional t u v w))) = omega arith
place_counts q (Some (value (tree.then_value e v))) = omega arith

-- ---- forms

scalar_counts : (q : Counting) (b : Bool) (t : Option IntType) (x : Variable) → if_some (in_value q) (if b then None else option_map (λ u. tree.read (tree.scalar u x)) t) ≤ 0
unfolding in_value in_place
scalar_counts q true t x = omega arith
scalar_counts q false None x = omega arith
scalar_counts q false (Some t) x = omega arith

name_counts : (q : Counting) (d : Option Declaration) → in_evaluated q (valued (name_value d)) ≤ 0
unfolding in_value
name_counts q None = omega arith
name_counts q (Some (Object o)) = omega (arith, valued_counts q (scalar_value o), scalar_counts q o.is_array o.int_type o.variable)
name_counts q (Some (Function f)) = omega arith
name_counts q (Some (TypeName t)) = omega arith
name_counts q (Some (Enumerator None)) = omega arith
name_counts q (Some (Enumerator (Some n))) = omega arith

element_of : (q : Counting) (at : Pos) (i : Option ValueTree) (b : Bool) (t : Option IntType) (x : Variable) → if_some (in_value q) (if b then of_both (λ u v. tree.read (tree.element u x at v)) t i else None) ≤ q at + if_some (in_value q) i
unfolding in_value in_place
element_of q at i false t x = omega arith
element_of q at i true None x = omega arith
element_of q at None true (Some t) x = omega arith
element_of q at (Some v) true (Some t) x = omega arith

element_counts : (q : Counting) (at : Pos) (i : Option ValueTree) (d : Option Declaration) → in_evaluated q (valued (of_object (element_value at i) d)) ≤ q at + if_some (in_value q) i
element_counts q at i None = omega arith
element_counts q at i (Some (Object o)) = omega (arith, valued_counts q (element_value at i o), element_of q at i o.is_array o.int_type o.variable)
element_counts q at i (Some (Function f)) = omega arith
element_counts q at i (Some (Enumerator n)) = omega arith
element_counts q at i (Some (TypeName t)) = omega arith

called_counts : (q : Counting) (t : Typing) (f n : ℕ) (at : Pos) (vs : ValueTrees) → in_evaluated q (called t f n at vs) ≤ in_values q vs
unfolding in_value in_effect
called_counts q Void f n at vs = omega arith
called_counts q (Integer t) f n at vs = omega arith
called_counts q Unknown f n at vs = omega arith

call_counts : (q : Counting) (c : Callee) (f n : ℕ) (at : Pos) (vs : ValueTrees) → in_evaluated q (call_of c f n at vs) ≤ q at + in_values q vs
unfolding in_value in_effect in_values
call_counts q (Ordinary r m) f n at vs = omega (arith, called_counts q r f n at vs)
call_counts q (Any t) f n at no_values = omega arith
call_counts q (Any t) f n at (value_before v vs) = omega arith
call_counts q Assume f n at no_values = omega arith
call_counts q Assume f n at (value_before v no_values) = omega arith
call_counts q Assume f n at (value_before v (value_before w vs)) = omega arith
call_counts q Assert f n at no_values = omega arith
call_counts q Assert f n at (value_before v no_values) = omega arith
call_counts q Assert f n at (value_before v (value_before w vs)) = omega arith
call_counts q Abort f n at no_values = omega arith
call_counts q Abort f n at (value_before v vs) = omega arith

typed_call_counts : (q : Counting) (d : Option Declaration) (n : ℕ) (at : Pos) (vs : Option ValueTrees) → in_evaluated q (typed_call d n at vs) ≤ q at + if_some (in_values q) vs
typed_call_counts q None n at vs = omega arith
typed_call_counts q (Some (Object o)) n at vs = omega arith
typed_call_counts q (Some (Enumerator m)) n at vs = omega arith
typed_call_counts q (Some (TypeName t)) n at vs = omega arith
typed_call_counts q (Some (Function f)) n at None = omega arith
typed_call_counts q (Some (Function f)) n at (Some vs) = call_counts q f.callee f.number n at vs

step_counts : (q : Counting) (op : StepOperator) (b : Bool) (at : Pos) (x : Option PlaceTree) → in_evaluated q (valued (option_map (step_value op b at) x)) ≤ q at + if_some (in_place q) x
unfolding in_value
step_counts q op b at None = omega arith
step_counts q op b at (Some x) = omega arith

unary_counts : (q : Counting) (op : Option Op) (at : Pos) (x : Option OperandTree) → in_evaluated q (valued (option_map (unary_value op at) x)) ≤ q at + in_operand q x
unfolding in_value
unary_counts q op at None = omega arith
unary_counts q None at (Some x) = omega arith
unary_counts q (Some op) at (Some x) = omega arith

cast_counts : (q : Counting) (t : Typing) (e : Option EvaluatedTree) → in_evaluated q (typed_cast t e) ≤ in_evaluated q e
unfolding in_value in_effect
cast_counts q Void None = omega arith
cast_counts q Void (Some (value v)) = omega arith
cast_counts q Void (Some (effect e)) = omega arith
cast_counts q (Integer t) None = omega arith
cast_counts q (Integer t) (Some (value v)) = omega arith
cast_counts q (Integer t) (Some (effect e)) = omega arith
cast_counts q Unknown e = omega arith

logical_counts : (q : Counting) (b : Bool) (v w : ValueTree) → in_value q (logical_value b v w) ≤ in_value q v + in_value q w
unfolding in_value
logical_counts q true v w = omega arith
logical_counts q false v w = omega arith

binary_counts : (q : Counting) (op : Option Op) (b : Bool) (at : Pos) (x y : Option OperandTree) → in_evaluated q (valued (of_both (binary_value op b at) x y)) ≤ q at + in_operand q x + in_operand q y
unfolding in_value
binary_counts q op b at None y = omega arith
binary_counts q op b at (Some x) None = omega arith
binary_counts q None b at (Some x) (Some y) = omega (arith, logical_counts q b x.tree y.tree)
binary_counts q (Some op) b at (Some x) (Some y) = omega arith

conditional_counts : (q : Counting) (c x y : Option OperandTree) → in_evaluated q (valued (typed_conditional c x y)) ≤ in_operand q c + in_operand q x + in_operand q y
unfolding in_value
conditional_counts q None x y = omega arith
conditional_counts q (Some c) None y = omega arith
conditional_counts q (Some c) (Some x) None = omega arith
conditional_counts q (Some c) (Some x) (Some y) = omega arith

assignment_counts : (q : Counting) (op : Option Op) (at : Pos) (x : Option PlaceTree) (y : Option OperandTree) → in_evaluated q (valued (of_both (assignment_value op at) x y)) ≤ q at + if_some (in_place q) x + in_operand q y
unfolding in_value
assignment_counts q op at None y = omega arith
assignment_counts q op at (Some x) None = omega arith
assignment_counts q None at (Some x) (Some y) = omega arith
assignment_counts q (Some op) at (Some x) (Some y) = omega arith

comma_counts : (q : Counting) (x : Option EffectTree) (y : Option EvaluatedTree) → in_evaluated q (of_both comma_after x y) ≤ if_some (in_effect q) x + in_evaluated q y
unfolding in_value in_effect
comma_counts q None y = omega arith
comma_counts q (Some e) None = omega arith
comma_counts q (Some e) (Some (value v)) = omega arith
comma_counts q (Some e) (Some (effect f)) = omega arith

more_count : (q : Counting) (x : Option ValueTree) (y : Option ValueTrees) → if_some (in_values q) (of_both value_before x y) ≤ if_some (in_value q) x + if_some (in_values q) y
unfolding in_values
more_count q None y = omega arith
more_count q (Some v) None = omega arith
more_count q (Some v) (Some vs) = omega arith

-- ---- expressions

mutual
  unfolding typed typed_all in_expression in_expressions in_value in_values

  expressions : (q : Counting) (d : Names) (n : ℕ) (e : ExpressionTree) → in_evaluated q (typed d n e) ≤ in_expression q e
  expressions q d n (ast.name x) = name_counts q (d x)
  expressions q d n (ast.call x es) =
      let m = n + length (own_site x.at (d x)) in omega (arith, typed_call_counts q (d x) n x.at (typed_all d m es), lists q d m es)
  expressions q d n (ast.index x at e) = omega (arith, element_counts q at (value_of (typed d n e)) (d x), value_counts q (typed d n e), expressions q d n e)
  expressions q d n (ast.element x at e column_at c) = omega arith
  expressions q d n (ast.constant at t v) = omega arith
  expressions q d n (ast.character at v) = omega arith
  expressions q d n (ast.parenthesized at e) = expressions q d n e
  expressions q d n (ast.postfix op at e) = omega (arith, step_counts q op false at (place_of (typed d n e)), place_counts q (typed d n e), expressions q d n e)
  expressions q d n (ast.prefix op at e) = omega (arith, step_counts q op true at (place_of (typed d n e)), place_counts q (typed d n e), expressions q d n e)
  expressions q d n (ast.unary op at e) =
      omega (arith, unary_counts q (unary_number_operator op) at (operand d (typed d n e) e), operand_counts q (type_of d e) (typed d n e), expressions q d n e)
  expressions q d n (ast.cast at words e) = omega (arith, cast_counts q (type_named d words) (typed d n e), expressions q d n e)
  expressions q d n (ast.binary op at a b) =
      let m = calls_after d n a in
      omega (arith, binary_counts q (binary_number_operator op) (is_or op) at (operand d (typed d n a) a) (operand d (typed d m b) b), operand_counts q (type_of d a) (typed d n a), operand_counts q (type_of d b) (typed d m b), expressions q d n a, expressions q d m b)
  expressions q d n (ast.conditional at a b c) =
      let m = calls_after d n a in
      let l = calls_after d m b in
      omega (arith, conditional_counts q (operand d (typed d n a) a) (operand d (typed d m b) b) (operand d (typed d l c) c), operand_counts q (type_of d a) (typed d n a), operand_counts q (type_of d b) (typed d m b), operand_counts q (type_of d c) (typed d l c), expressions q d n a, expressions q d m b, expressions q d l c)
  expressions q d n (ast.assignment op at a b) =
      let m = calls_after d n a in
      omega (arith, assignment_counts q (assignment_number_operator op) at (place_of (typed d n a)) (operand d (typed d m b) b), place_counts q (typed d n a), operand_counts q (type_of d b) (typed d m b), expressions q d n a, expressions q d m b)
  expressions q d n (ast.comma at a b) =
      let m = calls_after d n a in
      omega (arith, comma_counts q (effect_of (typed d n a)) (typed d m b), effect_counts q (typed d n a), expressions q d n a, expressions q d m b)

  lists : (q : Counting) (d : Names) (n : ℕ) (es : ExpressionTrees) → if_some (in_values q) (typed_all d n es) ≤ in_expressions q es
  lists q d n no_expressions = omega arith
  lists q d n (expression_then e es) =
      let m = calls_after d n e in
      omega (arith, more_count q (value_of (typed d n e)) (typed_all d m es), value_counts q (typed d n e), expressions q d n e, lists q d m es)

pub values_are : (q : Counting) (d : Names) (n : ℕ) (e : ExpressionTree) → if_some (in_value q) (value_of (typed d n e)) ≤ in_expression q e
values_are q d n e = omega (arith, value_counts q (typed d n e), expressions q d n e)

pub effects_are : (q : Counting) (d : Names) (n : ℕ) (e : ExpressionTree) → if_some (in_effect q) (effect_of (typed d n e)) ≤ in_expression q e
effects_are q d n e = omega (arith, effect_counts q (typed d n e), expressions q d n e)

pub lists_are : (q : Counting) (d : Names) (n : ℕ) (es : ExpressionTrees) → if_some (in_values q) (typed_all d n es) ≤ in_expressions q es
lists_are q d n es = lists q d n es
