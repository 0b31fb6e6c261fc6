-- The typed tree of an expression (C99 6.5), and its calls; no tree where a rule leaves it without one.
use Rattle.std.specs.Prelude.{ℕ, ◌+◌, pos, Bool, true, false, Option, Some, None, List, [], ◌++◌, length, if◌then◌else◌, option_map}
use Rattle.pk_ctypes.specs.declared.places.Pos.{Pos}
use Rattle.pk_ctypes.specs.declared.types.IntType.{IntType}
use Rattle.pk_ctypes.specs.declared.types.IntType.TheVariants.{Int}
use Rattle.pk_ctypes.specs.declared.types.Op.{Op}
use Rattle.pk_ctypes.specs.Conversions.{promoted, usual_of}
use Rattle.pk_ast.specs.declared.operators.BinaryOperator.{BinaryOperator}
use Rattle.pk_ast.specs.declared.operators.BinaryOperator.TheVariants.{LogicalOr}
use Rattle.pk_ast.specs.declared.operators.StepOperator.{StepOperator}
use Rattle.pk_ast.specs.Operators.{binary_number_operator, unary_number_operator, step_number_operator, assignment_number_operator}
use Rattle.pk_ast.specs.Trees as ast
use Rattle.pk_ast.specs.Trees.{ExpressionTree, ExpressionTrees, no_expressions, expression_then}
use Rattle.pk_typed.specs.declared.units.CallSite.{CallSite}
use Rattle.pk_typed.specs.Trees as tree
use Rattle.pk_typed.specs.Trees.{PlaceTree, ValueTree, EffectTree, ValueTrees, no_values, value_before}
use Rattle.pk_typed.specs.Types.{type_of_place}
use Rattle.pk_type_scope.specs.declared.declarations.Callee.{Callee}
use Rattle.pk_type_scope.specs.declared.declarations.Callee.TheVariants.{Ordinary, Any, Assume, Assert, Abort}
use Rattle.pk_type_scope.specs.declared.declarations.Declaration.{Declaration}
use Rattle.pk_type_scope.specs.declared.declarations.Declaration.TheVariants as declared
use Rattle.pk_type_scope.specs.declared.declarations.Object.{Object}
use Rattle.pk_type_scope.specs.declared.declarations.Typing.{Typing}
use Rattle.pk_type_scope.specs.declared.declarations.Typing.TheVariants.{Void, Integer, Unknown}
use Rattle.pk_type_scope.specs.Declarations.{Names, own_site}
use Rattle.pk_type_scope.specs.Specifiers.{type_named}
use Rattle.pk_type_expression.specs.Types.{type_of, operand_type, of_object}

-- an expression with a value, or without one
pub data EvaluatedTree : Type 0 where
  value : ValueTree → EvaluatedTree
  effect : EffectTree → EvaluatedTree

-- its value, if it has one
abbrev pub value_of : Option EvaluatedTree → Option ValueTree
value_of (Some (value v)) = Some v
value_of e = None

abbrev pub effect_in : EvaluatedTree → EffectTree
effect_in (value v) = tree.unused v
effect_in (effect e) = e

-- its evaluation, whose value isn't used
abbrev pub effect_of : Option EvaluatedTree → Option EffectTree
effect_of = option_map effect_in

abbrev pub valued : Option ValueTree → Option EvaluatedTree
valued = option_map value

-- a value with its type
pub record OperandTree : Type 0 where
  pub int_type : IntType
  pub tree : ValueTree

abbrev pub operand_of : Typing → Option EvaluatedTree → Option OperandTree
operand_of (Integer t) e = option_map (λ v. record { int_type = t; tree = v }) (value_of e)
operand_of t e = None

-- the place that is read, if the value is that
abbrev pub place_in : ValueTree → Option PlaceTree
place_in (tree.read p) = Some p
place_in _ = None

abbrev pub place_of : Option EvaluatedTree → Option PlaceTree
place_of (Some (value v)) = place_in v
place_of e = None

-- where both are there
abbrev pub of_both : {A B C : Type 0} → (A → B → C) → Option A → Option B → Option C
of_both f (Some x) (Some y) = Some (f x y)
of_both f x y = None

abbrev pub scalar_value : Object → Option ValueTree
scalar_value o = if o.is_array then None else option_map (λ t. tree.read (tree.scalar t o.variable)) o.int_type

-- an object is read; an enumerator is a constant (6.4.4.3)
abbrev pub name_value : Option Declaration → Option ValueTree
name_value (Some (declared.Object o)) = scalar_value o
name_value (Some (declared.Enumerator n)) = option_map (tree.constant Int) n
name_value d = None

abbrev pub element_value : Pos → Option ValueTree → Object → Option ValueTree
element_value at i o =
    if o.is_array then of_both (λ t v. tree.read (tree.element t o.variable at v)) o.int_type i else None

-- a call of the function of a number, which is the call of a number in its function
abbrev pub called : Typing → ℕ → ℕ → Pos → ValueTrees → Option EvaluatedTree
called Void f n at vs = Some (effect (tree.run f n at vs))
called (Integer t) f n at vs = Some (value (tree.call t f n at vs))
called Unknown f n at vs = None

abbrev pub if_none : {A : Type 0} → ValueTrees → A → Option A
if_none no_values x = Some x
if_none (value_before v vs) x = None

abbrev pub only : ValueTrees → Option ValueTree
only (value_before v no_values) = Some v
only vs = None

-- calls of special names are forms of their own
abbrev pub call_of : Callee → ℕ → ℕ → Pos → ValueTrees → Option EvaluatedTree
call_of (Ordinary returns count) f n at vs = called returns f n at vs
call_of (Any t) f n at vs = valued (if_none vs (tree.any t at))
call_of Assume f n at vs = option_map (λ v. effect (tree.assume at v)) (only vs)
call_of Assert f n at vs = option_map (λ v. effect (tree.assert at v)) (only vs)
call_of Abort f n at vs = option_map effect (if_none vs (tree.abort at))

abbrev pub typed_call : Option Declaration → ℕ → Pos → Option ValueTrees → Option EvaluatedTree
typed_call (Some (declared.Function f)) n at (Some vs) = call_of f.callee f.number n at vs
typed_call d n at vs = None

-- a step adds or subtracts 1 in the common type of its operand and int (6.5.2.4, 6.5.3.1)
abbrev pub step_value : StepOperator → Bool → Pos → PlaceTree → ValueTree
step_value op is_prefix at p = tree.step (step_number_operator op) at (usual_of (type_of_place p) Int) p is_prefix

-- `+` promotes its operand, the others work on the promoted one (6.5.3.3)
abbrev pub unary_value : Option Op → Pos → OperandTree → ValueTree
unary_value None at x = tree.convert (promoted x.int_type) x.tree
unary_value (Some op) at x = tree.unary op at (promoted x.int_type) x.tree

-- a cast to void is what it casts (6.5.4)
abbrev pub typed_cast : Typing → Option EvaluatedTree → Option EvaluatedTree
typed_cast Void e = option_map effect (effect_of e)
typed_cast (Integer t) e = valued (option_map (tree.convert t) (value_of e))
typed_cast Unknown e = None

abbrev pub is_or : BinaryOperator → Bool
is_or LogicalOr = true
is_or _ = false

abbrev pub logical_value : Bool → ValueTree → ValueTree → ValueTree
logical_value true v w = tree.or v w
logical_value false v w = tree.and v w

-- an operator on numbers, or else `||` or `&&`
abbrev pub binary_value : Option Op → Bool → Pos → OperandTree → OperandTree → ValueTree
binary_value None is_or at x y = logical_value is_or x.tree y.tree
binary_value (Some op) is_or at x y = tree.binary op at (operand_type op x.int_type y.int_type) x.tree y.tree

abbrev pub conditional_value : OperandTree → OperandTree → OperandTree → ValueTree
conditional_value c x y = tree.conditional (usual_of x.int_type y.int_type) c.tree x.tree y.tree

abbrev pub typed_conditional : Option OperandTree → Option OperandTree → Option OperandTree → Option ValueTree
typed_conditional None x y = None
typed_conditional (Some c) x y = of_both (conditional_value c) x y

-- `=`, or an operator on the left side's value and the right one's (6.5.16)
abbrev pub assignment_value : Option Op → Pos → PlaceTree → OperandTree → ValueTree
assignment_value None at p x = tree.assign at p x.tree
assignment_value (Some op) at p x = tree.update op at (operand_type op (type_of_place p) x.int_type) p x.tree

abbrev pub comma_after : EffectTree → EvaluatedTree → EvaluatedTree
comma_after e (value v) = value (tree.then_value e v)
comma_after e (effect f) = effect (tree.then_effect e f)

-- the calls of an expression, in the order of their names; those of special names aren't numbered
unfoldable mutual
  pub calls : Names → ExpressionTree → List CallSite
  calls d (ast.name x) = []
  calls d (ast.call x es) = own_site x.at (d x) ++ calls_in_all d es
  calls d (ast.index x at e) = calls d e
  calls d (ast.element x at e column_at c) = calls d e ++ calls d c
  calls d (ast.constant at t n) = []
  calls d (ast.character at n) = []
  calls d (ast.parenthesized at e) = calls d e
  calls d (ast.postfix op at e) = calls d e
  calls d (ast.prefix op at e) = calls d e
  calls d (ast.unary op at e) = calls d e
  calls d (ast.cast at words e) = calls d e
  calls d (ast.binary op at a b) = calls d a ++ calls d b
  calls d (ast.conditional at a b c) = calls d a ++ calls d b ++ calls d c
  calls d (ast.assignment op at a b) = calls d a ++ calls d b
  calls d (ast.comma at a b) = calls d a ++ calls d b

  pub calls_in_all : Names → ExpressionTrees → List CallSite
  calls_in_all d no_expressions = []
  calls_in_all d (expression_then e es) = calls d e ++ calls_in_all d es

-- how many calls there are after an expression, where n are before it
abbrev pub calls_after : Names → ℕ → ExpressionTree → ℕ
calls_after d n e = n + length (calls d e)

abbrev pub operand : Names → Option EvaluatedTree → ExpressionTree → Option OperandTree
operand d typed e = operand_of (type_of d e) typed

-- the typed tree of an expression before which n calls of its function stand
unfoldable mutual
  pub typed : Names → ℕ → ExpressionTree → Option EvaluatedTree
  typed d n (ast.name x) = valued (name_value (d x))
  typed d n (ast.call x es) = typed_call (d x) n x.at (typed_all d (n + length (own_site x.at (d x))) es)
  typed d n (ast.index x at e) = valued (of_object (element_value at (value_of (typed d n e))) (d x))
  typed d n (ast.element x at e column_at c) = None
  typed d n (ast.constant at t v) = Some (value (tree.constant t (pos v)))
  typed d n (ast.character at v) = Some (value (tree.constant Int v))
  typed d n (ast.parenthesized at e) = typed d n e
  typed d n (ast.postfix op at e) = valued (option_map (step_value op false at) (place_of (typed d n e)))
  typed d n (ast.prefix op at e) = valued (option_map (step_value op true at) (place_of (typed d n e)))
  typed d n (ast.unary op at e) =
      valued (option_map (unary_value (unary_number_operator op) at) (operand d (typed d n e) e))
  typed d n (ast.cast at words e) = typed_cast (type_named d words) (typed d n e)
  typed d n (ast.binary op at a b) =
      valued (of_both (binary_value (binary_number_operator op) (is_or op) at) (operand d (typed d n a) a)
      (operand d (typed d (calls_after d n a) b) b))
  typed d n (ast.conditional at a b c) =
      valued (typed_conditional (operand d (typed d n a) a) (operand d (typed d (calls_after d n a) b) b)
      (operand d (typed d (calls_after d (calls_after d n a) b) c) c))
  typed d n (ast.assignment op at a b) =
      valued (of_both (assignment_value (assignment_number_operator op) at) (place_of (typed d n a))
      (operand d (typed d (calls_after d n a) b) b))
  typed d n (ast.comma at a b) = of_both comma_after (effect_of (typed d n a)) (typed d (calls_after d n a) b)

  -- values of all of them
  pub typed_all : Names → ℕ → ExpressionTrees → Option ValueTrees
  typed_all d n no_expressions = Some no_values
  typed_all d n (expression_then e es) =
      of_both value_before (value_of (typed d n e)) (typed_all d (calls_after d n e) es)
