-- The places of a typed expression and of its calls are those of the expression.
use Rattle.std.proofs.Common.{ℕ, ◌+◌, Bool, true, false, List, [], ◌++◌, Option, Some, None, length, if◌then◌else◌}
use Rattle.std.specs.Prelude.{All, IfSome}
use Rattle.std.specs.Option.{option_map}
use Rattle.std.proofs.lemmas.List.Elements.{All-nil, All-cons, All-append}
use Rattle.pk_ctypes.specs.declared.places.Pos.{Pos}
use Rattle.pk_ctypes.specs.declared.types.IntType.{IntType}
use Rattle.pk_ctypes.specs.declared.types.Op.{Op}
use Rattle.pk_ast.specs.declared.operators.StepOperator.{StepOperator}
use Rattle.pk_ast.specs.Operators.{binary_number_operator, unary_number_operator, assignment_number_operator}
use Rattle.pk_ast.specs.Places.{first_place_of}
use Rattle.pk_ast.specs.Trees as ast
use Rattle.pk_ast.specs.Trees.{ExpressionTree, ExpressionTrees, no_expressions, expression_then}
use Rattle.pk_typed.specs.declared.units.CallSite.{CallSite}
use Rattle.pk_typed.specs.declared.values.Variable.{Variable}
use Rattle.pk_typed.specs.Trees as tree
use Rattle.pk_typed.specs.Trees.{PlaceTree, ValueTree, EffectTree, ValueTrees, no_values, value_before}
use Rattle.pk_type_scope.specs.declared.declarations.Callee.{Callee}
use Rattle.pk_type_scope.specs.declared.declarations.Callee.TheVariants.{Ordinary, Any, Assume, Assert, Abort}
use Rattle.pk_type_scope.specs.declared.declarations.Declaration.{Declaration}
use Rattle.pk_type_scope.specs.declared.declarations.Declaration.TheVariants.{Object, Function, Enumerator, TypeName}
use Rattle.pk_type_scope.specs.declared.declarations.Typing.{Typing}
use Rattle.pk_type_scope.specs.declared.declarations.Typing.TheVariants.{Void, Integer, Unknown}
use Rattle.pk_type_scope.specs.Declarations.{Names, site_of, own_site}
use Rattle.pk_type_scope.specs.Specifiers.{type_named}
use Rattle.pk_type_expression.specs.Types.{of_object}
use Rattle.pk_type_expression.specs.Typed.{EvaluatedTree, value, effect, value_of, effect_of, valued, OperandTree, operand_of, place_of, of_both, scalar_value, name_value, element_value, typed_call, called, call_of, step_value, unary_value, typed_cast, is_or, logical_value, binary_value, typed_conditional, assignment_value, comma_after, typed, typed_all, calls, calls_in_all, calls_after, operand}
use Rattle.pk_places_laws.specs.Places.{OfPlaces, InPlace, InValue, InEffect, InValues}
use Rattle.pk_unit_laws.specs.Trees.{InExpression, InExpressions}

abbrev InEvaluated : OfPlaces → Option EvaluatedTree → Type 0
InEvaluated P None = Unit {0}
InEvaluated P (Some (value v)) = InValue P v
InEvaluated P (Some (effect e)) = InEffect P e

abbrev InOperand : OfPlaces → Option OperandTree → Type 0
InOperand P x = IfSome x (λ (y : OperandTree). InValue P y.tree)

valued_in : (P : OfPlaces) (v : Option ValueTree) → IfSome v (InValue P) → InEvaluated P (valued v)
valued_in P None h = tt
valued_in P (Some v) h = h

value_in : (P : OfPlaces) (e : Option EvaluatedTree) → InEvaluated P e → IfSome (value_of e) (InValue P)
value_in P None h = tt
value_in P (Some (value v)) h = h
value_in P (Some (effect e)) h = tt

effect_in : (P : OfPlaces) (e : Option EvaluatedTree) → InEvaluated P e → IfSome (effect_of e) (InEffect P)
unfolding InEffect
effect_in P None h = tt
effect_in P (Some (value v)) h = h
effect_in P (Some (effect e)) h = h

operand_in : (P : OfPlaces) (t : Typing) (e : Option EvaluatedTree) → InEvaluated P e → InOperand P (operand_of t e)
operand_in P Void e h = tt
operand_in P Unknown e h = tt
operand_in P (Integer t) None h = tt
operand_in P (Integer t) (Some (value v)) h = h
operand_in P (Integer t) (Some (effect e)) h = tt

place_in : (P : OfPlaces) (e : Option EvaluatedTree) → InEvaluated P e → IfSome (place_of e) (InPlace P)
unfolding InValue
place_in P None h = tt
place_in P (Some (effect e)) h = tt
place_in P (Some (value (tree.read p))) h = h
place_in P (Some (value (tree.constant t z))) h = tt
place_in P (Some (value (tree.assign at p v))) h = tt
place_in P (Some (value (tree.update op at t p v))) h = tt
place_in P (Some (value (tree.step op at t p b))) h = tt
place_in P (Some (value (tree.call t f n at vs))) h = tt
place_in P (Some (value (tree.any t at))) h = tt
place_in P (Some (value (tree.unary op at t v))) h = tt
place_in P (Some (value (tree.convert t v))) h = tt
place_in P (Some (value (tree.binary op at t v w))) h = tt
place_in P (Some (value (tree.and v w))) h = tt
place_in P (Some (value (tree.or v w))) h = tt
place_in P (Some (value (tree.conditional t u v w))) h = tt
place_in P (Some (value (tree.then_value e v))) h = tt

-- ---- forms

scalar_in : (P : OfPlaces) (b : Bool) (t : Option IntType) (x : Variable) → IfSome (if b then None else option_map (λ u. tree.read (tree.scalar u x)) t) (InValue P)
unfolding InValue InPlace
scalar_in P true t x = tt
scalar_in P false None x = tt
scalar_in P false (Some t) x = tt

name_in : (P : OfPlaces) (d : Option Declaration) → InEvaluated P (valued (name_value d))
unfolding InValue
name_in P None = tt
name_in P (Some (Object o)) = valued_in P (scalar_value o) (scalar_in P o.is_array o.int_type o.variable)
name_in P (Some (Function f)) = tt
name_in P (Some (TypeName t)) = tt
name_in P (Some (Enumerator None)) = tt
name_in P (Some (Enumerator (Some n))) = tt

element_of : (P : OfPlaces) (at : Pos) (i : Option ValueTree) (b : Bool) (t : Option IntType) (x : Variable) → P at → IfSome i (InValue P) → IfSome (if b then of_both (λ u v. tree.read (tree.element u x at v)) t i else None) (InValue P)
unfolding InValue InPlace
element_of P at i false t x p h = tt
element_of P at i true None x p h = tt
element_of P at None true (Some t) x p h = tt
element_of P at (Some v) true (Some t) x p h = (p, h)

element_in : (P : OfPlaces) (at : Pos) (i : Option ValueTree) (d : Option Declaration) → P at → IfSome i (InValue P) → InEvaluated P (valued (of_object (element_value at i) d))
element_in P at i None p h = tt
element_in P at i (Some (Object o)) p h = valued_in P (element_value at i o) (element_of P at i o.is_array o.int_type o.variable p h)
element_in P at i (Some (Function f)) p h = tt
element_in P at i (Some (Enumerator n)) p h = tt
element_in P at i (Some (TypeName t)) p h = tt

called_in : (P : OfPlaces) (t : Typing) (f n : ℕ) (at : Pos) (vs : ValueTrees) → P at → InValues P vs → InEvaluated P (called t f n at vs)
unfolding InValue InEffect
called_in P Void f n at vs p h = (p, h)
called_in P (Integer t) f n at vs p h = (p, h)
called_in P Unknown f n at vs p h = tt

call_in : (P : OfPlaces) (c : Callee) (f n : ℕ) (at : Pos) (vs : ValueTrees) → P at → InValues P vs → InEvaluated P (call_of c f n at vs)
unfolding InValue InEffect InValues
call_in P (Ordinary r m) f n at vs p h = called_in P r f n at vs p h
call_in P (Any t) f n at no_values p h = p
call_in P (Any t) f n at (value_before v vs) p h = tt
call_in P Assume f n at no_values p h = tt
call_in P Assume f n at (value_before v no_values) p h = (p, h.0)
call_in P Assume f n at (value_before v (value_before w vs)) p h = tt
call_in P Assert f n at no_values p h = tt
call_in P Assert f n at (value_before v no_values) p h = (p, h.0)
call_in P Assert f n at (value_before v (value_before w vs)) p h = tt
call_in P Abort f n at no_values p h = p
call_in P Abort f n at (value_before v vs) p h = tt

typed_call_in : (P : OfPlaces) (d : Option Declaration) (n : ℕ) (at : Pos) (vs : Option ValueTrees) → P at → IfSome vs (InValues P) → InEvaluated P (typed_call d n at vs)
typed_call_in P None n at vs p h = tt
typed_call_in P (Some (Object o)) n at vs p h = tt
typed_call_in P (Some (Enumerator m)) n at vs p h = tt
typed_call_in P (Some (TypeName t)) n at vs p h = tt
typed_call_in P (Some (Function f)) n at None p h = tt
typed_call_in P (Some (Function f)) n at (Some vs) p h = call_in P f.callee f.number n at vs p h

step_in : (P : OfPlaces) (op : StepOperator) (b : Bool) (at : Pos) (x : Option PlaceTree) → P at → IfSome x (InPlace P) → InEvaluated P (valued (option_map (step_value op b at) x))
unfolding InValue
step_in P op b at None p h = tt
step_in P op b at (Some x) p h = (p, h)

unary_in : (P : OfPlaces) (op : Option Op) (at : Pos) (x : Option OperandTree) → P at → InOperand P x → InEvaluated P (valued (option_map (unary_value op at) x))
unfolding InValue
unary_in P op at None p h = tt
unary_in P None at (Some x) p h = h
unary_in P (Some op) at (Some x) p h = (p, h)

cast_in : (P : OfPlaces) (t : Typing) (e : Option EvaluatedTree) → InEvaluated P e → InEvaluated P (typed_cast t e)
unfolding InValue InEffect
cast_in P Void None h = tt
cast_in P Void (Some (value v)) h = h
cast_in P Void (Some (effect e)) h = h
cast_in P (Integer t) None h = tt
cast_in P (Integer t) (Some (value v)) h = h
cast_in P (Integer t) (Some (effect e)) h = tt
cast_in P Unknown e h = tt

logical_in : (P : OfPlaces) (b : Bool) (v w : ValueTree) → InValue P v → InValue P w → InValue P (logical_value b v w)
unfolding InValue
logical_in P true v w h k = (h, k)
logical_in P false v w h k = (h, k)

binary_in : (P : OfPlaces) (op : Option Op) (b : Bool) (at : Pos) (x y : Option OperandTree) → P at → InOperand P x → InOperand P y → InEvaluated P (valued (of_both (binary_value op b at) x y))
unfolding InValue
binary_in P op b at None y p h k = tt
binary_in P op b at (Some x) None p h k = tt
binary_in P None b at (Some x) (Some y) p h k = logical_in P b x.tree y.tree h k
binary_in P (Some op) b at (Some x) (Some y) p h k = (p, h, k)

conditional_in : (P : OfPlaces) (c x y : Option OperandTree) → InOperand P c → InOperand P x → InOperand P y → InEvaluated P (valued (typed_conditional c x y))
unfolding InValue
conditional_in P None x y g h k = tt
conditional_in P (Some c) None y g h k = tt
conditional_in P (Some c) (Some x) None g h k = tt
conditional_in P (Some c) (Some x) (Some y) g h k = (g, h, k)

assignment_in : (P : OfPlaces) (op : Option Op) (at : Pos) (x : Option PlaceTree) (y : Option OperandTree) → P at → IfSome x (InPlace P) → InOperand P y → InEvaluated P (valued (of_both (assignment_value op at) x y))
unfolding InValue
assignment_in P op at None y p h k = tt
assignment_in P op at (Some x) None p h k = tt
assignment_in P None at (Some x) (Some y) p h k = (p, h, k)
assignment_in P (Some op) at (Some x) (Some y) p h k = (p, h, k)

comma_in : (P : OfPlaces) (x : Option EffectTree) (y : Option EvaluatedTree) → IfSome x (InEffect P) → InEvaluated P y → InEvaluated P (of_both comma_after x y)
unfolding InValue InEffect
comma_in P None y h k = tt
comma_in P (Some e) None h k = tt
comma_in P (Some e) (Some (value v)) h k = (h, k)
comma_in P (Some e) (Some (effect f)) h k = (h, k)

more_in : (P : OfPlaces) (x : Option ValueTree) (y : Option ValueTrees) → IfSome x (InValue P) → IfSome y (InValues P) → IfSome (of_both value_before x y) (InValues P)
unfolding InValues
more_in P None y h k = tt
more_in P (Some v) None h k = tt
more_in P (Some v) (Some vs) h k = (h, k)

-- ---- expressions

mutual
  unfolding typed typed_all InExpression InExpressions InValue InValues

  expressions : (P : OfPlaces) (d : Names) (n : ℕ) (e : ExpressionTree) → InExpression P e → InEvaluated P (typed d n e)
  expressions P d n (ast.name x) h = name_in P (d x)
  expressions P d n (ast.call x es) h = typed_call_in P (d x) n x.at (typed_all d (n + length (own_site x.at (d x))) es) h.0 (lists P d (n + length (own_site x.at (d x))) es h.1)
  expressions P d n (ast.index x at e) h = element_in P at (value_of (typed d n e)) (d x) h.1 (value_in P (typed d n e) (expressions P d n e h.2))
  expressions P d n (ast.element x at e column_at c) h = tt
  expressions P d n (ast.constant at t v) h = tt
  expressions P d n (ast.character at v) h = tt
  expressions P d n (ast.parenthesized at e) h = expressions P d n e h.1
  expressions P d n (ast.postfix op at e) h = step_in P op false at (place_of (typed d n e)) h.0 (place_in P (typed d n e) (expressions P d n e h.1))
  expressions P d n (ast.prefix op at e) h = step_in P op true at (place_of (typed d n e)) h.0 (place_in P (typed d n e) (expressions P d n e h.1))
  expressions P d n (ast.unary op at e) h = unary_in P (unary_number_operator op) at (operand d (typed d n e) e) h.0 (operand_in P _ (typed d n e) (expressions P d n e h.1))
  expressions P d n (ast.cast at words e) h = cast_in P (type_named d words) (typed d n e) (expressions P d n e h.1)
  expressions P d n (ast.binary op at a b) h =
      let m = calls_after d n a in
      binary_in P (binary_number_operator op) (is_or op) at (operand d (typed d n a) a) (operand d (typed d m b) b) h.0 (operand_in P _ (typed d n a) (expressions P d n a h.1))
      (operand_in P _ (typed d m b) (expressions P d m b h.2))
  expressions P d n (ast.conditional at a b c) h =
      let m = calls_after d n a in
      let l = calls_after d m b in
      conditional_in P (operand d (typed d n a) a) (operand d (typed d m b) b) (operand d (typed d l c) c) (operand_in P _ (typed d n a) (expressions P d n a h.1)) (operand_in P _ (typed d m b) (expressions P d m b h.2))
      (operand_in P _ (typed d l c) (expressions P d l c h.3))
  expressions P d n (ast.assignment op at a b) h =
      let m = calls_after d n a in
      assignment_in P (assignment_number_operator op) at (place_of (typed d n a)) (operand d (typed d m b) b) h.0 (place_in P (typed d n a) (expressions P d n a h.1))
      (operand_in P _ (typed d m b) (expressions P d m b h.2))
  expressions P d n (ast.comma at a b) h =
      comma_in P (effect_of (typed d n a)) (typed d (calls_after d n a) b) (effect_in P (typed d n a) (expressions P d n a h.1)) (expressions P d (calls_after d n a) b h.2)

  lists : (P : OfPlaces) (d : Names) (n : ℕ) (es : ExpressionTrees) → InExpressions P es → IfSome (typed_all d n es) (InValues P)
  lists P d n no_expressions h = tt
  lists P d n (expression_then e es) h =
      more_in P (value_of (typed d n e)) (typed_all d (calls_after d n e) es) (value_in P (typed d n e) (expressions P d n e h.0)) (lists P d (calls_after d n e) es h.1)

pub values_are : (P : OfPlaces) (d : Names) (n : ℕ) (e : ExpressionTree) → InExpression P e → IfSome (value_of (typed d n e)) (InValue P)
values_are P d n e h = value_in P (typed d n e) (expressions P d n e h)

pub effects_are : (P : OfPlaces) (d : Names) (n : ℕ) (e : ExpressionTree) → InExpression P e → IfSome (effect_of (typed d n e)) (InEffect P)
effects_are P d n e h = effect_in P (typed d n e) (expressions P d n e h)

pub lists_are : (P : OfPlaces) (d : Names) (n : ℕ) (es : ExpressionTrees) → InExpressions P es → IfSome (typed_all d n es) (InValues P)
lists_are P d n es h = lists P d n es h

-- ---- calls

abbrev pub AtCalls : OfPlaces → List CallSite → Type 0
AtCalls P = All (λ (c : CallSite). P c.at)

site_at : (P : OfPlaces) (f : ℕ) (at : Pos) (c : Callee) → P at → AtCalls P (site_of f at c)
site_at P f at (Ordinary r n) p = All-cons (λ (c : CallSite). P c.at) (record { function = f; at = at }) [] p (All-nil _)
site_at P f at (Any t) p = All-nil _
site_at P f at Assume p = All-nil _
site_at P f at Assert p = All-nil _
site_at P f at Abort p = All-nil _

own_at : (P : OfPlaces) (at : Pos) (d : Option Declaration) → P at → AtCalls P (own_site at d)
own_at P at None p = All-nil _
own_at P at (Some (Object o)) p = All-nil _
own_at P at (Some (Enumerator n)) p = All-nil _
own_at P at (Some (TypeName t)) p = All-nil _
own_at P at (Some (Function f)) p = site_at P f.number at f.callee p

together : (P : OfPlaces) (xs ys : List CallSite) → AtCalls P xs → AtCalls P ys → AtCalls P (xs ++ ys)
together P xs ys h k = All-append (λ (c : CallSite). P c.at) xs ys h k

mutual
  unfolding calls calls_in_all InExpression InExpressions

  pub calls_at : (P : OfPlaces) (d : Names) (e : ExpressionTree) → InExpression P e → AtCalls P (calls d e)
  calls_at P d (ast.name x) h = All-nil _
  calls_at P d (ast.call x es) h = together P (own_site x.at (d x)) (calls_in_all d es) (own_at P x.at (d x) h.0) (all_calls_at P d es h.1)
  calls_at P d (ast.index x at e) h = calls_at P d e h.2
  calls_at P d (ast.element x at e column_at c) h = together P (calls d e) (calls d c) (calls_at P d e h.2) (calls_at P d c h.4)
  calls_at P d (ast.constant at t n) h = All-nil _
  calls_at P d (ast.character at n) h = All-nil _
  calls_at P d (ast.parenthesized at e) h = calls_at P d e h.1
  calls_at P d (ast.postfix op at e) h = calls_at P d e h.1
  calls_at P d (ast.prefix op at e) h = calls_at P d e h.1
  calls_at P d (ast.unary op at e) h = calls_at P d e h.1
  calls_at P d (ast.cast at words e) h = calls_at P d e h.1
  calls_at P d (ast.binary op at a b) h = together P (calls d a) (calls d b) (calls_at P d a h.1) (calls_at P d b h.2)
  calls_at P d (ast.conditional at a b c) h =
      together P (calls d a ++ calls d b) (calls d c) (together P (calls d a) (calls d b) (calls_at P d a h.1) (calls_at P d b h.2)) (calls_at P d c h.3)
  calls_at P d (ast.assignment op at a b) h = together P (calls d a) (calls d b) (calls_at P d a h.1) (calls_at P d b h.2)
  calls_at P d (ast.comma at a b) h = together P (calls d a) (calls d b) (calls_at P d a h.1) (calls_at P d b h.2)

  pub all_calls_at : (P : OfPlaces) (d : Names) (es : ExpressionTrees) → InExpressions P es → AtCalls P (calls_in_all d es)
  all_calls_at P d no_expressions h = All-nil _
  all_calls_at P d (expression_then e es) h = together P (calls d e) (calls_in_all d es) (calls_at P d e h.0) (all_calls_at P d es h.1)

-- ---- the place of its first token

pub first_place : (P : OfPlaces) (e : ExpressionTree) → InExpression P e → P (first_place_of e)
unfolding first_place_of InExpression
first_place P (ast.name x) h = h
first_place P (ast.call x es) h = h.0
first_place P (ast.index x at e) h = h.0
first_place P (ast.element x at e column_at c) h = h.0
first_place P (ast.constant at t n) h = h
first_place P (ast.character at n) h = h
first_place P (ast.parenthesized at e) h = h.0
first_place P (ast.postfix op at e) h = first_place P e h.1
first_place P (ast.prefix op at e) h = h.0
first_place P (ast.unary op at e) h = h.0
first_place P (ast.cast at words e) h = h.0
first_place P (ast.binary op at a b) h = first_place P a h.1
first_place P (ast.conditional at a b c) h = first_place P a h.1
first_place P (ast.assignment op at a b) h = first_place P a h.1
first_place P (ast.comma at a b) h = first_place P a h.1
