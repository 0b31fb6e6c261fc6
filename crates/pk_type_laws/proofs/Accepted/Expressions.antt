-- The typed tree of an expression in which no rule fails is well typed, and its calls are those that are noted of it.
use Rattle.std.proofs.Common.{◌≡◌, ℕ, ◌+◌, Bool, true, false, not, List, [], ◌∷◌, ◌++◌, Option, Some, None, length, refl, ap, sym, ◌∙◌, arith, length-append}
use Rattle.std.specs.Prelude.{ℤ, pos, if◌then◌else◌, is_some, slice_get}
use Rattle.std.proofs.Math.Nat.{add-zero, add_assoc}
use Rattle.std.specs.Option.{option_map}
use Rattle.pk_ctypes.specs.declared.places.Pos.{Pos}
use Rattle.pk_ctypes.specs.declared.types.IntType.{IntType}
use Rattle.pk_ctypes.specs.declared.types.IntType.TheVariants.{Int}
use Rattle.pk_ctypes.specs.Types.{InType}
use Rattle.pk_ctypes.specs.declared.types.Op.{Op}
use Rattle.pk_ast.specs.declared.expressions.Identifier.{Identifier}
use Rattle.pk_ast.specs.declared.operators.BinaryOperator.{BinaryOperator}
use Rattle.pk_ast.specs.declared.operators.BinaryOperator.TheVariants as binary
use Rattle.pk_ast.specs.declared.operators.UnaryOperator.{UnaryOperator}
use Rattle.pk_ast.specs.declared.operators.UnaryOperator.TheVariants as unary
use Rattle.pk_ast.specs.declared.operators.StepOperator.{StepOperator}
use Rattle.pk_ast.specs.declared.operators.StepOperator.TheVariants as step
use Rattle.pk_ast.specs.declared.operators.AssignmentOperator.{AssignmentOperator}
use Rattle.pk_ast.specs.declared.operators.AssignmentOperator.TheVariants as assignment
use Rattle.pk_ast.specs.Operators.{binary_number_operator, unary_number_operator, step_number_operator, assignment_number_operator}
use Rattle.pk_ast.specs.Trees as ast
use Rattle.pk_ast.specs.Trees.{ExpressionTree, ExpressionTrees, no_expressions, expression_then}
use Rattle.pk_typed.specs.declared.units.CallSite.{CallSite}
use Rattle.pk_typed.specs.declared.values.Variable.{Variable}
use Rattle.pk_typed.specs.Trees as tree
use Rattle.pk_typed.specs.Trees.{PlaceTree, ValueTree, EffectTree, ValueTrees, no_values, value_before}
use Rattle.pk_type_scope.specs.declared.declarations.Callee.{Callee}
use Rattle.pk_type_scope.specs.declared.declarations.Callee.TheVariants.{Ordinary, Any, Assume, Assert, Abort}
use Rattle.pk_type_scope.specs.declared.declarations.Declaration.{Declaration}
use Rattle.pk_type_scope.specs.declared.declarations.Declaration.TheVariants.{Object, Function, Enumerator, TypeName}
use Rattle.pk_type_scope.specs.declared.declarations.Typing.{Typing}
use Rattle.pk_type_scope.specs.declared.declarations.Typing.TheVariants.{Void, Integer, Unknown}
use Rattle.pk_type_scope.specs.declared.failures.Failure.{Failure}
use Rattle.pk_type_scope.specs.Declarations.{Names, is_void, arguments_of, site_of, own_site}
use Rattle.pk_type_scope.specs.Specifiers.{type_named, word_failures}
use Rattle.pk_type_expression.specs.Types.{type_of, of_object}
use Rattle.pk_type_expression.specs.Typed.{EvaluatedTree, value, effect, value_of, effect_of, valued, OperandTree, operand_of, place_of, of_both, scalar_value, name_value, element_value, typed_call, call_of, if_none, only, step_value, unary_value, typed_cast, is_or, logical_value, binary_value, typed_conditional, assignment_value, comma_after, typed, typed_all, calls, calls_in_all, calls_after}
use Rattle.pk_type_expression.specs.Rules.{when, count, takes_others, undeclared, void, array, place, constness, arguments, unsequenced, own, failures, failures_used}
use Rattle.pk_type_expression.proofs.TreeLemmas.{none_before, none_after, holds_not, same_number}
use Rattle.pk_welltyped.specs.Listed as listed
use Rattle.pk_welltyped.specs.Listed.{Numbered, numbered, calls_at_place, calls_in, calls_in_effect, calls_in_values}
use Rattle.pk_welltyped.specs.WellTyped as good
use Rattle.pk_welltyped.specs.WellTyped.{Around, operands, IsPlace, IsValue, IsEffect, AreValues, Takes}
use Rattle.pk_type_laws.specs.Accepted.Constants.{HasConstants, HaveConstants}
use Rattle.pk_type_laws.specs.Accepted.Names.{ObjectIs, CalleeIs, DeclarationIs, NamesAre}

-- ---- lists of failures

-- ---- lists of calls

pub numbered_append : (n : ℕ) (xs ys : List CallSite) → numbered n (xs ++ ys) ≡ numbered n xs ++ numbered (n + length xs) ys
numbered_append n [] ys = ap (λ (m : ℕ). numbered m ys) (sym (add-zero n))
numbered_append n (x ∷ xs) ys =
    let same : n + 1 + length xs ≡ n + length (x ∷ xs) = omega arith in
    ap (λ (cs : List Numbered). record { number = n; call = x } ∷ cs) (numbered_append (n + 1) xs ys ∙ ap (λ (m : ℕ). numbered (n + 1) xs ++ numbered m ys) same)

-- ---- trees, where there are some

abbrev pub GoodValue : Around → List Numbered → Option ValueTree → Type 0
GoodValue a ns None = Unit {0}
GoodValue a ns (Some v) = IsValue a v × (calls_in v ≡ ns)

abbrev pub GoodEffect : Around → List Numbered → Option EffectTree → Type 0
GoodEffect a ns None = Unit {0}
GoodEffect a ns (Some e) = IsEffect a e × (calls_in_effect e ≡ ns)

abbrev pub Good : Around → List Numbered → Option EvaluatedTree → Type 0
Good a ns None = Unit {0}
Good a ns (Some (value v)) = IsValue a v × (calls_in v ≡ ns)
Good a ns (Some (effect e)) = IsEffect a e × (calls_in_effect e ≡ ns)

abbrev GoodOperand : Around → List Numbered → Option OperandTree → Type 0
GoodOperand a ns None = Unit {0}
GoodOperand a ns (Some x) = IsValue a x.tree × (calls_in x.tree ≡ ns)

abbrev GoodPlace : Around → List Numbered → Option PlaceTree → Type 0
GoodPlace a ns None = Unit {0}
GoodPlace a ns (Some p) = IsPlace a p × (calls_at_place p ≡ ns)

-- so many values
abbrev pub GoodValues : Around → List Numbered → ℕ → Option ValueTrees → Type 0
GoodValues a ns n None = Unit {0}
GoodValues a ns n (Some vs) = AreValues a vs × (calls_in_values vs ≡ ns) × (good.count vs ≡ n)

good_valued : (a : Around) (ns : List Numbered) (v : Option ValueTree) → GoodValue a ns v → Good a ns (valued v)
good_valued a ns None h = tt
good_valued a ns (Some v) h = h

pub good_value : (a : Around) (ns : List Numbered) (e : Option EvaluatedTree) → Good a ns e → GoodValue a ns (value_of e)
good_value a ns None h = tt
good_value a ns (Some (value v)) h = h
good_value a ns (Some (effect e)) h = tt

pub good_effect : (a : Around) (ns : List Numbered) (e : Option EvaluatedTree) → Good a ns e → GoodEffect a ns (effect_of e)
unfolding IsEffect calls_in_effect
good_effect a ns None h = tt
good_effect a ns (Some (value v)) h = h
good_effect a ns (Some (effect e)) h = h

good_operand : (a : Around) (ns : List Numbered) (t : Typing) (e : Option EvaluatedTree) → Good a ns e → GoodOperand a ns (operand_of t e)
good_operand a ns Void e h = tt
good_operand a ns Unknown e h = tt
good_operand a ns (Integer t) None h = tt
good_operand a ns (Integer t) (Some (value v)) h = h
good_operand a ns (Integer t) (Some (effect e)) h = tt

good_place : (a : Around) (ns : List Numbered) (e : Option EvaluatedTree) → Good a ns e → GoodPlace a ns (place_of e)
unfolding IsValue calls_in
good_place a ns None h = tt
good_place a ns (Some (effect e)) h = tt
good_place a ns (Some (value (tree.read p))) h = h
good_place a ns (Some (value (tree.constant t z))) h = tt
good_place a ns (Some (value (tree.assign at p v))) h = tt
good_place a ns (Some (value (tree.update op at t p v))) h = tt
good_place a ns (Some (value (tree.step op at t p b))) h = tt
good_place a ns (Some (value (tree.call t f n at vs))) h = tt
good_place a ns (Some (value (tree.any t at))) h = tt
good_place a ns (Some (value (tree.unary op at t v))) h = tt
good_place a ns (Some (value (tree.convert t v))) h = tt
good_place a ns (Some (value (tree.binary op at t v w))) h = tt
good_place a ns (Some (value (tree.and v w))) h = tt
good_place a ns (Some (value (tree.or v w))) h = tt
good_place a ns (Some (value (tree.conditional t u v w))) h = tt
good_place a ns (Some (value (tree.then_value e v))) h = tt

-- ---- operators

abbrev Has : ℕ → Option Op → Type 0
Has n None = Unit {0}
Has n (Some op) = operands op ≡ n

two_of_binary : (op : BinaryOperator) → Has 2 (binary_number_operator op)
two_of_binary binary.LogicalOr = tt
two_of_binary binary.LogicalAnd = tt
two_of_binary binary.Or = refl
two_of_binary binary.ExclusiveOr = refl
two_of_binary binary.And = refl
two_of_binary binary.Equal = refl
two_of_binary binary.NotEqual = refl
two_of_binary binary.Less = refl
two_of_binary binary.Greater = refl
two_of_binary binary.LessOrEqual = refl
two_of_binary binary.GreaterOrEqual = refl
two_of_binary binary.ShiftLeft = refl
two_of_binary binary.ShiftRight = refl
two_of_binary binary.Add = refl
two_of_binary binary.Subtract = refl
two_of_binary binary.Multiply = refl
two_of_binary binary.Divide = refl
two_of_binary binary.Remainder = refl

one_of_unary : (op : UnaryOperator) → Has 1 (unary_number_operator op)
one_of_unary unary.Plus = tt
one_of_unary unary.Minus = refl
one_of_unary unary.Complement = refl
one_of_unary unary.Not = refl

two_of_step : (op : StepOperator) → operands (step_number_operator op) ≡ 2
two_of_step step.Increment = refl
two_of_step step.Decrement = refl

two_of_assignment : (op : AssignmentOperator) → Has 2 (assignment_number_operator op)
two_of_assignment assignment.Assign = tt
two_of_assignment assignment.Multiply = refl
two_of_assignment assignment.Divide = refl
two_of_assignment assignment.Remainder = refl
two_of_assignment assignment.Add = refl
two_of_assignment assignment.Subtract = refl
two_of_assignment assignment.ShiftLeft = refl
two_of_assignment assignment.ShiftRight = refl
two_of_assignment assignment.And = refl
two_of_assignment assignment.ExclusiveOr = refl
two_of_assignment assignment.Or = refl

-- ---- forms

name_of : (a : Around) (b : Bool) (t : Option IntType) (x : Variable) → ObjectIs a b t x → GoodValue a [] (if b then None else option_map (λ u. tree.read (tree.scalar u x)) t)
unfolding IsValue IsPlace calls_in calls_at_place
name_of a true t x h = tt
name_of a false None x h = absurd h
name_of a false (Some t) x h = (h, refl)

number_good : (a : Around) (t : IntType) (z : ℤ) → InType t z → Good a [] (Some (value (tree.constant t z)))
unfolding IsValue calls_in
number_good a t z h = (h, refl)

name_good : (a : Around) (d : Option Declaration) → DeclarationIs a d → Good a [] (valued (name_value d))
name_good a None h = tt
name_good a (Some (Object o)) h = good_valued a [] (scalar_value o) (name_of a o.is_array o.int_type o.variable h)
name_good a (Some (Function f)) h = tt
name_good a (Some (TypeName t)) h = tt
name_good a (Some (Enumerator None)) h = tt
name_good a (Some (Enumerator (Some n))) h = number_good a Int n h

element_of : (a : Around) (ns : List Numbered) (at : Pos) (i : Option ValueTree) (b : Bool) (t : Option IntType) (x : Variable) → ObjectIs a b t x → GoodValue a ns i
    → GoodValue a ns (if b then of_both (λ u v. tree.read (tree.element u x at v)) t i else None)
unfolding IsValue IsPlace calls_in calls_at_place
element_of a ns at i false t x h g = tt
element_of a ns at i true None x h g = absurd h
element_of a ns at None true (Some t) x h g = tt
element_of a ns at (Some v) true (Some t) x h g = ((h, g.0), g.1)

element_good : (a : Around) (ns : List Numbered) (at : Pos) (i : Option ValueTree) (d : Option Declaration) → DeclarationIs a d → GoodValue a ns i → Good a ns (valued (of_object (element_value at i) d))
element_good a ns at i None h g = tt
element_good a ns at i (Some (Object o)) h g = good_valued a ns (element_value at i o) (element_of a ns at i o.is_array o.int_type o.variable h g)
element_good a ns at i (Some (Function f)) h g = tt
element_good a ns at i (Some (Enumerator n)) h g = tt
element_good a ns at i (Some (TypeName t)) h g = tt

step_good : (a : Around) (ns : List Numbered) (op : StepOperator) (b : Bool) (at : Pos) (p : Option PlaceTree) → GoodPlace a ns p → Good a ns (valued (option_map (step_value op b at) p))
unfolding IsValue calls_in
step_good a ns op b at None h = tt
step_good a ns op b at (Some p) h = ((two_of_step op, h.0), h.1)

unary_good : (a : Around) (ns : List Numbered) (op : Option Op) → Has 1 op → (at : Pos) (x : Option OperandTree) → GoodOperand a ns x → Good a ns (valued (option_map (unary_value op at) x))
unfolding IsValue calls_in
unary_good a ns op k at None h = tt
unary_good a ns None k at (Some x) h = h
unary_good a ns (Some op) k at (Some x) h = ((k, h.0), h.1)

cast_good : (a : Around) (ns : List Numbered) (t : Typing) (e : Option EvaluatedTree) → Good a ns e → Good a ns (typed_cast t e)
unfolding IsValue calls_in IsEffect calls_in_effect
cast_good a ns Void None h = tt
cast_good a ns Void (Some (value v)) h = h
cast_good a ns Void (Some (effect e)) h = h
cast_good a ns (Integer t) None h = tt
cast_good a ns (Integer t) (Some (value v)) h = h
cast_good a ns (Integer t) (Some (effect e)) h = tt
cast_good a ns Unknown e h = tt

logical_good : (a : Around) (ms ns : List Numbered) (b : Bool) (v w : ValueTree) → IsValue a v × (calls_in v ≡ ms) → IsValue a w × (calls_in w ≡ ns)
    → IsValue a (logical_value b v w) × (calls_in (logical_value b v w) ≡ ms ++ ns)
unfolding IsValue calls_in
logical_good a ms ns true v w h k = ((h.0, k.0), rw (h.1, k.1))
logical_good a ms ns false v w h k = ((h.0, k.0), rw (h.1, k.1))

binary_good : (a : Around) (ms ns : List Numbered) (op : Option Op) → Has 2 op → (b : Bool) (at : Pos) (x y : Option OperandTree) → GoodOperand a ms x → GoodOperand a ns y
    → Good a (ms ++ ns) (valued (of_both (binary_value op b at) x y))
unfolding IsValue calls_in
binary_good a ms ns op two b at None y h k = tt
binary_good a ms ns op two b at (Some x) None h k = tt
binary_good a ms ns None two b at (Some x) (Some y) h k = logical_good a ms ns b x.tree y.tree h k
binary_good a ms ns (Some op) two b at (Some x) (Some y) h k = ((two, h.0, k.0), rw (h.1, k.1))

conditional_good : (a : Around) (ls ms ns : List Numbered) (c x y : Option OperandTree) → GoodOperand a ls c → GoodOperand a ms x → GoodOperand a ns y → Good a (ls ++ ms ++ ns) (valued (typed_conditional c x y))
unfolding IsValue calls_in
conditional_good a ls ms ns None x y g h k = tt
conditional_good a ls ms ns (Some c) None y g h k = tt
conditional_good a ls ms ns (Some c) (Some x) None g h k = tt
conditional_good a ls ms ns (Some c) (Some x) (Some y) g h k = ((g.0, h.0, k.0), rw (g.1, h.1, k.1))

assignment_good : (a : Around) (ms ns : List Numbered) (op : Option Op) → Has 2 op → (at : Pos) (p : Option PlaceTree) (x : Option OperandTree) → GoodPlace a ms p → GoodOperand a ns x
    → Good a (ms ++ ns) (valued (of_both (assignment_value op at) p x))
unfolding IsValue calls_in
assignment_good a ms ns op two at None x h k = tt
assignment_good a ms ns op two at (Some p) None h k = tt
assignment_good a ms ns None two at (Some p) (Some x) h k = ((h.0, k.0), rw (h.1, k.1))
assignment_good a ms ns (Some op) two at (Some p) (Some x) h k = ((two, h.0, k.0), rw (h.1, k.1))

comma_good : (a : Around) (ms ns : List Numbered) (e : Option EffectTree) (f : Option EvaluatedTree) → GoodEffect a ms e → Good a ns f → Good a (ms ++ ns) (of_both comma_after e f)
unfolding IsValue calls_in IsEffect calls_in_effect
comma_good a ms ns None f h k = tt
comma_good a ms ns (Some e) None h k = tt
comma_good a ms ns (Some e) (Some (value v)) h k = ((h.0, k.0), rw (h.1, k.1))
comma_good a ms ns (Some e) (Some (effect f)) h k = ((h.0, k.0), rw (h.1, k.1))

only_good : (a : Around) (ns : List Numbered) (k : ℕ) (vs : ValueTrees) → GoodValues a ns k (Some vs) → GoodValue a ns (only vs)
unfolding AreValues calls_in_values
only_good a ns k no_values h = tt
only_good a ns k (value_before v no_values) h = (h.0.0, append_none (calls_in v) ∙ h.1)
  where
    append_none : (xs : List Numbered) → xs ≡ xs ++ []
    append_none [] = refl
    append_none (x ∷ xs) = ap (λ (l : List Numbered). x ∷ l) (append_none xs)
only_good a ns k (value_before v (value_before w vs)) h = tt

assume_good : (a : Around) (ns : List Numbered) (at : Pos) (v : Option ValueTree) → GoodValue a ns v → Good a ns (option_map (λ w. effect (tree.assume at w)) v)
unfolding IsEffect calls_in_effect
assume_good a ns at None h = tt
assume_good a ns at (Some v) h = h

assert_good : (a : Around) (ns : List Numbered) (at : Pos) (v : Option ValueTree) → GoodValue a ns v → Good a ns (option_map (λ w. effect (tree.assert at w)) v)
unfolding IsEffect calls_in_effect
assert_good a ns at None h = tt
assert_good a ns at (Some v) h = h

any_good : (a : Around) (ns : List Numbered) (t : IntType) (at : Pos) (k : ℕ) (vs : ValueTrees) → GoodValues a ns k (Some vs) → Good a ns (valued (if_none vs (tree.any t at)))
unfolding IsValue calls_in calls_in_values
any_good a ns t at k no_values h = (tt, h.1)
any_good a ns t at k (value_before v vs) h = tt

abort_good : (a : Around) (ns : List Numbered) (at : Pos) (k : ℕ) (vs : ValueTrees) → GoodValues a ns k (Some vs) → Good a ns (option_map effect (if_none vs (tree.abort at)))
unfolding IsEffect calls_in_effect calls_in_values
abort_good a ns at k no_values h = (tt, h.1)
abort_good a ns at k (value_before v vs) h = tt

takes : (m k : ℕ) (r : Option IntType) (f : Option tree.FunctionTree) → k ≡ m → Takes k r f → Takes m r f
takes m k r None is h = h
takes m k r (Some f) is h = (h.0, h.1 ∙ is)

-- a call of number n, behind whose own site those of its arguments stand
callee_good : (a : Around) (n f k : ℕ) (at : Pos) (cs : List CallSite) (vs : ValueTrees) (c : Callee) → CalleeIs a f c → arguments_of c ≡ k
    → GoodValues a (numbered (n + length (site_of f at c)) cs) k (Some vs) → Good a (numbered n (site_of f at c ++ cs)) (call_of c f n at vs)
unfolding IsValue calls_in IsEffect calls_in_effect
callee_good a n f k at cs vs (Ordinary Void m) h is g = ((takes (good.count vs) m None (slice_get a.unit.functions f) (is ∙ sym g.2) h, g.0), ap (λ (l : List Numbered). listed.call_of f n at ∷ l) g.1)
callee_good a n f k at cs vs (Ordinary (Integer t) m) h is g = ((takes (good.count vs) m (Some t) (slice_get a.unit.functions f) (is ∙ sym g.2) h, g.0), ap (λ (l : List Numbered). listed.call_of f n at ∷ l) g.1)
callee_good a n f k at cs vs (Ordinary Unknown m) h is g = absurd h
callee_good a n f k at cs vs (Any t) h is g = any_good a (numbered n cs) t at k vs (rw add-zero at g)
callee_good a n f k at cs vs Assume h is g = assume_good a (numbered n cs) at (only vs) (only_good a (numbered n cs) k vs (rw add-zero at g))
callee_good a n f k at cs vs Assert h is g = assert_good a (numbered n cs) at (only vs) (only_good a (numbered n cs) k vs (rw add-zero at g))
callee_good a n f k at cs vs Abort h is g = abort_good a (numbered n cs) at k vs (rw add-zero at g)

call_good : (a : Around) (n k : ℕ) (at : Pos) (cs : List CallSite) (d : Option Declaration) (vs : Option ValueTrees) → DeclarationIs a d → takes_others d k ≡ false
    → GoodValues a (numbered (n + length (own_site at d)) cs) k vs → Good a (numbered n (own_site at d ++ cs)) (typed_call d n at vs)
call_good a n k at cs None vs h q g = tt
call_good a n k at cs (Some (Object o)) vs h q g = tt
call_good a n k at cs (Some (Enumerator m)) vs h q g = tt
call_good a n k at cs (Some (TypeName t)) vs h q g = tt
call_good a n k at cs (Some (Function f)) None h q g = tt
call_good a n k at cs (Some (Function f)) (Some vs) h q g = callee_good a n f.number k at cs vs f.callee h (same_number (arguments_of f.callee) k q) g

-- ---- the walk

arguments_fit : (d : Names) (x : Identifier) (es : ExpressionTrees) → own d (ast.call x es) ≡ [] → takes_others (d x) (count es) ≡ false
unfolding arguments
arguments_fit d x es p =
    let e = ast.call x es in
    let q : undeclared d e ++ array d e ++ place d e ++ constness d e ++ arguments d e ++ unsequenced d e ≡ [] = p in
    let r : undeclared d e ++ array d e ++ place d e ++ constness d e ++ arguments d e ≡ [] = none_before (undeclared d e ++ array d e ++ place d e ++ constness d e ++ arguments d e) (unsequenced d e) q in
    holds_not _ _ _ (none_after (undeclared d e ++ array d e ++ place d e ++ constness d e) (arguments d e) r)

values_good : (a : Around) (ms ns : List Numbered) (k : ℕ) (v : Option ValueTree) (vs : Option ValueTrees) → GoodValue a ms v → GoodValues a ns k vs → GoodValues a (ms ++ ns) (1 + k) (of_both value_before v vs)
unfolding AreValues calls_in_values
values_good a ms ns k None vs h g = tt
values_good a ms ns k (Some v) None h g = tt
values_good a ms ns k (Some v) (Some vs) h g = ((h.0, g.0), rw (h.1, g.1), ap (λ (m : ℕ). 1 + m) g.2)

no_good : (a : Around) → GoodValues a [] 0 (Some no_values)
unfolding AreValues calls_in_values
no_good a = (tt, refl, refl)

split : (a : Around) (n : ℕ) (xs ys : List CallSite) (e : Option EvaluatedTree) → Good a (numbered n xs ++ numbered (n + length xs) ys) e → Good a (numbered n (xs ++ ys)) e
split a n xs ys e h = rw (numbered_append n xs ys) h

three : (a : Around) (n : ℕ) (xs ys zs : List CallSite) (e : Option EvaluatedTree) → Good a (numbered n xs ++ numbered (n + length xs) ys ++ numbered (n + length xs + length ys) zs) e → Good a (numbered n (xs ++ ys ++ zs)) e
three a n xs ys zs e h =
    let at : n + length (xs ++ ys) ≡ n + length xs + length ys = ap (λ (m : ℕ). n + m) (length-append xs ys) ∙ sym (add_assoc n (length xs) (length ys)) in
    rw (numbered_append n (xs ++ ys) zs, numbered_append n xs ys, at) h

mutual
  unfolding failures failures_used typed typed_all calls calls_in_all HasConstants HaveConstants

  pub expressions : (a : Around) (d : Names) → NamesAre a d → (n : ℕ) (e : ExpressionTree) → HasConstants e → failures d e ≡ [] → Good a (numbered n (calls d e)) (typed d n e)
  expressions a d h n (ast.name x) k p = name_good a (d x) (h x)
  expressions a d h n (ast.call x es) k p =
      let q : failures_used d es ++ own d (ast.call x es) ≡ [] = p in
      call_good a n (count es) x.at (calls_in_all d es) (d x) (typed_all d (n + length (own_site x.at (d x))) es) (h x) (arguments_fit d x es (none_after (failures_used d es) (own d (ast.call x es)) q))
      (all_expressions a d h (n + length (own_site x.at (d x))) es k (none_before (failures_used d es) (own d (ast.call x es)) q))
  expressions a d h n (ast.index x at e) k p =
      let q : failures d e ++ void d e ++ own d (ast.index x at e) ≡ [] = p in
      let f : failures d e ≡ [] = none_before (failures d e) (void d e) (none_before (failures d e ++ void d e) (own d (ast.index x at e)) q) in
      element_good a (numbered n (calls d e)) at (value_of (typed d n e)) (d x) (h x) (good_value a (numbered n (calls d e)) (typed d n e) (expressions a d h n e k f))
  expressions a d h n (ast.element x at e column_at c) k p = tt
  expressions a d h n (ast.constant at t v) k p = number_good a t (pos v) k
  expressions a d h n (ast.character at v) k p = number_good a Int v k
  expressions a d h n (ast.parenthesized at e) k p = expressions a d h n e k p
  expressions a d h n (ast.postfix op at e) k p =
      let q : failures d e ++ void d e ++ own d (ast.postfix op at e) ≡ [] = p in
      let f : failures d e ≡ [] = none_before (failures d e) (void d e) (none_before (failures d e ++ void d e) (own d (ast.postfix op at e)) q) in
      step_good a (numbered n (calls d e)) op false at (place_of (typed d n e)) (good_place a (numbered n (calls d e)) (typed d n e) (expressions a d h n e k f))
  expressions a d h n (ast.prefix op at e) k p =
      let q : failures d e ++ void d e ++ own d (ast.prefix op at e) ≡ [] = p in
      let f : failures d e ≡ [] = none_before (failures d e) (void d e) (none_before (failures d e ++ void d e) (own d (ast.prefix op at e)) q) in
      step_good a (numbered n (calls d e)) op true at (place_of (typed d n e)) (good_place a (numbered n (calls d e)) (typed d n e) (expressions a d h n e k f))
  expressions a d h n (ast.unary op at e) k p =
      let q : failures d e ++ void d e ≡ [] = p in
      unary_good a (numbered n (calls d e)) (unary_number_operator op) (one_of_unary op) at (operand_of (type_of d e) (typed d n e))
      (good_operand a (numbered n (calls d e)) (type_of d e) (typed d n e) (expressions a d h n e k (none_before (failures d e) (void d e) q)))
  expressions a d h n (ast.cast at words e) k p =
      let w : List Failure = when (not (is_void (type_named d words))) (void d e) in
      let q : word_failures d words ++ failures d e ++ w ≡ [] = p in
      cast_good a (numbered n (calls d e)) (type_named d words) (typed d n e)
      (expressions a d h n e k (none_after (word_failures d words) (failures d e) (none_before (word_failures d words ++ failures d e) w q)))
  expressions a d h n (ast.binary op at b c) k p =
      let m = calls_after d n b in
      let o : List Failure = own d (ast.binary op at b c) in
      let q : failures d b ++ void d b ++ failures d c ++ void d c ++ o ≡ [] = p in
      let q3 : failures d b ++ void d b ++ failures d c ≡ [] = none_before (failures d b ++ void d b ++ failures d c) (void d c) (none_before (failures d b ++ void d b ++ failures d c ++ void d c) o q) in
      let l : failures d b ≡ [] = none_before (failures d b) (void d b) (none_before (failures d b ++ void d b) (failures d c) q3) in
      let r : failures d c ≡ [] = none_after (failures d b ++ void d b) (failures d c) q3 in
      split a n (calls d b) (calls d c) (typed d n (ast.binary op at b c))
      (binary_good a (numbered n (calls d b)) (numbered m (calls d c)) (binary_number_operator op) (two_of_binary op) (is_or op) at (operand_of (type_of d b) (typed d n b)) (operand_of (type_of d c) (typed d m c))
      (good_operand a (numbered n (calls d b)) (type_of d b) (typed d n b) (expressions a d h n b k.0 l)) (good_operand a (numbered m (calls d c)) (type_of d c) (typed d m c) (expressions a d h m c k.1 r)))
  expressions a d h n (ast.conditional at b c e) k p =
      let m = calls_after d n b in
      let o = calls_after d m c in
      let q : failures d b ++ void d b ++ failures d c ++ void d c ++ failures d e ++ void d e ≡ [] = p in
      let q5 : failures d b ++ void d b ++ failures d c ++ void d c ++ failures d e ≡ [] = none_before (failures d b ++ void d b ++ failures d c ++ void d c ++ failures d e) (void d e) q in
      let q3 : failures d b ++ void d b ++ failures d c ≡ [] = none_before (failures d b ++ void d b ++ failures d c) (void d c) (none_before (failures d b ++ void d b ++ failures d c ++ void d c) (failures d e) q5) in
      let l : failures d b ≡ [] = none_before (failures d b) (void d b) (none_before (failures d b ++ void d b) (failures d c) q3) in
      let r : failures d c ≡ [] = none_after (failures d b ++ void d b) (failures d c) q3 in
      let s : failures d e ≡ [] = none_after (failures d b ++ void d b ++ failures d c ++ void d c) (failures d e) q5 in
      three a n (calls d b) (calls d c) (calls d e) (typed d n (ast.conditional at b c e))
      (conditional_good a (numbered n (calls d b)) (numbered m (calls d c)) (numbered o (calls d e)) (operand_of (type_of d b) (typed d n b)) (operand_of (type_of d c) (typed d m c)) (operand_of (type_of d e) (typed d o e))
      (good_operand a (numbered n (calls d b)) (type_of d b) (typed d n b) (expressions a d h n b k.0 l)) (good_operand a (numbered m (calls d c)) (type_of d c) (typed d m c) (expressions a d h m c k.1 r))
      (good_operand a (numbered o (calls d e)) (type_of d e) (typed d o e) (expressions a d h o e k.2 s)))
  expressions a d h n (ast.assignment op at b c) k p =
      let m = calls_after d n b in
      let w : List Failure = when (is_some (assignment_number_operator op)) (void d b) in
      let o : List Failure = own d (ast.assignment op at b c) in
      let q : failures d b ++ w ++ failures d c ++ void d c ++ o ≡ [] = p in
      let q3 : failures d b ++ w ++ failures d c ≡ [] = none_before (failures d b ++ w ++ failures d c) (void d c) (none_before (failures d b ++ w ++ failures d c ++ void d c) o q) in
      let l : failures d b ≡ [] = none_before (failures d b) w (none_before (failures d b ++ w) (failures d c) q3) in
      let r : failures d c ≡ [] = none_after (failures d b ++ w) (failures d c) q3 in
      split a n (calls d b) (calls d c) (typed d n (ast.assignment op at b c))
      (assignment_good a (numbered n (calls d b)) (numbered m (calls d c)) (assignment_number_operator op) (two_of_assignment op) at (place_of (typed d n b)) (operand_of (type_of d c) (typed d m c))
      (good_place a (numbered n (calls d b)) (typed d n b) (expressions a d h n b k.0 l)) (good_operand a (numbered m (calls d c)) (type_of d c) (typed d m c) (expressions a d h m c k.1 r)))
  expressions a d h n (ast.comma at b c) k p =
      let m = calls_after d n b in
      let q : failures d b ++ failures d c ≡ [] = p in
      split a n (calls d b) (calls d c) (typed d n (ast.comma at b c))
      (comma_good a (numbered n (calls d b)) (numbered m (calls d c)) (effect_of (typed d n b)) (typed d m c)
      (good_effect a (numbered n (calls d b)) (typed d n b) (expressions a d h n b k.0 (none_before (failures d b) (failures d c) q))) (expressions a d h m c k.1 (none_after (failures d b) (failures d c) q)))

  pub all_expressions : (a : Around) (d : Names) → NamesAre a d → (n : ℕ) (es : ExpressionTrees) → HaveConstants es → failures_used d es ≡ [] → GoodValues a (numbered n (calls_in_all d es)) (count es) (typed_all d n es)
  all_expressions a d h n no_expressions k p = no_good a
  all_expressions a d h n (expression_then e es) k p =
      let m = calls_after d n e in
      let q : failures d e ++ void d e ++ failures_used d es ≡ [] = p in
      let f : failures d e ≡ [] = none_before (failures d e) (void d e) (none_before (failures d e ++ void d e) (failures_used d es) q) in
      rw (numbered_append n (calls d e) (calls_in_all d es))
      (values_good a (numbered n (calls d e)) (numbered m (calls_in_all d es)) (count es) (value_of (typed d n e)) (typed_all d m es)
      (good_value a (numbered n (calls d e)) (typed d n e) (expressions a d h n e k.0 f)) (all_expressions a d h m es k.1 (none_after (failures d e ++ void d e) (failures_used d es) q)))
