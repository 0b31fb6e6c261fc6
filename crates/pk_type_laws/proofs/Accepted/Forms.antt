-- A constant expression notes no call, and gives a number or a fault.
use Rattle.std.proofs.Common.{◌≡◌, ℕ, Bool, true, false, [], Option, Some, None, refl}
use Rattle.std.specs.Prelude.{ℤ, pos, Result, Ok, Err, if◌then◌else◌}
use Rattle.std.specs.Option.{option_map}
use Rattle.std.specs.Ordering.{int_eq}
use Rattle.std.proofs.lemmas.Bool.{false≢true}
use Rattle.pk_ctypes.specs.declared.places.Pos.{Pos}
use Rattle.pk_ctypes.specs.declared.types.IntType.{IntType}
use Rattle.pk_ctypes.specs.declared.types.IntType.TheVariants.{Int}
use Rattle.pk_ctypes.specs.declared.types.Op.{Op}
use Rattle.pk_ctypes.specs.declared.faults.Fault.{Fault}
use Rattle.pk_ctypes.specs.Operators as operators
use Rattle.pk_ctypes.specs.Types.{wrapped}
use Rattle.pk_ast.specs.Operators.{binary_number_operator, unary_number_operator}
use Rattle.pk_ast.specs.Trees as ast
use Rattle.pk_ast.specs.Trees.{ExpressionTree}
use Rattle.pk_typed.specs.Trees as tree
use Rattle.pk_typed.specs.Trees.{ValueTree}
use Rattle.pk_type_scope.specs.declared.declarations.Declaration.{Declaration}
use Rattle.pk_type_scope.specs.declared.declarations.Declaration.TheVariants.{Object, Function, Enumerator, TypeName}
use Rattle.pk_type_scope.specs.declared.declarations.Typing.{Typing}
use Rattle.pk_type_scope.specs.declared.declarations.Typing.TheVariants.{Void, Integer, Unknown}
use Rattle.pk_type_scope.specs.Declarations.{Names, is_enumerator}
use Rattle.pk_type_scope.specs.Specifiers.{type_named}
use Rattle.pk_type_expression.specs.Types.{type_of}
use Rattle.pk_type_expression.specs.Typed.{EvaluatedTree, value, effect, effect_of, valued, OperandTree, operand_of, of_both, name_value, unary_value, typed_cast, is_or, logical_value, binary_value, typed_conditional, comma_after, typed, calls, calls_after}
use Rattle.pk_type_constant.specs.declared.constants.Constant.{Constant}
use Rattle.pk_type_constant.specs.declared.constants.Constant.TheVariants.{Number, Faulty, NotConstant}
use Rattle.pk_type_constant.specs.Constants.{with_number, given, calculated, converted, truth_of, chosen, constant_value, constant_effect}
use Rattle.pk_type_constant.specs.Forms.{both, is_constant_form}

left : (a b : Bool) → both a b ≡ true → a ≡ true
left true b h = refl
left false b h = h

right : (a b : Bool) → both a b ≡ true → b ≡ true
right true b h = h
right false b h = absurd (false≢true h)

-- ---- no calls

pub no_calls : (d : Names) (e : ExpressionTree) → is_constant_form d e ≡ true → calls d e ≡ []
unfolding is_constant_form calls
no_calls d (ast.name x) h = refl
no_calls d (ast.call x es) h = absurd (false≢true h)
no_calls d (ast.index x at e) h = absurd (false≢true h)
no_calls d (ast.element x at e column_at c) h = absurd (false≢true h)
no_calls d (ast.constant at t n) h = refl
no_calls d (ast.character at n) h = refl
no_calls d (ast.parenthesized at e) h = no_calls d e h
no_calls d (ast.postfix op at e) h = absurd (false≢true h)
no_calls d (ast.prefix op at e) h = absurd (false≢true h)
no_calls d (ast.unary op at e) h = no_calls d e h
no_calls d (ast.cast at words e) h = no_calls d e h
no_calls d (ast.binary op at a b) h = rw (no_calls d a (left (is_constant_form d a) (is_constant_form d b) h), no_calls d b (right (is_constant_form d a) (is_constant_form d b) h))
no_calls d (ast.conditional at a b c) h =
    let r : both (is_constant_form d b) (is_constant_form d c) ≡ true = right (is_constant_form d a) (both (is_constant_form d b) (is_constant_form d c)) h in
    rw (no_calls d a (left (is_constant_form d a) (both (is_constant_form d b) (is_constant_form d c)) h), no_calls d b (left (is_constant_form d b) (is_constant_form d c) r), no_calls d c (right (is_constant_form d b) (is_constant_form d c) r))
no_calls d (ast.assignment op at a b) h = absurd (false≢true h)
no_calls d (ast.comma at a b) h = rw (no_calls d a (left (is_constant_form d a) (is_constant_form d b) h), no_calls d b (right (is_constant_form d a) (is_constant_form d b) h))

-- ---- a number or a fault

abbrev pub Gives : Constant → Type 0
Gives (Number n) = Unit {0}
Gives (Faulty f) = Unit {0}
Gives NotConstant = ⊥

with_gives : (a : Constant) (f : ℤ → Constant) → Gives a → ((n : ℤ) → Gives (f n)) → Gives (with_number a f)
with_gives (Number n) f g h = h n
with_gives (Faulty e) f g h = tt
with_gives NotConstant f g h = absurd g

given_gives : (r : Result ℤ Fault) → Gives (given r)
given_gives (Ok n) = tt
given_gives (Err f) = tt

calculated_gives : (op : Op) (t : IntType) (a b : Constant) → Gives a → Gives b → Gives (calculated op t a b)
calculated_gives op t a b g h = with_gives a _ g (λ m. with_gives b _ h (λ n. given_gives (operators.value_of op t (wrapped t m) (operators.right_number op t n))))

converted_gives : (t : IntType) (a : Constant) → Gives a → Gives (converted t a)
converted_gives t a g = with_gives a _ g (λ n. tt)

truth_gives : (a : Constant) → Gives a → Gives (truth_of a)
truth_gives a g = with_gives a _ g (λ n. tt)

either : (b : Bool) (x y : Constant) → Gives x → Gives y → Gives (if b then x else y)
either true x y g h = g
either false x y g h = h

chosen_gives : (a x y : Constant) → Gives a → Gives x → Gives y → Gives (chosen a x y)
chosen_gives a x y g h k = with_gives a _ g (λ n. either (int_eq n (pos 0)) y x k h)

abbrev pub Numeric : Option EvaluatedTree → Type 0
Numeric None = Unit {0}
Numeric (Some (value v)) = Gives (constant_value v)
Numeric (Some (effect e)) = Gives (constant_effect e)

abbrev NumericOperand : Option OperandTree → Type 0
NumericOperand None = Unit {0}
NumericOperand (Some x) = Gives (constant_value x.tree)

operand : (t : Typing) (e : Option EvaluatedTree) → Numeric e → NumericOperand (operand_of t e)
operand Void e h = tt
operand Unknown e h = tt
operand (Integer t) None h = tt
operand (Integer t) (Some (value v)) h = h
operand (Integer t) (Some (effect e)) h = tt

unary_numeric : (op : Option Op) (at : Pos) (x : Option OperandTree) → NumericOperand x → Numeric (valued (option_map (unary_value op at) x))
unfolding constant_value
unary_numeric op at None h = tt
unary_numeric None at (Some x) h = converted_gives _ (constant_value x.tree) h
unary_numeric (Some op) at (Some x) h = calculated_gives op _ (constant_value x.tree) (Number (pos 0)) h tt

cast_numeric : (t : Typing) (e : Option EvaluatedTree) → Numeric e → Numeric (typed_cast t e)
unfolding constant_value constant_effect
cast_numeric Void None h = tt
cast_numeric Void (Some (value v)) h = h
cast_numeric Void (Some (effect e)) h = h
cast_numeric (Integer t) None h = tt
cast_numeric (Integer t) (Some (value v)) h = converted_gives t (constant_value v) h
cast_numeric (Integer t) (Some (effect e)) h = tt
cast_numeric Unknown e h = tt

logical_numeric : (b : Bool) (v w : ValueTree) → Gives (constant_value v) → Gives (constant_value w) → Gives (constant_value (logical_value b v w))
unfolding constant_value
logical_numeric true v w h k = chosen_gives (constant_value v) (Number (pos 1)) (truth_of (constant_value w)) h tt (truth_gives (constant_value w) k)
logical_numeric false v w h k = chosen_gives (constant_value v) (truth_of (constant_value w)) (Number (pos 0)) h (truth_gives (constant_value w) k) tt

binary_numeric : (op : Option Op) (b : Bool) (at : Pos) (x y : Option OperandTree) → NumericOperand x → NumericOperand y → Numeric (valued (of_both (binary_value op b at) x y))
unfolding constant_value
binary_numeric op b at None y h k = tt
binary_numeric op b at (Some x) None h k = tt
binary_numeric None b at (Some x) (Some y) h k = logical_numeric b x.tree y.tree h k
binary_numeric (Some op) b at (Some x) (Some y) h k = calculated_gives op _ (constant_value x.tree) (constant_value y.tree) h k

conditional_numeric : (c x y : Option OperandTree) → NumericOperand c → NumericOperand x → NumericOperand y → Numeric (valued (typed_conditional c x y))
unfolding constant_value
conditional_numeric None x y g h k = tt
conditional_numeric (Some c) None y g h k = tt
conditional_numeric (Some c) (Some x) None g h k = tt
conditional_numeric (Some c) (Some x) (Some y) g h k = chosen_gives (constant_value c.tree) _ _ g (converted_gives _ (constant_value x.tree) h) (converted_gives _ (constant_value y.tree) k)

comma_numeric : (e f : Option EvaluatedTree) → Numeric e → Numeric f → Numeric (of_both comma_after (effect_of e) f)
unfolding constant_value constant_effect
comma_numeric None f h k = tt
comma_numeric (Some e) None h k = tt
comma_numeric (Some (value v)) (Some (value w)) h k = with_gives (constant_value v) _ h (λ n. k)
comma_numeric (Some (value v)) (Some (effect f)) h k = with_gives (constant_value v) _ h (λ n. k)
comma_numeric (Some (effect e)) (Some (value w)) h k = with_gives (constant_effect e) _ h (λ n. k)
comma_numeric (Some (effect e)) (Some (effect f)) h k = with_gives (constant_effect e) _ h (λ n. k)

number_numeric : (t : IntType) (z : ℤ) → Numeric (Some (value (tree.constant t z)))
unfolding constant_value
number_numeric t z = tt

name_numeric : (o : Option Declaration) → is_enumerator o ≡ true → Numeric (valued (name_value o))
name_numeric None h = absurd (false≢true h)
name_numeric (Some (Object o)) h = absurd (false≢true h)
name_numeric (Some (Function f)) h = absurd (false≢true h)
name_numeric (Some (TypeName t)) h = absurd (false≢true h)
name_numeric (Some (Enumerator None)) h = tt
name_numeric (Some (Enumerator (Some n))) h = number_numeric Int n

pub numeric : (d : Names) (n : ℕ) (e : ExpressionTree) → is_constant_form d e ≡ true → Numeric (typed d n e)
unfolding is_constant_form typed
numeric d n (ast.name x) h = name_numeric (d x) h
numeric d n (ast.call x es) h = absurd (false≢true h)
numeric d n (ast.index x at e) h = absurd (false≢true h)
numeric d n (ast.element x at e column_at c) h = absurd (false≢true h)
numeric d n (ast.constant at t v) h = number_numeric t (pos v)
numeric d n (ast.character at v) h = number_numeric Int v
numeric d n (ast.parenthesized at e) h = numeric d n e h
numeric d n (ast.postfix op at e) h = absurd (false≢true h)
numeric d n (ast.prefix op at e) h = absurd (false≢true h)
numeric d n (ast.unary op at e) h = unary_numeric (unary_number_operator op) at (operand_of (type_of d e) (typed d n e)) (operand (type_of d e) (typed d n e) (numeric d n e h))
numeric d n (ast.cast at words e) h = cast_numeric (type_named d words) (typed d n e) (numeric d n e h)
numeric d n (ast.binary op at a b) h =
    let m = calls_after d n a in
    binary_numeric (binary_number_operator op) (is_or op) at (operand_of (type_of d a) (typed d n a)) (operand_of (type_of d b) (typed d m b))
    (operand (type_of d a) (typed d n a) (numeric d n a (left (is_constant_form d a) (is_constant_form d b) h))) (operand (type_of d b) (typed d m b) (numeric d m b (right (is_constant_form d a) (is_constant_form d b) h)))
numeric d n (ast.conditional at a b c) h =
    let m = calls_after d n a in
    let k = calls_after d m b in
    let r : both (is_constant_form d b) (is_constant_form d c) ≡ true = right (is_constant_form d a) (both (is_constant_form d b) (is_constant_form d c)) h in
    conditional_numeric (operand_of (type_of d a) (typed d n a)) (operand_of (type_of d b) (typed d m b)) (operand_of (type_of d c) (typed d k c))
    (operand (type_of d a) (typed d n a) (numeric d n a (left (is_constant_form d a) (both (is_constant_form d b) (is_constant_form d c)) h)))
    (operand (type_of d b) (typed d m b) (numeric d m b (left (is_constant_form d b) (is_constant_form d c) r)))
    (operand (type_of d c) (typed d k c) (numeric d k c (right (is_constant_form d b) (is_constant_form d c) r)))
numeric d n (ast.assignment op at a b) h = absurd (false≢true h)
numeric d n (ast.comma at a b) h =
    comma_numeric (typed d n a) (typed d (calls_after d n a) b) (numeric d n a (left (is_constant_form d a) (is_constant_form d b) h)) (numeric d (calls_after d n a) b (right (is_constant_form d a) (is_constant_form d b) h))
