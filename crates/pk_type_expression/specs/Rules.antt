-- Where each rule fails in an expression: the rows of the table of rules, then the walk that asks them everywhere.
use Rattle.std.specs.Prelude.{ℕ, ◌+◌, Bool, true, false, ◌&&◌, ◌||◌, not, Option, Some, None, List, [], ◌++◌, nat_eq, is_some, if◌then◌else◌}
use Rattle.pk_ctypes.specs.declared.places.Pos.{Pos}
use Rattle.pk_ctypes.specs.declared.words.Rule.TheVariants as rule
use Rattle.pk_ast.specs.Operators.{binary_number_operator, assignment_number_operator}
use Rattle.pk_ast.specs.Places.{first_place_of}
use Rattle.pk_ast.specs.Trees.{ExpressionTree, ExpressionTrees, name, call, index, element, constant, character, parenthesized, postfix, prefix, unary, cast, binary, conditional, assignment, comma, no_expressions, expression_then}
use Rattle.pk_type_scope.specs.declared.declarations.Declaration.{Declaration}
use Rattle.pk_type_scope.specs.declared.declarations.Declaration.TheVariants as declared
use Rattle.pk_type_expression.specs.declared.names.Target.{Target}
use Rattle.pk_type_scope.specs.declared.failures.Failure.{Failure}
use Rattle.pk_type_scope.specs.Declarations.{Names, is_object, is_function, is_array, is_scalar, is_void, arguments_of}
use Rattle.pk_type_scope.specs.Failures.{fails_if}
use Rattle.pk_type_expression.specs.Mentions.{Mentioned, mentions, mentions_of_each, clash, some_clash, is_among}
use Rattle.pk_type_scope.specs.Specifiers.{type_named, word_failures}
use Rattle.pk_type_expression.specs.Types.{type_of, target_of}

-- undeclared: no declaration is in scope, or it is a function where an object is needed or the reverse, an enumerator counting as an object; at the name
unfoldable pub undeclared : Names → ExpressionTree → List Failure
undeclared d (name x) = fails_if (not (is_object (d x))) rule.Undeclared x.at
undeclared d (call x es) = fails_if (not (is_function (d x))) rule.Undeclared x.at
undeclared d (index x at e) = fails_if (not (is_object (d x))) rule.Undeclared x.at
undeclared d (element x at e column_at c) = fails_if (not (is_object (d x))) rule.Undeclared x.at
undeclared d _ = []

-- void: a void value is used; at the operand's first token. (The walk says which operands are used.)
unfoldable pub void : Names → ExpressionTree → List Failure
void d e = fails_if (is_void (type_of d e)) rule.Void (first_place_of e)

-- array: an array without index, an index on a scalar, two indices, since no array has rows and columns; at the name
unfoldable pub array : Names → ExpressionTree → List Failure
array d (name x) = fails_if (is_array (d x)) rule.Array x.at
array d (index x at e) = fails_if (is_scalar (d x)) rule.Array x.at
array d (element x at e column_at c) = fails_if true rule.Array x.at
array d _ = []

-- place: an assigned or stepped operand is no scalar name or element (an enumerator is neither); at the operator
unfoldable pub place : Names → ExpressionTree → List Failure
place d (assignment op at a b) = fails_if (not (is_some (target_of d a))) rule.Place at
place d (postfix op at e) = fails_if (not (is_some (target_of d e))) rule.Place at
place d (prefix op at e) = fails_if (not (is_some (target_of d e))) rule.Place at
place d _ = []

abbrev pub is_const : Option Target → Bool
is_const None = false
is_const (Some t) = t.is_const

-- const: it was declared const; at the operator
unfoldable pub constness : Names → ExpressionTree → List Failure
constness d (assignment op at a b) = fails_if (is_const (target_of d a)) rule.Const at
constness d (postfix op at e) = fails_if (is_const (target_of d e)) rule.Const at
constness d (prefix op at e) = fails_if (is_const (target_of d e)) rule.Const at
constness d _ = []

abbrev pub takes_others : Option Declaration → ℕ → Bool
takes_others (Some (declared.Function f)) n = not (nat_eq (arguments_of f.callee) n)
takes_others d n = false

abbrev pub count : ExpressionTrees → ℕ
count no_expressions = 0
count (expression_then e es) = 1 + count es

-- arguments: their number differs; at the name
unfoldable pub arguments : Names → ExpressionTree → List Failure
arguments d (call x es) = fails_if (takes_others (d x) (count es)) rule.Arguments x.at
arguments d _ = []

-- The left side, as it is read, clashes with the right, or its index changes the assigned array. A scalar on the left changes nothing by itself, so for it this says that the right
-- side changes that scalar.
abbrev pub assignment_clash : Option Target → Mentioned → Mentioned → Bool
assignment_clash None left right = false
assignment_clash (Some t) left right = clash left right || is_among left.changed t.variable

abbrev pub assignment_place : Option Target → Pos → Pos
assignment_place None at = at
assignment_place (Some t) at = elim t.bracket [ None ↦ at | Some bracket ↦ bracket ]

-- unsequenced: operands of one operator but `&&`, `||` and the comma clash, or arguments of one call, or the sides of an assignment; at the operator, at the call's name, or at the `[` of
-- the assigned element
unfoldable pub unsequenced : Names → ExpressionTree → List Failure
unsequenced d (binary op at a b) =
    fails_if (is_some (binary_number_operator op) && clash (mentions d a) (mentions d b)) rule.Unsequenced at
unsequenced d (call x es) = fails_if (some_clash (mentions_of_each d es)) rule.Unsequenced x.at
unsequenced d (assignment op at a b) =
    fails_if (assignment_clash (target_of d a) (mentions d a) (mentions d b)) rule.Unsequenced
    (assignment_place (target_of d a) at)
unsequenced d _ = []

-- the rows at one expression, but for void
abbrev pub own : Names → ExpressionTree → List Failure
own d e = undeclared d e ++ array d e ++ place d e ++ constness d e ++ arguments d e ++ unsequenced d e

-- where the test holds
abbrev pub when : Bool → List Failure → List Failure
when b fs = if b then fs else []

-- The walk: the failures of the parts, that a part that is used is void, and its own. The left side of an operator with `=` is read, and a cast to void uses nothing.
unfoldable mutual
  pub failures : Names → ExpressionTree → List Failure
  failures d (name x) = own d (name x)
  failures d (call x es) = failures_used d es ++ own d (call x es)
  failures d (index x at e) = failures d e ++ void d e ++ own d (index x at e)
  failures d (element x at e column_at c) =
      failures d e ++ void d e ++ failures d c ++ void d c ++ own d (element x at e column_at c)
  failures d (constant at t n) = []
  failures d (character at n) = []
  failures d (parenthesized at e) = failures d e
  failures d (postfix op at e) = failures d e ++ void d e ++ own d (postfix op at e)
  failures d (prefix op at e) = failures d e ++ void d e ++ own d (prefix op at e)
  failures d (unary op at e) = failures d e ++ void d e
  failures d (cast at words e) =
      word_failures d words ++ failures d e ++ when (not (is_void (type_named d words))) (void d e)
  failures d (binary op at a b) = failures d a ++ void d a ++ failures d b ++ void d b ++ own d (binary op at a b)
  failures d (conditional at a b c) = failures d a ++ void d a ++ failures d b ++ void d b ++ failures d c ++ void d c
  failures d (assignment op at a b) =
      failures d a ++ when (is_some (assignment_number_operator op)) (void d a) ++ failures d b ++ void d b
      ++ own d (assignment op at a b)
  failures d (comma at a b) = failures d a ++ failures d b

  -- each of these is used
  pub failures_used : Names → ExpressionTrees → List Failure
  failures_used d no_expressions = []
  failures_used d (expression_then e es) = failures d e ++ void d e ++ failures_used d es

-- those of an expression whose value is used
abbrev pub used_failures : Names → ExpressionTree → List Failure
used_failures d e = failures d e ++ void d e
