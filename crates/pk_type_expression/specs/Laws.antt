-- What the definitions say together.
use Rattle.std.specs.Prelude.{◌||◌, true, false, ◌≡◌, ℕ, [], Option, Some, None}
use Rattle.pk_ast.specs.declared.expressions.Identifier.{Identifier}
use Rattle.pk_ctypes.specs.declared.places.Pos.{Pos}
use Rattle.pk_ctypes.specs.declared.words.Rule.TheVariants as rule
use Rattle.pk_ast.specs.declared.operators.AssignmentOperator.{AssignmentOperator}
use Rattle.pk_ast.specs.Trees.{ExpressionTree, name, index, parenthesized, assignment}
use Rattle.pk_typed.specs.Types as typed
use Rattle.pk_type_scope.specs.declared.declarations.Typing.{Typing}
use Rattle.pk_type_scope.specs.declared.declarations.Typing.TheVariants.{Void, Integer, Unknown}
use Rattle.pk_type_scope.specs.Declarations.{Names, HasTypes}
use Rattle.pk_type_scope.specs.declared.declarations.Declaration.TheVariants as declared
use Rattle.pk_type_scope.specs.declared.declarations.Object.{Object}
use Rattle.pk_type_scope.specs.Failures.{fails_if}
use Rattle.pk_type_expression.specs.Mentions.{mentions, changed, clash, is_among}
use Rattle.pk_type_expression.specs.Rules.{failures, unsequenced}
use Rattle.pk_type_expression.specs.Typed.{EvaluatedTree, value, effect, typed}
use Rattle.pk_type_expression.specs.Types.{type_of}

-- the tree of an expression of a type: a value of that integer type, or an effect where it is void
abbrev pub IsTreeOf : Typing → Option EvaluatedTree → Type 0
IsTreeOf t None = ⊥
IsTreeOf Void (Some (value v)) = ⊥
IsTreeOf Void (Some (effect e)) = Unit {0}
IsTreeOf (Integer t) (Some (value v)) = typed.type_of v ≡ t
IsTreeOf (Integer t) (Some (effect e)) = ⊥
IsTreeOf Unknown (Some e) = ⊥

-- An expression in which no rule fails has a type and a typed tree of it, where the declarations in scope have theirs.
abbrev pub AcceptedExpressionsHaveTrees : Type 0
AcceptedExpressionsHaveTrees =
    (d : Names) → ((x : Identifier) → HasTypes (d x)) → (n : ℕ) → (e : ExpressionTree) → failures d e ≡ [] →
    IsTreeOf (type_of d e) (typed d n e)

-- What is unsequenced in an assignment, in the words of the table of rules: the right side changes the assigned scalar, or of the index of the assigned element and the right side one changes what
-- the other names, or one of them changes an element of that array. Parentheses on the left change nothing.
pub record AssignmentsAreTheTable : Type 0 where
  pub scalar : (d : Names) (op : AssignmentOperator) (at : Pos) (x : Identifier) (o : Object) (b : ExpressionTree) →
      d x ≡ Some (declared.Object o) → o.is_array ≡ false
      → unsequenced d (assignment op at (name x) b) ≡ fails_if (is_among (changed d b) o.variable) rule.Unsequenced at
  pub element : (d : Names) (op : AssignmentOperator) (at bracket : Pos) (x : Identifier) (o : Object)
      (i b : ExpressionTree) → d x ≡ Some (declared.Object o) → o.is_array ≡ true
      → unsequenced d (assignment op at (index x bracket i) b)
      ≡ fails_if (clash (mentions d i) (mentions d b)
      || (is_among (changed d i) o.variable || is_among (changed d b) o.variable)) rule.Unsequenced bracket
  pub parentheses : (d : Names) (op : AssignmentOperator) (at p : Pos) (a b : ExpressionTree) →
      unsequenced d (assignment op at (parenthesized p a) b) ≡ unsequenced d (assignment op at a b)
