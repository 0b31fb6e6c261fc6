-- What is unsequenced in an assignment, in the words of the table of rules.
use Rattle.std.proofs.Common.{◌≡◌, Bool, true, false, ◌||◌, Some, [], ◌∷◌, refl, ap}
use Rattle.pk_ctypes.specs.declared.places.Pos.{Pos}
use Rattle.pk_ctypes.specs.declared.words.Rule.TheVariants as rule
use Rattle.pk_ast.specs.declared.operators.AssignmentOperator.{AssignmentOperator}
use Rattle.pk_ast.specs.declared.expressions.Identifier.{Identifier}
use Rattle.pk_ast.specs.Trees.{ExpressionTree, name, index, assignment}
use Rattle.pk_typed.specs.declared.values.Variable.{Variable}
use Rattle.pk_type_scope.specs.declared.declarations.Declaration.TheVariants as declared
use Rattle.pk_type_scope.specs.declared.declarations.Object.{Object}
use Rattle.pk_type_scope.specs.Declarations.{Names}
use Rattle.pk_type_scope.specs.Failures.{fails_if}
use Rattle.pk_type_expression.specs.Laws.{AssignmentsAreTheTable}
use Rattle.pk_type_expression.specs.Mentions.{Mentioned, named, changed, mentions, meet, clash, is_among}
use Rattle.pk_type_expression.specs.Rules.{unsequenced}
use Rattle.pk_type_expression.specs.Types.{target_of}
use Rattle.pk_type_expression.proofs.MentionLemmas.{none_meet}

-- a scalar on the left names itself and changes nothing
clash_of_scalar : (x : Variable) (n : Mentioned) → (clash (record { named = x ∷ []; changed = [] }) n || false) ≡ is_among n.changed x
clash_of_scalar x n = rw (none_meet n.named) (twice (is_among n.changed x))
  where
    twice : (b : Bool) → ((b || false) || false) ≡ b
    twice true = refl
    twice false = refl

-- the order of the parts doesn't matter
around : (a b c d : Bool) → ((a || (b || c)) || d) ≡ ((a || c) || (d || b))
around true b c d = refl
around false true true d = refl
around false true false true = refl
around false true false false = refl
around false false true d = refl
around false false false true = refl
around false false false false = refl

clash_of_element : (x : Variable) (m n : Mentioned) → (clash (record { named = x ∷ m.named; changed = m.changed }) n || is_among m.changed x) ≡ (clash m n || (is_among m.changed x || is_among n.changed x))
clash_of_element x m n = around (meet m.changed n.named) (is_among n.changed x) (meet n.changed m.named) (is_among m.changed x)

scalar : (d : Names) (op : AssignmentOperator) (at : Pos) (x : Identifier) (o : Object) (b : ExpressionTree) → d x ≡ Some (declared.Object o) → o.is_array ≡ false → unsequenced d (assignment op at (name x) b) ≡ fails_if (is_among (changed d b) o.variable) rule.Unsequenced at
unfolding unsequenced target_of named changed
scalar d op at x o b h p = rw (h, p) (ap (λ t. fails_if t rule.Unsequenced at) (clash_of_scalar o.variable (mentions d b)))

element : (d : Names) (op : AssignmentOperator) (at bracket : Pos) (x : Identifier) (o : Object) (i b : ExpressionTree) → d x ≡ Some (declared.Object o) → o.is_array ≡ true → unsequenced d (assignment op at (index x bracket i) b) ≡ fails_if (clash (mentions d i) (mentions d b) || (is_among (changed d i) o.variable || is_among (changed d b) o.variable)) rule.Unsequenced bracket
unfolding unsequenced target_of named changed
element d op at bracket x o i b h p = rw (h, p) (ap (λ t. fails_if t rule.Unsequenced bracket) (clash_of_element o.variable (mentions d i) (mentions d b)))

pub assignments_are_the_table : AssignmentsAreTheTable
unfolding unsequenced target_of named changed
assignments_are_the_table = record { scalar = scalar; element = element; parentheses = λ d op at p a b. refl }
