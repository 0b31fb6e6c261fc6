-- What the values of the code stand for.
use Rattle.std.specs.Prelude.{◌≡◌, ℕ, Bool, List, map, Option, option_map, ◌++◌, nat_eq}
use Rattle.std.specs.HashSet.{contains}
use Rattle.pk_ast.specs.Trees.{ExpressionTree, ExpressionTrees}
use Rattle.pk_typed.specs.Trees.{ValueTrees}
use Rattle.pk_typed.specs.Views.{value_tree, effect_tree, optional_values}
use Rattle.pk_type_expression.specs.declared.checked.Arguments.{Arguments}
use Rattle.pk_type_expression.specs.declared.checked.Checked.{Checked}
use Rattle.pk_type_expression.specs.declared.checked.Operand.{Operand}
use Rattle.pk_type_expression.specs.declared.names.Target.{Target}
use Rattle.pk_type_scope.specs.declared.declarations.Typing.{Typing}
use Rattle.pk_type_expression.specs.declared.evaluated.Evaluated.{Evaluated}
use Rattle.pk_type_expression.specs.declared.evaluated.Evaluated.TheVariants as evaluated
use Rattle.pk_typed.specs.declared.values.Variable.{Variable}
use Rattle.pk_typed.specs.declared.values.Variable.TheVariants.{File, Local}
use Rattle.pk_type_expression.specs.declared.mentions.Before.{Before}
use Rattle.pk_type_expression.specs.declared.mentions.Mentions.{Mentions}
use Rattle.pk_type_expression.specs.declared.mentions.Objects.{Objects}
use Rattle.pk_type_scope.specs.Declarations.{Names}
use Rattle.pk_type_scope.specs.Failures.{noted}
use Rattle.pk_type_scope.specs.Notes.{Noted}
use Rattle.pk_type_expression.specs.Mentions.{Mentioned, mentions, is_among}
use Rattle.pk_type_expression.specs.Rules.{failures, used_failures, failures_used}
use Rattle.pk_type_expression.specs.Typed.{EvaluatedTree, value, effect, OperandTree, typed, calls, calls_in_all}
use Rattle.pk_type_expression.specs.Types.{target_of, type_of}

unfoldable pub evaluated_tree : Evaluated → EvaluatedTree
evaluated_tree (evaluated.Value v) = value (value_tree v.value)
evaluated_tree (evaluated.Effect e) = effect (effect_tree e.value)

abbrev pub operand_tree : Operand → OperandTree
operand_tree x = record { int_type = x.int_type; tree = value_tree x.tree.value }

abbrev pub mentioned_in : Mentions → Mentioned
mentioned_in m = record { named = m.named.items; changed = m.changed.items }

-- whether a set has the object
abbrev pub has : Objects → Variable → Bool
has s (File n) = contains nat_eq s.files n
has s (Local n) = contains nat_eq s.locals n

-- a set of these objects
pub record IsSetOf (xs : List Variable) (s : Objects) : Type 0 where
  pub same : (x : Variable) → has s x ≡ is_among xs x

pub record IsBefore (m : Mentioned) (s : Before) : Type 0 where
  pub named : IsSetOf m.named s.named
  pub changed : IsSetOf m.changed s.changed

-- what is known of an expression
pub record Known : Type 0 where
  pub typing : Typing
  pub target : Option Target
  pub mentions : Mentioned
  pub tree : Option EvaluatedTree

abbrev pub known_of : Checked → Known
known_of c =
    record {
      typing = c.typing;
      target = c.target;
      mentions = mentioned_in c.mentions;
      tree = option_map evaluated_tree c.tree;
    }

abbrev pub mentioned_in_each : Arguments → List Mentioned
mentioned_in_each all = map mentioned_in all.mentions.items

abbrev pub values_in : Arguments → Option ValueTrees
values_in all = optional_values all.values

-- an expression before which n calls of its function stand
abbrev pub known : Names → ℕ → ExpressionTree → Known
known d n e = record { typing = type_of d e; target = target_of d e; mentions = mentions d e; tree = typed d n e }

-- after an expression
abbrev pub after : Names → ExpressionTree → Noted → Noted
after d e s = record { found = noted s.found (failures d e); calls = s.calls ++ calls d e }

-- after an expression whose value is used
abbrev pub after_used : Names → ExpressionTree → Noted → Noted
after_used d e s = record { found = noted s.found (used_failures d e); calls = s.calls ++ calls d e }

-- after expressions, the value of each of which is used
abbrev pub after_all : Names → ExpressionTrees → Noted → Noted
after_all d es s = record { found = noted s.found (failures_used d es); calls = s.calls ++ calls_in_all d es }
