-- What each form of expression makes of what is known of its parts, and which rules fail at it.
use Rattle.std.specs.Prelude.{ℕ, ℤ, Bool, true, ◌&&◌, not, Option, Some, None, List, [], ◌++◌, is_some, option_map, length}
use Rattle.pk_ctypes.specs.declared.places.Pos.{Pos}
use Rattle.pk_ctypes.specs.declared.types.IntType.{IntType}
use Rattle.pk_ctypes.specs.declared.words.Rule.TheVariants as rule
use Rattle.pk_ctypes.specs.Conversions.{usual_of}
use Rattle.pk_ast.specs.declared.operators.BinaryOperator.{BinaryOperator}
use Rattle.pk_ast.specs.declared.operators.UnaryOperator.{UnaryOperator}
use Rattle.pk_ast.specs.declared.operators.StepOperator.{StepOperator}
use Rattle.pk_ast.specs.declared.operators.AssignmentOperator.{AssignmentOperator}
use Rattle.pk_ast.specs.Operators.{binary_number_operator, unary_number_operator, assignment_number_operator}
use Rattle.pk_typed.specs.Trees as tree
use Rattle.pk_typed.specs.Trees.{ValueTree, ValueTrees, no_values, value_before}
use Rattle.pk_type_scope.specs.declared.declarations.Declaration.{Declaration}
use Rattle.pk_type_scope.specs.declared.declarations.Typing.{Typing}
use Rattle.pk_type_scope.specs.declared.declarations.Typing.TheVariants.{Integer}
use Rattle.pk_type_scope.specs.declared.failures.Failure.{Failure}
use Rattle.pk_type_scope.specs.Declarations.{is_object, is_function, is_array, is_scalar}
use Rattle.pk_type_scope.specs.Failures.{fails_if}
use Rattle.pk_type_expression.specs.Mentions.{Mentioned, object_named, nothing_mentioned, joined, changing, clash, all_joined, some_clash}
use Rattle.pk_type_expression.specs.Rules.{is_const, takes_others, assignment_clash, assignment_place}
use Rattle.pk_type_expression.specs.Typed.{OperandTree, value, valued, value_of, effect_of, operand_of, place_of, of_both, name_value, element_value, typed_call, step_value, unary_value, typed_cast, is_or, binary_value, typed_conditional, assignment_value, comma_after}
use Rattle.pk_type_expression.specs.Types.{of_object, scalar_target, element_target, type_of_target, type_of_name, type_of_call, of_integer, of_integers, unary_type, binary_type}
use Rattle.pk_type_expression.specs.Views.{Known}

abbrev pub operand_in : Known → Option OperandTree
operand_in k = operand_of k.typing k.tree

abbrev pub append_values : ValueTrees → ValueTrees → ValueTrees
append_values no_values ws = ws
append_values (value_before v vs) ws = value_before v (append_values vs ws)

-- one value more, where there are values
abbrev pub with_last : Option ValueTrees → Option ValueTree → Option ValueTrees
with_last vs v = of_both (λ list last. append_values list (value_before last no_values)) vs v

abbrev pub name_failures : Pos → Option Declaration → List Failure
name_failures at d = fails_if (not (is_object d)) rule.Undeclared at ++ fails_if (is_array d) rule.Array at

abbrev pub known_name : Option Declaration → Known
known_name d = record {
  typing = type_of_name d;
  target = of_object scalar_target d;
  mentions = record { named = object_named d; changed = [] };
  tree = valued (name_value d);
}

abbrev pub element_failures : Pos → Option Declaration → List Failure
element_failures at d = fails_if (not (is_object d)) rule.Undeclared at ++ fails_if (is_scalar d) rule.Array at

abbrev pub known_element : Pos → Option Declaration → Known → Known
known_element at d index = record {
  typing = type_of_target (of_object (element_target at) d);
  target = of_object (element_target at) d;
  mentions = joined (record { named = object_named d; changed = [] }) index.mentions;
  tree = valued (of_object (element_value at (value_of index.tree)) d);
}

abbrev pub row_element_failures : Pos → Option Declaration → List Failure
row_element_failures at d = fails_if (not (is_object d)) rule.Undeclared at ++ fails_if true rule.Array at

abbrev pub known_row_element : Option Declaration → Known → Known → Known
known_row_element d row column = record {
  typing = type_of_target None;
  target = None;
  mentions = joined (joined (record { named = object_named d; changed = [] }) row.mentions) column.mentions;
  tree = None;
}

abbrev pub known_constant : IntType → ℤ → Known
known_constant t n =
    record {
      typing = Integer t;
      target = None;
      mentions = nothing_mentioned;
      tree = Some (value (tree.constant t n));
    }

abbrev pub call_failures : Pos → Option Declaration → List Mentioned → List Failure
call_failures at d ms =
    fails_if (not (is_function d)) rule.Undeclared at ++ fails_if (takes_others d (length ms)) rule.Arguments at
    ++ fails_if (some_clash ms) rule.Unsequenced at

abbrev pub known_call : Pos → ℕ → Option Declaration → List Mentioned → Option ValueTrees → Known
known_call at n d ms vs =
    record { typing = type_of_call d; target = None; mentions = all_joined ms; tree = typed_call d n at vs }

abbrev pub step_failures : Pos → Known → List Failure
step_failures at k = fails_if (not (is_some k.target)) rule.Place at ++ fails_if (is_const k.target) rule.Const at

abbrev pub known_step : StepOperator → Bool → Pos → Known → Known
known_step op is_prefix at k = record {
  typing = type_of_target k.target;
  target = None;
  mentions = changing k.mentions k.target;
  tree = valued (option_map (step_value op is_prefix at) (place_of k.tree));
}

abbrev pub known_unary : UnaryOperator → Pos → Known → Known
known_unary op at k = record {
  typing = of_integer (unary_type (unary_number_operator op)) k.typing;
  target = None;
  mentions = k.mentions;
  tree = valued (option_map (unary_value (unary_number_operator op) at) (operand_in k));
}

abbrev pub known_cast : Typing → Known → Known
known_cast t k = record { typing = t; target = None; mentions = k.mentions; tree = typed_cast t k.tree }

abbrev pub binary_failures : BinaryOperator → Pos → Known → Known → List Failure
binary_failures op at k l =
    fails_if (is_some (binary_number_operator op) && clash k.mentions l.mentions) rule.Unsequenced at

abbrev pub known_binary : BinaryOperator → Pos → Known → Known → Known
known_binary op at k l = record {
  typing = of_integers (binary_type (binary_number_operator op)) k.typing l.typing;
  target = None;
  mentions = joined k.mentions l.mentions;
  tree = valued (of_both (binary_value (binary_number_operator op) (is_or op) at) (operand_in k) (operand_in l));
}

abbrev pub known_conditional : Known → Known → Known → Known
known_conditional j k l = record {
  typing = of_integers usual_of k.typing l.typing;
  target = None;
  mentions = joined (joined j.mentions k.mentions) l.mentions;
  tree = valued (typed_conditional (operand_in j) (operand_in k) (operand_in l));
}

abbrev pub assignment_failures : Pos → Known → Known → List Failure
assignment_failures at k l =
    fails_if (not (is_some k.target)) rule.Place at ++ fails_if (is_const k.target) rule.Const at
    ++ fails_if (assignment_clash k.target k.mentions l.mentions) rule.Unsequenced (assignment_place k.target at)

abbrev pub known_assignment : AssignmentOperator → Pos → Known → Known → Known
known_assignment op at k l = record {
  typing = type_of_target k.target;
  target = None;
  mentions = changing (joined k.mentions l.mentions) k.target;
  tree = valued (of_both (assignment_value (assignment_number_operator op) at) (place_of k.tree) (operand_in l));
}

abbrev pub known_comma : Known → Known → Known
known_comma k l =
    record {
      typing = l.typing;
      target = None;
      mentions = joined k.mentions l.mentions;
      tree = of_both comma_after (effect_of k.tree) l.tree;
    }
