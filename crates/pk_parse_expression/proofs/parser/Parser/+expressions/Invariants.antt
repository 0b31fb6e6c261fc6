use Rattle.std.proofs.Common.{◌≡◌, ◌+◌, ◌-◌, ◌*◌, ◌≤◌, length}
use Rattle.pk_ast.specs.declared.expressions.Identifier.{Identifier}
use Rattle.pk_ast.specs.Views.{expression_tree, expression_trees}
use Rattle.pk_grammar.specs.Grammar.{operators_in, commas_in}
use Rattle.pk_grammar.specs.Machine.States.{Context, operand, arguments, in_call}
use Rattle.pk_grammar.specs.Outcomes.{nesting_limit}
use Rattle.pk_grammar.specs.Machine.Running.{run}
use Rattle.pk_parse_expression.specs.Parsing.{EndsAt, UpTo, Reads}
use Rattle.pk_parse_expression.proofs.parser.Parser.+expressions.Given as goal

abbrev pub decreases-arguments : goal.decreases-arguments
decreases-arguments l = 10 * (128 - l.outside) + 1

abbrev pub decreases-cast : goal.decreases-cast
decreases-cast l = 10 * (128 - l.outside) + 1

abbrev pub decreases-indexed : goal.decreases-indexed
decreases-indexed l = 10 * (128 - l.outside) + 1

abbrev pub decreases-named : goal.decreases-named
decreases-named l = 10 * (128 - l.outside) + 2

abbrev pub decreases-opened : goal.decreases-opened
decreases-opened l = 10 * (128 - l.outside) + 2

abbrev pub decreases-operand : goal.decreases-operand
decreases-operand l = 10 * (128 - l.outside) + 3

abbrev pub decreases-binary : goal.decreases-binary
decreases-binary l = 10 * (128 - l.outside) + 4

abbrev pub decreases-conditional : goal.decreases-conditional
decreases-conditional l = 10 * (128 - l.outside) + 5

abbrev pub decreases-assignment : goal.decreases-assignment
decreases-assignment l = 10 * (128 - l.outside) + 6

abbrev pub decreases-expression : goal.decreases-expression
decreases-expression l = 10 * (128 - l.outside) + 7

abbrev pub invariant-arguments-loop-list : goal.invariant-arguments-loop-list
invariant-arguments-loop-list l =
    ((id : Identifier) (c : Context) → run l.self.end (arguments l.outside id c) l.tokens ≡ run l.self.end (operand (l.outside + 1) (in_call l.outside id (expression_trees l.list.items) c)) l.rest)
    × (length l.rest ≤ length l.tokens)

abbrev pub decreases-arguments-loop-list : goal.decreases-arguments-loop-list
decreases-arguments-loop-list l = length l.rest

abbrev pub invariant-binary-loop-op : goal.invariant-binary-loop-op
invariant-binary-loop-op l =
    Reads l.self.end (UpTo l.level) (λ c. operand l.outside c) l.outside l.tokens (expression_tree l.left) l.rest × EndsAt l.self.end 14 l.rest × (commas_in (expression_tree l.left) ≡ 0)
    × (operators_in (expression_tree l.left) ≡ l.count) × (l.outside + l.count ≤ nesting_limit) × (length l.rest ≤ length l.tokens)

abbrev pub decreases-binary-loop-op : goal.decreases-binary-loop-op
decreases-binary-loop-op l = 128 - l.count

abbrev pub invariant-expression-loop-comma : goal.invariant-expression-loop-comma
invariant-expression-loop-comma l =
    Reads l.self.end (UpTo 0) (λ c. operand l.outside c) l.outside l.tokens (expression_tree l.left) l.rest × EndsAt l.self.end 1 l.rest × (commas_in (expression_tree l.left) ≡ l.count)
    × (l.outside + l.count ≤ nesting_limit) × (length l.rest ≤ length l.tokens)

abbrev pub decreases-expression-loop-comma : goal.decreases-expression-loop-comma
decreases-expression-loop-comma l = 128 - l.count
