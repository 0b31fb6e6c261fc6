use Rattle.std.proofs.Common.{◌≡◌, ◌+◌, ◌≤◌, length}
use Rattle.pk_ast.specs.Views.{expression_tree}
use Rattle.pk_grammar.specs.Grammar.{operators_in, postfixes_in, commas_in}
use Rattle.pk_grammar.specs.Machine.States.{complete}
use Rattle.pk_grammar.specs.Outcomes.{nesting_limit}
use Rattle.pk_parse_expression.specs.Parsing.{Anywhere, Reads}
use Rattle.pk_parse_expression.proofs.parser.Parser.postfixes.Given as goal

abbrev pub invariant-loop-op : goal.invariant-loop-op
invariant-loop-op l =
    Reads l.self.end Anywhere (λ c. complete l.outside (expression_tree l.fn.operand) c) l.outside l.tokens (expression_tree l.whole) l.rest
    × (postfixes_in (expression_tree l.whole) ≡ l.count) × (operators_in (expression_tree l.whole) ≡ 0) × (commas_in (expression_tree l.whole) ≡ 0) × (l.outside + l.count ≤ nesting_limit) × (length l.rest ≤ length l.tokens)

abbrev pub decreases-loop-op : goal.decreases-loop-op
decreases-loop-op l = length l.rest
