-- Where a tree's text begins: the place of its first token.
use Rattle.pk_ctypes.specs.declared.places.Pos.{Pos}
use Rattle.pk_ast.specs.Trees.{ExpressionTree, StatementTree, name, call, index, element, constant, character, parenthesized, postfix, prefix, unary, cast, binary, conditional, assignment, comma}
use Rattle.pk_ast.specs.Trees.{block, empty, expression_statement, label, case, default, if_then, if_else, switch, while, do_while, for_loop, goto, continue, break, return}

-- an operator between operands, or after one, comes after the token that its left operand begins with
unfoldable pub first_place_of : ExpressionTree → Pos
first_place_of (name x) = x.at
first_place_of (call x es) = x.at
first_place_of (index x at e) = x.at
first_place_of (element x at e column_at c) = x.at
first_place_of (constant at t n) = at
first_place_of (character at n) = at
first_place_of (parenthesized at e) = at
first_place_of (postfix op at e) = first_place_of e
first_place_of (prefix op at e) = at
first_place_of (unary op at e) = at
first_place_of (cast at specifiers e) = at
first_place_of (binary op at a b) = first_place_of a
first_place_of (conditional at a b c) = first_place_of a
first_place_of (assignment op at a b) = first_place_of a
first_place_of (comma at a b) = first_place_of a

unfoldable pub first_place_of_statement : StatementTree → Pos
first_place_of_statement (block opened rest closed) = opened
first_place_of_statement (empty at) = at
first_place_of_statement (expression_statement e) = first_place_of e
first_place_of_statement (label x s) = x.at
first_place_of_statement (case at e s) = at
first_place_of_statement (default at s) = at
first_place_of_statement (if_then at e s) = at
first_place_of_statement (if_else at e s t) = at
first_place_of_statement (switch at e s) = at
first_place_of_statement (while at e s) = at
first_place_of_statement (do_while at s e) = at
first_place_of_statement (for_loop at start test step s) = at
first_place_of_statement (goto at x) = at
first_place_of_statement (continue at) = at
first_place_of_statement (break at) = at
first_place_of_statement (return at e) = at
