-- Lists of trees, one after another, and lists that grow at their end.
use Rattle.std.specs.Prelude.{List, [], ◌∷◌, ◌++◌}
use Rattle.pk_ast.specs.Trees.{OneOrMore, ExpressionTrees, no_expressions, expression_then, ItemTrees, no_items, declaration_then, statement_then}

abbrev pub append_expressions : ExpressionTrees → ExpressionTrees → ExpressionTrees
append_expressions no_expressions more = more
append_expressions (expression_then e es) more = expression_then e (append_expressions es more)

abbrev pub append_items : ItemTrees → ItemTrees → ItemTrees
append_items no_items more = more
append_items (declaration_then s d rest) more = declaration_then s d (append_items rest more)
append_items (statement_then s rest) more = statement_then s (append_items rest more)

abbrev pub one : {A : Type 0} → A → OneOrMore A
one x = record { first = x; more = [] }

abbrev pub with_last : {A : Type 0} → OneOrMore A → A → OneOrMore A
with_last xs x = record { first = xs.first; more = xs.more ++ x ∷ [] }

-- those before the last, and the last
abbrev pub ended : {A : Type 0} → List A → A → OneOrMore A
ended [] x = one x
ended (y ∷ ys) x = record { first = y; more = ys ++ x ∷ [] }
