-- What objects begin with (C99 6.7.8): a value, or in braces values and rows of values.
use Rattle.std.specs.Prelude.{Option, Some, None, List, [], ◌∷◌}
use Rattle.pk_ast.specs.Trees.{OneOrMore, ExpressionTrees, no_expressions, expression_then, InitializerItemTree, item_value, item_row, InitializerTree, single, braced}

-- expressions, and others behind them
abbrev pub followed_by : ExpressionTrees → ExpressionTrees → ExpressionTrees
followed_by no_expressions fs = fs
followed_by (expression_then e es) fs = expression_then e (followed_by es fs)

abbrev pub item_values : InitializerItemTree → ExpressionTrees
item_values (item_value e) = expression_then e no_expressions
item_values (item_row at e es) = expression_then e es

-- the values of items in order of the text, those of a row in its place
abbrev pub items_values : List InitializerItemTree → ExpressionTrees
items_values [] = no_expressions
items_values (i ∷ is) = followed_by (item_values i) (items_values is)

abbrev pub braced_values : OneOrMore InitializerItemTree → ExpressionTrees
braced_values is = items_values (is.first ∷ is.more)

-- all values that are given
abbrev pub given : Option InitializerTree → ExpressionTrees
given None = no_expressions
given (Some (single e)) = expression_then e no_expressions
given (Some (braced at is)) = braced_values is
