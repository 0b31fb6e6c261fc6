-- What the operators and calls in the trees of a text count, where each counts the number that its place is given.
use Rattle.std.specs.Prelude.{ℕ, ◌+◌, List, [], ◌∷◌, Option, Some, None}
use Rattle.pk_lex.specs.declared.token.Token.{Token}
use Rattle.pk_ast.specs.Trees.{ExpressionTree, name, call, index, element, constant, character, parenthesized, postfix, prefix, unary, cast, binary, conditional, assignment, comma, ExpressionTrees, no_expressions, expression_then, InitializerItemTree, item_value, item_row, InitializerTree, single, braced, DimensionsTree, DeclaratorTree, EnumeratorTree, EnumerationTree, DeclarationTree, ForStartTree, declaration, expression, StatementTree, block, empty, expression_statement, label, case, default, if_then, if_else, switch, while, do_while, for_loop, goto, continue, break, return, ItemTrees, no_items, declaration_then, statement_then, BlockTree, ExternalTree, function, objects, type_names}
use Rattle.pk_access_laws.specs.Operators.{Counting, if_some}

-- an operator at its sign, an index at its `[`, a call at its name
unfoldable mutual
  pub in_expression : Counting → ExpressionTree → ℕ
  in_expression q (name x) = 0
  in_expression q (call x es) = q x.at + in_expressions q es
  in_expression q (index x at e) = q at + in_expression q e
  in_expression q (element x at e column_at c) = q at + in_expression q e + q column_at + in_expression q c
  in_expression q (constant at t n) = 0
  in_expression q (character at n) = 0
  in_expression q (parenthesized at e) = in_expression q e
  in_expression q (postfix op at e) = q at + in_expression q e
  in_expression q (prefix op at e) = q at + in_expression q e
  in_expression q (unary op at e) = q at + in_expression q e
  in_expression q (cast at words e) = in_expression q e
  in_expression q (binary op at a b) = q at + in_expression q a + in_expression q b
  in_expression q (conditional at a b c) = in_expression q a + in_expression q b + in_expression q c
  in_expression q (assignment op at a b) = q at + in_expression q a + in_expression q b
  in_expression q (comma at a b) = in_expression q a + in_expression q b

  pub in_expressions : Counting → ExpressionTrees → ℕ
  in_expressions q no_expressions = 0
  in_expressions q (expression_then e es) = in_expression q e + in_expressions q es

abbrev pub in_optional : Counting → Option ExpressionTree → ℕ
in_optional q = if_some (in_expression q)

abbrev pub in_initializer_item : Counting → InitializerItemTree → ℕ
in_initializer_item q (item_value e) = in_expression q e
in_initializer_item q (item_row at e es) = in_expression q e + in_expressions q es

abbrev pub in_initializer_items : Counting → List InitializerItemTree → ℕ
in_initializer_items q [] = 0
in_initializer_items q (i ∷ is) = in_initializer_item q i + in_initializer_items q is

abbrev pub in_initializer : Counting → Option InitializerTree → ℕ
in_initializer q None = 0
in_initializer q (Some (single e)) = in_expression q e
in_initializer q (Some (braced at is)) = in_initializer_item q is.first + in_initializer_items q is.more

abbrev pub in_dimensions : Counting → Option DimensionsTree → ℕ
in_dimensions q None = 0
in_dimensions q (Some d) = in_expression q d.length + in_optional q d.columns

abbrev pub in_declarator : Counting → DeclaratorTree → ℕ
in_declarator q d = in_dimensions q d.dimensions + in_initializer q d.initializer

abbrev pub in_declarators : Counting → List DeclaratorTree → ℕ
in_declarators q [] = 0
in_declarators q (d ∷ ds) = in_declarator q d + in_declarators q ds

abbrev pub in_enumerators : Counting → List EnumeratorTree → ℕ
in_enumerators q [] = 0
in_enumerators q (x ∷ xs) = in_optional q x.value + in_enumerators q xs

abbrev pub in_enumeration : Counting → Option EnumerationTree → ℕ
in_enumeration q None = 0
in_enumeration q (Some e) = in_optional q e.enumerators.first.value + in_enumerators q e.enumerators.more

abbrev pub in_declaration : Counting → DeclarationTree → ℕ
in_declaration q d = in_enumeration q d.enumeration + in_declarators q d.declarators

abbrev pub in_start : Counting → ForStartTree → ℕ
in_start q (declaration d) = in_declaration q d
in_start q (expression e) = in_optional q e

unfoldable mutual
  pub in_statement : Counting → StatementTree → ℕ
  in_statement q (block opened items closed) = in_items q items
  in_statement q (empty at) = 0
  in_statement q (expression_statement e) = in_expression q e
  in_statement q (label x s) = in_statement q s
  in_statement q (case at e s) = in_expression q e + in_statement q s
  in_statement q (default at s) = in_statement q s
  in_statement q (if_then at e s) = in_expression q e + in_statement q s
  in_statement q (if_else at e s t) = in_expression q e + in_statement q s + in_statement q t
  in_statement q (switch at e s) = in_expression q e + in_statement q s
  in_statement q (while at e s) = in_expression q e + in_statement q s
  in_statement q (do_while at s e) = in_statement q s + in_expression q e
  in_statement q (for_loop at start test step s) =
      in_start q start + in_optional q test + in_optional q step + in_statement q s
  in_statement q (goto at x) = 0
  in_statement q (continue at) = 0
  in_statement q (break at) = 0
  in_statement q (return at e) = in_optional q e

  pub in_items : Counting → ItemTrees → ℕ
  in_items q no_items = 0
  in_items q (declaration_then s d items) = in_declaration q d + in_items q items
  in_items q (statement_then s items) = in_statement q s + in_items q items

abbrev pub in_block : Counting → Option BlockTree → ℕ
in_block q None = 0
in_block q (Some b) = in_items q b.items

-- in the bodies of functions
abbrev pub in_external : Counting → ExternalTree → ℕ
in_external q (function f) = in_block q f.body
in_external q (objects storage d) = 0
in_external q (type_names d) = 0

abbrev pub in_externals : Counting → List ExternalTree → ℕ
in_externals q [] = 0
in_externals q (x ∷ xs) = in_external q x + in_externals q xs

abbrev pub in_tokens : Counting → List Token → ℕ
in_tokens q [] = 0
in_tokens q (t ∷ ts) = q t.at + in_tokens q ts
