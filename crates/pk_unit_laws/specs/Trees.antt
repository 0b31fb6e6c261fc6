-- What holds of places in the trees of a text: P of those that its typed trees may have, which are places in the bodies of functions, but those of words of types.
use Rattle.std.specs.Prelude.{List, [], ◌∷◌, Option, Some, None, IfSome}
use Rattle.pk_places_laws.specs.Places.{OfPlaces}
use Rattle.pk_ast.specs.Trees.{ExpressionTree, name, call, index, element, constant, character, parenthesized, postfix, prefix, unary, cast, binary, conditional, assignment, comma, ExpressionTrees, no_expressions, expression_then, InitializerItemTree, item_value, item_row, InitializerTree, single, braced, DimensionsTree, DeclaratorTree, EnumeratorTree, EnumerationTree, DeclarationTree, ForStartTree, declaration, expression, StatementTree, block, empty, expression_statement, label, case, default, if_then, if_else, switch, while, do_while, for_loop, goto, continue, break, return, ItemTrees, no_items, declaration_then, statement_then, BlockTree, ExternalTree, function, objects, type_names}

unfoldable mutual
  pub InExpression : OfPlaces → ExpressionTree → Type 0
  InExpression P (name x) = P x.at
  InExpression P (call x es) = P x.at × InExpressions P es
  InExpression P (index x at e) = P x.at × P at × InExpression P e
  InExpression P (element x at e column_at c) = P x.at × P at × InExpression P e × P column_at × InExpression P c
  InExpression P (constant at t n) = P at
  InExpression P (character at n) = P at
  InExpression P (parenthesized at e) = P at × InExpression P e
  InExpression P (postfix op at e) = P at × InExpression P e
  InExpression P (prefix op at e) = P at × InExpression P e
  InExpression P (unary op at e) = P at × InExpression P e
  InExpression P (cast at words e) = P at × InExpression P e
  InExpression P (binary op at a b) = P at × InExpression P a × InExpression P b
  InExpression P (conditional at a b c) = P at × InExpression P a × InExpression P b × InExpression P c
  InExpression P (assignment op at a b) = P at × InExpression P a × InExpression P b
  InExpression P (comma at a b) = P at × InExpression P a × InExpression P b

  pub InExpressions : OfPlaces → ExpressionTrees → Type 0
  InExpressions P no_expressions = Unit {0}
  InExpressions P (expression_then e es) = InExpression P e × InExpressions P es

abbrev pub InOptional : OfPlaces → Option ExpressionTree → Type 0
InOptional P e = IfSome e (InExpression P)

abbrev pub InInitializerItem : OfPlaces → InitializerItemTree → Type 0
InInitializerItem P (item_value e) = InExpression P e
InInitializerItem P (item_row at e es) = P at × InExpression P e × InExpressions P es

abbrev pub InInitializerItems : OfPlaces → List InitializerItemTree → Type 0
InInitializerItems P [] = Unit {0}
InInitializerItems P (i ∷ is) = InInitializerItem P i × InInitializerItems P is

abbrev pub InInitializer : OfPlaces → Option InitializerTree → Type 0
InInitializer P None = Unit {0}
InInitializer P (Some (single e)) = InExpression P e
InInitializer P (Some (braced at is)) = P at × InInitializerItem P is.first × InInitializerItems P is.more

abbrev pub InDimensions : OfPlaces → Option DimensionsTree → Type 0
InDimensions P None = Unit {0}
InDimensions P (Some d) = InExpression P d.length × InOptional P d.columns

abbrev pub InDeclarator : OfPlaces → DeclaratorTree → Type 0
InDeclarator P d = P d.name.at × InDimensions P d.dimensions × InInitializer P d.initializer

abbrev pub InDeclarators : OfPlaces → List DeclaratorTree → Type 0
InDeclarators P [] = Unit {0}
InDeclarators P (d ∷ ds) = InDeclarator P d × InDeclarators P ds

abbrev pub InEnumerator : OfPlaces → EnumeratorTree → Type 0
InEnumerator P x = P x.name.at × InOptional P x.value

abbrev pub InEnumerators : OfPlaces → List EnumeratorTree → Type 0
InEnumerators P [] = Unit {0}
InEnumerators P (x ∷ xs) = InEnumerator P x × InEnumerators P xs

abbrev pub InEnumeration : OfPlaces → Option EnumerationTree → Type 0
InEnumeration P None = Unit {0}
InEnumeration P (Some e) = InEnumerator P e.enumerators.first × InEnumerators P e.enumerators.more

abbrev pub InDeclaration : OfPlaces → DeclarationTree → Type 0
InDeclaration P d = InEnumeration P d.enumeration × InDeclarators P d.declarators

abbrev pub InStart : OfPlaces → ForStartTree → Type 0
InStart P (declaration d) = InDeclaration P d
InStart P (expression e) = InOptional P e

unfoldable mutual
  pub InStatement : OfPlaces → StatementTree → Type 0
  InStatement P (block opened items closed) = P opened × InItems P items × P closed
  InStatement P (empty at) = P at
  InStatement P (expression_statement e) = InExpression P e
  InStatement P (label x s) = P x.at × InStatement P s
  InStatement P (case at e s) = P at × InExpression P e × InStatement P s
  InStatement P (default at s) = P at × InStatement P s
  InStatement P (if_then at e s) = P at × InExpression P e × InStatement P s
  InStatement P (if_else at e s t) = P at × InExpression P e × InStatement P s × InStatement P t
  InStatement P (switch at e s) = P at × InExpression P e × InStatement P s
  InStatement P (while at e s) = P at × InExpression P e × InStatement P s
  InStatement P (do_while at s e) = P at × InStatement P s × InExpression P e
  InStatement P (for_loop at start test step s) =
      P at × InStart P start × InOptional P test × InOptional P step × InStatement P s
  InStatement P (goto at x) = P at
  InStatement P (continue at) = P at
  InStatement P (break at) = P at
  InStatement P (return at e) = P at × InOptional P e

  pub InItems : OfPlaces → ItemTrees → Type 0
  InItems P no_items = Unit {0}
  InItems P (declaration_then s d items) = InDeclaration P d × InItems P items
  InItems P (statement_then s items) = InStatement P s × InItems P items

abbrev pub InBlock : OfPlaces → Option BlockTree → Type 0
InBlock P None = Unit {0}
InBlock P (Some b) = P b.opened × InItems P b.items × P b.closed

abbrev pub InExternal : OfPlaces → ExternalTree → Type 0
InExternal P (function f) = InBlock P f.body
InExternal P (objects storage d) = Unit {0}
InExternal P (type_names d) = Unit {0}

abbrev pub InExternals : OfPlaces → List ExternalTree → Type 0
InExternals P [] = Unit {0}
InExternals P (x ∷ xs) = InExternal P x × InExternals P xs
