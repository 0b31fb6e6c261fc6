-- Trees of a text whose constants are numbers of their types: those of tokens are (C99 6.4.4).
use Rattle.std.specs.Prelude.{pos, List, [], ◌∷◌, Option, Some, None}
use Rattle.pk_ctypes.specs.declared.types.IntType.TheVariants.{Int}
use Rattle.pk_ctypes.specs.Types.{InType}
use Rattle.pk_ast.specs.Trees.{ExpressionTree, name, call, index, element, constant, character, parenthesized, postfix, prefix, unary, cast, binary, conditional, assignment, comma, ExpressionTrees, no_expressions, expression_then, InitializerItemTree, item_value, item_row, InitializerTree, single, braced, DimensionsTree, DeclaratorTree, DeclarationTree, ForStartTree, declaration, expression, StatementTree, block, empty, expression_statement, label, case, default, if_then, if_else, switch, while, do_while, for_loop, goto, continue, break, return, ItemTrees, no_items, declaration_then, statement_then, BlockTree, ExternalTree, function, objects, type_names}

unfoldable mutual
  pub HasConstants : ExpressionTree → Type 0
  HasConstants (name x) = Unit {0}
  HasConstants (call x es) = HaveConstants es
  HasConstants (index x at e) = HasConstants e
  HasConstants (element x at e column_at c) = HasConstants e × HasConstants c
  HasConstants (constant at t n) = InType t (pos n)
  HasConstants (character at n) = InType Int n
  HasConstants (parenthesized at e) = HasConstants e
  HasConstants (postfix op at e) = HasConstants e
  HasConstants (prefix op at e) = HasConstants e
  HasConstants (unary op at e) = HasConstants e
  HasConstants (cast at words e) = HasConstants e
  HasConstants (binary op at a b) = HasConstants a × HasConstants b
  HasConstants (conditional at a b c) = HasConstants a × HasConstants b × HasConstants c
  HasConstants (assignment op at a b) = HasConstants a × HasConstants b
  HasConstants (comma at a b) = HasConstants a × HasConstants b

  pub HaveConstants : ExpressionTrees → Type 0
  HaveConstants no_expressions = Unit {0}
  HaveConstants (expression_then e es) = HasConstants e × HaveConstants es

abbrev pub HasConstantsIf : Option ExpressionTree → Type 0
HasConstantsIf None = Unit {0}
HasConstantsIf (Some e) = HasConstants e

abbrev pub InitializerItemHas : InitializerItemTree → Type 0
InitializerItemHas (item_value e) = HasConstants e
InitializerItemHas (item_row at e es) = HasConstants e × HaveConstants es

abbrev pub InitializerItemsHave : List InitializerItemTree → Type 0
InitializerItemsHave [] = Unit {0}
InitializerItemsHave (i ∷ is) = InitializerItemHas i × InitializerItemsHave is

abbrev pub InitializerHas : Option InitializerTree → Type 0
InitializerHas None = Unit {0}
InitializerHas (Some (single e)) = HasConstants e
InitializerHas (Some (braced at is)) = InitializerItemHas is.first × InitializerItemsHave is.more

abbrev pub DimensionsHave : Option DimensionsTree → Type 0
DimensionsHave None = Unit {0}
DimensionsHave (Some d) = HasConstants d.length × HasConstantsIf d.columns

abbrev pub DeclaratorHas : DeclaratorTree → Type 0
DeclaratorHas d = DimensionsHave d.dimensions × InitializerHas d.initializer

abbrev pub DeclaratorsHave : List DeclaratorTree → Type 0
DeclaratorsHave [] = Unit {0}
DeclaratorsHave (d ∷ ds) = DeclaratorHas d × DeclaratorsHave ds

abbrev pub DeclarationHas : DeclarationTree → Type 0
DeclarationHas d = DeclaratorsHave d.declarators

abbrev pub StartHas : ForStartTree → Type 0
StartHas (declaration d) = DeclarationHas d
StartHas (expression e) = HasConstantsIf e

unfoldable mutual
  pub StatementHas : StatementTree → Type 0
  StatementHas (block opened items closed) = ItemsHave items
  StatementHas (empty at) = Unit {0}
  StatementHas (expression_statement e) = HasConstants e
  StatementHas (label x s) = StatementHas s
  StatementHas (case at e s) = HasConstants e × StatementHas s
  StatementHas (default at s) = StatementHas s
  StatementHas (if_then at e s) = HasConstants e × StatementHas s
  StatementHas (if_else at e s t) = HasConstants e × StatementHas s × StatementHas t
  StatementHas (switch at e s) = HasConstants e × StatementHas s
  StatementHas (while at e s) = HasConstants e × StatementHas s
  StatementHas (do_while at s e) = StatementHas s × HasConstants e
  StatementHas (for_loop at start test step s) =
      StartHas start × HasConstantsIf test × HasConstantsIf step × StatementHas s
  StatementHas (goto at x) = Unit {0}
  StatementHas (continue at) = Unit {0}
  StatementHas (break at) = Unit {0}
  StatementHas (return at e) = HasConstantsIf e

  pub ItemsHave : ItemTrees → Type 0
  ItemsHave no_items = Unit {0}
  ItemsHave (declaration_then s d items) = DeclarationHas d × ItemsHave items
  ItemsHave (statement_then s items) = StatementHas s × ItemsHave items

abbrev pub BlockHas : Option BlockTree → Type 0
BlockHas None = Unit {0}
BlockHas (Some b) = ItemsHave b.items

abbrev pub ExternalHas : ExternalTree → Type 0
ExternalHas (function f) = BlockHas f.body
ExternalHas (objects storage d) = DeclarationHas d
ExternalHas (type_names d) = Unit {0}

abbrev pub ExternalsHave : List ExternalTree → Type 0
ExternalsHave [] = Unit {0}
ExternalsHave (x ∷ xs) = ExternalHas x × ExternalsHave xs
