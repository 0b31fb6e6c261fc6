-- The tree that a value of the code stands for, without where it lies in memory.
use Rattle.std.specs.Prelude.{List, [], ◌∷◌, Option, option_map, map}
use Rattle.std.specs.declared.alloc.Global.{Global}
use Rattle.std.specs.declared.boxed.Box.{Box}
use Rattle.pk_ast.specs.declared.declarations.Specifier.{Specifier}
use Rattle.pk_ast.specs.declared.declarations.Specifiers.{Specifiers}
use Rattle.pk_ast.specs.declared.declarations.Initializer.{Initializer}
use Rattle.pk_ast.specs.declared.declarations.Initializer.TheVariants.{Single, Braced}
use Rattle.pk_ast.specs.declared.declarations.InitializerItem.{InitializerItem}
use Rattle.pk_ast.specs.declared.declarations.InitializerItem.TheVariants as initial
use Rattle.pk_ast.specs.declared.declarations.Dimensions.{Dimensions}
use Rattle.pk_ast.specs.declared.declarations.Declarator.{Declarator}
use Rattle.pk_ast.specs.declared.declarations.Enumerator.{Enumerator}
use Rattle.pk_ast.specs.declared.declarations.Enumeration.{Enumeration}
use Rattle.pk_ast.specs.declared.declarations.Declaration.{Declaration}
use Rattle.pk_ast.specs.declared.expressions.Expression.{Expression, Row_of-Expression, end_of-Expression, more_of-Expression}
use Rattle.pk_ast.specs.declared.expressions.Expression.TheVariants.{Name, Call', Index', Element', Constant, Character, Parenthesized', Postfix', Prefix', Unary', Cast', Binary', Conditional', Assignment', Comma'}
use Rattle.pk_ast.specs.declared.statements.ForStart as declared_for_start
use Rattle.pk_ast.specs.declared.statements.ForStart.TheVariants as for_starts
use Rattle.pk_ast.specs.declared.statements.Statement.{Statement}
use Rattle.pk_ast.specs.declared.statements.Statement.TheVariants as statements
use Rattle.pk_ast.specs.declared.statements.Block as declared_block
use Rattle.pk_ast.specs.declared.statements.Block.{Row_of-BlockItem, end_of-BlockItem, more_of-BlockItem}
use Rattle.pk_ast.specs.declared.statements.BlockItem.{BlockItem}
use Rattle.pk_ast.specs.declared.statements.BlockItem.TheVariants as items
use Rattle.pk_ast.specs.declared.units.Brackets.{Brackets}
use Rattle.pk_ast.specs.declared.units.Parameter.{Parameter}
use Rattle.pk_ast.specs.declared.units.Function.{Function}
use Rattle.pk_ast.specs.declared.units.External.{External}
use Rattle.pk_ast.specs.declared.units.Typedef.{Typedef}
use Rattle.pk_ast.specs.declared.units.External.TheVariants as externals
use Rattle.pk_ast.specs.declared.units.Unit as declared_unit
use Rattle.pk_ast.specs.Trees.{OneOrMore, ExpressionTree, ExpressionTrees, InitializerItemTree, InitializerTree, DimensionsTree, DeclaratorTree, EnumeratorTree, EnumerationTree, DeclarationTree, ForStartTree, StatementTree, ItemTrees, BlockTree, BracketsTree, ParameterTree, FunctionTree, TypedefTree, ExternalTree}
use Rattle.pk_ast.specs.Trees.{name, call, index, element, constant, character, parenthesized, postfix, prefix, unary, cast, binary, conditional, assignment, comma, no_expressions, expression_then, item_value, item_row, single, braced}
use Rattle.pk_ast.specs.Trees.{declaration, expression, block, empty, expression_statement, label, case, default, if_then, if_else, switch, while, do_while, for_loop, goto, continue, break, return, no_items, declaration_then, statement_then, function, objects, type_names}

abbrev pub specifiers_tree : Specifiers → OneOrMore Specifier
specifiers_tree s = record { first = s.first; more = s.more.items }

unfoldable mutual
  pub expression_tree : Expression → ExpressionTree
  expression_tree (Name x) = name x
  expression_tree (Call' x shape arguments) = call x (expressions_of_row arguments)
  expression_tree (Index' x at p e) = index x at (expression_tree e)
  expression_tree (Element' x p e q c) =
      element x.value.array x.value.at (expression_tree e) x.value.column_at (expression_tree c)
  expression_tree (Constant at t n) = constant at t n
  expression_tree (Character at n) = character at n
  expression_tree (Parenthesized' at p e) = parenthesized at (expression_tree e)
  expression_tree (Postfix' op at p e) = postfix op at (expression_tree e)
  expression_tree (Prefix' op at p e) = prefix op at (expression_tree e)
  expression_tree (Unary' op at p e) = unary op at (expression_tree e)
  expression_tree (Cast' at specifiers p e) = cast at (specifiers_tree specifiers.value) (expression_tree e)
  expression_tree (Binary' op at p a q b) = binary op at (expression_tree a) (expression_tree b)
  expression_tree (Conditional' at p a q b r c) =
      conditional at (expression_tree a) (expression_tree b) (expression_tree c)
  expression_tree (Assignment' op at p a q b) = assignment op at (expression_tree a) (expression_tree b)
  expression_tree (Comma' at p a q b) = comma at (expression_tree a) (expression_tree b)

  -- those of a `Vec`, which is a row of them
  pub expressions_of_row : {n : _} → Row_of-Expression n → ExpressionTrees
  expressions_of_row end_of-Expression = no_expressions
  expressions_of_row (more_of-Expression e rest) = expression_then (expression_tree e) (expressions_of_row rest)

abbrev pub expression_trees : List Expression → ExpressionTrees
expression_trees [] = no_expressions
expression_trees (e ∷ es) = expression_then (expression_tree e) (expression_trees es)

unfoldable pub initializer_item_tree : InitializerItem → InitializerItemTree
initializer_item_tree (initial.Value e) = item_value (expression_tree e)
initializer_item_tree (initial.Row r) =
    item_row r.value.at (expression_tree r.value.first) (expression_trees r.value.more.items)

abbrev pub initializer_item_trees : List InitializerItem → List InitializerItemTree
initializer_item_trees = map initializer_item_tree

unfoldable pub initializer_tree : Initializer → InitializerTree
initializer_tree (Single e) = single (expression_tree e)
initializer_tree (Braced at i is) =
    braced at (record { first = initializer_item_tree i; more = initializer_item_trees is.items })

unfoldable pub dimensions_tree : Dimensions → DimensionsTree
dimensions_tree d =
    record { length = expression_tree d.length; columns = option_map expression_tree d.columns }

unfoldable pub declarator_tree : Declarator → DeclaratorTree
declarator_tree d =
    record {
      name = d.name;
      dimensions = option_map dimensions_tree d.dimensions;
      initializer = option_map initializer_tree d.initializer;
    }

abbrev pub declarator_trees : List Declarator → List DeclaratorTree
declarator_trees = map declarator_tree

unfoldable pub enumerator_tree : Enumerator → EnumeratorTree
enumerator_tree x = record { name = x.name; value = option_map expression_tree x.value }

abbrev pub enumerator_trees : List Enumerator → List EnumeratorTree
enumerator_trees = map enumerator_tree

unfoldable pub enumeration_tree : Enumeration → EnumerationTree
enumeration_tree e =
    record {
      enumerators = record { first = enumerator_tree e.first; more = enumerator_trees e.more.items };
      qualifiers = e.qualifiers.items;
    }

-- what lies on the heap, where there is one
abbrev pub unboxed : {T : Type 0} → Option (Box T Global) → Option T
unboxed = option_map (λ b. b.value)

-- the enumeration of a declaration, where it has one
abbrev pub braces_tree : Option (Box Enumeration Global) → Option EnumerationTree
braces_tree b = option_map enumeration_tree (unboxed b)

unfoldable pub declaration_tree : Declaration → DeclarationTree
declaration_tree d =
    record {
      specifiers = specifiers_tree d.specifiers;
      enumeration = braces_tree d.enumeration;
      declarators = declarator_trees d.declarators.items;
    }

unfoldable pub for_start_tree : declared_for_start.ForStart → ForStartTree
for_start_tree (for_starts.Declaration d) = declaration (declaration_tree d)
for_start_tree (for_starts.Expression e) = expression (option_map expression_tree e)

unfoldable mutual
  pub statement_tree : Statement → StatementTree
  statement_tree (statements.Block' opened shape list closed) = block opened (items_of_row list) closed
  statement_tree (statements.Empty at) = empty at
  statement_tree (statements.Expression e) = expression_statement (expression_tree e)
  statement_tree (statements.Label' x p s) = label x (statement_tree s)
  statement_tree (statements.Case' at e p s) = case at (expression_tree e) (statement_tree s)
  statement_tree (statements.Default' at p s) = default at (statement_tree s)
  statement_tree (statements.If' at e p s) = if_then at (expression_tree e) (statement_tree s)
  statement_tree (statements.IfElse' at e p s q t) =
      if_else at (expression_tree e) (statement_tree s) (statement_tree t)
  statement_tree (statements.Switch' at e p s) = switch at (expression_tree e) (statement_tree s)
  statement_tree (statements.While' at e p s) = while at (expression_tree e) (statement_tree s)
  statement_tree (statements.Do' at p s e) = do_while at (statement_tree s) (expression_tree e)
  statement_tree (statements.For' at head p s) =
      let h = head.value in for_loop at (for_start_tree h.start) (option_map expression_tree h.condition)
      (option_map expression_tree h.step) (statement_tree s)
  statement_tree (statements.Goto at x) = goto at x
  statement_tree (statements.Continue at) = continue at
  statement_tree (statements.Break at) = break at
  statement_tree (statements.Return at e) = return at (option_map expression_tree e)

  -- those of a `Vec`, which is a row of them
  pub items_of_row : {n : _} → Row_of-BlockItem n → ItemTrees
  items_of_row end_of-BlockItem = no_items
  items_of_row (more_of-BlockItem (items.Declaration s d) rest) =
      declaration_then s (declaration_tree d.value) (items_of_row rest)
  items_of_row (more_of-BlockItem (items.Statement s) rest) = statement_then (statement_tree s) (items_of_row rest)

abbrev pub item_trees : List BlockItem → ItemTrees
item_trees [] = no_items
item_trees (items.Declaration s d ∷ rest) = declaration_then s (declaration_tree d.value) (item_trees rest)
item_trees (items.Statement s ∷ rest) = statement_then (statement_tree s) (item_trees rest)

unfoldable pub block_tree : declared_block.Block → BlockTree
block_tree b = record { opened = b.open; items = item_trees b.items.items; closed = b.close }

unfoldable pub brackets_tree : Brackets → BracketsTree
brackets_tree b =
    record { length = option_map expression_tree b.length; columns = option_map expression_tree b.columns }

unfoldable pub parameter_tree : Parameter → ParameterTree
parameter_tree p =
    record {
      specifiers = specifiers_tree p.specifiers;
      name = p.name;
      brackets = option_map brackets_tree p.brackets;
    }

abbrev pub parameter_trees : List Parameter → List ParameterTree
parameter_trees = map parameter_tree

unfoldable pub function_tree : Function → FunctionTree
function_tree f = record {
  storage = f.storage;
  specifiers = specifiers_tree f.specifiers;
  name = f.name;
  parameters = parameter_trees f.parameters.items;
  body = option_map block_tree f.body;
}

unfoldable pub typedef_tree : Typedef → TypedefTree
typedef_tree d = record {
  specifiers = specifiers_tree d.specifiers;
  enumeration = braces_tree d.enumeration;
  names = record { first = d.first; more = d.more.items };
}

unfoldable pub external_tree : External → ExternalTree
external_tree (externals.Function f) = function (function_tree f)
external_tree (externals.Declaration storage d) = objects storage (declaration_tree d)
external_tree (externals.TypeNames d) = type_names (typedef_tree d)

abbrev pub external_trees : List External → List ExternalTree
external_trees = map external_tree

-- a text, by its external definitions
unfoldable pub unit_tree : declared_unit.Unit → List ExternalTree
unit_tree u = external_trees u.externals.items
