-- The names in trees, type names and tags among them, as they stand in the text, in its order.
use Rattle.std.specs.Prelude.{ℕ, false, List, [], ◌∷◌, ◌++◌, Option, Some, None}
use Rattle.pk_ctypes.specs.declared.places.Pos.{Pos}
use Rattle.pk_ast.specs.declared.declarations.Specifier.{Specifier}
use Rattle.pk_ast.specs.declared.declarations.SpecifierWord.{SpecifierWord}
use Rattle.pk_ast.specs.declared.declarations.SpecifierWord.TheVariants as word
use Rattle.pk_ast.specs.declared.expressions.Identifier.{Identifier}
use Rattle.pk_ast.specs.Trees.{OneOrMore, ExpressionTree, name, call, index, element, constant, character, parenthesized, postfix, prefix, unary, cast, binary, conditional, assignment, comma, ExpressionTrees, no_expressions, expression_then, InitializerItemTree, item_value, item_row, InitializerTree, single, braced, DimensionsTree, DeclaratorTree, EnumeratorTree, EnumerationTree, DeclarationTree, ForStartTree, declaration, expression, StatementTree, block, empty, expression_statement, label, case, default, if_then, if_else, switch, while, do_while, for_loop, goto, continue, break, return, ItemTrees, no_items, declaration_then, statement_then, BlockTree, BracketsTree, ParameterTree, ExternalTree, function, objects, type_names}

-- the name that stands there
abbrev pub name_at : ℕ → ℕ → Pos → Identifier
name_at start end at = record { start = start; end = end; at = at; is_tag = false }

-- the word of a type that stands at this place, where it is a type name or a tag
abbrev pub word_name : SpecifierWord → Pos → List Identifier
word_name word.Void at = []
word_name word.Char at = []
word_name word.Short at = []
word_name word.Int at = []
word_name word.Long at = []
word_name word.Signed at = []
word_name word.Unsigned at = []
word_name word.Const at = []
word_name (word.TypeName start end) at = name_at start end at ∷ []
word_name word.Enum at = []
word_name (word.Tag start end) at = name_at start end at ∷ []

abbrev pub word_names : List Specifier → List Identifier
word_names [] = []
word_names (s ∷ more) = word_name s.word s.at ++ word_names more

abbrev pub specifier_names : OneOrMore Specifier → List Identifier
specifier_names words = word_name words.first.word words.first.at ++ word_names words.more

unfoldable mutual
  pub expression_names : ExpressionTree → List Identifier
  expression_names (name x) = x ∷ []
  expression_names (call x es) = x ∷ list_names es
  expression_names (index x at e) = x ∷ expression_names e
  expression_names (element x at e column_at c) = x ∷ (expression_names e ++ expression_names c)
  expression_names (constant at t n) = []
  expression_names (character at n) = []
  expression_names (parenthesized at e) = expression_names e
  expression_names (postfix op at e) = expression_names e
  expression_names (prefix op at e) = expression_names e
  expression_names (unary op at e) = expression_names e
  expression_names (cast at specifiers e) = specifier_names specifiers ++ expression_names e
  expression_names (binary op at a b) = expression_names a ++ expression_names b
  expression_names (conditional at a b c) = expression_names a ++ expression_names b ++ expression_names c
  expression_names (assignment op at a b) = expression_names a ++ expression_names b
  expression_names (comma at a b) = expression_names a ++ expression_names b

  pub list_names : ExpressionTrees → List Identifier
  list_names no_expressions = []
  list_names (expression_then e es) = expression_names e ++ list_names es

abbrev pub optional_names : Option ExpressionTree → List Identifier
optional_names None = []
optional_names (Some e) = expression_names e

abbrev pub initializer_item_names : InitializerItemTree → List Identifier
initializer_item_names (item_value e) = expression_names e
initializer_item_names (item_row at e es) = expression_names e ++ list_names es

abbrev pub all_initializer_item_names : List InitializerItemTree → List Identifier
all_initializer_item_names [] = []
all_initializer_item_names (i ∷ is) = initializer_item_names i ++ all_initializer_item_names is

abbrev pub initializer_names : Option InitializerTree → List Identifier
initializer_names None = []
initializer_names (Some (single e)) = expression_names e
initializer_names (Some (braced at is)) = initializer_item_names is.first ++ all_initializer_item_names is.more

abbrev pub dimensions_names : Option DimensionsTree → List Identifier
dimensions_names None = []
dimensions_names (Some d) = expression_names d.length ++ optional_names d.columns

abbrev pub declarator_names : DeclaratorTree → List Identifier
declarator_names d = d.name ∷ (dimensions_names d.dimensions ++ initializer_names d.initializer)

abbrev pub all_declarator_names : List DeclaratorTree → List Identifier
all_declarator_names [] = []
all_declarator_names (d ∷ ds) = declarator_names d ++ all_declarator_names ds

abbrev pub enumerator_names : EnumeratorTree → List Identifier
enumerator_names x = x.name ∷ optional_names x.value

abbrev pub all_enumerator_names : List EnumeratorTree → List Identifier
all_enumerator_names [] = []
all_enumerator_names (x ∷ xs) = enumerator_names x ++ all_enumerator_names xs

abbrev pub enumeration_names : Option EnumerationTree → List Identifier
enumeration_names None = []
enumeration_names (Some e) =
    (enumerator_names e.enumerators.first ++ all_enumerator_names e.enumerators.more) ++ word_names e.qualifiers

abbrev pub declaration_names : DeclarationTree → List Identifier
declaration_names d =
    specifier_names d.specifiers ++ (enumeration_names d.enumeration ++ all_declarator_names d.declarators)

abbrev pub for_start_names : ForStartTree → List Identifier
for_start_names (declaration d) = declaration_names d
for_start_names (expression e) = optional_names e

unfoldable mutual
  pub statement_names : StatementTree → List Identifier
  statement_names (block opened items closed) = item_names items
  statement_names (empty at) = []
  statement_names (expression_statement e) = expression_names e
  statement_names (label x s) = x ∷ statement_names s
  statement_names (case at e s) = expression_names e ++ statement_names s
  statement_names (default at s) = statement_names s
  statement_names (if_then at e s) = expression_names e ++ statement_names s
  statement_names (if_else at e s t) = expression_names e ++ statement_names s ++ statement_names t
  statement_names (switch at e s) = expression_names e ++ statement_names s
  statement_names (while at e s) = expression_names e ++ statement_names s
  statement_names (do_while at s e) = statement_names s ++ expression_names e
  statement_names (for_loop at start condition step s) =
      for_start_names start ++ optional_names condition ++ optional_names step ++ statement_names s
  statement_names (goto at x) = x ∷ []
  statement_names (continue at) = []
  statement_names (break at) = []
  statement_names (return at e) = optional_names e

  pub item_names : ItemTrees → List Identifier
  item_names no_items = []
  item_names (declaration_then s d items) = declaration_names d ++ item_names items
  item_names (statement_then s items) = statement_names s ++ item_names items

abbrev pub body_names : Option BlockTree → List Identifier
body_names None = []
body_names (Some b) = item_names b.items

abbrev pub optional_name : Option Identifier → List Identifier
optional_name None = []
optional_name (Some x) = x ∷ []

abbrev pub brackets_names : Option BracketsTree → List Identifier
brackets_names None = []
brackets_names (Some b) = optional_names b.length ++ optional_names b.columns

abbrev pub parameter_names : List ParameterTree → List Identifier
parameter_names [] = []
parameter_names (p ∷ ps) =
    (specifier_names p.specifiers ++ (optional_name p.name ++ brackets_names p.brackets)) ++ parameter_names ps

abbrev pub external_names : ExternalTree → List Identifier
external_names (function f) =
    specifier_names f.specifiers ++ (f.name ∷ (parameter_names f.parameters ++ body_names f.body))
external_names (objects storage d) = declaration_names d
external_names (type_names d) =
    specifier_names d.specifiers ++ (enumeration_names d.enumeration ++ (d.names.first ∷ d.names.more))

-- those of a text
abbrev pub names_of : List ExternalTree → List Identifier
names_of [] = []
names_of (x ∷ xs) = external_names x ++ names_of xs
