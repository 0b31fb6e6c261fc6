-- The grammar, as a relation between trees and whole lists of tokens, each with its nesting (after C99 6.5 to 6.9).
use Rattle.std.specs.Prelude.{◌≡◌, ℕ, ◌+◌, ◌≤◌, ◌⊎◌, List, [], ◌∷◌, Option, Some, None}
use Rattle.pk_ctypes.specs.declared.places.Pos.{Pos}
use Rattle.pk_lex.specs.declared.token.Token.{Token}
use Rattle.pk_lex.specs.declared.token.Kind.TheVariants as kind
use Rattle.pk_lex.specs.declared.token.Keyword.{Keyword}
use Rattle.pk_lex.specs.declared.token.Keyword.TheVariants as key
use Rattle.pk_lex.specs.declared.token.Punctuator.{Punctuator}
use Rattle.pk_lex.specs.declared.token.Punctuator.TheVariants as mark
use Rattle.pk_ast.specs.declared.declarations.Specifier.{Specifier}
use Rattle.pk_ast.specs.declared.declarations.SpecifierWord.{SpecifierWord}
use Rattle.pk_ast.specs.declared.declarations.SpecifierWord.TheVariants as word
use Rattle.pk_ast.specs.declared.expressions.Identifier.{Identifier}
use Rattle.pk_ast.specs.declared.operators.BinaryOperator.{BinaryOperator}
use Rattle.pk_ast.specs.declared.operators.BinaryOperator.TheVariants as op
use Rattle.pk_ast.specs.declared.operators.UnaryOperator.{UnaryOperator}
use Rattle.pk_ast.specs.declared.operators.UnaryOperator.TheVariants as un
use Rattle.pk_ast.specs.declared.operators.StepOperator.{StepOperator}
use Rattle.pk_ast.specs.declared.operators.StepOperator.TheVariants as step
use Rattle.pk_ast.specs.declared.operators.AssignmentOperator.{AssignmentOperator}
use Rattle.pk_ast.specs.declared.operators.AssignmentOperator.TheVariants as asg
use Rattle.pk_ast.specs.declared.units.Storage.{Storage}
use Rattle.pk_ast.specs.declared.units.StorageWord.{StorageWord}
use Rattle.pk_ast.specs.declared.units.StorageWord.TheVariants as storage
use Rattle.pk_ast.specs.Trees.{OneOrMore, ExpressionTree, name, call, index, element, constant, character, parenthesized, postfix, prefix, unary, cast, binary, conditional, assignment, comma, ExpressionTrees, no_expressions, expression_then, InitializerItemTree, item_value, item_row, InitializerTree, single, braced, DimensionsTree, DeclaratorTree, EnumeratorTree, EnumerationTree, DeclarationTree, ForStartTree, declaration, expression, StatementTree, block, empty, expression_statement, label, case, default, if_then, if_else, switch, while, do_while, for_loop, goto, continue, break, return, ItemTrees, no_items, declaration_then, statement_then, BlockTree, BracketsTree, ParameterTree, ExternalTree, function, objects, type_names}
use Rattle.pk_grammar.specs.Languages.{Marked, Language, Nothing, One, At, Any, Identified, ◌⊙◌, Inside, Past, Optional, Where}

-- Signs

abbrev pub binary_sign : BinaryOperator → Punctuator
binary_sign op.LogicalOr = mark.LogicalOr
binary_sign op.LogicalAnd = mark.LogicalAnd
binary_sign op.Or = mark.Bar
binary_sign op.ExclusiveOr = mark.Caret
binary_sign op.And = mark.Ampersand
binary_sign op.Equal = mark.Equal
binary_sign op.NotEqual = mark.NotEqual
binary_sign op.Less = mark.Less
binary_sign op.Greater = mark.Greater
binary_sign op.LessOrEqual = mark.LessOrEqual
binary_sign op.GreaterOrEqual = mark.GreaterOrEqual
binary_sign op.ShiftLeft = mark.ShiftLeft
binary_sign op.ShiftRight = mark.ShiftRight
binary_sign op.Add = mark.Plus
binary_sign op.Subtract = mark.Minus
binary_sign op.Multiply = mark.Star
binary_sign op.Divide = mark.Slash
binary_sign op.Remainder = mark.Percent

abbrev pub unary_sign : UnaryOperator → Punctuator
unary_sign un.Plus = mark.Plus
unary_sign un.Minus = mark.Minus
unary_sign un.Complement = mark.Tilde
unary_sign un.Not = mark.Exclamation

abbrev pub step_sign : StepOperator → Punctuator
step_sign step.Increment = mark.Increment
step_sign step.Decrement = mark.Decrement

abbrev pub assignment_sign : AssignmentOperator → Punctuator
assignment_sign asg.Assign = mark.Assign
assignment_sign asg.Multiply = mark.StarAssign
assignment_sign asg.Divide = mark.SlashAssign
assignment_sign asg.Remainder = mark.PercentAssign
assignment_sign asg.Add = mark.PlusAssign
assignment_sign asg.Subtract = mark.MinusAssign
assignment_sign asg.ShiftLeft = mark.ShiftLeftAssign
assignment_sign asg.ShiftRight = mark.ShiftRightAssign
assignment_sign asg.And = mark.AmpersandAssign
assignment_sign asg.ExclusiveOr = mark.CaretAssign
assignment_sign asg.Or = mark.BarAssign

-- the token is this word of a type, this type name or this tag
abbrev pub IsWord : SpecifierWord → Token → Type 0
IsWord word.Void t = t.kind ≡ kind.Keyword key.Void
IsWord word.Char t = t.kind ≡ kind.Keyword key.Char
IsWord word.Short t = t.kind ≡ kind.Keyword key.Short
IsWord word.Int t = t.kind ≡ kind.Keyword key.Int
IsWord word.Long t = t.kind ≡ kind.Keyword key.Long
IsWord word.Signed t = t.kind ≡ kind.Keyword key.Signed
IsWord word.Unsigned t = t.kind ≡ kind.Keyword key.Unsigned
IsWord word.Const t = t.kind ≡ kind.Keyword key.Const
IsWord (word.TypeName start end) t = (t.kind ≡ kind.TypeName) × (t.start ≡ start) × (t.end ≡ end)
IsWord word.Enum t = t.kind ≡ kind.Keyword key.Enum
IsWord (word.Tag start end) t = (t.kind ≡ kind.Name) × (t.start ≡ start) × (t.end ≡ end)

abbrev pub storage_keyword : StorageWord → Keyword
storage_keyword storage.Static = key.Static
storage_keyword storage.Extern = key.Extern

-- a punctuator or a keyword, at a place or at any
abbrev pub punctuator_at : Punctuator → Pos → Language
punctuator_at p at = At (kind.Punctuator p) at

abbrev pub punctuator : Punctuator → Language
punctuator p = Any (kind.Punctuator p)

abbrev pub keyword_at : Keyword → Pos → Language
keyword_at k at = At (kind.Keyword k) at

abbrev pub keyword : Keyword → Language
keyword k = Any (kind.Keyword k)

-- Expressions

-- The forms of expressions are nested from the weakest, an expression with commas, to the strongest, an operand of postfix operators.
-- A form's level is its number in this order; the binary operators' are their strengths.
abbrev pub any_expression : ℕ
any_expression = 0

abbrev pub assignment_expression : ℕ
assignment_expression = 1

abbrev pub conditional_expression : ℕ
conditional_expression = 2

abbrev pub strength : BinaryOperator → ℕ
strength op.LogicalOr = 3
strength op.LogicalAnd = 4
strength op.Or = 5
strength op.ExclusiveOr = 6
strength op.And = 7
strength op.Equal = 8
strength op.NotEqual = 8
strength op.Less = 9
strength op.Greater = 9
strength op.LessOrEqual = 9
strength op.GreaterOrEqual = 9
strength op.ShiftLeft = 10
strength op.ShiftRight = 10
strength op.Add = 11
strength op.Subtract = 11
strength op.Multiply = 12
strength op.Divide = 12
strength op.Remainder = 12

abbrev pub weakest_operator : ℕ
weakest_operator = 3

abbrev pub cast_expression : ℕ
cast_expression = 13

abbrev pub unary_expression : ℕ
unary_expression = 14

abbrev pub postfix_expression : ℕ
postfix_expression = 15

abbrev mutual
  -- the expression is of a form of this level or a stronger one, and so are its parts of theirs; binary operators and commas join from left to right
  pub Fits : ℕ → ExpressionTree → Type 0
  Fits level (name id) = Unit {0}
  Fits level (call id es) = AllFit es
  Fits level (index id at e) = Fits any_expression e
  Fits level (element id at e column_at c) = Fits any_expression e × Fits any_expression c
  Fits level (constant at t v) = Unit {0}
  Fits level (character at v) = Unit {0}
  Fits level (parenthesized at e) = Fits any_expression e
  Fits level (postfix o at e) = (level ≤ postfix_expression) × Fits postfix_expression e
  Fits level (prefix o at e) = (level ≤ unary_expression) × Fits unary_expression e
  Fits level (unary o at e) = (level ≤ unary_expression) × Fits cast_expression e
  Fits level (cast at specs e) = (level ≤ cast_expression) × Fits cast_expression e
  Fits level (binary o at a b) = (level ≤ strength o) × Fits (strength o) a × Fits (strength o + 1) b
  Fits level (conditional at c a b) =
      (level ≤ conditional_expression) × Fits weakest_operator c × Fits any_expression a
      × Fits conditional_expression b
  Fits level (assignment o at a b) =
      (level ≤ assignment_expression) × Fits unary_expression a × Fits assignment_expression b
  Fits level (comma at a b) = (level ≤ any_expression) × Fits any_expression a × Fits assignment_expression b

  -- arguments, and the values of a row in braces
  pub AllFit : ExpressionTrees → Type 0
  AllFit no_expressions = Unit {0}
  AllFit (expression_then e es) = Fits assignment_expression e × AllFit es

-- How many operators of one form stand side by side in an expression: binary ones, of all strengths together,
abbrev pub operators_in : ExpressionTree → ℕ
operators_in (binary o at a b) = operators_in a + 1 + operators_in b
operators_in _ = 0

-- postfix ones,
abbrev pub postfixes_in : ExpressionTree → ℕ
postfixes_in (postfix o at e) = postfixes_in e + 1
postfixes_in _ = 0

-- and commas.
abbrev pub commas_in : ExpressionTree → ℕ
commas_in (comma at a b) = commas_in a + 1
commas_in _ = 0

abbrev pub specifier : Specifier → Language
specifier s = One (λ t. IsWord s.word t × (t.at ≡ s.at))

-- words of a type, one after another
abbrev pub specifier_list : List Specifier → Language
specifier_list [] = Nothing
specifier_list (s ∷ more) = specifier s ⊙ specifier_list more

abbrev pub IsTypeName : SpecifierWord → Type 0
IsTypeName (word.TypeName start end) = Unit {0}
IsTypeName _ = ⊥

abbrev pub IsTag : SpecifierWord → Type 0
IsTag (word.Tag start end) = Unit {0}
IsTag _ = ⊥

-- a keyword that may stand beside any others
abbrev pub IsKeyword : SpecifierWord → Type 0
IsKeyword (word.TypeName start end) = ⊥
IsKeyword word.Enum = ⊥
IsKeyword (word.Tag start end) = ⊥
IsKeyword _ = Unit {0}

abbrev pub AreKeywords : List Specifier → Type 0
AreKeywords [] = Unit {0}
AreKeywords (s ∷ more) = IsKeyword s.word × AreKeywords more

abbrev pub AreConst : List Specifier → Type 0
AreConst [] = Unit {0}
AreConst (s ∷ more) = (s.word ≡ word.Const) × AreConst more

-- a tag, and `const`s behind it
abbrev pub AreTagged : List Specifier → Type 0
AreTagged [] = ⊥
AreTagged (s ∷ more) = IsTag s.word × AreConst more

-- a type name, or `enum` with a tag, and `const`s behind it
abbrev pub BeginNamed : SpecifierWord → List Specifier → Type 0
BeginNamed w more = (IsTypeName w × AreConst more) ⊎ ((w ≡ word.Enum) × AreTagged more)

-- the same, with `const`s before it too
abbrev pub AreNamed : List Specifier → Type 0
AreNamed [] = ⊥
AreNamed (s ∷ more) = BeginNamed s.word more ⊎ ((s.word ≡ word.Const) × AreNamed more)

-- keywords, or one type name or `enum` with a tag, with `const`s around it (C99 6.7.2)
abbrev pub GoTogether : List Specifier → Type 0
GoTogether words = AreKeywords words ⊎ AreNamed words

-- a tag, or nothing
abbrev pub IsOptionalTag : List Specifier → Type 0
IsOptionalTag [] = Unit {0}
IsOptionalTag (s ∷ []) = IsTag s.word
IsOptionalTag (s ∷ t ∷ more) = ⊥

-- what stands before the braces of an enumeration: `enum` and perhaps a tag, with `const`s before them
abbrev pub AreBeforeBraces : List Specifier → Type 0
AreBeforeBraces [] = ⊥
AreBeforeBraces (s ∷ more) =
    ((s.word ≡ word.Enum) × IsOptionalTag more) ⊎ ((s.word ≡ word.Const) × AreBeforeBraces more)

abbrev pub all_of : OneOrMore Specifier → List Specifier
all_of s = s.first ∷ s.more

abbrev pub words : OneOrMore Specifier → Language
words s = specifier s.first ⊙ specifier_list s.more

abbrev pub specifiers : OneOrMore Specifier → Language
specifiers s = Where (GoTogether (all_of s)) (words s)

unfoldable mutual
  -- how an expression is spelled, whatever its operators' strengths
  pub spelled : ExpressionTree → Language
  spelled (name id) = Identified id
  spelled (call id es) =
      Identified id ⊙ Inside (punctuator mark.OpenParenthesis ⊙ spelled_list es) ⊙ punctuator mark.CloseParenthesis
  spelled (index id at e) =
      Identified id ⊙ Inside (punctuator_at mark.OpenBracket at ⊙ spelled e) ⊙ punctuator mark.CloseBracket
  spelled (element id at e column_at c) =
      Identified id ⊙ Inside (punctuator_at mark.OpenBracket at ⊙ spelled e) ⊙ punctuator mark.CloseBracket
      ⊙ Inside (punctuator_at mark.OpenBracket column_at ⊙ spelled c) ⊙ punctuator mark.CloseBracket
  spelled (constant at t v) = At (kind.Constant t v) at
  spelled (character at v) = At (kind.Character v) at
  spelled (parenthesized at e) =
      Inside (punctuator_at mark.OpenParenthesis at ⊙ spelled e) ⊙ punctuator mark.CloseParenthesis
  spelled (postfix o at e) = spelled e ⊙ Past (postfixes_in e + 1) (punctuator_at (step_sign o) at)
  spelled (prefix o at e) = Inside (punctuator_at (step_sign o) at ⊙ spelled e)
  spelled (unary o at e) = Inside (punctuator_at (unary_sign o) at ⊙ spelled e)
  spelled (cast at specs e) =
      Inside (punctuator_at mark.OpenParenthesis at ⊙ specifiers specs ⊙ punctuator mark.CloseParenthesis ⊙ spelled e)
  spelled (binary o at a b) = spelled a ⊙ Past (operators_in a + 1) (punctuator_at (binary_sign o) at ⊙ spelled b)
  spelled (conditional at c a b) =
      spelled c ⊙ Inside (punctuator_at mark.Question at ⊙ spelled a) ⊙ Inside (punctuator mark.Colon ⊙ spelled b)
  spelled (assignment o at a b) = spelled a ⊙ Inside (punctuator_at (assignment_sign o) at ⊙ spelled b)
  spelled (comma at a b) = spelled a ⊙ Past (commas_in a + 1) (punctuator_at mark.Comma at ⊙ spelled b)

  -- expressions with commas between them
  pub spelled_list : ExpressionTrees → Language
  spelled_list no_expressions = Nothing
  spelled_list (expression_then e es) = spelled e ⊙ spelled_more es

  pub spelled_more : ExpressionTrees → Language
  spelled_more no_expressions = Nothing
  spelled_more (expression_then e es) = punctuator mark.Comma ⊙ spelled e ⊙ spelled_more es

-- an expression of a form of this level
pub record Expression (level : ℕ) (e : ExpressionTree) (n : ℕ) (ts : List Marked) : Type 0 where
  pub fits : Fits level e
  pub is : spelled e n ts

-- one or more values of a row in braces
pub record Items (e : ExpressionTree) (es : ExpressionTrees) (n : ℕ) (ts : List Marked) : Type 0 where
  pub fit : AllFit (expression_then e es)
  pub is : spelled_list (expression_then e es) n ts

abbrev pub optional : ℕ → Option ExpressionTree → Language
optional level None = Nothing
optional level (Some e) = Expression level e

-- Enumerations

-- the value that an enumerator is given, or none
abbrev pub enumerator_value : Option ExpressionTree → Language
enumerator_value None = Nothing
enumerator_value (Some e) = punctuator mark.Assign ⊙ Expression conditional_expression e

abbrev pub enumerator : EnumeratorTree → Language
enumerator x = Identified x.name ⊙ enumerator_value x.value

-- with commas between them
abbrev pub more_enumerators : List EnumeratorTree → Language
more_enumerators [] = Nothing
more_enumerators (x ∷ more) = punctuator mark.Comma ⊙ enumerator x ⊙ more_enumerators more

abbrev pub enumerators : OneOrMore EnumeratorTree → Language
enumerators xs = enumerator xs.first ⊙ more_enumerators xs.more

-- its braces, and the `const`s behind them
abbrev pub braces : EnumerationTree → Language
braces e =
    punctuator mark.OpenBrace ⊙ enumerators e.enumerators ⊙ Optional (punctuator mark.Comma)
    ⊙ punctuator mark.CloseBrace ⊙ specifier_list e.qualifiers

-- the words of a type, and behind them the braces of an enumeration, where it has some
abbrev pub type_words : OneOrMore Specifier → Option EnumerationTree → Language
type_words s None = specifiers s
type_words s (Some e) = Where (AreBeforeBraces (all_of s) × AreConst e.qualifiers) (words s ⊙ braces e)

-- Declarations

-- a length in brackets, or none
abbrev pub array_length : Option ExpressionTree → Language
array_length None = Nothing
array_length (Some e) =
    Inside (punctuator mark.OpenBracket ⊙ Expression conditional_expression e) ⊙ punctuator mark.CloseBracket

-- the length of an array, or how many rows and columns it has
abbrev pub dimensions : Option DimensionsTree → Language
dimensions None = Nothing
dimensions (Some d) = array_length (Some d.length) ⊙ array_length d.columns

abbrev pub initializer_item : InitializerItemTree → Language
initializer_item (item_value e) = Expression assignment_expression e
initializer_item (item_row at e es) =
    punctuator_at mark.OpenBrace at ⊙ Items e es ⊙ Optional (punctuator mark.Comma) ⊙ punctuator mark.CloseBrace

-- with commas between them
abbrev pub more_initializer_items : List InitializerItemTree → Language
more_initializer_items [] = Nothing
more_initializer_items (i ∷ more) = punctuator mark.Comma ⊙ initializer_item i ⊙ more_initializer_items more

abbrev pub initializer_items : OneOrMore InitializerItemTree → Language
initializer_items items = initializer_item items.first ⊙ more_initializer_items items.more

abbrev pub initializer : Option InitializerTree → Language
initializer None n ts = Nothing n ts
initializer (Some (single e)) n ts = (punctuator mark.Assign ⊙ Expression assignment_expression e) n ts
initializer (Some (braced at items)) n ts =
    (punctuator mark.Assign ⊙ punctuator_at mark.OpenBrace at ⊙ initializer_items items
    ⊙ Optional (punctuator mark.Comma) ⊙ punctuator mark.CloseBrace) n ts

abbrev pub declarator : DeclaratorTree → Language
declarator d = Identified d.name ⊙ dimensions d.dimensions ⊙ initializer d.initializer

-- with commas between them
abbrev pub more_declarators : List DeclaratorTree → Language
more_declarators [] = Nothing
more_declarators (d ∷ more) = punctuator mark.Comma ⊙ declarator d ⊙ more_declarators more

abbrev pub IsGiven : Option EnumerationTree → Type 0
IsGiven None = ⊥
IsGiven (Some e) = Unit {0}

-- the names that are declared; an enumeration may stand alone
abbrev pub declarators : Option EnumerationTree → List DeclaratorTree → Language
declarators e [] = Where (IsGiven e) Nothing
declarators e (d ∷ more) = declarator d ⊙ more_declarators more

abbrev pub declared : DeclarationTree → Language
declared d =
    type_words d.specifiers d.enumeration ⊙ declarators d.enumeration d.declarators ⊙ punctuator mark.Semicolon

-- Statements

-- its last statement is an if that an else could follow
abbrev pub OpenEnd : StatementTree → Type 0
OpenEnd (block at items close) = ⊥
OpenEnd (empty at) = ⊥
OpenEnd (expression_statement e) = ⊥
OpenEnd (label id s) = OpenEnd s
OpenEnd (case at e s) = OpenEnd s
OpenEnd (default at s) = OpenEnd s
OpenEnd (if_then at e s) = Unit {0}
OpenEnd (if_else at e s t) = OpenEnd t
OpenEnd (switch at e s) = OpenEnd s
OpenEnd (while at e s) = OpenEnd s
OpenEnd (do_while at s e) = ⊥
OpenEnd (for_loop at start second third s) = OpenEnd s
OpenEnd (goto at id) = ⊥
OpenEnd (continue at) = ⊥
OpenEnd (break at) = ⊥
OpenEnd (return at e) = ⊥

-- an expression in parentheses, as after `if`
abbrev pub test : ExpressionTree → Language
test e = Inside (punctuator mark.OpenParenthesis ⊙ Expression any_expression e) ⊙ punctuator mark.CloseParenthesis

-- the word `static`, or none
abbrev pub optional_static : Option Pos → Language
optional_static None = Nothing
optional_static (Some at) = keyword_at key.Static at

-- behind `static` a name is declared
abbrev pub HasName : Option Pos → List DeclaratorTree → Type 0
HasName None ds = Unit {0}
HasName (Some at) [] = ⊥
HasName (Some at) (d ∷ ds) = Unit {0}

abbrev pub for_start : ForStartTree → Language
for_start (declaration d) = declared d
for_start (expression e) = optional any_expression e ⊙ punctuator mark.Semicolon

unfoldable mutual
  pub statement : StatementTree → Language
  statement (block at items close) =
      Inside (punctuator_at mark.OpenBrace at ⊙ block_items items) ⊙ punctuator_at mark.CloseBrace close
  statement (empty at) = Inside (punctuator_at mark.Semicolon at)
  statement (expression_statement e) = Inside (Expression any_expression e) ⊙ punctuator mark.Semicolon
  statement (label id s) = Inside (Identified id ⊙ punctuator mark.Colon ⊙ statement s)
  statement (case at e s) =
      Inside (keyword_at key.Case at ⊙ Expression conditional_expression e ⊙ punctuator mark.Colon ⊙ statement s)
  statement (default at s) = Inside (keyword_at key.Default at ⊙ punctuator mark.Colon ⊙ statement s)
  statement (if_then at e s) = Inside (keyword_at key.If at ⊙ test e ⊙ statement s)
  -- an else goes with the nearest if, and its branch counts as a statement besides the statement in it
  statement (if_else at e s t) =
      Inside (keyword_at key.If at ⊙ test e ⊙ Where (¬ OpenEnd s) (statement s)
      ⊙ Inside (keyword key.Else ⊙ statement t))
  statement (switch at e s) = Inside (keyword_at key.Switch at ⊙ test e ⊙ statement s)
  statement (while at e s) = Inside (keyword_at key.While at ⊙ test e ⊙ statement s)
  statement (do_while at s e) =
      Inside (keyword_at key.Do at ⊙ statement s ⊙ keyword key.While ⊙ test e) ⊙ punctuator mark.Semicolon
  statement (for_loop at start second third s) =
      Inside (keyword_at key.For at
      ⊙ Inside (punctuator mark.OpenParenthesis ⊙ for_start start ⊙ optional any_expression second
      ⊙ punctuator mark.Semicolon ⊙ optional any_expression third)
      ⊙ punctuator mark.CloseParenthesis ⊙ statement s)
  statement (goto at id) = Inside (keyword_at key.Goto at ⊙ Identified id) ⊙ punctuator mark.Semicolon
  statement (continue at) = Inside (keyword_at key.Continue at) ⊙ punctuator mark.Semicolon
  statement (break at) = Inside (keyword_at key.Break at) ⊙ punctuator mark.Semicolon
  statement (return at e) = Inside (keyword_at key.Return at ⊙ optional any_expression e) ⊙ punctuator mark.Semicolon

  -- the declarations and statements of a block
  pub block_items : ItemTrees → Language
  block_items no_items = Nothing
  block_items (declaration_then s d items) =
      Where (HasName s d.declarators) (optional_static s ⊙ declared d ⊙ block_items items)
  block_items (statement_then s items) = statement s ⊙ block_items items

-- External definitions

abbrev pub stored : Option Storage → Language
stored None = Nothing
stored (Some s) = keyword_at (storage_keyword s.word) s.at

abbrev pub optional_name : Option Identifier → Language
optional_name None = Nothing
optional_name (Some id) = Identified id

-- a length in brackets, or empty ones
abbrev pub open_length : Option ExpressionTree → Language
open_length e =
    Inside (punctuator mark.OpenBracket ⊙ optional conditional_expression e) ⊙ punctuator mark.CloseBracket

abbrev pub brackets : Option BracketsTree → Language
brackets None = Nothing
brackets (Some b) = open_length b.length ⊙ array_length b.columns

abbrev pub parameter : ParameterTree → Language
parameter p = specifiers p.specifiers ⊙ optional_name p.name ⊙ brackets p.brackets

-- the word `void` and nothing else
abbrev pub IsVoidAlone : ParameterTree → Type 0
IsVoidAlone p =
    (p.specifiers.first.word ≡ word.Void) × (p.specifiers.more ≡ []) × (p.name ≡ None) × (p.brackets ≡ None)

-- Parameters with commas between them. Without any there is nothing, or `void` alone, which is no parameter.
abbrev pub more_parameters : List ParameterTree → Language
more_parameters [] = Nothing
more_parameters (p ∷ more) = punctuator mark.Comma ⊙ parameter p ⊙ more_parameters more

abbrev pub parameters : List ParameterTree → Language
parameters [] = Optional (keyword key.Void)
parameters (p ∷ []) = Where (¬ IsVoidAlone p) (parameter p)
parameters (p ∷ q ∷ more) = parameter p ⊙ more_parameters (q ∷ more)

-- a function's body is a block
abbrev pub function_end : Option BlockTree → Language
function_end None = punctuator mark.Semicolon
function_end (Some b) = statement (block b.opened b.items b.closed)

-- with commas between them
abbrev pub more_names : List Identifier → Language
more_names [] = Nothing
more_names (id ∷ more) = punctuator mark.Comma ⊙ Identified id ⊙ more_names more

abbrev pub names : OneOrMore Identifier → Language
names ids = Identified ids.first ⊙ more_names ids.more

abbrev pub external : ExternalTree → Language
external (function f) =
    stored f.storage ⊙ specifiers f.specifiers ⊙ Identified f.name
    ⊙ Inside (punctuator mark.OpenParenthesis ⊙ parameters f.parameters) ⊙ punctuator mark.CloseParenthesis
    ⊙ function_end f.body
external (objects s d) = stored s ⊙ declared d
external (type_names d) =
    keyword key.Typedef ⊙ type_words d.specifiers d.enumeration ⊙ names d.names ⊙ punctuator mark.Semicolon

abbrev pub externals : List ExternalTree → Language
externals [] = Nothing
externals (x ∷ more) = external x ⊙ externals more

-- a text: external definitions, and the end
abbrev pub text : List ExternalTree → Language
text u = externals u ⊙ Any kind.End
