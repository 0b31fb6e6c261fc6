-- The tokens that a state stands for.
use Rattle.std.proofs.Common.{◌≡◌, ℕ, ◌+◌, ◌≤◌, List, [], ◌∷◌, ◌++◌, Option, Some, None}
use Rattle.pk_ctypes.specs.declared.places.Pos.{Pos}
use Rattle.pk_lex.specs.declared.token.Keyword.{Keyword}
use Rattle.pk_lex.specs.declared.token.Keyword.TheVariants as key
use Rattle.pk_lex.specs.declared.token.Punctuator.TheVariants as mark
use Rattle.pk_ast.specs.declared.declarations.Specifier.{Specifier}
use Rattle.pk_ast.specs.declared.expressions.Identifier.{Identifier}
use Rattle.pk_ast.specs.Trees.{OneOrMore, ExpressionTree, ExpressionTrees, no_expressions, expression_then, InitializerItemTree, index, DeclaratorTree, EnumeratorTree, EnumerationTree, StatementTree, ForStartTree, ParameterTree, ExternalTree}
use Rattle.pk_grammar.specs.Languages.{Marked, Language, Nothing, Identified, ◌⊙◌, Where}
use Rattle.pk_grammar.specs.Grammar.{binary_sign, unary_sign, step_sign, assignment_sign, punctuator_at, punctuator, keyword_at, keyword, any_expression, assignment_expression, conditional_expression, strength, weakest_operator, cast_expression, unary_expression, postfix_expression, Fits, AllFit, operators_in, commas_in, AreBeforeBraces, all_of, words, specifiers, spelled, optional, enumerator, enumerators, type_words, array_length, dimensions, initializer_item, initializer_items, declarator, declarators, OpenEnd, test, optional_static, for_start, statement, block_items, stored, optional_name, open_length, parameter, IsVoidAlone, parameters, names, externals}
use Rattle.pk_grammar.specs.Machine.States.{Head, OpenBlock, function_block, inner_block, Outer, in_block, in_label, in_case, in_default, in_if, in_else, in_switch, in_while, in_do, in_for, Site, in_a_block, in_a_for, outside, Declaring, Declared, EnumerationSite, in_declaration, in_typedef, Enumerating, Enumerated, Naming, Initializing, Initialized, Receiving, Purpose, as_statement, as_label, as_test, as_last_test, as_first, as_second, as_third, as_result, as_length, as_columns, as_value, as_item, as_row_item, as_enumerator, as_parameter_length, as_parameter_columns, Context, as_whole, in_parentheses, in_index, in_column, in_call, in_prefix, in_unary, in_cast, in_binary, in_choice, in_alternative, in_assignment, in_comma, State, top, after_storage, after_typedef, type_specifiers, after_type_name, type_name_comma, at_enumerator, after_enumerator_name, after_braces, after_specifiers, after_name, after_length, after_columns, after_assign, at_initializer_item, at_row_item, after_item, after_initializer, after_comma, parameters_open, parameter_specifiers, parameter_name, parameter_bracket, parameter_length, parameter_end, parameter_comma, parameters_closed, block_item, after_static, at_statement, after_statement, test_open, do_open, for_open, for_first, for_second, for_third, default_colon, goto_name, returning, statement_end, operand, named, indexed, arguments, opened, cast_specifiers, complete}
use Rattle.pk_grammar.specs.Machine.Steps.{block_nesting, site_nesting, naming_nesting, initializing_nesting, enumeration_nesting, enumerating_nesting, operand_level, with_brackets}
use Rattle.pk_grammar.proofs.WordLemmas.{AreShaped}
use Rattle.pk_grammar.proofs.SpellsSigns.{testing_keyword}
use Rattle.pk_grammar.proofs.SpellsWords.{Words, ◌▹◌, before_as}

-- words under a condition
abbrev pub When : Type 0 → Words → Words
When A R ts = A × R ts

-- the words without the condition
pub bare : {A : Type 0} {R S : Words} {ms : List Marked} → (When A R ▹ S) ms → (R ▹ S) ms
bare h = before_as (λ ts b. b.1) h

pub bare_two : {A : Type 0} {R S T : Words} {ms : List Marked} → (When A R ▹ S ▹ T) ms → (R ▹ S ▹ T) ms
bare_two h = before_as (λ ts b. bare b) h

pub bare_three : {A : Type 0} {R S T U : Words} {ms : List Marked} → (When A R ▹ S ▹ T ▹ U) ms → (R ▹ S ▹ T ▹ U) ms
bare_three h = before_as (λ ts b. bare_two b) h

pub bare_four : {A : Type 0} {R S T U V : Words} {ms : List Marked} → (When A R ▹ S ▹ T ▹ U ▹ V) ms → (R ▹ S ▹ T ▹ U ▹ V) ms
bare_four h = before_as (λ ts b. bare_three b) h

-- Lists of which the next one is to come

abbrev pub expressions_before : ExpressionTrees → Language
expressions_before no_expressions = Nothing
expressions_before (expression_then e es) = spelled e ⊙ punctuator mark.Comma ⊙ expressions_before es

abbrev pub declarators_before : List DeclaratorTree → Language
declarators_before [] = Nothing
declarators_before (d ∷ ds) = declarator d ⊙ punctuator mark.Comma ⊙ declarators_before ds

abbrev pub items_before : List InitializerItemTree → Language
items_before [] = Nothing
items_before (i ∷ more) = initializer_item i ⊙ punctuator mark.Comma ⊙ items_before more

abbrev pub enumerators_before : List EnumeratorTree → Language
enumerators_before [] = Nothing
enumerators_before (x ∷ xs) = enumerator x ⊙ punctuator mark.Comma ⊙ enumerators_before xs

abbrev pub parameters_before : List ParameterTree → Language
parameters_before [] = Nothing
parameters_before (p ∷ ps) = parameter p ⊙ punctuator mark.Comma ⊙ parameters_before ps

-- words of a type behind which others may come
abbrev pub open_words : OneOrMore Specifier → Language
open_words specs = Where (AreShaped specs) (words specs)

-- up to the words of a declaration of type names
abbrev pub to_types : List ExternalTree → Words
to_types before = externals before 0 ▹ keyword key.Typedef 0

-- up to its names
abbrev pub to_type_names : List ExternalTree → OneOrMore Specifier → Option EnumerationTree → Words
to_type_names before specs e = to_types before ▹ type_words specs e 0

-- up to a function's name
abbrev pub to_parameters : Head → Words
to_parameters h = externals h.before 0 ▹ stored h.storage 0 ▹ specifiers h.specifiers 0 ▹ Identified h.name 0

-- up to a function's body
abbrev pub to_body : Head → List ParameterTree → Words
to_body h ps = to_parameters h ▹ (punctuator mark.OpenParenthesis ⊙ parameters ps) 1 ▹ punctuator mark.CloseParenthesis 0

-- the nesting of a statement that is part of this
abbrev pub outer_nesting : Outer → ℕ
outer_nesting (in_block b) = block_nesting b
outer_nesting (in_label n id o) = n + 1
outer_nesting (in_case n at e o) = n + 1
outer_nesting (in_default n at o) = n + 1
outer_nesting (in_if n at e o) = n + 1
outer_nesting (in_else n at e s o) = n + 1 + 1
outer_nesting (in_switch n at e o) = n + 1
outer_nesting (in_while n at e o) = n + 1
outer_nesting (in_do n at o) = n + 1
outer_nesting (in_for n at f second third o) = n + 1

abbrev mutual
  -- up to a block's next item
  pub to_item : OpenBlock → Words
  to_item (function_block h ps at items) = to_body h ps ▹ punctuator_at mark.OpenBrace at 1 ▹ block_items items 1
  to_item (inner_block n at items o) = When (n ≡ outer_nesting o) (to_statement o ▹ punctuator_at mark.OpenBrace at (n + 1) ▹ block_items items (n + 1))

  -- up to a statement
  pub to_statement : Outer → Words
  to_statement (in_block b) = to_item b
  to_statement (in_label n id o) = When (n ≡ outer_nesting o) (to_statement o ▹ Identified id (n + 1) ▹ punctuator mark.Colon (n + 1))
  to_statement (in_case n at e o) = When ((n ≡ outer_nesting o) × Fits conditional_expression e) (to_statement o ▹ keyword_at key.Case at (n + 1) ▹ spelled e (n + 1) ▹ punctuator mark.Colon (n + 1))
  to_statement (in_default n at o) = When (n ≡ outer_nesting o) (to_statement o ▹ keyword_at key.Default at (n + 1) ▹ punctuator mark.Colon (n + 1))
  to_statement (in_if n at e o) = When (n ≡ outer_nesting o) (to_statement o ▹ keyword_at key.If at (n + 1) ▹ test e (n + 1))
  to_statement (in_else n at e s o) =
      When (n ≡ outer_nesting o) (to_statement o ▹ keyword_at key.If at (n + 1) ▹ test e (n + 1) ▹ Where (¬ OpenEnd s) (statement s) (n + 1) ▹ keyword key.Else (n + 1 + 1))
  to_statement (in_switch n at e o) = When (n ≡ outer_nesting o) (to_statement o ▹ keyword_at key.Switch at (n + 1) ▹ test e (n + 1))
  to_statement (in_while n at e o) = When (n ≡ outer_nesting o) (to_statement o ▹ keyword_at key.While at (n + 1) ▹ test e (n + 1))
  to_statement (in_do n at o) = When (n ≡ outer_nesting o) (to_statement o ▹ keyword_at key.Do at (n + 1))
  to_statement (in_for n at f second third o) =
      When (n ≡ outer_nesting o) (to_statement o ▹ keyword_at key.For at (n + 1)
      ▹ (punctuator mark.OpenParenthesis ⊙ for_start f ⊙ optional any_expression second ⊙ punctuator mark.Semicolon ⊙ optional any_expression third) (n + 1 + 1)
      ▹ punctuator mark.CloseParenthesis (n + 1))

-- up to what stands in the parentheses of a `for`
abbrev pub to_first : ℕ → Pos → Outer → Words
to_first n at o = When (n ≡ outer_nesting o) (to_statement o ▹ keyword_at key.For at (n + 1) ▹ punctuator mark.OpenParenthesis (n + 1 + 1))

abbrev pub to_second : ℕ → Pos → ForStartTree → Outer → Words
to_second n at f o = to_first n at o ▹ for_start f (n + 1 + 1)

abbrev pub to_third : ℕ → Pos → ForStartTree → Option ExpressionTree → Outer → Words
to_third n at f second o = to_second n at f o ▹ optional any_expression second (n + 1 + 1) ▹ punctuator mark.Semicolon (n + 1 + 1)

-- up to the end of a `do`, without the test
abbrev pub to_last_test : ℕ → Pos → StatementTree → Outer → Words
to_last_test n at s o = When (n ≡ outer_nesting o) (to_statement o ▹ keyword_at key.Do at (n + 1) ▹ statement s (n + 1) ▹ keyword key.While (n + 1))

abbrev pub to_test : Keyword → ℕ → Pos → Outer → Words
to_test k n at o = When (n ≡ outer_nesting o) (to_statement o ▹ keyword_at k at (n + 1))

-- up to a declaration's specifiers
abbrev pub to_declaration : Site → Words
to_declaration (in_a_block b s) = to_item b ▹ optional_static s (block_nesting b)
to_declaration (in_a_for n at o) = to_first n at o
to_declaration (outside before s) = externals before 0 ▹ stored s 0

-- up to a declaration's next declarator
abbrev pub to_declarator : Declaring → Words
to_declarator d = to_declaration d.site ▹ type_words d.specifiers d.enumeration (site_nesting d.site) ▹ declarators_before d.declarators (site_nesting d.site)

-- up to what follows a declaration's last declarator
abbrev pub to_declarator_end : Declared → Words
to_declarator_end d =
    to_declaration d.site ▹ type_words d.specifiers d.enumeration (site_nesting d.site) ▹ declarators d.enumeration (d.declarators.first ∷ d.declarators.more) (site_nesting d.site)

-- up to the words before an enumeration's braces
abbrev pub to_enumeration : EnumerationSite → Words
to_enumeration (in_declaration s) = to_declaration s
to_enumeration (in_typedef before) = to_types before

-- up to an enumeration's braces
abbrev pub to_braces : EnumerationSite → OneOrMore Specifier → Words
to_braces s specs = When (AreBeforeBraces (all_of specs)) (to_enumeration s ▹ words specs (enumeration_nesting s))

-- up to its next enumerator
abbrev pub to_enumerator : Enumerating → Words
to_enumerator d = to_braces d.site d.specifiers ▹ punctuator mark.OpenBrace (enumerating_nesting d) ▹ enumerators_before d.enumerators (enumerating_nesting d)

-- up to what follows its last enumerator
abbrev pub to_enumerator_end : Enumerated → Words
to_enumerator_end d = to_braces d.site d.specifiers ▹ punctuator mark.OpenBrace (enumeration_nesting d.site) ▹ enumerators d.enumerators (enumeration_nesting d.site)

-- up to an initializer
abbrev pub to_initializer : Naming → Words
to_initializer d = to_declarator d.declaring ▹ Identified d.name (naming_nesting d) ▹ dimensions d.dimensions (naming_nesting d)

abbrev pub to_value : Naming → Words
to_value d = to_initializer d ▹ punctuator mark.Assign (naming_nesting d)

abbrev pub to_brace : Naming → Pos → Words
to_brace d at = to_value d ▹ punctuator_at mark.OpenBrace at (naming_nesting d)

-- up to the next item of an initializer's braces
abbrev pub to_next_item : Initializing → Words
to_next_item d = to_brace d.naming d.brace ▹ items_before d.items (initializing_nesting d)

-- up to what follows its last item
abbrev pub to_items_end : Initialized → Words
to_items_end d = to_brace d.naming d.brace ▹ initializer_items d.items (naming_nesting d.naming)

-- up to the next value of a row
abbrev pub to_row_item : Initializing → Pos → ExpressionTrees → Words
to_row_item d at es =
    When (AllFit es) (to_next_item d ▹ punctuator_at mark.OpenBrace at (initializing_nesting d) ▹ expressions_before es (initializing_nesting d))

-- up to the columns of an array
abbrev pub to_columns : Declaring → Identifier → ExpressionTree → Words
to_columns d id e = to_declarator d ▹ Identified id (site_nesting d.site) ▹ array_length (Some e) (site_nesting d.site)

-- up to a parameter
abbrev pub to_parameter : Head → List ParameterTree → Words
to_parameter h ps = to_parameters h ▹ punctuator mark.OpenParenthesis 1 ▹ parameters_before ps 1

-- up to a parameter's brackets
abbrev pub to_brackets : Receiving → Words
to_brackets d = to_parameter d.head d.before ▹ specifiers d.specifiers 1 ▹ optional_name d.name 1

-- up to an expression that isn't part of another one, and its nesting
abbrev pub to_expression : Purpose → Words
to_expression (as_statement n o) = When (n ≡ outer_nesting o) (to_statement o)
to_expression (as_label n at o) = to_test key.Case n at o
to_expression (as_test k n at o) = to_test (testing_keyword k) n at o ▹ punctuator mark.OpenParenthesis (n + 1 + 1)
to_expression (as_last_test n at s o) = to_last_test n at s o ▹ punctuator mark.OpenParenthesis (n + 1 + 1)
to_expression (as_first n at o) = to_first n at o
to_expression (as_second n at f o) = to_second n at f o
to_expression (as_third n at f second o) = to_third n at f second o
to_expression (as_result n at o) = to_test key.Return n at o
to_expression (as_length d id) = to_declarator d ▹ Identified id (site_nesting d.site) ▹ punctuator mark.OpenBracket (site_nesting d.site + 1)
to_expression (as_columns d id e) = to_columns d id e ▹ punctuator mark.OpenBracket (site_nesting d.site + 1)
to_expression (as_value d) = to_value d
to_expression (as_enumerator d id) = to_enumerator d ▹ Identified id (enumerating_nesting d) ▹ punctuator mark.Assign (enumerating_nesting d)
to_expression (as_item d) = to_next_item d
to_expression (as_row_item d at es) = to_row_item d at es
to_expression (as_parameter_length d) = to_brackets d ▹ punctuator mark.OpenBracket 2
to_expression (as_parameter_columns d l) = to_brackets d ▹ open_length l 1 ▹ punctuator mark.OpenBracket 2

abbrev pub expression_nesting : Purpose → ℕ
expression_nesting (as_statement n o) = n + 1
expression_nesting (as_label n at o) = n + 1
expression_nesting (as_test k n at o) = n + 1 + 1
expression_nesting (as_last_test n at s o) = n + 1 + 1
expression_nesting (as_first n at o) = n + 1 + 1
expression_nesting (as_second n at f o) = n + 1 + 1
expression_nesting (as_third n at f second o) = n + 1 + 1
expression_nesting (as_result n at o) = n + 1
expression_nesting (as_length d id) = site_nesting d.site + 1
expression_nesting (as_columns d id e) = site_nesting d.site + 1
expression_nesting (as_value d) = naming_nesting d
expression_nesting (as_item d) = initializing_nesting d
expression_nesting (as_row_item d at es) = initializing_nesting d
expression_nesting (as_enumerator d id) = enumerating_nesting d
expression_nesting (as_parameter_length d) = 2
expression_nesting (as_parameter_columns d l) = 2

-- the nesting of an operand that is part of this
abbrev pub operand_nesting : Context → ℕ
operand_nesting (as_whole p) = expression_nesting p
operand_nesting (in_parentheses n at c) = n + 1
operand_nesting (in_index n id at c) = n + 1
operand_nesting (in_column n id at e column_at c) = n + 1
operand_nesting (in_call n id es c) = n + 1
operand_nesting (in_prefix n o at c) = n + 1
operand_nesting (in_unary n o at c) = n + 1
operand_nesting (in_cast n at specs c) = n + 1
operand_nesting (in_binary n o at a c) = n + (operators_in a + 1)
operand_nesting (in_choice n at d c) = n + 1
operand_nesting (in_alternative n at d a c) = n + 1
operand_nesting (in_assignment n o at a c) = n + 1
operand_nesting (in_comma n at a c) = n + (commas_in a + 1)

-- up to an operand
abbrev pub to_operand : Context → Words
to_operand (as_whole p) = to_expression p
to_operand (in_parentheses n at c) = When (n ≡ operand_nesting c) (to_operand c ▹ punctuator_at mark.OpenParenthesis at (n + 1))
to_operand (in_index n id at c) = When (n ≡ operand_nesting c) (to_operand c ▹ Identified id n ▹ punctuator_at mark.OpenBracket at (n + 1))
to_operand (in_column n id at e column_at c) =
    When ((n ≡ operand_nesting c) × Fits any_expression e) (to_operand c ▹ spelled (index id at e) n ▹ punctuator_at mark.OpenBracket column_at (n + 1))
to_operand (in_call n id es c) =
    When ((n ≡ operand_nesting c) × AllFit es) (to_operand c ▹ Identified id n ▹ punctuator mark.OpenParenthesis (n + 1) ▹ expressions_before es (n + 1))
to_operand (in_prefix n o at c) = When (n ≡ operand_nesting c) (to_operand c ▹ punctuator_at (step_sign o) at (n + 1))
to_operand (in_unary n o at c) = When (n ≡ operand_nesting c) (to_operand c ▹ punctuator_at (unary_sign o) at (n + 1))
to_operand (in_cast n at specs c) =
    When ((n ≡ operand_nesting c) × (operand_level c ≤ cast_expression))
    (to_operand c ▹ punctuator_at mark.OpenParenthesis at (n + 1) ▹ specifiers specs (n + 1) ▹ punctuator mark.CloseParenthesis (n + 1))
to_operand (in_binary n o at a c) =
    When ((n ≡ operand_nesting c) × (operand_level c ≤ strength o) × Fits (strength o) a)
    (to_operand c ▹ spelled a n ▹ punctuator_at (binary_sign o) at (n + (operators_in a + 1)))
to_operand (in_choice n at d c) =
    When ((n ≡ operand_nesting c) × (operand_level c ≤ conditional_expression) × Fits weakest_operator d)
    (to_operand c ▹ spelled d n ▹ punctuator_at mark.Question at (n + 1))
to_operand (in_alternative n at d a c) =
    When ((n ≡ operand_nesting c) × (operand_level c ≤ conditional_expression) × Fits weakest_operator d × Fits any_expression a)
    (to_operand c ▹ spelled d n ▹ (punctuator_at mark.Question at ⊙ spelled a) (n + 1) ▹ punctuator mark.Colon (n + 1))
to_operand (in_assignment n o at a c) =
    When ((n ≡ operand_nesting c) × (operand_level c ≤ assignment_expression) × Fits unary_expression a)
    (to_operand c ▹ spelled a n ▹ punctuator_at (assignment_sign o) at (n + 1))
to_operand (in_comma n at a c) =
    When ((n ≡ operand_nesting c) × (operand_level c ≤ any_expression) × Fits any_expression a)
    (to_operand c ▹ spelled a n ▹ punctuator_at mark.Comma at (n + (commas_in a + 1)))

-- a statement but for its `;`
abbrev pub unended : StatementTree → Language
unended s n ts = (us : List Marked) → punctuator mark.Semicolon n us → statement s n (ts ++ us)

-- the tokens that led to a state
abbrev pub Spells : State → Words
Spells (top before) = externals before 0
Spells (after_storage before s) = externals before 0 ▹ stored (Some s) 0
Spells (after_typedef before) = to_types before
Spells (type_specifiers before specs) = to_types before ▹ open_words specs 0
Spells (after_type_name before specs e ids) = to_type_names before specs e ▹ names ids 0
Spells (type_name_comma before specs e ids) = to_type_names before specs e ▹ names ids 0 ▹ punctuator mark.Comma 0
Spells (at_enumerator d) = to_enumerator d
Spells (after_enumerator_name d id) = to_enumerator d ▹ Identified id (enumerating_nesting d)
Spells (after_braces s specs e) = to_enumeration s ▹ type_words specs (Some e) (enumeration_nesting s)
Spells (after_specifiers s specs) = to_declaration s ▹ open_words specs (site_nesting s)
Spells (after_name d id) = to_declarator d ▹ Identified id (site_nesting d.site)
Spells (after_length d id e) = to_columns d id e
Spells (after_columns d) = to_initializer d
Spells (after_assign d) = to_value d
Spells (at_initializer_item d) = to_next_item d
Spells (at_row_item d at es) = to_row_item d at es
Spells (after_item d) = to_items_end d
Spells (after_initializer d) = to_declarator_end d
Spells (after_comma d) = to_declarator d
Spells (parameters_open h) = to_parameters h ▹ punctuator mark.OpenParenthesis 1
Spells (parameter_specifiers h ps specs) = to_parameter h ps ▹ open_words specs 1
Spells (parameter_name d) = When (¬ IsVoidAlone (with_brackets d None)) (to_brackets d)
Spells (parameter_bracket d) = to_brackets d ▹ punctuator mark.OpenBracket 2
Spells (parameter_length d l) = to_brackets d ▹ open_length l 1
Spells (parameter_end h ps p) = When (¬ IsVoidAlone p) (to_parameter h ps ▹ parameter p 1)
Spells (parameter_comma h ps) = to_parameter h ps
Spells (parameters_closed h ps) = to_body h ps
Spells (block_item b) = to_item b
Spells (after_static b at) = to_item b ▹ optional_static (Some at) (block_nesting b)
Spells (at_statement n o) = When (n ≡ outer_nesting o) (to_statement o)
Spells (after_statement s o) = When (¬ OpenEnd s) (to_statement o ▹ statement s (outer_nesting o))
Spells (test_open k n at o) = to_test (testing_keyword k) n at o
Spells (do_open n at s o) = to_last_test n at s o
Spells (for_open n at o) = to_test key.For n at o
Spells (for_first n at o) = to_first n at o
Spells (for_second n at f o) = to_second n at f o
Spells (for_third n at f second o) = to_third n at f second o
Spells (default_colon n at o) = to_test key.Default n at o
Spells (goto_name n at o) = to_test key.Goto n at o
Spells (returning n at o) = to_test key.Return n at o
Spells (statement_end n s o) = When ((n ≡ outer_nesting o) × ¬ OpenEnd s) (to_statement o ▹ unended s n)
Spells (operand n c) = When (n ≡ operand_nesting c) (to_operand c)
Spells (named n id c) = When (n ≡ operand_nesting c) (to_operand c ▹ Identified id n)
Spells (indexed n id at e c) = When ((n ≡ operand_nesting c) × Fits any_expression e) (to_operand c ▹ spelled (index id at e) n)
Spells (arguments n id c) = When (n ≡ operand_nesting c) (to_operand c ▹ Identified id n ▹ punctuator mark.OpenParenthesis (n + 1))
Spells (opened n at c) = When (n ≡ operand_nesting c) (to_operand c ▹ punctuator_at mark.OpenParenthesis at (n + 1))
Spells (cast_specifiers n at specs c) =
    When ((n ≡ operand_nesting c) × (operand_level c ≤ cast_expression)) (to_operand c ▹ punctuator_at mark.OpenParenthesis at (n + 1) ▹ open_words specs (n + 1))
Spells (complete n e c) = When ((n ≡ operand_nesting c) × Fits postfix_expression e) (to_operand c ▹ spelled e n)
