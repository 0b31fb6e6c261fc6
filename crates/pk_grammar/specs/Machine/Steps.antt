-- The parser, token by token.
use Rattle.std.specs.Prelude.{ℕ, ◌+◌, List, [], ◌∷◌, ◌++◌, Option, Some, None, Bool, true, false, if◌then◌else◌, nat_le}
use Rattle.pk_ctypes.specs.declared.places.Pos.{Pos}
use Rattle.pk_lex.specs.declared.token.Token.{Token}
use Rattle.pk_ast.specs.declared.declarations.Specifier.{Specifier}
use Rattle.pk_ast.specs.declared.declarations.SpecifierWord.{SpecifierWord}
use Rattle.pk_ast.specs.declared.declarations.SpecifierWord.TheVariants as word
use Rattle.pk_ast.specs.declared.expressions.Identifier.{Identifier}
use Rattle.pk_ast.specs.declared.operators.BinaryOperator.{BinaryOperator}
use Rattle.pk_ast.specs.declared.operators.AssignmentOperator.{AssignmentOperator}
use Rattle.pk_ast.specs.declared.units.Storage.{Storage}
use Rattle.pk_ast.specs.declared.units.StorageWord.{StorageWord}
use Rattle.pk_ast.specs.Lists.{one, with_last, ended}
use Rattle.pk_ast.specs.Trees.{OneOrMore, ExpressionTree, name, call, index, element, constant, character, parenthesized, postfix, prefix, unary, cast, binary, conditional, assignment, comma, ExpressionTrees, no_expressions, expression_then, InitializerItemTree, item_value, item_row, InitializerTree, single, braced, DimensionsTree, DeclaratorTree, EnumeratorTree, EnumerationTree, DeclarationTree, declaration, expression, StatementTree, block, empty, expression_statement, label, case, default, if_then, if_else, switch, while, do_while, for_loop, goto, continue, break, return, ItemTrees, no_items, declaration_then, statement_then, BracketsTree, ParameterTree, ExternalTree, function, objects, type_names}
use Rattle.pk_grammar.specs.declared.states.Testing.{Testing}
use Rattle.pk_grammar.specs.declared.states.Testing.TheVariants as testing
use Rattle.pk_grammar.specs.declared.signs.Fixed.{Fixed}
use Rattle.pk_grammar.specs.declared.signs.Fixed.TheVariants as fixed
use Rattle.pk_grammar.specs.declared.signs.OperandStart.{OperandStart}
use Rattle.pk_grammar.specs.declared.signs.OperandStart.TheVariants as start
use Rattle.pk_grammar.specs.declared.signs.Operator.{Operator}
use Rattle.pk_grammar.specs.declared.signs.Operator.TheVariants as operator
use Rattle.pk_grammar.specs.declared.signs.StatementStart.{StatementStart}
use Rattle.pk_grammar.specs.declared.signs.StatementStart.TheVariants as first
use Rattle.pk_grammar.specs.Languages.{identifier_of}
use Rattle.pk_grammar.specs.Grammar.{all_of, any_expression, assignment_expression, conditional_expression, strength, weakest_operator, cast_expression, unary_expression, operators_in, postfixes_in, commas_in}
use Rattle.pk_grammar.specs.Machine.Signs.{is_fixed, operand_start, operator_of, specifier_word, follows, following_word, shape_of, wants_tag, takes_braces, storage_word, statement_start, is_void_word}
use Rattle.pk_grammar.specs.Machine.States.{Head, OpenBlock, function_block, inner_block, Outer, in_block, in_label, in_case, in_default, in_if, in_else, in_switch, in_while, in_do, in_for, Site, in_a_block, in_a_for, outside, Declaring, Declared, Naming, Initializing, Initialized, EnumerationSite, in_declaration, in_typedef, Enumerating, Enumerated, Receiving, Purpose, as_statement, as_label, as_test, as_last_test, as_first, as_second, as_third, as_result, as_length, as_columns, as_value, as_item, as_row_item, as_enumerator, as_parameter_length, as_parameter_columns, Context, as_whole, in_parentheses, in_index, in_column, in_call, in_prefix, in_unary, in_cast, in_binary, in_choice, in_alternative, in_assignment, in_comma, State, top, after_storage, after_typedef, type_specifiers, after_type_name, type_name_comma, at_enumerator, after_enumerator_name, after_braces, after_specifiers, after_name, after_length, after_columns, after_assign, at_initializer_item, at_row_item, after_item, after_initializer, after_comma, parameters_open, parameter_specifiers, parameter_name, parameter_bracket, parameter_length, parameter_end, parameter_comma, parameters_closed, block_item, after_static, at_statement, after_statement, test_open, do_open, for_open, for_first, for_second, for_third, default_colon, goto_name, returning, statement_end, operand, named, indexed, arguments, opened, cast_specifiers, complete}

-- what becomes of a state at a token: it is taken, nested so deep; or refused; or it is the end of a text
pub data Verdict : Type 0 where
  taken : (nesting : ℕ) → State → Verdict
  refused : Verdict
  finished : List ExternalTree → Verdict

-- Lists that grow at their end

abbrev pub one_more : ExpressionTrees → ExpressionTree → ExpressionTrees
one_more no_expressions e = expression_then e no_expressions
one_more (expression_then d es) e = expression_then d (one_more es e)

-- the first expression of a list with one more, and those after it
abbrev pub first_item : ExpressionTrees → ExpressionTree → ExpressionTree
first_item no_expressions e = e
first_item (expression_then d es) e = d

abbrev pub more_items : ExpressionTrees → ExpressionTree → ExpressionTrees
more_items no_expressions e = no_expressions
more_items (expression_then d es) e = one_more es e

abbrev pub one_more_statement : ItemTrees → StatementTree → ItemTrees
one_more_statement no_items s = statement_then s no_items
one_more_statement (declaration_then p d items) s = declaration_then p d (one_more_statement items s)
one_more_statement (statement_then r items) s = statement_then r (one_more_statement items s)

abbrev pub one_more_declaration : ItemTrees → Option Pos → DeclarationTree → ItemTrees
one_more_declaration no_items s d = declaration_then s d no_items
one_more_declaration (declaration_then p c items) s d = declaration_then p c (one_more_declaration items s d)
one_more_declaration (statement_then r items) s d = statement_then r (one_more_declaration items s d)

-- The nesting at which the items of a block stand, and a declaration
abbrev pub block_nesting : OpenBlock → ℕ
block_nesting (function_block h ps at items) = 1
block_nesting (inner_block n at items o) = n + 1

abbrev pub site_nesting : Site → ℕ
site_nesting (in_a_block b s) = block_nesting b
site_nesting (in_a_for n at o) = n + 2
site_nesting (outside before s) = 0

abbrev pub enumeration_nesting : EnumerationSite → ℕ
enumeration_nesting (in_declaration s) = site_nesting s
enumeration_nesting (in_typedef before) = 0

abbrev pub with_statement : OpenBlock → StatementTree → OpenBlock
with_statement (function_block h ps at items) s = function_block h ps at (one_more_statement items s)
with_statement (inner_block n at items o) s = inner_block n at (one_more_statement items s) o

abbrev pub with_declaration : OpenBlock → Option Pos → DeclarationTree → OpenBlock
with_declaration (function_block h ps at items) s d = function_block h ps at (one_more_declaration items s d)
with_declaration (inner_block n at items o) s d = inner_block n at (one_more_declaration items s d) o

-- Words and names

abbrev pub specifier_at : Token → SpecifierWord → Specifier
specifier_at t w = record { word = w; at = t.at }

-- the word may follow those read so far
abbrev pub may_follow : OneOrMore Specifier → SpecifierWord → Bool
may_follow done w = follows (shape_of (all_of done)) w

-- the word of a type that the token is, where it may follow them
abbrev pub next_word : OneOrMore Specifier → Token → Option SpecifierWord
next_word done t = following_word (shape_of (all_of done)) t

-- `enum` is the last of them, so they are no type yet
abbrev pub end_in_enum : OneOrMore Specifier → Bool
end_in_enum done = wants_tag (shape_of (all_of done))

-- the braces of an enumeration may stand behind them
abbrev pub may_open : OneOrMore Specifier → Bool
may_open done = takes_braces (shape_of (all_of done))

abbrev pub storage_at : Token → StorageWord → Storage
storage_at t w = record { word = w; at = t.at }

-- Expressions

-- the level of the operand that is read there
abbrev pub purpose_level : Purpose → ℕ
purpose_level (as_statement n o) = any_expression
purpose_level (as_label n at o) = conditional_expression
purpose_level (as_test k n at o) = any_expression
purpose_level (as_last_test n at s o) = any_expression
purpose_level (as_first n at o) = any_expression
purpose_level (as_second n at f o) = any_expression
purpose_level (as_third n at f e o) = any_expression
purpose_level (as_result n at o) = any_expression
purpose_level (as_length d id) = conditional_expression
purpose_level (as_columns d id e) = conditional_expression
purpose_level (as_value d) = assignment_expression
purpose_level (as_item d) = assignment_expression
purpose_level (as_row_item d at es) = assignment_expression
purpose_level (as_enumerator d id) = conditional_expression
purpose_level (as_parameter_length d) = conditional_expression
purpose_level (as_parameter_columns d length) = conditional_expression

abbrev pub operand_level : Context → ℕ
operand_level (as_whole p) = purpose_level p
operand_level (in_parentheses n at c) = any_expression
operand_level (in_index n id at c) = any_expression
operand_level (in_column n id at e column_at c) = any_expression
operand_level (in_call n id es c) = assignment_expression
operand_level (in_prefix n o at c) = unary_expression
operand_level (in_unary n o at c) = cast_expression
operand_level (in_cast n at specs c) = cast_expression
operand_level (in_binary n o at a c) = strength o + 1
operand_level (in_choice n at e c) = any_expression
operand_level (in_alternative n at e a c) = conditional_expression
operand_level (in_assignment n o at a c) = assignment_expression
operand_level (in_comma n at a c) = assignment_expression

-- an expression, the nesting outside it, and what it is part of
pub record Reduced : Type 0 where
  pub nesting : ℕ
  pub tree : ExpressionTree
  pub context : Context

-- the expression that ends here, of a form of this level or a stronger one, and as long as can be
unfoldable pub reduced : ℕ → ℕ → ExpressionTree → Context → Reduced
reduced level n e (as_whole p) = record { nesting = n; tree = e; context = as_whole p }
reduced level n e (in_parentheses m at c) = record { nesting = n; tree = e; context = in_parentheses m at c }
reduced level n e (in_index m id at c) = record { nesting = n; tree = e; context = in_index m id at c }
reduced level n e (in_column m id at d column_at c) =
    record { nesting = n; tree = e; context = in_column m id at d column_at c }
reduced level n e (in_call m id es c) = record { nesting = n; tree = e; context = in_call m id es c }
reduced level n e (in_prefix m o at c) = reduced level m (prefix o at e) c
reduced level n e (in_unary m o at c) = reduced level m (unary o at e) c
reduced level n e (in_cast m at specs c) =
    if nat_le level cast_expression then reduced level m (cast at specs e) c
    else record { nesting = n; tree = e; context = in_cast m at specs c }
reduced level n e (in_binary m o at a c) =
    if nat_le level (strength o) then reduced level m (binary o at a e) c
    else record { nesting = n; tree = e; context = in_binary m o at a c }
reduced level n e (in_choice m at d c) = record { nesting = n; tree = e; context = in_choice m at d c }
reduced level n e (in_alternative m at d a c) =
    if nat_le level conditional_expression then reduced level m (conditional at d a e) c
    else record { nesting = n; tree = e; context = in_alternative m at d a c }
reduced level n e (in_assignment m o at a c) =
    if nat_le level assignment_expression then reduced level m (assignment o at a e) c
    else record { nesting = n; tree = e; context = in_assignment m o at a c }
reduced level n e (in_comma m at a c) =
    if nat_le level any_expression then reduced level m (comma at a e) c
    else record { nesting = n; tree = e; context = in_comma m at a c }

-- a token of one kind alone
abbrev pub wanted : Fixed → Token → Verdict → Verdict
wanted f t v = if is_fixed f t.kind then v else refused

-- an operand begins
abbrev pub begin_operand : ℕ → Context → Token → OperandStart → Verdict
begin_operand n c t start.Name = taken n (named n (identifier_of t) c)
begin_operand n c t (start.Constant ty v) = taken n (complete n (constant t.at ty v) c)
begin_operand n c t (start.Character v) = taken n (complete n (character t.at v) c)
begin_operand n c t start.Parenthesis = taken (n + 1) (opened n t.at c)
begin_operand n c t (start.Step o) = taken (n + 1) (operand (n + 1) (in_prefix n o t.at c))
begin_operand n c t (start.Unary o) = taken (n + 1) (operand (n + 1) (in_unary n o t.at c))
begin_operand n c t start.Other = refused

abbrev pub at_operand : ℕ → Context → Token → Verdict
at_operand n c t = begin_operand n c t (operand_start t.kind)

abbrev pub with_declarator : Declaring → DeclaratorTree → Declared
with_declarator d x = record {
  site = d.site;
  specifiers = d.specifiers;
  enumeration = d.enumeration;
  declarators = ended d.declarators x;
}

abbrev pub with_initializer : Naming → Option InitializerTree → Declared
with_initializer d i =
    with_declarator d.declaring (record { name = d.name; dimensions = d.dimensions; initializer = i })

abbrev pub whole_declaration : Declared → DeclarationTree
whole_declaration d =
    record {
      specifiers = d.specifiers;
      enumeration = d.enumeration;
      declarators = d.declarators.first ∷ d.declarators.more;
    }

-- a declaration has ended
abbrev pub declared_at : Site → DeclarationTree → State
declared_at (in_a_block b s) d = block_item (with_declaration b s d)
declared_at (in_a_for n at o) d = for_second n at (declaration d) o
declared_at (outside before s) d = top (before ++ objects s d ∷ [])

abbrev pub end_declaration : Declared → Verdict
end_declaration d = taken (site_nesting d.site) (declared_at d.site (whole_declaration d))

abbrev pub goes_on_declaring : Declared → Declaring
goes_on_declaring d =
    record {
      site = d.site;
      specifiers = d.specifiers;
      enumeration = d.enumeration;
      declarators = d.declarators.first ∷ d.declarators.more;
    }

abbrev pub next_declarator : Declared → Verdict
next_declarator d = taken (site_nesting d.site) (after_comma (goes_on_declaring d))

-- after a declarator: another one, or the end
abbrev pub after_declarator : Declared → Token → Verdict
after_declarator d t =
    if is_fixed fixed.Comma t.kind then next_declarator d else wanted fixed.Semicolon t (end_declaration d)

abbrev pub with_dimensions : Declaring → Identifier → DimensionsTree → Naming
with_dimensions d id l = record { declaring = d; name = id; dimensions = Some l }

abbrev pub naming_nesting : Naming → ℕ
naming_nesting d = site_nesting d.declaring.site

-- Items of an initializer's braces

abbrev pub initializing_nesting : Initializing → ℕ
initializing_nesting d = naming_nesting d.naming

abbrev pub with_item : Initializing → InitializerItemTree → Initialized
with_item d i = record { naming = d.naming; brace = d.brace; items = ended d.items i }

-- behind the braces
abbrev pub close_initializer : Initialized → Verdict
close_initializer d =
    taken (naming_nesting d.naming) (after_initializer (with_initializer d.naming (Some (braced d.brace d.items))))

abbrev pub next_item : Initialized → Verdict
next_item d =
    taken (naming_nesting d.naming)
    (at_initializer_item (record {
      naming = d.naming;
      brace = d.brace;
      items = d.items.first ∷ d.items.more;
    }))

-- after an item: a comma, or the `}`
abbrev pub at_item_end : Initialized → Token → Verdict
at_item_end d t = if is_fixed fixed.Comma t.kind then next_item d else wanted fixed.CloseBrace t (close_initializer d)

-- behind the `}` of a row
abbrev pub close_row : Initializing → Pos → ExpressionTree → ExpressionTrees → Verdict
close_row d at e es = taken (initializing_nesting d) (after_item (with_item d (item_row at e es)))

-- Enumerations

abbrev pub enumerating_nesting : Enumerating → ℕ
enumerating_nesting d = enumeration_nesting d.site

abbrev pub with_enumerator : Enumerating → Identifier → Option ExpressionTree → Enumerated
with_enumerator d id e = record {
  site = d.site;
  specifiers = d.specifiers;
  enumerators = ended d.enumerators (record { name = id; value = e });
}

-- behind the braces
abbrev pub close_braces : Enumerated → Verdict
close_braces d =
    taken (enumeration_nesting d.site)
    (after_braces d.site d.specifiers (record { enumerators = d.enumerators; qualifiers = [] }))

abbrev pub next_enumerator : Enumerated → Verdict
next_enumerator d =
    taken (enumeration_nesting d.site)
    (at_enumerator (record {
      site = d.site;
      specifiers = d.specifiers;
      enumerators = d.enumerators.first ∷ d.enumerators.more;
    }))

-- after an enumerator: a comma, or the `}`
abbrev pub after_enumerator : Enumerated → Token → Verdict
after_enumerator d t =
    if is_fixed fixed.Comma t.kind then next_enumerator d else wanted fixed.CloseBrace t (close_braces d)

-- Parameters

abbrev pub with_brackets : Receiving → Option BracketsTree → ParameterTree
with_brackets d b = record { specifiers = d.specifiers; name = d.name; brackets = b }

-- behind the brackets
abbrev pub close_brackets : Receiving → Option ExpressionTree → ExpressionTree → Verdict
close_brackets d length columns =
    taken 1
    (parameter_end d.head d.before (with_brackets d (Some (record { length = length; columns = Some columns }))))

abbrev pub tested : Testing → ℕ → Pos → ExpressionTree → Outer → Outer
tested testing.If n at e o = in_if n at e o
tested testing.Switch n at e o = in_switch n at e o
tested testing.While n at e o = in_while n at e o

-- a colon after an expression: a label, where that is a name
abbrev pub labelled : ℕ → ExpressionTree → Outer → Token → Verdict
labelled n (name id) o t = wanted fixed.Colon t (taken (n + 1) (at_statement (n + 1) (in_label n id o)))
labelled n _ o t = refused

-- an expression that isn't part of another one ends at this token
abbrev pub end_purpose : Purpose → ExpressionTree → Token → Verdict
end_purpose (as_statement n o) e t =
    if is_fixed fixed.Semicolon t.kind then taken n (after_statement (expression_statement e) o) else labelled n e o t
end_purpose (as_label n at o) e t = wanted fixed.Colon t (taken (n + 1) (at_statement (n + 1) (in_case n at e o)))
end_purpose (as_test k n at o) e t =
    wanted fixed.CloseParenthesis t (taken (n + 1) (at_statement (n + 1) (tested k n at e o)))
end_purpose (as_last_test n at s o) e t =
    wanted fixed.CloseParenthesis t (taken (n + 1) (statement_end n (do_while at s e) o))
end_purpose (as_first n at o) e t = wanted fixed.Semicolon t (taken (n + 2) (for_second n at (expression (Some e)) o))
end_purpose (as_second n at f o) e t = wanted fixed.Semicolon t (taken (n + 2) (for_third n at f (Some e) o))
end_purpose (as_third n at f second o) e t =
    wanted fixed.CloseParenthesis t (taken (n + 1) (at_statement (n + 1) (in_for n at f second (Some e) o)))
end_purpose (as_result n at o) e t = wanted fixed.Semicolon t (taken n (after_statement (return at (Some e)) o))
end_purpose (as_length d id) e t =
    wanted fixed.CloseBracket t (taken (site_nesting d.site) (after_length d id e))
end_purpose (as_columns d id length) e t =
    wanted fixed.CloseBracket t
    (taken (site_nesting d.site) (after_columns (with_dimensions d id (record { length = length; columns = Some e }))))
end_purpose (as_value d) e t = wanted fixed.Semicolon t (end_declaration (with_initializer d (Some (single e))))
end_purpose (as_item d) e t = wanted fixed.CloseBrace t (close_initializer (with_item d (item_value e)))
end_purpose (as_row_item d at es) e t =
    wanted fixed.CloseBrace t (close_row d at (first_item es e) (more_items es e))
end_purpose (as_enumerator d id) e t = wanted fixed.CloseBrace t (close_braces (with_enumerator d id (Some e)))
end_purpose (as_parameter_length d) e t = wanted fixed.CloseBracket t (taken 1 (parameter_length d (Some e)))
end_purpose (as_parameter_columns d length) e t = wanted fixed.CloseBracket t (close_brackets d length e)

-- an expression ends at this token, which is no operator
abbrev pub end_expression : ExpressionTree → Context → Token → Verdict
end_expression e (as_whole p) t = end_purpose p e t
end_expression e (in_parentheses n at c) t =
    wanted fixed.CloseParenthesis t (taken n (complete n (parenthesized at e) c))
end_expression e (in_index n id at c) t = wanted fixed.CloseBracket t (taken n (indexed n id at e c))
end_expression e (in_column n id at d column_at c) t =
    wanted fixed.CloseBracket t (taken n (complete n (element id at d column_at e) c))
end_expression e (in_call n id es c) t =
    wanted fixed.CloseParenthesis t (taken n (complete n (call id (one_more es e)) c))
end_expression e (in_prefix n o at c) t = refused
end_expression e (in_unary n o at c) t = refused
end_expression e (in_cast n at specs c) t = refused
end_expression e (in_binary n o at a c) t = refused
end_expression e (in_choice n at d c) t =
    wanted fixed.Colon t (taken (n + 1) (operand (n + 1) (in_alternative n at d e c)))
end_expression e (in_alternative n at d a c) t = refused
end_expression e (in_assignment n o at a c) t = refused
end_expression e (in_comma n at a c) t = refused

abbrev pub join_comma : ℕ → ExpressionTree → Context → Token → Verdict
join_comma n e c t = taken (n + (commas_in e + 1)) (operand (n + (commas_in e + 1)) (in_comma n t.at e c))

-- a comma comes after an expression that isn't part of another one
abbrev pub comma_purpose : Purpose → ℕ → ExpressionTree → Token → Verdict
comma_purpose (as_statement m o) n e t = join_comma n e (as_whole (as_statement m o)) t
comma_purpose (as_label m at o) n e t = refused
comma_purpose (as_test k m at o) n e t = join_comma n e (as_whole (as_test k m at o)) t
comma_purpose (as_last_test m at s o) n e t = join_comma n e (as_whole (as_last_test m at s o)) t
comma_purpose (as_first m at o) n e t = join_comma n e (as_whole (as_first m at o)) t
comma_purpose (as_second m at f o) n e t = join_comma n e (as_whole (as_second m at f o)) t
comma_purpose (as_third m at f second o) n e t = join_comma n e (as_whole (as_third m at f second o)) t
comma_purpose (as_result m at o) n e t = join_comma n e (as_whole (as_result m at o)) t
comma_purpose (as_length d id) n e t = refused
comma_purpose (as_columns d id length) n e t = refused
comma_purpose (as_value d) n e t = next_declarator (with_initializer d (Some (single e)))
comma_purpose (as_item d) n e t = next_item (with_item d (item_value e))
comma_purpose (as_row_item d at es) n e t = taken (initializing_nesting d) (at_row_item d at (one_more es e))
comma_purpose (as_enumerator d id) n e t = next_enumerator (with_enumerator d id (Some e))
comma_purpose (as_parameter_length d) n e t = refused
comma_purpose (as_parameter_columns d length) n e t = refused

abbrev pub comma_after : ℕ → ExpressionTree → Context → Token → Verdict
comma_after n e (as_whole p) t = comma_purpose p n e t
comma_after n e (in_parentheses m at c) t = join_comma n e (in_parentheses m at c) t
comma_after n e (in_index m id at c) t = join_comma n e (in_index m id at c) t
comma_after n e (in_column m id at d column_at c) t = join_comma n e (in_column m id at d column_at c) t
comma_after n e (in_call m id es c) t = taken (m + 1) (operand (m + 1) (in_call m id (one_more es e) c))
comma_after n e (in_prefix m o at c) t = refused
comma_after n e (in_unary m o at c) t = refused
comma_after n e (in_cast m at specs c) t = refused
comma_after n e (in_binary m o at a c) t = refused
comma_after n e (in_choice m at d c) t = join_comma n e (in_choice m at d c) t
comma_after n e (in_alternative m at d a c) t = refused
comma_after n e (in_assignment m o at a c) t = refused
comma_after n e (in_comma m at a c) t = refused

abbrev pub join_binary : BinaryOperator → Reduced → Token → Verdict
join_binary o r t =
    taken (r.nesting + (operators_in r.tree + 1))
    (operand (r.nesting + (operators_in r.tree + 1)) (in_binary r.nesting o t.at r.tree r.context))

abbrev pub join_question : Reduced → Token → Verdict
join_question r t = taken (r.nesting + 1) (operand (r.nesting + 1) (in_choice r.nesting t.at r.tree r.context))

-- an expression of the form that an assignment takes on its left
abbrev pub is_unary : ExpressionTree → Bool
is_unary (cast at specs e) = false
is_unary (binary o at a b) = false
is_unary (conditional at d a b) = false
is_unary (assignment o at a b) = false
is_unary (comma at a b) = false
is_unary _ = true

abbrev pub join_assignment : AssignmentOperator → Reduced → Token → Verdict
join_assignment o r t =
    if is_unary r.tree then
    (if nat_le (operand_level r.context) assignment_expression
    then taken (r.nesting + 1) (operand (r.nesting + 1) (in_assignment r.nesting o t.at r.tree r.context))
    else refused) else refused

-- an operand is complete, and an operator or the end of an expression comes
abbrev pub go_on : ℕ → ExpressionTree → Context → Token → Operator → Verdict
go_on n e c t (operator.Step o) = taken (n + (postfixes_in e + 1)) (complete n (postfix o t.at e) c)
go_on n e c t (operator.Binary o) = join_binary o (reduced (strength o) n e c) t
go_on n e c t operator.Question = join_question (reduced weakest_operator n e c) t
go_on n e c t (operator.Assignment o) = join_assignment o (reduced cast_expression n e c) t
go_on n e c t operator.Comma = let r = reduced any_expression n e c in comma_after r.nesting r.tree r.context t
go_on n e c t operator.Other = let r = reduced any_expression n e c in end_expression r.tree r.context t

abbrev pub at_complete : ℕ → ExpressionTree → Context → Token → Verdict
at_complete n e c t = go_on n e c t (operator_of t.kind)

abbrev pub at_named : ℕ → Identifier → Context → Token → Verdict
at_named n id c t =
    if is_fixed fixed.OpenParenthesis t.kind then taken (n + 1) (arguments n id c) else
    if is_fixed fixed.OpenBracket t.kind then taken (n + 1) (operand (n + 1) (in_index n id t.at c)) else
    at_complete n (name id) c t

-- behind an index, where that of a column may come
abbrev pub at_indexed : ℕ → Identifier → Pos → ExpressionTree → Context → Token → Verdict
at_indexed n id at e c t =
    if is_fixed fixed.OpenBracket t.kind then taken (n + 1) (operand (n + 1) (in_column n id at e t.at c))
    else at_complete n (index id at e) c t

abbrev pub at_arguments : ℕ → Identifier → Context → Token → Verdict
at_arguments n id c t =
    if is_fixed fixed.CloseParenthesis t.kind then taken n (complete n (call id no_expressions) c)
    else at_operand (n + 1) (in_call n id no_expressions c) t

abbrev pub open_cast : ℕ → Pos → Context → Token → Option SpecifierWord → Verdict
open_cast n at c t (Some w) =
    if nat_le (operand_level c) cast_expression then taken (n + 1) (cast_specifiers n at (one (specifier_at t w)) c)
    else refused
open_cast n at c t None = at_operand (n + 1) (in_parentheses n at c) t

abbrev pub at_opened : ℕ → Pos → Context → Token → Verdict
at_opened n at c t = open_cast n at c t (specifier_word t)

abbrev pub more_cast : ℕ → Pos → OneOrMore Specifier → Context → Token → Option SpecifierWord → Verdict
more_cast n at specs c t (Some w) = taken (n + 1) (cast_specifiers n at (with_last specs (specifier_at t w)) c)
more_cast n at specs c t None =
    if end_in_enum specs then refused
    else wanted fixed.CloseParenthesis t (taken (n + 1) (operand (n + 1) (in_cast n at specs c)))

-- Statements

abbrev pub begin_statement : ℕ → Outer → Token → StatementStart → Verdict
begin_statement n o t first.Block = taken (n + 1) (block_item (inner_block n t.at no_items o))
begin_statement n o t first.Empty = taken (n + 1) (after_statement (empty t.at) o)
begin_statement n o t first.Case = taken (n + 1) (operand (n + 1) (as_whole (as_label n t.at o)))
begin_statement n o t first.Default = taken (n + 1) (default_colon n t.at o)
begin_statement n o t (first.Test k) = taken (n + 1) (test_open k n t.at o)
begin_statement n o t first.Do = taken (n + 1) (at_statement (n + 1) (in_do n t.at o))
begin_statement n o t first.For = taken (n + 1) (for_open n t.at o)
begin_statement n o t first.Goto = taken (n + 1) (goto_name n t.at o)
begin_statement n o t first.Continue = taken (n + 1) (statement_end n (continue t.at) o)
begin_statement n o t first.Break = taken (n + 1) (statement_end n (break t.at) o)
begin_statement n o t first.Return = taken (n + 1) (returning n t.at o)
begin_statement n o t first.Other = at_operand (n + 1) (as_whole (as_statement n o)) t

abbrev pub begins_statement : ℕ → Outer → Token → Verdict
begins_statement n o t = begin_statement n o t (statement_start t.kind)

-- a block's `}`
abbrev pub end_block : OpenBlock → Token → Verdict
end_block (function_block h ps at items) t =
    taken 0 (top
    (h.before ++ function
    (record {
      storage = h.storage;
      specifiers = h.specifiers;
      name = h.name;
      parameters = ps;
      body = Some (record { opened = at; items = items; closed = t.at });
    }) ∷ []))
end_block (inner_block n at items o) t = taken n (after_statement (block at items t.at) o)

abbrev pub declaration_or_statement : OpenBlock → Token → Option SpecifierWord → Verdict
declaration_or_statement b t (Some w) =
    taken (block_nesting b) (after_specifiers (in_a_block b None) (one (specifier_at t w)))
declaration_or_statement b t None =
    if is_fixed fixed.CloseBrace t.kind then end_block b t else
    if is_fixed fixed.Static t.kind then taken (block_nesting b) (after_static b t.at) else
    begins_statement (block_nesting b) (in_block b) t

abbrev pub begin_static : OpenBlock → Pos → Token → Option SpecifierWord → Verdict
begin_static b at t (Some w) =
    taken (block_nesting b) (after_specifiers (in_a_block b (Some at)) (one (specifier_at t w)))
begin_static b at t None = refused

abbrev pub at_items : OpenBlock → Token → Verdict
at_items b t = declaration_or_statement b t (specifier_word t)

-- a statement was read, and what it is part of goes on
unfoldable pub resume : StatementTree → Outer → Token → Verdict
resume s (in_block b) t = at_items (with_statement b s) t
resume s (in_label n id o) t = resume (label id s) o t
resume s (in_case n at e o) t = resume (case at e s) o t
resume s (in_default n at o) t = resume (default at s) o t
resume s (in_if n at e o) t =
    if is_fixed fixed.Else t.kind then taken (n + 2) (at_statement (n + 2) (in_else n at e s o))
    else resume (if_then at e s) o t
resume s (in_else n at e r o) t = resume (if_else at e r s) o t
resume s (in_switch n at e o) t = resume (switch at e s) o t
resume s (in_while n at e o) t = resume (while at e s) o t
resume s (in_do n at o) t = wanted fixed.While t (taken (n + 1) (do_open n at s o))
resume s (in_for n at f second third o) t = resume (for_loop at f second third s) o t

abbrev pub begin_for : ℕ → Pos → Outer → Token → Option SpecifierWord → Verdict
begin_for n at o t (Some w) = taken (n + 2) (after_specifiers (in_a_for n at o) (one (specifier_at t w)))
begin_for n at o t None =
    if is_fixed fixed.Semicolon t.kind then taken (n + 2) (for_second n at (expression None) o)
    else at_operand (n + 2) (as_whole (as_first n at o)) t

-- Declarations

-- the first name, behind the words of a type and perhaps an enumeration
abbrev pub first_name : Site → OneOrMore Specifier → Option EnumerationTree → Token → Verdict
first_name s specs e t =
    wanted fixed.Name t (taken (site_nesting s)
    (after_name (record { site = s; specifiers = specs; enumeration = e; declarators = [] }) (identifier_of t)))

-- the `{` of an enumeration
abbrev pub open_braces : EnumerationSite → OneOrMore Specifier → Verdict
open_braces s specs =
    if may_open specs
    then taken (enumeration_nesting s) (at_enumerator (record { site = s; specifiers = specs; enumerators = [] }))
    else refused

abbrev pub more_specifiers : Site → OneOrMore Specifier → Token → Option SpecifierWord → Verdict
more_specifiers s specs t (Some w) = taken (site_nesting s) (after_specifiers s (with_last specs (specifier_at t w)))
more_specifiers s specs t None =
    if is_fixed fixed.OpenBrace t.kind then open_braces (in_declaration s) specs else first_name s specs None t

-- the `}` behind enumerators, the last of which a comma follows
abbrev pub end_braces : EnumerationSite → OneOrMore Specifier → List EnumeratorTree → Token → Verdict
end_braces s specs [] t = refused
end_braces s specs (x ∷ xs) t =
    wanted fixed.CloseBrace t
    (close_braces (record { site = s; specifiers = specs; enumerators = record { first = x; more = xs } }))

abbrev pub at_next_enumerator : Enumerating → Token → Verdict
at_next_enumerator d t =
    if is_fixed fixed.Name t.kind
    then taken (enumerating_nesting d) (after_enumerator_name d (identifier_of t))
    else end_braces d.site d.specifiers d.enumerators t

abbrev pub at_enumerator_name : Enumerating → Identifier → Token → Verdict
at_enumerator_name d id t =
    if is_fixed fixed.Assign t.kind
    then taken (enumerating_nesting d) (operand (enumerating_nesting d) (as_whole (as_enumerator d id)))
    else after_enumerator (with_enumerator d id None) t

-- an enumeration declares no object
abbrev pub alone : OneOrMore Specifier → EnumerationTree → DeclarationTree
alone specs e = record { specifiers = specs; enumeration = Some e; declarators = [] }

-- an enumeration stands alone, but not behind the `static` of a block
abbrev pub end_alone : Site → OneOrMore Specifier → EnumerationTree → Verdict
end_alone (in_a_block b None) specs e =
    taken (site_nesting (in_a_block b None)) (declared_at (in_a_block b None) (alone specs e))
end_alone (in_a_block b (Some at)) specs e = refused
end_alone (in_a_for n at o) specs e =
    taken (site_nesting (in_a_for n at o)) (declared_at (in_a_for n at o) (alone specs e))
end_alone (outside before s) specs e =
    taken (site_nesting (outside before s)) (declared_at (outside before s) (alone specs e))

-- what an enumeration is for goes on behind it
abbrev pub behind_braces : EnumerationSite → OneOrMore Specifier → EnumerationTree → Token → Verdict
behind_braces (in_declaration s) specs e t =
    if is_fixed fixed.Semicolon t.kind then end_alone s specs e else first_name s specs (Some e) t
behind_braces (in_typedef before) specs e t =
    wanted fixed.Name t (taken 0 (after_type_name before specs (Some e) (one (identifier_of t))))

abbrev pub with_qualifier : EnumerationTree → Specifier → EnumerationTree
with_qualifier e s = record { enumerators = e.enumerators; qualifiers = e.qualifiers ++ s ∷ [] }

abbrev pub at_after_braces : EnumerationSite → OneOrMore Specifier → EnumerationTree → Token → Verdict
at_after_braces s specs e t =
    if is_fixed fixed.Const t.kind
    then taken (enumeration_nesting s) (after_braces s specs (with_qualifier e (specifier_at t word.Const)))
    else behind_braces s specs e t

abbrev pub without_dimensions : Declaring → Identifier → Naming
without_dimensions d id = record { declaring = d; name = id; dimensions = None }

-- a function, where this is the first declarator of an external definition and no enumeration is before it
abbrev pub open_parameters : Site → OneOrMore Specifier → Option EnumerationTree → List DeclaratorTree → Identifier →
    Verdict
open_parameters (in_a_block b s) specs e ds id = refused
open_parameters (in_a_for n at o) specs e ds id = refused
open_parameters (outside before s) specs None [] id =
    taken 1 (parameters_open (record { before = before; storage = s; specifiers = specs; name = id }))
open_parameters (outside before s) specs None (d ∷ ds) id = refused
open_parameters (outside before s) specs (Some e) ds id = refused

-- behind a declarator's dimensions
abbrev pub at_after_dimensions : Naming → Token → Verdict
at_after_dimensions d t =
    if is_fixed fixed.Assign t.kind then taken (naming_nesting d) (after_assign d)
    else after_declarator (with_initializer d None) t

abbrev pub at_after_name : Declaring → Identifier → Token → Verdict
at_after_name d id t =
    if is_fixed fixed.OpenParenthesis t.kind
    then open_parameters d.site d.specifiers d.enumeration d.declarators id else
    if is_fixed fixed.OpenBracket t.kind
    then taken (site_nesting d.site + 1) (operand (site_nesting d.site + 1) (as_whole (as_length d id))) else
    at_after_dimensions (without_dimensions d id) t

abbrev pub at_after_length : Declaring → Identifier → ExpressionTree → Token → Verdict
at_after_length d id e t =
    if is_fixed fixed.OpenBracket t.kind
    then taken (site_nesting d.site + 1) (operand (site_nesting d.site + 1) (as_whole (as_columns d id e))) else
    at_after_dimensions (with_dimensions d id (record { length = e; columns = None })) t

abbrev pub at_after_assign : Naming → Token → Verdict
at_after_assign d t =
    if is_fixed fixed.OpenBrace t.kind
    then taken (naming_nesting d) (at_initializer_item (record { naming = d; brace = t.at; items = [] }))
    else at_operand (naming_nesting d) (as_whole (as_value d)) t

-- the `}` behind items, the last of which a comma follows
abbrev pub end_items : Naming → Pos → List InitializerItemTree → Verdict
end_items d at [] = refused
end_items d at (i ∷ more) =
    close_initializer (record { naming = d; brace = at; items = record { first = i; more = more } })

abbrev pub at_next_item : Initializing → Token → Verdict
at_next_item d t =
    if is_fixed fixed.OpenBrace t.kind then taken (initializing_nesting d) (at_row_item d t.at no_expressions) else
    if is_fixed fixed.CloseBrace t.kind then end_items d.naming d.brace d.items else
    at_operand (initializing_nesting d) (as_whole (as_item d)) t

-- the `}` behind the values of a row, the last of which a comma follows
abbrev pub end_row : Initializing → Pos → ExpressionTrees → Verdict
end_row d at no_expressions = refused
end_row d at (expression_then e es) = close_row d at e es

abbrev pub at_next_row_item : Initializing → Pos → ExpressionTrees → Token → Verdict
at_next_row_item d at es t =
    if is_fixed fixed.CloseBrace t.kind then end_row d at es else
    at_operand (initializing_nesting d) (as_whole (as_row_item d at es)) t

-- External definitions

abbrev pub begin_external : List ExternalTree → Option Storage → Token → Option SpecifierWord → Verdict
begin_external before s t (Some w) = taken 0 (after_specifiers (outside before s) (one (specifier_at t w)))
begin_external before s t None = refused

abbrev pub storage_or_specifier : List ExternalTree → Token → Option StorageWord → Verdict
storage_or_specifier before t (Some w) = taken 0 (after_storage before (storage_at t w))
storage_or_specifier before t None =
    if is_fixed fixed.End t.kind then finished before else
    if is_fixed fixed.Typedef t.kind then taken 0 (after_typedef before) else
    begin_external before None t (specifier_word t)

-- Type names

abbrev pub begin_typedef : List ExternalTree → Token → Option SpecifierWord → Verdict
begin_typedef before t (Some w) = taken 0 (type_specifiers before (one (specifier_at t w)))
begin_typedef before t None = refused

abbrev pub more_typedef : List ExternalTree → OneOrMore Specifier → Token → Option SpecifierWord → Verdict
more_typedef before specs t (Some w) = taken 0 (type_specifiers before (with_last specs (specifier_at t w)))
more_typedef before specs t None =
    if is_fixed fixed.OpenBrace t.kind then open_braces (in_typedef before) specs
    else wanted fixed.Name t (taken 0 (after_type_name before specs None (one (identifier_of t))))

abbrev pub at_after_type_name : List ExternalTree → OneOrMore Specifier → Option EnumerationTree →
    OneOrMore Identifier → Token → Verdict
at_after_type_name before specs e ids t =
    if is_fixed fixed.Comma t.kind then taken 0 (type_name_comma before specs e ids) else
    wanted fixed.Semicolon t
    (taken 0 (top (before ++ type_names (record { specifiers = specs; enumeration = e; names = ids }) ∷ [])))

abbrev pub begin_parameter : Head → List ParameterTree → Token → Option SpecifierWord → Verdict
begin_parameter h ps t (Some w) = taken 1 (parameter_specifiers h ps (one (specifier_at t w)))
begin_parameter h ps t None = refused

-- a parameter without a name; `void` alone is none
abbrev pub is_void_alone : SpecifierWord → List Specifier → Bool
is_void_alone w [] = is_void_word w
is_void_alone w (s ∷ more) = false

abbrev pub is_void : OneOrMore Specifier → Bool
is_void s = is_void_alone s.first.word s.more

abbrev pub words_alone : OneOrMore Specifier → ParameterTree
words_alone specs = record { specifiers = specs; name = None; brackets = None }

abbrev pub last_parameter : List ParameterTree → OneOrMore Specifier → List ParameterTree
last_parameter [] specs = if is_void specs then [] else words_alone specs ∷ []
last_parameter (p ∷ ps) specs = (p ∷ ps) ++ words_alone specs ∷ []

abbrev pub receiving : Head → List ParameterTree → OneOrMore Specifier → Option Identifier → Receiving
receiving h ps specs n = record { head = h; before = ps; specifiers = specs; name = n }

abbrev pub more_parameter : Head → List ParameterTree → OneOrMore Specifier → Token → Option SpecifierWord → Verdict
more_parameter h ps specs t (Some w) = taken 1 (parameter_specifiers h ps (with_last specs (specifier_at t w)))
more_parameter h ps specs t None =
    if end_in_enum specs then refused else
    if is_fixed fixed.Name t.kind
    then taken 1 (parameter_name (receiving h ps specs (Some (identifier_of t)))) else
    if is_fixed fixed.OpenBracket t.kind then taken 2 (parameter_bracket (receiving h ps specs None)) else
    if is_fixed fixed.Comma t.kind then taken 1 (parameter_comma h (ps ++ words_alone specs ∷ [])) else
    wanted fixed.CloseParenthesis t (taken 0 (parameters_closed h (last_parameter ps specs)))

-- a parameter has ended: another one, or the parenthesis
abbrev pub at_parameter_end : Head → List ParameterTree → ParameterTree → Token → Verdict
at_parameter_end h ps p t =
    if is_fixed fixed.Comma t.kind then taken 1 (parameter_comma h (ps ++ p ∷ [])) else
    wanted fixed.CloseParenthesis t (taken 0 (parameters_closed h (ps ++ p ∷ [])))

abbrev pub at_parameter_name : Receiving → Token → Verdict
at_parameter_name d t =
    if is_fixed fixed.OpenBracket t.kind then taken 2 (parameter_bracket d)
    else at_parameter_end d.head d.before (with_brackets d None) t

-- a parameter's length may be left out
abbrev pub at_parameter_bracket : Receiving → Token → Verdict
at_parameter_bracket d t =
    if is_fixed fixed.CloseBracket t.kind then taken 1 (parameter_length d None)
    else at_operand 2 (as_whole (as_parameter_length d)) t

abbrev pub at_parameter_length : Receiving → Option ExpressionTree → Token → Verdict
at_parameter_length d length t =
    if is_fixed fixed.OpenBracket t.kind then taken 2 (operand 2 (as_whole (as_parameter_columns d length)))
    else at_parameter_end d.head d.before (with_brackets d (Some (record { length = length; columns = None }))) t

abbrev pub at_parameters_closed : Head → List ParameterTree → Token → Verdict
at_parameters_closed h ps t =
    if is_fixed fixed.Semicolon t.kind
    then taken 0
    (top (h.before
    ++ function (record {
      storage = h.storage;
      specifiers = h.specifiers;
      name = h.name;
      parameters = ps;
      body = None;
    }) ∷ []))
    else wanted fixed.OpenBrace t (taken 1 (block_item (function_block h ps t.at no_items)))

-- what becomes of a state at a token
abbrev pub step : State → Token → Verdict
step (top before) t = storage_or_specifier before t (storage_word t.kind)
step (after_storage before s) t = begin_external before (Some s) t (specifier_word t)
step (after_typedef before) t = begin_typedef before t (specifier_word t)
step (type_specifiers before specs) t = more_typedef before specs t (next_word specs t)
step (after_type_name before specs e ids) t = at_after_type_name before specs e ids t
step (type_name_comma before specs e ids) t =
    wanted fixed.Name t (taken 0 (after_type_name before specs e (with_last ids (identifier_of t))))
step (at_enumerator d) t = at_next_enumerator d t
step (after_enumerator_name d id) t = at_enumerator_name d id t
step (after_braces s specs e) t = at_after_braces s specs e t
step (after_specifiers s specs) t = more_specifiers s specs t (next_word specs t)
step (after_name d id) t = at_after_name d id t
step (after_length d id e) t = at_after_length d id e t
step (after_columns d) t = at_after_dimensions d t
step (after_assign d) t = at_after_assign d t
step (at_initializer_item d) t = at_next_item d t
step (at_row_item d at es) t = at_next_row_item d at es t
step (after_item d) t = at_item_end d t
step (after_initializer d) t = after_declarator d t
step (after_comma d) t = wanted fixed.Name t (taken (site_nesting d.site) (after_name d (identifier_of t)))
step (parameters_open h) t =
    if is_fixed fixed.CloseParenthesis t.kind then taken 0 (parameters_closed h [])
    else begin_parameter h [] t (specifier_word t)
step (parameter_specifiers h ps specs) t = more_parameter h ps specs t (next_word specs t)
step (parameter_name d) t = at_parameter_name d t
step (parameter_bracket d) t = at_parameter_bracket d t
step (parameter_length d length) t = at_parameter_length d length t
step (parameter_end h ps p) t = at_parameter_end h ps p t
step (parameter_comma h ps) t = begin_parameter h ps t (specifier_word t)
step (parameters_closed h ps) t = at_parameters_closed h ps t
step (block_item b) t = at_items b t
step (after_static b at) t = begin_static b at t (specifier_word t)
step (at_statement n o) t = begins_statement n o t
step (after_statement s o) t = resume s o t
step (test_open k n at o) t =
    wanted fixed.OpenParenthesis t (taken (n + 2) (operand (n + 2) (as_whole (as_test k n at o))))
step (do_open n at s o) t =
    wanted fixed.OpenParenthesis t (taken (n + 2) (operand (n + 2) (as_whole (as_last_test n at s o))))
step (for_open n at o) t = wanted fixed.OpenParenthesis t (taken (n + 2) (for_first n at o))
step (for_first n at o) t = begin_for n at o t (specifier_word t)
step (for_second n at f o) t =
    if is_fixed fixed.Semicolon t.kind then taken (n + 2) (for_third n at f None o)
    else at_operand (n + 2) (as_whole (as_second n at f o)) t
step (for_third n at f second o) t =
    if is_fixed fixed.CloseParenthesis t.kind then taken (n + 1) (at_statement (n + 1) (in_for n at f second None o))
    else at_operand (n + 2) (as_whole (as_third n at f second o)) t
step (default_colon n at o) t = wanted fixed.Colon t (taken (n + 1) (at_statement (n + 1) (in_default n at o)))
step (goto_name n at o) t = wanted fixed.Name t (taken (n + 1) (statement_end n (goto at (identifier_of t)) o))
step (returning n at o) t =
    if is_fixed fixed.Semicolon t.kind then taken n (after_statement (return at None) o)
    else at_operand (n + 1) (as_whole (as_result n at o)) t
step (statement_end n s o) t = wanted fixed.Semicolon t (taken n (after_statement s o))
step (operand n c) t = at_operand n c t
step (named n id c) t = at_named n id c t
step (indexed n id at e c) t = at_indexed n id at e c t
step (arguments n id c) t = at_arguments n id c t
step (opened n at c) t = at_opened n at c t
step (cast_specifiers n at specs c) t = more_cast n at specs c t (next_word specs t)
step (complete n e c) t = at_complete n e c t

-- How reading ends: with the trees, or at a token that is refused. The nestings are those of the tokens before.
pub data Ending : Type 0 where
  ends : List ExternalTree → Ending
  stops : Token → Ending
  -- no token is left, and the end wasn't read
  cut_off : Ending

pub record Reading : Type 0 where
  pub nestings : List ℕ
  pub ending : Ending

abbrev pub then_reading : ℕ → Reading → Reading
then_reading n r = record { nestings = n ∷ r.nestings; ending = r.ending }

abbrev pub read_on : Verdict → Token → (State → Reading) → Reading
read_on (taken n s) t rest = then_reading n (rest s)
read_on refused t rest = record { nestings = []; ending = stops t }
read_on (finished u) t rest = record { nestings = []; ending = ends u }

unfoldable pub read : State → List Token → Reading
read s [] = record { nestings = []; ending = cut_off }
read s (t ∷ ts) = read_on (step s t) t (λ r. read r ts)
