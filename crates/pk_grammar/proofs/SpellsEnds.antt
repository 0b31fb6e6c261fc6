-- From each state some tokens lead to the end of a text.
use Rattle.std.proofs.Common.{◌≡◌, ℕ, ◌+◌, List, Option, Some, Bool, true, false, refl, sym, subst, rules}
use Rattle.std.specs.Prelude.{nat_le, pos}
use Rattle.pk_ctypes.specs.declared.places.Pos.{Pos}
use Rattle.pk_lex.specs.declared.token.Token.{Token}
use Rattle.pk_lex.specs.declared.token.Kind.{Kind}
use Rattle.pk_lex.specs.declared.token.Kind.TheVariants as kind
use Rattle.pk_lex.specs.declared.token.Keyword.TheVariants as key
use Rattle.pk_lex.specs.declared.token.Punctuator.{Punctuator}
use Rattle.pk_lex.specs.declared.token.Punctuator.TheVariants as mark
use Rattle.pk_ast.specs.declared.declarations.Specifier.{Specifier}
use Rattle.pk_ast.specs.declared.declarations.SpecifierWord.{SpecifierWord}
use Rattle.pk_ast.specs.Lists.{with_last}
use Rattle.pk_ast.specs.Trees.{OneOrMore, EnumerationTree, ParameterTree, ExpressionTree, prefix, unary, cast, binary, conditional, assignment, comma, ForStartTree, StatementTree, label, case, default, if_then, if_else, switch, while, for_loop, ExternalTree}
use Rattle.pk_grammar.specs.declared.signs.Fixed.TheVariants as fixed
use Rattle.pk_grammar.specs.declared.signs.Operator.TheVariants as operator
use Rattle.pk_grammar.specs.Languages.{identifier_of}
use Rattle.pk_grammar.specs.Grammar.{any_expression, strength}
use Rattle.pk_grammar.specs.Machine.Signs.{is_fixed, operator_of}
use Rattle.pk_grammar.specs.Machine.States.{Head, OpenBlock, function_block, inner_block, Outer, in_block, in_label, in_case, in_default, in_if, in_else, in_switch, in_while, in_do, in_for, Site, in_a_block, in_a_for, outside, EnumerationSite, in_declaration, in_typedef, Declared, Initialized, Receiving, Purpose, as_statement, as_label, as_test, as_last_test, as_first, as_second, as_third, as_result, as_length, as_columns, as_value, as_item, as_row_item, as_enumerator, as_parameter_length, as_parameter_columns, Context, as_whole, in_parentheses, in_index, in_column, in_call, in_prefix, in_unary, in_cast, in_binary, in_choice, in_alternative, in_assignment, in_comma, State, top, after_storage, after_typedef, type_specifiers, after_type_name, type_name_comma, at_enumerator, after_enumerator_name, after_braces, after_specifiers, after_name, after_length, after_columns, after_assign, at_initializer_item, at_row_item, after_item, after_initializer, after_comma, parameters_open, parameter_specifiers, parameter_name, parameter_bracket, parameter_length, parameter_end, parameter_comma, parameters_closed, block_item, after_static, at_statement, after_statement, test_open, do_open, for_open, for_first, for_second, for_third, default_colon, goto_name, returning, statement_end, operand, named, indexed, arguments, opened, cast_specifiers, complete}
use Rattle.pk_grammar.specs.Machine.Steps.{Verdict, taken, finished, Reduced, reduced, end_expression, end_purpose, go_on, resume, step, end_declaration, site_nesting, specifier_at, next_word, end_in_enum}
use Rattle.pk_grammar.proofs.WordLemmas.{next_tag, tag_is_last, no_name}
use Rattle.pk_grammar.proofs.CompleteOperands.{step_more_cast, step_cast_end}
use Rattle.pk_grammar.proofs.CompleteDeclarations.{step_first_name, step_more_specifiers}
use Rattle.pk_grammar.proofs.CompleteExternals.{step_more_type, step_first_type, step_more_parameter, step_unnamed_close}

-- some tokens lead on to the end of a text
pub data Ends : Verdict → Type 0 where
  at_end : {u : List ExternalTree} → Ends (finished u)
  goes : {n : ℕ} {s : State} (t : Token) → Ends (step s t) → Ends (taken n s)

abbrev a_token : Kind → Token
a_token k = record { kind = k; start = 0; end = 0; at = record { line = 0; column = 0 } }

abbrev sign : Punctuator → Token
sign p = a_token (kind.Punctuator p)

abbrev semicolon : Token
semicolon = sign mark.Semicolon

abbrev a_name : Token
a_name = a_token kind.Name

abbrev a_character : Token
a_character = a_token (kind.Character (pos 0))

the_end : {n : ℕ} (u : List ExternalTree) → Ends (taken n (top u))
the_end u = goes (a_token kind.End) at_end

-- Statements

-- a token that ends what is open, and begins no else
record Closing (v : Token → Verdict) : Type 0 where
  token : Token
  no_else : is_fixed fixed.Else token.kind ≡ false
  ends : Ends (v token)

closes : (o : Outer) (s : StatementTree) → Closing (λ t. resume s o t)
unfolding resume reduced
closes (in_block (function_block h ps at items)) s = record { token = sign mark.CloseBrace; no_else = refl; ends = the_end _ }
closes (in_block (inner_block n at items o)) s = record { token = sign mark.CloseBrace; no_else = refl; ends = let r = closes o _ in goes r.token r.ends }
closes (in_label n id o) s = let r = closes o (label id s) in record { token = r.token; no_else = r.no_else; ends = r.ends }
closes (in_case n at e o) s = let r = closes o (case at e s) in record { token = r.token; no_else = r.no_else; ends = r.ends }
closes (in_default n at o) s = let r = closes o (default at s) in record { token = r.token; no_else = r.no_else; ends = r.ends }
closes (in_if n at e o) s = let r = closes o (if_then at e s) in record { token = r.token; no_else = r.no_else; ends = rw r.no_else r.ends }
closes (in_else n at e r o) s = let r = closes o (if_else at e r s) in record { token = r.token; no_else = r.no_else; ends = r.ends }
closes (in_switch n at e o) s = let r = closes o (switch at e s) in record { token = r.token; no_else = r.no_else; ends = r.ends }
closes (in_while n at e o) s = let r = closes o (while at e s) in record { token = r.token; no_else = r.no_else; ends = r.ends }
closes (in_do n at o) s = record {
  token = a_token (kind.Keyword key.While);
  no_else = refl;
  ends = let r = closes o _ in goes (sign mark.OpenParenthesis) (goes a_character (goes (sign mark.CloseParenthesis) (goes semicolon (goes r.token r.ends))));
}
closes (in_for n at f second third o) s = let r = closes o (for_loop at f second third s) in record { token = r.token; no_else = r.no_else; ends = r.ends }

ends_after : (n : ℕ) (s : StatementTree) (o : Outer) → Ends (taken n (after_statement s o))
ends_after n s o = let r = closes o s in goes r.token r.ends

ends_statement : (n m : ℕ) (o : Outer) → Ends (taken n (at_statement m o))
ends_statement n m o = goes semicolon (ends_after _ _ o)

ends_item : (n : ℕ) (b : OpenBlock) → Ends (taken n (block_item b))
ends_item n b = goes semicolon (ends_after _ _ (in_block b))

-- Declarations

ends_second : (k n : ℕ) (at : Pos) (f : ForStartTree) (o : Outer) → Ends (taken k (for_second n at f o))
ends_second k n at f o = goes semicolon (goes (sign mark.CloseParenthesis) (ends_statement _ _ _))

ends_declaration : (d : Declared) → Ends (end_declaration d)
ends_declaration d = go d d.site
  where
    go : (d : Declared) (s : Site) → Ends (end_declaration (record d { site = s }))
    go d (in_a_block b p) = ends_item _ _
    go d (in_a_for n at o) = ends_second _ n at _ o
    go d (outside before s) = the_end _

ends_initializer : (n : ℕ) (d : Declared) → Ends (taken n (after_initializer d))
ends_initializer n d = goes semicolon (ends_declaration d)

ends_items : (n : ℕ) (d : Initialized) → Ends (taken n (after_item d))
ends_items n d = goes (sign mark.CloseBrace) (ends_initializer _ _)

-- behind the braces of an enumeration
ends_braces : (n : ℕ) (s : EnumerationSite) (specs : OneOrMore Specifier) (e : EnumerationTree) → Ends (taken n (after_braces s specs e))
ends_braces n (in_declaration s) specs e = goes a_name (goes semicolon (ends_declaration _))
ends_braces n (in_typedef before) specs e = goes a_name (goes semicolon (the_end _))

-- Parameters

ends_length : (n : ℕ) (d : Receiving) (l : Option ExpressionTree) → Ends (taken n (parameter_length d l))
ends_length n d l = goes (sign mark.CloseParenthesis) (goes semicolon (the_end _))

ends_parameter : (n : ℕ) (h : Head) (ps : List ParameterTree) (p : ParameterTree) → Ends (taken n (parameter_end h ps p))
ends_parameter n h ps p = goes (sign mark.CloseParenthesis) (goes semicolon (the_end _))

-- Expressions

-- a token that is no operator, and ends what is open
record Ending (v : Token → Verdict) : Type 0 where
  token : Token
  no_operator : operator_of token.kind ≡ operator.Other
  ends : Ends (v token)

ends_purpose : (p : Purpose) (e : ExpressionTree) → Ending (λ t. end_purpose p e t)
ends_purpose (as_statement n o) e = record { token = semicolon; no_operator = refl; ends = ends_after _ _ o }
ends_purpose (as_label n at o) e = record { token = sign mark.Colon; no_operator = refl; ends = ends_statement _ _ _ }
ends_purpose (as_test k n at o) e = record { token = sign mark.CloseParenthesis; no_operator = refl; ends = ends_statement _ _ _ }
ends_purpose (as_last_test n at s o) e = record { token = sign mark.CloseParenthesis; no_operator = refl; ends = goes semicolon (ends_after _ _ o) }
ends_purpose (as_first n at o) e = record { token = semicolon; no_operator = refl; ends = ends_second _ n at _ o }
ends_purpose (as_second n at f o) e = record { token = semicolon; no_operator = refl; ends = goes (sign mark.CloseParenthesis) (ends_statement _ _ _) }
ends_purpose (as_third n at f second o) e = record { token = sign mark.CloseParenthesis; no_operator = refl; ends = ends_statement _ _ _ }
ends_purpose (as_result n at o) e = record { token = semicolon; no_operator = refl; ends = ends_after _ _ o }
ends_purpose (as_length d id) e = record { token = sign mark.CloseBracket; no_operator = refl; ends = goes semicolon (ends_declaration _) }
ends_purpose (as_columns d id l) e = record { token = sign mark.CloseBracket; no_operator = refl; ends = goes semicolon (ends_declaration _) }
ends_purpose (as_value d) e = record { token = semicolon; no_operator = refl; ends = ends_declaration _ }
ends_purpose (as_enumerator d id) e = record { token = sign mark.CloseBrace; no_operator = refl; ends = ends_braces _ d.site _ _ }
ends_purpose (as_item d) e = record { token = sign mark.CloseBrace; no_operator = refl; ends = ends_initializer _ _ }
ends_purpose (as_row_item d at es) e = record { token = sign mark.CloseBrace; no_operator = refl; ends = ends_items _ _ }
ends_purpose (as_parameter_length d) e = record { token = sign mark.CloseBracket; no_operator = refl; ends = ends_length _ _ _ }
ends_purpose (as_parameter_columns d l) e = record { token = sign mark.CloseBracket; no_operator = refl; ends = ends_parameter _ _ _ _ }

zero_le : (n : ℕ) → nat_le 0 n ≡ true
zero_le n = search rules

abbrev ended : Reduced → Token → Verdict
ended r t = end_expression r.tree r.context t

-- the same of a state, an operand of which is complete
ends_complete : (k n : ℕ) (e : ExpressionTree) (c : Context) → Ending (λ t. ended (reduced any_expression n e c) t) → Ends (taken k (complete n e c))
ends_complete k n e c r = goes r.token (subst (λ o. Ends (go_on n e c r.token o)) (sym r.no_operator) r.ends)

ends_context : (c : Context) (n : ℕ) (e : ExpressionTree) → Ending (λ t. ended (reduced any_expression n e c) t)
unfolding reduced
ends_context (as_whole p) n e = ends_purpose p e
ends_context (in_parentheses m at c) n e = record { token = sign mark.CloseParenthesis; no_operator = refl; ends = ends_complete _ m _ c (ends_context c m _) }
ends_context (in_index m id at c) n e = record {
  token = sign mark.CloseBracket;
  no_operator = refl;
  ends = goes (sign mark.OpenBracket) (goes a_character (ends_complete _ _ _ (in_column m id at e _ c)
      (record { token = sign mark.CloseBracket; no_operator = refl; ends = ends_complete _ m _ c (ends_context c m _) })));
}
ends_context (in_column m id at d column_at c) n e = record { token = sign mark.CloseBracket; no_operator = refl; ends = ends_complete _ m _ c (ends_context c m _) }
ends_context (in_call m id es c) n e = record { token = sign mark.CloseParenthesis; no_operator = refl; ends = ends_complete _ m _ c (ends_context c m _) }
ends_context (in_prefix m o at c) n e = ends_context c m (prefix o at e)
ends_context (in_unary m o at c) n e = ends_context c m (unary o at e)
ends_context (in_cast m at specs c) n e = ends_context c m (cast at specs e)
ends_context (in_binary m o at a c) n e = rw (zero_le (strength o)) (ends_context c m (binary o at a e))
ends_context (in_choice m at d c) n e = record { token = sign mark.Colon; no_operator = refl; ends = goes a_character (ends_complete _ _ _ (in_alternative m at d e c) (ends_context c m _)) }
ends_context (in_alternative m at d a c) n e = ends_context c m (conditional at d a e)
ends_context (in_assignment m o at a c) n e = ends_context c m (assignment o at a e)
ends_context (in_comma m at a c) n e = ends_context c m (comma at a e)

ends_operand : (k n : ℕ) (c : Context) → Ends (taken k (operand n c))
ends_operand k n c = goes a_character (ends_complete _ _ _ c (ends_context c _ _))

-- Words of a type

-- where words that are whole lead to the end, all do: behind `enum` by a tag
module _ (f : OneOrMore Specifier → State) (k : ℕ) (grows : (done : OneOrMore Specifier) (t : Token) (w : SpecifierWord) → next_word done t ≡ Some w → step (f done) t ≡ taken k (f (with_last done (specifier_at t w))))
    (whole : (n : ℕ) (specs : OneOrMore Specifier) → end_in_enum specs ≡ false → Ends (taken n (f specs))) where
  ends_words : (n : ℕ) (specs : OneOrMore Specifier) → Ends (taken n (f specs))
  ends_words n specs = by_end (end_in_enum specs) refl
    where
      by_end : (b : Bool) → end_in_enum specs ≡ b → Ends (taken n (f specs))
      by_end false e = whole n specs e
      by_end true e = goes a_name (subst Ends (sym (grows specs a_name _ (next_tag specs a_name e refl))) (whole k (with_last specs _) (tag_is_last specs _ e)))

whole_type : (before : List ExternalTree) (n : ℕ) (specs : OneOrMore Specifier) → end_in_enum specs ≡ false → Ends (taken n (type_specifiers before specs))
whole_type before n specs e = goes a_name (subst Ends (sym (step_first_type before specs (identifier_of a_name) a_name (no_name specs a_name e refl) (refl, refl))) (goes semicolon (the_end _)))

whole_specifiers : (s : Site) (n : ℕ) (specs : OneOrMore Specifier) → end_in_enum specs ≡ false → Ends (taken n (after_specifiers s specs))
whole_specifiers s n specs e = goes a_name (subst Ends (sym (step_first_name s specs a_name (no_name specs a_name e refl) refl)) (goes semicolon (ends_declaration _)))

whole_parameter : (h : Head) (ps : List ParameterTree) (n : ℕ) (specs : OneOrMore Specifier) → end_in_enum specs ≡ false → Ends (taken n (parameter_specifiers h ps specs))
whole_parameter h ps n specs e = goes (sign mark.CloseParenthesis) (subst Ends (sym (step_unnamed_close h ps specs (sign mark.CloseParenthesis) e refl)) (goes semicolon (the_end _)))

whole_cast : (m : ℕ) (at : Pos) (c : Context) (n : ℕ) (specs : OneOrMore Specifier) → end_in_enum specs ≡ false → Ends (taken n (cast_specifiers m at specs c))
whole_cast m at c n specs e = goes (sign mark.CloseParenthesis) (subst Ends (sym (step_cast_end m at specs c (sign mark.CloseParenthesis) e refl)) (ends_operand _ _ _))

-- the same of each state
pub state_ends : (n : ℕ) (s : State) → Ends (taken n s)
state_ends n (top before) = the_end before
state_ends n (after_storage before s) = goes (a_token (kind.Keyword key.Int)) (goes a_name (goes semicolon (the_end _)))
state_ends n (after_typedef before) = goes (a_token (kind.Keyword key.Int)) (goes a_name (goes semicolon (the_end _)))
state_ends n (type_specifiers before specs) = ends_words (type_specifiers before) 0 (step_more_type before) (whole_type before) n specs
state_ends n (after_type_name before specs e ids) = goes semicolon (the_end _)
state_ends n (type_name_comma before specs e ids) = goes a_name (goes semicolon (the_end _))
state_ends n (at_enumerator d) = goes a_name (goes (sign mark.CloseBrace) (ends_braces _ d.site _ _))
state_ends n (after_enumerator_name d id) = goes (sign mark.CloseBrace) (ends_braces _ d.site _ _)
state_ends n (after_braces s specs e) = ends_braces n s specs e
state_ends n (after_specifiers s specs) = ends_words (after_specifiers s) (site_nesting s) (step_more_specifiers s) (whole_specifiers s) n specs
state_ends n (after_name d id) = goes semicolon (ends_declaration _)
state_ends n (after_length d id e) = goes semicolon (ends_declaration _)
state_ends n (after_columns d) = goes semicolon (ends_declaration _)
state_ends n (after_assign d) = goes a_character (ends_complete _ _ _ _ (ends_context _ _ _))
state_ends n (at_initializer_item d) = goes a_character (ends_complete _ _ _ _ (ends_context _ _ _))
state_ends n (at_row_item d at es) = goes a_character (ends_complete _ _ _ _ (ends_context _ _ _))
state_ends n (after_item d) = ends_items n d
state_ends n (after_initializer d) = ends_initializer n d
state_ends n (after_comma d) = goes a_name (goes semicolon (ends_declaration _))
state_ends n (parameters_open h) = goes (sign mark.CloseParenthesis) (goes semicolon (the_end _))
state_ends n (parameter_specifiers h ps specs) = ends_words (parameter_specifiers h ps) 1 (step_more_parameter h ps) (whole_parameter h ps) n specs
state_ends n (parameter_name d) = goes (sign mark.CloseParenthesis) (goes semicolon (the_end _))
state_ends n (parameter_bracket d) = goes (sign mark.CloseBracket) (ends_length _ _ _)
state_ends n (parameter_length d l) = ends_length n d l
state_ends n (parameter_end h ps p) = ends_parameter n h ps p
state_ends n (parameter_comma h ps) = goes (a_token (kind.Keyword key.Int)) (goes (sign mark.CloseParenthesis) (goes semicolon (the_end _)))
state_ends n (parameters_closed h ps) = goes semicolon (the_end _)
state_ends n (block_item b) = ends_item n b
state_ends n (after_static b at) = goes (a_token (kind.Keyword key.Int)) (goes a_name (goes semicolon (ends_item _ _)))
state_ends n (at_statement m o) = ends_statement n m o
state_ends n (after_statement s o) = ends_after n s o
state_ends n (test_open k m at o) = goes (sign mark.OpenParenthesis) (ends_operand _ _ _)
state_ends n (do_open m at s o) = goes (sign mark.OpenParenthesis) (ends_operand _ _ _)
state_ends n (for_open m at o) = goes (sign mark.OpenParenthesis) (goes semicolon (ends_second _ m at _ o))
state_ends n (for_first m at o) = goes semicolon (ends_second _ m at _ o)
state_ends n (for_second m at f o) = ends_second n m at f o
state_ends n (for_third m at f second o) = goes (sign mark.CloseParenthesis) (ends_statement _ _ _)
state_ends n (default_colon m at o) = goes (sign mark.Colon) (ends_statement _ _ _)
state_ends n (goto_name m at o) = goes a_name (goes semicolon (ends_after _ _ o))
state_ends n (returning m at o) = goes semicolon (ends_after _ _ o)
state_ends n (statement_end m s o) = goes semicolon (ends_after _ _ o)
state_ends n (operand m c) = ends_operand n m c
state_ends n (named m id c) = goes (sign mark.OpenParenthesis) (goes (sign mark.CloseParenthesis) (ends_complete _ _ _ c (ends_context c _ _)))
state_ends n (indexed m id at e c) = goes (sign mark.OpenBracket) (goes a_character (ends_complete _ _ _ (in_column m id at e _ c) (ends_context _ _ _)))
state_ends n (arguments m id c) = goes (sign mark.CloseParenthesis) (ends_complete _ _ _ c (ends_context c _ _))
state_ends n (opened m at c) = goes a_character (ends_complete _ _ _ _ (ends_context _ _ _))
state_ends n (cast_specifiers m at specs c) = ends_words (λ specs. cast_specifiers m at specs c) (m + 1) (λ done t w. step_more_cast m at done c t w) (whole_cast m at c) n specs
state_ends n (complete m e c) = ends_complete n m e c (ends_context c m e)
