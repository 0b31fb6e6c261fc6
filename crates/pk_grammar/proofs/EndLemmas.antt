-- The end of the text is taken nowhere.
use Rattle.std.proofs.Common.{◌≡◌, ℕ, List, [], ◌∷◌, None, Bool, true, false, if◌then◌else◌, refl, sym, subst}
use Rattle.pk_lex.specs.declared.token.Token.{Token}
use Rattle.pk_ast.specs.declared.declarations.Specifier.{Specifier}
use Rattle.pk_ast.specs.Trees.{OneOrMore, EnumeratorTree, EnumerationTree, ExpressionTree, name, index, StatementTree, label, case, default, if_then, if_else, switch, while, for_loop}
use Rattle.pk_grammar.specs.Machine.States.{EnumerationSite, in_declaration, in_typedef, Outer, in_block, in_label, in_case, in_default, in_if, in_else, in_switch, in_while, in_do, in_for, Purpose, as_statement, as_label, as_test, as_last_test, as_first, as_second, as_third, as_result, as_length, as_columns, as_value, as_item, as_row_item, as_enumerator, as_parameter_length, as_parameter_columns, Context, as_whole, in_parentheses, in_index, in_column, in_call, in_prefix, in_unary, in_cast, in_binary, in_choice, in_alternative, in_assignment, in_comma, State, top, after_storage, after_typedef, type_specifiers, after_type_name, type_name_comma, at_enumerator, after_enumerator_name, after_braces, after_specifiers, after_name, after_length, after_columns, after_assign, at_initializer_item, at_row_item, after_item, after_initializer, after_comma, parameters_open, parameter_specifiers, parameter_name, parameter_bracket, parameter_length, parameter_end, parameter_comma, parameters_closed, block_item, after_static, at_statement, after_statement, test_open, do_open, for_open, for_first, for_second, for_third, default_colon, goto_name, returning, statement_end, operand, named, indexed, arguments, opened, cast_specifiers, complete}
use Rattle.pk_grammar.specs.Machine.Steps.{Verdict, taken, refused, finished, Reduced, reduced, labelled, end_purpose, end_expression, resume, step, more_cast, end_braces, behind_braces, more_typedef, more_specifiers, more_parameter, next_word, end_in_enum}
use Rattle.pk_grammar.specs.Machine.Running.{end_of}
use Rattle.pk_grammar.proofs.WordLemmas.{no_next}

abbrev pub IsNotTaken : Verdict → Type 0
IsNotTaken (taken n s) = ⊥
IsNotTaken refused = Unit {0}
IsNotTaken (finished u) = Unit {0}

either_refused : (b : Bool) → IsNotTaken (if b then refused else refused)
either_refused true = tt
either_refused false = tt

module _ (t : Token) where
  labelled_end : (n : ℕ) (e : ExpressionTree) (o : Outer) → IsNotTaken (labelled n e o (end_of t))
  labelled_end n (name id) o = tt
  labelled_end n _ o = tt

  purpose_end : (p : Purpose) (e : ExpressionTree) → IsNotTaken (end_purpose p e (end_of t))
  purpose_end (as_statement n o) e = labelled_end n e o
  purpose_end (as_label n at o) e = tt
  purpose_end (as_test k n at o) e = tt
  purpose_end (as_last_test n at s o) e = tt
  purpose_end (as_first n at o) e = tt
  purpose_end (as_second n at f o) e = tt
  purpose_end (as_third n at f second o) e = tt
  purpose_end (as_result n at o) e = tt
  purpose_end (as_length d id) e = tt
  purpose_end (as_columns d id c) e = tt
  purpose_end (as_value d) e = tt
  purpose_end (as_item d) e = tt
  purpose_end (as_row_item d at es) e = tt
  purpose_end (as_enumerator d id) e = tt
  purpose_end (as_parameter_length d) e = tt
  purpose_end (as_parameter_columns d l) e = tt

  expression_end : (e : ExpressionTree) (c : Context) → IsNotTaken (end_expression e c (end_of t))
  expression_end e (as_whole p) = purpose_end p e
  expression_end e (in_parentheses n at c) = tt
  expression_end e (in_index n id at c) = tt
  expression_end e (in_column n id at d column_at c) = tt
  expression_end e (in_call n id es c) = tt
  expression_end e (in_prefix n o at c) = tt
  expression_end e (in_unary n o at c) = tt
  expression_end e (in_cast n at specs c) = tt
  expression_end e (in_binary n o at a c) = tt
  expression_end e (in_choice n at d c) = tt
  expression_end e (in_alternative n at d a c) = tt
  expression_end e (in_assignment n o at a c) = tt
  expression_end e (in_comma n at a c) = tt

  resume_end : (s : StatementTree) (o : Outer) → IsNotTaken (resume s o (end_of t))
  unfolding resume
  resume_end s (in_block b) = tt
  resume_end s (in_label n id o) = resume_end (label id s) o
  resume_end s (in_case n at e o) = resume_end (case at e s) o
  resume_end s (in_default n at o) = resume_end (default at s) o
  resume_end s (in_if n at e o) = resume_end (if_then at e s) o
  resume_end s (in_else n at e r o) = resume_end (if_else at e r s) o
  resume_end s (in_switch n at e o) = resume_end (switch at e s) o
  resume_end s (in_while n at e o) = resume_end (while at e s) o
  resume_end s (in_do n at o) = tt
  resume_end s (in_for n at f second third o) = resume_end (for_loop at f second third s) o

  no_word : (specs : OneOrMore Specifier) → next_word specs (end_of t) ≡ None
  no_word specs = no_next specs (end_of t) refl refl

  braces_end : (s : EnumerationSite) (specs : OneOrMore Specifier) (xs : List EnumeratorTree) → IsNotTaken (end_braces s specs xs (end_of t))
  braces_end s specs [] = tt
  braces_end s specs (x ∷ xs) = tt

  behind_end : (s : EnumerationSite) (specs : OneOrMore Specifier) (e : EnumerationTree) → IsNotTaken (behind_braces s specs e (end_of t))
  behind_end (in_declaration s) specs e = tt
  behind_end (in_typedef before) specs e = tt

  pub not_taken : (s : State) → IsNotTaken (step s (end_of t))
  not_taken (top before) = tt
  not_taken (after_storage before s) = tt
  not_taken (after_typedef before) = tt
  not_taken (type_specifiers before specs) = subst (λ w. IsNotTaken (more_typedef before specs (end_of t) w)) (sym (no_word specs)) tt
  not_taken (after_type_name before specs e ids) = tt
  not_taken (type_name_comma before specs e ids) = tt
  not_taken (at_enumerator d) = braces_end d.site d.specifiers d.enumerators
  not_taken (after_enumerator_name d id) = tt
  not_taken (after_braces s specs e) = behind_end s specs e
  not_taken (after_specifiers s specs) = subst (λ w. IsNotTaken (more_specifiers s specs (end_of t) w)) (sym (no_word specs)) tt
  not_taken (after_name d id) = tt
  not_taken (after_length d id e) = tt
  not_taken (after_columns d) = tt
  not_taken (after_assign d) = tt
  not_taken (at_initializer_item d) = tt
  not_taken (at_row_item d at es) = tt
  not_taken (after_item d) = tt
  not_taken (after_initializer d) = tt
  not_taken (after_comma d) = tt
  not_taken (parameters_open h) = tt
  not_taken (parameter_specifiers h ps specs) = subst (λ w. IsNotTaken (more_parameter h ps specs (end_of t) w)) (sym (no_word specs)) (either_refused (end_in_enum specs))
  not_taken (parameter_name d) = tt
  not_taken (parameter_bracket d) = tt
  not_taken (parameter_length d l) = tt
  not_taken (parameter_end h ps p) = tt
  not_taken (parameter_comma h ps) = tt
  not_taken (parameters_closed h ps) = tt
  not_taken (block_item b) = tt
  not_taken (after_static b at) = tt
  not_taken (at_statement n o) = tt
  not_taken (after_statement s o) = resume_end s o
  not_taken (test_open k n at o) = tt
  not_taken (do_open n at s o) = tt
  not_taken (for_open n at o) = tt
  not_taken (for_first n at o) = tt
  not_taken (for_second n at f o) = tt
  not_taken (for_third n at f second o) = tt
  not_taken (default_colon n at o) = tt
  not_taken (goto_name n at o) = tt
  not_taken (returning n at o) = tt
  not_taken (statement_end n s o) = tt
  not_taken (operand n c) = tt
  not_taken (named n id c) = let r : Reduced = reduced 0 n (name id) c in expression_end r.tree r.context
  not_taken (indexed n id at e c) = let r : Reduced = reduced 0 n (index id at e) c in expression_end r.tree r.context
  not_taken (arguments n id c) = tt
  not_taken (opened n at c) = tt
  not_taken (cast_specifiers n at specs c) = subst (λ w. IsNotTaken (more_cast n at specs c (end_of t) w)) (sym (no_word specs)) (either_refused (end_in_enum specs))
  not_taken (complete n e c) = let r : Reduced = reduced 0 n e c in expression_end r.tree r.context
