-- Each state stands for the tokens that led to it, and a text goes on from them.
use Rattle.std.proofs.Common.{◌≡◌, ℕ, ◌+◌, List, [], ◌∷◌, ◌++◌, Option, Some, None, refl, subst, append_assoc}
use Rattle.pk_lex.specs.declared.token.Token.{Token}
use Rattle.pk_lex.specs.declared.token.Kind.TheVariants as kind
use Rattle.pk_ast.specs.declared.declarations.SpecifierWord.{SpecifierWord}
use Rattle.pk_ast.specs.Trees.{return, ExternalTree}
use Rattle.pk_grammar.specs.declared.signs.Fixed.TheVariants as fixed
use Rattle.pk_grammar.specs.Languages.{Marked}
use Rattle.pk_grammar.specs.Grammar.{statement, externals, text}
use Rattle.pk_grammar.specs.Machine.Signs.{specifier_word}
use Rattle.pk_grammar.specs.Machine.States.{as_first, as_second, as_third, as_result, as_value, as_item, as_row_item, as_parameter_length, as_whole, State, top, after_storage, after_typedef, type_specifiers, after_type_name, type_name_comma, at_enumerator, after_enumerator_name, after_braces, after_specifiers, after_name, after_length, after_columns, after_assign, at_initializer_item, at_row_item, after_item, after_initializer, after_comma, parameters_open, parameter_specifiers, parameter_name, parameter_bracket, parameter_length, parameter_end, parameter_comma, parameters_closed, block_item, after_static, at_statement, after_statement, test_open, do_open, for_open, for_first, for_second, for_third, default_colon, goto_name, returning, statement_end, operand, named, indexed, arguments, opened, cast_specifiers, complete}
use Rattle.pk_grammar.specs.Machine.Steps.{Verdict, taken, refused, finished, naming_nesting, initializing_nesting, begin_for, step}
use Rattle.pk_grammar.proofs.SpellsSigns.{IsSpecifier, is_specifier}
use Rattle.pk_grammar.proofs.SpellsWords.{push, push_at, push_last, none_more, gather, last_as, moved}
use Rattle.pk_grammar.proofs.SpellsLists.{first_word}
use Rattle.pk_grammar.proofs.SpellsStates.{Spells}
use Rattle.pk_grammar.proofs.SpellsGood.{Good, fixed_good, wanted_good, two}
use Rattle.pk_grammar.proofs.SpellsEnumerations.{at_next_enumerator_good, at_enumerator_name_good}
use Rattle.pk_grammar.proofs.SpellsDeclarations.{at_after_braces_good, after_declarator_good, more_specifiers_good, at_after_dimensions_good, at_after_name_good, at_after_length_good, at_next_item_good, at_next_row_item_good, at_item_end_good}
use Rattle.pk_grammar.proofs.SpellsPurposes.{for_ends}
use Rattle.pk_grammar.proofs.SpellsOperands.{at_operand_good, at_complete_good, at_named_good, at_indexed_good, at_arguments_good, at_opened_good, more_cast_good}
use Rattle.pk_grammar.proofs.SpellsStatements.{begins_statement_good, at_items_good, begin_static_good, resume_good}
use Rattle.pk_grammar.proofs.SpellsExternals.{begin_external_good, at_top_good, begin_typedef_good, more_typedef_good, at_after_type_name_good, next_type_name_good, at_parameters_closed_good}
use Rattle.pk_grammar.proofs.SpellsParameters.{begin_parameter_good, more_parameter_good, at_parameter_end_good, at_parameter_name_good, at_parameter_bracket_good, at_parameter_length_good, parameters_open_good}
use Rattle.pk_grammar.proofs.SpellsEnds.{Ends, at_end, goes, state_ends}

step_good : (s : State) (t : Token) (ms : List Marked) → Spells s ms → Good (step s t) t ms
unfolding statement
step_good (top before) t ms h = at_top_good before t ms h
step_good (after_storage before s) t ms h = begin_external_good before (Some s) t ms h
step_good (after_typedef before) t ms h = begin_typedef_good before t ms h
step_good (type_specifiers before ss) t ms h = more_typedef_good before ss t ms h
step_good (after_type_name before ss e ids) t ms h = at_after_type_name_good before ss e ids t ms h
step_good (type_name_comma before ss e ids) t ms h = wanted_good fixed.Name _ t ms (λ k. next_type_name_good before ss e ids t ms h k)
step_good (at_enumerator d) t ms h = at_next_enumerator_good d t ms h
step_good (after_enumerator_name d id) t ms h = at_enumerator_name_good d id t ms h
step_good (after_braces s ss e) t ms h = at_after_braces_good s ss e t ms h
step_good (after_specifiers s ss) t ms h = more_specifiers_good s ss t ms h
step_good (after_name d id) t ms h = at_after_name_good d id t ms h
step_good (after_length d id e) t ms h = at_after_length_good d id e t ms h
step_good (after_columns d) t ms h = at_after_dimensions_good d t ms h
step_good (after_assign d) t ms h =
    fixed_good fixed.OpenBrace _ _ t ms (λ k. none_more (naming_nesting d) (push ms t h (k, refl))) (at_operand_good (naming_nesting d) (as_whole (as_value d)) t ms refl h)
step_good (at_initializer_item d) t ms h = at_next_item_good d t ms h (at_operand_good (initializing_nesting d) (as_whole (as_item d)) t ms refl h)
step_good (at_row_item d at es) t ms h = at_next_row_item_good d at es t ms h (at_operand_good (initializing_nesting d) (as_whole (as_row_item d at es)) t ms refl h)
step_good (after_item d) t ms h = at_item_end_good d t ms h
step_good (after_initializer d) t ms h = after_declarator_good d t ms h
step_good (after_comma d) t ms h = wanted_good fixed.Name _ t ms (λ k. push ms t h (k, refl))
step_good (parameters_open g) t ms h =
    fixed_good fixed.CloseParenthesis _ _ t ms (λ k. parameters_open_good g t ms k h) (begin_parameter_good g [] t ms (none_more 1 h))
step_good (parameter_specifiers g ps ss) t ms h = more_parameter_good g ps ss t ms h
step_good (parameter_name d) t ms h = at_parameter_name_good d t ms h.0 h.1
step_good (parameter_bracket d) t ms h = at_parameter_bracket_good d t ms h (at_operand_good 2 (as_whole (as_parameter_length d)) t ms refl h)
step_good (parameter_length d l) t ms h = at_parameter_length_good d l t ms h
step_good (parameter_end g ps p) t ms h = at_parameter_end_good g ps p t ms h.0 h.1
step_good (parameter_comma g ps) t ms h = begin_parameter_good g ps t ms h
step_good (parameters_closed g ps) t ms h = at_parameters_closed_good g ps t ms h
step_good (block_item b) t ms h = at_items_good b t ms h
step_good (after_static b at) t ms h = begin_static_good b at t ms h
step_good (at_statement n o) t ms h = begins_statement_good n o t ms h.0 h.1
step_good (after_statement s o) t ms h = resume_good o s t ms (λ e. h.0) h.1
step_good (test_open w n at o) t ms h = wanted_good fixed.OpenParenthesis _ t ms (λ k. (two n, push_at ms t (two n) h k))
step_good (do_open n at s o) t ms h = wanted_good fixed.OpenParenthesis _ t ms (λ k. (two n, push_at ms t (two n) h k))
step_good (for_open n at o) t ms h = wanted_good fixed.OpenParenthesis _ t ms (λ k. (h.0, push_at ms t (two n) h.1 k))
step_good (for_first n at o) t ms h = go (specifier_word t) (is_specifier t)
  where
    go : (w : Option SpecifierWord) → IsSpecifier w t → Good (begin_for n at o t w) t ms
    go (Some w) k = first_word w t (n + 2) ms k h
    go None k = fixed_good fixed.Semicolon _ _ t ms (λ k. gather (push_at ms t (two n) (none_more (n + 1 + 1) h) k)) (at_operand_good (n + 2) (as_whole (as_first n at o)) t ms (two n) h)
step_good (for_second n at f o) t ms h =
    fixed_good fixed.Semicolon _ _ t ms (λ k. push_at ms t (two n) (none_more (n + 1 + 1) h) k) (at_operand_good (n + 2) (as_whole (as_second n at f o)) t ms (two n) h)
step_good (for_third n at f second o) t ms h =
    fixed_good fixed.CloseParenthesis _ _ t ms (λ k. for_ends n at f second None o t ms k (none_more (n + 1 + 1) h))
    (at_operand_good (n + 2) (as_whole (as_third n at f second o)) t ms (two n) h)
step_good (default_colon n at o) t ms h = wanted_good fixed.Colon _ t ms (λ k. (refl, (h.0, push ms t h.1 k)))
step_good (goto_name n at o) t ms h = wanted_good fixed.Name _ t ms (λ k.
    ((h.0, λ x. x), last_as (λ ts d us w. record { front = ts; back = us; cut = refl; first = d; second = w }) (gather (push ms t {n = n + 1} h.1 (k, refl)))))
step_good (returning n at o) t ms h =
    fixed_good fixed.Semicolon _ _ t ms (λ k. (λ x. x, moved (statement (return at None)) h.0 (gather (push ms t (gather (none_more (n + 1) h.1)) k))))
    (at_operand_good (n + 1) (as_whole (as_result n at o)) t ms refl h)
step_good (statement_end n s o) t ms h = wanted_good fixed.Semicolon _ t ms (λ k.
    (h.0.1, moved (statement s) h.0.0 (push_last _ (λ ts g. g _ (record { token = t; is = refl; holds = k })) h.1)))
step_good (operand n c) t ms h = at_operand_good n c t ms h.0 h.1
step_good (named n id c) t ms h = at_named_good n id c t ms h.0 h.1
step_good (indexed n id at e c) t ms h = at_indexed_good n id at e c t ms h.0.0 h.0.1 h.1
step_good (arguments n id c) t ms h = at_arguments_good n id c t ms h.0 h.1
step_good (opened n at c) t ms h = at_opened_good n at c t ms h.0 h.1
step_good (cast_specifiers n at ss c) t ms h = more_cast_good n at ss c t ms h.0.0 h.0.1 h.1
step_good (complete n e c) t ms h = at_complete_good n e c t ms h.0.0 h.0.1 h.1

pub spells_start : Spells (top []) []
spells_start = refl

pub spells_step : (s s' : State) (t : Token) (n : ℕ) (ms : List Marked) → Spells s ms → step s t ≡ taken n s' → Spells s' (ms ++ record { token = t; nesting = n } ∷ [])
spells_step s s' t n ms h e = subst (λ v. Good v t ms) e (step_good s t ms h)

pub spells_end : (s : State) (t : Token) (u : List ExternalTree) (ms : List Marked) → Spells s ms → step s t ≡ finished u → (t.kind ≡ kind.End) × externals u 0 ms
spells_end s t u ms h e = subst (λ v. Good v t ms) e (step_good s t ms h)

-- a text that begins with these tokens
pub record GoesOn (ms : List Marked) : Type 0 where
  pub more : List Marked
  pub trees : List ExternalTree
  pub is : text trees 0 (ms ++ more)

ends_so : (v : Verdict) → Ends v → (t : Token) (ms : List Marked) → Good v t ms → GoesOn ms
ends_so (finished u) at_end t ms g = record {
  more = record { token = t; nesting = 0 } ∷ [];
  trees = u;
  is = record { front = ms; back = _; cut = refl; first = g.1; second = record { token = t; is = refl; holds = g.0 } };
}
ends_so refused e t ms g = elim e [ ]
ends_so (taken n s) (goes t' e) t ms g =
    let m : Marked = record { token = t; nesting = n } in
    let r = ends_so (step s t') e t' (ms ++ m ∷ []) (step_good s t' (ms ++ m ∷ []) g) in
    record { more = m ∷ r.more; trees = r.trees; is = subst (text r.trees 0) (append_assoc ms (m ∷ []) r.more) r.is }

next_so : (n : ℕ) (s : State) → Ends (taken n s) → (ms : List Marked) → Spells s ms → GoesOn ms
next_so n s (goes t e) ms h = ends_so (step s t) e t ms (step_good s t ms h)

pub spells_goes_on : (s : State) (ms : List Marked) → Spells s ms → GoesOn ms
spells_goes_on s ms h = next_so 0 s (state_ends 0 s) ms h
