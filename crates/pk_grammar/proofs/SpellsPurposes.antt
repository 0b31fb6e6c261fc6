-- What stands where an expression that isn't part of another one ends.
use Rattle.std.proofs.Common.{◌≡◌, ℕ, ◌+◌, ◌≤◌, List, Option, Some, refl, arith}
use Rattle.pk_ctypes.specs.declared.places.Pos.{Pos}
use Rattle.pk_lex.specs.declared.token.Token.{Token}
use Rattle.pk_lex.specs.declared.token.Kind.TheVariants as kind
use Rattle.pk_lex.specs.declared.token.Punctuator.TheVariants as mark
use Rattle.pk_ast.specs.Trees.{ExpressionTree, name, ForStartTree, expression_statement, return, single, item_value}
use Rattle.pk_grammar.specs.declared.states.Testing.{Testing}
use Rattle.pk_grammar.specs.declared.states.Testing.TheVariants as testing
use Rattle.pk_grammar.specs.declared.signs.Fixed.TheVariants as fixed
use Rattle.pk_grammar.specs.Languages.{Marked, Identified}
use Rattle.pk_grammar.specs.Grammar.{any_expression, assignment_expression, conditional_expression, Fits, spelled, Expression, statement, keyword_at, punctuator, optional}
use Rattle.pk_grammar.specs.Machine.States.{Outer, in_for, Purpose, as_statement, as_label, as_test, as_last_test, as_first, as_second, as_third, as_result, as_length, as_columns, as_value, as_item, as_row_item, as_enumerator, as_parameter_length, as_parameter_columns, as_whole, at_statement}
use Rattle.pk_grammar.specs.Machine.Steps.{taken, labelled, end_purpose, comma_purpose, join_comma, tested, purpose_level, first_item, more_items}
use Rattle.pk_grammar.proofs.SpellsSigns.{testing_keyword}
use Rattle.pk_grammar.proofs.SpellsWords.{Words, ◌▹◌, push, push_at, gather, last_as, moved}
use Rattle.pk_grammar.proofs.SpellsLists.{some_items_end, all_fit, expressions_end, expressions_comma}
use Rattle.pk_grammar.proofs.SpellsStates.{bare, bare_two, bare_four, to_third, outer_nesting, to_statement, to_expression, expression_nesting}
use Rattle.pk_grammar.proofs.SpellsGood.{Good, fixed_good, wanted_good, two}
use Rattle.pk_grammar.proofs.SpellsEnumerations.{valued, close_braces_good, next_enumerator_good}
use Rattle.pk_grammar.proofs.SpellsParameters.{close_brackets_good}
use Rattle.pk_grammar.proofs.SpellsDeclarations.{initialized, one_item, close_initializer_good, next_item_good, close_row_good, end_declaration_good, next_declarator_good}

-- an expression of this level
pub leveled : {R : Words} (level : ℕ) {e : ExpressionTree} {n : ℕ} {ms : List Marked} → Fits level e → (R ▹ spelled e n) ms → (R ▹ Expression level e n) ms
leveled level f h = last_as (λ ts s. record { fits = f; is = s }) h

test_ends : (k : Testing) (n : ℕ) (at : Pos) (o : Outer) (e : ExpressionTree) (t : Token) (ms : List Marked) → t.kind ≡ kind.Punctuator mark.CloseParenthesis → n ≡ outer_nesting o →
    (to_statement o ▹ keyword_at (testing_keyword k) at (n + 1) ▹ punctuator mark.OpenParenthesis (n + 1 + 1) ▹ Expression any_expression e (n + 1 + 1)) ms →
    Good (taken (n + 1) (at_statement (n + 1) (tested k n at e o))) t ms
test_ends testing.If n at o e t ms k en h = (refl, (en, gather (push ms t (gather h) k)))
test_ends testing.Switch n at o e t ms k en h = (refl, (en, gather (push ms t (gather h) k)))
test_ends testing.While n at o e t ms k en h = (refl, (en, gather (push ms t (gather h) k)))

-- the `)` of a `for`
pub for_ends : (n : ℕ) (at : Pos) (f : ForStartTree) (second third : Option ExpressionTree) (o : Outer) (t : Token) (ms : List Marked) → t.kind ≡ kind.Punctuator mark.CloseParenthesis →
    (to_third n at f second o ▹ optional any_expression third (n + 1 + 1)) ms → Good (taken (n + 1) (at_statement (n + 1) (in_for n at f second third o))) t ms
for_ends n at f second third o t ms k h = (refl, (h.first.first.first.first.0, push ms t (gather (gather (gather (gather (bare_four h))))) k))

labelled_good : (n : ℕ) (o : Outer) (m : ℕ) (e : ExpressionTree) (t : Token) (ms : List Marked) → m ≡ expression_nesting (as_statement n o) →
    (to_expression (as_statement n o) ▹ spelled e m) ms → Good (labelled n e o t) t ms
unfolding spelled
labelled_good n o m (name id) t ms en h = wanted_good fixed.Colon _ t ms (λ k. (refl, (h.first.0, push ms t (bare (moved (Identified id) en h)) k)))
labelled_good n o m _ t ms en h = tt

pub end_purpose_good : (p : Purpose) (n : ℕ) (e : ExpressionTree) (t : Token) (ms : List Marked) → n ≡ expression_nesting p → Fits any_expression e → Fits (purpose_level p) e →
    (to_expression p ▹ spelled e n) ms → Good (end_purpose p e t) t ms
unfolding statement
end_purpose_good (as_statement n o) m e t ms en f l h = fixed_good fixed.Semicolon _ _ t ms (λ k.
    (λ x. x, moved (statement (expression_statement e)) h.first.0 (gather (push ms t (leveled any_expression f (bare (moved (spelled e) en h))) k))))
    (labelled_good n o m e t ms en h)
end_purpose_good (as_label n at o) m e t ms en f l h = wanted_good fixed.Colon _ t ms (λ k.
    (refl, ((h.first.0, l), push ms t (bare (moved (spelled e) en h)) k)))
end_purpose_good (as_test w n at o) m e t ms en f l h = wanted_good fixed.CloseParenthesis _ t ms (λ k.
    test_ends w n at o e t ms k h.first.first.0 (leveled any_expression f (bare_two (moved (spelled e) en h))))
end_purpose_good (as_last_test n at s o) m e t ms en f l h = wanted_good fixed.CloseParenthesis _ t ms (λ k. (
  (h.first.first.0, λ x. x),
  last_as (λ ts d us w. record { front = ts; back = us; cut = refl; first = d; second = w })
      (gather (gather (gather (gather (push ms t (gather (leveled any_expression f (bare_two (moved (spelled e) en h)))) k))))),
))
end_purpose_good (as_first n at o) m e t ms en f l h = wanted_good fixed.Semicolon _ t ms (λ k.
    gather (push_at ms t (two n) (leveled any_expression f (moved (spelled e) en h)) k))
end_purpose_good (as_second n at g o) m e t ms en f l h = wanted_good fixed.Semicolon _ t ms (λ k.
    push_at ms t (two n) (leveled any_expression f (moved (spelled e) en h)) k)
end_purpose_good (as_third n at g second o) m e t ms en f l h = wanted_good fixed.CloseParenthesis _ t ms (λ k.
    for_ends n at g second (Some e) o t ms k (leveled any_expression f (moved (spelled e) en h)))
end_purpose_good (as_result n at o) m e t ms en f l h = wanted_good fixed.Semicolon _ t ms (λ k.
    (λ x. x, moved (statement (return at (Some e))) h.first.0 (gather (push ms t (gather (leveled any_expression f (bare (moved (spelled e) en h)))) k))))
end_purpose_good (as_length d id) m e t ms en f l h = wanted_good fixed.CloseBracket _ t ms (λ k. gather (push ms t (gather (leveled _ l (moved (spelled e) en h))) k))
end_purpose_good (as_columns d id l) m e t ms en f g h = wanted_good fixed.CloseBracket _ t ms (λ k. gather (gather (push ms t (gather (leveled _ g (moved (spelled e) en h))) k)))
end_purpose_good (as_value d) m e t ms en f l h = wanted_good fixed.Semicolon _ t ms (λ k.
    end_declaration_good _ t ms k (initialized d (Some (single e)) ms (gather (leveled assignment_expression l (moved (spelled e) en h)))))
end_purpose_good (as_enumerator d id) m e t ms en f l h = wanted_good fixed.CloseBrace _ t ms (λ k.
    close_braces_good _ t ms k (valued d id (Some e) ms (gather (leveled conditional_expression l (moved (spelled e) en h)))))
end_purpose_good (as_item d) m e t ms en f l h = wanted_good fixed.CloseBrace _ t ms (λ k.
    close_initializer_good _ t ms k (one_item d (item_value e) ms (leveled assignment_expression l (moved (spelled e) en h))))
end_purpose_good (as_row_item d at es) m e t ms en f l h = wanted_good fixed.CloseBrace _ t ms (λ k.
    close_row_good d at (first_item es e) (more_items es e) t ms k (last_as (λ ts g. some_items_end es e _ ts h.first.0 l g) (gather (bare (moved (spelled e) en h)))))
end_purpose_good (as_parameter_length d) m e t ms en f l h = wanted_good fixed.CloseBracket _ t ms (λ k. gather (push ms t (gather (leveled _ l (moved (spelled e) en h))) k))
end_purpose_good (as_parameter_columns d c) m e t ms en f l h = wanted_good fixed.CloseBracket _ t ms (λ k.
    close_brackets_good d c e t ms k (gather (leveled _ l (moved (spelled e) en h))))

join_comma_good : (p : Purpose) (n : ℕ) (e : ExpressionTree) (t : Token) (ms : List Marked) → t.kind ≡ kind.Punctuator mark.Comma → n ≡ expression_nesting p →
    purpose_level p ≤ any_expression → Fits any_expression e → (to_expression p ▹ spelled e n) ms → Good (join_comma n e (as_whole p) t) t ms
join_comma_good p n e t ms k en l f h = (refl, ((en, l, f), push ms t h (k, refl)))

pub comma_purpose_good : (p : Purpose) (n : ℕ) (e : ExpressionTree) (t : Token) (ms : List Marked) → t.kind ≡ kind.Punctuator mark.Comma → n ≡ expression_nesting p →
    Fits any_expression e → Fits (purpose_level p) e → (to_expression p ▹ spelled e n) ms → Good (comma_purpose p n e t) t ms
comma_purpose_good (as_statement m o) n e t ms k en f l h = join_comma_good (as_statement m o) n e t ms k en (omega arith) f h
comma_purpose_good (as_label m at o) n e t ms k en f l h = tt
comma_purpose_good (as_test w m at o) n e t ms k en f l h = join_comma_good (as_test w m at o) n e t ms k en (omega arith) f h
comma_purpose_good (as_last_test m at s o) n e t ms k en f l h = join_comma_good (as_last_test m at s o) n e t ms k en (omega arith) f h
comma_purpose_good (as_first m at o) n e t ms k en f l h = join_comma_good (as_first m at o) n e t ms k en (omega arith) f h
comma_purpose_good (as_second m at g o) n e t ms k en f l h = join_comma_good (as_second m at g o) n e t ms k en (omega arith) f h
comma_purpose_good (as_third m at g second o) n e t ms k en f l h = join_comma_good (as_third m at g second o) n e t ms k en (omega arith) f h
comma_purpose_good (as_result m at o) n e t ms k en f l h = join_comma_good (as_result m at o) n e t ms k en (omega arith) f h
comma_purpose_good (as_length d id) n e t ms k en f l h = tt
comma_purpose_good (as_columns d id c) n e t ms k en f l h = tt
comma_purpose_good (as_parameter_length d) n e t ms k en f l h = tt
comma_purpose_good (as_parameter_columns d c) n e t ms k en f l h = tt
comma_purpose_good (as_value d) n e t ms k en f l h = next_declarator_good _ t ms k (initialized d (Some (single e)) ms (gather (leveled assignment_expression l (moved (spelled e) en h))))
comma_purpose_good (as_enumerator d id) n e t ms k en f l h = next_enumerator_good _ t ms k (valued d id (Some e) ms (gather (leveled conditional_expression l (moved (spelled e) en h))))
comma_purpose_good (as_item d) n e t ms k en f l h = next_item_good _ t ms k (one_item d (item_value e) ms (leveled assignment_expression l (moved (spelled e) en h)))
comma_purpose_good (as_row_item d at es) n e t ms k en f l h =
    (all_fit es e h.first.0 l, last_as (λ ts g. expressions_comma es e _ ts g) (gather (push ms t (last_as (λ ts g. expressions_end es e _ ts g) (gather (bare (moved (spelled e) en h)))) k)))
