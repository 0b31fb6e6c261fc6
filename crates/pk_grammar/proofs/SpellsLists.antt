-- Lists that grow at their end.
use Rattle.std.proofs.Common.{◌≡◌, ℕ, List, [], ◌∷◌, ◌++◌, Option, Some, None, true, false, refl}
use Rattle.pk_ctypes.specs.declared.places.Pos.{Pos}
use Rattle.pk_lex.specs.declared.token.Token.{Token}
use Rattle.pk_lex.specs.declared.token.Kind.TheVariants as kind
use Rattle.pk_lex.specs.declared.token.Punctuator.TheVariants as mark
use Rattle.pk_ast.specs.declared.declarations.SpecifierWord.{SpecifierWord}
use Rattle.pk_ast.specs.declared.declarations.Specifier.{Specifier}
use Rattle.pk_ast.specs.Lists.{one, with_last, ended}
use Rattle.pk_ast.specs.Trees.{OneOrMore, ExpressionTree, ExpressionTrees, no_expressions, expression_then, InitializerItemTree, DeclaratorTree, EnumeratorTree, EnumerationTree, DeclarationTree, StatementTree, ItemTrees, no_items, declaration_then, statement_then, ParameterTree, ExternalTree}
use Rattle.pk_ast.specs.declared.expressions.Identifier.{Identifier}
use Rattle.pk_grammar.specs.Languages.{Marked, Language, Identified, ◌⊙◌, Where}
use Rattle.pk_grammar.specs.Grammar.{punctuator, assignment_expression, Fits, AllFit, specifier, specifier_list, words, specifiers, Items, spelled, spelled_list, spelled_more, initializer_item, more_initializer_items, initializer_items, declarator, more_declarators, declarators, enumerator, more_enumerators, enumerators, HasName, declared, optional_static, statement, block_items, parameter, IsVoidAlone, more_parameters, parameters, more_names, names, external, externals}
use Rattle.pk_grammar.specs.Machine.Steps.{specifier_at, may_follow, next_word, end_in_enum, first_item, more_items, one_more, one_more_statement, one_more_declaration}
use Rattle.pk_grammar.proofs.WordLemmas.{one_shaped, more_shaped, go_together, no_enum}
use Rattle.pk_grammar.proofs.SpellsSigns.{IsSpecifier, IsNext}
use Rattle.pk_grammar.proofs.SpellsWords.{Words, ◌▹◌, push, gather, last_as, assoc, back_assoc, then_as, alone, and_none, drop_last}
use Rattle.pk_grammar.proofs.SpellsStates.{open_words, expressions_before, items_before, declarators_before, enumerators_before, parameters_before}

-- Expressions

comma_then : (es : ExpressionTrees) (e : ExpressionTree) (n : ℕ) (ts : List Marked) → (punctuator mark.Comma ⊙ spelled_list (one_more es e)) n ts → spelled_more (one_more es e) n ts
unfolding spelled
comma_then no_expressions e n ts h = h
comma_then (expression_then d es) e n ts h = h

pub expressions_end : (es : ExpressionTrees) (e : ExpressionTree) (n : ℕ) (ts : List Marked) → (expressions_before es ⊙ spelled e) n ts → spelled_list (one_more es e) n ts
unfolding spelled
expressions_end no_expressions e n ts h = and_none n ts (alone h)
expressions_end (expression_then d es) e n ts h = then_as (λ us g. comma_then es e n us (then_as (λ vs f. expressions_end es e n vs f) (assoc g))) (assoc h)

more_comma : (es : ExpressionTrees) (n : ℕ) (ts : List Marked) → (spelled_more es ⊙ punctuator mark.Comma) n ts → (punctuator mark.Comma ⊙ expressions_before es) n ts
unfolding spelled
more_comma no_expressions n ts h = and_none n ts (alone h)
more_comma (expression_then e es) n ts h = then_as (λ us g. then_as (λ vs f. more_comma es n vs f) (assoc g)) (assoc h)

list_comma : (es : ExpressionTrees) (e : ExpressionTree) (n : ℕ) (ts : List Marked) → (spelled_list (expression_then e es) ⊙ punctuator mark.Comma) n ts → expressions_before (expression_then e es) n ts
unfolding spelled
list_comma es e n ts h = then_as (λ us g. more_comma es n us g) (assoc h)

-- expressions of which a comma follows the last
more_expressions_before : (es : ExpressionTrees) (n : ℕ) (ts : List Marked) → (punctuator mark.Comma ⊙ expressions_before es) n ts → (spelled_more es ⊙ punctuator mark.Comma) n ts
unfolding spelled
more_expressions_before no_expressions n ts h = record { front = []; back = ts; cut = refl; first = refl; second = drop_last h }
more_expressions_before (expression_then e es) n ts h = back_assoc (then_as (λ us g. back_assoc (then_as (λ vs f. more_expressions_before es n vs f) g)) h)

list_before_end : (e : ExpressionTree) (es : ExpressionTrees) (n : ℕ) (ts : List Marked) → expressions_before (expression_then e es) n ts → (spelled_list (expression_then e es) ⊙ punctuator mark.Comma) n ts
unfolding spelled
list_before_end e es n ts h = back_assoc (then_as (λ us g. more_expressions_before es n us g) h)

pub values_before_end : (e : ExpressionTree) (es : ExpressionTrees) (n : ℕ) (ts : List Marked) → AllFit (expression_then e es) → expressions_before (expression_then e es) n ts →
    (Items e es ⊙ punctuator mark.Comma) n ts
values_before_end e es n ts f h =
    let g = list_before_end e es n ts h in
    record { front = g.front; back = g.back; cut = g.cut; first = record { fit = f; is = g.first }; second = g.second }

pub all_fit : (es : ExpressionTrees) (e : ExpressionTree) → AllFit es → Fits assignment_expression e → AllFit (one_more es e)
all_fit no_expressions e a f = (f, tt)
all_fit (expression_then d es) e a f = (a.0, all_fit es e a.1 f)

pub some_items_end : (es : ExpressionTrees) (e : ExpressionTree) (n : ℕ) (ts : List Marked) → AllFit es → Fits assignment_expression e → (expressions_before es ⊙ spelled e) n ts →
    Items (first_item es e) (more_items es e) n ts
some_items_end no_expressions e n ts a f h = record { fit = all_fit no_expressions e a f; is = expressions_end no_expressions e n ts h }
some_items_end (expression_then d es) e n ts a f h = record { fit = all_fit (expression_then d es) e a f; is = expressions_end (expression_then d es) e n ts h }

pub expressions_comma : (es : ExpressionTrees) (e : ExpressionTree) (n : ℕ) (ts : List Marked) → (spelled_list (one_more es e) ⊙ punctuator mark.Comma) n ts → expressions_before (one_more es e) n ts
expressions_comma no_expressions e n ts h = list_comma no_expressions e n ts h
expressions_comma (expression_then d es) e n ts h = list_comma (one_more es e) d n ts h

-- Declarations

specifiers_end : (ss : List Specifier) (s : Specifier) (n : ℕ) (ts : List Marked) → (specifier_list ss ⊙ specifier s) n ts → specifier_list (ss ++ s ∷ []) n ts
specifiers_end [] s n ts h = and_none n ts (alone h)
specifiers_end (a ∷ ss) s n ts h = then_as (λ us g. specifiers_end ss s n us g) (assoc h)

-- a first word of a type, and one more
pub first_word : {R : Words} (w : SpecifierWord) (t : Token) (n : ℕ) (ms : List Marked) → IsSpecifier (Some w) t → R ms →
    (R ▹ open_words (one (specifier_at t w)) n) (ms ++ record { token = t; nesting = n } ∷ [])
first_word w t n ms k h = last_as (λ ts g. record { holds = one_shaped (specifier_at t w) k.1; is = and_none n ts g }) (push ms t h (k.0, refl))

words_end : (ss : OneOrMore Specifier) (s : Specifier) (n : ℕ) (ts : List Marked) → may_follow ss s.word ≡ true → (open_words ss ⊙ specifier s) n ts → open_words (with_last ss s) n ts
words_end ss s n ts f g =
    let h : (words ss ⊙ specifier s) n ts = record { front = g.front; back = g.back; cut = g.cut; first = g.first.is; second = g.second } in
    record { holds = more_shaped ss s g.first.holds f; is = then_as (λ us e. specifiers_end ss.more s n us e) (assoc h) }

pub one_more_word : {R : Words} (ss : OneOrMore Specifier) (w : SpecifierWord) (t : Token) (n : ℕ) (ms : List Marked) → IsNext ss (Some w) t → (R ▹ open_words ss n) ms →
    (R ▹ open_words (with_last ss (specifier_at t w)) n) (ms ++ record { token = t; nesting = n } ∷ [])
one_more_word ss w t n ms k h = last_as (λ ts g. words_end ss (specifier_at t w) n ts k.1 g) (gather (push ms t h (k.0, refl)))

-- words that are whole
pub whole_words : {R : Words} (ss : OneOrMore Specifier) (n : ℕ) (ms : List Marked) → end_in_enum ss ≡ false → (R ▹ open_words ss n) ms → (R ▹ specifiers ss n) ms
whole_words ss n ms e h = last_as (λ ts g. record { holds = go_together ss g.holds e; is = g.is }) h

-- behind which no word came
pub whole_at : {R : Words} (ss : OneOrMore Specifier) (t : Token) (n : ℕ) (ms : List Marked) → next_word ss t ≡ None → t.kind ≡ kind.Name → (R ▹ open_words ss n) ms → (R ▹ specifiers ss n) ms
whole_at ss t n ms e k h = whole_words ss n ms (no_enum ss t e k) h

more_declarators_end : (ds : List DeclaratorTree) (d : DeclaratorTree) (n : ℕ) (ts : List Marked) →
    ((punctuator mark.Comma ⊙ declarators_before ds) ⊙ declarator d) n ts → more_declarators (ds ++ d ∷ []) n ts
more_declarators_end [] d n ts h = then_as (λ us g. and_none n us (alone g)) (assoc h)
more_declarators_end (a ∷ ds) d n ts h = then_as (λ us g. then_as (λ vs f. more_declarators_end ds d n vs f) (assoc g)) (assoc h)

pub declarators_end : (e : Option EnumerationTree) (ds : List DeclaratorTree) (d : DeclaratorTree) (n : ℕ) (ts : List Marked) → (declarators_before ds ⊙ declarator d) n ts →
    declarators e ((ended ds d).first ∷ (ended ds d).more) n ts
declarators_end e [] d n ts h = and_none n ts (alone h)
declarators_end e (a ∷ ds) d n ts h = then_as (λ us g. more_declarators_end ds d n us g) (assoc h)

more_declarators_comma : (ds : List DeclaratorTree) (n : ℕ) (ts : List Marked) → (more_declarators ds ⊙ punctuator mark.Comma) n ts → (punctuator mark.Comma ⊙ declarators_before ds) n ts
more_declarators_comma [] n ts h = and_none n ts (alone h)
more_declarators_comma (d ∷ ds) n ts h = then_as (λ us g. then_as (λ vs f. more_declarators_comma ds n vs f) (assoc g)) (assoc h)

pub declarators_comma : (e : Option EnumerationTree) (ds : OneOrMore DeclaratorTree) (n : ℕ) (ts : List Marked) → (declarators e (ds.first ∷ ds.more) ⊙ punctuator mark.Comma) n ts →
    declarators_before (ds.first ∷ ds.more) n ts
declarators_comma e ds n ts h = then_as (λ us g. more_declarators_comma ds.more n us g) (assoc h)

-- Enumerations

more_enumerators_end : (xs : List EnumeratorTree) (x : EnumeratorTree) (n : ℕ) (ts : List Marked) →
    ((punctuator mark.Comma ⊙ enumerators_before xs) ⊙ enumerator x) n ts → more_enumerators (xs ++ x ∷ []) n ts
more_enumerators_end [] x n ts h = then_as (λ us g. and_none n us (alone g)) (assoc h)
more_enumerators_end (y ∷ xs) x n ts h = then_as (λ us g. then_as (λ vs f. more_enumerators_end xs x n vs f) (assoc g)) (assoc h)

pub enumerators_end : (xs : List EnumeratorTree) (x : EnumeratorTree) (n : ℕ) (ts : List Marked) → (enumerators_before xs ⊙ enumerator x) n ts → enumerators (ended xs x) n ts
enumerators_end [] x n ts h = and_none n ts (alone h)
enumerators_end (y ∷ xs) x n ts h = then_as (λ us g. more_enumerators_end xs x n us g) (assoc h)

more_enumerators_comma : (xs : List EnumeratorTree) (n : ℕ) (ts : List Marked) → (more_enumerators xs ⊙ punctuator mark.Comma) n ts → (punctuator mark.Comma ⊙ enumerators_before xs) n ts
more_enumerators_comma [] n ts h = and_none n ts (alone h)
more_enumerators_comma (x ∷ xs) n ts h = then_as (λ us g. then_as (λ vs f. more_enumerators_comma xs n vs f) (assoc g)) (assoc h)

pub enumerators_comma : (xs : OneOrMore EnumeratorTree) (n : ℕ) (ts : List Marked) → (enumerators xs ⊙ punctuator mark.Comma) n ts → enumerators_before (xs.first ∷ xs.more) n ts
enumerators_comma xs n ts h = then_as (λ us g. more_enumerators_comma xs.more n us g) (assoc h)

-- enumerators of which a comma follows the last
more_before : (xs : List EnumeratorTree) (n : ℕ) (ts : List Marked) → (punctuator mark.Comma ⊙ enumerators_before xs) n ts → (more_enumerators xs ⊙ punctuator mark.Comma) n ts
more_before [] n ts h = record { front = []; back = ts; cut = refl; first = refl; second = drop_last h }
more_before (x ∷ xs) n ts h = back_assoc (then_as (λ us g. back_assoc (then_as (λ vs f. more_before xs n vs f) g)) h)

pub enumerators_before_end : (x : EnumeratorTree) (xs : List EnumeratorTree) (n : ℕ) (ts : List Marked) → enumerators_before (x ∷ xs) n ts →
    (enumerators (record { first = x; more = xs }) ⊙ punctuator mark.Comma) n ts
enumerators_before_end x xs n ts h = back_assoc (then_as (λ us g. more_before xs n us g) h)

pub qualifiers_end : (qs : List Specifier) (q : Specifier) (n : ℕ) (ts : List Marked) → (specifier_list qs ⊙ specifier q) n ts → specifier_list (qs ++ q ∷ []) n ts
qualifiers_end qs q n ts h = specifiers_end qs q n ts h

-- Initializers

more_items_end : (items : List InitializerItemTree) (i : InitializerItemTree) (n : ℕ) (ts : List Marked) →
    ((punctuator mark.Comma ⊙ items_before items) ⊙ initializer_item i) n ts → more_initializer_items (items ++ i ∷ []) n ts
more_items_end [] i n ts h = then_as (λ us g. and_none n us (alone g)) (assoc h)
more_items_end (j ∷ items) i n ts h = then_as (λ us g. then_as (λ vs f. more_items_end items i n vs f) (assoc g)) (assoc h)

pub items_end : (items : List InitializerItemTree) (i : InitializerItemTree) (n : ℕ) (ts : List Marked) → (items_before items ⊙ initializer_item i) n ts → initializer_items (ended items i) n ts
items_end [] i n ts h = and_none n ts (alone h)
items_end (j ∷ items) i n ts h = then_as (λ us g. more_items_end items i n us g) (assoc h)

more_items_comma : (items : List InitializerItemTree) (n : ℕ) (ts : List Marked) → (more_initializer_items items ⊙ punctuator mark.Comma) n ts → (punctuator mark.Comma ⊙ items_before items) n ts
more_items_comma [] n ts h = and_none n ts (alone h)
more_items_comma (i ∷ items) n ts h = then_as (λ us g. then_as (λ vs f. more_items_comma items n vs f) (assoc g)) (assoc h)

pub items_comma : (items : OneOrMore InitializerItemTree) (n : ℕ) (ts : List Marked) → (initializer_items items ⊙ punctuator mark.Comma) n ts → items_before (items.first ∷ items.more) n ts
items_comma items n ts h = then_as (λ us g. more_items_comma items.more n us g) (assoc h)

-- items of which a comma follows the last
more_items_before : (items : List InitializerItemTree) (n : ℕ) (ts : List Marked) → (punctuator mark.Comma ⊙ items_before items) n ts → (more_initializer_items items ⊙ punctuator mark.Comma) n ts
more_items_before [] n ts h = record { front = []; back = ts; cut = refl; first = refl; second = drop_last h }
more_items_before (i ∷ items) n ts h = back_assoc (then_as (λ us g. back_assoc (then_as (λ vs f. more_items_before items n vs f) g)) h)

pub items_before_end : (i : InitializerItemTree) (items : List InitializerItemTree) (n : ℕ) (ts : List Marked) → items_before (i ∷ items) n ts →
    (initializer_items (record { first = i; more = items }) ⊙ punctuator mark.Comma) n ts
items_before_end i items n ts h = back_assoc (then_as (λ us g. more_items_before items n us g) h)

-- Statements

-- a language behind one under a condition
kept_where : {A : Type 0} {P Q R : Language} {n : ℕ} {ts : List Marked} → ((us : List Marked) → (P ⊙ Q) n us → R n us) → (Where A P ⊙ Q) n ts → Where A R n ts
kept_where {P = P} {Q = Q} {n = n} f h =
    record { holds = h.first.holds; is = f _ (record { front = h.front; back = h.back; cut = h.cut; first = h.first.is; second = h.second }) }

pub items_statement : (items : ItemTrees) (s : StatementTree) (n : ℕ) (ts : List Marked) → (block_items items ⊙ statement s) n ts → block_items (one_more_statement items s) n ts
unfolding statement
items_statement no_items s n ts h = and_none n ts (alone h)
items_statement (declaration_then p d items) s n ts h = kept_where (λ us g. then_as (λ vs f. then_as (λ ws e. items_statement items s n ws e) (assoc f)) (assoc g)) h
items_statement (statement_then r items) s n ts h = then_as (λ us g. items_statement items s n us g) (assoc h)

pub items_declaration : (items : ItemTrees) (s : Option Pos) (d : DeclarationTree) (n : ℕ) (ts : List Marked) → HasName s d.declarators → (block_items items ⊙ (optional_static s ⊙ declared d)) n ts →
    block_items (one_more_declaration items s d) n ts
unfolding statement
items_declaration no_items s d n ts k h = record { holds = k; is = then_as (λ us g. and_none n us g) (alone h) }
items_declaration (declaration_then p c items) s d n ts k h = kept_where (λ us g. then_as (λ vs f. then_as (λ ws e. items_declaration items s d n ws k e) (assoc f)) (assoc g)) h
items_declaration (statement_then r items) s d n ts k h = then_as (λ us g. items_declaration items s d n us k g) (assoc h)

-- Type names

more_names_end : (ids : List Identifier) (id : Identifier) (n : ℕ) (ts : List Marked) → (more_names ids ⊙ (punctuator mark.Comma ⊙ Identified id)) n ts → more_names (ids ++ id ∷ []) n ts
more_names_end [] id n ts h = then_as (λ us g. and_none n us g) (alone h)
more_names_end (a ∷ ids) id n ts h = then_as (λ us g. then_as (λ vs f. more_names_end ids id n vs f) (assoc g)) (assoc h)

pub names_end : (ids : OneOrMore Identifier) (id : Identifier) (n : ℕ) (ts : List Marked) → (names ids ⊙ (punctuator mark.Comma ⊙ Identified id)) n ts → names (with_last ids id) n ts
names_end ids id n ts h = then_as (λ us g. more_names_end ids.more id n us g) (assoc h)

-- External definitions

more_parameters_end : (ps : List ParameterTree) (p : ParameterTree) (n : ℕ) (ts : List Marked) →
    (punctuator mark.Comma ⊙ (parameters_before ps ⊙ parameter p)) n ts → more_parameters (ps ++ p ∷ []) n ts
more_parameters_end [] p n ts h = then_as (λ us g. and_none n us (alone g)) h
more_parameters_end (q ∷ ps) p n ts h = then_as (λ us g. then_as (λ vs f. more_parameters_end ps p n vs (assoc f)) (assoc g)) h

parameters_then : (q : ParameterTree) (ps : List ParameterTree) (p : ParameterTree) (n : ℕ) (ts : List Marked) →
    (parameter q ⊙ more_parameters (ps ++ p ∷ [])) n ts → parameters (q ∷ (ps ++ p ∷ [])) n ts
parameters_then q [] p n ts h = h
parameters_then q (r ∷ ps) p n ts h = h

pub parameters_end : (ps : List ParameterTree) (p : ParameterTree) (n : ℕ) (ts : List Marked) → (ps ≡ [] → ¬ IsVoidAlone p) →
    (parameters_before ps ⊙ parameter p) n ts → parameters (ps ++ p ∷ []) n ts
parameters_end [] p n ts v h = record { holds = v refl; is = alone h }
parameters_end (q ∷ ps) p n ts v h = parameters_then q ps p n ts (then_as (λ us g. more_parameters_end ps p n us (assoc g)) (assoc h))

pub parameters_comma : (ps : List ParameterTree) (p : ParameterTree) (n : ℕ) (ts : List Marked) →
    (parameters_before ps ⊙ (parameter p ⊙ punctuator mark.Comma)) n ts → parameters_before (ps ++ p ∷ []) n ts
parameters_comma [] p n ts h = then_as (λ us g. and_none n us g) (alone h)
parameters_comma (q ∷ ps) p n ts h = then_as (λ us g. then_as (λ vs f. parameters_comma ps p n vs f) (assoc g)) (assoc h)

pub externals_end : (xs : List ExternalTree) (x : ExternalTree) (n : ℕ) (ts : List Marked) → (externals xs ⊙ external x) n ts → externals (xs ++ x ∷ []) n ts
externals_end [] x n ts h = and_none n ts (alone h)
externals_end (y ∷ xs) x n ts h = then_as (λ us g. externals_end xs x n us g) (assoc h)
