-- The names in trees are those among the tokens of their text.
use Rattle.std.proofs.Common.{◌≡◌, ℕ, ◌+◌, inl, inr, List, [], ◌∷◌, ◌++◌, Option, Some, None, refl, sym, ap, ◌∙◌, append_assoc, append-nil}
use Rattle.pk_ctypes.specs.declared.places.Pos.{Pos}
use Rattle.pk_lex.specs.declared.token.Token.{Token}
use Rattle.pk_lex.specs.declared.token.Kind.{Kind}
use Rattle.pk_lex.specs.declared.token.Kind.TheVariants as kind
use Rattle.pk_lex.specs.declared.token.Keyword.{Keyword}
use Rattle.pk_lex.specs.declared.token.Keyword.TheVariants as key
use Rattle.pk_lex.specs.declared.token.Punctuator.{Punctuator}
use Rattle.pk_lex.specs.declared.token.Punctuator.TheVariants as mark
use Rattle.pk_ast.specs.declared.declarations.Specifier.{Specifier}
use Rattle.pk_ast.specs.declared.declarations.SpecifierWord.{SpecifierWord}
use Rattle.pk_ast.specs.declared.declarations.SpecifierWord.TheVariants as words
use Rattle.pk_ast.specs.declared.expressions.Identifier.{Identifier}
use Rattle.pk_ast.specs.declared.units.Storage.{Storage}
use Rattle.pk_ast.specs.Names.{word_name, word_names, specifier_names, expression_names, list_names, optional_names, initializer_item_names, all_initializer_item_names, initializer_names, dimensions_names, declarator_names, all_declarator_names, enumerator_names, all_enumerator_names, enumeration_names, declaration_names, for_start_names, statement_names, item_names, body_names, optional_name, brackets_names, parameter_names, external_names, names_of}
use Rattle.pk_ast.specs.Trees.{OneOrMore, ExpressionTree, name, call, index, element, constant, character, parenthesized, postfix, prefix, unary, cast, binary, conditional, assignment, comma, ExpressionTrees, no_expressions, expression_then, InitializerItemTree, item_value, item_row, InitializerTree, single, braced, DimensionsTree, DeclaratorTree, EnumeratorTree, EnumerationTree, DeclarationTree, ForStartTree, declaration, expression, StatementTree, block, empty, expression_statement, label, case, default, if_then, if_else, switch, while, do_while, for_loop, goto, continue, break, return, ItemTrees, no_items, declaration_then, statement_then, BlockTree, BracketsTree, ParameterTree, ExternalTree, function, objects, type_names}
use Rattle.pk_grammar.specs.Languages.{Marked, Language, Nothing, At, Any, Identified, ◌⊙◌, Inside, Past, Optional, Where, identifier_of}
use Rattle.pk_grammar.specs.Grammar as grammar
use Rattle.pk_grammar.specs.Grammar.{punctuator, punctuator_at, keyword, keyword_at, specifier, specifier_list, specifiers, spelled, spelled_list, spelled_more, Expression, Items, statement, block_items, IsWord}
use Rattle.pk_grammar.specs.Outcomes.{unmarked}
use Rattle.pk_grammar.specs.Names.{name_of, names_among, NamesAreTokens}

abbrev names_in : List Marked → List Identifier
names_in ms = names_among (unmarked ms)

names_in-append : (a b : List Marked) → names_in (a ++ b) ≡ names_in a ++ names_in b
names_in-append [] b = refl
names_in-append (m ∷ a) b =
    let here : List Identifier = name_of m.token.kind (identifier_of m.token) in
    ap (λ q. here ++ q) (names_in-append a b) ∙ sym (append_assoc here (names_in a) (names_in b))

-- the tokens of this language have these names
abbrev Has : Language → List Identifier → Type 0
Has P xs = (n : ℕ) (ts : List Marked) → P n ts → names_in ts ≡ xs

both : {P Q : Language} (xs ys : List Identifier) → Has P xs → Has Q ys → Has (P ⊙ Q) (xs ++ ys)
both xs ys f g n ts h = ap names_in h.cut ∙ names_in-append h.front h.back ∙ ap (λ q. q ++ names_in h.back) (f n h.front h.first) ∙ ap (λ q. xs ++ q) (g n h.back h.second)

none_then : {P Q : Language} (xs : List Identifier) → Has P [] → Has Q xs → Has (P ⊙ Q) xs
none_then xs f g = both [] xs f g

then_none : {P Q : Language} (xs : List Identifier) → Has P xs → Has Q [] → Has (P ⊙ Q) xs
then_none xs f g n ts h = both xs [] f g n ts h ∙ append-nil xs

nothing : Has Nothing []
nothing n ts h = ap names_in h

any : (k : Kind) → ((x : Identifier) → name_of k x ≡ []) → Has (Any k) []
any k e n ts h = ap names_in h.is ∙ ap (λ k. name_of k (identifier_of h.token) ++ []) h.holds ∙ ap (λ q. q ++ []) (e (identifier_of h.token))

at_place : (k : Kind) (at : Pos) → ((x : Identifier) → name_of k x ≡ []) → Has (At k at) []
at_place k at e n ts h = ap names_in h.is ∙ ap (λ k. name_of k (identifier_of h.token) ++ []) h.holds.0 ∙ ap (λ q. q ++ []) (e (identifier_of h.token))

sign : (p : Punctuator) → Has (punctuator p) []
sign p = any (kind.Punctuator p) (λ x. refl)

sign_at : (p : Punctuator) (at : Pos) → Has (punctuator_at p at) []
sign_at p at = at_place (kind.Punctuator p) at (λ x. refl)

word : (k : Keyword) → Has (keyword k) []
word k = any (kind.Keyword k) (λ x. refl)

word_at : (k : Keyword) (at : Pos) → Has (keyword_at k at) []
word_at k at = at_place (kind.Keyword k) at (λ x. refl)

identified : (x : Identifier) → Has (Identified x) (x ∷ [])
identified x n ts h = ap names_in h.is ∙ ap (λ k. name_of k (identifier_of h.token) ++ []) h.holds.0 ∙ ap (λ y. y ∷ []) h.holds.1

past : {P : Language} (k : ℕ) (xs : List Identifier) → Has P xs → Has (Past k P) xs
past k xs f n ts h = f (n + k) ts h

inside : {P : Language} (xs : List Identifier) → Has P xs → Has (Inside P) xs
inside xs f n ts h = f (n + 1) ts h

maybe : {P : Language} → Has P [] → Has (Optional P) []
maybe f n ts h = elim h [ inl e ↦ ap names_in e | inr g ↦ f n ts g ]

where_it_holds : {A : Type 0} {P : Language} (xs : List Identifier) → Has P xs → Has (Where A P) xs
where_it_holds xs f n ts h = f n ts h.is

grouped : {P : Language} (a b c : List Identifier) → Has P (a ++ (b ++ c)) → Has P ((a ++ b) ++ c)
grouped a b c f n ts h = f n ts h ∙ sym (append_assoc a b c)

ungrouped : {P : Language} (a b c : List Identifier) → Has P ((a ++ b) ++ c) → Has P (a ++ (b ++ c))
ungrouped a b c f n ts h = f n ts h ∙ append_assoc a b c

-- Expressions

kept_name : (t : Token) (k : Kind) → t.kind ≡ k → name_of t.kind (identifier_of t) ≡ name_of k (identifier_of t)
kept_name t k e = ap (λ k. name_of k (identifier_of t)) e

word-name : (w : SpecifierWord) (t : Token) → IsWord w t → name_of t.kind (identifier_of t) ≡ word_name w t.at
word-name words.Void t h = kept_name t _ h
word-name words.Char t h = kept_name t _ h
word-name words.Short t h = kept_name t _ h
word-name words.Int t h = kept_name t _ h
word-name words.Long t h = kept_name t _ h
word-name words.Signed t h = kept_name t _ h
word-name words.Unsigned t h = kept_name t _ h
word-name words.Const t h = kept_name t _ h
word-name words.Enum t h = kept_name t _ h
word-name (words.Tag from to) t h =
    kept_name t _ h.0 ∙ (ap (λ n. word_name (words.Tag n t.end) t.at) h.1 ∙ ap (λ n. word_name (words.Tag from n) t.at) h.2)
word-name (words.TypeName from to) t h =
    kept_name t _ h.0 ∙ (ap (λ n. word_name (words.TypeName n t.end) t.at) h.1 ∙ ap (λ n. word_name (words.TypeName from n) t.at) h.2)

specifier-names : (s : Specifier) → Has (specifier s) (word_name s.word s.at)
specifier-names s n ts h =
    ap names_in h.is ∙ ap (λ q. q ++ []) (word-name s.word h.token h.holds.0 ∙ ap (λ p. word_name s.word p) h.holds.1) ∙ append-nil (word_name s.word s.at)

specifier_list-names : (ss : List Specifier) → Has (specifier_list ss) (word_names ss)
specifier_list-names [] = nothing
specifier_list-names (s ∷ ss) = both {P = specifier s} (word_name s.word s.at) (word_names ss) (specifier-names s) (specifier_list-names ss)

words-names : (ss : OneOrMore Specifier) → Has (grammar.words ss) (specifier_names ss)
words-names ss = let r = ss.first in both {P = specifier r} (word_name r.word r.at) (word_names ss.more) (specifier-names r) (specifier_list-names ss.more)

specifiers-names : (ss : OneOrMore Specifier) → Has (specifiers ss) (specifier_names ss)
specifiers-names ss n ts h = words-names ss n ts h.is

mutual
  unfolding spelled expression_names

  spelled-names : (e : ExpressionTree) → Has (spelled e) (expression_names e)
  spelled-names (name x) = identified x
  spelled-names (call x es) =
      both (x ∷ []) (list_names es) (identified x)
      (then_none (list_names es) (inside (list_names es) (none_then (list_names es) (sign mark.OpenParenthesis) (list-names es))) (sign mark.CloseParenthesis))
  spelled-names (index x at e) =
      both (x ∷ []) (expression_names e) (identified x)
      (then_none (expression_names e) (inside (expression_names e) (none_then (expression_names e) (sign_at mark.OpenBracket at) (spelled-names e))) (sign mark.CloseBracket))
  spelled-names (element x at e column_at c) =
      let xs : List Identifier = expression_names e in
      let ys : List Identifier = expression_names c in
      both (x ∷ []) (xs ++ ys) (identified x)
      (both xs ys (inside xs (none_then xs (sign_at mark.OpenBracket at) (spelled-names e)))
      (none_then ys (sign mark.CloseBracket) (then_none ys (inside ys (none_then ys (sign_at mark.OpenBracket column_at) (spelled-names c))) (sign mark.CloseBracket))))
  spelled-names (constant at t v) = at_place (kind.Constant t v) at (λ x. refl)
  spelled-names (character at v) = at_place (kind.Character v) at (λ x. refl)
  spelled-names (parenthesized at e) =
      then_none (expression_names e) (inside (expression_names e) (none_then (expression_names e) (sign_at mark.OpenParenthesis at) (spelled-names e))) (sign mark.CloseParenthesis)
  spelled-names (postfix o at e) = then_none (expression_names e) (spelled-names e) (past _ [] (sign_at _ at))
  spelled-names (prefix o at e) = inside (expression_names e) (none_then (expression_names e) (sign_at _ at) (spelled-names e))
  spelled-names (unary o at e) = inside (expression_names e) (none_then (expression_names e) (sign_at _ at) (spelled-names e))
  spelled-names (cast at specs e) =
      let ws : List Identifier = specifier_names specs in
      let xs : List Identifier = expression_names e in
      inside (ws ++ xs) (none_then (ws ++ xs) (sign_at mark.OpenParenthesis at) (both ws xs (specifiers-names specs) (none_then xs (sign mark.CloseParenthesis) (spelled-names e))))
  spelled-names (binary o at a b) =
      both (expression_names a) (expression_names b) (spelled-names a) (past _ (expression_names b) (none_then (expression_names b) (sign_at _ at) (spelled-names b)))
  spelled-names (conditional at c a b) =
      let xs : List Identifier = expression_names a in
      let ys : List Identifier = expression_names b in
      grouped (expression_names c) xs ys (both (expression_names c) (xs ++ ys) (spelled-names c)
      (both xs ys (inside xs (none_then xs (sign_at mark.Question at) (spelled-names a))) (inside ys (none_then ys (sign mark.Colon) (spelled-names b)))))
  spelled-names (assignment o at a b) =
      both (expression_names a) (expression_names b) (spelled-names a) (inside (expression_names b) (none_then (expression_names b) (sign_at _ at) (spelled-names b)))
  spelled-names (comma at a b) =
      both (expression_names a) (expression_names b) (spelled-names a) (past _ (expression_names b) (none_then (expression_names b) (sign_at mark.Comma at) (spelled-names b)))

  list-names : (es : ExpressionTrees) → Has (spelled_list es) (list_names es)
  list-names no_expressions = nothing
  list-names (expression_then e es) = both (expression_names e) (list_names es) (spelled-names e) (more-names es)

  more-names : (es : ExpressionTrees) → Has (spelled_more es) (list_names es)
  more-names no_expressions = nothing
  more-names (expression_then e es) =
      none_then (expression_names e ++ list_names es) (sign mark.Comma) (both (expression_names e) (list_names es) (spelled-names e) (more-names es))

expression-names : (level : ℕ) (e : ExpressionTree) → Has (Expression level e) (expression_names e)
expression-names level e n ts h = spelled-names e n ts h.is

items-names : (e : ExpressionTree) (es : ExpressionTrees) → Has (Items e es) (expression_names e ++ list_names es)
unfolding list_names
items-names e es n ts h = list-names (expression_then e es) n ts h.is

optional-names : (level : ℕ) (e : Option ExpressionTree) → Has (grammar.optional level e) (optional_names e)
optional-names level None = nothing
optional-names level (Some e) = expression-names level e

-- Declarations

length-names : (l : Option ExpressionTree) → Has (grammar.array_length l) (optional_names l)
length-names None = nothing
length-names (Some e) =
    let xs : List Identifier = expression_names e in
    then_none xs (inside xs (none_then xs (sign mark.OpenBracket) (expression-names _ e))) (sign mark.CloseBracket)

dimensions-names : (d : Option DimensionsTree) → Has (grammar.dimensions d) (dimensions_names d)
dimensions-names None = nothing
dimensions-names (Some d) = both (expression_names d.length) (optional_names d.columns) (length-names (Some d.length)) (length-names d.columns)

initializer_item-names : (i : InitializerItemTree) → Has (grammar.initializer_item i) (initializer_item_names i)
initializer_item-names (item_value e) = expression-names _ e
initializer_item-names (item_row at e es) =
    let xs : List Identifier = expression_names e ++ list_names es in
    none_then xs (sign_at mark.OpenBrace at) (then_none xs (items-names e es) (none_then [] (maybe (sign mark.Comma)) (sign mark.CloseBrace)))

more_initializer_items-names : (items : List InitializerItemTree) → Has (grammar.more_initializer_items items) (all_initializer_item_names items)
more_initializer_items-names [] = nothing
more_initializer_items-names (i ∷ more) =
    none_then (initializer_item_names i ++ all_initializer_item_names more) (sign mark.Comma)
    (both (initializer_item_names i) (all_initializer_item_names more) (initializer_item-names i) (more_initializer_items-names more))

initializer-names : (i : Option InitializerTree) → Has (grammar.initializer i) (initializer_names i)
initializer-names None = nothing
initializer-names (Some (single e)) = none_then (expression_names e) (sign mark.Assign) (expression-names _ e)
initializer-names (Some (braced at items)) =
    let first : List Identifier = initializer_item_names items.first in
    let more : List Identifier = all_initializer_item_names items.more in
    let all : List Identifier = first ++ more in
    none_then all (sign mark.Assign) (none_then all (sign_at mark.OpenBrace at)
    (then_none all (both first more (initializer_item-names items.first) (more_initializer_items-names items.more)) (none_then [] (maybe (sign mark.Comma)) (sign mark.CloseBrace))))

declarator-names : (d : DeclaratorTree) → Has (grammar.declarator d) (declarator_names d)
declarator-names d =
    both (d.name ∷ []) (dimensions_names d.dimensions ++ initializer_names d.initializer) (identified d.name)
    (both (dimensions_names d.dimensions) (initializer_names d.initializer) (dimensions-names d.dimensions) (initializer-names d.initializer))

more_declarators-names : (ds : List DeclaratorTree) → Has (grammar.more_declarators ds) (all_declarator_names ds)
more_declarators-names [] = nothing
more_declarators-names (d ∷ ds) =
    none_then (declarator_names d ++ all_declarator_names ds) (sign mark.Comma) (both (declarator_names d) (all_declarator_names ds) (declarator-names d) (more_declarators-names ds))

declarators-names : (e : Option EnumerationTree) (ds : List DeclaratorTree) → Has (grammar.declarators e ds) (all_declarator_names ds)
declarators-names e [] n ts h = nothing n ts h.is
declarators-names e (d ∷ ds) n ts h = both (declarator_names d) (all_declarator_names ds) (declarator-names d) (more_declarators-names ds) n ts h

-- Enumerations

value-names : (v : Option ExpressionTree) → Has (grammar.enumerator_value v) (optional_names v)
value-names None = nothing
value-names (Some e) = none_then (expression_names e) (sign mark.Assign) (expression-names _ e)

enumerator-names : (x : EnumeratorTree) → Has (grammar.enumerator x) (enumerator_names x)
enumerator-names x = both (x.name ∷ []) (optional_names x.value) (identified x.name) (value-names x.value)

more_enumerators-names : (xs : List EnumeratorTree) → Has (grammar.more_enumerators xs) (all_enumerator_names xs)
more_enumerators-names [] = nothing
more_enumerators-names (x ∷ xs) =
    none_then (enumerator_names x ++ all_enumerator_names xs) (sign mark.Comma) (both (enumerator_names x) (all_enumerator_names xs) (enumerator-names x) (more_enumerators-names xs))

braces-names : (e : EnumerationTree) → Has (grammar.braces e) (enumeration_names (Some e))
braces-names e =
    let first : List Identifier = enumerator_names e.enumerators.first in
    let more : List Identifier = all_enumerator_names e.enumerators.more in
    let qualifiers : List Identifier = word_names e.qualifiers in
    none_then ((first ++ more) ++ qualifiers) (sign mark.OpenBrace)
    (both (first ++ more) qualifiers (both first more (enumerator-names e.enumerators.first) (more_enumerators-names e.enumerators.more))
    (none_then qualifiers (maybe (sign mark.Comma)) (none_then qualifiers (sign mark.CloseBrace) (specifier_list-names e.qualifiers))))

type_words-names : (specs : OneOrMore Specifier) (e : Option EnumerationTree) → Has (grammar.type_words specs e) (specifier_names specs ++ enumeration_names e)
type_words-names specs None n ts h = specifiers-names specs n ts h ∙ sym (append-nil (specifier_names specs))
type_words-names specs (Some e) n ts h = both (specifier_names specs) (enumeration_names (Some e)) (words-names specs) (braces-names e) n ts h.is

declared-names : (d : DeclarationTree) → Has (grammar.declared d) (declaration_names d)
declared-names d =
    let named : List Identifier = specifier_names d.specifiers in
    let listed : List Identifier = enumeration_names d.enumeration in
    let all : List Identifier = all_declarator_names d.declarators in
    ungrouped named listed all (both (named ++ listed) all (type_words-names d.specifiers d.enumeration)
    (then_none all (declarators-names d.enumeration d.declarators) (sign mark.Semicolon)))

-- Statements

test-names : (e : ExpressionTree) → Has (grammar.test e) (expression_names e)
test-names e =
    let xs : List Identifier = expression_names e in
    then_none xs (inside xs (none_then xs (sign mark.OpenParenthesis) (expression-names _ e))) (sign mark.CloseParenthesis)

static-names : (s : Option Pos) → Has (grammar.optional_static s) []
static-names None = nothing
static-names (Some at) = word_at key.Static at

start-names : (f : ForStartTree) → Has (grammar.for_start f) (for_start_names f)
start-names (declaration d) = declared-names d
start-names (expression e) = then_none (optional_names e) (optional-names _ e) (sign mark.Semicolon)

-- a keyword, a test and a statement
tested-names : (k : Keyword) (at : Pos) (e : ExpressionTree) (s : StatementTree) → Has (statement s) (statement_names s) →
    Has (Inside (keyword_at k at ⊙ grammar.test e ⊙ statement s)) (expression_names e ++ statement_names s)
tested-names k at e s f =
    let xs : List Identifier = expression_names e ++ statement_names s in
    inside xs (none_then xs (word_at k at) (both (expression_names e) (statement_names s) (test-names e) f))

for-names : (at : Pos) (start : ForStartTree) (second third : Option ExpressionTree) (s : StatementTree) → Has (statement s) (statement_names s) →
    Has (Inside (keyword_at key.For at
    ⊙ Inside (punctuator mark.OpenParenthesis ⊙ grammar.for_start start ⊙ grammar.optional grammar.any_expression second ⊙ punctuator mark.Semicolon ⊙ grammar.optional grammar.any_expression third)
    ⊙ punctuator mark.CloseParenthesis ⊙ statement s)) (for_start_names start ++ optional_names second ++ optional_names third ++ statement_names s)
for-names at start second third s f n ts h =
    let a : List Identifier = for_start_names start in
    let b : List Identifier = optional_names second in
    let c : List Identifier = optional_names third in
    let d : List Identifier = statement_names s in
    let head : List Identifier = a ++ (b ++ c) in
    inside (head ++ d) (none_then (head ++ d) (word_at key.For at) (both head d
    (inside head (none_then head (sign mark.OpenParenthesis) (both a (b ++ c) (start-names start) (both b c (optional-names _ second) (none_then c (sign mark.Semicolon) (optional-names _ third))))))
    (none_then d (sign mark.CloseParenthesis) f))) n ts h
    ∙ ap (λ q. q ++ d) (sym (append_assoc a b c))

mutual
  unfolding statement statement_names

  statement-names : (s : StatementTree) → Has (statement s) (statement_names s)
  statement-names (block at items close) =
      let xs : List Identifier = item_names items in
      then_none xs (inside xs (none_then xs (sign_at mark.OpenBrace at) (item-names items))) (sign_at mark.CloseBrace close)
  statement-names (empty at) = inside [] (sign_at mark.Semicolon at)
  statement-names (expression_statement e) = then_none (expression_names e) (inside (expression_names e) (expression-names _ e)) (sign mark.Semicolon)
  statement-names (label x s) =
      let xs : List Identifier = statement_names s in
      inside (x ∷ xs) (both (x ∷ []) xs (identified x) (none_then xs (sign mark.Colon) (statement-names s)))
  statement-names (case at e s) =
      let xs : List Identifier = statement_names s in
      let all : List Identifier = expression_names e ++ xs in
      inside all (none_then all (word_at key.Case at) (both (expression_names e) xs (expression-names _ e) (none_then xs (sign mark.Colon) (statement-names s))))
  statement-names (default at s) =
      let xs : List Identifier = statement_names s in
      inside xs (none_then xs (word_at key.Default at) (none_then xs (sign mark.Colon) (statement-names s)))
  statement-names (if_then at e s) = tested-names key.If at e s (statement-names s)
  statement-names (if_else at e s t) =
      let xs : List Identifier = statement_names s in
      let ys : List Identifier = statement_names t in
      let all : List Identifier = expression_names e ++ (xs ++ ys) in
      grouped (expression_names e) xs ys (inside all (none_then all (word_at key.If at) (both (expression_names e) (xs ++ ys) (test-names e)
      (both xs ys (λ n ts h. statement-names s n ts h.is) (inside ys (none_then ys (word key.Else) (statement-names t)))))))
  statement-names (switch at e s) = tested-names key.Switch at e s (statement-names s)
  statement-names (while at e s) = tested-names key.While at e s (statement-names s)
  statement-names (do_while at s e) =
      let xs : List Identifier = statement_names s in
      let all : List Identifier = xs ++ expression_names e in
      then_none all (inside all (none_then all (word_at key.Do at) (both xs (expression_names e) (statement-names s) (none_then (expression_names e) (word key.While) (test-names e))))) (sign mark.Semicolon)
  statement-names (for_loop at start second third s) = for-names at start second third s (statement-names s)
  statement-names (goto at x) = then_none (x ∷ []) (inside (x ∷ []) (none_then (x ∷ []) (word_at key.Goto at) (identified x))) (sign mark.Semicolon)
  statement-names (continue at) = then_none [] (inside [] (word_at key.Continue at)) (sign mark.Semicolon)
  statement-names (break at) = then_none [] (inside [] (word_at key.Break at)) (sign mark.Semicolon)
  statement-names (return at e) =
      let xs : List Identifier = optional_names e in
      then_none xs (inside xs (none_then xs (word_at key.Return at) (optional-names _ e))) (sign mark.Semicolon)

  item-names : (items : ItemTrees) → Has (block_items items) (item_names items)
  item-names no_items = nothing
  item-names (declaration_then s d items) =
      where_it_holds (declaration_names d ++ item_names items)
      (none_then (declaration_names d ++ item_names items) (static-names s) (both (declaration_names d) (item_names items) (declared-names d) (item-names items)))
  item-names (statement_then s items) = both (statement_names s) (item_names items) (statement-names s) (item-names items)

-- External definitions

stored-names : (s : Option Storage) → Has (grammar.stored s) []
stored-names None = nothing
stored-names (Some s) = word_at _ s.at

abbrev own_names : ParameterTree → List Identifier
own_names p = specifier_names p.specifiers ++ (optional_name p.name ++ brackets_names p.brackets)

open_length-names : (l : Option ExpressionTree) → Has (grammar.open_length l) (optional_names l)
open_length-names l =
    let xs : List Identifier = optional_names l in
    then_none xs (inside xs (none_then xs (sign mark.OpenBracket) (optional-names _ l))) (sign mark.CloseBracket)

brackets-names : (b : Option BracketsTree) → Has (grammar.brackets b) (brackets_names b)
brackets-names None = nothing
brackets-names (Some b) = both (optional_names b.length) (optional_names b.columns) (open_length-names b.length) (length-names b.columns)

parameter-names : (p : ParameterTree) → Has (grammar.parameter p) (own_names p)
parameter-names p =
    both (specifier_names p.specifiers) (optional_name p.name ++ brackets_names p.brackets) (specifiers-names p.specifiers)
    (both (optional_name p.name) (brackets_names p.brackets) (named p.name) (brackets-names p.brackets))
  where
    named : (x : Option Identifier) → Has (grammar.optional_name x) (optional_name x)
    named None = nothing
    named (Some x) = identified x

more_parameters-names : (ps : List ParameterTree) → Has (grammar.more_parameters ps) (parameter_names ps)
more_parameters-names [] = nothing
more_parameters-names (p ∷ ps) =
    none_then (own_names p ++ parameter_names ps) (sign mark.Comma) (both (own_names p) (parameter_names ps) (parameter-names p) (more_parameters-names ps))

parameters-names : (ps : List ParameterTree) → Has (grammar.parameters ps) (parameter_names ps)
parameters-names [] n ts h = maybe (word key.Void) n ts h
parameters-names (p ∷ []) n ts h = parameter-names p n ts h.is ∙ sym (append-nil (own_names p))
parameters-names (p ∷ q ∷ more) n ts h = both (own_names p) (parameter_names (q ∷ more)) (parameter-names p) (more_parameters-names (q ∷ more)) n ts h

body-names : (b : Option BlockTree) → Has (grammar.function_end b) (body_names b)
unfolding statement_names
body-names None = sign mark.Semicolon
body-names (Some b) = statement-names (block b.opened b.items b.closed)

more_names-names : (ids : List Identifier) → Has (grammar.more_names ids) ids
more_names-names [] = nothing
more_names-names (id ∷ more) = none_then (id ∷ more) (sign mark.Comma) (both (id ∷ []) more (identified id) (more_names-names more))

external-names : (x : ExternalTree) → Has (grammar.external x) (external_names x)
external-names (function f) =
    let xs : List Identifier = parameter_names f.parameters in
    let ys : List Identifier = body_names f.body in
    let named : List Identifier = specifier_names f.specifiers in
    let all : List Identifier = f.name ∷ (xs ++ ys) in
    none_then (named ++ all) (stored-names f.storage) (both named all (specifiers-names f.specifiers) (both (f.name ∷ []) (xs ++ ys) (identified f.name)
    (both xs ys (inside xs (none_then xs (sign mark.OpenParenthesis) (parameters-names f.parameters))) (none_then ys (sign mark.CloseParenthesis) (body-names f.body)))))
external-names (objects s d) = none_then (declaration_names d) (stored-names s) (declared-names d)
external-names (type_names d) =
    let types : List Identifier = specifier_names d.specifiers in
    let listed : List Identifier = enumeration_names d.enumeration in
    let more : List Identifier = d.names.more in
    let all : List Identifier = d.names.first ∷ more in
    none_then (types ++ (listed ++ all)) (word key.Typedef) (ungrouped types listed all (both (types ++ listed) all (type_words-names d.specifiers d.enumeration)
    (then_none all (both (d.names.first ∷ []) more (identified d.names.first) (more_names-names more)) (sign mark.Semicolon))))

externals-names : (xs : List ExternalTree) → Has (grammar.externals xs) (names_of xs)
externals-names [] = nothing
externals-names (x ∷ xs) = both (external_names x) (names_of xs) (external-names x) (externals-names xs)

pub names_are_tokens : NamesAreTokens
names_are_tokens tokens trees p =
    sym (then_none (names_of trees) (externals-names trees) (any kind.End (λ x. refl)) 0 p.marked p.derived) ∙ ap names_among p.tokens_are
