-- The places of the trees that the grammar derives from tokens are those of the tokens.
use Rattle.std.proofs.Common.{◌≡◌, ℕ, true, List, [], ◌∷◌, ◌++◌, Option, Some, None, sym, subst}
use Rattle.std.specs.Prelude.{All}
use Rattle.std.proofs.lemmas.List.Elements.{All-head, All-tail}
use Rattle.pk_ctypes.specs.declared.places.Pos.{Pos}
use Rattle.pk_lex.specs.declared.token.Token.{Token}
use Rattle.pk_ast.specs.declared.declarations.Specifier.{Specifier}
use Rattle.pk_ast.specs.declared.expressions.Identifier.{Identifier}
use Rattle.pk_ast.specs.Trees as ast
use Rattle.pk_ast.specs.Trees.{OneOrMore, ExpressionTree, ExpressionTrees, no_expressions, expression_then, InitializerItemTree, item_value, item_row, InitializerTree, single, braced, DimensionsTree, DeclaratorTree, EnumeratorTree, EnumerationTree, DeclarationTree, ForStartTree, declaration, expression, StatementTree, ItemTrees, no_items, declaration_then, statement_then, BlockTree, ExternalTree, function, objects, type_names}
use Rattle.pk_grammar.specs.Languages.{Marked, Language, One, identifier_of, ◌⊙◌}
use Rattle.pk_grammar.specs.Grammar as grammar
use Rattle.pk_grammar.specs.Grammar.{spelled, spelled_list, spelled_more, optional, array_length, dimensions, initializer_item, more_initializer_items, initializer, declarator, more_declarators, enumerator, enumerator_value, more_enumerators, type_words, declared, test, for_start, statement, block_items, function_end, external, externals}
use Rattle.pk_grammar.specs.Outcomes.{IsParsed, unmarked}
use Rattle.pk_places_laws.specs.Places.{OfPlaces}
use Rattle.pk_unit_laws.specs.Trees.{InExpression, InExpressions, InOptional, InInitializerItem, InInitializerItems, InInitializer, InDimensions, InDeclarator, InDeclarators, InEnumerator, InEnumerators, InEnumeration, InDeclaration, InStart, InStatement, InItems, InBlock, InExternal, InExternals}
use Rattle.pk_unit_laws.specs.Laws.{PlacesAreTheTokens}

-- the tokens are at such places
abbrev Are : OfPlaces → List Marked → Type 0
Are P [] = Unit {0}
Are P (m ∷ ms) = P m.token.at × Are P ms

are_first : (P : OfPlaces) (xs ys : List Marked) → Are P (xs ++ ys) → Are P xs
are_first P [] ys h = tt
are_first P (x ∷ xs) ys h = (h.0, are_first P xs ys h.1)

are_second : (P : OfPlaces) (xs ys : List Marked) → Are P (xs ++ ys) → Are P ys
are_second P [] ys h = h
are_second P (x ∷ xs) ys h = are_second P xs ys h.1

left : (P : OfPlaces) {A B : Language} {n : ℕ} {ts : List Marked} (h : (A ⊙ B) n ts) → Are P ts → Are P h.front
left P h a = are_first P h.front h.back (subst (Are P) h.cut a)

right : (P : OfPlaces) {A B : Language} {n : ℕ} {ts : List Marked} (h : (A ⊙ B) n ts) → Are P ts → Are P h.back
right P h a = are_second P h.front h.back (subst (Are P) h.cut a)

token_at : (P : OfPlaces) {Q : Token → Type 0} {n : ℕ} {ts : List Marked} (at : Pos) (h : One Q n ts) → h.token.at ≡ at → Are P ts → P at
token_at P at h e a = subst P e (subst (Are P) h.is a).0

name_at : (P : OfPlaces) {Q : Token → Type 0} {n : ℕ} {ts : List Marked} (x : Identifier) (h : One Q n ts) → identifier_of h.token ≡ x → Are P ts → P x.at
name_at P x h e a = subst (λ (y : Identifier). P y.at) e (subst (Are P) h.is a).0

-- ---- expressions

mutual
  unfolding spelled spelled_list spelled_more InExpression InExpressions

  expressions : (P : OfPlaces) (e : ExpressionTree) (n : ℕ) (ts : List Marked) → spelled e n ts → Are P ts → InExpression P e
  expressions P (ast.name x) n ts h a = name_at P x h h.holds.1 a
  expressions P (ast.call x es) n ts h a =
      let i = h.second in (name_at P x h.first h.first.holds.1 (left P h a), lists P es _ _ i.first.second (right P i.first (left P i (right P h a))))
  expressions P (ast.index x at e) n ts h a =
      let i = h.second in let j = i.first in let b = left P i (right P h a) in
      (name_at P x h.first h.first.holds.1 (left P h a), token_at P at j.first j.first.holds.1 (left P j b), expressions P e _ _ j.second (right P j b))
  expressions P (ast.element x at e column_at c) n ts h a =
      let i = h.second in let j = i.first in let k = i.second in let l = k.second in let m = l.first in let r = right P h a in let b = left P i r in let s = left P l (right P k (right P i r)) in (
        name_at P x h.first h.first.holds.1 (left P h a),
        token_at P at j.first j.first.holds.1 (left P j b),
        expressions P e _ _ j.second (right P j b),
        token_at P column_at m.first m.first.holds.1 (left P m s),
        expressions P c _ _ m.second (right P m s),
      )
  expressions P (ast.constant at t v) n ts h a = token_at P at h h.holds.1 a
  expressions P (ast.character at v) n ts h a = token_at P at h h.holds.1 a
  expressions P (ast.parenthesized at e) n ts h a =
      let i = h.first in let b = left P h a in (token_at P at i.first i.first.holds.1 (left P i b), expressions P e _ _ i.second (right P i b))
  expressions P (ast.postfix o at e) n ts h a = (token_at P at h.second h.second.holds.1 (right P h a), expressions P e _ _ h.first (left P h a))
  expressions P (ast.prefix o at e) n ts h a = (token_at P at h.first h.first.holds.1 (left P h a), expressions P e _ _ h.second (right P h a))
  expressions P (ast.unary o at e) n ts h a = (token_at P at h.first h.first.holds.1 (left P h a), expressions P e _ _ h.second (right P h a))
  expressions P (ast.cast at words e) n ts h a =
      let i = h.second in let j = i.second in (token_at P at h.first h.first.holds.1 (left P h a), expressions P e _ _ j.second (right P j (right P i (right P h a))))
  expressions P (ast.binary o at b c) n ts h a =
      let i = h.second in let r = right P h a in
      (token_at P at i.first i.first.holds.1 (left P i r), expressions P b _ _ h.first (left P h a), expressions P c _ _ i.second (right P i r))
  expressions P (ast.conditional at b c d) n ts h a =
      let i = h.second in let r = right P h a in let j = i.first in let k = i.second in (
        token_at P at j.first j.first.holds.1 (left P j (left P i r)),
        expressions P b _ _ h.first (left P h a),
        expressions P c _ _ j.second (right P j (left P i r)),
        expressions P d _ _ k.second (right P k (right P i r)),
      )
  expressions P (ast.assignment o at b c) n ts h a =
      let i = h.second in let r = right P h a in
      (token_at P at i.first i.first.holds.1 (left P i r), expressions P b _ _ h.first (left P h a), expressions P c _ _ i.second (right P i r))
  expressions P (ast.comma at b c) n ts h a =
      let i = h.second in let r = right P h a in
      (token_at P at i.first i.first.holds.1 (left P i r), expressions P b _ _ h.first (left P h a), expressions P c _ _ i.second (right P i r))

  lists : (P : OfPlaces) (es : ExpressionTrees) (n : ℕ) (ts : List Marked) → spelled_list es n ts → Are P ts → InExpressions P es
  lists P no_expressions n ts h a = tt
  lists P (expression_then e es) n ts h a = (expressions P e _ _ h.first (left P h a), mores P es _ _ h.second (right P h a))

  mores : (P : OfPlaces) (es : ExpressionTrees) (n : ℕ) (ts : List Marked) → spelled_more es n ts → Are P ts → InExpressions P es
  mores P no_expressions n ts h a = tt
  mores P (expression_then e es) n ts h a =
      let i = h.second in (expressions P e _ _ i.first (left P i (right P h a)), mores P es _ _ i.second (right P i (right P h a)))

optionals : (P : OfPlaces) (l : ℕ) (e : Option ExpressionTree) (n : ℕ) (ts : List Marked) → optional l e n ts → Are P ts → InOptional P e
optionals P l None n ts h a = tt
optionals P l (Some e) n ts h a = expressions P e n ts h.is a

-- ---- enumerations

values : (P : OfPlaces) (e : Option ExpressionTree) (n : ℕ) (ts : List Marked) → enumerator_value e n ts → Are P ts → InOptional P e
values P None n ts h a = tt
values P (Some e) n ts h a = expressions P e _ _ h.second.is (right P h a)

enumerators : (P : OfPlaces) (x : EnumeratorTree) (n : ℕ) (ts : List Marked) → enumerator x n ts → Are P ts → InEnumerator P x
enumerators P x n ts h a = (name_at P x.name h.first h.first.holds.1 (left P h a), values P x.value _ _ h.second (right P h a))

all_enumerators : (P : OfPlaces) (xs : List EnumeratorTree) (n : ℕ) (ts : List Marked) → more_enumerators xs n ts → Are P ts → InEnumerators P xs
all_enumerators P [] n ts h a = tt
all_enumerators P (x ∷ xs) n ts h a =
    let i = h.second in (enumerators P x _ _ i.first (left P i (right P h a)), all_enumerators P xs _ _ i.second (right P i (right P h a)))

enumerations : (P : OfPlaces) (s : OneOrMore Specifier) (e : Option EnumerationTree) (n : ℕ) (ts : List Marked) → type_words s e n ts → Are P ts → InEnumeration P e
enumerations P s None n ts h a = tt
enumerations P s (Some e) n ts h a =
    let w = h.is in let i = w.second in let b = right P w a in let j = i.second in let k = j.first in let c = left P j (right P i b) in
    (enumerators P e.enumerators.first _ _ k.first (left P k c), all_enumerators P e.enumerators.more _ _ k.second (right P k c))

-- ---- declarations

lengths : (P : OfPlaces) (e : Option ExpressionTree) (n : ℕ) (ts : List Marked) → array_length e n ts → Are P ts → InOptional P e
lengths P None n ts h a = tt
lengths P (Some e) n ts h a = expressions P e _ _ h.first.second.is (right P h.first (left P h a))

all_dimensions : (P : OfPlaces) (d : Option DimensionsTree) (n : ℕ) (ts : List Marked) → dimensions d n ts → Are P ts → InDimensions P d
all_dimensions P None n ts h a = tt
all_dimensions P (Some d) n ts h a = (lengths P (Some d.length) _ _ h.first (left P h a), lengths P d.columns _ _ h.second (right P h a))

row_both : (P : OfPlaces) (e : ExpressionTree) (es : ExpressionTrees) → InExpressions P (expression_then e es) → InExpression P e × InExpressions P es
unfolding InExpressions
row_both P e es h = h

initializer_items : (P : OfPlaces) (i : InitializerItemTree) (n : ℕ) (ts : List Marked) → initializer_item i n ts → Are P ts → InInitializerItem P i
initializer_items P (item_value e) n ts h a = expressions P e _ _ h.is a
initializer_items P (item_row at e es) n ts h a =
    let i = h.second in let b = right P h a in
    let both = row_both P e es (lists P (expression_then e es) _ _ i.first.is (left P i b)) in
    (token_at P at h.first h.first.holds.1 (left P h a), both.0, both.1)

all_initializer_items : (P : OfPlaces) (is : List InitializerItemTree) (n : ℕ) (ts : List Marked) → more_initializer_items is n ts → Are P ts → InInitializerItems P is
all_initializer_items P [] n ts h a = tt
all_initializer_items P (x ∷ xs) n ts h a =
    let i = h.second in (initializer_items P x _ _ i.first (left P i (right P h a)), all_initializer_items P xs _ _ i.second (right P i (right P h a)))

initializers : (P : OfPlaces) (i : Option InitializerTree) (n : ℕ) (ts : List Marked) → initializer i n ts → Are P ts → InInitializer P i
initializers P None n ts h a = tt
initializers P (Some (single e)) n ts h a = expressions P e _ _ h.second.is (right P h a)
initializers P (Some (braced at is)) n ts h a =
    let i = h.second in let j = i.second in let k = j.first in let b = right P h a in let c = left P j (right P i b) in
    (token_at P at i.first i.first.holds.1 (left P i b), initializer_items P is.first _ _ k.first (left P k c), all_initializer_items P is.more _ _ k.second (right P k c))

declarators : (P : OfPlaces) (d : DeclaratorTree) (n : ℕ) (ts : List Marked) → declarator d n ts → Are P ts → InDeclarator P d
declarators P d n ts h a =
    let i = h.second in
    (name_at P d.name h.first h.first.holds.1 (left P h a), all_dimensions P d.dimensions _ _ i.first (left P i (right P h a)), initializers P d.initializer _ _ i.second (right P i (right P h a)))

all_declarators : (P : OfPlaces) (ds : List DeclaratorTree) (n : ℕ) (ts : List Marked) → more_declarators ds n ts → Are P ts → InDeclarators P ds
all_declarators P [] n ts h a = tt
all_declarators P (d ∷ ds) n ts h a =
    let i = h.second in (declarators P d _ _ i.first (left P i (right P h a)), all_declarators P ds _ _ i.second (right P i (right P h a)))

named : (P : OfPlaces) (e : Option EnumerationTree) (ds : List DeclaratorTree) (n : ℕ) (ts : List Marked) → grammar.declarators e ds n ts → Are P ts → InDeclarators P ds
named P e [] n ts h a = tt
named P e (d ∷ ds) n ts h a = (declarators P d _ _ h.first (left P h a), all_declarators P ds _ _ h.second (right P h a))

declarations : (P : OfPlaces) (d : DeclarationTree) (n : ℕ) (ts : List Marked) → declared d n ts → Are P ts → InDeclaration P d
declarations P d n ts h a =
    let i = h.second in (enumerations P d.specifiers d.enumeration _ _ h.first (left P h a), named P d.enumeration d.declarators _ _ i.first (left P i (right P h a)))

-- ---- statements

tests : (P : OfPlaces) (e : ExpressionTree) (n : ℕ) (ts : List Marked) → test e n ts → Are P ts → InExpression P e
tests P e n ts h a = expressions P e _ _ h.first.second.is (right P h.first (left P h a))

starts : (P : OfPlaces) (s : ForStartTree) (n : ℕ) (ts : List Marked) → for_start s n ts → Are P ts → InStart P s
starts P (declaration d) n ts h a = declarations P d n ts h a
starts P (expression e) n ts h a = optionals P grammar.any_expression e _ _ h.first (left P h a)

mutual
  unfolding statement block_items InStatement InItems

  statements : (P : OfPlaces) (s : StatementTree) (n : ℕ) (ts : List Marked) → statement s n ts → Are P ts → InStatement P s
  statements P (ast.block at is close) n ts h a =
      let i = h.first in let b = left P h a in
      (token_at P at i.first i.first.holds.1 (left P i b), items P is _ _ i.second (right P i b), token_at P close h.second h.second.holds.1 (right P h a))
  statements P (ast.empty at) n ts h a = token_at P at h h.holds.1 a
  statements P (ast.expression_statement e) n ts h a = expressions P e _ _ h.first.is (left P h a)
  statements P (ast.label x s) n ts h a = let i = h.second in (name_at P x h.first h.first.holds.1 (left P h a), statements P s _ _ i.second (right P i (right P h a)))
  statements P (ast.case at e s) n ts h a =
      let i = h.second in let j = i.second in let r = right P h a in
      (token_at P at h.first h.first.holds.1 (left P h a), expressions P e _ _ i.first.is (left P i r), statements P s _ _ j.second (right P j (right P i r)))
  statements P (ast.default at s) n ts h a = let i = h.second in (token_at P at h.first h.first.holds.1 (left P h a), statements P s _ _ i.second (right P i (right P h a)))
  statements P (ast.if_then at e s) n ts h a =
      let i = h.second in let r = right P h a in (token_at P at h.first h.first.holds.1 (left P h a), tests P e _ _ i.first (left P i r), statements P s _ _ i.second (right P i r))
  statements P (ast.if_else at e s t) n ts h a =
      let i = h.second in let j = i.second in let r = right P h a in let b = right P i r in (
        token_at P at h.first h.first.holds.1 (left P h a),
        tests P e _ _ i.first (left P i r),
        statements P s _ _ j.first.is (left P j b),
        statements P t _ _ j.second.second (right P j.second (right P j b)),
      )
  statements P (ast.switch at e s) n ts h a =
      let i = h.second in let r = right P h a in (token_at P at h.first h.first.holds.1 (left P h a), tests P e _ _ i.first (left P i r), statements P s _ _ i.second (right P i r))
  statements P (ast.while at e s) n ts h a =
      let i = h.second in let r = right P h a in (token_at P at h.first h.first.holds.1 (left P h a), tests P e _ _ i.first (left P i r), statements P s _ _ i.second (right P i r))
  statements P (ast.do_while at s e) n ts h a =
      let f = h.first in let b = left P h a in let i = f.second in let j = i.second in let c = right P f b in
      (token_at P at f.first f.first.holds.1 (left P f b), statements P s _ _ i.first (left P i c), tests P e _ _ j.second (right P j (right P i c)))
  statements P (ast.for_loop at start second third s) n ts h a =
      let i = h.second in let f = i.first in let r = right P h a in let b = left P i r in let j = f.second in let k = j.second in let l = k.second in let c = right P f b in (
        token_at P at h.first h.first.holds.1 (left P h a),
        starts P start _ _ j.first (left P j c),
        optionals P grammar.any_expression second _ _ k.first (left P k (right P j c)),
        optionals P grammar.any_expression third _ _ l.second (right P l (right P k (right P j c))),
        statements P s _ _ i.second.second (right P i.second (right P i r)),
      )
  statements P (ast.goto at x) n ts h a = let f = h.first in token_at P at f.first f.first.holds.1 (left P f (left P h a))
  statements P (ast.continue at) n ts h a = token_at P at h.first h.first.holds.1 (left P h a)
  statements P (ast.break at) n ts h a = token_at P at h.first h.first.holds.1 (left P h a)
  statements P (ast.return at e) n ts h a =
      let f = h.first in let b = left P h a in (token_at P at f.first f.first.holds.1 (left P f b), optionals P grammar.any_expression e _ _ f.second (right P f b))

  items : (P : OfPlaces) (is : ItemTrees) (n : ℕ) (ts : List Marked) → block_items is n ts → Are P ts → InItems P is
  items P no_items n ts h a = tt
  items P (declaration_then s d is) n ts h a =
      let w = h.is in let i = w.second in (declarations P d _ _ i.first (left P i (right P w a)), items P is _ _ i.second (right P i (right P w a)))
  items P (statement_then s is) n ts h a = (statements P s _ _ h.first (left P h a), items P is _ _ h.second (right P h a))

-- ---- texts

block_is : (P : OfPlaces) (b : BlockTree) → InStatement P (ast.block b.opened b.items b.closed) → P b.opened × InItems P b.items × P b.closed
unfolding InStatement
block_is P b h = h

bodies : (P : OfPlaces) (b : Option BlockTree) (n : ℕ) (ts : List Marked) → function_end b n ts → Are P ts → InBlock P b
bodies P None n ts h a = tt
bodies P (Some b) n ts h a = block_is P b (statements P (ast.block b.opened b.items b.closed) n ts h a)

one_external : (P : OfPlaces) (x : ExternalTree) (n : ℕ) (ts : List Marked) → external x n ts → Are P ts → InExternal P x
one_external P (function f) n ts h a =
    let i = h.second in let j = i.second in let k = j.second in let l = k.second in
    bodies P f.body _ _ l.second (right P l (right P k (right P j (right P i (right P h a)))))
one_external P (objects s d) n ts h a = tt
one_external P (type_names d) n ts h a = tt

all_externals : (P : OfPlaces) (xs : List ExternalTree) (n : ℕ) (ts : List Marked) → externals xs n ts → Are P ts → InExternals P xs
all_externals P [] n ts h a = tt
all_externals P (x ∷ xs) n ts h a = (one_external P x _ _ h.first (left P h a), all_externals P xs _ _ h.second (right P h a))

are_tokens : (P : OfPlaces) (ms : List Marked) → All (λ (t : Token). P t.at) (unmarked ms) → Are P ms
are_tokens P [] h = tt
are_tokens P (m ∷ ms) h = (All-head (λ (t : Token). P t.at) m.token (unmarked ms) h, are_tokens P ms (All-tail (λ (t : Token). P t.at) m.token (unmarked ms) h))

pub tokens_told : (P : OfPlaces) (tokens : List Token) (xs : List ExternalTree) → IsParsed tokens xs → All (λ (t : Token). P t.at) tokens → InExternals P xs
tokens_told P tokens xs p h =
    let a = are_tokens P p.marked (subst (All (λ (t : Token). P t.at)) (sym p.tokens_are) h) in
    all_externals P xs _ _ p.derived.first (left P p.derived a)

pub places_are_the_tokens : PlacesAreTheTokens
places_are_the_tokens tokens xs test p h = tokens_told (λ at. test at ≡ true) tokens xs p h
