-- The operators of the trees that the grammar derives from tokens count no more than the tokens.
use Rattle.std.proofs.Common.{◌≡◌, ℕ, ◌+◌, ◌≤◌, List, [], ◌∷◌, ◌++◌, Option, Some, None, subst, ap, ◌∙◌, refl, arith}
use Rattle.pk_ctypes.specs.declared.places.Pos.{Pos}
use Rattle.pk_lex.specs.declared.token.Token.{Token}
use Rattle.pk_ast.specs.declared.declarations.Specifier.{Specifier}
use Rattle.pk_ast.specs.declared.expressions.Identifier.{Identifier}
use Rattle.pk_ast.specs.Trees as ast
use Rattle.pk_ast.specs.Trees.{OneOrMore, ExpressionTree, ExpressionTrees, no_expressions, expression_then, InitializerItemTree, item_value, item_row, InitializerTree, single, braced, DimensionsTree, DeclaratorTree, EnumeratorTree, EnumerationTree, DeclarationTree, ForStartTree, declaration, expression, StatementTree, ItemTrees, no_items, declaration_then, statement_then, BlockTree, ExternalTree, function, objects, type_names}
use Rattle.pk_grammar.specs.Languages.{Marked, Language, One, identifier_of, ◌⊙◌}
use Rattle.pk_grammar.specs.Grammar as grammar
use Rattle.pk_grammar.specs.Grammar.{spelled, spelled_list, spelled_more, optional, array_length, dimensions, initializer_item, more_initializer_items, initializer, declarator, more_declarators, enumerator, enumerator_value, more_enumerators, type_words, declared, test, for_start, statement, block_items, function_end, external, externals}
use Rattle.pk_grammar.specs.Outcomes.{unmarked}
use Rattle.pk_access_laws.specs.Operators.{Counting}
use Rattle.pk_operator_laws.specs.Trees.{in_expression, in_expressions, in_optional, in_initializer_item, in_initializer_items, in_initializer, in_dimensions, in_declarator, in_declarators, in_enumerators, in_enumeration, in_declaration, in_start, in_statement, in_items, in_block, in_external, in_externals, in_tokens}
use Rattle.pk_operator_laws.specs.Laws.{OperatorsAreTheTokens}

abbrev counted : Counting → List Marked → ℕ
counted q [] = 0
counted q (m ∷ ms) = q m.token.at + counted q ms

counted_append : (q : Counting) (xs ys : List Marked) → counted q (xs ++ ys) ≡ counted q xs + counted q ys
counted_append q [] ys = omega arith
counted_append q (x ∷ xs) ys = omega (arith, counted_append q xs ys)

-- what both sides of a cut count
cut : (q : Counting) {A B : Language} {n : ℕ} {ts : List Marked} (h : (A ⊙ B) n ts) → counted q ts ≡ counted q h.front + counted q h.back
cut q h = ap (counted q) h.cut ∙ counted_append q h.front h.back

one_counts : (q : Counting) (m : Marked) → counted q (m ∷ []) ≡ q m.token.at
one_counts q m = omega arith

token_counts : (q : Counting) {Q : Token → Type 0} {n : ℕ} {ts : List Marked} (at : Pos) (h : One Q n ts) → h.token.at ≡ at → counted q ts ≡ q at
token_counts q {n = n} at h e = ap (counted q) h.is ∙ one_counts q (record { token = h.token; nesting = n }) ∙ ap q e

name_counts : (q : Counting) {Q : Token → Type 0} {n : ℕ} {ts : List Marked} (x : Identifier) (h : One Q n ts) → identifier_of h.token ≡ x → counted q ts ≡ q x.at
name_counts q x h e = token_counts q x.at h (ap (λ (y : Identifier). y.at) e)

-- ---- expressions

mutual
  unfolding spelled spelled_list spelled_more in_expression in_expressions

  expressions : (q : Counting) (e : ExpressionTree) (n : ℕ) (ts : List Marked) → spelled e n ts → in_expression q e ≤ counted q ts
  expressions q (ast.name x) n ts h = omega arith
  expressions q (ast.call x es) n ts h =
      let i = h.second in
      omega (arith, cut q h, cut q i, cut q i.first, name_counts q x h.first h.first.holds.1, lists q es _ _ i.first.second)
  expressions q (ast.index x at e) n ts h =
      let i = h.second in let j = i.first in
      omega (arith, cut q h, cut q i, cut q j, token_counts q at j.first j.first.holds.1, expressions q e _ _ j.second)
  expressions q (ast.element x at e column_at c) n ts h =
      let i = h.second in let j = i.first in let k = i.second in let l = k.second in let m = l.first in
      omega (arith, cut q h, cut q i, cut q j, cut q k, cut q l, cut q m, token_counts q at j.first j.first.holds.1, expressions q e _ _ j.second, token_counts q column_at m.first m.first.holds.1, expressions q c _ _ m.second)
  expressions q (ast.constant at t v) n ts h = omega arith
  expressions q (ast.character at v) n ts h = omega arith
  expressions q (ast.parenthesized at e) n ts h = let i = h.first in omega (arith, cut q h, cut q i, expressions q e _ _ i.second)
  expressions q (ast.postfix o at e) n ts h = omega (arith, cut q h, token_counts q at h.second h.second.holds.1, expressions q e _ _ h.first)
  expressions q (ast.prefix o at e) n ts h = omega (arith, cut q h, token_counts q at h.first h.first.holds.1, expressions q e _ _ h.second)
  expressions q (ast.unary o at e) n ts h = omega (arith, cut q h, token_counts q at h.first h.first.holds.1, expressions q e _ _ h.second)
  expressions q (ast.cast at words e) n ts h =
      let i = h.second in let j = i.second in omega (arith, cut q h, cut q i, cut q j, expressions q e _ _ j.second)
  expressions q (ast.binary o at b c) n ts h =
      let i = h.second in
      omega (arith, cut q h, cut q i, token_counts q at i.first i.first.holds.1, expressions q b _ _ h.first, expressions q c _ _ i.second)
  expressions q (ast.conditional at b c d) n ts h =
      let i = h.second in let j = i.first in let k = i.second in
      omega (arith, cut q h, cut q i, cut q j, cut q k, expressions q b _ _ h.first, expressions q c _ _ j.second, expressions q d _ _ k.second)
  expressions q (ast.assignment o at b c) n ts h =
      let i = h.second in
      omega (arith, cut q h, cut q i, token_counts q at i.first i.first.holds.1, expressions q b _ _ h.first, expressions q c _ _ i.second)
  expressions q (ast.comma at b c) n ts h =
      let i = h.second in omega (arith, cut q h, cut q i, expressions q b _ _ h.first, expressions q c _ _ i.second)

  lists : (q : Counting) (es : ExpressionTrees) (n : ℕ) (ts : List Marked) → spelled_list es n ts → in_expressions q es ≤ counted q ts
  lists q no_expressions n ts h = omega arith
  lists q (expression_then e es) n ts h = omega (arith, cut q h, expressions q e _ _ h.first, mores q es _ _ h.second)

  mores : (q : Counting) (es : ExpressionTrees) (n : ℕ) (ts : List Marked) → spelled_more es n ts → in_expressions q es ≤ counted q ts
  mores q no_expressions n ts h = omega arith
  mores q (expression_then e es) n ts h =
      let i = h.second in omega (arith, cut q h, cut q i, expressions q e _ _ i.first, mores q es _ _ i.second)

optionals : (q : Counting) (l : ℕ) (e : Option ExpressionTree) (n : ℕ) (ts : List Marked) → optional l e n ts → in_optional q e ≤ counted q ts
optionals q l None n ts h = omega arith
optionals q l (Some e) n ts h = expressions q e n ts h.is

-- ---- declarations

row_items : (q : Counting) (e : ExpressionTree) (es : ExpressionTrees) (n : ℕ) (ts : List Marked) → spelled_list (expression_then e es) n ts → in_expression q e + in_expressions q es ≤ counted q ts
unfolding in_expressions
row_items q e es n ts h = lists q (expression_then e es) n ts h

initializer_items : (q : Counting) (i : InitializerItemTree) (n : ℕ) (ts : List Marked) → initializer_item i n ts → in_initializer_item q i ≤ counted q ts
initializer_items q (item_value e) n ts h = expressions q e _ _ h.is
initializer_items q (item_row at e es) n ts h = let i = h.second in omega (arith, cut q h, cut q i, row_items q e es _ _ i.first.is)

all_initializer_items : (q : Counting) (is : List InitializerItemTree) (n : ℕ) (ts : List Marked) → more_initializer_items is n ts → in_initializer_items q is ≤ counted q ts
all_initializer_items q [] n ts h = omega arith
all_initializer_items q (x ∷ xs) n ts h =
    let i = h.second in omega (arith, cut q h, cut q i, initializer_items q x _ _ i.first, all_initializer_items q xs _ _ i.second)

initializers : (q : Counting) (i : Option InitializerTree) (n : ℕ) (ts : List Marked) → initializer i n ts → in_initializer q i ≤ counted q ts
initializers q None n ts h = omega arith
initializers q (Some (single e)) n ts h = omega (arith, cut q h, expressions q e _ _ h.second.is)
initializers q (Some (braced at is)) n ts h =
    let i = h.second in let j = i.second in let k = j.first in
    omega (arith, cut q h, cut q i, cut q j, cut q k, initializer_items q is.first _ _ k.first, all_initializer_items q is.more _ _ k.second)

lengths : (q : Counting) (e : Option ExpressionTree) (n : ℕ) (ts : List Marked) → array_length e n ts → in_optional q e ≤ counted q ts
lengths q None n ts h = omega arith
lengths q (Some e) n ts h = let i = h.first in omega (arith, cut q h, cut q i, expressions q e _ _ i.second.is)

all_dimensions : (q : Counting) (d : Option DimensionsTree) (n : ℕ) (ts : List Marked) → dimensions d n ts → in_dimensions q d ≤ counted q ts
all_dimensions q None n ts h = omega arith
all_dimensions q (Some d) n ts h = omega (arith, cut q h, lengths q (Some d.length) _ _ h.first, lengths q d.columns _ _ h.second)

one_declarator : (q : Counting) (d : DeclaratorTree) (n : ℕ) (ts : List Marked) → declarator d n ts → in_declarator q d ≤ counted q ts
one_declarator q d n ts h = let i = h.second in omega (arith, cut q h, cut q i, all_dimensions q d.dimensions _ _ i.first, initializers q d.initializer _ _ i.second)

all_declarators : (q : Counting) (ds : List DeclaratorTree) (n : ℕ) (ts : List Marked) → more_declarators ds n ts → in_declarators q ds ≤ counted q ts
all_declarators q [] n ts h = omega arith
all_declarators q (d ∷ ds) n ts h =
    let i = h.second in omega (arith, cut q h, cut q i, one_declarator q d _ _ i.first, all_declarators q ds _ _ i.second)

named : (q : Counting) (e : Option EnumerationTree) (ds : List DeclaratorTree) (n : ℕ) (ts : List Marked) → grammar.declarators e ds n ts → in_declarators q ds ≤ counted q ts
named q e [] n ts h = omega arith
named q e (d ∷ ds) n ts h = omega (arith, cut q h, one_declarator q d _ _ h.first, all_declarators q ds _ _ h.second)

values : (q : Counting) (e : Option ExpressionTree) (n : ℕ) (ts : List Marked) → enumerator_value e n ts → in_optional q e ≤ counted q ts
values q None n ts h = omega arith
values q (Some e) n ts h = omega (arith, cut q h, expressions q e _ _ h.second.is)

one_enumerator : (q : Counting) (x : EnumeratorTree) (n : ℕ) (ts : List Marked) → enumerator x n ts → in_optional q x.value ≤ counted q ts
one_enumerator q x n ts h = omega (arith, cut q h, values q x.value _ _ h.second)

all_enumerators : (q : Counting) (xs : List EnumeratorTree) (n : ℕ) (ts : List Marked) → more_enumerators xs n ts → in_enumerators q xs ≤ counted q ts
all_enumerators q [] n ts h = omega arith
all_enumerators q (x ∷ xs) n ts h =
    let i = h.second in omega (arith, cut q h, cut q i, one_enumerator q x _ _ i.first, all_enumerators q xs _ _ i.second)

enumerations : (q : Counting) (s : OneOrMore Specifier) (e : Option EnumerationTree) (n : ℕ) (ts : List Marked) → type_words s e n ts → in_enumeration q e ≤ counted q ts
enumerations q s None n ts h = omega arith
enumerations q s (Some e) n ts h =
    let w = h.is in let i = w.second in let j = i.second in let k = j.first in
    omega (arith, cut q w, cut q i, cut q j, cut q k, one_enumerator q e.enumerators.first _ _ k.first, all_enumerators q e.enumerators.more _ _ k.second)

declarations : (q : Counting) (d : DeclarationTree) (n : ℕ) (ts : List Marked) → declared d n ts → in_declaration q d ≤ counted q ts
declarations q d n ts h =
    let i = h.second in
    omega (arith, cut q h, cut q i, enumerations q d.specifiers d.enumeration _ _ h.first, named q d.enumeration d.declarators _ _ i.first)

-- ---- statements

tests : (q : Counting) (e : ExpressionTree) (n : ℕ) (ts : List Marked) → test e n ts → in_expression q e ≤ counted q ts
tests q e n ts h = let i = h.first in omega (arith, cut q h, cut q i, expressions q e _ _ i.second.is)

starts : (q : Counting) (s : ForStartTree) (n : ℕ) (ts : List Marked) → for_start s n ts → in_start q s ≤ counted q ts
starts q (declaration d) n ts h = declarations q d n ts h
starts q (expression e) n ts h = omega (arith, cut q h, optionals q grammar.any_expression e _ _ h.first)

mutual
  unfolding statement block_items in_statement in_items

  statements : (q : Counting) (s : StatementTree) (n : ℕ) (ts : List Marked) → statement s n ts → in_statement q s ≤ counted q ts
  statements q (ast.block at is close) n ts h = let i = h.first in omega (arith, cut q h, cut q i, items q is _ _ i.second)
  statements q (ast.empty at) n ts h = omega arith
  statements q (ast.expression_statement e) n ts h = omega (arith, cut q h, expressions q e _ _ h.first.is)
  statements q (ast.label x s) n ts h = let i = h.second in omega (arith, cut q h, cut q i, statements q s _ _ i.second)
  statements q (ast.case at e s) n ts h =
      let i = h.second in let j = i.second in omega (arith, cut q h, cut q i, cut q j, expressions q e _ _ i.first.is, statements q s _ _ j.second)
  statements q (ast.default at s) n ts h = let i = h.second in omega (arith, cut q h, cut q i, statements q s _ _ i.second)
  statements q (ast.if_then at e s) n ts h = let i = h.second in omega (arith, cut q h, cut q i, tests q e _ _ i.first, statements q s _ _ i.second)
  statements q (ast.if_else at e s t) n ts h =
      let i = h.second in let j = i.second in let k = j.second in
      omega (arith, cut q h, cut q i, cut q j, cut q k, tests q e _ _ i.first, statements q s _ _ j.first.is, statements q t _ _ k.second)
  statements q (ast.switch at e s) n ts h = let i = h.second in omega (arith, cut q h, cut q i, tests q e _ _ i.first, statements q s _ _ i.second)
  statements q (ast.while at e s) n ts h = let i = h.second in omega (arith, cut q h, cut q i, tests q e _ _ i.first, statements q s _ _ i.second)
  statements q (ast.do_while at s e) n ts h =
      let f = h.first in let i = f.second in let j = i.second in
      omega (arith, cut q h, cut q f, cut q i, cut q j, statements q s _ _ i.first, tests q e _ _ j.second)
  statements q (ast.for_loop at start second third s) n ts h =
      let i = h.second in let f = i.first in let g = i.second in let j = f.second in let k = j.second in let l = k.second in
      omega (arith, cut q h, cut q i, cut q f, cut q g, cut q j, cut q k, cut q l, starts q start _ _ j.first, optionals q grammar.any_expression second _ _ k.first, optionals q grammar.any_expression third _ _ l.second, statements q s _ _ g.second)
  statements q (ast.goto at x) n ts h = omega arith
  statements q (ast.continue at) n ts h = omega arith
  statements q (ast.break at) n ts h = omega arith
  statements q (ast.return at e) n ts h = let f = h.first in omega (arith, cut q h, cut q f, optionals q grammar.any_expression e _ _ f.second)

  items : (q : Counting) (is : ItemTrees) (n : ℕ) (ts : List Marked) → block_items is n ts → in_items q is ≤ counted q ts
  items q no_items n ts h = omega arith
  items q (declaration_then s d is) n ts h =
      let w = h.is in let i = w.second in omega (arith, cut q w, cut q i, declarations q d _ _ i.first, items q is _ _ i.second)
  items q (statement_then s is) n ts h = omega (arith, cut q h, statements q s _ _ h.first, items q is _ _ h.second)

-- ---- texts

block_counts : (q : Counting) (b : BlockTree) (n : ℕ) (ts : List Marked) → statement (ast.block b.opened b.items b.closed) n ts → in_items q b.items ≤ counted q ts
unfolding in_statement
block_counts q b n ts h = statements q (ast.block b.opened b.items b.closed) n ts h

bodies : (q : Counting) (b : Option BlockTree) (n : ℕ) (ts : List Marked) → function_end b n ts → in_block q b ≤ counted q ts
bodies q None n ts h = omega arith
bodies q (Some b) n ts h = block_counts q b n ts h

one_external : (q : Counting) (x : ExternalTree) (n : ℕ) (ts : List Marked) → external x n ts → in_external q x ≤ counted q ts
one_external q (function f) n ts h =
    let i = h.second in let j = i.second in let k = j.second in let l = k.second in
    omega (arith, cut q h, cut q i, cut q j, cut q k, cut q l, bodies q f.body _ _ l.second)
one_external q (objects s d) n ts h = omega arith
one_external q (type_names d) n ts h = omega arith

all_externals : (q : Counting) (xs : List ExternalTree) (n : ℕ) (ts : List Marked) → externals xs n ts → in_externals q xs ≤ counted q ts
all_externals q [] n ts h = omega arith
all_externals q (x ∷ xs) n ts h = omega (arith, cut q h, one_external q x _ _ h.first, all_externals q xs _ _ h.second)

tokens_count : (q : Counting) (ms : List Marked) → counted q ms ≡ in_tokens q (unmarked ms)
tokens_count q [] = refl
tokens_count q (m ∷ ms) = omega (arith, tokens_count q ms)

pub operators_are_the_tokens : OperatorsAreTheTokens
operators_are_the_tokens tokens xs q p =
    let all : in_externals q xs ≤ in_tokens q (unmarked p.marked) = omega (arith, cut q p.derived, all_externals q xs _ _ p.derived.first, tokens_count q p.marked) in
    subst (λ (ts : List Token). in_externals q xs ≤ in_tokens q ts) p.tokens_are all
