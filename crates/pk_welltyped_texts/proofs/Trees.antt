-- Trees of tokens whose constants are numbers of their types have such constants.
use Rattle.std.proofs.Common.{◌≡◌, ℕ, List, [], ◌∷◌, ◌++◌, Option, Some, None, sym, subst}
use Rattle.pk_lex.specs.declared.token.Kind.{Kind}
use Rattle.pk_lex.specs.declared.token.Token.{Token}
use Rattle.pk_ast.specs.Trees as ast
use Rattle.pk_ast.specs.Trees.{ExpressionTree, ExpressionTrees, no_expressions, expression_then, InitializerItemTree, item_value, item_row, InitializerTree, single, braced, DimensionsTree, DeclaratorTree, EnumerationTree, DeclarationTree, ForStartTree, declaration, expression, StatementTree, ItemTrees, no_items, declaration_then, statement_then, BlockTree, ExternalTree, function, objects, type_names}
use Rattle.pk_grammar.specs.Languages.{Marked, Language, One, ◌⊙◌}
use Rattle.pk_grammar.specs.Grammar as grammar
use Rattle.pk_grammar.specs.Grammar.{spelled, spelled_list, spelled_more, Expression, Items, optional, array_length, dimensions, initializer_item, more_initializer_items, initializer, declarator, more_declarators, declared, test, for_start, statement, block_items, function_end, external, externals, text}
use Rattle.pk_grammar.specs.Outcomes.{unmarked}
use Rattle.pk_type_laws.specs.Accepted.Constants.{HasConstants, HaveConstants, HasConstantsIf, InitializerItemHas, InitializerItemsHave, InitializerHas, DimensionsHave, DeclaratorHas, DeclaratorsHave, DeclarationHas, StartHas, StatementHas, ItemsHave, BlockHas, ExternalHas, ExternalsHave}
use Rattle.pk_welltyped_texts.proofs.Tokens.{KindIs, TokensAre}

abbrev pub Are : List Marked → Type 0
Are [] = Unit {0}
Are (m ∷ ms) = KindIs m.token.kind × Are ms

are_first : (xs ys : List Marked) → Are (xs ++ ys) → Are xs
are_first [] ys h = tt
are_first (x ∷ xs) ys h = (h.0, are_first xs ys h.1)

are_second : (xs ys : List Marked) → Are (xs ++ ys) → Are ys
are_second [] ys h = h
are_second (x ∷ xs) ys h = are_second xs ys h.1

left : {P Q : Language} {n : ℕ} {ts : List Marked} (h : (P ⊙ Q) n ts) → Are ts → Are h.front
left h a = are_first h.front h.back (subst Are h.cut a)

right : {P Q : Language} {n : ℕ} {ts : List Marked} (h : (P ⊙ Q) n ts) → Are ts → Are h.back
right h a = are_second h.front h.back (subst Are h.cut a)

-- one token of a kind
one_is : {P : Token → Type 0} {n : ℕ} {ts : List Marked} (k : Kind) (h : One P n ts) → h.token.kind ≡ k → Are ts → KindIs k
one_is k h e a = subst KindIs e (subst Are h.is a).0

mutual
  unfolding spelled spelled_list spelled_more HasConstants HaveConstants

  expressions : (e : ExpressionTree) (n : ℕ) (ts : List Marked) → spelled e n ts → Are ts → HasConstants e
  expressions (ast.name x) n ts h a = tt
  expressions (ast.call x es) n ts h a = let i = h.second in lists es _ _ i.first.second (right i.first (left i (right h a)))
  expressions (ast.index x at e) n ts h a = let i = h.second in expressions e _ _ i.first.second (right i.first (left i (right h a)))
  expressions (ast.element x at e column_at c) n ts h a =
      let i = h.second in let j = i.first in let k = i.second in let l = k.second in let m = l.first in let r = right h a in
      (expressions e _ _ j.second (right j (left i r)), expressions c _ _ m.second (right m (left l (right k (right i r)))))
  expressions (ast.constant at t v) n ts h a = one_is _ h h.holds.0 a
  expressions (ast.character at v) n ts h a = one_is _ h h.holds.0 a
  expressions (ast.parenthesized at e) n ts h a = expressions e _ _ h.first.second (right h.first (left h a))
  expressions (ast.postfix o at e) n ts h a = expressions e _ _ h.first (left h a)
  expressions (ast.prefix o at e) n ts h a = expressions e _ _ h.second (right h a)
  expressions (ast.unary o at e) n ts h a = expressions e _ _ h.second (right h a)
  expressions (ast.cast at words e) n ts h a = let i = h.second in let j = i.second in expressions e _ _ j.second (right j (right i (right h a)))
  expressions (ast.binary o at b c) n ts h a = (expressions b _ _ h.first (left h a), expressions c _ _ h.second.second (right h.second (right h a)))
  expressions (ast.conditional at b c d) n ts h a =
      let i = h.second in
      (expressions b _ _ h.first (left h a), expressions c _ _ i.first.second (right i.first (left i (right h a))), expressions d _ _ i.second.second (right i.second (right i (right h a))))
  expressions (ast.assignment o at b c) n ts h a = (expressions b _ _ h.first (left h a), expressions c _ _ h.second.second (right h.second (right h a)))
  expressions (ast.comma at b c) n ts h a = (expressions b _ _ h.first (left h a), expressions c _ _ h.second.second (right h.second (right h a)))

  lists : (es : ExpressionTrees) (n : ℕ) (ts : List Marked) → spelled_list es n ts → Are ts → HaveConstants es
  lists no_expressions n ts h a = tt
  lists (expression_then e es) n ts h a = (expressions e _ _ h.first (left h a), mores es _ _ h.second (right h a))

  mores : (es : ExpressionTrees) (n : ℕ) (ts : List Marked) → spelled_more es n ts → Are ts → HaveConstants es
  mores no_expressions n ts h a = tt
  mores (expression_then e es) n ts h a = let i = h.second in (expressions e _ _ i.first (left i (right h a)), mores es _ _ i.second (right i (right h a)))

optionals : (l : ℕ) (e : Option ExpressionTree) (n : ℕ) (ts : List Marked) → optional l e n ts → Are ts → HasConstantsIf e
optionals l None n ts h a = tt
optionals l (Some e) n ts h a = expressions e n ts h.is a

-- ---- declarations

lengths : (e : Option ExpressionTree) (n : ℕ) (ts : List Marked) → array_length e n ts → Are ts → HasConstantsIf e
lengths None n ts h a = tt
lengths (Some e) n ts h a = expressions e _ _ h.first.second.is (right h.first (left h a))

all_dimensions : (d : Option DimensionsTree) (n : ℕ) (ts : List Marked) → dimensions d n ts → Are ts → DimensionsHave d
all_dimensions None n ts h a = tt
all_dimensions (Some d) n ts h a = (lengths (Some d.length) _ _ h.first (left h a), lengths d.columns _ _ h.second (right h a))

row_both : (e : ExpressionTree) (es : ExpressionTrees) → HaveConstants (expression_then e es) → HasConstants e × HaveConstants es
unfolding HaveConstants
row_both e es h = h

initializer_items : (i : InitializerItemTree) (n : ℕ) (ts : List Marked) → initializer_item i n ts → Are ts → InitializerItemHas i
initializer_items (item_value e) n ts h a = expressions e _ _ h.is a
initializer_items (item_row at e es) n ts h a = let i = h.second in row_both e es (lists (expression_then e es) _ _ i.first.is (left i (right h a)))

all_initializer_items : (is : List InitializerItemTree) (n : ℕ) (ts : List Marked) → more_initializer_items is n ts → Are ts → InitializerItemsHave is
all_initializer_items [] n ts h a = tt
all_initializer_items (x ∷ xs) n ts h a =
    let i = h.second in (initializer_items x _ _ i.first (left i (right h a)), all_initializer_items xs _ _ i.second (right i (right h a)))

initializers : (i : Option InitializerTree) (n : ℕ) (ts : List Marked) → initializer i n ts → Are ts → InitializerHas i
initializers None n ts h a = tt
initializers (Some (single e)) n ts h a = expressions e _ _ h.second.is (right h a)
initializers (Some (braced at is)) n ts h a =
    let i = h.second in let j = i.second in let k = j.first in let b = left j (right i (right h a)) in
    (initializer_items is.first _ _ k.first (left k b), all_initializer_items is.more _ _ k.second (right k b))

declarators : (d : DeclaratorTree) (n : ℕ) (ts : List Marked) → declarator d n ts → Are ts → DeclaratorHas d
declarators d n ts h a = let i = h.second in (all_dimensions d.dimensions _ _ i.first (left i (right h a)), initializers d.initializer _ _ i.second (right i (right h a)))

all_declarators : (ds : List DeclaratorTree) (n : ℕ) (ts : List Marked) → more_declarators ds n ts → Are ts → DeclaratorsHave ds
all_declarators [] n ts h a = tt
all_declarators (d ∷ ds) n ts h a = let i = h.second in (declarators d _ _ i.first (left i (right h a)), all_declarators ds _ _ i.second (right i (right h a)))

named : (e : Option EnumerationTree) (ds : List DeclaratorTree) (n : ℕ) (ts : List Marked) → grammar.declarators e ds n ts → Are ts → DeclaratorsHave ds
named e [] n ts h a = tt
named e (d ∷ ds) n ts h a = (declarators d _ _ h.first (left h a), all_declarators ds _ _ h.second (right h a))

declarations : (d : DeclarationTree) (n : ℕ) (ts : List Marked) → declared d n ts → Are ts → DeclarationHas d
declarations d n ts h a = let i = h.second in named d.enumeration d.declarators _ _ i.first (left i (right h a))

-- ---- statements

tests : (e : ExpressionTree) (n : ℕ) (ts : List Marked) → test e n ts → Are ts → HasConstants e
tests e n ts h a = expressions e _ _ h.first.second.is (right h.first (left h a))

starts : (s : ForStartTree) (n : ℕ) (ts : List Marked) → for_start s n ts → Are ts → StartHas s
starts (declaration d) n ts h a = declarations d n ts h a
starts (expression e) n ts h a = optionals grammar.any_expression e _ _ h.first (left h a)

mutual
  unfolding statement block_items StatementHas ItemsHave

  statements : (s : StatementTree) (n : ℕ) (ts : List Marked) → statement s n ts → Are ts → StatementHas s
  statements (ast.block at is close) n ts h a = items is _ _ h.first.second (right h.first (left h a))
  statements (ast.empty at) n ts h a = tt
  statements (ast.expression_statement e) n ts h a = expressions e _ _ h.first.is (left h a)
  statements (ast.label x s) n ts h a = let i = h.second in statements s _ _ i.second (right i (right h a))
  statements (ast.case at e s) n ts h a = let i = h.second in let j = i.second in (expressions e _ _ i.first.is (left i (right h a)), statements s _ _ j.second (right j (right i (right h a))))
  statements (ast.default at s) n ts h a = let i = h.second in statements s _ _ i.second (right i (right h a))
  statements (ast.if_then at e s) n ts h a = let i = h.second in (tests e _ _ i.first (left i (right h a)), statements s _ _ i.second (right i (right h a)))
  statements (ast.if_else at e s t) n ts h a =
      let i = h.second in let j = i.second in let b = right i (right h a) in
      (tests e _ _ i.first (left i (right h a)), statements s _ _ j.first.is (left j b), statements t _ _ j.second.second (right j.second (right j b)))
  statements (ast.switch at e s) n ts h a = let i = h.second in (tests e _ _ i.first (left i (right h a)), statements s _ _ i.second (right i (right h a)))
  statements (ast.while at e s) n ts h a = let i = h.second in (tests e _ _ i.first (left i (right h a)), statements s _ _ i.second (right i (right h a)))
  statements (ast.do_while at s e) n ts h a =
      let f = h.first in let b = left h a in let i = f.second in let j = i.second in
      (statements s _ _ i.first (left i (right f b)), tests e _ _ j.second (right j (right i (right f b))))
  statements (ast.for_loop at start second third s) n ts h a =
      let i = h.second in let f = i.first in let b = left i (right h a) in let j = f.second in let k = j.second in let l = k.second in let c = right f b in (
        starts start _ _ j.first (left j c),
        optionals grammar.any_expression second _ _ k.first (left k (right j c)),
        optionals grammar.any_expression third _ _ l.second (right l (right k (right j c))),
        statements s _ _ i.second.second (right i.second (right i (right h a))),
      )
  statements (ast.goto at x) n ts h a = tt
  statements (ast.continue at) n ts h a = tt
  statements (ast.break at) n ts h a = tt
  statements (ast.return at e) n ts h a = optionals grammar.any_expression e _ _ h.first.second (right h.first (left h a))

  items : (is : ItemTrees) (n : ℕ) (ts : List Marked) → block_items is n ts → Are ts → ItemsHave is
  items no_items n ts h a = tt
  items (declaration_then s d is) n ts h a =
      let w = h.is in let i = w.second in (declarations d _ _ i.first (left i (right w a)), items is _ _ i.second (right i (right w a)))
  items (statement_then s is) n ts h a = (statements s _ _ h.first (left h a), items is _ _ h.second (right h a))

-- ---- texts

block_items_have : (b : BlockTree) → StatementHas (ast.block b.opened b.items b.closed) → ItemsHave b.items
unfolding StatementHas
block_items_have b h = h

bodies : (b : Option BlockTree) (n : ℕ) (ts : List Marked) → function_end b n ts → Are ts → BlockHas b
bodies None n ts h a = tt
bodies (Some b) n ts h a = block_items_have b (statements (ast.block b.opened b.items b.closed) n ts h a)

one_external : (x : ExternalTree) (n : ℕ) (ts : List Marked) → external x n ts → Are ts → ExternalHas x
one_external (function f) n ts h a =
    let i = h.second in let j = i.second in let k = j.second in let l = k.second in
    bodies f.body _ _ l.second (right l (right k (right j (right i (right h a)))))
one_external (objects s d) n ts h a = declarations d _ _ h.second (right h a)
one_external (type_names d) n ts h a = tt

all_externals : (xs : List ExternalTree) (n : ℕ) (ts : List Marked) → externals xs n ts → Are ts → ExternalsHave xs
all_externals [] n ts h a = tt
all_externals (x ∷ xs) n ts h a = (one_external x _ _ h.first (left h a), all_externals xs _ _ h.second (right h a))

are_tokens : (ms : List Marked) → TokensAre (unmarked ms) → Are ms
are_tokens [] h = tt
are_tokens (m ∷ ms) h = (h.0, are_tokens ms h.1)

pub parsed_have : (xs : List ExternalTree) (ms : List Marked) (ts : List Token) → unmarked ms ≡ ts → text xs 0 ms → TokensAre ts → ExternalsHave xs
parsed_have xs ms ts is h a = all_externals xs _ _ h.first (left h (are_tokens ms (subst TokensAre (sym is) a)))
