-- The loops of the trees that the grammar derives from tokens count no more than the tokens.
use Rattle.std.proofs.Common.{ℕ, ◌+◌, ◌≤◌, List, [], ◌∷◌, ◌++◌, Option, Some, None, subst, sym, ap, arith}
use Rattle.pk_ctypes.specs.declared.places.Pos.{Pos}
use Rattle.pk_lex.specs.declared.token.Kind.{Kind}
use Rattle.pk_lex.specs.declared.token.Token.{Token}
use Rattle.pk_ast.specs.Trees as ast
use Rattle.pk_ast.specs.Trees.{StatementTree, ItemTrees, no_items, declaration_then, statement_then, BlockTree, ExternalTree, function, objects, type_names}
use Rattle.pk_grammar.specs.Languages.{Marked, Language, At, ◌⊙◌}
use Rattle.pk_grammar.specs.Grammar.{statement, block_items, function_end, external, externals}
use Rattle.pk_grammar.specs.Outcomes.{unmarked}
use Rattle.pk_access_laws.specs.Operators.{Counting}
use Rattle.pk_operator_laws.specs.Trees.{in_tokens}
use Rattle.pk_loop_laws.specs.Trees.{statement_loops, item_loops, block_loops, external_loops, all_loops}
use Rattle.pk_loop_laws.specs.Laws.{LoopsAreTheTokens}

abbrev counted : Counting → List Marked → ℕ
counted q ms = in_tokens q (unmarked ms)

both_count : (q : Counting) (xs ys : List Marked) → counted q xs + counted q ys ≤ counted q (xs ++ ys)
both_count q [] ys = omega arith
both_count q (x ∷ xs) ys = omega (arith, both_count q xs ys)

-- both sides of a cut
cut : (q : Counting) {A B : Language} {n : ℕ} {ts : List Marked} (h : (A ⊙ B) n ts) → counted q h.front + counted q h.back ≤ counted q ts
cut q h = subst (λ (ts : List Marked). counted q h.front + counted q h.back ≤ counted q ts) (sym h.cut) (both_count q h.front h.back)

-- the word of a loop at its place
word : (q : Counting) {k : Kind} {n : ℕ} {ts : List Marked} (at : Pos) (h : At k at n ts) → q at ≤ counted q ts
word q {n = n} at h =
    subst (λ (ts : List Marked). q at ≤ counted q ts) (sym h.is) (omega (arith, ap q h.holds.1))

-- ---- statements

mutual
  unfolding statement block_items statement_loops item_loops

  statements : (q : Counting) (s : StatementTree) (n : ℕ) (ts : List Marked) → statement s n ts → statement_loops q s ≤ counted q ts
  statements q (ast.block at is close) n ts h = let i = h.first in omega (arith, cut q h, cut q i, items q is _ _ i.second)
  statements q (ast.empty at) n ts h = omega arith
  statements q (ast.expression_statement e) n ts h = omega arith
  statements q (ast.label x s) n ts h = let i = h.second in omega (arith, cut q h, cut q i, statements q s _ _ i.second)
  statements q (ast.case at e s) n ts h =
      let i = h.second in let j = i.second in omega (arith, cut q h, cut q i, cut q j, statements q s _ _ j.second)
  statements q (ast.default at s) n ts h = let i = h.second in omega (arith, cut q h, cut q i, statements q s _ _ i.second)
  statements q (ast.if_then at e s) n ts h = let i = h.second in omega (arith, cut q h, cut q i, statements q s _ _ i.second)
  statements q (ast.if_else at e s t) n ts h =
      let i = h.second in let j = i.second in let k = j.second in
      omega (arith, cut q h, cut q i, cut q j, cut q k, statements q s _ _ j.first.is, statements q t _ _ k.second)
  statements q (ast.switch at e s) n ts h = let i = h.second in omega (arith, cut q h, cut q i, statements q s _ _ i.second)
  statements q (ast.while at e s) n ts h =
      let i = h.second in omega (arith, cut q h, cut q i, word q at h.first, statements q s _ _ i.second)
  statements q (ast.do_while at s e) n ts h =
      let f = h.first in let i = f.second in
      omega (arith, cut q h, cut q f, cut q i, word q at f.first, statements q s _ _ i.first)
  statements q (ast.for_loop at start second third s) n ts h =
      let i = h.second in let g = i.second in
      omega (arith, cut q h, cut q i, cut q g, word q at h.first, statements q s _ _ g.second)
  statements q (ast.goto at x) n ts h = omega arith
  statements q (ast.continue at) n ts h = omega arith
  statements q (ast.break at) n ts h = omega arith
  statements q (ast.return at e) n ts h = omega arith

  items : (q : Counting) (is : ItemTrees) (n : ℕ) (ts : List Marked) → block_items is n ts → item_loops q is ≤ counted q ts
  items q no_items n ts h = omega arith
  items q (declaration_then s d is) n ts h = let w = h.is in let i = w.second in omega (arith, cut q w, cut q i, items q is _ _ i.second)
  items q (statement_then s is) n ts h = omega (arith, cut q h, statements q s _ _ h.first, items q is _ _ h.second)

-- ---- texts

block_counts : (q : Counting) (b : BlockTree) (n : ℕ) (ts : List Marked) → statement (ast.block b.opened b.items b.closed) n ts → item_loops q b.items ≤ counted q ts
unfolding statement_loops
block_counts q b n ts h = statements q (ast.block b.opened b.items b.closed) n ts h

bodies : (q : Counting) (b : Option BlockTree) (n : ℕ) (ts : List Marked) → function_end b n ts → block_loops q b ≤ counted q ts
bodies q None n ts h = omega arith
bodies q (Some b) n ts h = block_counts q b n ts h

one_external : (q : Counting) (x : ExternalTree) (n : ℕ) (ts : List Marked) → external x n ts → external_loops q x ≤ counted q ts
one_external q (function f) n ts h =
    let i = h.second in let j = i.second in let k = j.second in let l = k.second in
    omega (arith, cut q h, cut q i, cut q j, cut q k, cut q l, bodies q f.body _ _ l.second)
one_external q (objects s d) n ts h = omega arith
one_external q (type_names d) n ts h = omega arith

all_externals : (q : Counting) (xs : List ExternalTree) (n : ℕ) (ts : List Marked) → externals xs n ts → all_loops q xs ≤ counted q ts
all_externals q [] n ts h = omega arith
all_externals q (x ∷ xs) n ts h = omega (arith, cut q h, one_external q x _ _ h.first, all_externals q xs _ _ h.second)

pub loops_are_the_tokens : LoopsAreTheTokens
loops_are_the_tokens tokens xs q p =
    let all : all_loops q xs ≤ counted q p.marked = omega (arith, cut q p.derived, all_externals q xs _ _ p.derived.first) in
    subst (λ (ts : List Token). all_loops q xs ≤ in_tokens q ts) p.tokens_are all
