-- Each statement of the grammar is read: those that have statements in them.
use Rattle.std.proofs.Common.{◌≡◌, ℕ, ◌+◌, Option, Some, None, false, List, ◌∷◌, ◌++◌, refl, sym, ap, subst, ◌∙◌, arith, append_assoc}
use Rattle.pk_ctypes.specs.declared.places.Pos.{Pos}
use Rattle.pk_lex.specs.declared.token.Token.{Token}
use Rattle.pk_lex.specs.declared.token.Kind.TheVariants as kind
use Rattle.pk_lex.specs.declared.token.Keyword.TheVariants as key
use Rattle.pk_lex.specs.declared.token.Punctuator.TheVariants as mark
use Rattle.pk_ast.specs.declared.declarations.SpecifierWord.{SpecifierWord}
use Rattle.pk_ast.specs.declared.expressions.Identifier.{Identifier}
use Rattle.pk_ast.specs.Trees.{ExpressionTree, DeclarationTree, ForStartTree, declaration, expression, StatementTree, block, empty, expression_statement, label, case, default, if_then, if_else, switch, while, do_while, for_loop, goto, continue, break, return, ItemTrees, no_items, declaration_then, statement_then, ParameterTree}
use Rattle.pk_ast.specs.Lists.{one}
use Rattle.pk_grammar.specs.declared.states.Testing.TheVariants as testing
use Rattle.pk_grammar.specs.declared.signs.Fixed.TheVariants as fixed
use Rattle.pk_grammar.specs.Languages.{Marked, ◌⊙◌, identifier_of}
use Rattle.pk_grammar.specs.Grammar.{punctuator, keyword, HasName, declared, for_start, optional, statement, block_items}
use Rattle.pk_grammar.specs.Machine.Signs.{is_fixed, specifier_word, specifier_in}
use Rattle.pk_grammar.specs.Machine.States.{Head, OpenBlock, function_block, inner_block, Outer, in_block, in_label, in_case, in_default, in_if, in_else, in_switch, in_while, in_do, in_for, in_a_block, in_a_for, as_statement, as_label, as_last_test, as_first, as_second, as_third, as_whole, State, after_specifiers, block_item, after_static, at_statement, after_statement, test_open, do_open, for_open, for_first, for_second, for_third, default_colon, statement_end, operand, named, complete}
use Rattle.pk_grammar.specs.Machine.Steps.{taken, reduced, specifier_at, block_nesting, with_statement, with_declaration, one_more_statement, one_more_declaration, declaration_or_statement, begin_static, end_block, begin_for, resume, step}
use Rattle.pk_grammar.proofs.SpellsWords.{alone}
use Rattle.pk_grammar.proofs.CompleteLists.{tokens_of, Reads, reads_join, reads_both, reads_none, reads_from, reads_to, reads_head, reads_sign, reads_last}
use Rattle.pk_grammar.proofs.CompleteSigns.{Begins, sign_semicolon, sign_close}
use Rattle.pk_grammar.proofs.CompleteOperands.{IsAt, ends_at_sign, ends_at_colon, same_false, same_true}
use Rattle.pk_grammar.proofs.CompleteExpressions.{readable, ReadsTo}
use Rattle.pk_grammar.proofs.CompleteDeclarations.{TakesType, reads_declared}
use Rattle.pk_grammar.proofs.CompleteStatements.{BeginsStatement, first_statement, next_token, StatementRead, IsKeyword, read_expression_statement, two, reads_test, reads_head_test, reads_optional, read_empty, read_continue, read_break, read_goto, read_return, step_end}

-- Labels

step_label : (n : ℕ) (o : Outer) (id : Identifier) (t : Token) → (t.kind ≡ kind.Name) × (identifier_of t ≡ id) →
    step (at_statement n o) t ≡ taken (n + 1) (named (n + 1) id (as_whole (as_statement n o)))
step_label n o id t e = rw e.0 (ap (λ i. taken (n + 1) (named (n + 1) i (as_whole (as_statement n o)))) e.1)

step_label_colon : (n : ℕ) (o : Outer) (id : Identifier) (t : Token) → t.kind ≡ kind.Punctuator mark.Colon →
    step (named (n + 1) id (as_whole (as_statement n o))) t ≡ taken (n + 1) (at_statement (n + 1) (in_label n id o))
unfolding reduced
step_label_colon n o id t e = rw e

read_label : (id : Identifier) (s : StatementTree) → StatementRead s → StatementRead (label id s)
unfolding statement resume
read_label id s r = record {
  reads = λ n o ms t rest h f.
      let g = h.second in
      reads_head h (step_label n o id h.first.token h.first.holds)
      (reads_head g (step_label_colon n o id g.first.token g.first.holds)
      (reads_to t rest (r.reads (n + 1) (in_label n id o) g.back t rest g.second f) refl));
}

step_case : (n : ℕ) (o : Outer) (at : Pos) (t : Token) → IsKeyword key.Case at t → step (at_statement n o) t ≡ taken (n + 1) (operand (n + 1) (as_whole (as_label n at o)))
step_case n o at t e = rw (e.0, e.1)

step_case_colon : (m n : ℕ) (o : Outer) (at : Pos) (e : ExpressionTree) (t : Token) → t.kind ≡ kind.Punctuator mark.Colon →
    step (complete m e (as_whole (as_label n at o))) t ≡ taken (n + 1) (at_statement (n + 1) (in_case n at e o))
unfolding reduced
step_case_colon m n o at e t is = rw is

read_case : (at : Pos) (e : ExpressionTree) (s : StatementTree) → StatementRead s → StatementRead (case at e s)
unfolding statement resume
read_case at e s r = record {
  reads = λ n o ms t rest h f.
      let g = h.second in
      let k = g.second in
      let c = k.first.token in
      reads_head h (step_case n o at h.first.token h.first.holds)
      (reads_sign g.front g.cut k
      ((readable e).reads 2 (n + 1) g.front (as_whole (as_label n at o)) c (tokens_of k.back ++ t ∷ rest) g.first.fits g.first.is (omega arith)
      (ends_at_colon c k.first.holds))
      (step_case_colon (n + 1) n o at e c k.first.holds)
      (reads_to t rest (r.reads (n + 1) (in_case n at e o) k.back t rest k.second f) refl));
}

step_default : (n : ℕ) (o : Outer) (at : Pos) (t : Token) → IsKeyword key.Default at t → step (at_statement n o) t ≡ taken (n + 1) (default_colon n at o)
step_default n o at t e = rw (e.0, e.1)

step_default_colon : (n : ℕ) (o : Outer) (at : Pos) (t : Token) → t.kind ≡ kind.Punctuator mark.Colon →
    step (default_colon n at o) t ≡ taken (n + 1) (at_statement (n + 1) (in_default n at o))
step_default_colon n o at t e = rw e

read_default : (at : Pos) (s : StatementTree) → StatementRead s → StatementRead (default at s)
unfolding statement resume
read_default at s r = record {
  reads = λ n o ms t rest h f.
      let g = h.second in
      reads_head h (step_default n o at h.first.token h.first.holds)
      (reads_head g (step_default_colon n o at g.first.token g.first.holds)
      (reads_to t rest (r.reads (n + 1) (in_default n at o) g.back t rest g.second f) refl));
}

-- Tests

step_if : (n : ℕ) (o : Outer) (at : Pos) (t : Token) → IsKeyword key.If at t → step (at_statement n o) t ≡ taken (n + 1) (test_open testing.If n at o)
step_if n o at t e = rw (e.0, e.1)

step_switch : (n : ℕ) (o : Outer) (at : Pos) (t : Token) → IsKeyword key.Switch at t → step (at_statement n o) t ≡ taken (n + 1) (test_open testing.Switch n at o)
step_switch n o at t e = rw (e.0, e.1)

step_while : (n : ℕ) (o : Outer) (at : Pos) (t : Token) → IsKeyword key.While at t → step (at_statement n o) t ≡ taken (n + 1) (test_open testing.While n at o)
step_while n o at t e = rw (e.0, e.1)

read_switch : (at : Pos) (e : ExpressionTree) (s : StatementTree) → StatementRead s → StatementRead (switch at e s)
unfolding statement resume
read_switch at e s r = record {
  reads = λ n o ms t rest h f.
      let g = h.second in
      reads_head h (step_switch n o at h.first.token h.first.holds)
      (reads_both g (reads_head_test testing.Switch n at e o g.front (tokens_of g.back ++ t ∷ rest) g.first)
      (reads_to t rest (r.reads (n + 1) (in_switch n at e o) g.back t rest g.second f) refl));
}

read_while : (at : Pos) (e : ExpressionTree) (s : StatementTree) → StatementRead s → StatementRead (while at e s)
unfolding statement resume
read_while at e s r = record {
  reads = λ n o ms t rest h f.
      let g = h.second in
      reads_head h (step_while n o at h.first.token h.first.holds)
      (reads_both g (reads_head_test testing.While n at e o g.front (tokens_of g.back ++ t ∷ rest) g.first)
      (reads_to t rest (r.reads (n + 1) (in_while n at e o) g.back t rest g.second f) refl));
}

resume_if : (n : ℕ) (at : Pos) (e : ExpressionTree) (s : StatementTree) (o : Outer) (t : Token) → is_fixed fixed.Else t.kind ≡ false →
    step (after_statement s (in_if n at e o)) t ≡ step (after_statement (if_then at e s) o) t
unfolding resume
resume_if n at e s o t h = same_false (is_fixed fixed.Else t.kind) _ _ h

read_if : (at : Pos) (e : ExpressionTree) (s : StatementTree) → StatementRead s → StatementRead (if_then at e s)
unfolding statement
read_if at e s r = record {
  reads = λ n o ms t rest h f.
      let g = h.second in
      reads_head h (step_if n o at h.first.token h.first.holds)
      (reads_both g (reads_head_test testing.If n at e o g.front (tokens_of g.back ++ t ∷ rest) g.first)
      (reads_to t rest (r.reads (n + 1) (in_if n at e o) g.back t rest g.second (λ u. f tt)) (resume_if n at e s o t (f tt))));
}

step_else : (n : ℕ) (at : Pos) (e : ExpressionTree) (s : StatementTree) (o : Outer) (t : Token) → t.kind ≡ kind.Keyword key.Else →
    step (after_statement s (in_if n at e o)) t ≡ taken (n + 2) (at_statement (n + 2) (in_else n at e s o))
unfolding resume
step_else n at e s o t is = rw is

read_if_else : (at : Pos) (e : ExpressionTree) (s u : StatementTree) → StatementRead s → StatementRead u → StatementRead (if_else at e s u)
unfolding statement resume
read_if_else at e s u r q = record {
  reads = λ n o ms t rest h f.
      let g = h.second in
      let k = g.second in
      let l : (keyword key.Else ⊙ statement u) (n + 2) k.back = subst (λ m. (keyword key.Else ⊙ statement u) m k.back) (two n) k.second in
      reads_head h (step_if n o at h.first.token h.first.holds)
      (reads_both g (reads_head_test testing.If n at e o g.front (tokens_of g.back ++ t ∷ rest) g.first)
      (reads_sign k.front k.cut l
      (r.reads (n + 1) (in_if n at e o) k.front l.first.token (tokens_of l.back ++ t ∷ rest) k.first.is (λ w. absurd (k.first.holds w)))
      (step_else n at e s o l.first.token l.first.holds)
      (reads_to t rest (q.reads (n + 2) (in_else n at e s o) l.back t rest l.second f) refl)));
}

-- Loops

step_do : (n : ℕ) (o : Outer) (at : Pos) (t : Token) → IsKeyword key.Do at t → step (at_statement n o) t ≡ taken (n + 1) (at_statement (n + 1) (in_do n at o))
step_do n o at t e = rw (e.0, e.1)

step_do_while : (n : ℕ) (at : Pos) (s : StatementTree) (o : Outer) (t : Token) → t.kind ≡ kind.Keyword key.While →
    step (after_statement s (in_do n at o)) t ≡ taken (n + 1) (do_open n at s o)
unfolding resume
step_do_while n at s o t is = rw is

while_no_else : (t : Token) → t.kind ≡ kind.Keyword key.While → is_fixed fixed.Else t.kind ≡ false
while_no_else t e = rw e

step_last_test : (m n : ℕ) (at : Pos) (s : StatementTree) (e : ExpressionTree) (o : Outer) (t : Token) → t.kind ≡ kind.Punctuator mark.CloseParenthesis →
    step (complete m e (as_whole (as_last_test n at s o))) t ≡ taken (n + 1) (statement_end n (do_while at s e) o)
unfolding reduced
step_last_test m n at s e o t is = rw is

read_do_while : (at : Pos) (s : StatementTree) (e : ExpressionTree) → StatementRead s → StatementRead (do_while at s e)
unfolding statement
read_do_while at s e r = record {
  reads = λ n o ms t rest h f.
      let d = h.first in
      let g = d.second in
      let k = g.second in
      let w = k.first.token in
      reads_last h.front h.cut h.second
      (reads_head d (step_do n o at d.first.token d.first.holds)
      (reads_sign g.front g.cut k
      (r.reads (n + 1) (in_do n at o) g.front w (tokens_of k.back ++ h.second.token ∷ t ∷ rest) g.first (λ u. while_no_else w k.first.holds))
      (step_do_while n at s o w k.first.holds)
      (reads_test e n (do_open n at s o) (statement_end n (do_while at s e) o) (as_last_test n at s o) (omega arith)
      (λ t is. rw is) (λ t is. step_last_test (n + 2) n at s e o t is) k.back (h.second.token ∷ t ∷ rest) k.second)))
      (step_end n (do_while at s e) o h.second.token h.second.holds);
}

step_for : (n : ℕ) (o : Outer) (at : Pos) (t : Token) → IsKeyword key.For at t → step (at_statement n o) t ≡ taken (n + 1) (for_open n at o)
step_for n o at t e = rw (e.0, e.1)

step_for_open : (n : ℕ) (o : Outer) (at : Pos) (t : Token) → t.kind ≡ kind.Punctuator mark.OpenParenthesis → step (for_open n at o) t ≡ taken (n + 2) (for_first n at o)
step_for_open n o at t e = rw e

step_for_declaration : (n : ℕ) (o : Outer) (at : Pos) (t : Token) (w : SpecifierWord) → specifier_word t ≡ Some w →
    step (for_first n at o) t ≡ taken (n + 2) (after_specifiers (in_a_for n at o) (one (specifier_at t w)))
step_for_declaration n o at t w e = ap (λ w. begin_for n at o t w) e

step_first : (n : ℕ) (o : Outer) (at : Pos) (t : Token) → Begins t.kind → step (for_first n at o) t ≡ step (operand (n + 2) (as_whole (as_first n at o))) t
step_first n o at t b = ap (λ w. begin_for n at o t w) (b.no_specifier t.start t.end) ∙ same_false (is_fixed fixed.Semicolon t.kind) _ _ b.no_semicolon

step_no_first : (n : ℕ) (o : Outer) (at : Pos) (t : Token) → t.kind ≡ kind.Punctuator mark.Semicolon → step (for_first n at o) t ≡ taken (n + 2) (for_second n at (expression None) o)
step_no_first n o at t is = rw is

step_first_end : (m n : ℕ) (o : Outer) (at : Pos) (e : ExpressionTree) (t : Token) → t.kind ≡ kind.Punctuator mark.Semicolon →
    step (complete m e (as_whole (as_first n at o))) t ≡ taken (n + 2) (for_second n at (expression (Some e)) o)
unfolding reduced
step_first_end m n o at e t is = rw is

reads_for_start : (n : ℕ) (at : Pos) (start : ForStartTree) (o : Outer) (ms : List Marked) (rest : List Token) → for_start start (n + 2) ms → Reads (for_first n at o) ms (for_second n at start o) rest
reads_for_start n at (declaration d) o ms rest h = reads_declared (in_a_for n at o) (for_first n at o) (step_for_declaration n o at) d rest ms tt h
reads_for_start n at (expression e) o ms rest h =
    let k = h.second.token in
    let r = reads_optional e (n + 2) (for_first n at o) (as_first n at o) k (λ e. taken (n + 2) (for_second n at (expression e) o)) (omega arith)
    (ends_at_sign _ _ k sign_semicolon h.second.holds (omega arith))
    (step_first n o at) (step_no_first n o at k h.second.holds) (λ e. step_first_end (n + 2) n o at e k h.second.holds) h.front rest h.first in
    reads_last h.front h.cut h.second r.reads r.then

step_second : (n : ℕ) (at : Pos) (f : ForStartTree) (o : Outer) (t : Token) → Begins t.kind → step (for_second n at f o) t ≡ step (operand (n + 2) (as_whole (as_second n at f o))) t
step_second n at f o t b = same_false (is_fixed fixed.Semicolon t.kind) _ _ b.no_semicolon

step_no_second : (n : ℕ) (at : Pos) (f : ForStartTree) (o : Outer) (t : Token) → t.kind ≡ kind.Punctuator mark.Semicolon → step (for_second n at f o) t ≡ taken (n + 2) (for_third n at f None o)
step_no_second n at f o t is = rw is

step_second_end : (m n : ℕ) (at : Pos) (f : ForStartTree) (e : ExpressionTree) (o : Outer) (t : Token) → t.kind ≡ kind.Punctuator mark.Semicolon →
    step (complete m e (as_whole (as_second n at f o))) t ≡ taken (n + 2) (for_third n at f (Some e) o)
unfolding reduced
step_second_end m n at f e o t is = rw is

step_third : (n : ℕ) (at : Pos) (f : ForStartTree) (second : Option ExpressionTree) (o : Outer) (t : Token) → Begins t.kind →
    step (for_third n at f second o) t ≡ step (operand (n + 2) (as_whole (as_third n at f second o))) t
step_third n at f second o t b = same_false (is_fixed fixed.CloseParenthesis t.kind) _ _ b.no_close

step_no_third : (n : ℕ) (at : Pos) (f : ForStartTree) (second : Option ExpressionTree) (o : Outer) (t : Token) → t.kind ≡ kind.Punctuator mark.CloseParenthesis →
    step (for_third n at f second o) t ≡ taken (n + 1) (at_statement (n + 1) (in_for n at f second None o))
step_no_third n at f second o t is = rw is

step_third_end : (m n : ℕ) (at : Pos) (f : ForStartTree) (second : Option ExpressionTree) (e : ExpressionTree) (o : Outer) (t : Token) → t.kind ≡ kind.Punctuator mark.CloseParenthesis →
    step (complete m e (as_whole (as_third n at f second o))) t ≡ taken (n + 1) (at_statement (n + 1) (in_for n at f second (Some e) o))
unfolding reduced
step_third_end m n at f second e o t is = rw is

-- what stands in a `for`'s parentheses, and the closing one
abbrev ForHead : ForStartTree → Option ExpressionTree → Option ExpressionTree → ℕ → List Marked → Type 0
ForHead start second third = punctuator mark.OpenParenthesis ⊙ for_start start ⊙ optional 0 second ⊙ punctuator mark.Semicolon ⊙ optional 0 third

reads_for_head : (n : ℕ) (at : Pos) (start : ForStartTree) (second third : Option ExpressionTree) (o : Outer) (ts front back : List Marked) (rest : List Token) → ts ≡ front ++ back →
    ForHead start second third (n + 2) front → punctuator mark.CloseParenthesis (n + 1) back → Reads (for_open n at o) ts (at_statement (n + 1) (in_for n at start second third o)) rest
reads_for_head n at start second third o ts front back rest cut h close =
    let a = h.second in
    let b = a.second in
    let s = b.second in
    let k = s.first.token in
    let c = close.token in
    let third_read = reads_optional third (n + 2) (for_third n at start second o) (as_third n at start second o) c (λ e. taken (n + 1) (at_statement (n + 1) (in_for n at start second e o)))
    (omega arith) (ends_at_sign _ _ c sign_close close.holds (omega arith))
    (step_third n at start second o) (step_no_third n at start second o c close.holds) (λ e. step_third_end (n + 2) n at start second e o c close.holds) s.back rest s.second in
    let second_read = reads_optional second (n + 2) (for_second n at start o) (as_second n at start o) k (λ e. taken (n + 2) (for_third n at start e o))
    (omega arith) (ends_at_sign _ _ k sign_semicolon s.first.holds (omega arith))
    (step_second n at start o) (step_no_second n at start o k s.first.holds) (λ e. step_second_end (n + 2) n at start e o k s.first.holds) b.front (tokens_of s.back ++ c ∷ rest) b.first in
    reads_last front cut close
    (reads_head h (step_for_open n o at h.first.token h.first.holds)
    (reads_both a (reads_for_start n at start o a.front (tokens_of a.back ++ c ∷ rest) a.first)
    (reads_sign b.front b.cut s second_read.reads second_read.then third_read.reads)))
    third_read.then

read_for : (at : Pos) (start : ForStartTree) (second third : Option ExpressionTree) (s : StatementTree) → StatementRead s → StatementRead (for_loop at start second third s)
unfolding statement resume
read_for at start second third s r = record {
  reads = λ n o ms t rest h f.
      let g = h.second in
      let k = g.second in
      let head : ForHead start second third (n + 2) g.front = subst (λ m. ForHead start second third m g.front) (two n) g.first in
      reads_head h (step_for n o at h.first.token h.first.holds)
      (subst (λ ts. Reads (for_open n at o) ts (after_statement (for_loop at start second third s) o) (t ∷ rest)) (sym (g.cut ∙ ap (λ b. g.front ++ b) k.cut ∙ sym (append_assoc g.front k.front k.back)))
      (reads_join (g.front ++ k.front) k.back
      (reads_for_head n at start second third o (g.front ++ k.front) g.front k.front (tokens_of k.back ++ t ∷ rest) refl head k.first)
      (reads_to t rest (r.reads (n + 1) (in_for n at start second third o) k.back t rest k.second f) refl)));
}

-- Blocks

nesting_declaration : (b : OpenBlock) (s : Option Pos) (d : DeclarationTree) → block_nesting (with_declaration b s d) ≡ block_nesting b
nesting_declaration (function_block h ps at items) s d = refl
nesting_declaration (inner_block n at items o) s d = refl

nesting_statement : (b : OpenBlock) (s : StatementTree) → block_nesting (with_statement b s) ≡ block_nesting b
nesting_statement (function_block h ps at items) s = refl
nesting_statement (inner_block n at items o) s = refl

-- a block with these items too
abbrev pub filled : OpenBlock → ItemTrees → OpenBlock
filled b no_items = b
filled b (declaration_then s d items) = filled (with_declaration b s d) items
filled b (statement_then s items) = filled (with_statement b s) items

pub record ItemsRead (items : ItemTrees) : Type 0 where
  pub reads : (b : OpenBlock) (q : State) → ((t : Token) → step q t ≡ step (block_item b) t) → (ms : List Marked) (close : Token) (rest : List Token) →
      block_items items (block_nesting b) ms → close.kind ≡ kind.Punctuator mark.CloseBrace → ReadsTo q ms close rest (end_block (filled b items) close)

step_close : (b : OpenBlock) (t : Token) → t.kind ≡ kind.Punctuator mark.CloseBrace → step (block_item b) t ≡ end_block b t
step_close b t e = ap (λ k. declaration_or_statement b t (specifier_in k t.start t.end)) e ∙ same_true (is_fixed fixed.CloseBrace t.kind) _ _ (ap (λ k. is_fixed fixed.CloseBrace k) e)

read_no_items : ItemsRead no_items
unfolding block_items
read_no_items = record { reads = λ b q same ms close rest h e. record { state = q; reads = reads_none h; then = same close ∙ step_close b close e } }

step_declaration : (b : OpenBlock) (t : Token) (w : SpecifierWord) → specifier_word t ≡ Some w → step (block_item b) t ≡ taken (block_nesting b) (after_specifiers (in_a_block b None) (one (specifier_at t w)))
step_declaration b t w e = ap (λ w. declaration_or_statement b t w) e

pub step_static : (b : OpenBlock) (at : Pos) (t : Token) → IsKeyword key.Static at t → step (block_item b) t ≡ taken (block_nesting b) (after_static b at)
step_static b at t e = rw (e.0, e.1)

read_declared_then : (s : Option Pos) (d : DeclarationTree) (items : ItemTrees) → ItemsRead items → (b : OpenBlock) (q : State) → TakesType q (in_a_block b s) →
    (ms : List Marked) (close : Token) (rest : List Token) → HasName s d.declarators → (declared d ⊙ block_items items) (block_nesting b) ms → close.kind ≡ kind.Punctuator mark.CloseBrace →
    ReadsTo q ms close rest (end_block (filled b (declaration_then s d items)) close)
read_declared_then s d items r b q takes ms close rest may h e =
    let g : block_items items (block_nesting (with_declaration b s d)) h.back = subst (λ n. block_items items n h.back) (sym (nesting_declaration b s d)) h.second in
    let k = r.reads (with_declaration b s d) (block_item (with_declaration b s d)) (λ t. refl) h.back close rest g e in
    record {
      state = k.state;
      reads = reads_both h (reads_declared (in_a_block b s) q takes d (tokens_of h.back ++ close ∷ rest) h.front may h.first) k.reads;
      then = k.then;
    }

read_declaration_then : (s : Option Pos) (d : DeclarationTree) (items : ItemTrees) → ItemsRead items → ItemsRead (declaration_then s d items)
unfolding block_items
read_declaration_then None d items r = record {
  reads = λ b q same ms close rest h e. read_declared_then None d items r b q (λ t w f. same t ∙ step_declaration b t w f) ms close rest h.holds (alone h.is) e;
}
read_declaration_then (Some at) d items r = record {
  reads = λ b q same ms close rest h e.
      let g = h.is in
      let t = g.first.token in
      let k = read_declared_then (Some at) d items r b (after_static b at) (λ t w f. ap (λ o. begin_static b at t o) f) g.back close rest h.holds g.second e in
      record { state = k.state; reads = reads_head g (same t ∙ step_static b at t g.first.holds) k.reads; then = k.then };
}

step_item_statement : (b : OpenBlock) (t : Token) → BeginsStatement t.kind → step (block_item b) t ≡ step (at_statement (block_nesting b) (in_block b)) t
step_item_statement b t h = ap (λ w. declaration_or_statement b t w) (h.no_specifier t.start t.end) ∙ same_false (is_fixed fixed.CloseBrace t.kind) _ _ h.no_close_brace
    ∙ same_false (is_fixed fixed.Static t.kind) _ _ h.no_static

from_statement : (s : StatementTree) (n : ℕ) (ms : List Marked) {q q' r : State} {rest : List Token} → statement s n ms → ((t : Token) → BeginsStatement t.kind → step q t ≡ step q' t) →
    Reads q' ms r rest → Reads q ms r rest
from_statement s n ms {q} {q'} {r} {rest} h same g =
    let f = first_statement s n ms h in
    subst (λ ms. Reads q ms r rest) (sym f.is) (reads_from f.token f.nesting f.more (same f.token f.holds) (subst (λ ms. Reads q' ms r rest) f.is g))

resume_block : (s : StatementTree) (b : OpenBlock) (t : Token) → step (after_statement s (in_block b)) t ≡ step (block_item (with_statement b s)) t
unfolding resume
resume_block s b t = refl

read_statement_then : (s : StatementTree) (items : ItemTrees) → StatementRead s → ItemsRead items → ItemsRead (statement_then s items)
unfolding block_items
read_statement_then s items rs r = record {
  reads = λ b q same ms close rest h e.
      let g : block_items items (block_nesting (with_statement b s)) h.back = subst (λ n. block_items items n h.back) (sym (nesting_statement b s)) h.second in
      let k = r.reads (with_statement b s) (after_statement s (in_block b)) (resume_block s b) h.back close rest g e in
      let next = next_token items (block_nesting b) h.back close rest h.second e in
      record {
        state = k.state;
        reads = reads_both h
            (from_statement s (block_nesting b) h.front h.first (λ t f. same t ∙ step_item_statement b t f)
            (subst (λ ts. Reads (at_statement (block_nesting b) (in_block b)) h.front (after_statement s (in_block b)) ts) (sym next.is)
            (rs.reads (block_nesting b) (in_block b) h.front next.token next.rest h.first (λ u. next.no_else))))
            k.reads;
        then = k.then;
      };
}

abbrev append_items : ItemTrees → ItemTrees → ItemTrees
append_items no_items items = items
append_items (declaration_then s d done) items = declaration_then s d (append_items done items)
append_items (statement_then s done) items = statement_then s (append_items done items)

append_declaration : (done : ItemTrees) (s : Option Pos) (d : DeclarationTree) (items : ItemTrees) → append_items (one_more_declaration done s d) items ≡ append_items done (declaration_then s d items)
append_declaration no_items s d items = refl
append_declaration (declaration_then p c done) s d items = ap (λ q. declaration_then p c q) (append_declaration done s d items)
append_declaration (statement_then r done) s d items = ap (λ q. statement_then r q) (append_declaration done s d items)

append_statement : (done : ItemTrees) (s : StatementTree) (items : ItemTrees) → append_items (one_more_statement done s) items ≡ append_items done (statement_then s items)
append_statement no_items s items = refl
append_statement (declaration_then p c done) s items = ap (λ q. declaration_then p c q) (append_statement done s items)
append_statement (statement_then r done) s items = ap (λ q. statement_then r q) (append_statement done s items)

append_no_items : (done : ItemTrees) → done ≡ append_items done no_items
append_no_items no_items = refl
append_no_items (declaration_then p c done) = ap (λ q. declaration_then p c q) (append_no_items done)
append_no_items (statement_then r done) = ap (λ q. statement_then r q) (append_no_items done)

filled_inner : (items done : ItemTrees) (n : ℕ) (at : Pos) (o : Outer) → filled (inner_block n at done o) items ≡ inner_block n at (append_items done items) o
filled_inner no_items done n at o = ap (λ q. inner_block n at q o) (append_no_items done)
filled_inner (declaration_then s d items) done n at o = filled_inner items (one_more_declaration done s d) n at o ∙ ap (λ q. inner_block n at q o) (append_declaration done s d items)
filled_inner (statement_then s items) done n at o = filled_inner items (one_more_statement done s) n at o ∙ ap (λ q. inner_block n at q o) (append_statement done s items)

pub filled_function : (items done : ItemTrees) (h : Head) (ps : List ParameterTree) (at : Pos) → filled (function_block h ps at done) items ≡ function_block h ps at (append_items done items)
filled_function no_items done h ps at = ap (λ q. function_block h ps at q) (append_no_items done)
filled_function (declaration_then s d items) done h ps at = filled_function items (one_more_declaration done s d) h ps at ∙ ap (λ q. function_block h ps at q) (append_declaration done s d items)
filled_function (statement_then s items) done h ps at = filled_function items (one_more_statement done s) h ps at ∙ ap (λ q. function_block h ps at q) (append_statement done s items)

step_block : (n : ℕ) (o : Outer) (at : Pos) (t : Token) → IsAt mark.OpenBrace at t → step (at_statement n o) t ≡ taken (n + 1) (block_item (inner_block n at no_items o))
step_block n o at t e = rw (e.0, e.1)

read_block : (at : Pos) (items : ItemTrees) (close : Pos) → ItemsRead items → StatementRead (block at items close)
unfolding statement
read_block at items close r = record {
  reads = λ n o ms t rest h f.
      let g = h.first in
      let c = h.second.token in
      let k = r.reads (inner_block n at no_items o) (block_item (inner_block n at no_items o)) (λ t. refl) g.back c (t ∷ rest) g.second h.second.holds.0 in
      reads_last h.front h.cut h.second (reads_head g (step_block n o at g.first.token g.first.holds) k.reads)
      (k.then ∙ ap (λ b. end_block b c) (filled_inner items no_items n at o) ∙ ap (λ p. taken n (after_statement (block at items p) o)) h.second.holds.1);
}

-- Every statement

mutual
  pub statement_read : (s : StatementTree) → StatementRead s
  statement_read (block at items close) = read_block at items close (items_read items)
  statement_read (empty at) = read_empty at
  statement_read (expression_statement e) = read_expression_statement e
  statement_read (label id s) = read_label id s (statement_read s)
  statement_read (case at e s) = read_case at e s (statement_read s)
  statement_read (default at s) = read_default at s (statement_read s)
  statement_read (if_then at e s) = read_if at e s (statement_read s)
  statement_read (if_else at e s t) = read_if_else at e s t (statement_read s) (statement_read t)
  statement_read (switch at e s) = read_switch at e s (statement_read s)
  statement_read (while at e s) = read_while at e s (statement_read s)
  statement_read (do_while at s e) = read_do_while at s e (statement_read s)
  statement_read (for_loop at start second third s) = read_for at start second third s (statement_read s)
  statement_read (goto at id) = read_goto at id
  statement_read (continue at) = read_continue at
  statement_read (break at) = read_break at
  statement_read (return at e) = read_return at e

  pub items_read : (items : ItemTrees) → ItemsRead items
  items_read no_items = read_no_items
  items_read (declaration_then s d items) = read_declaration_then s d items (items_read items)
  items_read (statement_then s items) = read_statement_then s items (statement_read s) (items_read items)
