-- Each statement of the grammar is read, up to any token that doesn't go on with it.
use Rattle.std.proofs.Common.{◌≡◌, ℕ, ◌+◌, ◌≤◌, Option, Some, None, false, List, [], ◌∷◌, ◌++◌, refl, sym, ap, subst, ◌∙◌, arith}
use Rattle.pk_ctypes.specs.declared.places.Pos.{Pos}
use Rattle.pk_lex.specs.declared.token.Token.{Token}
use Rattle.pk_lex.specs.declared.token.Kind.{Kind}
use Rattle.pk_lex.specs.declared.token.Kind.TheVariants as kind
use Rattle.pk_lex.specs.declared.token.Keyword.{Keyword}
use Rattle.pk_lex.specs.declared.token.Keyword.TheVariants as key
use Rattle.pk_lex.specs.declared.token.Punctuator.TheVariants as mark
use Rattle.pk_ast.specs.declared.declarations.Specifier.{Specifier}
use Rattle.pk_ast.specs.declared.expressions.Identifier.{Identifier}
use Rattle.pk_ast.specs.Trees.{OneOrMore, ExpressionTree, EnumerationTree, StatementTree, block, empty, expression_statement, label, case, default, if_then, if_else, switch, while, do_while, for_loop, goto, continue, break, return, ItemTrees, no_items, declaration_then, statement_then}
use Rattle.pk_grammar.specs.declared.states.Testing.{Testing}
use Rattle.pk_grammar.specs.declared.signs.Fixed.TheVariants as fixed
use Rattle.pk_grammar.specs.Languages.{Marked, One, ◌⊙◌, identifier_of}
use Rattle.pk_grammar.specs.Grammar.{Expression, punctuator, words, type_words, OpenEnd, test, optional, statement, block_items}
use Rattle.pk_grammar.specs.Machine.Signs.{is_fixed, specifier_in}
use Rattle.pk_grammar.specs.Machine.States.{Outer, Purpose, as_statement, as_test, as_result, as_whole, State, at_statement, after_statement, test_open, goto_name, returning, statement_end, operand, complete}
use Rattle.pk_grammar.specs.Machine.Steps.{Verdict, taken, reduced, purpose_level, tested, begin_statement, step}
use Rattle.pk_grammar.proofs.SpellsWords.{alone}
use Rattle.pk_grammar.proofs.CompleteLists.{tokens_of, Reads, reads_both, reads_one, reads_none, reads_head, reads_last}
use Rattle.pk_grammar.proofs.CompleteSigns.{Begins, begins, sign_semicolon, sign_close, specifier_no_else}
use Rattle.pk_grammar.proofs.CompleteOperands.{Ends, IsAt, ends_at_sign, same_false}
use Rattle.pk_grammar.proofs.CompleteExpressions.{starts, from_operand, readable, ReadsTo}

-- First tokens

pub record First (P : Kind → Type 0) (ms : List Marked) : Type 0 where
  pub token : Token
  pub nesting : ℕ
  pub more : List Marked
  pub is : ms ≡ record { token = token; nesting = nesting } ∷ more
  pub holds : P token.kind

first_front : {F : Kind → Type 0} {P Q : ℕ → List Marked → Type 0} {n : ℕ} {ts : List Marked} (h : (P ⊙ Q) n ts) → First F h.front → First F ts
first_front h s = record { token = s.token; nesting = s.nesting; more = s.more ++ h.back; is = h.cut ∙ ap (λ ts. ts ++ h.back) s.is; holds = s.holds }

first_one : {F : Kind → Type 0} {P : Token → Type 0} {n : ℕ} {ts : List Marked} (h : One P n ts) (k : Kind) → h.token.kind ≡ k → F k → First F ts
first_one {F} {n = n} h k e f = record { token = h.token; nesting = n; more = []; is = h.is; holds = subst F (sym e) f }

-- a token with which a statement begins
pub record BeginsStatement (k : Kind) : Type 0 where
  pub no_specifier : (from to : ℕ) → specifier_in k from to ≡ None
  pub no_close_brace : is_fixed fixed.CloseBrace k ≡ false
  pub no_else : is_fixed fixed.Else k ≡ false
  pub no_static : is_fixed fixed.Static k ≡ false

pub first_statement : (s : StatementTree) (n : ℕ) (ms : List Marked) → statement s n ms → First BeginsStatement ms
unfolding statement
first_statement (block at items close) n ms h = first_front h (first_front h.first (first_one h.first.first _ h.first.first.holds.0 (record { no_specifier = λ from to. refl; no_close_brace = refl; no_else = refl; no_static = refl })))
first_statement (empty at) n ms h = first_one h _ h.holds.0 (record { no_specifier = λ from to. refl; no_close_brace = refl; no_else = refl; no_static = refl })
first_statement (expression_statement e) n ms h =
    let s = starts e (n + 1) h.front h.first.is in
    let b = begins s.token.kind s.starts in
    first_front h (record { token = s.token; nesting = s.nesting; more = s.more; is = s.is; holds = record { no_specifier = b.no_specifier; no_close_brace = b.no_close_brace; no_else = b.no_else; no_static = b.no_static } })
first_statement (label id s) n ms h = first_front h (first_one h.first _ h.first.holds.0 (record { no_specifier = λ from to. refl; no_close_brace = refl; no_else = refl; no_static = refl }))
first_statement (case at e s) n ms h = first_front h (first_one h.first _ h.first.holds.0 (record { no_specifier = λ from to. refl; no_close_brace = refl; no_else = refl; no_static = refl }))
first_statement (default at s) n ms h = first_front h (first_one h.first _ h.first.holds.0 (record { no_specifier = λ from to. refl; no_close_brace = refl; no_else = refl; no_static = refl }))
first_statement (if_then at e s) n ms h = first_front h (first_one h.first _ h.first.holds.0 (record { no_specifier = λ from to. refl; no_close_brace = refl; no_else = refl; no_static = refl }))
first_statement (if_else at e s t) n ms h = first_front h (first_one h.first _ h.first.holds.0 (record { no_specifier = λ from to. refl; no_close_brace = refl; no_else = refl; no_static = refl }))
first_statement (switch at e s) n ms h = first_front h (first_one h.first _ h.first.holds.0 (record { no_specifier = λ from to. refl; no_close_brace = refl; no_else = refl; no_static = refl }))
first_statement (while at e s) n ms h = first_front h (first_one h.first _ h.first.holds.0 (record { no_specifier = λ from to. refl; no_close_brace = refl; no_else = refl; no_static = refl }))
first_statement (do_while at s e) n ms h = first_front h (first_front h.first (first_one h.first.first _ h.first.first.holds.0 (record { no_specifier = λ from to. refl; no_close_brace = refl; no_else = refl; no_static = refl })))
first_statement (for_loop at start second third s) n ms h = first_front h (first_one h.first _ h.first.holds.0 (record { no_specifier = λ from to. refl; no_close_brace = refl; no_else = refl; no_static = refl }))
first_statement (goto at id) n ms h = first_front h (first_front h.first (first_one h.first.first _ h.first.first.holds.0 (record { no_specifier = λ from to. refl; no_close_brace = refl; no_else = refl; no_static = refl })))
first_statement (continue at) n ms h = first_front h (first_one h.first _ h.first.holds.0 (record { no_specifier = λ from to. refl; no_close_brace = refl; no_else = refl; no_static = refl }))
first_statement (break at) n ms h = first_front h (first_one h.first _ h.first.holds.0 (record { no_specifier = λ from to. refl; no_close_brace = refl; no_else = refl; no_static = refl }))
first_statement (return at e) n ms h = first_front h (first_front h.first (first_one h.first.first _ h.first.first.holds.0 (record { no_specifier = λ from to. refl; no_close_brace = refl; no_else = refl; no_static = refl })))

abbrev pub NoElse : Kind → Type 0
NoElse k = is_fixed fixed.Else k ≡ false

first_words : (specs : OneOrMore Specifier) (n : ℕ) (ms : List Marked) → words specs n ms → First NoElse ms
first_words specs n ms h = first_front h (first_one h.first _ refl (specifier_no_else specs.first.word h.first.token h.first.holds.0))

first_type : (specs : OneOrMore Specifier) (e : Option EnumerationTree) (n : ℕ) (ms : List Marked) → type_words specs e n ms → First NoElse ms
first_type specs None n ms h = first_words specs n ms h.is
first_type specs (Some e) n ms h = first_front h.is (first_words specs n h.is.front h.is.first)

-- the token behind an item of a block
pub record NextToken (ts : List Token) : Type 0 where
  pub token : Token
  pub rest : List Token
  pub is : ts ≡ token ∷ rest
  pub no_else : is_fixed fixed.Else token.kind ≡ false

next_of : {ms : List Marked} (rest : List Token) → First NoElse ms → NextToken (tokens_of ms ++ rest)
next_of rest f = record { token = f.token; rest = tokens_of f.more ++ rest; is = ap (λ ms. tokens_of ms ++ rest) f.is; no_else = f.holds }

pub next_token : (items : ItemTrees) (n : ℕ) (ms : List Marked) (close : Token) (rest : List Token) → block_items items n ms → close.kind ≡ kind.Punctuator mark.CloseBrace →
    NextToken (tokens_of ms ++ close ∷ rest)
unfolding block_items
next_token no_items n ms close rest h e = record { token = close; rest = rest; is = ap (λ ms. tokens_of ms ++ close ∷ rest) h; no_else = subst NoElse (sym e) refl }
next_token (declaration_then None d items) n ms close rest h e =
    let g = alone h.is in next_of (close ∷ rest) (first_front g (first_front g.first (first_type d.specifiers d.enumeration n g.first.front g.first.first)))
next_token (declaration_then (Some at) d items) n ms close rest h e = let g = h.is in next_of (close ∷ rest) (first_front g (first_one g.first _ g.first.holds.0 refl))
next_token (statement_then s items) n ms close rest h e =
    let f = first_statement s n h.front h.first in
    next_of (close ∷ rest) (first_front h (record { token = f.token; nesting = f.nesting; more = f.more; is = f.is; holds = f.holds.no_else }))

-- A statement is read

pub record StatementRead (s : StatementTree) : Type 0 where
  pub reads : (n : ℕ) (o : Outer) (ms : List Marked) (t : Token) (rest : List Token) → statement s n ms → (OpenEnd s → is_fixed fixed.Else t.kind ≡ false) →
      Reads (at_statement n o) ms (after_statement s o) (t ∷ rest)

abbrev pub IsKeyword : Keyword → Pos → Token → Type 0
IsKeyword k at t = (t.kind ≡ kind.Keyword k) × (t.at ≡ at)

-- Expressions in statements

step_statement : (n : ℕ) (o : Outer) (t : Token) → Begins t.kind → step (at_statement n o) t ≡ step (operand (n + 1) (as_whole (as_statement n o))) t
step_statement n o t b = ap (λ f. begin_statement n o t f) b.no_statement

step_expression_end : (m n : ℕ) (o : Outer) (e : ExpressionTree) (t : Token) → t.kind ≡ kind.Punctuator mark.Semicolon →
    step (complete m e (as_whole (as_statement n o))) t ≡ taken n (after_statement (expression_statement e) o)
unfolding reduced
step_expression_end m n o e t is = rw is

pub read_expression_statement : (e : ExpressionTree) → StatementRead (expression_statement e)
unfolding statement
read_expression_statement e = record {
  reads = λ n o ms t rest h f.
      reads_last h.front h.cut h.second
      (from_operand e (n + 1) h.front h.first.is (step_statement n o)
      ((readable e).reads 0 (n + 1) h.front (as_whole (as_statement n o)) h.second.token (t ∷ rest) h.first.fits h.first.is (omega arith)
      (ends_at_sign _ _ h.second.token sign_semicolon h.second.holds (omega arith))))
      (step_expression_end (n + 1) n o e h.second.token h.second.holds);
}

pub two : (n : ℕ) → n + 1 + 1 ≡ n + 2
two n = omega arith

-- an expression in parentheses
pub reads_test : (e : ExpressionTree) (n : ℕ) (s s' : State) (p : Purpose) → purpose_level p ≤ 0 →
    ((t : Token) → t.kind ≡ kind.Punctuator mark.OpenParenthesis → step s t ≡ taken (n + 2) (operand (n + 2) (as_whole p))) →
    ((t : Token) → t.kind ≡ kind.Punctuator mark.CloseParenthesis → step (complete (n + 2) e (as_whole p)) t ≡ taken (n + 1) s') →
    (ms : List Marked) (rest : List Token) → test e (n + 1) ms → Reads s ms s' rest
reads_test e n s s' p level opens closes ms rest h =
    let g : (punctuator mark.OpenParenthesis ⊙ _) (n + 2) h.front = subst (λ k. (punctuator mark.OpenParenthesis ⊙ Expression 0 e) k h.front) (two n) h.first in
    reads_last h.front h.cut h.second
    (reads_head g (opens g.first.token g.first.holds)
    ((readable e).reads 0 (n + 2) g.back (as_whole p) h.second.token rest g.second.fits g.second.is level
    (ends_at_sign _ _ h.second.token sign_close h.second.holds (omega arith))))
    (closes h.second.token h.second.holds)

step_test_end : (k : Testing) (m n : ℕ) (at : Pos) (e : ExpressionTree) (o : Outer) (t : Token) → t.kind ≡ kind.Punctuator mark.CloseParenthesis →
    step (complete m e (as_whole (as_test k n at o))) t ≡ taken (n + 1) (at_statement (n + 1) (tested k n at e o))
unfolding reduced
step_test_end k m n at e o t is = rw is

pub reads_head_test : (k : Testing) (n : ℕ) (at : Pos) (e : ExpressionTree) (o : Outer) (ms : List Marked) (rest : List Token) → test e (n + 1) ms →
    Reads (test_open k n at o) ms (at_statement (n + 1) (tested k n at e o)) rest
reads_head_test k n at e o ms rest h =
    reads_test e n (test_open k n at o) (at_statement (n + 1) (tested k n at e o)) (as_test k n at o) (omega arith)
    (λ t is. rw is) (λ t is. step_test_end k (n + 2) n at e o t is) ms rest h

-- an optional expression, up to a token where the states with it and without it do as V says
pub reads_optional : (e : Option ExpressionTree) (n : ℕ) (s : State) (p : Purpose) (t : Token) (v : Option ExpressionTree → Verdict) → purpose_level p ≤ 0 →
    Ends 0 (as_whole p) t.kind →
    ((t : Token) → Begins t.kind → step s t ≡ step (operand n (as_whole p)) t) → step s t ≡ v None → ((e : ExpressionTree) → step (complete n e (as_whole p)) t ≡ v (Some e)) →
    (ms : List Marked) (rest : List Token) → optional 0 e n ms → ReadsTo s ms t rest (v e)
reads_optional None n s p t v level ends same without with ms rest h = record { state = s; reads = reads_none h; then = without }
reads_optional (Some e) n s p t v level ends same without with ms rest h = record {
  state = complete n e (as_whole p);
  reads = from_operand e n ms h.is same ((readable e).reads 0 n ms (as_whole p) t rest h.fits h.is level ends);
  then = with e;
}

-- Statements without parts

step_empty : (n : ℕ) (o : Outer) (at : Pos) (t : Token) → IsAt mark.Semicolon at t → step (at_statement n o) t ≡ taken (n + 1) (after_statement (empty at) o)
step_empty n o at t e = rw (e.0, e.1)

pub read_empty : (at : Pos) → StatementRead (empty at)
unfolding statement
read_empty at = record { reads = λ n o ms t rest h f. reads_one h (step_empty n o at h.token h.holds) }

pub step_end : (n : ℕ) (s : StatementTree) (o : Outer) (t : Token) → t.kind ≡ kind.Punctuator mark.Semicolon → step (statement_end n s o) t ≡ taken n (after_statement s o)
step_end n s o t e = rw e

step_continue : (n : ℕ) (o : Outer) (at : Pos) (t : Token) → IsKeyword key.Continue at t → step (at_statement n o) t ≡ taken (n + 1) (statement_end n (continue at) o)
step_continue n o at t e = rw (e.0, e.1)

pub read_continue : (at : Pos) → StatementRead (continue at)
unfolding statement
read_continue at = record {
  reads = λ n o ms t rest h f.
      reads_both h (reads_one h.first (step_continue n o at h.first.token h.first.holds)) (reads_one h.second (step_end n (continue at) o h.second.token h.second.holds));
}

step_break : (n : ℕ) (o : Outer) (at : Pos) (t : Token) → IsKeyword key.Break at t → step (at_statement n o) t ≡ taken (n + 1) (statement_end n (break at) o)
step_break n o at t e = rw (e.0, e.1)

pub read_break : (at : Pos) → StatementRead (break at)
unfolding statement
read_break at = record {
  reads = λ n o ms t rest h f.
      reads_both h (reads_one h.first (step_break n o at h.first.token h.first.holds)) (reads_one h.second (step_end n (break at) o h.second.token h.second.holds));
}

step_goto : (n : ℕ) (o : Outer) (at : Pos) (t : Token) → IsKeyword key.Goto at t → step (at_statement n o) t ≡ taken (n + 1) (goto_name n at o)
step_goto n o at t e = rw (e.0, e.1)

step_goto_name : (n : ℕ) (o : Outer) (at : Pos) (id : Identifier) (t : Token) → (t.kind ≡ kind.Name) × (identifier_of t ≡ id) →
    step (goto_name n at o) t ≡ taken (n + 1) (statement_end n (goto at id) o)
step_goto_name n o at id t e = rw e.0 (ap (λ i. taken (n + 1) (statement_end n (goto at i) o)) e.1)

pub read_goto : (at : Pos) (id : Identifier) → StatementRead (goto at id)
unfolding statement
read_goto at id = record {
  reads = λ n o ms t rest h f.
      let g = h.first in
      reads_both h (reads_head g (step_goto n o at g.first.token g.first.holds) (reads_one g.second (step_goto_name n o at id g.second.token g.second.holds)))
      (reads_one h.second (step_end n (goto at id) o h.second.token h.second.holds));
}

step_return : (n : ℕ) (o : Outer) (at : Pos) (t : Token) → IsKeyword key.Return at t → step (at_statement n o) t ≡ taken (n + 1) (returning n at o)
step_return n o at t e = rw (e.0, e.1)

step_result : (n : ℕ) (o : Outer) (at : Pos) (t : Token) → Begins t.kind → step (returning n at o) t ≡ step (operand (n + 1) (as_whole (as_result n at o))) t
step_result n o at t b = same_false (is_fixed fixed.Semicolon t.kind) _ _ b.no_semicolon

step_no_result : (n : ℕ) (o : Outer) (at : Pos) (t : Token) → t.kind ≡ kind.Punctuator mark.Semicolon → step (returning n at o) t ≡ taken n (after_statement (return at None) o)
step_no_result n o at t is = rw is

step_result_end : (m n : ℕ) (o : Outer) (at : Pos) (e : ExpressionTree) (t : Token) → t.kind ≡ kind.Punctuator mark.Semicolon →
    step (complete m e (as_whole (as_result n at o))) t ≡ taken n (after_statement (return at (Some e)) o)
unfolding reduced
step_result_end m n o at e t is = rw is

pub read_return : (at : Pos) (e : Option ExpressionTree) → StatementRead (return at e)
unfolding statement
read_return at e = record {
  reads = λ n o ms t rest h f.
      let g = h.first in
      let k = h.second.token in
      let r = reads_optional e (n + 1) (returning n at o) (as_result n at o) k (λ e. taken n (after_statement (return at e) o)) (omega arith)
      (ends_at_sign _ _ k sign_semicolon h.second.holds (omega arith))
      (step_result n o at) (step_no_result n o at k h.second.holds) (λ e. step_result_end (n + 1) n o at e k h.second.holds) g.back (t ∷ rest) g.second in
      reads_last h.front h.cut h.second (reads_head g (step_return n o at g.first.token g.first.holds) r.reads) r.then;
}
