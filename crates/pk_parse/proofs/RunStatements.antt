-- What is answered within statements: tokens that are waited for, and expressions.
use Rattle.std.proofs.Common.{◌≡◌, ℕ, ◌+◌, ◌<◌, ◌≤◌, List, ◌∷◌, Option, Some, None, true, false, refl, sym, ap, subst, ◌∙◌, arith}
use Rattle.pk_ast.specs.Lists.{one}
use Rattle.pk_ctypes.specs.declared.places.Pos.{Pos}
use Rattle.pk_lex.specs.declared.token.Token.{Token}
use Rattle.pk_ast.specs.declared.declarations.Specifier.{Specifier}
use Rattle.pk_ast.specs.declared.declarations.SpecifierWord.{SpecifierWord}
use Rattle.pk_ast.specs.Trees.{ExpressionTree, ForStartTree, expression, StatementTree, goto, return}
use Rattle.pk_grammar.specs.declared.failure.ParseError.{ParseError}
use Rattle.pk_grammar.specs.declared.failure.ParseError.TheVariants.{Syntax, Nesting}
use Rattle.pk_grammar.specs.declared.signs.Fixed.{Fixed}
use Rattle.pk_grammar.specs.declared.signs.Fixed.TheVariants as fixed
use Rattle.pk_grammar.specs.Languages.{identifier_of}
use Rattle.pk_grammar.specs.Machine.Signs.{is_fixed, operator_of, specifier_word}
use Rattle.pk_grammar.specs.Machine.States.{Outer, in_for, in_a_for, Purpose, as_first, as_second, as_third, as_result, as_whole, State, after_specifiers, at_statement, after_statement, for_first, for_second, for_third, goto_name, returning, statement_end, operand, complete}
use Rattle.pk_grammar.specs.Machine.Steps.{taken, wanted, reduced, go_on, purpose_level, end_purpose, begin_for, specifier_at, step}
use Rattle.pk_grammar.specs.Machine.Running.{first_of_all, run, Fails}
use Rattle.pk_parse_expression.specs.Parsing.{Begins, BeginsWithWord, follows, EndsAt, UpTo, Reads, Refuses}
use Rattle.pk_grammar.proofs.CompleteOperands.{same_false, same_true}
use Rattle.pk_parse_expression.proofs.RunLemmas.{run_takes, run_deep, run_refused, run_alike, first_is, fails_as, fails_syntax, fails_nesting}
use Rattle.pk_parse_expression.proofs.RunOperators.{ends_other}
use Rattle.pk_parse.specs.Parts.{IsOptional, IsTest}

-- a token of one kind alone is waited for
module _ (end : Token) (s : State) (ts : List Token) (f : Fixed) (n : ℕ) (next : Token → State) where
  pub run_wanted : (t : Token) (rest : List Token) → Begins f ts t rest → step s (first_of_all end ts) ≡ wanted f (first_of_all end ts) (taken n (next (first_of_all end ts))) → n ≤ 128 →
      run end s ts ≡ run end (next t) rest
  run_wanted t rest b e h =
      let P : Token → Type 0 = λ q. step s q ≡ wanted f q (taken n (next q)) in
      run_takes end s ts t rest n (next t) b.cut (subst P (first_is end ts t rest b.cut) e ∙ same_true (is_fixed f t.kind) _ _ b.is) h

  pub deep_wanted : (t : Token) (rest : List Token) (x : ParseError) → Begins f ts t rest → step s (first_of_all end ts) ≡ wanted f (first_of_all end ts) (taken n (next (first_of_all end ts))) → 128 < n →
      x ≡ Nesting t.at → Fails (run end s ts) x
  deep_wanted t rest x b e h g =
      let P : Token → Type 0 = λ q. step s q ≡ wanted f q (taken n (next q)) in
      fails_nesting _ x t.at g (run_deep end s ts t rest n (next t) b.cut (subst P (first_is end ts t rest b.cut) e ∙ same_true (is_fixed f t.kind) _ _ b.is) h)

  pub fails_wanted : (x : ParseError) → step s (first_of_all end ts) ≡ wanted f (first_of_all end ts) (taken n (next (first_of_all end ts))) →
      (is_fixed f (first_of_all end ts).kind ≡ false) × (x ≡ Syntax (first_of_all end ts).at) → Fails (run end s ts) x
  fails_wanted x e g =
      let t = first_of_all end ts in
      fails_syntax _ x t.at g.1 (run_refused end s ts (e ∙ same_false (is_fixed f t.kind) _ _ g.0))

-- an expression ends that isn't part of another one
pub step_ends : (m : ℕ) (e : ExpressionTree) (p : Purpose) (t : Token) → follows (operator_of t.kind) ≤ 0 → step (complete m e (as_whole p)) t ≡ end_purpose p e t
unfolding reduced
step_ends m e p t h = ap (λ q. go_on m e (as_whole p) t q) (ends_other _ h)

-- An expression in parentheses

module _ (end : Token) (n : ℕ) (ts : List Token) (s : State) (p : Purpose) (next : ExpressionTree → State) (i : IsTest s p n next) where
  pub unopened_test : (x : ParseError) → (is_fixed fixed.OpenParenthesis (first_of_all end ts).kind ≡ false) × (x ≡ Syntax (first_of_all end ts).at) → Fails (run end s ts) x
  unopened_test x g = fails_wanted end s ts fixed.OpenParenthesis (n + 1) (λ t. operand (n + 1) (as_whole p)) x (i.opens _) g

  pub deep_test : (t : Token) (after : List Token) (x : ParseError) → Begins fixed.OpenParenthesis ts t after → (x ≡ Nesting t.at) × (128 < n + 1) → Fails (run end s ts) x
  deep_test t after x b g = deep_wanted end s ts fixed.OpenParenthesis (n + 1) (λ t. operand (n + 1) (as_whole p)) t after x b (i.opens _) g.1 g.0

  module _ (t : Token) (after : List Token) (inside : ℕ) (b : Begins fixed.OpenParenthesis ts t after) (h : (inside ≡ n + 1) × (inside ≤ 128)) where
    opens_test : run end s ts ≡ run end (operand inside (as_whole p)) after
    opens_test =
        run_wanted end s ts fixed.OpenParenthesis (n + 1) (λ t. operand (n + 1) (as_whole p)) t after b (i.opens _) (omega arith)
        ∙ ap (λ q. run end (operand q (as_whole p)) after) (sym h.0)

    pub fails_test : (x : ParseError) → Refuses end (UpTo 0) (λ c. operand inside c) after x → Fails (run end s ts) x
    fails_test x r = fails_as _ _ x opens_test (r (as_whole p) (omega (arith, i.level)))

    module _ (e : ExpressionTree) (rest : List Token) (r : Reads end (UpTo 0) (λ c. operand inside c) inside after e rest) (ends : EndsAt end 0 rest) where
      reads_inner : run end s ts ≡ run end (complete inside e (as_whole p)) rest
      reads_inner = opens_test ∙ r (as_whole p) (omega (arith, i.level))

      pub unclosed_test : (x : ParseError) → (is_fixed fixed.CloseParenthesis (first_of_all end rest).kind ≡ false) × (x ≡ Syntax (first_of_all end rest).at) → Fails (run end s ts) x
      unclosed_test x g = fails_as _ _ x reads_inner (fails_wanted end (complete inside e (as_whole p)) rest fixed.CloseParenthesis n (λ t. next e) x (step_ends inside e p _ ends ∙ i.closes e _) g)

      pub reads_test : (c : Token) (last : List Token) → Begins fixed.CloseParenthesis rest c last → run end s ts ≡ run end (next e) last
      reads_test c last d =
          reads_inner ∙ run_wanted end (complete inside e (as_whole p)) rest fixed.CloseParenthesis n (λ t. next e) c last d (step_ends inside e p _ ends ∙ i.closes e _) (omega arith)

-- An expression, or none

-- from this state, at this token, an expression is read or none, and leads to the next one
pub record IsPart (s : State) (n : ℕ) (p : Purpose) (close : Fixed) (m : ℕ) (next : Option ExpressionTree → State) (t : Token) : Type 0 where
  pub level : purpose_level p ≡ 0
  pub limit : m ≤ 128
  pub without : is_fixed close t.kind ≡ true → step s t ≡ taken m (next None)
  pub given : is_fixed close t.kind ≡ false → step s t ≡ step (operand n (as_whole p)) t
  pub closes : (e : ExpressionTree) (t : Token) → end_purpose p e t ≡ wanted close t (taken m (next (Some e)))

module _ (end : Token) (ts : List Token) (s : State) (n : ℕ) (p : Purpose) (close : Fixed) (m : ℕ) (next : Option ExpressionTree → State) (i : IsPart s n p close m next (first_of_all end ts)) where
  pub fails_part : (x : ParseError) → (is_fixed close (first_of_all end ts).kind ≡ false) × Refuses end (UpTo 0) (λ c. operand n c) ts x → Fails (run end s ts) x
  fails_part x g = fails_as _ _ x (run_alike end s (operand n (as_whole p)) ts (i.given g.0)) (g.1 (as_whole p) (omega (arith, i.level)))

  pub reads_part : (e : Option ExpressionTree) (rest : List Token) (t : Token) (last : List Token) → IsOptional end n close ts e rest → Begins close rest t last → run end s ts ≡ run end (next e) last
  reads_part None rest t last o b =
      let cut : ts ≡ t ∷ last = sym o.0 ∙ b.cut in
      run_takes end s ts t last m (next None) cut (subst (λ q. step s q ≡ taken m (next None)) (first_is end ts t last cut) (i.without o.1)) i.limit
  reads_part (Some e) rest t last o b =
      run_alike end s (operand n (as_whole p)) ts (i.given o.0)
      ∙ o.1 (as_whole p) (omega (arith, i.level))
      ∙ run_wanted end (complete n e (as_whole p)) rest close m (λ t. next (Some e)) t last b (step_ends n e p _ o.2 ∙ i.closes e _) i.limit

  pub unclosed_part : (e : Option ExpressionTree) (rest : List Token) (x : ParseError) → IsOptional end n close ts e rest →
      (is_fixed close (first_of_all end rest).kind ≡ false) × (x ≡ Syntax (first_of_all end rest).at) → Fails (run end s ts) x
  unclosed_part None rest x o g =
      let f : true ≡ false = sym o.1 ∙ ap (λ q. is_fixed close (first_of_all end q).kind) (sym o.0) ∙ g.0 in
      absurd (cc)
  unclosed_part (Some e) rest x o g =
      fails_as _ _ x
      (run_alike end s (operand n (as_whole p)) ts (i.given o.0) ∙ o.1 (as_whole p) (omega (arith, i.level)))
      (fails_wanted end (complete n e (as_whole p)) rest close m (λ t. next (Some e)) x (step_ends n e p _ o.2 ∙ i.closes e _) g)

module _ (n : ℕ) (at : Pos) (o : Outer) (t : Token) (inside : ℕ) where
  pub result_part : inside ≡ n + 1 → inside ≤ 128 → IsPart (returning n at o) inside (as_result n at o) fixed.Semicolon n (λ v. after_statement (return at v) o) t
  result_part e h = record {
    level = refl;
    limit = omega arith;
    without = λ f. same_true (is_fixed fixed.Semicolon t.kind) _ _ f;
    given = λ f. same_false (is_fixed fixed.Semicolon t.kind) _ _ f ∙ ap (λ q. step (operand q (as_whole (as_result n at o))) t) (sym e);
    closes = λ e t. refl;
  }

  pub first_part : inside ≡ n + 2 → inside ≤ 128 → specifier_word t ≡ None → IsPart (for_first n at o) inside (as_first n at o) fixed.Semicolon (n + 2) (λ v. for_second n at (expression v) o) t
  first_part e h w = record {
    level = refl;
    limit = omega arith;
    without = λ f. ap (λ q. begin_for n at o t q) w ∙ same_true (is_fixed fixed.Semicolon t.kind) _ _ f;
    given = λ f. ap (λ q. begin_for n at o t q) w ∙ same_false (is_fixed fixed.Semicolon t.kind) _ _ f ∙ ap (λ q. step (operand q (as_whole (as_first n at o))) t) (sym e);
    closes = λ e t. refl;
  }

  pub second_part : (f : ForStartTree) → inside ≡ n + 2 → inside ≤ 128 → IsPart (for_second n at f o) inside (as_second n at f o) fixed.Semicolon (n + 2) (λ v. for_third n at f v o) t
  second_part f e h = record {
    level = refl;
    limit = omega arith;
    without = λ f. same_true (is_fixed fixed.Semicolon t.kind) _ _ f;
    given = λ g. same_false (is_fixed fixed.Semicolon t.kind) _ _ g ∙ ap (λ q. step (operand q (as_whole (as_second n at f o))) t) (sym e);
    closes = λ e t. refl;
  }

  pub third_part : (f : ForStartTree) (second : Option ExpressionTree) → inside ≡ n + 2 → inside ≤ 128 →
      IsPart (for_third n at f second o) inside (as_third n at f second o) fixed.CloseParenthesis (n + 1) (λ v. at_statement (n + 1) (in_for n at f second v o)) t
  third_part f second e h = record {
    level = refl;
    limit = omega arith;
    without = λ f. same_true (is_fixed fixed.CloseParenthesis t.kind) _ _ f;
    given = λ g. same_false (is_fixed fixed.CloseParenthesis t.kind) _ _ g ∙ ap (λ q. step (operand q (as_whole (as_third n at f second o))) t) (sym e);
    closes = λ e t. refl;
  }

-- the first word of a declaration
pub run_word : (end : Token) (s : State) (ts : List Token) (word : Specifier) (rest : List Token) (n : ℕ) (next : Specifier → State) → BeginsWithWord specifier_word ts word rest →
    ((t : Token) (w : SpecifierWord) → specifier_word t ≡ Some w → step s t ≡ taken n (next (specifier_at t w))) → n ≤ 128 → run end s ts ≡ run end (next word) rest
run_word end s ts word rest n next b steps h =
    run_takes end s ts b.token rest n (next (specifier_at b.token b.word)) b.cut (steps b.token b.word b.is) h
    ∙ ap (λ q. run end (next q) rest) (sym b.specifier)

pub run_for_word : (end : Token) (n : ℕ) (at : Pos) (o : Outer) (ts : List Token) (word : Specifier) (rest : List Token) → BeginsWithWord specifier_word ts word rest → n + 2 ≤ 128 →
    run end (for_first n at o) ts ≡ run end (after_specifiers (in_a_for n at o) (one word)) rest
run_for_word end n at o ts word rest b h =
    run_word end (for_first n at o) ts word rest (n + 2) (λ q. after_specifiers (in_a_for n at o) (one q)) b (λ t w e. ap (λ q. begin_for n at o t q) e) h

-- the last `;` of a statement
pub run_statement_end : (end : Token) (n : ℕ) (s : StatementTree) (o : Outer) (ts : List Token) (t : Token) (rest : List Token) → Begins fixed.Semicolon ts t rest → n ≤ 128 →
    run end (statement_end n s o) ts ≡ run end (after_statement s o) rest
run_statement_end end n s o ts t rest b h = run_wanted end (statement_end n s o) ts fixed.Semicolon n (λ t. after_statement s o) t rest b refl h

pub no_statement_end : (end : Token) (n : ℕ) (s : StatementTree) (o : Outer) (ts : List Token) (x : ParseError) →
    (is_fixed fixed.Semicolon (first_of_all end ts).kind ≡ false) × (x ≡ Syntax (first_of_all end ts).at) → Fails (run end (statement_end n s o) ts) x
no_statement_end end n s o ts x g = fails_wanted end (statement_end n s o) ts fixed.Semicolon n (λ t. after_statement s o) x refl g

pub run_goto_name : (end : Token) (n : ℕ) (at : Pos) (o : Outer) (ts : List Token) (t : Token) (rest : List Token) → Begins fixed.Name ts t rest → n + 1 ≤ 128 →
    run end (goto_name n at o) ts ≡ run end (statement_end n (goto at (identifier_of t)) o) rest
run_goto_name end n at o ts t rest b h = run_wanted end (goto_name n at o) ts fixed.Name (n + 1) (λ t. statement_end n (goto at (identifier_of t)) o) t rest b refl h

pub no_goto_name : (end : Token) (n : ℕ) (at : Pos) (o : Outer) (ts : List Token) (x : ParseError) →
    (is_fixed fixed.Name (first_of_all end ts).kind ≡ false) × (x ≡ Syntax (first_of_all end ts).at) → Fails (run end (goto_name n at o) ts) x
no_goto_name end n at o ts x g = fails_wanted end (goto_name n at o) ts fixed.Name (n + 1) (λ t. statement_end n (goto at (identifier_of t)) o) x refl g
