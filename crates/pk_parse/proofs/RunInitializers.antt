-- What is answered within initializers, token by token.
use Rattle.std.proofs.Common.{◌≡◌, ℕ, ◌≤◌, List, [], Some, Bool, true, false, refl, sym, ap, ◌∙◌, arith}
use Rattle.pk_ctypes.specs.declared.places.Pos.{Pos}
use Rattle.pk_lex.specs.declared.token.Token.{Token}
use Rattle.pk_lex.specs.declared.token.Kind.{Kind}
use Rattle.pk_lex.specs.declared.token.Kind.TheVariants as kind
use Rattle.pk_lex.specs.declared.token.Punctuator.TheVariants as mark
use Rattle.pk_ast.specs.Trees.{ExpressionTree, ExpressionTrees, no_expressions, expression_then, item_value, item_row, single}
use Rattle.pk_grammar.specs.declared.signs.Fixed.TheVariants as fixed
use Rattle.pk_grammar.specs.declared.signs.Operator.{Operator}
use Rattle.pk_grammar.specs.declared.signs.Operator.TheVariants as operator
use Rattle.pk_grammar.specs.Machine.Signs.{is_fixed, operator_of}
use Rattle.pk_grammar.specs.Machine.States.{Context, Naming, Initializing, Initialized, as_value, as_item, as_row_item, as_whole, after_assign, at_initializer_item, at_row_item, after_item, after_initializer, operand, complete}
use Rattle.pk_grammar.specs.Machine.Steps.{taken, refused, reduced, go_on, naming_nesting, initializing_nesting, with_initializer, with_item, after_declarator, at_item_end, end_items, first_item, more_items, one_more, step}
use Rattle.pk_grammar.specs.Machine.Running.{syntax, first_of_all, run}
use Rattle.pk_grammar.proofs.CompleteSigns.{strength_least}
use Rattle.pk_grammar.proofs.CompleteOperands.{same_false, same_true}
use Rattle.pk_grammar.proofs.CompleteInitializers.{step_next_item, step_close_initializer, step_last_item, step_row, step_close_row, step_row_comma, step_last_row_item}
use Rattle.pk_grammar.proofs.SpellsSigns.{is_this}
use Rattle.pk_parse_expression.specs.Parsing.{Begins, follows, EndsAt}
use Rattle.pk_parse_expression.proofs.RunLemmas.{run_takes, run_refused, run_alike}
use Rattle.pk_parse_expression.proofs.RunOperators.{operator_kind, ends_other, follows_no_comma}
use Rattle.pk_parse.specs.Parts.{initializer_open, goes_on_initializing, items_state}

-- A value without braces

no_comma_after : (k : Kind) (o : Operator) → operator_of k ≡ o → o ≡ operator.Other → is_fixed fixed.Comma k ≡ false
no_comma_after k o e f = by_comma (is_fixed fixed.Comma k) refl
  where
    by_comma : (b : Bool) → is_fixed fixed.Comma k ≡ b → is_fixed fixed.Comma k ≡ false
    by_comma true g = let h : k ≡ kind.Punctuator mark.Comma = is_this fixed.Comma k g in let x : operator.Comma ≡ operator.Other = sym (ap operator_of h) ∙ e ∙ f in absurd (cc)
    by_comma false g = g

-- an object's value ends as the object does
same_value : (o : Operator) (m : ℕ) (e : ExpressionTree) (d : Naming) (t : Token) → operator_of t.kind ≡ o → follows o ≤ 1 →
    go_on m e (as_whole (as_value d)) t o ≡ after_declarator (with_initializer d (Some (single e))) t
unfolding reduced
same_value (operator.Step o) m e d t is h = absurd (omega arith)
same_value (operator.Binary o) m e d t is h = absurd (omega (arith, strength_least o))
same_value operator.Question m e d t is h = absurd (omega arith)
same_value (operator.Assignment o) m e d t is h = absurd (omega arith)
same_value operator.Comma m e d t is h = let k : t.kind ≡ kind.Punctuator mark.Comma = operator_kind operator.Comma t.kind is in sym (rw k)
same_value operator.Other m e d t is h = sym (same_false (is_fixed fixed.Comma t.kind) _ _ (no_comma_after t.kind _ is refl))

-- and an item's as the item does
same_item : (o : Operator) (m : ℕ) (e : ExpressionTree) (d : Initializing) (t : Token) → operator_of t.kind ≡ o → follows o ≤ 1 →
    go_on m e (as_whole (as_item d)) t o ≡ at_item_end (with_item d (item_value e)) t
unfolding reduced
same_item (operator.Step o) m e d t is h = absurd (omega arith)
same_item (operator.Binary o) m e d t is h = absurd (omega (arith, strength_least o))
same_item operator.Question m e d t is h = absurd (omega arith)
same_item (operator.Assignment o) m e d t is h = absurd (omega arith)
same_item operator.Comma m e d t is h = let k : t.kind ≡ kind.Punctuator mark.Comma = operator_kind operator.Comma t.kind is in sym (rw k)
same_item operator.Other m e d t is h = sym (same_false (is_fixed fixed.Comma t.kind) _ _ (no_comma_after t.kind _ is refl))

step_brace : (d : Naming) (t : Token) → t.kind ≡ kind.Punctuator mark.OpenBrace → step (after_assign d) t ≡ taken (naming_nesting d) (at_initializer_item (initializer_open d t.at))
step_brace d t e = rw e

module _ (end : Token) (d : Naming) (ts : List Token) where
  pub run_braced : (t : Token) (rest : List Token) → Begins fixed.OpenBrace ts t rest → naming_nesting d ≤ 128 → run end (after_assign d) ts ≡ run end (at_initializer_item (initializer_open d t.at)) rest
  run_braced t rest b h = run_takes end (after_assign d) ts t rest _ _ b.cut (step_brace d t (is_this fixed.OpenBrace t.kind b.is)) h

  pub run_value : is_fixed fixed.OpenBrace (first_of_all end ts).kind ≡ false → run end (after_assign d) ts ≡ run end (operand (naming_nesting d) (as_whole (as_value d))) ts
  run_value f = let t = first_of_all end ts in run_alike end _ _ ts (same_false (is_fixed fixed.OpenBrace t.kind) _ _ f)

  pub run_value_end : (m : ℕ) (e : ExpressionTree) → EndsAt end 1 ts → run end (complete m e (as_whole (as_value d))) ts ≡ run end (after_initializer (with_initializer d (Some (single e)))) ts
  run_value_end m e h = let t = first_of_all end ts in run_alike end _ _ ts (same_value (operator_of t.kind) m e d t refl h)

-- Where an item may come

no_operand : (n : ℕ) (c : Context) (t : Token) → t.kind ≡ kind.Punctuator mark.CloseBrace → step (operand n c) t ≡ refused
no_operand n c t k = rw k

-- a value comes
same_operand : (d : Initializing) (t : Token) (b : Bool) → is_fixed fixed.CloseBrace t.kind ≡ b → is_fixed fixed.OpenBrace t.kind ≡ false → (is_fixed fixed.CloseBrace t.kind ≡ true → d.items ≡ []) →
    step (at_initializer_item d) t ≡ step (operand (initializing_nesting d) (as_whole (as_item d))) t
same_operand d t true e f h =
    same_false (is_fixed fixed.OpenBrace t.kind) _ _ f ∙ same_true (is_fixed fixed.CloseBrace t.kind) _ _ e ∙ ap (λ q. end_items d.naming d.brace q) (h e)
    ∙ sym (no_operand (initializing_nesting d) (as_whole (as_item d)) t (is_this fixed.CloseBrace t.kind e))
same_operand d t false e f h = same_false (is_fixed fixed.OpenBrace t.kind) _ _ f ∙ same_false (is_fixed fixed.CloseBrace t.kind) _ _ e

same_row_operand : (d : Initializing) (at : Pos) (t : Token) (b : Bool) → is_fixed fixed.CloseBrace t.kind ≡ b →
    step (at_row_item d at no_expressions) t ≡ step (operand (initializing_nesting d) (as_whole (as_row_item d at no_expressions))) t
same_row_operand d at t true e =
    same_true (is_fixed fixed.CloseBrace t.kind) _ _ e ∙ sym (no_operand (initializing_nesting d) (as_whole (as_row_item d at no_expressions)) t (is_this fixed.CloseBrace t.kind e))
same_row_operand d at t false e = same_false (is_fixed fixed.CloseBrace t.kind) _ _ e

module _ (end : Token) (d : Initializing) (ts : List Token) where
  pub run_row : (t : Token) (rest : List Token) → Begins fixed.OpenBrace ts t rest → initializing_nesting d ≤ 128 → run end (at_initializer_item d) ts ≡ run end (at_row_item d t.at no_expressions) rest
  run_row t rest b h = run_takes end (at_initializer_item d) ts t rest _ _ b.cut (step_row d t t.at (is_this fixed.OpenBrace t.kind b.is, refl)) h

  pub run_item : is_fixed fixed.OpenBrace (first_of_all end ts).kind ≡ false → (is_fixed fixed.CloseBrace (first_of_all end ts).kind ≡ true → d.items ≡ []) →
      run end (at_initializer_item d) ts ≡ run end (operand (initializing_nesting d) (as_whole (as_item d))) ts
  run_item f h = let t = first_of_all end ts in run_alike end _ _ ts (same_operand d t (is_fixed fixed.CloseBrace t.kind) refl f h)

  pub run_item_end : (m : ℕ) (e : ExpressionTree) → EndsAt end 1 ts → run end (complete m e (as_whole (as_item d))) ts ≡ run end (after_item (with_item d (item_value e))) ts
  run_item_end m e h = let t = first_of_all end ts in run_alike end _ _ ts (same_item (operator_of t.kind) m e d t refl h)

  pub run_first_value : (at : Pos) → run end (at_row_item d at no_expressions) ts ≡ run end (operand (initializing_nesting d) (as_whole (as_row_item d at no_expressions))) ts
  run_first_value at = let t = first_of_all end ts in run_alike end _ _ ts (same_row_operand d at t (is_fixed fixed.CloseBrace t.kind) refl)

-- Behind an item

module _ (end : Token) (d : Initialized) (ts : List Token) where
  pub run_close : (t : Token) (rest : List Token) → Begins fixed.CloseBrace ts t rest → naming_nesting d.naming ≤ 128 → run end (after_item d) ts ≡ run end (items_state false d) rest
  run_close t rest b h = run_takes end (after_item d) ts t rest _ _ b.cut (step_close_initializer d t (is_this fixed.CloseBrace t.kind b.is)) h

  pub run_next : (t : Token) (rest : List Token) → Begins fixed.Comma ts t rest → naming_nesting d.naming ≤ 128 → run end (after_item d) ts ≡ run end (items_state true d) rest
  run_next t rest b h = run_takes end (after_item d) ts t rest _ _ b.cut (step_next_item d t (is_this fixed.Comma t.kind b.is)) h

  pub no_next : is_fixed fixed.CloseBrace (first_of_all end ts).kind ≡ false → is_fixed fixed.Comma (first_of_all end ts).kind ≡ false → run end (after_item d) ts ≡ syntax (first_of_all end ts).at
  no_next f g = let t = first_of_all end ts in run_refused end _ ts (same_false (is_fixed fixed.Comma t.kind) _ _ g ∙ same_false (is_fixed fixed.CloseBrace t.kind) _ _ f)

  pub run_last_comma : (t : Token) (rest : List Token) → Begins fixed.CloseBrace ts t rest → naming_nesting d.naming ≤ 128 → run end (at_initializer_item (goes_on_initializing d)) ts ≡ run end (items_state false d) rest
  run_last_comma t rest b h =
      run_takes end (at_initializer_item (goes_on_initializing d)) ts t rest _ _ b.cut (step_last_item d.naming d.brace d.items t (is_this fixed.CloseBrace t.kind b.is)) h

-- Behind a value of a row

module _ (end : Token) (d : Initializing) (at : Pos) (es : ExpressionTrees) (ts : List Token) where
  pub run_row_close : (m : ℕ) (e : ExpressionTree) (t : Token) (rest : List Token) → Begins fixed.CloseBrace ts t rest → initializing_nesting d ≤ 128 →
      run end (complete m e (as_whole (as_row_item d at es))) ts ≡ run end (after_item (with_item d (item_row at (first_item es e) (more_items es e)))) rest
  run_row_close m e t rest b h = run_takes end (complete m e (as_whole (as_row_item d at es))) ts t rest _ _ b.cut (step_close_row m e d at es t (is_this fixed.CloseBrace t.kind b.is)) h

  pub run_row_comma : (m : ℕ) (e : ExpressionTree) (t : Token) (rest : List Token) → Begins fixed.Comma ts t rest → initializing_nesting d ≤ 128 →
      run end (complete m e (as_whole (as_row_item d at es))) ts ≡ run end (at_row_item d at (one_more es e)) rest
  run_row_comma m e t rest b h = run_takes end (complete m e (as_whole (as_row_item d at es))) ts t rest _ _ b.cut (step_row_comma m e d at es t (is_this fixed.Comma t.kind b.is)) h

  pub no_row_end : (m : ℕ) (e : ExpressionTree) → EndsAt end 1 ts → is_fixed fixed.CloseBrace (first_of_all end ts).kind ≡ false → is_fixed fixed.Comma (first_of_all end ts).kind ≡ false →
      run end (complete m e (as_whole (as_row_item d at es))) ts ≡ syntax (first_of_all end ts).at
  unfolding reduced
  no_row_end m e h f g =
      let t = first_of_all end ts in
      run_refused end _ ts (ap (λ o. go_on m e (as_whole (as_row_item d at es)) t o) (ends_other _ (follows_no_comma t.kind g h)) ∙ same_false (is_fixed fixed.CloseBrace t.kind) _ _ f)

module _ (end : Token) (d : Initializing) (at : Pos) (e : ExpressionTree) (es : ExpressionTrees) (ts : List Token) where
  pub run_row_last : (t : Token) (rest : List Token) → Begins fixed.CloseBrace ts t rest → initializing_nesting d ≤ 128 →
      run end (at_row_item d at (expression_then e es)) ts ≡ run end (after_item (with_item d (item_row at e es))) rest
  run_row_last t rest b h = run_takes end (at_row_item d at (expression_then e es)) ts t rest _ _ b.cut (step_last_row_item d at (expression_then e es) t (is_this fixed.CloseBrace t.kind b.is)) h

  pub run_row_next : is_fixed fixed.CloseBrace (first_of_all end ts).kind ≡ false →
      run end (at_row_item d at (expression_then e es)) ts ≡ run end (operand (initializing_nesting d) (as_whole (as_row_item d at (expression_then e es)))) ts
  run_row_next f = let t = first_of_all end ts in run_alike end _ _ ts (same_false (is_fixed fixed.CloseBrace t.kind) _ _ f)
