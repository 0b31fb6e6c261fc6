-- What is answered within enumerations, token by token.
use Rattle.std.proofs.Common.{◌≡◌, ℕ, ◌≤◌, List, [], ◌∷◌, Option, Some, None, Bool, true, false, refl, sym, ap, ◌∙◌, arith}
use Rattle.pk_lex.specs.declared.token.Token.{Token}
use Rattle.pk_lex.specs.declared.token.Kind.TheVariants as kind
use Rattle.pk_lex.specs.declared.token.Punctuator.TheVariants as mark
use Rattle.pk_ast.specs.declared.declarations.Specifier.{Specifier}
use Rattle.pk_ast.specs.declared.declarations.SpecifierWord.TheVariants as word
use Rattle.pk_ast.specs.declared.expressions.Identifier.{Identifier}
use Rattle.pk_ast.specs.Trees.{OneOrMore, ExpressionTree, EnumeratorTree, EnumerationTree}
use Rattle.pk_grammar.specs.declared.signs.Fixed.TheVariants as fixed
use Rattle.pk_grammar.specs.declared.signs.Operator.{Operator}
use Rattle.pk_grammar.specs.declared.signs.Operator.TheVariants as operator
use Rattle.pk_grammar.specs.Languages.{identifier_of}
use Rattle.pk_grammar.specs.Machine.Signs.{is_fixed, operator_of}
use Rattle.pk_grammar.specs.Machine.States.{EnumerationSite, in_declaration, in_typedef, Enumerating, Enumerated, as_enumerator, as_whole, at_enumerator, after_enumerator_name, after_braces, operand}
use Rattle.pk_grammar.specs.Machine.Steps.{taken, refused, reduced, is_unary, go_on, end_braces, enumeration_nesting, enumerating_nesting, with_enumerator, with_qualifier, specifier_at, may_open, step}
use Rattle.pk_grammar.specs.Machine.Running.{syntax, first_of_all, run}
use Rattle.pk_grammar.proofs.CompleteSigns.{strength_least}
use Rattle.pk_grammar.proofs.CompleteOperands.{same_false}
use Rattle.pk_grammar.proofs.CompleteEnumerations.{step_open_braces, step_open_type_braces, step_enumerator, step_last_enumerator, step_enumerator_value, step_qualifier}
use Rattle.pk_grammar.proofs.SpellsSigns.{is_this}
use Rattle.pk_parse_expression.specs.Parsing.{Begins, follows}
use Rattle.pk_parse_expression.proofs.RunLemmas.{run_takes, run_refused}
use Rattle.pk_parse_expression.proofs.RunOperands.{same_both}
use Rattle.pk_parse_expression.proofs.RunOperators.{operator_kind}
use Rattle.pk_parse.specs.Parts.{words_state, braces_open, CanEnumerate, value_state, EndsValue, goes_on_enumerating, enumerated}

-- An enumerator's name, and its value

refused_braces : (s : EnumerationSite) (specs : OneOrMore Specifier) (xs : List EnumeratorTree) (t : Token) (b : Bool) → is_fixed fixed.CloseBrace t.kind ≡ b → (is_fixed fixed.CloseBrace t.kind ≡ true → xs ≡ []) →
    end_braces s specs xs t ≡ refused
refused_braces s specs [] t b e h = refl
refused_braces s specs (x ∷ xs) t true e h = let f = h e in absurd (cc)
refused_braces s specs (x ∷ xs) t false e h = same_false (is_fixed fixed.CloseBrace t.kind) _ _ e

module _ (end : Token) (d : Enumerating) (ts : List Token) where
  pub run_enumerator : (t : Token) (rest : List Token) → Begins fixed.Name ts t rest → enumerating_nesting d ≤ 128 → run end (at_enumerator d) ts ≡ run end (after_enumerator_name d (identifier_of t)) rest
  run_enumerator t rest b h = run_takes end (at_enumerator d) ts t rest _ _ b.cut (step_enumerator d t (is_this fixed.Name t.kind b.is)) h

  pub no_enumerator : (n : ℕ) → CanEnumerate end d n ts → is_fixed fixed.Name (first_of_all end ts).kind ≡ false → run end (at_enumerator d) ts ≡ syntax (first_of_all end ts).at
  no_enumerator n can f =
      let t = first_of_all end ts in
      run_refused end (at_enumerator d) ts
      (same_false (is_fixed fixed.Name t.kind) _ _ f ∙ refused_braces d.site d.specifiers d.enumerators t (is_fixed fixed.CloseBrace t.kind) refl can.no_end)

  pub run_given : (id : Identifier) (t : Token) (rest : List Token) → Begins fixed.Assign ts t rest → enumerating_nesting d ≤ 128 →
      run end (after_enumerator_name d id) ts ≡ run end (operand (enumerating_nesting d) (as_whole (as_enumerator d id))) rest
  run_given id t rest b h = run_takes end (after_enumerator_name d id) ts t rest _ _ b.cut (step_enumerator_value d id t (is_this fixed.Assign t.kind b.is)) h

-- What follows an enumerator

step_last : (d : Enumerating) (id : Identifier) (e : Option ExpressionTree) (t : Token) → t.kind ≡ kind.Punctuator mark.CloseBrace →
    step (value_state d id e) t ≡ taken (enumerating_nesting d) (after_braces d.site d.specifiers (enumerated (with_enumerator d id e)))
unfolding reduced
step_last d id None t is = rw is
step_last d id (Some e) t is = rw is

step_next : (d : Enumerating) (id : Identifier) (e : Option ExpressionTree) (t : Token) → t.kind ≡ kind.Punctuator mark.Comma →
    step (value_state d id e) t ≡ taken (enumerating_nesting d) (at_enumerator (goes_on_enumerating (with_enumerator d id e)))
unfolding reduced
step_next d id None t is = rw is
step_next d id (Some e) t is = rw is

-- an expression of this level ends, and neither a comma nor a `}` comes
refused_value : (o : Operator) (m : ℕ) (e : ExpressionTree) (d : Enumerating) (id : Identifier) (t : Token) → operator_of t.kind ≡ o → follows o ≤ 2 → is_fixed fixed.Comma t.kind ≡ false →
    is_fixed fixed.CloseBrace t.kind ≡ false → go_on m e (as_whole (as_enumerator d id)) t o ≡ refused
unfolding reduced
refused_value (operator.Step o) m e d id t is h f g = absurd (omega arith)
refused_value (operator.Binary o) m e d id t is h f g = absurd (omega (arith, strength_least o))
refused_value operator.Question m e d id t is h f g = absurd (omega arith)
refused_value (operator.Assignment o) m e d id t is h f g = same_both (is_unary e) refused
refused_value operator.Comma m e d id t is h f g =
    let k : t.kind ≡ kind.Punctuator mark.Comma = operator_kind operator.Comma t.kind is in let c : true ≡ false = sym (ap (is_fixed fixed.Comma) k) ∙ f in absurd (cc)
refused_value operator.Other m e d id t is h f g = same_false (is_fixed fixed.CloseBrace t.kind) _ _ g

refused_end : (end : Token) (d : Enumerating) (id : Identifier) (e : Option ExpressionTree) (ts : List Token) → EndsValue end e ts → is_fixed fixed.Comma (first_of_all end ts).kind ≡ false →
    is_fixed fixed.CloseBrace (first_of_all end ts).kind ≡ false → step (value_state d id e) (first_of_all end ts) ≡ refused
refused_end end d id None ts ends f g =
    let t = first_of_all end ts in
    same_false (is_fixed fixed.Assign t.kind) _ _ ends ∙ same_false (is_fixed fixed.Comma t.kind) _ _ f ∙ same_false (is_fixed fixed.CloseBrace t.kind) _ _ g
refused_end end d id (Some e) ts ends f g = let t = first_of_all end ts in refused_value (operator_of t.kind) (enumerating_nesting d) e d id t refl ends f g

module _ (end : Token) (d : Enumerating) (id : Identifier) (e : Option ExpressionTree) (ts : List Token) where
  pub run_last : (t : Token) (rest : List Token) → Begins fixed.CloseBrace ts t rest → enumerating_nesting d ≤ 128 →
      run end (value_state d id e) ts ≡ run end (after_braces d.site d.specifiers (enumerated (with_enumerator d id e))) rest
  run_last t rest b h = run_takes end (value_state d id e) ts t rest _ _ b.cut (step_last d id e t (is_this fixed.CloseBrace t.kind b.is)) h

  pub run_next : (t : Token) (rest : List Token) → Begins fixed.Comma ts t rest → enumerating_nesting d ≤ 128 →
      run end (value_state d id e) ts ≡ run end (at_enumerator (goes_on_enumerating (with_enumerator d id e))) rest
  run_next t rest b h = run_takes end (value_state d id e) ts t rest _ _ b.cut (step_next d id e t (is_this fixed.Comma t.kind b.is)) h

  pub no_next : EndsValue end e ts → is_fixed fixed.CloseBrace (first_of_all end ts).kind ≡ false → is_fixed fixed.Comma (first_of_all end ts).kind ≡ false →
      run end (value_state d id e) ts ≡ syntax (first_of_all end ts).at
  no_next ends g f = run_refused end (value_state d id e) ts (refused_end end d id e ts ends f g)

pub run_last_comma : (end : Token) (d : Enumerated) (ts : List Token) (t : Token) (rest : List Token) → Begins fixed.CloseBrace ts t rest → enumeration_nesting d.site ≤ 128 →
    run end (at_enumerator (goes_on_enumerating d)) ts ≡ run end (after_braces d.site d.specifiers (enumerated d)) rest
run_last_comma end d ts t rest b h = run_takes end (at_enumerator (goes_on_enumerating d)) ts t rest _ _ b.cut (step_last_enumerator d.site d.specifiers d.enumerators t (is_this fixed.CloseBrace t.kind b.is)) h

-- The braces, and what follows them

step_open : (s : EnumerationSite) (specs : OneOrMore Specifier) (t : Token) → may_open specs ≡ true → t.kind ≡ kind.Punctuator mark.OpenBrace →
    step (words_state s specs) t ≡ taken (enumeration_nesting s) (at_enumerator (braces_open s specs))
step_open (in_declaration s) specs t h e = step_open_braces s specs t h e
step_open (in_typedef before) specs t h e = step_open_type_braces before specs t h e

module _ (end : Token) (s : EnumerationSite) (specs : OneOrMore Specifier) (ts : List Token) (t : Token) (rest : List Token) where
  pub run_open : may_open specs ≡ true → Begins fixed.OpenBrace ts t rest → enumeration_nesting s ≤ 128 → run end (words_state s specs) ts ≡ run end (at_enumerator (braces_open s specs)) rest
  run_open f b h = run_takes end (words_state s specs) ts t rest _ _ b.cut (step_open s specs t f (is_this fixed.OpenBrace t.kind b.is)) h

  pub run_qualifier : (e : EnumerationTree) → Begins fixed.Const ts t rest → enumeration_nesting s ≤ 128 →
      run end (after_braces s specs e) ts ≡ run end (after_braces s specs (with_qualifier e (specifier_at t word.Const))) rest
  run_qualifier e b h = run_takes end (after_braces s specs e) ts t rest _ _ b.cut (step_qualifier s specs e t (is_this fixed.Const t.kind b.is)) h
