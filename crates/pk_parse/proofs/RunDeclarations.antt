-- What is answered within declarations, token by token.
use Rattle.std.proofs.Common.{◌≡◌, ℕ, ◌+◌, ◌<◌, ◌≤◌, List, ◌∷◌, Option, Some, None, Bool, ◌&&◌, not, true, false, refl, sym, ap, subst, ◌∙◌, arith}
use Rattle.std.specs.Option.{is_some}
use Rattle.pk_parse_expression.proofs.RunOperands.{run_words, same_both}
use Rattle.pk_lex.specs.declared.token.Token.{Token}
use Rattle.pk_lex.specs.declared.token.Kind.TheVariants as kind
use Rattle.pk_lex.specs.declared.token.Punctuator.TheVariants as mark
use Rattle.pk_ast.specs.declared.declarations.Specifier.{Specifier}
use Rattle.pk_ast.specs.declared.expressions.Identifier.{Identifier}
use Rattle.pk_ast.specs.Trees.{OneOrMore, ExpressionTree, DimensionsTree, EnumerationTree}
use Rattle.pk_grammar.specs.declared.signs.Fixed.TheVariants as fixed
use Rattle.pk_grammar.specs.declared.signs.Operator.{Operator}
use Rattle.pk_grammar.specs.declared.signs.Operator.TheVariants as operator
use Rattle.pk_grammar.specs.Languages.{identifier_of}
use Rattle.pk_grammar.specs.Machine.Signs.{is_fixed, operator_of}
use Rattle.pk_grammar.specs.Machine.States.{Site, in_a_block, in_a_for, outside, in_declaration, after_braces, Declaring, Naming, Purpose, as_length, as_columns, as_whole, after_specifiers, after_name, after_length, after_columns, after_assign, after_initializer, after_comma, operand, complete, Declared}
use Rattle.pk_grammar.specs.Machine.Steps.{taken, refused, reduced, is_unary, go_on, more_specifiers, next_word, may_open, end_alone, purpose_level, site_nesting, naming_nesting, with_dimensions, with_initializer, open_parameters, step, goes_on_declaring}
use Rattle.pk_grammar.specs.Machine.Running.{syntax, deep, first_of_all, run}
use Rattle.pk_grammar.proofs.CompleteSigns.{strength_least}
use Rattle.pk_grammar.proofs.CompleteOperands.{same_false, same_true}
use Rattle.pk_grammar.proofs.CompleteDeclarations.{step_first_name, step_no_first_name, step_length, step_length_end, step_columns, step_columns_end, step_next_name}
use Rattle.pk_grammar.proofs.CompleteEnumerations.{step_no_braces, step_alone, step_name_behind, step_no_name_behind}
use Rattle.pk_grammar.proofs.SpellsSigns.{is_this}
use Rattle.pk_parse_expression.specs.Parsing.{Begins, words, follows, EndsAt}
use Rattle.pk_parse_expression.proofs.RunLemmas.{run_takes, run_deep, run_refused, run_alike}
use Rattle.pk_parse.specs.Parts.{type_state, EndsType, length_state, next_length_state, CanDeclare, needs_name, named_first, after_declaration}

pub run_specifiers : (end : Token) (s : Site) → site_nesting s ≤ 128 → (ts : List Token) (specs : OneOrMore Specifier) →
    run end (after_specifiers s specs) ts ≡ run end (after_specifiers s (words specs ts).0) (words specs ts).1
run_specifiers end s h ts specs = run_words end (λ q. after_specifiers s q) (site_nesting s) h (λ q t w e. ap (λ v. more_specifiers s q t v) e) ts specs

-- A declarator's name, and its dimensions

abbrev pub naming : Declaring → Identifier → Option DimensionsTree → Naming
naming d id l = record { declaring = d; name = id; dimensions = l }

abbrev pub with_columns : Declaring → Identifier → ExpressionTree → Option ExpressionTree → Naming
with_columns d id rows columns = with_dimensions d id (record { length = rows; columns = columns })

-- what a length is for
abbrev pub length_purpose : Declaring → Identifier → Option ExpressionTree → Purpose
length_purpose d id None = as_length d id
length_purpose d id (Some rows) = as_columns d id rows

pub level : (d : Declaring) (id : Identifier) (rows : Option ExpressionTree) → purpose_level (length_purpose d id rows) ≤ 2
level d id None = omega arith
level d id (Some rows) = omega arith

step_open_length : (d : Declaring) (id : Identifier) (rows : Option ExpressionTree) (t : Token) → t.kind ≡ kind.Punctuator mark.OpenBracket →
    step (length_state d id rows) t ≡ taken (site_nesting d.site + 1) (operand (site_nesting d.site + 1) (as_whole (length_purpose d id rows)))
step_open_length d id None t is = step_length d id t is
step_open_length d id (Some rows) t is = step_columns d id rows t is

step_close_length : (m : ℕ) (e : ExpressionTree) (d : Declaring) (id : Identifier) (rows : Option ExpressionTree) (t : Token) → t.kind ≡ kind.Punctuator mark.CloseBracket →
    step (complete m e (as_whole (length_purpose d id rows))) t ≡ taken (site_nesting d.site) (next_length_state d id rows e)
step_close_length m e d id None t is = step_length_end m e d id t is
step_close_length m e d id (Some rows) t is = step_columns_end m e d id rows t is

-- an expression of this level ends, and no `]` comes
refused_length : (o : Operator) (m : ℕ) (e : ExpressionTree) (d : Declaring) (id : Identifier) (rows : Option ExpressionTree) (t : Token) → follows o ≤ 2 → is_fixed fixed.CloseBracket t.kind ≡ false →
    go_on m e (as_whole (length_purpose d id rows)) t o ≡ refused
unfolding reduced
refused_length (operator.Step o) m e d id rows t h f = absurd (omega arith)
refused_length (operator.Binary o) m e d id rows t h f = absurd (omega (arith, strength_least o))
refused_length operator.Question m e d id rows t h f = absurd (omega arith)
refused_length (operator.Assignment o) m e d id None t h f = same_both (is_unary e) refused
refused_length (operator.Assignment o) m e d id (Some rows) t h f = same_both (is_unary e) refused
refused_length operator.Comma m e d id None t h f = refl
refused_length operator.Comma m e d id (Some rows) t h f = refl
refused_length operator.Other m e d id None t h f = same_false (is_fixed fixed.CloseBracket t.kind) _ _ f
refused_length operator.Other m e d id (Some rows) t h f = same_false (is_fixed fixed.CloseBracket t.kind) _ _ f

-- without a length, what follows is answered as after one
same_without : (d : Declaring) (id : Identifier) (t : Token) (b : Bool) → is_fixed fixed.OpenParenthesis t.kind ≡ b → (is_fixed fixed.OpenParenthesis t.kind ≡ true → open_parameters d.site d.specifiers d.enumeration d.declarators id ≡ refused) →
    is_fixed fixed.OpenBracket t.kind ≡ false → step (after_name d id) t ≡ step (after_columns (naming d id None)) t
same_without d id t true e h f =
    let k : t.kind ≡ kind.Punctuator mark.OpenParenthesis = is_this fixed.OpenParenthesis t.kind e in
    same_true (is_fixed fixed.OpenParenthesis t.kind) _ _ e ∙ h e ∙ sym (rw k)
same_without d id t false e h f = same_false (is_fixed fixed.OpenParenthesis t.kind) _ _ e ∙ same_false (is_fixed fixed.OpenBracket t.kind) _ _ f

module _ (end : Token) (d : Declaring) (id : Identifier) (ts : List Token) where
  pub run_no_length : (n : ℕ) → CanDeclare end d id n ts → is_fixed fixed.OpenBracket (first_of_all end ts).kind ≡ false → run end (after_name d id) ts ≡ run end (after_columns (naming d id None)) ts
  run_no_length n h f = let t = first_of_all end ts in run_alike end _ _ ts (same_without d id t (is_fixed fixed.OpenParenthesis t.kind) refl h.no_function f)

  pub run_no_columns : (rows : ExpressionTree) → is_fixed fixed.OpenBracket (first_of_all end ts).kind ≡ false → run end (after_length d id rows) ts ≡ run end (after_columns (with_columns d id rows None)) ts
  run_no_columns rows f = let t = first_of_all end ts in run_alike end _ _ ts (same_false (is_fixed fixed.OpenBracket t.kind) _ _ f)

module _ (end : Token) (d : Declaring) (id : Identifier) (rows : Option ExpressionTree) (ts : List Token) where
  pub run_length : (t : Token) (rest : List Token) → Begins fixed.OpenBracket ts t rest → site_nesting d.site + 1 ≤ 128 →
      run end (length_state d id rows) ts ≡ run end (operand (site_nesting d.site + 1) (as_whole (length_purpose d id rows))) rest
  run_length t rest b h = run_takes end (length_state d id rows) ts t rest _ _ b.cut (step_open_length d id rows t (is_this fixed.OpenBracket t.kind b.is)) h

  pub deep_length : (t : Token) (rest : List Token) → Begins fixed.OpenBracket ts t rest → 128 < site_nesting d.site + 1 → run end (length_state d id rows) ts ≡ deep t.at
  deep_length t rest b h = run_deep end (length_state d id rows) ts t rest _ _ b.cut (step_open_length d id rows t (is_this fixed.OpenBracket t.kind b.is)) h

  pub run_length_end : (m : ℕ) (e : ExpressionTree) (t : Token) (rest : List Token) → Begins fixed.CloseBracket ts t rest → site_nesting d.site ≤ 128 →
      run end (complete m e (as_whole (length_purpose d id rows))) ts ≡ run end (next_length_state d id rows e) rest
  run_length_end m e t rest b h =
      run_takes end (complete m e (as_whole (length_purpose d id rows))) ts t rest _ _ b.cut (step_close_length m e d id rows t (is_this fixed.CloseBracket t.kind b.is)) h

  pub no_length_end : (m : ℕ) (e : ExpressionTree) → EndsAt end 2 ts → is_fixed fixed.CloseBracket (first_of_all end ts).kind ≡ false →
      run end (complete m e (as_whole (length_purpose d id rows))) ts ≡ syntax (first_of_all end ts).at
  no_length_end m e h f = let t = first_of_all end ts in run_refused end _ ts (refused_length (operator_of t.kind) m e d id rows t h f)

-- What an object begins with

step_assign : (d : Naming) (t : Token) → t.kind ≡ kind.Punctuator mark.Assign → step (after_columns d) t ≡ taken (naming_nesting d) (after_assign d)
step_assign d t e = rw e

module _ (end : Token) (d : Naming) (ts : List Token) where
  pub run_assign : (t : Token) (rest : List Token) → Begins fixed.Assign ts t rest → naming_nesting d ≤ 128 → run end (after_columns d) ts ≡ run end (after_assign d) rest
  run_assign t rest b h = run_takes end (after_columns d) ts t rest _ _ b.cut (step_assign d t (is_this fixed.Assign t.kind b.is)) h

  pub run_no_assign : is_fixed fixed.Assign (first_of_all end ts).kind ≡ false → run end (after_columns d) ts ≡ run end (after_initializer (with_initializer d None)) ts
  run_no_assign f = let t = first_of_all end ts in run_alike end _ _ ts (same_false (is_fixed fixed.Assign t.kind) _ _ f)

-- After a declarator

step_semicolon : (d : Declared) (t : Token) → t.kind ≡ kind.Punctuator mark.Semicolon → step (after_initializer d) t ≡ taken (site_nesting d.site) (after_declaration (goes_on_declaring d))
step_semicolon d t e = rw e

step_comma : (d : Declared) (t : Token) → t.kind ≡ kind.Punctuator mark.Comma → step (after_initializer d) t ≡ taken (site_nesting d.site) (after_comma (goes_on_declaring d))
step_comma d t e = rw e

module _ (end : Token) (d : Declared) (ts : List Token) where
  pub run_semicolon : (t : Token) (rest : List Token) → Begins fixed.Semicolon ts t rest → site_nesting d.site ≤ 128 → run end (after_initializer d) ts ≡ run end (after_declaration (goes_on_declaring d)) rest
  run_semicolon t rest b h = run_takes end (after_initializer d) ts t rest _ _ b.cut (step_semicolon d t (is_this fixed.Semicolon t.kind b.is)) h

  pub run_comma : (t : Token) (rest : List Token) → Begins fixed.Comma ts t rest → site_nesting d.site ≤ 128 → run end (after_initializer d) ts ≡ run end (after_comma (goes_on_declaring d)) rest
  run_comma t rest b h = run_takes end (after_initializer d) ts t rest _ _ b.cut (step_comma d t (is_this fixed.Comma t.kind b.is)) h

  pub no_comma : is_fixed fixed.Semicolon (first_of_all end ts).kind ≡ false → is_fixed fixed.Comma (first_of_all end ts).kind ≡ false → run end (after_initializer d) ts ≡ syntax (first_of_all end ts).at
  no_comma f g = let t = first_of_all end ts in run_refused end _ ts (same_false (is_fixed fixed.Comma t.kind) _ _ g ∙ same_false (is_fixed fixed.Semicolon t.kind) _ _ f)

module _ (end : Token) (d : Declaring) (ts : List Token) where
  pub run_next_name : (t : Token) (rest : List Token) → Begins fixed.Name ts t rest → site_nesting d.site ≤ 128 → run end (after_comma d) ts ≡ run end (after_name d (identifier_of t)) rest
  run_next_name t rest b h = run_takes end (after_comma d) ts t rest _ _ b.cut (step_next_name d t (is_this fixed.Name t.kind b.is)) h

  pub no_next_name : is_fixed fixed.Name (first_of_all end ts).kind ≡ false → run end (after_comma d) ts ≡ syntax (first_of_all end ts).at
  no_next_name f = let t = first_of_all end ts in run_refused end _ ts (same_false (is_fixed fixed.Name t.kind) _ _ f)

-- Behind a type: an enumeration that stands alone, or the first name

taken_alone : (s : Site) (specs : OneOrMore Specifier) (e : EnumerationTree) → not (needs_name s) ≡ true → end_alone s specs e ≡ taken (site_nesting s) (after_declaration (named_first s specs (Some e)))
taken_alone (in_a_block b None) specs e h = refl
taken_alone (in_a_block b (Some at)) specs e h = absurd (cc)
taken_alone (in_a_for n at o) specs e h = refl
taken_alone (outside before s) specs e h = refl

refused_alone : (s : Site) (specs : OneOrMore Specifier) (e : EnumerationTree) → not (needs_name s) ≡ false → end_alone s specs e ≡ refused
refused_alone (in_a_block b None) specs e h = absurd (cc)
refused_alone (in_a_block b (Some at)) specs e h = refl
refused_alone (in_a_for n at o) specs e h = absurd (cc)
refused_alone (outside before s) specs e h = absurd (cc)

step_ended : (s : Site) (specs : OneOrMore Specifier) (e : Option EnumerationTree) (t : Token) → (is_some e && not (needs_name s)) ≡ true → t.kind ≡ kind.Punctuator mark.Semicolon →
    step (type_state (in_declaration s) specs e) t ≡ taken (site_nesting s) (after_declaration (named_first s specs e))
step_ended s specs None t h is = absurd (cc)
step_ended s specs (Some e) t h is = step_alone s specs e t is ∙ taken_alone s specs e h

step_named : (end : Token) (s : Site) (specs : OneOrMore Specifier) (e : Option EnumerationTree) (t : Token) (rest : List Token) → EndsType end specs e (t ∷ rest) → t.kind ≡ kind.Name →
    step (type_state (in_declaration s) specs e) t ≡ taken (site_nesting s) (after_name (named_first s specs e) (identifier_of t))
step_named end s specs None t rest ends is = step_first_name s specs t ends.0 is
step_named end s specs (Some e) t rest ends is = step_name_behind s specs e t is

-- neither comes
refused_words : (s : Site) (specs : OneOrMore Specifier) (t : Token) (b : Bool) → is_fixed fixed.OpenBrace t.kind ≡ b → next_word specs t ≡ None → (is_fixed fixed.OpenBrace t.kind ≡ true → may_open specs ≡ false) →
    is_fixed fixed.Name t.kind ≡ false → step (after_specifiers s specs) t ≡ refused
refused_words s specs t true e none h f = step_no_braces s specs t (h e) (is_this fixed.OpenBrace t.kind e)
refused_words s specs t false e none h f = step_no_first_name s specs t none e f

refused_behind : (s : Site) (specs : OneOrMore Specifier) (e : EnumerationTree) (t : Token) (b : Bool) → is_fixed fixed.Semicolon t.kind ≡ b → is_fixed fixed.Const t.kind ≡ false →
    (is_fixed fixed.Semicolon t.kind ≡ true → not (needs_name s) ≡ false) → is_fixed fixed.Name t.kind ≡ false → step (after_braces (in_declaration s) specs e) t ≡ refused
refused_behind s specs e t true i ends h f = step_alone s specs e t (is_this fixed.Semicolon t.kind i) ∙ refused_alone s specs e (h i)
refused_behind s specs e t false i ends h f = step_no_name_behind s specs e t ends i f

refused_name : (end : Token) (s : Site) (specs : OneOrMore Specifier) (e : Option EnumerationTree) (ts : List Token) → EndsType end specs e ts →
    (is_fixed fixed.Semicolon (first_of_all end ts).kind ≡ true → (is_some e && not (needs_name s)) ≡ false) → is_fixed fixed.Name (first_of_all end ts).kind ≡ false →
    step (type_state (in_declaration s) specs e) (first_of_all end ts) ≡ refused
refused_name end s specs None ts ends h f = let t = first_of_all end ts in refused_words s specs t (is_fixed fixed.OpenBrace t.kind) refl ends.0 ends.1 f
refused_name end s specs (Some e) ts ends h f = let t = first_of_all end ts in refused_behind s specs e t (is_fixed fixed.Semicolon t.kind) refl ends h f

module _ (end : Token) (s : Site) (specs : OneOrMore Specifier) (e : Option EnumerationTree) (ts : List Token) where
  pub run_ended : (t : Token) (rest : List Token) → (is_some e && not (needs_name s)) ≡ true → Begins fixed.Semicolon ts t rest → site_nesting s ≤ 128 →
      run end (type_state (in_declaration s) specs e) ts ≡ run end (after_declaration (named_first s specs e)) rest
  run_ended t rest alone b h = run_takes end (type_state (in_declaration s) specs e) ts t rest _ _ b.cut (step_ended s specs e t alone (is_this fixed.Semicolon t.kind b.is)) h

  pub run_first_name : (t : Token) (rest : List Token) → EndsType end specs e ts → Begins fixed.Name ts t rest → site_nesting s ≤ 128 →
      run end (type_state (in_declaration s) specs e) ts ≡ run end (after_name (named_first s specs e) (identifier_of t)) rest
  run_first_name t rest ends b h =
      run_takes end (type_state (in_declaration s) specs e) ts t rest _ _ b.cut
      (step_named end s specs e t rest (subst (λ q. EndsType end specs e q) b.cut ends) (is_this fixed.Name t.kind b.is)) h

  pub no_first_name : EndsType end specs e ts → (is_fixed fixed.Semicolon (first_of_all end ts).kind ≡ true → (is_some e && not (needs_name s)) ≡ false) →
      is_fixed fixed.Name (first_of_all end ts).kind ≡ false → run end (type_state (in_declaration s) specs e) ts ≡ syntax (first_of_all end ts).at
  no_first_name ends h f = run_refused end (type_state (in_declaration s) specs e) ts (refused_name end s specs e ts ends h f)
