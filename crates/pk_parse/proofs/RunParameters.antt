-- What is answered within a function's parameters, token by token.
use Rattle.std.proofs.Common.{◌≡◌, ℕ, ◌≤◌, List, [], ◌∷◌, ◌++◌, Option, Some, None, true, false, refl, sym, ap, subst, ◌∙◌, arith}
use Rattle.pk_lex.specs.declared.token.Token.{Token}
use Rattle.pk_lex.specs.declared.token.Kind.TheVariants as kind
use Rattle.pk_lex.specs.declared.token.Punctuator.TheVariants as mark
use Rattle.pk_ast.specs.declared.declarations.Specifier.{Specifier}
use Rattle.pk_ast.specs.declared.expressions.Identifier.{Identifier}
use Rattle.pk_ast.specs.Lists.{one}
use Rattle.pk_ast.specs.Trees.{OneOrMore, ExpressionTree, BracketsTree, ParameterTree}
use Rattle.pk_grammar.specs.declared.signs.Fixed.TheVariants as fixed
use Rattle.pk_grammar.specs.declared.signs.Operator.{Operator}
use Rattle.pk_grammar.specs.declared.signs.Operator.TheVariants as operator
use Rattle.pk_grammar.specs.Languages.{identifier_of}
use Rattle.pk_grammar.specs.Machine.Signs.{is_fixed, operator_of, specifier_word}
use Rattle.pk_grammar.specs.Machine.States.{Head, Receiving, as_parameter_length, as_parameter_columns, as_whole, parameters_open, parameter_specifiers, parameter_name, parameter_bracket, parameter_length, parameter_end, parameter_comma, parameters_closed, operand, complete}
use Rattle.pk_grammar.specs.Machine.Steps.{taken, refused, reduced, is_unary, go_on, begin_parameter, words_alone, last_parameter, receiving, more_parameter, next_word, end_in_enum, purpose_level, step}
use Rattle.pk_grammar.specs.Machine.Running.{syntax, first_of_all, run}
use Rattle.pk_grammar.proofs.CompleteSigns.{strength_least}
use Rattle.pk_grammar.proofs.CompleteOperands.{same_false, same_true}
use Rattle.pk_grammar.proofs.CompleteExternals.{step_no_parameters, step_no_parameter, step_unnamed_bracket, step_bracket, step_no_length, step_length_end, step_columns, step_columns_end}
use Rattle.pk_grammar.proofs.SpellsSigns.{is_this}
use Rattle.pk_parse_expression.specs.Parsing.{Begins, BeginsWithWord, words, follows, EndsAt}
use Rattle.pk_parse_expression.proofs.RunLemmas.{run_takes, run_refused, run_alike, first_is}
use Rattle.pk_parse_expression.proofs.RunOperands.{run_words, same_both}
use Rattle.pk_parse.specs.Parts.{name_state, IsName, bracket_purpose, next_bracket_state, bracketed, parameter_state, after_parameter, EndsWords}

module _ (end : Token) (h : Head) (ts : List Token) where
  pub run_no_parameters : (t : Token) (rest : List Token) → Begins fixed.CloseParenthesis ts t rest → run end (parameters_open h) ts ≡ run end (parameters_closed h []) rest
  run_no_parameters t rest b = run_takes end (parameters_open h) ts t rest _ _ b.cut (step_no_parameters h t (is_this fixed.CloseParenthesis t.kind b.is)) (omega arith)

  pub run_parameters : is_fixed fixed.CloseParenthesis (first_of_all end ts).kind ≡ false → run end (parameters_open h) ts ≡ run end (parameter_comma h []) ts
  run_parameters f = let t = first_of_all end ts in run_alike end (parameters_open h) (parameter_comma h []) ts (same_false (is_fixed fixed.CloseParenthesis t.kind) _ _ f)

-- The words of a type, and a name

step_name : (h : Head) (ps : List ParameterTree) (specs : OneOrMore Specifier) (t : Token) → next_word specs t ≡ None → end_in_enum specs ≡ false → is_fixed fixed.Name t.kind ≡ true →
    step (parameter_specifiers h ps specs) t ≡ taken 1 (parameter_name (receiving h ps specs (Some (identifier_of t))))
step_name h ps specs t none f b = ap (λ w. more_parameter h ps specs t w) none ∙ same_false (end_in_enum specs) _ _ f ∙ same_true (is_fixed fixed.Name t.kind) _ _ b

module _ (end : Token) (h : Head) (ps : List ParameterTree) (ts : List Token) where
  pub run_parameter : (s : Specifier) (rest : List Token) → BeginsWithWord specifier_word ts s rest → run end (parameter_comma h ps) ts ≡ run end (parameter_specifiers h ps (one s)) rest
  run_parameter s rest b =
      run_takes end (parameter_comma h ps) ts b.token rest _ _ b.cut (ap (λ w. begin_parameter h ps b.token w) b.is) (omega arith)
      ∙ ap (λ q. run end (parameter_specifiers h ps (one q)) rest) (sym b.specifier)

  pub no_parameter : specifier_word (first_of_all end ts) ≡ None → run end (parameter_comma h ps) ts ≡ syntax (first_of_all end ts).at
  no_parameter e = let t = first_of_all end ts in run_refused end (parameter_comma h ps) ts (ap (λ w. begin_parameter h ps t w) e)

  pub run_parameter_words : (specs : OneOrMore Specifier) → run end (parameter_specifiers h ps specs) ts ≡ run end (parameter_specifiers h ps (words specs ts).0) (words specs ts).1
  run_parameter_words specs = run_words end (λ q. parameter_specifiers h ps q) 1 (omega arith) (λ q t w e. ap (λ v. more_parameter h ps q t v) e) ts specs

  pub no_type : (specs : OneOrMore Specifier) → next_word specs (first_of_all end ts) ≡ None → end_in_enum specs ≡ true → run end (parameter_specifiers h ps specs) ts ≡ syntax (first_of_all end ts).at
  no_type specs none e = run_refused end (parameter_specifiers h ps specs) ts (step_no_parameter h ps specs (first_of_all end ts) none e)

  pub run_name : (specs : OneOrMore Specifier) (n : Option Identifier) (rest : List Token) → next_word specs (first_of_all end ts) ≡ None → end_in_enum specs ≡ false → IsName end ts n rest →
      run end (parameter_specifiers h ps specs) ts ≡ run end (name_state h ps specs n) rest
  run_name specs None rest none f is = ap (λ q. run end (parameter_specifiers h ps specs) q) (sym is.0)
  run_name specs (Some id) rest none f is =
      let t = is.0 in
      run_takes end (parameter_specifiers h ps specs) ts t rest _ _ is.1.cut
      (step_name h ps specs t (sym (ap (λ q. next_word specs q) (first_is end ts t rest is.1.cut)) ∙ none) f is.1.is) (omega arith)
      ∙ ap (λ q. run end (parameter_name (receiving h ps specs (Some q))) rest) (sym is.2)

-- Brackets

abbrev without_brackets : OneOrMore Specifier → Option Identifier → ParameterTree
without_brackets specs n = record { specifiers = specs; name = n; brackets = None }

step_open_bracket : (h : Head) (ps : List ParameterTree) (specs : OneOrMore Specifier) (n : Option Identifier) (t : Token) → end_in_enum specs ≡ false → t.kind ≡ kind.Punctuator mark.OpenBracket →
    step (name_state h ps specs n) t ≡ taken 2 (parameter_bracket (receiving h ps specs n))
step_open_bracket h ps specs None t f is = step_unnamed_bracket h ps specs t f is
step_open_bracket h ps specs (Some id) t f is = rw is

same_without : (h : Head) (ps : List ParameterTree) (specs : OneOrMore Specifier) (n : Option Identifier) (t : Token) → is_fixed fixed.OpenBracket t.kind ≡ false →
    step (name_state h ps specs n) t ≡ step (after_parameter h ps (without_brackets specs n)) t
same_without h ps specs None t f = refl
same_without h ps specs (Some id) t f = same_false (is_fixed fixed.OpenBracket t.kind) _ _ f

module _ (end : Token) (h : Head) (ps : List ParameterTree) (specs : OneOrMore Specifier) (n : Option Identifier) (ts : List Token) where
  pub run_bracket : (t : Token) (rest : List Token) → end_in_enum specs ≡ false → Begins fixed.OpenBracket ts t rest → run end (name_state h ps specs n) ts ≡ run end (parameter_bracket (receiving h ps specs n)) rest
  run_bracket t rest f b = run_takes end (name_state h ps specs n) ts t rest _ _ b.cut (step_open_bracket h ps specs n t f (is_this fixed.OpenBracket t.kind b.is)) (omega arith)

  pub run_no_bracket : is_fixed fixed.OpenBracket (first_of_all end ts).kind ≡ false → run end (name_state h ps specs n) ts ≡ run end (after_parameter h ps (without_brackets specs n)) ts
  run_no_bracket f = run_alike end _ _ ts (same_without h ps specs n (first_of_all end ts) f)

module _ (end : Token) (d : Receiving) (ts : List Token) where
  pub run_no_length : (t : Token) (rest : List Token) → Begins fixed.CloseBracket ts t rest → run end (parameter_bracket d) ts ≡ run end (parameter_length d None) rest
  run_no_length t rest b = run_takes end (parameter_bracket d) ts t rest _ _ b.cut (step_no_length d t (is_this fixed.CloseBracket t.kind b.is)) (omega arith)

  pub run_length : is_fixed fixed.CloseBracket (first_of_all end ts).kind ≡ false → run end (parameter_bracket d) ts ≡ run end (operand 2 (as_whole (as_parameter_length d))) ts
  run_length f = run_alike end _ _ ts (step_bracket d (first_of_all end ts) f)

  pub run_columns : (l : Option ExpressionTree) (t : Token) (rest : List Token) → Begins fixed.OpenBracket ts t rest → run end (parameter_length d l) ts ≡ run end (operand 2 (as_whole (as_parameter_columns d l))) rest
  run_columns l t rest b = run_takes end (parameter_length d l) ts t rest _ _ b.cut (step_columns d l t (is_this fixed.OpenBracket t.kind b.is)) (omega arith)

  pub run_no_columns : (l : Option ExpressionTree) → is_fixed fixed.OpenBracket (first_of_all end ts).kind ≡ false → run end (parameter_length d l) ts ≡ run end (bracketed d l None) ts
  run_no_columns l f = let t = first_of_all end ts in run_alike end _ _ ts (same_false (is_fixed fixed.OpenBracket t.kind) _ _ f)

-- Behind a length, or columns

pub level : (d : Receiving) (b : Option (Option ExpressionTree)) → purpose_level (bracket_purpose d b) ≤ 2
level d None = omega arith
level d (Some l) = omega arith

step_close : (m : ℕ) (e : ExpressionTree) (d : Receiving) (b : Option (Option ExpressionTree)) (t : Token) → t.kind ≡ kind.Punctuator mark.CloseBracket →
    step (complete m e (as_whole (bracket_purpose d b))) t ≡ taken 1 (next_bracket_state d b e)
step_close m e d None t is = step_length_end m e d t is
step_close m e d (Some l) t is = step_columns_end m e d l t is

-- an expression of this level ends, and no `]` comes
refused_close : (o : Operator) (m : ℕ) (e : ExpressionTree) (d : Receiving) (b : Option (Option ExpressionTree)) (t : Token) → follows o ≤ 2 → is_fixed fixed.CloseBracket t.kind ≡ false →
    go_on m e (as_whole (bracket_purpose d b)) t o ≡ refused
unfolding reduced
refused_close (operator.Step o) m e d b t h f = absurd (omega arith)
refused_close (operator.Binary o) m e d b t h f = absurd (omega (arith, strength_least o))
refused_close operator.Question m e d b t h f = absurd (omega arith)
refused_close (operator.Assignment o) m e d None t h f = same_both (is_unary e) refused
refused_close (operator.Assignment o) m e d (Some l) t h f = same_both (is_unary e) refused
refused_close operator.Comma m e d None t h f = refl
refused_close operator.Comma m e d (Some l) t h f = refl
refused_close operator.Other m e d None t h f = same_false (is_fixed fixed.CloseBracket t.kind) _ _ f
refused_close operator.Other m e d (Some l) t h f = same_false (is_fixed fixed.CloseBracket t.kind) _ _ f

module _ (end : Token) (d : Receiving) (b : Option (Option ExpressionTree)) (m : ℕ) (e : ExpressionTree) (ts : List Token) where
  pub run_close : (t : Token) (rest : List Token) → Begins fixed.CloseBracket ts t rest → run end (complete m e (as_whole (bracket_purpose d b))) ts ≡ run end (next_bracket_state d b e) rest
  run_close t rest c = run_takes end (complete m e (as_whole (bracket_purpose d b))) ts t rest _ _ c.cut (step_close m e d b t (is_this fixed.CloseBracket t.kind c.is)) (omega arith)

  pub no_close : EndsAt end 2 ts → is_fixed fixed.CloseBracket (first_of_all end ts).kind ≡ false → run end (complete m e (as_whole (bracket_purpose d b))) ts ≡ syntax (first_of_all end ts).at
  no_close h f = let t = first_of_all end ts in run_refused end _ ts (refused_close (operator_of t.kind) m e d b t h f)

-- Behind a parameter

-- the parameters, where this one is the last
abbrev pub with_last : List ParameterTree → ParameterTree → Option Identifier → Option BracketsTree → List ParameterTree
with_last ps p None None = last_parameter ps p.specifiers
with_last ps p None (Some b) = ps ++ p ∷ []
with_last ps p (Some id) b = ps ++ p ∷ []

step_parameter_close : (end : Token) (h : Head) (ps : List ParameterTree) (p : ParameterTree) (n : Option Identifier) (b : Option BracketsTree) (t : Token) (rest : List Token) →
    EndsWords end p.specifiers n b (t ∷ rest) → t.kind ≡ kind.Punctuator mark.CloseParenthesis → step (parameter_state h ps p n b) t ≡ taken 0 (parameters_closed h (with_last ps p n b))
step_parameter_close end h ps p None None t rest ends e = ap (λ w. more_parameter h ps p.specifiers t w) ends.0 ∙ same_false (end_in_enum p.specifiers) _ _ ends.3 ∙ rw e
step_parameter_close end h ps p None (Some b) t rest ends e = rw e
step_parameter_close end h ps p (Some id) b t rest ends e = rw e

-- a parameter that is words alone
pub alone : (p : ParameterTree) → p.name ≡ None → p.brackets ≡ None → words_alone p.specifiers ≡ p
alone p e f = ap (λ q. record { specifiers = p.specifiers; name = q; brackets = None }) (sym e) ∙ ap (λ q. record { specifiers = p.specifiers; name = p.name; brackets = q }) (sym f)

step_parameter_comma : (end : Token) (h : Head) (ps : List ParameterTree) (p : ParameterTree) (n : Option Identifier) (b : Option BracketsTree) (t : Token) (rest : List Token) →
    EndsWords end p.specifiers n b (t ∷ rest) → p.name ≡ n → p.brackets ≡ b → t.kind ≡ kind.Punctuator mark.Comma → step (parameter_state h ps p n b) t ≡ taken 1 (parameter_comma h (ps ++ p ∷ []))
step_parameter_comma end h ps p None None t rest ends same also e =
    ap (λ w. more_parameter h ps p.specifiers t w) ends.0 ∙ same_false (end_in_enum p.specifiers) _ _ ends.3
    ∙ rw e (ap (λ q. taken 1 (parameter_comma h (ps ++ q ∷ []))) (alone p same also))
step_parameter_comma end h ps p None (Some b) t rest ends same also e = rw e
step_parameter_comma end h ps p (Some id) b t rest ends same also e = rw e

refused_end : (h : Head) (ps : List ParameterTree) (p : ParameterTree) (t : Token) → is_fixed fixed.CloseParenthesis t.kind ≡ false → is_fixed fixed.Comma t.kind ≡ false → step (parameter_end h ps p) t ≡ refused
refused_end h ps p t f g = same_false (is_fixed fixed.Comma t.kind) _ _ g ∙ same_false (is_fixed fixed.CloseParenthesis t.kind) _ _ f

refused_parameter : (end : Token) (h : Head) (ps : List ParameterTree) (p : ParameterTree) (n : Option Identifier) (b : Option BracketsTree) (ts : List Token) → EndsWords end p.specifiers n b ts →
    is_fixed fixed.CloseParenthesis (first_of_all end ts).kind ≡ false → is_fixed fixed.Comma (first_of_all end ts).kind ≡ false → step (parameter_state h ps p n b) (first_of_all end ts) ≡ refused
refused_parameter end h ps p None None ts ends f g =
    let t = first_of_all end ts in
    ap (λ w. more_parameter h ps p.specifiers t w) ends.0 ∙ same_false (end_in_enum p.specifiers) _ _ ends.3 ∙ same_false (is_fixed fixed.Name t.kind) _ _ ends.1
    ∙ same_false (is_fixed fixed.OpenBracket t.kind) _ _ ends.2 ∙ same_false (is_fixed fixed.Comma t.kind) _ _ g ∙ same_false (is_fixed fixed.CloseParenthesis t.kind) _ _ f
refused_parameter end h ps p None (Some b) ts ends f g = refused_end h ps p (first_of_all end ts) f g
refused_parameter end h ps p (Some id) b ts ends f g = refused_end h ps p (first_of_all end ts) f g

module _ (end : Token) (h : Head) (ps : List ParameterTree) (p : ParameterTree) (n : Option Identifier) (b : Option BracketsTree) (ts : List Token) (ends : EndsWords end p.specifiers n b ts) where
  pub run_parameter_close : (t : Token) (rest : List Token) → Begins fixed.CloseParenthesis ts t rest → run end (parameter_state h ps p n b) ts ≡ run end (parameters_closed h (with_last ps p n b)) rest
  run_parameter_close t rest c =
      run_takes end (parameter_state h ps p n b) ts t rest _ _ c.cut
      (step_parameter_close end h ps p n b t rest (subst (λ q. EndsWords end p.specifiers n b q) c.cut ends) (is_this fixed.CloseParenthesis t.kind c.is)) (omega arith)

  pub run_parameter_comma : (t : Token) (rest : List Token) → p.name ≡ n → p.brackets ≡ b → Begins fixed.Comma ts t rest → run end (parameter_state h ps p n b) ts ≡ run end (parameter_comma h (ps ++ p ∷ [])) rest
  run_parameter_comma t rest same also c =
      run_takes end (parameter_state h ps p n b) ts t rest _ _ c.cut
      (step_parameter_comma end h ps p n b t rest (subst (λ q. EndsWords end p.specifiers n b q) c.cut ends) same also (is_this fixed.Comma t.kind c.is)) (omega arith)

  pub no_parameter_end : is_fixed fixed.CloseParenthesis (first_of_all end ts).kind ≡ false → is_fixed fixed.Comma (first_of_all end ts).kind ≡ false →
      run end (parameter_state h ps p n b) ts ≡ syntax (first_of_all end ts).at
  no_parameter_end f g = run_refused end (parameter_state h ps p n b) ts (refused_parameter end h ps p n b ts ends f g)
