-- What is answered where operands begin and end.
use Rattle.std.proofs.Common.{◌≡◌, ℕ, ◌+◌, ◌<◌, ◌≤◌, List, [], ◌∷◌, Option, Some, None, Bool, true, false, refl, sym, ap, ◌∙◌}
use Rattle.std.specs.Prelude.{nat_le, if◌then◌else◌}
use Rattle.pk_ctypes.specs.declared.places.Pos.{Pos}
use Rattle.pk_lex.specs.declared.token.Token.{Token}
use Rattle.pk_ast.specs.declared.declarations.Specifier.{Specifier}
use Rattle.pk_ast.specs.declared.declarations.SpecifierWord.{SpecifierWord}
use Rattle.pk_ast.specs.declared.expressions.Identifier.{Identifier}
use Rattle.pk_ast.specs.declared.operators.UnaryOperator.{UnaryOperator}
use Rattle.pk_ast.specs.declared.operators.StepOperator.{StepOperator}
use Rattle.pk_ast.specs.Trees.{ExpressionTree, name, call, index, element, constant, character, parenthesized, ExpressionTrees, no_expressions, OneOrMore}
use Rattle.pk_ast.specs.Lists.{one, with_last}
use Rattle.pk_grammar.specs.declared.signs.Fixed.TheVariants as fixed
use Rattle.pk_grammar.specs.declared.signs.OperandStart.{OperandStart}
use Rattle.pk_grammar.specs.declared.signs.OperandStart.TheVariants as start
use Rattle.pk_grammar.specs.Languages.{identifier_of}
use Rattle.pk_grammar.specs.Grammar.{commas_in, all_of}
use Rattle.pk_grammar.specs.Machine.Signs.{is_fixed, operand_start, specifier_word, shape_of, wants_tag}
use Rattle.pk_grammar.specs.Machine.States.{Context, in_parentheses, in_index, in_column, in_call, in_prefix, in_unary, in_cast, in_choice, in_alternative, in_comma, State, operand, named, indexed, arguments, opened, cast_specifiers, complete}
use Rattle.pk_grammar.specs.Machine.Steps.{taken, begin_operand, operand_level, open_cast, more_cast, specifier_at, next_word, end_in_enum, one_more, step}
use Rattle.pk_grammar.specs.Machine.Running.{syntax, deep, first_of_all, run}
use Rattle.pk_parse_expression.specs.Parsing.{Begins, BeginsWithWord, TypeWords, words, words_then, specifiers_from, past_words, AreWords}
use Rattle.pk_grammar.proofs.CompleteOperands.{same_false, step_call, step_index, step_column, step_no_arguments, step_more_cast, step_cast_end, step_no_cast, step_colon, step_comma, step_parenthesized, step_indexed, step_element, step_called, step_argument}
use Rattle.pk_grammar.proofs.SpellsSigns.{is_this}
use Rattle.pk_parse_expression.proofs.RunLemmas.{run_takes, run_deep, run_refused, run_alike, first_is}

-- Signs that end what is open

module _ (end : Token) (n m : ℕ) (at : Pos) (e : ExpressionTree) (c : Context) (ts : List Token) (t : Token) (rest : List Token) where
  pub run_parenthesized : Begins fixed.CloseParenthesis ts t rest → n ≤ 128 → run end (complete m e (in_parentheses n at c)) ts ≡ run end (complete n (parenthesized at e) c) rest
  run_parenthesized b h = run_takes end (complete m e (in_parentheses n at c)) ts t rest _ (complete n (parenthesized at e) c) b.cut (step_parenthesized n m at e c t (is_this fixed.CloseParenthesis t.kind b.is)) h

  pub run_indexed : (id : Identifier) → Begins fixed.CloseBracket ts t rest → n ≤ 128 → run end (complete m e (in_index n id at c)) ts ≡ run end (indexed n id at e c) rest
  run_indexed id b h = run_takes end (complete m e (in_index n id at c)) ts t rest _ (indexed n id at e c) b.cut (step_indexed n m id at e c t (is_this fixed.CloseBracket t.kind b.is)) h

  pub run_element : (id : Identifier) (d : ExpressionTree) (column_at : Pos) → Begins fixed.CloseBracket ts t rest → n ≤ 128 →
      run end (complete m e (in_column n id at d column_at c)) ts ≡ run end (complete n (element id at d column_at e) c) rest
  run_element id d column_at b h =
      run_takes end (complete m e (in_column n id at d column_at c)) ts t rest _ (complete n (element id at d column_at e) c) b.cut (step_element n m id at d column_at e c t (is_this fixed.CloseBracket t.kind b.is)) h

  pub run_called : (id : Identifier) (es : ExpressionTrees) → Begins fixed.CloseParenthesis ts t rest → n ≤ 128 → run end (complete m e (in_call n id es c)) ts ≡ run end (complete n (call id (one_more es e)) c) rest
  run_called id es b h = run_takes end (complete m e (in_call n id es c)) ts t rest _ (complete n (call id (one_more es e)) c) b.cut (step_called n m id es e c t (is_this fixed.CloseParenthesis t.kind b.is)) h

  pub run_argument : (id : Identifier) (es : ExpressionTrees) → Begins fixed.Comma ts t rest → n + 1 ≤ 128 →
      run end (complete m e (in_call n id es c)) ts ≡ run end (operand (n + 1) (in_call n id (one_more es e) c)) rest
  run_argument id es b h = run_takes end (complete m e (in_call n id es c)) ts t rest _ (operand (n + 1) (in_call n id (one_more es e) c)) b.cut (step_argument n m id es e c t (is_this fixed.Comma t.kind b.is)) h

  pub run_colon : (d : ExpressionTree) → Begins fixed.Colon ts t rest → n + 1 ≤ 128 → run end (complete m e (in_choice n at d c)) ts ≡ run end (operand (n + 1) (in_alternative n at d e c)) rest
  run_colon d b h = run_takes end (complete m e (in_choice n at d c)) ts t rest _ (operand (n + 1) (in_alternative n at d e c)) b.cut (step_colon n m at d e c t (is_this fixed.Colon t.kind b.is)) h

  pub run_comma : Begins fixed.Comma ts t rest → operand_level c ≤ 0 → n + (commas_in e + 1) ≤ 128 → run end (complete n e c) ts ≡ run end (operand (n + (commas_in e + 1)) (in_comma n t.at e c)) rest
  run_comma b l h = run_takes end (complete n e c) ts t rest _ (operand (n + (commas_in e + 1)) (in_comma n t.at e c)) b.cut (step_comma n t.at e c t (is_this fixed.Comma t.kind b.is, refl) l) h

  pub deep_comma : Begins fixed.Comma ts t rest → operand_level c ≤ 0 → 128 < n + (commas_in e + 1) → run end (complete n e c) ts ≡ deep t.at
  deep_comma b l h = run_deep end (complete n e c) ts t rest _ _ b.cut (step_comma n t.at e c t (is_this fixed.Comma t.kind b.is, refl) l) h

-- Operands begin

module _ (end : Token) (n : ℕ) (c : Context) (ts : List Token) (t : Token) (rest : List Token) (cut : ts ≡ t ∷ rest) where
  begins_as : (s : OperandStart) → operand_start t.kind ≡ s → step (operand n c) t ≡ begin_operand n c t s
  begins_as s e = ap (λ q. begin_operand n c t q) e

  pub run_name : operand_start t.kind ≡ start.Name → n ≤ 128 → run end (operand n c) ts ≡ run end (named n (identifier_of t) c) rest
  run_name e h = run_takes end (operand n c) ts t rest _ (named n (identifier_of t) c) cut (begins_as _ e) h

  pub run_constant : (ty : _) (v : ℕ) → operand_start t.kind ≡ start.Constant ty v → n ≤ 128 → run end (operand n c) ts ≡ run end (complete n (constant t.at ty v) c) rest
  run_constant ty v e h = run_takes end (operand n c) ts t rest _ (complete n (constant t.at ty v) c) cut (begins_as _ e) h

  pub run_character : (v : _) → operand_start t.kind ≡ start.Character v → n ≤ 128 → run end (operand n c) ts ≡ run end (complete n (character t.at v) c) rest
  run_character v e h = run_takes end (operand n c) ts t rest _ (complete n (character t.at v) c) cut (begins_as _ e) h

  pub run_open : operand_start t.kind ≡ start.Parenthesis → n + 1 ≤ 128 → run end (operand n c) ts ≡ run end (opened n t.at c) rest
  run_open e h = run_takes end (operand n c) ts t rest _ (opened n t.at c) cut (begins_as _ e) h

  pub deep_open : operand_start t.kind ≡ start.Parenthesis → 128 < n + 1 → run end (operand n c) ts ≡ deep t.at
  deep_open e h = run_deep end (operand n c) ts t rest _ _ cut (begins_as _ e) h

  pub run_prefix : (o : StepOperator) → operand_start t.kind ≡ start.Step o → n + 1 ≤ 128 → run end (operand n c) ts ≡ run end (operand (n + 1) (in_prefix n o t.at c)) rest
  run_prefix o e h = run_takes end (operand n c) ts t rest _ (operand (n + 1) (in_prefix n o t.at c)) cut (begins_as _ e) h

  pub deep_prefix : (o : StepOperator) → operand_start t.kind ≡ start.Step o → 128 < n + 1 → run end (operand n c) ts ≡ deep t.at
  deep_prefix o e h = run_deep end (operand n c) ts t rest _ _ cut (begins_as _ e) h

  pub run_unary : (o : UnaryOperator) → operand_start t.kind ≡ start.Unary o → n + 1 ≤ 128 → run end (operand n c) ts ≡ run end (operand (n + 1) (in_unary n o t.at c)) rest
  run_unary o e h = run_takes end (operand n c) ts t rest _ (operand (n + 1) (in_unary n o t.at c)) cut (begins_as _ e) h

  pub deep_unary : (o : UnaryOperator) → operand_start t.kind ≡ start.Unary o → 128 < n + 1 → run end (operand n c) ts ≡ deep t.at
  deep_unary o e h = run_deep end (operand n c) ts t rest _ _ cut (begins_as _ e) h

  pub no_operand : operand_start t.kind ≡ start.Other → run end (operand n c) ts ≡ syntax t.at
  no_operand e =
      let f = first_is end ts t rest cut in
      run_refused end _ ts (ap (λ q. step (operand n c) q) f ∙ begins_as _ e) ∙ ap (λ q. syntax q.at) f

pub operand_at_end : (end : Token) (n : ℕ) (c : Context) (ts : List Token) → ts ≡ [] → run end (operand n c) ts ≡ syntax end.at
operand_at_end end n c ts e = ap (run end (operand n c)) e ∙ run_refused end (operand n c) [] refl

-- Names and calls

module _ (end : Token) (n : ℕ) (id : Identifier) (c : Context) (ts : List Token) where
  pub run_call : (t : Token) (rest : List Token) → Begins fixed.OpenParenthesis ts t rest → n + 1 ≤ 128 → run end (named n id c) ts ≡ run end (arguments n id c) rest
  run_call t rest b h = run_takes end (named n id c) ts t rest _ (arguments n id c) b.cut (step_call n id c t (is_this fixed.OpenParenthesis t.kind b.is)) h

  pub deep_call : (t : Token) (rest : List Token) → Begins fixed.OpenParenthesis ts t rest → 128 < n + 1 → run end (named n id c) ts ≡ deep t.at
  deep_call t rest b h = run_deep end (named n id c) ts t rest _ _ b.cut (step_call n id c t (is_this fixed.OpenParenthesis t.kind b.is)) h

  pub run_index : (t : Token) (rest : List Token) → Begins fixed.OpenBracket ts t rest → n + 1 ≤ 128 → run end (named n id c) ts ≡ run end (operand (n + 1) (in_index n id t.at c)) rest
  run_index t rest b h = run_takes end (named n id c) ts t rest _ (operand (n + 1) (in_index n id t.at c)) b.cut (step_index n id t.at c t (is_this fixed.OpenBracket t.kind b.is, refl)) h

  pub deep_index : (t : Token) (rest : List Token) → Begins fixed.OpenBracket ts t rest → 128 < n + 1 → run end (named n id c) ts ≡ deep t.at
  deep_index t rest b h = run_deep end (named n id c) ts t rest _ _ b.cut (step_index n id t.at c t (is_this fixed.OpenBracket t.kind b.is, refl)) h

  pub run_name_alone : is_fixed fixed.OpenParenthesis (first_of_all end ts).kind ≡ false → is_fixed fixed.OpenBracket (first_of_all end ts).kind ≡ false →
      run end (named n id c) ts ≡ run end (complete n (name id) c) ts
  run_name_alone f g =
      let t = first_of_all end ts in
      run_alike end _ _ ts (same_false (is_fixed fixed.OpenParenthesis t.kind) _ _ f ∙ same_false (is_fixed fixed.OpenBracket t.kind) _ _ g)

  pub run_no_arguments : (t : Token) (rest : List Token) → Begins fixed.CloseParenthesis ts t rest → n ≤ 128 → run end (arguments n id c) ts ≡ run end (complete n (call id no_expressions) c) rest
  run_no_arguments t rest b h = run_takes end (arguments n id c) ts t rest _ (complete n (call id no_expressions) c) b.cut (step_no_arguments n id c t (is_this fixed.CloseParenthesis t.kind b.is)) h

  pub run_arguments : is_fixed fixed.CloseParenthesis (first_of_all end ts).kind ≡ false → run end (arguments n id c) ts ≡ run end (operand (n + 1) (in_call n id no_expressions c)) ts
  run_arguments f = let t = first_of_all end ts in run_alike end _ _ ts (same_false (is_fixed fixed.CloseParenthesis t.kind) _ _ f)

-- Behind an index

module _ (end : Token) (n : ℕ) (id : Identifier) (at : Pos) (e : ExpressionTree) (c : Context) (ts : List Token) where
  pub run_column : (t : Token) (rest : List Token) → Begins fixed.OpenBracket ts t rest → n + 1 ≤ 128 → run end (indexed n id at e c) ts ≡ run end (operand (n + 1) (in_column n id at e t.at c)) rest
  run_column t rest b h = run_takes end (indexed n id at e c) ts t rest _ (operand (n + 1) (in_column n id at e t.at c)) b.cut (step_column n id at e t.at c t (is_this fixed.OpenBracket t.kind b.is, refl)) h

  pub deep_column : (t : Token) (rest : List Token) → Begins fixed.OpenBracket ts t rest → 128 < n + 1 → run end (indexed n id at e c) ts ≡ deep t.at
  deep_column t rest b h = run_deep end (indexed n id at e c) ts t rest _ _ b.cut (step_column n id at e t.at c t (is_this fixed.OpenBracket t.kind b.is, refl)) h

  pub run_no_column : is_fixed fixed.OpenBracket (first_of_all end ts).kind ≡ false → run end (indexed n id at e c) ts ≡ run end (complete n (index id at e) c) ts
  run_no_column f = let t = first_of_all end ts in run_alike end _ _ ts (same_false (is_fixed fixed.OpenBracket t.kind) _ _ f)

-- Parentheses and casts

module _ (end : Token) (n : ℕ) (at : Pos) (c : Context) (ts : List Token) where
  pub run_inner : specifier_word (first_of_all end ts) ≡ None → run end (opened n at c) ts ≡ run end (operand (n + 1) (in_parentheses n at c)) ts
  run_inner e = let t = first_of_all end ts in run_alike end _ _ ts (ap (λ w. open_cast n at c t w) e)

  pub run_cast : (s : Specifier) (rest : List Token) → BeginsWithWord specifier_word ts s rest → nat_le (operand_level c) 13 ≡ true → n + 1 ≤ 128 →
      run end (opened n at c) ts ≡ run end (cast_specifiers n at (one s) c) rest
  run_cast s rest b l h =
      run_takes end _ ts b.token rest _ _ b.cut (ap (λ w. open_cast n at c b.token w) b.is ∙ rw l) h
      ∙ ap (λ q. run end (cast_specifiers n at (one q) c) rest) (sym b.specifier)

  pub no_cast : (s : Specifier) (rest : List Token) → BeginsWithWord specifier_word ts s rest → nat_le (operand_level c) 13 ≡ false → run end (opened n at c) ts ≡ syntax s.at
  no_cast s rest b l =
      let f = first_is end ts b.token rest b.cut in
      run_refused end _ ts (ap (λ t. step (opened n at c) t) f ∙ ap (λ w. open_cast n at c b.token w) b.is ∙ rw l)
      ∙ ap (λ t. syntax t.at) f ∙ ap (λ (q : Specifier). syntax q.at) (sym b.specifier)

-- a state that takes the words of a type, one after another
module _ (end : Token) (state : OneOrMore Specifier → State) (n : ℕ) (limit : n ≤ 128)
    (takes : (done : OneOrMore Specifier) (t : Token) (w : SpecifierWord) → next_word done t ≡ Some w → step (state done) t ≡ taken n (state (with_last done (specifier_at t w)))) where
  abbrev LeadsTo : OneOrMore Specifier → List Token → TypeWords → Type 0
  LeadsTo done ts w = run end (state done) ts ≡ run end (state w.0) w.1

  pub run_words : (ts : List Token) (done : OneOrMore Specifier) → LeadsTo done ts (words done ts)
  unfolding words
  run_words [] done = refl
  run_words (t ∷ ts) done = by_word (λ q. run_words ts q) (next_word done t) refl
    where
      by_word : ((q : OneOrMore Specifier) → LeadsTo q ts (words q ts)) → (o : Option SpecifierWord) → next_word done t ≡ o → LeadsTo done (t ∷ ts) (words_then done t ts o (λ q. words q ts))
      by_word on None e = refl
      by_word on (Some w) e = run_takes end (state done) (t ∷ ts) t ts n _ refl (takes done t w e) limit ∙ on (with_last done (specifier_at t w))

pub same_both : {A : Type 0} (b : Bool) (x : A) → (if b then x else x) ≡ x
same_both true x = refl
same_both false x = refl

-- behind them no other one comes
abbrev EndsWords : Token → TypeWords → Type 0
EndsWords end w = next_word w.0 (first_of_all end w.1) ≡ None

no_word_past : (end : Token) (ts : List Token) (done : OneOrMore Specifier) → EndsWords end (words done ts)
unfolding words
no_word_past end [] done = same_both (wants_tag (shape_of (all_of done))) None
no_word_past end (t ∷ ts) done = by_word (λ q. no_word_past end ts q) (next_word done t) refl
  where
    by_word : ((q : OneOrMore Specifier) → EndsWords end (words q ts)) → (o : Option SpecifierWord) → next_word done t ≡ o → EndsWords end (words_then done t ts o (λ q. words q ts))
    by_word on None e = e
    by_word on (Some w) e = on (with_last done (specifier_at t w))

pub no_word_more : (end : Token) (first : Specifier) (ts : List Token) (specs : OneOrMore Specifier) (rest : List Token) → AreWords first ts specs rest → next_word specs (first_of_all end rest) ≡ None
no_word_more end first ts specs rest w =
    ap (λ q. next_word q (first_of_all end rest)) w.are ∙ ap (λ q. next_word (specifiers_from first ts) (first_of_all end q)) w.past ∙ no_word_past end ts (one first)

pub no_word_left : (end : Token) (first : Specifier) (ts : List Token) → next_word (specifiers_from first ts) (first_of_all end (past_words first ts)) ≡ None
no_word_left end first ts = no_word_past end ts (one first)

pub run_cast_words : (end : Token) (n : ℕ) (at : Pos) (c : Context) → n + 1 ≤ 128 → (ts : List Token) (specs : OneOrMore Specifier) →
    run end (cast_specifiers n at specs c) ts ≡ run end (cast_specifiers n at (words specs ts).0 c) (words specs ts).1
run_cast_words end n at c h ts specs = run_words end (λ q. cast_specifiers n at q c) (n + 1) h (λ q t w e. step_more_cast n at q c t w e) ts specs

module _ (end : Token) (n : ℕ) (at : Pos) (specs : OneOrMore Specifier) (c : Context) (ts : List Token) where
  pub run_cast_close : (t : Token) (rest : List Token) → end_in_enum specs ≡ false → Begins fixed.CloseParenthesis ts t rest → n + 1 ≤ 128 →
      run end (cast_specifiers n at specs c) ts ≡ run end (operand (n + 1) (in_cast n at specs c)) rest
  run_cast_close t rest e b h = run_takes end (cast_specifiers n at specs c) ts t rest _ (operand (n + 1) (in_cast n at specs c)) b.cut (step_cast_end n at specs c t e (is_this fixed.CloseParenthesis t.kind b.is)) h

  pub no_cast_close : next_word specs (first_of_all end ts) ≡ None → end_in_enum specs ≡ false → is_fixed fixed.CloseParenthesis (first_of_all end ts).kind ≡ false →
      run end (cast_specifiers n at specs c) ts ≡ syntax (first_of_all end ts).at
  no_cast_close e g f =
      let t = first_of_all end ts in
      run_refused end _ ts (ap (λ w. more_cast n at specs c t w) e ∙ same_false (end_in_enum specs) _ _ g ∙ same_false (is_fixed fixed.CloseParenthesis t.kind) _ _ f)

  pub no_cast_type : next_word specs (first_of_all end ts) ≡ None → end_in_enum specs ≡ true → run end (cast_specifiers n at specs c) ts ≡ syntax (first_of_all end ts).at
  no_cast_type e g = let t = first_of_all end ts in run_refused end _ ts (step_no_cast n at specs c t e g)
