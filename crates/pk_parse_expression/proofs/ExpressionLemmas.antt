-- What each function on expressions reads, put together from what the functions read that it calls.
use Rattle.std.proofs.Common.{◌≡◌, ℕ, ◌+◌, ◌<◌, ◌≤◌, List, [], ◌∷◌, ◌++◌, inl, inr, true, false, refl, sym, ap, subst, ◌∙◌, arith}
use Rattle.pk_ctypes.specs.declared.places.Pos.{Pos}
use Rattle.pk_lex.specs.declared.token.Token.{Token}
use Rattle.pk_ast.specs.declared.declarations.Specifier.{Specifier}
use Rattle.pk_ast.specs.declared.expressions.Identifier.{Identifier}
use Rattle.pk_ast.specs.declared.expressions.Expression.{Expression}
use Rattle.pk_ast.specs.declared.operators.BinaryOperator.{BinaryOperator}
use Rattle.pk_ast.specs.declared.operators.UnaryOperator.{UnaryOperator}
use Rattle.pk_ast.specs.declared.operators.StepOperator.{StepOperator}
use Rattle.pk_ast.specs.declared.operators.AssignmentOperator.{AssignmentOperator}
use Rattle.pk_ast.specs.Trees.{ExpressionTree, prefix, unary, cast, binary, conditional, assignment, comma, expression_then, OneOrMore}
use Rattle.pk_ast.specs.Views.{expression_tree, expression_trees}
use Rattle.pk_ast.specs.Lists.{one}
use Rattle.pk_grammar.specs.declared.failure.ParseError.{ParseError}
use Rattle.pk_grammar.specs.declared.failure.ParseError.TheVariants.{Syntax, Nesting}
use Rattle.pk_grammar.specs.declared.signs.Fixed.TheVariants as fixed
use Rattle.pk_grammar.specs.declared.signs.OperandStart.TheVariants as start
use Rattle.pk_grammar.specs.declared.signs.Operator.TheVariants as operator
use Rattle.pk_grammar.specs.Grammar.{strength, operators_in, commas_in}
use Rattle.pk_grammar.specs.Machine.Signs.{is_fixed, operand_start}
use Rattle.pk_grammar.specs.Machine.States.{Context, in_index, in_column, in_prefix, in_unary, in_cast, in_binary, in_choice, in_alternative, in_assignment, in_comma, operand, named, indexed, cast_specifiers, complete}
use Rattle.pk_grammar.specs.Machine.Steps.{operand_level, is_unary, one_more, end_in_enum}
use Rattle.pk_grammar.specs.Machine.Running.{first_of_all, run}
use Rattle.pk_parse_expression.specs.Parsing.{Begins, BeginsWith, past_words, AreWords, AreNoType, EndsAt, CastsIf, Anywhere, UpTo, Reads, Refuses, specifiers_from}
use Rattle.pk_grammar.proofs.CompleteSigns.{strength_most}
use Rattle.pk_parse_expression.proofs.RunLemmas.{fails_as, fails_syntax, fails_nesting, fails_memory}
use Rattle.pk_parse_expression.proofs.RunOperators.{run_binary, deep_binary, run_question, run_assignment}
use Rattle.pk_parse_expression.proofs.RunEnds.{run_prefix_end, run_unary_end, run_cast_end, run_binary_end, run_conditional_end, run_assignment_end, run_comma_end}
use Rattle.pk_parse_expression.proofs.RunOperands.{run_index, run_column, run_colon, run_comma, run_prefix, run_unary, run_cast_words, no_word_more, no_word_left, run_cast_close, no_cast_close, no_cast_type}

pub trees_push : (es : List Expression) (e : Expression) → expression_trees (es ++ e ∷ []) ≡ one_more (expression_trees es) (expression_tree e)
trees_push [] e = refl
trees_push (d ∷ es) e = ap (λ q. expression_then (expression_tree d) q) (trees_push es e)

pub le_more : (m : ℕ) {n : ℕ} → n ≤ m → n ≤ m + 1
le_more m h = omega arith

pub counts : (a b count more : ℕ) → a ≡ count → b ≡ more → a + 1 + b ≡ count + (1 + more)
counts a b count more e f = omega arith

pub ends_within : (end : Token) (ts : List Token) (s r : ℕ) → s ≡ r → EndsAt end s ts → EndsAt end r ts
ends_within end ts s r e h = omega arith

pub ends_binary : (end : Token) (ts : List Token) (o : BinaryOperator) (s : ℕ) → s ≡ strength o + 1 → EndsAt end s ts → EndsAt end 14 ts
ends_binary end ts o s e h = omega (arith, strength_most o)

-- an element
pub indexes : (end : Token) (n : ℕ) (id : Identifier) (k : Context) (ts : List Token) (t : Token) (after : List Token) (inside : ℕ) → Begins fixed.OpenBracket ts t after → inside ≡ n + 1 → inside ≤ 128 →
    run end (named n id k) ts ≡ run end (operand inside (in_index n id t.at k)) after
indexes end n id k ts t after inside b i h =
    run_index end n id k ts t after b (subst (λ q. q ≤ 128) i h) ∙ ap (λ q. run end (operand q (in_index n id t.at k)) after) (sym i)

pub indexes_column : (end : Token) (n : ℕ) (id : Identifier) (at : Pos) (e : ExpressionTree) (k : Context) (ts : List Token) (t : Token) (after : List Token) (inside : ℕ) → Begins fixed.OpenBracket ts t after →
    inside ≡ n + 1 → inside ≤ 128 → run end (indexed n id at e k) ts ≡ run end (operand inside (in_column n id at e t.at k)) after
indexes_column end n id at e k ts t after inside b i h =
    run_column end n id at e k ts t after b (subst (λ q. q ≤ 128) i h) ∙ ap (λ q. run end (operand q (in_column n id at e t.at k)) after) (sym i)

module _ (end : Token) (n : ℕ) (ts : List Token) where
  -- a prefix operator and its operand
  pub reads_prefix : (P : Context → Type 0) (t : Token) (rest last : List Token) (o : StepOperator) (inside : ℕ) (e whole : ExpressionTree) → ts ≡ t ∷ rest → operand_start t.kind ≡ start.Step o →
      inside ≡ n + 1 → inside ≤ 128 → Reads end (CastsIf false) (λ c. operand inside c) inside rest e last → EndsAt end 14 last → whole ≡ prefix o t.at e → Reads end P (λ c. operand n c) n ts whole last
  reads_prefix P t rest last o inside e whole cut s i h r ends w = λ k p.
      run_prefix end n k ts t rest cut o s (subst (λ q. q ≤ 128) i h)
      ∙ ap (λ q. run end (operand q (in_prefix n o t.at k)) rest) (sym i)
      ∙ r (in_prefix n o t.at k) refl
      ∙ run_prefix_end end n inside t.at e k last o ends
      ∙ ap (λ q. run end (complete n q k) last) (sym w)

  pub fails_prefix : (P : Context → Type 0) (t : Token) (rest : List Token) (o : StepOperator) (inside : ℕ) (x : ParseError) → ts ≡ t ∷ rest → operand_start t.kind ≡ start.Step o →
      inside ≡ n + 1 → inside ≤ 128 → Refuses end (CastsIf false) (λ c. operand inside c) rest x → Refuses end P (λ c. operand n c) ts x
  fails_prefix P t rest o inside x cut s i h r = λ k p.
      fails_as _ _ x (run_prefix end n k ts t rest cut o s (subst (λ q. q ≤ 128) i h) ∙ ap (λ q. run end (operand q (in_prefix n o t.at k)) rest) (sym i)) (r (in_prefix n o t.at k) refl)

  pub reads_unary : (P : Context → Type 0) (t : Token) (rest last : List Token) (o : UnaryOperator) (inside : ℕ) (e whole : ExpressionTree) → ts ≡ t ∷ rest → operand_start t.kind ≡ start.Unary o →
      inside ≡ n + 1 → inside ≤ 128 → Reads end (CastsIf true) (λ c. operand inside c) inside rest e last → EndsAt end 14 last → whole ≡ unary o t.at e → Reads end P (λ c. operand n c) n ts whole last
  reads_unary P t rest last o inside e whole cut s i h r ends w = λ k p.
      run_unary end n k ts t rest cut o s (subst (λ q. q ≤ 128) i h)
      ∙ ap (λ q. run end (operand q (in_unary n o t.at k)) rest) (sym i)
      ∙ r (in_unary n o t.at k) refl
      ∙ run_unary_end end n inside t.at e k last o ends
      ∙ ap (λ q. run end (complete n q k) last) (sym w)

  pub fails_unary : (P : Context → Type 0) (t : Token) (rest : List Token) (o : UnaryOperator) (inside : ℕ) (x : ParseError) → ts ≡ t ∷ rest → operand_start t.kind ≡ start.Unary o →
      inside ≡ n + 1 → inside ≤ 128 → Refuses end (CastsIf true) (λ c. operand inside c) rest x → Refuses end P (λ c. operand n c) ts x
  fails_unary P t rest o inside x cut s i h r = λ k p.
      fails_as _ _ x (run_unary end n k ts t rest cut o s (subst (λ q. q ≤ 128) i h) ∙ ap (λ q. run end (operand q (in_unary n o t.at k)) rest) (sym i)) (r (in_unary n o t.at k) refl)

  -- one more operand of a binary operator
  pub reads_binary : (level : ℕ) (left right whole : ExpressionTree) (rest after last : List Token) (o : BinaryOperator) (at : Pos) (count inside : ℕ) → level ≤ strength o →
      Reads end (UpTo level) (λ c. operand n c) n ts left rest → operators_in left ≡ count → BeginsWith (operator.Binary o) rest at after → inside ≡ n + (count + 1) → inside ≤ 128 →
      Reads end (UpTo (strength o + 1)) (λ c. operand inside c) inside after right last → EndsAt end (strength o + 1) last → whole ≡ binary o at left right →
      Reads end (UpTo level) (λ c. operand n c) n ts whole last
  reads_binary level left right whole rest after last o at count inside l r u b i h q ends w = λ k p.
      let same : n + (operators_in left + 1) ≡ inside = ap (λ m. n + (m + 1)) u ∙ sym i in
      let low : operand_level k ≤ strength o = omega arith in
      r k p
      ∙ run_binary end n left k rest at after o b low (subst (λ m. m ≤ 128) (sym same) h)
      ∙ ap (λ m. run end (operand m (in_binary n o at left k)) after) same
      ∙ q (in_binary n o at left k) (omega arith)
      ∙ run_binary_end end n inside at right k last o left ends low
      ∙ ap (λ m. run end (complete n m k) last) (sym w)

  pub fails_binary : (level : ℕ) (left : ExpressionTree) (rest after : List Token) (o : BinaryOperator) (at : Pos) (count inside : ℕ) (x : ParseError) → level ≤ strength o →
      Reads end (UpTo level) (λ c. operand n c) n ts left rest → operators_in left ≡ count → BeginsWith (operator.Binary o) rest at after → inside ≡ n + (count + 1) → inside ≤ 128 →
      Refuses end (UpTo (strength o + 1)) (λ c. operand inside c) after x → Refuses end (UpTo level) (λ c. operand n c) ts x
  fails_binary level left rest after o at count inside x l r u b i h q = λ k p.
      let same : n + (operators_in left + 1) ≡ inside = ap (λ m. n + (m + 1)) u ∙ sym i in
      let low : operand_level k ≤ strength o = omega arith in
      fails_as _ _ x
      (r k p ∙ run_binary end n left k rest at after o b low (subst (λ m. m ≤ 128) (sym same) h) ∙ ap (λ m. run end (operand m (in_binary n o at left k)) after) same)
      (q (in_binary n o at left k) (omega arith))

  pub sinks_binary : (level : ℕ) (left : ExpressionTree) (rest after : List Token) (o : BinaryOperator) (at : Pos) (count : ℕ) (x : ParseError) → level ≤ strength o →
      Reads end (UpTo level) (λ c. operand n c) n ts left rest → operators_in left ≡ count → BeginsWith (operator.Binary o) rest at after → 128 < n + (count + 1) →
      x ≡ Nesting at → Refuses end (UpTo level) (λ c. operand n c) ts x
  sinks_binary level left rest after o at count x l r u b h f = λ k p.
      let low : operand_level k ≤ strength o = omega arith in
      fails_nesting _ x at f (r k p ∙ deep_binary end n left k rest at after o b low (subst (λ m. 128 < n + (m + 1)) (sym u) h))

  -- a conditional
  pub asks : (test : ExpressionTree) (rest after : List Token) (at : Pos) (inside : ℕ) → Reads end (UpTo 3) (λ c. operand n c) n ts test rest → BeginsWith operator.Question rest at after →
      inside ≡ n + 1 → inside ≤ 128 → (k : Context) → operand_level k ≤ 2 → run end (operand n k) ts ≡ run end (operand inside (in_choice n at test k)) after
  asks test rest after at inside r b i h k p =
      r k (omega arith)
      ∙ run_question end n test k rest at after b p (subst (λ q. q ≤ 128) i h)
      ∙ ap (λ q. run end (operand q (in_choice n at test k)) after) (sym i)

  pub chooses : (test chosen : ExpressionTree) (rest after colon next : List Token) (at : Pos) (t : Token) (inside : ℕ) → Reads end (UpTo 3) (λ c. operand n c) n ts test rest →
      BeginsWith operator.Question rest at after → inside ≡ n + 1 → inside ≤ 128 → Reads end (UpTo 0) (λ c. operand inside c) inside after chosen colon → Begins fixed.Colon colon t next →
      (k : Context) → operand_level k ≤ 2 → run end (operand n k) ts ≡ run end (operand inside (in_alternative n at test chosen k)) next
  chooses test chosen rest after colon next at t inside r b i h y d k p =
      asks test rest after at inside r b i h k p
      ∙ y (in_choice n at test k) (omega arith)
      ∙ run_colon end n inside at chosen k colon t next test d (subst (λ q. q ≤ 128) i h)
      ∙ ap (λ q. run end (operand q (in_alternative n at test chosen k)) next) (sym i)

  pub reads_conditional : (test chosen other whole : ExpressionTree) (rest after colon next last : List Token) (at : Pos) (t : Token) (inside : ℕ) → Reads end (UpTo 3) (λ c. operand n c) n ts test rest →
      BeginsWith operator.Question rest at after → inside ≡ n + 1 → inside ≤ 128 → Reads end (UpTo 0) (λ c. operand inside c) inside after chosen colon → Begins fixed.Colon colon t next →
      Reads end (UpTo 2) (λ c. operand inside c) inside next other last → EndsAt end 2 last → whole ≡ conditional at test chosen other → Reads end (UpTo 2) (λ c. operand n c) n ts whole last
  reads_conditional test chosen other whole rest after colon next last at t inside r b i h y d q ends w = λ k p.
      chooses test chosen rest after colon next at t inside r b i h y d k p
      ∙ q (in_alternative n at test chosen k) (omega arith)
      ∙ run_conditional_end end n inside at other k last test chosen ends p
      ∙ ap (λ m. run end (complete n m k) last) (sym w)

  -- an assignment
  pub assigns : (left : ExpressionTree) (rest after : List Token) (o : AssignmentOperator) (at : Pos) (inside : ℕ) → Reads end (UpTo 2) (λ c. operand n c) n ts left rest →
      BeginsWith (operator.Assignment o) rest at after → is_unary left ≡ true → inside ≡ n + 1 → inside ≤ 128 → (k : Context) → operand_level k ≤ 1 →
      run end (operand n k) ts ≡ run end (operand inside (in_assignment n o at left k)) after
  assigns left rest after o at inside r b u i h k p =
      r k (omega arith)
      ∙ run_assignment end n left k rest at after o b p u (subst (λ q. q ≤ 128) i h)
      ∙ ap (λ q. run end (operand q (in_assignment n o at left k)) after) (sym i)

  pub reads_assignment : (left right whole : ExpressionTree) (rest after last : List Token) (o : AssignmentOperator) (at : Pos) (inside : ℕ) → Reads end (UpTo 2) (λ c. operand n c) n ts left rest →
      BeginsWith (operator.Assignment o) rest at after → is_unary left ≡ true → inside ≡ n + 1 → inside ≤ 128 → Reads end (UpTo 1) (λ c. operand inside c) inside after right last → EndsAt end 1 last →
      whole ≡ assignment o at left right → Reads end (UpTo 1) (λ c. operand n c) n ts whole last
  reads_assignment left right whole rest after last o at inside r b u i h q ends w = λ k p.
      assigns left rest after o at inside r b u i h k p
      ∙ q (in_assignment n o at left k) (omega arith)
      ∙ run_assignment_end end n inside at right k last o left ends
      ∙ ap (λ m. run end (complete n m k) last) (sym w)

  -- one more expression behind a comma
  pub joins_comma : (left : ExpressionTree) (rest after : List Token) (t : Token) (count inside : ℕ) → Reads end (UpTo 0) (λ c. operand n c) n ts left rest → commas_in left ≡ count →
      Begins fixed.Comma rest t after → inside ≡ n + (count + 1) → inside ≤ 128 → (k : Context) → operand_level k ≤ 0 →
      run end (operand n k) ts ≡ run end (operand inside (in_comma n t.at left k)) after
  joins_comma left rest after t count inside r u b i h k p =
      let same : n + (commas_in left + 1) ≡ inside = ap (λ m. n + (m + 1)) u ∙ sym i in
      r k p ∙ run_comma end n n t.at left k rest t after b p (subst (λ m. m ≤ 128) (sym same) h) ∙ ap (λ m. run end (operand m (in_comma n t.at left k)) after) same

  pub reads_comma : (left right whole : ExpressionTree) (rest after last : List Token) (t : Token) (count inside : ℕ) → Reads end (UpTo 0) (λ c. operand n c) n ts left rest → commas_in left ≡ count →
      Begins fixed.Comma rest t after → inside ≡ n + (count + 1) → inside ≤ 128 → Reads end (UpTo 1) (λ c. operand inside c) inside after right last → EndsAt end 1 last →
      whole ≡ comma t.at left right → Reads end (UpTo 0) (λ c. operand n c) n ts whole last
  reads_comma left right whole rest after last t count inside r u b i h q ends w = λ k p.
      joins_comma left rest after t count inside r u b i h k p
      ∙ q (in_comma n t.at left k) (omega arith)
      ∙ run_comma_end end n inside t.at right k last left ends
      ∙ ap (λ m. run end (complete n m k) last) (sym w)

-- A cast, of which the first word was read

pub no_cast_words : (end : Token) (n : ℕ) (at : Pos) (first : Specifier) (ts : List Token) (x : ParseError) → AreNoType end first ts x → n + 1 ≤ 128 → Refuses end Anywhere (λ c. cast_specifiers n at (one first) c) ts x
no_cast_words end n at first ts x (inl e) h = λ k p. fails_memory _ x e
no_cast_words end n at first ts x (inr e) h = λ k p.
    fails_syntax _ x _ e.1 (run_cast_words end n at k h ts (one first) ∙ no_cast_type end n at (specifiers_from first ts) k (past_words first ts) (no_word_left end first ts) e.0)

module _ (end : Token) (n : ℕ) (at : Pos) (first : Specifier) (ts : List Token) (specs : OneOrMore Specifier) (rest : List Token) (w : AreWords first ts specs rest × (end_in_enum specs ≡ false)) where
  words_read : (k : Context) → n + 1 ≤ 128 → run end (cast_specifiers n at (one first) k) ts ≡ run end (cast_specifiers n at specs k) rest
  words_read k h =
      run_cast_words end n at k h ts (one first)
      ∙ ap (λ q. run end (cast_specifiers n at q k) (past_words first ts)) (sym w.0.are)
      ∙ ap (λ q. run end (cast_specifiers n at specs k) q) (sym w.0.past)

  pub closes_cast : (t : Token) (after : List Token) → Begins fixed.CloseParenthesis rest t after → n + 1 ≤ 128 → (k : Context) →
      run end (cast_specifiers n at (one first) k) ts ≡ run end (operand (n + 1) (in_cast n at specs k)) after
  closes_cast t after b h k = words_read k h ∙ run_cast_close end n at specs k rest t after w.1 b h

  pub unclosed_cast : (x : ParseError) → is_fixed fixed.CloseParenthesis (first_of_all end rest).kind ≡ false → x ≡ Syntax (first_of_all end rest).at → n + 1 ≤ 128 →
      Refuses end Anywhere (λ c. cast_specifiers n at (one first) c) ts x
  unclosed_cast x f e h = λ k p.
      fails_syntax _ x _ e (words_read k h ∙ no_cast_close end n at specs k rest (no_word_more end first ts specs rest w.0) w.1 f)

  pub reads_cast : (t : Token) (after last : List Token) (e whole : ExpressionTree) → Begins fixed.CloseParenthesis rest t after → n + 1 ≤ 128 →
      Reads end (CastsIf true) (λ c. operand (n + 1) c) (n + 1) after e last → EndsAt end 14 last → whole ≡ cast at specs e → Reads end Anywhere (λ c. cast_specifiers n at (one first) c) n ts whole last
  reads_cast t after last e whole b h q ends f = λ k p.
      closes_cast t after b h k ∙ q (in_cast n at specs k) refl ∙ run_cast_end end n (n + 1) at e k last specs ends ∙ ap (λ m. run end (complete n m k) last) (sym f)
