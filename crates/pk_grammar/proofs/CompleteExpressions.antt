-- Each expression of the grammar is read, up to any token that it ends at.
use Rattle.std.proofs.Common.{◌≡◌, ◌≢◌, ℕ, ◌+◌, ◌≤◌, inl, Some, List, [], ◌∷◌, ◌++◌, refl, sym, ap, subst, ◌∙◌, arith, append_assoc, append-nil}
use Rattle.pk_ctypes.specs.declared.places.Pos.{Pos}
use Rattle.pk_lex.specs.declared.token.Token.{Token}
use Rattle.pk_lex.specs.declared.token.Kind.{Kind}
use Rattle.pk_lex.specs.declared.token.Kind.TheVariants as kind
use Rattle.pk_lex.specs.declared.token.Punctuator.TheVariants as mark
use Rattle.pk_ast.specs.declared.declarations.Specifier.{Specifier}
use Rattle.pk_ast.specs.declared.declarations.SpecifierWord.{SpecifierWord}
use Rattle.pk_ast.specs.declared.expressions.Identifier.{Identifier}
use Rattle.pk_ast.specs.declared.operators.BinaryOperator.{BinaryOperator}
use Rattle.pk_ast.specs.declared.operators.UnaryOperator.{UnaryOperator}
use Rattle.pk_ast.specs.declared.operators.StepOperator.{StepOperator}
use Rattle.pk_ast.specs.declared.operators.AssignmentOperator.{AssignmentOperator}
use Rattle.pk_ast.specs.Trees.{OneOrMore, ExpressionTree, name, call, index, element, constant, character, parenthesized, postfix, prefix, unary, cast, binary, conditional, assignment, comma, ExpressionTrees, no_expressions, expression_then}
use Rattle.pk_ast.specs.Lists.{one, with_last}
use Rattle.pk_grammar.specs.declared.signs.OperandStart.{OperandStart}
use Rattle.pk_grammar.specs.declared.signs.OperandStart.TheVariants as start
use Rattle.pk_grammar.specs.declared.signs.Shape.TheVariants as shape
use Rattle.pk_grammar.specs.Languages.{Marked, One, Identified, ◌⊙◌}
use Rattle.pk_grammar.specs.Grammar.{unary_sign, step_sign, strength, Fits, AllFit, operators_in, commas_in, spelled, spelled_list, spelled_more, all_of, words, specifiers, punctuator, specifier_list}
use Rattle.pk_grammar.specs.Machine.Signs.{operand_start, operator_of, specifier_word, shape_of}
use Rattle.pk_grammar.specs.Machine.States.{Context, in_parentheses, in_index, in_column, in_call, in_prefix, in_unary, in_cast, in_binary, in_choice, in_alternative, in_assignment, in_comma, State, operand, named, opened, cast_specifiers, complete}
use Rattle.pk_grammar.specs.Machine.Steps.{Verdict, taken, operand_level, one_more, specifier_at, step, next_word}
use Rattle.pk_grammar.proofs.CompleteLists.{tokens_of, Reads, reads_both, reads_one, reads_none, reads_from, reads_to, reads_head, reads_sign, reads_last, regrouped, reads_join_none}
use Rattle.pk_grammar.proofs.CompleteSigns.{takes, strength_most, takes_no_unary, sign_binary, sign_step, sign_assignment, sign_close, sign_close_bracket, sign_comma, sign_question, unary_start, step_start, Begins, begins}
use Rattle.pk_grammar.proofs.CompleteReduced.{reduced_prefix, reduced_unary, reduced_cast, reduced_binary, reduced_alternative, reduced_assignment, reduced_comma, complete_same}
use Rattle.pk_grammar.proofs.CompleteOperands.{Ends, ends_at_sign, ends_at_colon, step_name, step_constant, step_character, step_open, step_prefix, step_unary, step_named, step_call, step_index, step_no_column, step_column, step_no_arguments, step_arguments, step_opened, step_cast, step_more_cast, step_cast_end, step_binary, step_postfix, step_question, step_colon, step_assignment, step_comma, step_parenthesized, step_indexed, step_element, step_called, step_argument}
use Rattle.pk_grammar.proofs.WordLemmas.{Continues, continues_on, shape_with_last, next_is, first_is, ends_in_no_enum}

-- The first token of an expression

pub record Starts (ms : List Marked) : Type 0 where
  pub token : Token
  pub nesting : ℕ
  pub more : List Marked
  pub is : ms ≡ record { token = token; nesting = nesting } ∷ more
  pub starts : operand_start token.kind ≢ start.Other

starts_front : {P Q : ℕ → List Marked → Type 0} {n : ℕ} {ts : List Marked} (h : (P ⊙ Q) n ts) → Starts h.front → Starts ts
starts_front h s = record { token = s.token; nesting = s.nesting; more = s.more ++ h.back; is = h.cut ∙ ap (λ ts. ts ++ h.back) s.is; starts = s.starts }

starts_one : {P : Token → Type 0} {n : ℕ} {ts : List Marked} (h : One P n ts) → operand_start h.token.kind ≢ start.Other → Starts ts
starts_one {n = n} h s = record { token = h.token; nesting = n; more = []; is = h.is; starts = s }

kind_starts : (k k' : Kind) (o : OperandStart) → k ≡ k' → operand_start k' ≡ o → o ≢ start.Other → operand_start k ≢ start.Other
kind_starts k k' o e f n g = n (sym f ∙ ap operand_start (sym e) ∙ g)

name_starts : {id : Identifier} {n : ℕ} {ts : List Marked} → Identified id n ts → Starts ts
name_starts h = starts_one h (kind_starts h.token.kind kind.Name _ h.holds.0 refl (λ e. cc))

pub starts : (e : ExpressionTree) (n : ℕ) (ms : List Marked) → spelled e n ms → Starts ms
unfolding spelled
starts (name id) n ms h = name_starts h
starts (call id es) n ms h = starts_front h (name_starts h.first)
starts (index id at e) n ms h = starts_front h (name_starts h.first)
starts (element id at e column_at c) n ms h = starts_front h (name_starts h.first)
starts (constant at t v) n ms h = starts_one h (kind_starts h.token.kind (kind.Constant t v) _ h.holds.0 refl (λ e. cc))
starts (character at v) n ms h = starts_one h (kind_starts h.token.kind (kind.Character v) _ h.holds.0 refl (λ e. cc))
starts (parenthesized at e) n ms h = starts_front h (starts_front h.first (starts_one h.first.first (kind_starts h.first.first.token.kind (kind.Punctuator mark.OpenParenthesis) _ h.first.first.holds.0 refl (λ e. cc))))
starts (postfix o at e) n ms h = starts_front h (starts e n h.front h.first)
starts (prefix o at e) n ms h = starts_front h (starts_one h.first (kind_starts h.first.token.kind (kind.Punctuator (step_sign o)) _ h.first.holds.0 (step_start o) (λ e. cc)))
starts (unary o at e) n ms h = starts_front h (starts_one h.first (kind_starts h.first.token.kind (kind.Punctuator (unary_sign o)) _ h.first.holds.0 (unary_start o) (λ e. cc)))
starts (cast at specs e) n ms h = starts_front h (starts_one h.first (kind_starts h.first.token.kind (kind.Punctuator mark.OpenParenthesis) _ h.first.holds.0 refl (λ e. cc)))
starts (binary o at a b) n ms h = starts_front h (starts a n h.front h.first)
starts (conditional at c a b) n ms h = starts_front h (starts c n h.front h.first)
starts (assignment o at a b) n ms h = starts_front h (starts a n h.front h.first)
starts (comma at a b) n ms h = starts_front h (starts a n h.front h.first)

-- where a state does what an operand does at the first token
pub from_operand : {s s' r : State} {rest : List Token} (e : ExpressionTree) (n : ℕ) (ms : List Marked) → spelled e n ms → ((t : Token) → Begins t.kind → step s t ≡ step s' t) →
    Reads s' ms r rest → Reads s ms r rest
from_operand {s} {s'} {r} {rest} e n ms h same g =
    let f = starts e n ms h in
    subst (λ ms. Reads s ms r rest) (sym f.is)
    (reads_from f.token f.nesting f.more (same f.token (begins f.token.kind f.starts)) (subst (λ ms. Reads s' ms r rest) f.is g))

pub from_operand_more : {s s' r : State} {rest : List Token} {Q : ℕ → List Marked → Type 0} (e : ExpressionTree) (n : ℕ) (ms : List Marked) → (spelled e ⊙ Q) n ms →
    ((t : Token) → Begins t.kind → step s t ≡ step s' t) → Reads s' ms r rest → Reads s ms r rest
from_operand_more {s} {s'} {r} {rest} e n ms h same g =
    let f = starts_front h (starts e n h.front h.first) in
    subst (λ ms. Reads s ms r rest) (sym f.is)
    (reads_from f.token f.nesting f.more (same f.token (begins f.token.kind f.starts)) (subst (λ ms. Reads s' ms r rest) f.is g))

-- An expression is read

pub record Readable (e : ExpressionTree) : Type 0 where
  pub reads : (level n : ℕ) (ms : List Marked) (c : Context) (t : Token) (rest : List Token) → Fits level e → spelled e n ms → operand_level c ≤ level → Ends level c t.kind →
      Reads (operand n c) ms (complete n e c) (t ∷ rest)

reads_name : (id : Identifier) (n : ℕ) (c : Context) {ms : List Marked} {rest : List Token} → Identified id n ms → Reads (operand n c) ms (named n id c) rest
reads_name id n c h = reads_one h (step_name n id c h.token h.holds)

readable_name : (id : Identifier) → Readable (name id)
unfolding spelled
readable_name id = record { reads = λ level n ms c t rest f h l e. reads_to t rest (reads_name id n c h) (step_named n id c t e) }

readable_constant : (at : Pos) (ty : _) (v : ℕ) → Readable (constant at ty v)
unfolding spelled
readable_constant at ty v = record { reads = λ level n ms c t rest f h l e. reads_one h (step_constant n c h.token at ty v h.holds) }

readable_character : (at : Pos) (v : _) → Readable (character at v)
unfolding spelled
readable_character at v = record { reads = λ level n ms c t rest f h l e. reads_one h (step_character n c h.token at v h.holds) }

readable_parenthesized : (at : Pos) (e : ExpressionTree) → Readable e → Readable (parenthesized at e)
unfolding spelled
readable_parenthesized at e r = record {
  reads = λ level n ms c t rest f h l ends.
      reads_last h.front h.cut h.second
      (reads_head h.first (step_open n c h.first.first.token at h.first.first.holds)
      (from_operand e (n + 1) h.first.back h.first.second (step_opened n at c)
      (r.reads 0 (n + 1) h.first.back (in_parentheses n at c) h.second.token (t ∷ rest) f h.first.second (omega arith)
      (ends_at_sign _ _ h.second.token sign_close h.second.holds (omega arith)))))
      (step_parenthesized n (n + 1) at e c h.second.token h.second.holds);
}

readable_index : (id : Identifier) (at : Pos) (e : ExpressionTree) → Readable e → Readable (index id at e)
unfolding spelled
readable_index id at e r = record {
  reads = λ level n ms c t rest f h l ends.
      let g = h.second in
      reads_to t rest
      (reads_both h (reads_name id n c h.first)
      (reads_last g.front g.cut g.second
      (reads_head g.first (step_index n id at c g.first.first.token g.first.first.holds)
      (r.reads 0 (n + 1) g.first.back (in_index n id at c) g.second.token (t ∷ rest) f g.first.second (omega arith)
      (ends_at_sign _ _ g.second.token sign_close_bracket g.second.holds (omega arith))))
      (step_indexed n (n + 1) id at e c g.second.token g.second.holds)))
      (step_no_column n id at e c t ends);
}

readable_element : (id : Identifier) (at : Pos) (e : ExpressionTree) (column_at : Pos) (d : ExpressionTree) → Readable e → Readable d → Readable (element id at e column_at d)
unfolding spelled
readable_element id at e column_at d r q = record {
  reads = λ level n ms c t rest f h l ends.
      let g = h.second in
      let s = g.second in
      let k = s.second in
      reads_both h (reads_name id n c h.first)
      (reads_sign g.front g.cut s
      (reads_head g.first (step_index n id at c g.first.first.token g.first.first.holds)
      (r.reads 0 (n + 1) g.first.back (in_index n id at c) s.first.token (tokens_of s.back ++ t ∷ rest) f.0 g.first.second (omega arith)
      (ends_at_sign _ _ s.first.token sign_close_bracket s.first.holds (omega arith))))
      (step_indexed n (n + 1) id at e c s.first.token s.first.holds)
      (reads_last k.front k.cut k.second
      (reads_head k.first (step_column n id at e column_at c k.first.first.token k.first.first.holds)
      (q.reads 0 (n + 1) k.first.back (in_column n id at e column_at c) k.second.token (t ∷ rest) f.1 k.first.second (omega arith)
      (ends_at_sign _ _ k.second.token sign_close_bracket k.second.holds (omega arith))))
      (step_element n (n + 1) id at e column_at d c k.second.token k.second.holds)));
}

-- Operators behind an operand

readable_postfix : (o : StepOperator) (at : Pos) (e : ExpressionTree) → Readable e → Readable (postfix o at e)
unfolding spelled
readable_postfix o at e r = record {
  reads = λ level n ms c t rest f h l ends.
      let s = h.second in
      reads_last h.front h.cut s
      (r.reads 15 n h.front c s.token (t ∷ rest) f.1 h.first (omega (arith, f.0)) (ends_at_sign _ _ s.token (sign_step o) s.holds.0 (omega arith)))
      (step_postfix n o at e c s.token s.holds);
}

weaker : {l m : ℕ} {c : Context} {k : Kind} (d : Context) → Ends l c k → takes (operator_of k) ≤ m → Ends m d k
weaker d e h = record { weak = h; no_call = e.no_call; no_index = e.no_index }

readable_binary : (o : BinaryOperator) (at : Pos) (a b : ExpressionTree) → Readable a → Readable b → Readable (binary o at a b)
unfolding spelled
readable_binary o at a b ra rb = record {
  reads = λ level n ms c t rest f h l ends.
      let g = h.second in
      let s = g.first.token in
      let m : ℕ = n + (operators_in a + 1) in
      let w = ends.weak in
      reads_sign h.front h.cut g
      (ra.reads (strength o) n h.front c s (tokens_of g.back ++ t ∷ rest) f.1 h.first (omega (arith, f.0)) (ends_at_sign _ _ s (sign_binary o) g.first.holds.0 (omega arith)))
      (step_binary n o at a c s g.first.holds (omega (arith, f.0)))
      (reads_to t rest
      (rb.reads (strength o + 1) m g.back (in_binary n o at a c) t rest f.2 g.second (omega arith)
      (weaker (in_binary n o at a c) ends (omega (arith, f.0))))
      (complete_same m n b (binary o at a b) (in_binary n o at a c) c t (omega (arith, f.0, strength_most o))
      (reduced_binary (takes (operator_of t.kind)) m n at b c o a (omega (arith, f.0)))));
}

readable_assignment : (o : AssignmentOperator) (at : Pos) (a b : ExpressionTree) → Readable a → Readable b → Readable (assignment o at a b)
unfolding spelled
readable_assignment o at a b ra rb = record {
  reads = λ level n ms c t rest f h l ends.
      let g = h.second in
      let s = g.first.token in
      let w = ends.weak in
      reads_sign h.front h.cut g
      (ra.reads 14 n h.front c s (tokens_of g.back ++ t ∷ rest) f.1 h.first (omega (arith, f.0)) (ends_at_sign _ _ s (sign_assignment o) g.first.holds.0 (omega arith)))
      (step_assignment n o at a c s g.first.holds (omega (arith, f.0)) f.1)
      (reads_to t rest
      (rb.reads 1 (n + 1) g.back (in_assignment n o at a c) t rest f.2 g.second (omega arith)
      (weaker (in_assignment n o at a c) ends (omega (arith, f.0))))
      (complete_same (n + 1) n b (assignment o at a b) (in_assignment n o at a c) c t (omega (arith, f.0))
      (reduced_assignment (takes (operator_of t.kind)) (n + 1) n at b c o a (omega (arith, f.0)))));
}

readable_comma : (at : Pos) (a b : ExpressionTree) → Readable a → Readable b → Readable (comma at a b)
unfolding spelled
readable_comma at a b ra rb = record {
  reads = λ level n ms c t rest f h l ends.
      let g = h.second in
      let s = g.first.token in
      let m : ℕ = n + (commas_in a + 1) in
      let w = ends.weak in
      reads_sign h.front h.cut g
      (ra.reads 0 n h.front c s (tokens_of g.back ++ t ∷ rest) f.1 h.first (omega (arith, f.0)) (ends_at_sign _ _ s sign_comma g.first.holds.0 (omega arith)))
      (step_comma n at a c s g.first.holds (omega (arith, f.0)))
      (reads_to t rest
      (rb.reads 1 m g.back (in_comma n at a c) t rest f.2 g.second (omega arith)
      (weaker (in_comma n at a c) ends (omega (arith, f.0))))
      (complete_same m n b (comma at a b) (in_comma n at a c) c t (omega (arith, f.0))
      (reduced_comma (takes (operator_of t.kind)) m n at b c a (omega (arith, f.0)))));
}

readable_conditional : (at : Pos) (d a b : ExpressionTree) → Readable d → Readable a → Readable b → Readable (conditional at d a b)
unfolding spelled
readable_conditional at d a b rd ra rb = record {
  reads = λ level n ms c t rest f h l ends.
      let g = regrouped {R = punctuator mark.Colon ⊙ spelled b} {n = n + 1} h.second.front h.second.back h.second.cut h.second.first h.second.second in
      let k = g.second.second in
      let q = g.first.token in
      let s = k.first.token in
      let w = ends.weak in
      reads_sign h.front h.cut g
      (rd.reads 3 n h.front c q (tokens_of g.back ++ t ∷ rest) f.1 h.first (omega (arith, f.0)) (ends_at_sign _ _ q sign_question g.first.holds.0 (omega arith)))
      (step_question n at d c q g.first.holds (omega (arith, f.0)))
      (reads_sign g.second.front g.second.cut k
      (ra.reads 0 (n + 1) g.second.front (in_choice n at d c) s (tokens_of k.back ++ t ∷ rest) f.2 g.second.first (omega arith)
      (ends_at_colon s k.first.holds))
      (step_colon n (n + 1) at d a c s k.first.holds)
      (reads_to t rest
      (rb.reads 2 (n + 1) k.back (in_alternative n at d a c) t rest f.3 k.second (omega arith)
      (weaker (in_alternative n at d a c) ends (omega (arith, f.0))))
      (complete_same (n + 1) n b (conditional at d a b) (in_alternative n at d a c) c t (omega (arith, f.0))
      (reduced_alternative (takes (operator_of t.kind)) (n + 1) n at b c d a (omega (arith, f.0))))));
}

-- Operators before an operand

readable_prefix : (o : StepOperator) (at : Pos) (e : ExpressionTree) → Readable e → Readable (prefix o at e)
unfolding spelled
readable_prefix o at e r = record {
  reads = λ level n ms c t rest f h l ends.
      let w = ends.weak in
      reads_head h (step_prefix n c h.first.token o at h.first.holds)
      (reads_to t rest
      (r.reads 14 (n + 1) h.back (in_prefix n o at c) t rest f.1 h.second (omega arith)
      (weaker (in_prefix n o at c) ends (omega (arith, f.0))))
      (complete_same (n + 1) n e (prefix o at e) (in_prefix n o at c) c t (omega (arith, f.0))
      (reduced_prefix (takes (operator_of t.kind)) (n + 1) n at e c o)));
}

readable_unary : (o : UnaryOperator) (at : Pos) (e : ExpressionTree) → Readable e → Readable (unary o at e)
unfolding spelled
readable_unary o at e r = record {
  reads = λ level n ms c t rest f h l ends.
      let w = ends.weak in
      reads_head h (step_unary n c h.first.token o at h.first.holds)
      (reads_to t rest
      (r.reads 13 (n + 1) h.back (in_unary n o at c) t rest f.1 h.second (omega arith)
      (weaker (in_unary n o at c) ends (takes_no_unary (operator_of t.kind) (omega (arith, f.0)))))
      (complete_same (n + 1) n e (unary o at e) (in_unary n o at c) c t (omega (arith, f.0))
      (reduced_unary (takes (operator_of t.kind)) (n + 1) n at e c o)));
}

-- Words of a type

module _ (f : OneOrMore Specifier → State) (k : ℕ) (grows : (done : OneOrMore Specifier) (t : Token) (w : SpecifierWord) → next_word done t ≡ Some w → step (f done) t ≡ taken k (f (with_last done (specifier_at t w)))) where
  abbrev and_all : OneOrMore Specifier → List Specifier → OneOrMore Specifier
  and_all done more = record { first = done.first; more = done.more ++ more }

  reads_more : (more : List Specifier) (done : OneOrMore Specifier) {ms : List Marked} {rest : List Token} → Continues (shape_of (all_of done)) more → specifier_list more k ms →
      Reads (f done) ms (f (and_all done more)) rest
  reads_more [] done {ms} {rest} g h =
      subst (λ all. Reads (f done) ms (f (record { first = done.first; more = all })) rest) (sym (append-nil done.more)) (reads_none h)
  reads_more (r ∷ more) done {ms} {rest} g h =
      let on = continues_on (shape_of (all_of done)) r more g in
      reads_head h (grows done h.first.token r.word (next_is done h.first.token r.word h.first.holds.0 on.0)
      ∙ ap (λ p. taken k (f (with_last done (record { word = r.word; at = p })))) h.first.holds.1)
      (subst (λ all. Reads (f (with_last done r)) h.back (f (record { first = done.first; more = all })) rest) (append_assoc done.more (r ∷ []) more)
      (reads_more more (with_last done r) (subst (λ s. Continues s more) (sym (shape_with_last done r)) on.1) h.second))

  -- from a state that takes a first word
  pub reads_words : (specs : OneOrMore Specifier) (s : State) → ((t : Token) (w : SpecifierWord) → specifier_word t ≡ Some w → step s t ≡ taken k (f (one (specifier_at t w)))) →
      {ms : List Marked} {rest : List Token} → Continues shape.Consts (all_of specs) → words specs k ms → Reads s ms (f specs) rest
  reads_words specs s takes c g =
      let r = specs.first in
      let on = continues_on shape.Consts r specs.more c in
      reads_head g (takes g.first.token r.word (first_is r.word g.first.token g.first.holds.0 on.0) ∙ ap (λ p. taken k (f (one (record { word = r.word; at = p })))) g.first.holds.1)
      (reads_more specs.more (one r) on.1 g.second)

  pub reads_specifiers : (specs : OneOrMore Specifier) (s : State) → ((t : Token) (w : SpecifierWord) → specifier_word t ≡ Some w → step s t ≡ taken k (f (one (specifier_at t w)))) →
      {ms : List Marked} {rest : List Token} → specifiers specs k ms → Reads s ms (f specs) rest
  reads_specifiers specs s takes h = reads_words specs s takes (inl h.holds) h.is

readable_cast : (at : Pos) (specs : OneOrMore Specifier) (e : ExpressionTree) → Readable e → Readable (cast at specs e)
unfolding spelled
readable_cast at specs e r = record {
  reads = λ level n ms c t rest f h l ends.
      let w = ends.weak in
      let g = h.second.second in
      reads_head h (step_open n c h.first.token at h.first.holds)
      (reads_both h.second
      (reads_specifiers (λ specs. cast_specifiers n at specs c) (n + 1) (λ done t w. step_more_cast n at done c t w) specs (opened n at c)
      (λ t w. step_cast n at c t w (omega (arith, f.0))) h.second.first)
      (reads_head g (step_cast_end n at specs c g.first.token (ends_in_no_enum specs h.second.first.holds) g.first.holds)
      (reads_to t rest
      (r.reads 13 (n + 1) g.back (in_cast n at specs c) t rest f.1 g.second (omega arith)
      (weaker (in_cast n at specs c) ends (omega (arith, f.0))))
      (complete_same (n + 1) n e (cast at specs e) (in_cast n at specs c) c t (omega (arith, f.0))
      (reduced_cast (takes (operator_of t.kind)) (n + 1) n at e c specs (omega (arith, f.0)))))));
}

-- Arguments

abbrev pub AllReadable : ExpressionTrees → Type 0
AllReadable no_expressions = Unit {0}
AllReadable (expression_then e es) = Readable e × AllReadable es

abbrev pub joined : ExpressionTrees → ExpressionTrees → ExpressionTrees
joined done no_expressions = done
joined done (expression_then e es) = joined (one_more done e) es

abbrev appended : ExpressionTrees → ExpressionTrees → ExpressionTrees
appended no_expressions es = es
appended (expression_then d ds) es = expression_then d (appended ds es)

appended_one : (ds : ExpressionTrees) (e : ExpressionTree) (es : ExpressionTrees) → appended (one_more ds e) es ≡ appended ds (expression_then e es)
appended_one no_expressions e es = refl
appended_one (expression_then d ds) e es = ap (λ q. expression_then d q) (appended_one ds e es)

appended_none : (ds : ExpressionTrees) → ds ≡ appended ds no_expressions
appended_none no_expressions = refl
appended_none (expression_then d ds) = ap (λ q. expression_then d q) (appended_none ds)

joined_appended : (ds es : ExpressionTrees) → joined ds es ≡ appended ds es
joined_appended ds no_expressions = appended_none ds
joined_appended ds (expression_then e es) = joined_appended (one_more ds e) es ∙ appended_one ds e es

pub joined_all : (es : ExpressionTrees) → joined no_expressions es ≡ es
joined_all es = joined_appended no_expressions es

-- a state to which is read, and what it does at the next token
pub record ReadsTo (s : State) (ms : List Marked) (t : Token) (rest : List Token) (v : Verdict) : Type 0 where
  pub state : State
  pub reads : Reads s ms state (t ∷ rest)
  pub then : step state t ≡ v

reads_arguments : (es : ExpressionTrees) (e : ExpressionTree) (n : ℕ) (id : Identifier) (done : ExpressionTrees) (c : Context) (t : Token) (rest : List Token) (ms : List Marked) →
    Readable e → AllReadable es → Fits 1 e → AllFit es → (spelled e ⊙ spelled_more es) (n + 1) ms → t.kind ≡ kind.Punctuator mark.CloseParenthesis →
    ReadsTo (operand (n + 1) (in_call n id done c)) ms t rest (taken n (complete n (call id (joined done (expression_then e es))) c))
unfolding spelled_more
reads_arguments no_expressions e n id done c t rest ms r all f fs h close = record {
  state = complete (n + 1) e (in_call n id done c);
  reads = reads_join_none h.cut h.second (r.reads 1 (n + 1) h.front (in_call n id done c) t rest f h.first (omega arith) (ends_at_sign _ _ t sign_close close (omega arith)));
  then = step_called n (n + 1) id done e c t close;
}
reads_arguments (expression_then d es) e n id done c t rest ms r all f fs h close =
    let g = h.second in
    let s = g.first.token in
    let more = reads_arguments es d n id (one_more done e) c t rest g.back all.0 all.1 fs.0 fs.1 g.second close in
    record {
      state = more.state;
      reads = reads_sign h.front h.cut g
          (r.reads 1 (n + 1) h.front (in_call n id done c) s (tokens_of g.back ++ t ∷ rest) f h.first (omega arith) (ends_at_sign _ _ s sign_comma g.first.holds (omega arith)))
          (step_argument n (n + 1) id done e c s g.first.holds)
          more.reads;
      then = more.then;
    }

readable_call : (id : Identifier) (es : ExpressionTrees) → AllReadable es → Readable (call id es)
unfolding spelled spelled_list
readable_call id no_expressions all = record {
  reads = λ level n ms c t rest f h l ends.
      let g = h.second in
      reads_both h (reads_name id n c h.first)
      (reads_last g.front g.cut g.second
      (reads_head g.first (step_call n id c g.first.first.token g.first.first.holds) (reads_none g.first.second))
      (step_no_arguments n id c g.second.token g.second.holds));
}
readable_call id (expression_then e es) all = record {
  reads = λ level n ms c t rest f h l ends.
      let g = h.second in
      let a = g.first in
      let r = reads_arguments es e n id no_expressions c g.second.token (t ∷ rest) a.back all.0 all.1 f.0 f.1 a.second g.second.holds in
      reads_both h (reads_name id n c h.first)
      (reads_last g.front g.cut g.second
      (reads_head a (step_call n id c a.first.token a.first.holds)
      (from_operand_more e (n + 1) a.back a.second (step_arguments n id c) r.reads))
      (r.then ∙ ap (λ es. taken n (complete n (call id es) c)) (joined_all (expression_then e es))));
}

-- Every expression

mutual
  pub readable : (e : ExpressionTree) → Readable e
  readable (name id) = readable_name id
  readable (call id es) = readable_call id es (all_readable es)
  readable (index id at e) = readable_index id at e (readable e)
  readable (element id at e column_at c) = readable_element id at e column_at c (readable e) (readable c)
  readable (constant at t v) = readable_constant at t v
  readable (character at v) = readable_character at v
  readable (parenthesized at e) = readable_parenthesized at e (readable e)
  readable (postfix o at e) = readable_postfix o at e (readable e)
  readable (prefix o at e) = readable_prefix o at e (readable e)
  readable (unary o at e) = readable_unary o at e (readable e)
  readable (cast at specs e) = readable_cast at specs e (readable e)
  readable (binary o at a b) = readable_binary o at a b (readable a) (readable b)
  readable (conditional at c a b) = readable_conditional at c a b (readable c) (readable a) (readable b)
  readable (assignment o at a b) = readable_assignment o at a b (readable a) (readable b)
  readable (comma at a b) = readable_comma at a b (readable a) (readable b)

  pub all_readable : (es : ExpressionTrees) → AllReadable es
  all_readable no_expressions = tt
  all_readable (expression_then e es) = (readable e, all_readable es)
