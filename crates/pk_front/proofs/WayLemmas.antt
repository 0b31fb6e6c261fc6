-- What a text leads to is determined.
use Rattle.std.proofs.Common.{◌≡◌, ◌≢◌, ◌∙◌, refl, sym, ap, subst, ℕ, List, Some, None, Result, Ok, Err}
use Rattle.pk_ctypes.specs.declared.places.Pos.{Pos}
use Rattle.pk_ctypes.specs.declared.words.Rule.{Rule}
use Rattle.pk_ctypes.specs.declared.words.Quantity.TheVariants as quantity
use Rattle.pk_lex.specs.declared.token.Token.{Token}
use Rattle.pk_lex.specs.declared.token.LexicalKind.{LexicalKind}
use Rattle.pk_lex.specs.Failures.{FailsAt}
use Rattle.pk_lex.proofs.ReadLemmas.{one_kind, one_place, not_both}
use Rattle.pk_ast.specs.Trees.{ExternalTree}
use Rattle.pk_grammar.specs.declared.failure.ParseError.{ParseError}
use Rattle.pk_grammar.specs.declared.failure.ParseError.TheVariants as parse_error
use Rattle.pk_parse.specs.Refusals as trees
use Rattle.pk_typed.specs.Trees.{UnitTree}
use Rattle.pk_type_scope.specs.declared.failures.Failure.{Failure}
use Rattle.pk_type.specs.Rules.{noting}
use Rattle.pk_type.specs.Units.{checked, unit_of}
use Rattle.pk_calls.specs.declared.listings.CallPath.{CallPath}
use Rattle.pk_calls.specs.declared.failures.CallError.{CallError}
use Rattle.pk_calls.specs.declared.failures.CallError.TheVariants as call_error
use Rattle.pk_calls.specs.Answers as calls
use Rattle.pk_calls.proofs.Determined.{answer_determined}
use Rattle.pk_front.specs.declared.failures.TextError.{TextError}
use Rattle.pk_front.specs.declared.failures.TextError.TheVariants.{Refused, Limit, Memory}
use Rattle.pk_front.specs.declared.failures.Refusal.TheVariants.{Lexical, Unsupported, Syntax, Typing, NoEntry, Recursion, UndefinedCall}
use Rattle.pk_front.specs.Texts.{FailsAsTokens, FailsAsTrees, FailsAsUnit, HasPaths, HasTokens, HasTrees, HasUnit, IsLeft, failure, failure_in}
use Rattle.pk_front.proofs.MarkLemmas.{one_tokens}

-- ---- why a text is left, by its stage

data Reason : Type 0 where
  lexical : LexicalKind → Pos → Reason
  grammatical : ParseError → Reason
  typed : Rule → Pos → Reason
  called : CallError → Reason

abbrev error_of : Reason → TextError
error_of (lexical kind at) = Refused (Lexical kind at)
error_of (grammatical (parse_error.Unsupported construct at)) = Refused (Unsupported construct at)
error_of (grammatical (parse_error.Syntax at)) = Refused (Syntax at)
error_of (grammatical (parse_error.Nesting at)) = Limit quantity.Nesting 128
error_of (grammatical parse_error.Memory) = Memory
error_of (typed rule at) = Refused (Typing rule at)
error_of (called (call_error.NoEntry name)) = Refused (NoEntry name)
error_of (called (call_error.Recursion cycle)) = Refused (Recursion cycle)
error_of (called (call_error.UndefinedCall name at)) = Refused (UndefinedCall name at)
error_of (called (call_error.Limit what n)) = Limit what n
error_of (called call_error.Memory) = Memory

abbrev Holds : List ℕ → List ℕ → Reason → Type 0
Holds text entry (lexical kind at) = FailsAt text kind at
Holds text entry (grammatical why) = FailsAsTokens text why
Holds text entry (typed rule at) = FailsAsTrees text rule at
Holds text entry (called why) = (why ≢ call_error.Memory) × FailsAsUnit text entry why

record Comes (text entry : List ℕ) (s : TextError) : Type 0 where
  reason : Reason
  is : s ≡ error_of reason
  holds : Holds text entry reason

comes : (text entry : List ℕ) (s : TextError) → s ≢ Memory → IsLeft text entry s → Comes text entry s
comes text entry (Refused (Lexical kind at)) some left = record { reason = lexical kind at; is = refl; holds = left }
comes text entry (Refused (Unsupported construct at)) some left = record { reason = grammatical (parse_error.Unsupported construct at); is = refl; holds = left }
comes text entry (Refused (Syntax at)) some left = record { reason = grammatical (parse_error.Syntax at); is = refl; holds = left }
comes text entry (Refused (Typing rule at)) some left = record { reason = typed rule at; is = refl; holds = left }
comes text entry (Refused (NoEntry name)) some left = record { reason = called (call_error.NoEntry name); is = refl; holds = (λ e. cc, left) }
comes text entry (Refused (Recursion cycle)) some left = record { reason = called (call_error.Recursion cycle); is = refl; holds = (λ e. cc, left) }
comes text entry (Refused (UndefinedCall name at)) some left = record { reason = called (call_error.UndefinedCall name at); is = refl; holds = (λ e. cc, left) }
comes text entry (Limit quantity.Text n) some left = absurd left
comes text entry (Limit quantity.Nesting n) some left = record { reason = grammatical (parse_error.Nesting left.1.0); is = ap (λ (m : ℕ). Limit quantity.Nesting m) left.0; holds = left.1.1 }
comes text entry (Limit quantity.Paths n) some left = record { reason = called (call_error.Limit quantity.Paths n); is = refl; holds = (λ e. cc, left) }
comes text entry (Limit quantity.Variables n) some left = record { reason = called (call_error.Limit quantity.Variables n); is = refl; holds = (λ e. cc, left) }
comes text entry (Limit quantity.Points n) some left = absurd left
comes text entry (Limit quantity.Packs n) some left = absurd left
comes text entry Memory some left = absurd (some refl)

-- ---- one answer of each stage

some_none : (f : Failure) → Some f ≡ None → ⊥
some_none f e = cc

abbrev Answer : Type 0
Answer = Result (List CallPath) CallError

abbrev refusal : CallError → Answer
refusal w = Err w

abbrev listing : List CallPath → Answer
listing ps = Ok ps

same_error : (w v : CallError) → refusal w ≡ refusal v → w ≡ v
same_error w v e = cc

same_paths : (ps qs : List CallPath) → listing ps ≡ listing qs → ps ≡ qs
same_paths ps qs e = cc

ok_err : (ps : List CallPath) (w : CallError) → listing ps ≡ refusal w → ⊥
ok_err ps w e = cc

err_some : (w : CallError) → w ≢ call_error.Memory → refusal w ≢ refusal call_error.Memory
err_some w some e = some (same_error w call_error.Memory e)

lexed_fails : (text : List ℕ) (tokens : List Token) (kind : LexicalKind) (at : Pos) → HasTokens text tokens → FailsAt text kind at → ⊥
lexed_fails text tokens kind at read fails = not_both text read.words kind at read.lexed fails

module _ (law : trees.AnswerIsDetermined) where
  one_trees : (text : List ℕ) (ts us : List ExternalTree) → HasTrees text ts → HasTrees text us → ts ≡ us
  one_trees text ts us a b =
      let same : a.tokens ≡ b.tokens = one_tokens text a.tokens b.tokens a.read b.read in
      law.trees b.tokens ts us (subst (λ (x : List Token). trees.IsAccepted x ts) same a.parsed) b.parsed

  no_trees : (text : List ℕ) (why : ParseError) (ts : List ExternalTree) → FailsAsTokens text why → HasTrees text ts → ⊥
  no_trees text why ts fails has =
      let same : fails.tokens ≡ has.tokens = one_tokens text fails.tokens has.tokens fails.read has.read in
      law.apart has.tokens ts why has.parsed (subst (λ (x : List Token). trees.IsRefused x why) same fails.refused)

  one_error : (text : List ℕ) (w v : ParseError) → FailsAsTokens text w → FailsAsTokens text v → w ≡ v
  one_error text w v a b =
      let same : a.tokens ≡ b.tokens = one_tokens text a.tokens b.tokens a.read b.read in
      law.refusal b.tokens w v (subst (λ (x : List Token). trees.IsRefused x w) same a.refused) b.refused

  one_unit : (text : List ℕ) (u v : UnitTree) → HasUnit text u → HasUnit text v → u ≡ v
  one_unit text u v a b =
      let same : a.all ≡ b.all = one_trees text a.all b.all a.parsed b.parsed in
      a.unit ∙ ap (λ (ts : List ExternalTree). unit_of (checked noting None text ts)) same ∙ sym b.unit

  no_unit : (text : List ℕ) (rule : Rule) (at : Pos) (u : UnitTree) → FailsAsTrees text rule at → HasUnit text u → ⊥
  no_unit text rule at u fails has =
      let same : fails.all ≡ has.all = one_trees text fails.all has.all fails.parsed has.parsed in
      some_none (failure rule at) (sym fails.found ∙ ap (failure_in text) same ∙ has.accepted)

  one_failure : (text : List ℕ) (rule other : Rule) (at there : Pos) → FailsAsTrees text rule at → FailsAsTrees text other there → typed rule at ≡ typed other there
  one_failure text rule other at there a b =
      let same : a.all ≡ b.all = one_trees text a.all b.all a.parsed b.parsed in
      same_failure (sym a.found ∙ ap (failure_in text) same ∙ b.found)
    where
      same_failure : Some (failure rule at) ≡ Some (failure other there) → typed rule at ≡ typed other there
      same_failure e =
          let found : failure rule at ≡ failure other there = cc in
          ap (λ (f : Failure). typed f.rule f.at) found

  one_call : (text entry : List ℕ) (w v : CallError) → Holds text entry (called w) → Holds text entry (called v) → w ≡ v
  one_call text entry w v a b =
      let same : a.1.unit ≡ b.1.unit = one_unit text a.1.unit b.1.unit a.1.typed b.1.typed in
      same_error w v (answer_determined b.1.unit entry (Err w) (Err v) (err_some w a.0) (err_some v b.0)
      (subst (λ (u : UnitTree). calls.IsAnswer u entry (Err w)) same a.1.refused) b.1.refused)

  no_paths : (text entry : List ℕ) (w : CallError) (u : UnitTree) (ps : List CallPath) → Holds text entry (called w) → HasPaths text entry u ps → ⊥
  no_paths text entry w u ps a b =
      let same : a.1.unit ≡ u = one_unit text a.1.unit u a.1.typed b.typed in
      ok_err ps w (answer_determined u entry (Ok ps) (Err w) (λ e. ok_err ps call_error.Memory e) (err_some w a.0) b.called
      (subst (λ (x : UnitTree). calls.IsAnswer x entry (Err w)) same a.1.refused))

  -- ---- one reason

  one_reason : (text entry : List ℕ) (r q : Reason) → Holds text entry r → Holds text entry q → r ≡ q
  one_reason text entry (lexical k p) (lexical l q) a b = ap (λ (x : LexicalKind). lexical x p) (one_kind text k l p q a b) ∙ ap (λ (x : Pos). lexical l x) (one_place text k l p q a b)
  one_reason text entry (lexical k p) (grammatical v) a b = absurd (lexed_fails text b.tokens k p b.read a)
  one_reason text entry (lexical k p) (typed rule at) a b = absurd (lexed_fails text b.parsed.tokens k p b.parsed.read a)
  one_reason text entry (lexical k p) (called v) a b = absurd (lexed_fails text b.1.typed.parsed.tokens k p b.1.typed.parsed.read a)
  one_reason text entry (grammatical w) (lexical l q) a b = absurd (lexed_fails text a.tokens l q a.read b)
  one_reason text entry (grammatical w) (grammatical v) a b = ap (λ (x : ParseError). grammatical x) (one_error text w v a b)
  one_reason text entry (grammatical w) (typed rule at) a b = absurd (no_trees text w b.all a b.parsed)
  one_reason text entry (grammatical w) (called v) a b = absurd (no_trees text w b.1.typed.all a b.1.typed.parsed)
  one_reason text entry (typed rule at) (lexical l q) a b = absurd (lexed_fails text a.parsed.tokens l q a.parsed.read b)
  one_reason text entry (typed rule at) (grammatical v) a b = absurd (no_trees text v a.all b a.parsed)
  one_reason text entry (typed rule at) (typed other there) a b = one_failure text rule other at there a b
  one_reason text entry (typed rule at) (called v) a b = absurd (no_unit text rule at b.1.unit a b.1.typed)
  one_reason text entry (called w) (lexical l q) a b = absurd (lexed_fails text a.1.typed.parsed.tokens l q a.1.typed.parsed.read b)
  one_reason text entry (called w) (grammatical v) a b = absurd (no_trees text v a.1.typed.all b a.1.typed.parsed)
  one_reason text entry (called w) (typed rule at) a b = absurd (no_unit text rule at a.1.unit b a.1.typed)
  one_reason text entry (called w) (called v) a b = ap (λ (x : CallError). called x) (one_call text entry w v a b)

  no_reason : (text entry : List ℕ) (u : UnitTree) (ps : List CallPath) (r : Reason) → HasPaths text entry u ps → Holds text entry r → ⊥
  no_reason text entry u ps (lexical k p) has a = lexed_fails text has.typed.parsed.tokens k p has.typed.parsed.read a
  no_reason text entry u ps (grammatical w) has a = no_trees text w has.typed.all a has.typed.parsed
  no_reason text entry u ps (typed rule at) has a = no_unit text rule at u a has.typed
  no_reason text entry u ps (called w) has a = no_paths text entry w u ps a has

  pub one_left : (text entry : List ℕ) (s t : TextError) → s ≢ Memory → t ≢ Memory → IsLeft text entry s → IsLeft text entry t → s ≡ t
  one_left text entry s t some other a b =
      let x = comes text entry s some a in
      let y = comes text entry t other b in
      x.is ∙ ap error_of (one_reason text entry x.reason y.reason x.holds y.holds) ∙ sym y.is

  pub apart : (text entry : List ℕ) (u : UnitTree) (ps : List CallPath) (s : TextError) → s ≢ Memory → HasPaths text entry u ps → IsLeft text entry s → ⊥
  apart text entry u ps s some has a =
      let x = comes text entry s some a in
      no_reason text entry u ps x.reason has x.holds

  pub same_unit : (text entry : List ℕ) (u v : UnitTree) (ps qs : List CallPath) → HasPaths text entry u ps → HasPaths text entry v qs → u ≡ v
  same_unit text entry u v ps qs a b = one_unit text u v a.typed b.typed

  pub one_paths : (text entry : List ℕ) (u v : UnitTree) (ps qs : List CallPath) → HasPaths text entry u ps → HasPaths text entry v qs → ps ≡ qs
  one_paths text entry u v ps qs a b =
      let same : u ≡ v = one_unit text u v a.typed b.typed in
      same_paths ps qs (answer_determined v entry (Ok ps) (Ok qs) (λ e. ok_err ps call_error.Memory e) (λ e. ok_err qs call_error.Memory e)
      (subst (λ (x : UnitTree). calls.IsAnswer x entry (Ok ps)) same a.called) b.called)
