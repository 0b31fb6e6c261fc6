-- Each text of the grammar is read.
use Rattle.std.proofs.Common.{◌≡◌, ◌≢◌, ℕ, inl, inr, Option, Some, None, false, true, List, [], ◌∷◌, ◌++◌, refl, sym, ap, subst, ◌∙◌, arith, append_assoc, append-nil}
use Rattle.pk_ctypes.specs.declared.places.Pos.{Pos}
use Rattle.pk_lex.specs.declared.token.Token.{Token}
use Rattle.pk_lex.specs.declared.token.Kind.TheVariants as kind
use Rattle.pk_lex.specs.declared.token.Keyword.TheVariants as key
use Rattle.pk_lex.specs.declared.token.Punctuator.TheVariants as mark
use Rattle.pk_ast.specs.declared.declarations.Specifier.{Specifier}
use Rattle.pk_ast.specs.declared.declarations.SpecifierWord.{SpecifierWord}
use Rattle.pk_ast.specs.declared.declarations.SpecifierWord.TheVariants as word
use Rattle.pk_ast.specs.declared.expressions.Identifier.{Identifier}
use Rattle.pk_ast.specs.declared.units.Storage.{Storage}
use Rattle.pk_ast.specs.Trees.{OneOrMore, ExpressionTree, no_items, EnumerationTree, BlockTree, BracketsTree, ParameterTree, FunctionTree, TypedefTree, ExternalTree, function, objects, type_names}
use Rattle.pk_ast.specs.Lists.{one, with_last}
use Rattle.pk_grammar.specs.declared.signs.Fixed.TheVariants as fixed
use Rattle.pk_grammar.specs.Languages.{Marked, ◌⊙◌, identifier_of}
use Rattle.pk_grammar.specs.Grammar.{array_length, stored, optional_name, open_length, brackets, parameter, IsVoidAlone, more_parameters, parameters, function_end, statement, more_names, type_words, external, externals}
use Rattle.pk_grammar.specs.Machine.Signs.{is_fixed, specifier_word, storage_word, is_void_word, specifier_in}
use Rattle.pk_grammar.specs.Machine.States.{Head, function_block, outside, in_typedef, Receiving, as_parameter_length, as_parameter_columns, as_whole, State, operand, complete, top, after_storage, after_typedef, type_specifiers, after_type_name, type_name_comma, after_braces, after_specifiers, after_name, parameters_open, parameter_specifiers, parameter_name, parameter_bracket, parameter_length, parameter_end, parameter_comma, parameters_closed, block_item}
use Rattle.pk_grammar.specs.Machine.Steps.{taken, refused, reduced, step, read, ends, with_brackets, close_brackets, specifier_at, storage_or_specifier, begin_external, begin_typedef, more_typedef, begin_parameter, more_parameter, is_void_alone, words_alone, last_parameter, receiving, end_block, next_word, end_in_enum}
use Rattle.pk_grammar.proofs.WordLemmas.{no_sign, no_name, ends_in_no_enum, opens_braces}
use Rattle.pk_grammar.proofs.CompleteLists.{tokens_of, nestings_of, before, Reads, reads_both, reads_one, reads_none, reads_head, reads_sign, reads_last, reads_join_none}
use Rattle.pk_grammar.proofs.CompleteSigns.{storage_is, specifier_alone, sign_close_bracket}
use Rattle.pk_grammar.proofs.CompleteOperands.{IsAt, ends_at_sign, same_false, same_true}
use Rattle.pk_grammar.proofs.CompleteExpressions.{from_operand, readable, ReadsTo, reads_words, reads_specifiers}
use Rattle.pk_grammar.proofs.CompleteEnumerations.{step_open_type_braces, step_type_behind, reads_braces}
use Rattle.pk_grammar.proofs.CompleteDeclarations.{step_first_name, step_more_specifiers, TakesType, reads_declared}
use Rattle.pk_grammar.proofs.CompleteBodies.{items_read, filled_function}

-- What a definition begins with

record ReadsStorage (done : List ExternalTree) (s : Option Storage) (ms : List Marked) (rest : List Token) : Type 0 where
  state : State
  reads : Reads (top done) ms state rest
  takes : TakesType state (outside done s)

top_takes : (done : List ExternalTree) → TakesType (top done) (outside done None)
top_takes done t w e =
    let s = specifier_alone t.kind t.start t.end w e in
    ap (λ o. storage_or_specifier done t o) s.no_storage ∙ same_false (is_fixed fixed.End t.kind) _ _ s.no_end ∙ same_false (is_fixed fixed.Typedef t.kind) _ _ s.no_typedef ∙ ap (λ o. begin_external done None t o) e

step_storage : (done : List ExternalTree) (s : Storage) (t : Token) → (storage_word t.kind ≡ Some s.word) × (t.at ≡ s.at) → step (top done) t ≡ taken 0 (after_storage done s)
step_storage done s t e = ap (λ o. storage_or_specifier done t o) e.0 ∙ ap (λ p. taken 0 (after_storage done (record { word = s.word; at = p }))) e.1

reads_stored : (done : List ExternalTree) (s : Option Storage) (ms : List Marked) (rest : List Token) → stored s 0 ms → ReadsStorage done s ms rest
reads_stored done None ms rest h = record { state = top done; reads = reads_none h; takes = top_takes done }
reads_stored done (Some s) ms rest h = record {
  state = after_storage done s;
  reads = reads_one h (step_storage done s h.token (ap storage_word h.holds.0 ∙ storage_is s.word, h.holds.1));
  takes = λ t w e. ap (λ o. begin_external done (Some s) t o) e;
}

-- Parameters

abbrev TakesParameter : State → Head → List ParameterTree → Type 0
TakesParameter q h ps = (t : Token) (w : SpecifierWord) → specifier_word t ≡ Some w → step q t ≡ taken 1 (parameter_specifiers h ps (one (specifier_at t w)))

open_takes : (h : Head) → TakesParameter (parameters_open h) h []
open_takes h t w e = same_false (is_fixed fixed.CloseParenthesis t.kind) _ _ (specifier_alone t.kind t.start t.end w e).no_close ∙ ap (λ o. begin_parameter h [] t o) e

comma_takes : (h : Head) (ps : List ParameterTree) → TakesParameter (parameter_comma h ps) h ps
comma_takes h ps t w e = ap (λ o. begin_parameter h ps t o) e

-- a parameter that may be the last one
abbrev IsNone : List ParameterTree → ParameterTree → Type 0
IsNone ps p = (ps ≡ []) × IsVoidAlone p

record ReadsParameter (q : State) (h : Head) (ps : List ParameterTree) (p : ParameterTree) (ms : List Marked) (rest : List Token) : Type 0 where
  state : State
  reads : Reads q ms state rest
  comma : (t : Token) → t.kind ≡ kind.Punctuator mark.Comma → step state t ≡ taken 1 (parameter_comma h (ps ++ p ∷ []))
  close : (t : Token) → t.kind ≡ kind.Punctuator mark.CloseParenthesis → ¬ IsNone ps p → step state t ≡ taken 0 (parameters_closed h (ps ++ p ∷ []))

no_void : (s : Specifier) (w : SpecifierWord) → s.word ≡ w → ¬ IsVoidAlone (words_alone (one s)) → is_void_word w ≡ false
no_void s word.Void e h = absurd (h (e, refl, refl, refl))
no_void s _ e h = refl

no_void_alone : (s : Specifier) (more : List Specifier) → ¬ IsVoidAlone (words_alone (record { first = s; more = more })) → is_void_alone s.word more ≡ false
no_void_alone s [] h = no_void s s.word refl h
no_void_alone s (r ∷ more) h = refl

last_is : (ps : List ParameterTree) (specs : OneOrMore Specifier) → ¬ IsNone ps (words_alone specs) → last_parameter ps specs ≡ ps ++ words_alone specs ∷ []
last_is [] specs h = rw (no_void_alone specs.first specs.more (λ v. h (refl, v)))
last_is (p ∷ ps) specs h = refl

pub step_more_parameter : (h : Head) (ps : List ParameterTree) (specs : OneOrMore Specifier) (t : Token) (w : SpecifierWord) → next_word specs t ≡ Some w →
    step (parameter_specifiers h ps specs) t ≡ taken 1 (parameter_specifiers h ps (with_last specs (specifier_at t w)))
step_more_parameter h ps specs t w e = ap (λ w. more_parameter h ps specs t w) e

step_parameter_name : (h : Head) (ps : List ParameterTree) (specs : OneOrMore Specifier) (id : Identifier) (t : Token) → end_in_enum specs ≡ false → (t.kind ≡ kind.Name) × (identifier_of t ≡ id) →
    step (parameter_specifiers h ps specs) t ≡ taken 1 (parameter_name (receiving h ps specs (Some id)))
step_parameter_name h ps specs id t f e =
    ap (λ w. more_parameter h ps specs t w) (no_name specs t f e.0) ∙ same_false (end_in_enum specs) _ _ f ∙ rw e.0 (ap (λ i. taken 1 (parameter_name (receiving h ps specs (Some i)))) e.1)

pub step_unnamed_bracket : (h : Head) (ps : List ParameterTree) (specs : OneOrMore Specifier) (t : Token) → end_in_enum specs ≡ false → t.kind ≡ kind.Punctuator mark.OpenBracket →
    step (parameter_specifiers h ps specs) t ≡ taken 2 (parameter_bracket (receiving h ps specs None))
step_unnamed_bracket h ps specs t f e = ap (λ w. more_parameter h ps specs t w) (no_sign specs t mark.OpenBracket e) ∙ same_false (end_in_enum specs) _ _ f ∙ rw e

step_unnamed_comma : (h : Head) (ps : List ParameterTree) (specs : OneOrMore Specifier) (t : Token) → end_in_enum specs ≡ false → t.kind ≡ kind.Punctuator mark.Comma →
    step (parameter_specifiers h ps specs) t ≡ taken 1 (parameter_comma h (ps ++ words_alone specs ∷ []))
step_unnamed_comma h ps specs t f e = ap (λ w. more_parameter h ps specs t w) (no_sign specs t mark.Comma e) ∙ same_false (end_in_enum specs) _ _ f ∙ rw e

pub step_unnamed_close : (h : Head) (ps : List ParameterTree) (specs : OneOrMore Specifier) (t : Token) → end_in_enum specs ≡ false → t.kind ≡ kind.Punctuator mark.CloseParenthesis →
    step (parameter_specifiers h ps specs) t ≡ taken 0 (parameters_closed h (last_parameter ps specs))
step_unnamed_close h ps specs t f e = ap (λ w. more_parameter h ps specs t w) (no_sign specs t mark.CloseParenthesis e) ∙ same_false (end_in_enum specs) _ _ f ∙ rw e

-- a tag has to stand behind `enum`
pub step_no_parameter : (h : Head) (ps : List ParameterTree) (specs : OneOrMore Specifier) (t : Token) → next_word specs t ≡ None → end_in_enum specs ≡ true →
    step (parameter_specifiers h ps specs) t ≡ refused
step_no_parameter h ps specs t e f = ap (λ w. more_parameter h ps specs t w) e ∙ same_true (end_in_enum specs) _ _ f

-- Brackets

-- a state behind everything that stands before a parameter's brackets
record CanBracket (q : State) (d : Receiving) : Type 0 where
  bracket : (t : Token) → t.kind ≡ kind.Punctuator mark.OpenBracket → step q t ≡ taken 2 (parameter_bracket d)
  comma : (t : Token) → t.kind ≡ kind.Punctuator mark.Comma → step q t ≡ taken 1 (parameter_comma d.head (d.before ++ with_brackets d None ∷ []))
  close : (t : Token) → t.kind ≡ kind.Punctuator mark.CloseParenthesis → ¬ IsNone d.before (with_brackets d None) →
      step q t ≡ taken 0 (parameters_closed d.head (d.before ++ with_brackets d None ∷ []))

record ReadsName (q : State) (d : Receiving) (ms : List Marked) (rest : List Token) : Type 0 where
  state : State
  reads : Reads q ms state rest
  can : CanBracket state d

reads_name : (h : Head) (ps : List ParameterTree) (specs : OneOrMore Specifier) (n : Option Identifier) (ms : List Marked) (rest : List Token) → end_in_enum specs ≡ false → optional_name n 1 ms →
    ReadsName (parameter_specifiers h ps specs) (receiving h ps specs n) ms rest
reads_name h ps specs None ms rest whole is = record {
  state = parameter_specifiers h ps specs;
  reads = reads_none is;
  can = record {
    bracket = λ t e. step_unnamed_bracket h ps specs t whole e;
    comma = λ t e. step_unnamed_comma h ps specs t whole e;
    close = λ t e f. step_unnamed_close h ps specs t whole e ∙ ap (λ ps. taken 0 (parameters_closed h ps)) (last_is ps specs f);
  };
}
reads_name h ps specs (Some id) ms rest whole is = record {
  state = parameter_name (receiving h ps specs (Some id));
  reads = reads_one is (step_parameter_name h ps specs id is.token whole is.holds);
  can = record { bracket = λ t e. rw e; comma = λ t e. rw e; close = λ t e f. rw e };
}

-- a length may be left out
pub step_bracket : (d : Receiving) (t : Token) → is_fixed fixed.CloseBracket t.kind ≡ false → step (parameter_bracket d) t ≡ step (operand 2 (as_whole (as_parameter_length d))) t
step_bracket d t f = same_false (is_fixed fixed.CloseBracket t.kind) _ _ f

pub step_no_length : (d : Receiving) (t : Token) → t.kind ≡ kind.Punctuator mark.CloseBracket → step (parameter_bracket d) t ≡ taken 1 (parameter_length d None)
step_no_length d t is = rw is

pub step_length_end : (n : ℕ) (e : ExpressionTree) (d : Receiving) (t : Token) → t.kind ≡ kind.Punctuator mark.CloseBracket →
    step (complete n e (as_whole (as_parameter_length d))) t ≡ taken 1 (parameter_length d (Some e))
unfolding reduced
step_length_end n e d t is = rw is

pub step_columns : (d : Receiving) (l : Option ExpressionTree) (t : Token) → t.kind ≡ kind.Punctuator mark.OpenBracket →
    step (parameter_length d l) t ≡ taken 2 (operand 2 (as_whole (as_parameter_columns d l)))
step_columns d l t is = rw is

pub step_columns_end : (n : ℕ) (c : ExpressionTree) (d : Receiving) (l : Option ExpressionTree) (t : Token) → t.kind ≡ kind.Punctuator mark.CloseBracket →
    step (complete n c (as_whole (as_parameter_columns d l))) t ≡ close_brackets d l c
unfolding reduced
step_columns_end n c d l t is = rw is

reads_columns : (d : Receiving) (l c : Option ExpressionTree) {ms : List Marked} {rest : List Token} → array_length c 1 ms →
    ReadsParameter (parameter_length d l) d.head d.before (with_brackets d (Some (record { length = l; columns = c }))) ms rest
reads_columns d l None h = record { state = parameter_length d l; reads = reads_none h; comma = λ t e. rw e; close = λ t e f. rw e }
reads_columns d l (Some c) {rest = rest} h = record {
  state = parameter_end d.head d.before (with_brackets d (Some (record { length = l; columns = Some c })));
  reads = reads_last h.front h.cut h.second
      (reads_head h.first (step_columns d l h.first.first.token h.first.first.holds)
      ((readable c).reads 2 2 h.first.back (as_whole (as_parameter_columns d l)) h.second.token rest h.first.second.fits h.first.second.is (omega arith)
      (ends_at_sign _ _ h.second.token sign_close_bracket h.second.holds (omega arith))))
      (step_columns_end 2 c d l h.second.token h.second.holds);
  comma = λ t e. rw e;
  close = λ t e f. rw e;
}

reads_length : (q : State) (d : Receiving) → CanBracket q d → (l : Option ExpressionTree) {ms : List Marked} {rest : List Token} → open_length l 1 ms → Reads q ms (parameter_length d l) rest
reads_length q d can None h =
    reads_last h.front h.cut h.second (reads_join_none h.first.cut h.first.second (reads_one h.first.first (can.bracket h.first.first.token h.first.first.holds)))
    (step_no_length d h.second.token h.second.holds)
reads_length q d can (Some e) {rest = rest} h =
    reads_last h.front h.cut h.second
    (reads_head h.first (can.bracket h.first.first.token h.first.first.holds)
    (from_operand e 2 h.first.back h.first.second.is (λ t b. step_bracket d t b.no_close_bracket)
    ((readable e).reads 2 2 h.first.back (as_whole (as_parameter_length d)) h.second.token rest h.first.second.fits h.first.second.is (omega arith)
    (ends_at_sign _ _ h.second.token sign_close_bracket h.second.holds (omega arith)))))
    (step_length_end 2 e d h.second.token h.second.holds)

reads_brackets : (q : State) (d : Receiving) → CanBracket q d → (b : Option BracketsTree) {ms : List Marked} {rest : List Token} → brackets b 1 ms →
    ReadsParameter q d.head d.before (with_brackets d b) ms rest
reads_brackets q d can None h = record { state = q; reads = reads_none h; comma = can.comma; close = can.close }
reads_brackets q d can (Some b) {rest = rest} h =
    let c = reads_columns d b.length b.columns {rest = rest} h.second in
    record { state = c.state; reads = reads_both h (reads_length q d can b.length h.first) c.reads; comma = c.comma; close = c.close }

reads_parameter : (q : State) (h : Head) (ps : List ParameterTree) (p : ParameterTree) (ms : List Marked) (rest : List Token) → TakesParameter q h ps → parameter p 1 ms →
    ReadsParameter q h ps p ms rest
reads_parameter q h ps p ms rest takes is =
    let g = is.second in
    let d = receiving h ps p.specifiers p.name in
    let n = reads_name h ps p.specifiers p.name g.front (tokens_of g.back ++ rest) (ends_in_no_enum p.specifiers is.first.holds) g.first in
    let b = reads_brackets n.state d n.can p.brackets {rest = rest} g.second in
    record {
      state = b.state;
      reads = reads_both is (reads_specifiers (parameter_specifiers h ps) 1 (step_more_parameter h ps) p.specifiers q takes is.first) (reads_both g n.reads b.reads);
      comma = b.comma;
      close = b.close;
    }

not_empty : {A : Type 0} (ps : List A) (p : A) → ps ++ p ∷ [] ≢ []
not_empty [] p e = cc
not_empty (q ∷ ps) p e = cc

-- a parameter and those behind it, up to the parenthesis
reads_parameters : (more : List ParameterTree) (q : State) (h : Head) (ps : List ParameterTree) (p : ParameterTree) (ms : List Marked) (t : Token) (rest : List Token) → TakesParameter q h ps →
    (parameter p ⊙ more_parameters more) 1 ms → t.kind ≡ kind.Punctuator mark.CloseParenthesis → (more ≡ [] → ¬ IsNone ps p) →
    ReadsTo q ms t rest (taken 0 (parameters_closed h (ps ++ p ∷ more)))
reads_parameters [] q h ps p ms t rest takes is close some =
    let r = reads_parameter q h ps p is.front (t ∷ rest) takes is.first in
    record { state = r.state; reads = reads_join_none is.cut is.second r.reads; then = r.close t close (some refl) }
reads_parameters (d ∷ more) q h ps p ms t rest takes is close some =
    let g = is.second in
    let k = g.first.token in
    let r = reads_parameter q h ps p is.front (k ∷ tokens_of g.back ++ t ∷ rest) takes is.first in
    let m = reads_parameters more (parameter_comma h (ps ++ p ∷ [])) h (ps ++ p ∷ []) d g.back t rest (comma_takes h (ps ++ p ∷ [])) g.second close (λ e n. not_empty ps p n.0) in
    record {
      state = m.state;
      reads = reads_sign is.front is.cut g r.reads (r.comma k g.first.holds) m.reads;
      then = m.then ∙ ap (λ ps. taken 0 (parameters_closed h ps)) (append_assoc ps (p ∷ []) (d ∷ more));
    }

pub step_no_parameters : (h : Head) (t : Token) → t.kind ≡ kind.Punctuator mark.CloseParenthesis → step (parameters_open h) t ≡ taken 0 (parameters_closed h [])
step_no_parameters h t e = rw e

step_void_close : (h : Head) (at : Pos) (t : Token) → t.kind ≡ kind.Punctuator mark.CloseParenthesis →
    step (parameter_specifiers h [] (one (record { word = word.Void; at = at }))) t ≡ taken 0 (parameters_closed h [])
step_void_close h at t e = rw e

reads_all_parameters : (ps : List ParameterTree) (h : Head) (ms : List Marked) (t : Token) (rest : List Token) → parameters ps 1 ms → t.kind ≡ kind.Punctuator mark.CloseParenthesis →
    ReadsTo (parameters_open h) ms t rest (taken 0 (parameters_closed h ps))
reads_all_parameters [] h ms t rest is close = elim is [
  | inl e ↦ record { state = parameters_open h; reads = reads_none e; then = step_no_parameters h t close }
  | inr void ↦ record {
    state = parameter_specifiers h [] (one (specifier_at void.token word.Void));
    reads = reads_one void (open_takes h void.token word.Void (ap (λ k. specifier_in k void.token.start void.token.end) void.holds));
    then = step_void_close h void.token.at t close;
  }
]
reads_all_parameters (p ∷ []) h ms t rest is close =
    let r = reads_parameter (parameters_open h) h [] p ms (t ∷ rest) (open_takes h) is.is in
    record { state = r.state; reads = r.reads; then = r.close t close (λ v. is.holds v.1) }
reads_all_parameters (p ∷ q ∷ more) h ms t rest is close =
    reads_parameters (q ∷ more) (parameters_open h) h [] p ms t rest (open_takes h) is close (λ e. cc)

-- Functions

step_function : (done : List ExternalTree) (s : Option Storage) (specs : OneOrMore Specifier) (id : Identifier) (t : Token) → t.kind ≡ kind.Punctuator mark.OpenParenthesis →
    step (after_name (record { site = outside done s; specifiers = specs; enumeration = None; declarators = [] }) id) t ≡ taken 1 (parameters_open (record { before = done; storage = s; specifiers = specs; name = id }))
step_function done s specs id t e = rw e

abbrev whole : Head → List ParameterTree → Option BlockTree → ExternalTree
whole h ps b = function (record { storage = h.storage; specifiers = h.specifiers; name = h.name; parameters = ps; body = b })

step_prototype : (h : Head) (ps : List ParameterTree) (t : Token) → t.kind ≡ kind.Punctuator mark.Semicolon → step (parameters_closed h ps) t ≡ taken 0 (top (h.before ++ whole h ps None ∷ []))
step_prototype h ps t e = rw e

step_body : (h : Head) (ps : List ParameterTree) (at : Pos) (t : Token) → IsAt mark.OpenBrace at t → step (parameters_closed h ps) t ≡ taken 1 (block_item (function_block h ps at no_items))
step_body h ps at t e = rw (e.0, e.1)

reads_body : (b : Option BlockTree) (h : Head) (ps : List ParameterTree) (ms : List Marked) (rest : List Token) → function_end b 0 ms →
    Reads (parameters_closed h ps) ms (top (h.before ++ whole h ps b ∷ [])) rest
unfolding statement
reads_body None h ps ms rest is = reads_one is (step_prototype h ps is.token is.holds)
reads_body (Some b) h ps ms rest is =
    let g = is.first in
    let c = is.second.token in
    let k = (items_read b.items).reads (function_block h ps b.opened no_items) (block_item (function_block h ps b.opened no_items)) (λ t. refl) g.back c rest g.second is.second.holds.0 in
    reads_last is.front is.cut is.second (reads_head g (step_body h ps b.opened g.first.token g.first.holds) k.reads)
    (k.then ∙ ap (λ b. end_block b c) (filled_function b.items no_items h ps b.opened)
    ∙ ap (λ p. taken 0 (top (h.before ++ whole h ps (Some (record { opened = b.opened; items = b.items; closed = p })) ∷ []))) is.second.holds.1)

reads_function : (f : FunctionTree) (done : List ExternalTree) (ms : List Marked) (rest : List Token) → external (function f) 0 ms → Reads (top done) ms (top (done ++ function f ∷ [])) rest
reads_function f done ms rest h =
    let a = h.second in
    let b = a.second in
    let c = b.second in
    let d = c.second in
    let head : Head = record { before = done; storage = f.storage; specifiers = f.specifiers; name = f.name } in
    let s = reads_stored done f.storage h.front (tokens_of h.back ++ rest) h.first in
    let p = reads_all_parameters f.parameters head c.first.back d.first.token (tokens_of d.back ++ rest) c.first.second d.first.holds in
    reads_both h s.reads
    (reads_both a (reads_specifiers (after_specifiers (outside done f.storage)) 0 (step_more_specifiers (outside done f.storage)) f.specifiers s.state s.takes a.first)
    (reads_both b (reads_one b.first (step_first_name (outside done f.storage) f.specifiers b.first.token (no_name f.specifiers b.first.token (ends_in_no_enum f.specifiers a.first.holds) b.first.holds.0) b.first.holds.0
    ∙ ap (λ id. taken 0 (after_name (record { site = outside done f.storage; specifiers = f.specifiers; enumeration = None; declarators = [] }) id)) b.first.holds.1))
    (reads_sign c.front c.cut d
    (reads_head c.first (step_function done f.storage f.specifiers f.name c.first.first.token c.first.first.holds) p.reads)
    p.then
    (reads_body f.body head f.parameters d.back rest d.second))))

-- Type names

pub step_typedef : (done : List ExternalTree) (t : Token) → t.kind ≡ kind.Keyword key.Typedef → step (top done) t ≡ taken 0 (after_typedef done)
step_typedef done t e = rw e

pub step_more_type : (done : List ExternalTree) (specs : OneOrMore Specifier) (t : Token) (w : SpecifierWord) → next_word specs t ≡ Some w →
    step (type_specifiers done specs) t ≡ taken 0 (type_specifiers done (with_last specs (specifier_at t w)))
step_more_type done specs t w e = ap (λ o. more_typedef done specs t o) e

pub step_first_type : (done : List ExternalTree) (specs : OneOrMore Specifier) (id : Identifier) (t : Token) → next_word specs t ≡ None → (t.kind ≡ kind.Name) × (identifier_of t ≡ id) →
    step (type_specifiers done specs) t ≡ taken 0 (after_type_name done specs None (one id))
step_first_type done specs id t h e = ap (λ o. more_typedef done specs t o) h ∙ rw e.0 (ap (λ i. taken 0 (after_type_name done specs None (one i))) e.1)

pub step_no_first_type : (done : List ExternalTree) (specs : OneOrMore Specifier) (t : Token) → next_word specs t ≡ None → is_fixed fixed.OpenBrace t.kind ≡ false → is_fixed fixed.Name t.kind ≡ false →
    step (type_specifiers done specs) t ≡ refused
step_no_first_type done specs t h b n =
    ap (λ o. more_typedef done specs t o) h ∙ same_false (is_fixed fixed.OpenBrace t.kind) _ _ b ∙ same_false (is_fixed fixed.Name t.kind) _ _ n

module _ (done : List ExternalTree) (specs : OneOrMore Specifier) (e : Option EnumerationTree) (ids : OneOrMore Identifier) where
  pub step_type_comma : (t : Token) → t.kind ≡ kind.Punctuator mark.Comma → step (after_type_name done specs e ids) t ≡ taken 0 (type_name_comma done specs e ids)
  step_type_comma t is = rw is

  pub step_next_type : (id : Identifier) (t : Token) → (t.kind ≡ kind.Name) × (identifier_of t ≡ id) → step (type_name_comma done specs e ids) t ≡ taken 0 (after_type_name done specs e (with_last ids id))
  step_next_type id t is = rw is.0 (ap (λ i. taken 0 (after_type_name done specs e (with_last ids i))) is.1)

  pub step_last_type : (t : Token) → t.kind ≡ kind.Punctuator mark.Semicolon →
      step (after_type_name done specs e ids) t ≡ taken 0 (top (done ++ type_names (record { specifiers = specs; enumeration = e; names = ids }) ∷ []))
  step_last_type t is = rw is

reads_more_names : (more : List Identifier) (done : List ExternalTree) (specs : OneOrMore Specifier) (e : Option EnumerationTree) (ids : OneOrMore Identifier) (ms : List Marked) (rest : List Token) → more_names more 0 ms →
    Reads (after_type_name done specs e ids) ms (after_type_name done specs e (record { first = ids.first; more = ids.more ++ more })) rest
reads_more_names [] done specs e ids ms rest h =
    subst (λ q. Reads (after_type_name done specs e ids) ms (after_type_name done specs e (record { first = ids.first; more = q })) rest) (sym (append-nil ids.more)) (reads_none h)
reads_more_names (id ∷ more) done specs e ids ms rest h =
    let g = h.second in
    reads_head h (step_type_comma done specs e ids h.first.token h.first.holds)
    (reads_head g (step_next_type done specs e ids id g.first.token g.first.holds)
    (subst (λ q. Reads (after_type_name done specs e (with_last ids id)) g.back (after_type_name done specs e (record { first = ids.first; more = q })) rest) (append_assoc ids.more (id ∷ []) more)
    (reads_more_names more done specs e (with_last ids id) g.back rest g.second)))

-- a state behind the type that names are declared to be
record NamesType (q : State) (done : List ExternalTree) (specs : OneOrMore Specifier) (e : Option EnumerationTree) : Type 0 where
  first : (t : Token) → t.kind ≡ kind.Name → step q t ≡ taken 0 (after_type_name done specs e (one (identifier_of t)))

record ReadsType (done : List ExternalTree) (specs : OneOrMore Specifier) (e : Option EnumerationTree) (ms : List Marked) (rest : List Token) : Type 0 where
  state : State
  reads : Reads (after_typedef done) ms state rest
  names : NamesType state done specs e

reads_type : (done : List ExternalTree) (specs : OneOrMore Specifier) (e : Option EnumerationTree) (ms : List Marked) (rest : List Token) → type_words specs e 0 ms → ReadsType done specs e ms rest
reads_type done specs None ms rest h = record {
  state = type_specifiers done specs;
  reads = reads_specifiers (type_specifiers done) 0 (step_more_type done) specs (after_typedef done) (λ t w f. ap (λ o. begin_typedef done t o) f) h;
  names = record { first = λ t k. step_first_type done specs (identifier_of t) t (no_name specs t (ends_in_no_enum specs h.holds) k) (k, refl) };
}
reads_type done specs (Some e) ms rest h =
    let b = h.is in
    record {
      state = after_braces (in_typedef done) specs e;
      reads = reads_both b
          (reads_words (type_specifiers done) 0 (step_more_type done) specs (after_typedef done) (λ t w f. ap (λ o. begin_typedef done t o) f) (inr h.holds.0) b.first)
          (reads_braces e (in_typedef done) specs (type_specifiers done specs) (λ t k. step_open_type_braces done specs t (opens_braces specs h.holds.0) k) h.holds.1 b.back rest b.second);
      names = record { first = step_type_behind done specs e };
    }

reads_type_names : (d : TypedefTree) (done : List ExternalTree) (ms : List Marked) (rest : List Token) → external (type_names d) 0 ms → Reads (top done) ms (top (done ++ type_names d ∷ [])) rest
reads_type_names d done ms rest h =
    let a = h.second in
    let b = a.second in
    let c = b.first in
    let r = reads_type done d.specifiers d.enumeration a.front (tokens_of a.back ++ rest) a.first in
    reads_head h (step_typedef done h.first.token h.first.holds)
    (reads_both a r.reads
    (reads_both b (reads_head c (r.names.first c.first.token c.first.holds.0 ∙ ap (λ id. taken 0 (after_type_name done d.specifiers d.enumeration (one id))) c.first.holds.1)
    (reads_more_names d.names.more done d.specifiers d.enumeration (one d.names.first) c.back (tokens_of b.back ++ rest) c.second))
    (reads_one b.second (step_last_type done d.specifiers d.enumeration d.names b.second.token b.second.holds))))

-- External definitions

reads_external : (x : ExternalTree) (done : List ExternalTree) (ms : List Marked) (rest : List Token) → external x 0 ms → Reads (top done) ms (top (done ++ x ∷ [])) rest
reads_external (function f) done ms rest h = reads_function f done ms rest h
reads_external (objects s d) done ms rest h =
    let r = reads_stored done s h.front (tokens_of h.back ++ rest) h.first in
    reads_both h r.reads (reads_declared (outside done s) r.state r.takes d rest h.back tt h.second)
reads_external (type_names d) done ms rest h = reads_type_names d done ms rest h

reads_externals : (u done : List ExternalTree) (ms : List Marked) (rest : List Token) → externals u 0 ms → Reads (top done) ms (top (done ++ u)) rest
reads_externals [] done ms rest h = subst (λ u. Reads (top done) ms (top u) rest) (sym (append-nil done)) (reads_none h)
reads_externals (x ∷ u) done ms rest h =
    reads_both h (reads_external x done h.front (tokens_of h.back ++ rest) h.first)
    (subst (λ u. Reads (top (done ++ x ∷ [])) h.back (top u) rest) (append_assoc done (x ∷ []) u) (reads_externals u (done ++ x ∷ []) h.back rest h.second))

read_end : (u : List ExternalTree) (t : Token) → t.kind ≡ kind.End → read (top u) (t ∷ []) ≡ record { nestings = []; ending = ends u }
unfolding read
read_end u t e = rw e

-- The tokens of a text are read as its trees, each token with its nesting.
pub read_text : (u : List ExternalTree) (front : List Marked) (t : Token) → externals u 0 front → t.kind ≡ kind.End →
    read (top []) (tokens_of front ++ t ∷ []) ≡ record { nestings = nestings_of front; ending = ends u }
read_text u front t h e =
    (reads_externals u [] front (t ∷ []) h).is ∙ ap (λ r. before (nestings_of front) r) (read_end u t e)
    ∙ ap (λ ns. record { nestings = ns; ending = ends u }) (append-nil (nestings_of front))
