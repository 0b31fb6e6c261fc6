-- What is answered within external definitions, token by token.
use Rattle.std.proofs.Common.{◌≡◌, ◌≢◌, List, [], ◌∷◌, Option, Some, None, Bool, true, false, refl, sym, ap, ◌∙◌, arith}
use Rattle.pk_ast.specs.Lists.{one}
use Rattle.pk_lex.specs.declared.token.Token.{Token}
use Rattle.pk_lex.specs.declared.token.Kind.{Kind}
use Rattle.pk_lex.specs.declared.token.Kind.TheVariants as kind
use Rattle.pk_lex.specs.declared.token.Punctuator.TheVariants as mark
use Rattle.pk_ast.specs.declared.declarations.Specifier.{Specifier}
use Rattle.pk_ast.specs.declared.expressions.Identifier.{Identifier}
use Rattle.pk_ast.specs.declared.units.Storage.{Storage}
use Rattle.pk_ast.specs.declared.units.StorageWord.{StorageWord}
use Rattle.pk_ast.specs.Trees.{no_items, ParameterTree, ExternalTree, OneOrMore}
use Rattle.pk_grammar.specs.declared.signs.Fixed.TheVariants as fixed
use Rattle.pk_grammar.specs.Machine.Signs.{is_fixed, specifier_word, storage_word}
use Rattle.pk_grammar.specs.Machine.States.{Head, function_block, outside, top, after_storage, after_specifiers, after_name, parameters_open, parameters_closed, block_item}
use Rattle.pk_grammar.specs.Machine.Steps.{taken, begin_external, storage_or_specifier, storage_at, step}
use Rattle.pk_grammar.specs.Machine.Running.{trees, syntax, first_of_all, run}
use Rattle.pk_grammar.proofs.CompleteSigns.{specifier_alone}
use Rattle.pk_grammar.proofs.CompleteOperands.{same_false}
use Rattle.pk_grammar.proofs.SpellsSigns.{is_this}
use Rattle.pk_parse_expression.specs.Parsing.{Begins, BeginsWithWord}
use Rattle.pk_parse_expression.proofs.RunLemmas.{run_takes, run_refused}
use Rattle.pk_parse.specs.Parts.{named_first, after_function, storage_state}

-- Functions

step_function : (before : List ExternalTree) (s : Option Storage) (specs : OneOrMore Specifier) (id : Identifier) (t : Token) → t.kind ≡ kind.Punctuator mark.OpenParenthesis →
    step (after_name (named_first (outside before s) specs None) id) t ≡ taken 1 (parameters_open (record { before = before; storage = s; specifiers = specs; name = id }))
step_function before s specs id t e = rw e

step_prototype : (h : Head) (ps : List ParameterTree) (t : Token) → t.kind ≡ kind.Punctuator mark.Semicolon → step (parameters_closed h ps) t ≡ taken 0 (after_function h ps None)
step_prototype h ps t e = rw e

step_body : (h : Head) (ps : List ParameterTree) (t : Token) → t.kind ≡ kind.Punctuator mark.OpenBrace → step (parameters_closed h ps) t ≡ taken 1 (block_item (function_block h ps t.at no_items))
step_body h ps t e = rw e

pub run_function : (end : Token) (before : List ExternalTree) (s : Option Storage) (specs : OneOrMore Specifier) (id : Identifier) (ts : List Token) (t : Token) (rest : List Token) →
    Begins fixed.OpenParenthesis ts t rest →
    run end (after_name (named_first (outside before s) specs None) id) ts ≡ run end (parameters_open (record { before = before; storage = s; specifiers = specs; name = id })) rest
run_function end before s specs id ts t rest b =
    run_takes end (after_name (named_first (outside before s) specs None) id) ts t rest _ _ b.cut (step_function before s specs id t (is_this fixed.OpenParenthesis t.kind b.is)) (omega arith)

module _ (end : Token) (h : Head) (ps : List ParameterTree) (ts : List Token) where
  pub run_prototype : (t : Token) (rest : List Token) → Begins fixed.Semicolon ts t rest → run end (parameters_closed h ps) ts ≡ run end (after_function h ps None) rest
  run_prototype t rest b = run_takes end (parameters_closed h ps) ts t rest _ _ b.cut (step_prototype h ps t (is_this fixed.Semicolon t.kind b.is)) (omega arith)

  pub run_body : (t : Token) (rest : List Token) → Begins fixed.OpenBrace ts t rest → run end (parameters_closed h ps) ts ≡ run end (block_item (function_block h ps t.at no_items)) rest
  run_body t rest b = run_takes end (parameters_closed h ps) ts t rest _ _ b.cut (step_body h ps t (is_this fixed.OpenBrace t.kind b.is)) (omega arith)

  pub no_body : is_fixed fixed.Semicolon (first_of_all end ts).kind ≡ false → is_fixed fixed.OpenBrace (first_of_all end ts).kind ≡ false → run end (parameters_closed h ps) ts ≡ syntax (first_of_all end ts).at
  no_body f g =
      let t = first_of_all end ts in
      run_refused end (parameters_closed h ps) ts (same_false (is_fixed fixed.Semicolon t.kind) _ _ f ∙ same_false (is_fixed fixed.OpenBrace t.kind) _ _ g)

-- What an external definition begins with

pub run_storage : (end : Token) (before : List ExternalTree) (ts : List Token) (t : Token) (rest : List Token) (w : StorageWord) → ts ≡ t ∷ rest → storage_word t.kind ≡ Some w →
    run end (top before) ts ≡ run end (after_storage before (storage_at t w)) rest
run_storage end before ts t rest w cut e = run_takes end (top before) ts t rest _ _ cut (ap (λ o. storage_or_specifier before t o) e) (omega arith)

module _ (end : Token) (before : List ExternalTree) (ts : List Token) where
  pub run_first_word : (s : Option Storage) (first : Specifier) (rest : List Token) → BeginsWithWord specifier_word ts first rest → run end (storage_state before s) ts ≡ run end (after_specifiers (outside before s) (one first)) rest
  run_first_word None first rest b =
      let a = specifier_alone b.token.kind b.token.start b.token.end b.word b.is in
      run_takes end (top before) ts b.token rest _ _ b.cut
      (ap (λ o. storage_or_specifier before b.token o) a.no_storage ∙ same_false (is_fixed fixed.End b.token.kind) _ _ a.no_end ∙ same_false (is_fixed fixed.Typedef b.token.kind) _ _ a.no_typedef ∙ ap (λ o. begin_external before None b.token o) b.is) (omega arith)
      ∙ ap (λ q. run end (after_specifiers (outside before None) (one q)) rest) (sym b.specifier)
  run_first_word (Some s) first rest b =
      run_takes end (after_storage before s) ts b.token rest _ _ b.cut (ap (λ o. begin_external before (Some s) b.token o) b.is) (omega arith)
      ∙ ap (λ q. run end (after_specifiers (outside before (Some s)) (one q)) rest) (sym b.specifier)

  no_end : (k : Kind) → k ≢ kind.End → (b : Bool) → is_fixed fixed.End k ≡ b → is_fixed fixed.End k ≡ false
  no_end k h true e = absurd (h (is_this fixed.End k e))
  no_end k h false e = e

  pub no_first_word : (s : Option Storage) → (s ≡ None → (storage_word (first_of_all end ts).kind ≡ None) × ((first_of_all end ts).kind ≢ kind.End) × (is_fixed fixed.Typedef (first_of_all end ts).kind ≡ false)) →
      specifier_word (first_of_all end ts) ≡ None →
      run end (storage_state before s) ts ≡ syntax (first_of_all end ts).at
  no_first_word None h e =
      let t = first_of_all end ts in
      let g = h refl in
      run_refused end (top before) ts
      (ap (λ o. storage_or_specifier before t o) g.0 ∙ same_false (is_fixed fixed.End t.kind) _ _ (no_end t.kind g.1 (is_fixed fixed.End t.kind) refl)
      ∙ same_false (is_fixed fixed.Typedef t.kind) _ _ g.2 ∙ ap (λ o. begin_external before None t o) e)
  no_first_word (Some s) h e = let t = first_of_all end ts in run_refused end (after_storage before s) ts (ap (λ o. begin_external before (Some s) t o) e)

pub run_end : (end : Token) (u : List ExternalTree) (ts : List Token) → is_fixed fixed.End (first_of_all end ts).kind ≡ true → run end (top u) ts ≡ trees u
unfolding run
run_end end u [] e = refl
run_end end u (t ∷ ts) e = let k : t.kind ≡ kind.End = is_this fixed.End t.kind e in rw k
