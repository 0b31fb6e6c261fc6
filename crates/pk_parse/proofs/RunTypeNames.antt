-- What is answered within a declaration of type names, token by token.
use Rattle.std.proofs.Common.{◌≡◌, List, ◌∷◌, Option, Some, None, Bool, true, false, refl, sym, ap, subst, ◌∙◌, arith}
use Rattle.pk_lex.specs.declared.token.Token.{Token}
use Rattle.pk_lex.specs.declared.token.Kind.TheVariants as kind
use Rattle.pk_ast.specs.declared.declarations.Specifier.{Specifier}
use Rattle.pk_ast.specs.declared.expressions.Identifier.{Identifier}
use Rattle.pk_ast.specs.Lists.{one, with_last}
use Rattle.pk_ast.specs.Trees.{OneOrMore, EnumerationTree, ExternalTree}
use Rattle.pk_grammar.specs.declared.signs.Fixed.TheVariants as fixed
use Rattle.pk_grammar.specs.Languages.{identifier_of}
use Rattle.pk_grammar.specs.Machine.Signs.{is_fixed, specifier_word}
use Rattle.pk_grammar.specs.Machine.States.{in_typedef, top, after_typedef, type_specifiers, after_type_name, type_name_comma}
use Rattle.pk_grammar.specs.Machine.Steps.{taken, refused, begin_typedef, next_word, may_open, step}
use Rattle.pk_grammar.specs.Machine.Running.{syntax, first_of_all, run}
use Rattle.pk_grammar.proofs.CompleteOperands.{same_false}
use Rattle.pk_grammar.proofs.CompleteExternals.{step_typedef, step_more_type, step_first_type, step_no_first_type, step_type_comma, step_next_type, step_last_type}
use Rattle.pk_grammar.proofs.CompleteEnumerations.{step_no_type_braces, step_type_behind, step_no_type_behind}
use Rattle.pk_grammar.proofs.SpellsSigns.{is_this}
use Rattle.pk_parse_expression.specs.Parsing.{Begins, BeginsWithWord, words}
use Rattle.pk_parse_expression.proofs.RunLemmas.{run_takes, run_refused}
use Rattle.pk_parse_expression.proofs.RunOperands.{run_words}
use Rattle.pk_parse.specs.Parts.{type_state, EndsType, after_type_names}

module _ (end : Token) (before : List ExternalTree) (ts : List Token) where
  pub run_typedef : (t : Token) (rest : List Token) → Begins fixed.Typedef ts t rest → run end (top before) ts ≡ run end (after_typedef before) rest
  run_typedef t rest b = run_takes end (top before) ts t rest _ _ b.cut (step_typedef before t (is_this fixed.Typedef t.kind b.is)) (omega arith)

  pub run_first_type : (first : Specifier) (rest : List Token) → BeginsWithWord specifier_word ts first rest → run end (after_typedef before) ts ≡ run end (type_specifiers before (one first)) rest
  run_first_type first rest b =
      run_takes end (after_typedef before) ts b.token rest _ _ b.cut (ap (λ o. begin_typedef before b.token o) b.is) (omega arith)
      ∙ ap (λ q. run end (type_specifiers before (one q)) rest) (sym b.specifier)

  pub no_first_type : specifier_word (first_of_all end ts) ≡ None → run end (after_typedef before) ts ≡ syntax (first_of_all end ts).at
  no_first_type e = let t = first_of_all end ts in run_refused end (after_typedef before) ts (ap (λ o. begin_typedef before t o) e)

  pub run_type_words : (specs : OneOrMore Specifier) → run end (type_specifiers before specs) ts ≡ run end (type_specifiers before (words specs ts).0) (words specs ts).1
  run_type_words specs = run_words end (λ q. type_specifiers before q) 0 (omega arith) (λ q t w e. step_more_type before q t w e) ts specs

-- the first name, behind the type

step_type_named : (end : Token) (before : List ExternalTree) (specs : OneOrMore Specifier) (e : Option EnumerationTree) (t : Token) (rest : List Token) → EndsType end specs e (t ∷ rest) → t.kind ≡ kind.Name →
    step (type_state (in_typedef before) specs e) t ≡ taken 0 (after_type_name before specs e (one (identifier_of t)))
step_type_named end before specs None t rest ends is = step_first_type before specs (identifier_of t) t ends.0 (is, refl)
step_type_named end before specs (Some e) t rest ends is = step_type_behind before specs e t is

refused_words : (before : List ExternalTree) (specs : OneOrMore Specifier) (t : Token) (b : Bool) → is_fixed fixed.OpenBrace t.kind ≡ b → next_word specs t ≡ None →
    (is_fixed fixed.OpenBrace t.kind ≡ true → may_open specs ≡ false) → is_fixed fixed.Name t.kind ≡ false → step (type_specifiers before specs) t ≡ refused
refused_words before specs t true e none h f = step_no_type_braces before specs t (h e) (is_this fixed.OpenBrace t.kind e)
refused_words before specs t false e none h f = step_no_first_type before specs t none e f

refused_type_name : (end : Token) (before : List ExternalTree) (specs : OneOrMore Specifier) (e : Option EnumerationTree) (ts : List Token) → EndsType end specs e ts → is_fixed fixed.Name (first_of_all end ts).kind ≡ false →
    step (type_state (in_typedef before) specs e) (first_of_all end ts) ≡ refused
refused_type_name end before specs None ts ends f = let t = first_of_all end ts in refused_words before specs t (is_fixed fixed.OpenBrace t.kind) refl ends.0 ends.1 f
refused_type_name end before specs (Some e) ts ends f = step_no_type_behind before specs e (first_of_all end ts) ends f

module _ (end : Token) (before : List ExternalTree) (ts : List Token) (specs : OneOrMore Specifier) (e : Option EnumerationTree) where
  pub run_type_name : (t : Token) (rest : List Token) → EndsType end specs e ts → Begins fixed.Name ts t rest →
      run end (type_state (in_typedef before) specs e) ts ≡ run end (after_type_name before specs e (one (identifier_of t))) rest
  run_type_name t rest ends b =
      run_takes end (type_state (in_typedef before) specs e) ts t rest _ _ b.cut
      (step_type_named end before specs e t rest (subst (λ q. EndsType end specs e q) b.cut ends) (is_this fixed.Name t.kind b.is)) (omega arith)

  pub no_type_name : EndsType end specs e ts → is_fixed fixed.Name (first_of_all end ts).kind ≡ false → run end (type_state (in_typedef before) specs e) ts ≡ syntax (first_of_all end ts).at
  no_type_name ends f = run_refused end (type_state (in_typedef before) specs e) ts (refused_type_name end before specs e ts ends f)

  module _ (ids : OneOrMore Identifier) where
    pub run_type_comma : (t : Token) (rest : List Token) → Begins fixed.Comma ts t rest → run end (after_type_name before specs e ids) ts ≡ run end (type_name_comma before specs e ids) rest
    run_type_comma t rest b = run_takes end (after_type_name before specs e ids) ts t rest _ _ b.cut (step_type_comma before specs e ids t (is_this fixed.Comma t.kind b.is)) (omega arith)

    pub run_last_type : (t : Token) (rest : List Token) → Begins fixed.Semicolon ts t rest →
        run end (after_type_name before specs e ids) ts ≡ run end (after_type_names before (record { specifiers = specs; enumeration = e; names = ids })) rest
    run_last_type t rest b = run_takes end (after_type_name before specs e ids) ts t rest _ _ b.cut (step_last_type before specs e ids t (is_this fixed.Semicolon t.kind b.is)) (omega arith)

    pub no_type_comma : is_fixed fixed.Semicolon (first_of_all end ts).kind ≡ false → is_fixed fixed.Comma (first_of_all end ts).kind ≡ false →
        run end (after_type_name before specs e ids) ts ≡ syntax (first_of_all end ts).at
    no_type_comma f g =
        let t = first_of_all end ts in
        run_refused end (after_type_name before specs e ids) ts (same_false (is_fixed fixed.Comma t.kind) _ _ g ∙ same_false (is_fixed fixed.Semicolon t.kind) _ _ f)

    pub run_next_type : (t : Token) (rest : List Token) → Begins fixed.Name ts t rest →
        run end (type_name_comma before specs e ids) ts ≡ run end (after_type_name before specs e (with_last ids (identifier_of t))) rest
    run_next_type t rest b =
        run_takes end (type_name_comma before specs e ids) ts t rest _ _ b.cut (step_next_type before specs e ids (identifier_of t) t (is_this fixed.Name t.kind b.is, refl)) (omega arith)

    pub no_next_type : is_fixed fixed.Name (first_of_all end ts).kind ≡ false → run end (type_name_comma before specs e ids) ts ≡ syntax (first_of_all end ts).at
    no_next_type f = let t = first_of_all end ts in run_refused end (type_name_comma before specs e ids) ts (same_false (is_fixed fixed.Name t.kind) _ _ f)
