-- From what reading answers to what is promised of a text.
use Rattle.std.proofs.Common.{◌≡◌, ◌⊎◌, inl, inr, List, [], ◌∷◌, ◌++◌, Result, Err, IfErr, IsErrAnd, refl, sym, ap, subst, ◌∙◌}
use Rattle.std.proofs.lemmas.Result.{err_from_is_err_and}
use Rattle.pk_lex.specs.declared.token.Token.{Token}
use Rattle.pk_ast.specs.Trees.{ExternalTree}
use Rattle.pk_constructs.specs.Constructs.{IsSupported}
use Rattle.pk_grammar.specs.declared.failure.ParseError.{ParseError}
use Rattle.pk_grammar.specs.declared.failure.ParseError.TheVariants.{Unsupported, Syntax, Nesting, Memory}
use Rattle.pk_grammar.specs.Machine.States.{top}
use Rattle.pk_grammar.specs.Outcomes.{IsEnded}
use Rattle.pk_grammar.specs.Machine.Running.{trees, run, Fails}
use Rattle.pk_grammar.proofs.OutcomeLemmas.{parsed_so, syntax_so, nesting_so, only_answer}
use Rattle.pk_parse.specs.Refusals.{IsAccepted, IsRefused}

-- an error that a `?` hands on
pub passed_on : {X : Type 0} (P : ParseError → Type 0) (r : Result X ParseError) (e : ParseError) → IsErrAnd r (λ y. y ≡ e) → P e → IfErr r P
passed_on P r e g f = let p = err_from_is_err_and r g in subst (λ q. IfErr q P) (sym (p.1 ∙ ap (λ y. Err y) p.2)) f

module _ (front : List Token) (end : Token) (tokens : List Token) (cut : tokens ≡ front ++ end ∷ []) (ended : IsEnded tokens) (supported : IsSupported tokens) where
  pub accepted : (u : List ExternalTree) → run end (top []) front ≡ trees u → IsAccepted tokens u
  accepted u e = record { supported = supported; parsed = parsed_so front end tokens cut ended u e }

  pub refused_by : (x : ParseError) → Fails (run end (top []) front) x → (x ≡ Memory) ⊎ IsRefused tokens x
  refused_by (Unsupported c at) f = absurd f
  refused_by (Syntax at) f = inr (supported, syntax_so front end tokens cut ended at f)
  refused_by (Nesting at) f = inr (supported, nesting_so front end tokens cut ended at f)
  refused_by Memory f = inl refl

  pub only_memory : (u : List ExternalTree) → IsAccepted tokens u → (x : ParseError) → Fails (run end (top []) front) x → x ≡ Memory
  only_memory u a (Unsupported c at) f = absurd f
  only_memory u a (Syntax at) f = let g = only_answer front end tokens cut ended u a.parsed in absurd (cc)
  only_memory u a (Nesting at) f = let g = only_answer front end tokens cut ended u a.parsed in absurd (cc)
  only_memory u a Memory f = refl

  pub only_trees : (u v : List ExternalTree) → IsAccepted tokens u → run end (top []) front ≡ trees v → v ≡ u
  only_trees u v a e = let g = only_answer front end tokens cut ended u a.parsed in cc
