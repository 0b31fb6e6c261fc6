use Rattle.std.proofs.Common.{◌≡◌, true, false, List, Vec, Global, vec_len, sym, ap, subst, ◌∙◌, arith}
use Rattle.std.proofs.lemmas.Bool.{eqb-true}
use Rattle.pk_ast.specs.declared.units.Parameter.{Parameter}
use Rattle.pk_ast.specs.Trees.{ParameterTree}
use Rattle.pk_ast.specs.Views.{parameter_trees}
use Rattle.pk_grammar.specs.declared.signs.Fixed.TheVariants as fixed
use Rattle.pk_grammar.specs.Machine.States.{parameters_closed}
use Rattle.pk_grammar.specs.Machine.Running.{syntax, run}
use Rattle.pk_parse_expression.proofs.RunLemmas.{passed}
use Rattle.pk_parse_expression.proofs.WordLemmas as word_lemmas
use Rattle.pk_parse.proofs.DeclarationLemmas.{shorter}
use Rattle.pk_parse.proofs.RunParameters.{run_no_parameters, run_parameters}
use Rattle.pk_parse.proofs.ParameterLemmas.{no_items, some_items, ReadsParameters, stops_parameters, fails_parameter, stops_parameter, reads_parameter, reads_last, reads_void}
use Rattle.pk_parse.proofs.externals.parameters.Goals as goal
use Rattle.pk_parse.proofs.externals.parameters.Goals.{then-not-is_empty+in_ok-push, then-not-is_empty-via-then-not-is_empty, then-not-is_empty-via-else-not-is_empty+then-not-is_void_alone, else-not-is_empty+else-not-is_void_alone}

pub returns-in-Some : goal.returns-in-Some
returns-in-Some c =
    let a = shorter fixed.CloseParenthesis _ _ _ c.in-Some.ensures in
    (λ h. run_no_parameters _ h _ _ _ c.in-Some.ensures ∙ ap (λ q. run c.args.parser.end (parameters_closed h q) c.in-Some.last.now) (sym (ap parameter_trees c.new-list.ensures.items)), omega arith)

pub loop-word-init : goal.loop-word-init
loop-word-init c =
    let P : List ParameterTree → Type 0 = λ ps. ReadsParameters c.args.parser.end c.args.tokens.now ps c.args.tokens.now in
    (subst P (sym (ap parameter_trees c.new-list.ensures.items)) (λ h. run_parameters _ h _ c.in_default.ensures), omega arith)

pub returns-in_default-specifier : goal.returns-in_default-specifier
returns-in_default-specifier c = λ h. stops_parameters _ _ c.loop-word.list.items _ c.loop-word.invariant.0 c.in_default-specifier.ensures h ∙ ap syntax (sym c.place.ensures)

pub returns-in_err-parameter : goal.returns-in_err-parameter
returns-in_err-parameter c =
    passed _ _ c.from_residual.result _ c.from_residual.ensures.1
    (fails_parameter _ _ c.loop-word.list.items _ c.loop-word.invariant.0 _ _ c.in-Some-specifier.ensures _ c.in_err-parameter.ensures)

pub returns-in-Some-take : goal.returns-in-Some-take
returns-in-Some-take c =
    let i = c.loop-word.invariant in
    let r = c.in_ok-parameter.ensures in
    let s = c.in-Some-specifier.ensures in
    let a = word_lemmas.shorter _ _ _ s in
    let b = shorter fixed.CloseParenthesis _ _ _ c.in-Some-take.ensures in
    let h = i.1 in
    let g = r.2 in (
      elim c.if-not-is_empty.branch [
        | then-not-is_empty+in_ok-push w ↦
            reads_last _ _ c.loop-word.list.items _ i.0 _ _ s c.in_ok-parameter.parameter _ r.0 r.1 _ _ c.in-Some-take.ensures c.if-not-is_empty.list.items
            (ap (λ (v : Vec Parameter Global). v.items) w.list-is ∙ w.in_ok-push.ensures.items)
            (elim w.then-not-is_empty.branch [
              | then-not-is_empty-via-then-not-is_empty w' ↦ λ e v. some_items c.loop-word.list w'.if-not-is_empty.ensures e
              | then-not-is_empty-via-else-not-is_empty+then-not-is_void_alone w' ↦ λ e v. let f : false ≡ true = sym w'.if-not-is_void_alone.true ∙ w'.is_void_alone.ensures.1 v in absurd (cc)
            ])
        | else-not-is_empty+else-not-is_void_alone w ↦
            reads_void _ _ c.loop-word.list.items _ i.0 _ _ s c.in_ok-parameter.parameter _ r.0 r.1 _ _ c.in-Some-take.ensures c.if-not-is_empty.list.items
            (ap (λ (v : Vec Parameter Global). v.items) w.list-is)
            (no_items c.loop-word.list (eqb-true (vec_len c.loop-word.list) 0 (sym c.is_empty.ensures ∙ w.if-not-is_empty.false)))
            (w.is_void_alone.ensures.0 w.if-not-is_void_alone.false)
      ],
      omega arith,
    )

pub returns-in_err-following : goal.returns-in_err-following
returns-in_err-following c =
    let r = c.in_ok-parameter.ensures in
    passed _ _ c.from_residual-in_err-following.result _ c.from_residual-in_err-following.ensures.1
    (stops_parameter _ _ c.loop-word.list.items _ c.loop-word.invariant.0 _ _ c.in-Some-specifier.ensures c.in_ok-parameter.parameter _ r.0 r.1 _ c.in_default-take.ensures c.in_err-following.ensures)

pub loop-word-preserved : goal.loop-word-preserved
loop-word-preserved c =
    let i = c.loop-word.invariant in
    let r = c.in_ok-parameter.ensures in
    let s = c.in-Some-specifier.ensures in
    let a = word_lemmas.shorter _ _ _ s in
    let b = shorter fixed.Comma _ _ _ c.in_ok-following.ensures in
    let h = i.1 in
    let g = r.2 in
    (reads_parameter _ _ c.loop-word.list.items _ i.0 _ _ s c.in_ok-parameter.parameter _ r.0 r.1 _ _ _ c.in_ok-push-2.ensures.items c.in_ok-following.ensures, omega arith)
