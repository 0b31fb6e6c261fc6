use Rattle.std.proofs.Common.{Bool, List, sym, ap, subst, ◌∙◌, arith}
use Rattle.pk_ast.specs.Trees.{EnumeratorTree}
use Rattle.pk_ast.specs.Views.{enumerator_trees}
use Rattle.pk_grammar.specs.Machine.Running.{run}
use Rattle.pk_parse.specs.Parts.{enumerator_state, with_enumerators}
use Rattle.pk_parse_expression.proofs.RunLemmas.{passed}
use Rattle.pk_parse.proofs.EnumerationLemmas.{ReadsEnumerators, reads_none, fails_more, reads_more}
use Rattle.pk_parse.proofs.enumerations.more_enumerators.Goals as goal

pub loop-another-init : goal.loop-another-init
loop-another-init c =
    let P : List EnumeratorTree → Type 0 = λ xs. ReadsEnumerators c.args.parser.end c.args.outside c.args.another c.args.tokens.now xs c.args.another c.args.tokens.now in
    (subst P (sym (ap enumerator_trees c.new-list.ensures.items)) (reads_none _ _ _ _), c.requires.enumerator, omega arith)

pub returns-then-not-another : goal.returns-then-not-another
returns-then-not-another c =
    let i = c.loop-another.invariant in
    (λ d same. i.0 d same ∙ ap (λ b. run c.args.parser.end (enumerator_state b (with_enumerators d (enumerator_trees c.loop-another.list.items))) c.loop-another.rest.now) c.if-not-another.true, i.2)

pub returns-in_err-enumerator : goal.returns-in_err-enumerator
returns-in_err-enumerator c =
    let i = c.loop-another.invariant in
    let P : Bool → Type 0 = λ b. ReadsEnumerators c.args.parser.end c.args.outside c.args.another c.args.tokens.now (enumerator_trees c.loop-another.list.items) b c.loop-another.rest.now in
    passed _ _ c.from_residual.result _ c.from_residual.ensures.1
    (fails_more _ _ _ _ c.loop-another.list.items _ (subst P c.if-not-another.false i.0) (i.1 c.if-not-another.false) _ c.in_err-enumerator.ensures)

pub loop-another-preserved : goal.loop-another-preserved
loop-another-preserved c =
    let i = c.loop-another.invariant in
    let r = c.in_ok-enumerator.ensures in
    let g = r.2 in
    let h = i.2 in
    let P : Bool → Type 0 = λ b. ReadsEnumerators c.args.parser.end c.args.outside c.args.another c.args.tokens.now (enumerator_trees c.loop-another.list.items) b c.loop-another.rest.now in
    (reads_more _ _ _ _ c.loop-another.list.items _ (subst P c.if-not-another.false i.0) (i.1 c.if-not-another.false) c.in_ok-enumerator.enumerator _ _ r.0 _ c.in_ok-push.ensures.items, r.1, omega arith)
