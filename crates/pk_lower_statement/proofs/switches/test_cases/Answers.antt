use Rattle.std.proofs.Common.{◌∙◌}
use Rattle.std.proofs.lemmas.List.{get_or_default}
use Rattle.pk_graph.specs.Views.{tree_view}
use Rattle.pk_draft.specs.Shown.{drafted}
use Rattle.pk_ctypes.proofs.Small.{some_is}
use Rattle.pk_lower_statement.proofs.StepLemmas.{tests_next, tests_end}
use Rattle.pk_lower_statement.proofs.switches.test_cases.Goals as goal

pub loop-case-preserved : goal.loop-case-preserved
loop-case-preserved c =
    tests_next c.args.site c.args.int_type (tree_view c.args.tree.now) c.loop-case.case-index c.loop-case.point c.in_ok-point.point c.args.cases.now _ (drafted c.loop-case.draft) (drafted c.test_case.new.draft) c.loop-case-test.true
    (get_or_default c.args.cases.now c.loop-case.case-index _ _ c.loop-case-test.true) (some_is _ _ _ _ c.checked_add.ensures c.in_ok-point.ensures.ok_part) c.in_ok-test_case.ensures
    ∙ c.loop-case.invariant

pub returns : goal.returns
returns c =
    tests_end c.args.site c.args.int_type (tree_view c.args.tree.now) c.loop-case.case-index c.loop-case.point c.args.cases.now (drafted c.loop-case.draft) c.loop-case-test.false
    ∙ c.loop-case.invariant
