use Rattle.std.proofs.Common.{◌≡◌, drop}
use Rattle.pk_graph.specs.Views.{tree_view}
use Rattle.pk_draft.specs.Shown.{drafted}
use Rattle.pk_lower_statement.specs.Statements.{case_tests}
use Rattle.pk_lower_statement.proofs.switches.test_cases.Given as goal

abbrev pub invariant-loop-case : goal.invariant-loop-case
invariant-loop-case l =
    case_tests l.site l.int_type (tree_view l.tree) (drop l.case-index l.cases) l.point (drafted l.draft)
    ≡ case_tests l.site l.int_type (tree_view l.tree) l.cases l.first (drafted l.initial.draft)
