use Rattle.std.proofs.Common.{◌≡◌, drop}
use Rattle.pk_typed.specs.Views.{declared_trees}
use Rattle.pk_draft.specs.Shown.{drafted}
use Rattle.pk_lower_row.specs.Views.{context_in}
use Rattle.pk_lower_statement.specs.Statements.{all_declared}
use Rattle.pk_lower_statement.proofs.declarations.declare_all.Given as goal

abbrev pub invariant-loop-object : goal.invariant-loop-object
invariant-loop-object l =
    all_declared (context_in l.context) (declared_trees (drop l.object-index l.objects)) (drafted l.draft)
    ≡ all_declared (context_in l.context) (declared_trees l.objects) (drafted l.initial.draft)
