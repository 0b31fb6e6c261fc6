use Rattle.std.proofs.Common.{◌∙◌}
use Rattle.pk_draft.specs.Shown.{drafted}
use Rattle.pk_lower_row.specs.Views.{context_in}
use Rattle.pk_lower_statement.proofs.StepLemmas.{declared_next, declared_end}
use Rattle.pk_lower_statement.proofs.declarations.declare_all.Goals as goal

pub loop-object-preserved : goal.loop-object-preserved
loop-object-preserved c =
    declared_next (context_in c.args.context.now) c.loop-object.object-index c.args.objects.now c.object-item.result (drafted c.loop-object.draft) (drafted c.declare.new.draft) c.loop-object-test.true c.object-item.is c.in_ok-declare.ensures
    ∙ c.loop-object.invariant

pub returns : goal.returns
returns c =
    declared_end (context_in c.args.context.now) c.loop-object.object-index c.args.objects.now (drafted c.loop-object.draft) c.loop-object-test.false
    ∙ c.loop-object.invariant
