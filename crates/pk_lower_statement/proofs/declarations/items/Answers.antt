use Rattle.std.proofs.Common.{◌∙◌}
use Rattle.pk_draft.specs.Shown.{drafted}
use Rattle.pk_lower_row.specs.Views.{context_in}
use Rattle.pk_lower_statement.proofs.StepLemmas.{items_next, items_end}
use Rattle.pk_lower_statement.proofs.declarations.items.Goals as goal

pub loop-number-preserved : goal.loop-number-preserved
loop-number-preserved c =
    items_next (context_in c.args.context.now) c.args.object c.loop-number.number c.args.list.now c.index-list-number.result (drafted c.loop-number.draft) (drafted c.item.new.draft) c.loop-number-test.true c.index-list-number.is c.in_ok-item.ensures
    ∙ c.loop-number.invariant

pub returns : goal.returns
returns c =
    items_end (context_in c.args.context.now) c.args.object c.loop-number.number c.args.list.now (drafted c.loop-number.draft) c.loop-number-test.false
    ∙ c.loop-number.invariant
