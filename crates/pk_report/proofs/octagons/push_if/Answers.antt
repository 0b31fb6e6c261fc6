use Rattle.std.proofs.Common.{◌∙◌, sym}
use Rattle.pk_report.proofs.OctagonLemmas.{pushed, kept, pushed_small}
use Rattle.pk_report.proofs.octagons.push_if.Goals as goal

pub returns-then-not-is_chosen-clause-value : goal.returns-then-not-is_chosen-clause-value
returns-then-not-is_chosen-clause-value c = kept c.args.state.now.layout c.args.x c.args.list.now.items (sym c.is_chosen.ensures.value ∙ c.if-not-is_chosen.true)

pub returns-clause-value : goal.returns-clause-value
returns-clause-value c =
    pushed c.args.state.now.layout c.args.x c.args.list.now.items c.push.new.self.items (sym c.is_chosen.ensures.value ∙ c.if-not-is_chosen.false) c.in_ok-push.ensures.items

pub returns-clause-small : goal.returns-clause-small
returns-clause-small c = pushed_small c.args.x c.args.list.now.items c.push.new.self.items (c.is_chosen.ensures.few c.if-not-is_chosen.false) c.in_ok-push.ensures.items
