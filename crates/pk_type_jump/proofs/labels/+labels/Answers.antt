use Rattle.std.proofs.Common.{◌∙◌, ap}
use Rattle.pk_type_jump.specs.Views.{listed_in}
use Rattle.pk_type_jump.proofs.ItemLemmas.{next, at_end}
use Rattle.pk_type_jump.proofs.LabelLemmas.{after_declaration, after_statement, at_last}
use Rattle.pk_type_jump.proofs.labels.+labels.Goals as goal
use Rattle.pk_type_jump.proofs.labels.+labels.Goals.{items-in-Declaration+in_ok-within-in-Declaration+in_ok-declaration-in-Declaration, items-in-Statement+in_ok-statement-in-Statement}

pub items-loop-item-preserved : goal.items-loop-item-preserved
items-loop-item-preserved t c =
    elim c.match-item.branch [
      | items-in-Declaration+in_ok-within-in-Declaration+in_ok-declaration-in-Declaration w ↦
          after_declaration c.args.text.now _ _ _ _ _ _ _ _ _ (next c.args.list.now c.loop-item.item-index c.item-item.result _ c.loop-item-test.true c.item-item.is w.in-Declaration.is)
          (w.within-is ∙ w.in_ok-within-in-Declaration.ensures) (ap listed_in w.labels-is ∙ w.in_ok-declaration-in-Declaration.ensures) c.loop-item.invariant
      | items-in-Statement+in_ok-statement-in-Statement w ↦
          after_statement c.args.text.now _ _ _ _ _ _ _ _ w.within-is (next c.args.list.now c.loop-item.item-index c.item-item.result _ c.loop-item-test.true c.item-item.is w.in-Statement.is)
          (ap listed_in w.labels-is ∙ w.in_ok-statement-in-Statement.ensures) c.loop-item.invariant
    ]

pub items-returns : goal.items-returns
items-returns t c = at_last c.args.text.now _ _ _ _ (at_end c.args.list.now c.loop-item.item-index c.loop-item-test.false) c.loop-item.invariant
