use Rattle.pk_command.proofs.definition.order_command.Goals as goal

pub returns : goal.returns
returns c =
    c.with.ensures _ _ (c.with-order.ensures _ _ (record { is = c.new.ensures.app; local = c.new.ensures.local })
    (record { is = c.entry.ensures.rule; local = c.entry.ensures.local }))
    (record { is = c.peak.ensures.rule; local = c.peak.ensures.local })
