use Rattle.pk_command.proofs.definition.gen_command.Goals as goal

pub returns : goal.returns
returns c =
    c.with.ensures _ _ (c.with-made-2.ensures _ _ (c.with-made.ensures _ _ (record { is = c.new.ensures.app; local = c.new.ensures.local })
    (record { is = c.seed.ensures.rule; local = c.seed.ensures.local }))
    (record { is = c.size.ensures.rule; local = c.size.ensures.local }))
    (record { is = c.workers.ensures.rule; local = c.workers.ensures.local })
