use Rattle.pk_command.proofs.definition.run_command.Goals as goal

pub returns : goal.returns
returns c =
    c.with.ensures _ _ (c.with-run-3.ensures _ _ (c.with-run-2.ensures _ _ (c.with-run.ensures _ _ c.run_numbers.ensures
    (record { is = c.entry.ensures.rule; local = c.entry.ensures.local }))
    (record { is = c.points.ensures.rule; local = c.points.ensures.local }))
    (record { is = c.lean.ensures.rule; local = c.lean.ensures.local }))
    (record { is = c.packs.ensures.rule; local = c.packs.ensures.local })
