use Rattle.pk_command.proofs.definition.run_numbers.Goals as goal

pub returns : goal.returns
returns c =
    c.with.ensures _ _ (c.with-run-4.ensures _ _ (c.with-run-3.ensures _ _ (c.with-run-2.ensures _ _ (c.with-run.ensures _ _ (record { is = c.new.ensures.app; local = c.new.ensures.local })
    (record { is = c.workers.ensures.rule; local = c.workers.ensures.local }))
    (record { is = c.delay.ensures.rule; local = c.delay.ensures.local }))
    (record { is = c.narrow.ensures.rule; local = c.narrow.ensures.local }))
    (record { is = c.oct.ensures.rule; local = c.oct.ensures.local }))
    (record { is = c.max_runs.ensures.rule; local = c.max_runs.ensures.local })
