use Rattle.pk_command.proofs.definition.cert_command.Goals as goal

pub returns : goal.returns
returns c =
    c.with.ensures _ _ c.run_numbers.ensures
    (record { is = c.entry.ensures.rule; local = c.entry.ensures.local })
