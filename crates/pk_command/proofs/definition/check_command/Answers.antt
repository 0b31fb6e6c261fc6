use Rattle.pk_command.proofs.definition.check_command.Goals as goal

pub returns : goal.returns
returns c = record { is = c.new.ensures.app; local = c.new.ensures.local }
