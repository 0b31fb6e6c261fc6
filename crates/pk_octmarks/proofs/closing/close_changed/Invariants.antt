use Rattle.pk_octmarks.proofs.closing.close_changed.Given as goal

abbrev pub ghosts-close_counted : goal.ghosts-close_counted
ghosts-close_counted a = record { name = a.fresh.name; parts = a.fresh.parts }
