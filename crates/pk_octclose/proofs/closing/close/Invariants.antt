use Rattle.pk_octclose.proofs.closing.close.Given as goal

abbrev pub ghosts-close_cells : goal.ghosts-close_cells
ghosts-close_cells a = record { name = a.fresh.name; parts = a.fresh.parts }
