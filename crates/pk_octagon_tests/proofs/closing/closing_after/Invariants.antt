use Rattle.pk_octagon_tests.proofs.closing.closing_after.Given as goal

abbrev pub ghosts-closed_after : goal.ghosts-closed_after
ghosts-closed_after a = record { name = a.fresh.name; parts = a.fresh.parts }
