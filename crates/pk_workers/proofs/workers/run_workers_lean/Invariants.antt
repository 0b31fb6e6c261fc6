use Rattle.pk_workers.proofs.workers.run_workers_lean.Given as goal

-- each hint names an element of the board
abbrev pub ghosts-ended : goal.ghosts-ended
ghosts-ended g a = record { elements = a.board.now.subject.wiring.plan.elements }
