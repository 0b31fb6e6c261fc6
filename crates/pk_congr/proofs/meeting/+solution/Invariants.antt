use Rattle.pk_congr.proofs.meeting.«+solution».Given as goal

abbrev pub decreases-solution : goal.decreases-solution
decreases-solution l = l.n
