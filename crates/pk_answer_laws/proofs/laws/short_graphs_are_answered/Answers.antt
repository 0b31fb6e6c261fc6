use Rattle.pk_answer_laws.proofs.laws.short_graphs_are_answered.Goals as goal

pub returns : goal.returns
returns c words text short =
    c.words_are_answered.ensures words text (λ entry g h. c.short_graphs_have_room.ensures g (c.graphs_are_well_made.ensures text entry g h) (short entry g h))
