use Rattle.pk_words.proofs.plays.arm_head_told.Goals as goal

pub fetch_sub-requires : goal.fetch_sub-requires
fetch_sub-requires g c = c.requires
