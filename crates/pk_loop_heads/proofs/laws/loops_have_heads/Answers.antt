use Rattle.pk_loop_heads.proofs.Graphs.{loops_have_heads}
use Rattle.pk_loop_heads.proofs.laws.loops_have_heads.Goals as goal

pub returns : goal.returns
returns c = loops_have_heads c.paths_are_all.ensures
