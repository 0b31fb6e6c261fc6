use Rattle.pk_type_declaration.proofs.DeclaratorLemmas.{next, at_end}
use Rattle.pk_type.proofs.FileLemmas.{objects_step, objects_ended}
use Rattle.pk_type.proofs.files.File.objects.Goals as goal

pub loop-d-preserved : goal.loop-d-preserved
loop-d-preserved c =
    objects_step c.args.storage.now c.args.words _ _ _ _ _ _ (next c.args.list.now c.loop-d.d-index c.d-item.result c.loop-d-test.true c.d-item.is) c.in_ok-declarator.ensures c.loop-d.invariant

pub returns : goal.returns
returns c = objects_ended c.args.storage.now c.args.words _ _ _ (at_end c.args.list.now c.loop-d.d-index c.loop-d-test.false) c.loop-d.invariant
