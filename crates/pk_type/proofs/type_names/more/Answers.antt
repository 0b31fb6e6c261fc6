use Rattle.std.proofs.Common.{refl, arith}
use Rattle.std.proofs.lemmas.List.{drop_more, drop_all}
use Rattle.pk_type.proofs.TypeNameLemmas.{names_step, names_ended}
use Rattle.pk_type.proofs.type_names.more.Goals as goal

pub loop-name-preserved : goal.loop-name-preserved
loop-name-preserved c =
    names_step c.args.named _ _ _ _ _ _ _ (drop_more c.args.list.now c.loop-name.name-index _ c.loop-name-test.true) refl c.in_ok-type_name.ensures c.loop-name.invariant

pub returns : goal.returns
returns c = names_ended c.args.named _ _ _ (drop_all c.loop-name.name-index c.args.list.now (omega (arith, c.loop-name-test.false))) c.loop-name.invariant
