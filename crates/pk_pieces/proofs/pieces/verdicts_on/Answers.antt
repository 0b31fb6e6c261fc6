use Rattle.pk_graph.specs.Accesses.{AccessOf}
use Rattle.pk_transfer.specs.Trees.{kinds_of}
use Rattle.pk_verdict.specs.Verdicts.{IsTypedOperation}
use Rattle.pk_pieces.proofs.Told.{holds_at}
use Rattle.pk_pieces.proofs.pieces.verdicts_on.Goals as goal

pub verdict_on-requires : goal.verdict_on-requires
verdict_on-requires c =
    holds_at (λ (a : AccessOf). IsTypedOperation (kinds_of c.args.state.now.layout) a.operation) c.args.accesses.now c.loop-k.k c.index-accesses-k.result c.requires c.loop-k-test.true c.index-accesses-k.is
