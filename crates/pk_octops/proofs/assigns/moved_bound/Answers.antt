use Rattle.std.proofs.Common.{ap, ◌∙◌}
use Rattle.std.specs.Int.{w128}
use Rattle.std.proofs.lemmas.Int.{to_z-of_z}
use Rattle.pk_octmat.proofs.Bars.{pairs_of}
use Rattle.pk_octmat.specs.Half.{kept_at}
use Rattle.pk_octops.specs.Assigns.{moved}
use Rattle.pk_octops.proofs.Along.{moved_is, source_in, source_read}
use Rattle.pk_octops.proofs.assigns.moved_bound.Goals as goal

pub cell-bound-requires-clause-row : goal.cell-bound-requires-clause-row
cell-bound-requires-clause-row c = source_in _ _ _ _ _ _ (pairs_of _ c.requires.pairs) c.requires.row c.source.ensures

pub cell-bound-requires-clause-column : goal.cell-bound-requires-clause-column
cell-bound-requires-clause-column c = source_in _ _ _ _ _ _ (pairs_of _ c.requires.pairs) c.requires.column c.source-2.ensures

pub gained-requires-clause-near : goal.gained-requires-clause-near
gained-requires-clause-near c = rw c.cell-bound.ensures (c.requires.old.whole.near c.source.result c.source-2.result)

pub returns : goal.returns
returns c =
    moved_is _ _ _ _ _ _ _ _
    (source_read c.args.k c.args.t c.args.i c.args.j c.source.result c.source-2.result (kept_at c.args.d c.args.old.now) c.cell-bound.result c.source.ensures c.source-2.ensures c.cell-bound.ensures)
    c.gained.ensures.value
    ∙ ap (λ z. moved (kept_at c.args.d c.args.old.now) c.args.k c.args.t z c.args.i c.args.j) (to_z-of_z w128 c.args.c c.ranges.c)
