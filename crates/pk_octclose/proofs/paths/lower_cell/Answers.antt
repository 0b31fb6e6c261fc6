use Rattle.std.specs.Prelude.{◌≡◌, ◌+◌, ◌<◌}
use Rattle.std.proofs.Common.{◌∙◌, arith, refl, sym}
use Rattle.pk_octmat.specs.Half.{kept_at, spot}
use Rattle.pk_octmat.proofs.Half.{kept_read}
use Rattle.pk_octclose.proofs.Rows.{base_at, set_here, set_others, test_false, test_true}
use Rattle.pk_octclose.proofs.paths.lower_cell.Goals as goal

pub returns-then-is_at_most-clause-here : goal.returns-then-is_at_most-clause-here
returns-then-is_at_most-clause-here g c =
    let at : c.args.base + c.args.j ≡ spot c.args.i c.args.j = base_at c.args.i c.args.j (c.args.base + c.args.j) c.args.base c.requires.low c.requires.base refl in
    let column : c.args.j < c.args.d = omega (arith, c.requires.pairs, c.requires.row, c.requires.low) in
    let read : c.index-cells-at.result ≡ kept_at c.args.d c.args.cells.now c.args.i c.args.j =
    kept_read c.args.d c.args.cells.now c.args.i c.args.j (c.args.base + c.args.j) c.index-cells-at.result c.requires.pairs c.requires.size c.requires.row column at c.index-cells-at.is in
    test_true _ c.index-cells-at.result c.args.bound read (sym c.is_at_most.ensures ∙ c.if-is_at_most.true)

pub returns-clause-here : goal.returns-clause-here
returns-clause-here g c =
    let at : c.args.base + c.args.j ≡ spot c.args.i c.args.j = base_at c.args.i c.args.j (c.args.base + c.args.j) c.args.base c.requires.low c.requires.base refl in
    let column : c.args.j < c.args.d = omega (arith, c.requires.pairs, c.requires.row, c.requires.low) in
    let read : c.index-cells-at.result ≡ kept_at c.args.d c.args.cells.now c.args.i c.args.j =
    kept_read c.args.d c.args.cells.now c.args.i c.args.j (c.args.base + c.args.j) c.index-cells-at.result c.requires.pairs c.requires.size c.requires.row column at c.index-cells-at.is in
    set_here c.args.d c.args.i c.args.j (c.args.base + c.args.j) c.args.cells.now c.args.bound c.requires.pairs c.requires.size c.requires.row column at ∙ test_false _ c.index-cells-at.result c.args.bound read (sym c.is_at_most.ensures ∙ c.if-is_at_most.false)

pub returns-clause-others : goal.returns-clause-others
returns-clause-others g c =
    set_others c.args.d c.args.i c.args.j (c.args.base + c.args.j) c.args.cells.now c.args.bound c.requires.low (base_at c.args.i c.args.j (c.args.base + c.args.j) c.args.base c.requires.low c.requires.base refl)
