use Rattle.std.proofs.Common.{ap, arith, subst, sym, ◌<◌, ◌*◌, ◌%◌, ◌≡◌}
use Rattle.pk_octmat.specs.Octagon.{Octagon}
use Rattle.pk_octmat.specs.Half.{kept_at}
use Rattle.pk_octmat.proofs.Half.{kept_read, spot_at}
use Rattle.pk_octmat.proofs.matrix.Matrix.bound.Goals as goal

pub index-bound-requires : goal.index-bound-requires
index-bound-requires c =
    let same = ap (λ (o : Octagon). 2 * o.vars) c.self.view_is in
    let row : c.args.i < 2 * c.self.inside.vars = omega (arith, c.requires.row) in
    let column : c.args.j < 2 * c.self.inside.vars = omega (arith, c.requires.column) in
    subst (λ n. c.spot.result < n) (sym c.self.inside.cells.ok.0) (spot_at (2 * c.self.inside.vars) c.args.i c.args.j c.spot.result c.self.inside.cells.items (omega arith) c.self.invariant.half.size row column c.spot.ensures)

is : (c : goal.After-bound-1) → c.index-bound.result.now ≡ kept_at (2 * c.self.inside.vars) c.self.inside.cells.items c.args.i c.args.j
is c =
    let same = ap (λ (o : Octagon). 2 * o.vars) c.self.view_is in
    let even : (2 * c.self.inside.vars) % 2 ≡ 0 = omega arith in
    let row : c.args.i < 2 * c.self.inside.vars = omega (arith, c.requires.row) in
    let column : c.args.j < 2 * c.self.inside.vars = omega (arith, c.requires.column) in
    kept_read (2 * c.self.inside.vars) c.self.inside.cells.items c.args.i c.args.j c.spot.result c.index-bound.result.now even c.self.invariant.half.size row column c.spot.ensures c.index-bound.ensures

pub returns-clause-value : goal.returns-clause-value
returns-clause-value c = rw (← c.self.view_is) (is c)

pub returns-clause-near : goal.returns-clause-near
returns-clause-near c = rw (is c) (c.self.invariant.half.whole.near c.args.i c.args.j)
