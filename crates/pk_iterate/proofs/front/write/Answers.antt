use Rattle.std.proofs.Common.{◌≡◌, ◌<◌, map, length, set, refl, sym, arith}
use Rattle.std.specs.Arc.{arc_value}
use Rattle.std.proofs.lemmas.List.{length-map, map-set}
use Rattle.pk_iterate.proofs.Up_to_date.{set_again, cell_there, unchanged_says, changed_says}
use Rattle.pk_iterate.proofs.front.write.Goals as goal

pub returns-in_ok-put-clause-cells : goal.returns-in_ok-put-clause-cells
returns-in_ok-put-clause-cells g c = rw (map-set, c.in_ok-put.ensures) refl

pub returns-in_ok-put-clause-times : goal.returns-in_ok-put-clause-times
returns-in_ok-put-clause-times g c =
    let front = c.args.front.now in
    let cells = map arc_value front.cells.items in
    let below : c.args.e < length cells = omega (arith, length-map front.cells.items arc_value, c.requires.element) in
    let written : map arc_value (set front.cells.items c.args.e c.put.new.place) ≡ set cells c.args.e c.args.cell = rw (map-set, c.in_ok-put.ensures) refl in
    changed_says (g.Y.System.meaning c.args.system.now) cells front.times.changed.items front.times.made.items front.times.clock c.requires.times c.args.e c.note.new.self.clock c.args.cell c.args.applied c.is_unchanged-unchanged.result
    (map arc_value (set front.cells.items c.args.e c.put.new.place)) c.note.new.self.changed.items c.note.new.self.made.items below c.note.ensures.clock c.requires.of c.if-not-unchanged.true written c.note.ensures.made c.note.ensures.changed

pub returns-else-not-unchanged-clause-cells : goal.returns-else-not-unchanged-clause-cells
returns-else-not-unchanged-clause-cells g c =
    let cells = c.args.front.now.cells.items in
    sym (set_again (map arc_value cells) c.args.e c.args.cell (cell_there arc_value cells c.args.e c.index.result.now c.deref.result.now c.args.cell c.requires.element c.index.ensures c.deref.ensures (c.is_unchanged-unchanged.ensures c.if-not-unchanged.false)))

pub returns-else-not-unchanged-clause-times : goal.returns-else-not-unchanged-clause-times
returns-else-not-unchanged-clause-times g c =
    let front = c.args.front.now in
    let cells = map arc_value front.cells.items in
    let below : c.args.e < length cells = omega (arith, length-map front.cells.items arc_value, c.requires.element) in
    let is = cell_there arc_value front.cells.items c.args.e c.index.result.now c.deref.result.now c.args.cell c.requires.element c.index.ensures c.deref.ensures (c.is_unchanged-unchanged.ensures c.if-not-unchanged.false) in
    unchanged_says (g.Y.System.meaning c.args.system.now) cells front.times.changed.items front.times.made.items front.times.clock c.requires.times c.args.e c.note.new.self.clock c.args.cell c.args.applied c.is_unchanged-unchanged.result
    c.note.new.self.changed.items c.note.new.self.made.items below is c.note.ensures.clock c.requires.of c.if-not-unchanged.false c.note.ensures.made c.note.ensures.changed
