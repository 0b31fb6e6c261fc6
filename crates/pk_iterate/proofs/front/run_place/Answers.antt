use Rattle.std.proofs.Common.{◌<◌, ℕ, List, map, length, get_or, subst, sym, ◌∙◌, arith}
use Rattle.std.specs.Arc.{arc_value}
use Rattle.std.proofs.lemmas.List.{length-map}
use Rattle.pk_iterate.specs.Behaviour.{inputs_in}
use Rattle.pk_iterate.specs.Times.{IsUpToDate}
use Rattle.pk_iterate.proofs.Up_to_date.{applied_cell, run_gives_same}
use Rattle.pk_iterate.proofs.front.run_place.Goals as goal

pub returns-then-is_up_to_date-clause-cells : goal.returns-then-is_up_to_date-clause-cells
returns-then-is_up_to_date-clause-cells g c =
    let b = g.Y.System.meaning c.args.system.now in
    let front = c.args.front.now in
    let e = c.args.place.element in
    let cells = map arc_value front.cells.items in
    let below : e < length cells = omega (arith, length-map front.cells.items arc_value) in
    let now = subst (λ (us : List ℕ). IsUpToDate front.times.changed.items (get_or front.times.made.items e 0) us) c.reads-reads.ensures (c.is_up_to_date.ensures c.if-is_up_to_date.true) in
    rw (applied_cell b e c.args.place.role (inputs_in b cells e) (sym c.is_applied-applied.ensures ∙ c.if-applied.true))
    (sym (run_gives_same b cells front.times.changed.items front.times.made.items front.times.clock c.requires.times e below now))
