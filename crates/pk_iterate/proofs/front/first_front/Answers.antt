use Rattle.std.proofs.Common.{map, length, refl, ap, ◌∙◌, arith}
use Rattle.std.specs.Arc.{arc_value}
use Rattle.std.proofs.lemmas.List.{map-append}
use Rattle.std.proofs.lemmas.List.FromFn.{length-map-range_with_len}
use Rattle.pk_iterate.proofs.Lists.{map_more}
use Rattle.pk_iterate.proofs.Up_to_date.{first_times_say}
use Rattle.pk_iterate.proofs.front.first_front.Goals as goal

pub loop-e-preserved : goal.loop-e-preserved
loop-e-preserved g c = record {
  cells = rw (c.in_ok-push.ensures.items, map-append) (map_more (g.Y.System.meaning c.args.system.now).first _ c.loop-e.e _ c.loop-e.invariant.cells (c.in_ok-new.ensures.ok ∙ c.in_ok-cell.ensures));
  runs = rw c.in_ok-push-2.ensures.items (map_more (λ x. 0) _ c.loop-e.e _ c.loop-e.invariant.runs refl);
}

pub returns-clause-times : goal.returns-clause-times
returns-clause-times g c =
    first_times_say (g.Y.System.meaning c.args.system.now) (map arc_value c.loop-e.cells.items) c.in_ok-times.times.changed.items c.in_ok-times.times.made.items c.in_ok-times.times.clock c.args.elements
    (ap length c.loop-e.invariant.cells ∙ length-map-range_with_len (g.Y.System.meaning c.args.system.now).first 0 c.loop-e.e ∙ omega arith)
    c.in_ok-times.ensures.changed c.in_ok-times.ensures.made
