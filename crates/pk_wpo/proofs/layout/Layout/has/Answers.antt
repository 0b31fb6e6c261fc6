use Rattle.std.proofs.Common.{◌≡◌, ap, arith, ◌∙◌}
use Rattle.pk_wpo.specs.Constraints.{exit_of}
use Rattle.pk_wpo.specs.Layouts.{place_in}
use Rattle.pk_wpo.proofs.Placed.{head_vertex, exit_before_end, has_from, has_before, has_by_place}
use Rattle.pk_wpo.proofs.layout.Layout.has.Goals as goal

pub exit-exit-requires : goal.exit-exit-requires
exit-exit-requires c = head_vertex c.args.self.now c.args.h c.args.h c.laid.ensures c.requires.head

pub place-requires : goal.place-requires
place-requires c = let below = head_vertex c.args.self.now c.args.h c.args.h c.laid.ensures c.requires.head in omega (arith, below)

pub place-requires-3 : goal.place-requires-3
place-requires-3 c =
    let below = exit_before_end c.args.self.now c.args.h c.args.h c.laid.ensures c.requires.head in
    omega (arith, below, c.exit-exit.ensures)

pub returns : goal.returns
returns c =
    let l = c.args.self.now in
    let exit_place : c.place-3.result ≡ place_in l (exit_of l.graph l.items c.args.h) = c.place-3.ensures ∙ ap (place_in l) c.exit-exit.ensures in
    let at_h = c.place.ensures in
    let at_e = c.place-2.ensures in (
      (λ told. let within = c.lies_within.ensures.within.0 told in
          let from = within.0 in
          let before = within.1 in
          has_by_place l c.args.h c.args.e c.laid.ensures c.requires.head c.requires.element (omega (arith, from, at_h, at_e)) (omega (arith, before, at_e, exit_place))),
      (λ has. let from = has_from l c.args.h c.args.e c.laid.ensures has in
          let before = has_before l c.args.h c.args.e c.laid.ensures has in
          c.lies_within.ensures.within.1 (omega (arith, from, at_h, at_e), omega (arith, before, at_e, exit_place))),
    )
