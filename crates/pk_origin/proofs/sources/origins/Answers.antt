use Rattle.std.proofs.Common.{◌≡◌, ◌+◌, ◌<◌, ◌^◌, sym, ap, subst, length, length-append, [], ◌∷◌, arith}
use Rattle.pk_origin.specs.declared.sources.Origin.{Origin}
use Rattle.pk_origin.specs.Origins.{marker_at}
use Rattle.pk_origin.proofs.OriginLemmas.{shown, said_at, open_more, origin_more, small_behind, each_more}
use Rattle.pk_origin.proofs.sources.origins.Goals as goal

pub loop-k-preserved : goal.loop-k-preserved
loop-k-preserved c =
    let lines = shown c.args.lines.now in
    let k = c.loop-k.k in
    let before = c.loop-k.invariant in
    let said : c.in_ok-marker.marker ≡ marker_at lines k = said_at c.args.lines.now k _ c.loop-k.is_open _ c.loop-k-test.true before.comment c.in_ok-marker.ensures.value in
    record {
      size = omega (arith, ap length c.in_ok-push.ensures.items, length-append c.loop-k.origins.items (c.loop-k.next ∷ []), before.size);
      each = rw c.in_ok-push.ensures.items (each_more lines c.loop-k.origins.items k c.loop-k.next before.size before.each before.next);
      next = origin_more lines k c.in_ok-marker.marker c.loop-k.next _ said before.next c.behind-next.ensures;
      small = subst (λ (o : Origin). o.line < 2 ^ 31 + (k + 1) + 1) (sym c.behind-next.ensures) (small_behind k c.in_ok-marker.marker c.loop-k.next c.in_ok-marker.ensures.small before.small);
      comment = open_more c.args.lines.now k _ c.loop-k.is_open _ c.loop-k-test.true before.comment c.is_open_behind-is_open.ensures;
    }
