use Rattle.std.proofs.Common.{◌≡◌, ◌||◌, Bool, List, length, get_or, ap, sym, arith, ◌∙◌}
use Rattle.pk_plan.specs.declared.nests.NestPlace.{NestPlace}
use Rattle.pk_plan.specs.declared.nests.NestPlace.TheVariants.{Vertex}
use Rattle.std.proofs.lemmas.List.{take_all}
use Rattle.pk_wpo.specs.Walks.{is_head_at}
use Rattle.pk_wpo.proofs.Walked.{heads_seen, seen_more, heads_all_seen}
use Rattle.pk_wpo.proofs.listing.heads.Goals as goal

pub loop-place-preserved : goal.loop-place-preserved
loop-place-preserved c =
    let places = c.places-place-items.result.now in
    let i = c.loop-place.place-index in
    let d : NestPlace = Vertex 0 in
    record {
      long = c.mark.ensures.long ∙ c.loop-place.invariant.long;
      seen = λ v below.
          c.mark.ensures.marked v (omega (arith, below, c.loop-place.invariant.long))
          ∙ ap (λ (b : Bool). is_head_at v (get_or places i d) || b) (c.loop-place.invariant.seen v below)
          ∙ sym (seen_more places i v d c.loop-place-test.true);
    }

pub returns : goal.returns
returns c =
    let places = c.places-place-items.result.now in
    let all : c.loop-place.place-index ≡ length places = omega arith in
    heads_all_seen c.args.nest.now c.loop-place.heads.items c.args.vertices c.loop-place.invariant.long
    (λ v below. c.loop-place.invariant.seen v below
    ∙ ap (λ (ps : List NestPlace). heads_seen ps v) (take_all c.loop-place.place-index places (omega (arith, all)) ∙ c.places-place-items.ensures))
