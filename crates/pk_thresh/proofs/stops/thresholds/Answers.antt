use Rattle.std.proofs.Common.{◌∙◌, ap, sym, subst, ◌↔◌, ℤ, List, All, Contains}
use Rattle.std.specs.Ordering.{int_cmp, int_eq}
use Rattle.std.specs.List.Sorted.{IsStrictlySortedBy}
use Rattle.std.proofs.lemmas.List.Filters.{dedup_is}
use Rattle.pk_graph.specs.Shown.{graph_view}
use Rattle.pk_thresh.specs.Thresholds.{numbers_around}
use Rattle.pk_thresh.specs.Near.{IsNear}
use Rattle.pk_thresh.proofs.NearLemmas.{near_graph}
use Rattle.pk_thresh.proofs.StopLemmas.{strictly, rising, kept}
use Rattle.pk_thresh.proofs.stops.thresholds.Goals as goal

pub around_all-requires : goal.around_all-requires
around_all-requires c =
    subst (λ (zs : List ℤ). All IsNear zs) (sym (c.deref.ensures.value ∙ c.in_ok-found.ensures)) (near_graph (graph_view c.args.graph.now) c.well_made.ensures)

pub returns : goal.returns
returns c =
    let ys = c.sort_unstable.new.self.items in
    let zs = c.dedup.new.self.items in
    let is = dedup_is int_eq ys zs c.dedup.ensures.filtered in
    let up : IsStrictlySortedBy int_cmp zs = subst (λ (l : List ℤ). IsStrictlySortedBy int_cmp l) (sym is) (strictly ys c.sort_unstable.ensures.sorted) in
    let same = c.in_ok-all.ensures ∙ ap (λ (cs : List ℤ). numbers_around cs) (c.deref.ensures.value ∙ c.in_ok-found.ensures) in
    record {
      rising = up;
      sorted = rising zs up;
      each = λ z. subst (λ (l : List ℤ). Contains zs z ↔ Contains l z) same (kept c.in_ok-all.all.items ys zs c.sort_unstable.ensures.permutation is z);
    }
