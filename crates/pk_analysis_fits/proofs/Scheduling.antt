-- Systems over the orders of digraphs.
use Rattle.std.proofs.Common.{◌≡◌, ℕ, ◌<◌, ◌∙◌, List, map, slice_get, Some, ap, sym, arith}
use Rattle.std.specs.List.{range_with_len}
use Rattle.std.proofs.lemmas.List.FromFn.{get_or-map-range_with_len, length-map-range_with_len}
use Rattle.std.proofs.lemmas.Option.{slice_get-get_or}
use Rattle.pk_iterate.specs.Behaviour.{Behaviour}
use Rattle.pk_iterate.specs.Ending.{result_cell, result_count}
use Rattle.pk_iterate.proofs.Ended.{trace_is_one}
use Rattle.pk_order_laws.proofs.Ordering.{every_digraph_has_an_order}
use Rattle.pk_core.proofs.Kept_to.{every_list}
use Rattle.pk_analysis_fits.specs.Orders.{EveryDigraphIsScheduled}
use Rattle.pk_analysis_fits.specs.Systems.{EveryOrderKeeps, EndsAsIterated}
use Rattle.pk_analysis_fits.proofs.Placed_tasks.{linear_orders}

pub every_digraph : EveryDigraphIsScheduled
every_digraph g closed few =
    let o = every_digraph_has_an_order g closed few in
    record { plan = o.0; order = o.1; ordered = o.2; axioms = o.2.axioms; is_order = linear_orders o.0 o.1 o.2.axioms o.2.is_linear }

pub every_order : {C : Type 0} (b : Behaviour C) → EveryOrderKeeps b
every_order b = record {
  keeps = λ g p order ends events ordered fits all. (every_list b).keeps p order ends events ordered.axioms (linear_orders p order ordered.axioms ordered.is_linear) fits all;
  runs = λ g p order ends events ordered fits all. (every_list b).runs p order ends events ordered.axioms (linear_orders p order ordered.axioms ordered.is_linear) fits all;
}

-- an entry of a list by number
entry_at : {X : Type 0} (xs : List X) (f : ℕ → X) (n e : ℕ) → e < n → xs ≡ map f (range_with_len 0 n) → slice_get xs e ≡ Some (f e)
entry_at xs f n e below is =
    ap (λ ys. slice_get ys e) is
    ∙ slice_get-get_or (map f (range_with_len 0 n)) e (f e) (omega (arith, below, length-map-range_with_len f 0 n))
    ∙ ap Some (get_or-map-range_with_len f 0 n e e (f e) below (omega arith))

pub as_iterated : {C : Type 0} (b : Behaviour C) → EndsAsIterated b
as_iterated b g p order most it events ordered fits result all done e below =
    let r = (trace_is_one b).results order p.elements most it result in
    let keeps = (every_order b).keeps g p order r.0 events ordered fits all in
    let over = keeps.over done e below in (
      entry_at it.cells (result_cell r.0) p.elements e below r.1 ∙ ap Some (sym over.cell),
      entry_at it.runs (result_count r.0) p.elements e below r.2 ∙ ap Some (sym over.run),
    )
