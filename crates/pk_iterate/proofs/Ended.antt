-- The whole trace is one.
use Rattle.std.proofs.Common.{◌≡◌, ℕ, suc, ◌+◌, ◌-◌, ◌*◌, ◌<◌, ◌≤◌, ◌↔◌, List, [], ◌∷◌, Some, ap, sym, subst, ◌∙◌, refl, arith}
use Rattle.pk_plan.specs.Order.{Level}
use Rattle.pk_iterate.specs.Behaviour.{Behaviour, cell_made}
use Rattle.pk_iterate.specs.Iteration.{Task, element_of, next_element, Progress, count_of, inputs_after, progress}
use Rattle.pk_iterate.specs.Recursion.{Goes}
use Rattle.pk_iterate.specs.Runs.{run_value, values_read}
use Rattle.pk_iterate.specs.Answer.{Over}
use Rattle.pk_iterate.specs.Laws.{PlacesWithin}
use Rattle.pk_iterate.specs.Ending.{Ends, trace, result_count, TraceIsOne}
use Rattle.pk_iterate.proofs.Steps.{count_same, next_is, progress-suc, stays, counts_mono}
use Rattle.pk_iterate.proofs.Jumps.{place_of}
use Rattle.pk_iterate.proofs.Recursion_runs.{goes_whole}
use Rattle.pk_iterate.proofs.Determined.{goes_same, goes_reached}
use Rattle.pk_iterate.proofs.Whole.{within_whole, count_over}
use Rattle.pk_iterate.proofs.Run_values.{run_values_stay, values_read_stay}

trace_goes : {C : Type 0} (b : Behaviour C) (order : Level) (ends : Ends b order) → Goes b order [] (trace ends)
trace_goes b order ends = goes_whole b order ends.made ends.whole

-- later runs than those of the whole trace are none
trace_late : {C : Type 0} (b : Behaviour C) (order : Level) (ends : Ends b order) (n : ℕ) → ends.made ≤ n → (progress b order n).runs ≡ trace ends
trace_late {C} b order ends n late =
    let all : ends.made + (n - ends.made) ≡ n = omega arith in
    sym (ap (λ (m : ℕ). (progress b order m).runs) all) ∙ ap (λ (p : Progress C). p.runs) (stays b order ends.made (n - ends.made) ends.whole)

-- the progress after n runs leads to the whole trace
counts_within : {C : Type 0} (b : Behaviour C) (order : Level) (ends : Ends b order) (n e : ℕ) → count_of (progress b order n).runs e ≤ result_count ends e
counts_within {C} b order ends n e =
    let far : ℕ = ends.made + n in
    let same = trace_late b order ends far (omega arith) in
    let all : n + ends.made ≡ far = omega arith in
    let more = counts_mono b order n ends.made e in
    let here = ap (λ (m : ℕ). count_of (progress b order m).runs e) all in
    let there = ap (λ (rs : List (ℕ × C)). count_of rs e) same in
    omega (arith, more, here, there)

-- the next run counts
one_more : {C : Type 0} (b : Behaviour C) (order : Level) (n e : ℕ) (left : List Task) → (progress b order n).left ≡ left → next_element left ≡ Some e → count_of (progress b order (suc n)).runs e ≡ count_of (progress b order n).runs e + 1
one_more b order n e [] is next = absurd (cc)
one_more {C} b order n e (t ∷ left) is next =
    let runs = (progress b order n).runs in
    let inputs = inputs_after b runs (element_of t) in
    let made = progress-suc b order (suc n) n (t ∷ left) refl is ∙ next_is b runs t left inputs refl in
    let same : element_of t ≡ e = cc in
    ap (λ (p : Progress C). count_of p.runs e) made
    ∙ subst (λ (u : ℕ). count_of ((element_of t, cell_made b (place_of t) inputs) ∷ runs) u ≡ count_of runs u + 1) same (count_same runs (element_of t) (cell_made b (place_of t) inputs))

next_within : {C : Type 0} (b : Behaviour C) (order : Level) (ends : Ends b order) (n e : ℕ) → next_element (progress b order n).left ≡ Some e → count_of (progress b order n).runs e < result_count ends e
next_within b order ends n e next =
    omega (arith, one_more b order n e (progress b order n).left refl next, counts_within b order ends (suc n) e)

values_within : {C : Type 0} (b : Behaviour C) (order : Level) (ends : Ends b order) (n e k : ℕ) → k ≤ count_of (progress b order n).runs e → run_value b (progress b order n).runs e k ≡ run_value b (trace ends) e k
values_within {C} b order ends n e k few =
    let far : ℕ = ends.made + n in
    sym (run_values_stay b order n far e k (omega arith) few) ∙ ap (λ (rs : List (ℕ × C)). run_value b rs e k) (trace_late b order ends far (omega arith))

reads_within : {C : Type 0} (b : Behaviour C) (order : Level) (ends : Ends b order) (n e k : ℕ) → k ≤ count_of (progress b order n).runs e → values_read b (progress b order n).runs e k ≡ values_read b (trace ends) e k
reads_within {C} b order ends n e k few =
    let far : ℕ = ends.made + n in
    sym (values_read_stay b order n far e k (omega arith) few) ∙ ap (λ (rs : List (ℕ × C)). values_read b rs e k) (trace_late b order ends far (omega arith))

over_told : {C : Type 0} (b : Behaviour C) (order : Level) (ends : Ends b order) (elements most : ℕ) → PlacesWithin order elements → Over b order elements most ↔ ((e : ℕ) × (e < elements) × (most < result_count ends e))
over_told b order ends elements most within =
    (λ over. (over.0, over.1, omega (arith, over.2, counts_within b order ends (elements * most + 1) over.0)), λ past. count_over b order elements most ends.made past.0 within past.1 past.2)

pub trace_is_one : {C : Type 0} (b : Behaviour C) → TraceIsOne b
trace_is_one {C} b = record {
  one = λ order ends ends'. goes_same b (trace_goes b order ends) refl (trace_goes b order ends');
  goes = trace_goes b;
  reached = λ order after g. let n = goes_reached b order after g in (record { made = n.0; whole = n.2 }, n.1);
  counts = counts_within b;
  next = next_within b;
  values = values_within b;
  reads = reads_within b;
  over = over_told b;
  within = λ order elements most within not_over. record { made = elements * most + 1; whole = within_whole b order elements most within not_over };
  results = λ order elements most it is. (record { made = elements * most + 1; whole = is.whole }, is.cells_after, is.counts);
}
