-- The next run of the iteration stands at a place of the order.
use Rattle.std.proofs.Common.{◌≡◌, ℕ, zero, suc, ◌+◌, ◌<◌, inl, inr, ◌⊎◌, List, [], ◌∷◌, map, drop, length, get_or, ap, sym, ◌∙◌, refl, arith, append-nil, Contains}
use Rattle.std.proofs.lemmas.Bool.{cases_lt}
use Rattle.std.proofs.lemmas.List.{drop_all, length-map}
use Rattle.std.proofs.lemmas.List.Elements.{Contains-get_or}
use Rattle.std.proofs.Math.ListN.{get_or-map}
use Rattle.pk_plan.specs.declared.places.Role.TheVariants.{Vertex}
use Rattle.pk_plan.specs.declared.places.Place.{Place}
use Rattle.pk_plan.specs.Order.{Level, places_of}
use Rattle.pk_iterate.specs.Behaviour.{Behaviour, cell_made, goes_back, place_after}
use Rattle.pk_iterate.specs.Iteration.{Task, Run, Exit, to_do, element_of, Progress, inputs_after, progress}
use Rattle.pk_iterate.proofs.Plain.{plain, cell_made-plain}
use Rattle.pk_iterate.proofs.Jumps.{place_of, map-to_do, task_at}
use Rattle.pk_iterate.proofs.Steps.{left_after, left_at, next_is, progress-suc}

-- there are as many places as runs to do at first
pub length-to_do : (order : Level) → length (to_do order []) ≡ length (places_of order)
length-to_do order =
    omega (arith, ap length (map-to_do order []), length-map (to_do order []) place_of, length-map (places_of order) plain, ap length (append-nil (map plain (places_of order))))

-- the run that is left to do at a place
pub task_there : (order : Level) (at : ℕ) (d : Place) → at < length (places_of order) → (t : Task) × (drop at (to_do order []) ≡ t ∷ drop (at + 1) (to_do order [])) × (plain (get_or (places_of order) at d) ≡ place_of t)
task_there order at d in_range =
    let all : map plain (places_of order) ≡ map place_of (to_do order []) = sym (append-nil (map plain (places_of order))) ∙ sym (map-to_do order []) in
    let r = task_at (to_do order []) at (plain d) (omega (arith, length-to_do order, length-map (to_do order []) place_of)) in
    (r.0, r.1, sym (get_or-map plain (places_of order) at d) ∙ ap (λ (ps : List Place). get_or ps at (plain d)) all ∙ r.2)

-- from a place on, a run is left to do there, or none is
pub record At (order : Level) (at : ℕ) : Type 0 where
  pub task : Task
  pub is : drop at (to_do order []) ≡ task ∷ drop (at + 1) (to_do order [])
  pub place : Place
  pub plainly : plain place ≡ place_of task
  pub stands : Contains (places_of order) place
  pub in_range : at < length (places_of order)

pub at_or_past : (order : Level) (at : ℕ) → At order at ⊎ (drop at (to_do order []) ≡ [])
at_or_past order at =
    let d : Place = record { element = 0; role = Vertex } in
    elim (cases_lt at (length (places_of order))) [
      | inl below ↦
          let r = task_there order at d below in
          inl (record { task = r.0; is = r.1; place = get_or (places_of order) at d; plainly = r.2; stands = Contains-get_or (places_of order) at d below; in_range = below })
      | inr past ↦ inr (drop_all at (to_do order []) (omega (arith, length-to_do order)))
    ]

-- a run at a place, after these runs
abbrev pub run_at : {C : Type 0} → Behaviour C → List (ℕ × C) → Place → ℕ × C
run_at b runs place = (place.element, cell_made b place (inputs_after b runs place.element))

-- the run of a task is one at its place
run_at-place_of : {C : Type 0} (b : Behaviour C) (runs : List (ℕ × C)) (t : Task) → (element_of t, cell_made b (place_of t) (inputs_after b runs (element_of t))) ≡ run_at b runs (place_of t)
run_at-place_of b runs (Run e) = refl
run_at-place_of b runs (Exit head exit rest) = refl

-- one more run, of the task at a place
next_at : {C : Type 0} (b : Behaviour C) (order : Level) (n at : ℕ) (w : At order at) → (progress b order n).left ≡ drop at (to_do order []) → progress b order (suc n) ≡ record { runs = run_at b (progress b order n).runs w.place ∷ (progress b order n).runs; left = left_after w.task (drop (at + 1) (to_do order [])) (goes_back b (place_of w.task) (inputs_after b (progress b order n).runs (element_of w.task))) }
next_at {C} b order n at w left =
    let runs = (progress b order n).runs in
    let rest = drop (at + 1) (to_do order []) in
    let inputs = inputs_after b runs (element_of w.task) in
    let same : (element_of w.task, cell_made b (place_of w.task) inputs) ≡ run_at b runs w.place =
    run_at-place_of b runs w.task ∙ ap (run_at b runs) (sym w.plainly) ∙ ap (λ (c : C). (w.place.element, c)) (cell_made-plain b w.place (inputs_after b runs w.place.element)) in
    progress-suc b order (suc n) n (w.task ∷ rest) refl (left ∙ w.is)
    ∙ next_is b runs w.task rest inputs refl
    ∙ ap (λ (r : ℕ × C). let p : Progress C = record { runs = r ∷ runs; left = left_after w.task rest (goes_back b (place_of w.task) inputs) } in p) same

-- past the last run the progress stays
pub past_end : {C : Type 0} (b : Behaviour C) (order : Level) (n : ℕ) → (progress b order n).left ≡ [] → progress b order (suc n) ≡ progress b order n
past_end {C} b order n ended =
    progress-suc b order (suc n) n [] refl ended
    ∙ ap (λ (l : List Task). let p : Progress C = record { runs = (progress b order n).runs; left = l } in p) (sym ended)

-- what is left to do is what stands from some place on
left_next : {C : Type 0} (b : Behaviour C) (order : Level) (n : ℕ) → (at : ℕ) × ((progress b order n).left ≡ drop at (to_do order [])) → (at : ℕ) × ((progress b order (suc n)).left ≡ drop at (to_do order []))
left_next {C} b order n here =
    elim (at_or_past order here.0) [
      | inl w ↦
          let again = goes_back b (place_of w.task) (inputs_after b (progress b order n).runs (element_of w.task)) in
          (place_after here.0 (place_of w.task).role again, ap (λ (p : Progress C). p.left) (next_at b order n here.0 w here.1) ∙ left_at order here.0 w.task again w.in_range w.is)
      | inr ended ↦ (here.0, ap (λ (p : Progress C). p.left) (past_end b order n (here.1 ∙ ended)) ∙ here.1)
    ]

pub left_is_drop : {C : Type 0} (b : Behaviour C) (order : Level) (n : ℕ) → (at : ℕ) × ((progress b order n).left ≡ drop at (to_do order []))
unfolding progress
left_is_drop b order zero = (0, refl)
left_is_drop b order (suc n) = left_next b order n (left_is_drop b order n)

-- one more run, at a place of the order
pub record Step {C : Type 0} (b : Behaviour C) (order : Level) (n : ℕ) : Type 0 where
  pub place : Place
  pub stands : Contains (places_of order) place
  pub runs : (progress b order (suc n)).runs ≡ run_at b (progress b order n).runs place ∷ (progress b order n).runs

-- no run is left, or there is one more
pub whole_or_step : {C : Type 0} (b : Behaviour C) (order : Level) (n : ℕ) → ((progress b order n).left ≡ []) ⊎ Step b order n
whole_or_step {C} b order n =
    let here = left_is_drop b order n in
    elim (at_or_past order here.0) [
      | inl w ↦ inr (record { place = w.place; stands = w.stands; runs = ap (λ (p : Progress C). p.runs) (next_at b order n here.0 w here.1) })
      | inr ended ↦ inl (here.1 ∙ ended)
    ]
