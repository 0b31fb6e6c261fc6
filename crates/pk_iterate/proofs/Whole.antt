-- Where no element is run too often, no run is left: a pigeonhole.
use Rattle.std.proofs.Common.{◌≡◌, ℕ, zero, suc, ◌+◌, ◌-◌, ◌*◌, ◌<◌, ◌≤◌, inl, inr, ◌⊎◌, List, [], ◌∷◌, map, length, get_or, ap, ◌∙◌, refl, arith, zero-add, sum, All}
use Rattle.std.specs.List.{range_with_len}
use Rattle.std.proofs.lemmas.Bool.{cases_lt}
use Rattle.std.proofs.lemmas.List.Sums.{sum_by-set, sum_by-le}
use Rattle.std.proofs.lemmas.List.Elements.{All-nil, All-cons, All-head, All-tail, All-contains}
use Rattle.std.proofs.lemmas.List.FromFn.{length-map-range_with_len, get_or-map-range_with_len}
use Rattle.pk_plan.specs.declared.places.Place.{Place}
use Rattle.pk_plan.specs.Order.{Level, places_of}
use Rattle.pk_iterate.specs.Behaviour.{Behaviour}
use Rattle.pk_iterate.specs.Iteration.{Progress, count_of, progress}
use Rattle.pk_iterate.specs.Answer.{Over}
use Rattle.pk_iterate.specs.Laws.{PlacesWithin}
use Rattle.pk_iterate.proofs.Lists.{set_made}
use Rattle.pk_iterate.proofs.Steps.{count_same, count_other, stays, counts_mono}
use Rattle.pk_iterate.proofs.Next.{run_at, past_end, whole_or_step}

-- no run is left, or as many were made as there could be
whole_or_long_next : {C : Type 0} (b : Behaviour C) (order : Level) (n : ℕ) → ((progress b order n).left ≡ []) ⊎ (length (progress b order n).runs ≡ n) → ((progress b order (suc n)).left ≡ []) ⊎ (length (progress b order (suc n)).runs ≡ suc n)
whole_or_long_next {C} b order n before =
    elim (whole_or_step b order n) [
      | inl ended ↦ inl (ap (λ (p : Progress C). p.left) (past_end b order n ended) ∙ ended)
      | inr step ↦ elim before [
        | inl ended ↦ inl (ap (λ (p : Progress C). p.left) (past_end b order n ended) ∙ ended)
        | inr long ↦ inr (ap length step.runs ∙ ap suc long)
      ]
    ]

pub whole_or_long : {C : Type 0} (b : Behaviour C) (order : Level) (n : ℕ) → ((progress b order n).left ≡ []) ⊎ (length (progress b order n).runs ≡ n)
unfolding progress
whole_or_long b order zero = inr refl
whole_or_long b order (suc n) = whole_or_long_next b order n (whole_or_long b order n)

-- the elements that are run are elements of the places
runs_within_next : {C : Type 0} (b : Behaviour C) (order : Level) (elements n : ℕ) → PlacesWithin order elements → All (λ (r : ℕ × C). r.0 < elements) (progress b order n).runs → All (λ (r : ℕ × C). r.0 < elements) (progress b order (suc n)).runs
runs_within_next {C} b order elements n within before =
    elim (whole_or_step b order n) [
      | inl ended ↦ rw (past_end b order n ended) before
      | inr step ↦
          let below : step.place.element < elements = All-contains (λ (p : Place). p.element < elements) (places_of order) step.place within step.stands in
          rw step.runs (All-cons (λ (r : ℕ × C). r.0 < elements) (run_at b (progress b order n).runs step.place) (progress b order n).runs below before)
    ]

pub runs_within : {C : Type 0} (b : Behaviour C) (order : Level) (elements n : ℕ) → PlacesWithin order elements → All (λ (r : ℕ × C). r.0 < elements) (progress b order n).runs
unfolding progress
runs_within {C} b order elements zero within = All-nil (λ (r : ℕ × C). r.0 < elements)
runs_within b order elements (suc n) within = runs_within_next b order elements n within (runs_within b order elements n within)

-- a list by number whose entries are bounded
bounded_sum : (f : ℕ → ℕ) (n most : ℕ) → ((e : ℕ) → e < n → f e ≤ most) → sum (map f (range_with_len 0 n)) ≤ n * most
bounded_sum f n most bound =
    let each : All (λ r. r ≤ most) (map f (range_with_len 0 n)) = λ k d below.
    let in_range : k < n = omega (arith, length-map-range_with_len f 0 n) in
    rw (get_or-map-range_with_len f 0 n k k d in_range (zero-add k)) (bound k in_range) in
    rw (length-map-range_with_len f 0 n) at (sum_by-le (λ (r : ℕ). r) most (map f (range_with_len 0 n)) each)

-- the counts of the elements add up to the number of runs
pub sum_of_counts : {C : Type 0} (runs : List (ℕ × C)) (elements : ℕ) → All (λ (r : ℕ × C). r.0 < elements) runs → sum (map (count_of runs) (range_with_len 0 elements)) ≡ length runs
sum_of_counts {C} [] elements within =
    omega (arith, bounded_sum (count_of {C = C} []) elements 0 (λ e below. omega arith))
sum_of_counts {C} (r ∷ runs) elements within =
    let below : r.0 < elements = All-head (λ (q : ℕ × C). q.0 < elements) r runs within in
    let before = sum_of_counts runs elements (All-tail (λ (q : ℕ × C). q.0 < elements) r runs within) in
    let counts = map (count_of runs) (range_with_len 0 elements) in
    let long : length counts ≡ elements = length-map-range_with_len (count_of runs) 0 elements in
    let one = sum_by-set (λ (k : ℕ). k) counts r.0 (count_of runs r.0 + 1) 0 (rw long below) in
    let had : get_or counts r.0 0 ≡ count_of runs r.0 = get_or-map-range_with_len (count_of runs) 0 elements r.0 r.0 0 below (zero-add r.0) in
    let more = set_made (count_of runs) (count_of (r ∷ runs)) elements r.0 (count_of runs r.0 + 1) below (count_same runs r.0 r.1) (λ u ne. count_other runs r.0 u r.1 ne) in
    omega (arith, ap sum more, one, had, before)

-- some number is past the bound, or none is
pub past_or_not : (f : ℕ → ℕ) (n most : ℕ) → ((e : ℕ) × (e < n) × (most < f e)) ⊎ ((e : ℕ) → e < n → f e ≤ most)
past_or_not f zero most = inr (λ e below. absurd (omega arith))
past_or_not f (suc n) most =
    elim (cases_lt most (f n)) [
      | inl past ↦ inl (n, omega arith, past)
      | inr here ↦ elim (past_or_not f n most) [
        | inl found ↦ inl (found.0, omega (arith, found.1), found.2)
        | inr none ↦ inr (λ e below. elim (cases_lt e n) [
          | inl less ↦ none e less
          | inr up ↦
              let same : e ≡ n = omega arith in
              rw same here
        ])
      ]
    ]

-- where no count is past the bound, no run is left
pub bounded_is_whole : {C : Type 0} (b : Behaviour C) (order : Level) (elements most : ℕ) → PlacesWithin order elements → ((e : ℕ) → e < elements → count_of (progress b order (elements * most + 1)).runs e ≤ most) → (progress b order (elements * most + 1)).left ≡ []
bounded_is_whole b order elements most within few =
    let n : ℕ = elements * most + 1 in
    elim (whole_or_long b order n) [
      | inl ended ↦ ended
      | inr long ↦
          let runs = (progress b order n).runs in
          absurd (omega (arith, long, sum_of_counts runs elements (runs_within b order elements n within), bounded_sum (count_of runs) elements most few))
    ]

-- where no element is run too often, no run is left
pub within_whole : {C : Type 0} (b : Behaviour C) (order : Level) (elements most : ℕ) → PlacesWithin order elements → ¬ Over b order elements most → (progress b order (elements * most + 1)).left ≡ []
within_whole b order elements most within not_over =
    bounded_is_whole b order elements most within
    (λ e below. elim (cases_lt most (count_of (progress b order (elements * most + 1)).runs e)) [
      | inl past ↦ absurd (not_over (e, below, past))
      | inr few ↦ few
    ])

-- a count past the bound, however late, is past it in the first runs
pub count_over : {C : Type 0} (b : Behaviour C) (order : Level) (elements most n e : ℕ) → PlacesWithin order elements → e < elements → most < count_of (progress b order n).runs e → Over b order elements most
count_over {C} b order elements most n e within below past =
    let first : ℕ = elements * most + 1 in
    elim (past_or_not (count_of (progress b order first).runs) elements most) [
      | inl found ↦ found
      | inr few ↦ elim (cases_lt n first) [
        | inl early ↦
            let all : n + (first - n) ≡ first = omega arith in
            let same = ap (λ (m : ℕ). count_of (progress b order m).runs e) all in
            absurd (omega (arith, counts_mono b order n (first - n) e, same, few e below))
        | inr late ↦
            let all : first + (n - first) ≡ n = omega arith in
            let same = ap (λ (m : ℕ). count_of (progress b order m).runs e) all in
            let ended = ap (λ (p : Progress C). count_of p.runs e) (stays b order first (n - first) (bounded_is_whole b order elements most within few)) in
            absurd (omega (arith, same, ended, few e below))
      ]
    ]
