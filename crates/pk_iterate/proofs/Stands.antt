-- What holds between two runs of the loop, and that a run keeps it.
use Rattle.std.proofs.Common.{◌≡◌, ℕ, suc, ◌+◌, ◌-◌, ◌*◌, ◌<◌, ◌≤◌, List, [], ◌∷◌, map, drop, set, length, get_or, ap, sym, ◌∙◌, refl, arith, zero-add, sum, All}
use Rattle.std.specs.List.{range_with_len}
use Rattle.std.proofs.lemmas.List.{drop_all}
use Rattle.std.proofs.lemmas.List.Sums.{sum_by-set, sum_by-le}
use Rattle.std.proofs.lemmas.List.Elements.{All-set}
use Rattle.std.proofs.lemmas.List.FromFn.{length-map-range_with_len, get_or-map-range_with_len}
use Rattle.pk_plan.specs.Order.{Level, places_of}
use Rattle.pk_iterate.specs.Behaviour.{Behaviour, inputs_in, cell_made, goes_back, place_after, ReadsWithin}
use Rattle.pk_iterate.specs.Iteration.{Task, to_do, element_of, next_element, Progress, count_of, cell_after, inputs_after, progress}
use Rattle.pk_iterate.specs.Answer.{IsResult, IsFirstOver}
use Rattle.pk_iterate.proofs.Lists.{set_made, reads_map}
use Rattle.pk_iterate.proofs.Recursion_runs.{goes_whole}
use Rattle.pk_iterate.proofs.Jumps.{place_of}
use Rattle.pk_iterate.proofs.Next.{length-to_do}
use Rattle.pk_iterate.proofs.Steps.{count_same, count_other, cell_same, cell_other, next_is, left_at, progress-suc, stays, counts_mono}

-- what holds between two runs
pub record Stands {C : Type 0} (b : Behaviour C) (order : Level) (elements most : ℕ) (cells : List C) (runs : List ℕ) (at : ℕ) : Type 0 where
  pub left : (progress b order (sum runs)).left ≡ drop at (to_do order [])
  pub cells_after : cells ≡ map (cell_after b (progress b order (sum runs)).runs) (range_with_len 0 elements)
  pub counts : runs ≡ map (count_of (progress b order (sum runs)).runs) (range_with_len 0 elements)
  pub within : All (λ r. r ≤ most) runs

-- a run at a place keeps it
pub keeps : {C : Type 0} (b : Behaviour C) (order : Level) (elements most at : ℕ) (cells : List C) (runs : List ℕ) (t : Task) → ReadsWithin b elements → element_of t < elements → Stands b order elements most cells runs at → at < length (places_of order) → drop at (to_do order []) ≡ t ∷ drop (at + 1) (to_do order []) → get_or runs (element_of t) 0 < most → Stands b order elements most (set cells (element_of t) (cell_made b (place_of t) (inputs_in b cells (element_of t)))) (set runs (element_of t) (get_or runs (element_of t) 0 + 1)) (place_after at (place_of t).role (goes_back b (place_of t) (inputs_in b cells (element_of t))))
keeps {C} b order elements most at cells runs t reads below s in_range is room =
    let n : ℕ = sum runs in
    let e : ℕ = element_of t in
    let made = (progress b order n).runs in
    let inputs : inputs_in b cells e ≡ inputs_after b made e = rw s.cells_after (reads_map (cell_after b made) elements (b.reads e) (reads e below)) in
    let long : length runs ≡ elements = ap length s.counts ∙ length-map-range_with_len (count_of made) 0 elements in
    let count : get_or runs e 0 ≡ count_of made e = ap (λ (rs : List ℕ). get_or rs e 0) s.counts ∙ get_or-map-range_with_len (count_of made) 0 elements e e 0 below (zero-add e) in
    let more : sum (set runs e (get_or runs e 0 + 1)) ≡ suc n = omega (arith, sum_by-set (λ (r : ℕ). r) runs e (get_or runs e 0 + 1) 0 (rw long below)) in
    let after = progress-suc b order (sum (set runs e (get_or runs e 0 + 1))) n (t ∷ drop (at + 1) (to_do order [])) more (s.left ∙ is) ∙ next_is b made t (drop (at + 1) (to_do order [])) (inputs_in b cells e) inputs in
    let c : C = cell_made b (place_of t) (inputs_in b cells e) in
    record {
      left = ap (λ (p : Progress C). p.left) after ∙ left_at order at t (goes_back b (place_of t) (inputs_in b cells e)) in_range is;
      cells_after =
          ap (λ (cs : List C). set cs e c) s.cells_after
          ∙ set_made (cell_after b made) (cell_after b ((e, c) ∷ made)) elements e c below (cell_same b made e c) (λ u ne. cell_other b made e u c ne)
          ∙ sym (ap (λ (p : Progress C). map (cell_after b p.runs) (range_with_len 0 elements)) after);
      counts =
          ap (λ (rs : List ℕ). set rs e (get_or runs e 0 + 1)) s.counts
          ∙ set_made (count_of made) (count_of ((e, c) ∷ made)) elements e (get_or runs e 0 + 1) below (count_same made e c ∙ ap (λ k. k + 1) (sym count)) (λ u ne. count_other made e u c ne)
          ∙ sym (ap (λ (p : Progress C). map (count_of p.runs) (range_with_len 0 elements)) after);
      within = All-set (λ (r : ℕ). r ≤ most) runs e (get_or runs e 0 + 1) (omega arith) s.within;
    }

zeros_within : (n most : ℕ) → All (λ r. r ≤ most) (map (λ u. 0) (range_with_len 0 n))
zeros_within n most k d below =
    let none : ℕ → ℕ = λ (u : ℕ). 0 in
    let in_range : k < n = omega (arith, length-map-range_with_len none 0 n) in
    rw (get_or-map-range_with_len none 0 n k k d in_range (zero-add k)) (omega arith)

-- before the first run
pub stands_first : {C : Type 0} (b : Behaviour C) (order : Level) (elements most : ℕ) (cells : List C) (runs : List ℕ) → cells ≡ map b.first (range_with_len 0 elements) → runs ≡ map (λ u. 0) (range_with_len 0 elements) → Stands b order elements most cells runs 0
unfolding progress
stands_first {C} b order elements most cells runs cells_is runs_is =
    let none : sum runs ≡ 0 = omega (arith, sum_by-le (λ (r : ℕ). r) 0 runs (rw runs_is (zeros_within elements 0))) in
    record {
      left = rw none refl;
      cells_after = rw none cells_is;
      counts = rw none runs_is;
      within = rw runs_is (zeros_within elements most);
    }

-- no more runs than this
pub sum-le : {C : Type 0} {b : Behaviour C} {order : Level} {elements most : ℕ} {cells : List C} {runs : List ℕ} {at : ℕ} → Stands b order elements most cells runs at → sum runs ≤ elements * most
sum-le {elements = elements} {most = most} {runs = runs} s =
    let long : length runs ≡ elements = ap length s.counts ∙ length-map-range_with_len _ 0 elements in
    let bound = sum_by-le (λ (r : ℕ). r) most runs s.within in
    rw long at bound

-- what the count of an element is
count_at : {C : Type 0} {b : Behaviour C} {order : Level} {elements most : ℕ} {cells : List C} {runs : List ℕ} {at : ℕ} → Stands b order elements most cells runs at → (e : ℕ) → e < elements → get_or runs e 0 ≡ count_of (progress b order (sum runs)).runs e
count_at {b = b} {order = order} {elements = elements} {runs = runs} s e below =
    ap (λ (rs : List ℕ). get_or rs e 0) s.counts ∙ get_or-map-range_with_len (count_of (progress b order (sum runs)).runs) 0 elements e e 0 below (zero-add e)

count_within : {C : Type 0} {b : Behaviour C} {order : Level} {elements most : ℕ} {cells : List C} {runs : List ℕ} {at : ℕ} → Stands b order elements most cells runs at → (e : ℕ) → e < elements → count_of (progress b order (sum runs)).runs e ≤ most
count_within {b = b} {order = order} {elements = elements} {most = most} {runs = runs} s e below =
    let long : length runs ≡ elements = ap length s.counts ∙ length-map-range_with_len (count_of (progress b order (sum runs)).runs) 0 elements in
    omega (arith, count_at s e below, s.within e 0 (rw long below))

-- past the last place
pub is_result : {C : Type 0} {b : Behaviour C} {order : Level} {elements most : ℕ} {cells : List C} {runs : List ℕ} {at : ℕ} → Stands b order elements most cells runs at → length (places_of order) ≤ at → IsResult b order elements most (record { cells = cells; runs = runs })
is_result {C} {b = b} {order = order} {elements = elements} {most = most} {cells = cells} {runs = runs} {at = at} s past =
    let n : ℕ = sum runs in
    let ended : (progress b order n).left ≡ [] = s.left ∙ drop_all at (to_do order []) (omega (arith, length-to_do order)) in
    let k : ℕ = (elements * most + 1) - n in
    let all : n + k ≡ elements * most + 1 = omega (arith, sum-le s) in
    let same : progress b order (elements * most + 1) ≡ progress b order n = ap (progress b order) (sym all) ∙ stays b order n k ended in
    record {
      within = λ over. let h = count_within s over.0 over.1 in let g = ap (λ (p : Progress C). count_of p.runs over.0) same in omega (arith, h, g, over.2);
      goes = goes_whole b order (elements * most + 1) (rw same ended);
      whole = rw same ended;
      cells_after = rw same s.cells_after;
      counts = rw same s.counts;
    }

-- where the next element was run so often already
pub is_first_over : {C : Type 0} {b : Behaviour C} {order : Level} {elements most : ℕ} {cells : List C} {runs : List ℕ} {at : ℕ} (t : Task) → Stands b order elements most cells runs at → element_of t < elements → drop at (to_do order []) ≡ t ∷ drop (at + 1) (to_do order []) → get_or runs (element_of t) 0 ≡ most → IsFirstOver b order elements most (element_of t)
is_first_over {C} {b = b} {order = order} {elements = elements} {most = most} {cells = cells} {runs = runs} {at = at} t s below is full =
    let n : ℕ = sum runs in
    let e : ℕ = element_of t in
    let made = (progress b order n).runs in
    let here = count_at s e below in
    let k : ℕ = (elements * most) - n in
    let all : suc n + k ≡ elements * most + 1 = omega (arith, sum-le s) in
    let next = progress-suc b order (suc n) n (t ∷ drop (at + 1) (to_do order [])) refl (s.left ∙ is) ∙ next_is b made t (drop (at + 1) (to_do order [])) (inputs_after b made e) refl in
    let one_more = ap (λ (p : Progress C). count_of p.runs e) next ∙ count_same made e (cell_made b (place_of t) (inputs_after b made e)) in
    let later = counts_mono b order (suc n) k e in
    let more : most < count_of (progress b order (suc n + k)).runs e = omega (arith, one_more, later, here, full) in
    record {
      over = (e, below, rw all at more);
      made = n;
      next = ap next_element (s.left ∙ is);
      full = sym here ∙ full;
      before = λ u in_range. count_within s u in_range;
    }
