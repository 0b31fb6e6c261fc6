-- The progress of the iteration, run by run.
use Rattle.std.proofs.Common.{◌≡◌, ◌≢◌, ℕ, zero, suc, ◌+◌, ◌-◌, ◌<◌, ◌≤◌, List, [], ◌∷◌, drop, length, Bool, true, false, cond, ap, sym, ◌∙◌, refl, arith, add-zero, add-suc, ◌==◌}
use Rattle.std.proofs.lemmas.Bool.{eq-eqb, ne_eqb}
use Rattle.std.proofs.lemmas.List.Sums.{sum_by-cons}
use Rattle.pk_plan.specs.Order.{Level, Empty, Component_then, places_of}
use Rattle.pk_iterate.specs.declared.systems.Decision.{Decision}
use Rattle.pk_iterate.specs.declared.systems.Decision.TheVariants.{Stable, Again}
use Rattle.pk_iterate.specs.Behaviour.{Behaviour, cell_made, goes_back, is_again, decided_cell, place_after}
use Rattle.pk_iterate.specs.Iteration.{Task, Run, Exit, to_do, element_of, Progress, count_of, cell_after, inputs_after, decided, next_run, progress}
use Rattle.pk_iterate.proofs.Jumps.{place_of, jump}

-- the counts and cells after one more run
pub count_same : {C : Type 0} (runs : List (ℕ × C)) (e : ℕ) (c : C) → count_of ((e, c) ∷ runs) e ≡ count_of runs e + 1
count_same {C} runs e c = sum_by-cons (λ (r : ℕ × C). cond (r.0 == e) 1 0) (e, c) runs ∙ rw (eq-eqb e e refl) (omega arith)

pub count_other : {C : Type 0} (runs : List (ℕ × C)) (e u : ℕ) (c : C) → u ≢ e → count_of ((e, c) ∷ runs) u ≡ count_of runs u
count_other {C} runs e u c ne = sum_by-cons (λ (r : ℕ × C). cond (r.0 == u) 1 0) (e, c) runs ∙ rw (ne_eqb e u (λ same. ne (sym same))) (omega arith)

pub cell_same : {C : Type 0} (b : Behaviour C) (runs : List (ℕ × C)) (e : ℕ) (c : C) → cell_after b ((e, c) ∷ runs) e ≡ c
cell_same b runs e c = rw (eq-eqb e e refl) refl

pub cell_other : {C : Type 0} (b : Behaviour C) (runs : List (ℕ × C)) (e u : ℕ) (c : C) → u ≢ e → cell_after b ((e, c) ∷ runs) u ≡ cell_after b runs u
cell_other b runs e u c ne = rw (ne_eqb e u (λ same. ne (sym same))) refl

-- what is left after a run
abbrev pub left_after : Task → List Task → Bool → List Task
left_after (Run e) left again = left
left_after (Exit head exit rest) left again = cond again (to_do (Component_then head exit rest Empty) left) left

pub decided_is : {C : Type 0} (runs : List (ℕ × C)) (head exit : ℕ) (rest : Level) (left : List Task) (d : Decision C) → decided runs head exit rest left d ≡ record { runs = (exit, decided_cell d) ∷ runs; left = cond (is_again d) (to_do (Component_then head exit rest Empty) left) left }
decided_is runs head exit rest left (Stable c) = refl
decided_is runs head exit rest left (Again c) = refl

-- one more run, of a task
pub next_is : {C : Type 0} (b : Behaviour C) (runs : List (ℕ × C)) (t : Task) (left : List Task) (inputs : List C) → inputs ≡ inputs_after b runs (element_of t) → next_run b runs (t ∷ left) ≡ record { runs = (element_of t, cell_made b (place_of t) inputs) ∷ runs; left = left_after t left (goes_back b (place_of t) inputs) }
next_is b runs (Run e) left inputs is = rw is refl
next_is b runs (Exit head exit rest) left inputs is = rw is (decided_is runs head exit rest left (b.decide exit (inputs_after b runs exit)))

-- where the places are gone through by number, the runs left to do are those from that place on
pub left_at : (order : Level) (at : ℕ) (t : Task) (again : Bool) → at < length (places_of order) → drop at (to_do order []) ≡ t ∷ drop (at + 1) (to_do order []) → (left_after t (drop (at + 1) (to_do order [])) again ≡ drop (place_after at (place_of t).role again) (to_do order []))
left_at order at (Run e) again in_range is = refl
left_at order at (Exit head exit rest) false in_range is = refl
left_at order at (Exit head exit rest) true in_range is =
    let j = jump order [] at head exit rest (drop (at + 1) (to_do order [])) in_range is in
    let back : at - (length (places_of rest) + 1) ≡ j.0 = omega (arith, j.1) in
    rw (back, j.2) refl

pub progress-suc : {C : Type 0} (b : Behaviour C) (order : Level) (m n : ℕ) (left : List Task) → m ≡ suc n → (progress b order n).left ≡ left → progress b order m ≡ next_run b (progress b order n).runs left
unfolding progress
progress-suc b order m n left e is = rw (e, is) refl

-- once no run is left, the progress stays
pub stays : {C : Type 0} (b : Behaviour C) (order : Level) (n k : ℕ) → (progress b order n).left ≡ [] → progress b order (n + k) ≡ progress b order n
unfolding progress
stays b order n zero is = rw (add-zero n) refl
stays {C} b order n (suc k) is =
    let same = stays b order n k is in
    let ended : next_run b (progress b order n).runs (progress b order n).left ≡ progress b order n = rw is (ap (λ (l : List Task). let p : Progress C = record { runs = (progress b order n).runs; left = l } in p) (sym is)) in
    rw (add-suc n k, same) ended

-- an element's count never falls
pub more_counts : {C : Type 0} (b : Behaviour C) (runs : List (ℕ × C)) (left : List Task) (e : ℕ) → count_of runs e ≤ count_of (next_run b runs left).runs e
more_counts b runs [] e = omega arith
more_counts {C} b runs (Run v ∷ left) e = omega (arith, sum_by-cons (λ (r : ℕ × C). cond (r.0 == e) 1 0) (v, b.apply v (inputs_after b runs v)) runs)
more_counts {C} b runs (Exit head exit rest ∷ left) e =
    let d : Decision C = b.decide exit (inputs_after b runs exit) in
    rw (decided_is runs head exit rest left d) (omega (arith, sum_by-cons (λ (r : ℕ × C). cond (r.0 == e) 1 0) (exit, decided_cell d) runs))

pub counts_mono : {C : Type 0} (b : Behaviour C) (order : Level) (n k e : ℕ) → count_of (progress b order n).runs e ≤ count_of (progress b order (n + k)).runs e
unfolding progress
counts_mono b order n zero e = rw (add-zero n) (omega arith)
counts_mono b order n (suc k) e =
    let before = counts_mono b order n k e in
    let here = more_counts b (progress b order (n + k)).runs (progress b order (n + k)).left e in
    rw (add-suc n k) (omega (arith, before, here))
