-- What the runs of an element read and give, by their numbers.
use Rattle.std.proofs.Common.{◌≡◌, ℕ, zero, suc, ◌+◌, ◌-◌, ◌<◌, ◌≤◌, inl, inr, List, [], ◌∷◌, ◌++◌, map, Bool, true, false, cond, ap, sym, ◌∙◌, refl, arith, add-zero, zero-add, add_comm, add-suc, ◌==◌, ◌&&◌}
use Rattle.std.proofs.lemmas.Bool.{cases_lt, ne_eqb, eq-eqb, eqb-true}
use Rattle.std.proofs.lemmas.Bool.Decides.{eqb_tells}
use Rattle.std.proofs.lemmas.List.Sums.{sum_by-cons, sum_by-append}
use Rattle.pk_plan.specs.Order.{Level}
use Rattle.pk_iterate.specs.Behaviour.{Behaviour, cell_made}
use Rattle.pk_iterate.specs.Iteration.{Progress, count_of, cell_after, inputs_after, progress}
use Rattle.pk_iterate.specs.Runs.{runs_before, run_value, values_read}
use Rattle.pk_iterate.specs.Laws.{IsMade}
use Rattle.pk_iterate.proofs.Next.{run_at, past_end, Step, whole_or_step}

-- the counts after one more run
pub count-cons : {C : Type 0} (r : ℕ × C) (runs : List (ℕ × C)) (e : ℕ) → count_of (r ∷ runs) e ≡ cond (r.0 == e) 1 0 + count_of runs e
count-cons {C} r runs e = sum_by-cons (λ (q : ℕ × C). cond (q.0 == e) 1 0) r runs

count-is : {C : Type 0} (r : ℕ × C) (runs : List (ℕ × C)) (e : ℕ) (here : Bool) → (r.0 == e) ≡ here → count_of (r ∷ runs) e ≡ cond here 1 0 + count_of runs e
count-is r runs e here is = count-cons r runs e ∙ ap (λ (t : Bool). cond t 1 0 + count_of runs e) is

count-append : {C : Type 0} (more runs : List (ℕ × C)) (e : ℕ) → count_of (more ++ runs) e ≡ count_of more e + count_of runs e
count-append {C} more runs e = sum_by-append (λ (q : ℕ × C). cond (q.0 == e) 1 0) more runs

-- the newest run's cell is the element's
newest_at : {C : Type 0} (b : Behaviour C) (r : ℕ × C) (runs : List (ℕ × C)) (e : ℕ) (here : Bool) → (r.0 == e) ≡ here → run_value b runs e (count_of runs e) ≡ cell_after b runs e → run_value b (r ∷ runs) e (count_of (r ∷ runs) e) ≡ cell_after b (r ∷ runs) e
newest_at b r runs e true is before =
    let count : count_of (r ∷ runs) e ≡ count_of runs e + 1 = count-is r runs e true is ∙ add_comm 1 (count_of runs e) in
    rw (count, is, eq-eqb (count_of runs e + 1) (count_of runs e + 1) refl) refl
newest_at b r runs e false is before =
    let count : count_of (r ∷ runs) e ≡ count_of runs e = count-is r runs e false is ∙ zero-add (count_of runs e) in
    rw (count, is) before

pub run_value_newest : {C : Type 0} (b : Behaviour C) (runs : List (ℕ × C)) (e : ℕ) → run_value b runs e (count_of runs e) ≡ cell_after b runs e
run_value_newest b [] e = refl
run_value_newest b (r ∷ runs) e = newest_at b r runs e (r.0 == e) refl (run_value_newest b runs e)

-- no later run has that number
and_false : (t u : Bool) → u ≡ false → (t && u) ≡ false
and_false true u is = is
and_false false u is = refl

later : {C : Type 0} (more runs : List (ℕ × C)) (r : ℕ × C) (e k : ℕ) → k ≤ count_of runs e → ((r.0 == e) && (count_of (more ++ runs) e + 1 == k)) ≡ false
later more runs r e k below =
    and_false (r.0 == e) (count_of (more ++ runs) e + 1 == k) (ne_eqb (count_of (more ++ runs) e + 1) k (λ same. absurd (omega (arith, count-append more runs e, same))))

pub run_value-append : {C : Type 0} (b : Behaviour C) (more runs : List (ℕ × C)) (e k : ℕ) → k ≤ count_of runs e → run_value b (more ++ runs) e k ≡ run_value b runs e k
run_value-append b [] runs e k below = refl
run_value-append b (r ∷ more) runs e k below = rw (later more runs r e k below) (run_value-append b more runs e k below)

pub runs_before-append : {C : Type 0} (more runs : List (ℕ × C)) (e k : ℕ) → k ≤ count_of runs e → runs_before (more ++ runs) e k ≡ runs_before runs e k
runs_before-append [] runs e k below = refl
runs_before-append (r ∷ more) runs e k below = rw (later more runs r e k below) (runs_before-append more runs e k below)

-- the runs before a run are the tail end of all
pub record IsTail {C : Type 0} (runs tail : List (ℕ × C)) : Type 0 where
  pub front : List (ℕ × C)
  pub is : runs ≡ front ++ tail

tail_by : {C : Type 0} (r : ℕ × C) (runs tail : List (ℕ × C)) (here : Bool) → IsTail runs tail → IsTail (r ∷ runs) (cond here runs tail)
tail_by r runs tail true before = record { front = r ∷ []; is = refl }
tail_by {C} r runs tail false before = record { front = r ∷ before.front; is = ap (λ (rs : List (ℕ × C)). r ∷ rs) before.is }

pub tail_before : {C : Type 0} (runs : List (ℕ × C)) (e k : ℕ) → IsTail runs (runs_before runs e k)
tail_before [] e k = record { front = []; is = refl }
tail_before (r ∷ runs) e k = tail_by r runs (runs_before runs e k) ((r.0 == e) && (count_of runs e + 1 == k)) (tail_before runs e k)

map_same : {A B : Type 0} (f g : A → B) (xs : List A) → ((x : A) → f x ≡ g x) → map f xs ≡ map g xs
map_same f g [] same = refl
map_same f g (x ∷ xs) same = rw (same x, map_same f g xs same) refl

-- a run reads what the cells are before it
pub values_read_is : {C : Type 0} (b : Behaviour C) (runs : List (ℕ × C)) (e k : ℕ) → values_read b runs e k ≡ inputs_after b (runs_before runs e k) e
values_read_is {C} b runs e k =
    let before = runs_before runs e k in
    let tail = tail_before runs e k in
    map_same (λ u. run_value b runs u (count_of before u)) (cell_after b before) (b.reads e)
    (λ u. ap (λ (rs : List (ℕ × C)). run_value b rs u (count_of before u)) tail.is ∙ run_value-append b tail.front before u (count_of before u) (omega arith) ∙ run_value_newest b before u)

pub values_read-append : {C : Type 0} (b : Behaviour C) (more runs : List (ℕ × C)) (e k : ℕ) → k ≤ count_of runs e → values_read b (more ++ runs) e k ≡ values_read b runs e k
values_read-append {C} b more runs e k below =
    values_read_is b (more ++ runs) e k
    ∙ ap (λ (rs : List (ℕ × C)). inputs_after b rs e) (runs_before-append more runs e k below)
    ∙ sym (values_read_is b runs e k)

-- earlier runs are the tail end of later ones
grows_next : {C : Type 0} (b : Behaviour C) (order : Level) (m n : ℕ) → IsTail (progress b order n).runs (progress b order m).runs → IsTail (progress b order (suc n)).runs (progress b order m).runs
grows_next {C} b order m n before =
    elim (whole_or_step b order n) [
      | inl ended ↦ record { front = before.front; is = ap (λ (p : Progress C). p.runs) (past_end b order n ended) ∙ before.is }
      | inr step ↦ record {
        front = run_at b (progress b order n).runs step.place ∷ before.front;
        is = step.runs ∙ ap (λ (rs : List (ℕ × C)). run_at b (progress b order n).runs step.place ∷ rs) before.is;
      }
    ]

grows_by : {C : Type 0} (b : Behaviour C) (order : Level) (m k : ℕ) → IsTail (progress b order (m + k)).runs (progress b order m).runs
grows_by b order m zero = rw (add-zero m) (record { front = []; is = refl })
grows_by b order m (suc k) = rw (add-suc m k) (grows_next b order m (m + k) (grows_by b order m k))

pub grows : {C : Type 0} (b : Behaviour C) (order : Level) (m n : ℕ) → m ≤ n → IsTail (progress b order n).runs (progress b order m).runs
grows b order m n up =
    let all : m + (n - m) ≡ n = omega arith in
    rw all at (grows_by b order m (n - m))

pub run_values_stay : {C : Type 0} (b : Behaviour C) (order : Level) (m n e k : ℕ) → m ≤ n → k ≤ count_of (progress b order m).runs e → run_value b (progress b order n).runs e k ≡ run_value b (progress b order m).runs e k
run_values_stay {C} b order m n e k up below =
    let more = grows b order m n up in
    ap (λ (rs : List (ℕ × C)). run_value b rs e k) more.is ∙ run_value-append b more.front (progress b order m).runs e k below

pub values_read_stay : {C : Type 0} (b : Behaviour C) (order : Level) (m n e k : ℕ) → m ≤ n → k ≤ count_of (progress b order m).runs e → values_read b (progress b order n).runs e k ≡ values_read b (progress b order m).runs e k
values_read_stay {C} b order m n e k up below =
    let more = grows b order m n up in
    ap (λ (rs : List (ℕ × C)). values_read b rs e k) more.is ∙ values_read-append b more.front (progress b order m).runs e k below

-- e's newest run
made_now : {C : Type 0} (b : Behaviour C) (order : Level) (n e k : ℕ) (step : Step b order n) → (step.place.element == e) ≡ true → count_of (progress b order n).runs e + 1 ≡ k → IsMade b order (progress b order (suc n)).runs e k
made_now {C} b order n e k step here is =
    let runs = (progress b order n).runs in
    let r : ℕ × C = run_at b runs step.place in
    let test : ((step.place.element == e) && (count_of runs e + 1 == k)) ≡ true = rw (here, eq-eqb (count_of runs e + 1) k is) refl in
    let element : step.place.element ≡ e = eqb-true step.place.element e here in
    let before : runs_before (r ∷ runs) e k ≡ runs = rw test refl in
    let value : run_value b (r ∷ runs) e k ≡ r.1 = rw test refl in
    let read : values_read b (r ∷ runs) e k ≡ inputs_after b runs step.place.element =
    values_read_is b (r ∷ runs) e k ∙ ap (λ (rs : List (ℕ × C)). inputs_after b rs e) before ∙ ap (inputs_after b runs) (sym element) in
    record {
      place = step.place;
      stands = step.stands;
      element = element;
      made = ap (λ (rs : List (ℕ × C)). run_value b rs e k) step.runs ∙ value ∙ ap (cell_made b step.place) (sym read ∙ sym (ap (λ (rs : List (ℕ × C)). values_read b rs e k) step.runs));
    }

-- an earlier run
made_before : {C : Type 0} (b : Behaviour C) (order : Level) (n e k : ℕ) → k ≤ count_of (progress b order n).runs e → IsMade b order (progress b order n).runs e k → IsMade b order (progress b order (suc n)).runs e k
made_before b order n e k below made = record {
  place = made.place;
  stands = made.stands;
  element = made.element;
  made = run_values_stay b order n (suc n) e k (omega arith) below ∙ made.made ∙ ap (cell_made b made.place) (sym (values_read_stay b order n (suc n) e k (omega arith) below));
}

made_next : {C : Type 0} (b : Behaviour C) (order : Level) (n e k : ℕ) → k ≤ count_of (progress b order (suc n)).runs e → (k ≤ count_of (progress b order n).runs e → IsMade b order (progress b order n).runs e k) → IsMade b order (progress b order (suc n)).runs e k
made_next {C} b order n e k below before =
    elim (cases_lt (count_of (progress b order n).runs e) k) [
      | inr early ↦ made_before b order n e k early (before early)
      | inl late ↦ elim (whole_or_step b order n) [
        | inl ended ↦ absurd (omega (arith, ap (λ (p : Progress C). count_of p.runs e) (past_end b order n ended)))
        | inr step ↦
            let count = ap (λ (rs : List (ℕ × C)). count_of rs e) step.runs in
            elim (eqb_tells step.place.element e) [
              | inl same ↦ made_now b order n e k step same.0 (omega (arith, count, count-is (run_at b (progress b order n).runs step.place) (progress b order n).runs e true same.0))
              | inr other ↦ absurd (omega (arith, count, count-is (run_at b (progress b order n).runs step.place) (progress b order n).runs e false other.0))
            ]
      ]
    ]

-- each run's cell is made of what it reads
pub run_made : {C : Type 0} (b : Behaviour C) (order : Level) (n e k : ℕ) → 0 < k → k ≤ count_of (progress b order n).runs e → IsMade b order (progress b order n).runs e k
unfolding progress
run_made b order zero e k some below = absurd (omega arith)
run_made b order (suc n) e k some below = made_next b order n e k below (run_made b order n e k some)
