-- The rules of the recursion determine their runs, and those runs are made one by one.
use Rattle.std.proofs.Common.{◌≡◌, ℕ, suc, ◌+◌, List, [], ◌∷◌, ap, sym, ◌∙◌, refl}
use Rattle.pk_plan.specs.Order.{Level}
use Rattle.pk_iterate.specs.declared.systems.Decision.{Decision}
use Rattle.pk_iterate.specs.declared.systems.Decision.TheVariants.{Stable, Again}
use Rattle.pk_iterate.specs.Behaviour.{Behaviour}
use Rattle.pk_iterate.specs.Iteration.{Task, Exit, to_do, Progress, inputs_after, decided, progress}
use Rattle.pk_iterate.specs.Recursion.{Goes, nothing, vertex, stable, again, run_of}
use Rattle.pk_iterate.proofs.Recursion_runs.{go, at, go-add, progress-go}

-- from the same runs, a level leads to the same
pub goes_same : {C : Type 0} (b : Behaviour C) {level : Level} {runs after runs' after' : List (ℕ × C)} → Goes b level runs after → runs ≡ runs' → Goes b level runs' after' → after ≡ after'
goes_same b nothing e nothing = e
goes_same {C} b (vertex {v = v} g) e (vertex g') = goes_same b g (ap (λ (rs : List (ℕ × C)). run_of b rs v ∷ rs) e) g'
goes_same {C} b (stable {head = head} {exit = exit} {inner = inner} {c = c} g d h) e (stable {inner = inner'} {c = c'} g' d' h') =
    let inside : inner ≡ inner' = goes_same b g (ap (λ (rs : List (ℕ × C)). run_of b rs head ∷ rs) e) g' in
    let decisions : ◌≡◌ {A = Decision C} (Stable c) (Stable c') = sym d ∙ ap (λ (rs : List (ℕ × C)). b.decide exit (inputs_after b rs exit)) inside ∙ d' in
    let cells : c ≡ c' = cc in
    goes_same b h (rw (cells, inside) refl) h'
goes_same {C} b (stable {head = head} {exit = exit} {inner = inner} {c = c} g d h) e (again {inner = inner'} {c = c'} g' d' h') =
    let inside : inner ≡ inner' = goes_same b g (ap (λ (rs : List (ℕ × C)). run_of b rs head ∷ rs) e) g' in
    let decisions : ◌≡◌ {A = Decision C} (Stable c) (Again c') = sym d ∙ ap (λ (rs : List (ℕ × C)). b.decide exit (inputs_after b rs exit)) inside ∙ d' in
    absurd (cc)
goes_same {C} b (again {head = head} {exit = exit} {inner = inner} {c = c} g d h) e (stable {inner = inner'} {c = c'} g' d' h') =
    let inside : inner ≡ inner' = goes_same b g (ap (λ (rs : List (ℕ × C)). run_of b rs head ∷ rs) e) g' in
    let decisions : ◌≡◌ {A = Decision C} (Again c) (Stable c') = sym d ∙ ap (λ (rs : List (ℕ × C)). b.decide exit (inputs_after b rs exit)) inside ∙ d' in
    absurd (cc)
goes_same {C} b (again {head = head} {exit = exit} {inner = inner} {c = c} g d h) e (again {inner = inner'} {c = c'} g' d' h') =
    let inside : inner ≡ inner' = goes_same b g (ap (λ (rs : List (ℕ × C)). run_of b rs head ∷ rs) e) g' in
    let decisions : ◌≡◌ {A = Decision C} (Again c) (Again c') = sym d ∙ ap (λ (rs : List (ℕ × C)). b.decide exit (inputs_after b rs exit)) inside ∙ d' in
    let cells : c ≡ c' = cc in
    goes_same b h (rw (cells, inside) refl) h'

-- what is gone through is gone through in some number of runs
go_there : {C : Type 0} (b : Behaviour C) {level : Level} {runs after : List (ℕ × C)} → Goes b level runs after → (left : List Task) → (n : ℕ) × (go b n (at runs (to_do level left)) ≡ at after left)
go_there b nothing left = (0, refl)
go_there b (vertex g) left =
    let r = go_there b g left in
    (suc r.0, r.1)
go_there {C} b (stable {head = head} {exit = exit} {rest = rest} {more = more} {runs = runs} {inner = inner} g d h) left =
    let inside = go_there b g (Exit head exit rest ∷ to_do more left) in
    let outside = go_there b h left in
    let start : Progress C = at (run_of b runs head ∷ runs) (to_do rest (Exit head exit rest ∷ to_do more left)) in (
      suc (inside.0 + suc outside.0),
      go-add b inside.0 (suc outside.0) (inside.0 + suc outside.0) start refl
          ∙ ap (go b (suc outside.0)) inside.1
          ∙ ap (λ (decision : Decision C). go b outside.0 (decided inner head exit rest (to_do more left) decision)) d
          ∙ outside.1,
    )
go_there {C} b (again {head = head} {exit = exit} {rest = rest} {more = more} {runs = runs} {inner = inner} g d h) left =
    let inside = go_there b g (Exit head exit rest ∷ to_do more left) in
    let outside = go_there b h left in
    let start : Progress C = at (run_of b runs head ∷ runs) (to_do rest (Exit head exit rest ∷ to_do more left)) in (
      suc (inside.0 + suc outside.0),
      go-add b inside.0 (suc outside.0) (inside.0 + suc outside.0) start refl
          ∙ ap (go b (suc outside.0)) inside.1
          ∙ ap (λ (decision : Decision C). go b outside.0 (decided inner head exit rest (to_do more left) decision)) d
          ∙ outside.1,
    )

-- the runs of the rules are made one by one
pub goes_reached : {C : Type 0} (b : Behaviour C) (order : Level) (after : List (ℕ × C)) → Goes b order [] after → (n : ℕ) × ((progress b order n).runs ≡ after) × ((progress b order n).left ≡ [])
goes_reached {C} b order after g =
    let there = go_there b g [] in
    let reached : progress b order there.0 ≡ at after [] = progress-go b order there.0 ∙ there.1 in
    (there.0, ap (λ (p : Progress C). p.runs) reached, ap (λ (p : Progress C). p.left) reached)
