-- The runs one by one are those of the recursion.
use Rattle.std.proofs.Common.{◌≡◌, ℕ, zero, suc, ◌+◌, ◌-◌, ◌≤◌, List, [], ◌∷◌, ap, sym, ◌∙◌, refl, arith}
use Rattle.pk_plan.specs.Order.{Level, Empty, Vertex_then, Component_then}
use Rattle.pk_iterate.specs.declared.systems.Decision.{Decision}
use Rattle.pk_iterate.specs.declared.systems.Decision.TheVariants.{Stable, Again}
use Rattle.pk_iterate.specs.Behaviour.{Behaviour}
use Rattle.pk_iterate.specs.Iteration.{Task, Exit, to_do, Progress, inputs_after, decided, next_run, progress}
use Rattle.pk_iterate.specs.Recursion.{Goes, nothing, vertex, stable, again, run_of}

-- n runs more
abbrev pub go : {C : Type 0} → Behaviour C → ℕ → Progress C → Progress C
go b zero p = p
go b (suc n) p = go b n (next_run b p.runs p.left)

abbrev pub at : {C : Type 0} → List (ℕ × C) → List Task → Progress C
at runs left = record { runs = runs; left = left }

pub go-add : {C : Type 0} (b : Behaviour C) (m k n : ℕ) (p : Progress C) → m + k ≡ n → go b n p ≡ go b k (go b m p)
go-add b zero k n p e =
    let same : n ≡ k = omega arith in
    ap (λ (i : ℕ). go b i p) same
go-add b (suc m) k n p e =
    let same : n ≡ suc (m + k) = omega arith in
    ap (λ (i : ℕ). go b i p) same ∙ go-add b m k (m + k) (next_run b p.runs p.left) refl

go-next : {C : Type 0} (b : Behaviour C) (n : ℕ) (p : Progress C) → go b n (next_run b p.runs p.left) ≡ next_run b (go b n p).runs (go b n p).left
go-next b zero p = refl
go-next b (suc n) p = go-next b n (next_run b p.runs p.left)

pub progress-go : {C : Type 0} (b : Behaviour C) (order : Level) (n : ℕ) → progress b order n ≡ go b n (at [] (to_do order []))
unfolding progress
progress-go b order zero = refl
progress-go {C} b order (suc n) =
    ap (λ (p : Progress C). next_run b p.runs p.left) (progress-go b order n) ∙ sym (go-next b n (at [] (to_do order [])))

-- a level that is gone through, in so many of the runs
pub record Through {C : Type 0} (b : Behaviour C) (level : Level) (left : List Task) (runs : List (ℕ × C)) (n : ℕ) : Type 0 where
  pub taken : ℕ
  pub after : List (ℕ × C)
  pub few : taken ≤ n
  pub goes : Goes b level runs after
  pub reached : go b taken (at runs (to_do level left)) ≡ at after left

-- what the recursion shows of fewer runs
abbrev pub Passes : {C : Type 0} → Behaviour C → ℕ → Type 0
Passes {C} b fuel = (n : ℕ) (level : Level) (left : List Task) (runs : List (ℕ × C)) → n ≤ fuel → (go b n (at runs (to_do level left))).left ≡ [] → Through b level left runs n

-- a component from its exit on
record Past {C : Type 0} (b : Behaviour C) (head exit : ℕ) (rest more : Level) (left : List Task) (runs inner : List (ℕ × C)) (d : Decision C) (k : ℕ) : Type 0 where
  pub taken : ℕ
  pub after : List (ℕ × C)
  pub few : taken ≤ k
  pub goes : Goes b (Component_then head exit rest more) runs after
  pub reached : go b taken (decided inner head exit rest (to_do more left) d) ≡ at after left

after_exit : {C : Type 0} (b : Behaviour C) (fuel k head exit : ℕ) (rest more : Level) (left : List Task) (runs inner : List (ℕ × C)) (d : Decision C) → Passes b fuel → k ≤ fuel → Goes b rest (run_of b runs head ∷ runs) inner → b.decide exit (inputs_after b inner exit) ≡ d → (go b k (decided inner head exit rest (to_do more left) d)).left ≡ [] → Past b head exit rest more left runs inner d k
after_exit b fuel k head exit rest more left runs inner (Stable c) ih below inside is ended =
    let r = ih k more left ((exit, c) ∷ inner) below ended in
    record { taken = r.taken; after = r.after; few = r.few; goes = stable inside is r.goes; reached = r.reached }
after_exit b fuel k head exit rest more left runs inner (Again c) ih below inside is ended =
    let r = ih k (Component_then head exit rest more) left ((exit, c) ∷ inner) below ended in
    record { taken = r.taken; after = r.after; few = r.few; goes = again inside is r.goes; reached = r.reached }

-- a component from its head on, with one run left at least after its rest
at_exit : {C : Type 0} (b : Behaviour C) (fuel n m k head exit : ℕ) (rest more : Level) (left : List Task) (runs inner : List (ℕ × C)) → Passes b fuel → n ≤ fuel → m + k ≡ n → Goes b rest (run_of b runs head ∷ runs) inner → go b m (at (run_of b runs head ∷ runs) (to_do rest (Exit head exit rest ∷ to_do more left))) ≡ at inner (Exit head exit rest ∷ to_do more left) → (go b k (at inner (Exit head exit rest ∷ to_do more left))).left ≡ [] → Through b (Component_then head exit rest more) left runs (suc n)
at_exit b fuel n m zero head exit rest more left runs inner ih below is inside reached ended = absurd (cc)
at_exit {C} b fuel n m (suc k) head exit rest more left runs inner ih below is inside reached ended =
    let d : Decision C = b.decide exit (inputs_after b inner exit) in
    let r = after_exit b fuel k head exit rest more left runs inner d ih (omega arith) inside refl ended in
    let start : Progress C = at (run_of b runs head ∷ runs) (to_do rest (Exit head exit rest ∷ to_do more left)) in
    record {
      taken = suc (m + suc r.taken);
      after = r.after;
      few = omega (arith, r.few);
      goes = r.goes;
      reached = go-add b m (suc r.taken) (m + suc r.taken) start refl ∙ ap (go b (suc r.taken)) reached ∙ r.reached;
    }

pub through : {C : Type 0} (b : Behaviour C) (fuel : ℕ) → Passes b fuel
through b zero n Empty left runs below ended = record { taken = 0; after = runs; few = omega arith; goes = nothing; reached = refl }
through b zero zero (Vertex_then v more) left runs below ended = absurd (cc)
through b zero (suc n) (Vertex_then v more) left runs below ended = absurd (omega arith)
through b zero zero (Component_then head exit rest more) left runs below ended = absurd (cc)
through b zero (suc n) (Component_then head exit rest more) left runs below ended = absurd (omega arith)
through b (suc fuel) n Empty left runs below ended = record { taken = 0; after = runs; few = omega arith; goes = nothing; reached = refl }
through b (suc fuel) zero (Vertex_then v more) left runs below ended = absurd (cc)
through b (suc fuel) (suc n) (Vertex_then v more) left runs below ended =
    let r = through b fuel n more left (run_of b runs v ∷ runs) (omega arith) ended in
    record { taken = suc r.taken; after = r.after; few = omega (arith, r.few); goes = vertex r.goes; reached = r.reached }
through b (suc fuel) zero (Component_then head exit rest more) left runs below ended = absurd (cc)
through {C} b (suc fuel) (suc n) (Component_then head exit rest more) left runs below ended =
    let r = through b fuel n rest (Exit head exit rest ∷ to_do more left) (run_of b runs head ∷ runs) (omega arith) ended in
    let k : ℕ = n - r.taken in
    let all : r.taken + k ≡ n = omega (arith, r.few) in
    let start : Progress C = at (run_of b runs head ∷ runs) (to_do rest (Exit head exit rest ∷ to_do more left)) in
    let then : go b n start ≡ go b k (at r.after (Exit head exit rest ∷ to_do more left)) = go-add b r.taken k n start all ∙ ap (go b k) r.reached in
    let ended' = sym (ap (λ (p : Progress C). p.left) then) ∙ ended in
    at_exit b fuel n r.taken k head exit rest more left runs r.after (through b fuel) (omega arith) all r.goes r.reached ended'

stays_ended : {C : Type 0} (b : Behaviour C) (n : ℕ) (runs : List (ℕ × C)) → go b n (at runs []) ≡ at runs []
stays_ended b zero runs = refl
stays_ended b (suc n) runs = stays_ended b n runs

-- a whole trace is a run of the recursion
pub goes_whole : {C : Type 0} (b : Behaviour C) (order : Level) (n : ℕ) → (progress b order n).left ≡ [] → Goes b order [] (progress b order n).runs
goes_whole {C} b order n ended =
    let start : Progress C = at [] (to_do order []) in
    let here = progress-go b order n in
    let r = through b n n order [] [] (omega arith) (sym (ap (λ (p : Progress C). p.left) here) ∙ ended) in
    let end : progress b order n ≡ at r.after [] = here ∙ go-add b r.taken (n - r.taken) n start (omega (arith, r.few)) ∙ ap (go b (n - r.taken)) r.reached ∙ stays_ended b (n - r.taken) r.after in
    rw end r.goes
