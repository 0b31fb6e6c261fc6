-- The jobs and the endings of workers.
use Rattle.std.proofs.Common.{◌≡◌, ℕ, ◌+◌, List, [], ◌∷◌, ◌++◌, length, length-append, sym, ap, subst, ◌∙◌, arith}
use Rattle.std.specs.Prelude.{None}
use Rattle.std.proofs.lemmas.List.Elements.{All-nil, All-push}
use Rattle.atomic_table.specs.Seated.{TableId}
use Rattle.pk_words.specs.Views.{new_view}
use Rattle.pk_board.specs.Boards.{PassView}
use Rattle.pk_workers.specs.declared.workers.Job.{Job}
use Rattle.pk_workers.specs.Working.{HasJust, AreJobs}

abbrev IsJob : {D P B : Type 0} → TableId → Job D P B → Type 0
IsJob table j = (j.pass.table ≡ table) × HasJust j.pass.view None None None

pub no_jobs : {D P B : Type 0} (table : TableId) (jobs : List (Job D P B)) → jobs ≡ [] → AreJobs table jobs
no_jobs {D} {P} {B} table jobs is = subst (λ (js : List (Job D P B)). AreJobs table js) (sym is) (All-nil (IsJob {D = D} {P = P} {B = B} table))

pub more_jobs : {D P B : Type 0} (table : TableId) (jobs more : List (Job D P B)) (job : Job D P B) (own : PassView) → AreJobs table jobs → more ≡ jobs ++ job ∷ [] → own.table ≡ table → job.pass ≡ record { table = own.table; view = new_view own.view } → AreJobs table more
more_jobs {D} {P} {B} table jobs more job own each is of_board pass =
    subst (λ (js : List (Job D P B)). AreJobs table js) (sym is)
    (All-push (IsJob {D = D} {P = P} {B = B} table) jobs job each (ap (λ p. p.table) pass ∙ of_board, record { holds = ap (λ p. p.view.holds) pass; sends = ap (λ p. p.view.sends) pass; resets = ap (λ p. p.view.resets) pass }))

pub one_more : {X : Type 0} (xs ys : List X) (x : X) (n : ℕ) → ys ≡ xs ++ x ∷ [] → length xs ≡ n → length ys ≡ n + 1
one_more {X} xs ys x n is long = subst (λ (zs : List X). length zs ≡ n + 1) (sym is) (omega (arith, long, length-append xs (x ∷ [])))
