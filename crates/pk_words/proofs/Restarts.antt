-- Components that are to be gone through again, while other elements are changed.
use Rattle.std.proofs.Common.{◌≡◌, ◌≢◌, ℕ, ◌<◌, ◌≤◌, List, length, true, false, sym, ap, subst, ◌∙◌}
use mathlib.Core.Option.{some}
use lib.ListN.{get_elem?}
use Rattle.atomic_table.specs.Table.{State as TableState}
use Rattle.pk_plan.specs.Plans.{PlanView}
use Rattle.pk_plan.specs.Shape.{holds}
use Rattle.pk_iterate.specs.Behaviour.{Behaviour}
use Rattle.pk_core.specs.States.{State}
use Rattle.pk_core.proofs.Keeps.{is_waiting}
use Rattle.pk_layout.specs.Wirings.{Wiring, IsWired}
use Rattle.pk_words.specs.declared.view.View.{View}
use Rattle.pk_words.specs.Tokens.{times, number_of}
use Rattle.pk_words.specs.Board.{head_of, members_at, IsRestarting, Shows}
use Rattle.pk_words.proofs.Facts.{own_free}

-- e is neither the exit nor a member, and no other element is changed
pub restart_apart : {C : Type 0} (p : PlanView) (s t : State C) (e x : ℕ) → ((u : ℕ) → u ≢ e → (t u).status ≡ (s u).status) → e ≢ head_of p x → e ≢ x → (holds p x e ≡ true → ⊥) → IsRestarting p s x → IsRestarting p t x
restart_apart {C} p s t e x else no_head no_exit no_member r = record {
  exit = r.exit;
  head = else (head_of p x) (λ q. no_head (sym q)) ∙ r.head;
  exit_waits = else x (λ q. no_exit (sym q)) ∙ r.exit_waits;
  member_waits = λ u inside ne. else u (λ q. no_member (subst (λ (j : ℕ). holds p x j ≡ true) q inside)) ∙ r.member_waits u inside ne;
}

-- e doesn't wait and isn't the head, and no other element is changed
pub restart_else : {C : Type 0} (p : PlanView) (s t : State C) (e x : ℕ) → ((u : ℕ) → u ≢ e → (t u).status ≡ (s u).status) → is_waiting (s e).status ≡ false → e ≢ head_of p x → IsRestarting p s x → IsRestarting p t x
restart_else {C} p s t e x else no_wait apart r =
    restart_apart p s t e x else apart (λ q. absurd (let h : is_waiting (s e).status ≡ true = ap (λ (j : ℕ). is_waiting (s j).status) q ∙ ap is_waiting r.exit_waits in cc)) (λ inside. absurd (let h = ap is_waiting (r.member_waits e inside apart) in cc)) r

-- a pass's Resettings stay, where what is to be gone through again stays so
pub steady : {C S : Type 0} {b : Behaviour C} {w : Wiring} {value : S → C → Type 0} {s : State C} {ts : TableState S View} (t : State C) (id : ℕ) (v v' : View) → IsWired b w → Shows b w value s ts → get_elem? ts.views id ≡ some v → v'.resets ≡ v.resets
    → ((x : ℕ) → IsRestarting w.plan s x → times (head_of w.plan x) v.holds ≡ 0 → IsRestarting w.plan t x)
    → (x : ℕ) → 0 < times x v'.resets → (0 < number_of x v'.resets) × (number_of x v'.resets ≤ length (members_at w.plan x)) × IsRestarting w.plan t x
steady {C} {S} {b} {w} {value} {s} {ts} t id v v' wired sh at same stay x some_x =
    let mine : 0 < times x v.resets = subst (λ (rs : List (ℕ × ℕ)). 0 < times x rs) same some_x in
    let r = sh.restarts id v at x mine in
    subst (λ (rs : List (ℕ × ℕ)). (0 < number_of x rs) × (number_of x rs ≤ length (members_at w.plan x)) × IsRestarting w.plan t x) (sym same)
    (r.0, r.1, stay x r.2 (own_free wired sh id x v at mine))
