-- What a pass has between two calls, and what a run has read.
use Rattle.std.specs.Prelude.{◌≡◌, ℕ, ◌≤◌, List, [], ◌∷◌, false}
use Rattle.pk_plan.specs.Plans.{PlanView}
use Rattle.pk_words.specs.declared.view.View.{View}
use Rattle.pk_board.specs.Held.{HoldView, SendingView, ResettingView}
use Rattle.pk_words.specs.Subjects.{SubjectView}
use Rattle.pk_board.specs.declared.answers.Got.{Got}
use Rattle.pk_board.specs.declared.answers.Got.TheVariants.{Ready, Waiting}

-- the pass has just these Holds, Sendings and Resettings
pub record HasTokens (v : View) (hs ss rs : List (ℕ × ℕ)) : Type 0 where
  pub holds : v.holds ≡ hs
  pub sends : v.sends ≡ ss
  pub resets : v.resets ≡ rs

abbrev pub HasNone : View → Type 0
HasNone v = HasTokens v [] [] []

abbrev pub HasOnlyHold : View → HoldView → Type 0
HasOnlyHold v hold = HasTokens v ((hold.element, hold.run) ∷ []) [] []

abbrev pub HasOnlySending : View → SendingView → Type 0
HasOnlySending v sending = HasTokens v [] ((sending.element, sending.sent) ∷ []) []

abbrev pub HasOnlyResetting : View → ResettingView → Type 0
HasOnlyResetting v resetting = HasTokens v [] [] ((resetting.exit, resetting.left) ∷ [])

-- after a send: the target's Hold, whose run number is at most the limit, or none
abbrev pub HasGot : ℕ → View → Got → Type 0
HasGot limit v (Ready hold) = HasTokens v ((hold.element, hold.run) ∷ []) v.sends [] × (hold.run ≤ limit)
HasGot limit v (Waiting left) = HasTokens v [] v.sends []

-- the subject is this system with this plan, no element may run more than 1000 times, and cells are kept
pub record IsAbout {Y : Type 0} (s : SubjectView Y) (y : Y) (p : PlanView) : Type 0 where
  pub system : s.system ≡ y
  pub plan : s.wiring.plan ≡ p
  pub limit : s.wiring.limit ≡ 1000
  pub whole : s.lean ≡ false
