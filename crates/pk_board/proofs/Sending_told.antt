-- What a send tells.
use Rattle.std.proofs.Common.{◌≡◌, ℕ, ◌+◌, drop, get_or, refl, sym, ap, subst}
use Rattle.atomic_table.specs.Table.{Me}
use Rattle.pk_plan.specs.Plans.{successors_of}
use Rattle.pk_iterate.specs.Behaviour.{Behaviour}
use Rattle.pk_layout.specs.Wirings.{Wiring}
use Rattle.pk_words.specs.declared.view.View.{View}
use Rattle.pk_board.specs.Held.{SendingView}
use Rattle.pk_words.specs.Views.{arrive_view}
use Rattle.pk_words.specs.Told.{IsIdle, Sent}
use Rattle.pk_board.specs.Calls.{IsGotOf, IsTold}
use Rattle.pk_board.specs.declared.answers.Got.{Got}
use Rattle.pk_board.proofs.Telling.{idle_at}

pub sent_idle : {C S : Type 0} (b : Behaviour C) (w : Wiring) (a i found : ℕ) (me new : Me S View) → Sent b w a i me found new → IsIdle new
sent_idle b w a i found me new sent = idle_at (arrive_view a i (drop (i + 1) (successors_of w.plan a)) (get_or (successors_of w.plan a) i 0) found me.0) new sent.0 refl

pub is_told : {C S : Type 0} (b : Behaviour C) (w : Wiring) (a i found target : ℕ) (s : SendingView) (me new : Me S View) (old : View) (got : Got) → Sent b w a i me found new → s.element ≡ a → s.sent ≡ i → me.0 ≡ old
    → target ≡ get_or (successors_of w.plan a) i 0 → IsGotOf target found got → IsTold b w s old new.0 got
is_told {C} {S} b w a i found target s me new old got sent element number is target_is got_is =
    subst (λ (v : View). IsTold b w s v new.0 got) is
    (let at : SendingView = record { element = a; sent = i } in
    let same : at ≡ s = (λ k. record { element = sym element k; sent = sym number k }) in
    subst (λ (t : SendingView). IsTold b w t me.0 new.0 got) same
    (record {
      found = found;
      late = sent.4;
      got = subst (λ (t : ℕ). IsGotOf t found got) target_is got_is;
      counts = sent.3;
      view = ap (λ (m : Me S View). m.0) sent.0;
    }))
