-- What every board keeps to.
use Rattle.std.proofs.Common.{◌≡◌, ℕ, zero, suc, ◌<◌, ◌==◌, List, [], ◌∷◌, true, refl, sym, ap, subst, ◌∙◌, arith, inl, inr}
use mathlib.Core.Option.{some}
use lib.ListN.{get_elem?}
use Rattle.atomic_table.specs.Table.{State as TableState}
use Rattle.pk_plan.specs.Plans.{predecessors_of}
use Rattle.pk_plan.specs.Shape.{shape_of}
use Rattle.pk_iterate.specs.Behaviour.{Behaviour}
use Rattle.pk_core.specs.declared.events.Event.{Event}
use Rattle.pk_core.specs.declared.events.Status.{Status}
use Rattle.pk_core.specs.declared.events.Status.TheVariants.{Waiting, Open, Held, Done}
use Rattle.pk_core.specs.States.{Element, State, run_number}
use Rattle.pk_core.specs.Events.{start, played}
use Rattle.pk_core.proofs.Basics.{cases, same}
use Rattle.pk_core.proofs.Keeps.{apart_of}
use Rattle.pk_core.proofs.Kept_to.{every_list}
use Rattle.pk_layout.specs.Wirings.{Wiring}
use Rattle.pk_words.specs.declared.view.View.{View}
use Rattle.pk_words.specs.Tokens.{times, total, one_if_held, one_if_any}
use Rattle.pk_words.specs.Board.{low, word_shown, head_of, Shows, IsBoard}
use Rattle.pk_words.specs.Laws.{core_of, IsSameAt, IsStart, EveryBoardKeeps}
use Rattle.pk_words.proofs.Stays.{armings}
use Rattle.pk_words.proofs.Facts.{Narrow, narrow, one_hold, held_by_one, some_view, IsPending, pending_is, zero_or}
use Rattle.pk_words.proofs.Numbers.{run_shown}
use Rattle.pk_words.proofs.Whole.{start_low}

-- ---- one state

same_low : (x y : Status) → Narrow x → Narrow y → low x ≡ low y → x ≡ y
same_low (Waiting n) (Waiting m) h k e = ap Waiting e
same_low (Waiting n) Open h k e = absurd (omega (arith, h.1, e))
same_low (Waiting n) Held h k e = absurd (omega (arith, h.0, e))
same_low (Waiting n) Done h k e = absurd (omega (arith, h.1, e))
same_low Open (Waiting m) h k e = absurd (omega (arith, k.1, e))
same_low Open Open h k e = refl
same_low Open Held h k e = absurd (omega (arith, e))
same_low Open Done h k e = absurd (omega (arith, e))
same_low Held (Waiting m) h k e = absurd (omega (arith, k.0, e))
same_low Held Open h k e = absurd (omega (arith, e))
same_low Held Held h k e = refl
same_low Held Done h k e = absurd (omega (arith, e))
same_low Done (Waiting m) h k e = absurd (omega (arith, k.1, e))
same_low Done Open h k e = absurd (omega (arith, e))
same_low Done Held h k e = absurd (omega (arith, e))
same_low Done Done h k e = refl

-- a word tells its element's run number, and its status if it isn't to be armed
same_run : {C : Type 0} (left : ℕ) (x y : Element C) → Narrow x.status → Narrow y.status → word_shown left x ≡ word_shown left y → run_number x ≡ run_number y
same_run left x y h k is = sym (run_shown left x (word_shown left y) h is) ∙ run_shown left y (word_shown left y) k refl

same_status : {C : Type 0} (left : ℕ) (x y : Element C) → Narrow x.status → Narrow y.status → left ≡ 0 → word_shown left x ≡ word_shown left y → x.status ≡ y.status
same_status zero x y h k none is = same_low x.status y.status h k (omega (arith, is, same_run 0 x y h k is))
same_status (suc left) x y h k none is = absurd (omega (arith, none))

none_any : {A : Type 0} (xs : List A) → one_if_any xs ≡ 0 → xs ≡ []
none_any [] h = refl
none_any (x ∷ xs) h = absurd (omega (arith, h))

one_state : {C S : Type 0} (b : Behaviour C) (w : Wiring) (value : S → C → Type 0) (s : TableState S View) (board other : IsBoard b w value s) (e : ℕ) → e < w.plan.elements → IsSameAt (core_of board) (core_of other) e
one_state {C} {S} b w value s board other e below = record {
  status = elim (zero_or (armings w s e)) [
    | inl none ↦ same_status (armings w s e) (core e) (core' e) (narrow b w value s board e) (narrow b w value s other e) none words
    | inr some_e ↦ by_pending (pending_is board.wired board.shows e some_e)
  ];
  run = same_run (armings w s e) (core e) (core' e) (narrow b w value s board e) (narrow b w value s other e) words;
  sends = elim (zero_or (total (λ (v : View). times e v.sends) s.views)) [
    | inl none ↦ none_any (core e).sends (sym (board.shows.sent_once e below) ∙ none) ∙ sym (none_any (core' e).sends (sym (other.shows.sent_once e below) ∙ none))
    | inr some_e ↦ (
        let v = some_view (λ (x : View). times e x.sends) s.views some_e in
        sym (board.shows.sends_are v.0 v.1 v.2 e below v.3) ∙ other.shows.sends_are v.0 v.1 v.2 e below v.3)
  ];
}
  where
    core : State C
    core = core_of board

    core' : State C
    core' = core_of other

    words : word_shown (armings w s e) (core e) ≡ word_shown (armings w s e) (core' e)
    words = sym (board.shows.words_are e below) ∙ other.shows.words_are e below

    by_pending : IsPending w core s.views e → (core e).status ≡ (core' e).status
    by_pending p =
        let there = (other.shows.restarts p.id p.view p.at p.exit p.resetting).2 in
        elim (cases (e == head_of w.plan p.exit)) [
          | inl q ↦ (
              let here = same e (head_of w.plan p.exit) q in
              ap (λ (j : ℕ). (core j).status) here ∙ p.restarting.head ∙ sym (ap (λ (j : ℕ). (core' j).status) here ∙ there.head))
          | inr q ↦ (
              let apart = apart_of e (head_of w.plan p.exit) q in
              p.restarting.member_waits e p.member apart ∙ sym (there.member_waits e p.member apart))
        ]

-- ---- the start

at_start : {C S : Type 0} (b : Behaviour C) (w : Wiring) (value : S → C → Type 0) (s : TableState S View) → IsBoard b w value s → (id : ℕ) (v : View) → get_elem? s.views id ≡ some v → v.fresh ≡ true → IsStart b w value s
at_start {C} {S} b w value s board id v at fresh = record {
  alone = (board.begins id v at fresh).0;
  going = (board.begins id v at fresh).2;
  words = λ e below. shows.words_are e below ∙ ap (λ (j : ℕ). word_shown j (start {C = C} (shape_of w.plan) e)) (none e) ∙ omega arith;
  homes = shows.homes_are;
}
  where
    shows : Shows b w value (start (shape_of w.plan)) s
    shows = subst (λ (events : List Event). Shows b w value (played b (shape_of w.plan) (start (shape_of w.plan)) events) s) (board.begins id v at fresh).1 board.shows

    none : (e : ℕ) → armings w s e ≡ 0
    none e = elim (zero_or (armings w s e)) [
      | inl z ↦ z
      | inr some_e ↦ absurd (
          let p = pending_is board.wired shows e some_e in
          let free = start_low (predecessors_of w.plan (head_of w.plan p.exit)) in
          let held = ap one_if_held p.restarting.head in
          omega (arith, free, held))
    ]

pub every_board : {C S : Type 0} (b : Behaviour C) (value : S → C → Type 0) → EveryBoardKeeps b value
every_board b value = record {
  keeps = λ w s board order ends ordered. (every_list b).keeps w.plan order ends board.events board.wired.axioms ordered board.wired.fits board.enabled;
  one_state = λ w s board other e below. one_state b w value s board other e below;
  begins = λ w s board id v at fresh. at_start b w value s board id v at fresh;
  one = λ w s board id v at e below. one_hold board.shows id e v at below;
  alone = λ w s board i j v x at has_x e below mine theirs. elim (cases (i == j)) [
    | inl q ↦ same i j q
    | inr q ↦ absurd (held_by_one board.shows i j e v x at has_x (apart_of i j q) below mine theirs)
  ];
}
