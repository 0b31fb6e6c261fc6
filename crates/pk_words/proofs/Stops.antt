-- The stop word.
use Rattle.std.proofs.Common.{◌^◌, zero, suc, ◌||◌, not, ◌∷◌, ◌≡◌, ◌≢◌, ℕ, ◌+◌, ◌<◌, ◌≤◌, ◌==◌, List, [], length, drop, get_or, set, Bool, true, false, refl, sym, ap, subst, ◌∙◌, arith, inl, inr, Some, get_or-set_same, get_or-set_other, length-set}
use mathlib.Core.Option.{some}
use lib.ListN.{get_elem?}
use Rattle.atomic_table.specs.Table.{State as TableState, Me, keeps, Allows}
use Rattle.pk_plan.specs.Plans.{successors_of}
use Rattle.pk_plan.specs.Shape.{has, shape_of}
use Rattle.pk_iterate.specs.Behaviour.{Behaviour}
use Rattle.pk_core.specs.States.{State, run_number}
use Rattle.pk_core.specs.Events.{start, played}
use Rattle.pk_core.proofs.Keeps.{apart_of}
use Rattle.pk_layout.specs.Wirings.{Wiring, IsWired}
use Rattle.pk_words.specs.declared.view.View.{View}
use Rattle.pk_words.specs.declared.why.Why.{Why}
use Rattle.pk_words.specs.declared.why.Why.TheVariants.{RunLimit}
use Rattle.pk_words.specs.Tokens.{times, number_of, heading, pending, seen_run, total}
use Rattle.pk_words.specs.Views.{stop_view, stop_note_view, any_stop, knows_stop}
use Rattle.pk_words.specs.Board.{word_shown, head_of, members_at, IsRestarting, why_of, IsCause, Shows, IsBoard}
use Rattle.pk_words.specs.Told.{IsIdle, Stopping, StopFound}
use Rattle.pk_words.proofs.Lists.{total_set, elem_set, elem_set_other}
use Rattle.pk_words.proofs.Stays.{none_fresh}

-- the view with other stop words
abbrev pub stop_seen : (stops stop_notes : List ℕ) → View → View
stop_seen stops stop_notes v = record v { out = []; stops = stops; stop_notes = stop_notes; fresh = false }

-- the stop word becomes n
shows_stop : {C S : Type 0} (b : Behaviour C) (w : Wiring) (value : S → C → Type 0) (core : State C) (s : TableState S View) (id n : ℕ) (v : View) (stops stop_notes : List ℕ) → Shows b w value core s → get_elem? s.views id ≡ some v → v.out ≡ []
    → ((why : Why) → why_of w.limit n ≡ Some why → IsCause b w why)
    → (get_or s.words 1 0 ≢ 0 → n ≢ 0)
    → (knows_stop (stop_seen stops stop_notes v) ≡ true → n ≢ 0)
    → Shows b w value core (record { words = set s.words 1 n; homes = s.homes; views = set s.views id (stop_seen stops stop_notes v) })
shows_stop {C} {S} b w value core s id n v stops stop_notes sh at no_out cause still seen = record {
  long = length-set s.words 1 n ∙ sh.long;
  words_are = λ e below.
      let other : e + 2 ≢ 1 = λ h. absurd (omega (arith, h)) in
      let same_word : get_or (set s.words 1 n) (e + 2) 0 ≡ get_or s.words (e + 2) 0 = rw get_or-set_other refl in
      same_word ∙ sh.words_are e below ∙ ap (λ (j : ℕ). word_shown j (core e)) (sym (same_total (λ (x : View). pending (members_at w.plan) e x.resets) refl));
  stop_is = λ why is. cause why (ap (why_of w.limit) (sym word_now) ∙ is);
  held_once = λ e below. same_total (λ (x : View). times e x.holds + heading (head_of w.plan) e x.resets) refl ∙ sh.held_once e below;
  runs_are = λ k x here e below some_e. elim (elem_set s.views id k v' x here) [
    | inl q ↦ ap (λ (y : View). number_of e y.holds) (sym q.1) ∙ sh.runs_are id v at e below (subst (λ (y : View). 0 < times e y.holds) (sym q.1) some_e)
    | inr q ↦ sh.runs_are k x q.1 e below some_e
  ];
  sent_once = λ e below. same_total (λ (x : View). times e x.sends) refl ∙ sh.sent_once e below;
  sends_are = λ k x here e below some_e. elim (elem_set s.views id k v' x here) [
    | inl q ↦ ap (λ (y : View). drop (number_of e y.sends) (successors_of w.plan e)) (sym q.1) ∙ sh.sends_are id v at e below (subst (λ (y : View). 0 < times e y.sends) (sym q.1) some_e)
    | inr q ↦ sh.sends_are k x q.1 e below some_e
  ];
  restarts = λ k x here y some_y. elim (elem_set s.views id k v' x here) [
    | inl q ↦ subst (λ (z : View). (0 < number_of y z.resets) × (number_of y z.resets ≤ length (members_at w.plan y)) × IsRestarting w.plan core y) q.1 (sh.restarts id v at y (subst (λ (z : View). 0 < times y z.resets) (sym q.1) some_y))
    | inr q ↦ sh.restarts k x q.1 y some_y
  ];
  armed_once = λ e. omega (arith, same_total (λ (x : View). pending (members_at w.plan) e x.resets) refl, sh.armed_once e);
  homes_are = sh.homes_are;
  away = λ k gone.
      let a = sh.away k gone in
      let ne : a.0 ≢ id = λ h. absurd (
      let here : get_elem? s.views id ≡ some a.1 = subst (λ (j : ℕ). get_elem? s.views j ≡ some a.1) h a.2 in
      let vs : a.1 ≡ v = cc in
      let mine : has k v.out ≡ true = subst (λ (y : View). has k y.out ≡ true) vs a.3 in
      let none_out : has k v.out ≡ false = ap (has k) no_out in
      cc
      ) in
      (a.0, a.1, elem_set_other s.views id a.0 v' ne ∙ a.2, a.3);
  out_is = λ j x here k out_k. elim (elem_set s.views id j v' x here) [
    | inl q ↦ absurd (let z : has k x.out ≡ false = ap (λ (y : View). has k y.out) (sym q.1) in cc)
    | inr q ↦ sh.out_is j x q.1 k out_k
  ];
  bounded = sh.bounded;
  noted = λ j x here e below. elim (elem_set s.views id j v' x here) [
    | inl q ↦ subst (λ (y : View). seen_run e y.notes ≤ run_number (core e)) q.1 (sh.noted id v at e below)
    | inr q ↦ sh.noted j x q.1 e below
  ];
  over = λ j x here saw. elim (elem_set s.views id j v' x here) [
    | inl q ↦ sh.over id v at (ap (λ (y : View). y.ended) q.1 ∙ saw)
    | inr q ↦ sh.over j x q.1 saw
  ];
  told = λ j x here saw zero_now. elim (elem_set s.views id j v' x here) [
    | inl q ↦ seen (ap knows_stop q.1 ∙ saw) (sym word_now ∙ zero_now)
    | inr q ↦ still (sh.told j x q.1 saw) (sym word_now ∙ zero_now)
  ];
}
  where
    v' : View
    v' = stop_seen stops stop_notes v

    word_now : get_or (set s.words 1 n) 1 0 ≡ n
    word_now =
        let in_range : 1 < length s.words = omega (arith, sh.long) in
        rw get_or-set_same refl

    same_total : (f : View → ℕ) → f (stop_seen stops stop_notes v) ≡ f v → total f (set s.views id (stop_seen stops stop_notes v)) ≡ total f s.views
    same_total f q = omega (arith, total_set f s.views id v (stop_seen stops stop_notes v) at, q)

stop_board : {C S : Type 0} (b : Behaviour C) (w : Wiring) (value : S → C → Type 0) (s : TableState S View) (id n : ℕ) (v : View) (stops stop_notes : List ℕ) → (board : IsBoard b w value s) → get_elem? s.views id ≡ some v → v.out ≡ []
    → ((why : Why) → why_of w.limit n ≡ Some why → IsCause b w why)
    → (get_or s.words 1 0 ≢ 0 → n ≢ 0)
    → (knows_stop (stop_seen stops stop_notes v) ≡ true → n ≢ 0)
    → IsBoard b w value (record { words = set s.words 1 n; homes = s.homes; views = set s.views id (stop_seen stops stop_notes v) })
stop_board {C} {S} b w value s id n v stops stop_notes board at no_out cause still seen = record {
  wired = board.wired;
  events = board.events;
  enabled = board.enabled;
  shows = shows_stop b w value (played b (shape_of w.plan) (start (shape_of w.plan)) board.events) s id n v stops stop_notes board.shows at no_out cause still seen;
  begins = λ k x here fresh. absurd (none_fresh s.views id v (stop_seen stops stop_notes v) at refl (λ j y at_j f. (board.begins j y at_j f).0) k x here fresh);
}

-- a store of why
pub stops : {C S : Type 0} (b : Behaviour C) (w : Wiring) (value : S → C → Type 0) (slots id n : ℕ) (me : Me S View) → IsIdle me → n ≢ 0 → ((why : Why) → why_of w.limit n ≡ Some why → IsCause b w why) → Allows (IsBoard b w value) slots id me 1 (λ _. n) (λ _. Stopping me n)
stops {C} {S} b w value slots id n me no_slot some_n cause s board long at fits = (
  stop_view n me.0,
  keeps,
  tt,
  stop_board b w value s id n me.0 (n ∷ me.0.stops) me.0.stop_notes board at no_slot.1 cause (λ h. some_n) (λ h. some_n),
  ap (λ (xs : List (ℕ × S)). (stop_view n me.0, xs)) no_slot.0,
)

-- a load of the stop word
pub stop_loads : {C S : Type 0} (b : Behaviour C) (w : Wiring) (value : S → C → Type 0) (slots id : ℕ) (me : Me S View) → IsIdle me → Allows (IsBoard b w value) slots id me 1 (λ n. n) (StopFound b w me)
stop_loads {C} {S} b w value slots id me no_slot s board long at fits = (
  stop_note_view found me.0,
  keeps,
  tt,
  stop_board b w value s id found me.0 me.0.stops (found ∷ me.0.stop_notes) board at no_slot.1 board.shows.stop_is (λ h. h) (by_found (found == 0) refl),
  (ap (λ (xs : List (ℕ × S)). (stop_note_view found me.0, xs)) no_slot.0, board.shows.stop_is, board.shows.told id me.0 at),
)
  where
    found : ℕ
    found = get_or s.words 1 0

    by_found : (t : Bool) → (found == 0) ≡ t → (any_stop me.0.stops || (not t || any_stop me.0.stop_notes)) ≡ true → found ≢ 0
    by_found true q h = board.shows.told id me.0 at h
    by_found false q h = apart_of found 0 q

-- a stop word that names an element fits 33 bits
pub word_fits : {C : Type 0} (b : Behaviour C) (w : Wiring) (found : ℕ) → IsWired b w → ((why : Why) → why_of w.limit found ≡ Some why → IsCause b w why) → found < 2 ^ 32 + 2
word_fits b w zero wired cause = omega arith
word_fits b w (suc zero) wired cause = omega arith
word_fits b w (suc (suc e)) wired cause =
    let below = (cause (RunLimit e (w.limit + 1)) refl).0 in
    omega (arith, below, wired.few)
