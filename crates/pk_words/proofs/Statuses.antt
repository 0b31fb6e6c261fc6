-- Steps after which one element has another status, and steps that change no element.
use Rattle.std.proofs.Common.{◌≡◌, ◌≢◌, ℕ, ◌+◌, ◌*◌, ◌/◌, ◌<◌, ◌≤◌, ◌==◌, List, [], ◌∷◌, length, drop, get_or, set, Bool, true, false, if◌then◌else◌, refl, sym, ap, subst, ◌∙◌, arith, inl, inr, ◌⊎◌}
use mathlib.Core.Option.{some}
use lib.ListN.{get_elem?}
use Rattle.atomic_table.specs.Table.{State as TableState}
use Rattle.pk_plan.specs.Plans.{end_of, successors_of}
use Rattle.pk_plan.specs.Shape.{has, shape_of}
use Rattle.pk_iterate.specs.Behaviour.{Behaviour}
use Rattle.pk_core.specs.declared.events.Event.TheVariants.{Offer, Claim}
use Rattle.pk_core.specs.declared.events.Status.{Status}
use Rattle.pk_core.specs.declared.events.Status.TheVariants.{Open, Held, Done}
use Rattle.pk_core.specs.States.{Element, State, run_number, newest}
use Rattle.pk_core.specs.Events.{start, after, played, with_status}
use Rattle.pk_core.proofs.Basics.{cases, same, itself, neq}
use Rattle.pk_core.proofs.Keeps.{apart_of, is_waiting}
use Rattle.pk_layout.specs.Layouts.{owner_of}
use Rattle.pk_layout.specs.Wirings.{Wiring, IsWired}
use Rattle.pk_words.specs.declared.view.View.{View}
use Rattle.pk_words.specs.Tokens.{times, number_of, drop_one, heading, pending, seen_run, one_if_held, one_if_any}
use Rattle.pk_words.specs.Views.{note_view, offer_view, claim_view, end_view, knows_stop}
use Rattle.pk_words.specs.Board.{low, word_shown, head_of, members_at, IsRestarting, Shows, IsBoard}
use Rattle.pk_words.proofs.Lists.{times_drop, times_other, number_other, times_own, times_more, number_own, number_more, seen_next}
use Rattle.pk_words.proofs.Wired.{last_in}
use Rattle.pk_words.proofs.Stays.{armings, Changes, Moves, makes, stays}
use Rattle.pk_words.proofs.Facts.{narrow, held, one_hold, hold_armed, not_pending}
use Rattle.pk_words.proofs.Numbers.{run_shown}
use Rattle.pk_words.proofs.Restarts.{restart_else, steady}

-- e has the status st, and all else stays
abbrev pub with_status_at : {C : Type 0} → State C → ℕ → Status → State C
with_status_at s e st = λ u. if u == e then with_status st (s u) else s u

made_of : {C : Type 0} (c : Bool) (st : Status) (x : Element C) → (if c then with_status st x else x).made ≡ x.made
made_of true st x = refl
made_of false st x = refl

sends_of : {C : Type 0} (c : Bool) (st : Status) (x : Element C) → (if c then with_status st x else x).sends ≡ x.sends
sends_of true st x = refl
sends_of false st x = refl

pub status_changes : {C S : Type 0} {b : Behaviour C} {w : Wiring} {value : S → C → Type 0} {s : State C} {ts : TableState S View} (st : Status) (id e n : ℕ) (v v' : View) → IsWired b w → Shows b w value s ts → get_elem? ts.views id ≡ some v
    → armings w ts e ≡ 0
    → n ≡ run_number (s e) * 1048576 + low st
    → v'.sends ≡ v.sends
    → v'.resets ≡ v.resets
    → v'.ended ≡ v.ended
    → knows_stop v' ≡ knows_stop v
    → (s e).status ≢ Done
    → is_waiting (s e).status ≡ false
    → ((x : ℕ) → IsRestarting w.plan s x → times (head_of w.plan x) v.holds ≡ 0 → e ≢ head_of w.plan x)
    → times e v'.holds + one_if_held (s e).status ≡ times e v.holds + one_if_held st
    → ((u : ℕ) → u ≢ e → times u v'.holds ≡ times u v.holds)
    → ((u : ℕ) → u < w.plan.elements → 0 < times u v'.holds → number_of u v'.holds ≡ run_number (s u))
    → ((u : ℕ) → u < w.plan.elements → seen_run u v'.notes ≤ run_number (s u))
    → Changes w s (with_status_at s e st) (armings w ts) (armings w ts) e n v v'
status_changes {C} {S} {b} {w} {value} {s} {ts} st id e n v v' wired sh at none is same_sends same_resets same_ended same_stopped not_done no_wait no_head own others runs notes = record {
  word = subst (λ (j : ℕ). n ≡ word_shown j (with_status_at s e st e)) (sym none) (let q = itself e in rw q is);
  others = λ u low_u ne. let q = neq u e ne in rw q refl;
  armed = λ u. ap (λ (rs : List (ℕ × ℕ)). armings w ts u + pending (members_at w.plan) u rs) (sym same_resets);
  once = sh.armed_once;
  holds = λ u. elim (cases (u == e)) [
    | inl q ↦
        let ue = same u e q in
        rw q (omega (arith, subst (λ (j : ℕ). times j v'.holds + one_if_held (s j).status ≡ times j v.holds + one_if_held st) (sym ue) own, ap (heading (head_of w.plan) u) same_resets))
    | inr q ↦ rw q (omega (arith, others u (apart_of u e q), ap (heading (head_of w.plan) u) same_resets))
  ];
  runs = λ u low_u some_u. runs u low_u some_u ∙ sym (ap length (made_of (u == e) st (s u)));
  runs_stay = λ u. inl (ap length (made_of (u == e) st (s u)));
  sends = λ u. ap (λ (xs : List (ℕ × ℕ)). times u xs + one_if_any (s u).sends) same_sends ∙ ap (λ (xs : List ℕ). times u v.sends + one_if_any xs) (sym (sends_of (u == e) st (s u)));
  sent = λ u low_u some_u. ap (λ (xs : List (ℕ × ℕ)). drop (number_of u xs) (successors_of w.plan u)) same_sends ∙ sh.sends_are id v at u low_u (subst (λ (xs : List (ℕ × ℕ)). 0 < times u xs) same_sends some_u) ∙ sym (sends_of (u == e) st (s u));
  sends_stay = λ u. inl (sends_of (u == e) st (s u));
  restarts = steady (with_status_at s e st) id v v' wired sh at same_resets stay;
  restarts_stay = stay;
  bounded = λ u le. omega (arith, le, ap length (made_of (u == e) st (s u)));
  grows = λ u. omega (arith, ap length (made_of (u == e) st (s u)));
  notes = λ u low_u. omega (arith, notes u low_u, ap length (made_of (u == e) st (s u)));
  over_stays = λ over.
      let q = neq (end_of w.plan) e (λ h. not_done (ap (λ (j : ℕ). (s j).status) (sym h) ∙ over)) in
      rw q over;
  over = λ saw. inl (sym same_ended ∙ saw);
  stopped = same_stopped;
}
  where
    stay : (x : ℕ) → IsRestarting w.plan s x → times (head_of w.plan x) v.holds ≡ 0 → IsRestarting w.plan (with_status_at s e st) x
    stay x r free = restart_else w.plan s (with_status_at s e st) e x (λ u ne. let q = neq u e ne in rw q refl) no_wait (no_head x r free) r

-- Homes stay, and the pass has no slot out.
pub no_moves : {C S : Type 0} {b : Behaviour C} {w : Wiring} {value : S → C → Type 0} {s : State C} {ts : TableState S View} (t : State C) (v v' : View) → Shows b w value s ts → v.out ≡ [] → v'.out ≡ []
    → ((u : ℕ) → (t u).made ≡ (s u).made)
    → Moves b w value t ts.homes ts.homes v v'
no_moves {C} {S} {b} {w} {value} {s} {ts} t v v' sh out out' made = record {
  homes = λ k x at. subst (value x) (ap (newest (b.first (owner_of w.layout k))) (sym (made (owner_of w.layout k)))) (sh.homes_are k x at);
  away = λ k gone. inr (gone, ap (has k) out);
  out = λ k some_k. absurd (let h : false ≡ true = sym (ap (has k) out') ∙ some_k in cc);
}

pub offered : {C S : Type 0} (b : Behaviour C) (w : Wiring) (value : S → C → Type 0) (ts : TableState S View) (id e : ℕ) (v : View) → IsBoard b w value ts → get_elem? ts.views id ≡ some v → e < w.plan.elements → 0 < times e v.holds → v.out ≡ []
    → IsBoard b w value (record { words = set ts.words (e + 2) (number_of e v.holds * 1048576 + 262144); homes = ts.homes; views = set ts.views id (offer_view e v) })
offered {C} {S} b w value ts id e v board at below mine no_out =
    let core : State C = played b (shape_of w.plan) (start (shape_of w.plan)) board.events in
    let is_held = held board.shows id e v at below mine in
    let fewer = times_drop e v.holds mine in
    let only = one_hold board.shows id e v at below in
    makes b w value ts (armings w ts) ts.homes id e (number_of e v.holds * 1048576 + 262144) v (offer_view e v) (Offer e) refl below board at (is_held, below)
    (status_changes Open id e (number_of e v.holds * 1048576 + 262144) v (offer_view e v) board.wired board.shows at
    (hold_armed board.wired board.shows id e v at below mine)
    (ap (λ (r : ℕ). r * 1048576 + 262144) (board.shows.runs_are id v at e below mine))
    refl
    refl
    refl
    refl
    (λ d. absurd (let h = is_held in cc))
    (ap is_waiting is_held)
    (λ x r free q. absurd (omega (arith, mine, free, ap (λ (j : ℕ). times j v.holds) q)))
    (omega (arith, fewer, ap one_if_held is_held))
    (λ u ne. times_other e u v.holds ne)
    (λ u low_u some_u. elim (cases (u == e)) [
      | inl q ↦ absurd (omega (arith, fewer, only, some_u, ap (λ (j : ℕ). times j (drop_one e v.holds)) (same u e q)))
      | inr q ↦
          let ne = apart_of u e q in
          number_other e u v.holds ne ∙ board.shows.runs_are id v at u low_u (omega (arith, some_u, times_other e u v.holds ne))
    ])
    (board.shows.noted id v at))
    (no_moves (after b (shape_of w.plan) core (Offer e)) v (offer_view e v) board.shows no_out refl (λ u. made_of (u == e) Open (core u)))

-- a pass that finds a word notes its run
pub found_noted : {C S : Type 0} (b : Behaviour C) (w : Wiring) (value : S → C → Type 0) (ts : TableState S View) (id e : ℕ) (v : View) → (board : IsBoard b w value ts) → get_elem? ts.views id ≡ some v → e < w.plan.elements
    → (u : ℕ) → u < w.plan.elements → seen_run u ((e, get_or ts.words (e + 2) 0) ∷ v.notes) ≤ run_number (played b (shape_of w.plan) (start (shape_of w.plan)) board.events u)
found_noted {C} {S} b w value ts id e v board at below u low_u =
    let core : State C = played b (shape_of w.plan) (start (shape_of w.plan)) board.events in
    let r = run_shown (armings w ts e) (core e) (get_or ts.words (e + 2) 0) (narrow b w value ts board e) (sym (board.shows.words_are e below)) in
    seen_next (λ (j : ℕ). run_number (core j)) e (get_or ts.words (e + 2) 0) v.notes u (omega (arith, r)) (board.shows.noted id v at u low_u)

-- and no earlier run than before
pub found_later : {C S : Type 0} (b : Behaviour C) (w : Wiring) (value : S → C → Type 0) (ts : TableState S View) (id e : ℕ) (v : View) → (board : IsBoard b w value ts) → get_elem? ts.views id ≡ some v → e < w.plan.elements
    → seen_run e v.notes ≤ get_or ts.words (e + 2) 0 / 1048576
found_later {C} {S} b w value ts id e v board at below =
    let core : State C = played b (shape_of w.plan) (start (shape_of w.plan)) board.events in
    let r = run_shown (armings w ts e) (core e) (get_or ts.words (e + 2) 0) (narrow b w value ts board e) (sym (board.shows.words_are e below)) in
    omega (arith, r, board.shows.noted id v at e below)

pub claimed : {C S : Type 0} (b : Behaviour C) (w : Wiring) (value : S → C → Type 0) (ts : TableState S View) (id e : ℕ) (v : View) → (board : IsBoard b w value ts) → get_elem? ts.views id ≡ some v → e < w.plan.elements
    → (played b (shape_of w.plan) (start (shape_of w.plan)) board.events e).status ≡ Open
    → get_or ts.words (e + 2) 0 / 1048576 ≡ run_number (played b (shape_of w.plan) (start (shape_of w.plan)) board.events e) → v.out ≡ []
    → IsBoard b w value (record { words = set ts.words (e + 2) (get_or ts.words (e + 2) 0 / 1048576 * 1048576); homes = ts.homes; views = set ts.views id (claim_view e (get_or ts.words (e + 2) 0) v) })
claimed {C} {S} b w value ts id e v board at below is_open run_is no_out =
    let core : State C = played b (shape_of w.plan) (start (shape_of w.plan)) board.events in
    let found : ℕ = get_or ts.words (e + 2) 0 in
    let run : ℕ = found / 1048576 in
    makes b w value ts (armings w ts) ts.homes id e (run * 1048576) v (claim_view e found v) (Claim e) refl below board at (is_open, below)
    (status_changes Held id e (run * 1048576) v (claim_view e found v) board.wired board.shows at
    (not_pending board.wired board.shows e (ap is_waiting is_open) (ap one_if_held is_open))
    (omega (arith, ap (λ (r : ℕ). r * 1048576) run_is))
    refl
    refl
    refl
    refl
    (λ d. absurd (let h = is_open in cc))
    (ap is_waiting is_open)
    (λ x r free q. absurd (let h = r.head in let o = ap (λ (j : ℕ). (core j).status) q in let i = is_open in cc))
    (omega (arith, times_own e run v.holds, ap one_if_held is_open))
    (λ u ne. times_more e u run v.holds ne)
    (λ u low_u some_u. elim (cases (u == e)) [
      | inl q ↦ ap (λ (j : ℕ). number_of j ((e, run) ∷ v.holds)) (same u e q) ∙ number_own e run v.holds ∙ run_is ∙ sym (ap (λ (j : ℕ). run_number (core j)) (same u e q))
      | inr q ↦
          let ne = apart_of u e q in
          number_more e u run v.holds ne ∙ board.shows.runs_are id v at u low_u (omega (arith, some_u, times_more e u run v.holds ne))
    ])
    (found_noted b w value ts id e v board at below))
    (no_moves (after b (shape_of w.plan) core (Claim e)) v (claim_view e found v) board.shows no_out refl (λ u. made_of (u == e) Held (core u)))

-- a step that changes no element
pub same_changes : {C S : Type 0} {b : Behaviour C} {w : Wiring} {value : S → C → Type 0} {s : State C} {ts : TableState S View} (id e n : ℕ) (v v' : View) → IsWired b w → Shows b w value s ts → get_elem? ts.views id ≡ some v → n ≡ word_shown (armings w ts e) (s e)
    → v'.holds ≡ v.holds → v'.sends ≡ v.sends → v'.resets ≡ v.resets → v'.ended ≡ v.ended ⊎ ((s (end_of w.plan)).status ≡ Done) → knows_stop v' ≡ knows_stop v
    → ((u : ℕ) → u < w.plan.elements → seen_run u v'.notes ≤ run_number (s u))
    → Changes w s s (armings w ts) (armings w ts) e n v v'
same_changes {C} {S} {b} {w} {value} {s} {ts} id e n v v' wired sh at is h x same_resets end same_stopped notes = record {
  word = is;
  others = λ u low_u ne. refl;
  armed = λ u. ap (λ (rs : List (ℕ × ℕ)). armings w ts u + pending (members_at w.plan) u rs) (sym same_resets);
  once = sh.armed_once;
  holds = λ u. omega (arith, ap (times u) h, ap (heading (head_of w.plan) u) same_resets);
  runs = λ u low_u some_u. ap (number_of u) h ∙ sh.runs_are id v at u low_u (subst (λ (hs : List (ℕ × ℕ)). 0 < times u hs) h some_u);
  runs_stay = λ u. inl refl;
  sends = λ u. ap (λ (hs : List (ℕ × ℕ)). times u hs + one_if_any (s u).sends) x;
  sent = λ u low_u some_u. ap (λ (hs : List (ℕ × ℕ)). drop (number_of u hs) (successors_of w.plan u)) x ∙ sh.sends_are id v at u low_u (subst (λ (hs : List (ℕ × ℕ)). 0 < times u hs) x some_u);
  sends_stay = λ u. inl refl;
  restarts = steady s id v v' wired sh at same_resets (λ y r free. r);
  restarts_stay = λ y r free. r;
  bounded = λ u le. le;
  grows = λ u. omega arith;
  notes = notes;
  over_stays = λ over. over;
  over = λ saw. elim end [
    | inl same ↦ inl (sym same ∙ saw)
    | inr now ↦ inr now
  ];
  stopped = same_stopped;
}

-- a word is found
pub loaded : {C S : Type 0} (b : Behaviour C) (w : Wiring) (value : S → C → Type 0) (ts : TableState S View) (id e : ℕ) (v : View) → (board : IsBoard b w value ts) → get_elem? ts.views id ≡ some v → e < w.plan.elements → v.out ≡ []
    → IsBoard b w value (record { words = set ts.words (e + 2) (get_or ts.words (e + 2) 0); homes = ts.homes; views = set ts.views id (note_view e (get_or ts.words (e + 2) 0) v) })
loaded {C} {S} b w value ts id e v board at below no_out =
    let core : State C = played b (shape_of w.plan) (start (shape_of w.plan)) board.events in
    let n : ℕ = get_or ts.words (e + 2) 0 in
    stays b w value ts (armings w ts) ts.homes id e n v (note_view e n v) refl below board at
    (same_changes id e n v (note_view e n v) board.wired board.shows at (board.shows.words_are e below) refl refl refl (inl refl) refl (found_noted b w value ts id e v board at below))
    (no_moves core v (note_view e n v) board.shows no_out refl (λ u. refl))

-- the last element is found done
pub ended : {C S : Type 0} (b : Behaviour C) (w : Wiring) (value : S → C → Type 0) (ts : TableState S View) (id : ℕ) (v : View) → (board : IsBoard b w value ts) → get_elem? ts.views id ≡ some v → (played b (shape_of w.plan) (start (shape_of w.plan)) board.events (end_of w.plan)).status ≡ Done → v.out ≡ []
    → IsBoard b w value (record { words = set ts.words (end_of w.plan + 2) (get_or ts.words (end_of w.plan + 2) 0); homes = ts.homes; views = set ts.views id (end_view (end_of w.plan) (get_or ts.words (end_of w.plan + 2) 0) v) })
ended {C} {S} b w value ts id v board at done no_out =
    let core : State C = played b (shape_of w.plan) (start (shape_of w.plan)) board.events in
    let last : ℕ = end_of w.plan in
    let below : end_of w.plan < w.plan.elements = last_in board.wired in
    let n : ℕ = get_or ts.words (end_of w.plan + 2) 0 in
    stays b w value ts (armings w ts) ts.homes id (end_of w.plan) n v (end_view (end_of w.plan) n v) refl below board at
    (same_changes id (end_of w.plan) n v (end_view (end_of w.plan) n v) board.wired board.shows at (board.shows.words_are (end_of w.plan) below) refl refl refl (inr done) refl (found_noted b w value ts id (end_of w.plan) v board at below))
    (no_moves core v (end_view (end_of w.plan) n v) board.shows no_out refl (λ u. refl))
