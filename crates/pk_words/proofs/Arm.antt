-- The members of a component are armed, one after another, the head last.
use Rattle.std.proofs.Common.{◌≡◌, ◌≢◌, ℕ, suc, ◌+◌, ◌*◌, ◌/◌, ◌<◌, ◌≤◌, ◌==◌, List, [], ◌∷◌, length, take, drop, get_or, set, count_by, cond, Bool, true, false, if◌then◌else◌, refl, sym, ap, subst, ◌∙◌, arith, inl, inr}
use mathlib.Core.Option.{some}
use lib.ListN.{get_elem?}
use Rattle.atomic_table.specs.Table.{State as TableState}
use Rattle.pk_plan.specs.Plans.{successors_of}
use Rattle.pk_plan.specs.Shape.{shape_of, holds}
use Rattle.pk_iterate.specs.Behaviour.{Behaviour}
use Rattle.pk_core.specs.declared.events.Status.{Status}
use Rattle.pk_core.specs.States.{State, run_number}
use Rattle.pk_core.specs.Events.{start, inner, played}
use Rattle.pk_core.proofs.Basics.{cases, same, itself, neq}
use Rattle.pk_core.proofs.Keeps.{apart_of}
use Rattle.pk_layout.specs.Wirings.{Wiring, IsWired}
use Rattle.pk_words.specs.declared.view.View.{View}
use Rattle.pk_words.specs.Tokens.{times, number_of, drop_one, heading, pending, seen_run, one_if_any}
use Rattle.pk_words.specs.Views.{arm_view, head_view, knows_stop}
use Rattle.pk_words.specs.Board.{low, word_of, word_shown, head_of, members_at, IsRestarting, Shows, IsBoard}
use Rattle.pk_words.proofs.Lists.{part, times_other, number_other, times_own, times_more, number_own, number_more, heading_own, heading_more, heading_drop, heading_other, heading_most, pending_drop, times_gone}
use Rattle.pk_words.proofs.Wired.{member_below, head_below}
use Rattle.pk_words.proofs.Stays.{armings, held_most, Changes, stays}
use Rattle.pk_words.proofs.Facts.{narrow}
use Rattle.pk_words.proofs.Numbers.{run_shown}
use Rattle.pk_words.proofs.Statuses.{no_moves, found_noted}
use Rattle.pk_words.proofs.Members.{counted_more, head_first, later_member}

-- how often an element is still to be armed, once e is
abbrev pub armings_less : {S : Type 0} → Wiring → TableState S View → ℕ → ℕ → ℕ
armings_less w ts e u = if u == e then 0 else armings w ts u

-- a pass has one Resetting of an exit
pub one_reset : {C S : Type 0} {b : Behaviour C} {w : Wiring} {value : S → C → Type 0} {s : State C} {ts : TableState S View} → IsWired b w → Shows b w value s ts → (id x : ℕ) (v : View) → get_elem? ts.views id ≡ some v → 0 < times x v.resets → times x v.resets ≤ 1
one_reset {C} {S} {b} {w} {value} {s} {ts} wired sh id x v at mine =
    let r = sh.restarts id v at x mine in
    let one = part (λ (z : View). times (head_of w.plan x) z.holds + heading (head_of w.plan) (head_of w.plan x) z.resets) ts.views id v at in
    omega (arith, one, sh.held_once (head_of w.plan x) (head_below wired x r.2.exit), held_most (s (head_of w.plan x)).status, heading_most (head_of w.plan) x v.resets)

-- the member at the place `left` is still to be armed, once
pub armed_at : {C S : Type 0} {b : Behaviour C} {w : Wiring} {value : S → C → Type 0} {s : State C} {ts : TableState S View} → Shows b w value s ts → (id x left : ℕ) (v : View) → get_elem? ts.views id ≡ some v → 0 < times x v.resets → number_of x v.resets ≡ left + 1 → armings w ts (get_or (members_at w.plan x) left 0) ≡ 1
armed_at {C} {S} {b} {w} {value} {s} {ts} sh id x left v at mine number =
    let e : ℕ = get_or (members_at w.plan x) left 0 in
    let in_range : left < length (members_at w.plan x) = omega (arith, number, (sh.restarts id v at x mine).1) in
    let here = pending_drop (members_at w.plan) x e v.resets mine in
    let number' : number_of x v.resets ≡ suc left = omega (arith, number) in
    let counted : count_by (λ u. u == e) (take (number_of x v.resets) (members_at w.plan x)) ≡ count_by (λ u. u == e) (take left (members_at w.plan x)) + 1 =
    ap (λ (j : ℕ). count_by (λ u. u == e) (take j (members_at w.plan x))) number' ∙ counted_more e left (members_at w.plan x) in_range ∙ ap (λ (c : Bool). count_by (λ u. u == e) (take left (members_at w.plan x)) + cond c 1 0) (itself e) in
    omega (arith, here, counted, part (λ (z : View). pending (members_at w.plan) e z.resets) ts.views id v at, sh.armed_once e)

arm_changes : {C S : Type 0} {b : Behaviour C} {w : Wiring} {value : S → C → Type 0} {s : State C} {ts : TableState S View} (id x left n : ℕ) (v v' : View) → Shows b w value s ts → get_elem? ts.views id ≡ some v → 0 < times x v.resets → number_of x v.resets ≡ left + 1
    → n ≡ word_of (s (get_or (members_at w.plan x) left 0))
    → ((u : ℕ) → pending (members_at w.plan) u v'.resets ≡ count_by (λ e. e == u) (take left (members_at w.plan x)) + pending (members_at w.plan) u (drop_one x v.resets))
    → ((u : ℕ) → times u v'.holds + heading (head_of w.plan) u v'.resets ≡ times u v.holds + heading (head_of w.plan) u v.resets)
    → ((u : ℕ) → u < w.plan.elements → 0 < times u v'.holds → number_of u v'.holds ≡ run_number (s u))
    → ((y : ℕ) → 0 < times y v'.resets → (0 < number_of y v'.resets) × (number_of y v'.resets ≤ length (members_at w.plan y)) × IsRestarting w.plan s y)
    → v'.sends ≡ v.sends → v'.ended ≡ v.ended → knows_stop v' ≡ knows_stop v
    → ((u : ℕ) → u < w.plan.elements → seen_run u v'.notes ≤ run_number (s u))
    → Changes w s s (armings w ts) (armings_less w ts (get_or (members_at w.plan x) left 0)) (get_or (members_at w.plan x) left 0) n v v'
arm_changes {C} {S} {b} {w} {value} {s} {ts} id x left n v v' sh at mine number n_is pend holds' runs' restarts' same_sends same_ended same_stopped notes = record {
  word = let q = itself (get_or (members_at w.plan x) left 0) in rw q n_is;
  others = λ u low_u ne. let q = neq u (get_or (members_at w.plan x) left 0) ne in rw q refl;
  armed = λ u. balance u;
  once = λ u. elim (cases (u == get_or (members_at w.plan x) left 0)) [
    | inl q ↦ rw q (omega arith)
    | inr q ↦ rw q (sh.armed_once u)
  ];
  holds = λ u. omega (arith, holds' u);
  runs = runs';
  runs_stay = λ u. inl refl;
  sends = λ u. ap (λ (xs : List (ℕ × ℕ)). times u xs + one_if_any (s u).sends) same_sends;
  sent = λ u low_u some_u. subst (λ (xs : List (ℕ × ℕ)). drop (number_of u xs) (successors_of w.plan u) ≡ (s u).sends) (sym same_sends) (sh.sends_are id v at u low_u (subst (λ (xs : List (ℕ × ℕ)). 0 < times u xs) same_sends some_u));
  sends_stay = λ u. inl refl;
  restarts = restarts';
  restarts_stay = λ y r free. r;
  bounded = λ u le. le;
  grows = λ u. omega arith;
  notes = notes;
  over_stays = λ over. over;
  over = λ saw. inl (sym same_ended ∙ saw);
  stopped = same_stopped;
}
  where
    in_range : left < length (members_at w.plan x)
    in_range = omega (arith, number, (sh.restarts id v at x mine).1)

    counted : (u : ℕ) → count_by (λ e. e == u) (take (number_of x v.resets) (members_at w.plan x)) ≡ count_by (λ e. e == u) (take left (members_at w.plan x)) + cond (get_or (members_at w.plan x) left 0 == u) 1 0
    counted u =
        let number' : number_of x v.resets ≡ suc left = omega (arith, number) in
        ap (λ (j : ℕ). count_by (λ e. e == u) (take j (members_at w.plan x))) number' ∙ counted_more u left (members_at w.plan x) in_range

    balance : (u : ℕ) → armings_less w ts (get_or (members_at w.plan x) left 0) u + pending (members_at w.plan) u v.resets ≡ armings w ts u + pending (members_at w.plan) u v'.resets
    balance u = elim (cases (u == get_or (members_at w.plan x) left 0)) [
      | inl q ↦
          let ue = same u (get_or (members_at w.plan x) left 0) q in
          let back : (get_or (members_at w.plan x) left 0 == u) ≡ true = ap (λ (j : ℕ). j == u) (sym ue) ∙ itself u in
          rw q (omega (arith, pend u, pending_drop (members_at w.plan) x u v.resets mine, counted u, ap {B = ℕ} (λ (c : Bool). cond c 1 0) back, ap (armings w ts) ue, armed_at sh id x left v at mine number))
      | inr q ↦
          let back : (get_or (members_at w.plan x) left 0 == u) ≡ false = neq (get_or (members_at w.plan x) left 0) u (λ h. apart_of u (get_or (members_at w.plan x) left 0) q (sym h)) in
          rw q (omega (arith, pend u, pending_drop (members_at w.plan) x u v.resets mine, counted u, ap {B = ℕ} (λ (c : Bool). cond c 1 0) back))
    ]

-- what arming finds
pub done_found : {C S : Type 0} (b : Behaviour C) (w : Wiring) (value : S → C → Type 0) (ts : TableState S View) (id x left : ℕ) (v : View) → (board : IsBoard b w value ts) → get_elem? ts.views id ≡ some v → 0 < times x v.resets → number_of x v.resets ≡ left + 1 → get_or (members_at w.plan x) left 0 < w.plan.elements
    → get_or ts.words (get_or (members_at w.plan x) left 0 + 2) 0 ≡ run_number (played b (shape_of w.plan) (start (shape_of w.plan)) board.events (get_or (members_at w.plan x) left 0)) * 1048576 + 262145
done_found {C} {S} b w value ts id x left v board at mine number below =
    let core : State C = played b (shape_of w.plan) (start (shape_of w.plan)) board.events in
    board.shows.words_are (get_or (members_at w.plan x) left 0) below ∙ ap (λ (j : ℕ). word_shown j (core (get_or (members_at w.plan x) left 0))) (armed_at board.shows id x left v at mine number)

-- a member that isn't the head
pub armed : {C S : Type 0} (b : Behaviour C) (w : Wiring) (value : S → C → Type 0) (ts : TableState S View) (id x left e n : ℕ) (v : View) → (board : IsBoard b w value ts) → get_elem? ts.views id ≡ some v → 0 < times x v.resets → number_of x v.resets ≡ left + 1 → 0 < left → e ≡ get_or (members_at w.plan x) left 0 → v.out ≡ []
    → n ≡ run_number (played b (shape_of w.plan) (start (shape_of w.plan)) board.events e) * 1048576 + inner (shape_of w.plan) x e
    → IsBoard b w value (record { words = set ts.words (e + 2) n; homes = ts.homes; views = set ts.views id (arm_view x left e (get_or ts.words (e + 2) 0) v) })
armed {C} {S} b w value ts id x left e n v board at mine number some_left e_is no_out n_is =
    stays b w value ts (armings_less w ts e) ts.homes id e n v v' refl below board at
    (subst (λ (j : ℕ). Changes w core core (armings w ts) (armings_less w ts j) j n v v') (sym e_is)
    (arm_changes id x left n v v' board.shows at mine number
    (n_is ∙ sym (ap (λ (st : Status). run_number (core e) * 1048576 + low st) (r.2.member_waits e inside.0 inside.1)) ∙ ap (λ (j : ℕ). word_of (core j)) e_is)
    (λ u. refl)
    headings
    (λ u low_u some_u. board.shows.runs_are id v at u low_u some_u)
    others
    refl
    refl
    refl
    (found_noted b w value ts id e v board at below)))
    (no_moves core v v' board.shows no_out refl (λ u. refl))
  where
    core : State C
    core = played b (shape_of w.plan) (start (shape_of w.plan)) board.events

    v' : View
    v' = arm_view x left e (get_or ts.words (e + 2) 0) v

    r : (0 < number_of x v.resets) × (number_of x v.resets ≤ length (members_at w.plan x)) × IsRestarting w.plan core x
    r = board.shows.restarts id v at x mine

    inside : (holds w.plan x e ≡ true) × (e ≢ head_of w.plan x)
    inside = subst (λ (j : ℕ). (holds w.plan x j ≡ true) × (j ≢ head_of w.plan x)) (sym e_is) (later_member board.wired x left r.2.exit some_left (omega (arith, number, r.1)))

    below : e < w.plan.elements
    below = member_below board.wired x e inside.0

    headings : (u : ℕ) → times u v.holds + heading (head_of w.plan) u ((x, left) ∷ drop_one x v.resets) ≡ times u v.holds + heading (head_of w.plan) u v.resets
    headings u = elim (cases (u == head_of w.plan x)) [
      | inl q ↦ subst (λ (j : ℕ). times j v.holds + heading (head_of w.plan) j ((x, left) ∷ drop_one x v.resets) ≡ times j v.holds + heading (head_of w.plan) j v.resets) (sym (same u (head_of w.plan x) q)) (omega (arith, heading_own (head_of w.plan) x left (drop_one x v.resets), heading_drop (head_of w.plan) x v.resets mine))
      | inr q ↦
          let ne = apart_of u (head_of w.plan x) q in
          omega (arith, heading_more (head_of w.plan) x u left (drop_one x v.resets) ne, heading_other (head_of w.plan) x u v.resets ne)
    ]

    others : (y : ℕ) → 0 < times y ((x, left) ∷ drop_one x v.resets) → (0 < number_of y ((x, left) ∷ drop_one x v.resets)) × (number_of y ((x, left) ∷ drop_one x v.resets) ≤ length (members_at w.plan y)) × IsRestarting w.plan core y
    others y some_y = elim (cases (y == x)) [
      | inl q ↦ subst (λ (j : ℕ). (0 < number_of j ((x, left) ∷ drop_one x v.resets)) × (number_of j ((x, left) ∷ drop_one x v.resets) ≤ length (members_at w.plan j)) × IsRestarting w.plan core j) (sym (same y x q))
          (omega (arith, some_left, number_own x left (drop_one x v.resets)), omega (arith, number, r.1, number_own x left (drop_one x v.resets)), r.2)
      | inr q ↦
          let ne = apart_of y x q in
          let o = board.shows.restarts id v at y (omega (arith, some_y, times_more x y left (drop_one x v.resets) ne, times_other x y v.resets ne)) in
          let same_number = number_more x y left (drop_one x v.resets) ne ∙ number_other x y v.resets ne in
          (omega (arith, o.0, same_number), omega (arith, o.1, same_number), o.2)
    ]

-- the head, last
pub head_armed : {C S : Type 0} (b : Behaviour C) (w : Wiring) (value : S → C → Type 0) (ts : TableState S View) (id x e n : ℕ) (v : View) → (board : IsBoard b w value ts) → get_elem? ts.views id ≡ some v → 0 < times x v.resets → number_of x v.resets ≡ 1 → e ≡ head_of w.plan x → v.out ≡ []
    → n ≡ run_number (played b (shape_of w.plan) (start (shape_of w.plan)) board.events e) * 1048576
    → IsBoard b w value (record { words = set ts.words (e + 2) n; homes = ts.homes; views = set ts.views id (head_view x e (get_or ts.words (e + 2) 0) v) })
head_armed {C} {S} b w value ts id x e n v board at mine number e_is no_out n_is =
    stays b w value ts (armings_less w ts e) ts.homes id e n v v' refl below board at
    (subst (λ (j : ℕ). Changes w core core (armings w ts) (armings_less w ts j) j n v v') (sym first)
    (arm_changes id x 0 n v v' board.shows at mine number
    (n_is ∙ omega arith ∙ sym (ap (λ (st : Status). run_number (core e) * 1048576 + low st) (ap (λ (j : ℕ). (core j).status) e_is ∙ r.2.head)) ∙ ap (λ (j : ℕ). word_of (core j)) first)
    (λ u. omega arith)
    headings
    runs'
    others
    refl
    refl
    refl
    (found_noted b w value ts id e v board at below)))
    (no_moves core v v' board.shows no_out refl (λ u. refl))
  where
    core : State C
    core = played b (shape_of w.plan) (start (shape_of w.plan)) board.events

    found : ℕ
    found = get_or ts.words (e + 2) 0

    v' : View
    v' = head_view x e (get_or ts.words (e + 2) 0) v

    r : (0 < number_of x v.resets) × (number_of x v.resets ≤ length (members_at w.plan x)) × IsRestarting w.plan core x
    r = board.shows.restarts id v at x mine

    first : e ≡ get_or (members_at w.plan x) 0 0
    first = e_is ∙ sym (head_first board.wired x r.2.exit)

    below : e < w.plan.elements
    below = subst (λ (j : ℕ). j < w.plan.elements) (sym e_is) (head_below board.wired x r.2.exit)

    run_is : found / 1048576 ≡ run_number (core e)
    run_is = run_shown (armings w ts e) (core e) found (narrow b w value ts board e) (sym (board.shows.words_are e below))

    headings : (u : ℕ) → times u ((e, found / 1048576) ∷ v.holds) + heading (head_of w.plan) u (drop_one x v.resets) ≡ times u v.holds + heading (head_of w.plan) u v.resets
    headings u = elim (cases (u == head_of w.plan x)) [
      | inl q ↦
          let ue : u ≡ e = same u (head_of w.plan x) q ∙ sym e_is in
          subst (λ (j : ℕ). times j ((e, found / 1048576) ∷ v.holds) + heading (head_of w.plan) j (drop_one x v.resets) ≡ times j v.holds + heading (head_of w.plan) j v.resets) (sym ue)
          (omega (arith, times_own e (found / 1048576) v.holds, subst (λ (j : ℕ). heading (head_of w.plan) j (drop_one x v.resets) + 1 ≡ heading (head_of w.plan) j v.resets) (sym e_is) (heading_drop (head_of w.plan) x v.resets mine)))
      | inr q ↦
          let ne = apart_of u (head_of w.plan x) q in
          omega (arith, times_more e u (found / 1048576) v.holds (λ h. ne (h ∙ e_is)), heading_other (head_of w.plan) x u v.resets ne)
    ]

    runs' : (u : ℕ) → u < w.plan.elements → 0 < times u ((e, found / 1048576) ∷ v.holds) → number_of u ((e, found / 1048576) ∷ v.holds) ≡ run_number (core u)
    runs' u low_u some_u = elim (cases (u == e)) [
      | inl q ↦ subst (λ (j : ℕ). number_of j ((e, found / 1048576) ∷ v.holds) ≡ run_number (core j)) (sym (same u e q)) (number_own e (found / 1048576) v.holds ∙ run_is)
      | inr q ↦
          let ne = apart_of u e q in
          number_more e u (found / 1048576) v.holds ne ∙ board.shows.runs_are id v at u low_u (omega (arith, some_u, times_more e u (found / 1048576) v.holds ne))
    ]

    others : (y : ℕ) → 0 < times y (drop_one x v.resets) → (0 < number_of y (drop_one x v.resets)) × (number_of y (drop_one x v.resets) ≤ length (members_at w.plan y)) × IsRestarting w.plan core y
    others y some_y = elim (cases (y == x)) [
      | inl q ↦ absurd (omega (arith, some_y, ap (λ (j : ℕ). times j (drop_one x v.resets)) (same y x q), times_gone x v.resets mine (one_reset board.wired board.shows id x v at mine)))
      | inr q ↦
          let ne = apart_of y x q in
          let o = board.shows.restarts id v at y (omega (arith, some_y, times_other x y v.resets ne)) in
          let same_number = number_other x y v.resets ne in
          (omega (arith, o.0, same_number), omega (arith, o.1, same_number), o.2)
    ]
