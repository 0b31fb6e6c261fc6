-- What a step changes, and that the rest is still shown.
use Rattle.std.proofs.Common.{◌≡◌, ◌≢◌, ℕ, zero, suc, ◌+◌, ◌*◌, ◌<◌, ◌≤◌, ◌==◌, List, [], ◌∷◌, ◌++◌, length, drop, get_or, set, true, false, refl, sym, ap, subst, ◌∙◌, arith, inl, inr, ◌⊎◌, get_or-set_same, get_or-set_other, length-set}
use mathlib.Core.Option.{Option, some, none}
use lib.ListN.{get_elem?}
use Rattle.atomic_table.specs.Table.{State as TableState}
use Rattle.pk_iterate.specs.Behaviour.{Behaviour}
use Rattle.pk_core.specs.declared.events.Event.{Event}
use Rattle.pk_core.specs.declared.events.Status.{Status}
use Rattle.pk_core.specs.declared.events.Status.TheVariants.{Waiting, Open, Held, Done}
use Rattle.pk_plan.specs.Plans.{end_of, successors_of}
use Rattle.pk_plan.specs.Shape.{has, shape_of}
use Rattle.pk_core.specs.States.{Element, State, run_number, cell_in}
use Rattle.pk_core.specs.Events.{start, Enabled, after, played}
use Rattle.pk_core.proofs.Listed.{played_more, all_more}
use Rattle.pk_core.proofs.Basics.{cases, same}
use Rattle.pk_core.proofs.Keeps.{apart_of}
use Rattle.pk_layout.specs.Layouts.{owner_of, reader_of}
use Rattle.pk_layout.specs.Wirings.{Wiring, IsWired}
use Rattle.pk_words.specs.declared.view.View.{View}
use Rattle.pk_words.specs.Tokens.{times, number_of, heading, pending, seen_run, total, one_if_held, one_if_any}
use Rattle.pk_words.specs.Views.{knows_stop}
use Rattle.pk_words.specs.Board.{low, word_shown, head_of, members_at, IsRestarting, why_of, MayTouch, Shows, IsBoard}
use Rattle.pk_words.proofs.Lists.{total_set, parts, elem_set, heading_some}
use Rattle.pk_words.proofs.Wired.{head_below}

-- how often an element is still to be armed, by all views
abbrev pub armings : {S : Type 0} → Wiring → TableState S View → ℕ → ℕ
armings w s e = total (λ (v : View). pending (members_at w.plan) e v.resets) s.views

-- a word shows the status and the run number alone
pub word_same : {C : Type 0} (left : ℕ) (x y : Element C) → x.status ≡ y.status → run_number x ≡ run_number y → word_shown left x ≡ word_shown left y
word_same zero x y status run = ap (λ (r : ℕ). r * 1048576 + low x.status) run ∙ ap (λ (st : Status). run_number y * 1048576 + low st) status
word_same (suc left) x y status run = ap (λ (r : ℕ). r * 1048576 + 262145) run

-- The core goes on from s to t, armings from `left` to `left'`, the word of e becomes n, and the view v of the stepping pass becomes v'.
pub record Changes {C : Type 0} (w : Wiring) (s t : State C) (left left' : ℕ → ℕ) (e n : ℕ) (v v' : View) : Type 0 where
  pub word : n ≡ word_shown (left' e) (t e)
  pub others : (u : ℕ) → u < w.plan.elements → u ≢ e → word_shown (left' u) (t u) ≡ word_shown (left u) (s u)
  pub armed : (u : ℕ) → left' u + pending (members_at w.plan) u v.resets ≡ left u + pending (members_at w.plan) u v'.resets
  pub once : (u : ℕ) → left' u ≤ 1
  pub holds : (u : ℕ) → times u v'.holds + heading (head_of w.plan) u v'.resets + one_if_held (s u).status ≡ times u v.holds + heading (head_of w.plan) u v.resets + one_if_held (t u).status
  pub runs : (u : ℕ) → u < w.plan.elements → 0 < times u v'.holds → number_of u v'.holds ≡ run_number (t u)
  pub runs_stay : (u : ℕ) → (run_number (t u) ≡ run_number (s u)) ⊎ (one_if_held (s u).status ≤ times u v.holds)
  pub sends : (u : ℕ) → times u v'.sends + one_if_any (s u).sends ≡ times u v.sends + one_if_any (t u).sends
  pub sent : (u : ℕ) → u < w.plan.elements → 0 < times u v'.sends → drop (number_of u v'.sends) (successors_of w.plan u) ≡ (t u).sends
  pub sends_stay : (u : ℕ) → ((t u).sends ≡ (s u).sends) ⊎ (one_if_any (s u).sends ≤ times u v.sends)
  pub restarts : (x : ℕ) → 0 < times x v'.resets → (0 < number_of x v'.resets) × (number_of x v'.resets ≤ length (members_at w.plan x)) × IsRestarting w.plan t x
  pub restarts_stay : (x : ℕ) → IsRestarting w.plan s x → times (head_of w.plan x) v.holds ≡ 0 → IsRestarting w.plan t x
  pub bounded : (u : ℕ) → run_number (s u) ≤ w.limit → run_number (t u) ≤ w.limit
  pub grows : (u : ℕ) → run_number (s u) ≤ run_number (t u)
  pub notes : (u : ℕ) → u < w.plan.elements → seen_run u v'.notes ≤ run_number (t u)
  pub over_stays : (s (end_of w.plan)).status ≡ Done → (t (end_of w.plan)).status ≡ Done
  pub over : v'.ended ≡ true → (v.ended ≡ true) ⊎ ((t (end_of w.plan)).status ≡ Done)
  pub stopped : knows_stop v' ≡ knows_stop v

-- The slots at home become hs'.
pub record Moves {C S : Type 0} (b : Behaviour C) (w : Wiring) (value : S → C → Type 0) (t : State C) (hs hs' : List (Option S)) (v v' : View) : Type 0 where
  pub homes : (k : ℕ) (x : S) → get_elem? hs' k ≡ some (some x) → value x (cell_in b t (owner_of w.layout k))
  pub away : (k : ℕ) → get_elem? hs' k ≡ some none → (has k v'.out ≡ true) ⊎ ((get_elem? hs k ≡ some none) × (has k v.out ≡ false))
  pub out : (k : ℕ) → has k v'.out ≡ true → MayTouch w v' (owner_of w.layout k) ⊎ MayTouch w v' (reader_of w.layout k)

-- a token of the stepping pass is no other's
no_other : (f : View → ℕ) (views : List View) (id k : ℕ) (v x : View) (m : ℕ) → get_elem? views id ≡ some v → get_elem? views k ≡ some x → k ≢ id → total f views ≡ m → m ≤ f v → 0 < f x → ⊥
no_other f views id k v x m at has_x ne one le some_x = absurd (omega (arith, parts f views id k v x at has_x (λ q. ne (sym q)), one, le, some_x))

pub held_most : (st : Status) → one_if_held st ≤ 1
held_most (Waiting n) = omega arith
held_most Open = omega arith
held_most Held = omega arith
held_most Done = omega arith

elem_at : {A : Type 0} (xs : List A) (id : ℕ) (v y : A) → get_elem? xs id ≡ some v → get_elem? (set xs id y) id ≡ some y
elem_at [] id v y h = absurd (cc)
elem_at (x ∷ xs) zero v y h = refl
elem_at (x ∷ xs) (suc id) v y h = elem_at xs id v y h

elem_off : {A : Type 0} (xs : List A) (id k : ℕ) (y : A) → k ≢ id → get_elem? (set xs id y) k ≡ get_elem? xs k
elem_off [] id k y ne = refl
elem_off (x ∷ xs) zero zero y ne = absurd (ne refl)
elem_off (x ∷ xs) zero (suc k) y ne = refl
elem_off (x ∷ xs) (suc id) zero y ne = refl
elem_off (x ∷ xs) (suc id) (suc k) y ne = elem_off xs id k y (λ e. ne (ap suc e))

elem_below : {A : Type 0} (xs : List A) (id : ℕ) (v : A) → get_elem? xs id ≡ some v → id < length xs
elem_below [] id v h = absurd (cc)
elem_below (x ∷ xs) zero v h = omega arith
elem_below (x ∷ xs) (suc id) v h = omega (arith, elem_below xs id v h)

pub shows_step : {C S : Type 0} (b : Behaviour C) (w : Wiring) (value : S → C → Type 0) (s t : State C) (st : TableState S View) (left' : ℕ → ℕ) (hs' : List (Option S)) (id e n : ℕ) (v v' : View)
    → IsWired b w → e < w.plan.elements → Shows b w value s st → get_elem? st.views id ≡ some v → Changes w s t (armings w st) left' e n v v' → Moves b w value t st.homes hs' v v'
    → Shows b w value t (record { words = set st.words (e + 2) n; homes = hs'; views = set st.views id v' })
shows_step {C} {S} b w value s t st left' hs' id e n v v' wired below sh at ch mv = record {
  long = length-set st.words (e + 2) n ∙ sh.long;
  words_are = λ u low_u. words_at u low_u ∙ ap (λ (j : ℕ). word_shown j (t u)) (sym (left_is u));
  stop_is = λ why is. sh.stop_is why (ap (why_of w.limit) (sym stop_word) ∙ is);
  held_once = λ u low_u. omega (arith, total_set (λ (x : View). times u x.holds + heading (head_of w.plan) u x.resets) st.views id v v' at, ch.holds u, sh.held_once u low_u);
  runs_are = λ k x has_x u low_u some_u. elim (elem_set st.views id k v' x has_x) [
    | inl q ↦ ap (λ (y : View). number_of u y.holds) (sym q.1) ∙ ch.runs u low_u (subst (λ (y : View). 0 < times u y.holds) (sym q.1) some_u)
    | inr q ↦ elim (ch.runs_stay u) [
      | inl r ↦ sh.runs_are k x q.1 u low_u some_u ∙ sym r
      | inr r ↦ absurd (no_other (λ (y : View). times u y.holds + heading (head_of w.plan) u y.resets) st.views id k v x (one_if_held (s u).status) at q.1 q.0 (sh.held_once u low_u) (omega (arith, r)) (omega (arith, some_u)))
    ]
  ];
  sent_once = λ u low_u. omega (arith, total_set (λ (x : View). times u x.sends) st.views id v v' at, ch.sends u, sh.sent_once u low_u);
  sends_are = λ k x has_x u low_u some_u. elim (elem_set st.views id k v' x has_x) [
    | inl q ↦ ap (λ (y : View). drop (number_of u y.sends) (successors_of w.plan u)) (sym q.1) ∙ ch.sent u low_u (subst (λ (y : View). 0 < times u y.sends) (sym q.1) some_u)
    | inr q ↦ elim (ch.sends_stay u) [
      | inl r ↦ sh.sends_are k x q.1 u low_u some_u ∙ sym r
      | inr r ↦ absurd (no_other (λ (y : View). times u y.sends) st.views id k v x (one_if_any (s u).sends) at q.1 q.0 (sh.sent_once u low_u) r some_u)
    ]
  ];
  restarts = λ k x has_x y some_y. elim (elem_set st.views id k v' x has_x) [
    | inl q ↦ subst (λ (z : View). (0 < number_of y z.resets) × (number_of y z.resets ≤ length (members_at w.plan y)) × IsRestarting w.plan t y) q.1 (ch.restarts y (subst (λ (z : View). 0 < times y z.resets) (sym q.1) some_y))
    | inr q ↦
        let r = sh.restarts k x q.1 y some_y in
        (r.0, r.1, ch.restarts_stay y r.2 (others_free k x q.0 q.1 y some_y r.2))
  ];
  armed_once = λ u. omega (arith, left_is u, ch.once u);
  homes_are = mv.homes;
  away = λ k gone. elim (mv.away k gone) [
    | inl q ↦ (id, v', elem_at st.views id v v' at, q)
    | inr q ↦
        let a = sh.away k q.0 in
        let ne : a.0 ≢ id = λ h. absurd (
        let here : get_elem? st.views id ≡ some a.1 = subst (λ (j : ℕ). get_elem? st.views j ≡ some a.1) h a.2 in
        let vs : a.1 ≡ v = cc in
        let mine : has k v.out ≡ true = subst (λ (y : View). has k y.out ≡ true) vs a.3 in
        let no_more = q.1 in
        cc
        ) in
        (a.0, a.1, elem_off st.views id a.0 v' ne ∙ a.2, a.3)
  ];
  out_is = λ j x has_x k out_k. elim (elem_set st.views id j v' x has_x) [
    | inl q ↦ subst (λ (y : View). MayTouch w y (owner_of w.layout k) ⊎ MayTouch w y (reader_of w.layout k)) q.1 (mv.out k (subst (λ (y : View). has k y.out ≡ true) (sym q.1) out_k))
    | inr q ↦ sh.out_is j x q.1 k out_k
  ];
  bounded = λ u. ch.bounded u (sh.bounded u);
  noted = λ j x has_x u low_u. elim (elem_set st.views id j v' x has_x) [
    | inl q ↦ subst (λ (y : View). seen_run u y.notes ≤ run_number (t u)) q.1 (ch.notes u low_u)
    | inr q ↦ omega (arith, sh.noted j x q.1 u low_u, ch.grows u)
  ];
  over = λ j x has_x saw. elim (elem_set st.views id j v' x has_x) [
    | inl q ↦ elim (ch.over (ap (λ (y : View). y.ended) q.1 ∙ saw)) [
      | inl was ↦ ch.over_stays (sh.over id v at was)
      | inr now ↦ now
    ]
    | inr q ↦ ch.over_stays (sh.over j x q.1 saw)
  ];
  told = λ j x has_x saw zero_now. elim (elem_set st.views id j v' x has_x) [
    | inl q ↦ sh.told id v at (sym ch.stopped ∙ ap knows_stop q.1 ∙ saw) (sym stop_word ∙ zero_now)
    | inr q ↦ sh.told j x q.1 saw (sym stop_word ∙ zero_now)
  ];
}
  where
    stop_word : get_or (set st.words (e + 2) n) 1 0 ≡ get_or st.words 1 0
    stop_word =
        let other : 1 ≢ e + 2 = λ h. absurd (omega (arith, h)) in
        rw get_or-set_other refl

    left_is : (u : ℕ) → total (λ (x : View). pending (members_at w.plan) u x.resets) (set st.views id v') ≡ left' u
    left_is u = omega (arith, total_set (λ (x : View). pending (members_at w.plan) u x.resets) st.views id v v' at, ch.armed u)

    words_at : (u : ℕ) → u < w.plan.elements → get_or (set st.words (e + 2) n) (u + 2) 0 ≡ word_shown (left' u) (t u)
    words_at u low_u = elim (cases (u == e)) [
      | inl q ↦
          let ue = same u e q in
          let in_range : e + 2 < length st.words = omega (arith, sh.long, below) in
          let now : get_or (set st.words (e + 2) n) (e + 2) 0 ≡ n = rw get_or-set_same refl in
          ap (λ (j : ℕ). get_or (set st.words (e + 2) n) (j + 2) 0) ue ∙ now ∙ ch.word ∙ sym (ap (λ (j : ℕ). word_shown (left' j) (t j)) ue)
      | inr q ↦
          let ne = apart_of u e q in
          let other : u + 2 ≢ e + 2 = λ h. ne (omega arith) in
          rw get_or-set_other (sh.words_are u low_u ∙ sym (ch.others u low_u ne))
    ]

    others_free : (k : ℕ) (x : View) → k ≢ id → get_elem? st.views k ≡ some x → (y : ℕ) → 0 < times y x.resets → IsRestarting w.plan s y → times (head_of w.plan y) v.holds ≡ 0
    others_free k x ne has_x y some_y r =
        let low_h = head_below wired y r.exit in
        let two = parts (λ (z : View). times (head_of w.plan y) z.holds + heading (head_of w.plan) (head_of w.plan y) z.resets) st.views id k v x at has_x (λ q. ne (sym q)) in
        omega (arith, two, sh.held_once (head_of w.plan y) low_h, held_most (s (head_of w.plan y)).status, heading_some (head_of w.plan) y x.resets some_y)

-- after a step no pass is fresh
pub none_fresh : (views : List View) (id : ℕ) (v v' : View) → get_elem? views id ≡ some v → v'.fresh ≡ false
    → ((k : ℕ) (x : View) → get_elem? views k ≡ some x → x.fresh ≡ true → length views ≡ 1)
    → (k : ℕ) (x : View) → get_elem? (set views id v') k ≡ some x → x.fresh ≡ true → ⊥
none_fresh views id v v' at stale alone k x here fresh = elim (elem_set views id k v' x here) [
  | inl q ↦ absurd (let f : v'.fresh ≡ true = ap (λ (y : View). y.fresh) q.1 ∙ fresh in cc)
  | inr q ↦ absurd (
      let one = alone k x q.1 fresh in
      q.0 (omega (arith, one, elem_below views id v at, elem_below views k x q.1)))
]

-- a step that makes an event
pub makes : {C S : Type 0} (b : Behaviour C) (w : Wiring) (value : S → C → Type 0) (st : TableState S View) (left' : ℕ → ℕ) (hs' : List (Option S)) (id e n : ℕ) (v v' : View) (ev : Event)
    → v'.fresh ≡ false → e < w.plan.elements → (board : IsBoard b w value st) → get_elem? st.views id ≡ some v
    → Enabled b (shape_of w.plan) (played b (shape_of w.plan) (start (shape_of w.plan)) board.events) ev
    → Changes w (played b (shape_of w.plan) (start (shape_of w.plan)) board.events) (after b (shape_of w.plan) (played b (shape_of w.plan) (start (shape_of w.plan)) board.events) ev) (armings w st) left' e n v v'
    → Moves b w value (after b (shape_of w.plan) (played b (shape_of w.plan) (start (shape_of w.plan)) board.events) ev) st.homes hs' v v'
    → IsBoard b w value (record { words = set st.words (e + 2) n; homes = hs'; views = set st.views id v' })
makes {C} {S} b w value st left' hs' id e n v v' ev stale below board at can ch mv =
    let core : State C = played b (shape_of w.plan) (start (shape_of w.plan)) board.events in
    record {
      wired = board.wired;
      events = board.events ++ ev ∷ [];
      enabled = all_more b (shape_of w.plan) (start (shape_of w.plan)) board.events ev board.enabled can;
      shows = subst (λ (x : State C). Shows b w value x (record { words = set st.words (e + 2) n; homes = hs'; views = set st.views id v' })) (sym (played_more b (shape_of w.plan) (start (shape_of w.plan)) board.events ev)) (shows_step b w value core (after b (shape_of w.plan) core ev) st left' hs' id e n v v' board.wired below board.shows at ch mv);
      begins = λ k x here fresh. absurd (none_fresh st.views id v v' at stale (λ j y at_j f. (board.begins j y at_j f).0) k x here fresh);
    }

-- a step that makes none
pub stays : {C S : Type 0} (b : Behaviour C) (w : Wiring) (value : S → C → Type 0) (st : TableState S View) (left' : ℕ → ℕ) (hs' : List (Option S)) (id e n : ℕ) (v v' : View)
    → v'.fresh ≡ false → e < w.plan.elements → (board : IsBoard b w value st) → get_elem? st.views id ≡ some v
    → Changes w (played b (shape_of w.plan) (start (shape_of w.plan)) board.events) (played b (shape_of w.plan) (start (shape_of w.plan)) board.events) (armings w st) left' e n v v'
    → Moves b w value (played b (shape_of w.plan) (start (shape_of w.plan)) board.events) st.homes hs' v v'
    → IsBoard b w value (record { words = set st.words (e + 2) n; homes = hs'; views = set st.views id v' })
stays {C} {S} b w value st left' hs' id e n v v' stale below board at ch mv =
    let core : State C = played b (shape_of w.plan) (start (shape_of w.plan)) board.events in
    record {
      wired = board.wired;
      events = board.events;
      enabled = board.enabled;
      shows = shows_step b w value core core st left' hs' id e n v v' board.wired below board.shows at ch mv;
      begins = λ k x here fresh. absurd (none_fresh st.views id v v' at stale (λ j y at_j f. (board.begins j y at_j f).0) k x here fresh);
    }
