-- A send, and what it makes of the counts.
use Rattle.std.proofs.Common.{◌≡◌, ◌≢◌, ℕ, zero, suc, ◌+◌, ◌*◌, ◌/◌, ◌%◌, ◌<◌, ◌≤◌, ◌==◌, List, [], ◌∷◌, length, drop, count_by, cond, get_or, set, Bool, true, false, if◌then◌else◌, ◌||◌, not, refl, sym, ap, subst, ◌∙◌, arith, inl, inr, ◌⊎◌}
use Rattle.std.proofs.lemmas.List.{drop_more}
use mathlib.Core.Option.{some}
use lib.ListN.{get_elem?}
use Rattle.atomic_table.specs.Table.{State as TableState}
use Rattle.pk_plan.specs.Plans.{end_of, successors_of}
use Rattle.pk_plan.specs.Shape.{has, shape_of}
use Rattle.pk_iterate.specs.Behaviour.{Behaviour}
use Rattle.pk_core.specs.declared.events.Event.TheVariants.{Send}
use Rattle.pk_core.specs.declared.events.Status.{Status}
use Rattle.pk_core.specs.declared.events.Status.TheVariants.{Waiting, Open, Held, Done}
use Rattle.pk_core.specs.States.{State, run_number}
use Rattle.pk_core.specs.Events.{start, after, arrived, without, after_send_at, played}
use Rattle.pk_core.proofs.Basics.{cases, same, itself, neq, count_cons, none_counted, or_right}
use Rattle.pk_core.proofs.Keeps.{Kept, apart_of, is_waiting, target_waits}
use Rattle.pk_core.proofs.Settled.{settle, settled}
use Rattle.pk_layout.specs.Wirings.{Wiring, IsWired}
use Rattle.pk_words.specs.declared.view.View.{View}
use Rattle.pk_words.specs.Tokens.{times, number_of, drop_one, heading, pending, seen_run, one_if_held, one_if_any}
use Rattle.pk_words.specs.Views.{sent_on, gained, arrive_view, knows_stop}
use Rattle.pk_words.specs.Board.{low, word_shown, head_of, members_at, IsRestarting, Shows, IsBoard}
use Rattle.pk_words.proofs.Lists.{times_drop, times_other, number_other, times_own, times_more, number_own, number_more, part}
use Rattle.pk_words.proofs.Wired.{axioms_of, once_after}
use Rattle.pk_words.proofs.Stays.{armings, word_same, Changes, makes}
use Rattle.pk_words.proofs.Facts.{Narrow, narrow, kept, IsPending, pending_is, zero_or}
use Rattle.pk_words.proofs.Restarts.{restart_apart, steady}
use Rattle.pk_words.proofs.Quiet.{nothing_sent}
use Rattle.pk_words.proofs.Statuses.{no_moves, found_noted}
use Rattle.pk_words.proofs.Numbers.{low_part, high_part}

-- lists without a repeat
not_has : (v : ℕ) (xs : List ℕ) → has v xs ≡ false → without v xs ≡ xs
not_has v [] h = refl
not_has v (x ∷ xs) h = by_head (v == x) refl h (not_has v xs)
  where
    by_head : (c : Bool) → (v == x) ≡ c → (c || has v xs) ≡ false → (has v xs ≡ false → without v xs ≡ xs) → cond (not (x == v)) (x ∷ without v xs) (without v xs) ≡ x ∷ xs
    by_head true q h ih = absurd (cc)
    by_head false q h ih =
        let r : (x == v) ≡ false = neq x v (λ e. apart_of v x q (sym e)) in
        rw r (ap (λ (ys : List ℕ). x ∷ ys) (ih h))

count_drop : (f : ℕ → Bool) (xs : List ℕ) (i : ℕ) → count_by f (drop i xs) ≤ count_by f xs
count_drop f xs zero = omega arith
count_drop f [] (suc i) = omega arith
count_drop f (x ∷ xs) (suc i) = omega (arith, count_drop f xs i, count_cons f x xs)

rest_has_none : (v : ℕ) (xs : List ℕ) → count_by (λ x. x == v) (v ∷ xs) ≤ 1 → has v xs ≡ false
rest_has_none v xs h = elim (cases (has v xs)) [
  | inr q ↦ q
  | inl q ↦ absurd (
      let one = ap {B = ℕ} (λ (c : Bool). cond c 1 0) (itself v) in
      let none = none_counted (λ x. x == v) xs v (omega (arith, count_cons (λ x. x == v) v xs, one, h)) q in
      let r = itself v in
      cc
      )
]

pub has_get : (xs : List ℕ) (i : ℕ) → i < length xs → has (get_or xs i 0) xs ≡ true
has_get [] i h = absurd (omega arith)
has_get (x ∷ xs) zero h = let r = itself x in rw r refl
has_get (x ∷ xs) (suc i) h = or_right (get_or xs i 0 == x) (has (get_or xs i 0) xs) (has_get xs i (omega arith))

sent_times : (a i : ℕ) (left : List ℕ) (xs : List (ℕ × ℕ)) → 0 < times a xs → times a (sent_on a i left xs) + 1 ≡ times a xs + one_if_any left
sent_times a i [] xs h = omega (arith, times_drop a xs h)
sent_times a i (t ∷ ts) xs h = omega (arith, times_own a (i + 1) (drop_one a xs), times_drop a xs h)

sent_other : (a i u : ℕ) (left : List ℕ) (xs : List (ℕ × ℕ)) → u ≢ a → times u (sent_on a i left xs) ≡ times u xs
sent_other a i u [] xs ne = times_other a u xs ne
sent_other a i u (t ∷ ts) xs ne = times_more a u (i + 1) (drop_one a xs) ne ∙ times_other a u xs ne

sent_number : (a i : ℕ) (left : List ℕ) (xs : List (ℕ × ℕ)) → 0 < times a xs → times a xs ≤ 1 → 0 < times a (sent_on a i left xs) → number_of a (sent_on a i left xs) ≡ i + 1
sent_number a i [] xs h le some_a = absurd (omega (arith, times_drop a xs h, le, some_a))
sent_number a i (t ∷ ts) xs h le some_a = number_own a (i + 1) (drop_one a xs)

sent_number_other : (a i u : ℕ) (left : List ℕ) (xs : List (ℕ × ℕ)) → u ≢ a → number_of u (sent_on a i left xs) ≡ number_of u xs
sent_number_other a i u [] xs ne = number_other a u xs ne
sent_number_other a i u (t ∷ ts) xs ne = number_more a u (i + 1) (drop_one a xs) ne ∙ number_other a u xs ne

any_most : {A : Type 0} (xs : List A) → one_if_any xs ≤ 1
any_most [] = omega arith
any_most (x ∷ xs) = omega arith

send_changes : {C S : Type 0} {b : Behaviour C} {w : Wiring} {value : S → C → Type 0} {s : State C} {ts : TableState S View} (st : Status) (id a i tgt n : ℕ) (left : List ℕ) (v v' : View) → IsWired b w → Shows b w value s ts → Kept (shape_of w.plan) (settled s) → get_elem? ts.views id ≡ some v → a < w.plan.elements
    → is_waiting (s tgt).status ≡ true
    → 0 < times a v.sends → (s a).sends ≡ tgt ∷ left → without tgt (s a).sends ≡ left → drop (i + 1) (successors_of w.plan a) ≡ left
    → v'.sends ≡ sent_on a i left v.sends
    → v'.resets ≡ v.resets
    → v'.ended ≡ v.ended
    → knows_stop v' ≡ knows_stop v
    → arrived (s tgt).status ≡ st
    → n ≡ run_number (s tgt) * 1048576 + low st
    → times tgt v'.holds + one_if_held (s tgt).status ≡ times tgt v.holds + one_if_held st
    → ((u : ℕ) → u ≢ tgt → times u v'.holds ≡ times u v.holds)
    → ((u : ℕ) → u < w.plan.elements → 0 < times u v'.holds → number_of u v'.holds ≡ run_number (s u))
    → ((u : ℕ) → u < w.plan.elements → seen_run u v'.notes ≤ run_number (s u))
    → Changes w s (λ u. after_send_at a tgt u (s u)) (armings w ts) (armings w ts) tgt n v v'
send_changes {C} {S} {b} {w} {value} {s} {ts} st id a i tgt n left v v' wired sh k at low_a waits mine sends_a less left_is view_sends same_resets same_ended same_stopped st_is n_is own others runs notes = record {
  word = subst (λ (j : ℕ). n ≡ word_shown j (after_send_at a tgt tgt (s tgt))) (sym none) (let q = itself tgt in rw q (n_is ∙ ap (λ (y : Status). run_number (s tgt) * 1048576 + low y) (sym st_is)));
  others = λ u low_u ne. word_same (armings w ts u) (after_send_at a tgt u (s u)) (s u) (let q = neq u tgt ne in rw q refl) refl;
  armed = λ u. ap (λ (rs : List (ℕ × ℕ)). armings w ts u + pending (members_at w.plan) u rs) (sym same_resets);
  once = sh.armed_once;
  holds = λ u. elim (cases (u == tgt)) [
    | inl q ↦
        let ut = same u tgt q in
        rw q (omega (arith, subst (λ (j : ℕ). times j v'.holds + one_if_held (s j).status ≡ times j v.holds + one_if_held (arrived (s j).status)) (sym ut) (own ∙ ap (λ (y : Status). times tgt v.holds + one_if_held y) (sym st_is)), ap (heading (head_of w.plan) u) same_resets))
    | inr q ↦ rw q (omega (arith, others u (apart_of u tgt q), ap (heading (head_of w.plan) u) same_resets))
  ];
  runs = runs;
  runs_stay = λ u. inl refl;
  sends = λ u. elim (cases (u == a)) [
    | inl q ↦
        let ua = same u a q in
        let one : one_if_any (s a).sends ≡ 1 = ap one_if_any sends_a in
        let now : one_if_any (without tgt (s a).sends) ≡ one_if_any left = ap one_if_any less in
        let t : times a v'.sends ≡ times a (sent_on a i left v.sends) = ap (times a) view_sends in
        rw q (subst (λ (j : ℕ). times j v'.sends + one_if_any (s j).sends ≡ times j v.sends + one_if_any (without tgt (s j).sends)) (sym ua) (omega (arith, sent_times a i left v.sends mine, one, now, t)))
    | inr q ↦ rw q (ap (λ (k : ℕ). k + one_if_any (s u).sends) (ap (times u) view_sends ∙ sent_other a i u left v.sends (apart_of u a q)))
  ];
  sent = λ u low_u some_u. elim (cases (u == a)) [
    | inl q ↦
        let ua = same u a q in
        let only : times a v.sends ≤ 1 = omega (arith, part (λ (x : View). times a x.sends) ts.views id v at, sh.sent_once a low_a, any_most (s a).sends) in
        let some_a : 0 < times a (sent_on a i left v.sends) = subst (λ (xs : List (ℕ × ℕ)). 0 < times a xs) view_sends (subst (λ (j : ℕ). 0 < times j v'.sends) ua some_u) in
        let number : number_of a v'.sends ≡ i + 1 = ap (number_of a) view_sends ∙ sent_number a i left v.sends mine only some_a in
        rw q (subst (λ (j : ℕ). drop (number_of j v'.sends) (successors_of w.plan j) ≡ without tgt (s j).sends) (sym ua) (ap (λ (k : ℕ). drop k (successors_of w.plan a)) number ∙ left_is ∙ sym less))
    | inr q ↦
        let ne = apart_of u a q in
        let was : 0 < times u v.sends = omega (arith, some_u, ap (times u) view_sends, sent_other a i u left v.sends ne) in
        rw q (ap (λ (k : ℕ). drop k (successors_of w.plan u)) (ap (number_of u) view_sends ∙ sent_number_other a i u left v.sends ne) ∙ sh.sends_are id v at u low_u was)
  ];
  sends_stay = λ u. elim (cases (u == a)) [
    | inl q ↦ inr (omega (arith, any_most (s u).sends, mine, ap (λ (j : ℕ). times j v.sends) (same u a q)))
    | inr q ↦ inl (rw q refl)
  ];
  restarts = steady (λ u. after_send_at a tgt u (s u)) id v v' wired sh at same_resets stay;
  restarts_stay = stay;
  bounded = λ u le. le;
  grows = λ u. omega arith;
  notes = notes;
  over_stays = λ over. still (end_of w.plan == tgt) (s (end_of w.plan)).status over;
  over = λ saw. inl (sym same_ended ∙ saw);
  stopped = same_stopped;
}
  where
    has_tgt : has tgt (s a).sends ≡ true
    has_tgt = ap (has tgt) sends_a ∙ (let r = itself tgt in rw r refl)

    no_head : (x : ℕ) → IsRestarting w.plan s x → tgt ≢ head_of w.plan x
    no_head x r q = absurd (let h : is_waiting (s tgt).status ≡ false = ap (λ (j : ℕ). is_waiting (s j).status) q ∙ ap is_waiting r.head in cc)

    none : armings w ts tgt ≡ 0
    none = elim (zero_or (armings w ts tgt)) [
      | inl z ↦ z
      | inr some_t ↦ absurd (let p = pending_is wired sh tgt some_t in nothing_sent s wired k p.exit tgt p.restarting (inr (p.member, no_head p.exit p.restarting)) a has_tgt)
    ]

    stay : (x : ℕ) → IsRestarting w.plan s x → times (head_of w.plan x) v.holds ≡ 0 → IsRestarting w.plan (λ u. after_send_at a tgt u (s u)) x
    stay x r free = restart_apart w.plan s (λ u. after_send_at a tgt u (s u)) tgt x (λ u ne. let q = neq u tgt ne in rw q refl) (no_head x r)
        (λ q. nothing_sent s wired k x tgt r (inl q) a has_tgt) (λ inside. nothing_sent s wired k x tgt r (inr (inside, no_head x r)) a has_tgt) r

    still : (c : Bool) (y : Status) → y ≡ Done → (if c then arrived y else y) ≡ Done
    still true y h = ap arrived h
    still false y h = h

waiting_of : (st : Status) → is_waiting (settle st) ≡ true → Narrow st → (c : ℕ) × (st ≡ Waiting (suc c)) × (suc c < 262144)
waiting_of (Waiting zero) h narrow = absurd (omega (arith, narrow.0))
waiting_of (Waiting (suc c)) h narrow = (c, refl, narrow.1)
waiting_of Open h narrow = absurd (cc)
waiting_of Held h narrow = absurd (cc)
waiting_of Done h narrow = absurd (cc)

-- a send goes to an element
pub target_low : {C : Type 0} (b : Behaviour C) (w : Wiring) (a i : ℕ) → IsWired b w → i < length (successors_of w.plan a) → get_or (successors_of w.plan a) i 0 < w.plan.elements
target_low b w a i wired in_range = (axioms_of wired).shape.below a (get_or (successors_of w.plan a) i 0) (has_get (successors_of w.plan a) i in_range)

-- what is still sent to isn't to be armed
pub none_armed : {C S : Type 0} (b : Behaviour C) (w : Wiring) (value : S → C → Type 0) (ts : TableState S View) → (board : IsBoard b w value ts) → (a tgt : ℕ) → has tgt (played b (shape_of w.plan) (start (shape_of w.plan)) board.events a).sends ≡ true → armings w ts tgt ≡ 0
none_armed {C} {S} b w value ts board a tgt has_tgt = elim (zero_or (armings w ts tgt)) [
  | inl z ↦ z
  | inr some_t ↦ absurd (
      let p = pending_is board.wired board.shows tgt some_t in
      nothing_sent core board.wired k p.exit tgt p.restarting (inr (p.member, (λ q. no_head p q))) a has_tgt
      )
]
  where
    core : State C
    core = played b (shape_of w.plan) (start (shape_of w.plan)) board.events

    k : Kept (shape_of w.plan) (settled core)
    k = kept b (shape_of w.plan) board.events (axioms_of board.wired) board.enabled

    no_head : (p : IsPending w core ts.views tgt) → tgt ≡ head_of w.plan p.exit → ⊥
    no_head p q = absurd (
        let waits : is_waiting (settle (core tgt).status) ≡ true = target_waits (axioms_of board.wired) k a tgt has_tgt in
        let held : is_waiting (settle (core tgt).status) ≡ false = ap (λ (j : ℕ). is_waiting (settle (core j).status)) q ∙ ap (λ (y : Status). is_waiting (settle y)) p.restarting.head in
        cc
        )

-- what a send finds
pub target_found : {C S : Type 0} (b : Behaviour C) (w : Wiring) (value : S → C → Type 0) (ts : TableState S View) (id a i : ℕ) (v : View) → (board : IsBoard b w value ts) → get_elem? ts.views id ≡ some v → a < w.plan.elements → 0 < times a v.sends → i ≡ number_of a v.sends → i < length (successors_of w.plan a)
    → (c : ℕ) × ((played b (shape_of w.plan) (start (shape_of w.plan)) board.events (get_or (successors_of w.plan a) i 0)).status ≡ Waiting (suc c))
    × (get_or ts.words (get_or (successors_of w.plan a) i 0 + 2) 0 ≡ run_number (played b (shape_of w.plan) (start (shape_of w.plan)) board.events (get_or (successors_of w.plan a) i 0)) * 1048576 + suc c) × (suc c < 262144) × (get_or (successors_of w.plan a) i 0 < w.plan.elements)
target_found {C} {S} b w value ts id a i v board at low_a mine i_is in_range =
    let w_t = waiting_of (core tgt).status waits (narrow b w value ts board tgt) in
    (w_t.0, w_t.1, board.shows.words_are tgt low_t ∙ ap (λ (j : ℕ). word_shown j (core tgt)) (none_armed b w value ts board a tgt has_tgt) ∙ ap (λ (y : Status). run_number (core tgt) * 1048576 + low y) w_t.1, w_t.2, low_t)
  where
    core : State C
    core = played b (shape_of w.plan) (start (shape_of w.plan)) board.events

    tgt : ℕ
    tgt = get_or (successors_of w.plan a) i 0

    sends_a : (core a).sends ≡ tgt ∷ drop (i + 1) (successors_of w.plan a)
    sends_a = sym (board.shows.sends_are id v at a low_a mine) ∙ ap (λ (k : ℕ). drop k (successors_of w.plan a)) (sym i_is) ∙ drop_more (successors_of w.plan a) i 0 in_range

    has_tgt : has tgt (core a).sends ≡ true
    has_tgt = ap (has tgt) sends_a ∙ (let r = itself tgt in rw r refl)

    low_t : tgt < w.plan.elements
    low_t = (axioms_of board.wired).shape.below a tgt (has_get (successors_of w.plan a) i in_range)

    waits : is_waiting (settle (core tgt).status) ≡ true
    waits = target_waits (axioms_of board.wired) (kept b (shape_of w.plan) board.events (axioms_of board.wired) board.enabled) a tgt has_tgt

waits_now : (st : Status) → is_waiting (settle st) ≡ true → is_waiting st ≡ true
waits_now (Waiting n) h = refl
waits_now Open h = absurd (cc)
waits_now Held h = absurd (cc)
waits_now Done h = absurd (cc)

pub sent_is : {C S : Type 0} (b : Behaviour C) (w : Wiring) (value : S → C → Type 0) (ts : TableState S View) (id a i n : ℕ) (v : View) → IsBoard b w value ts → get_elem? ts.views id ≡ some v → a < w.plan.elements → 0 < times a v.sends → i ≡ number_of a v.sends → i < length (successors_of w.plan a) → v.out ≡ []
    → n + 1 ≡ get_or ts.words (get_or (successors_of w.plan a) i 0 + 2) 0 ⊎ (get_or ts.words (get_or (successors_of w.plan a) i 0 + 2) 0 ≡ 0)
    → IsBoard b w value (record { words = set ts.words (get_or (successors_of w.plan a) i 0 + 2) n; homes = ts.homes; views = set ts.views id (arrive_view a i (drop (i + 1) (successors_of w.plan a)) (get_or (successors_of w.plan a) i 0) (get_or ts.words (get_or (successors_of w.plan a) i 0 + 2) 0) v) })
sent_is {C} {S} b w value ts id a i n v board at low_a mine i_is in_range no_out n_is =
    let w_t = waiting_of (core tgt).status waits (narrow b w value ts board tgt) in
    go w_t.0 w_t.1 w_t.2
  where
    core : State C
    core = played b (shape_of w.plan) (start (shape_of w.plan)) board.events

    tgt : ℕ
    tgt = get_or (successors_of w.plan a) i 0

    left : List ℕ
    left = drop (i + 1) (successors_of w.plan a)

    found : ℕ
    found = get_or ts.words (tgt + 2) 0

    sends_a : (core a).sends ≡ tgt ∷ left
    sends_a = sym (board.shows.sends_are id v at a low_a mine) ∙ ap (λ (k : ℕ). drop k (successors_of w.plan a)) (sym i_is) ∙ drop_more (successors_of w.plan a) i 0 in_range

    has_tgt : has tgt (core a).sends ≡ true
    has_tgt = ap (has tgt) sends_a ∙ (let r = itself tgt in rw r refl)

    none_left : has tgt left ≡ false
    none_left = rest_has_none tgt left (omega (arith, count_drop (λ x. x == tgt) (successors_of w.plan a) i, ap (count_by (λ x. x == tgt)) (drop_more (successors_of w.plan a) i 0 in_range), once_after board.wired a tgt))

    less : without tgt (core a).sends ≡ left
    less = ap (without tgt) sends_a ∙ (let r = itself tgt in rw r (not_has tgt left none_left))

    k : Kept (shape_of w.plan) (settled core)
    k = kept b (shape_of w.plan) board.events (axioms_of board.wired) board.enabled

    low_t : tgt < w.plan.elements
    low_t = (axioms_of board.wired).shape.below a tgt (has_get (successors_of w.plan a) i in_range)

    waits : is_waiting (settle (core tgt).status) ≡ true
    waits = target_waits (axioms_of board.wired) k a tgt has_tgt

    word_is : (c : ℕ) → (core tgt).status ≡ Waiting (suc c) → found ≡ run_number (core tgt) * 1048576 + suc c
    word_is c st_is = board.shows.words_are tgt low_t ∙ ap (λ (j : ℕ). word_shown j (core tgt)) (none_armed b w value ts board a tgt has_tgt) ∙ ap (λ (y : Status). run_number (core tgt) * 1048576 + low y) st_is

    n_now : (c : ℕ) → (core tgt).status ≡ Waiting (suc c) → n ≡ run_number (core tgt) * 1048576 + c
    n_now c st_is = elim n_is [
      | inl h ↦ omega (arith, h, word_is c st_is)
      | inr h ↦ absurd (omega (arith, h, word_is c st_is))
    ]

    done_by : (st : Status) → arrived (core tgt).status ≡ st → n ≡ run_number (core tgt) * 1048576 + low st → (hs : List (ℕ × ℕ)) → gained (found % 1048576 == 1) tgt (found / 1048576) v.holds ≡ hs
        → times tgt hs + one_if_held (core tgt).status ≡ times tgt v.holds + one_if_held st
        → ((u : ℕ) → u ≢ tgt → times u hs ≡ times u v.holds)
        → ((u : ℕ) → u < w.plan.elements → 0 < times u hs → number_of u hs ≡ run_number (core u))
        → IsBoard b w value (record { words = set ts.words (tgt + 2) n; homes = ts.homes; views = set ts.views id (arrive_view a i left tgt found v) })
    done_by st st_is n_st hs hs_is own others runs =
        let v' : List (ℕ × ℕ) → View = λ ys. record v { holds = ys; sends = sent_on a i left v.sends; out = []; notes = (tgt, found) ∷ v.notes; fresh = false } in
        subst (λ (ys : List (ℕ × ℕ)). IsBoard b w value (record { words = set ts.words (tgt + 2) n; homes = ts.homes; views = set ts.views id (v' ys) })) (sym hs_is)
        (makes b w value ts (armings w ts) ts.homes id tgt n v (v' hs) (Send a tgt) refl low_t board at (low_a, low_t, has_tgt)
        (send_changes st id a i tgt n left v (v' hs) board.wired board.shows k at low_a (waits_now (core tgt).status waits) mine sends_a less refl refl refl refl refl st_is n_st own others runs (found_noted b w value ts id tgt v board at low_t))
        (no_moves (after b (shape_of w.plan) core (Send a tgt)) v (v' hs) board.shows no_out refl (λ u. refl)))

    old_runs : (u : ℕ) → u < w.plan.elements → 0 < times u v.holds → number_of u v.holds ≡ run_number (core u)
    old_runs u low_u some_u = board.shows.runs_are id v at u low_u some_u

    go : (c : ℕ) → (core tgt).status ≡ Waiting (suc c) → suc c < 262144 → IsBoard b w value (record { words = set ts.words (tgt + 2) n; homes = ts.homes; views = set ts.views id (arrive_view a i left tgt found v) })
    go zero st_is small =
        let r : found / 1048576 ≡ run_number (core tgt) = ap (λ (m : ℕ). m / 1048576) (word_is zero st_is) ∙ high_part (run_number (core tgt)) 1 (omega arith) in
        let l : found % 1048576 ≡ 1 = ap (λ (m : ℕ). m % 1048576) (word_is zero st_is) ∙ low_part (run_number (core tgt)) 1 (omega arith) in
        done_by Held (ap arrived st_is) (n_now zero st_is) ((tgt, run_number (core tgt)) ∷ v.holds)
        (ap (λ (m : ℕ). gained (m == 1) tgt (found / 1048576) v.holds) l ∙ ap (λ (m : ℕ). (tgt, m) ∷ v.holds) r)
        (omega (arith, times_own tgt (run_number (core tgt)) v.holds, ap one_if_held st_is))
        (λ u ne. times_more tgt u (run_number (core tgt)) v.holds ne)
        (λ u low_u some_u. elim (cases (u == tgt)) [
          | inl q ↦ ap (λ (j : ℕ). number_of j ((tgt, run_number (core tgt)) ∷ v.holds)) (same u tgt q) ∙ number_own tgt (run_number (core tgt)) v.holds ∙ sym (ap (λ (j : ℕ). run_number (core j)) (same u tgt q))
          | inr q ↦
              let ne = apart_of u tgt q in
              number_more tgt u (run_number (core tgt)) v.holds ne ∙ old_runs u low_u (omega (arith, some_u, times_more tgt u (run_number (core tgt)) v.holds ne))
        ])
    go (suc c) st_is small =
        let l : found % 1048576 ≡ suc (suc c) = ap (λ (m : ℕ). m % 1048576) (word_is (suc c) st_is) ∙ low_part (run_number (core tgt)) (suc (suc c)) (omega (arith, small)) in
        let no_hold : (found % 1048576 == 1) ≡ false = neq (found % 1048576) 1 (λ h. omega (arith, h, l)) in
        done_by (Waiting (suc c)) (ap arrived st_is) (n_now (suc c) st_is) v.holds
        (ap (λ (t : Bool). gained t tgt (found / 1048576) v.holds) no_hold)
        (ap (λ (m : ℕ). times tgt v.holds + m) (ap one_if_held st_is))
        (λ u ne. refl)
        old_runs
