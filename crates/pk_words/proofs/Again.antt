-- A run after which a component is gone through again.
use Rattle.std.proofs.Common.{◌≡◌, ◌≢◌, ℕ, zero, suc, ◌+◌, ◌*◌, ◌<◌, ◌≤◌, ◌==◌, ◌&&◌, not, List, [], ◌∷◌, length, set, count_by, Bool, true, false, refl, sym, ap, subst, ◌∙◌, arith, inl, inr}
use Rattle.std.proofs.lemmas.List.{take_all}
use mathlib.Core.Option.{some}
use lib.ListN.{get_elem?}
use Rattle.atomic_table.specs.Table.{State as TableState, homes_after}
use Rattle.pk_plan.specs.Plans.{end_of}
use Rattle.pk_plan.specs.Shape.{Shape, has, shape_of, exits, holds}
use Rattle.pk_iterate.specs.Behaviour.{Behaviour}
use Rattle.pk_core.specs.declared.events.Event.TheVariants.{Again}
use Rattle.pk_core.specs.declared.events.Status.{Status}
use Rattle.pk_core.specs.declared.events.Status.TheVariants.{Waiting, Open, Held, Done}
use Rattle.pk_core.specs.States.{Made, Element, State, run_number, cell_in, newest, inputs_of}
use Rattle.pk_core.specs.Events.{start, inner, decided, played}
use Rattle.pk_core.proofs.Basics.{cases, same, itself, neq}
use Rattle.pk_core.proofs.Keeps.{Kept, apart_of, after_run, restart_else, inside_done, is_done, is_waiting}
use Rattle.pk_core.proofs.Settled.{settle, settled}
use Rattle.pk_layout.specs.Layouts.{slots_of, owner_of}
use Rattle.pk_layout.specs.Wirings.{Wiring, IsWired}
use Rattle.pk_words.specs.declared.view.View.{View}
use Rattle.pk_words.specs.Tokens.{times, number_of, drop_one, heading, one_if_held, one_if_any}
use Rattle.pk_words.specs.Views.{AllRight, slots_in, again_view, IsGiven}
use Rattle.pk_words.specs.Board.{low, word_of, word_shown, head_of, members_at, IsRestarting, Shows, IsBoard}
use Rattle.pk_words.proofs.Lists.{times_drop, times_other, number_other, times_more, heading_own, heading_more, seen_next}
use Rattle.pk_words.proofs.Wired.{axioms_of, member_of, member_in, last_outside}
use Rattle.pk_words.proofs.Stays.{armings, Changes, makes}
use Rattle.pk_words.proofs.Facts.{kept, held, one_hold, own_free, hold_armed, not_pending}
use Rattle.pk_words.proofs.Slots.{gives_all, given_moves}
use Rattle.pk_words.proofs.Members.{member_once, some_members, counted_some, counted_none, head_holds, exit_no_member, inner_small}

again_own : {C : Type 0} (p : Shape) (s : State C) (x : ℕ) (run : Made C) → after_run p s x true run x ≡ record { status = Waiting (inner p x x); made = run ∷ (s x).made; sends = (s x).sends }
again_own p s x run = let q = itself x in rw q refl

again_made : {C : Type 0} (p : Shape) (s : State C) (x u : ℕ) (run : Made C) → (u == x) ≡ false → (after_run p s x true run u).made ≡ (s u).made
again_made p s x u run ne = rw ne refl

not_again : (c : Bool) → (c && not true) ≡ false
not_again true = refl
not_again false = refl

again_sends : {C : Type 0} (p : Shape) (s : State C) (x u : ℕ) (run : Made C) → (after_run p s x true run u).sends ≡ (s u).sends
again_sends p s x u run = rw (not_again (u == x)) refl

again_head : {C : Type 0} (p : Shape) (s : State C) (x : ℕ) (run : Made C) → (p.head x == x) ≡ false → p.inside x (p.head x) ≡ true → (after_run p s x true run (p.head x)).status ≡ Held
again_head p s x run ne inside = let q = itself (p.head x) in rw (ne, inside, q) refl

again_member : {C : Type 0} (p : Shape) (s : State C) (x u : ℕ) (run : Made C) → (u == x) ≡ false → p.inside x u ≡ true → (u == p.head x) ≡ false → (after_run p s x true run u).status ≡ Waiting (inner p x u)
again_member p s x u run ne inside no_head = rw (ne, inside, no_head) refl

done_now : (st : Status) → is_done (settle st) ≡ true → st ≡ Done
done_now (Waiting n) h = absurd (cc)
done_now Open h = absurd (cc)
done_now Held h = absurd (cc)
done_now Done h = refl

-- how often an element is still to be armed, once the members of x are
abbrev pub armings_more : {S : Type 0} → Wiring → TableState S View → ℕ → ℕ → ℕ
armings_more w ts x u = armings w ts u + count_by (λ e. e == u) (members_at w.plan x)

again_changes : {C S : Type 0} {b : Behaviour C} {w : Wiring} {value : S → C → Type 0} {s : State C} {ts : TableState S View} (run : Made C) (id x n : ℕ) (v : View) → IsWired b w → Shows b w value s ts → Kept (shape_of w.plan) (settled s) → get_elem? ts.views id ≡ some v → x < w.plan.elements → exits w.plan x ≡ true → 0 < times x v.holds → number_of x v.holds < w.limit
    → n ≡ (number_of x v.holds + 1) * 1048576 + inner (shape_of w.plan) x x
    → Changes w s (after_run (shape_of w.plan) s x true run) (armings w ts) (armings_more w ts x) x n v (again_view x n (length (members_at w.plan x)) v)
again_changes {C} {S} {b} {w} {value} {s} {ts} run id x n v wired sh k at below exit mine room n_is = record {
  word = subst (λ (j : ℕ). n ≡ word_shown j (t x)) (sym (none_at x (hold_armed wired sh id x v at below mine) no_self)) (n_is ∙ omega (arith, ap (λ (r : ℕ). (r + 1) * 1048576 + inner p x x) (sh.runs_are id v at x below mine)) ∙ sym (ap word_of own));
  others = λ u low_u ne. elim (cases (holds w.plan x u)) [
    | inr out ↦
        ap (λ (j : ℕ). word_shown j (t u)) (left_else u out) ∙ ap (word_shown (armings w ts u)) (restart_else p s x u run (neq u x ne) out)
    | inl inside ↦
        let u_done = members_done u inside in
        let none : armings w ts u ≡ 0 = not_pending wired sh u (ap is_waiting u_done) (ap one_if_held u_done) in
        shown_some (armings_more w ts x u) (t u) (omega (arith, counted_some u (members_at w.plan x) (member_of wired x u inside)))
        ∙ ap (λ (r : ℕ). r * 1048576 + 262145) (ap length (again_made p s x u run (neq u x ne)))
        ∙ sym (ap (λ (st : Status). run_number (s u) * 1048576 + low st) u_done)
        ∙ sym (ap (λ (j : ℕ). word_shown j (s u)) none)
  ];
  armed = λ u. omega (arith, ap (count_by (λ e. e == u)) (take_all (length (members_at w.plan x)) (members_at w.plan x) (omega arith)));
  once = λ u. elim (cases (holds w.plan x u)) [
    | inr out ↦ omega (arith, left_else u out, sh.armed_once u)
    | inl inside ↦
        let u_done = members_done u inside in
        omega (arith, not_pending wired sh u (ap is_waiting u_done) (ap one_if_held u_done), member_once wired x u exit)
  ];
  holds = λ u. balance u;
  runs = λ u low_u some_u. elim (cases (u == x)) [
    | inl q ↦ absurd (omega (arith, fewer, only, some_u, ap (λ (j : ℕ). times j (drop_one x v.holds)) (same u x q)))
    | inr q ↦
        let ne = apart_of u x q in
        number_other x u v.holds ne ∙ sh.runs_are id v at u low_u (omega (arith, some_u, times_other x u v.holds ne)) ∙ sym (ap length (again_made p s x u run q))
  ];
  runs_stay = λ u. elim (cases (u == x)) [
    | inl q ↦ inr (omega (arith, mine, ap (λ (j : ℕ). times j v.holds) (same u x q), ap (λ (j : ℕ). one_if_held (s j).status) (same u x q), ap one_if_held is_held))
    | inr q ↦ inl (ap length (again_made p s x u run q))
  ];
  sends = λ u. omega (arith, ap one_if_any (again_sends p s x u run));
  sent = λ u low_u some_u. sh.sends_are id v at u low_u some_u ∙ sym (again_sends p s x u run);
  sends_stay = λ u. inl (again_sends p s x u run);
  restarts = λ y some_y. elim (cases (x == y)) [
    | inl q ↦
        let yx : x ≡ y = same x y q in
        let number : number_of y ((x, length (members_at w.plan x)) ∷ v.resets) ≡ length (members_at w.plan x) = rw q refl in
        subst (λ (m : ℕ). (0 < m) × (m ≤ length (members_at w.plan y)) × IsRestarting w.plan t y) (sym number)
        (some_members wired x exit, omega (arith, ap (λ (j : ℕ). length (members_at w.plan j)) yx), subst (λ (j : ℕ). IsRestarting w.plan t j) yx own_restarts)
    | inr q ↦
        let number : number_of y ((x, length (members_at w.plan x)) ∷ v.resets) ≡ number_of y v.resets = rw q refl in
        let some_old : 0 < times y v.resets = omega (arith, some_y, times_more x y (length (members_at w.plan x)) v.resets (λ h. apart_of x y q (sym h))) in
        let r = sh.restarts id v at y some_old in
        subst (λ (m : ℕ). (0 < m) × (m ≤ length (members_at w.plan y)) × IsRestarting w.plan t y) (sym number)
        (r.0, r.1, stay y r.2 (own_free wired sh id y v at some_old))
  ];
  restarts_stay = stay;
  bounded = λ u le. elim (cases (u == x)) [
    | inl q ↦ subst (λ (j : ℕ). run_number (t j) ≤ w.limit) (sym (same u x q)) (omega (arith, room, sh.runs_are id v at x below mine, ap run_number own))
    | inr q ↦ omega (arith, le, ap length (again_made p s x u run q))
  ];
  grows = λ u. grow u;
  notes = λ u low_u. seen_next (λ (j : ℕ). run_number (t j)) x n v.notes u (omega (arith, n_is, inner_small wired x x, sh.runs_are id v at x below mine, ap run_number own)) (omega (arith, sh.noted id v at u low_u, grow u));
  over_stays = λ over.
      let ne : end_of w.plan ≢ x = λ q. absurd (let h = ap (λ (j : ℕ). (s j).status) q in let i = is_held in cc) in
      let out = outside (end_of w.plan) (last_outside wired x) in
      ap (λ (e : Element C). e.status) (restart_else p s x (end_of w.plan) run (neq (end_of w.plan) x ne) out) ∙ over;
  over = λ saw. inl saw;
  stopped = refl;
}
  where
    p : Shape
    p = shape_of w.plan

    t : State C
    t = after_run (shape_of w.plan) s x true run

    own : t x ≡ record { status = Waiting (inner (shape_of w.plan) x x); made = run ∷ (s x).made; sends = (s x).sends }
    own = again_own (shape_of w.plan) s x run

    is_held : (s x).status ≡ Held
    is_held = held sh id x v at below mine

    fewer : times x (drop_one x v.holds) + 1 ≡ times x v.holds
    fewer = times_drop x v.holds mine

    only : times x v.holds ≤ 1
    only = one_hold sh id x v at below

    outside : (u : ℕ) → (holds w.plan x u ≡ true → ⊥) → holds w.plan x u ≡ false
    outside u not_in = elim (cases (holds w.plan x u)) [
      | inl i ↦ absurd (not_in i)
      | inr o ↦ o
    ]

    no_self : holds w.plan x x ≡ false
    no_self = outside x (exit_no_member wired x exit)

    head_apart : (head_of w.plan x == x) ≡ false
    head_apart = neq (head_of w.plan x) x (λ q. exit_no_member wired x exit (subst (λ (j : ℕ). holds w.plan x j ≡ true) q (head_holds wired x exit)))

    no_list : (u : ℕ) → holds w.plan x u ≡ false → has u (members_at w.plan x) ≡ false
    no_list u out = elim (cases (has u (members_at w.plan x))) [
      | inl i ↦ absurd (let h = member_in wired x u exit i in cc)
      | inr o ↦ o
    ]

    left_else : (u : ℕ) → holds w.plan x u ≡ false → armings_more w ts x u ≡ armings w ts u
    left_else u out = omega (arith, counted_none u (members_at w.plan x) (no_list u out))

    none_at : (u : ℕ) → armings w ts u ≡ 0 → holds w.plan x u ≡ false → armings_more w ts x u ≡ 0
    none_at u z out = omega (arith, z, left_else u out)

    members_done : (u : ℕ) → holds w.plan x u ≡ true → (s u).status ≡ Done
    members_done u inside = done_now (s u).status (inside_done (axioms_of wired) k x u (ap settle is_held) inside)

    shown_some : (j : ℕ) (e : Element C) → 0 < j → word_shown j e ≡ run_number e * 1048576 + 262145
    shown_some zero e h = absurd (omega (arith, h))
    shown_some (suc j) e h = refl

    grow : (u : ℕ) → run_number (s u) ≤ run_number (t u)
    grow u = elim (cases (u == x)) [
      | inl q ↦ subst (λ (j : ℕ). run_number (s j) ≤ run_number (t j)) (sym (same u x q)) (omega (arith, ap run_number own))
      | inr q ↦ omega (arith, ap length (again_made (shape_of w.plan) s x u run q))
    ]

    -- what is to be gone through again has no element that is done, and x is held
    stay : (y : ℕ) → IsRestarting w.plan s y → times (head_of w.plan y) v.holds ≡ 0 → IsRestarting w.plan t y
    stay y r free = record {
      exit = r.exit;
      head = same_at (head_of w.plan y) (λ q. absurd (omega (arith, mine, free, ap (λ (j : ℕ). times j v.holds) q))) (λ d. absurd (let h = r.head in cc)) ∙ r.head;
      exit_waits = waits y _ r.exit_waits;
      member_waits = λ u inside ne. waits u _ (r.member_waits u inside ne);
    }
      where
        same_at : (u : ℕ) → u ≢ x → ((s u).status ≡ Done → ⊥) → (t u).status ≡ (s u).status
        same_at u ne undone = ap (λ (e : Element C). e.status) (restart_else (shape_of w.plan) s x u run (neq u x ne) (outside u (λ i. undone (members_done u i))))

        waits : (u m : ℕ) → (s u).status ≡ Waiting m → (t u).status ≡ Waiting m
        waits u m is = same_at u (λ q. absurd (let h = ap (λ (j : ℕ). (s j).status) q in let i = is_held in cc)) (λ d. absurd (cc)) ∙ is

    own_restarts : IsRestarting w.plan t x
    own_restarts = record {
      exit = exit;
      head = again_head (shape_of w.plan) s x run head_apart (head_holds wired x exit);
      exit_waits = ap (λ (e : Element C). e.status) own;
      member_waits = λ u inside ne. again_member (shape_of w.plan) s x u run (neq u x (λ q. exit_no_member wired x exit (subst (λ (j : ℕ). holds w.plan x j ≡ true) q inside))) inside (neq u (head_of w.plan x) ne);
    }

    balance : (u : ℕ) → times u (drop_one x v.holds) + heading (head_of w.plan) u ((x, length (members_at w.plan x)) ∷ v.resets) + one_if_held (s u).status ≡ times u v.holds + heading (head_of w.plan) u v.resets + one_if_held (t u).status
    balance u = elim (cases (u == x)) [
      | inl q ↦ subst (λ (j : ℕ). times j (drop_one x v.holds) + heading (head_of w.plan) j ((x, length (members_at w.plan x)) ∷ v.resets) + one_if_held (s j).status ≡ times j v.holds + heading (head_of w.plan) j v.resets + one_if_held (t j).status) (sym (same u x q))
          (omega (arith, fewer, ap one_if_held is_held, ap (λ (e : Element C). one_if_held e.status) own, heading_more (head_of w.plan) x x (length (members_at w.plan x)) v.resets (λ h. apart_of (head_of w.plan x) x head_apart (sym h))))
      | inr q ↦ elim (cases (u == head_of w.plan x)) [
        | inl h ↦ subst (λ (j : ℕ). times j (drop_one x v.holds) + heading (head_of w.plan) j ((x, length (members_at w.plan x)) ∷ v.resets) + one_if_held (s j).status ≡ times j v.holds + heading (head_of w.plan) j v.resets + one_if_held (t j).status) (sym (same u (head_of w.plan x) h))
            (omega (arith, times_other x (head_of w.plan x) v.holds (apart_of (head_of w.plan x) x head_apart), heading_own (head_of w.plan) x (length (members_at w.plan x)) v.resets, ap one_if_held (members_done (head_of w.plan x) (head_holds wired x exit)), ap one_if_held own_restarts.head))
        | inr h ↦
            let ne = apart_of u x q in
            let nh = apart_of u (head_of w.plan x) h in
            omega (arith, times_other x u v.holds ne, heading_more (head_of w.plan) x u (length (members_at w.plan x)) v.resets nh, same_held u q h)
      ]
    ]
      where
        same_held : (u : ℕ) → (u == x) ≡ false → (u == head_of w.plan x) ≡ false → one_if_held (t u).status ≡ one_if_held (s u).status
        same_held u q h = elim (cases (holds w.plan x u)) [
          | inl inside ↦ ap one_if_held (again_member (shape_of w.plan) s x u run q inside h) ∙ sym (ap one_if_held (members_done u inside))
          | inr out ↦ ap (λ (e : Element C). one_if_held e.status) (restart_else (shape_of w.plan) s x u run q out)
        ]

-- what is out goes home with the new cell
pub went_again : {C S : Type 0} (b : Behaviour C) (w : Wiring) (value : S → C → Type 0) (ts : TableState S View) (id x n : ℕ) (v : View) (xs : List (ℕ × S)) (c : C) → (board : IsBoard b w value ts) → get_elem? ts.views id ≡ some v → x < w.plan.elements → exits w.plan x ≡ true → 0 < times x v.holds → number_of x v.holds < w.limit
    → n ≡ (number_of x v.holds + 1) * 1048576 + inner (shape_of w.plan) x x
    → length ts.homes ≡ slots_of w.layout → v.out ≡ slots_in xs
    → AllRight (λ k y. (value y c) × (owner_of w.layout k ≡ x)) xs
    → ((k : ℕ) → k < slots_of w.layout → owner_of w.layout k ≡ x → has k (slots_in xs) ≡ true)
    → IsGiven b true true x (inputs_of b (played b (shape_of w.plan) (start (shape_of w.plan)) board.events) x) c
    → IsBoard b w value (record { words = set ts.words (x + 2) n; homes = homes_after ts.homes xs (gives_all (length xs)); views = set ts.views id (again_view x n (length (members_at w.plan x)) v) })
went_again {C} {S} b w value ts id x n v xs c board at below exit mine room n_is long out all every given =
    let k = kept b (shape_of w.plan) board.events (axioms_of board.wired) board.enabled in
    makes b w value ts (armings_more w ts x) (homes_after ts.homes xs (gives_all (length xs))) id x n v (again_view x n (length (members_at w.plan x)) v) (Again x) refl below board at ((is_held, below), exit, given.1)
    (again_changes (decided b core x) id x n v board.wired board.shows k at below exit mine room n_is)
    (given_moves (after_run (shape_of w.plan) core x true (decided b core x)) v (again_view x n (length (members_at w.plan x)) v) xs board.shows long out refl (right xs all)
    (λ j in_slots q. ap (newest (b.first (owner_of w.layout j))) (again_made (shape_of w.plan) core x (owner_of w.layout j) (decided b core x) (neq (owner_of w.layout j) x (λ h. absurd (let t = every j in_slots h in cc))))))
  where
    core : State C
    core = played b (shape_of w.plan) (start (shape_of w.plan)) board.events

    is_held : (core x).status ≡ Held
    is_held = held board.shows id x v at below mine

    right : (ys : List (ℕ × S)) → AllRight (λ k y. (value y c) × (owner_of w.layout k ≡ x)) ys → AllRight (λ k y. value y (cell_in b (after_run (shape_of w.plan) core x true (decided b core x)) (owner_of w.layout k))) ys
    right [] h = tt
    right (y ∷ ys) h = (
      subst (value y.1) (sym given.0 ∙ sym (ap (λ (e : Element C). newest (b.first x) e.made) (again_own (shape_of w.plan) core x (decided b core x))) ∙ ap (λ (j : ℕ). cell_in b (after_run (shape_of w.plan) core x true (decided b core x)) j) (sym h.0.1)) h.0.0,
      right ys h.1,
    )
