-- What the rule tells a pass.
use Rattle.std.proofs.Common.{◌≡◌, ◌≢◌, ℕ, zero, suc, ◌+◌, ◌<◌, ◌≤◌, ◌==◌, List, [], ◌∷◌, length, take, count_by, cond, Bool, true, false, refl, sym, ap, subst, ◌∙◌, arith, inl, inr, ◌⊎◌}
use mathlib.Core.Option.{Option, some, none}
use lib.ListN.{get_elem?}
use Rattle.atomic_table.specs.Table.{State as TableState}
use Rattle.pk_plan.specs.Plans.{predecessors_of}
use Rattle.pk_plan.specs.Shape.{Shape, has, Before, one as one_step, more as more_steps, shape_of, holds}
use Rattle.pk_iterate.specs.Behaviour.{Behaviour}
use Rattle.pk_core.specs.declared.events.Event.{Event}
use Rattle.pk_core.specs.declared.events.Status.{Status}
use Rattle.pk_core.specs.declared.events.Status.TheVariants.{Waiting, Open, Held, Done}
use Rattle.pk_core.specs.States.{State, cell_in}
use Rattle.pk_core.specs.Events.{start, AllEnabled, after, played}
use Rattle.pk_core.proofs.Basics.{cases, same, itself, count_cons, or_right}
use Rattle.pk_core.proofs.Moves.{Axioms}
use Rattle.pk_core.proofs.Keeps.{Kept, Due, kept_moved, apart_of, missing, owing, before_done, inside_done, done_not_waiting, is_waiting, is_done}
use Rattle.pk_core.proofs.Settled.{settle, settled, Does, does, nothing, move, kept_start}
use Rattle.pk_layout.specs.Layouts.{slots_of, owner_of, reader_of}
use Rattle.pk_layout.specs.Wirings.{Wiring, IsWired}
use Rattle.pk_words.specs.declared.view.View.{View}
use Rattle.pk_words.specs.Tokens.{times, heading, pending, total, one_if_held}
use Rattle.pk_words.specs.Board.{head_of, members_at, IsRestarting, MayTouch, Shows, IsBoard}
use Rattle.pk_words.proofs.Lists.{part, parts, must_be_held, heading_some}
use Rattle.pk_words.proofs.Wired.{axioms_of, fits_of, few_before, slot_read, member_in, head_below}
use Rattle.pk_words.proofs.Stays.{armings, held_most}

kept_by : {C : Type 0} (b : Behaviour C) (p : Shape) (s t : State C) (n : ℕ) → Axioms p → Kept p (settled s) → Does b p s t n → Kept p (settled t)
kept_by {C} b p s t n ax k (nothing same runs) = subst (λ (x : State C). Kept p x) (sym same) k
kept_by {C} b p s t n ax k (move m can is runs) = subst (λ (x : State C). Kept p x) (sym is) (kept_moved b ax k m can)

kept_all : {C : Type 0} (b : Behaviour C) (p : Shape) (s : State C) (evs : List Event) → Axioms p → Kept p (settled s) → AllEnabled b p s evs → Kept p (settled (played b p s evs))
kept_all b p s [] ax k all = k
kept_all b p s (ev ∷ evs) ax k all = kept_all b p (after b p s ev) evs ax (kept_by b p s (after b p s ev) _ ax k (does b p s ev all.0)) all.1

pub kept : {C : Type 0} (b : Behaviour C) (p : Shape) (evs : List Event) → Axioms p → AllEnabled b p (start p) evs → Kept p (settled (played b p (start p) evs))
kept b p evs ax all = kept_all b p (start p) evs ax (kept_start p) all

pub count_most : (f : ℕ → Bool) (xs : List ℕ) → count_by f xs ≤ length xs
count_most f [] = omega arith
count_most f (x ∷ xs) = head (f x) refl (count_most f xs)
  where
    head : (c : Bool) → f x ≡ c → count_by f xs ≤ length xs → count_by f (x ∷ xs) ≤ suc (length xs)
    head true q ih = omega (arith, count_cons f x xs, ap {B = ℕ} (λ (a : Bool). cond a 1 0) q, ih)
    head false q ih = omega (arith, count_cons f x xs, ap {B = ℕ} (λ (a : Bool). cond a 1 0) q, ih)

-- a waiting count is above 0, and fits its bits
abbrev pub Narrow : Status → Type 0
Narrow (Waiting n) = (0 < n) × (n < 262144)
Narrow Open = Unit {0}
Narrow Held = Unit {0}
Narrow Done = Unit {0}

narrow_of : (st : Status) (m : ℕ) → Due (settle st) m → m < 262144 → Narrow st
narrow_of (Waiting n) m d h = (omega (arith, d.0, d.1), omega (arith, d.0, h))
narrow_of Open m d h = tt
narrow_of Held m d h = tt
narrow_of Done m d h = tt

pub narrow : {C S : Type 0} (b : Behaviour C) (w : Wiring) (value : S → C → Type 0) (st : TableState S View) → (board : IsBoard b w value st) → (e : ℕ) → Narrow (played b (shape_of w.plan) (start (shape_of w.plan)) board.events e).status
narrow {C} b w value st board e =
    let core : State C = played b (shape_of w.plan) (start (shape_of w.plan)) board.events in
    let k = kept b (shape_of w.plan) board.events (axioms_of board.wired) board.enabled in
    let most = count_most (owing (settled core) e) (predecessors_of w.plan e) in
    narrow_of (core e).status (missing (shape_of w.plan) (settled core) e) (k.due e) (omega (arith, most, few_before board.wired e))

-- a pass that has a Hold holds the element
pub held : {C S : Type 0} {b : Behaviour C} {w : Wiring} {value : S → C → Type 0} {core : State C} {st : TableState S View} → Shows b w value core st → (id e : ℕ) (v : View) → get_elem? st.views id ≡ some v → e < w.plan.elements → 0 < times e v.holds → (core e).status ≡ Held
held {C} {S} {b} {w} {value} {core} {st} sh id e v at below some_hold =
    must_be_held (core e).status (omega (arith, part (λ (x : View). times e x.holds + heading (head_of w.plan) e x.resets) st.views id v at, sh.held_once e below, some_hold))

-- and it has one alone
pub one_hold : {C S : Type 0} {b : Behaviour C} {w : Wiring} {value : S → C → Type 0} {core : State C} {st : TableState S View} → Shows b w value core st → (id e : ℕ) (v : View) → get_elem? st.views id ≡ some v → e < w.plan.elements → times e v.holds ≤ 1
one_hold {C} {S} {b} {w} {value} {core} {st} sh id e v at below = omega (arith, part (λ (x : View). times e x.holds + heading (head_of w.plan) e x.resets) st.views id v at, sh.held_once e below, held_most (core e).status)

-- a Resetting's head has no Hold with the same pass
pub own_free : {C S : Type 0} {b : Behaviour C} {w : Wiring} {value : S → C → Type 0} {core : State C} {st : TableState S View} → IsWired b w → Shows b w value core st → (id x : ℕ) (v : View) → get_elem? st.views id ≡ some v → 0 < times x v.resets → times (head_of w.plan x) v.holds ≡ 0
own_free {C} {S} {b} {w} {value} {core} {st} wired sh id x v at some_x =
    let r = sh.restarts id v at x some_x in
    let low_h = head_below wired x r.2.exit in
    let one = part (λ (z : View). times (head_of w.plan x) z.holds + heading (head_of w.plan) (head_of w.plan x) z.resets) st.views id v at in
    omega (arith, one, sh.held_once (head_of w.plan x) low_h, held_most (core (head_of w.plan x)).status, heading_some (head_of w.plan) x v.resets some_x)

-- ---- elements that are still to be armed

pub some_view : (f : View → ℕ) (views : List View) → 0 < total f views → (id : ℕ) × (v : View) × (get_elem? views id ≡ some v) × (0 < f v)
some_view f [] h = absurd (omega arith)
some_view f (v ∷ views) h = by_first (f v) refl (λ i. some_view f views i)
  where
    by_first : (n : ℕ) → f v ≡ n → (0 < total f views → (id : ℕ) × (x : View) × (get_elem? views id ≡ some x) × (0 < f x)) → (id : ℕ) × (x : View) × (get_elem? (v ∷ views) id ≡ some x) × (0 < f x)
    by_first zero q ih = let r = ih (omega (arith, h, q)) in (suc r.0, r.1, r.2, r.3)
    by_first (suc n) q ih = (0, v, refl, omega (arith, q))

counted_in : (e n : ℕ) (xs : List ℕ) → 0 < count_by (λ u. u == e) (take n xs) → has e xs ≡ true
counted_in e zero xs h = absurd (let none : count_by (λ u. u == e) (take 0 xs) ≡ 0 = refl in omega (arith, none, h))
counted_in e (suc n) [] h = absurd (let none : count_by (λ u. u == e) [] ≡ 0 = refl in omega (arith, none, h))
counted_in e (suc n) (x ∷ xs) h = by_test (x == e) refl (counted_in e n xs)
  where
    by_test : (t : Bool) → (x == e) ≡ t → (0 < count_by (λ u. u == e) (take n xs) → has e xs ≡ true) → has e (x ∷ xs) ≡ true
    by_test true q ih = let r : (e == x) ≡ true = ap (λ (j : ℕ). j == x) (sym (same x e q)) ∙ itself x in rw r refl
    by_test false q ih = or_right (e == x) (has e xs) (ih (omega (arith, h, count_cons (λ u. u == e) x (take n xs), ap {B = ℕ} (λ (c : Bool). cond c 1 0) q)))

pending_in : (members : ℕ → List ℕ) (e : ℕ) (rs : List (ℕ × ℕ)) → 0 < pending members e rs → (x : ℕ) × (0 < times x rs) × (has e (members x) ≡ true)
pending_in members e [] h = absurd (omega arith)
pending_in members e (r ∷ rs) h = by_first (count_by (λ u. u == e) (take r.1 (members r.0))) refl (λ i. pending_in members e rs i)
  where
    by_first : (n : ℕ) → count_by (λ u. u == e) (take r.1 (members r.0)) ≡ n → (0 < pending members e rs → (x : ℕ) × (0 < times x rs) × (has e (members x) ≡ true)) → (x : ℕ) × (0 < times x (r ∷ rs)) × (has e (members x) ≡ true)
    by_first zero q ih = let i = ih (omega (arith, h, q)) in (i.0, omega (arith, i.1), i.2)
    by_first (suc n) q ih = (r.0, (let t = itself r.0 in rw t (omega arith)), counted_in e r.1 (members r.0) (omega (arith, q)))

-- an element that is still to be armed is a member of a component that is to be gone through again, by some pass's Resetting
pub record IsPending {C : Type 0} (w : Wiring) (core : State C) (views : List View) (e : ℕ) : Type 0 where
  pub id : ℕ
  pub view : View
  pub at : get_elem? views id ≡ some view
  pub exit : ℕ
  pub resetting : 0 < times exit view.resets
  pub member : holds w.plan exit e ≡ true
  pub restarting : IsRestarting w.plan core exit

pub pending_is : {C S : Type 0} {b : Behaviour C} {w : Wiring} {value : S → C → Type 0} {core : State C} {st : TableState S View} → IsWired b w → Shows b w value core st → (e : ℕ) → 0 < armings w st e → IsPending w core st.views e
pending_is {C} {S} {b} {w} {value} {core} {st} wired sh e some_e =
    let a = some_view (λ (v : View). pending (members_at w.plan) e v.resets) st.views some_e in
    let r = pending_in (members_at w.plan) e a.1.resets a.3 in
    let t = (sh.restarts a.0 a.1 a.2 r.0 r.1).2 in
    record { id = a.0; view = a.1; at = a.2; exit = r.0; resetting = r.1; member = member_in wired r.0 e t.exit r.2; restarting = t }

pub zero_or : (n : ℕ) → (n ≡ 0) ⊎ (0 < n)
zero_or zero = inl refl
zero_or (suc n) = inr (omega arith)

-- an element that neither waits nor is held isn't one of them
pub not_pending : {C S : Type 0} {b : Behaviour C} {w : Wiring} {value : S → C → Type 0} {core : State C} {st : TableState S View} → IsWired b w → Shows b w value core st → (e : ℕ) → is_waiting (core e).status ≡ false → one_if_held (core e).status ≡ 0 → armings w st e ≡ 0
not_pending {C} {S} {b} {w} {value} {core} {st} wired sh e no_wait no_hold = elim (zero_or (armings w st e)) [
  | inl z ↦ z
  | inr some_e ↦ absurd (by_head (pending_is wired sh e some_e))
]
  where
    by_head : IsPending w core st.views e → ⊥
    by_head p = elim (cases (e == head_of w.plan p.exit)) [
      | inl q ↦ absurd (let h : one_if_held (core e).status ≡ 1 = ap (λ (j : ℕ). one_if_held (core j).status) (same e (head_of w.plan p.exit) q) ∙ ap one_if_held p.restarting.head in omega (arith, h, no_hold))
      | inr q ↦ absurd (let h : is_waiting (core e).status ≡ true = ap is_waiting (p.restarting.member_waits e p.member (apart_of e (head_of w.plan p.exit) q)) in cc)
    ]

-- nor one with a Hold
pub hold_armed : {C S : Type 0} {b : Behaviour C} {w : Wiring} {value : S → C → Type 0} {core : State C} {st : TableState S View} → IsWired b w → Shows b w value core st → (id e : ℕ) (v : View) → get_elem? st.views id ≡ some v → e < w.plan.elements → 0 < times e v.holds → armings w st e ≡ 0
hold_armed {C} {S} {b} {w} {value} {core} {st} wired sh id e v at below mine = elim (zero_or (armings w st e)) [
  | inl z ↦ z
  | inr some_e ↦ absurd (by_head (pending_is wired sh e some_e))
]
  where
    is_held : (core e).status ≡ Held
    is_held = held sh id e v at below mine

    twice : (p : IsPending w core st.views e) → e ≡ head_of w.plan p.exit → ⊥
    twice p q = elim (cases (p.id == id)) [
      | inl i ↦ absurd (
          let here : get_elem? st.views id ≡ some p.view = subst (λ (j : ℕ). get_elem? st.views j ≡ some p.view) (same p.id id i) p.at in
          let vs : p.view ≡ v = cc in
          let free = own_free wired sh p.id p.exit p.view p.at p.resetting in
          let theirs : 0 < times (head_of w.plan p.exit) p.view.holds = subst (λ (y : View). 0 < times (head_of w.plan p.exit) y.holds) (sym vs) (subst (λ (j : ℕ). 0 < times j v.holds) q mine) in
          omega (arith, free, theirs)
          )
      | inr i ↦ absurd (
          let two = parts (λ (y : View). times e y.holds + heading (head_of w.plan) e y.resets) st.views p.id id p.view v p.at at (apart_of p.id id i) in
          let some_h : 0 < heading (head_of w.plan) e p.view.resets = subst (λ (j : ℕ). 0 < heading (head_of w.plan) j p.view.resets) (sym q) (heading_some (head_of w.plan) p.exit p.view.resets p.resetting) in
          omega (arith, two, some_h, mine, sh.held_once e below, held_most (core e).status)
          )
    ]

    by_head : IsPending w core st.views e → ⊥
    by_head p = elim (cases (e == head_of w.plan p.exit)) [
      | inl q ↦ twice p (same e (head_of w.plan p.exit) q)
      | inr q ↦ absurd (let h : is_waiting (core e).status ≡ true = ap is_waiting (p.restarting.member_waits e p.member (apart_of e (head_of w.plan p.exit) q)) in let n = ap is_waiting is_held in cc)
    ]

-- no second pass holds it
pub held_by_one : {C S : Type 0} {b : Behaviour C} {w : Wiring} {value : S → C → Type 0} {core : State C} {st : TableState S View} → Shows b w value core st → (i j e : ℕ) (v x : View) → get_elem? st.views i ≡ some v → get_elem? st.views j ≡ some x → i ≢ j → e < w.plan.elements → 0 < times e v.holds → 0 < times e x.holds → ⊥
held_by_one {C} {S} {b} {w} {value} {core} {st} sh i j e v x at has_x ne below mine other = absurd (omega (arith, parts (λ (y : View). times e y.holds + heading (head_of w.plan) e y.resets) st.views i j v x at has_x ne, sh.held_once e below, held_most (core e).status, mine, other))

-- the element that a held one reads isn't held
pub not_both : {C : Type 0} (b : Behaviour C) (w : Wiring) (core : State C) → IsWired b w → Kept (shape_of w.plan) (settled core) → (e u : ℕ) → e < w.plan.elements → has u (b.reads e) ≡ true → u ≢ e → (core e).status ≡ Held → (core u).status ≡ Held → ⊥
not_both {C} b w core wired kept e u below reads ne he hu = elim (fits_of wired e u below reads ne) [
  | inl before ↦ absurd (let d = before_done kept u e before (ap (λ (st : Status). is_waiting (settle st)) he) in let t = ap (λ (st : Status). is_done (settle st)) hu in cc)
  | inr before ↦ absurd (let d = before_done kept e u before (ap (λ (st : Status). is_waiting (settle st)) hu) in let t = ap (λ (st : Status). is_done (settle st)) he in cc)
]

-- from a component a list of constraints leads within it, to its exit, or past its exit
leads : {p : Shape} → Axioms p → (x : ℕ) {u v : ℕ} → Before p u v → p.inside x u ≡ true → (p.inside x v ≡ true) ⊎ ((v ≡ x) ⊎ Before p x v)
leads {p} ax x {u} {v} (one_step h) i = elim (cases (v == x)) [
  | inl q ↦ inr (inl (same v x q))
  | inr ne ↦ inl (ax.shape.stays x u v i (ax.shape.dual u v ∙ h) (apart_of v x ne))
]
leads {p} ax x {u} {v} (more_steps {v = m} b h) i = elim (leads ax x b i) [
  | inl j ↦ elim (cases (v == x)) [
    | inl q ↦ inr (inl (same v x q))
    | inr ne ↦ inl (ax.shape.stays x m v j (ax.shape.dual m v ∙ h) (apart_of v x ne))
  ]
  | inr (inl q) ↦ inr (inr (one_step (subst (λ (j : ℕ). has j (p.preds v) ≡ true) q h)))
  | inr (inr c) ↦ inr (inr (more_steps c h))
]

-- while an exit is held, no other element is held that is a member, or reads one or is read by one
exit_apart : {C : Type 0} {b : Behaviour C} {w : Wiring} (core : State C) → IsWired b w → Kept (shape_of w.plan) (settled core) → (x v e : ℕ) → v < w.plan.elements → e < w.plan.elements → holds w.plan x v ≡ true → (core x).status ≡ Held → (core e).status ≡ Held → e ≢ x → (v ≡ e) ⊎ ((has v (b.reads e) ≡ true) ⊎ (has e (b.reads v) ≡ true)) → ⊥
exit_apart {C} {b} {w} core wired kept x v e low_v low_e member hx he apart how = elim (cases (e == v)) [
  | inl q ↦ not_done (ap (λ (j : ℕ). is_done (settle (core j).status)) (same e v q) ∙ done)
  | inr q ↦
      let ne = apart_of e v q in
      elim how [
        | inl ve ↦ ne (sym ve)
        | inr r ↦ elim r [
          | inl reads ↦ elim (fits_of wired e v low_e reads (λ h. ne (sym h))) [
            | inl before ↦ past_exit before
            | inr before ↦ not_done (before_done kept e v before (done_not_waiting (settle (core v).status) done))
          ]
          | inr reads ↦ elim (fits_of wired v e low_v reads ne) [
            | inl before ↦ not_done (before_done kept e v before (done_not_waiting (settle (core v).status) done))
            | inr before ↦ past_exit before
          ]
        ]
      ]
]
  where
    done : is_done (settle (core v).status) ≡ true
    done = inside_done (axioms_of wired) kept x v (ap settle hx) member

    not_done : is_done (settle (core e).status) ≡ true → ⊥
    not_done d = absurd (let t = ap (λ (st : Status). is_done (settle st)) he in cc)

    past_exit : Before (shape_of w.plan) v e → ⊥
    past_exit before = elim (leads (axioms_of wired) x before member) [
      | inl j ↦ not_done (inside_done (axioms_of wired) kept x e (ap settle hx) j)
      | inr (inl q) ↦ apart q
      | inr (inr c) ↦ absurd (let d = before_done kept x e c (ap (λ (st : Status). is_waiting (settle st)) he) in let t = ap (λ (st : Status). is_done (settle st)) hx in cc)
    ]

pub elem_in : {A : Type 0} (xs : List A) (k : ℕ) → k < length xs → (x : A) × (get_elem? xs k ≡ some x)
elem_in [] k h = absurd (omega arith)
elem_in (x ∷ xs) zero h = (x, refl)
elem_in (x ∷ xs) (suc k) h = elem_in xs k (omega arith)

-- A slot of a Hold's element that isn't out with its pass is at home.
pub at_home : {C S : Type 0} (b : Behaviour C) (w : Wiring) (value : S → C → Type 0) (st : TableState S View) → (board : IsBoard b w value st) → (id e k : ℕ) (v : View) → get_elem? st.views id ≡ some v → e < w.plan.elements → 0 < times e v.holds → k < slots_of w.layout → length st.homes ≡ slots_of w.layout → (owner_of w.layout k ≡ e) ⊎ (reader_of w.layout k ≡ e) → has k v.out ≡ false
    → (x : S) × (get_elem? st.homes k ≡ some (some x)) × (value x (cell_in b (played b (shape_of w.plan) (start (shape_of w.plan)) board.events) (owner_of w.layout k)))
at_home {C} {S} b w value st board id e k v at below mine in_slots long of_e not_out =
    let it = elem_in st.homes k (omega (arith, in_slots, long)) in
    by_case it.0 it.1
  where
    core : State C
    core = played b (shape_of w.plan) (start (shape_of w.plan)) board.events

    -- two slots' elements, one held by this pass and one by another
    clash : (u : ℕ) (j : ℕ) (x : View) → get_elem? st.views j ≡ some x → j ≢ id → u < w.plan.elements → 0 < times u x.holds → (u ≡ e) ⊎ ((has u (b.reads e) ≡ true) ⊎ (has e (b.reads u) ≡ true)) → ⊥
    clash u j x has_x ne low_u theirs how = elim (cases (u == e)) [
      | inl q ↦ held_by_one board.shows j id e x v has_x at ne below (subst (λ (i : ℕ). 0 < times i x.holds) (same u e q) theirs) mine
      | inr q ↦
          let apart = apart_of u e q in
          let he = held board.shows id e v at below mine in
          let hu = held board.shows j u x has_x low_u theirs in
          let k = kept b (shape_of w.plan) board.events (axioms_of board.wired) board.enabled in
          elim how [
            | inl ue ↦ absurd (apart ue)
            | inr r ↦ elim r [
              | inl reads ↦ not_both b w core board.wired k e u below reads apart he hu
              | inr reads ↦ not_both b w core board.wired k u e low_u reads (λ h. apart (sym h)) hu he
            ]
          ]
    ]

    link : (u : ℕ) → (owner_of w.layout k ≡ u) ⊎ (reader_of w.layout k ≡ u) → (u ≡ e) ⊎ ((has u (b.reads e) ≡ true) ⊎ (has e (b.reads u) ≡ true))
    link u of_u = elim (slot_read board.wired k in_slots) [
      | inl one ↦ elim of_u [
        | inl p ↦ elim of_e [
          | inl q ↦ inl (sym p ∙ q)
          | inr q ↦ inl (sym p ∙ sym one ∙ q)
        ]
        | inr p ↦ elim of_e [
          | inl q ↦ inl (sym p ∙ one ∙ q)
          | inr q ↦ inl (sym p ∙ q)
        ]
      ]
      | inr reads ↦ elim of_u [
        | inl p ↦ elim of_e [
          | inl q ↦ inl (sym p ∙ q)
          | inr q ↦ inr (inl (subst (λ (i : ℕ). has i (b.reads e) ≡ true) p (subst (λ (i : ℕ). has (owner_of w.layout k) (b.reads i) ≡ true) q reads)))
        ]
        | inr p ↦ elim of_e [
          | inl q ↦ inr (inr (subst (λ (i : ℕ). has i (b.reads u) ≡ true) q (subst (λ (i : ℕ). has (owner_of w.layout k) (b.reads i) ≡ true) p reads)))
          | inr q ↦ inl (sym p ∙ q)
        ]
      ]
    ]

    touched : (u : ℕ) (j : ℕ) (x : View) → get_elem? st.views j ≡ some x → j ≢ id → u < w.plan.elements → MayTouch w x u → (u ≡ e) ⊎ ((has u (b.reads e) ≡ true) ⊎ (has e (b.reads u) ≡ true)) → ⊥
    touched u j x has_x ne low_u (inl theirs) how = clash u j x has_x ne low_u theirs how
    touched u j x has_x ne low_u (inr theirs) how =
        exit_apart core board.wired (kept b (shape_of w.plan) board.events (axioms_of board.wired) board.enabled) theirs.0 u e low_u below theirs.3 (held board.shows j theirs.0 x has_x theirs.1 theirs.2) (held board.shows id e v at below mine)
        (λ q. held_by_one board.shows j id e x v has_x at ne below (subst (λ (i : ℕ). 0 < times i x.holds) (sym q) theirs.2) mine) how

    not_away : get_elem? st.homes k ≡ some none → ⊥
    not_away gone =
        let a = board.shows.away k gone in
        let ne : a.0 ≢ id = λ h. absurd (
        let here : get_elem? st.views id ≡ some a.1 = subst (λ (j : ℕ). get_elem? st.views j ≡ some a.1) h a.2 in
        let vs : a.1 ≡ v = cc in
        let theirs : has k v.out ≡ true = subst (λ (y : View). has k y.out ≡ true) vs a.3 in
        cc
        ) in
        elim (board.shows.out_is a.0 a.1 a.2 k a.3) [
          | inl o ↦ touched (owner_of w.layout k) a.0 a.1 a.2 ne (board.wired.laid_out.owned k in_slots) o (link (owner_of w.layout k) (inl refl))
          | inr r ↦ touched (reader_of w.layout k) a.0 a.1 a.2 ne (board.wired.laid_out.read k in_slots) r (link (reader_of w.layout k) (inr refl))
        ]

    by_case : (y : Option S) → get_elem? st.homes k ≡ some y → (x : S) × (get_elem? st.homes k ≡ some (some x)) × (value x (cell_in b core (owner_of w.layout k)))
    by_case none is = absurd (not_away is)
    by_case (some x) is = (x, is, board.shows.homes_are k x is)
