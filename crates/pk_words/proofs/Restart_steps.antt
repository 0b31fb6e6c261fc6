-- What the steps of a restart keep and tell.
use Rattle.std.proofs.Common.{◌≡◌, ℕ, ◌+◌, ◌-◌, ◌*◌, ◌/◌, ◌%◌, ◌^◌, ◌<◌, List, length, get_or, true, refl, sym, ap, subst, ◌∙◌, arith}
use Rattle.std.proofs.Math.Dec.{ltb}
use Rattle.std.proofs.lemmas.Bool.Decides.{nat_tests}
use Rattle.atomic_table.specs.Table.{Me, keeps, Allows}
use Rattle.pk_plan.specs.Order.{Level}
use Rattle.pk_plan.specs.Plans.{predecessors_of, is_inside, inner_count}
use Rattle.pk_plan.specs.Shape.{has, shape_of, component_of, exits, holds}
use Rattle.pk_iterate.specs.Behaviour.{Behaviour}
use Rattle.pk_iterate.specs.Runs.{values_read}
use Rattle.pk_iterate.specs.Ending.{Ends, trace}
use Rattle.pk_core.specs.States.{State, run_number}
use Rattle.pk_core.specs.Events.{start, inner, played}
use Rattle.pk_core.specs.Orders.{IsOrderOf}
use Rattle.pk_core.proofs.Basics.{counted_same}
use Rattle.pk_layout.specs.Layouts.{slots_of, owner_of}
use Rattle.pk_layout.specs.Wirings.{Wiring, IsWired}
use Rattle.pk_words.specs.declared.view.View.{View}
use Rattle.pk_words.specs.Views.{HasHold, HasResetting, AllRight, slots_in, again_view, arm_view, head_view, IsGiven}
use Rattle.pk_words.specs.Board.{head_of, members_at, IsBoard}
use Rattle.pk_words.specs.Told.{IsIdle, Restarted, Armed, HeadArmed}
use Rattle.pk_words.proofs.Wired.{axioms_of, member_below, head_below}
use Rattle.pk_words.proofs.Numbers.{low_part, high_part}
use Rattle.pk_words.proofs.Statuses.{found_later}
use Rattle.pk_words.proofs.Slots.{gives_all, valid_gives, carried_gives}
use Rattle.pk_words.proofs.Members.{head_first, later_member, inner_small}
use Rattle.pk_words.proofs.Again.{went_again}
use Rattle.pk_words.proofs.Arm.{done_found, armed, head_armed}
use Rattle.pk_words.proofs.Steps.{reads_at, counts_at}

-- the plan's own count of an element's predecessors in a component
pub inner_is : {C : Type 0} {b : Behaviour C} {w : Wiring} → IsWired b w → (x e : ℕ) → exits w.plan x ≡ true → inner (shape_of w.plan) x e ≡ inner_count w.plan (component_of w.plan x) e
inner_is {C} {b} {w} wired x e exit = counted_same (holds w.plan x) (is_inside w.plan (component_of w.plan x)) (predecessors_of w.plan e) (λ u h. here u (low u h))
  where
    low : (u : ℕ) → has u (predecessors_of w.plan e) ≡ true → u < w.plan.elements
    low u h = (axioms_of wired).shape.above u e ((axioms_of wired).shape.dual u e ∙ h)

    tells_below : (k n : ℕ) → k < n → ltb k n ≡ true
    tells_below k n h = grind (arith, nat_tests)

    here : (u : ℕ) → u < w.plan.elements → holds w.plan x u ≡ is_inside w.plan (component_of w.plan x) u
    here u below = let q = tells_below u w.plan.elements below in rw (exit, q) refl

-- the exit's cell goes home, and its component is to be gone through again
pub restarts : {C S : Type 0} (b : Behaviour C) (w : Wiring) (value : S → C → Type 0) (slots id x run : ℕ) (c : C) (me : Me S View) → slots ≡ slots_of w.layout → x < w.plan.elements → exits w.plan x ≡ true → HasHold me.0 x run → run < w.limit → me.0.out ≡ slots_in me.1
    → AllRight (λ k y. (value y c) × (owner_of w.layout k ≡ x)) me.1
    → ((k : ℕ) → k < slots_of w.layout → owner_of w.layout k ≡ x → has k (slots_in me.1) ≡ true)
    → (order : Level) (ends : Ends b order) → IsOrderOf (shape_of w.plan) order → IsGiven b true true x (values_read b (trace ends) x (run + 1)) c
    → Allows (IsBoard b w value) slots id me (x + 2) (λ _. (run + 1) * 1048576 + inner (shape_of w.plan) x x) (λ _. Restarted w.plan x me ((run + 1) * 1048576 + inner (shape_of w.plan) x x))
restarts {C} {S} b w value slots id x run c me count below exit hold room out all every order ends ordered given s board long at fits = (
  again_view x ((run + 1) * 1048576 + inner (shape_of w.plan) x x) (length (members_at w.plan x)) me.0,
  gives_all (length me.1),
  valid_gives s.homes me.1 (length me.1),
  went_again b w value s id x ((run + 1) * 1048576 + inner (shape_of w.plan) x x) me.0 me.1 c board at below exit hold.0 (omega (arith, room, hold.1))
      (ap (λ (r : ℕ). (r + 1) * 1048576 + inner (shape_of w.plan) x x) (sym hold.1))
      (long ∙ count) out all every
      (subst (λ (xs : List C). IsGiven b true true x xs c) (sym (reads_at b w value s board id x run me.0 at below hold order ends ordered)) given),
  ap (λ (xs : List (ℕ × S)). (again_view x ((run + 1) * 1048576 + inner (shape_of w.plan) x x) (length (members_at w.plan x)) me.0, xs)) (carried_gives me.1),
)

-- a member that isn't the head is armed
pub arms : {C S : Type 0} (b : Behaviour C) (w : Wiring) (value : S → C → Type 0) (slots id x left e amount : ℕ) (me : Me S View) → IsIdle me → HasResetting me.0 x (left + 1) → 0 < left → e ≡ get_or (members_at w.plan x) left 0 → amount + inner (shape_of w.plan) x e ≡ 262145
    → Allows (IsBoard b w value) slots id me (e + 2) (λ n. (n + (2 ^ 64 - amount)) % 2 ^ 64) (Armed x left e me)
arms {C} {S} b w value slots id x left e amount me no_slot reset some_left e_is amount_is s board long at fits =
    let core : State C = played b (shape_of w.plan) (start (shape_of w.plan)) board.events in
    let r = board.shows.restarts id me.0 at x reset.0 in
    let inside = subst (λ (j : ℕ). holds w.plan x j ≡ true) (sym e_is) (later_member board.wired x left r.2.exit some_left (omega (arith, reset.1, r.1))).0 in
    let below = member_below board.wired x e inside in
    let found : ℕ = get_or s.words (e + 2) 0 in
    let is : found ≡ run_number (core e) * 1048576 + 262145 = subst (λ (j : ℕ). get_or s.words (j + 2) 0 ≡ run_number (core j) * 1048576 + 262145) (sym e_is) (done_found b w value s id x left me.0 board at reset.0 reset.1 (subst (λ (j : ℕ). j < w.plan.elements) e_is below)) in
    let new : (found + (2 ^ 64 - amount)) % 2 ^ 64 ≡ run_number (core e) * 1048576 + inner (shape_of w.plan) x e = omega (arith, is, fits, amount_is, inner_small board.wired x e) in (
      arm_view x left e found me.0,
      keeps,
      tt,
      armed b w value s id x left e ((found + (2 ^ 64 - amount)) % 2 ^ 64) me.0 board at reset.0 reset.1 some_left e_is no_slot.1 new,
      (
        ap (λ (xs : List (ℕ × S)). (arm_view x left e found me.0, xs)) no_slot.0,
        ap (λ (m : ℕ). m % 1048576) is ∙ low_part (run_number (core e)) 262145 (omega arith),
        found_later b w value s id e me.0 board at below,
      ),
    )

-- the head is armed, and the pass has its Hold
pub arms_head : {C S : Type 0} (b : Behaviour C) (w : Wiring) (value : S → C → Type 0) (slots id x e : ℕ) (me : Me S View) → IsIdle me → HasResetting me.0 x 1 → e ≡ head_of w.plan x
    → Allows (IsBoard b w value) slots id me (e + 2) (λ n. (n + (2 ^ 64 - 262145)) % 2 ^ 64) (HeadArmed b w x e me)
arms_head {C} {S} b w value slots id x e me no_slot reset e_is s board long at fits =
    let core : State C = played b (shape_of w.plan) (start (shape_of w.plan)) board.events in
    let r = board.shows.restarts id me.0 at x reset.0 in
    let first : e ≡ get_or (members_at w.plan x) 0 0 = e_is ∙ sym (head_first board.wired x r.2.exit) in
    let below : e < w.plan.elements = subst (λ (j : ℕ). j < w.plan.elements) (sym e_is) (head_below board.wired x r.2.exit) in
    let found : ℕ = get_or s.words (e + 2) 0 in
    let is : found ≡ run_number (core e) * 1048576 + 262145 = subst (λ (j : ℕ). get_or s.words (j + 2) 0 ≡ run_number (core j) * 1048576 + 262145) (sym first) (done_found b w value s id x 0 me.0 board at reset.0 reset.1 (subst (λ (j : ℕ). j < w.plan.elements) first below)) in
    let new : (found + (2 ^ 64 - 262145)) % 2 ^ 64 ≡ run_number (core e) * 1048576 = omega (arith, is, fits) in
    let run_is : found / 1048576 ≡ run_number (core e) = ap (λ (m : ℕ). m / 1048576) is ∙ high_part (run_number (core e)) 262145 (omega arith) in (
      head_view x e found me.0,
      keeps,
      tt,
      head_armed b w value s id x e ((found + (2 ^ 64 - 262145)) % 2 ^ 64) me.0 board at reset.0 reset.1 e_is no_slot.1 new,
      (
        ap (λ (xs : List (ℕ × S)). (head_view x e found me.0, xs)) no_slot.0,
        ap (λ (m : ℕ). m % 1048576) is ∙ low_part (run_number (core e)) 262145 (omega arith),
        counts_at b w value s board e (found / 1048576) below (λ d. absurd (let h = ap (λ (j : ℕ). (core j).status) e_is ∙ r.2.head in cc)) run_is,
        found_later b w value s id e me.0 board at below,
      ),
    )
