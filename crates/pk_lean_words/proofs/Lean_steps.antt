-- Steps of the words' rule are steps under both rules.
use Rattle.std.proofs.Common.{◌≡◌, ◌≢◌, ℕ, ◌+◌, ◌-◌, ◌*◌, ◌%◌, ◌^◌, ◌<◌, ◌==◌, List, [], ◌∷◌, length, get_or, set, Bool, true, false, refl, sym, ap, subst, ◌∙◌, arith, slice_get, Some}
use prog.Atomic.{either}
use mathlib.Core.Option.{some}
use lib.ListN.{get_elem?}
use Rattle.atomic_table.specs.Table.{State as TableState, Me, Allows, Splits}
use Rattle.pk_plan.specs.Order.{Level}
use Rattle.pk_plan.specs.Plans.{end_of, successors_of}
use Rattle.pk_plan.specs.Shape.{has, holds, exits, shape_of}
use Rattle.pk_iterate.specs.Behaviour.{Behaviour}
use Rattle.pk_iterate.specs.Runs.{values_read}
use Rattle.pk_iterate.specs.Ending.{Ends, trace}
use Rattle.pk_core.specs.declared.events.Status.{Status}
use Rattle.pk_core.specs.Events.{inner}
use Rattle.pk_core.specs.Orders.{IsOrderOf}
use Rattle.pk_core.proofs.Basics.{not_true, same}
use Rattle.pk_core.proofs.Keeps.{is_done}
use Rattle.pk_core.proofs.Settled.{settle}
use Rattle.pk_layout.specs.Layouts.{slots_of, owner_of, reader_of}
use Rattle.pk_layout.specs.Wirings.{Wiring}
use Rattle.pk_lift.specs.Further.{AllRight}
use Rattle.pk_lift.proofs.Lifting.{lifts, splits_too}
use Rattle.pk_items.specs.Items.{top_of, EndsItem}
use Rattle.pk_items.proofs.Outermost.{tops_are_outermost}
use Rattle.pk_words.specs.declared.view.View.{View}
use Rattle.pk_words.specs.declared.why.Why.{Why}
use Rattle.pk_words.specs.Tokens.{times}
use Rattle.pk_words.specs.Views.{HasHold, HasSending, HasResetting, slots_in, new_view, split_view, IsGiven}
use Rattle.pk_words.specs.Board.{head_of, members_at, why_of, IsCause, IsBoard}
use Rattle.pk_words.specs.Kinds.{Kind, HasCell, IsGone, HasPart, IsCellOf, HasValue, Lean, is_over, IsRightKind, right_in, IsLeanBoard}
use Rattle.pk_words.specs.Laws.{core_of}
use Rattle.pk_words.specs.Reads.{HasEnd, IsReadAt}
use Rattle.pk_words.specs.Told.{IsIdle, Noted, Offered, Claimed, GivenBack, Sent, Finished, Ended, Restarted, Armed, HeadArmed, Stopping, StopFound}
use Rattle.pk_words.proofs.Wired.{axioms_of, last_in}
use Rattle.pk_words.proofs.Facts.{held}
use Rattle.pk_words.proofs.Members.{later_member, inner_small}
use Rattle.pk_words.proofs.Numbers.{low_part}
use Rattle.pk_words.proofs.Restart_steps.{restarts, arms, arms_head}
use Rattle.pk_words.proofs.Runs.{all_own}
use Rattle.pk_words.proofs.Sends.{target_found}
use Rattle.pk_words.proofs.Steps.{loads, offers, claims, sends_to, ends_at, gives_slot, finishes}
use Rattle.pk_words.proofs.Stops.{stops, stop_loads}
use Rattle.pk_words.proofs.Whole.{set_word, splits}
use Rattle.pk_lean_words.proofs.Overs.{reader_low, over_alike, over_other, over_never, word_in, held_word, reader_not_over, held_not_over}

-- neither word is done
undone : (n m : ℕ) → n % 1048576 ≢ 262145 → m % 1048576 ≢ 262145 → (n % 1048576 == 262145) ≡ (m % 1048576 == 262145)
undone n m not_n not_m = not_true (n % 1048576 == 262145) (λ q. absurd (not_n (same (n % 1048576) 262145 q))) ∙ sym (not_true (m % 1048576 == 262145) (λ q. absurd (not_m (same (m % 1048576) 262145 q))))

none_carried : {S : Type 0} (right : ℕ → S → Type 0) (xs : List (ℕ × S)) → xs ≡ [] → AllRight right xs
none_carried right xs is = subst (AllRight right) (sym is) tt

-- a slot that has a cell has its value
pub cell_value : {C P S : Type 0} (kind : S → Kind C P) (x : S) (c : C) → IsCellOf kind x c → HasValue kind x c
cell_value {C} {P} kind x c is = by_kind (kind x) is
  where
    by_kind : (k : Kind C P) → k ≡ HasCell c → HasValue (λ (j : Kind C P). j) k c
    by_kind (HasCell d) q = cc
    by_kind IsGone q = tt
    by_kind (HasPart part) q = tt

module _ {C P S : Type 0} (b : Behaviour C) (w : Wiring) (lean : Lean C P) (kind : S → Kind C P) where
  -- ---- what was right stays right

  -- whatever the word is read as
  pub right_loaded : (words : List ℕ) (i k : ℕ) (x : S) → right_in b w lean kind words k x → right_in b w lean kind (set words i (get_or words i 0)) k x
  right_loaded words i k x r = subst (λ (ns : List ℕ). right_in b w lean kind ns k x) (sym (set_word words i)) r

  right_kept : (words : List ℕ) (i n k : ℕ) (x : S) → is_over w.plan lean.lets_go (set words i n) (reader_of w.layout k) ≡ is_over w.plan lean.lets_go words (reader_of w.layout k)
      → right_in b w lean kind words k x → right_in b w lean kind (set words i n) k x
  right_kept words i n k x is r = subst (λ (over : Bool). IsRightKind b w lean over k (kind x)) (sym is) r

  right_undone : (words : List ℕ) (i n k : ℕ) (x : S) → i < length words → n % 1048576 ≢ 262145 → get_or words i 0 % 1048576 ≢ 262145 → right_in b w lean kind words k x → right_in b w lean kind (set words i n) k x
  right_undone words i n k x in_range now was r = right_kept words i n k x (over_alike w.plan lean.lets_go words i n (reader_of w.layout k) in_range (undone n (get_or words i 0) now was)) r

  right_other : (words : List ℕ) (i n k : ℕ) (x : S) → (reader_of w.layout k ≢ end_of w.plan → top_of w.plan (reader_of w.layout k) + 2 ≢ i) → right_in b w lean kind words k x → right_in b w lean kind (set words i n) k x
  right_other words i n k x apart r = right_kept words i n k x (over_other w.plan lean.lets_go words i n (reader_of w.layout k) apart) r

  -- a slot has its cell whose reader isn't over
  pub right_cell : (words : List ℕ) (k : ℕ) (x : S) (c : C) → is_over w.plan lean.lets_go words (reader_of w.layout k) ≡ false → IsCellOf kind x c → right_in b w lean kind words k x
  right_cell words k x c no_over is = subst (IsRightKind b w lean (is_over w.plan lean.lets_go words (reader_of w.layout k)) k) (sym is) no_over

  pub cell_of : (words : List ℕ) (k : ℕ) (x : S) → is_over w.plan lean.lets_go words (reader_of w.layout k) ≡ false → right_in b w lean kind words k x → (c : C) × IsCellOf kind x c
  cell_of words k x no_over r = by_kind (kind x) (subst (λ (over : Bool). IsRightKind b w lean over k (kind x)) no_over r)
    where
      by_kind : (j : Kind C P) → IsRightKind b w lean false k j → (c : C) × (j ≡ HasCell c)
      by_kind (HasCell c) h = (c, refl)
      by_kind IsGone h = absurd (let o = h.0 in cc)
      by_kind (HasPart part) h = absurd (let o = h.0 in cc)

  -- the cells that are carried of an element that isn't done are right
  cells_carried : (s : TableState S View) (board : IsBoard b w (HasValue kind) s) (id e : ℕ) (c : C) (v : View) (xs : List (ℕ × S)) → get_elem? s.views id ≡ some v → e < w.plan.elements → 0 < times e v.holds
      → AllRight (λ k x. IsCellOf kind x c × (owner_of w.layout k ≡ e)) xs → AllRight (right_in b w lean kind s.words) xs
  cells_carried s board id e c v xs at below mine all = all_own (λ k x. IsCellOf kind x c × (owner_of w.layout k ≡ e)) (right_in b w lean kind s.words) xs
      (λ k x h.
      right_cell s.words k x c
      (reader_not_over b w (HasValue kind) s board lean.lets_go k (ap (λ (j : ℕ). is_done (settle (core_of board j).status)) h.1 ∙ ap (λ (st : Status). is_done (settle st)) (held board.shows id e v at below mine)))
      h.0)
      all

  values_carried : (e : ℕ) (c : C) (xs : List (ℕ × S)) → AllRight (λ k x. IsCellOf kind x c × (owner_of w.layout k ≡ e)) xs → AllRight (λ k x. HasValue kind x c × (owner_of w.layout k ≡ e)) xs
  values_carried e c xs all = all_own (λ k x. IsCellOf kind x c × (owner_of w.layout k ≡ e)) (λ k x. HasValue kind x c × (owner_of w.layout k ≡ e)) xs (λ k x h. (cell_value kind x c h.0, h.1)) all

  -- ---- the steps

  -- a load of an element's word
  pub lean_loads : (slots id e : ℕ) (me : Me S View) → e < w.plan.elements → IsIdle me → Allows (IsLeanBoard b w lean kind) slots id me (e + 2) (λ n. n) (Noted e me)
  lean_loads slots id e me below no_slot =
      lifts (IsBoard b w (HasValue kind)) (right_in b w lean kind) slots id me (e + 2) (λ n. n) (Noted e me) (loads b w (HasValue kind) slots id e me below no_slot)
      (λ s board at fits new told k x r. right_loaded s.words (e + 2) k x r)
      (λ s board at. none_carried (right_in b w lean kind s.words) me.1 no_slot.0)

  pub lean_offers : (slots id e run : ℕ) (me : Me S View) → e < w.plan.elements → IsIdle me → HasHold me.0 e run
      → Allows (IsLeanBoard b w lean kind) slots id me (e + 2) (λ _. run * 1048576 + 262144) (λ _. Offered e me (run * 1048576 + 262144))
  lean_offers slots id e run me below no_slot hold =
      lifts (IsBoard b w (HasValue kind)) (right_in b w lean kind) slots id me (e + 2) (λ _. run * 1048576 + 262144) (λ _. Offered e me (run * 1048576 + 262144)) (offers b w (HasValue kind) slots id e run me below no_slot hold)
      (λ s board at fits new told k x r.
      right_undone s.words (e + 2) (run * 1048576 + 262144) k x (word_in b w (HasValue kind) s board e below)
      (λ q. absurd (omega (arith, q, low_part run 262144 (omega arith))))
      (λ q. absurd (omega (arith, q, held_word b w (HasValue kind) s board id e me.0 at below hold.0)))
      r)
      (λ s board at. none_carried (right_in b w lean kind s.words) me.1 no_slot.0)

  pub lean_claims : (slots id e asked : ℕ) (me : Me S View) → e < w.plan.elements → IsIdle me → asked % 1048576 ≡ 262144
      → Allows (IsLeanBoard b w lean kind) slots id me (e + 2) (λ n. either (n == asked) (asked - 262144) n) (Claimed b w e asked me)
  lean_claims slots id e asked me below no_slot open_low =
      lifts (IsBoard b w (HasValue kind)) (right_in b w lean kind) slots id me (e + 2) (λ n. either (n == asked) (asked - 262144) n) (Claimed b w e asked me) (claims b w (HasValue kind) slots id e asked me below no_slot open_low)
      (λ s board at fits new told k x r. by_found s board k x r (get_or s.words (e + 2) 0 == asked) refl)
      (λ s board at. none_carried (right_in b w lean kind s.words) me.1 no_slot.0)
    where
      by_found : (s : TableState S View) → IsBoard b w (HasValue kind) s → (k : ℕ) (x : S) → right_in b w lean kind s.words k x → (t : Bool) → (get_or s.words (e + 2) 0 == asked) ≡ t
          → right_in b w lean kind (set s.words (e + 2) (either (get_or s.words (e + 2) 0 == asked) (asked - 262144) (get_or s.words (e + 2) 0))) k x
      by_found s board k x r true q =
          let is = same (get_or s.words (e + 2) 0) asked q in
          subst (λ (t : Bool). right_in b w lean kind (set s.words (e + 2) (either t (asked - 262144) (get_or s.words (e + 2) 0))) k x) (sym q)
          (right_undone s.words (e + 2) (asked - 262144) k x (word_in b w (HasValue kind) s board e below)
          (λ h. absurd (omega (arith, h, open_low)))
          (λ h. absurd (omega (arith, h, is, open_low)))
          r)
      by_found s board k x r false q =
          subst (λ (t : Bool). right_in b w lean kind (set s.words (e + 2) (either t (asked - 262144) (get_or s.words (e + 2) 0))) k x) (sym q)
          (right_loaded s.words (e + 2) k x r)

  pub lean_sends_to : (slots id a i tgt : ℕ) (me : Me S View) → a < w.plan.elements → IsIdle me → HasSending me.0 a i → i < length (successors_of w.plan a) → tgt ≡ get_or (successors_of w.plan a) i 0
      → Allows (IsLeanBoard b w lean kind) slots id me (tgt + 2) (λ n. (n + (2 ^ 64 - 1)) % 2 ^ 64) (Sent b w a i me)
  lean_sends_to slots id a i tgt me low_a no_slot sending in_range tgt_is =
      lifts (IsBoard b w (HasValue kind)) (right_in b w lean kind) slots id me (tgt + 2) (λ n. (n + (2 ^ 64 - 1)) % 2 ^ 64) (Sent b w a i me) (sends_to b w (HasValue kind) slots id a i tgt me low_a no_slot sending in_range tgt_is)
      (λ s board at fits new told k x r.
      let below : tgt < w.plan.elements = subst (λ (j : ℕ). j < w.plan.elements) (sym tgt_is) (target_found b w (HasValue kind) s id a i me.0 board at low_a sending.0 (sym sending.1) in_range).4 in
      let less : (get_or s.words (tgt + 2) 0 + (2 ^ 64 - 1)) % 2 ^ 64 + 1 ≡ get_or s.words (tgt + 2) 0 = omega (arith, fits, told.1) in
      right_undone s.words (tgt + 2) ((get_or s.words (tgt + 2) 0 + (2 ^ 64 - 1)) % 2 ^ 64) k x (word_in b w (HasValue kind) s board tgt below)
      (λ h. absurd (omega (arith, h, less, told.1, told.2)))
      (λ h. absurd (omega (arith, h, told.2)))
      r)
      (λ s board at. none_carried (right_in b w lean kind s.words) me.1 no_slot.0)

  -- the last element is seen done, or not
  pub lean_ends_at : (slots id : ℕ) (me : Me S View) → IsIdle me → Allows (IsLeanBoard b w lean kind) slots id me (end_of w.plan + 2) (λ n. n) (Ended (end_of w.plan) me)
  lean_ends_at slots id me no_slot =
      lifts (IsBoard b w (HasValue kind)) (right_in b w lean kind) slots id me (end_of w.plan + 2) (λ n. n) (Ended (end_of w.plan) me) (ends_at b w (HasValue kind) slots id me no_slot)
      (λ s board at fits new told k x r. right_loaded s.words (end_of w.plan + 2) k x r)
      (λ s board at. none_carried (right_in b w lean kind s.words) me.1 no_slot.0)

  -- a store of why
  pub lean_stops : (slots id n : ℕ) (me : Me S View) → IsIdle me → n ≢ 0 → ((why : Why) → why_of w.limit n ≡ Some why → IsCause b w why) → Allows (IsLeanBoard b w lean kind) slots id me 1 (λ _. n) (λ _. Stopping me n)
  lean_stops slots id n me no_slot some_n cause =
      lifts (IsBoard b w (HasValue kind)) (right_in b w lean kind) slots id me 1 (λ _. n) (λ _. Stopping me n) (stops b w (HasValue kind) slots id n me no_slot some_n cause)
      (λ s board at fits new told k x r. right_other s.words 1 n k x (λ ne q. absurd (omega (arith, q))) r)
      (λ s board at. none_carried (right_in b w lean kind s.words) me.1 no_slot.0)

  -- a load of the stop word
  pub lean_stop_loads : (slots id : ℕ) (me : Me S View) → IsIdle me → Allows (IsLeanBoard b w lean kind) slots id me 1 (λ n. n) (StopFound b w me)
  lean_stop_loads slots id me no_slot =
      lifts (IsBoard b w (HasValue kind)) (right_in b w lean kind) slots id me 1 (λ n. n) (StopFound b w me) (stop_loads b w (HasValue kind) slots id me no_slot)
      (λ s board at fits new told k x r. right_loaded s.words 1 k x r)
      (λ s board at. none_carried (right_in b w lean kind s.words) me.1 no_slot.0)

  pub lean_splits : (id : ℕ) (v : View) → Splits (IsLeanBoard b w lean kind) id v (split_view v) (new_view v)
  lean_splits id v = splits_too (IsBoard b w (HasValue kind)) (right_in b w lean kind) id v (split_view v) (new_view v) (splits b w (HasValue kind) id v)

  -- the word of a component's member is no item's last element's
  right_member : (s : TableState S View) → IsBoard b w (HasValue kind) s → (y e n k : ℕ) (x : S) → holds w.plan y e ≡ true → right_in b w lean kind s.words k x → right_in b w lean kind (set s.words (e + 2) n) k x
  right_member s board y e n k x member r = right_other s.words (e + 2) n k x
      (λ ne q. absurd (
      let r_low = reader_low board.wired k in
      let out = ((tops_are_outermost w.plan board.wired.axioms).under (reader_of w.layout k) r_low).outermost y in
      let at : top_of w.plan (reader_of w.layout k) ≡ e = omega (arith, q) in
      let inside : holds w.plan y (top_of w.plan (reader_of w.layout k)) ≡ true = subst (λ (j : ℕ). holds w.plan y j ≡ true) (sym at) member in
      cc))
      r

  -- a member that isn't the head is armed
  pub lean_arms : (slots id x left e amount : ℕ) (me : Me S View) → IsIdle me → HasResetting me.0 x (left + 1) → 0 < left → e ≡ get_or (members_at w.plan x) left 0 → amount + inner (shape_of w.plan) x e ≡ 262145
      → Allows (IsLeanBoard b w lean kind) slots id me (e + 2) (λ n. (n + (2 ^ 64 - amount)) % 2 ^ 64) (Armed x left e me)
  lean_arms slots id x left e amount me no_slot reset some_left e_is amount_is =
      lifts (IsBoard b w (HasValue kind)) (right_in b w lean kind) slots id me (e + 2) (λ n. (n + (2 ^ 64 - amount)) % 2 ^ 64) (Armed x left e me) (arms b w (HasValue kind) slots id x left e amount me no_slot reset some_left e_is amount_is)
      (λ s board at fits new told k y r.
      let rs = board.shows.restarts id me.0 at x reset.0 in
      let inside = subst (λ (j : ℕ). holds w.plan x j ≡ true) (sym e_is) (later_member board.wired x left rs.2.exit some_left (omega (arith, reset.1, rs.1))).0 in
      right_member s board x e ((get_or s.words (e + 2) 0 + (2 ^ 64 - amount)) % 2 ^ 64) k y inside r)
      (λ s board at. none_carried (right_in b w lean kind s.words) me.1 no_slot.0)

  -- the head is armed, and the pass has its Hold
  pub lean_arms_head : (slots id x e : ℕ) (me : Me S View) → IsIdle me → HasResetting me.0 x 1 → e ≡ head_of w.plan x
      → Allows (IsLeanBoard b w lean kind) slots id me (e + 2) (λ n. (n + (2 ^ 64 - 262145)) % 2 ^ 64) (HeadArmed b w x e me)
  lean_arms_head slots id x e me no_slot reset e_is =
      lifts (IsBoard b w (HasValue kind)) (right_in b w lean kind) slots id me (e + 2) (λ n. (n + (2 ^ 64 - 262145)) % 2 ^ 64) (HeadArmed b w x e me) (arms_head b w (HasValue kind) slots id x e me no_slot reset e_is)
      (λ s board at fits new told k y r.
      let rs = board.shows.restarts id me.0 at x reset.0 in
      let inside : holds w.plan x e ≡ true = subst (λ (j : ℕ). holds w.plan x j ≡ true) (sym e_is) ((axioms_of board.wired).shape.head_inside x rs.2.exit) in
      right_member s board x e ((get_or s.words (e + 2) 0 + (2 ^ 64 - 262145)) % 2 ^ 64) k y inside r)
      (λ s board at. none_carried (right_in b w lean kind s.words) me.1 no_slot.0)

  -- the exit's cell goes home, and its component is to be gone through again
  pub lean_restarts : (slots id x run : ℕ) (c : C) (me : Me S View) → slots ≡ slots_of w.layout → x < w.plan.elements → exits w.plan x ≡ true → HasHold me.0 x run → run < w.limit → me.0.out ≡ slots_in me.1
      → AllRight (λ k y. IsCellOf kind y c × (owner_of w.layout k ≡ x)) me.1
      → ((k : ℕ) → k < slots_of w.layout → owner_of w.layout k ≡ x → has k (slots_in me.1) ≡ true)
      → (order : Level) (ends : Ends b order) → IsOrderOf (shape_of w.plan) order → IsGiven b true true x (values_read b (trace ends) x (run + 1)) c
      → Allows (IsLeanBoard b w lean kind) slots id me (x + 2) (λ _. (run + 1) * 1048576 + inner (shape_of w.plan) x x) (λ _. Restarted w.plan x me ((run + 1) * 1048576 + inner (shape_of w.plan) x x))
  lean_restarts slots id x run c me count below exit hold room out all every order ends ordered given =
      lifts (IsBoard b w (HasValue kind)) (right_in b w lean kind) slots id me (x + 2) (λ _. (run + 1) * 1048576 + inner (shape_of w.plan) x x) (λ _. Restarted w.plan x me ((run + 1) * 1048576 + inner (shape_of w.plan) x x))
      (restarts b w (HasValue kind) slots id x run c me count below exit hold room out (values_carried x c me.1 all) every order ends ordered given)
      (λ s board at fits new told k y r.
      right_undone s.words (x + 2) ((run + 1) * 1048576 + inner (shape_of w.plan) x x) k y (word_in b w (HasValue kind) s board x below)
      (λ q. absurd (omega (arith, q, inner_small board.wired x x)))
      (λ q. absurd (omega (arith, q, held_word b w (HasValue kind) s board id x me.0 at below hold.0)))
      r)
      (λ s board at. cells_carried s board id x c me.0 me.1 at below hold.0 all)

  -- the run's cell goes home, where the run ends no item, or no cell is let go of
  pub lean_finishes : (slots id e run : ℕ) (c : C) (me : Me S View) → (lean.lets_go ≡ true → EndsItem w.plan e → ⊥) → slots ≡ slots_of w.layout → e < w.plan.elements → HasHold me.0 e run → run < w.limit → me.0.out ≡ slots_in me.1
      → AllRight (λ k x. IsCellOf kind x c × (owner_of w.layout k ≡ e)) me.1
      → ((k : ℕ) → k < slots_of w.layout → owner_of w.layout k ≡ e → has k (slots_in me.1) ≡ true)
      → (order : Level) (ends : Ends b order) → IsOrderOf (shape_of w.plan) order → IsGiven b (exits w.plan e) false e (values_read b (trace ends) e (run + 1)) c
      → Allows (IsLeanBoard b w lean kind) slots id me (e + 2) (λ _. (run + 1) * 1048576 + 262145) (λ _. Finished w.plan e me ((run + 1) * 1048576 + 262145))
  lean_finishes slots id e run c me goes_on count below hold room out all every order ends ordered given =
      lifts (IsBoard b w (HasValue kind)) (right_in b w lean kind) slots id me (e + 2) (λ _. (run + 1) * 1048576 + 262145) (λ _. Finished w.plan e me ((run + 1) * 1048576 + 262145))
      (finishes b w (HasValue kind) slots id e run c me count below hold room out (values_carried e c me.1 all) every order ends ordered given)
      (λ s board at fits new told k x r. by_lets s board k x r (lean.lets_go) refl)
      (λ s board at. cells_carried s board id e c me.0 me.1 at below hold.0 all)
    where
      by_lets : (s : TableState S View) → IsBoard b w (HasValue kind) s → (k : ℕ) (x : S) → right_in b w lean kind s.words k x → (t : Bool) → lean.lets_go ≡ t → right_in b w lean kind (set s.words (e + 2) ((run + 1) * 1048576 + 262145)) k x
      by_lets s board k x r false never = right_kept s.words (e + 2) ((run + 1) * 1048576 + 262145) k x
          (over_never w.plan lean.lets_go (set s.words (e + 2) ((run + 1) * 1048576 + 262145)) (reader_of w.layout k) never ∙ sym (over_never w.plan lean.lets_go s.words (reader_of w.layout k) never))
          r
      by_lets s board k x r true goes = right_other s.words (e + 2) ((run + 1) * 1048576 + 262145) k x
          (λ ne q.
          let low_r = reader_low board.wired k in
          let last : end_of w.plan + 1 ≡ w.plan.elements = omega (arith, last_in board.wired) in
          let at : top_of w.plan (reader_of w.layout k) ≡ e = omega (arith, q) in
          goes_on goes (subst (EndsItem w.plan) at ((tops_are_outermost w.plan board.wired.axioms).ends (reader_of w.layout k) (omega (arith, low_r, ne, last)))))
          r

  -- the one slot that is out goes back
  pub lean_gives_slot : (slots id e run place k : ℕ) (x : S) (me : Me S View) → slots ≡ slots_of w.layout → e < w.plan.elements → HasHold me.0 e run → me.1 ≡ (k, x) ∷ [] → me.0.out ≡ k ∷ [] → slice_get (b.reads e) place ≡ Some (owner_of w.layout k) → reader_of w.layout k ≡ e → HasEnd b w.plan
      → (c : C) → IsCellOf kind x c → IsReadAt b w.plan e (run + 1) place c
      → Allows (IsLeanBoard b w lean kind) slots id me (e + 2) (λ n. n) (GivenBack me)
  lean_gives_slot slots id e run place k x me count below hold slot_is out_is here by has_end c is read =
      lifts (IsBoard b w (HasValue kind)) (right_in b w lean kind) slots id me (e + 2) (λ n. n) (GivenBack me)
      (gives_slot b w (HasValue kind) slots id e run place k x me count below hold slot_is out_is here has_end c (cell_value kind x c is) read)
      (λ s board at fits new told j y r. right_loaded s.words (e + 2) j y r)
      (λ s board at.
      let no_over = ap (is_over w.plan lean.lets_go s.words) by ∙ held_not_over b w (HasValue kind) s board lean.lets_go id e me.0 at below hold.0 in
      subst (AllRight (right_in b w lean kind s.words)) (sym slot_is) (right_cell s.words k x c no_over is, tt))
