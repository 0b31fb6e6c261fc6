-- Steps under both rules that take slots, and give one back.
use Rattle.std.proofs.Common.{◌≡◌, ◌≢◌, ℕ, ◌+◌, ◌*◌, ◌<◌, List, [], ◌∷◌, get_or, set, false, refl, sym, ap, subst, ◌∙◌, arith, inr, ◌⊎◌}
use mathlib.Core.Option.{some, none}
use lib.ListN.{get_elem?}
use Rattle.atomic_table.specs.Table.{State as TableState, Me, Allows, takes, carried_after, homes_after}
use Rattle.pk_plan.specs.Order.{Level}
use Rattle.pk_plan.specs.Shape.{has, exits, shape_of}
use Rattle.pk_iterate.specs.Behaviour.{Behaviour}
use Rattle.pk_iterate.specs.Runs.{values_read}
use Rattle.pk_iterate.specs.Ending.{Ends, trace}
use Rattle.pk_core.specs.States.{State, cell_in, run_number}
use Rattle.pk_core.specs.Orders.{IsOrderOf}
use Rattle.pk_layout.specs.Layouts.{slots_of, owner_of, reader_of, IsInputSlot}
use Rattle.pk_layout.specs.Wirings.{Wiring}
use Rattle.pk_lift.specs.Further.{Further, AllRight}
use Rattle.pk_lift.proofs.Lifting.{lifts, taken_right, tells_too}
use Rattle.pk_items.specs.Items.{top_of, EndsItem}
use Rattle.pk_words.specs.declared.view.View.{View}
use Rattle.pk_words.specs.Tokens.{times}
use Rattle.pk_words.specs.Views.{HasHold, take_view, read_view, idle, IsGiven}
use Rattle.pk_words.specs.Board.{IsBoard}
use Rattle.pk_words.specs.Kinds.{Kind, HasCell, IsGone, HasPart, IsCellOf, HasValue, Lean, is_over, right_in, IsLeanBoard}
use Rattle.pk_words.specs.Laws.{core_of}
use Rattle.pk_words.specs.Reads.{HasEnd}
use Rattle.pk_words.specs.Told.{IsIdle, Noted, Taken, InputTaken, GivenBack}
use Rattle.pk_words.proofs.Lists.{seen_next}
use Rattle.pk_words.proofs.Facts.{at_home}
use Rattle.pk_words.proofs.Slots.{gives_all, valid_gives, taken, taken_under, given}
use Rattle.pk_words.proofs.Steps.{agrees_at, read_at}
use Rattle.pk_lean_words.specs.Members.{IsLastCell, MemberTaken}
use Rattle.pk_lean_words.proofs.Overs.{reader_low, held_not_over, item_held_not_over}
use Rattle.pk_lean_words.proofs.Lean_steps.{cell_value, right_loaded, right_cell, cell_of, lean_loads}
use Rattle.pk_lean_words.proofs.Last_runs.{last_cell, last_own}
use Rattle.pk_lean_words.proofs.Item_slots.{item_touch, item_slot_home}

-- the cell that a slot has is its value
pub value_cell : {C P S : Type 0} (kind : S → Kind C P) (x : S) (c d : C) → IsCellOf kind x c → HasValue kind x d → c ≡ d
value_cell {C} {P} kind x c d is v = by_kind (kind x) is v
  where
    by_kind : (k : Kind C P) → k ≡ HasCell c → HasValue (λ (j : Kind C P). j) k d → c ≡ d
    by_kind (HasCell e) q h = cc
    by_kind IsGone q h = absurd (cc)
    by_kind (HasPart part) q h = absurd (cc)

module _ {C P S : Type 0} (b : Behaviour C) (w : Wiring) (lean : Lean C P) (kind : S → Kind C P) where
  still_right : (s : TableState S View) (i k id : ℕ) (v : View) → Further (right_in b w lean kind) s → Further (right_in b w lean kind) (record { words = set s.words i (get_or s.words i 0); homes = set s.homes k none; views = set s.views id v })
  still_right s i k id v further = record { homes = λ j x here. right_loaded b w lean kind s.words i j x (taken_right (right_in b w lean kind s.words) s.homes k further.homes j x here) }

  -- a slot of a Hold's element is taken
  pub lean_takes_slot : (slots id e k : ℕ) (me : Me S View) (right : S → Type 0) → slots ≡ slots_of w.layout → e < w.plan.elements → 0 < times e me.0.holds → k < slots_of w.layout → (owner_of w.layout k ≡ e) ⊎ (reader_of w.layout k ≡ e) → has k me.0.out ≡ false
      → ((s : TableState S View) (board : IsBoard b w (HasValue kind) s) → get_elem? s.views id ≡ some me.0 → (x : S) → HasValue kind x (cell_in b (core_of board) (owner_of w.layout k)) → right_in b w lean kind s.words k x → right x)
      → Allows (IsLeanBoard b w lean kind) slots id me (e + 2) (λ n. n) (Taken right k me)
  lean_takes_slot slots id e k me right count below mine in_slots of_e not_out tells s both long at fits =
      let h = at_home b w (HasValue kind) s both.0 id e k me.0 at below mine in_slots (long ∙ count) of_e not_out in (
        take_view k me.0,
        takes k h.0,
        h.1,
        (taken b w (HasValue kind) s id e k me.0 (take_view k me.0) refl both.0 at below mine of_e refl refl refl refl refl refl (both.0.shows.noted id me.0 at), still_right s (e + 2) k id (take_view k me.0) both.1),
        (h.0, refl, tells s both.0 at h.0 h.2 (both.1.homes k h.0 h.1)),
      )

  -- so is a slot that an element reads whose item's last element is held
  pub lean_takes_item_slot : (slots id x k : ℕ) (me : Me S View) (right : S → Type 0) → slots ≡ slots_of w.layout → x < w.plan.elements → 0 < times x me.0.holds → k < slots_of w.layout → top_of w.plan (reader_of w.layout k) ≡ x → has k me.0.out ≡ false
      → ((s : TableState S View) (board : IsBoard b w (HasValue kind) s) → get_elem? s.views id ≡ some me.0 → (y : S) → HasValue kind y (cell_in b (core_of board) (owner_of w.layout k)) → right_in b w lean kind s.words k y → right y)
      → Allows (IsLeanBoard b w lean kind) slots id me (x + 2) (λ n. n) (Taken right k me)
  lean_takes_item_slot slots id x k me right count below mine in_slots top not_out tells s both long at fits =
      let h = item_slot_home b w (HasValue kind) s both.0 id x k me.0 at below mine in_slots (long ∙ count) top not_out in (
        take_view k me.0,
        takes k h.0,
        h.1,
        (taken_under b w (HasValue kind) s id x k me.0 (take_view k me.0) refl both.0 at below (inr (item_touch b w (HasValue kind) s both.0 x k me.0 below mine top)) refl refl refl refl refl refl (both.0.shows.noted id me.0 at), still_right s (x + 2) k id (take_view k me.0) both.1),
        (h.0, refl, tells s both.0 at h.0 h.2 (both.1.homes k h.0 h.1)),
      )

  -- the slot of what a run reads at a place is taken, and it has its cell
  pub lean_takes_input : (slots id e run place k : ℕ) (me : Me S View) → slots ≡ slots_of w.layout → e < w.plan.elements → HasHold me.0 e run → IsInputSlot b w.layout e place k → has k me.0.out ≡ false
      → Allows (IsLeanBoard b w lean kind) slots id me (e + 2) (λ n. n) (InputTaken b w (IsCellOf kind) e run place (owner_of w.layout k) k me)
  lean_takes_input slots id e run place k me count below hold input not_out s both long at fits =
      let core : State C = core_of both.0 in
      let u : ℕ = owner_of w.layout k in
      let seen : ℕ = run_number (core u) in
      let low_u = both.0.wired.laid_out.owned k input.0 in
      let h = at_home b w (HasValue kind) s both.0 id e k me.0 at below hold.0 input.0 (long ∙ count) (inr input.2) not_out in
      let no_over = ap (is_over w.plan lean.lets_go s.words) input.2 ∙ held_not_over b w (HasValue kind) s both.0 lean.lets_go id e me.0 at below hold.0 in
      let c = cell_of b w lean kind s.words k h.0 no_over (both.1.homes k h.0 h.1) in
      let is : IsCellOf kind h.0 (cell_in b core u) = subst (IsCellOf kind h.0) (value_cell kind h.0 c.0 (cell_in b core u) c.1 h.2) c.1 in (
        read_view k u seen me.0,
        takes k h.0,
        h.1,
        (
          taken b w (HasValue kind) s id e k me.0 (read_view k u seen me.0) refl both.0 at below hold.0 (inr input.2) refl refl refl refl refl refl
              (λ j low_j. seen_next (λ (i : ℕ). run_number (core i)) u (seen * 1048576) me.0.notes j (omega arith) (both.0.shows.noted id me.0 at j low_j)),
          still_right s (e + 2) k id (read_view k u seen me.0) both.1,
        ),
        (
          h.0,
          seen,
          refl,
          both.0.shows.noted id me.0 at u low_u,
          (
            cell_in b core u,
            is,
            (λ order ends ordered. sym ((agrees_at b w (HasValue kind) s both.0 order ends ordered).cells u)),
            read_at b w (HasValue kind) s both.0 id e run place u me.0 at below hold input.1,
          ),
        ),
      )

  -- Before x's last run the first slot of another element of its item is taken, and it has that element's last cell.
  pub lean_takes_member : (slots id x run u k : ℕ) (me : Me S View) → slots ≡ slots_of w.layout → x < w.plan.elements → HasHold me.0 x run → k < slots_of w.layout → owner_of w.layout k ≡ u → reader_of w.layout k ≡ u → top_of w.plan u ≡ x → u ≢ x → has k me.0.out ≡ false
      → (c : C) → ((order : Level) (ends : Ends b order) → IsOrderOf (shape_of w.plan) order → IsGiven b (exits w.plan x) false x (values_read b (trace ends) x (run + 1)) c)
      → Allows (IsLeanBoard b w lean kind) slots id me (x + 2) (λ n. n) (MemberTaken b w kind u k me)
  lean_takes_member slots id x run u k me count below hold in_slots own by top apart not_out c given s both long at fits =
      let core : State C = core_of both.0 in
      let low_u : u < w.plan.elements = subst (λ (j : ℕ). j < w.plan.elements) own (both.0.wired.laid_out.owned k in_slots) in
      let seen : ℕ = run_number (core u) in
      let top_r : top_of w.plan (reader_of w.layout k) ≡ x = ap (top_of w.plan) by ∙ top in
      let h = item_slot_home b w (HasValue kind) s both.0 id x k me.0 at below hold.0 in_slots (long ∙ count) top_r not_out in
      let no_over = item_held_not_over b w (HasValue kind) s both.0 lean.lets_go id x (reader_of w.layout k) me.0 at below hold.0 (reader_low both.0.wired k) top_r in
      let d = cell_of b w lean kind s.words k h.0 no_over (both.1.homes k h.0 h.1) in
      let value_is : HasValue kind h.0 (cell_in b core u) = subst (λ (j : ℕ). HasValue kind h.0 (cell_in b core j)) own h.2 in
      let is : IsCellOf kind h.0 (cell_in b core u) = subst (IsCellOf kind h.0) (value_cell kind h.0 d.0 (cell_in b core u) d.1 value_is) d.1 in (
        read_view k u seen me.0,
        takes k h.0,
        h.1,
        (
          taken_under b w (HasValue kind) s id x k me.0 (read_view k u seen me.0) refl both.0 at below (inr (item_touch b w (HasValue kind) s both.0 x k me.0 below hold.0 top_r)) refl refl refl refl refl refl
              (λ j low_j. seen_next (λ (i : ℕ). run_number (core i)) u (seen * 1048576) me.0.notes j (omega arith) (both.0.shows.noted id me.0 at j low_j)),
          still_right s (x + 2) k id (read_view k u seen me.0) both.1,
        ),
        (
          h.0,
          seen,
          refl,
          both.0.shows.noted id me.0 at u low_u,
          (
            cell_in b core u,
            is,
            (λ order ends ordered. sym ((agrees_at b w (HasValue kind) s both.0 order ends ordered).cells u)),
            (λ order ends ordered. last_cell b w (HasValue kind) s both.0 id x run me.0 at below hold c order ends ordered (given order ends ordered) u low_u top apart),
          ),
        ),
      )

  -- the one slot that is out goes back, where it has its owner's cell whenever the step comes
  gives_own : (slots id e k : ℕ) (x : S) (me : Me S View) → slots ≡ slots_of w.layout → e < w.plan.elements → me.1 ≡ (k, x) ∷ [] → me.0.out ≡ k ∷ []
      → ((s : TableState S View) (board : IsBoard b w (HasValue kind) s) → get_elem? s.views id ≡ some me.0 → HasValue kind x (cell_in b (core_of board) (owner_of w.layout k)))
      → Allows (IsBoard b w (HasValue kind)) slots id me (e + 2) (λ n. n) (GivenBack me)
  gives_own slots id e k x me count below slot_is out_is value_is s board long at fits = (
    idle me.0,
    gives_all 1,
    valid_gives s.homes me.1 1,
    subst (λ (xs : List (ℕ × S)). IsBoard b w (HasValue kind) (record { words = set s.words (e + 2) (get_or s.words (e + 2) 0); homes = homes_after s.homes xs (gives_all 1); views = set s.views id (idle me.0) })) (sym slot_is)
        (given b w (HasValue kind) s id e me.0 ((k, x) ∷ []) board at below (long ∙ count) out_is (value_is s board at, tt)),
    ap (λ (xs : List (ℕ × S)). (idle me.0, carried_after xs (gives_all 1))) slot_is,
  )

  pub lean_gives_member : (slots id x run u k : ℕ) (y : S) (me : Me S View) → slots ≡ slots_of w.layout → x < w.plan.elements → HasHold me.0 x run → me.1 ≡ (k, y) ∷ [] → me.0.out ≡ k ∷ [] → k < slots_of w.layout → owner_of w.layout k ≡ u → reader_of w.layout k ≡ u → top_of w.plan u ≡ x → u ≢ x → HasEnd b w.plan
      → (d : C) → IsCellOf kind y d → IsLastCell b w.plan u d
      → (c : C) → ((order : Level) (ends : Ends b order) → IsOrderOf (shape_of w.plan) order → IsGiven b (exits w.plan x) false x (values_read b (trace ends) x (run + 1)) c)
      → Allows (IsLeanBoard b w lean kind) slots id me (x + 2) (λ n. n) (GivenBack me)
  lean_gives_member slots id x run u k y me count below hold slot_is out_is in_slots own by top apart has_end d is last c given =
      lifts (IsBoard b w (HasValue kind)) (right_in b w lean kind) slots id me (x + 2) (λ n. n) (GivenBack me)
      (gives_own slots id x k y me count below slot_is out_is (λ s board at.
      let low_u : u < w.plan.elements = subst (λ (j : ℕ). j < w.plan.elements) own (board.wired.laid_out.owned k in_slots) in
      let now = last_cell b w (HasValue kind) s board id x run me.0 at below hold c has_end.0 has_end.1 has_end.2 (given has_end.0 has_end.1 has_end.2) u low_u top apart in
      let then = last has_end.0 has_end.1 has_end.2 in
      cell_value kind y (cell_in b (core_of board) (owner_of w.layout k)) (subst (IsCellOf kind y) (then ∙ sym now ∙ ap (cell_in b (core_of board)) (sym own)) is)))
      (λ s board at fits new told j z r. right_loaded b w lean kind s.words (x + 2) j z r)
      (λ s board at.
      let top_r : top_of w.plan (reader_of w.layout k) ≡ x = ap (top_of w.plan) by ∙ top in
      let no_over = item_held_not_over b w (HasValue kind) s board lean.lets_go id x (reader_of w.layout k) me.0 at below hold.0 (reader_low board.wired k) top_r in
      subst (AllRight (right_in b w lean kind s.words)) (sym slot_is) (right_cell b w lean kind s.words k y d no_over is, tt))

  -- A load tells that the last run of an item's last element gives the cell that the recursion leaves.
  pub lean_loads_last : (slots id x run : ℕ) (me : Me S View) → EndsItem w.plan x → IsIdle me → HasHold me.0 x run
      → (c : C) → ((order : Level) (ends : Ends b order) → IsOrderOf (shape_of w.plan) order → IsGiven b (exits w.plan x) false x (values_read b (trace ends) x (run + 1)) c)
      → Allows (IsLeanBoard b w lean kind) slots id me (x + 2) (λ n. n) (λ n new. Noted x me n new × IsLastCell b w.plan x c)
  lean_loads_last slots id x run me item no_slot hold c given =
      tells_too (IsLeanBoard b w lean kind) slots id me (x + 2) (λ n. n) (Noted x me) (IsLastCell b w.plan x c) (lean_loads b w lean kind slots id x me item.element no_slot)
      (λ s both at order ends ordered. last_own b w (HasValue kind) s both.0 id x run me.0 at item.element hold c order ends ordered (given order ends ordered) item.outermost)
