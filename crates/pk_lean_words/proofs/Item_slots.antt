-- With the Hold of an item's last element, each slot that the item's elements read is at home, if it isn't out with this pass.
use Rattle.std.proofs.Common.{◌≡◌, ◌≢◌, ℕ, ◌<◌, length, true, false, refl, sym, ap, subst, arith, inl, inr, ◌⊎◌}
use mathlib.Core.Option.{Option, some, none}
use lib.ListN.{get_elem?}
use Rattle.atomic_table.specs.Table.{State as TableState}
use Rattle.pk_plan.specs.Shape.{has, holds, shape_of}
use Rattle.pk_iterate.specs.Behaviour.{Behaviour}
use Rattle.pk_core.specs.States.{State, cell_in}
use Rattle.pk_core.specs.Events.{start, played}
use Rattle.pk_core.proofs.Settled.{settle}
use Rattle.pk_layout.specs.Layouts.{slots_of, owner_of, reader_of}
use Rattle.pk_layout.specs.Wirings.{Wiring}
use Rattle.pk_items.specs.Items.{top_of}
use Rattle.pk_items.specs.Over.{IsUnder}
use Rattle.pk_items.specs.Sweeping.{IsNear, LeavesAlone}
use Rattle.pk_items.proofs.Outermost.{tops_are_outermost}
use Rattle.pk_items.proofs.Nearby.{reads_are_near}
use Rattle.pk_items.proofs.Sweeping.{others_leave_alone}
use Rattle.pk_words.specs.declared.view.View.{View}
use Rattle.pk_words.specs.Tokens.{times}
use Rattle.pk_words.specs.Board.{MayTouch, IsBoard}
use Rattle.pk_words.proofs.Wired.{axioms_of}
use Rattle.pk_words.proofs.Facts.{kept, held, held_by_one, elem_in}
use Rattle.pk_lean_words.proofs.Overs.{reader_low, read_by}

module _ {C S : Type 0} (b : Behaviour C) (w : Wiring) (value : S → C → Type 0) (s : TableState S View) (board : IsBoard b w value s) where
  abbrev core : State C
  core = played b (shape_of w.plan) (start (shape_of w.plan)) board.events

  under_by : (x k : ℕ) → top_of w.plan (reader_of w.layout k) ≡ x → IsUnder (shape_of w.plan) x (reader_of w.layout k)
  under_by x k top = subst (λ (j : ℕ). IsUnder (shape_of w.plan) j (reader_of w.layout k)) top ((tops_are_outermost w.plan board.wired.axioms).under (reader_of w.layout k) (reader_low board.wired k))

  near_by : (x k : ℕ) → top_of w.plan (reader_of w.layout k) ≡ x → IsNear (shape_of w.plan) x (reader_of w.layout k) (owner_of w.layout k)
  near_by x k top = elim (read_by board.wired k) [
    | inl own ↦ own_near (subst (λ (j : ℕ). (j ≡ x) ⊎ (holds w.plan x j ≡ true)) own (under_by x k top).under)
    | inr reads ↦ subst (λ (j : ℕ). IsNear (shape_of w.plan) j (reader_of w.layout k) (owner_of w.layout k)) top (reads_are_near b w.plan board.wired.axioms board.wired.fits (reader_of w.layout k) (owner_of w.layout k) (reader_low board.wired k) reads)
  ]
    where
      own_near : (owner_of w.layout k ≡ x) ⊎ (holds w.plan x (owner_of w.layout k) ≡ true) → IsNear (shape_of w.plan) x (reader_of w.layout k) (owner_of w.layout k)
      own_near (inl q) = inl q
      own_near (inr i) = inr (inl i)

  -- such a slot may be touched
  pub item_touch : (x k : ℕ) (v : View) → x < w.plan.elements → 0 < times x v.holds → top_of w.plan (reader_of w.layout k) ≡ x → MayTouch w v (reader_of w.layout k)
  item_touch x k v below mine top = elim (under_by x k top).under [
    | inl q ↦ inl (subst (λ (u : ℕ). 0 < times u v.holds) (sym q) mine)
    | inr i ↦ inr (x, below, mine, i)
  ]

  -- who holds another element leaves the slot alone
  alone : (id x k : ℕ) (v : View) → get_elem? s.views id ≡ some v → x < w.plan.elements → 0 < times x v.holds → top_of w.plan (reader_of w.layout k) ≡ x
      → (h j : ℕ) (z : View) → get_elem? s.views j ≡ some z → j ≢ id → h < w.plan.elements → 0 < times h z.holds → LeavesAlone (shape_of w.plan) h (reader_of w.layout k) (owner_of w.layout k)
  alone id x k v at below mine top h j z has_z ne low_h theirs =
      others_leave_alone (axioms_of board.wired) (kept b (shape_of w.plan) board.events (axioms_of board.wired) board.enabled) x (reader_of w.layout k) (owner_of w.layout k) h
      (ap settle (held board.shows id x v at below mine)) (under_by x k top) (near_by x k top) (ap settle (held board.shows j h z has_z low_h theirs))
      (λ q. held_by_one board.shows j id x z v has_z at ne below (subst (λ (i : ℕ). 0 < times i z.holds) q theirs) mine)

  pub item_slot_home : (id x k : ℕ) (v : View) → get_elem? s.views id ≡ some v → x < w.plan.elements → 0 < times x v.holds → k < slots_of w.layout → length s.homes ≡ slots_of w.layout → top_of w.plan (reader_of w.layout k) ≡ x → has k v.out ≡ false
      → (y : S) × (get_elem? s.homes k ≡ some (some y)) × (value y (cell_in b core (owner_of w.layout k)))
  item_slot_home id x k v at below mine in_slots long top not_out =
      let it = elem_in s.homes k (omega (arith, in_slots, long)) in
      by_case it.0 it.1
    where
      owner_free : (j : ℕ) (z : View) → get_elem? s.views j ≡ some z → j ≢ id → MayTouch w z (owner_of w.layout k) → ⊥
      owner_free j z has_z ne (inl theirs) = (alone id x k v at below mine top (owner_of w.layout k) j z has_z ne (board.wired.laid_out.owned k in_slots) theirs).owner refl
      owner_free j z has_z ne (inr theirs) = absurd (let n = (alone id x k v at below mine top theirs.0 j z has_z ne theirs.1 theirs.2).no_owner_inside in let i = theirs.3 in cc)

      reader_free : (j : ℕ) (z : View) → get_elem? s.views j ≡ some z → j ≢ id → MayTouch w z (reader_of w.layout k) → ⊥
      reader_free j z has_z ne (inl theirs) = (alone id x k v at below mine top (reader_of w.layout k) j z has_z ne (board.wired.laid_out.read k in_slots) theirs).reader refl
      reader_free j z has_z ne (inr theirs) = absurd (let n = (alone id x k v at below mine top theirs.0 j z has_z ne theirs.1 theirs.2).no_reader_inside in let i = theirs.3 in cc)

      not_away : get_elem? s.homes k ≡ some none → ⊥
      not_away gone =
          let a = board.shows.away k gone in
          let ne : a.0 ≢ id = λ h. absurd (
          let here : get_elem? s.views id ≡ some a.1 = subst (λ (j : ℕ). get_elem? s.views j ≡ some a.1) h a.2 in
          let vs : a.1 ≡ v = cc in
          let theirs : has k v.out ≡ true = subst (λ (y : View). has k y.out ≡ true) vs a.3 in
          cc
          ) in
          elim (board.shows.out_is a.0 a.1 a.2 k a.3) [
            | inl o ↦ owner_free a.0 a.1 a.2 ne o
            | inr r ↦ reader_free a.0 a.1 a.2 ne r
          ]

      by_case : (y : Option S) → get_elem? s.homes k ≡ some y → (x : S) × (get_elem? s.homes k ≡ some (some x)) × (value x (cell_in b core (owner_of w.layout k)))
      by_case none is = absurd (not_away is)
      by_case (some y) is = (y, is, board.shows.homes_are k y is)
