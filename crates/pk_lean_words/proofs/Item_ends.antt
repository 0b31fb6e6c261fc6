-- The last run of an item's last element: the slots that its elements read go home without their cells, and the part with them.
use Rattle.std.proofs.Common.{◌≡◌, ◌≢◌, ℕ, ◌+◌, ◌*◌, ◌%◌, ◌<◌, ◌==◌, List, [], ◌∷◌, length, get_or, set, Bool, true, false, refl, sym, ap, subst, ◌∙◌, arith, inl, inr, ◌⊎◌, get_or-set_same, length-set}
use mathlib.Core.Option.{Option, some}
use lib.ListN.{get_elem?}
use Rattle.atomic_table.specs.Table.{Me, Allows, homes_after}
use Rattle.pk_plan.specs.Order.{Level}
use Rattle.pk_plan.specs.Plans.{successors_of}
use Rattle.pk_plan.specs.Shape.{has, exits, shape_of}
use Rattle.pk_iterate.specs.Behaviour.{Behaviour}
use Rattle.pk_iterate.specs.Runs.{values_read}
use Rattle.pk_iterate.specs.Ending.{Ends, trace}
use Rattle.pk_core.specs.declared.events.Status.{Status}
use Rattle.pk_core.specs.States.{cell_in}
use Rattle.pk_core.specs.Orders.{IsOrderOf}
use Rattle.pk_core.proofs.Basics.{cases, same}
use Rattle.pk_core.proofs.Keeps.{apart_of, is_done}
use Rattle.pk_core.proofs.Settled.{settle}
use Rattle.pk_layout.specs.Layouts.{slots_of, first_of, owner_of, reader_of}
use Rattle.pk_layout.specs.Wirings.{Wiring, IsWired}
use Rattle.pk_items.specs.Items.{top_of, EndsItem}
use Rattle.pk_items.proofs.Outermost.{tops_are_outermost}
use Rattle.pk_words.specs.declared.view.View.{View}
use Rattle.pk_lift.specs.Further.{AllRight}
use Rattle.pk_words.specs.Views.{HasHold, slots_in, done_view, IsGiven}
use Rattle.pk_words.specs.Kinds.{Kind, HasCell, IsGone, HasPart, IsValue, HasValue, Lean, is_over, IsPartOf, IsRightKind, right_in, IsLeanBoard}
use Rattle.pk_words.specs.Laws.{core_of}
use Rattle.pk_words.specs.Told.{Finished}
use Rattle.pk_words.proofs.Facts.{held}
use Rattle.pk_words.proofs.Numbers.{low_part}
use Rattle.pk_words.proofs.Slots.{gives_all, valid_gives, carried_gives, gives_other, gives_home, elem_below}
use Rattle.pk_words.proofs.Runs.{all_own, finished_with}
use Rattle.pk_words.proofs.Steps.{reads_at}
use Rattle.pk_lean_words.specs.Emptied.{IsLeft}
use Rattle.pk_lean_words.proofs.Overs.{over_other, over_now, word_in, reader_not_over}

-- an element's first slot is its own
pub first_slot : {C : Type 0} {b : Behaviour C} {w : Wiring} → IsWired b w → (e : ℕ) → e < w.plan.elements → (first_of w.layout e < slots_of w.layout) × (owner_of w.layout (first_of w.layout e) ≡ e) × (reader_of w.layout (first_of w.layout e) ≡ e)
first_slot {C} {b} {w} wired e below =
    let k = first_of w.layout e in
    let own = wired.laid_out.together e k below (omega arith) (wired.laid_out.rises e below) in (
      own.0,
      own.1,
      elim (wired.laid_out.no_other k own.0) [
        | inl first ↦ sym first.1 ∙ own.1
        | inr input ↦ absurd (wired.laid_out.further (reader_of w.layout k) input.0 e (wired.laid_out.read k own.0) input.1 below (sym input.2))
      ],
    )

homes_long : {S : Type 0} (hs : List (Option S)) (xs : List (ℕ × S)) → length (homes_after hs xs (gives_all (length xs))) ≡ length hs
homes_long hs [] = refl
homes_long hs (x ∷ xs) = homes_long (set hs x.0 (some x.1)) xs ∙ length-set hs x.0 (some x.1)

module _ {C P S : Type 0} (b : Behaviour C) (w : Wiring) (lean : Lean C P) (kind : S → Kind C P) where
  -- a slot that has no cell has any
  no_cell : (x : S) (c : C) (other : Kind C P) → kind x ≡ other → IsValue other c → HasValue kind x c
  no_cell x c other is v = subst (λ (k : Kind C P). IsValue k c) (sym is) v

  -- The step. Each slot of the element, and each slot that an element of its item reads, is carried, with what is to be left in it.
  pub lean_finishes_item : (slots id e run : ℕ) (c : C) (part : P) (me : Me S View) → lean.lets_go ≡ true → EndsItem w.plan e → slots ≡ slots_of w.layout → HasHold me.0 e run → run < w.limit → me.0.out ≡ slots_in me.1
      → ((k : ℕ) → k < slots_of w.layout → owner_of w.layout k ≡ e → has k (slots_in me.1) ≡ true)
      → ((k : ℕ) → k < slots_of w.layout → top_of w.plan (reader_of w.layout k) ≡ e → has k (slots_in me.1) ≡ true)
      → AllRight (λ k x. IsLeft w e c part k (kind x)) me.1
      → IsPartOf b w.plan lean.part e part
      → (order : Level) (ends : Ends b order) → IsOrderOf (shape_of w.plan) order → IsGiven b (exits w.plan e) false e (values_read b (trace ends) e (run + 1)) c
      → Allows (IsLeanBoard b w lean kind) slots id me (e + 2) (λ _. (run + 1) * 1048576 + 262145) (λ _. Finished w.plan e me ((run + 1) * 1048576 + 262145))
  lean_finishes_item slots id e run c part me goes item count hold room out own_carried read_carried left part_is order ends ordered given s both long at fits = (
    done_view e ((run + 1) * 1048576 + 262145) (successors_of w.plan e) me.0,
    gives_all (length me.1),
    valid_gives s.homes me.1 (length me.1),
    (
      finished_with b w (HasValue kind) s id e ((run + 1) * 1048576 + 262145) me.0 me.1 c both.0 at below hold.0 (omega (arith, room, hold.1))
          (ap (λ (r : ℕ). (r + 1) * 1048576 + 262145) (sym hold.1))
          (long ∙ count) out (all_own (λ k x. IsLeft w e c part k (kind x)) value_right me.1 values left) own_carried
          (subst (λ (xs : List C). IsGiven b (exits w.plan e) false e xs c) (sym (reads_at b w (HasValue kind) s both.0 id e run me.0 at below hold order ends ordered)) given),
      record { homes = λ k x home. at_home k x home },
    ),
    ap (λ (xs : List (ℕ × S)). (done_view e ((run + 1) * 1048576 + 262145) (successors_of w.plan e) me.0, xs)) (carried_gives me.1),
  )
    where
      below : e < w.plan.elements
      below = item.element

      value_right : ℕ → S → Type 0
      value_right k x = (HasValue kind x c × (owner_of w.layout k ≡ e)) ⊎ ((owner_of w.layout k ≢ e) × HasValue kind x (cell_in b (core_of both.0) (owner_of w.layout k)))

      values : (k : ℕ) (x : S) → IsLeft w e c part k (kind x) → (HasValue kind x c × (owner_of w.layout k ≡ e)) ⊎ ((owner_of w.layout k ≢ e) × HasValue kind x (cell_in b (core_of both.0) (owner_of w.layout k)))
      values k x (inl l) = inl (no_cell x c (HasCell c) l.2 refl, l.0)
      values k x (inr (inl l)) = elim (cases (owner_of w.layout k == e)) [
        | inl q ↦ inl (no_cell x c (HasPart part) l.1 tt, same (owner_of w.layout k) e q)
        | inr q ↦ inr (apart_of (owner_of w.layout k) e q, no_cell x (cell_in b (core_of both.0) (owner_of w.layout k)) (HasPart part) l.1 tt)
      ]
      values k x (inr (inr l)) = elim (cases (owner_of w.layout k == e)) [
        | inl q ↦ inl (no_cell x c IsGone l.2 tt, same (owner_of w.layout k) e q)
        | inr q ↦ inr (apart_of (owner_of w.layout k) e q, no_cell x (cell_in b (core_of both.0) (owner_of w.layout k)) IsGone l.2 tt)
      ]

      -- what the item's elements read is over
      over_here : (k : ℕ) → top_of w.plan (reader_of w.layout k) ≡ e → is_over w.plan lean.lets_go (set s.words (e + 2) ((run + 1) * 1048576 + 262145)) (reader_of w.layout k) ≡ true
      over_here k top =
          let in_range = word_in b w (HasValue kind) s both.0 e below in
          let word : get_or (set s.words (e + 2) ((run + 1) * 1048576 + 262145)) (e + 2) 0 ≡ (run + 1) * 1048576 + 262145 = get_or-set_same s.words (e + 2) ((run + 1) * 1048576 + 262145) 0 in_range in
          over_now w.plan lean.lets_go (set s.words (e + 2) ((run + 1) * 1048576 + 262145)) (reader_of w.layout k) goes
          (λ q. item.not_end (sym top ∙ ap (top_of w.plan) q ∙ (tops_are_outermost w.plan both.0.wired.axioms).end))
          (ap (λ (j : ℕ). get_or (set s.words (e + 2) ((run + 1) * 1048576 + 262145)) (j + 2) 0 % 1048576) top ∙ ap (λ (m : ℕ). m % 1048576) word ∙ low_part (run + 1) 262145 (omega arith))

      -- and of others nothing changes
      over_there : (k : ℕ) → top_of w.plan (reader_of w.layout k) ≢ e → is_over w.plan lean.lets_go (set s.words (e + 2) ((run + 1) * 1048576 + 262145)) (reader_of w.layout k) ≡ is_over w.plan lean.lets_go s.words (reader_of w.layout k)
      over_there k apart = over_other w.plan lean.lets_go s.words (e + 2) ((run + 1) * 1048576 + 262145) (reader_of w.layout k) (λ ne q. apart (omega (arith, q)))

      right_by : (k : ℕ) (x : S) (over : Bool) (other : Kind C P) → is_over w.plan lean.lets_go (set s.words (e + 2) ((run + 1) * 1048576 + 262145)) (reader_of w.layout k) ≡ over → kind x ≡ other → IsRightKind b w lean over k other
          → right_in b w lean kind (set s.words (e + 2) ((run + 1) * 1048576 + 262145)) k x
      right_by k x over other over_is is r = subst (λ (t : Bool). IsRightKind b w lean t k (kind x)) (sym over_is) (subst (IsRightKind b w lean over k) (sym is) r)

      kinds : (k : ℕ) (x : S) → IsLeft w e c part k (kind x) → right_in b w lean kind (set s.words (e + 2) ((run + 1) * 1048576 + 262145)) k x
      kinds k x (inl l) = right_by k x false (HasCell c)
          (over_there k l.1 ∙ reader_not_over b w (HasValue kind) s both.0 lean.lets_go k (ap (λ (j : ℕ). is_done (settle (core_of both.0 j).status)) l.0 ∙ ap (λ (st : Status). is_done (settle st)) (held both.0.shows id e me.0 at below hold.0)))
          l.2 refl
      kinds k x (inr (inl l)) =
          let first = first_slot both.0.wired e below in
          let top : top_of w.plan (reader_of w.layout k) ≡ e = ap (λ (j : ℕ). top_of w.plan (reader_of w.layout j)) l.0 ∙ ap (top_of w.plan) first.2 ∙ item.outermost in
          right_by k x true (HasPart part) (over_here k top) l.1 (refl, (e, (item, l.0), part_is))
      kinds k x (inr (inr l)) = right_by k x true IsGone (over_here k l.1) l.2 (
        refl,
        λ j is.
            let r : reader_of w.layout k ≡ j = ap (reader_of w.layout) is.1 ∙ (first_slot both.0.wired j is.0.element).2 in
            let je : j ≡ e = sym is.0.outermost ∙ ap (top_of w.plan) (sym r) ∙ l.1 in
            l.0 (is.1 ∙ ap (first_of w.layout) je),
      )

      at_home : (k : ℕ) (x : S) → get_elem? (homes_after s.homes me.1 (gives_all (length me.1))) k ≡ some (some x) → right_in b w lean kind (set s.words (e + 2) ((run + 1) * 1048576 + 262145)) k x
      at_home k x home =
          let low : k < length s.homes = omega (arith, elem_below (homes_after s.homes me.1 (gives_all (length me.1))) k (some x) home, homes_long s.homes me.1) in
          elim (cases (has k (slots_in me.1))) [
            | inl q ↦
                let g = gives_home (λ (j : ℕ) (y : S). IsLeft w e c part j (kind y)) s.homes me.1 k left q low in
                let gx : g.0 ≡ x = (let h = g.1 in cc) in
                subst (λ (y : S). right_in b w lean kind (set s.words (e + 2) ((run + 1) * 1048576 + 262145)) k y) gx (kinds k g.0 g.2)
            | inr q ↦
                let was = sym (gives_other s.homes me.1 k q) ∙ home in
                let r = both.1.homes k x was in
                let apart : top_of w.plan (reader_of w.layout k) ≢ e = λ top. absurd (let h = read_carried k (omega (arith, low, long, count)) top in cc) in
                subst (λ (t : Bool). IsRightKind b w lean t k (kind x)) (sym (over_there k apart)) r
          ]
