-- What is left in the slots of an item when its last element ends.
use Rattle.std.specs.Prelude.{◌≡◌, ◌≢◌, ℕ, ◌<◌, ◌≤◌, ◌⊎◌, ◌↔◌, true}
use Rattle.atomic_table.specs.Table.{Me}
use Rattle.pk_plan.specs.Plans.{PlanView, place_of}
use Rattle.pk_plan.specs.Shape.{has}
use Rattle.pk_items.specs.Items.{top_of}
use Rattle.pk_layout.specs.Layouts.{LayoutView, slots_of, input_of, owner_of, reader_of}
use Rattle.pk_layout.specs.Wirings.{Wiring}
use Rattle.pk_words.specs.declared.slot.Slot.{Slot}
use Rattle.pk_words.specs.declared.view.View.{View}
use Rattle.pk_words.specs.Kinds.{kind_of}
use Rattle.pk_words.specs.Views.{AllRight, slots_in}
use Rattle.pk_lean_words.specs.Emptied.{IsLeft}

-- The elements of the item that e ends stand in the listing from this place on, up to e.
pub record IsItemFrom (p : PlanView) (e from : ℕ) : Type 0 where
  pub within : from ≤ place_of p e
  pub each : (u : ℕ) → u < p.elements → (top_of p u ≡ e) ↔ ((from ≤ place_of p u) × (place_of p u ≤ place_of p e))

-- k is a slot of e that an element of another item reads
abbrev pub IsOutside : Wiring → (e k : ℕ) → Type 0
IsOutside w e k = (owner_of w.layout k ≡ e) × (top_of w.plan (reader_of w.layout k) ≢ e)

-- k is read by an element between these places of the listing
abbrev pub IsBetween : Wiring → (from at k : ℕ) → Type 0
IsBetween w from at k =
    (from ≤ place_of w.plan (reader_of w.layout k)) × (place_of w.plan (reader_of w.layout k) < at)

-- The pass has taken slots, and carries just those that are out with it; all else that it knows is as it was.
pub record HasTaken {S : Type 0} (old new : Me S View) : Type 0 where
  pub rest : (record new.0 { out = old.0.out; fresh = old.0.fresh }) ≡ old.0
  pub out : new.0.out ≡ slots_in new.1

-- each slot that it carries has what is to be left in it
abbrev pub AreLeft : {C P : Type 0} → Wiring → (e : ℕ) → C → P → Me (Slot C P) View → Type 0
AreLeft w e c part me = AllRight (λ k x. IsLeft w e c part k (kind_of x)) me.1

-- It carries just the slots of e that other items read, and those that elements between these places read.
pub record IsEmptying {C P : Type 0} (w : Wiring) (e from at : ℕ) (me : Me (Slot C P) View) : Type 0 where
  pub each : (k : ℕ) → has k (slots_in me.1) ≡ true → IsOutside w e k ⊎ IsBetween w from at k
  pub outside : (k : ℕ) → k < slots_of w.layout → IsOutside w e k → has k (slots_in me.1) ≡ true
  pub between : (k : ℕ) → k < slots_of w.layout → IsBetween w from at k → has k (slots_in me.1) ≡ true

-- It carries the slots of the first inputs of e, and those that it had before.
pub record HasInputs {C P : Type 0} (l : LayoutView) (e count : ℕ) (old new : Me (Slot C P) View) : Type 0 where
  pub each : (k : ℕ) → has k (slots_in new.1) ≡ true
      → (has k (slots_in old.1) ≡ true) ⊎ ((place : ℕ) × (place < count) × (k ≡ input_of l e place))
  pub kept : (k : ℕ) → has k (slots_in old.1) ≡ true → has k (slots_in new.1) ≡ true
  pub inputs : (place : ℕ) → place < count → has (input_of l e place) (slots_in new.1) ≡ true

-- It carries all slots of e, and all that elements of its item read.
pub record IsEmptied {C P : Type 0} (w : Wiring) (e : ℕ) (me : Me (Slot C P) View) : Type 0 where
  pub own : (k : ℕ) → k < slots_of w.layout → owner_of w.layout k ≡ e → has k (slots_in me.1) ≡ true
  pub read : (k : ℕ) → k < slots_of w.layout → top_of w.plan (reader_of w.layout k) ≡ e → has k (slots_in me.1) ≡ true
