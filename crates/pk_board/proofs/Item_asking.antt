-- What the calls that end an item ask of the table, over a board.
use Rattle.std.proofs.Common.{◌≡◌, ◌≢◌, ℕ, ◌+◌, ◌-◌, ◌*◌, ◌<◌, List, [], ◌∷◌, true, false, sym, ap, subst, ◌∙◌, arith}
use Rattle.atomic_table.specs.Table.{Me, Allows}
use Rattle.atomic_table.specs.Seated.{TableId}
use Rattle.pk_plan.specs.Shape.{has}
use Rattle.pk_iterate.specs.Behaviour.{Behaviour}
use Rattle.pk_items.specs.Items.{top_of, EndsItem}
use Rattle.pk_layout.specs.Layouts.{slots_of, first_of, owner_of, reader_of}
use Rattle.pk_layout.specs.Wirings.{Wiring}
use Rattle.pk_words.specs.declared.slot.Slot.{Slot}
use Rattle.pk_words.specs.declared.view.View.{View}
use Rattle.pk_words.specs.Kinds.{IsCellOf, HasValue, IsPartOf, kind_of}
use Rattle.pk_words.specs.Subjects.{SubjectView}
use Rattle.pk_words.specs.Tokens.{times, number_of}
use Rattle.pk_words.specs.Views.{HasHold}
use Rattle.pk_words.specs.Told.{IsIdle, Noted, Taken, GivenBack, Finished}
use Rattle.pk_lean_words.specs.Members.{IsLastCell, MemberTaken}
use Rattle.pk_lean_words.proofs.Item_ends.{lean_finishes_item}
use Rattle.pk_lean_words.proofs.Last_runs.{last_own}
use Rattle.pk_lean_words.proofs.Lean_steps.{lean_loads}
use Rattle.pk_lean_words.proofs.Lean_takes.{lean_takes_item_slot, lean_takes_member, lean_gives_member}
use Rattle.pk_board.specs.Boards.{IsKept, lean_of, rule_of}
use Rattle.pk_board.specs.Calls.{IsLastRun, IsRunCell}
use Rattle.pk_board.specs.Emptying.{HasTaken, AreLeft, IsEmptied}
use Rattle.pk_board.proofs.Reading_slots.{first_in, first_reader}

-- The word of x was found; if the pass has the Hold of x, which ends an item, and its next run is the last, this gives the last cell of x.
abbrev pub OwnNoted : {C S : Type 0} → Behaviour C → Wiring → ℕ → Me S View → ℕ → Me S View → Type 0
OwnNoted {C} {S} b w x me found new =
    Noted x me found new × ((run : ℕ) (c : C) → HasHold me.0 x run → EndsItem w.plan x → IsRunCell b w.plan (record { element = x; run = run }) false c → IsLastCell b w.plan x c)

module _ {Y C P : Type 0} (meaning : Y → Behaviour C) (part : Y → List ℕ → List C → P) (subject key : SubjectView Y) (table own : TableId) where
  pub item_take_asked : (id x k : ℕ) (me : Me (Slot C P) View) → IsKept (meaning subject.system) subject key table → own ≡ table → EndsItem subject.wiring.plan x → 0 < times x me.0.holds
      → k < slots_of subject.wiring.layout → top_of subject.wiring.plan (reader_of subject.wiring.layout k) ≡ x → has k me.0.out ≡ false
      → (own ≡ table) × (x + 2 < table.words) × Allows (rule_of meaning part key) table.slots id me (x + 2) (λ n. n) (Taken (λ y. Unit {0}) k me)
  item_take_asked id x k me kept of item held in_slots top not_out = (
    of,
    omega (arith, kept.words, item.element),
    subst (λ s. Allows (rule_of meaning part s) table.slots id me (x + 2) (λ n. n) (Taken (λ y. Unit {0}) k me)) (sym kept.about)
        (lean_takes_item_slot (meaning subject.system) subject.wiring (lean_of part subject) kind_of table.slots id x k me (λ y. Unit {0}) kept.slots item.element held in_slots top not_out (λ s board at y is r. tt)),
  )

  pub member_asked : (id x run u k : ℕ) (me : Me (Slot C P) View) → IsKept (meaning subject.system) subject key table → own ≡ table → x < subject.wiring.plan.elements → HasHold me.0 x run → IsLastRun (meaning subject.system) subject.wiring.plan (record { element = x; run = run })
      → u < subject.wiring.plan.elements → top_of subject.wiring.plan u ≡ x → u ≢ x → k ≡ first_of subject.wiring.layout u → IsIdle me
      → (own ≡ table) × (x + 2 < table.words) × Allows (rule_of meaning part key) table.slots id me (x + 2) (λ n. n) (MemberTaken (meaning key.system) key.wiring kind_of u k me)
  member_asked id x run u k me kept of below hold last low top apart at no_slot =
      let first = first_in kept.wired.laid_out u low in (
        of,
        omega (arith, kept.words, below),
        subst (λ s. Allows (rule_of meaning part s) table.slots id me (x + 2) (λ n. n) (MemberTaken (meaning s.system) s.wiring kind_of u k me)) (sym kept.about)
            (lean_takes_member (meaning subject.system) subject.wiring (lean_of part subject) kind_of table.slots id x run u k me kept.slots below hold (subst (λ (j : ℕ). j < slots_of subject.wiring.layout) (sym at) first.0) (ap (owner_of subject.wiring.layout) at ∙ first.1)
            (ap (reader_of subject.wiring.layout) at ∙ first_reader kept.wired.laid_out u low) top apart (ap (has k) no_slot.1) last.0 last.1),
      )

  pub member_given : (id x run u k : ℕ) (y : Slot C P) (d : C) (me : Me (Slot C P) View) → IsKept (meaning subject.system) subject key table → own ≡ table → x < subject.wiring.plan.elements → HasHold me.0 x run → IsLastRun (meaning subject.system) subject.wiring.plan (record { element = x; run = run })
      → u < subject.wiring.plan.elements → top_of subject.wiring.plan u ≡ x → u ≢ x → k ≡ first_of subject.wiring.layout u → me.1 ≡ (k, y) ∷ [] → me.0.out ≡ k ∷ []
      → IsCellOf kind_of y d → IsLastCell (meaning subject.system) subject.wiring.plan u d
      → (own ≡ table) × (x + 2 < table.words) × Allows (rule_of meaning part key) table.slots id me (x + 2) (λ n. n) (GivenBack me)
  member_given id x run u k y d me kept of below hold last low top apart at slot_is out_is is cell =
      let first = first_in kept.wired.laid_out u low in (
        of,
        omega (arith, kept.words, below),
        subst (λ s. Allows (rule_of meaning part s) table.slots id me (x + 2) (λ n. n) (GivenBack me)) (sym kept.about)
            (lean_gives_member (meaning subject.system) subject.wiring (lean_of part subject) kind_of table.slots id x run u k y me kept.slots below hold slot_is out_is (subst (λ (j : ℕ). j < slots_of subject.wiring.layout) (sym at) first.0) (ap (owner_of subject.wiring.layout) at ∙ first.1)
            (ap (reader_of subject.wiring.layout) at ∙ first_reader kept.wired.laid_out u low) top apart kept.ends d is cell last.0 last.1),
      )

  pub last_asked : (id e run : ℕ) (c : C) (kept_part : P) (old me : Me (Slot C P) View) → IsKept (meaning subject.system) subject key table → own ≡ table → subject.lean ≡ true → EndsItem subject.wiring.plan e → HasHold old.0 e run → run < subject.wiring.limit
      → HasTaken old me → IsEmptied subject.wiring e me → AreLeft subject.wiring e c kept_part me → IsPartOf (meaning subject.system) subject.wiring.plan (part subject.system) e kept_part → IsRunCell (meaning subject.system) subject.wiring.plan (record { element = e; run = run }) false c
      → (own ≡ table) × (e + 2 < table.words) × Allows (rule_of meaning part key) table.slots id me (e + 2) (λ _. (run + 1) * 1048576 + 262145) (λ _. Finished key.wiring.plan e me ((run + 1) * 1048576 + 262145))
  last_asked id e run c kept_part old me kept of lean item hold room taken emptied left part_is cell =
      let hold' : HasHold me.0 e run = subst (λ (v : View). (0 < times e v.holds) × (number_of e v.holds ≡ run)) (sym taken.rest) hold in (
        of,
        omega (arith, kept.words, item.element),
        subst (λ s. Allows (rule_of meaning part s) table.slots id me (e + 2) (λ _. (run + 1) * 1048576 + 262145) (λ _. Finished s.wiring.plan e me ((run + 1) * 1048576 + 262145))) (sym kept.about)
            (lean_finishes_item (meaning subject.system) subject.wiring (lean_of part subject) kind_of table.slots id e run c kept_part me lean item kept.slots hold' room taken.out emptied.own emptied.read left part_is
            kept.ends.0 kept.ends.1 kept.ends.2 (cell kept.ends.0 kept.ends.1 kept.ends.2)),
      )

  pub own_asked : (id x : ℕ) (me : Me (Slot C P) View) → IsKept (meaning subject.system) subject key table → own ≡ table → x < subject.wiring.plan.elements → IsIdle me
      → (own ≡ table) × (x + 2 < table.words) × Allows (rule_of meaning part key) table.slots id me (x + 2) (λ n. n) (OwnNoted (meaning key.system) key.wiring (x + 2 - 2) me)
  own_asked id x me kept of below no_slot =
      let same : x ≡ x + 2 - 2 = omega arith in (
        of,
        omega (arith, kept.words, below),
        subst (λ s. Allows (rule_of meaning part s) table.slots id me (x + 2) (λ n. n) (OwnNoted (meaning s.system) s.wiring (x + 2 - 2) me)) (sym kept.about)
            (subst (λ (j : ℕ). Allows (rule_of meaning part subject) table.slots id me (x + 2) (λ n. n) (OwnNoted (meaning subject.system) subject.wiring j me)) same
            (λ s both long at fits.
            let r = lean_loads (meaning subject.system) subject.wiring (lean_of part subject) kind_of table.slots id x me below no_slot s both long at fits in
            (r.0, r.1, r.2, r.3, (r.4, λ run c hold item cell order ends ordered. last_own (meaning subject.system) subject.wiring (HasValue kind_of) s both.0 id x run me.0 at below hold c order ends ordered (cell order ends ordered) item.outermost)))),
      )
