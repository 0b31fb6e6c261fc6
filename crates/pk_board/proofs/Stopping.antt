-- What stopping a board asks of the table and tells.
use Rattle.std.proofs.Common.{◌≡◌, ◌≢◌, ℕ, zero, suc, ◌+◌, ◌^◌, ◌-◌, ◌<◌, List, refl, sym, ap, subst, ◌∙◌, arith, Some}
use Rattle.atomic_table.specs.Table.{Me, Allows}
use Rattle.atomic_table.specs.Seated.{TableId}
use Rattle.pk_iterate.specs.Behaviour.{Behaviour}
use Rattle.pk_layout.specs.Wirings.{Wiring}
use Rattle.pk_words.specs.declared.slot.Slot.{Slot}
use Rattle.pk_words.specs.declared.view.View.{View}
use Rattle.pk_words.specs.declared.why.Why.{Why}
use Rattle.pk_words.specs.declared.why.Why.TheVariants.{Memory, RunLimit}
use Rattle.pk_words.specs.Subjects.{SubjectView}
use Rattle.pk_words.specs.Views.{stop_view}
use Rattle.pk_words.specs.Board.{why_of, NamesLimit, IsCause}
use Rattle.pk_words.specs.Kinds.{kind_of}
use Rattle.pk_words.specs.Told.{IsIdle, Stopping, StopFound}
use Rattle.pk_lean_words.proofs.Lean_steps.{lean_stops, lean_stop_loads}
use Rattle.pk_words.proofs.Stops.{word_fits}
use Rattle.pk_board.specs.Boards.{IsKept, lean_of, rule_of}
use Rattle.pk_board.specs.Stops.{IsStop}

pub names_limit : {C : Type 0} (b : Behaviour C) (w : Wiring) (why : Why) → IsCause b w why → NamesLimit w.limit why
names_limit b w Memory cause = tt
names_limit b w (RunLimit element run) cause = cause.1

some_word : (limit word : ℕ) (why : Why) → why_of limit word ≡ Some why → word ≢ 0
some_word limit zero why is q = absurd (cc)
some_word limit (suc n) why is q = absurd (omega (arith, q))

some_same : {A : Type 0} (x y : A) → Some x ≡ Some y → x ≡ y
some_same x y h = cc

module _ {Y C P : Type 0} (meaning : Y → Behaviour C) (part : Y → List ℕ → List C → P) (subject key : SubjectView Y) (table own : TableId) where
  pub stop_asked : (id word : ℕ) (why : Why) (me : Me (Slot C P) View) → IsKept (meaning subject.system) subject key table → own ≡ table → IsIdle me → why_of subject.wiring.limit word ≡ Some why → IsCause (meaning subject.system) subject.wiring why
      → (own ≡ table) × (1 < table.words) × Allows (rule_of meaning part key) table.slots id me 1 (λ _. word) (λ _. Stopping me word)
  stop_asked id word why me kept of no_slot is cause = (
    of,
    omega (arith, kept.words, kept.wired.axioms.counted),
    subst (λ k. Allows (rule_of meaning part k) table.slots id me 1 (λ _. word) (λ _. Stopping me word)) (sym kept.about)
        (lean_stops (meaning subject.system) subject.wiring (lean_of part subject) kind_of table.slots id word me no_slot (some_word subject.wiring.limit word why is)
        (λ other h. subst (IsCause (meaning subject.system) subject.wiring) (some_same why other (sym is ∙ h)) cause)),
  )

  pub stopped_asked : (id : ℕ) (me : Me (Slot C P) View) → IsKept (meaning subject.system) subject key table → own ≡ table → IsIdle me
      → (own ≡ table) × (1 < table.words) × Allows (rule_of meaning part key) table.slots id me 1 (λ n. n) (StopFound (meaning key.system) key.wiring me)
  stopped_asked id me kept of no_slot = (
    of,
    omega (arith, kept.words, kept.wired.axioms.counted),
    subst (λ k. Allows (rule_of meaning part k) table.slots id me 1 (λ n. n) (StopFound (meaning k.system) k.wiring me)) (sym kept.about)
        (lean_stop_loads (meaning subject.system) subject.wiring (lean_of part subject) kind_of table.slots id me no_slot),
  )

-- what a stop leaves
pub stop_idle : {S : Type 0} (word : ℕ) (me new : Me S View) → Stopping me word new → IsIdle new
stop_idle word me new told = subst IsIdle (sym told) (refl, refl)

pub is_stop : {S : Type 0} (w : Wiring) (word : ℕ) (why : Why) (me new : Me S View) (old : View) → Stopping me word new → me.0 ≡ old → why_of w.limit word ≡ Some why → IsStop w why old new.0
is_stop w word why me new old told same is = record { word = word; why_is = is; view = ap (λ m. m.0) told ∙ ap (stop_view word) same }

-- the stop word that was found can be read
pub word_asked : {Y C S : Type 0} (meaning : Y → Behaviour C) (subject key : SubjectView Y) (table : TableId) (limit word : ℕ) (me new : Me S View) → IsKept (meaning subject.system) subject key table → StopFound (meaning key.system) key.wiring me word new → limit ≡ subject.wiring.limit
    → (limit < 2 ^ 64 - 1) × (word < 2 ^ 32 + 2)
word_asked meaning subject key table limit word me new kept told is = (
  omega (arith, is, kept.wired.limited),
  word_fits (meaning subject.system) subject.wiring word kept.wired
      (subst (λ k. (why : Why) → why_of k.wiring.limit word ≡ Some why → IsCause (meaning k.system) k.wiring why) kept.about told.1),
)
