-- What a look at a slot tells.
use Rattle.std.proofs.Common.{◌≡◌, ℕ, ◌+◌, ◌≤◌, ◌∷◌, sym, ap, subst, ◌∙◌, slice_get, Some}
use Rattle.std.specs.Prelude.{Result, Ok, Err, IfOk}
use Rattle.atomic_table.specs.Table.{Me}
use Rattle.pk_iterate.specs.Behaviour.{Behaviour}
use Rattle.pk_layout.specs.Wirings.{Wiring}
use Rattle.pk_words.specs.declared.view.View.{View}
use Rattle.pk_words.specs.Tokens.{seen_run}
use Rattle.pk_lean_words.specs.Members.{IsLastCell}
use Rattle.pk_board.specs.Held.{HoldView}
use Rattle.pk_words.specs.Views.{read_view, idle}
use Rattle.pk_words.specs.Told.{GivenBack, IsRunValue}
use Rattle.pk_words.specs.Reads.{IsReadAt}
use Rattle.pk_board.specs.Calls.{IsGlance, IsLook, IsInput, IsPeek}

pub if_ok : {A E : Type 0} (P Q : A → Type 0) (r : Result A E) → ((a : A) → P a → Q a) → IfOk r P → IfOk r Q
if_ok P Q (Ok a) f h = f a h
if_ok P Q (Err e) f h = h

-- the slot that was taken, with its cell, and the run of its owner that gave it
abbrev pub TookInput : {C S : Type 0} → Behaviour C → Wiring → (e run place u slot : ℕ) → (x : S) (d : C) (seen : ℕ) → Me S View → Me S View → Type 0
TookInput b w e run place u slot x d seen me new =
    (new ≡ (read_view slot u seen me.0, (slot, x) ∷ me.1)) × (seen_run u me.0.notes ≤ seen) × IsRunValue b w.plan u seen d × IsReadAt b w.plan e (run + 1) place d

pub is_glance : {C S : Type 0} (b : Behaviour C) (w : Wiring) (hold : HoldView) (place u slot n : ℕ) (x : S) (d : C) (seen : ℕ) (me between read new : Me S View) (old : View) → TookInput b w hold.element hold.run place u slot x d seen me between → read ≡ between → GivenBack read n new → me.0 ≡ old
    → slice_get (b.reads hold.element) place ≡ Some u → IsGlance b hold.element place old new.0
is_glance {C} {S} b w hold place u slot n x d seen me between read new old told same given is input = subst (λ (v : View). IsGlance b hold.element place v new.0) is (record {
  element = u;
  run = seen;
  input = input;
  late = told.1;
  view = ap (λ (m : Me S View). m.0) given ∙ ap (λ (m : Me S View). idle m.0) same ∙ ap (λ (m : Me S View). idle m.0) told.0;
})

pub is_input : {C S : Type 0} (b : Behaviour C) (w : Wiring) (hold : HoldView) (place u slot n : ℕ) (x : S) (d : C) (seen : ℕ) (me between read new : Me S View) (old : View) (c : C) → TookInput b w hold.element hold.run place u slot x d seen me between → read ≡ between → GivenBack read n new → me.0 ≡ old
    → slice_get (b.reads hold.element) place ≡ Some u → c ≡ d → IsInput b w hold place old new.0 c
is_input {C} {S} b w hold place u slot n x d seen me between read new old c told same given is input cell = subst (λ (v : View). IsInput b w hold place v new.0 c) is (record {
  glance = record {
    element = u;
    run = seen;
    input = input;
    late = told.1;
    view = ap (λ (m : Me S View). m.0) given ∙ ap (λ (m : Me S View). idle m.0) same ∙ ap (λ (m : Me S View). idle m.0) told.0;
  };
  value = subst (λ (y : C). IsRunValue b w.plan u seen y) (sym cell) told.2;
  read = subst (λ (y : C). IsReadAt b w.plan hold.element (hold.run + 1) place y) (sym cell) told.3;
})

-- the same of a member's slot
pub is_look : {S : Type 0} (u slot n : ℕ) (x : S) (seen : ℕ) (me between read new : Me S View) (old : View) → between ≡ (read_view slot u seen me.0, (slot, x) ∷ me.1) → seen_run u me.0.notes ≤ seen → read ≡ between → GivenBack read n new → me.0 ≡ old → IsLook u old new.0
is_look {S} u slot n x seen me between read new old told late same given is = subst (λ (v : View). IsLook u v new.0) is (record {
  run = seen;
  late = late;
  view = ap (λ (m : Me S View). m.0) given ∙ ap (λ (m : Me S View). idle m.0) same ∙ ap (λ (m : Me S View). idle m.0) told;
})

pub is_peek : {C S : Type 0} (b : Behaviour C) (w : Wiring) (u slot n : ℕ) (x : S) (d : C) (seen : ℕ) (me between read new : Me S View) (old : View) (c : C) → between ≡ (read_view slot u seen me.0, (slot, x) ∷ me.1) → seen_run u me.0.notes ≤ seen → IsLastCell b w.plan u d
    → read ≡ between → GivenBack read n new → me.0 ≡ old → c ≡ d → IsPeek b w u old new.0 c
is_peek b w u slot n x d seen me between read new old c told late last same given is cell = record {
  look = is_look u slot n x seen me between read new old told late same given is;
  last = λ order ends ordered. cell ∙ last order ends ordered;
}
