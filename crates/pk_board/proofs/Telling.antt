-- What calls tell, from what their steps told.
use Rattle.std.proofs.Common.{◌≡◌, ◌≢◌, ℕ, ◌+◌, ◌-◌, ◌*◌, ◌/◌, ◌%◌, ◌≤◌, ◌==◌, [], max, Bool, refl, ap, subst, ◌∙◌, arith, inl, inr}
use Rattle.std.specs.Bool.{MatchBool}
use Rattle.std.proofs.lemmas.Bool.Decides.{eqb_tells}
use Rattle.atomic_table.specs.Table.{Me}
use Rattle.pk_plan.specs.Plans.{PlanView, end_of}
use Rattle.pk_iterate.specs.Behaviour.{Behaviour}
use Rattle.pk_layout.specs.Wirings.{Wiring}
use Rattle.pk_words.specs.declared.view.View.{View}
use Rattle.pk_words.specs.Tokens.{seen_run}
use Rattle.pk_words.specs.Views.{note_view, claim_view, end_view}
use Rattle.pk_words.specs.Told.{IsIdle, Noted, Claimed, Ended}
use Rattle.pk_words.specs.Reads.{Counts}
use Rattle.pk_board.specs.Calls.{IsFound, IsClaimed, IsSeen, IsEnd, IsNoEnd}

pub idle_at : {S : Type 0} (v : View) (new : Me S View) → new ≡ (v, []) → v.out ≡ [] → IsIdle new
idle_at v new e h = (ap (λ (m : Me _ View). m.1) e, ap (λ (m : Me _ View). m.0.out) e ∙ h)

pub when_eq : (m n : ℕ) (P Q : Type 0) → m ≡ n → MatchBool (m == n) P Q → P
when_eq m n P Q e h = elim (eqb_tells m n) [
  | inl same ↦ (let R : Bool → Type 0 = λ t. MatchBool t P Q in subst R same.0 h)
  | inr other ↦ absurd (other.1 e)
]

pub when_ne : (m n : ℕ) (P Q : Type 0) → (m ≡ n → ⊥) → MatchBool (m == n) P Q → Q
when_ne m n P Q e h = elim (eqb_tells m n) [
  | inl same ↦ absurd (e same.1)
  | inr other ↦ (let R : Bool → Type 0 = λ t. MatchBool t P Q in subst R other.0 h)
]

-- the word of e was found
pub noted : {S : Type 0} (e found : ℕ) (me new : Me S View) → Noted (e + 2 - 2) me found new → Noted e me found new
noted {S} e found me new h = let is : e + 2 - 2 ≡ e = omega arith in subst (λ (j : ℕ). Noted {S = S} j me found new) is h

pub note_idle : {S : Type 0} (e found : ℕ) (me new : Me S View) → Noted (e + 2 - 2) me found new → IsIdle new
note_idle e found me new h = idle_at (note_view (e + 2 - 2) found me.0) new h.0 refl

pub seen_first : {S : Type 0} (e word : ℕ) (me new : Me S View) (old : View) → Noted (e + 2 - 2) me word new → me.0 ≡ old → word % 1048576 ≢ 262144 → IsSeen e word old new.0
seen_first {S} e word me new old told is ne =
    let n = noted e word me new told in
    subst (λ (v : View). IsSeen e word v new.0) is (inl (ne, n.1, ap (λ (m : Me S View). m.0) n.0))

-- what was seen after a word was noted is no earlier than that word
later_than : (e word found : ℕ) (v : View) → seen_run e (note_view e word v).notes ≤ found / 1048576 → word / 1048576 ≤ found / 1048576
later_than e word found v h = elim (eqb_tells e e) [
  | inl same ↦ (
      let is : seen_run e (note_view e word v).notes ≡ max (word / 1048576) (seen_run e v.notes) = rw same.0 refl in
      omega (arith, h, is))
  | inr other ↦ absurd (other.1 refl)
]

pub seen_second : {C S : Type 0} (b : Behaviour C) (w : Wiring) (e asked word : ℕ) (me between new : Me S View) (old : View) → Noted (e + 2 - 2) me asked between → me.0 ≡ old → asked % 1048576 ≡ 262144 → Claimed b w e asked between word new → word ≢ asked → IsSeen e word old new.0
seen_second {C} {S} b w e asked word me between new old told is is_open claimed ne =
    let n = noted e asked me between told in
    let missed = when_ne word asked ((new ≡ (claim_view e asked between.0, [])) × Counts b w e (asked / 1048576)) (new ≡ (note_view e word between.0, [])) ne claimed.0 in
    let there : between.0 ≡ note_view e asked me.0 = ap (λ (m : Me S View). m.0) n.0 in
    let later = later_than e asked word me.0 (subst (λ (v : View). seen_run e v.notes ≤ word / 1048576) there claimed.1) in
    subst (λ (v : View). IsSeen e word v new.0) is
    (inr (asked, is_open, n.1, later, ne, ap (λ (m : Me S View). m.0) missed ∙ ap (note_view e word) there))

pub is_claimed : {C S : Type 0} (b : Behaviour C) (w : Wiring) (e asked word : ℕ) (me between new : Me S View) (old : View) → Noted (e + 2 - 2) me asked between → me.0 ≡ old → asked % 1048576 ≡ 262144 → Claimed b w e asked between word new → word ≡ asked
    → IsClaimed b w e (record { element = e; run = asked / 1048576 }) old new.0
is_claimed {C} {S} b w e asked word me between new old told is is_open claimed eq =
    let n = noted e asked me between told in
    let won = when_eq word asked ((new ≡ (claim_view e asked between.0, [])) × Counts b w e (asked / 1048576)) (new ≡ (note_view e word between.0, [])) eq claimed.0 in
    let there : between.0 ≡ note_view e asked me.0 = ap (λ (m : Me S View). m.0) n.0 in
    let whole : asked ≡ asked / 1048576 * 1048576 + 262144 = omega (arith, is_open) in
    let run : (asked / 1048576 * 1048576 + 262144) / 1048576 ≡ asked / 1048576 = omega arith in
    let view : new.0 ≡ claim_view e asked (note_view e asked me.0) = ap (λ (m : Me S View). m.0) won.0 ∙ ap (claim_view e asked) there in
    subst (λ (v : View). IsClaimed b w e (record { element = e; run = asked / 1048576 }) v new.0) is
    (record {
      element = refl;
      counts = won.1;
      late = n.1;
      view = view ∙ ap (λ (m : ℕ). claim_view e m (note_view e m me.0)) whole;
    })

pub claim_idle : {C S : Type 0} (b : Behaviour C) (w : Wiring) (e asked word : ℕ) (me new : Me S View) → Claimed b w e asked me word new → IsIdle new
claim_idle b w e asked word me new claimed = elim (eqb_tells word asked) [
  | inl same ↦ idle_at (claim_view e asked me.0) new (when_eq word asked ((new ≡ (claim_view e asked me.0, [])) × Counts b w e (asked / 1048576)) (new ≡ (note_view e word me.0, [])) same.1 claimed.0).0 refl
  | inr other ↦ idle_at (note_view e word me.0) new (when_ne word asked ((new ≡ (claim_view e asked me.0, [])) × Counts b w e (asked / 1048576)) (new ≡ (note_view e word me.0, [])) other.1 claimed.0) refl
]

pub is_end : {S : Type 0} (p : PlanView) (word : ℕ) (me new : Me S View) (old : View) → Ended (end_of p) me word new → me.0 ≡ old → word % 1048576 ≡ 262145 → IsEnd p old new.0
is_end {S} p word me new old ended is done =
    let won = when_eq (word % 1048576) 262145 (new ≡ (end_view (end_of p) word me.0, [])) (new ≡ (note_view (end_of p) word me.0, [])) done ended.0 in
    subst (λ (v : View). IsEnd p v new.0) is (record { word = word; done = done; late = ended.1; view = ap (λ (m : Me S View). m.0) won })

pub is_no_end : {S : Type 0} (p : PlanView) (word : ℕ) (me new : Me S View) (old : View) → Ended (end_of p) me word new → me.0 ≡ old → word % 1048576 ≢ 262145 → IsNoEnd p word old new.0
is_no_end {S} p word me new old ended is ne =
    let missed = when_ne (word % 1048576) 262145 (new ≡ (end_view (end_of p) word me.0, [])) (new ≡ (note_view (end_of p) word me.0, [])) ne ended.0 in
    subst (λ (v : View). IsNoEnd p word v new.0) is (record { not_done = ne; late = ended.1; view = ap (λ (m : Me S View). m.0) missed })

pub end_idle : {S : Type 0} (last word : ℕ) (me new : Me S View) → Ended last me word new → IsIdle new
end_idle last word me new ended = elim (eqb_tells (word % 1048576) 262145) [
  | inl same ↦ idle_at (end_view last word me.0) new (when_eq (word % 1048576) 262145 (new ≡ (end_view last word me.0, [])) (new ≡ (note_view last word me.0, [])) same.1 ended.0) refl
  | inr other ↦ idle_at (note_view last word me.0) new (when_ne (word % 1048576) 262145 (new ≡ (end_view last word me.0, [])) (new ≡ (note_view last word me.0, [])) other.1 ended.0) refl
]

pub is_found : {S : Type 0} (e u word : ℕ) (me new : Me S View) (old : View) → Noted (e + 2 - 2) me word new → me.0 ≡ old → e ≡ u → IsFound u old new.0
is_found {S} e u word me new old told is same =
    let n = noted e word me new told in
    subst (λ (j : ℕ). IsFound j old new.0) same (subst (λ (v : View). IsFound e v new.0) is (record { word = word; late = n.1; view = ap (λ (m : Me S View). m.0) n.0 }))
