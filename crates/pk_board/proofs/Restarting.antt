-- What the steps of a restart ask of the table, and what the calls tell.
use Rattle.std.proofs.Common.{◌≡◌, ℕ, suc, ◌+◌, ◌-◌, ◌*◌, ◌/◌, ◌%◌, ◌^◌, ◌<◌, ◌≤◌, ◌∙◌, List, [], ◌∷◌, length, map, replicate, All, get_or, Bool, true, false, refl, sym, ap, subst, arith}
use Rattle.atomic_table.specs.Table.{Me, Allows}
use Rattle.atomic_table.specs.Seated.{TableId}
use Rattle.pk_plan.specs.declared.components.Component.{Component}
use Rattle.std.proofs.lemmas.List.Elements.{Contains-get_or}
use Rattle.pk_plan.specs.Plans.{PlanView, Inside, inner_count, members_of}
use Rattle.pk_plan.specs.Shape.{shape_of, component_of, exits}
use Rattle.pk_iterate.specs.Behaviour.{Behaviour}
use Rattle.pk_iterate.specs.Runs.{values_read}
use Rattle.pk_iterate.specs.Ending.{trace}
use Rattle.pk_core.specs.Events.{inner}
use Rattle.pk_layout.specs.Wirings.{Wiring, IsWired}
use Rattle.pk_layout.specs.Layouts.{first_of}
use Rattle.pk_words.specs.declared.slot.Slot.{Slot}
use Rattle.pk_words.specs.declared.view.View.{View}
use Rattle.pk_words.specs.Subjects.{SubjectView}
use Rattle.pk_board.specs.Held.{HoldView, ResettingView}
use Rattle.pk_words.specs.Tokens.{seen_run}
use Rattle.pk_words.specs.Views.{HasHold, HasResetting, IsGiven, arm_view, head_view}
use Rattle.pk_words.specs.Reads.{Counts}
use Rattle.pk_words.specs.Board.{head_of, members_at}
use Rattle.pk_words.specs.Kinds.{kind_of}
use Rattle.pk_words.specs.Told.{IsIdle, Restarted, Armed, HeadArmed}
use Rattle.pk_words.proofs.Sends.{has_get}
use Rattle.pk_words.proofs.Wired.{member_in, member_below}
use Rattle.pk_words.proofs.Members.{inner_small, some_members}
use Rattle.pk_lean_words.proofs.Lean_steps.{lean_arms, lean_arms_head, lean_restarts}
use Rattle.pk_words.proofs.Restart_steps.{inner_is}
use Rattle.pk_board.specs.Boards.{IsKept, lean_of, rule_of}
use Rattle.pk_board.specs.Calls.{IsLate, IsResetting, IsRunCell, IsArmed}
use Rattle.pk_board.specs.declared.answers.Armed.TheVariants.{More, Head}
use Rattle.pk_board.specs.Writing.{IsWriting}

module _ {Y C P : Type 0} (meaning : Y → Behaviour C) (part : Y → List ℕ → List C → P) (subject key : SubjectView Y) (table own : TableId) where
  pub arm_asked : (id x left e amount : ℕ) (me : Me (Slot C P) View) → IsKept (meaning subject.system) subject key table → own ≡ table → IsIdle me → HasResetting me.0 x (left + 1) → 0 < left → e < subject.wiring.plan.elements
      → e ≡ get_or (members_at subject.wiring.plan x) left 0 → amount + inner (shape_of subject.wiring.plan) x e ≡ 262145
      → (own ≡ table) × (e + 2 < table.words) × Allows (rule_of meaning part key) table.slots id me (e + 2) (λ n. (n + (2 ^ 64 - amount)) % 2 ^ 64) (Armed x left e me)
  arm_asked id x left e amount me kept of no_slot reset some_left below e_is amount_is = (
    of,
    omega (arith, kept.words, below),
    subst (λ k. Allows (rule_of meaning part k) table.slots id me (e + 2) (λ n. (n + (2 ^ 64 - amount)) % 2 ^ 64) (Armed x left e me)) (sym kept.about)
        (lean_arms (meaning subject.system) subject.wiring (lean_of part subject) kind_of table.slots id x left e amount me no_slot reset some_left e_is amount_is),
  )

  pub head_asked : (id x e : ℕ) (me : Me (Slot C P) View) → IsKept (meaning subject.system) subject key table → own ≡ table → IsIdle me → HasResetting me.0 x 1 → e < subject.wiring.plan.elements → e ≡ head_of subject.wiring.plan x
      → (own ≡ table) × (e + 2 < table.words) × Allows (rule_of meaning part key) table.slots id me (e + 2) (λ n. (n + (2 ^ 64 - 262145)) % 2 ^ 64) (HeadArmed (meaning key.system) key.wiring x e me)
  head_asked id x e me kept of no_slot reset below e_is = (
    of,
    omega (arith, kept.words, below),
    subst (λ k. Allows (rule_of meaning part k) table.slots id me (e + 2) (λ n. (n + (2 ^ 64 - 262145)) % 2 ^ 64) (HeadArmed (meaning k.system) k.wiring x e me)) (sym kept.about)
        (lean_arms_head (meaning subject.system) subject.wiring (lean_of part subject) kind_of table.slots id x e me no_slot reset e_is),
  )

-- a run that goes through a component again is an exit's
pub exit_again : {Y C : Type 0} (b : Behaviour C) (subject key : SubjectView Y) (table : TableId) (hold : HoldView) (c : C) → IsKept b subject key table → IsRunCell b subject.wiring.plan hold true c → exits subject.wiring.plan hold.element ≡ true
exit_again {Y} {C} b subject key table hold c kept cell = by_exit (exits subject.wiring.plan hold.element) refl (cell kept.ends.0 kept.ends.1 kept.ends.2)
  where
    by_exit : (t : Bool) → exits subject.wiring.plan hold.element ≡ t → IsGiven b t true hold.element (values_read b (trace kept.ends.1) hold.element (hold.run + 1)) c → exits subject.wiring.plan hold.element ≡ true
    by_exit true q h = q
    by_exit false q h = absurd (let t = h.1 in cc)

-- a member of a component, by what the plan tells of it
pub record AtMember (w : Wiring) (plan : PlanView) (component : Component) (x left e : ℕ) : Type 0 where
  pub below : e < w.plan.elements
  pub listed : e < plan.elements
  pub inside : Inside plan component e
  pub member : e ≡ get_or (members_at w.plan x) left 0
  pub count : inner_count plan component e ≡ inner (shape_of w.plan) x e
  pub small : inner_count plan component e < 262144

pub at_member : {C : Type 0} (b : Behaviour C) (w : Wiring) (plan : PlanView) (component : Component) (ms : List ℕ) (x left : ℕ) → IsWired b w → plan ≡ w.plan → component ≡ component_of plan x → ms ≡ members_of plan component → exits w.plan x ≡ true → left < length (members_at w.plan x)
    → AtMember w plan component x left (get_or ms left 0)
at_member b w plan component ms x left wired plan_is component_is ms_is exit in_range =
    subst (λ (l : List ℕ). AtMember w plan component x left (get_or l left 0)) (sym ms_is)
    (subst (λ (k : Component). AtMember w plan k x left (get_or (members_of plan k) left 0)) (sym component_is)
    (subst (λ (p : PlanView). AtMember w p (component_of p x) x left (get_or (members_of p (component_of p x)) left 0)) (sym plan_is)
    (let below = member_below wired x (get_or (members_at w.plan x) left 0) (member_in wired x (get_or (members_at w.plan x) left 0) exit (has_get (members_at w.plan x) left in_range)) in
    let count = inner_is wired x (get_or (members_at w.plan x) left 0) exit in
    record {
      below = below;
      listed = below;
      inside = Contains-get_or (members_at w.plan x) left 0 in_range;
      member = refl;
      count = sym count;
      small = omega (arith, count, inner_small wired x (get_or (members_at w.plan x) left 0));
    })))

-- the next member that is armed, the last of those that are left
next_in_range : (p : PlanView) (x left : ℕ) (r : ResettingView) → IsResetting p r → x ≡ r.exit → left ≡ r.left → left - 1 < length (members_at p x)
next_in_range p x left r is exit left_is = subst (λ (j : ℕ). left - 1 < length (members_at p j)) (sym exit) (omega (arith, left_is, is.some_left, is.within))

pub next_is : {C : Type 0} (b : Behaviour C) (w : Wiring) (r : ResettingView) (plan : PlanView) (component : Component) (ms : List ℕ) (x left : ℕ) → IsWired b w → IsResetting w.plan r → x ≡ r.exit → left ≡ r.left → plan ≡ w.plan → component ≡ component_of plan x → ms ≡ members_of plan component
    → AtMember w plan component x (left - 1) (get_or ms (left - 1) 0)
next_is b w r plan component ms x left wired is exit left_is plan_is component_is ms_is =
    at_member b w plan component ms x (left - 1) wired plan_is component_is ms_is (subst (λ (j : ℕ). exits w.plan j ≡ true) (sym exit) is.exit) (next_in_range w.plan x left r is exit left_is)

pub next_there : (p plan : PlanView) (r : ResettingView) (component : Component) (ms : List ℕ) (x left : ℕ) → IsResetting p r → x ≡ r.exit → left ≡ r.left → plan ≡ p → component ≡ component_of plan x → ms ≡ members_of plan component → left - 1 < length ms
next_there p plan r component ms x left is exit left_is plan_is component_is ms_is =
    subst (λ (l : List ℕ). left - 1 < length l) (sym (ms_is ∙ ap (members_of plan) component_is ∙ ap (λ (q : PlanView). members_of q (component_of q x)) plan_is)) (next_in_range p x left r is exit left_is)

-- the Resetting that a pass has
pub resetting_at : (v u : View) (r : ResettingView) (x n : ℕ) → HasResetting v r.exit r.left → u ≡ v → x ≡ r.exit → n ≡ r.left → HasResetting u x n
resetting_at v u r x n has is exit left =
    subst (λ (t : View). HasResetting t x n) (sym is) (subst (λ (j : ℕ). HasResetting v j n) (sym exit) (subst (λ (k : ℕ). HasResetting v r.exit k) (sym left) has))

pub one_left : (left n : ℕ) → left ≡ n → 0 < n → left - 1 ≡ 0 → 1 ≡ n
one_left left n same some none = omega (arith, same, some, none)

pub more_left : (left n : ℕ) → left ≡ n → 0 < n → left - 1 + 1 ≡ n
more_left left n same some = omega (arith, same, some)

-- the answers of an armed head, and of another member
pub head_told : {C S : Type 0} (b : Behaviour C) (w : Wiring) (r : ResettingView) (x e run : ℕ) (hold : HoldView) (me new : Me S View) (old : View) → HeadArmed b w x e me (run * 1048576 + 262145) new → me.0 ≡ old → x ≡ r.exit → 1 ≡ r.left → e ≡ get_or (members_at w.plan x) 0 0
    → hold ≡ record { element = e; run = run } → IsArmed b w r old new.0 (Head hold)
head_told {C} {S} b w r x e run hold me new old told is exit left first hold_is =
    let word = run * 1048576 + 262145 in
    let high : word / 1048576 ≡ run = omega arith in
    subst (λ (h : HoldView). IsArmed b w r old new.0 (Head h)) (sym hold_is) (
      sym left,
      first ∙ ap (λ (j : ℕ). get_or (members_at w.plan j) 0 0) exit,
      subst (λ (n : ℕ). Counts b w e n) high told.2,
      subst (λ (n : ℕ). seen_run e old.notes ≤ n) high (subst (λ (v : View). seen_run e v.notes ≤ word / 1048576) is told.3),
      ap (λ (m : Me S View). m.0) told.0 ∙ (λ k. head_view (exit k) e word (is k)),
    )

pub member_told : {C S : Type 0} (b : Behaviour C) (w : Wiring) (r rest : ResettingView) (x left e word : ℕ) (me new : Me S View) (old : View) → Armed x left e me word new → me.0 ≡ old → x ≡ r.exit → left + 1 ≡ r.left → 0 < left → e ≡ get_or (members_at w.plan x) left 0
    → rest ≡ record { exit = x; left = left } → IsArmed b w r old new.0 (More rest)
member_told {C} {S} b w r rest x left e word me new old told is exit left_is some e_is rest_is =
    let fewer : left ≡ r.left - 1 = omega (arith, left_is) in
    let at : e ≡ get_or (members_at w.plan r.exit) (r.left - 1) 0 = e_is ∙ (λ k. get_or (members_at w.plan (exit k)) (fewer k) 0) in (
      rest_is ∙ (λ k. record { exit = exit k; left = fewer k }),
      omega (arith, left_is, some),
      (
        word,
        told.1,
        subst (λ (j : ℕ). IsLate j word old) at (subst (λ (v : View). seen_run e v.notes ≤ word / 1048576) is told.2),
        ap (λ (m : Me S View). m.0) told.0 ∙ (λ k. arm_view (exit k) (fewer k) (at k) word (is k)),
      ),
    )

pub arm_amount : (n i : ℕ) → n ≡ i → i < 262144 → 262145 - n + i ≡ 262145
arm_amount n i same small = omega (arith, same, small)

pub same_word : (word : ℕ) → word % 1048576 ≡ 262145 → word ≡ word / 1048576 * 1048576 + 262145
same_word word is = omega (arith, is)

module _ {Y C P : Type 0} (meaning : Y → Behaviour C) (part : Y → List ℕ → List C → P) (subject key : SubjectView Y) (table own : TableId) where
  pub restart_asked : (id x run word : ℕ) (c : C) (old : View) (me : Me (Slot C P) View) → IsKept (meaning subject.system) subject key table → own ≡ table → x < subject.wiring.plan.elements → HasHold me.0 x run → run < subject.wiring.limit
      → IsWriting subject.wiring x c (first_of subject.wiring.layout x) old me → IsRunCell (meaning subject.system) subject.wiring.plan (record { element = x; run = run }) true c
      → word ≡ (run + 1) * 1048576 + inner (shape_of subject.wiring.plan) x x
      → (own ≡ table) × (x + 2 < table.words) × Allows (rule_of meaning part key) table.slots id me (x + 2) (λ _. word) (λ _. Restarted key.wiring.plan x me word)
  restart_asked id x run word c old me kept of below hold room written cell word_is =
      let exit = exit_again (meaning subject.system) subject key table (record { element = x; run = run }) c kept cell in
      let given = subst (λ (t : Bool). IsGiven (meaning subject.system) t true x (values_read (meaning subject.system) (trace kept.ends.1) x (run + 1)) c) exit (cell kept.ends.0 kept.ends.1 kept.ends.2) in (
        of,
        omega (arith, kept.words, below),
        subst (λ k. Allows (rule_of meaning part k) table.slots id me (x + 2) (λ _. word) (λ _. Restarted k.wiring.plan x me word)) (sym kept.about)
            (subst (λ (n : ℕ). Allows (rule_of meaning part subject) table.slots id me (x + 2) (λ _. n) (λ _. Restarted subject.wiring.plan x me n)) (sym word_is)
            (lean_restarts (meaning subject.system) subject.wiring (lean_of part subject) kind_of table.slots id x run c me kept.slots below exit hold room written.out written.right
            (λ k in_slots own. let r = kept.wired.laid_out.no_more x k below in_slots own in written.every k r.0 r.1)
            kept.ends.0 kept.ends.1 kept.ends.2 given)),
      )

pub exit_count : {C : Type 0} (b : Behaviour C) (w : Wiring) (plan : PlanView) (component : Component) (x e : ℕ) → IsWired b w → plan ≡ w.plan → component ≡ component_of plan x → exits w.plan x ≡ true → inner_count plan component e ≡ inner (shape_of w.plan) x e
exit_count b w plan component x e wired plan_is component_is exit =
    subst (λ (k : Component). inner_count plan k e ≡ inner (shape_of w.plan) x e) (sym component_is)
    (subst (λ (p : PlanView). inner_count p (component_of p x) e ≡ inner (shape_of w.plan) x e) (sym plan_is) (sym (inner_is wired x e exit)))

pub copies_same : {A C : Type 0} (f : A → C) (c : C) (xs : List A) → All (λ x. f x ≡ c) xs → map f xs ≡ replicate (length xs) c
copies_same f c [] all = refl
copies_same f c (x ∷ xs) all =
    let here : f x ≡ c = all 0 x (omega arith) in
    let later = copies_same f c xs (λ k d l. all (suc k) d (omega (arith, l))) in
    rw here (ap (λ ys. c ∷ ys) later)

pub is_resetting : {C : Type 0} {b : Behaviour C} {w : Wiring} (x left : ℕ) → IsWired b w → exits w.plan x ≡ true → left ≡ length (members_at w.plan x) → IsResetting w.plan (record { exit = x; left = left })
is_resetting {C} {b} {w} x left wired exit all = record { exit = exit; some_left = omega (arith, all, some_members wired x exit); within = omega (arith, all) }
