-- The members of a component, one after another.
use Rattle.std.proofs.Common.{◌≡◌, ◌≢◌, ℕ, zero, suc, ◌+◌, ◌-◌, ◌<◌, ◌≤◌, ◌==◌, ◌||◌, List, [], ◌∷◌, length, take, drop, count_by, cond, get_or, Bool, true, false, refl, sym, ap, subst, ◌∙◌, arith}
use Rattle.std.proofs.lemmas.List.{get_or-take, get_or-drop, length-take, length-drop}
use Rattle.pk_plan.specs.Plans.{place_of, predecessors_of, Inside}
use Rattle.pk_plan.specs.Shape.{has, shape_of, component_of, exits, holds}
use Rattle.pk_plan.proofs.PlanLemmas.{first_at, first_before_end, end_within, head_within, exit_outside}
use Rattle.pk_plan.proofs.Shapes.{of_exit, exit_is}
use Rattle.pk_iterate.specs.Behaviour.{Behaviour}
use Rattle.pk_core.specs.Events.{inner}
use Rattle.pk_core.proofs.Basics.{same, itself, neq, count_cons}
use Rattle.pk_core.proofs.Plan_shapes.{of_has}
use Rattle.pk_layout.specs.Wirings.{Wiring, IsWired}
use Rattle.pk_words.specs.Board.{head_of, members_at}
use Rattle.pk_words.proofs.Facts.{count_most}
use Rattle.pk_words.proofs.Sends.{has_get}
use Rattle.pk_words.proofs.Wired.{axioms_of, few_before, member_in, member_of}

-- ---- lists without a repeat

none_there : (u : ℕ) (xs : List ℕ) → ((i : ℕ) → i < length xs → get_or xs i 0 ≢ u) → count_by (λ x. x == u) xs ≡ 0
none_there u [] other = refl
none_there u (x ∷ xs) other =
    let q : (x == u) ≡ false = neq x u (other 0 (omega arith)) in
    let later : count_by (λ y. y == u) xs ≡ 0 = none_there u xs (λ i l. other (suc i) (omega (arith, l))) in
    omega (arith, count_cons (λ y. y == u) x xs, ap {B = ℕ} (λ (c : Bool). cond c 1 0) q, later)

once_each : (xs : List ℕ) → ((i j : ℕ) → i < length xs → j < length xs → get_or xs i 0 ≡ get_or xs j 0 → i ≡ j) → (u : ℕ) → count_by (λ x. x == u) xs ≤ 1
once_each [] apart u = omega arith
once_each (x ∷ xs) apart u = by_test (x == u) refl (once_each xs (λ i j l m e. less i j (apart (suc i) (suc j) (omega (arith, l)) (omega (arith, m)) e)) u)
  where
    less : (i j : ℕ) → suc i ≡ suc j → i ≡ j
    less i j e = omega (arith, e)

    by_test : (t : Bool) → (x == u) ≡ t → count_by (λ y. y == u) xs ≤ 1 → count_by (λ y. y == u) (x ∷ xs) ≤ 1
    by_test true q ih =
        let none : count_by (λ y. y == u) xs ≡ 0 = none_there u xs (λ i l e. absurd (let z = apart 0 (suc i) (omega arith) (omega (arith, l)) (same x u q ∙ sym e) in omega (arith, z))) in
        omega (arith, count_cons (λ y. y == u) x xs, ap {B = ℕ} (λ (c : Bool). cond c 1 0) q, none)
    by_test false q ih = omega (arith, count_cons (λ y. y == u) x xs, ap {B = ℕ} (λ (c : Bool). cond c 1 0) q, ih)

pub counted_some : (u : ℕ) (xs : List ℕ) → has u xs ≡ true → 0 < count_by (λ x. x == u) xs
counted_some u [] h = absurd (cc)
counted_some u (x ∷ xs) h = by_test (u == x) refl h (counted_some u xs)
  where
    by_test : (t : Bool) → (u == x) ≡ t → (t || has u xs) ≡ true → (has u xs ≡ true → 0 < count_by (λ y. y == u) xs) → 0 < count_by (λ y. y == u) (x ∷ xs)
    by_test true q h ih =
        let at : (x == u) ≡ true = ap (λ (j : ℕ). x == j) (same u x q) ∙ itself x in
        omega (arith, count_cons (λ y. y == u) x xs, ap {B = ℕ} (λ (c : Bool). cond c 1 0) at)
    by_test false q h ih = omega (arith, count_cons (λ y. y == u) x xs, ih h)

pub counted_none : (u : ℕ) (xs : List ℕ) → has u xs ≡ false → count_by (λ x. x == u) xs ≡ 0
counted_none u [] h = refl
counted_none u (x ∷ xs) h = by_test (u == x) refl h (counted_none u xs)
  where
    by_test : (t : Bool) → (u == x) ≡ t → (t || has u xs) ≡ false → (has u xs ≡ false → count_by (λ y. y == u) xs ≡ 0) → count_by (λ y. y == u) (x ∷ xs) ≡ 0
    by_test true q h ih = absurd (cc)
    by_test false q h ih =
        let ne : (x == u) ≡ false = neq x u (λ e. absurd (let r : (u == x) ≡ true = ap (λ (j : ℕ). j == x) (sym e) ∙ itself x in cc)) in
        omega (arith, count_cons (λ y. y == u) x xs, ap {B = ℕ} (λ (c : Bool). cond c 1 0) ne, ih h)

-- one more is taken
pub counted_more : (u n : ℕ) (xs : List ℕ) → n < length xs → count_by (λ x. x == u) (take (suc n) xs) ≡ count_by (λ x. x == u) (take n xs) + cond (get_or xs n 0 == u) 1 0
counted_more u n [] l = absurd (omega (arith, l))
counted_more u zero (x ∷ xs) l =
    let none : count_by (λ y. y == u) (take 0 xs) ≡ 0 = refl in
    omega (arith, count_cons (λ y. y == u) x (take 0 xs), none)
counted_more u (suc n) (x ∷ xs) l = omega (arith, count_cons (λ y. y == u) x (take (suc n) xs), count_cons (λ y. y == u) x (take n xs), counted_more u n xs (omega (arith, l)))

-- ---- members

member_place : {C : Type 0} {b : Behaviour C} {w : Wiring} → IsWired b w → (x i : ℕ) → exits w.plan x ≡ true → i < length (members_at w.plan x)
    → (get_or (members_at w.plan x) i 0 ≡ get_or w.plan.listing ((component_of w.plan x).first + i) 0) × ((component_of w.plan x).first + i < w.plan.elements)
member_place {C} {b} {w} wired x i exit l =
    let c = component_of w.plan x in
    let of = of_exit w.plan x exit in
    let below_end = end_within w.plan c wired.axioms of in
    let taken = length-take (c.end - c.first) (drop c.first w.plan.listing) in
    let short : i < c.end - c.first = omega (arith, l, taken) in (
      get_or-take (c.end - c.first) (drop c.first w.plan.listing) i 0 short ∙ get_or-drop c.first w.plan.listing i 0,
      omega (arith, short, below_end),
    )

-- no member stands twice
pub member_once : {C : Type 0} {b : Behaviour C} {w : Wiring} → IsWired b w → (x u : ℕ) → exits w.plan x ≡ true → count_by (λ e. e == u) (members_at w.plan x) ≤ 1
member_once {C} {b} {w} wired x u exit = once_each (members_at w.plan x) apart u
  where
    apart : (i j : ℕ) → i < length (members_at w.plan x) → j < length (members_at w.plan x) → get_or (members_at w.plan x) i 0 ≡ get_or (members_at w.plan x) j 0 → i ≡ j
    apart i j l m e =
        let a = member_place wired x i exit l in
        let c = member_place wired x j exit m in
        let p = wired.axioms.place_at ((component_of w.plan x).first + i) a.1 in
        let q = wired.axioms.place_at ((component_of w.plan x).first + j) c.1 in
        let same_element : get_or w.plan.listing ((component_of w.plan x).first + i) 0 ≡ get_or w.plan.listing ((component_of w.plan x).first + j) 0 = sym a.0 ∙ e ∙ c.0 in
        omega (arith, sym p ∙ ap (place_of w.plan) same_element ∙ q)

pub some_members : {C : Type 0} {b : Behaviour C} {w : Wiring} → IsWired b w → (x : ℕ) → exits w.plan x ≡ true → 0 < length (members_at w.plan x)
some_members {C} {b} {w} wired x exit =
    let c = component_of w.plan x in
    let of = of_exit w.plan x exit in
    let below_end = end_within w.plan c wired.axioms of in
    let taken = length-take (c.end - c.first) (drop c.first w.plan.listing) in
    let dropped = length-drop c.first w.plan.listing in
    omega (arith, taken, dropped, below_end, first_before_end w.plan c wired.axioms of, wired.axioms.listed)

-- the head is the first
pub head_first : {C : Type 0} {b : Behaviour C} {w : Wiring} → IsWired b w → (x : ℕ) → exits w.plan x ≡ true → get_or (members_at w.plan x) 0 0 ≡ head_of w.plan x
head_first {C} {b} {w} wired x exit =
    let c = component_of w.plan x in
    let of = of_exit w.plan x exit in
    let at = member_place wired x 0 exit (some_members wired x exit) in
    let place : c.first + 0 ≡ place_of w.plan c.head = omega (arith, first_at w.plan c wired.axioms of) in
    at.0 ∙ ap (λ (k : ℕ). get_or w.plan.listing k 0) place ∙ wired.axioms.at_place c.head (head_within w.plan c wired.axioms of)

pub head_holds : {C : Type 0} {b : Behaviour C} {w : Wiring} → IsWired b w → (x : ℕ) → exits w.plan x ≡ true → holds w.plan x (head_of w.plan x) ≡ true
head_holds {C} {b} {w} wired x exit = (axioms_of wired).shape.head_inside x exit

-- a later member isn't the head
pub later_member : {C : Type 0} {b : Behaviour C} {w : Wiring} → IsWired b w → (x i : ℕ) → exits w.plan x ≡ true → 0 < i → i < length (members_at w.plan x) → (holds w.plan x (get_or (members_at w.plan x) i 0) ≡ true) × (get_or (members_at w.plan x) i 0 ≢ head_of w.plan x)
later_member {C} {b} {w} wired x i exit some_i l = (
  member_in wired x (get_or (members_at w.plan x) i 0) exit (has_get (members_at w.plan x) i l),
  λ e. absurd (
      let a = member_place wired x i exit l in
      let c = member_place wired x 0 exit (some_members wired x exit) in
      let p = wired.axioms.place_at ((component_of w.plan x).first + i) a.1 in
      let q = wired.axioms.place_at ((component_of w.plan x).first + 0) c.1 in
      let same_element : get_or w.plan.listing ((component_of w.plan x).first + i) 0 ≡ get_or w.plan.listing ((component_of w.plan x).first + 0) 0 = sym a.0 ∙ e ∙ sym (head_first wired x exit) ∙ c.0 in
      let z : (component_of w.plan x).first + i ≡ (component_of w.plan x).first + 0 = sym p ∙ ap (place_of w.plan) same_element ∙ q in
      omega (arith, z, some_i)
      ),
)

-- an exit isn't a member of its own component
pub exit_no_member : {C : Type 0} {b : Behaviour C} {w : Wiring} → IsWired b w → (x : ℕ) → exits w.plan x ≡ true → holds w.plan x x ≡ true → ⊥
exit_no_member {C} {b} {w} wired x exit h =
    let inside = of_has x (members_at w.plan x) (member_of wired x x h) in
    exit_outside w.plan (component_of w.plan x) wired.axioms (of_exit w.plan x exit) (subst (λ (j : ℕ). has_of_members j) (sym (exit_is w.plan x wired.axioms exit)) inside)
  where
    has_of_members : ℕ → Type 0
    has_of_members j = Inside w.plan (component_of w.plan x) j

pub inner_small : {C : Type 0} {b : Behaviour C} {w : Wiring} → IsWired b w → (x e : ℕ) → inner (shape_of w.plan) x e < 262144
inner_small {C} {b} {w} wired x e = omega (arith, count_most (holds w.plan x) (predecessors_of w.plan e), few_before wired e)
