-- What a rule allows a rule with a further part allows too.
use Rattle.std.proofs.Common.{◌≡◌, ℕ, zero, suc, ◌<◌, List, [], ◌∷◌, set, get_or, refl, ap, subst, inl, inr, ◌⊎◌}
use mathlib.Core.Option.{Option, some, none}
use lib.ListN.{get_elem?}
use Rattle.atomic_table.specs.Table.{State, Me, Act, keeps, takes, gives, chain, carried_after, homes_after, Valid, Allows, Splits}
use Rattle.pk_lift.specs.Further.{Right, Both, AllRight}

set_at : {A : Type 0} (xs : List A) (i k : ℕ) (y x : A) → get_elem? (set xs i y) k ≡ some x → ((i ≡ k) × (y ≡ x)) ⊎ (get_elem? xs k ≡ some x)
set_at [] i k y x h = inr h
set_at (z ∷ xs) zero zero y x h = inl (refl, cc)
set_at (z ∷ xs) zero (suc k) y x h = inr h
set_at (z ∷ xs) (suc i) zero y x h = inr h
set_at (z ∷ xs) (suc i) (suc k) y x h = elim (set_at xs i k y x h) [
  | inl q ↦ inl (ap suc q.0, q.1)
  | inr q ↦ inr q
]

abbrev HomesRight : {S : Type 0} → (ℕ → S → Type 0) → List (Option S) → Type 0
HomesRight {S} right hs = (k : ℕ) (x : S) → get_elem? hs k ≡ some (some x) → right k x

-- a slot less is at home
pub taken_right : {S : Type 0} (right : ℕ → S → Type 0) (hs : List (Option S)) (k : ℕ) → ((j : ℕ) (x : S) → get_elem? hs j ≡ some (some x) → right j x) → (j : ℕ) (x : S) → get_elem? (set hs k none) j ≡ some (some x) → right j x
taken_right right hs k home j x at = elim (set_at hs k j none (some x) at) [
  | inl q ↦ absurd (let n = q.1 in cc)
  | inr q ↦ home j x q
]

-- whatever slots go out and come home, those at home and those that are carried stay right
acts : {S : Type 0} (right : ℕ → S → Type 0) (hs : List (Option S)) (c : List (ℕ × S)) (a : Act S) → Valid hs c a → HomesRight right hs → AllRight right c → HomesRight right (homes_after hs c a) × AllRight right (carried_after c a)
acts right hs c keeps valid home carried = (home, carried)
acts {S} right hs c (takes k y) valid home carried = (taken_right right hs k home, (home k y valid, carried))
acts {S} right hs [] gives valid home carried = (home, carried)
acts {S} right hs (z ∷ zs) gives valid home carried = (
  λ j x at. elim (set_at hs z.0 j (some z.1) (some x) at) [
    | inl q ↦ let zx : z.1 ≡ x = (let n = q.1 in cc) in subst (λ (y : S). right j y) zx (subst (λ (i : ℕ). right i z.1) q.0 carried.0)
    | inr q ↦ home j x q
  ],
  carried.1,
)
acts {S} right hs c (chain a b) valid home carried =
    let one = acts right hs c a valid.0 home carried in
    acts right (homes_after hs c a) (carried_after c a) b valid.1 one.0 one.1

-- A step that the rule allows. Where it makes nothing wrong that was right, and what the pass carries was right, the further rule is kept too.
pub lifts : {S V : Type 0} (holds : State S V → Type 0) (right : Right S) (slots id : ℕ) (me : Me S V) (i : ℕ) (f : ℕ → ℕ) (then : ℕ → Me S V → Type 0)
    → Allows holds slots id me i f then
    → ((s : State S V) → holds s → get_elem? s.views id ≡ some me.0 → get_or s.words i 0 < 18446744073709551616 → (new : Me S V) → then (get_or s.words i 0) new
    → (k : ℕ) (x : S) → right s.words k x → right (set s.words i (f (get_or s.words i 0))) k x)
    → ((s : State S V) → holds s → get_elem? s.views id ≡ some me.0 → AllRight (right s.words) me.1)
    → Allows (Both holds right) slots id me i f then
lifts {S} {V} holds right slots id me i f then allows stays carried s both long at fits =
    let r = allows s both.0 long at fits in
    let a = acts (right s.words) s.homes me.1 r.1 r.2 both.1.homes (carried s both.0 at) in (
      r.0,
      r.1,
      r.2,
      (r.3, record { homes = λ k x here. stays s both.0 at fits (r.0, carried_after me.1 r.1) r.4 k x (a.0 k x here) }),
      r.4,
    )

-- A fact that holds whenever the step comes is told beside what the step tells.
pub tells_too : {S V : Type 0} (holds : State S V → Type 0) (slots id : ℕ) (me : Me S V) (i : ℕ) (f : ℕ → ℕ) (then : ℕ → Me S V → Type 0) (Fact : Type 0)
    → Allows holds slots id me i f then → ((s : State S V) → holds s → get_elem? s.views id ≡ some me.0 → Fact) → Allows holds slots id me i f (λ n new. then n new × Fact)
tells_too holds slots id me i f then Fact allows fact s here long at fits =
    let r = allows s here long at fits in
    (r.0, r.1, r.2, r.3, (r.4, fact s here at))

-- A pass more changes neither words nor slots.
pub splits_too : {S V : Type 0} (holds : State S V → Type 0) (right : Right S) (id : ℕ) (v left rest : V) → Splits holds id v left rest → Splits (Both holds right) id v left rest
splits_too holds right id v left rest splits s both at = (splits s both.0 at, record { homes = both.1.homes })
