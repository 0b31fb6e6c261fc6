-- What is told: it holds or it doesn't.
use Rattle.std.specs.Prelude.{◌≡◌, ◌⊎◌, ℕ, zero, suc, ◌<◌, ℤ, ◌≤ℤ◌, ◌<ℤ◌, Bool, true, false, Option, Some, None}
use Rattle.std.specs.Bool.{Decides}
use Rattle.std.specs.Ordering.{int_eq}
use Rattle.std.proofs.Common.{arith, refl, ap, sym, subst, inl, inr}
use Rattle.std.proofs.lemmas.Bool.{cases_eq}
use Rattle.std.proofs.lemmas.Bool.Decides.{Decides-int_eq}
use Rattle.std.proofs.lemmas.Int.{ints, by_lt_z}

abbrev pub Told : Type 0 → Type 0
Told P = P ⊎ (P → ⊥)

-- the same in other words
pub told_as : (A B : Type 0) → (A → B) → (B → A) → Told A → Told B
told_as A B on back (inl a) = inl (on a)
told_as A B on back (inr never) = inr (λ b. never (back b))

-- the second where the first holds
pub told_and : (A B : Type 0) → Told A → (A → Told B) → Told (A × B)
told_and A B (inl a) b = told_as B (A × B) (λ y. (a, y)) (λ p. p.1) (b a)
told_and A B (inr never) b = inr (λ p. never p.0)

pub told_either : (A B : Type 0) → Told A → Told B → Told (A ⊎ B)
told_either A B (inl a) b = inl (inl a)
told_either A B (inr never) (inl b) = inl (inr b)
told_either A B (inr never) (inr none) = inr (λ p. elim p [ inl a ↦ never a | inr b ↦ none b ])

-- by a test
pub told_by : (A : Type 0) (b : Bool) → Decides b A → Told A
told_by A true d = inl (d.0 refl)
told_by A false d = inr (λ h. let t = d.1 h in cc)

pub told_most : (a b : ℤ) → Told (a ≤ℤ b)
told_most a b = by_lt_z b a (λ l. inr (λ h. absurd (omega (arith, ints, l, h)))) (λ h. inl h)

pub told_less : (a b : ℤ) → Told (a <ℤ b)
told_less a b = by_lt_z a b (λ l. inl l) (λ h. inr (λ l. absurd (omega (arith, ints, l, h))))

pub told_equal : (a b : ℤ) → Told (a ≡ b)
told_equal a b = told_by (a ≡ b) (int_eq a b) (Decides-int_eq a b)

pub told_bound : (a b : Option ℤ) → Told (a ≡ b)
told_bound None None = inl refl
told_bound None (Some b) = inr (λ e. cc)
told_bound (Some a) None = inr (λ e. cc)
told_bound (Some a) (Some b) = told_as (a ≡ b) (Some a ≡ Some b) (λ e. ap (λ (x : ℤ). Some x) e) (λ e. cc) (told_equal a b)

-- whether all numbers below n have a property
pub told_below : (P : ℕ → Type 0) → ((k : ℕ) → Told (P k)) → (n : ℕ) → Told ((k : ℕ) → k < n → P k)
told_below P each zero = inl (λ k h. absurd (omega (arith, h)))
told_below P each (suc n) = elim (each n) [
  | inl last ↦ elim (told_below P each n) [
    | inl all ↦ inl (λ k h. elim (cases_eq k n) [ inl e ↦ subst P (sym e) last | inr e ↦ all k (omega (arith, h, e)) ])
    | inr never ↦ inr (λ all. never (λ k h. all k (omega (arith, h))))
  ]
  | inr never ↦ inr (λ all. never (all n (omega arith)))
]
