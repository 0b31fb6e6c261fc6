-- What is told: it holds or it doesn't.
use Rattle.std.proofs.Common.{◌⊎◌, ℕ, ◌<◌, ◌≤◌, List, [], ◌∷◌, inl, inr, arith, sym, subst, Contains}
use Rattle.std.proofs.lemmas.Bool.{cases_lt}
use Rattle.pk_linear.proofs.ListLemmas.{contains_none, contains_here, contains_there, contains_cases}

abbrev pub Told : Type 0 → Type 0
Told P = P ⊎ (P → ⊥)

-- whether an element of a list has a property
pub any_in : {X : Type 0} (xs : List X) (P : X → Type 0) → ((v : X) → Contains xs v → Told (P v)) → ((v : X) × Contains xs v × P v) ⊎ ((v : X) → Contains xs v → P v → ⊥)
any_in [] P tells = inr (λ v i p. contains_none i)
any_in {X} (x ∷ xs) P tells = elim (tells x (contains_here x xs)) [
  | inl does ↦ inl (x, contains_here x xs, does)
  | inr never ↦ elim (any_in xs P (λ v i. tells v (contains_there x xs i))) [
    | inl q ↦ inl (q.0, contains_there x xs q.1, q.2)
    | inr none ↦ inr (λ v i p. elim (contains_cases x v xs i) [ inl e ↦ never (subst P (sym e) p) | inr j ↦ none v j p ])
  ]
]

pub told_both : (A B : Type 0) → Told A → Told B → Told (A × B)
told_both A B (inl a) (inl b) = inl (a, b)
told_both A B (inl a) (inr never) = inr (λ p. never p.1)
told_both A B (inr never) b = inr (λ p. never p.0)

pub told_not : (A : Type 0) → Told A → Told (A → ⊥)
told_not A (inl a) = inr (λ never. never a)
told_not A (inr never) = inl never

pub told_less : (a b : ℕ) → Told (a < b)
told_less a b = elim (cases_lt a b) [ inl l ↦ inl l | inr m ↦ inr (λ l. absurd (omega (arith, l, m))) ]

pub told_most : (a b : ℕ) → Told (a ≤ b)
told_most a b = elim (cases_lt b a) [ inl l ↦ inr (λ m. absurd (omega (arith, l, m))) | inr m ↦ inl m ]
