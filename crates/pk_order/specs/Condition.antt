-- Bourdoncle's condition on an order with brackets (F. Bourdoncle, Efficient chaotic iteration strategies with widenings, 1993).
use Rattle.std.specs.Prelude.{◌≡◌, ℕ, ◌⊎◌, List, ◌∷◌, ◌++◌, Contains}
use Rattle.pk_plan.specs.Digraphs.{Edge}
use Rattle.pk_plan.specs.Order.{Level}
use Rattle.pk_plan.specs.Linear.{elements_of, Bracket, brackets_of}

-- a stands to the left of b
pub record StandsBefore (order : Level) (a b : ℕ) : Type 0 where
  pub before : List ℕ
  pub after : List ℕ
  pub cut : elements_of order ≡ before ++ b ∷ after
  pub has : Contains before a

-- h is the head of a pair of brackets that holds e
pub record IsHeadAround (order : Level) (h e : ℕ) : Type 0 where
  pub bracket : Bracket
  pub drawn : Contains (brackets_of order) bracket
  pub head : bracket.head ≡ h
  pub holds : Contains bracket.members e

-- An edge leads to the right, and to no head of brackets that hold its source; or to the head of such brackets, which stands to the
-- left of its source or is its source.
abbrev pub IsWeakTopologicalOrder : List (List ℕ) → Level → Type 0
IsWeakTopologicalOrder g order =
    (u v : ℕ) → Edge g u v → (StandsBefore order u v × (IsHeadAround order v u → ⊥))
    ⊎ (((v ≡ u) ⊎ StandsBefore order v u) × IsHeadAround order v u)
