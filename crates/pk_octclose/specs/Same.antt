-- The closing of a small octagon of few variables is one of the integers that meet it.
use Rattle.std.specs.Prelude.{◌≡◌, ℕ, ◌≤◌, ℤ, None}
use Rattle.pk_octmat.specs.Octagon.{Octagon, entry, IsOctagon, Meets}
use Rattle.pk_octclose.specs.Closing.{IsSmall, KeepsPoints}
use Rattle.pk_octclose.specs.Places.{closing_of}

-- Over at most 64 variables, two octagons with small bounds that the same integers meet have the same closing, and one
-- that none meet has none.
pub record ClosingIsOfPoints : Type 0 where
  pub same : (a b : Octagon) → IsOctagon a → IsOctagon b → IsSmall a → IsSmall b → a.vars ≤ 64 → b.vars ≡ a.vars →
      KeepsPoints (entry a) (entry b) → closing_of a ≡ closing_of b
  pub none : (m : Octagon) → IsOctagon m → IsSmall m → m.vars ≤ 64 → ((x : ℕ → ℤ) → Meets (entry m) x → ⊥) →
      closing_of m ≡ None
