-- A matrix is its bounds.
use Rattle.std.specs.Prelude.{◌≡◌, ℕ, ◌<◌, ◌*◌, ◌^◌, ℤ, pos, Option, Some}
use Rattle.pk_octmat.specs.Bounds.{IsNear}
use Rattle.pk_octmat.specs.Octagon.{Octagon, entry, bar, octagon_of, IsOctagon, HasEntries}

-- bounds that make a matrix over n variables: coherent, none or within 2^66 of 0, and 0 on the diagonal
pub record AreBounds (n : ℕ) (f : ℕ → ℕ → Option ℤ) : Type 0 where
  pub few : n < 2 ^ 31
  pub zero : (i : ℕ) → i < 2 * n → f i i ≡ Some (pos 0)
  pub turned : (i j : ℕ) → i < 2 * n → j < 2 * n → f i j ≡ f (bar j) (bar i)
  pub near : (i j : ℕ) → i < 2 * n → j < 2 * n → IsNear (2 ^ 66) (f i j)

-- Two matrices with the same bounds are one, that which the bounds make; and such bounds make one.
pub record OctagonsAreEntries : Type 0 where
  pub one : (a b : Octagon) → IsOctagon a → IsOctagon b → HasEntries b.vars (entry b) a → a ≡ b
  pub is : (n : ℕ) (f : ℕ → ℕ → Option ℤ) (m : Octagon) → IsOctagon m → HasEntries n f m → m ≡ octagon_of n f
  pub entries : (n : ℕ) (f : ℕ → ℕ → Option ℤ) → HasEntries n f (octagon_of n f)
  pub octagon : (n : ℕ) (f : ℕ → ℕ → Option ℤ) → AreBounds n f → IsOctagon (octagon_of n f)
