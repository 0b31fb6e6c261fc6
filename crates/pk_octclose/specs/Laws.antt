-- Laws of closing.
use Rattle.std.specs.Prelude.{◌≡◌, ◌≢◌, ℕ, ◌<◌, ◌-◌, ◌*◌, ◌/◌, ◌^◌, ◌==◌, if◌then◌else◌, ℤ, negsuc, neg_ℤ, ◌-ℤ◌, ◌<ℤ◌, Option, Some, None}
use Rattle.pk_octmat.specs.Bounds.{greater, plus, capped}
use Rattle.pk_octmat.specs.Octagon.{Octagon, entry, bar, forgotten, IsMatrix, IsOctagon, HasEntries}
use Rattle.pk_octclose.specs.Closing.{IsClosing, IsClosed, IsEmpty}

-- a matrix has at most one closing, and none where it is empty
pub record ClosingIsDetermined : Type 0 where
  pub one : (m : Octagon) (r s : ℕ → ℕ → Option ℤ) → IsClosing (2 * m.vars) (entry m) r →
      IsClosing (2 * m.vars) (entry m) s → (i j : ℕ) → i < 2 * m.vars → j < 2 * m.vars → r i j ≡ s i j
  pub none : (m : Octagon) (r : ℕ → ℕ → Option ℤ) → IsClosing (2 * m.vars) (entry m) r →
      IsEmpty (2 * m.vars) (entry m) → ⊥

-- the closing of a matrix is its own closing
abbrev pub ClosingIsClosed : Type 0
ClosingIsClosed =
    (m r : Octagon) → IsMatrix (2 * m.vars) m.cells → r.vars ≡ m.vars → IsClosing (2 * m.vars) (entry m) (entry r) →
    IsClosed (2 * r.vars) (entry r)

-- the place that variable k and its negative change with each other
abbrev pub exchange : ℕ → ℕ → ℕ
exchange k i = if (i / 2) == k then bar i else i

-- a number above -2^66
abbrev pub IsInside : Option ℤ → Type 0
IsInside None = ⊥
IsInside (Some z) = negsuc (2 ^ 66 - 1) <ℤ z

-- Closed matrices stay closed where they are joined, lose a variable, exchange one for its negative, or gain along where no bound that changes is none or at the cap.
pub record ClosedStayClosed : Type 0 where
  pub joined : (a b c : Octagon) → IsOctagon c → IsClosed (2 * a.vars) (entry a) → IsClosed (2 * b.vars) (entry b) →
      b.vars ≡ a.vars → HasEntries a.vars (λ i j. greater (entry a i j) (entry b i j)) c →
      IsClosed (2 * c.vars) (entry c)
  pub forgotten : (a c : Octagon) (k : ℕ) → IsOctagon c → IsClosed (2 * a.vars) (entry a) →
      HasEntries a.vars (forgotten (entry a) k) c → IsClosed (2 * c.vars) (entry c)
  pub exchanged : (a c : Octagon) (k : ℕ) → IsOctagon c → IsClosed (2 * a.vars) (entry a) →
      HasEntries a.vars (λ i j. entry a (exchange k i) (exchange k j)) c → IsClosed (2 * c.vars) (entry c)
  pub gained : (a c : Octagon) (g : ℕ → ℤ) → IsOctagon c → IsClosed (2 * a.vars) (entry a) →
      ((i : ℕ) → g (bar i) ≡ neg_ℤ (g i))
      → ((i j : ℕ) → i < 2 * a.vars → j < 2 * a.vars → g i ≢ g j → IsInside (entry a i j))
      → HasEntries a.vars (λ i j. capped (plus (entry a i j) (Some (g j -ℤ g i)))) c → IsClosed (2 * c.vars) (entry c)
