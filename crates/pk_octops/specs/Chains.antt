-- Widening steps, one after another.
use Rattle.std.specs.Prelude.{◌≡◌, ℕ, zero, suc, ◌<◌, ◌≤◌, ◌+◌, ◌*◌, ℤ, Option, Some, None, List, [], ◌∷◌, length}
use Rattle.pk_octmat.specs.Octagon.{Octagon, entry, HasEntries}
use Rattle.pk_octops.specs.Tables.{IsBelow, widened}

-- w is h widened by n
abbrev pub IsWidening : Octagon → Octagon → Octagon → Type 0
IsWidening h n w = HasEntries h.vars (λ i j. widened (entry h i j) (entry n i j)) w

-- a bound of h is a number, and the same of w none
pub record LosesNumber (h w : Octagon) : Type 0 where
  pub from : ℕ
  pub to : ℕ
  pub number : ℤ
  pub old : entry h from to ≡ Some number
  pub new : entry w from to ≡ None

-- w is h widened by a matrix that isn't below it
pub record IsStep (h w : Octagon) : Type 0 where
  pub by : Octagon
  pub vars : by.vars ≡ h.vars
  pub above : IsBelow by h → ⊥
  pub is : IsWidening h by w

-- each matrix is the one before, widened by one that isn't below that
abbrev pub IsChain : Octagon → List Octagon → Type 0
IsChain h [] = Unit {0}
IsChain h (w ∷ ws) = IsStep h w × IsChain w ws

-- a step that isn't below loses a number
abbrev pub WideningLosesNumbers : Type 0
WideningLosesNumbers = (h w : Octagon) → IsStep h w → LosesNumber h w

-- so a chain is no longer than a matrix has bounds
abbrev pub WideningChainsEnd : Type 0
WideningChainsEnd = (h : Octagon) (ws : List Octagon) → IsChain h ws → length ws ≤ 2 * h.vars * (2 * h.vars)

-- the sum of the first k numbers
abbrev pub sum_below : ℕ → (ℕ → ℕ) → ℕ
sum_below zero f = 0
sum_below (suc k) f = f k + sum_below k f

-- 1 where the bound is a number
abbrev pub one : Option ℤ → ℕ
one None = 0
one (Some z) = 1

-- how many bounds of a matrix are numbers
abbrev pub numbers : ℕ → (ℕ → ℕ → Option ℤ) → ℕ
numbers d e = sum_below d (λ i. sum_below d (λ j. one (e i j)))

abbrev pub numbers_of : Octagon → ℕ
numbers_of m = numbers (2 * m.vars) (entry m)

-- These are a rank for widening: no more than bounds, never more after a step, and fewer after one that isn't below.
pub record NumbersAreRanks : Type 0 where
  pub few : (h : Octagon) → numbers_of h ≤ 2 * h.vars * (2 * h.vars)
  pub stays : (h n w : Octagon) → IsWidening h n w → numbers_of w ≤ numbers_of h
  pub falls : (h n w : Octagon) → n.vars ≡ h.vars → (IsBelow n h → ⊥) → IsWidening h n w → numbers_of w < numbers_of h
