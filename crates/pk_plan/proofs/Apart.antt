-- Lists in which no element stands twice.
use Rattle.std.proofs.Common.{◌≢◌, ℕ, suc, List, [], ◌∷◌, sym, arith, Contains, AllPairs}

-- no element stands in the list twice
abbrev pub Apart : List ℕ → Type 0
Apart [] = Unit {0}
Apart (x ∷ xs) = (Contains xs x → ⊥) × Apart xs

pub apart_of : (xs : List ℕ) → AllPairs (λ a b. a ≢ b) xs → Apart xs
apart_of [] differ = tt
apart_of (x ∷ xs) differ = (
  (λ has. differ 0 (suc has.0) x (omega arith) (omega (arith, has.1)) (sym has.2)),
  apart_of xs (λ i j d less within. differ (suc i) (suc j) d (omega (arith, less)) (omega (arith, within))),
)
