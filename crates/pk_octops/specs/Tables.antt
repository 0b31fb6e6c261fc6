-- Order, join, widening and narrowing, bound by bound.
use Rattle.std.specs.Prelude.{ℕ, ℤ, Option, Some, None, if◌then◌else◌}
use Rattle.pk_octmat.specs.Bounds.{AtMost, greater, is_at_most}
use Rattle.pk_octmat.specs.Octagon.{Octagon, entry, octagon_of}

-- each bound of a is at most that of b
pub record IsBelow (a b : Octagon) : Type 0 where
  pub each : (i j : ℕ) → AtMost (entry a i j) (entry b i j)

-- h's bound if n's is at most it, else none
abbrev pub widened : Option ℤ → Option ℤ → Option ℤ
widened h n = if is_at_most n h then h else None

-- n's bound where h has none
abbrev pub narrowed : Option ℤ → Option ℤ → Option ℤ
narrowed None n = n
narrowed (Some h) n = Some h

-- the matrices that these bounds make
abbrev pub join_of : Octagon → Octagon → Octagon
join_of a b = octagon_of a.vars (λ i j. greater (entry a i j) (entry b i j))

abbrev pub widening_of : Octagon → Octagon → Octagon
widening_of h n = octagon_of h.vars (λ i j. widened (entry h i j) (entry n i j))

abbrev pub narrowing_of : Octagon → Octagon → Octagon
narrowing_of h n = octagon_of h.vars (λ i j. narrowed (entry h i j) (entry n i j))
