-- What the values say of octagons, their closings, and what these say of the values.
use Rattle.std.specs.Prelude.{◌≡◌, Bool, true, false, ℕ, zero, suc, ◌+◌, ◌*◌, ◌<◌, ℤ, neg_ℤ, List, [], ◌∷◌, length, slice_set, Option, Some, None}
use Rattle.std.specs.Int.{int_min, int_max}
use Rattle.pk_interval.specs.Ranges.{Range, range_from}
use Rattle.pk_value.specs.Known.{Known}
use Rattle.pk_octmat.specs.Bounds.{halved}
use Rattle.pk_octmat.specs.Octagon.{Octagon, entry, octagon_of}
use Rattle.pk_octclose.specs.Closing.{IsClosed}
use Rattle.pk_octclose.specs.Places.{closing_of}
use Rattle.pk_octops.specs.Guards.{guarded}
use Rattle.pk_octops.specs.Values.{least_of}
use Rattle.pk_octagons.specs.Packs.{chosen_at, pack_at}
use Rattle.pk_octagons.specs.Values.{known_at}
use Rattle.pk_octagons.specs.Octagons.{octagon_at}
use Rattle.pk_octagons.specs.Changes.{then_with}

-- ---- octagons lowered by ranges, and closed

-- the octagon with V(a) at most c
abbrev pub at_most : Octagon → ℕ → ℤ → Octagon
at_most m a c = octagon_of m.vars (guarded (entry m) (Some a) None c)

-- lowered by the range of its variable k
abbrev pub by_range : Octagon → ℕ → Range → Octagon
by_range m k r = at_most (at_most m (2 * k) r.hi) (2 * k + 1) (neg_ℤ r.lo)

-- lowered by the ranges of its first n variables
abbrev pub by_ranges : List ℕ → List Known → ℕ → Octagon → Octagon
by_ranges chosen vs zero m = m
by_ranges chosen vs (suc k) m = by_range (by_ranges chosen vs k m) k (known_at vs (chosen_at chosen k)).range

-- the closing of an octagon that the ranges of its variables have lowered, if it has one
abbrev pub closed_in : List ℕ → List Known → Octagon → Option Octagon
closed_in chosen vs m = closing_of (by_ranges chosen vs (length chosen) m)

-- before the rest, if there is a rest
abbrev pub with_first : {A : Type 0} → Option A → Option (List A) → Option (List A)
with_first None vs = None
with_first (Some v) None = None
with_first (Some v) (Some vs) = Some (v ∷ vs)

-- each octagon so; none where one has no closing
abbrev pub closed_octagons : List (List ℕ) → List Known → List Octagon → Option (List Octagon)
closed_octagons [] vs ms = Some []
closed_octagons (chosen ∷ packs) vs [] = Some []
closed_octagons (chosen ∷ packs) vs (m ∷ ms) =
    with_first (closed_in chosen vs m) (closed_octagons packs vs ms)

-- ---- values bounded by octagons

-- a bound, or the octagon's if that is tighter
abbrev pub raised_low : Option ℤ → ℤ → ℤ
raised_low None z = z
raised_low (Some b) z = int_max b z

abbrev pub lowered_high : Option ℤ → ℤ → ℤ
lowered_high None z = z
lowered_high (Some b) z = int_min b z

abbrev pub with_range : Known → Option Range → Option Known
with_range k None = None
with_range k (Some r) = Some (record { range = r; class = k.class })

-- what is left of a value by the octagon's bounds on its variable k
abbrev pub bounded_by : Octagon → ℕ → Known → Option Known
bounded_by m k v =
    with_range v (range_from (raised_low (least_of (entry m (2 * k) (2 * k + 1))) v.range.lo)
    (lowered_high (halved (entry m (2 * k + 1) (2 * k))) v.range.hi))

abbrev pub bounded_at : Octagon → ℕ → ℕ → List Known → Option (List Known)
bounded_at m k x vs = then_with (bounded_by m k (known_at vs x)) (λ v. Some (slice_set vs x v))

-- the values, bounded by the octagon's first n variables
abbrev pub bounded_all : List ℕ → Octagon → ℕ → List Known → Option (List Known)
bounded_all chosen m zero vs = Some vs
bounded_all chosen m (suc k) vs = then_with (bounded_all chosen m k vs) (bounded_at m k (chosen_at chosen k))

-- the values, bounded by each octagon in order; none where nothing is left of one
abbrev pub bounded_values : List (List ℕ) → List Octagon → List Known → Option (List Known)
bounded_values [] ms vs = Some vs
bounded_values (chosen ∷ packs) [] vs = Some vs
bounded_values (chosen ∷ packs) (m ∷ ms) vs =
    then_with (bounded_all chosen m (length chosen) vs) (bounded_values packs ms)

-- the values, if they are kept
abbrev pub kept_if : Bool → List Known → Option (List Known)
kept_if true vs = Some vs
kept_if false vs = None

-- ---- octagons and values that leave each other as they are

-- closed, and the ranges lower none of its bounds
pub record IsResting (chosen : List ℕ) (vs : List Known) (m : Octagon) : Type 0 where
  pub closed : IsClosed (2 * m.vars) (entry m)
  pub lowered : (k : ℕ) → k < length chosen → by_range m k (known_at vs (chosen_at chosen k)).range ≡ m

abbrev pub AreResting : List (List ℕ) → List Known → List Octagon → Type 0
AreResting packs vs ms = (p : ℕ) → p < length ms → IsResting (pack_at packs p) vs (octagon_at ms p)

-- its bounds change none of the values
abbrev pub BoundsNone : List ℕ → List Known → Octagon → Type 0
BoundsNone chosen vs m =
    (k : ℕ) → k < length chosen →
    bounded_by m k (known_at vs (chosen_at chosen k)) ≡ Some (known_at vs (chosen_at chosen k))

abbrev pub BoundNone : List (List ℕ) → List Known → List Octagon → Type 0
BoundNone packs vs ms = (p : ℕ) → p < length ms → BoundsNone (pack_at packs p) vs (octagon_at ms p)
