-- Tests on facts: whether those of one state are within those of another, and whether they are the same.
use Rattle.std.specs.Prelude.{◌==◌, ◌&&◌, Bool, true, false, ℤ, List, [], ◌∷◌, Option, None, Some}
use Rattle.std.specs.Ordering.{int_eq}
use Rattle.pk_value.specs.Known.{Known, is_within}
use Rattle.pk_octmat.specs.Bounds.{is_at_most}
use Rattle.pk_octmat.specs.Octagon.{Octagon}
use Rattle.pk_state.specs.Facts.{Facts}

abbrev pub values_within : List Known → List Known → Bool
values_within [] bs = true
values_within (a ∷ others) [] = true
values_within (a ∷ others) (b ∷ bs) = is_within a b && values_within others bs

-- each bound is at most the other's
abbrev pub bounds_within : List (Option ℤ) → List (Option ℤ) → Bool
bounds_within [] bs = true
bounds_within (a ∷ others) [] = true
bounds_within (a ∷ others) (b ∷ bs) = is_at_most a b && bounds_within others bs

abbrev pub octagons_within : List Octagon → List Octagon → Bool
octagons_within [] bs = true
octagons_within (a ∷ others) [] = true
octagons_within (a ∷ others) (b ∷ bs) = bounds_within a.cells b.cells && octagons_within others bs

abbrev pub is_below : Option Facts → Option Facts → Bool
is_below None b = true
is_below (Some a) None = false
is_below (Some a) (Some b) = values_within a.values b.values && octagons_within a.octagons b.octagons

abbrev pub same_known : Known → Known → Bool
same_known a b =
    int_eq a.range.lo b.range.lo
    && (int_eq a.range.hi b.range.hi && (int_eq a.class.m b.class.m && int_eq a.class.r b.class.r))

abbrev pub same_values : List Known → List Known → Bool
same_values [] [] = true
same_values [] (b ∷ bs) = false
same_values (a ∷ others) [] = false
same_values (a ∷ others) (b ∷ bs) = same_known a b && same_values others bs

abbrev pub same_bound : Option ℤ → Option ℤ → Bool
same_bound None None = true
same_bound None (Some b) = false
same_bound (Some a) None = false
same_bound (Some a) (Some b) = int_eq a b

abbrev pub same_bounds : List (Option ℤ) → List (Option ℤ) → Bool
same_bounds [] [] = true
same_bounds [] (b ∷ bs) = false
same_bounds (a ∷ others) [] = false
same_bounds (a ∷ others) (b ∷ bs) = same_bound a b && same_bounds others bs

abbrev pub same_octagon : Octagon → Octagon → Bool
same_octagon a b = (a.vars == b.vars) && same_bounds a.cells b.cells

abbrev pub same_octagons : List Octagon → List Octagon → Bool
same_octagons [] [] = true
same_octagons [] (b ∷ bs) = false
same_octagons (a ∷ others) [] = false
same_octagons (a ∷ others) (b ∷ bs) = same_octagon a b && same_octagons others bs

abbrev pub is_same : Option Facts → Option Facts → Bool
is_same None None = true
is_same None (Some b) = false
is_same (Some a) None = false
is_same (Some a) (Some b) = same_values a.values b.values && same_octagons a.octagons b.octagons
