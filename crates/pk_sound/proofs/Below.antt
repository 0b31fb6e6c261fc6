-- What the test of the order says.
use Rattle.std.proofs.Common.{◌≡◌, refl, Bool, true, false, Option, None, Some, ℤ, arith}
use Rattle.std.specs.Prelude.{int_le}
use Rattle.std.proofs.lemmas.Int.{ints}
use Rattle.pk_congr.proofs.Keeping.{unchanged}
use Rattle.pk_ctypes.proofs.Small.{and_true}
use Rattle.pk_congr.specs.Classes as classes
use Rattle.pk_interval.specs.Ranges as ranges
use Rattle.pk_value.specs.Known.{Known, is_within}
use Rattle.pk_octops.proofs.Kept.{values_kept}
use Rattle.pk_octagons.specs.Values.{known_at}
use Rattle.pk_octagons.specs.Octagons.{octagon_at}
use Rattle.pk_state.specs.Layouts.{Layout}
use Rattle.pk_state.specs.Facts.{Facts, AreFactsIf, IsBelow}
use Rattle.pk_analysis.specs.Orders.{is_below}
use Rattle.pk_analysis.proofs.OrderLemmas.{below_decides}

pub below_from : (l : Layout) (a b : Option Facts) → AreFactsIf l a → AreFactsIf l b → is_below a b ≡ true → IsBelow a b
below_from l a b f g e = (below_decides l a b f g).0 e

-- ---- all is below itself

le_itself : (z : ℤ) → int_le z z ≡ true
le_itself z = by (int_le z z) refl
  where
    by : (b : Bool) → int_le z z ≡ b → b ≡ true
    by true e = refl
    by false e = absurd (omega (arith, ints, e))

within_itself : (k : Known) → is_within k k ≡ true
within_itself k = and_true (ranges.is_within k.range k.range) (classes.is_within k.class k.class) (and_true (int_le k.range.lo k.range.lo) (int_le k.range.hi k.range.hi) (le_itself k.range.lo) (le_itself k.range.hi)) (unchanged.within_itself k.class)

pub below_itself : (a : Option Facts) → IsBelow a a
below_itself None = tt
below_itself (Some a) = record { values = λ x h. within_itself (known_at a.values x); octagons = λ p q. values_kept.below_itself (octagon_at a.octagons p) }
