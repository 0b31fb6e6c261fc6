-- A narrowing step of a range holds what both hold.
use Rattle.std.specs.Prelude.{Bool, true, false, if◌then◌else◌, ℤ, ◌≤ℤ◌, int_le, Some, None}
use Rattle.std.specs.Ordering.{int_eq}
use Rattle.pk_ctypes.specs.Types.{low_of, high_of}
use Rattle.pk_interval.specs.Ranges.{Holds, range_from}
use Rattle.pk_interval.specs.Widening.{Narrows, narrowed_if}

pub range_narrowing : Narrows
range_narrowing t h n z k l = by (int_eq h.lo (low_of t)) (int_eq h.hi (high_of t))
  where
    found : (lo hi : ℤ) → lo ≤ℤ z → z ≤ℤ hi → Holds (narrowed_if (range_from lo hi) h) z
    found lo hi p q = one (int_le lo hi)
      where
        one : (b : Bool) → Holds (narrowed_if (if b then Some (record { lo = lo; hi = hi }) else None) h) z
        one true = record { from = p; to = q }
        one false = k

    by : (a b : Bool) → Holds (narrowed_if (range_from (if a then n.lo else h.lo) (if b then n.hi else h.hi)) h) z
    by true true = found n.lo n.hi l.from l.to
    by true false = found n.lo h.hi l.from k.to
    by false true = found h.lo n.hi k.from l.to
    by false false = found h.lo h.hi k.from k.to
