-- A bound as one number of 128 bits: the greatest of them stands for none.
use Rattle.std.specs.Prelude.{◌≡◌, ◌-◌, ◌^◌, ℤ, pos, ◌≤ℤ◌, int_lt, Option, Some, None, Bool, true, false, if◌then◌else◌, refl}
use Rattle.std.proofs.Common.{arith, ap}
use Rattle.std.proofs.lemmas.Int.{ints}
use Rattle.pk_octmat.specs.declared.bound.Bound.TheInside.{Inside}

abbrev pub packed_none : ℤ
packed_none = pos (2 ^ 127 - 1)

abbrev pub unpacked : Inside → Option ℤ
unpacked b = if int_lt b.packed packed_none then Some b.packed else None

abbrev pub IsPacked : Inside → Type 0
IsPacked b = b.packed ≤ℤ packed_none

abbrev pub packed_of : Option ℤ → ℤ
packed_of None = packed_none
packed_of (Some z) = z

abbrev pub packed_bound : Option ℤ → Inside
packed_bound o = record { packed = packed_of o }

-- packing undoes unpacking
pub packed_unpacked : (b : Inside) → IsPacked b → packed_bound (unpacked b) ≡ b
packed_unpacked b h =
    ap (λ (z : ℤ). let p : Inside = record { packed = z } in p) (by (int_lt b.packed packed_none) refl)
  where
    by : (t : Bool) → int_lt b.packed packed_none ≡ t → packed_of (if t then Some b.packed else None) ≡ b.packed
    by true e = refl
    by false e = omega (arith, ints, h, e)
