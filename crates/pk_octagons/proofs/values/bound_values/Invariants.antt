use Rattle.std.proofs.Common.{◌≡◌, ◌<◌, ℕ, length, drop}
use Rattle.std.specs.Prelude.{List, []}
use Rattle.pk_ctypes.specs.declared.types.IntType.{IntType}
use Rattle.pk_octagons.specs.Packs.{pack_at}
use Rattle.pk_octagons.specs.Octagons.{octagon_at}
use Rattle.pk_octagons.specs.Values.{AreValues, AreMarked}
use Rattle.pk_octagons.specs.Reduced.{bounded_values, BoundsNone}
use Rattle.pk_octagons.proofs.values.bound_values.Given as goal

-- bounded by so many octagons; where none is listed, they changed none
abbrev pub invariant-loop-p : goal.invariant-loop-p
invariant-loop-p l =
    (length l.values ≡ length l.fn.values) × ((types : List IntType) → AreValues types l.fn.values → AreValues types l.values)
    × (bounded_values (drop l.p l.packs) (drop l.p l.all) l.values ≡ bounded_values l.packs l.all l.fn.values) × AreMarked l.values l.loose.items
    × (l.loose.items ≡ [] → (l.values ≡ l.fn.values) × ((q : ℕ) → q < l.p → BoundsNone (pack_at l.packs q) l.fn.values (octagon_at l.all q)))
