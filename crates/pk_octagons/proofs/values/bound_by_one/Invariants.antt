use Rattle.std.proofs.Common.{◌≡◌, ◌<◌, ℕ, Some, length}
use Rattle.std.specs.Prelude.{List, []}
use Rattle.pk_ctypes.specs.declared.types.IntType.{IntType}
use Rattle.pk_octagons.specs.Packs.{chosen_at}
use Rattle.pk_octagons.specs.Values.{AreValues, AreMarked, known_at}
use Rattle.pk_octagons.specs.Reduced.{bounded_all, bounded_by}
use Rattle.pk_octagons.proofs.values.bound_by_one.Given as goal

-- bounded by so many; where none is listed, they changed none
abbrev pub invariant-loop-k : goal.invariant-loop-k
invariant-loop-k l =
    (length l.values ≡ length l.fn.values) × ((types : List IntType) → AreValues types l.fn.values → AreValues types l.values) × (bounded_all l.pack l.m l.k l.fn.values ≡ Some l.values) × AreMarked l.values l.loose.items
    × (l.loose.items ≡ [] → (l.fn.loose.items ≡ []) × (l.values ≡ l.fn.values) × ((j : ℕ) → j < l.k → bounded_by l.m j (known_at l.fn.values (chosen_at l.pack j)) ≡ Some (known_at l.fn.values (chosen_at l.pack j))))
