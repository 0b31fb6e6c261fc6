use Rattle.std.specs.Prelude.{◌≡◌, ◌<◌, ℕ, [], length, take, slice_index_or}
use Rattle.pk_octagons.specs.Packs.{places_of}
use Rattle.pk_octagons.proofs.packs.placed.Given as goal

-- the places in so many packs
abbrev pub invariant-loop-p : goal.invariant-loop-p
invariant-loop-p l = (length l.table.items ≡ l.count) × ((x : ℕ) → x < l.count → slice_index_or l.table.items x [] ≡ places_of (take l.p l.packs) x)
