-- Lists of values, and their types one by one.
use Rattle.std.proofs.Common.{◌≡◌, ◌<◌, ℕ, zero, suc, ap, refl, List, [], ◌∷◌, ◌++◌, length, arith}
use Rattle.std.specs.List.{slice_index_or}
use Rattle.pk_ctypes.specs.declared.types.IntType.{IntType}
use Rattle.pk_value.specs.Known.{Known}
use Rattle.pk_octagons.specs.Values.{IsValue}
use Rattle.pk_analysis.specs.Starts.{AreTyped}

pub typed_many : (ks : List Known) (ts : List IntType) → AreTyped ks ts → length ks ≡ length ts
typed_many [] [] h = refl
typed_many [] (t ∷ ts) h = absurd h
typed_many (k ∷ ks) [] h = absurd h
typed_many (k ∷ ks) (t ∷ ts) h = ap suc (typed_many ks ts h.1)

pub typed_at : (ks : List Known) (ts : List IntType) (j : ℕ) (d : Known) (e : IntType) → AreTyped ks ts → j < length ks → IsValue (slice_index_or ts j e) (slice_index_or ks j d)
typed_at [] ts j d e h l = absurd (omega arith)
typed_at (k ∷ ks) [] j d e h l = absurd h
typed_at (k ∷ ks) (t ∷ ts) zero d e h l = h.0
typed_at (k ∷ ks) (t ∷ ts) (suc j) d e h l = typed_at ks ts j d e h.1 (omega (arith, l))

pub typed_append : (ks js : List Known) (ts us : List IntType) → AreTyped ks ts → AreTyped js us → AreTyped (ks ++ js) (ts ++ us)
typed_append [] js [] us h g = g
typed_append [] js (t ∷ ts) us h g = absurd h
typed_append (k ∷ ks) js [] us h g = absurd h
typed_append (k ∷ ks) js (t ∷ ts) us h g = (h.0, typed_append ks js ts us h.1 g)
