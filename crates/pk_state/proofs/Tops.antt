-- The state of which nothing is known.
use Rattle.std.specs.Prelude.{◌≡◌, ℕ, zero, suc, ◌<◌, List, [], ◌∷◌, ◌++◌, map, replicate, length, slice_index_or}
use Rattle.std.proofs.Common.{ap, refl, sym, subst, ◌∙◌, arith, inl, set, take, drop}
use Rattle.std.proofs.Math.ListN.{get_or-map}
use Rattle.std.proofs.lemmas.List.{length-map}
use Rattle.std.proofs.lemmas.Int.{ints}
use Rattle.pk_ctypes.specs.declared.types.IntType.{IntType}
use Rattle.pk_ctypes.specs.declared.types.IntType.TheVariants.{Char, SChar, UChar, Short, UShort, Int, UInt, Long, ULong, LLong, ULLong}
use Rattle.pk_ctypes.specs.Types.{low_of, high_of}
use Rattle.pk_ctypes.proofs.Wrapped.{zero_in}
use Rattle.pk_interval.proofs.Keeping.{stays}
use Rattle.pk_congr.proofs.Numbers.{every_member}
use Rattle.pk_value.specs.Known.{Known, any_of}
use Rattle.pk_value.specs.Laws.{IsTight}
use Rattle.pk_octagons.specs.Values.{type_at, known_at, IsValue, AreMarked}
use Rattle.pk_octagons.proofs.Stay.{octagons_stay}
use Rattle.pk_state.specs.Layouts.{Layout, IsLayout}
use Rattle.pk_state.specs.Facts.{AreFacts, top_facts}
use Rattle.pk_state.proofs.Held.{every_reduced, values_from}

pub top_set : (ts : List IntType) (k : ℕ) → k < length ts
    → set (map any_of (take k ts) ++ drop k (replicate (length ts) (any_of Int))) k (any_of (slice_index_or ts k Int)) ≡ map any_of (take (suc k) ts) ++ drop (suc k) (replicate (length ts) (any_of Int))
top_set [] k p = absurd (omega arith)
top_set (t ∷ ts) zero p = refl
top_set (t ∷ ts) (suc k) p = ap (λ vs. any_of t ∷ vs) (top_set ts k (omega arith))

pub any_value : (t : IntType) → IsValue t (any_of t)
any_value t = let z = zero_in t in record { inside = stays.whole_in t; some = omega (arith, ints, z.0, z.1); class = every_reduced }

apart : (t : IntType) → low_of t ≡ high_of t → ⊥
apart Char e = absurd (omega (arith, ints, e))
apart SChar e = absurd (omega (arith, ints, e))
apart UChar e = absurd (omega (arith, ints, e))
apart Short e = absurd (omega (arith, ints, e))
apart UShort e = absurd (omega (arith, ints, e))
apart Int e = absurd (omega (arith, ints, e))
apart UInt e = absurd (omega (arith, ints, e))
apart Long e = absurd (omega (arith, ints, e))
apart ULong e = absurd (omega (arith, ints, e))
apart LLong e = absurd (omega (arith, ints, e))
apart ULLong e = absurd (omega (arith, ints, e))

any_tight : (t : IntType) → IsTight (any_of t)
any_tight t = let z = zero_in t in record { some = omega (arith, ints, z.0, z.1); least = every_member (low_of t); greatest = every_member (high_of t); one = λ e. absurd (apart t e) }

-- values of which nothing is known are tight
pub top_marked : (vs : List Known) (ts : List IntType) → vs ≡ map any_of ts → AreMarked vs []
top_marked vs ts same x p = inl (subst IsTight (sym (ap (λ (us : List Known). known_at us x) same ∙ get_or-map any_of ts x Int)) (any_tight (slice_index_or ts x Int)))

pub top_stays : (l : Layout) → IsLayout l → AreFacts l (top_facts l)
top_stays l h = record {
  values = values_from l.types (map any_of l.types) (length-map l.types any_of) (λ x p. subst (IsValue (type_at l.types x)) (sym (get_or-map any_of l.types x Int)) (any_value (type_at l.types x)));
  octagons = octagons_stay.top (length l.types) l.packs h;
}
