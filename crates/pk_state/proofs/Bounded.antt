-- Stores of values that octagons bound.
use Rattle.std.specs.Prelude.{◌≡◌, ℕ, ◌<◌, List, length, Option, Some, None}
use Rattle.std.proofs.Common.{ap, refl, sym, subst, arith}
use Rattle.pk_graph.specs.Steps.{number_at}
use Rattle.pk_graph.specs.Stores.{Stored, numbers_of, number_of}
use Rattle.pk_ctypes.specs.declared.types.IntType.{IntType}
use Rattle.pk_value.specs.Known.{Known}
use Rattle.pk_octmat.specs.Octagon.{Octagon}
use Rattle.pk_octagons.specs.Packs.{ArePacks}
use Rattle.pk_octagons.specs.Values.{AreValues}
use Rattle.pk_octagons.specs.Reduced.{bounded_values}
use Rattle.pk_octagons.specs.Members.{IsChosen, MeetAll, ArePossible, KeepsNumbers}
use Rattle.pk_octagons.proofs.Numbers.{reductions_exact}
use Rattle.pk_octagons.proofs.Stay.{octagons_stay}
use Rattle.pk_octagons.proofs.Chosen.{chosen_below}
use Rattle.pk_state.specs.Members.{AreOf}

-- the octagons' variables are scalars
abbrev pub AreScalars : List (List ℕ) → Stored → Type 0
AreScalars packs s = (x : ℕ) → IsChosen packs x → length (numbers_of s x) ≡ 1

-- their numbers are known as possible
pub possible_of : (packs : List (List ℕ)) (vs : List Known) (s : Stored) → ArePacks (length vs) packs → AreScalars packs s → AreOf vs s → ArePossible packs vs (number_of s)
possible_of packs vs s h one m y i = m.each y 0 (chosen_below (length vs) packs y h i) (omega (arith, one y i))

-- values that there are, with a store's numbers
abbrev pub AreOfIf : Option (List Known) → Stored → Type 0
AreOfIf None s = ⊥
AreOfIf (Some vs) s = AreOf vs s

module _ (types : List IntType) (packs : List (List ℕ)) (ms : List Octagon) (vs : List Known) (s : Stored) (h : ArePacks (length types) packs) (a : AreValues types vs) where
  own : ArePacks (length vs) packs
  own = subst (λ n. ArePacks n packs) (sym a.size) h

  -- as many are left
  many : (ws : List Known) → bounded_values packs ms vs ≡ Some ws → length ws ≡ length vs
  many ws e = let b = octagons_stay.bounded types packs ms vs ws h a e in omega (arith, a.size, b.size)

  pub bounds_keep : MeetAll packs ms (number_of s) → AreScalars packs s → AreOf vs s → AreOfIf (bounded_values packs ms vs) s
  bounds_keep meets one m = by (bounded_values packs ms vs) refl (reductions_exact.bounded packs ms vs (number_of s) own meets (possible_of packs vs s own one m))
    where
      number : (y i : ℕ) → i < length (numbers_of s y) → IsChosen packs y → number_at (numbers_of s y) i ≡ number_of s y
      number y i q c = let first : i ≡ 0 = omega (arith, q, one y c) in ap (number_at (numbers_of s y)) first

      by : (o : Option (List Known)) → bounded_values packs ms vs ≡ o → KeepsNumbers packs (number_of s) vs o → AreOfIf o s
      by None e k = absurd k
      by (Some ws) e k = record {
        each = λ y i p q. k y (number_at (numbers_of s y) i) (number y i q) (m.each y i (omega (arith, p, many ws e)) q);
        some = λ y p. m.some y (omega (arith, p, many ws e));
      }

  pub bounds_only : (ws : List Known) → bounded_values packs ms vs ≡ Some ws → AreOf ws s → AreOf vs s
  bounds_only ws e m = record {
    each = λ y i p q. reductions_exact.bounded_only packs ms vs ws y (number_at (numbers_of s y) i) own e (m.each y i (omega (arith, p, many ws e)) q);
    some = λ y p. m.some y (omega (arith, p, many ws e));
  }
