-- What is made of octagons is octagons of the packs; octagons and values that rest; and one octagon.
use Rattle.std.specs.Prelude.{◌≡◌, ◌↔◌, ℕ, true, false, ℤ, List, [], ◌∷◌, length, slice_set, Option, Some, None, option_map}
use Rattle.pk_ctypes.specs.declared.types.IntType.{IntType}
use Rattle.pk_value.specs.Known.{Known}
use Rattle.pk_octmat.specs.Octagon.{Octagon, entry, Meets, IsOctagon}
use Rattle.pk_octclose.specs.Places.{closing_of}
use Rattle.pk_octops.specs.Assigns.{assignment_of}
use Rattle.pk_octops.specs.Guards.{guard_of}
use Rattle.pk_octops.specs.Tables.{join_of, widening_of, narrowing_of, IsBelow}
use Rattle.pk_octagons.specs.Packs.{place_in, ArePacks, pack_at, is_over, side_in}
use Rattle.pk_octagons.specs.Values.{AreValues}
use Rattle.pk_octagons.specs.Octagons.{AreOctagons, AreBelow, top_octagons, joined_octagons, widened_octagons, narrowed_octagons}
use Rattle.pk_octagons.specs.Changes.{then_with, AreTerms, assigned_octagons, guarded_octagons, bound_in}
use Rattle.pk_octagons.specs.Reduced.{by_ranges, closed_octagons, bounded_all, bounded_values, AreResting, BoundNone}
use Rattle.pk_octagons.specs.Members.{selected, MeetAll}

-- Each result has an octagon for each pack, over its variables; and values that are bounded are values of their types.
pub record OctagonsStay : Type 0 where
  pub top : (n : ℕ) (packs : List (List ℕ)) → ArePacks n packs → AreOctagons packs (top_octagons packs)
  pub joins : (packs : List (List ℕ)) (ms ns : List Octagon) → AreOctagons packs ms → AreOctagons packs ns →
      AreOctagons packs (joined_octagons ms ns)
  pub widenings : (packs : List (List ℕ)) (hs ns : List Octagon) → AreOctagons packs hs → AreOctagons packs ns →
      AreOctagons packs (widened_octagons hs ns)
  pub narrowings : (packs : List (List ℕ)) (hs ns : List Octagon) → AreOctagons packs hs → AreOctagons packs ns →
      AreOctagons packs (narrowed_octagons hs ns)
  pub assigned : (packs : List (List ℕ)) (ms : List Octagon) (x : ℕ) (t : Option ℕ) (c : ℤ) (over : List ℕ) →
      AreOctagons packs ms → AreOctagons packs (assigned_octagons packs ms x t c over)
  pub guarded : (packs : List (List ℕ)) (ms ns : List Octagon) (a b : Option ℕ) (c : ℤ) (over : List ℕ) →
      AreOctagons packs ms → AreTerms a b → guarded_octagons packs ms a b c over ≡ Some ns → AreOctagons packs ns
  pub closed : (packs : List (List ℕ)) (vs : List Known) (ms ns : List Octagon) → AreOctagons packs ms →
      closed_octagons packs vs ms ≡ Some ns → AreOctagons packs ns
  pub put : (packs : List (List ℕ)) (ms : List Octagon) (p : ℕ) (m : Octagon) → AreOctagons packs ms →
      m.vars ≡ length (pack_at packs p) → IsOctagon m → AreOctagons packs (slice_set ms p m)
  pub bounded : (types : List IntType) (packs : List (List ℕ)) (ms : List Octagon) (vs ws : List Known) →
      ArePacks (length types) packs → AreValues types vs → bounded_values packs ms vs ≡ Some ws → AreValues types ws

-- Octagons that rest are their own closings, and values that they don't bound stay.
pub record RestingStay : Type 0 where
  pub closed : (packs : List (List ℕ)) (vs : List Known) (ms : List Octagon) → AreOctagons packs ms →
      AreResting packs vs ms → closed_octagons packs vs ms ≡ Some ms
  pub bounded : (packs : List (List ℕ)) (vs : List Known) (ms : List Octagon) → AreOctagons packs ms →
      BoundNone packs vs ms → bounded_values packs ms vs ≡ Some vs

-- With one pack, what is done is done with its octagon. Where it isn't over each variable that is read, a variable gets any number, and a guard changes nothing.
pub record OneIsItself : Type 0 where
  pub joined : (m n : Octagon) → joined_octagons (m ∷ []) (n ∷ []) ≡ join_of m n ∷ []
  pub widened : (h n : Octagon) → widened_octagons (h ∷ []) (n ∷ []) ≡ widening_of h n ∷ []
  pub narrowed : (h n : Octagon) → narrowed_octagons (h ∷ []) (n ∷ []) ≡ narrowing_of h n ∷ []
  pub below : (m n : Octagon) → AreBelow (m ∷ []) (n ∷ []) ↔ IsBelow m n
  pub assigned : (chosen : List ℕ) (m : Octagon) (x k : ℕ) (t : Option ℕ) (c : ℤ) (over : List ℕ) →
      place_in chosen x ≡ Some k → is_over over chosen ≡ true →
      assigned_octagons (chosen ∷ []) (m ∷ []) x t c over ≡ assignment_of m k (then_with t (side_in chosen)) c ∷ []
  pub forgotten : (chosen : List ℕ) (m : Octagon) (x k : ℕ) (t : Option ℕ) (c : ℤ) (over : List ℕ) →
      place_in chosen x ≡ Some k → is_over over chosen ≡ false →
      assigned_octagons (chosen ∷ []) (m ∷ []) x t c over ≡ assignment_of m k None c ∷ []
  pub apart : (chosen : List ℕ) (m : Octagon) (x : ℕ) (t : Option ℕ) (c : ℤ) (over : List ℕ) →
      place_in chosen x ≡ None → assigned_octagons (chosen ∷ []) (m ∷ []) x t c over ≡ m ∷ []
  pub tested : (chosen : List ℕ) (m : Octagon) (c : ℤ) (over : List ℕ) → is_over over chosen ≡ true →
      guarded_octagons (chosen ∷ []) (m ∷ []) None None c over ≡ option_map (λ r. r ∷ []) (guard_of m None None c)
  pub bounded : (chosen : List ℕ) (m : Octagon) (a i : ℕ) (c : ℤ) (over : List ℕ) → side_in chosen a ≡ Some i →
      is_over over chosen ≡ true →
      guarded_octagons (chosen ∷ []) (m ∷ []) (Some a) None c over
      ≡ option_map (λ r. r ∷ []) (guard_of m (Some i) None c)
  pub related : (chosen : List ℕ) (m : Octagon) (a b i j : ℕ) (c : ℤ) (over : List ℕ) → side_in chosen a ≡ Some i →
      side_in chosen b ≡ Some j → is_over over chosen ≡ true →
      guarded_octagons (chosen ∷ []) (m ∷ []) (Some a) (Some b) c over
      ≡ option_map (λ r. r ∷ []) (guard_of m (Some i) (Some j) c)
  pub unguarded : (chosen : List ℕ) (m : Octagon) (a b : Option ℕ) (c : ℤ) (over : List ℕ) →
      is_over over chosen ≡ false → guarded_octagons (chosen ∷ []) (m ∷ []) a b c over ≡ Some (m ∷ [])
  pub told : (chosen : List ℕ) (m : Octagon) (a b i j : ℕ) → side_in chosen a ≡ Some i → side_in chosen b ≡ Some j →
      bound_in (chosen ∷ []) (m ∷ []) a b ≡ entry m i j
  pub closed : (chosen : List ℕ) (vs : List Known) (m : Octagon) →
      closed_octagons (chosen ∷ []) vs (m ∷ [])
      ≡ option_map (λ r. r ∷ []) (closing_of (by_ranges chosen vs (length chosen) m))
  pub limited : (chosen : List ℕ) (vs : List Known) (m : Octagon) →
      bounded_values (chosen ∷ []) (m ∷ []) vs ≡ bounded_all chosen m (length chosen) vs
  pub meets : (chosen : List ℕ) (m : Octagon) (x : ℕ → ℤ) →
      MeetAll (chosen ∷ []) (m ∷ []) x ↔ Meets (entry m) (selected chosen x)
