-- Graphs that are well made, and what is known at their points, can be told.
use Rattle.std.proofs.Common.{◌≡◌, ◌⊎◌, inl, inr, ℕ, ◌<◌, ◌≤◌, ◌^◌, length, subst, sym, Bool, true, false, if◌then◌else◌, List, [], ◌∷◌, Option, Some, None, arith}
use Rattle.std.specs.Prelude.{ℤ, pos, negsuc, ◌≤ℤ◌, ◌-ℤ◌, int_lt, unsigned_abs, All}
use Rattle.std.proofs.lemmas.Bool.{cases_lt}
use Rattle.std.proofs.lemmas.Int.{ints}
use Rattle.std.proofs.lemmas.List.{get_or_past}
use Rattle.std.proofs.lemmas.List.Elements.{All-get_or, All-head, All-tail}
use Rattle.pk_ctypes.specs.declared.types.IntType.TheVariants.{Int}
use Rattle.pk_value.specs.Known.{Known, any_of}
use Rattle.pk_value.proofs.Sound.{small_in}
use Rattle.pk_octmat.specs.Bounds.{IsNear, lesser}
use Rattle.pk_octmat.specs.Octagon.{Octagon, entry, IsOctagon}
use Rattle.pk_graph.specs.Graphs.{GraphOf, no_point, point_at}
use Rattle.pk_graph.specs.WellMade.{IsPointOf, IsGraph}
use Rattle.pk_octagons.specs.Packs.{side_in}
use Rattle.pk_octagons.specs.Values.{type_at, known_at}
use Rattle.pk_octagons.specs.Changes.{then_with, bound_by, bound_in as least_bound}
use Rattle.pk_state.specs.Layouts.{Layout}
use Rattle.pk_state.specs.Facts.{Facts, AreFacts, AreFactsIf}
use Rattle.pk_show.specs.Laws.{IsNumber, IsKnown}
use Rattle.pk_show_laws.specs.ReportRows.{known_of}
use Rattle.pk_show_laws.specs.Tellable.{HasTellableNames, IsTellableGraph, AreTellable}

-- ---- numbers

pub number_is : (z : ℤ) → unsigned_abs z < 2 ^ 127 → IsNumber z
number_is (pos n) h = h
number_is (negsuc n) h = h

near_is : (o : Option ℤ) (z : ℤ) → o ≡ Some z → IsNear (2 ^ 66) o → IsNumber z
near_is None z e h = absurd (cc e)
near_is (Some y) z e h = let equal : y ≡ z = cc e in subst IsNumber equal (within y h.0 h.1)
  where
    within : (y : ℤ) → (pos 0 -ℤ pos (2 ^ 66)) ≤ℤ y → y ≤ℤ pos (2 ^ 66) → IsNumber y
    within (pos n) low high = omega (arith, ints, low, high)
    within (negsuc n) low high = omega (arith, ints, low, high)

-- ---- what is known

known_is : (l : Layout) (f : Facts) → AreFacts l f → (x : ℕ) → (x < length f.values) ⊎ (length f.values ≤ x) → IsKnown (known_of (known_at f.values x))
known_is l f h x (inl k) =
    let values = h.values in
    let inside = values.inside x k in
    let class = values.classes x k in
    record {
      lo = number_is (known_at f.values x).range.lo (small_in (type_at l.types x) (known_at f.values x).range.lo inside.from);
      hi = number_is (known_at f.values x).range.hi (small_in (type_at l.types x) (known_at f.values x).range.hi inside.to);
      modulus = number_is (known_at f.values x).class.m class.modulus_held;
      rest = number_is (known_at f.values x).class.r class.rest_held;
    }
known_is l f h x (inr k) =
    subst (λ (known : Known). IsKnown (known_of known)) (sym (get_or_past f.values x (any_of Int) k))
    (record { lo = omega arith; hi = omega arith; modulus = omega arith; rest = omega arith })

-- ---- bounds of octagons

lesser_near : (n : ℕ) (o p : Option ℤ) → IsNear n o → IsNear n p → IsNear n (lesser o p)
lesser_near n None p h k = k
lesser_near n (Some a) None h k = h
lesser_near n (Some a) (Some b) h k = by (int_lt b a)
  where
    by : (t : Bool) → IsNear n (if t then Some b else Some a)
    by true = k
    by false = h

one_near : (c : List ℕ) (m : Octagon) (i j : ℕ) → IsOctagon m → IsNear (2 ^ 66) (bound_by c m i j)
one_near c m i j h = by (side_in c i) (side_in c j)
  where
    by : (o p : Option ℕ) → IsNear (2 ^ 66) (then_with o (λ a. then_with p (entry m a)))
    by None p = tt
    by (Some a) None = tt
    by (Some a) (Some b) = h.whole.near a b

bounds_near : (packs : List (List ℕ)) (ms : List Octagon) (i j : ℕ) → All IsOctagon ms → IsNear (2 ^ 66) (least_bound packs ms i j)
bounds_near [] ms i j h = tt
bounds_near (c ∷ packs) [] i j h = tt
bounds_near (c ∷ packs) (m ∷ ms) i j h =
    lesser_near (2 ^ 66) (bound_by c m i j) (least_bound packs ms i j) (one_near c m i j (All-head IsOctagon m ms h)) (bounds_near packs ms i j (All-tail IsOctagon m ms h))

pub facts_are_tellable : (l : Layout) (f : Option Facts) → AreFactsIf l f → AreTellable l f
facts_are_tellable l None h = tt
facts_are_tellable l (Some f) h = record {
  values = λ x. known_is l f h x (cases_lt x (length f.values));
  bounds = λ i j c e. near_is (least_bound l.packs f.octagons i j) c e (bounds_near l.packs f.octagons i j h.octagons.each);
}

-- ---- graphs

path_of_point : (g : GraphOf) → IsGraph g → (v : ℕ) → v < length g.points → (point_at g v).path < length g.paths
path_of_point g h v k =
    let point : IsPointOf g (point_at g v) = All-get_or (IsPointOf g) g.points v no_point k h.points in
    point.path

pub graphs_are_tellable : (g : GraphOf) → IsGraph g → HasTellableNames g → IsTellableGraph g
graphs_are_tellable g h names = record {
  some_path = let first = path_of_point g h 0 h.entry in omega (arith, first);
  paths = names.paths;
  names = names.names;
  few = let few = h.few in omega (arith, few);
  point_paths = path_of_point g h;
  point_places = names.point_places;
}
