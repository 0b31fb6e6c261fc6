-- Numbers in rising order, each once: the thresholds of a graph.
use Rattle.std.proofs.Common.{◌≡◌, ◌⊎◌, inl, inr, ◌+◌, ℤ, List, [], ◌∷◌, refl, sym, ap, subst, ◌∙◌, arith, Contains, int_cmp, is_lt, get_or}
use Rattle.std.specs.Ordering.{ordering_reverse}
use Rattle.std.specs.declared.cmp.Ordering.{Ordering}
use Rattle.std.specs.declared.cmp.Ordering.TheVariants.{Less, Equal, Greater}
use Rattle.std.specs.List.{AllByRecursion}
use Rattle.std.specs.List.Sorted.{IsSorted, IsStrictlySortedBy}
use Rattle.std.proofs.lemmas.Cmp.{int_ranked, int_cmp_total}
use Rattle.std.proofs.lemmas.Map.Keys.{Less-from_sorted}
use Rattle.pk_graph.specs.Graphs.{GraphOf}
use Rattle.pk_thresh.specs.Thresholds.{constants_of, numbers_around, AreThresholds}
use Rattle.pk_linear.proofs.ListLemmas.{contains_none, contains_here, contains_there, contains_cases}

-- a number beside t, by how they compare, where `more` has it put among those behind t
abbrev placed : Ordering → (z t : ℤ) → (ts more : List ℤ) → List ℤ
placed Less z t ts more = z ∷ t ∷ ts
placed Equal z t ts more = t ∷ ts
placed Greater z t ts more = t ∷ more

abbrev with_stop : ℤ → List ℤ → List ℤ
with_stop z [] = z ∷ []
with_stop z (t ∷ ts) = placed (int_cmp z t) z t ts (with_stop z ts)

abbrev all_stops : List ℤ → List ℤ
all_stops [] = []
all_stops (z ∷ zs) = with_stop z (all_stops zs)

-- ---- which numbers they are

placed_has : (r : Ordering) (z t : ℤ) (ts more : List ℤ) → r ≡ int_cmp z t → Contains more z → Contains (placed r z t ts more) z
placed_has Less z t ts more e h = contains_here z (t ∷ ts)
placed_has Equal z t ts more e h = subst (λ (k : ℤ). Contains (t ∷ ts) k) (sym (int_ranked z t Equal e)) (contains_here t ts)
placed_has Greater z t ts more e h = contains_there t more h

has_new : (z : ℤ) (ts : List ℤ) → Contains (with_stop z ts) z
has_new z [] = contains_here z []
has_new z (t ∷ ts) = placed_has (int_cmp z t) z t ts (with_stop z ts) refl (has_new z ts)

placed_old : (r : Ordering) (z t x : ℤ) (ts more : List ℤ) → (Contains ts x → Contains more x) → Contains (t ∷ ts) x → Contains (placed r z t ts more) x
placed_old Less z t x ts more f h = contains_there z (t ∷ ts) h
placed_old Equal z t x ts more f h = h
placed_old Greater z t x ts more f h = elim (contains_cases t x ts h) [
  | inl same ↦ subst (λ (k : ℤ). Contains (t ∷ more) k) same (contains_here t more)
  | inr later ↦ contains_there t more (f later)
]

has_old : (z x : ℤ) (ts : List ℤ) → Contains ts x → Contains (with_stop z ts) x
has_old z x [] h = absurd (contains_none h)
has_old z x (t ∷ ts) h = placed_old (int_cmp z t) z t x ts (with_stop z ts) (has_old z x ts) h

later : (t z x : ℤ) (ts : List ℤ) → (z ≡ x) ⊎ Contains ts x → (z ≡ x) ⊎ Contains (t ∷ ts) x
later t z x ts (inl same) = inl same
later t z x ts (inr h) = inr (contains_there t ts h)

placed_only : (r : Ordering) (z t x : ℤ) (ts more : List ℤ) → (Contains more x → (z ≡ x) ⊎ Contains ts x) → Contains (placed r z t ts more) x → (z ≡ x) ⊎ Contains (t ∷ ts) x
placed_only Less z t x ts more f h = contains_cases z x (t ∷ ts) h
placed_only Equal z t x ts more f h = inr h
placed_only Greater z t x ts more f h = elim (contains_cases t x more h) [
  | inl same ↦ inr (subst (λ (k : ℤ). Contains (t ∷ ts) k) same (contains_here t ts))
  | inr more_has ↦ later t z x ts (f more_has)
]

has_only : (z x : ℤ) (ts : List ℤ) → Contains (with_stop z ts) x → (z ≡ x) ⊎ Contains ts x
has_only z x [] h = contains_cases z x [] h
has_only z x (t ∷ ts) h = placed_only (int_cmp z t) z t x ts (with_stop z ts) (has_only z x ts) h

stops_have : (zs : List ℤ) (x : ℤ) → Contains zs x → Contains (all_stops zs) x
stops_have [] x h = absurd (contains_none h)
stops_have (z ∷ zs) x h = elim (contains_cases z x zs h) [
  | inl same ↦ subst (λ (k : ℤ). Contains (with_stop z (all_stops zs)) k) same (has_new z (all_stops zs))
  | inr more ↦ has_old z x (all_stops zs) (stops_have zs x more)
]

stops_only : (zs : List ℤ) (x : ℤ) → Contains (all_stops zs) x → Contains zs x
stops_only [] x h = absurd (contains_none h)
stops_only (z ∷ zs) x h = elim (has_only z x (all_stops zs) h) [
  | inl same ↦ subst (λ (k : ℤ). Contains (z ∷ zs) k) same (contains_here z zs)
  | inr more ↦ contains_there z zs (stops_only zs x more)
]

-- ---- their order

placed_all : (P : ℤ → Type 0) (r : Ordering) (z t : ℤ) (ts more : List ℤ) → P z → P t → AllByRecursion P ts → AllByRecursion P more → AllByRecursion P (placed r z t ts more)
placed_all P Less z t ts more pz pt h k = (pz, (pt, h))
placed_all P Equal z t ts more pz pt h k = (pt, h)
placed_all P Greater z t ts more pz pt h k = (pt, k)

stop_all : (P : ℤ → Type 0) (z : ℤ) (ts : List ℤ) → P z → AllByRecursion P ts → AllByRecursion P (with_stop z ts)
stop_all P z [] pz h = (pz, tt)
stop_all P z (t ∷ ts) pz h = placed_all P (int_cmp z t) z t ts (with_stop z ts) pz h.0 h.1 (stop_all P z ts pz h.1)

below_all : (z t : ℤ) (ts : List ℤ) → int_cmp z t ≡ Less → AllByRecursion (λ (y : ℤ). int_cmp t y ≡ Less) ts → AllByRecursion (λ (y : ℤ). int_cmp z y ≡ Less) ts
below_all z t [] e h = tt
below_all z t (y ∷ ts) e h = (int_cmp_total.trans z t y e h.0, below_all z t ts e h.1)

placed_rising : (r : Ordering) (z t : ℤ) (ts : List ℤ) → r ≡ int_cmp z t → IsStrictlySortedBy int_cmp (t ∷ ts) → IsStrictlySortedBy int_cmp (with_stop z ts) → IsStrictlySortedBy int_cmp (placed r z t ts (with_stop z ts))
unfolding IsStrictlySortedBy
placed_rising Less z t ts e s k = ((sym e, below_all z t ts (sym e) s.0), s)
placed_rising Equal z t ts e s k = s
placed_rising Greater z t ts e s k =
    (stop_all (λ (y : ℤ). int_cmp t y ≡ Less) z ts (int_cmp_total.antisymm t z ∙ ap ordering_reverse (sym e)) s.0, k)

stop_rising : (z : ℤ) (ts : List ℤ) → IsStrictlySortedBy int_cmp ts → IsStrictlySortedBy int_cmp (with_stop z ts)
unfolding IsStrictlySortedBy
stop_rising z [] s = (tt, tt)
stop_rising z (t ∷ ts) s = placed_rising (int_cmp z t) z t ts refl s (stop_rising z ts s.1)

rising : (zs : List ℤ) → IsStrictlySortedBy int_cmp (all_stops zs)
unfolding IsStrictlySortedBy
rising [] = tt
rising (z ∷ zs) = stop_rising z (all_stops zs) (rising zs)

sorted_of : (ts : List ℤ) → IsStrictlySortedBy int_cmp ts → IsSorted int_cmp ts
sorted_of ts s k d low high =
    ap is_lt (int_cmp_total.antisymm (get_or ts (k + 1) d) (get_or ts k d) ∙ ap ordering_reverse (Less-from_sorted int_cmp ts k (k + 1) d s (omega arith) (omega (arith, high))))

abbrev pub thresholds_of : GraphOf → List ℤ
thresholds_of g = all_stops (numbers_around (constants_of g))

pub are_thresholds : (g : GraphOf) → AreThresholds g (thresholds_of g)
are_thresholds g =
    let zs = numbers_around (constants_of g) in
    record {
      rising = rising zs;
      sorted = sorted_of (all_stops zs) (rising zs);
      each = λ z. (stops_only zs z, stops_have zs z);
    }
