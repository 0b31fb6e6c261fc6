-- The next thresholds to a number: what they are, and that their order does not matter.
use Rattle.std.specs.Prelude.{◌≡◌, ℕ, ◌+◌, ◌<◌, ◌≤◌, ◌⊎◌, Bool, true, false, ℤ, ◌≤ℤ◌, ◌<ℤ◌, int_le, int_lt, List, [], ◌∷◌, length, filter, All, Contains}
use Rattle.std.specs.Int.{int_min, int_max}
use Rattle.std.specs.List.Sorted.{IsSorted, IsPartitionedBy, IsPartitionPoint}
use Rattle.std.specs.Ordering.{int_cmp, is_lt, MatchOrdering}
use Rattle.std.specs.Cmp.{int_cmp_total}
use Rattle.std.specs.declared.cmp.Ordering.{Ordering}
use Rattle.std.specs.declared.cmp.Ordering.TheVariants.{Less, Equal, Greater}
use Rattle.std.proofs.Common.{cond, arith, refl, sym, inl, inr, get_or}
use Rattle.std.proofs.lemmas.Int.{ints, clamps, fold-int_min_bounds, fold-int_min_reached, fold-int_max_bounds, fold-int_max_reached}
use Rattle.std.proofs.lemmas.Bool.{cases_lt}
use Rattle.std.proofs.lemmas.Cmp.{int_ranked}
use Rattle.std.proofs.lemmas.List.{get_or_default}
use Rattle.std.proofs.lemmas.List.Elements.{All-nil, All-cons, All-head, All-tail, All-filter, All-contains, All-contains_itself, filter_passes, Contains-get_or}
use Rattle.std.proofs.lemmas.List.Sorted.{sorted_far, ranks_by}
use Rattle.pk_ctypes.specs.declared.types.IntType.{IntType}
use Rattle.pk_ctypes.specs.Types.{low_of, high_of, InType}
use Rattle.pk_interval.specs.Widening.{next_up, next_down}

-- the least of the type's end and the thresholds that are x or more
pub record IsNextUp (t : IntType) (thresholds : List ℤ) (x r : ℤ) : Type 0 where
  pub end : r ≤ℤ (high_of t)
  pub below : All (λ c. x ≤ℤ c → r ≤ℤ c) thresholds
  pub met : (r ≡ (high_of t)) ⊎ (Contains thresholds r × (x ≤ℤ r))

-- the greatest of the type's end and the thresholds that are x or less
pub record IsNextDown (t : IntType) (thresholds : List ℤ) (x r : ℤ) : Type 0 where
  pub end : (low_of t) ≤ℤ r
  pub above : All (λ c. c ≤ℤ x → c ≤ℤ r) thresholds
  pub met : (r ≡ (low_of t)) ⊎ (Contains thresholds r × (r ≤ℤ x))

-- what holds of those that pass
passed : (p : ℤ → Bool) (Q : ℤ → Type 0) (cs : List ℤ) → All Q (filter p cs) → All (λ c. p c ≡ true → Q c) cs
passed p Q [] h = All-nil (λ c. p c ≡ true → Q c)
passed p Q (c ∷ cs) h =
    let parts = by (p c) refl h in All-cons (λ c. p c ≡ true → Q c) c cs parts.0 (passed p Q cs parts.1)
  where
    by : (b : Bool) → p c ≡ b → All Q (cond b (c ∷ filter p cs) (filter p cs)) → (p c ≡ true → Q c) × All Q (filter p cs)
    by true e k = (λ _. All-head Q c (filter p cs) k, All-tail Q c (filter p cs) k)
    by false e k = (λ f. absurd (cc), k)

contains_passed : (p : ℤ → Bool) (cs : List ℤ) (r : ℤ) → Contains (filter p cs) r → Contains cs r × (p r ≡ true)
contains_passed p cs r h =
    (All-contains (Contains cs) (filter p cs) r (All-filter p (Contains cs) cs (All-contains_itself cs)) h, All-contains (λ c. p c ≡ true) (filter p cs) r (filter_passes p cs) h)

weaker : (P Q : ℤ → Type 0) → ((c : ℤ) → P c → Q c) → (cs : List ℤ) → All P cs → All Q cs
weaker P Q f cs h = λ k d l. f _ (h k d l)

le_true : (a b : ℤ) → a ≤ℤ b → int_le a b ≡ true
le_true a b h = sym (omega (arith, ints))

pub is_next_up : (t : IntType) (cs : List ℤ) (x : ℤ) → IsNextUp t cs x (next_up t cs x)
is_next_up t cs x =
    let p : ℤ → Bool = λ c. int_le x c in
    let r : ℤ = next_up t cs x in
    let bounds = fold-int_min_bounds (high_of t) (filter p cs) r refl in
    record {
      end = bounds.0;
      below = weaker (λ c. p c ≡ true → r ≤ℤ c) (λ c. x ≤ℤ c → r ≤ℤ c) (λ c f h. f (le_true x c h)) cs (passed p (λ c. r ≤ℤ c) cs bounds.1);
      met = elim (fold-int_min_reached (high_of t) (filter p cs) r refl) [
        | inl e ↦ inl e
        | inr m ↦ let k = contains_passed p cs r m in inr (k.0, omega (arith, ints, k.1))
      ];
    }

pub is_next_down : (t : IntType) (cs : List ℤ) (x : ℤ) → IsNextDown t cs x (next_down t cs x)
is_next_down t cs x =
    let p : ℤ → Bool = λ c. int_le c x in
    let r : ℤ = next_down t cs x in
    let bounds = fold-int_max_bounds (low_of t) (filter p cs) r refl in
    record {
      end = bounds.0;
      above = weaker (λ c. p c ≡ true → c ≤ℤ r) (λ c. c ≤ℤ x → c ≤ℤ r) (λ c f h. f (le_true c x h)) cs (passed p (λ c. c ≤ℤ r) cs bounds.1);
      met = elim (fold-int_max_reached (low_of t) (filter p cs) r refl) [
        | inl e ↦ inl e
        | inr m ↦ let k = contains_passed p cs r m in inr (k.0, omega (arith, ints, k.1))
      ];
    }

up_le : (t : IntType) (cs : List ℤ) (x r s : ℤ) → IsNextUp t cs x r → IsNextUp t cs x s → r ≤ℤ s
up_le t cs x r s h k =
    elim k.met [
      | inl e ↦ omega (arith, ints, h.end, e)
      | inr m ↦ All-contains (λ c. x ≤ℤ c → r ≤ℤ c) cs s h.below m.0 m.1
    ]

down_le : (t : IntType) (cs : List ℤ) (x r s : ℤ) → IsNextDown t cs x r → IsNextDown t cs x s → r ≤ℤ s
down_le t cs x r s h k =
    elim h.met [
      | inl e ↦ omega (arith, ints, k.end, e)
      | inr m ↦ All-contains (λ c. c ≤ℤ x → c ≤ℤ s) cs r k.above m.0 m.1
    ]

pub next_up_is : (t : IntType) (cs : List ℤ) (x r : ℤ) → IsNextUp t cs x r → r ≡ next_up t cs x
next_up_is t cs x r h =
    let k = is_next_up t cs x in
    let a = up_le t cs x r (next_up t cs x) h k in
    let b = up_le t cs x (next_up t cs x) r k h in
    omega (arith, ints)

pub next_down_is : (t : IntType) (cs : List ℤ) (x r : ℤ) → IsNextDown t cs x r → r ≡ next_down t cs x
next_down_is t cs x r h =
    let k = is_next_down t cs x in
    let a = down_le t cs x r (next_down t cs x) h k in
    let b = down_le t cs x (next_down t cs x) r k h in
    omega (arith, ints)

-- ---- in rising order
not_less : (a b : ℤ) (r : Ordering) → r ≡ int_cmp a b → is_lt r ≡ false → b ≤ℤ a
not_less a b r e f = by r f (int_ranked a b r e)
  where
    by : (o : Ordering) → is_lt o ≡ false → MatchOrdering o (a <ℤ b) (a ≡ b) (b <ℤ a) → b ≤ℤ a
    by Less g m = absurd (cc)
    by Equal g m = omega (arith, ints, m)
    by Greater g m = omega (arith, ints, m)

pub rises : (cs : List ℤ) → IsSorted int_cmp cs → (i j : ℕ) (d : ℤ) → i ≤ j → j < length cs → get_or cs i d ≤ℤ get_or cs j d
rises cs s i j d h k =
    not_less (get_or cs j d) (get_or cs i d) _ refl (sorted_far (λ a b. is_lt (int_cmp a b)) (ranks_by int_cmp_total (λ c. c)) cs s i j d h k)

pub parted_below : (cs : List ℤ) (x : ℤ) → IsSorted int_cmp cs → IsPartitionedBy (λ c. int_lt c x) cs
parted_below cs x s = λ i j d h k e. let le = rises cs s i j d h k in sym (omega (arith, ints, e))

pub parted_to : (cs : List ℤ) (x : ℤ) → IsSorted int_cmp cs → IsPartitionedBy (λ c. int_le c x) cs
parted_to cs x s = λ i j d h k e. let le = rises cs s i j d h k in sym (omega (arith, ints, e))

-- the place of the first threshold that is x or more
pub up_at : (t : IntType) (cs : List ℤ) (x : ℤ) (i : ℕ) (d : ℤ) → IsSorted int_cmp cs → IsPartitionPoint (λ c. int_lt c x ≡ true) (λ c. int_lt c x ≡ false) cs i → i < length cs → int_min (get_or cs i d) (high_of t) ≡ next_up t cs x
up_at t cs x i d s p h =
    next_up_is t cs x r (record { end = omega (arith, ints, clamps); below = below; met = by (int_lt (high_of t) c) })
  where
    c : ℤ
    c = get_or cs i d

    r : ℤ
    r = int_min c (high_of t)

    here : x ≤ℤ c
    here = omega (arith, ints, p.1 i d (omega arith) h)

    below : All (λ e. x ≤ℤ e → r ≤ℤ e) cs
    below = λ k e l m. elim (cases_lt k i) [
      | inl b ↦ absurd (omega (arith, ints, p.0 k e (omega arith) b))
      | inr b ↦ let le = rises cs s i k e b l in let same = get_or_default cs i d e h in omega (arith, ints, clamps)
    ]

    by : (b : Bool) → (cond b (high_of t) c ≡ (high_of t)) ⊎ (Contains cs (cond b (high_of t) c) × (x ≤ℤ cond b (high_of t) c))
    by true = inl refl
    by false = inr (Contains-get_or cs i d h, here)

-- no threshold is x or more
pub up_past : (t : IntType) (cs : List ℤ) (x : ℤ) (i : ℕ) → IsPartitionPoint (λ c. int_lt c x ≡ true) (λ c. int_lt c x ≡ false) cs i → length cs ≤ i → (high_of t) ≡ next_up t cs x
up_past t cs x i p h =
    next_up_is t cs x (high_of t) (record {
      end = omega (arith, ints);
      below = λ k e l m. absurd (omega (arith, ints, p.0 k e (omega arith) (omega arith)));
      met = inl refl;
    })

-- the place after the last threshold that is x or less
pub down_at : (t : IntType) (cs : List ℤ) (x : ℤ) (i j : ℕ) (d : ℤ) → IsSorted int_cmp cs → IsPartitionPoint (λ c. int_le c x ≡ true) (λ c. int_le c x ≡ false) cs j → j ≡ i + 1 → j ≤ length cs → int_max (get_or cs i d) (low_of t) ≡ next_down t cs x
down_at t cs x i j d s p same_place h =
    next_down_is t cs x r (record { end = omega (arith, ints, clamps); above = above; met = by (int_lt (low_of t) c) })
  where
    c : ℤ
    c = get_or cs i d

    r : ℤ
    r = int_max c (low_of t)

    here : c ≤ℤ x
    here = omega (arith, ints, p.0 i d (omega arith) (omega arith))

    above : All (λ e. e ≤ℤ x → e ≤ℤ r) cs
    above = λ k e l m. elim (cases_lt i k) [
      | inl b ↦ absurd (omega (arith, ints, p.1 k e (omega arith) l))
      | inr b ↦ let le = rises cs s k i e b (omega arith) in let same = get_or_default cs i d e (omega arith) in omega (arith, ints, clamps)
    ]

    by : (b : Bool) → (cond b c (low_of t) ≡ (low_of t)) ⊎ (Contains cs (cond b c (low_of t)) × (cond b c (low_of t) ≤ℤ x))
    by true = inr (Contains-get_or cs i d (omega arith), here)
    by false = inl refl

-- no threshold is x or less
pub down_past : (t : IntType) (cs : List ℤ) (x : ℤ) (i : ℕ) → IsPartitionPoint (λ c. int_le c x ≡ true) (λ c. int_le c x ≡ false) cs i → i ≡ 0 → (low_of t) ≡ next_down t cs x
down_past t cs x i p none =
    next_down_is t cs x (low_of t) (record {
      end = omega (arith, ints);
      above = λ k e l m. absurd (omega (arith, ints, p.1 k e (omega arith) l));
      met = inl refl;
    })

-- the next thresholds to a number of the type are numbers of it
pub up_in : (t : IntType) (cs : List ℤ) (x : ℤ) → InType t x → InType t (next_up t cs x) × (x ≤ℤ next_up t cs x)
up_in t cs x h =
    let k = is_next_up t cs x in
    let past : x ≤ℤ next_up t cs x = elim k.met [ inl e ↦ omega (arith, ints, e, h.to) | inr m ↦ m.1 ] in
    (record { from = omega (arith, ints, h.from, past); to = k.end }, past)

pub down_in : (t : IntType) (cs : List ℤ) (x : ℤ) → InType t x → InType t (next_down t cs x) × (next_down t cs x ≤ℤ x)
down_in t cs x h =
    let k = is_next_down t cs x in
    let past : next_down t cs x ≤ℤ x = elim k.met [ inl e ↦ omega (arith, ints, e, h.from) | inr m ↦ m.1 ] in
    (record { from = k.end; to = omega (arith, ints, h.to, past) }, past)
