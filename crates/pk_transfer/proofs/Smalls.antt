-- What is written to a variable each of whose numbers has a slot, and what is read there.
use Rattle.std.specs.Prelude.{◌≡◌, ◌≢◌, ◌⊎◌, ℕ, zero, suc, ◌<◌, ◌≤◌, Bool, true, false, ◌&&◌, ◌||◌, if◌then◌else◌, ℤ, pos, ◌-ℤ◌, int_le, List, [], ◌∷◌, length, slice_set, Option, Some, None}
use Rattle.std.proofs.Common.{arith, refl, ap, sym, subst, ◌∙◌, inl, inr, length-set}
use Rattle.std.proofs.lemmas.Int.{ints}
use Rattle.std.proofs.lemmas.Bool.{cases_eq, cases_lt}
use Rattle.std.proofs.lemmas.List.{get_or-set_same, get_or-set_other}
use Rattle.pk_ctypes.proofs.Values.{test_le, le_test}
use Rattle.pk_ctypes.proofs.Small.{both_true}
use Rattle.pk_interval.specs.Ranges.{single}
use Rattle.pk_interval.specs.Ranges as ranges
use Rattle.pk_congr.specs.Classes.{Class, divides, constant}
use Rattle.pk_congr.specs.Classes as classes
use Rattle.pk_congr.proofs.Order.{member}
use Rattle.pk_congr.proofs.Numbers.{rest_member}
use Rattle.pk_graph.specs.Kinds.{Kinds, kind_at, count_at}
use Rattle.pk_graph.specs.Steps.{Numbers, number_at}
use Rattle.pk_graph.specs.Stores.{Stored, numbers_of, number_of}
use Rattle.pk_value.specs.Known.{Known, joined, IsOf, IsOneOf}
use Rattle.pk_value.specs.Values.{is_constant}
use Rattle.pk_value.proofs.Orders.{lattice}
use Rattle.pk_value.proofs.Sound.{equal_by_test}
use Rattle.pk_octagons.specs.Values.{known_at}
use Rattle.pk_octagons.specs.Members.{MeetAll, IsChosen}
use Rattle.pk_octagons.proofs.Lists.{known_same, known_other}
use Rattle.pk_octagons.proofs.Chosen.{meet_same}
use Rattle.pk_state.specs.Layouts.{Layout, slot_of}
use Rattle.pk_state.specs.Facts.{Facts}
use Rattle.pk_state.specs.Members.{Member}
use Rattle.pk_state.specs.Changes.{known_in, with_known}
use Rattle.pk_transfer.specs.Slots.{is_small, own_slot, spread}
use Rattle.pk_transfer.specs.Trees.{IsOver}
use Rattle.pk_transfer.specs.Transfers.{may_be, may_be_below, either, known_below, stored_at, stored_below, known_each}
use Rattle.pk_transfer.proofs.Slotting.{HasCounts, IsSlot, own, further, own_numbers, small_numbers, slot_first, slot_further, slot_there, slot_find, further_once, further_apart}
use Rattle.pk_transfer.proofs.Spreading.{counts_set}

-- ---- an index

both_is : (b c : Bool) → b ≡ true → c ≡ true → (b && c) ≡ true
both_is true true e f = refl
both_is true false e f = f
both_is false c e f = e

divides_none : (m : ℤ) → divides m (pos 0) ≡ true
divides_none m = let c : Class = record { m = m; r = pos 0 } in (member c (pos 0)).1 (rest_member c)

-- a number that is known may be the index
pub may_be_is : (k : Known) (i : ℕ) → IsOf k (pos i) → may_be k i ≡ true
may_be_is k i h =
    both_is (ranges.is_within (single (pos i)) k.range) (classes.is_within (constant (pos i)) k.class)
    (both_is (int_le k.range.lo (pos i)) (int_le (pos i) k.range.hi) (le_test k.range.lo (pos i) h.in_range.from) (le_test (pos i) k.range.hi h.in_range.to))
    (both_is (divides k.class.m (pos 0)) (divides k.class.m (pos i -ℤ k.class.r)) (divides_none k.class.m) ((member k.class (pos i)).1 h.in_class))

pub may_be_below_is : (k : Known) (n p : ℕ) → p < n → may_be k p ≡ true → may_be_below k n ≡ true
may_be_below_is k zero p l h = absurd (omega (arith, l))
may_be_below_is k (suc n) p l h = by (may_be_below_is k n p) (cases_lt p n)
  where
    either_is : (b c : Bool) → (b ≡ true) ⊎ (c ≡ true) → (b || c) ≡ true
    either_is true c h = refl
    either_is false c (inl e) = absurd (cc)
    either_is false c (inr e) = e

    by : (p < n → may_be k p ≡ true → may_be_below k n ≡ true) → (p < n) ⊎ (n ≤ p) → (may_be_below k n || may_be k n) ≡ true
    by before (inl a) = either_is (may_be_below k n) (may_be k n) (inl (before a h))
    by before (inr a) = let same : p ≡ n = omega (arith, l, a) in either_is (may_be_below k n) (may_be k n) (inr (subst (λ m. may_be k m ≡ true) same h))

-- a constant index is the number
one_index : (k : Known) (p i : ℕ) → IsOf k (pos p) → is_constant k ≡ true → may_be k i ≡ true → i ≡ p
one_index k p i h c m =
    let range = (both_true (ranges.is_within (single (pos i)) k.range) (classes.is_within (constant (pos i)) k.class) m).0 in
    let both = both_true (int_le k.range.lo (pos i)) (int_le (pos i) k.range.hi) range in
    let one = equal_by_test k.range.lo k.range.hi c in
    omega (arith, ints, one, test_le k.range.lo (pos i) both.0, test_le (pos i) k.range.hi both.1, h.in_range.from, h.in_range.to)

module _ (ks : Kinds) (y : Layout) (over : IsOver ks y) (x : ℕ) (here : x < length ks) (small : is_small (kind_at ks x).length ≡ true) where
  -- ---- the slots of the variable

  slot_once : (i k : ℕ) → i < count_at ks x → k < count_at ks x → slot_of y x i ≡ slot_of y x k → i ≡ k
  slot_once zero zero p q e = refl
  slot_once zero (suc k) p q e = absurd (further_apart ks y over x x k here here small (sym e ∙ slot_first ks y over x))
  slot_once (suc i) zero p q e = absurd (further_apart ks y over x x i here here small (e ∙ slot_first ks y over x))
  slot_once (suc i) (suc k) p q e =
      let same = sym (slot_further ks y over x i here small) ∙ e ∙ slot_further ks y over x k here small in
      omega (arith, same)

  -- none of them is slot j
  abbrev pub IsElsewhere : ℕ → Type 0
  IsElsewhere j = (i : ℕ) → i < count_at ks x → slot_of y x i ≢ j

  -- values that differ at these slots alone
  pub record AreWritten (old new : List Known) : Type 0 where
    pub size : length new ≡ length old
    pub others : (j : ℕ) → IsElsewhere j → known_at new j ≡ known_at old j

  written_set : (old new : List Known) (i : ℕ) (k : Known) → i < count_at ks x → AreWritten old new → AreWritten old (slice_set new (slot_of y x i) k)
  written_set old new i k p h = record {
    size = length-set new (slot_of y x i) k ∙ h.size;
    others = λ j d. known_other new (slot_of y x i) j k (λ e. d i p (sym e)) ∙ h.others j d;
  }

  -- a store in which the variable has other numbers is one of such facts, where they have these numbers
  pub small_member : (s : Stored) (zs : Numbers) (f g : Facts) → HasCounts ks s → length f.values ≡ length y.types → ((z : ℕ) → IsChosen y.packs z → z ≢ x) → ((z : ℕ) → IsChosen y.packs z → z < length ks)
      → Member y (Some f) (spread s) → length zs ≡ count_at ks x → 0 < length zs → AreWritten f.values g.values → g.octagons ≡ f.octagons → ((i : ℕ) → i < count_at ks x → IsOf (known_at g.values (slot_of y x i)) (number_at zs i))
      → Member y (Some g) (spread (slice_set s x zs))
  small_member s zs f g st size apart there m long some w oct each = record {
    values = record { each = values_each; some = values_some };
    scalars = λ z i. ap (λ (ns : Numbers). length ns) (others z (there z i) (apart z i)) ∙ m.scalars z i;
    octagons = rw oct octagons;
  }
    where
      t : Stored
      t = slice_set s x zs

      counts : HasCounts ks t
      counts = counts_set ks s x zs st here long

      now_there : numbers_of t x ≡ zs
      now_there = get_or-set_same s x zs [] (omega (arith, here, st.0))

      -- the own slot of another variable
      others : (z : ℕ) → z < length ks → z ≢ x → numbers_of (spread t) z ≡ numbers_of (spread s) z
      others z p d =
          own_numbers t z (omega (arith, p, counts.0)) ∙ ap own_slot (get_or-set_other s x z zs [] d) ∙ sym (own_numbers s z (omega (arith, p, st.0)))

      own_elsewhere : (z : ℕ) → z < length ks → z ≢ x → IsElsewhere z
      own_elsewhere z p d zero q e = d (sym e ∙ slot_first ks y over x)
      own_elsewhere z p d (suc i) q e = further_apart ks y over x z i here p small e

      further_elsewhere : (z k : ℕ) → z < length ks → is_small (kind_at ks z).length ≡ true → suc k < count_at ks z → z ≢ x → IsElsewhere (slot_of y z (suc k))
      further_elsewhere z k p e q d zero r same = further_apart ks y over z x k p here e (sym same ∙ slot_first ks y over x)
      further_elsewhere z k p e q d (suc i) r same = d (sym (further_once ks y over x z i k here p small e r q same))

      HoldsAt : ℕ → Type 0
      HoldsAt j = (0 < length (numbers_of (spread t) j)) × ((i : ℕ) → i < length (numbers_of (spread t) j) → IsOf (known_at g.values j) (number_at (numbers_of (spread t) j) i))

      same_at : (j : ℕ) → j < length y.types → IsElsewhere j → numbers_of (spread t) j ≡ numbers_of (spread s) j → HoldsAt j
      same_at j p d e = (
        subst (λ (ns : Numbers). 0 < length ns) (sym e) (m.values.some j (omega (arith, p, size))),
        λ i q. rw (w.others j d) (subst (λ (ns : Numbers). i < length ns → IsOf (known_at f.values j) (number_at ns i)) (sym e) (m.values.each j i (omega (arith, p, size))) q),
      )

      mine_at : (i : ℕ) → i < count_at ks x → HoldsAt (slot_of y x i)
      mine_at i p =
          let is = small_numbers ks y t over counts x i here small p ∙ ap (λ (ns : Numbers). number_at ns i ∷ []) now_there in
          subst (λ (ns : Numbers). (0 < length ns) × ((k : ℕ) → k < length ns → IsOf (known_at g.values (slot_of y x i)) (number_at ns k))) (sym is)
          (omega arith, λ k q. let first : k ≡ 0 = omega (arith, q) in subst (λ n. IsOf (known_at g.values (slot_of y x i)) (number_at (number_at zs i ∷ []) n)) (sym first) (each i p))

      at_slot : (j : ℕ) → j < length y.types → IsSlot ks y over j → HoldsAt j
      at_slot j p (own h) = by (cases_eq j x)
        where
          by : (j ≡ x) ⊎ (j ≢ x) → HoldsAt j
          by (inl e) = subst HoldsAt (slot_first ks y over x ∙ sym e) (mine_at 0 (omega (arith, some, long)))
          by (inr d) = same_at j p (own_elsewhere j h d) (others j h d)
      at_slot j p (further z k h e q is) = by (cases_eq z x)
        where
          by : (z ≡ x) ⊎ (z ≢ x) → HoldsAt j
          by (inl same) = subst HoldsAt (sym (is ∙ ap (λ n. slot_of y n (suc k)) same)) (mine_at (suc k) (subst (λ n. suc k < count_at ks n) same q))
          by (inr d) =
              let kept : numbers_of (spread t) (slot_of y z (suc k)) ≡ numbers_of (spread s) (slot_of y z (suc k)) =
              small_numbers ks y t over counts z (suc k) h e q ∙ ap (λ (ns : Numbers). number_at ns (suc k) ∷ []) (get_or-set_other s x z zs [] d) ∙ sym (small_numbers ks y s over st z (suc k) h e q) in
              subst HoldsAt (sym is) (same_at (slot_of y z (suc k)) (subst (λ n. n < length y.types) is p) (further_elsewhere z k h e q d) kept)

      holds : (j : ℕ) → j < length g.values → HoldsAt j
      holds j p = let q : j < length y.types = omega (arith, p, w.size, size) in at_slot j q (slot_find ks y over j q)

      values_each : (j i : ℕ) → j < length g.values → i < length (numbers_of (spread t) j) → IsOf (known_at g.values j) (number_at (numbers_of (spread t) j) i)
      values_each j i p q = (holds j p).1 i q

      values_some : (j : ℕ) → j < length g.values → 0 < length (numbers_of (spread t) j)
      values_some j p = (holds j p).0

      octagons : MeetAll y.packs f.octagons (number_of (spread t))
      octagons = meet_same y.packs f.octagons (number_of (spread s)) (number_of (spread t)) (λ z i. ap (λ (ns : Numbers). number_at ns 0) (sym (others z (there z i) (apart z i)))) m.octagons

  -- ---- each number

  -- the values once the variable's own slot, and the n behind it, are known so
  abbrev pub each_values : List Known → Known → ℕ → List Known
  each_values vs k zero = slice_set vs x k
  each_values vs k (suc i) = slice_set (each_values vs k i) (slot_of y x (suc i)) k

  pub each_facts : (f : Facts) (k : Known) (n : ℕ) → known_each y (Some f) x k n ≡ Some (record { values = each_values f.values k n; octagons = f.octagons })
  each_facts f k zero = refl
  each_facts f k (suc i) = ap (λ (g : Option Facts). with_known g (slot_of y x (suc i)) k) (each_facts f k i)

  pub each_written : (vs : List Known) (k : Known) (n : ℕ) → n < count_at ks x → AreWritten vs (each_values vs k n)
  each_written vs k zero h =
      subst (λ j. AreWritten vs (slice_set vs j k)) (slot_first ks y over x) (written_set vs vs 0 k h (record { size = refl; others = λ j d. refl }))
  each_written vs k (suc i) h = written_set vs (each_values vs k i) (suc i) k h (each_written vs k i (omega (arith, h)))

  pub each_known : (vs : List Known) (k : Known) (n i : ℕ) → length vs ≡ length y.types → n < count_at ks x → i ≤ n → known_at (each_values vs k n) (slot_of y x i) ≡ k
  each_known vs k zero zero size h p =
      ap (known_at (slice_set vs x k)) (slot_first ks y over x) ∙ known_same vs x k (subst (λ j. j < length vs) (slot_first ks y over x) (omega (arith, slot_there ks y over x 0 here h, size)))
  each_known vs k zero (suc i) size h p = absurd (omega (arith, p))
  each_known vs k (suc m) i size h p = by (λ l. each_known vs k m i size (omega (arith, h)) l) (cases_eq i (suc m))
    where
      before : AreWritten vs (each_values vs k m)
      before = each_written vs k m (omega (arith, h))

      by : (i ≤ m → known_at (each_values vs k m) (slot_of y x i) ≡ k) → (i ≡ suc m) ⊎ (i ≢ suc m) → known_at (slice_set (each_values vs k m) (slot_of y x (suc m)) k) (slot_of y x i) ≡ k
      by earlier (inl e) =
          ap (λ n. known_at (slice_set (each_values vs k m) (slot_of y x (suc m)) k) (slot_of y x n)) e
          ∙ known_same (each_values vs k m) (slot_of y x (suc m)) k (omega (arith, slot_there ks y over x (suc m) here h, before.size, size))
      by earlier (inr d) =
          known_other (each_values vs k m) (slot_of y x (suc m)) (slot_of y x i) k (λ e. d (slot_once i (suc m) (omega (arith, p, h)) h e))
          ∙ earlier (omega (arith, p, d))

  -- ---- one of them

  abbrev pub may_get : Bool → Known → Known → Known
  may_get surely old v = if surely then v else joined old v

  -- the values once the element at an index, if it is one of the first n, is known so
  abbrev pub some_values : List Known → Known → Known → ℕ → List Known
  some_values vs k v zero = vs
  some_values vs k v (suc i) =
      if may_be k i then slice_set (some_values vs k v i) (slot_of y x i) (may_get (is_constant k) (known_at (some_values vs k v i) (slot_of y x i)) v)
      else some_values vs k v i

  stored_one : (f : Facts) (j : ℕ) (surely : Bool) (v : Known) → stored_at (Some f) j surely v ≡ Some (record { values = slice_set f.values j (may_get surely (known_at f.values j) v); octagons = f.octagons })
  stored_one f j true v = refl
  stored_one f j false v = refl

  pub some_facts : (f : Facts) (k v : Known) (n : ℕ) → stored_below y (Some f) x k v n ≡ Some (record { values = some_values f.values k v n; octagons = f.octagons })
  some_facts f k v zero = refl
  some_facts f k v (suc i) = by (some_facts f k v i) (may_be k i)
    where
      by : stored_below y (Some f) x k v i ≡ Some (record { values = some_values f.values k v i; octagons = f.octagons }) → (b : Bool) → (if b then stored_at (stored_below y (Some f) x k v i) (slot_of y x i) (is_constant k) v else stored_below y (Some f) x k v i)
          ≡ Some (record { values = if b then slice_set (some_values f.values k v i) (slot_of y x i) (may_get (is_constant k) (known_at (some_values f.values k v i) (slot_of y x i)) v) else some_values f.values k v i; octagons = f.octagons })
      by before true =
          ap (λ (g : Option Facts). stored_at g (slot_of y x i) (is_constant k) v) before
          ∙ stored_one (record { values = some_values f.values k v i; octagons = f.octagons }) (slot_of y x i) (is_constant k) v
      by before false = before

  below_count : (m : ℕ) → (suc m < count_at ks x) ⊎ (suc m ≡ count_at ks x) → m < count_at ks x
  below_count m (inl l) = omega (arith, l)
  below_count m (inr e) = omega (arith, e)

  pub some_written : (vs : List Known) (k v : Known) (n : ℕ) → (n < count_at ks x) ⊎ (n ≡ count_at ks x) → AreWritten vs (some_values vs k v n)
  some_written vs k v zero h = record { size = refl; others = λ j d. refl }
  some_written vs k v (suc i) h = by (some_written vs k v i (inl (below_count i h))) (may_be k i)
    where
      by : AreWritten vs (some_values vs k v i) → (b : Bool) → AreWritten vs (if b then slice_set (some_values vs k v i) (slot_of y x i) (may_get (is_constant k) (known_at (some_values vs k v i) (slot_of y x i)) v) else some_values vs k v i)
      by before true = written_set vs (some_values vs k v i) i (may_get (is_constant k) (known_at (some_values vs k v i) (slot_of y x i)) v) (below_count i h) before
      by before false = before

  -- a number that isn't one of the first n is known as before
  some_later : (vs : List Known) (k v : Known) (n i : ℕ) → (n < count_at ks x) ⊎ (n ≡ count_at ks x) → n ≤ i → i < count_at ks x → known_at (some_values vs k v n) (slot_of y x i) ≡ known_at vs (slot_of y x i)
  some_later vs k v zero i h l p = refl
  some_later vs k v (suc m) i h l p = by (some_later vs k v m i (inl (below_count m h)) (omega (arith, l)) p) (may_be k m)
    where
      by : known_at (some_values vs k v m) (slot_of y x i) ≡ known_at vs (slot_of y x i) → (b : Bool) → known_at (if b then slice_set (some_values vs k v m) (slot_of y x m) (may_get (is_constant k) (known_at (some_values vs k v m) (slot_of y x m)) v) else some_values vs k v m) (slot_of y x i) ≡ known_at vs (slot_of y x i)
      by before true =
          known_other (some_values vs k v m) (slot_of y x m) (slot_of y x i) (may_get (is_constant k) (known_at (some_values vs k v m) (slot_of y x m)) v)
          (λ e. let same = slot_once i m p (below_count m h) e in omega (arith, same, l)) ∙ before
      by before false = before

  -- the others: it gets what is known, where it may be at the index
  some_known : (vs : List Known) (k v : Known) (n i : ℕ) → length vs ≡ length y.types → (n < count_at ks x) ⊎ (n ≡ count_at ks x) → i < n
      → known_at (some_values vs k v n) (slot_of y x i) ≡ (if may_be k i then may_get (is_constant k) (known_at vs (slot_of y x i)) v else known_at vs (slot_of y x i))
  some_known vs k v zero i size h p = absurd (omega (arith, p))
  some_known vs k v (suc m) i size h p = at (λ l. some_known vs k v m i size (inl (below_count m h)) l) (cases_eq i m)
    where
      inside : m < count_at ks x
      inside = below_count m h

      us : List Known
      us = some_values vs k v m

      at : (i < m → known_at us (slot_of y x i) ≡ (if may_be k i then may_get (is_constant k) (known_at vs (slot_of y x i)) v else known_at vs (slot_of y x i))) → (i ≡ m) ⊎ (i ≢ m) → known_at (some_values vs k v (suc m)) (slot_of y x i) ≡ (if may_be k i then may_get (is_constant k) (known_at vs (slot_of y x i)) v else known_at vs (slot_of y x i))
      at before (inl e) = subst (λ n. known_at (some_values vs k v (suc m)) (slot_of y x n) ≡ (if may_be k n then may_get (is_constant k) (known_at vs (slot_of y x n)) v else known_at vs (slot_of y x n))) (sym e) (by (may_be k m))
        where
          by : (b : Bool) → known_at (if b then slice_set us (slot_of y x m) (may_get (is_constant k) (known_at us (slot_of y x m)) v) else us) (slot_of y x m) ≡ (if b then may_get (is_constant k) (known_at vs (slot_of y x m)) v else known_at vs (slot_of y x m))
          by true =
              known_same us (slot_of y x m) (may_get (is_constant k) (known_at us (slot_of y x m)) v) (omega (arith, slot_there ks y over x m here inside, (some_written vs k v m (inl inside)).size, size))
              ∙ ap (λ (old : Known). may_get (is_constant k) old v) (some_later vs k v m m (inl inside) (omega arith) inside)
          by false = some_later vs k v m m (inl inside) (omega arith) inside
      at before (inr d) = step (may_be k m) ∙ before (omega (arith, p, d))
        where
          step : (b : Bool) → known_at (if b then slice_set us (slot_of y x m) (may_get (is_constant k) (known_at us (slot_of y x m)) v) else us) (slot_of y x i) ≡ known_at us (slot_of y x i)
          step true =
              known_other us (slot_of y x m) (slot_of y x i) (may_get (is_constant k) (known_at us (slot_of y x m)) v) (λ e. d (slot_once i m (omega (arith, p, d, inside)) inside e))
          step false = refl

  -- after a store at an index each number is known so
  pub some_holds : (zs : Numbers) (vs : List Known) (k v : Known) (p : ℕ) (w : ℤ) → length vs ≡ length y.types → IsOf k (pos p) → IsOf v w → length zs ≡ count_at ks x → p < length zs
      → ((i : ℕ) → i < count_at ks x → IsOf (known_at vs (slot_of y x i)) (number_at zs i)) → (i : ℕ) → i < count_at ks x → IsOf (known_at (some_values vs k v (count_at ks x)) (slot_of y x i)) (number_at (slice_set zs p w) i)
  some_holds zs vs k v p w size kp vw long inside each i h =
      rw (some_known vs k v (count_at ks x) i size (inr refl) h) (at (cases_eq i p) (may_be k i) refl)
    where
      gets : (surely : Bool) → IsOf (may_get surely (known_at vs (slot_of y x i)) v) w
      gets true = vw
      gets false = lattice.join_right (known_at vs (slot_of y x i)) v w vw

      keeps : (surely : Bool) → surely ≡ false → IsOf (may_get surely (known_at vs (slot_of y x i)) v) (number_at zs i)
      keeps false e = lattice.join_left (known_at vs (slot_of y x i)) v (number_at zs i) (each i h)
      keeps true e = absurd (cc)

      not_surely : i ≢ p → may_be k i ≡ true → (b : Bool) → is_constant k ≡ b → is_constant k ≡ false
      not_surely d m false e = e
      not_surely d m true e = absurd (d (one_index k p i kp e m))

      at : (i ≡ p) ⊎ (i ≢ p) → (b : Bool) → may_be k i ≡ b → IsOf (if b then may_get (is_constant k) (known_at vs (slot_of y x i)) v else known_at vs (slot_of y x i)) (number_at (slice_set zs p w) i)
      at (inl e) true m = let same : number_at (slice_set zs p w) i ≡ w = ap (number_at (slice_set zs p w)) e ∙ get_or-set_same zs p w (pos 0) inside in rw same (gets (is_constant k))
      at (inl e) false m = absurd (let is = subst (λ n. may_be k n ≡ true) (sym e) (may_be_is k p kp) in cc)
      at (inr d) true m = rw (get_or-set_other zs p i w (pos 0) d) (keeps (is_constant k) (not_surely d m (is_constant k) refl))
      at (inr d) false m = rw (get_or-set_other zs p i w (pos 0) d) (each i h)

  -- ---- reading

  -- a number of the variable is one that is known of its slot
  pub number_known : (s : Stored) (f : Facts) (i : ℕ) → HasCounts ks s → length f.values ≡ length y.types → Member y (Some f) (spread s) → i < count_at ks x → IsOf (known_at f.values (slot_of y x i)) (number_at (numbers_of s x) i)
  number_known s f i st size m p =
      let is = small_numbers ks y s over st x i here small p in
      let there : slot_of y x i < length f.values = omega (arith, slot_there ks y over x i here p, size) in
      subst (λ (ns : Numbers). 0 < length ns → IsOf (known_at f.values (slot_of y x i)) (number_at ns 0)) is (m.values.each (slot_of y x i) 0 there) (omega arith)

  either_left : (a b : Option Known) (z : ℤ) → IsOneOf a z → IsOneOf (either a b) z
  either_left None b z h = absurd h
  either_left (Some a) None z h = h
  either_left (Some a) (Some b) z h = lattice.join_left a b z h

  either_right : (a b : Option Known) (z : ℤ) → IsOneOf b z → IsOneOf (either a b) z
  either_right None b z h = h
  either_right (Some a) None z h = absurd h
  either_right (Some a) (Some b) z h = lattice.join_right a b z h

  pub below_known : (f : Option Facts) (k : Known) (n p : ℕ) (z : ℤ) → p < n → may_be k p ≡ true → IsOneOf (known_in f (slot_of y x p)) z → IsOneOf (known_below y f x k n) z
  below_known f k zero p z l m h = absurd (omega (arith, l))
  below_known f k (suc n) p z l m h = by (λ less. below_known f k n p z less m h) (may_be k n) refl (cases_eq p n)
    where
      by : (p < n → IsOneOf (known_below y f x k n) z) → (b : Bool) → may_be k n ≡ b → (p ≡ n) ⊎ (p ≢ n) → IsOneOf (if b then either (known_below y f x k n) (known_in f (slot_of y x n)) else known_below y f x k n) z
      by before true e (inl same) = either_right (known_below y f x k n) (known_in f (slot_of y x n)) z (subst (λ m. IsOneOf (known_in f (slot_of y x m)) z) same h)
      by before true e (inr d) = either_left (known_below y f x k n) (known_in f (slot_of y x n)) z (before (omega (arith, l, d)))
      by before false e (inl same) = absurd (let is = subst (λ j. may_be k j ≡ true) same m in cc)
      by before false e (inr d) = before (omega (arith, l, d))
