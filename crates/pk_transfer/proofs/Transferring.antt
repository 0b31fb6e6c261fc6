-- Instructions keep the stores of a state.
use Rattle.std.specs.Prelude.{◌≡◌, ◌≢◌, ◌⊎◌, ℕ, zero, suc, ◌-◌, ◌<◌, nat_eq, Bool, true, false, ◌||◌, if◌then◌else◌, ℤ, pos, ◌≤ℤ◌, ◌<ℤ◌, int_lt, int_le, unsigned_abs, [], ◌∷◌, length, replicate, slice_set, Option, Some, None, Result, Ok, Err}
use Rattle.std.proofs.Common.{arith, refl, ap, sym, subst, ◌∙◌, inl, inr, length-set}
use Rattle.std.proofs.lemmas.Int.{ints}
use Rattle.std.proofs.lemmas.Bool.{cases_eq}
use Rattle.std.proofs.lemmas.Bool.Decides.{nat_tests}
use Rattle.std.proofs.lemmas.List.{get_or-set_same, get_or-set_other}
use Rattle.pk_ctypes.specs.declared.types.IntType.{IntType}
use Rattle.pk_ctypes.specs.declared.faults.Fault.TheVariants as faults
use Rattle.pk_ctypes.specs.Types.{low_of, high_of, InType, is_in_type}
use Rattle.pk_ctypes.proofs.Values.{test_le}
use Rattle.pk_ctypes.proofs.Small.{both_true}
use Rattle.pk_congr.proofs.Numbers.{every_member, rest_member}
use Rattle.pk_congr.specs.Classes.{constant}
use Rattle.pk_graph.specs.declared.trees.Site.{Site}
use Rattle.pk_graph.specs.Trees.{variable, ArrayOf, InstrOf, Skip, Set, Havoc, Clear, Load, Store, Guard, Check}
use Rattle.pk_graph.specs.Kinds.{Kinds, kind_at, count_at, count_of, IsScalar, IsArray, IsTyped, IsTypedInstr}
use Rattle.pk_graph.specs.Steps.{Numbers, number_at, Failure, failure, and_then, tree_value, is_true, is_index, indexed, all_in_type, are_any, After, To, Wants, Faulted, with_value, passed, effect}
use Rattle.pk_graph.specs.Stores.{Stored, storing, numbers_of, IsStore}
use Rattle.pk_value.specs.Known.{Known, any_of, exactly, joined, IsOf, IsOneOf}
use Rattle.pk_value.proofs.Orders.{lattice}
use Rattle.pk_octagons.specs.Packs.{is_chosen}
use Rattle.pk_octagons.specs.Values.{known_at}
use Rattle.pk_octagons.specs.Members.{IsChosen}
use Rattle.pk_octagons.proofs.Chosen.{chosen_there, chosen_apart}
use Rattle.pk_state.specs.Layouts.{Layout, IsLayout, is_spread}
use Rattle.pk_state.specs.Facts.{Facts, AreFactsIf}
use Rattle.pk_state.specs.Members.{Member}
use Rattle.pk_state.specs.Changes.{known_in, with_known, IsApart}
use Rattle.pk_state.proofs.Changed.{changes_sound}
use Rattle.pk_transfer.specs.Slots.{is_small, own_slot, spread}
use Rattle.pk_transfer.specs.Trees.{tree_known, IsOver}
use Rattle.pk_transfer.specs.Assignments.{with_form}
use Rattle.pk_transfer.specs.Transfers.{forgotten_in, at_index, may_be_below, known_below, stored_at, stored_below, known_each, all_known, all_forgotten, loaded, stored, applied, TransfersKeep}
use Rattle.pk_transfer.proofs.Told.{trees_sound}
use Rattle.pk_transfer.proofs.Assigning.{form_apart, placed, assignments_keep}
use Rattle.pk_transfer.proofs.Passing.{guards_pass}
use Rattle.pk_transfer.proofs.Slotting.{counts_of, own_there, spread_is, own_numbers, large_numbers}
use Rattle.pk_transfer.proofs.Spreading.{tree_spread, scalar_large, spread_set}
use Rattle.pk_transfer.proofs.Smalls.{may_be_is, may_be_below_is, small_member, each_facts, each_written, each_known, some_facts, some_written, some_holds, number_known, below_known}

-- ---- what goes on

pub value_ok : (r : Result ℤ Failure) (g : ℤ → After Stored) (t : Stored) → with_value r g ≡ To t → (z : ℤ) × (r ≡ Ok z) × (g z ≡ To t)
value_ok (Ok z) g t e = (z, refl, e)
value_ok (Err f) g t e = absurd (cc)

pub place_ok : (r : Result ℕ Failure) (g : ℕ → After Stored) (t : Stored) → with_value r g ≡ To t → (k : ℕ) × (r ≡ Ok k) × (g k ≡ To t)
place_ok (Ok k) g t e = (k, refl, e)
place_ok (Err f) g t e = absurd (cc)

pub then_place : (r : Result ℤ Failure) (g : ℤ → Result ℕ Failure) (k : ℕ) → and_then r g ≡ Ok k → (z : ℤ) × (r ≡ Ok z) × (g z ≡ Ok k)
then_place (Ok z) g k e = (z, refl, e)
then_place (Err f) g k e = absurd (cc)

-- ---- types

there_in : (ks : Kinds) (y : Layout) (x : ℕ) → IsOver ks y → x < length ks → x < length y.types
there_in ks y x o p = own_there ks y o x p

-- no octagon is over an array
array_apart : (ks : Kinds) (y : Layout) (a : ArrayOf ℕ) → IsOver ks y → IsArray ks a → IsApart y a.variable
array_apart ks y a o h = λ i. let none = (o.scalars a.variable i).scalar in let some = h.array in absurd (cc)

counts : (ks : Kinds) (s : Stored) (a : ArrayOf ℕ) → IsStore ks s → IsArray ks a → length (numbers_of s a.variable) ≡ a.length
counts ks s a st h = st.counts a.variable h.there ∙ ap count_of h.array

-- ---- indices

index_in : (at : Site) (n k : ℕ) (z : ℤ) → indexed at n z ≡ Ok k → (pos 0 ≤ℤ z) × (z <ℤ pos n) × (k < n)
index_in at n k z e = by (is_index n z) refl e
  where
    by : (b : Bool) → is_index n z ≡ b → (let r : Result ℕ Failure = Ok (unsigned_abs z) in if b then r else Err (failure faults.Index at)) ≡ Ok k → (pos 0 ≤ℤ z) × (z <ℤ pos n) × (k < n)
    by true f g =
        let both = both_true (int_le (pos 0) z) (int_lt z (pos n)) f in
        let same : unsigned_abs z ≡ k = cc in
        (omega (arith, ints, both.0), omega (arith, ints, both.1), omega (arith, ints, both.0, both.1, same))
    by false f g = absurd (cc)

index_keeps : (y : Layout) (s : Stored) (n : ℕ) (o : Option Known) (f : Known → Option Facts) (z : ℤ) → IsOneOf o z → pos 0 ≤ℤ z → z <ℤ pos n → ((k : Known) → IsOf k z → Member y (f k) s) → Member y (at_index n o f) s
index_keeps y s n None f z h p q m = absurd h
index_keeps y s n (Some k) f z h p q m = by (int_lt k.range.hi (pos 0)) (int_le (pos n) k.range.lo) refl refl
  where
    by : (b c : Bool) → int_lt k.range.hi (pos 0) ≡ b → int_le (pos n) k.range.lo ≡ c → Member y (let r : Option Facts = None in if b || c then r else f k) s
    by true c e g = absurd (omega (arith, ints, e, h.in_range.to, p))
    by false true e g = absurd (omega (arith, ints, g, h.in_range.from, q))
    by false false e g = m k h

-- ---- numbers of a type

in_type : (t : IntType) (z : ℤ) → is_in_type t z ≡ true → InType t z
in_type t z e =
    let both = both_true (int_le (low_of t) z) (int_le z (high_of t)) e in
    record { from = test_le (low_of t) z both.0; to = test_le z (high_of t) both.1 }

pub any_is : (t : IntType) (z : ℤ) → InType t z → IsOf (any_of t) z
any_is t z h = record { in_range = record { from = h.from; to = h.to }; in_class = every_member z }

all_are : (t : IntType) (zs : Numbers) → all_in_type t zs ≡ true → (i : ℕ) → i < length zs → IsOf (any_of t) (number_at zs i)
all_are t [] e i p = absurd (omega arith)
all_are t (z ∷ zs) e zero p = any_is t z (in_type t z (both_true (is_in_type t z) (all_in_type t zs) e).0)
all_are t (z ∷ zs) e (suc i) p = all_are t zs (both_true (is_in_type t z) (all_in_type t zs) e).1 i (omega (arith, p))

one_of : (zs : Numbers) → length zs ≡ 1 → (z : ℤ) × (zs ≡ z ∷ [])
one_of [] e = absurd (omega (arith, e))
one_of (z ∷ []) e = (z, refl)
one_of (z ∷ (w ∷ zs)) e = absurd (omega (arith, e))

zeros_at : (n i : ℕ) → i < n → number_at (replicate n (pos 0)) i ≡ pos 0
zeros_at zero i p = absurd (omega arith)
zeros_at (suc n) zero p = refl
zeros_at (suc n) (suc i) p = zeros_at n i (omega (arith, p))

zeros_length : (n : ℕ) → length (replicate n (pos 0)) ≡ n
zeros_length zero = refl
zeros_length (suc n) = ap suc (zeros_length n)

zero_is : IsOf (exactly (pos 0)) (pos 0)
zero_is = record { in_range = record { from = omega (arith, ints); to = omega (arith, ints) }; in_class = rest_member (constant (pos 0)) }

-- ---- writing

record AreNumbersIf (o : Option Known) (zs : Numbers) : Type 0 where
  each : (i : ℕ) → i < length zs → IsOneOf o (number_at zs i)
  some : 0 < length zs

forgotten_keeps : (ks : Kinds) (y : Layout) (f : Option Facts) (s : Stored) (x : ℕ) (o : Option Known) (zs : Numbers) → IsOver ks y → IsLayout y → AreFactsIf y f → Member y f s → x < length ks → ((kind_at ks x).length ≡ None → length zs ≡ 1) → AreNumbersIf o zs
    → Member y (forgotten_in y f x o) (slice_set s x zs)
forgotten_keeps ks y f s x None zs over lay a m p sc n = absurd (n.each 0 n.some)
forgotten_keeps ks y f s x (Some k) zs over lay a m p sc n = go (is_chosen y.packs x) refl
  where
    go : (b : Bool) → is_chosen y.packs x ≡ b → Member y (with_known (with_form y f x None []) x k) (slice_set s x zs)
    go false e =
        subst (λ (g : Option Facts). Member y (with_known g x k) (slice_set s x zs)) (sym (form_apart y f x None [] a e))
        (changes_sound.written y f s x k zs a m (there_in ks y x over p) (chosen_apart y.packs x e) (record { each = n.each; some = n.some }))
    go true e =
        let one = one_of zs (sc (over.scalars x (chosen_there y.packs x e)).scalar) in
        subst (λ ws. Member y (with_known (with_form y f x None []) x k) (slice_set s x ws)) (sym one.1)
        (placed y f s x None [] one.0 k lay a m (there_in ks y x over p) tt (subst (λ ws. IsOf k (number_at ws 0)) one.1 (n.each 0 n.some)))

stored_keeps : (ks : Kinds) (y : Layout) (f : Facts) (s : Stored) (b : ArrayOf ℕ) (w : Known) (k : ℕ) (v : ℤ) → IsOver ks y → IsLayout y → AreFactsIf y (Some f) → Member y (Some f) s → IsArray ks b → AreNumbersIf (known_in (Some f) b.variable) (numbers_of s b.variable) → IsOf w v → k < length (numbers_of s b.variable)
    → Member y (stored_at (Some f) b.variable false w) (slice_set s b.variable (slice_set (numbers_of s b.variable) k v))
stored_keeps ks y f s b w k v over lay a m h old new p =
    changes_sound.written y (Some f) s b.variable (joined c w) (slice_set zs k v) a m (there_in ks y b.variable over h.there) (array_apart ks y b over h)
    (record { each = λ i q. at i (omega (arith, q, length-set zs k v)) (cases_eq i k); some = omega (arith, old.some, length-set zs k v) })
  where
    zs : Numbers
    zs = numbers_of s b.variable

    c : Known
    c = known_at f.values b.variable

    at : (i : ℕ) → i < length zs → (i ≡ k) ⊎ (i ≢ k) → IsOf (joined c w) (number_at (slice_set zs k v) i)
    at i q (inl e) =
        let same : number_at (slice_set zs k v) i ≡ v = ap (number_at (slice_set zs k v)) e ∙ get_or-set_same zs k v (pos 0) p in
        rw same (lattice.join_right c w v new)
    at i q (inr d) = rw (get_or-set_other zs k i v (pos 0) d) (lattice.join_left c w (number_at zs i) (old.each i q))

-- ---- small variables

-- of a variable by whether it is small
chosen_by : (b c : Bool) (P : Option Facts → Type 0) (f g : Option Facts) → b ≡ c → (c ≡ true → P f) → (c ≡ false → P g) → P (if b then f else g)
chosen_by true true P f g e p q = p refl
chosen_by true false P f g e p q = absurd (cc)
chosen_by false true P f g e p q = absurd (cc)
chosen_by false false P f g e p q = q refl

not_scalar : (o : Option ℕ) → is_small o ≡ true → o ≢ None
not_scalar None e = λ same. absurd (cc)
not_scalar (Some n) e = λ same. absurd (cc)

module _ (ks : Kinds) (y : Layout) (f : Facts) (s : Stored) (over : IsOver ks y) (lay : IsLayout y) (a : AreFactsIf y (Some f)) (st : IsStore ks s) (m : Member y (Some f) (spread s)) (x : ℕ) (here : x < length ks) (small : is_small (kind_at ks x).length ≡ true) where
  sized : length f.values ≡ length y.types
  sized = a.values.size

  others : (z : ℕ) → IsChosen y.packs z → z ≢ x
  others z i same = not_scalar (kind_at ks x).length small (ap (λ n. (kind_at ks n).length) (sym same) ∙ (over.scalars z i).scalar)

  there : (z : ℕ) → IsChosen y.packs z → z < length ks
  there z i = (over.scalars z i).there

  old_some : 0 < length (numbers_of s x)
  old_some = own_some (numbers_of s x) (subst (λ (ns : Numbers). 0 < length ns) (own_numbers s x (omega (arith, here, st.size))) (m.values.some x (omega (arith, sized, there_in ks y x over here))))
    where
      own_some : (zs : Numbers) → 0 < length (own_slot zs) → 0 < length zs
      own_some [] h = h
      own_some (z ∷ zs) h = omega arith

  -- each number is known so
  each_member : (zs : Numbers) (k : Known) (n : ℕ) → n ≡ count_at ks x → length zs ≡ n → ((i : ℕ) → i < length zs → IsOf k (number_at zs i)) → Member y (known_each y (Some f) x k (n - 1)) (spread (slice_set s x zs))
  each_member zs k n count long each =
      let some : n - 1 < count_at ks x = omega (arith, old_some, count, st.counts x here) in
      subst (λ (g : Option Facts). Member y g (spread (slice_set s x zs))) (sym (each_facts ks y over x here small f k (n - 1)))
      (small_member ks y over x here small s zs f (record { values = _; octagons = f.octagons }) (counts_of ks s st) sized others there m (long ∙ count) (omega (arith, some, long, count))
      (each_written ks y over x here small f.values k (n - 1) some) refl
      (λ i p. rw (each_known ks y over x here small f.values k (n - 1) i sized some (omega (arith, p, count))) (each i (omega (arith, p, long, count)))))

  -- the element at an index gets a number
  some_member : (k v : Known) (p : ℕ) (w : ℤ) → IsOf k (pos p) → IsOf v w → p < count_at ks x → Member y (stored_below y (Some f) x k v (count_at ks x)) (spread (slice_set s x (slice_set (numbers_of s x) p w)))
  some_member k v p w kp vw inside =
      let zs = numbers_of s x in
      let long : length (slice_set zs p w) ≡ count_at ks x = length-set zs p w ∙ st.counts x here in
      subst (λ (g : Option Facts). Member y g (spread (slice_set s x (slice_set zs p w)))) (sym (some_facts ks y over x here small f k v (count_at ks x)))
      (small_member ks y over x here small s (slice_set zs p w) f (record { values = _; octagons = f.octagons }) (counts_of ks s st) sized others there m long (omega (arith, old_some, long, st.counts x here))
      (some_written ks y over x here small f.values k v (count_at ks x) (inr refl)) refl
      (some_holds ks y over x here small zs f.values k v p w sized kp vw (st.counts x here) (omega (arith, inside, st.counts x here)) (λ i q. number_known ks y over x here small s f i (counts_of ks s st) sized m q)))

-- ---- instructions

to_same : (u t : Stored) → (let r : After Stored = To u in r ≡ To t) → u ≡ t
to_same u t e = cc

passed_ok : (p b : Bool) (s t : Stored) → passed p b s ≡ To t → (p ≡ b) × (s ≡ t)
passed_ok true true s t e = (refl, to_same s t e)
passed_ok true false s t e = absurd (cc)
passed_ok false true s t e = absurd (cc)
passed_ok false false s t e = (refl, to_same s t e)

checked_ok : (p : Bool) (s t : Stored) (f : Failure) → (if p then To s else Faulted f) ≡ To t → (p ≡ true) × (s ≡ t)
checked_ok true s t f e = (refl, to_same s t e)
checked_ok false s t f e = absurd (cc)

any_ok : (b : Bool) (u t : Stored) (ty : IntType) (n : ℕ) → (if b then To u else Wants ty n) ≡ To t → (b ≡ true) × (u ≡ t)
any_ok true u t ty n e = (refl, to_same u t e)
any_ok false u t ty n e = absurd (cc)

equal_lengths : (m n : ℕ) → nat_eq m n ≡ true → m ≡ n
equal_lengths m n e = grind (arith, nat_tests)

-- a variable that isn't small has a number, and each is one that is known
large_known : (ks : Kinds) (y : Layout) (f : Option Facts) (s : Stored) (x : ℕ) → IsOver ks y → IsStore ks s → AreFactsIf y f → Member y f (spread s) → x < length ks → is_small (kind_at ks x).length ≡ false → AreNumbersIf (known_in f x) (numbers_of s x)
large_known ks y f s x over st a m h e =
    let there = there_in ks y x over h in
    subst (AreNumbersIf (known_in f x)) (large_numbers ks y s over (counts_of ks s st) x h e)
    (record { each = λ i p. changes_sound.known y f (spread s) x i a m there p; some = changes_sound.some y f (spread s) x a m there })

-- a scalar gets a number
scalar_set : (ks : Kinds) (s : Stored) (x : ℕ) (z : ℤ) → IsStore ks s → IsScalar ks x → spread (slice_set s x (z ∷ [])) ≡ slice_set (spread s) x (z ∷ [])
scalar_set ks s x z st h = spread_set ks s x (z ∷ []) (counts_of ks s st) h.there (scalar_large ks x h) (sym (ap count_of h.scalar))

-- all numbers of a variable are known so
all_keep : (ks : Kinds) (y : Layout) (f : Option Facts) (s : Stored) (b : ArrayOf ℕ) (k : Known) (zs : Numbers) → IsOver ks y → IsStore ks s → IsLayout y → AreFactsIf y f → Member y f (spread s) → IsArray ks b → length zs ≡ b.length → ((i : ℕ) → i < length zs → IsOf k (number_at zs i))
    → Member y (all_known y f b.variable b.length k) (spread (slice_set s b.variable zs))
all_keep ks y None s b k zs over st lay a m h long each = absurd m
all_keep ks y (Some f) s b k zs over st lay a m h long each =
    chosen_by (is_spread y x) (is_small (kind_at ks x).length) (λ g. Member y g (spread (slice_set s x zs))) (known_each y (Some f) x k (b.length - 1)) (with_known (Some f) x k) (spread_is ks y over x h.there) small large
  where
    x : ℕ
    x = b.variable

    count : count_at ks x ≡ b.length
    count = ap count_of h.array

    small : is_small (kind_at ks x).length ≡ true → Member y (known_each y (Some f) x k (b.length - 1)) (spread (slice_set s x zs))
    small e = each_member ks y f s over lay a st m x h.there e zs k b.length (sym count) long each

    large : is_small (kind_at ks x).length ≡ false → Member y (with_known (Some f) x k) (spread (slice_set s x zs))
    large e =
        let old = large_known ks y (Some f) s x over st a m h.there e in
        subst (Member y (with_known (Some f) x k)) (sym (spread_set ks s x zs (counts_of ks s st) h.there e (long ∙ sym count)))
        (changes_sound.written y (Some f) (spread s) x k zs a m (there_in ks y x over h.there) (array_apart ks y b over h) (record { each = each; some = omega (arith, old.some, long, count, st.counts x h.there) }))

-- a variable gets any numbers of a type
any_keep : (ks : Kinds) (y : Layout) (f : Option Facts) (s : Stored) (x n : ℕ) (k : Known) (zs : Numbers) → IsOver ks y → IsStore ks s → IsLayout y → AreFactsIf y f → Member y f (spread s) → x < length ks → count_at ks x ≡ n → length zs ≡ n → ((i : ℕ) → i < length zs → IsOf k (number_at zs i))
    → Member y (all_forgotten y f x n k) (spread (slice_set s x zs))
any_keep ks y None s x n k zs over st lay a m h count long each = absurd m
any_keep ks y (Some f) s x n k zs over st lay a m h count long each =
    chosen_by (is_spread y x) (is_small (kind_at ks x).length) (λ g. Member y g (spread (slice_set s x zs))) (known_each y (Some f) x k (n - 1)) (forgotten_in y (Some f) x (Some k)) (spread_is ks y over x h) small large
  where
    small : is_small (kind_at ks x).length ≡ true → Member y (known_each y (Some f) x k (n - 1)) (spread (slice_set s x zs))
    small e = each_member ks y f s over lay a st m x h e zs k n (sym count) long each

    large : is_small (kind_at ks x).length ≡ false → Member y (forgotten_in y (Some f) x (Some k)) (spread (slice_set s x zs))
    large e =
        let old = large_known ks y (Some f) s x over st a m h e in
        subst (Member y (forgotten_in y (Some f) x (Some k))) (sym (spread_set ks s x zs (counts_of ks s st) h e (long ∙ sym count)))
        (forgotten_keeps ks y (Some f) (spread s) x (Some k) zs over lay a m h (λ c. long ∙ sym count ∙ ap count_of c) (record { each = each; some = omega (arith, old.some, long, count, st.counts x h) }))

-- what is known of an element at an index
loaded_known : (ks : Kinds) (y : Layout) (f : Option Facts) (s : Stored) (b : ArrayOf ℕ) (k : Known) (p : ℕ) → IsOver ks y → IsStore ks s → AreFactsIf y f → Member y f (spread s) → IsArray ks b → IsOf k (pos p) → p < b.length → IsOneOf (loaded y f b k) (number_at (numbers_of s b.variable) p)
loaded_known ks y None s b k p over st a m h kp l = absurd m
loaded_known ks y (Some f) s b k p over st a m h kp l = by (is_small (kind_at ks x).length) refl
  where
    x : ℕ
    x = b.variable

    count : count_at ks x ≡ b.length
    count = ap count_of h.array

    z : ℤ
    z = number_at (numbers_of s x) p

    by : (c : Bool) → is_small (kind_at ks x).length ≡ c → IsOneOf (loaded y (Some f) b k) z
    by true e =
        subst (λ (w : Bool). IsOneOf (if w then known_below y (Some f) x k b.length else known_in (Some f) x) z) (sym (spread_is ks y over x h.there ∙ e))
        (below_known ks y over x h.there e (Some f) k b.length p z l (may_be_is k p kp) (number_known ks y over x h.there e s f p (counts_of ks s st) a.values.size m (omega (arith, l, count))))
    by false e =
        subst (λ (w : Bool). IsOneOf (if w then known_below y (Some f) x k b.length else known_in (Some f) x) z) (sym (spread_is ks y over x h.there ∙ e))
        ((large_known ks y (Some f) s x over st a m h.there e).each p (omega (arith, l, count, st.counts x h.there)))

-- an element at an index gets a number
stored_known : (ks : Kinds) (y : Layout) (f : Option Facts) (s : Stored) (b : ArrayOf ℕ) (k : Known) (n : Option Known) (p : ℕ) (w : ℤ) → IsOver ks y → IsStore ks s → IsLayout y → AreFactsIf y f → Member y f (spread s) → IsArray ks b → IsOf k (pos p) → IsOneOf n w → p < b.length
    → Member y (stored y f b k n) (spread (slice_set s b.variable (slice_set (numbers_of s b.variable) p w)))
stored_known ks y None s b k n p w over st lay a m h kp nw l = absurd m
stored_known ks y (Some f) s b k None p w over st lay a m h kp nw l = absurd nw
stored_known ks y (Some f) s b k (Some v) p w over st lay a m h kp nw l =
    chosen_by (is_spread y x) (is_small (kind_at ks x).length) (λ g. Member y g (spread t)) (if may_be_below k b.length then stored_below y (Some f) x k v b.length else none) (stored_at (Some f) x false v) (spread_is ks y over x h.there) small large
  where
    none : Option Facts
    none = None

    x : ℕ
    x = b.variable

    zs : Numbers
    zs = numbers_of s x

    t : Stored
    t = slice_set s x (slice_set zs p w)

    count : count_at ks x ≡ b.length
    count = ap count_of h.array

    small : is_small (kind_at ks x).length ≡ true → Member y (if may_be_below k b.length then stored_below y (Some f) x k v b.length else none) (spread t)
    small e =
        subst (λ (c : Bool). Member y (if c then stored_below y (Some f) x k v b.length else none) (spread t)) (sym (may_be_below_is k b.length p l (may_be_is k p kp)))
        (subst (λ n. Member y (stored_below y (Some f) x k v n) (spread t)) count (some_member ks y f s over lay a st m x h.there e k v p w kp nw (omega (arith, l, count))))

    large : is_small (kind_at ks x).length ≡ false → Member y (stored_at (Some f) x false v) (spread t)
    large e =
        let old = large_known ks y (Some f) s x over st a m h.there e in
        let same = large_numbers ks y s over (counts_of ks s st) x h.there e in
        let long : length (slice_set zs p w) ≡ count_at ks x = length-set zs p w ∙ st.counts x h.there in
        let out = stored_keeps ks y f (spread s) b v p w over lay a m h (subst (AreNumbersIf (known_in (Some f) x)) (sym same) old) nw (subst (λ (ns : Numbers). p < length ns) (sym same) (omega (arith, l, count, st.counts x h.there))) in
        subst (Member y (stored_at (Some f) x false v)) (ap (λ (ns : Numbers). slice_set (spread s) x (slice_set ns p w)) same ∙ sym (spread_set ks s x (slice_set zs p w) (counts_of ks s st) h.there e long)) out

-- an index that is in range is its place
place_of_index : (at : Site) (n k : ℕ) (z : ℤ) → indexed at n z ≡ Ok k → pos k ≡ z
place_of_index at n k z e = by (is_index n z) refl e
  where
    by : (b : Bool) → is_index n z ≡ b → (let r : Result ℕ Failure = Ok (unsigned_abs z) in if b then r else Err (failure faults.Index at)) ≡ Ok k → pos k ≡ z
    by true f g =
        let both = both_true (int_le (pos 0) z) (int_lt z (pos n)) f in
        let same : unsigned_abs z ≡ k = cc in
        omega (arith, ints, both.0, same)
    by false f g = absurd (cc)

pub transfers_keep : TransfersKeep
transfers_keep = λ ks y f s t ch i over st lay a m h e. go ks y f s t ch i over st lay a m h e
  where
    value_in : (ks : Kinds) (y : Layout) (f : Option Facts) (s : Stored) (e : _) (z : ℤ) → IsOver ks y → IsStore ks s → AreFactsIf y f → Member y f (spread s) → IsTyped ks e → tree_value storing e s ≡ Ok z → IsOneOf (tree_known (known_in f) e) z
    value_in ks y f s e z over st a m h v = trees_sound.values y f (spread s) e z a m (trees_sound.typed ks y e over h) (tree_spread ks s e (counts_of ks s st) h ∙ v)

    go : (ks : Kinds) (y : Layout) (f : Option Facts) (s t : Stored) (ch : Numbers) (i : InstrOf ℕ) → IsOver ks y → IsStore ks s → IsLayout y → AreFactsIf y f → Member y f (spread s) → IsTypedInstr ks i → effect storing ch i s ≡ To t → Member y (applied y f i) (spread t)
    go ks y f s t ch Skip over st lay a m h e = subst (λ u. Member y f (spread u)) (to_same s t e) m
    go ks y f s t ch (Set x e) over st lay a m h k =
        let v = value_ok (tree_value storing e s) (λ v. To (slice_set s x (v ∷ []))) t k in
        subst (λ u. Member y (applied y f (Set x e)) (spread u)) (to_same (slice_set s x (v.0 ∷ [])) t v.2)
        (subst (Member y (applied y f (Set x e))) (sym (scalar_set ks s x v.0 st h.0))
        (assignments_keep y f (spread s) x e v.0 lay a m (trees_sound.typed ks y (variable x) over h.0) (trees_sound.typed ks y e over h.1.typed) (tree_spread ks s e (counts_of ks s st) h.1.typed ∙ v.1)))
    go ks y f s t ch (Havoc x ty n) over st lay a m h k =
        let r = any_ok (are_any ty n ch) (slice_set s x ch) t ty n k in
        let both = both_true (nat_eq (length ch) n) (all_in_type ty ch) r.0 in
        subst (λ u. Member y (applied y f (Havoc x ty n)) (spread u)) r.1
        (any_keep ks y f s x n (any_of ty) ch over st lay a m h.0 h.2 (equal_lengths (length ch) n both.0) (all_are ty ch both.1))
    go ks y f s t ch (Clear b) over st lay a m h k =
        let zs = replicate b.length (pos 0) in
        let size : length zs ≡ b.length = zeros_length b.length in
        subst (λ u. Member y (applied y f (Clear b)) (spread u)) (to_same (slice_set s b.variable zs) t k)
        (all_keep ks y f s b (exactly (pos 0)) zs over st lay a m h size (λ i p. subst (IsOf (exactly (pos 0))) (sym (zeros_at b.length i (omega (arith, p, size)))) zero_is))
    go ks y f s t ch (Load x b at r i) over st lay a m h k =
        let n = b.length in
        let place = place_ok (and_then (tree_value storing i s) (indexed at n)) (λ k. To (slice_set s x (number_at (numbers_of s b.variable) k ∷ []))) t k in
        let v = then_place (tree_value storing i s) (indexed at n) place.0 place.1 in
        let inside = index_in at n place.0 v.0 v.2 in
        let is = place_of_index at n place.0 v.0 v.2 in
        let w = number_at (numbers_of s b.variable) place.0 in
        subst (λ u. Member y (applied y f (Load x b at r i)) (spread u)) (to_same (slice_set s x (w ∷ [])) t place.2)
        (subst (Member y (applied y f (Load x b at r i))) (sym (scalar_set ks s x w st h.0))
        (index_keeps y (slice_set (spread s) x (w ∷ [])) n (tree_known (known_in f) i) (λ c. forgotten_in y f x (loaded y f b c)) v.0 (value_in ks y f s i v.0 over st a m h.3 v.1) inside.0 inside.1
        (λ c g. forgotten_keeps ks y f (spread s) x (loaded y f b c) (w ∷ []) over lay a m h.0.there (λ d. refl)
        (record { each = one (loaded y f b c) w (loaded_known ks y f s b c place.0 over st a m h.1 (subst (IsOf c) (sym is) g) inside.2); some = omega arith }))))
      where
        one : (o : Option Known) (w : ℤ) → IsOneOf o w → (i : ℕ) → i < length (w ∷ []) → IsOneOf o (number_at (w ∷ []) i)
        one o w g zero p = g
        one o w g (suc j) p = absurd (omega arith)
    go ks y f s t ch (Store b at r i e) over st lay a m h k =
        let n = b.length in
        let zs = numbers_of s b.variable in
        let index = value_ok (tree_value storing i s) (λ z. with_value (tree_value storing e s) (λ v. with_value (indexed at n z) (λ k. To (slice_set s b.variable (slice_set zs k v))))) t k in
        let value = value_ok (tree_value storing e s) (λ v. with_value (indexed at n index.0) (λ k. To (slice_set s b.variable (slice_set zs k v)))) t index.2 in
        let place = place_ok (indexed at n index.0) (λ k. To (slice_set s b.variable (slice_set zs k value.0))) t value.2 in
        let inside = index_in at n place.0 index.0 place.1 in
        let is = place_of_index at n place.0 index.0 place.1 in
        let out = slice_set s b.variable (slice_set zs place.0 value.0) in
        let known_e = value_in ks y f s e value.0 over st a m h.2.typed value.1 in
        subst (λ u. Member y (applied y f (Store b at r i e)) (spread u)) (to_same out t place.2)
        (index_keeps y (spread out) n (tree_known (known_in f) i) (λ c. stored y f b c (tree_known (known_in f) e)) index.0 (value_in ks y f s i index.0 over st a m h.1 index.1) inside.0 inside.1
        (λ c g. stored_known ks y f s b c (tree_known (known_in f) e) place.0 value.0 over st lay a m h.0 (subst (IsOf c) (sym is) g) known_e inside.2))
    go ks y f s t ch (Guard e b) over st lay a m h k =
        let v = value_ok (tree_value storing e s) (λ v. passed (is_true v) b s) t k in
        let r = passed_ok (is_true v.0) b s t v.2 in
        subst (λ u. Member y (applied y f (Guard e b)) (spread u)) r.1 (guards_pass ks y f s e b v.0 over st a m h v.1 r.0)
    go ks y f s t ch (Check at e) over st lay a m h k =
        let v = value_ok (tree_value storing e s) (λ v. if is_true v then To s else Faulted (failure faults.Assert at)) t k in
        let r = checked_ok (is_true v.0) s t (failure faults.Assert at) v.2 in
        subst (λ u. Member y (applied y f (Check at e)) (spread u)) r.1 (guards_pass ks y f s e true v.0 over st a m h v.1 r.0)
