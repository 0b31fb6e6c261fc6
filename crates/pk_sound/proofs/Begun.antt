-- What is known where a run begins.
use Rattle.std.specs.Prelude.{◌≡◌, ◌⊎◌, ℕ, zero, suc, ◌+◌, ◌-◌, ◌<◌, ◌≤◌, nat_eq, nat_lt, Bool, true, false, if◌then◌else◌, ℤ, pos, List, [], ◌∷◌, ◌++◌, map, slice_index_or, length, replicate, All, Some}
use Rattle.std.specs.List.{flat_map, range_with_len}
use Rattle.std.proofs.Common.{arith, refl, ap, sym, subst, ◌∙◌, inl, inr, length-append}
use Rattle.std.proofs.Math.ListN.{get_or-map, get_or-append}
use Rattle.std.proofs.lemmas.Int.{ints}
use Rattle.std.proofs.lemmas.Bool.{cases_lt}
use Rattle.std.proofs.lemmas.Bool.Decides.{nat_tests}
use Rattle.std.proofs.lemmas.List.{length-map, length-replicate, get_or-append-add}
use Rattle.std.proofs.lemmas.List as lists
use Rattle.std.proofs.lemmas.List.Elements.{All-head, All-tail}
use Rattle.pk_ctypes.specs.declared.types.IntType.{IntType}
use Rattle.pk_ctypes.specs.declared.types.IntType.TheVariants.{Int}
use Rattle.pk_ctypes.specs.Types.{InType, is_in_type}
use Rattle.pk_ctypes.proofs.Values.{cases_of_type}
use Rattle.pk_congr.specs.Classes.{constant}
use Rattle.pk_ctypes.proofs.Small.{both_true}
use Rattle.pk_congr.proofs.Numbers.{rest_member}
use Rattle.pk_graph.specs.Kinds.{Kind, no_kind, kind_at, count_of, count_at}
use Rattle.pk_graph.specs.Graphs.{VariableOf, StartOf, any_start, number_start, GraphOf, no_variable, variable_at, kinds_of}
use Rattle.pk_graph.specs.WellMade.{IsGraph, IsStartOf}
use Rattle.pk_graph.specs.Steps.{Numbers, number_at, all_in_type}
use Rattle.pk_graph.specs.Stores.{Stored, numbers_of, number_of, IsStore}
use Rattle.pk_value.specs.Known.{Known, any_of, exactly, joined, IsOf}
use Rattle.pk_value.proofs.Orders.{lattice}
use Rattle.pk_octmat.specs.Octagon.{octagon_of, top_bound}
use Rattle.pk_octmat.proofs.Points.{top_holds}
use Rattle.pk_octmat.proofs.Tabled.{octagon_entries}
use Rattle.pk_octops.proofs.Sound.{meets_from}
use Rattle.pk_octagons.specs.Values.{known_at, IsValue}
use Rattle.pk_octagons.specs.Octagons.{top_octagons}
use Rattle.pk_octagons.specs.Members.{selected, MeetAll}
use Rattle.pk_state.specs.Layouts.{Layout, IsLayout, slot_of}
use Rattle.pk_state.specs.Facts.{AreFacts}
use Rattle.pk_state.specs.Members.{Member}
use Rattle.pk_state.proofs.Held.{values_from}
use Rattle.pk_state.proofs.Tops.{top_stays, any_value}
use Rattle.pk_transfer.specs.Slots.{is_small, further_count, further_types, slot_types, spread}
use Rattle.pk_transfer.specs.Trees.{IsOver}
use Rattle.pk_transfer.proofs.Slotting.{begin, begin_same, flat_at, further_length, small_is as small_counts, HasCounts, counts_of, IsSlot, own, further, slot_first, slot_further, slot_find, small_numbers, large_numbers}
use Rattle.pk_transfer.proofs.Spreading.{scalar_counts}
use Rattle.pk_transfer.proofs.Transferring.{any_is}
use Rattle.pk_analysis.specs.Starts.{joined_with, known_of_numbers, known_of_start, start_known, known_of_number, own_known, further_known, start_values, start_facts, AreTyped}
use Rattle.pk_analysis.proofs.TypedLemmas.{typed_many, typed_at, typed_append}
use Rattle.pk_sound.specs.Runs.{BeginsWith, Begins}
use Rattle.pk_sound.proofs.Values_stay.{exactly_value}
use Rattle.pk_sound.proofs.Facts_stay.{joined_value}
use Rattle.pk_sound.proofs.Padding.{zero_of, past_at, padded, pad, padded_each, some_padded, numbers_at, numbers_padded, kind_up, kinds_up, kind_at_up, small_up, further_up, store_up, over_up}

-- ---- any numbers of a type

all_are : (t : IntType) (zs : Numbers) (i : ℕ) → all_in_type t zs ≡ true → i < length zs → InType t (number_at zs i)
all_are t [] i h j = absurd (omega (arith, j))
all_are t (z ∷ zs) zero h j = told (cases_of_type t z)
  where
    told : InType t z ⊎ ((is_in_type t z ≡ false) × (InType t z → ⊥)) → InType t z
    told (inl e) = e
    told (inr e) = absurd (cc ((both_true (is_in_type t z) (all_in_type t zs) h).0, e.0))
all_are t (z ∷ zs) (suc i) h j = all_are t zs i (both_true (is_in_type t z) (all_in_type t zs) h).1 (omega (arith, j))

-- ---- given numbers, and 0 for the others

zeros_at : (k i : ℕ) → number_at (replicate k (pos 0)) i ≡ pos 0
zeros_at zero i = refl
zeros_at (suc k) zero = refl
zeros_at (suc k) (suc i) = zeros_at k i

padded_at : (ns : Numbers) (k i : ℕ) → number_at (ns ++ replicate k (pos 0)) i ≡ number_at ns i
padded_at [] k i = zeros_at k i
padded_at (n ∷ ns) k zero = refl
padded_at (n ∷ ns) k (suc i) = padded_at ns k i

pub given_in : (t : IntType) (ns : Numbers) (i : ℕ) → All (InType t) ns → InType t (number_at ns i)
given_in t [] i h = zero_of t
given_in t (n ∷ ns) zero h = All-head (InType t) n ns h
given_in t (n ∷ ns) (suc i) h = given_in t ns i (All-tail (InType t) n ns h)

exactly_of : (z : ℤ) → IsOf (exactly z) z
exactly_of z = record { in_range = record { from = omega (arith, ints); to = omega (arith, ints) }; in_class = rest_member (constant z) }

joined_has : (k : Known) (zs : Numbers) (z : ℤ) → IsOf k z → IsOf (joined_with k zs) z
joined_has k [] z h = h
joined_has k (y ∷ ys) z h = joined_has (joined k (exactly y)) ys z (lattice.join_left k (exactly y) z h)

joined_each : (k : Known) (zs : Numbers) (i : ℕ) → i < length zs → IsOf (joined_with k zs) (number_at zs i)
joined_each k [] i h = absurd (omega (arith, h))
joined_each k (y ∷ ys) zero h = joined_has (joined k (exactly y)) ys y (lattice.join_right k (exactly y) y (exactly_of y))
joined_each k (y ∷ ys) (suc i) h = joined_each (joined k (exactly y)) ys i (omega (arith, h))

first_each : (n : ℤ) (ns : Numbers) (i : ℕ) → i < length (n ∷ ns) → IsOf (joined_with (exactly n) ns) (number_at (n ∷ ns) i)
first_each n ns zero h = joined_has (exactly n) ns n (exactly_of n)
first_each n ns (suc i) h = joined_each (exactly n) ns i (omega (arith, h))

given_known : (short : Bool) (ns : Numbers) (i : ℕ) → (i < length ns) ⊎ ((short ≡ true) × (length ns ≤ i)) → IsOf (known_of_numbers short ns) (number_at ns i)
given_known short [] i h = exactly_of (pos 0)
given_known true (n ∷ ns) i (inl h) = lattice.join_left (joined_with (exactly n) ns) (exactly (pos 0)) (number_at (n ∷ ns) i) (first_each n ns i h)
given_known false (n ∷ ns) i (inl h) = first_each n ns i h
given_known true (n ∷ ns) i (inr h) =
    subst (IsOf (joined (joined_with (exactly n) ns) (exactly (pos 0)))) (sym (past_at (n ∷ ns) i h.1)) (lattice.join_right (joined_with (exactly n) ns) (exactly (pos 0)) (pos 0) (exactly_of (pos 0)))
given_known false (n ∷ ns) i (inr h) = absurd (cc (h.0))

joined_with_value : (t : IntType) (k : Known) (zs : Numbers) → IsValue t k → All (InType t) zs → IsValue t (joined_with k zs)
joined_with_value t k [] h a = h
joined_with_value t k (z ∷ zs) h a = joined_with_value t (joined k (exactly z)) zs (joined_value t k (exactly z) h (exactly_value t z (All-head (InType t) z zs a))) (All-tail (InType t) z zs a)

given_value : (t : IntType) (short : Bool) (ns : Numbers) → All (InType t) ns → IsValue t (known_of_numbers short ns)
given_value t short [] a = exactly_value t (pos 0) (zero_of t)
given_value t short (n ∷ ns) a = by short (joined_with_value t (exactly n) ns (exactly_value t n (All-head (InType t) n ns a)) (All-tail (InType t) n ns a))
  where
    by : (b : Bool) → IsValue t (joined_with (exactly n) ns) → IsValue t (if b then joined (joined_with (exactly n) ns) (exactly (pos 0)) else joined_with (exactly n) ns)
    by true h = joined_value t (joined_with (exactly n) ns) (exactly (pos 0)) h (exactly_value t (pos 0) (zero_of t))
    by false h = h

-- ---- a variable

record AreStart (x : VariableOf) (st : StartOf) (zs : Numbers) : Type 0 where
  count : length zs ≡ count_of x.kind.length
  fits : (i : ℕ) → i < length zs → InType x.kind.int_type (number_at zs i)
  known : (i : ℕ) → i < length zs → IsOf (known_of_start x st) (number_at zs i)
  none : zs ≡ [] → IsOf (known_of_start x st) (pos 0)
  number : (i : ℕ) → IsOf (known_of_number x st i) (number_at zs i)

same_count : (n m : ℕ) → nat_eq n m ≡ true → n ≡ m
same_count n m h = grind (arith, nat_tests)

start_numbers : (x : VariableOf) (st : StartOf) (zs : Numbers) → IsStartOf x st → BeginsWith x st zs → AreStart x st zs
start_numbers x any_start zs h b =
    let t = x.kind.int_type in
    let n = count_of x.kind.length in
    let both = both_true (nat_eq (length zs) n) (all_in_type t zs) b in
    record {
      count = same_count (length zs) n both.0;
      fits = λ i p. all_are t zs i both.1 p;
      known = λ i p. any_is t (number_at zs i) (all_are t zs i both.1 p);
      none = λ e. any_is t (pos 0) (zero_of t);
      number = λ i. any_is t (number_at zs i) (any_at t zs i both.1 (cases_lt i (length zs)));
    }
  where
    any_at : (t : IntType) (zs : Numbers) (i : ℕ) → all_in_type t zs ≡ true → (i < length zs) ⊎ (length zs ≤ i) → InType t (number_at zs i)
    any_at t zs i h (inl p) = all_are t zs i h p
    any_at t zs i h (inr g) = subst (InType t) (sym (past_at zs i g)) (zero_of t)
start_numbers x (number_start ns) zs h b =
    let n = count_of x.kind.length in
    let k = n - length ns in
    let long : length zs ≡ n = ap (λ (ys : Numbers). length ys) b ∙ omega (arith, length-append ns (replicate k (pos 0)), length-replicate k (pos 0), h.0) in
    let at : (i : ℕ) → number_at zs i ≡ number_at ns i = λ (i : ℕ). ap (λ (ys : Numbers). number_at ys i) b ∙ padded_at ns k i in
    record {
      count = long;
      fits = λ i p. subst (InType x.kind.int_type) (sym (at i)) (given_in x.kind.int_type ns i h.1);
      known = λ i p. subst (IsOf (known_of_numbers (nat_lt (length ns) n) ns)) (sym (at i)) (given_known (nat_lt (length ns) n) ns i (where_it_is i ns n (omega (arith, p, long)) (cases_lt i (length ns))));
      none = λ e. no_numbers (nat_lt (length ns) n) ns (let total = ap (λ (ys : Numbers). length ys) (sym b ∙ e) in omega (arith, total, length-append ns (replicate k (pos 0))));
      number = λ i. subst (IsOf (exactly (number_at ns i))) (sym (at i)) (exactly_of (number_at ns i));
    }
  where
    no_numbers : (short : Bool) (ns : Numbers) → length ns ≡ 0 → IsOf (known_of_numbers short ns) (pos 0)
    no_numbers short [] e = exactly_of (pos 0)
    no_numbers short (z ∷ zs) e = absurd (omega (arith, e))

    where_it_is : (i : ℕ) (ns : Numbers) (n : ℕ) → i < n → (i < length ns) ⊎ (length ns ≤ i) → (i < length ns) ⊎ ((nat_lt (length ns) n ≡ true) × (length ns ≤ i))
    where_it_is i ns n p (inl l) = inl l
    where_it_is i ns n p (inr m) = inr (grind (arith, nat_tests), m)

start_value : (x : VariableOf) (st : StartOf) → IsStartOf x st → IsValue x.kind.int_type (known_of_start x st)
start_value x any_start h = any_value x.kind.int_type
start_value x (number_start ns) h = given_value x.kind.int_type (nat_lt (length ns) (count_of x.kind.length)) ns h.1

number_value : (x : VariableOf) (st : StartOf) (i : ℕ) → IsStartOf x st → IsValue x.kind.int_type (known_of_number x st i)
number_value x any_start i h = any_value x.kind.int_type
number_value x (number_start ns) i h = exactly_value x.kind.int_type (number_at ns i) (given_in x.kind.int_type ns i h.1)

own_value : (x : VariableOf) → IsStartOf x x.start → IsValue x.kind.int_type (own_known x)
own_value x h = by (is_small x.kind.length)
  where
    by : (b : Bool) → IsValue x.kind.int_type (if b then known_of_number x x.start 0 else start_known x)
    by true = number_value x x.start 0 h
    by false = start_value x x.start h

range_many : (from n : ℕ) → length (range_with_len from n) ≡ n
range_many from zero = refl
range_many from (suc n) = ap suc (range_many (from + 1) n)

range_at : (from n i : ℕ) → i < n → slice_index_or (range_with_len from n) i 0 ≡ from + i
range_at from zero i h = absurd (omega (arith, h))
range_at from (suc n) zero h = omega arith
range_at from (suc n) (suc i) h = let later = range_at (from + 1) n i (omega (arith, h)) in omega (arith, later)

pub further_many : (x : VariableOf) → length (further_known x) ≡ further_count x.kind.length
further_many x = length-map (range_with_len 0 (further_count x.kind.length)) (λ i. known_of_number x x.start (suc i)) ∙ range_many 0 (further_count x.kind.length)

further_at : (x : VariableOf) (i : ℕ) (d : Known) → i < further_count x.kind.length → slice_index_or (further_known x) i d ≡ known_of_number x x.start (suc i)
further_at x i d h =
    lists.get_or-map (λ i. known_of_number x x.start (suc i)) (range_with_len 0 (further_count x.kind.length)) i 0 d (omega (arith, h, range_many 0 (further_count x.kind.length)))
    ∙ ap (λ j. known_of_number x x.start (suc j)) (range_at 0 (further_count x.kind.length) i h ∙ (let none : 0 + i ≡ i = omega arith in none))

further_typed : (x : VariableOf) (from n : ℕ) → IsStartOf x x.start → AreTyped (map (λ i. known_of_number x x.start (suc i)) (range_with_len from n)) (replicate n x.kind.int_type)
further_typed x from zero h = tt
further_typed x from (suc n) h = (number_value x x.start (suc from) h, further_typed x (from + 1) n h)

own_all : (xs : List VariableOf) → All (λ (x : VariableOf). IsStartOf x x.start) xs → AreTyped (map own_known xs) (map (λ (k : Kind). k.int_type) (map (λ (x : VariableOf). x.kind) xs))
own_all [] h = tt
own_all (x ∷ xs) h = (own_value x (All-head (λ (x : VariableOf). IsStartOf x x.start) x xs h), own_all xs (All-tail (λ (x : VariableOf). IsStartOf x x.start) x xs h))

further_all : (xs : List VariableOf) → All (λ (x : VariableOf). IsStartOf x x.start) xs → AreTyped (flat_map further_known xs) (flat_map further_types (map (λ (x : VariableOf). x.kind) xs))
further_all [] h = tt
further_all (x ∷ xs) h =
    typed_append (further_known x) (flat_map further_known xs) (further_types x.kind) (flat_map further_types (map (λ (x : VariableOf). x.kind) xs))
    (further_typed x 0 (further_count x.kind.length) (All-head (λ (x : VariableOf). IsStartOf x x.start) x xs h)) (further_all xs (All-tail (λ (x : VariableOf). IsStartOf x x.start) x xs h))

-- any numbers meet octagons without bounds
tops_meet : (packs : List (List ℕ)) (x : ℕ → ℤ) → MeetAll packs (top_octagons packs) x
tops_meet [] x = tt
tops_meet (c ∷ packs) x = (meets_from (length c) top_bound (octagon_of (length c) top_bound) (selected c x) (octagon_entries (length c) top_bound) (λ i j id jd. top_holds (selected c x) i j), tops_meet packs x)

-- ---- all of them

module _ (g : GraphOf) (l : Layout) (made : IsGraph g) (lay : IsLayout l) (over : IsOver (kinds_of g) l) where
  kind_is : (x : ℕ) → kind_at (kinds_of g) x ≡ (variable_at g x).kind
  kind_is x = get_or-map (λ (v : VariableOf). v.kind) g.variables x no_variable

  many : length (kinds_of g) ≡ length g.variables
  many = length-map g.variables (λ (v : VariableOf). v.kind)

  starts : (x : ℕ) → x < length g.variables → IsStartOf (variable_at g x) (variable_at g x).start
  starts x h = made.starts x no_variable h

  all_start : All (λ (x : VariableOf). IsStartOf x x.start) g.variables
  all_start = λ k d h. made.starts k d h

  typed : AreTyped (start_values g.variables) (slot_types (kinds_of g))
  typed = typed_append (map own_known g.variables) (flat_map further_known g.variables) (map (λ (k : Kind). k.int_type) (kinds_of g)) (flat_map further_types (kinds_of g)) (own_all g.variables all_start) (further_all g.variables all_start)

  all_many : length (start_values g.variables) ≡ length l.types
  all_many = typed_many (start_values g.variables) (slot_types (kinds_of g)) typed ∙ ap (λ (ts : List IntType). length ts) (sym over.types)

  own_is : (x : ℕ) → x < length g.variables → known_at (start_values g.variables) x ≡ own_known (variable_at g x)
  own_is x h =
      get_or-append (map own_known g.variables) (flat_map further_known g.variables) (any_of Int) x (omega (arith, h, length-map g.variables own_known))
      ∙ lists.get_or-map own_known g.variables x no_variable (any_of Int) h

  pub start_stays : AreFacts l (start_facts g l)
  start_stays = record {
    values = values_from l.types (start_values g.variables) all_many
        (λ x p. subst (λ (ts : List IntType). IsValue (slice_index_or ts x Int) (known_at (start_values g.variables) x)) (sym over.types) (typed_at (start_values g.variables) (slot_types (kinds_of g)) x (any_of Int) Int typed p));
    octagons = (top_stays l lay).octagons;
  }

  module _ (s : Stored) (begins : Begins g s) where
    numbers_are : (x : ℕ) → x < length g.variables → AreStart (variable_at g x) (variable_at g x).start (numbers_of s x)
    numbers_are x h = start_numbers (variable_at g x) (variable_at g x).start (numbers_of s x) (starts x h) (begins.each x h)

    counts_are : (x : ℕ) → x < length g.variables → length (numbers_of s x) ≡ count_at (kinds_of g) x
    counts_are x h = (numbers_are x h).count ∙ ap (λ (k : Kind). count_of k.length) (sym (kind_is x))

    pub start_store : IsStore (kinds_of g) s
    start_store = record {
      size = begins.size ∙ sym many;
      counts = λ x p. counts_are x (omega (arith, p, many));
      fits = λ x i p q.
          let h : x < length g.variables = omega (arith, p, many) in
          subst (λ (k : Kind). InType k.int_type (number_at (numbers_of s x) i)) (sym (kind_is x)) ((numbers_are x h).fits i (omega (arith, q, counts_are x h)));
    }

    wide : IsOver (kinds_up (kinds_of g)) l
    wide = over_up (kinds_of g) l over

    counted : HasCounts (kinds_up (kinds_of g)) (pad s)
    counted = counts_of (kinds_up (kinds_of g)) (pad s) (store_up (kinds_of g) s start_store)

    up_many : length (kinds_up (kinds_of g)) ≡ length g.variables
    up_many = length-map (kinds_of g) kind_up ∙ many

    small_is : (x : ℕ) → is_small (kind_at (kinds_up (kinds_of g)) x).length ≡ is_small (variable_at g x).kind.length
    small_is x = ap (λ (k : Kind). is_small k.length) (kind_at_up (kinds_of g) x) ∙ small_up (kind_at (kinds_of g) x).length ∙ ap (λ (k : Kind). is_small k.length) (kind_is x)

    abbrev HoldsAt : ℕ → Type 0
    HoldsAt j = (0 < length (numbers_of (spread (pad s)) j)) × ((i : ℕ) → i < length (numbers_of (spread (pad s)) j) → IsOf (known_at (start_values g.variables) j) (number_at (numbers_of (spread (pad s)) j) i))

    -- one number alone
    alone : (j : ℕ) (z : ℤ) → numbers_of (spread (pad s)) j ≡ z ∷ [] → IsOf (known_at (start_values g.variables) j) z → HoldsAt j
    alone j z e h =
        subst (λ (ns : Numbers). (0 < length ns) × ((i : ℕ) → i < length ns → IsOf (known_at (start_values g.variables) j) (number_at ns i))) (sym e)
        (omega arith, λ i p. let first : i ≡ 0 = omega (arith, p) in subst (λ n. IsOf (known_at (start_values g.variables) j) (number_at (z ∷ []) n)) (sym first) h)

    choice : (x : VariableOf) (b : Bool) → is_small x.kind.length ≡ b → own_known x ≡ (if b then known_of_number x x.start 0 else start_known x)
    choice x b e = ap (λ (c : Bool). if c then known_of_number x x.start 0 else start_known x) e

    own_at : (x : ℕ) → x < length g.variables → (b : Bool) → is_small (variable_at g x).kind.length ≡ b → HoldsAt x
    own_at x h true e =
        let here : x < length (kinds_up (kinds_of g)) = omega (arith, h, up_many) in
        let small = small_is x ∙ e in
        let some : 0 < count_at (kinds_up (kinds_of g)) x = subst (λ (n : ℕ). 0 < n) (counted.1 x here) (subst (λ (zs : Numbers). 0 < length zs) (sym (numbers_padded s x (omega (arith, h, begins.size)))) (some_padded (numbers_of s x))) in
        let first = slot_first (kinds_up (kinds_of g)) l wide x in
        alone x (number_at (numbers_of s x) 0)
        (ap (numbers_of (spread (pad s))) (sym first) ∙ small_numbers (kinds_up (kinds_of g)) l (pad s) wide counted x 0 here small some ∙ ap (λ (z : ℤ). z ∷ []) (numbers_at s x 0))
        (subst (λ (k : Known). IsOf k (number_at (numbers_of s x) 0)) (sym (own_is x h ∙ choice (variable_at g x) true e)) ((numbers_are x h).number 0))
    own_at x h false e =
        let here : x < length (kinds_up (kinds_of g)) = omega (arith, h, up_many) in
        let r = numbers_are x h in
        let is = large_numbers (kinds_up (kinds_of g)) l (pad s) wide counted x here (small_is x ∙ e) ∙ numbers_padded s x (omega (arith, h, begins.size)) in
        subst (λ (ns : Numbers). (0 < length ns) × ((i : ℕ) → i < length ns → IsOf (known_at (start_values g.variables) x) (number_at ns i))) (sym is)
        (some_padded (numbers_of s x), λ i p. subst (λ (k : Known). IsOf k (number_at (padded (numbers_of s x)) i)) (sym (own_is x h ∙ choice (variable_at g x) false e)) (padded_each (IsOf (start_known (variable_at g x))) (numbers_of s x) i r.known r.none p))

    further_lengths : (k : ℕ) → k < length (kinds_up (kinds_of g)) → length (further_types (slice_index_or (kinds_up (kinds_of g)) k no_kind)) ≡ length (further_known (slice_index_or g.variables k no_variable))
    further_lengths k h =
        further_length (kind_at (kinds_up (kinds_of g)) k) ∙ ap (λ (j : Kind). further_count j.length) (kind_at_up (kinds_of g) k) ∙ further_up (kind_at (kinds_of g) k).length
        ∙ ap (λ (j : Kind). further_count j.length) (kind_is k) ∙ sym (further_many (variable_at g k))

    further_is : (x i : ℕ) → x < length g.variables → is_small (kind_at (kinds_up (kinds_of g)) x).length ≡ true → suc i < count_at (kinds_up (kinds_of g)) x → known_at (start_values g.variables) (slot_of l x (suc i)) ≡ known_of_number (variable_at g x) (variable_at g x).start (suc i)
    further_is x i h e p =
        let ks = kinds_up (kinds_of g) in
        let here : x < length ks = omega (arith, h, up_many) in
        let many = length-map g.variables own_known in
        let begins_at = begin_same further_types further_known ks g.variables no_kind no_variable up_many further_lengths x here in
        let inside : i < length (further_known (variable_at g x)) = omega (arith, p, further_length (kind_at ks x), (small_counts (kind_at ks x).length e).0, further_lengths x here) in
        let at : length ks + (begin further_types ks x + i) ≡ length (map own_known g.variables) + (begin further_known g.variables x + i) = omega (arith, many, up_many, begins_at) in
        ap (known_at (start_values g.variables)) (slot_further ks l wide x i here e ∙ at)
        ∙ get_or-append-add (map own_known g.variables) (flat_map further_known g.variables) (begin further_known g.variables x + i) (any_of Int)
        ∙ flat_at further_known g.variables x i no_variable (any_of Int) h inside
        ∙ further_at (variable_at g x) i (any_of Int) (omega (arith, inside, further_many (variable_at g x)))

    at_slot : (j : ℕ) → IsSlot (kinds_up (kinds_of g)) l wide j → HoldsAt j
    at_slot j (own h) = own_at j (omega (arith, h, up_many)) (is_small (variable_at g j).kind.length) refl
    at_slot j (further x i h e p is) =
        let there : x < length g.variables = omega (arith, h, up_many) in
        subst HoldsAt (sym is)
        (alone (slot_of l x (suc i)) (number_at (numbers_of s x) (suc i))
        (small_numbers (kinds_up (kinds_of g)) l (pad s) wide counted x (suc i) h e p ∙ ap (λ (z : ℤ). z ∷ []) (numbers_at s x (suc i)))
        (subst (λ (k : Known). IsOf k (number_at (numbers_of s x) (suc i))) (sym (further_is x i there e p)) ((numbers_are x there).number (suc i))))

    holds : (j : ℕ) → j < length (start_values g.variables) → HoldsAt j
    holds j p = at_slot j (slot_find (kinds_up (kinds_of g)) l wide j (omega (arith, p, all_many)))

    -- as if arrays without elements had one that is 0
    pub start_member : Member l (Some (start_facts g l)) (spread (pad s))
    start_member = record {
      values = record { each = λ x i p q. (holds x p).1 i q; some = λ x p. (holds x p).0 };
      scalars = λ x i. scalar_counts (kinds_up (kinds_of g)) l (pad s) wide counted x (wide.scalars x i);
      octagons = tops_meet l.packs (number_of (spread (pad s)));
    }
