-- The order of a line: each slot stands at one place.
use Rattle.std.specs.Prelude.{◌≡◌, ◌⊎◌, ℕ, zero, suc, ◌+◌, ◌<◌, ◌≤◌, ◌^◌, ◌==◌, Bool, true, false, if◌then◌else◌, List, [], ◌∷◌, ◌++◌, map, length, take, slice_index_or, slice_set, Option, Some, None}
use Rattle.std.specs.List.{flat_map, range_with_len}
use Rattle.std.proofs.Common.{arith, refl, sym, ap, subst, ◌∙◌, inl, inr, append_assoc, take_all}
use Rattle.std.proofs.lemmas.Bool.{cases_eq, cases_lt}
use Rattle.std.proofs.lemmas.Bool.Decides.{nat_tests}
use Rattle.std.proofs.lemmas.List.{length-append, length-map, length-set, append-nil, get_or-map, get_or-set_other}
use Rattle.std.proofs.lemmas.List.FromFn.{length-range_with_len}
use Rattle.std.proofs.lemmas.Grind.{get_or-set_at}
use Rattle.pk_ctypes.specs.declared.types.IntType.{IntType}
use Rattle.pk_graph.specs.declared.graphs.Variable.{Variable}
use Rattle.pk_graph.specs.Graphs.{variable_view}
use Rattle.pk_graph.specs.Kinds.{Kind, Kinds, no_kind, kind_at}
use Rattle.pk_transfer.specs.Slots.{further_count, further_types, slot_types}
use Rattle.pk_transfer.proofs.Slotting.{further_length}
use Rattle.pk_cert_states.specs.Lines.{scalar_slot, array_slots, scalars_from, arrays_from, line_slots}
use Rattle.pk_cert_states.specs.Parts.{kinds_in, slot_at, IsOrder, ArePlaces}

-- ---- how often a number stands in a list

abbrev once_if : Bool → ℕ
once_if true = 1
once_if false = 0

abbrev count : ℕ → List ℕ → ℕ
count j [] = 0
count j (i ∷ is) = once_if (i == j) + count j is

one : (i j : ℕ) → i ≡ j → once_if (i == j) ≡ 1
one i j e = let b : (i == j) ≡ true = grind (arith, nat_tests, e) in ap once_if b

none : (i j : ℕ) → (i ≡ j → ⊥) → once_if (i == j) ≡ 0
none i j e = let b : (i == j) ≡ false = grind (arith, nat_tests, e) in ap once_if b

count_joined : (j : ℕ) (a b : List ℕ) → count j (a ++ b) ≡ count j a + count j b
count_joined j [] b = omega arith
count_joined j (i ∷ a) b = omega (arith, count_joined j a b)

count_out : (j a n : ℕ) → (j < a) ⊎ (a + n ≤ j) → count j (range_with_len a n) ≡ 0
count_out j a zero h = refl
count_out j a (suc n) (inl h) = omega (arith, none a j (λ e. omega (arith, e, h)), count_out j (a + 1) n (inl (omega (arith, h))))
count_out j a (suc n) (inr h) = omega (arith, none a j (λ e. omega (arith, e, h)), count_out j (a + 1) n (inr (omega (arith, h))))

count_in : (j a n : ℕ) → a ≤ j → j < a + n → count j (range_with_len a n) ≡ 1
count_in j a zero h k = absurd (omega (arith, h, k))
count_in j a (suc n) h k = elim (cases_eq a j) [
  | inl e ↦ omega (arith, one a j e, count_out j (a + 1) n (inl (omega (arith, e))))
  | inr e ↦ omega (arith, none a j e, count_in j (a + 1) n (omega (arith, h, e)) (omega (arith, k)))
]

count_parted : (j a m n : ℕ) → count j (range_with_len a (m + n)) ≡ count j (range_with_len a m) + count j (range_with_len (a + m) n)
count_parted j a zero n =
    let here : a + 0 ≡ a = omega arith in
    let many : 0 + n ≡ n = omega arith in
    let same : count j (range_with_len (a + 0) n) ≡ count j (range_with_len a n) = ap (λ b. count j (range_with_len b n)) here in
    let whole : count j (range_with_len a (0 + n)) ≡ count j (range_with_len a n) = ap (λ b. count j (range_with_len a b)) many in
    omega (arith, same, whole)
count_parted j a (suc m) n =
    let up : suc m + n ≡ suc (m + n) = omega arith in
    let there : (a + 1) + m ≡ a + suc m = omega arith in
    let whole : count j (range_with_len a (suc m + n)) ≡ count j (range_with_len a (suc (m + n))) = ap (λ b. count j (range_with_len a b)) up in
    let same : count j (range_with_len ((a + 1) + m) n) ≡ count j (range_with_len (a + suc m) n) = ap (λ b. count j (range_with_len b n)) there in
    omega (arith, whole, same, count_parted j (a + 1) m n)

count_there : (slots : List ℕ) (p : ℕ) → p < length slots → 1 ≤ count (slot_at slots p) slots
count_there [] p h = absurd (omega (arith, h))
count_there (i ∷ is) zero h = omega (arith, one i i refl)
count_there (i ∷ is) (suc p) h = omega (arith, count_there is p (omega (arith, h)))

count_twice : (slots : List ℕ) (p q : ℕ) → p < q → q < length slots → slot_at slots p ≡ slot_at slots q → 2 ≤ count (slot_at slots q) slots
count_twice [] p q l h e = absurd (omega (arith, h))
count_twice (i ∷ is) p zero l h e = absurd (omega (arith, l))
count_twice (i ∷ is) zero (suc q) l h e = omega (arith, one i (slot_at is q) e, count_there is q (omega (arith, h)))
count_twice (i ∷ is) (suc p) (suc q) l h e = omega (arith, count_twice is p q (omega (arith, l)) (omega (arith, h)) e)

-- where a number stands first
abbrev pub where_in : List ℕ → ℕ → ℕ
where_in [] j = 0
where_in (i ∷ is) j = if i == j then 0 else suc (where_in is j)

-- it stands there
record IsPlace (slots : List ℕ) (j p : ℕ) : Type 0 where
  inside : p < length slots
  is : slot_at slots p ≡ j

found : (slots : List ℕ) (j : ℕ) → 1 ≤ count j slots → IsPlace slots j (where_in slots j)
found [] j h = absurd (omega (arith, h))
found (i ∷ is) j h = elim (cases_eq i j) [
  | inl e ↦
      let b : (i == j) ≡ true = grind (arith, nat_tests, e) in
      let first : where_in (i ∷ is) j ≡ 0 = ap (λ (c : Bool). if c then 0 else suc (where_in is j)) b in
      subst (IsPlace (i ∷ is) j) (sym first) (record { inside = omega arith; is = e })
  | inr e ↦
      let b : (i == j) ≡ false = grind (arith, nat_tests, e) in
      let later : where_in (i ∷ is) j ≡ suc (where_in is j) = ap (λ (c : Bool). if c then 0 else suc (where_in is j)) b in
      let rest = found is j (omega (arith, h, none i j e)) in
      subst (IsPlace (i ∷ is) j) (sym later) (record { inside = omega (arith, rest.inside); is = rest.is })
]

-- as often as among the numbers below their count
ordered : (slots : List ℕ) → ((j : ℕ) → count j slots ≡ count j (range_with_len 0 (length slots))) → IsOrder slots
ordered slots same = record {
  below = λ p h. elim (cases_lt (slot_at slots p) (length slots)) [
    | inl l ↦ l
    | inr g ↦ absurd (omega (arith, count_there slots p h, same (slot_at slots p), count_out (slot_at slots p) 0 (length slots) (inr (omega (arith, g)))))
  ];
  place = λ j h. let p = found slots j (omega (arith, same j, count_in j 0 (length slots) (omega arith) (omega (arith, h)))) in (where_in slots j, p.inside, p.is);
  once = λ p q h k e. by p q h k e (cases_lt p q) (cases_lt q p);
}
  where
    most : (j : ℕ) → count j slots ≤ 1
    most j = elim (cases_lt j (length slots)) [
      | inl l ↦ omega (arith, same j, count_in j 0 (length slots) (omega arith) (omega (arith, l)))
      | inr g ↦ omega (arith, same j, count_out j 0 (length slots) (inr (omega (arith, g))))
    ]

    by : (p q : ℕ) → p < length slots → q < length slots → slot_at slots p ≡ slot_at slots q → (p < q) ⊎ (q ≤ p) → (q < p) ⊎ (p ≤ q) → p ≡ q
    by p q h k e (inl l) o = absurd (omega (arith, count_twice slots p q l k e, most (slot_at slots q)))
    by p q h k e (inr g) (inl l) = absurd (omega (arith, count_twice slots q p l h (sym e), most (slot_at slots p)))
    by p q h k e (inr g) (inr f) = omega (arith, g, f)

-- ---- the order of a graph's lines

-- how many further slots there are
pub furthers : Kinds → ℕ
furthers [] = 0
furthers (k ∷ ks) = further_count k.length + furthers ks

count_kind : (o : Option ℕ) (j x p : ℕ) → count j (scalar_slot o x) + count j (array_slots o x p) ≡ once_if (x == j) + count j (range_with_len p (further_count o))
count_kind None j x p = omega arith
count_kind (Some n) j x p = omega arith

counted : (ks : Kinds) (j x p : ℕ) → count j (scalars_from x ks) + count j (arrays_from x p ks) ≡ count j (range_with_len x (length ks)) + count j (range_with_len p (furthers ks))
unfolding furthers
counted [] j x p = refl
counted (k ∷ ks) j x p =
    let up : suc x ≡ x + 1 = omega arith in
    let next : count j (range_with_len (suc x) (length ks)) ≡ count j (range_with_len (x + 1) (length ks)) = ap (λ y. count j (range_with_len y (length ks))) up in
    omega (
      arith,
      count_joined j (scalar_slot k.length x) (scalars_from (suc x) ks),
      count_joined j (array_slots k.length x p) (arrays_from (suc x) (p + further_count k.length) ks),
      count_kind k.length j x p,
      count_parted j p (further_count k.length) (furthers ks),
      counted ks j (suc x) (p + further_count k.length),
      next,
    )

length_kind : (o : Option ℕ) (x p : ℕ) → length (scalar_slot o x) + length (array_slots o x p) ≡ 1 + further_count o
length_kind None x p = refl
length_kind (Some n) x p = omega (arith, length-range_with_len p (further_count (Some n)))

lengths : (ks : Kinds) (x p : ℕ) → length (scalars_from x ks) + length (arrays_from x p ks) ≡ length ks + furthers ks
unfolding furthers
lengths [] x p = refl
lengths (k ∷ ks) x p =
    omega (
      arith,
      length-append (scalar_slot k.length x) (scalars_from (suc x) ks),
      length-append (array_slots k.length x p) (arrays_from (suc x) (p + further_count k.length) ks),
      length_kind k.length x p,
      lengths ks (suc x) (p + further_count k.length),
    )

line_length : (ks : Kinds) → length (line_slots ks) ≡ length ks + furthers ks
unfolding line_slots
line_length ks = omega (arith, length-append (scalars_from 0 ks) (arrays_from 0 (length ks) ks), lengths ks 0 (length ks))

line_counted : (ks : Kinds) (j : ℕ) → count j (line_slots ks) ≡ count j (range_with_len 0 (length (line_slots ks)))
unfolding line_slots
line_counted ks j =
    let whole : count j (range_with_len 0 (length (line_slots ks))) ≡ count j (range_with_len 0 (length ks + furthers ks)) = ap (λ n. count j (range_with_len 0 n)) (line_length ks) in
    let there : 0 + length ks ≡ length ks = omega arith in
    let behind : count j (range_with_len (0 + length ks) (furthers ks)) ≡ count j (range_with_len (length ks) (furthers ks)) = ap (λ n. count j (range_with_len n (furthers ks))) there in
    let parted = count_parted j 0 (length ks) (furthers ks) in
    let both = count_joined j (scalars_from 0 ks) (arrays_from 0 (length ks) ks) in
    let each = counted ks j 0 (length ks) in
    omega (arith, whole, behind, parted, both, each)

-- each slot stands at one place
pub line_order : (ks : Kinds) → IsOrder (line_slots ks)
line_order ks = ordered (line_slots ks) (line_counted ks)

further_many : (ks : Kinds) → length (flat_map further_types ks) ≡ furthers ks
unfolding furthers
further_many [] = refl
further_many (k ∷ ks) = omega (arith, length-append (further_types k) (flat_map further_types ks), further_length k, further_many ks)

-- as many as there are
pub slots_counted : (ks : Kinds) → length (slot_types ks) ≡ length (line_slots ks)
slots_counted ks =
    omega (
      arith,
      length-append (map (λ (k : Kind). k.int_type) ks) (flat_map further_types ks),
      length-map ks (λ (k : Kind). k.int_type),
      further_many ks,
      line_length ks,
    )

-- ---- one kind more

pub scalars_more : (x a : ℕ) (ks : Kinds) → x < length ks → scalars_from a (take (suc x) ks) ≡ scalars_from a (take x ks) ++ scalar_slot (kind_at ks x).length (a + x)
scalars_more x a [] h = absurd (omega (arith, h))
scalars_more zero a (k ∷ ks) h = let at : a ≡ a + 0 = omega arith in append-nil (scalar_slot k.length a) ∙ ap (scalar_slot k.length) at
scalars_more (suc x) a (k ∷ ks) h =
    let at : suc a + x ≡ a + suc x = omega arith in
    ap (λ r. scalar_slot k.length a ++ r) (scalars_more x (suc a) ks (omega (arith, h)))
    ∙ sym (append_assoc (scalar_slot k.length a) (scalars_from (suc a) (take x ks)) (scalar_slot (kind_at ks x).length (suc a + x)))
    ∙ ap (λ n. (scalar_slot k.length a ++ scalars_from (suc a) (take x ks)) ++ scalar_slot (kind_at ks x).length n) at

pub furthers_more : (x : ℕ) (ks : Kinds) → x < length ks → furthers (take (suc x) ks) ≡ furthers (take x ks) + further_count (kind_at ks x).length
unfolding furthers
furthers_more x [] h = absurd (omega (arith, h))
furthers_more zero (k ∷ ks) h = omega arith
furthers_more (suc x) (k ∷ ks) h = omega (arith, furthers_more x ks (omega (arith, h)))

pub arrays_more : (x a p : ℕ) (ks : Kinds) → x < length ks
    → arrays_from a p (take (suc x) ks) ≡ arrays_from a p (take x ks) ++ array_slots (kind_at ks x).length (a + x) (p + furthers (take x ks))
unfolding furthers
arrays_more x a p [] h = absurd (omega (arith, h))
arrays_more zero a p (k ∷ ks) h =
    let at : a ≡ a + 0 = omega arith in
    let there : p ≡ p + 0 = omega arith in
    append-nil (array_slots k.length a p) ∙ ap (λ n. array_slots k.length n p) at ∙ ap (λ n. array_slots k.length (a + 0) n) there
arrays_more (suc x) a p (k ∷ ks) h =
    let at : suc a + x ≡ a + suc x = omega arith in
    let there : (p + further_count k.length) + furthers (take x ks) ≡ p + (further_count k.length + furthers (take x ks)) = omega arith in
    ap (λ r. array_slots k.length a p ++ r) (arrays_more x (suc a) (p + further_count k.length) ks (omega (arith, h)))
    ∙ sym (append_assoc (array_slots k.length a p) (arrays_from (suc a) (p + further_count k.length) (take x ks)) (array_slots (kind_at ks x).length (suc a + x) ((p + further_count k.length) + furthers (take x ks))))
    ∙ ap (λ n. (array_slots k.length a p ++ arrays_from (suc a) (p + further_count k.length) (take x ks)) ++ array_slots (kind_at ks x).length n ((p + further_count k.length) + furthers (take x ks))) at
    ∙ ap (λ n. (array_slots k.length a p ++ arrays_from (suc a) (p + further_count k.length) (take x ks)) ++ array_slots (kind_at ks x).length (a + suc x) n) there

-- the kind of a variable
kind_in : (vs : List Variable) (x : ℕ) (v : Variable) → x < length vs → v ≡ slice_index_or vs x v → kind_at (kinds_in vs) x ≡ (variable_view v).kind
kind_in vs x v h is = get_or-map (λ (u : Variable). (variable_view u).kind) vs x v no_kind h ∙ ap (λ (u : Variable). (variable_view u).kind) (sym is)

kinds_many : (vs : List Variable) → length (kinds_in vs) ≡ length vs
kinds_many vs = length-map vs (λ (u : Variable). (variable_view u).kind)

pub scalars_on : (vs : List Variable) (x : ℕ) (v : Variable) (before now new : List ℕ) → x < length vs → v ≡ slice_index_or vs x v → now ≡ before ++ scalars_from 0 (take x (kinds_in vs))
    → new ≡ now ++ scalar_slot (variable_view v).kind.length x → new ≡ before ++ scalars_from 0 (take (x + 1) (kinds_in vs))
scalars_on vs x v before now new h is old e =
    let ks = kinds_in vs in
    let kind = kind_in vs x v h is in
    let up : suc x ≡ x + 1 = omega arith in
    let at : 0 + x ≡ x = omega arith in
    e ∙ ap (λ (r : List ℕ). r ++ scalar_slot (variable_view v).kind.length x) old ∙ append_assoc before (scalars_from 0 (take x ks)) (scalar_slot (variable_view v).kind.length x)
    ∙ ap (λ (r : List ℕ). before ++ r)
    (ap (λ (k : Kind). scalars_from 0 (take x ks) ++ scalar_slot k.length x) (sym kind) ∙ ap (λ (n : ℕ). scalars_from 0 (take x ks) ++ scalar_slot (kind_at ks x).length n) (sym at)
    ∙ sym (scalars_more x 0 ks (omega (arith, h, kinds_many vs))) ∙ ap (λ (n : ℕ). scalars_from 0 (take n ks)) up)

pub scalars_all : (vs : List Variable) (x : ℕ) (before now : List ℕ) → x ≡ length vs → now ≡ before ++ scalars_from 0 (take x (kinds_in vs)) → now ≡ before ++ scalars_from 0 (kinds_in vs)
scalars_all vs x before now e h = h ∙ ap (λ (ks : Kinds). before ++ scalars_from 0 ks) (take_all x (kinds_in vs) (omega (arith, e, kinds_many vs)))

pub arrays_on : (vs : List Variable) (x : ℕ) (v : Variable) (before now new : List ℕ) (further next : ℕ) → x < length vs → v ≡ slice_index_or vs x v
    → (now ≡ before ++ arrays_from 0 (length vs) (take x (kinds_in vs))) × (further ≡ length vs + furthers (take x (kinds_in vs)))
    → new ≡ now ++ array_slots (variable_view v).kind.length x further → next ≡ further + further_count (variable_view v).kind.length
    → (new ≡ before ++ arrays_from 0 (length vs) (take (x + 1) (kinds_in vs))) × (next ≡ length vs + furthers (take (x + 1) (kinds_in vs)))
arrays_on vs x v before now new further next h is old e f =
    let ks = kinds_in vs in
    let kind = kind_in vs x v h is in
    let up : suc x ≡ x + 1 = omega arith in
    let at : 0 + x ≡ x = omega arith in
    let there : x < length ks = omega (arith, h, kinds_many vs) in
    let count : further_count (variable_view v).kind.length ≡ further_count (kind_at ks x).length = ap (λ (k : Kind). further_count k.length) (sym kind) in
    let more : furthers (take (x + 1) ks) ≡ furthers (take x ks) + further_count (kind_at ks x).length = ap (λ (n : ℕ). furthers (take n ks)) (sym up) ∙ furthers_more x ks there in (
      e ∙ ap (λ (r : List ℕ). r ++ array_slots (variable_view v).kind.length x further) old.0
          ∙ append_assoc before (arrays_from 0 (length vs) (take x ks)) (array_slots (variable_view v).kind.length x further)
          ∙ ap (λ (r : List ℕ). before ++ r)
          (ap (λ (k : Kind). arrays_from 0 (length vs) (take x ks) ++ array_slots k.length x further) (sym kind)
          ∙ ap (λ (n : ℕ). arrays_from 0 (length vs) (take x ks) ++ array_slots (kind_at ks x).length n further) (sym at)
          ∙ ap (λ (n : ℕ). arrays_from 0 (length vs) (take x ks) ++ array_slots (kind_at ks x).length (0 + x) n) old.1
          ∙ sym (arrays_more x 0 (length vs) ks there) ∙ ap (λ (n : ℕ). arrays_from 0 (length vs) (take n ks)) up),
      omega (arith, f, count, more, old.1),
    )

pub arrays_all : (vs : List Variable) (x : ℕ) (before now : List ℕ) → x ≡ length vs → now ≡ before ++ arrays_from 0 (length vs) (take x (kinds_in vs)) → now ≡ before ++ arrays_from 0 (length vs) (kinds_in vs)
arrays_all vs x before now e h = h ∙ ap (λ (ks : Kinds). before ++ arrays_from 0 (length vs) ks) (take_all x (kinds_in vs) (omega (arith, e, kinds_many vs)))

-- the line's are both, one behind the other
pub line_whole : (vs : List Variable) (ks : Kinds) (none scalars all : List ℕ) → kinds_in vs ≡ ks → none ≡ [] → scalars ≡ none ++ scalars_from 0 (kinds_in vs) → all ≡ scalars ++ arrays_from 0 (length vs) (kinds_in vs) → all ≡ line_slots ks
unfolding line_slots
line_whole vs ks none scalars all same e f g =
    g ∙ ap (λ (r : List ℕ). r ++ arrays_from 0 (length vs) (kinds_in vs)) (f ∙ ap (λ (r : List ℕ). r ++ scalars_from 0 (kinds_in vs)) e)
    ∙ ap (λ (n : ℕ). scalars_from 0 (kinds_in vs) ++ arrays_from 0 n (kinds_in vs)) (sym (kinds_many vs))
    ∙ ap (λ (js : Kinds). scalars_from 0 js ++ arrays_from 0 (length js) js) same

range_more : (a n : ℕ) → range_with_len a (suc n) ≡ range_with_len a n ++ (a + n) ∷ []
range_more a zero = let at : a ≡ a + 0 = omega arith in ap (λ i. i ∷ []) at
range_more a (suc n) =
    let at : (a + 1) + n ≡ a + suc n = omega arith in
    ap (λ r. a ∷ r) (range_more (a + 1) n) ∙ ap (λ i. a ∷ (range_with_len (a + 1) n ++ i ∷ [])) at

pub range_on : (before now new : List ℕ) (a k : ℕ) → now ≡ before ++ range_with_len a k → new ≡ now ++ (a + k) ∷ [] → new ≡ before ++ range_with_len a (k + 1)
range_on before now new a k h e =
    let up : suc k ≡ k + 1 = omega arith in
    e ∙ ap (λ (r : List ℕ). r ++ (a + k) ∷ []) h ∙ append_assoc before (range_with_len a k) ((a + k) ∷ []) ∙ ap (λ (r : List ℕ). before ++ r) (sym (range_more a k) ∙ ap (range_with_len a) up)

pub arrays_begun : (before : List ℕ) (n : ℕ) → (before ≡ before ++ []) × (n ≡ n + furthers [])
unfolding furthers
arrays_begun before n = (sym (append-nil before), omega arith)

furthers_most : (x : ℕ) (ks : Kinds) → furthers (take x ks) ≤ furthers ks
unfolding furthers
furthers_most zero [] = omega arith
furthers_most (suc x) [] = omega arith
furthers_most zero (k ∷ ks) = omega arith
furthers_most (suc x) (k ∷ ks) = omega (arith, furthers_most x ks)

pub furthers_below : (vs : List Variable) (x : ℕ) (v : Variable) (further total : ℕ) → x < length vs → v ≡ slice_index_or vs x v → further ≡ length vs + furthers (take x (kinds_in vs)) → length (slot_types (kinds_in vs)) ≡ total → total < 2 ^ 64
    → further + further_count (variable_view v).kind.length < 2 ^ 64
furthers_below vs x v further total h is e all few =
    let ks = kinds_in vs in
    let count : further_count (variable_view v).kind.length ≡ further_count (kind_at ks x).length = ap (λ (k : Kind). further_count k.length) (sym (kind_in vs x v h is)) in
    omega (arith, e, all, few, count, slots_counted ks, line_length ks, kinds_many vs, furthers_more x ks (omega (arith, h, kinds_many vs)), furthers_most (suc x) ks)

pub total_is : (vs : List Variable) (ks : Kinds) (ts : List IntType) (n : ℕ) → kinds_in vs ≡ ks → ts ≡ slot_types ks → n ≡ length ts → length (slot_types (kinds_in vs)) ≡ n
total_is vs ks ts n same types many = ap (λ (js : Kinds). length (slot_types js)) same ∙ ap (λ (us : List IntType). length us) (sym types) ∙ sym many

-- ---- the places

-- the first p slots have got their places
pub record AreTo (slots places : List ℕ) (p : ℕ) : Type 0 where
  pub size : length places ≡ length slots
  pub each : (q : ℕ) → q < p → slot_at places (slot_at slots q) ≡ q

pub placed_on : (slots places : List ℕ) (p : ℕ) → IsOrder slots → AreTo slots places p → p < length slots → AreTo slots (slice_set places (slot_at slots p) p) (p + 1)
placed_on slots places p order h l = record {
  size = length-set places (slot_at slots p) p ∙ h.size;
  each = λ q k. elim (cases_eq q p) [
    | inl e ↦ get_or-set_at places (slot_at slots p) (slot_at slots q) p 0 (ap (slot_at slots) e) (omega (arith, order.below p l, h.size)) ∙ sym e
    | inr e ↦
        let before : q < p = omega (arith, k, e) in
        get_or-set_other places (slot_at slots p) (slot_at slots q) p 0 (λ same. e (order.once q p (omega (arith, before, l)) l same)) ∙ h.each q before
  ];
}

pub placed_all : (slots places : List ℕ) (p : ℕ) → AreTo slots places p → length slots ≤ p → ArePlaces slots places
placed_all slots places p h e = record { size = h.size; each = λ q l. h.each q (omega (arith, l, e)) }

pub place_is : (slots places : List ℕ) (j : ℕ) → IsOrder slots → ArePlaces slots places → j < length slots → (slot_at slots (slot_at places j) ≡ j) × (slot_at places j < length slots)
place_is slots places j order h l =
    let at = order.place j l in
    let there : slot_at places j ≡ at.0 = ap (slot_at places) (sym at.2) ∙ h.each at.0 at.1 in (
      ap (slot_at slots) there ∙ at.2,
      subst (λ p. p < length slots) (sym there) at.1,
    )

-- the first place of what stands at a place is that
pub where_is : (slots : List ℕ) (p : ℕ) → IsOrder slots → p < length slots → where_in slots (slot_at slots p) ≡ p
where_is slots p order h = let there = found slots (slot_at slots p) (count_there slots p h) in order.once (where_in slots (slot_at slots p)) p there.inside h there.is

pub where_below : (slots : List ℕ) (j : ℕ) → IsOrder slots → j < length slots → (where_in slots j < length slots) × (slot_at slots (where_in slots j) ≡ j)
where_below slots j order h =
    let at = order.place j h in
    let there : where_in slots j ≡ at.0 = ap (where_in slots) (sym at.2) ∙ where_is slots at.0 order at.1 in (subst (λ p. p < length slots) (sym there) at.1, ap (slot_at slots) there ∙ at.2)
