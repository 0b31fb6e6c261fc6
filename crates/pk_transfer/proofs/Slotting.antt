-- Where the numbers of a table's variables have their slots.
use Rattle.std.specs.Prelude.{◌≡◌, ◌≢◌, ◌⊎◌, ℕ, zero, suc, ◌+◌, ◌-◌, ◌<◌, ◌≤◌, Bool, true, false, if◌then◌else◌, ℤ, pos, List, [], ◌∷◌, ◌++◌, length, map, take, drop, slice_index_or, Option, Some, None, is_some}
use Rattle.std.specs.List.{flat_map}
use Rattle.std.proofs.Common.{arith, refl, ap, sym, subst, ◌∙◌, inl, inr}
use Rattle.std.proofs.Math.ListN.{get_or-append}
use Rattle.std.proofs.lemmas.Bool.{cases_lt}
use Rattle.std.proofs.lemmas.Bool.Decides.{nat_tests}
use Rattle.std.proofs.lemmas.List.{get_or-map, length-map, length-append, length-replicate, get_or-append-add, get_or-replicate}
use Rattle.pk_ctypes.specs.declared.types.IntType.{IntType}
use Rattle.pk_ctypes.specs.declared.types.IntType.TheVariants.{Int}
use Rattle.pk_graph.specs.Trees.{ArrayOf}
use Rattle.pk_graph.specs.Kinds.{Kind, Kinds, no_kind, kind_at, count_of, count_at, IsArray}
use Rattle.pk_graph.specs.Kinds as kinds
use Rattle.pk_graph.specs.Steps.{Numbers, number_at}
use Rattle.pk_graph.specs.Stores.{Stored, numbers_of, IsStore}
use Rattle.pk_octagons.specs.Values.{type_at}
use Rattle.pk_state.specs.Layouts.{Layout, further_at, is_spread, slot_from, slot_of}
use Rattle.pk_transfer.specs.Slots.{are_few, is_small, further_count, further_types, further_from, HasSlots, own_slot, further_slots, spread}
use Rattle.pk_transfer.specs.Trees.{IsOver}

-- ---- lists of lists, one behind another

module _ {X A : Type 0} where
  -- where the list of place k begins
  abbrev pub begin : (X → List A) → List X → ℕ → ℕ
  begin f [] k = 0
  begin f (x ∷ xs) zero = 0
  begin f (x ∷ xs) (suc k) = length (f x) + begin f xs k

  pub flat_at : (f : X → List A) (xs : List X) (k i : ℕ) (c : X) (d : A) → k < length xs → i < length (f (slice_index_or xs k c)) → slice_index_or (flat_map f xs) (begin f xs k + i) d ≡ slice_index_or (f (slice_index_or xs k c)) i d
  flat_at f [] k i c d h p = absurd (omega arith)
  flat_at f (x ∷ xs) zero i c d h p = let at : 0 + i ≡ i = omega arith in ap (λ j. slice_index_or (f x ++ flat_map f xs) j d) at ∙ get_or-append (f x) (flat_map f xs) d i p
  flat_at f (x ∷ xs) (suc k) i c d h p =
      let at : (length (f x) + begin f xs k) + i ≡ length (f x) + (begin f xs k + i) = omega arith in
      ap (λ j. slice_index_or (f x ++ flat_map f xs) j d) at ∙ get_or-append-add (f x) (flat_map f xs) (begin f xs k + i) d ∙ flat_at f xs k i c d (omega (arith, h)) p

  pub flat_below : (f : X → List A) (xs : List X) (k i : ℕ) (c : X) → k < length xs → i < length (f (slice_index_or xs k c)) → begin f xs k + i < length (flat_map f xs)
  flat_below f [] k i c h p = absurd (omega arith)
  flat_below f (x ∷ xs) zero i c h p = omega (arith, p, length-append (f x) (flat_map f xs))
  flat_below f (x ∷ xs) (suc k) i c h p = omega (arith, flat_below f xs k i c (omega (arith, h)) p, length-append (f x) (flat_map f xs))

  -- each place lies in some list
  pub record IsPlaceOf (f : X → List A) (xs : List X) (c : X) (p : ℕ) : Type 0 where
    pub list : ℕ
    pub place : ℕ
    pub there : list < length xs
    pub inside : place < length (f (slice_index_or xs list c))
    pub is : p ≡ begin f xs list + place

  pub flat_find : (f : X → List A) (xs : List X) (c : X) (p : ℕ) → p < length (flat_map f xs) → IsPlaceOf f xs c p
  flat_find f [] c p h = absurd (omega arith)
  flat_find f (x ∷ xs) c p h = by (flat_find f xs c) (cases_lt p (length (f x)))
    where
      by : ((q : ℕ) → q < length (flat_map f xs) → IsPlaceOf f xs c q) → (p < length (f x)) ⊎ (length (f x) ≤ p) → IsPlaceOf f (x ∷ xs) c p
      by find (inl l) = record { list = 0; place = p; there = omega arith; inside = l; is = omega arith }
      by find (inr g) =
          let rest = find (p - length (f x)) (omega (arith, h, g, length-append (f x) (flat_map f xs))) in
          record { list = suc rest.list; place = rest.place; there = omega (arith, rest.there); inside = rest.inside; is = omega (arith, g, rest.is) }

  -- the lists don't meet
  pub begin_after : (f : X → List A) (xs : List X) (c : X) (j k : ℕ) → j < k → j < length xs → begin f xs j + length (f (slice_index_or xs j c)) ≤ begin f xs k
  begin_after f [] c j k l h = absurd (omega arith)
  begin_after f (x ∷ xs) c j zero l h = absurd (omega (arith, l))
  begin_after f (x ∷ xs) c zero (suc k) l h = omega arith
  begin_after f (x ∷ xs) c (suc j) (suc k) l h = omega (arith, begin_after f xs c j k (omega (arith, l)) (omega (arith, h)))

-- lists of the same lengths begin at the same places
pub begin_same : {X Y A B : Type 0} (f : X → List A) (g : Y → List B) (xs : List X) (ys : List Y) (c : X) (d : Y) → length xs ≡ length ys → ((k : ℕ) → k < length xs → length (f (slice_index_or xs k c)) ≡ length (g (slice_index_or ys k d))) → (k : ℕ) → k < length xs → begin f xs k ≡ begin g ys k
begin_same f g [] ys c d e same k h = absurd (omega arith)
begin_same f g (x ∷ xs) [] c d e same k h = absurd (omega (arith, e))
begin_same f g (x ∷ xs) (y ∷ ys) c d e same zero h = refl
begin_same f g (x ∷ xs) (y ∷ ys) c d e same (suc k) h =
    let first = same 0 (omega arith) in
    let rest = begin_same f g xs ys c d (omega (arith, e)) (λ j p. same (suc j) (omega (arith, p))) k (omega (arith, h)) in
    omega (arith, first, rest)

-- ---- a table

pub further_length : (k : Kind) → length (further_types k) ≡ further_count k.length
further_length k = length-replicate (further_count k.length) k.int_type

-- where the further slots of a variable begin
pub further_is : (ks : Kinds) (at x : ℕ) → x < length ks → slice_index_or (further_from at ks) x None ≡ (if is_small (kind_at ks x).length then Some (at + begin further_types ks x) else None)
further_is [] at x h = absurd (omega arith)
further_is (k ∷ ks) at zero h = let here : at ≡ at + 0 = omega arith in ap (λ n. if is_small k.length then Some n else None) here
further_is (k ∷ ks) at (suc x) h =
    let there : (at + further_count k.length) + begin further_types ks x ≡ at + (length (further_types k) + begin further_types ks x) = omega (arith, further_length k) in
    further_is ks (at + further_count k.length) x (omega (arith, h)) ∙ ap (λ n. if is_small (kind_at ks x).length then Some n else None) there

further_many : (ks : Kinds) (at : ℕ) → length (further_from at ks) ≡ length ks
further_many [] at = refl
further_many (k ∷ ks) at = let rest = further_many ks (at + further_count k.length) in omega (arith, rest)

few_le : (n : ℕ) → are_few n ≡ true → n ≤ 8
few_le n e = grind (arith, e, nat_tests)

-- a variable's numbers, if each has a slot
record IsSmall (ks : Kinds) (x : ℕ) : Type 0 where
  count : further_count (kind_at ks x).length ≡ count_at ks x - 1
  few : count_at ks x ≤ 8

pub small_is : (o : Option ℕ) → is_small o ≡ true → (further_count o ≡ count_of o - 1) × (count_of o ≤ 8)
small_is None e = absurd (cc)
small_is (Some n) e = (ap (λ b. if b then n - 1 else 0) e, few_le n e)

pub large_is : (o : Option ℕ) → is_small o ≡ false → further_count o ≡ 0
large_is None e = refl
large_is (Some n) e = ap (λ b. if b then n - 1 else 0) e

own_types : Kinds → List IntType
own_types ks = map (λ (k : Kind). k.int_type) ks

module _ (ks : Kinds) (y : Layout) (over : IsOver ks y) where
  own_many : length (map (λ (k : Kind). k.int_type) ks) ≡ length ks
  own_many = length-map ks (λ (k : Kind). k.int_type)

  pub slots_many : length y.types ≡ length ks + length (flat_map further_types ks)
  slots_many = ap (λ (ts : List IntType). length ts) over.types ∙ length-append (map (λ (k : Kind). k.int_type) ks) (flat_map further_types ks) ∙ ap (λ n. n + length (flat_map further_types ks)) own_many

  pub own_there : (x : ℕ) → x < length ks → x < length y.types
  own_there x h = omega (arith, h, slots_many)

  pub own_type : (x : ℕ) → x < length ks → type_at y.types x ≡ kinds.type_at ks x
  own_type x h =
      ap (λ (ts : List IntType). slice_index_or ts x Int) over.types
      ∙ get_or-append (map (λ (k : Kind). k.int_type) ks) (flat_map further_types ks) Int x (omega (arith, h, own_many))
      ∙ get_or-map (λ (k : Kind). k.int_type) ks x no_kind Int h

  pub further_there : (x : ℕ) → x < length ks → x < length y.further
  further_there x h = omega (arith, h, ap (λ (ns : List (Option ℕ)). length ns) over.further, further_many ks (length ks))

  pub further_where : (x : ℕ) → x < length ks → further_at y x ≡ (if is_small (kind_at ks x).length then Some (length ks + begin further_types ks x) else None)
  further_where x h = ap (λ (ns : List (Option ℕ)). slice_index_or ns x None) over.further ∙ further_is ks (length ks) x h

  some_if : (b : Bool) (n : ℕ) → is_some (if b then Some n else None) ≡ b
  some_if true n = refl
  some_if false n = refl

  pub spread_is : (x : ℕ) → x < length ks → is_spread y x ≡ is_small (kind_at ks x).length
  spread_is x h = ap (λ (o : Option ℕ). is_some o) (further_where x h) ∙ some_if (is_small (kind_at ks x).length) (length ks + begin further_types ks x)

  -- of a variable that isn't small each number has the own slot
  pub slot_large : (x i : ℕ) → x < length ks → is_small (kind_at ks x).length ≡ false → slot_of y x i ≡ x
  slot_large x i h e =
      ap (λ (o : Option ℕ). slot_from o x i) (further_where x h) ∙ ap (λ (b : Bool). slot_from (if b then Some (length ks + begin further_types ks x) else None) x i) e

  pub slot_first : (x : ℕ) → slot_of y x 0 ≡ x
  slot_first x = by (further_at y x)
    where
      by : (o : Option ℕ) → slot_from o x 0 ≡ x
      by None = refl
      by (Some k) = refl

  pub slot_further : (x i : ℕ) → x < length ks → is_small (kind_at ks x).length ≡ true → slot_of y x (suc i) ≡ length ks + (begin further_types ks x + i)
  slot_further x i h e =
      let here : (length ks + begin further_types ks x) + i ≡ length ks + (begin further_types ks x + i) = omega arith in
      ap (λ (o : Option ℕ). slot_from o x (suc i)) (further_where x h) ∙ ap (λ (b : Bool). slot_from (if b then Some (length ks + begin further_types ks x) else None) x (suc i)) e ∙ here

  small_count : (x : ℕ) → is_small (kind_at ks x).length ≡ true → length (further_types (kind_at ks x)) ≡ count_at ks x - 1
  small_count x e = further_length (kind_at ks x) ∙ (small_is (kind_at ks x).length e).0

  further_type : (x i : ℕ) → x < length ks → is_small (kind_at ks x).length ≡ true → suc i < count_at ks x → type_at y.types (length ks + (begin further_types ks x + i)) ≡ kinds.type_at ks x
  further_type x i h e p =
      let many = own_many in
      let inside : i < length (further_types (kind_at ks x)) = omega (arith, p, small_count x e) in
      let at : length ks + (begin further_types ks x + i) ≡ length (map (λ (k : Kind). k.int_type) ks) + (begin further_types ks x + i) = omega (arith, many) in
      ap (λ (ts : List IntType). slice_index_or ts (length ks + (begin further_types ks x + i)) Int) over.types
      ∙ ap (λ j. slice_index_or (map (λ (k : Kind). k.int_type) ks ++ flat_map further_types ks) j Int) at
      ∙ get_or-append-add (map (λ (k : Kind). k.int_type) ks) (flat_map further_types ks) (begin further_types ks x + i) Int
      ∙ flat_at further_types ks x i no_kind Int h inside
      ∙ get_or-replicate (further_count (kind_at ks x).length) i (kinds.type_at ks x) Int (omega (arith, inside, further_length (kind_at ks x)))

  further_slot_there : (x i : ℕ) → x < length ks → is_small (kind_at ks x).length ≡ true → suc i < count_at ks x → length ks + (begin further_types ks x + i) < length y.types
  further_slot_there x i h e p = omega (arith, slots_many, flat_below further_types ks x i no_kind h (omega (arith, p, small_count x e)))

  pub slot_there : (x i : ℕ) → x < length ks → i < count_at ks x → slot_of y x i < length y.types
  slot_there x i h p = by (is_small (kind_at ks x).length) refl i p
    where
      by : (b : Bool) → is_small (kind_at ks x).length ≡ b → (i : ℕ) → i < count_at ks x → slot_of y x i < length y.types
      by false e i p = subst (λ j. j < length y.types) (sym (slot_large x i h e)) (own_there x h)
      by true e zero p = subst (λ j. j < length y.types) (sym (slot_first x)) (own_there x h)
      by true e (suc i) p = subst (λ j. j < length y.types) (sym (slot_further x i h e)) (further_slot_there x i h e p)

  pub slot_type : (x i : ℕ) → x < length ks → i < count_at ks x → type_at y.types (slot_of y x i) ≡ kinds.type_at ks x
  slot_type x i h p = by (is_small (kind_at ks x).length) refl i p
    where
      by : (b : Bool) → is_small (kind_at ks x).length ≡ b → (i : ℕ) → i < count_at ks x → type_at y.types (slot_of y x i) ≡ kinds.type_at ks x
      by false e i p = ap (type_at y.types) (slot_large x i h e) ∙ own_type x h
      by true e zero p = ap (type_at y.types) (slot_first x) ∙ own_type x h
      by true e (suc i) p = ap (type_at y.types) (slot_further x i h e) ∙ further_type x i h e p

  pub has_slots : (x : ℕ) → x < length ks → HasSlots y x (count_at ks x)
  has_slots x h = record {
    variable = further_there x h;
    own = own_there x h;
    there = λ i p. slot_there x i h p;
    types = λ i p. slot_type x i h p ∙ sym (own_type x h);
  }

  pub array_slots : (a : ArrayOf ℕ) → IsArray ks a → HasSlots y a.variable a.length
  array_slots a h = subst (HasSlots y a.variable) (ap count_of h.array) (has_slots a.variable h.there)

  -- a slot is some variable's own, or that of a further number of a small one
  pub data IsSlot (j : ℕ) : Type 0 where
    own : j < length ks → IsSlot j
    further : (x i : ℕ) → x < length ks → is_small (kind_at ks x).length ≡ true → suc i < count_at ks x → j ≡ slot_of y x (suc i) → IsSlot j

  none_further : (x i : ℕ) → is_small (kind_at ks x).length ≡ false → i < length (further_types (kind_at ks x)) → ⊥
  none_further x i e p = omega (arith, p, further_length (kind_at ks x), large_is (kind_at ks x).length e)

  pub slot_find : (j : ℕ) → j < length y.types → IsSlot j
  slot_find j h = by (cases_lt j (length ks))
    where
      at : (p : IsPlaceOf further_types ks no_kind (j - length ks)) → length ks ≤ j → (b : Bool) → is_small (kind_at ks p.list).length ≡ b → IsSlot j
      at p g false e = absurd (none_further p.list p.place e p.inside)
      at p g true e =
          further p.list p.place p.there e (omega (arith, p.inside, small_count p.list e))
          (sym (slot_further p.list p.place p.there e ∙ (let here : length ks + (begin further_types ks p.list + p.place) ≡ j = omega (arith, p.is, g) in here)))

      by : (j < length ks) ⊎ (length ks ≤ j) → IsSlot j
      by (inl l) = own l
      by (inr g) = let p = flat_find further_types ks no_kind (j - length ks) (omega (arith, h, g, slots_many)) in at p g (is_small (kind_at ks p.list).length) refl

  -- two further numbers have one slot only if they are the same
  pub further_once : (x z i k : ℕ) → x < length ks → z < length ks → is_small (kind_at ks x).length ≡ true → is_small (kind_at ks z).length ≡ true → suc i < count_at ks x → suc k < count_at ks z → slot_of y x (suc i) ≡ slot_of y z (suc k) → x ≡ z
  further_once x z i k h l e f p q same = by (cases_lt x z) (cases_lt z x)
    where
      is : begin further_types ks x + i ≡ begin further_types ks z + k
      is = omega (arith, sym (slot_further x i h e) ∙ same ∙ slot_further z k l f)

      by : (x < z) ⊎ (z ≤ x) → (z < x) ⊎ (x ≤ z) → x ≡ z
      by (inl a) o = absurd (omega (arith, begin_after further_types ks no_kind x z a h, is, small_count x e, p))
      by (inr a) (inl b) = absurd (omega (arith, begin_after further_types ks no_kind z x b l, is, small_count z f, q))
      by (inr a) (inr b) = omega (arith, a, b)

  pub further_apart : (x z i : ℕ) → x < length ks → z < length ks → is_small (kind_at ks x).length ≡ true → slot_of y x (suc i) ≢ z
  further_apart x z i h l e = λ same. omega (arith, sym (slot_further x i h e) ∙ same, l)

-- ---- a store, slot by slot

few_slot : (zs : Numbers) → are_few (length zs) ≡ true → own_slot zs ≡ take 1 zs
few_slot zs e = ap (λ b. if b then take 1 zs else zs) e

many_slot : (zs : Numbers) → are_few (length zs) ≡ false → own_slot zs ≡ zs
many_slot zs e = ap (λ b. if b then take 1 zs else zs) e

pub first_kept : (zs : Numbers) → number_at (own_slot zs) 0 ≡ number_at zs 0
first_kept zs = by (are_few (length zs)) zs
  where
    by : (b : Bool) (zs : Numbers) → number_at (if b then take 1 zs else zs) 0 ≡ number_at zs 0
    by false zs = refl
    by true [] = refl
    by true (z ∷ zs) = refl

pub rest_length : (zs : Numbers) → length (further_slots zs) ≡ (if are_few (length zs) then length zs - 1 else 0)
rest_length zs = by (are_few (length zs)) zs
  where
    of_rest : (zs : Numbers) → length (map (λ (z : ℤ). z ∷ []) (drop 1 zs)) ≡ length zs - 1
    of_rest [] = refl
    of_rest (z ∷ zs) = let many = length-map zs (λ (w : ℤ). w ∷ []) in omega (arith, many)

    by : (b : Bool) (zs : Numbers) → length (let ws : List Numbers = [] in if b then map (λ (z : ℤ). z ∷ []) (drop 1 zs) else ws) ≡ (if b then length zs - 1 else 0)
    by false zs = refl
    by true zs = of_rest zs

rest_at : (zs : Numbers) (i : ℕ) → are_few (length zs) ≡ true → suc i < length zs → slice_index_or (further_slots zs) i [] ≡ number_at zs (suc i) ∷ []
rest_at zs i e p = ap (λ (b : Bool). slice_index_or (let ws : List Numbers = [] in if b then map (λ (z : ℤ). z ∷ []) (drop 1 zs) else ws) i []) e ∙ at zs p
  where
    at : (zs : Numbers) → suc i < length zs → slice_index_or (map (λ (z : ℤ). z ∷ []) (drop 1 zs)) i [] ≡ number_at zs (suc i) ∷ []
    at [] p = absurd (omega arith)
    at (z ∷ zs) p = get_or-map (λ (w : ℤ). w ∷ []) zs i (pos 0) [] (omega (arith, p))

pub own_numbers : (s : Stored) (x : ℕ) → x < length s → numbers_of (spread s) x ≡ own_slot (numbers_of s x)
own_numbers s x h =
    get_or-append (map own_slot s) (flat_map further_slots s) [] x (omega (arith, h, length-map s own_slot))
    ∙ get_or-map own_slot s x [] [] h

-- the numbers of a variable, by how many its kind says
pub counted : (o : Option ℕ) (zs : Numbers) → length zs ≡ count_of o → (if are_few (length zs) then length zs - 1 else 0) ≡ further_count o
counted None zs e = ap (λ n. if are_few n then n - 1 else 0) e
counted (Some n) zs e = ap (λ n. if are_few n then n - 1 else 0) e

few_counted : (o : Option ℕ) (zs : Numbers) → length zs ≡ count_of o → is_small o ≡ true → are_few (length zs) ≡ true
few_counted None zs e s = absurd (cc)
few_counted (Some n) zs e s = ap are_few e ∙ s

pub many_counted : (o : Option ℕ) (zs : Numbers) → length zs ≡ count_of o → is_small o ≡ false → own_slot zs ≡ zs
many_counted None zs e s = by zs e
  where
    by : (zs : Numbers) → length zs ≡ 1 → own_slot zs ≡ zs
    by [] e = absurd (omega (arith, e))
    by (z ∷ []) e = refl
    by (z ∷ (w ∷ zs)) e = absurd (omega (arith, e))
many_counted (Some n) zs e s = many_slot zs (ap are_few e ∙ s)

-- stores with as many numbers as a table says
abbrev pub HasCounts : Kinds → Stored → Type 0
HasCounts ks s = (length s ≡ length ks) × ((x : ℕ) → x < length ks → length (numbers_of s x) ≡ count_at ks x)

pub counts_of : (ks : Kinds) (s : Stored) → IsStore ks s → HasCounts ks s
counts_of ks s st = (st.size, st.counts)

module _ (ks : Kinds) (y : Layout) (s : Stored) (over : IsOver ks y) (st : HasCounts ks s) where
  same_lengths : (k : ℕ) → k < length ks → length (further_types (kind_at ks k)) ≡ length (further_slots (numbers_of s k))
  same_lengths k h = further_length (kind_at ks k) ∙ sym (rest_length (numbers_of s k) ∙ counted (kind_at ks k).length (numbers_of s k) (st.1 k h))

  begins : (x : ℕ) → x < length ks → begin further_types ks x ≡ begin further_slots s x
  begins x h = begin_same further_types further_slots ks s no_kind [] (sym st.0) same_lengths x h

  pub large_numbers : (x : ℕ) → x < length ks → is_small (kind_at ks x).length ≡ false → numbers_of (spread s) x ≡ numbers_of s x
  large_numbers x h e = own_numbers s x (omega (arith, h, st.0)) ∙ many_counted (kind_at ks x).length (numbers_of s x) (st.1 x h) e

  -- a number of a small variable stands alone
  pub small_numbers : (x i : ℕ) → x < length ks → is_small (kind_at ks x).length ≡ true → i < count_at ks x → numbers_of (spread s) (slot_of y x i) ≡ number_at (numbers_of s x) i ∷ []
  small_numbers x i h e p = by i p
    where
      few : are_few (length (numbers_of s x)) ≡ true
      few = few_counted (kind_at ks x).length (numbers_of s x) (st.1 x h) e

      first : (zs : Numbers) → 0 < length zs → take 1 zs ≡ number_at zs 0 ∷ []
      first [] p = absurd (omega (arith, p))
      first (z ∷ zs) p = refl

      by : (i : ℕ) → i < count_at ks x → numbers_of (spread s) (slot_of y x i) ≡ number_at (numbers_of s x) i ∷ []
      by zero p =
          ap (numbers_of (spread s)) (slot_first ks y over x) ∙ own_numbers s x (omega (arith, h, st.0)) ∙ few_slot (numbers_of s x) few
          ∙ first (numbers_of s x) (omega (arith, p, st.1 x h))
      by (suc i) p =
          let long : suc i < length (numbers_of s x) = omega (arith, p, st.1 x h) in
          let many : length (map own_slot s) ≡ length ks = length-map s own_slot ∙ st.0 in
          let inside : i < length (further_slots (numbers_of s x)) = omega (arith, p, small_count ks y over x e, same_lengths x h) in
          let at : length ks + (begin further_types ks x + i) ≡ length (map own_slot s) + (begin further_slots s x + i) = omega (arith, many, begins x h) in
          ap (numbers_of (spread s)) (slot_further ks y over x i h e ∙ at)
          ∙ get_or-append-add (map own_slot s) (flat_map further_slots s) (begin further_slots s x + i) []
          ∙ flat_at further_slots s x i [] [] (omega (arith, h, st.0)) inside
          ∙ rest_at (numbers_of s x) i few long
