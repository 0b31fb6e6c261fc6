-- A step leads from a store of the variables to one.
use Rattle.std.proofs.Common.{◌≡◌, ◌≢◌, ◌<◌, ℕ, zero, suc, refl, ap, ◌∙◌, sym, subst, nat_eq, Bool, true, false, ◌&&◌, if◌then◌else◌, ◌⊎◌, inl, inr, Result, Ok, Err, [], ◌∷◌, length, replicate, slice_set, arith, length-set}
use Rattle.std.proofs.lemmas.Int.{ints}
use Rattle.std.specs.Prelude.{ℤ, pos, int_le, int_lt, unsigned_abs}
use Rattle.std.proofs.lemmas.Bool.Decides.{eqb_tells}
use Rattle.std.proofs.lemmas.List.{get_or-set_same, get_or-set_other, get_or-replicate, length-replicate}
use Rattle.pk_ctypes.specs.declared.types.IntType.{IntType}
use Rattle.pk_ctypes.specs.declared.types.IntType.TheVariants.{Char, SChar, UChar, Short, UShort, Int, UInt, Long, ULong, LLong, ULLong}
use Rattle.pk_ctypes.specs.declared.faults.Fault.TheVariants as faults
use Rattle.pk_ctypes.specs.Types.{InType, is_in_type}
use Rattle.pk_ctypes.proofs.Values.{cases_of_type}
use Rattle.pk_ctypes.specs.Laws.{ValuesLieInTheirType}
use Rattle.pk_graph.specs.declared.trees.Site.{Site}
use Rattle.pk_graph.specs.Trees.{ArrayOf, InstrOf, Skip, Set, Havoc, Clear, Load, Store, Guard, Check}
use Rattle.pk_graph.specs.Kinds.{Kinds, type_at, count_of, count_at, IsScalar, IsArray, IsTypedInstr}
use Rattle.pk_graph.specs.Steps.{Numbers, number_at, Failure, failure, and_then, tree_value, is_true, is_index, indexed, all_in_type, are_any, To, Wants, Faulted, with_value, passed, effect}
use Rattle.pk_graph.specs.Stores.{Stored, numbers_of, storing, IsStore}
use Rattle.pk_graph_step.proofs.TypedLemmas.{scalar_count, typed_value}

-- numbers of a variable
pub record AreOf (ks : Kinds) (x : ℕ) (zs : Numbers) : Type 0 where
  pub count : length zs ≡ count_at ks x
  pub fits : (i : ℕ) → i < count_at ks x → InType (type_at ks x) (number_at zs i)

pub kept : (ks : Kinds) (s : Stored) (x : ℕ) (zs : Numbers) → x < length ks → IsStore ks s → AreOf ks x zs → IsStore ks (slice_set s x zs)
kept ks s x zs h m a = record {
  size = length-set s x zs ∙ m.size;
  counts = λ y i. count y i (eqb_tells y x);
  fits = λ y k i j. fit y k i j (eqb_tells y x);
}
  where
    inside : x < length s
    inside = subst (λ (n : ℕ). x < n) (sym m.size) h

    count : (y : ℕ) → y < length ks → ((nat_eq y x ≡ true) × (y ≡ x)) ⊎ ((nat_eq y x ≡ false) × (y ≢ x)) → length (numbers_of (slice_set s x zs) y) ≡ count_at ks y
    count y i (inl e) =
        ap (λ (k : ℕ). length (numbers_of (slice_set s x zs) k)) e.1 ∙ ap (λ (ns : Numbers). length ns) (get_or-set_same s x zs [] inside) ∙ a.count ∙ ap (count_at ks) (sym e.1)
    count y i (inr e) = ap (λ (ns : Numbers). length ns) (get_or-set_other s x y zs [] e.1) ∙ m.counts y i

    fit : (y k : ℕ) → y < length ks → k < count_at ks y → ((nat_eq y x ≡ true) × (y ≡ x)) ⊎ ((nat_eq y x ≡ false) × (y ≢ x)) → InType (type_at ks y) (number_at (numbers_of (slice_set s x zs) y) k)
    fit y k i j (inl e) =
        subst (λ (n : ℕ). InType (type_at ks n) (number_at (numbers_of (slice_set s x zs) n) k)) (sym e.1)
        (subst (λ (ns : Numbers). InType (type_at ks x) (number_at ns k)) (sym (get_or-set_same s x zs [] inside)) (a.fits k (subst (λ (n : ℕ). k < count_at ks n) e.1 j)))
    fit y k i j (inr e) =
        subst (λ (ns : Numbers). InType (type_at ks y) (number_at ns k)) (sym (get_or-set_other s x y zs [] e.1)) (m.fits y k i j)

one_of : (ks : Kinds) (x : ℕ) (z : ℤ) → IsScalar ks x → InType (type_at ks x) z → AreOf ks x (z ∷ [])
one_of ks x z h i = record { count = sym (scalar_count ks x h); fits = λ k j. first k (subst (λ (n : ℕ). k < n) (scalar_count ks x h) j) }
  where
    first : (k : ℕ) → k < 1 → InType (type_at ks x) (number_at (z ∷ []) k)
    first zero j = i
    first (suc k) j = absurd (omega (arith, j))

and_left : (a b : Bool) → (a && b) ≡ true → a ≡ true
and_left true b e = refl
and_left false b e = e

and_right : (a b : Bool) → (a && b) ≡ true → b ≡ true
and_right true b e = e
and_right false b e = absurd (cc e)

all_are : (t : IntType) (zs : Numbers) (i : ℕ) → all_in_type t zs ≡ true → i < length zs → InType t (number_at zs i)
all_are t [] i h j = absurd (omega (arith, j))
all_are t (z ∷ zs) zero h j = told (cases_of_type t z)
  where
    told : InType t z ⊎ ((is_in_type t z ≡ false) × (InType t z → ⊥)) → InType t z
    told (inl e) = e
    told (inr e) = absurd (cc (and_left (is_in_type t z) (all_in_type t zs) h, e.0))
all_are t (z ∷ zs) (suc i) h j = all_are t zs i (and_right (is_in_type t z) (all_in_type t zs) h) (omega (arith, j))

same_count : (n m : ℕ) → nat_eq n m ≡ true → n ≡ m
same_count n m h = told (eqb_tells n m)
  where
    told : ((nat_eq n m ≡ true) × (n ≡ m)) ⊎ ((nat_eq n m ≡ false) × (n ≢ m)) → n ≡ m
    told (inl e) = e.1
    told (inr e) = absurd (cc (h, e.0))

chosen_of : (ks : Kinds) (x n : ℕ) (t : IntType) (zs : Numbers) → type_at ks x ≡ t → count_at ks x ≡ n → are_any t n zs ≡ true → AreOf ks x zs
chosen_of ks x n t zs e f h =
    let count : length zs ≡ n = same_count (length zs) n (and_left (nat_eq (length zs) n) (all_in_type t zs) h) in
    record {
      count = count ∙ sym f;
      fits = λ i j. subst (λ (u : IntType). InType u (number_at zs i)) (sym e) (all_are t zs i (and_right (nat_eq (length zs) n) (all_in_type t zs) h) (omega (arith, j, f, count)));
    }

zero_in : (t : IntType) → InType t (pos 0)
zero_in Char = record { from = omega (arith, ints); to = omega (arith, ints) }
zero_in SChar = record { from = omega (arith, ints); to = omega (arith, ints) }
zero_in UChar = record { from = omega (arith, ints); to = omega (arith, ints) }
zero_in Short = record { from = omega (arith, ints); to = omega (arith, ints) }
zero_in UShort = record { from = omega (arith, ints); to = omega (arith, ints) }
zero_in Int = record { from = omega (arith, ints); to = omega (arith, ints) }
zero_in UInt = record { from = omega (arith, ints); to = omega (arith, ints) }
zero_in Long = record { from = omega (arith, ints); to = omega (arith, ints) }
zero_in ULong = record { from = omega (arith, ints); to = omega (arith, ints) }
zero_in LLong = record { from = omega (arith, ints); to = omega (arith, ints) }
zero_in ULLong = record { from = omega (arith, ints); to = omega (arith, ints) }

array_count : (ks : Kinds) (a : ArrayOf ℕ) → IsArray ks a → count_at ks a.variable ≡ a.length
array_count ks a h = ap count_of h.array

zeros_of : (ks : Kinds) (a : ArrayOf ℕ) → IsArray ks a → AreOf ks a.variable (replicate a.length (pos 0))
zeros_of ks a h = record {
  count = length-replicate a.length (pos 0) ∙ sym (array_count ks a h);
  fits = λ i j. subst (InType (type_at ks a.variable)) (sym (get_or-replicate a.length i (pos 0) (pos 0) (subst (λ (n : ℕ). i < n) (array_count ks a h) j))) (zero_in (type_at ks a.variable));
}

element_of : (ks : Kinds) (s : Stored) (a : ArrayOf ℕ) (k : ℕ) (v : ℤ) → IsStore ks s → IsArray ks a → InType (type_at ks a.variable) v → AreOf ks a.variable (slice_set (numbers_of s a.variable) k v)
element_of ks s a k v m h i = record {
  count = length-set (numbers_of s a.variable) k v ∙ m.counts a.variable h.there;
  fits = λ j l. told j l (eqb_tells j k);
}
  where
    told : (j : ℕ) → j < count_at ks a.variable → ((nat_eq j k ≡ true) × (j ≡ k)) ⊎ ((nat_eq j k ≡ false) × (j ≢ k)) → InType (type_at ks a.variable) (number_at (slice_set (numbers_of s a.variable) k v) j)
    told j l (inl e) =
        subst (λ (n : ℕ). InType (type_at ks a.variable) (number_at (slice_set (numbers_of s a.variable) k v) n)) (sym e.1)
        (subst (InType (type_at ks a.variable)) (sym (get_or-set_same (numbers_of s a.variable) k v (pos 0) (subst (λ (n : ℕ). k < n) (sym (m.counts a.variable h.there)) (subst (λ (n : ℕ). n < count_at ks a.variable) e.1 l)))) i)
    told j l (inr e) = subst (InType (type_at ks a.variable)) (sym (get_or-set_other (numbers_of s a.variable) k j v (pos 0) e.1)) (m.fits a.variable j h.there l)

index_in : (n : ℕ) (z : ℤ) → is_index n z ≡ true → unsigned_abs z < n
index_in n z h = below z (and_left (int_le (pos 0) z) (int_lt z (pos n)) h) (and_right (int_le (pos 0) z) (int_lt z (pos n)) h)
  where
    below : (y : ℤ) → int_le (pos 0) y ≡ true → int_lt y (pos n) ≡ true → unsigned_abs y < n
    below y e f = grind (arith, ints, e, f)

pub place_in : (at : Site) (n : ℕ) (z : ℤ) (k : ℕ) → indexed at n z ≡ Ok k → k < n
place_in at n z k e = told (is_index n z) e refl
  where
    told : (b : Bool) → (if◌then◌else◌ {A = Result ℕ Failure} b (Ok (unsigned_abs z)) (Err (failure faults.Index at))) ≡ Ok k → is_index n z ≡ b → k < n
    told true f g = let same : unsigned_abs z ≡ k = cc f in subst (λ (m : ℕ). m < n) same (index_in n z g)
    told false f g = absurd (cc f)

-- ---- instruction by instruction

to_is : (s t : Stored) → To s ≡ To t → s ≡ t
to_is s t e = cc e

set_keeps : (ks : Kinds) (x : ℕ) (s t : Stored) (r : Result ℤ Failure) → IsScalar ks x → IsStore ks s → ((v : ℤ) → r ≡ Ok v → InType (type_at ks x) v)
    → with_value r (λ v. To (slice_set s x (v ∷ []))) ≡ To t → IsStore ks t
set_keeps ks x s t (Ok v) h m f e = subst (IsStore ks) (to_is (slice_set s x (v ∷ [])) t e) (kept ks s x (v ∷ []) h.there m (one_of ks x v h (f v refl)))
set_keeps ks x s t (Err g) h m f e = absurd (cc e)

havoc_keeps : (ks : Kinds) (x n : ℕ) (u : IntType) (zs : Numbers) (s t : Stored) (b : Bool) → x < length ks → type_at ks x ≡ u → count_at ks x ≡ n → IsStore ks s → are_any u n zs ≡ b
    → (if b then To (slice_set s x zs) else Wants u n) ≡ To t → IsStore ks t
havoc_keeps ks x n u zs s t true h i j m g e = subst (IsStore ks) (to_is (slice_set s x zs) t e) (kept ks s x zs h m (chosen_of ks x n u zs i j g))
havoc_keeps ks x n u zs s t false h i j m g e = absurd (cc e)

load_keeps : (ks : Kinds) (x : ℕ) (a : ArrayOf ℕ) (s t : Stored) (r : Result ℕ Failure) → IsScalar ks x → IsArray ks a → type_at ks x ≡ type_at ks a.variable → IsStore ks s → ((k : ℕ) → r ≡ Ok k → k < a.length)
    → with_value r (λ k. To (slice_set s x (number_at (numbers_of s a.variable) k ∷ []))) ≡ To t → IsStore ks t
load_keeps ks x a s t (Ok k) h i j m f e =
    subst (IsStore ks) (to_is (slice_set s x (number_at (numbers_of s a.variable) k ∷ [])) t e)
    (kept ks s x (number_at (numbers_of s a.variable) k ∷ []) h.there m
    (one_of ks x (number_at (numbers_of s a.variable) k) h (subst (λ (u : IntType). InType u (number_at (numbers_of s a.variable) k)) (sym j) (m.fits a.variable k i.there (subst (λ (n : ℕ). k < n) (sym (array_count ks a i)) (f k refl))))))
load_keeps ks x a s t (Err g) h i j m f e = absurd (cc e)

put_keeps : (ks : Kinds) (a : ArrayOf ℕ) (s t : Stored) (v : ℤ) (r : Result ℕ Failure) → IsArray ks a → IsStore ks s → InType (type_at ks a.variable) v
    → with_value r (λ k. To (slice_set s a.variable (slice_set (numbers_of s a.variable) k v))) ≡ To t → IsStore ks t
put_keeps ks a s t v (Ok k) h m f e =
    subst (IsStore ks) (to_is (slice_set s a.variable (slice_set (numbers_of s a.variable) k v)) t e) (kept ks s a.variable (slice_set (numbers_of s a.variable) k v) h.there m (element_of ks s a k v m h f))
put_keeps ks a s t v (Err g) h m f e = absurd (cc e)

store_keeps : (ks : Kinds) (a : ArrayOf ℕ) (at : Site) (s t : Stored) (q r : Result ℤ Failure) → IsArray ks a → IsStore ks s → ((v : ℤ) → r ≡ Ok v → InType (type_at ks a.variable) v)
    → with_value q (λ z. with_value r (λ v. with_value (indexed at a.length z) (λ k. To (slice_set s a.variable (slice_set (numbers_of s a.variable) k v))))) ≡ To t → IsStore ks t
store_keeps ks a at s t (Ok z) (Ok v) h m f e = put_keeps ks a s t v (indexed at a.length z) h m (f v refl) e
store_keeps ks a at s t (Ok z) (Err g) h m f e = absurd (cc e)
store_keeps ks a at s t (Err g) r h m f e = absurd (cc e)

guard_keeps : (ks : Kinds) (s t : Stored) (b : Bool) (r : Result ℤ Failure) → IsStore ks s → with_value r (λ v. passed (is_true v) b s) ≡ To t → IsStore ks t
guard_keeps ks s t b (Ok v) m e = told (is_true v) b e
  where
    told : (c d : Bool) → passed c d s ≡ To t → IsStore ks t
    told true true f = subst (IsStore ks) (to_is s t f) m
    told true false f = absurd (cc f)
    told false true f = absurd (cc f)
    told false false f = subst (IsStore ks) (to_is s t f) m
guard_keeps ks s t b (Err g) m e = absurd (cc e)

check_keeps : (ks : Kinds) (s t : Stored) (g : Failure) (r : Result ℤ Failure) → IsStore ks s → with_value r (λ v. if is_true v then To s else Faulted g) ≡ To t → IsStore ks t
check_keeps ks s t g (Ok v) m e = told (is_true v) e
  where
    told : (c : Bool) → (if c then To s else Faulted g) ≡ To t → IsStore ks t
    told true f = subst (IsStore ks) (to_is s t f) m
    told false f = absurd (cc f)
check_keeps ks s t g (Err f) m e = absurd (cc e)

index_below : (at : Site) (n : ℕ) (r : Result ℤ Failure) (k : ℕ) → and_then r (indexed at n) ≡ Ok k → k < n
index_below at n (Ok z) k e = place_in at n z k e
index_below at n (Err g) k e = absurd (cc e)

pub steps_keep : ValuesLieInTheirType → (ks : Kinds) (i : InstrOf ℕ) (chosen : Numbers) (s t : Stored) → IsTypedInstr ks i → IsStore ks s → effect storing chosen i s ≡ To t → IsStore ks t
steps_keep law ks Skip ch s t h m e = subst (IsStore ks) (to_is s t e) m
steps_keep law ks (Set x a) ch s t h m e = set_keeps ks x s t (tree_value storing a s) h.0 m (λ v f. h.1.fits v (typed_value law ks s a v m h.1.typed f)) e
steps_keep law ks (Havoc x u n) ch s t h m e = havoc_keeps ks x n u ch s t (are_any u n ch) h.0 h.1 h.2 m refl e
steps_keep law ks (Clear a) ch s t h m e = subst (IsStore ks) (to_is (slice_set s a.variable (replicate a.length (pos 0))) t e) (kept ks s a.variable (replicate a.length (pos 0)) h.there m (zeros_of ks a h))
steps_keep law ks (Load x a at b i) ch s t h m e = load_keeps ks x a s t (and_then (tree_value storing i s) (indexed at a.length)) h.0 h.1 h.2 m (λ k f. index_below at a.length (tree_value storing i s) k f) e
steps_keep law ks (Store a at b i v) ch s t h m e = store_keeps ks a at s t (tree_value storing i s) (tree_value storing v s) h.0 m (λ w f. h.2.fits w (typed_value law ks s v w m h.2.typed f)) e
steps_keep law ks (Guard a b) ch s t h m e = guard_keeps ks s t b (tree_value storing a s) m e
steps_keep law ks (Check at a) ch s t h m e = check_keeps ks s t (failure faults.Assert at) (tree_value storing a s) m e
