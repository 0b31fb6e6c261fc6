-- Arrays without elements, as if they had one that is 0: no step uses it.
use Rattle.std.specs.Prelude.{◌≡◌, ◌⊎◌, ℕ, zero, suc, ◌+◌, ◌-◌, ◌++◌, ◌<◌, ◌≤◌, nat_eq, Bool, true, false, if◌then◌else◌, ℤ, pos, [], ◌∷◌, map, length, replicate, slice_set, Option, Some, None, Result, Ok}
use Rattle.std.specs.List.{flat_map}
use Rattle.std.proofs.Common.{arith, refl, ap, sym, subst, ◌∙◌, inl, inr, length-set}
use Rattle.std.proofs.Math.ListN.{get_or-map}
use Rattle.std.proofs.lemmas.Bool.{cases_lt}
use Rattle.std.proofs.lemmas.Bool.Decides.{nat_tests}
use Rattle.std.proofs.lemmas.List.{length-map}
use Rattle.std.proofs.lemmas.List as lists
use Rattle.pk_ctypes.specs.declared.types.IntType.{IntType}
use Rattle.pk_ctypes.specs.declared.faults.Fault.TheVariants as faults
use Rattle.pk_ctypes.specs.Types.{InType, Represents, is_in_type, wrapped}
use Rattle.pk_ctypes.specs.Operators.{value_of}
use Rattle.pk_ctypes.proofs.Wrapped.{zero_in}
use Rattle.pk_ctypes.proofs.Values as values
use Rattle.pk_ctypes.proofs.Small.{both_true}
use Rattle.pk_graph.specs.Trees.{TreeOf, constant, variable, converted, unary, binary, ArrayOf, InstrOf, Skip, Set, Havoc, Clear, Load, Store, Guard, Check}
use Rattle.pk_graph.specs.Kinds.{Kind, Kinds, no_kind, kind_at, type_at, count_of, count_at, type_of, IsScalar, IsArray, IsRight, IsTyped, IsOfType, IsTypedInstr}
use Rattle.pk_graph.specs.Steps.{Numbers, number_at, Failure, failure, at_site, and_then, tree_value, is_true, indexed, all_in_type, are_any, To, Wants, Faulted, with_value, passed, effect}
use Rattle.pk_graph.specs.Stores.{Stored, storing, numbers_of, IsStore}
use Rattle.pk_graph.specs.Accesses.{OperationOf, Index, Divisor, Negation, Result as Arithmetic, Shift, Assertion}
use Rattle.pk_value.specs.Known.{any_of, exactly}
use Rattle.pk_state.specs.Layouts.{Layout, is_spread}
use Rattle.pk_state.specs.Changes.{with_known}
use Rattle.pk_state.specs.Facts.{Facts}
use Rattle.pk_graph_step.proofs.KeptLemmas.{place_in}
use Rattle.pk_transfer.specs.Trees.{IsOver}
use Rattle.pk_transfer.specs.Slots.{is_small, further_count, further_types, further_from}
use Rattle.pk_transfer.specs.Transfers.{forgotten_in, known_each, applied}
use Rattle.pk_transfer.proofs.Transferring.{value_ok, place_ok, then_place}
use Rattle.pk_verdict.specs.Verdicts.{IsTypedOperation}
use Rattle.pk_sound.specs.Verdicts.{IsEvaluatedIn, FaultsIn}

pub zero_of : (t : IntType) → InType t (pos 0)
zero_of t = let z = zero_in t in record { from = z.0; to = z.1 }

pub past_at : (ns : Numbers) (i : ℕ) → length ns ≤ i → number_at ns i ≡ pos 0
past_at [] i h = refl
past_at (n ∷ ns) zero h = absurd (omega (arith, h))
past_at (n ∷ ns) (suc i) h = past_at ns i (omega (arith, h))

-- ---- numbers

abbrev pub padded : Numbers → Numbers
padded [] = pos 0 ∷ []
padded (z ∷ zs) = z ∷ zs

abbrev pub pad : Stored → Stored
pad s = map padded s

padded_at : (zs : Numbers) (i : ℕ) → number_at (padded zs) i ≡ number_at zs i
padded_at [] zero = refl
padded_at [] (suc i) = refl
padded_at (z ∷ zs) i = refl

padded_some : (zs : Numbers) → 0 < length zs → padded zs ≡ zs
padded_some [] h = absurd (omega (arith, h))
padded_some (z ∷ zs) h = refl

pub some_padded : (zs : Numbers) → 0 < length (padded zs)
some_padded [] = omega arith
some_padded (z ∷ zs) = omega arith

padded_longer : (zs : Numbers) → length zs ≤ length (padded zs)
padded_longer [] = omega arith
padded_longer (z ∷ zs) = omega arith

-- what holds of each number, and of 0 where there is none
pub padded_each : (P : ℤ → Type 0) (zs : Numbers) (i : ℕ) → ((j : ℕ) → j < length zs → P (number_at zs j)) → (zs ≡ [] → P (pos 0)) → i < length (padded zs) → P (number_at (padded zs) i)
padded_each P [] zero f g h = g refl
padded_each P [] (suc i) f g h = absurd (omega (arith, h))
padded_each P (z ∷ zs) i f g h = f i h

-- ---- stores

pub numbers_at : (s : Stored) (x i : ℕ) → number_at (numbers_of (pad s) x) i ≡ number_at (numbers_of s x) i
numbers_at [] x i = refl
numbers_at (zs ∷ s) zero i = padded_at zs i
numbers_at (zs ∷ s) (suc x) i = numbers_at s x i

pub numbers_longer : (s : Stored) (x : ℕ) → length (numbers_of s x) ≤ length (numbers_of (pad s) x)
numbers_longer [] x = omega arith
numbers_longer (zs ∷ s) zero = padded_longer zs
numbers_longer (zs ∷ s) (suc x) = numbers_longer s x

pub numbers_padded : (s : Stored) (x : ℕ) → x < length s → numbers_of (pad s) x ≡ padded (numbers_of s x)
numbers_padded s x h = lists.get_or-map padded s x [] [] h

pad_set : (s : Stored) (x : ℕ) (zs : Numbers) → pad (slice_set s x zs) ≡ slice_set (pad s) x (padded zs)
pad_set [] x zs = refl
pad_set (y ∷ s) zero zs = refl
pad_set (y ∷ s) (suc x) zs = ap (λ (r : Stored). padded y ∷ r) (pad_set s x zs)

pub pad_same : (s : Stored) → ((x : ℕ) → x < length s → 0 < length (numbers_of s x)) → pad s ≡ s
pad_same [] h = refl
pad_same (zs ∷ s) h = ap (λ (ys : Numbers). ys ∷ pad s) (padded_some zs (h 0 (omega arith))) ∙ ap (λ (r : Stored). zs ∷ r) (pad_same s (λ x l. h (suc x) (omega (arith, l))))

pub tree_pad : (e : TreeOf ℕ) (s : Stored) → tree_value storing e (pad s) ≡ tree_value storing e s
tree_pad (constant t n) s = refl
tree_pad (variable x) s = ap (λ (z : ℤ). let r : Result ℤ Failure = Ok z in r) (numbers_at s x 0)
tree_pad (converted t e) s = ap (λ (r : Result ℤ Failure). and_then r (λ v. let q : Result ℤ Failure = Ok (wrapped t v) in q)) (tree_pad e s)
tree_pad (unary op at t e) s = ap (λ (r : Result ℤ Failure). and_then r (λ v. at_site at (value_of op t v v))) (tree_pad e s)
tree_pad (binary op at t a b) s =
    ap (λ (r : Result ℤ Failure). and_then r (λ v. and_then (tree_value storing b (pad s)) (λ w. at_site at (value_of op t v w)))) (tree_pad a s)
    ∙ ap (λ (q : Result ℤ Failure). and_then (tree_value storing a s) (λ v. and_then q (λ w. at_site at (value_of op t v w)))) (tree_pad b s)

-- ---- tables

abbrev pub length_up : Option ℕ → Option ℕ
length_up None = None
length_up (Some zero) = Some 1
length_up (Some (suc n)) = Some (suc n)

abbrev pub up : ℕ → ℕ
up zero = 1
up (suc n) = suc n

abbrev pub kind_up : Kind → Kind
kind_up k = record { int_type = k.int_type; length = length_up k.length }

abbrev pub kinds_up : Kinds → Kinds
kinds_up ks = map kind_up ks

up_is : (n : ℕ) → length_up (Some n) ≡ Some (up n)
up_is zero = refl
up_is (suc n) = refl

up_less : (n : ℕ) → up n - 1 ≡ n - 1
up_less zero = omega arith
up_less (suc n) = refl

up_some : (n : ℕ) → 0 < n → up n ≡ n
up_some zero h = absurd (omega (arith, h))
up_some (suc n) h = refl

count_up : (o : Option ℕ) → count_of (length_up o) ≡ up (count_of o)
count_up None = refl
count_up (Some zero) = refl
count_up (Some (suc n)) = refl

padded_count : (zs : Numbers) (n : ℕ) → length zs ≡ n → length (padded zs) ≡ up n
padded_count [] zero e = refl
padded_count [] (suc n) e = absurd (omega (arith, e))
padded_count (z ∷ zs) zero e = absurd (omega (arith, e))
padded_count (z ∷ zs) (suc n) e = e

pub kind_at_up : (ks : Kinds) (x : ℕ) → kind_at (kinds_up ks) x ≡ kind_up (kind_at ks x)
kind_at_up ks x = get_or-map kind_up ks x no_kind

type_at_up : (ks : Kinds) (x : ℕ) → type_at (kinds_up ks) x ≡ type_at ks x
type_at_up ks x = ap (λ (k : Kind). k.int_type) (kind_at_up ks x)

count_at_up : (ks : Kinds) (x : ℕ) → count_at (kinds_up ks) x ≡ up (count_at ks x)
count_at_up ks x = ap (λ (k : Kind). count_of k.length) (kind_at_up ks x) ∙ count_up (kind_at ks x).length

long_up : (ks : Kinds) → length (kinds_up ks) ≡ length ks
long_up ks = length-map ks kind_up

pub store_up : (ks : Kinds) (s : Stored) → IsStore ks s → IsStore (kinds_up ks) (pad s)
store_up ks s st = record {
  size = length-map s padded ∙ st.size ∙ sym (long_up ks);
  counts = λ x p.
      let h : x < length ks = omega (arith, p, long_up ks) in
      ap (λ (zs : Numbers). length zs) (numbers_padded s x (omega (arith, h, st.size))) ∙ padded_count (numbers_of s x) (count_at ks x) (st.counts x h) ∙ sym (count_at_up ks x);
  fits = λ x i p q. at x i (omega (arith, p, long_up ks)) (cases_lt i (count_at ks x));
}
  where
    at : (x i : ℕ) → x < length ks → (i < count_at ks x) ⊎ (count_at ks x ≤ i) → InType (type_at (kinds_up ks) x) (number_at (numbers_of (pad s) x) i)
    at x i h (inl l) = subst (λ (t : IntType). InType t (number_at (numbers_of (pad s) x) i)) (sym (type_at_up ks x)) (subst (InType (type_at ks x)) (sym (numbers_at s x i)) (st.fits x i h l))
    at x i h (inr g) =
        let none : number_at (numbers_of (pad s) x) i ≡ pos 0 = numbers_at s x i ∙ past_at (numbers_of s x) i (omega (arith, g, st.counts x h)) in
        subst (InType (type_at (kinds_up ks) x)) (sym none) (zero_of (type_at (kinds_up ks) x))

pub small_up : (o : Option ℕ) → is_small (length_up o) ≡ is_small o
small_up None = refl
small_up (Some zero) = refl
small_up (Some (suc n)) = refl

pub further_up : (o : Option ℕ) → further_count (length_up o) ≡ further_count o
further_up None = refl
further_up (Some zero) = refl
further_up (Some (suc n)) = refl

own_types_up : (ks : Kinds) → map (λ (k : Kind). k.int_type) (kinds_up ks) ≡ map (λ (k : Kind). k.int_type) ks
own_types_up [] = refl
own_types_up (k ∷ ks) = ap (λ ts. k.int_type ∷ ts) (own_types_up ks)

further_types_up : (ks : Kinds) → flat_map further_types (kinds_up ks) ≡ flat_map further_types ks
further_types_up [] = refl
further_types_up (k ∷ ks) =
    ap (λ n. replicate n k.int_type ++ flat_map further_types (kinds_up ks)) (further_up k.length) ∙ ap (λ ts. further_types k ++ ts) (further_types_up ks)

further_from_up : (ks : Kinds) (at : ℕ) → further_from at (kinds_up ks) ≡ further_from at ks
further_from_up [] at = refl
further_from_up (k ∷ ks) at =
    ap (λ b. (if b then Some at else None) ∷ further_from (at + further_count (length_up k.length)) (kinds_up ks)) (small_up k.length)
    ∙ ap (λ n. (if is_small k.length then Some at else None) ∷ further_from (at + n) (kinds_up ks)) (further_up k.length)
    ∙ ap (λ ns. (if is_small k.length then Some at else None) ∷ ns) (further_from_up ks (at + further_count k.length))

scalar_up : (ks : Kinds) (x : ℕ) → IsScalar ks x → IsScalar (kinds_up ks) x
scalar_up ks x h = record { there = omega (arith, h.there, long_up ks); scalar = ap (λ (k : Kind). k.length) (kind_at_up ks x) ∙ ap length_up h.scalar }

pub over_up : (ks : Kinds) (l : Layout) → IsOver ks l → IsOver (kinds_up ks) l
over_up ks l o = record {
  types =
      o.types ∙ sym (ap (λ ts. ts ++ flat_map further_types (kinds_up ks)) (own_types_up ks) ∙ ap (λ ts. map (λ (k : Kind). k.int_type) ks ++ ts) (further_types_up ks));
  further = o.further ∙ sym (ap (λ n. further_from n (kinds_up ks)) (long_up ks) ∙ further_from_up ks (length ks));
  scalars = λ x i. scalar_up ks x (o.scalars x i);
}

-- ---- what is typed

typed_both : (ks : Kinds) (e : TreeOf ℕ) → IsTyped ks e → IsTyped (kinds_up ks) e × (type_of (kinds_up ks) e ≡ type_of ks e)
typed_both ks (constant t n) h = (h, refl)
typed_both ks (variable x) h = (scalar_up ks x h, type_at_up ks x)
typed_both ks (converted t e) h = ((typed_both ks e h).0, refl)
typed_both ks (unary op p t e) h = let r = typed_both ks e h.1 in ((h.0, r.0, subst (Represents t) (sym r.1) h.2), refl)
typed_both ks (binary op p t a b) h =
    let r = typed_both ks a h.0 in
    let q = typed_both ks b h.1 in
    ((r.0, q.0, subst (Represents t) (sym r.1) h.2, subst (IsRight op t) (sym q.1) h.3), refl)

typed_up : (ks : Kinds) (e : TreeOf ℕ) → IsTyped ks e → IsTyped (kinds_up ks) e
typed_up ks e h = (typed_both ks e h).0

of_type_up : (ks : Kinds) (t : IntType) (e : TreeOf ℕ) → IsOfType ks t e → IsOfType (kinds_up ks) t e
of_type_up ks t e h = let r = typed_both ks e h.typed in record { typed = r.0; fits = subst (Represents t) (sym r.1) h.fits }

right_up : (ks : Kinds) (t : IntType) (e : TreeOf ℕ) (P : IntType → Type 0) → IsTyped ks e → P (type_of ks e) → P (type_of (kinds_up ks) e)
right_up ks t e P h p = subst P (sym (typed_both ks e h).1) p

pub operation_up : (ks : Kinds) (o : OperationOf) → IsTypedOperation ks o → IsTypedOperation (kinds_up ks) o
operation_up ks (Index n i) h = typed_up ks i h
operation_up ks (Divisor a b) h = (typed_up ks a h.0, typed_up ks b h.1)
operation_up ks (Negation t e) h = of_type_up ks t e h
operation_up ks (Arithmetic op t a b) h = (of_type_up ks t a h.0, typed_up ks b h.1, right_up ks t b (IsRight op t) h.1 h.2)
operation_up ks (Shift op t a b) h = (of_type_up ks t a h.0, typed_up ks b h.1, right_up ks t b (IsRight op t) h.1 h.2)
operation_up ks (Assertion e) h = typed_up ks e h

pub faults_pad : (o : OperationOf) (s : Stored) → FaultsIn o s → FaultsIn o (pad s)
faults_pad (Index n i) s h = (h.0, tree_pad i s ∙ h.1, h.2)
faults_pad (Divisor a b) s h = (h.0, h.1, tree_pad a s ∙ h.2, tree_pad b s ∙ h.3, h.4)
faults_pad (Negation t e) s h = (h.0, tree_pad e s ∙ h.1, h.2)
faults_pad (Arithmetic op t a b) s h = (h.0, h.1, tree_pad a s ∙ h.2, tree_pad b s ∙ h.3, h.4)
faults_pad (Shift op t a b) s h = (h.0, h.1, tree_pad a s ∙ h.2, tree_pad b s ∙ h.3, h.4)
faults_pad (Assertion e) s h = (h.0, tree_pad e s ∙ h.1, h.2)

pub evaluated_pad : (o : OperationOf) (s : Stored) → IsEvaluatedIn o s → IsEvaluatedIn o (pad s)
evaluated_pad (Index n i) s h = (h.0, tree_pad i s ∙ h.1)
evaluated_pad (Divisor a b) s h = (h.0, h.1, tree_pad a s ∙ h.2, tree_pad b s ∙ h.3)
evaluated_pad (Negation t e) s h = (h.0, tree_pad e s ∙ h.1)
evaluated_pad (Arithmetic op t a b) s h = (h.0, h.1, tree_pad a s ∙ h.2, tree_pad b s ∙ h.3)
evaluated_pad (Shift op t a b) s h = (h.0, h.1, tree_pad a s ∙ h.2, tree_pad b s ∙ h.3)
evaluated_pad (Assertion e) s h = (h.0, tree_pad e s ∙ h.1)

-- ---- steps

-- an instruction that does the same where arrays have an element, and of which the same is known
pub record IsPadded (ks : Kinds) (i : InstrOf ℕ) (s t : Stored) : Type 0 where
  pub instr : InstrOf ℕ
  pub chosen : Numbers
  pub typed : IsTypedInstr (kinds_up ks) instr
  pub goes : effect storing chosen instr (pad s) ≡ To (pad t)
  pub same : (y : Layout) (f : Option Facts) → applied y f instr ≡ applied y f i

to_is : (s t : Stored) → To s ≡ To t → s ≡ t
to_is s t e = cc

-- a write, in a padded store
pad_write : (s t : Stored) (x : ℕ) (zs ws : Numbers) → padded zs ≡ ws → To (slice_set s x zs) ≡ To t → To (slice_set (pad s) x ws) ≡ To (pad t)
pad_write s t x zs ws is e =
    ap (λ (ys : Numbers). To (slice_set (pad s) x ys)) (sym is) ∙ ap (λ (u : Stored). To u) (sym (pad_set s x zs)) ∙ ap (λ (u : Stored). To (pad u)) (to_is (slice_set s x zs) t e)

same_count : (n m : ℕ) → nat_eq n m ≡ true → n ≡ m
same_count n m h = grind (arith, nat_tests)

count_same : (n m : ℕ) → n ≡ m → nat_eq n m ≡ true
count_same n m h = grind (arith, nat_tests)

any_padded : (t : IntType) (n : ℕ) (zs : Numbers) → are_any t n zs ≡ true → are_any t (up n) (padded zs) ≡ true
any_padded t n [] h =
    let none : 0 ≡ n = same_count 0 n (both_true (nat_eq 0 n) true h).0 in
    let test : is_in_type t (pos 0) ≡ true = values.in_type_test t (pos 0) (zero_of t) in
    subst (λ (m : ℕ). are_any t (up m) (pos 0 ∷ []) ≡ true) none (rw test refl)
any_padded t zero (z ∷ zs) h = absurd (let long = same_count (length (z ∷ zs)) 0 (both_true (nat_eq (length (z ∷ zs)) 0) (all_in_type t (z ∷ zs)) h).0 in omega (arith, long))
any_padded t (suc n) (z ∷ zs) h = h

zeros_padded : (n : ℕ) → padded (replicate n (pos 0)) ≡ replicate (up n) (pos 0)
zeros_padded zero = refl
zeros_padded (suc n) = refl

-- an array that has an element, and one that may have none
array_up : (ks : Kinds) (a : ArrayOf ℕ) → IsArray ks a → IsArray (kinds_up ks) (record { variable = a.variable; length = up a.length })
array_up ks a h = record { there = omega (arith, h.there, long_up ks); array = ap (λ (k : Kind). k.length) (kind_at_up ks a.variable) ∙ ap length_up h.array ∙ up_is a.length }

array_some : (ks : Kinds) (a : ArrayOf ℕ) → IsArray ks a → 0 < a.length → IsArray (kinds_up ks) a
array_some ks a h some = subst (λ (n : ℕ). IsArray (kinds_up ks) (record { variable = a.variable; length = n })) (up_some a.length some) (array_up ks a h)

test_pad : (b c : Bool) (s t : Stored) → passed b c s ≡ To t → passed b c (pad s) ≡ To (pad t)
test_pad true true s t e = ap (λ (u : Stored). To (pad u)) (to_is s t e)
test_pad true false s t e = absurd (cc)
test_pad false true s t e = absurd (cc)
test_pad false false s t e = ap (λ (u : Stored). To (pad u)) (to_is s t e)

pub step_pad : (ks : Kinds) (i : InstrOf ℕ) (chosen : Numbers) (s t : Stored) → IsTypedInstr ks i → IsStore ks s → effect storing chosen i s ≡ To t → IsPadded ks i s t
step_pad ks Skip chosen s t h st e = record { instr = Skip; chosen = chosen; typed = tt; goes = ap (λ (u : Stored). To (pad u)) (to_is s t e); same = λ y f. refl }
step_pad ks (Set x d) chosen s t h st e =
    let v = value_ok (tree_value storing d s) (λ v. To (slice_set s x (v ∷ []))) t e in
    record {
      instr = Set x d;
      chosen = chosen;
      typed = (scalar_up ks x h.0, subst (λ (u : IntType). IsOfType (kinds_up ks) u d) (sym (type_at_up ks x)) (of_type_up ks (type_at ks x) d h.1));
      goes = ap (λ (r : Result ℤ Failure). with_value r (λ v. To (slice_set (pad s) x (v ∷ [])))) (tree_pad d s ∙ v.1) ∙ pad_write s t x (v.0 ∷ []) (v.0 ∷ []) refl v.2;
      same = λ y f. refl;
    }
step_pad ks (Havoc x u n) chosen s t h st e = by (are_any u n chosen) refl e
  where
    by : (b : Bool) → are_any u n chosen ≡ b → (if b then To (slice_set s x chosen) else Wants u n) ≡ To t → IsPadded ks (Havoc x u n) s t
    by true f g = record {
      instr = Havoc x u (up n);
      chosen = padded chosen;
      typed = (omega (arith, h.0, long_up ks), type_at_up ks x ∙ h.1, count_at_up ks x ∙ ap up h.2);
      goes = ap (λ (b : Bool). if b then To (slice_set (pad s) x (padded chosen)) else Wants u (up n)) (any_padded u n chosen f) ∙ pad_write s t x chosen (padded chosen) refl g;
      same = λ y k. ap (λ (m : ℕ). if is_spread y x then known_each y k x (any_of u) m else forgotten_in y k x (Some (any_of u))) (up_less n);
    }
    by false f g = absurd (cc)
step_pad ks (Clear a) chosen s t h st e = record {
  instr = Clear (record { variable = a.variable; length = up a.length });
  chosen = chosen;
  typed = array_up ks a h;
  goes = pad_write s t a.variable (replicate a.length (pos 0)) (replicate (up a.length) (pos 0)) (zeros_padded a.length) e;
  same = λ y f. ap (λ (m : ℕ). if is_spread y a.variable then known_each y f a.variable (exactly (pos 0)) m else with_known f a.variable (exactly (pos 0))) (up_less a.length);
}
step_pad ks (Load x a at b i) chosen s t h st e =
    let k = place_ok (and_then (tree_value storing i s) (indexed at a.length)) (λ k. To (slice_set s x (number_at (numbers_of s a.variable) k ∷ []))) t e in
    let z = then_place (tree_value storing i s) (indexed at a.length) k.0 k.1 in
    let inside : k.0 < a.length = place_in at a.length z.0 k.0 z.2 in
    record {
      instr = Load x a at b i;
      chosen = chosen;
      typed = (scalar_up ks x h.0, array_some ks a h.1 (omega (arith, inside)), type_at_up ks x ∙ h.2 ∙ sym (type_at_up ks a.variable), typed_up ks i h.3);
      goes =
          ap (λ (r : Result ℤ Failure). with_value (and_then r (indexed at a.length)) (λ j. To (slice_set (pad s) x (number_at (numbers_of (pad s) a.variable) j ∷ [])))) (tree_pad i s)
          ∙ ap (λ (r : Result ℕ Failure). with_value r (λ j. To (slice_set (pad s) x (number_at (numbers_of (pad s) a.variable) j ∷ [])))) k.1
          ∙ ap (λ (v : ℤ). To (slice_set (pad s) x (v ∷ []))) (numbers_at s a.variable k.0)
          ∙ pad_write s t x (number_at (numbers_of s a.variable) k.0 ∷ []) (number_at (numbers_of s a.variable) k.0 ∷ []) refl k.2;
      same = λ y f. refl;
    }
step_pad ks (Store a at b i d) chosen s t h st e =
    let zs = numbers_of s a.variable in
    let z = value_ok (tree_value storing i s) (λ z. with_value (tree_value storing d s) (λ v. with_value (indexed at a.length z) (λ k. To (slice_set s a.variable (slice_set (numbers_of s a.variable) k v))))) t e in
    let v = value_ok (tree_value storing d s) (λ v. with_value (indexed at a.length z.0) (λ k. To (slice_set s a.variable (slice_set (numbers_of s a.variable) k v)))) t z.2 in
    let k = place_ok (indexed at a.length z.0) (λ k. To (slice_set s a.variable (slice_set (numbers_of s a.variable) k v.0))) t v.2 in
    let inside : k.0 < a.length = place_in at a.length z.0 k.0 k.1 in
    let long : length (numbers_of s a.variable) ≡ a.length = st.counts a.variable h.0.there ∙ ap count_of h.0.array in
    let old : numbers_of (pad s) a.variable ≡ numbers_of s a.variable = numbers_padded s a.variable (omega (arith, h.0.there, st.size)) ∙ padded_some (numbers_of s a.variable) (omega (arith, inside, long)) in
    let new : padded (slice_set (numbers_of s a.variable) k.0 v.0) ≡ slice_set (numbers_of s a.variable) k.0 v.0 = padded_some (slice_set (numbers_of s a.variable) k.0 v.0) (omega (arith, inside, long, length-set (numbers_of s a.variable) k.0 v.0)) in
    record {
      instr = Store a at b i d;
      chosen = chosen;
      typed = (array_some ks a h.0 (omega (arith, inside)), typed_up ks i h.1, subst (λ (u : IntType). IsOfType (kinds_up ks) u d) (sym (type_at_up ks a.variable)) (of_type_up ks (type_at ks a.variable) d h.2));
      goes =
          ap (λ (r : Result ℤ Failure). with_value r (λ z. with_value (tree_value storing d (pad s)) (λ v. with_value (indexed at a.length z) (λ k. To (slice_set (pad s) a.variable (slice_set (numbers_of (pad s) a.variable) k v)))))) (tree_pad i s ∙ z.1)
          ∙ ap (λ (r : Result ℤ Failure). with_value r (λ v. with_value (indexed at a.length z.0) (λ k. To (slice_set (pad s) a.variable (slice_set (numbers_of (pad s) a.variable) k v))))) (tree_pad d s ∙ v.1)
          ∙ ap (λ (r : Result ℕ Failure). with_value r (λ k. To (slice_set (pad s) a.variable (slice_set (numbers_of (pad s) a.variable) k v.0)))) k.1
          ∙ ap (λ (ys : Numbers). To (slice_set (pad s) a.variable (slice_set ys k.0 v.0))) old
          ∙ pad_write s t a.variable (slice_set (numbers_of s a.variable) k.0 v.0) (slice_set (numbers_of s a.variable) k.0 v.0) new k.2;
      same = λ y f. refl;
    }
step_pad ks (Guard d b) chosen s t h st e =
    let v = value_ok (tree_value storing d s) (λ v. passed (is_true v) b s) t e in
    record {
      instr = Guard d b;
      chosen = chosen;
      typed = typed_up ks d h;
      goes = ap (λ (r : Result ℤ Failure). with_value r (λ v. passed (is_true v) b (pad s))) (tree_pad d s ∙ v.1) ∙ test_pad (is_true v.0) b s t v.2;
      same = λ y f. refl;
    }
step_pad ks (Check at d) chosen s t h st e =
    let v = value_ok (tree_value storing d s) (λ v. if is_true v then To s else Faulted (failure faults.Assert at)) t e in
    record {
      instr = Check at d;
      chosen = chosen;
      typed = typed_up ks d h;
      goes = ap (λ (r : Result ℤ Failure). with_value r (λ v. if is_true v then To (pad s) else Faulted (failure faults.Assert at))) (tree_pad d s ∙ v.1) ∙ checked (is_true v.0) v.2;
      same = λ y f. refl;
    }
  where
    checked : (b : Bool) → (if b then To s else Faulted (failure faults.Assert at)) ≡ To t → (if b then To (pad s) else Faulted (failure faults.Assert at)) ≡ To (pad t)
    checked true f = ap (λ (u : Stored). To (pad u)) (to_is s t f)
    checked false f = absurd (cc)
