-- What the objects hold when a run begins.
use Rattle.std.proofs.Common.{◌≡◌, ℕ, zero, suc, ◌+◌, ◌-◌, ◌<◌, ◌≤◌, List, [], ◌∷◌, ◌++◌, length, map, Bool, true, false, ◌&&◌, if◌then◌else◌, Option, Some, None, refl, sym, ap, subst, ◌∙◌, arith, ℤ, pos, replicate, slice_index_or, length-append}
use Rattle.std.proofs.lemmas.Option.{none-some, get_or_from_slice_get}
use Rattle.std.specs.Prelude.{All, slice_get, option_map, unwrap_or}
use Rattle.pk_ctypes.specs.declared.types.IntType.{IntType}
use Rattle.pk_ctypes.specs.Types.{InType, is_in_type}
use Rattle.pk_ctypes.proofs.Values.{in_type_test}
use Rattle.pk_ctypes.proofs.Wrapped.{zero_in}
use Rattle.pk_typed.specs.Trees.{LocalTree, FileObjectTree, StartTree, scalar_start, array_start, UnitTree}
use Rattle.pk_calls.specs.declared.listings.CallPath.{CallPath}
use Rattle.pk_calls.specs.Calls.{body_of}
use Rattle.pk_calls.specs.Paths.{entry_path}
use Rattle.pk_graph.specs.Kinds.{count_of, Kind, scalar_kind}
use Rattle.pk_graph.specs.Steps.{Numbers, all_in_type}
use Rattle.pk_welltyped.specs.WellTyped.{kind_among, IsStart, IsUnit}
use Rattle.pk_meaning.specs.Objects.{Object, file, local, result, Objects, numbers_of, with_numbers}
use Rattle.pk_meaning.specs.Programs.{Program, block_of, start_of, zeros_of, first_objects}
use Rattle.pk_meaning.specs.Runs.{with_arguments}
use Rattle.pk_visits.proofs.Stands.{HasKind, FitsObjects}
use Rattle.pk_visits.proofs.Stores.{same_object, other_object}
use Rattle.pk_visits.proofs.Follow.{kind_is}
use Rattle.pk_visits_laws.proofs.Followed.Basics.{some_at, all_get}
use Rattle.pk_typed.specs.Defaults.{no_body, length_of_start}

-- ---- arguments of the entry

-- what the objects hold with so many arguments from number i on
pub record Given (i : ℕ) (ts : List IntType) (s o : Objects) : Type 0 where
  pub files : (j : ℕ) → numbers_of (file j) o ≡ numbers_of (file j) s
  pub results : (k : ℕ) → numbers_of (result k) o ≡ numbers_of (result k) s
  pub others : (k j : ℕ) → (k ≡ 0 → i ≤ j → j < i + length ts → ⊥) → numbers_of (local k j) o ≡ numbers_of (local k j) s
  pub given : (j : ℕ) (t : IntType) → slice_get ts j ≡ Some t → 0 < length (numbers_of (local 0 (i + j)) s) → (z : ℤ) × (numbers_of (local 0 (i + j)) o ≡ z ∷ []) × (is_in_type t z ≡ true)

pub local_number : (k m i j : ℕ) → local k i ≡ local m j → (k ≡ m) × (i ≡ j)
local_number k m i j e = (ap path e, ap number e) where
  path : Object → ℕ
  path (file n) = 0
  path (local n x) = n
  path (result n) = 0

  number : Object → ℕ
  number (file n) = 0
  number (local n x) = x
  number (result n) = 0

pub arguments_given : (i : ℕ) (ts : List IntType) (zs : Numbers) (s o : Objects) → with_arguments i ts zs s ≡ Some o → Given i ts s o
arguments_given i [] [] s o e =
    let is : s ≡ o = ap (λ (q : Option Objects). unwrap_or q s) e in
    record {
      files = λ j. ap (numbers_of (file j)) (sym is);
      results = λ k. ap (numbers_of (result k)) (sym is);
      others = λ k j h. ap (numbers_of (local k j)) (sym is);
      given = λ j t h l. absurd (none-some t h);
    }
arguments_given i [] (z ∷ zs) s o e = absurd (none-some o e)
arguments_given i (t ∷ ts) [] s o e = absurd (none-some o e)
arguments_given i (t ∷ ts) (z ∷ zs) s o e = by (is_in_type t z) refl e (λ h. arguments_given (i + 1) ts zs (with_numbers (local 0 i) (z ∷ []) s) o h) where
  r : Objects
  r = with_numbers (local 0 i) (z ∷ []) s

  by : (b : Bool) → is_in_type t z ≡ b → (if b then with_arguments (i + 1) ts zs (with_numbers (local 0 i) (z ∷ []) s) else None) ≡ Some o → (with_arguments (i + 1) ts zs (with_numbers (local 0 i) (z ∷ []) s) ≡ Some o → Given (i + 1) ts (with_numbers (local 0 i) (z ∷ []) s) o)
      → Given i (t ∷ ts) s o
  by false is e f = absurd (none-some o e)
  by true is e f =
      let g = f e in
      record {
        files = λ j. g.files j;
        results = λ k. g.results k;
        others = λ k j h. g.others k j (λ a b c. h a (omega (b, arith)) (omega (c, arith))) ∙ other_object (local 0 i) (local k j) (z ∷ []) s (λ q. let n = local_number 0 k i j q in let x = n.0 in let y = n.1 in h (omega (x, arith)) (omega (y, arith)) (omega (y, arith)));
        given = λ j u h l. each j u h l g;
      } where
        each : (j : ℕ) (u : IntType) → slice_get (t ∷ ts) j ≡ Some u → 0 < length (numbers_of (local 0 (i + j)) s) → Given (i + 1) ts (with_numbers (local 0 i) (z ∷ []) s) o → (x : ℤ) × (numbers_of (local 0 (i + j)) o ≡ x ∷ []) × (is_in_type u x ≡ true)
        each zero u h l g =
            let at : i + zero ≡ i = omega arith in
            let there : 0 < length (numbers_of (local 0 i) s) = subst (λ (n : ℕ). 0 < length (numbers_of (local 0 n) s)) at l in
            (z, ap (λ (n : ℕ). numbers_of (local 0 n) o) at ∙ (g.others 0 i (λ a b c. absurd (omega (b, arith))) ∙ same_object (local 0 i) (z ∷ []) s there), ap (λ (q : Option IntType). is_in_type (unwrap_or q t) z) (sym h) ∙ is)
        each (suc j) u h l g =
            let at : i + suc j ≡ i + 1 + j = omega arith in
            let same = other_object (local 0 i) (local 0 (i + suc j)) (z ∷ []) s (λ q. let n = local_number 0 0 i (i + suc j) q in let y = n.1 in absurd (omega (y, arith))) in
            let there : 0 < length (numbers_of (local 0 (i + 1 + j)) (with_numbers (local 0 i) (z ∷ []) s)) = subst (λ (n : ℕ). 0 < length (numbers_of (local 0 n) (with_numbers (local 0 i) (z ∷ []) s))) at (subst (λ (ys : Numbers). 0 < length ys) (sym same) l) in
            let r = g.given j u h there in
            (r.0, ap (λ (n : ℕ). numbers_of (local 0 n) o) at ∙ r.1, r.2)

-- ---- before the first step

replicated : {A : Type 0} (n : ℕ) (x : A) → length (replicate n x) ≡ n
replicated zero x = refl
replicated (suc n) x = ap suc (replicated n x)

zeros_in : (t : IntType) (n : ℕ) → all_in_type t (replicate n (pos 0)) ≡ true
zeros_in t zero = refl
zeros_in t (suc n) = let z = zero_in t in ap (λ (b : Bool). b && all_in_type t (replicate n (pos 0))) (in_type_test t (pos 0) (record { from = z.0; to = z.1 })) ∙ zeros_in t n

numbers_in : (t : IntType) (zs ys : Numbers) → All (InType t) zs → all_in_type t ys ≡ true → all_in_type t (zs ++ ys) ≡ true
numbers_in t [] ys h k = k
numbers_in t (z ∷ zs) ys h k = ap (λ (b : Bool). b && all_in_type t (zs ++ ys)) (in_type_test t z (h 0 z (omega arith))) ∙ numbers_in t zs ys (λ i d l. h (suc i) d (omega (l, arith))) k

start_fits : (t : IntType) (s : StartTree) → IsStart t s → (length (start_of s) ≡ count_of (length_of_start s)) × (all_in_type t (start_of s) ≡ true)
start_fits t (scalar_start z) h = (refl, ap (λ (b : Bool). b && true) (in_type_test t z h))
start_fits t (array_start n zs) h =
    let k = h.0 in
    let a = length-append zs (replicate (n - length zs) (pos 0)) in
    let b = replicated (n - length zs) (pos 0) in
    (omega (k, a, b, arith), numbers_in t zs (replicate (n - length zs) (pos 0)) h.1 (zeros_in t (n - length zs)))

mapped : {A B : Type 0} (f : A → B) (xs : List A) (i : ℕ) (d : B) (x : A) → slice_get xs i ≡ Some x → slice_index_or (map f xs) i d ≡ f x
mapped f [] i d x e = absurd (none-some x e)
mapped {A = A} f (y ∷ xs) zero d x e = ap (λ (o : Option A). f (unwrap_or o x)) e
mapped f (y ∷ xs) (suc i) d x e = mapped f xs i d x e

-- ---- the first objects fit

abbrev first_locals : UnitTree → CallPath → List LocalTree
first_locals u q = (unwrap_or (body_of u q.function) no_body).locals

block_at : (u : UnitTree) (paths : List CallPath) (k : ℕ) (q : CallPath) → slice_get paths k ≡ Some q → (block_of (record { unit = u; paths = paths }) k).locals ≡ first_locals u q
block_at u paths k q e = ap (λ (r : CallPath). first_locals u r) (get_or_from_slice_get paths k q (entry_path 0) e)

first_local : (u : UnitTree) (paths : List CallPath) (k i : ℕ) (q : CallPath) (y : LocalTree) → slice_get paths k ≡ Some q → slice_get (first_locals u q) i ≡ Some y → numbers_of (local k i) (first_objects (record { unit = u; paths = paths })) ≡ zeros_of y
first_local u paths k i q y e h = ap (λ (rows : List Numbers). slice_index_or rows i []) (mapped (λ (r : CallPath). map zeros_of (first_locals u r)) paths k [] q e) ∙ mapped zeros_of (first_locals u q) i [] y h

pub first_file : (u : UnitTree) (paths : List CallPath) (i : ℕ) (x : FileObjectTree) → slice_get u.objects i ≡ Some x → numbers_of (file i) (first_objects (record { unit = u; paths = paths })) ≡ start_of x.start
first_file u paths i x e = mapped (λ (y : FileObjectTree). start_of y.start) u.objects i [] x e

pub first_result : (u : UnitTree) (paths : List CallPath) (k : ℕ) → k < length paths → numbers_of (result k) (first_objects (record { unit = u; paths = paths })) ≡ pos 0 ∷ []
first_result u paths k h = let q = some_at paths k h in mapped (λ (r : CallPath). pos 0 ∷ []) paths k [] q.0 q.1

-- a local object holds as many zeros as it has elements
pub first_zeros : (u : UnitTree) (paths : List CallPath) (k i : ℕ) (n : Kind) → HasKind (record { unit = u; paths = paths }) (local k i) n → numbers_of (local k i) (first_objects (record { unit = u; paths = paths })) ≡ replicate (count_of n.length) (pos 0)
first_zeros u paths k i n h = by (slice_get (first_locals u q.0) i) refl where
  q : (r : CallPath) × (slice_get paths k ≡ Some r)
  q = some_at paths k h.0

  kind : option_map (λ (x : LocalTree). record { int_type = x.int_type; length = x.length }) (slice_get (first_locals u q.0) i) ≡ Some n
  kind = ap (λ (xs : List LocalTree). kind_among xs i) (sym (block_at u paths k q.0 q.1)) ∙ h.1

  by : (o : Option LocalTree) → slice_get (first_locals u q.0) i ≡ o → numbers_of (local k i) (first_objects (record { unit = u; paths = paths })) ≡ replicate (count_of n.length) (pos 0)
  by None e = absurd (none-some n (sym (ap (option_map (λ (x : LocalTree). record { int_type = x.int_type; length = x.length })) e) ∙ kind))
  by (Some y) e =
      let is : Some (record { int_type = y.int_type; length = y.length }) ≡ Some n = sym (ap (option_map (λ (x : LocalTree). record { int_type = x.int_type; length = x.length })) e) ∙ kind in
      first_local u paths k i q.0 y q.1 e ∙ ap (λ (m : Option Kind). replicate (count_of (unwrap_or m n).length) (pos 0)) is

pub first_fits : (u : UnitTree) (paths : List CallPath) → IsUnit u → FitsObjects (record { unit = u; paths = paths }) (first_objects (record { unit = u; paths = paths }))
first_fits u paths unit (file i) n h = by (slice_get u.objects i) refl where
  by : (o : Option FileObjectTree) → slice_get u.objects i ≡ o → (length (numbers_of (file i) (first_objects (record { unit = u; paths = paths }))) ≡ count_of n.length) × (all_in_type n.int_type (numbers_of (file i) (first_objects (record { unit = u; paths = paths }))) ≡ true)
  by None e = absurd (none-some n (sym (ap (option_map (λ (x : FileObjectTree). record { int_type = x.int_type; length = length_of_start x.start })) e) ∙ h))
  by (Some x) e =
      let is : Some (record { int_type = x.int_type; length = length_of_start x.start }) ≡ Some n = sym (ap (option_map (λ (y : FileObjectTree). record { int_type = y.int_type; length = length_of_start y.start })) e) ∙ h in
      let f = start_fits x.int_type x.start (all_get (λ (y : FileObjectTree). IsStart y.int_type y.start) u.objects i x unit.objects e) in
      let same = first_file u paths i x e in (
        ap length same ∙ (f.0 ∙ ap (λ (m : Option Kind). count_of (unwrap_or m n).length) is),
        ap (λ (zs : Numbers). all_in_type n.int_type zs) same ∙ (ap (λ (m : Option Kind). all_in_type (unwrap_or m n).int_type (start_of x.start)) (sym is) ∙ f.1),
      )
first_fits u paths unit (local k i) n h =
    let same = first_zeros u paths k i n h in
    (ap length same ∙ replicated (count_of n.length) (pos 0), ap (all_in_type n.int_type) same ∙ zeros_in n.int_type (count_of n.length))
first_fits u paths unit (result k) n h =
    let same = first_result u paths k h.0 in
    let t = h.1 in (
      ap length same ∙ ap (λ (m : Kind). count_of m.length) (sym h.3),
      ap (all_in_type n.int_type) same ∙ zeros_in n.int_type 1,
    )

-- and so do the objects with the arguments
pub given_fits : (p : Program) (ts : List IntType) (s o : Objects) → Given 0 ts s o → ((j : ℕ) (t : IntType) → slice_get ts j ≡ Some t → HasKind p (local 0 j) (scalar_kind t)) → FitsObjects p s → FitsObjects p o
given_fits p ts s o g k f (file i) n h = subst (λ (zs : Numbers). (length zs ≡ count_of n.length) × (all_in_type n.int_type zs ≡ true)) (sym (g.files i)) (f (file i) n h)
given_fits p ts s o g k f (result m) n h = subst (λ (zs : Numbers). (length zs ≡ count_of n.length) × (all_in_type n.int_type zs ≡ true)) (sym (g.results m)) (f (result m) n h)
given_fits p ts s o g k f (local m i) n h = by m refl (slice_get ts i) refl where
  other : (m ≡ 0 → i < length ts → ⊥) → (length (numbers_of (local m i) o) ≡ count_of n.length) × (all_in_type n.int_type (numbers_of (local m i) o) ≡ true)
  other never = subst (λ (zs : Numbers). (length zs ≡ count_of n.length) × (all_in_type n.int_type zs ≡ true)) (sym (g.others m i (λ a b c. never a (omega (c, arith))))) (f (local m i) n h)

  by : (c : ℕ) → m ≡ c → (q : Option IntType) → slice_get ts i ≡ q → (length (numbers_of (local m i) o) ≡ count_of n.length) × (all_in_type n.int_type (numbers_of (local m i) o) ≡ true)
  by (suc c) e q is = other (λ a b. absurd (omega (e, a, arith)))
  by zero e None is = other (λ a b. let r = some_at ts i b in absurd (none-some r.0 (sym is ∙ r.1)))
  by zero e (Some t) is =
      let at : 0 + i ≡ i = omega arith in
      let h0 : HasKind p (local 0 i) n = subst (λ (x : ℕ). HasKind p (local x i) n) e h in
      let kind : scalar_kind t ≡ n = kind_is p (local 0 i) (scalar_kind t) n (k i t is) h0 in
      let size = (f (local 0 i) (scalar_kind t) (k i t is)).0 in
      let there : 0 < length (numbers_of (local 0 (0 + i)) s) = subst (λ (x : ℕ). 0 < length (numbers_of (local 0 x) s)) (sym at) (omega (size, arith)) in
      let z = g.given i t is there in
      let same : numbers_of (local m i) o ≡ z.0 ∷ [] = ap (λ (x : ℕ). numbers_of (local x i) o) e ∙ (ap (λ (x : ℕ). numbers_of (local 0 x) o) (sym at) ∙ z.1) in
      subst (λ (zs : Numbers). (length zs ≡ count_of n.length) × (all_in_type n.int_type zs ≡ true)) (sym same)
      (subst (λ (x : Kind). (1 ≡ count_of x.length) × (all_in_type x.int_type (z.0 ∷ []) ≡ true)) kind (refl, ap (λ (b : Bool). b && true) z.2))
