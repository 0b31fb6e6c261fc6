-- The number of each slot: no two of a unit's slots have the same.
use Rattle.std.proofs.Common.{◌≡◌, ℕ, zero, suc, ◌+◌, ◌<◌, ◌⊎◌, inl, inr, List, [], ◌∷◌, ◌++◌, length, map, Option, Some, refl, sym, ap, subst, ◌∙◌, arith}
use Rattle.std.proofs.lemmas.Option.{none-some}
use Rattle.std.specs.Prelude.{slice_get, replicate, unwrap_or}
use Rattle.pk_typed.specs.Trees.{BodyTree, FunctionTree, FileObjectTree, UnitTree}
use Rattle.pk_calls.specs.declared.listings.CallPath.{CallPath}
use Rattle.pk_graph.specs.Graphs.{VariableOf, no_variable}
use Rattle.pk_lower.specs.Parts.{function_at, body_at, whole_size, sizes_of, file_variable}
use Rattle.pk_welltyped.specs.Listed.{objects_in_items}
use Rattle.pk_meaning.specs.Objects.{file, local, result}
use Rattle.pk_lower_laws.proofs.Drafts.Places.{variable_in}
use Rattle.pk_lower_laws.proofs.Drafts.Parts.{ends}
use Rattle.pk_lower_laws.proofs.Drafts.Plans.{its_function, body_at_is}
use Rattle.pk_lower_laws.proofs.Drafts.Drafts.{function_from}
use Rattle.pk_lower_laws.proofs.Drafts.Each.{PartOf, numbers_rise, result_is_apart}
use Rattle.pk_visits.proofs.Slots.{Slot, own, temporary}
use Rattle.pk_visits.proofs.Numbered.Stores.{Naming, IsNaming}
use Rattle.pk_visits_laws.proofs.Followed.Pairs.{whole, final, ends_of, IsLocal, IsResult, IsTemporary, AreOne, world, function_at_path, AreTyped}

abbrev pub naming : UnitTree → List CallPath → Naming
naming u paths (own (file i)) = i
naming u paths (own (local k i)) = (ends_of u paths k).numbers i
naming u paths (own (result k)) = (ends_of u paths k).result
naming u paths (temporary y) = y

-- the slots of the unit's draft
abbrev pub Made : UnitTree → List CallPath → Slot → Type 0
Made u paths s = (naming u paths s < length (whole u paths).made) × AreOne u paths s (naming u paths s)

-- a slot's pair has its number
pub one_number : (u : UnitTree) (paths : List CallPath) (s : Slot) (x : ℕ) → AreOne u paths s x → x ≡ naming u paths s
one_number u paths (own (file i)) x h = h.0
one_number u paths (own (local k i)) x h = h.number
one_number u paths (own (result k)) x h = h.number
one_number u paths (temporary y) x h = h.number

-- ---- what the slots are in the end

-- the path of a variable that is such in the end
path_is : (u : UnitTree) (paths : List CallPath) (x : ℕ) (v : VariableOf) (k : ℕ) → final u paths x ≡ v → v.path ≡ Some k → (final u paths x).path ≡ Some k
path_is u paths x v k e q = ap (λ (w : VariableOf). w.path) e ∙ q

pub local_path : (u : UnitTree) (paths : List CallPath) (k i x : ℕ) → IsLocal u paths k i x → (final u paths x).path ≡ Some k
local_path u paths k i x h = elim h.final [ inl e ↦ path_is u paths x _ k e refl | inr e ↦ path_is u paths x _ k e.1 refl ]

result_path : (u : UnitTree) (paths : List CallPath) (k x : ℕ) → IsResult u paths k x → (final u paths x).path ≡ Some k
result_path u paths k x h = path_is u paths x _ k h.final refl

-- an object of the file is of no path
file_at : (xs : List FileObjectTree) (ys : List VariableOf) (i : ℕ) → i < length xs → (x : FileObjectTree) × (slice_get xs i ≡ Some x) × (variable_in (map file_variable xs ++ ys) i ≡ file_variable x)
file_at [] ys i h = absurd (omega (h, arith))
file_at (x ∷ xs) ys zero h = (x, refl, refl)
file_at (x ∷ xs) ys (suc i) h = file_at xs ys i (omega (h, arith))

pub file_is : (u : UnitTree) (paths : List CallPath) (h : AreTyped u paths) (i : ℕ) → i < length u.objects → (x : FileObjectTree) × (slice_get u.objects i ≡ Some x) × (final u paths i ≡ file_variable x)
file_is u paths h i b =
    let size = whole_size (sizes_of u paths) paths in
    let f = file_at u.objects (replicate size.variables no_variable) i b in (f.0, f.1, h.low i b ∙ f.2)

no_path : (u : UnitTree) (paths : List CallPath) (h : AreTyped u paths) (i k x : ℕ) → i < length u.objects → x ≡ i → (final u paths x).path ≡ Some k → ⊥
no_path u paths h i k x b e q =
    let f = file_is u paths h i b in
    absurd (none-some k (sym (ap (λ (v : VariableOf). v.path) f.2) ∙ (ap (λ (y : ℕ). (final u paths y).path) (sym e) ∙ q)))

one_path : (u : UnitTree) (paths : List CallPath) (x y k m : ℕ) → x ≡ y → (final u paths x).path ≡ Some k → (final u paths y).path ≡ Some m → k ≡ m
one_path u paths x y k m e p q = let z : Some k ≡ Some m = sym p ∙ (ap (λ (i : ℕ). (final u paths i).path) e ∙ q) in ap (λ (o : Option ℕ). unwrap_or o k) z

-- ---- objects of one path

-- as many as its function declares
pub ends_many : (u : UnitTree) (paths : List CallPath) (k : ℕ) (h : PartOf (world u paths) (whole u paths) k) → (ends_of u paths k).objects ≡ (ends h.place.function h.place.body).objects
ends_many u paths k h =
    let f = function_at_path paths k h.path h.place.path in
    ap (λ (j : ℕ). length (function_at u j).parameters + objects_in_items (body_at u j).items) f
    ∙ (ap (λ (x : FunctionTree). length x.parameters + objects_in_items (body_at u h.path.function).items) (its_function u h.path.function h.place.function h.place.there)
    ∙ ap (λ (x : BodyTree). length h.place.function.parameters + objects_in_items x.items) (body_at_is u h.path.function h.place.function h.place.body h.place.there h.place.has))

pub returns_is : (u : UnitTree) (paths : List CallPath) (k : ℕ) (h : PartOf (world u paths) (whole u paths) k) → (function_at u (function_from paths k)).returns ≡ h.place.function.returns
returns_is u paths k h =
    ap (λ (j : ℕ). (function_at u j).returns) (function_at_path paths k h.path h.place.path) ∙ ap (λ (x : FunctionTree). x.returns) (its_function u h.path.function h.place.function h.place.there)

compare : (i j : ℕ) → (i < j) ⊎ ((i ≡ j) ⊎ (j < i))
compare zero zero = inr (inl refl)
compare zero (suc j) = inl (omega arith)
compare (suc i) zero = inr (inr (omega arith))
compare (suc i) (suc j) = elim (compare i j) [
  | inl h ↦ inl (omega (h, arith))
  | inr h ↦ elim h [ inl e ↦ inr (inl (ap suc e)) | inr g ↦ inr (inr (omega (g, arith))) ]
]

same_object : (u : UnitTree) (paths : List CallPath) (h : AreTyped u paths) (k i j : ℕ) → k < length paths → i < (ends_of u paths k).objects → j < (ends_of u paths k).objects → (ends_of u paths k).numbers i ≡ (ends_of u paths k).numbers j → i ≡ j
same_object u paths h k i j b c d e =
    let p = h.parts k b in
    let many = ends_many u paths k p in
    elim (compare i j) [
      | inl l ↦ (let z = numbers_rise (world u paths) h.lasts (whole u paths) k p i j l (omega (d, many, arith)) in absurd (omega (z, e, arith)))
      | inr r ↦ elim r [
        | inl q ↦ q
        | inr l ↦ (let z = numbers_rise (world u paths) h.lasts (whole u paths) k p j i l (omega (c, many, arith)) in absurd (omega (z, e, arith)))
      ]
    ]

object_no_result : (u : UnitTree) (paths : List CallPath) (h : AreTyped u paths) (k i x y : ℕ) → IsLocal u paths k i x → IsResult u paths k y → x ≡ y → ⊥
object_no_result u paths h k i x y a b e =
    let p = h.parts k a.path in
    let many = ends_many u paths k p in
    let c = a.declared in
    result_is_apart (world u paths) h.lasts (whole u paths) k p b.type (sym (returns_is u paths k p) ∙ b.returns) i (omega (c, many, arith)) (sym a.number ∙ (e ∙ b.number))

-- ---- all slots

locals_same : (u : UnitTree) (paths : List CallPath) (h : AreTyped u paths) (k i m j x y : ℕ) → IsLocal u paths k i x → IsLocal u paths m j y → x ≡ y → own (local k i) ≡ own (local m j)
locals_same u paths h k i m j x y a b e =
    let km = one_path u paths x y k m e (local_path u paths k i x a) (local_path u paths m j y b) in
    let b' : IsLocal u paths k j y = subst (λ (n : ℕ). IsLocal u paths n j y) (sym km) b in
    let ij = same_object u paths h k i j a.path a.declared b'.declared (sym a.number ∙ (e ∙ b'.number)) in
    ap (λ (n : ℕ). own (local n i)) km ∙ ap (λ (n : ℕ). own (local m n)) ij

local_result : (u : UnitTree) (paths : List CallPath) (h : AreTyped u paths) (k i m x y : ℕ) → IsLocal u paths k i x → IsResult u paths m y → x ≡ y → ⊥
local_result u paths h k i m x y a b e =
    let km = one_path u paths x y k m e (local_path u paths k i x a) (result_path u paths m y b) in
    object_no_result u paths h k i x y a (subst (λ (n : ℕ). IsResult u paths n y) (sym km) b) e

local_temporary : (u : UnitTree) (paths : List CallPath) (k i y x z : ℕ) → IsLocal u paths k i x → IsTemporary u paths y z → x ≡ z → ⊥
local_temporary u paths k i y x z a b e =
    let here : x ≡ y = e ∙ b.number in
    let km = one_path u paths x y k b.of here (local_path u paths k i x a) (path_is u paths y _ b.of b.final refl) in
    let a' : IsLocal u paths b.of i x = subst (λ (n : ℕ). IsLocal u paths n i x) km a in
    b.objects i a'.declared (sym a'.number ∙ here)

result_temporary : (u : UnitTree) (paths : List CallPath) (k y x z : ℕ) → IsResult u paths k x → IsTemporary u paths y z → x ≡ z → ⊥
result_temporary u paths k y x z a b e =
    let here : x ≡ y = e ∙ b.number in
    let km = one_path u paths x y k b.of here (result_path u paths k x a) (path_is u paths y _ b.of b.final refl) in
    let a' : IsResult u paths b.of x = subst (λ (n : ℕ). IsResult u paths n x) km a in
    b.result (sym a'.number ∙ here)

temporary_path : (u : UnitTree) (paths : List CallPath) (y z : ℕ) (b : IsTemporary u paths y z) → (final u paths z).path ≡ Some b.of
temporary_path u paths y z b = path_is u paths z _ b.of (ap (final u paths) b.number ∙ b.final) refl

slots_apart : (u : UnitTree) (paths : List CallPath) (h : AreTyped u paths) (s t : Slot) (x y : ℕ) → AreOne u paths s x → AreOne u paths t y → x ≡ y → s ≡ t
slots_apart u paths h (own (file i)) (own (file j)) x y a b e = ap (λ (n : ℕ). own (file n)) (sym a.0 ∙ (e ∙ b.0))
slots_apart u paths h (own (file i)) (own (local k j)) x y a b e = absurd (no_path u paths h i k x a.1 a.0 (ap (λ (n : ℕ). (final u paths n).path) e ∙ local_path u paths k j y b))
slots_apart u paths h (own (file i)) (own (result k)) x y a b e = absurd (no_path u paths h i k x a.1 a.0 (ap (λ (n : ℕ). (final u paths n).path) e ∙ result_path u paths k y b))
slots_apart u paths h (own (file i)) (temporary t) x y a b e = absurd (no_path u paths h i b.of x a.1 a.0 (ap (λ (n : ℕ). (final u paths n).path) e ∙ temporary_path u paths t y b))
slots_apart u paths h (own (local k j)) (own (file i)) x y a b e = absurd (no_path u paths h i k y b.1 b.0 (ap (λ (n : ℕ). (final u paths n).path) (sym e) ∙ local_path u paths k j x a))
slots_apart u paths h (own (local k i)) (own (local m j)) x y a b e = locals_same u paths h k i m j x y a b e
slots_apart u paths h (own (local k i)) (own (result m)) x y a b e = absurd (local_result u paths h k i m x y a b e)
slots_apart u paths h (own (local k i)) (temporary t) x y a b e = absurd (local_temporary u paths k i t x y a b e)
slots_apart u paths h (own (result k)) (own (file i)) x y a b e = absurd (no_path u paths h i k y b.1 b.0 (ap (λ (n : ℕ). (final u paths n).path) (sym e) ∙ result_path u paths k x a))
slots_apart u paths h (own (result k)) (own (local m j)) x y a b e = absurd (local_result u paths h m j k y x b a (sym e))
slots_apart u paths h (own (result k)) (own (result m)) x y a b e = ap (λ (n : ℕ). own (result n)) (one_path u paths x y k m e (result_path u paths k x a) (result_path u paths m y b))
slots_apart u paths h (own (result k)) (temporary t) x y a b e = absurd (result_temporary u paths k t x y a b e)
slots_apart u paths h (temporary t) (own (file i)) x y a b e = absurd (no_path u paths h i a.of y b.1 b.0 (ap (λ (n : ℕ). (final u paths n).path) (sym e) ∙ temporary_path u paths t x a))
slots_apart u paths h (temporary t) (own (local k i)) x y a b e = absurd (local_temporary u paths k i t y x b a (sym e))
slots_apart u paths h (temporary t) (own (result k)) x y a b e = absurd (result_temporary u paths k t y x b a (sym e))
slots_apart u paths h (temporary s) (temporary t) x y a b e = ap temporary (sym a.number ∙ (e ∙ b.number))

pub is_naming : (u : UnitTree) (paths : List CallPath) → AreTyped u paths → IsNaming (naming u paths) (Made u paths) (length (whole u paths).made)
is_naming u paths h = record { apart = λ s t a b e. slots_apart u paths h s t (naming u paths s) (naming u paths t) a.1 b.1 e; below = λ s a. a.0 }
