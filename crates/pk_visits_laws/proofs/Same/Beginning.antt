-- Each store with which a run of the graph begins is that of a run of the program: its arguments are what the entry's parameters hold.
use Rattle.std.proofs.Common.{◌≡◌, ℕ, zero, suc, ◌+◌, ◌-◌, ◌<◌, ◌≤◌, ◌⊎◌, inl, inr, List, [], ◌∷◌, ◌++◌, length, Bool, true, false, ◌&&◌, if◌then◌else◌, nat_eq, Option, Some, None, refl, sym, ap, subst, ◌∙◌, arith, ℤ, pos, replicate, eqb-true}
use Rattle.std.proofs.lemmas.List.{get_or_past}
use Rattle.std.proofs.lemmas.Option.{none-some, slice_get_within}
use Rattle.std.specs.Prelude.{slice_get, unwrap_or}
use Rattle.pk_ctypes.specs.declared.types.IntType.{IntType}
use Rattle.pk_ctypes.specs.Types.{is_in_type}
use Rattle.pk_typed.specs.Trees.{LocalTree, StartTree, scalar_start, array_start, UnitTree}
use Rattle.pk_calls.specs.declared.listings.CallPath.{CallPath}
use Rattle.pk_calls.specs.Paths.{entry_path, IsListing}
use Rattle.pk_graph.specs.Kinds.{Kind, count_of, scalar_kind}
use Rattle.pk_graph.specs.Graphs.{PathOf, VariableOf, StartOf, any_start, number_start, no_variable}
use Rattle.pk_graph.specs.Steps.{Numbers, number_at, are_any, all_in_type}
use Rattle.pk_graph.specs.Stores as stores
use Rattle.pk_graph.specs.Stores.{Stored}
use Rattle.pk_draft.specs.Drafts.{DraftOf}
use Rattle.pk_number.specs.Numbering.{numbered}
use Rattle.pk_lower_row.specs.Contexts.{parameters_of}
use Rattle.pk_lower.specs.Parts.{function_at, body_at, start_of_object}
use Rattle.pk_graph_step.specs.Beginnings.{BeginsWith, Begins}
use Rattle.pk_welltyped.specs.WellTyped.{kind_among, IsUnit}
use Rattle.pk_meaning.specs.Objects.{Object, file, local, result, Objects, numbers_of, with_numbers}
use Rattle.pk_meaning.specs.Programs.{function_of, first_objects}
use Rattle.pk_meaning.specs.Runs.{with_arguments}
use Rattle.pk_lower_laws.proofs.Drafts.Places.{outer_object, variable_in}
use Rattle.pk_visits.proofs.Slots.{Slot, own, temporary, memory_numbers}
use Rattle.pk_visits.proofs.Stores.{same_object, other_object}
use Rattle.pk_visits.proofs.Follow.{number_in_type}
use Rattle.pk_visits.proofs.Numbered.Starts.{StartsWith, first_memory}
use Rattle.pk_visits.proofs.Numbered.Stores.{AsMuch, Mirrors}
use Rattle.pk_visits_laws.proofs.Followed.Basics.{some_at}
use Rattle.pk_lower_laws.proofs.Drafts.Drafts.{function_from}
use Rattle.pk_visits.proofs.Calling.{parameters_same}
use Rattle.pk_visits_laws.proofs.Followed.Pairs.{whole, final, IsLocal, locals_at, function_at_path, AreTyped}
use Rattle.pk_visits_laws.proofs.Followed.Naming.{naming, Made, file_is}
use Rattle.pk_visits_laws.proofs.Followed.Graphs.{program_of, by_numbers}
use Rattle.pk_visits_laws.proofs.Followed.Copies.{numbers_are}
use Rattle.pk_visits_laws.proofs.Followed.Propers.{locals_are, parameter_there}
use Rattle.pk_visits_laws.proofs.Followed.Arguments.{Given, arguments_given, local_number, first_fits}
use Rattle.pk_visits_laws.proofs.Followed.Starting.{first_path, entry_outer, entry_types, is_parameter, final_kind, starts_with}

-- ---- arguments

abbrev listed : ℕ → List IntType → (ℕ → ℤ) → Numbers
listed i [] F = []
listed i (t ∷ ts) F = F i ∷ listed (i + 1) ts F

-- the objects with these arguments from number i on
record Hold (i : ℕ) (ts : List IntType) (F : ℕ → ℤ) (s : Objects) : Type 0 where
  objects : Objects
  is : with_arguments i ts (listed i ts F) s ≡ Some objects
  each : (j : ℕ) (t : IntType) → slice_get ts j ≡ Some t → 0 < length (numbers_of (local 0 (i + j)) s) → numbers_of (local 0 (i + j)) objects ≡ F (i + j) ∷ []

arguments : (i : ℕ) (ts : List IntType) (F : ℕ → ℤ) (s : Objects) → ((j : ℕ) (t : IntType) → slice_get ts j ≡ Some t → is_in_type t (F (i + j)) ≡ true) → Hold i ts F s
arguments i [] F s h = record { objects = s; is = refl; each = λ j t e l. absurd (none-some t e) }
arguments i (t ∷ ts) F s h = by (arguments (i + 1) ts F (with_numbers (local 0 i) (F i ∷ []) s) (λ j u e. subst (λ n. is_in_type u (F n) ≡ true) (omega arith) (h (suc j) u e))) where
  r : Objects
  r = with_numbers (local 0 i) (F i ∷ []) s

  first : is_in_type t (F i) ≡ true
  first = subst (λ n. is_in_type t (F n) ≡ true) (omega arith) (h zero t refl)

  by : Hold (i + 1) ts F r → Hold i (t ∷ ts) F s
  by a = record {
    objects = a.objects;
    is = ap (λ b. if b then with_arguments (i + 1) ts (listed (i + 1) ts F) r else None) first ∙ a.is;
    each = each;
  } where
    g : Given (i + 1) ts r a.objects
    g = arguments_given (i + 1) ts (listed (i + 1) ts F) r a.objects a.is

    each : (j : ℕ) (u : IntType) → slice_get (t ∷ ts) j ≡ Some u → 0 < length (numbers_of (local 0 (i + j)) s) → numbers_of (local 0 (i + j)) a.objects ≡ F (i + j) ∷ []
    each zero u e l =
        let at : i + zero ≡ i = omega arith in
        let there : 0 < length (numbers_of (local 0 i) s) = subst (λ (n : ℕ). 0 < length (numbers_of (local 0 n) s)) at l in
        ap (λ (n : ℕ). numbers_of (local 0 n) a.objects) at ∙ (g.others 0 i (λ x y z. absurd (omega (y, arith))) ∙ same_object (local 0 i) (F i ∷ []) s there) ∙ ap (λ (n : ℕ). F n ∷ []) (sym at)
    each (suc j) u e l =
        let at : i + suc j ≡ i + 1 + j = omega arith in
        let same = other_object (local 0 i) (local 0 (i + suc j)) (F i ∷ []) s (λ q. let n = local_number 0 0 i (i + suc j) q in let y = n.1 in absurd (omega (y, arith))) in
        let there : 0 < length (numbers_of (local 0 (i + 1 + j)) r) = subst (λ (n : ℕ). 0 < length (numbers_of (local 0 n) r)) at (subst (λ (ys : Numbers). 0 < length ys) (sym same) l) in
        ap (λ (n : ℕ). numbers_of (local 0 n) a.objects) at ∙ a.each j u e there ∙ ap (λ (n : ℕ). F n ∷ []) (sym at)

-- ---- the entry's parameters

-- its number, and what the variable is in the end
one_number : (t : IntType) (zs : Numbers) → are_any t 1 zs ≡ true → (zs ≡ number_at zs 0 ∷ []) × (is_in_type t (number_at zs 0) ≡ true)
one_number t zs h = (single zs many, number_in_type t zs many a.1) where
  both : (a b : Bool) → (a && b) ≡ true → (a ≡ true) × (b ≡ true)
  both true b k = (refl, k)
  both false b k = absurd (cc k)

  a : (nat_eq (length zs) 1 ≡ true) × (all_in_type t zs ≡ true)
  a = both (nat_eq (length zs) 1) (all_in_type t zs) h

  many : length zs ≡ 1
  many = eqb-true (length zs) 1 a.0

  single : (ys : Numbers) → length ys ≡ 1 → ys ≡ number_at ys 0 ∷ []
  single [] e = absurd (omega (arith, e))
  single (y ∷ []) e = refl
  single (y ∷ x ∷ ys) e = absurd (omega (arith, e))

abbrev parameter_at : UnitTree → List CallPath → ℕ → ℕ
parameter_at u paths i = naming u paths (own (local 0 i))

-- a variable that may hold any number is one
is_there : (u : UnitTree) (paths : List CallPath) (y : ℕ) → (final u paths y).start ≡ any_start → y < length (whole u paths).made
is_there u paths y e = by (decided y (length (whole u paths).made)) where
  decided : (i n : ℕ) → (i < n) ⊎ (n ≤ i)
  decided i n = grind arith

  by : (y < length (whole u paths).made) ⊎ (length (whole u paths).made ≤ y) → y < length (whole u paths).made
  by (inl l) = l
  by (inr l) = absurd (cc (e, ap (λ (v : VariableOf). v.start) (get_or_past (whole u paths).made y no_variable l)))

-- each parameter of the entry is such a variable
record IsParameter (u : UnitTree) (paths : List CallPath) (i : ℕ) : Type 0 where
  type : IntType
  there : slice_get (function_of (program_of u paths) 0).parameters i ≡ Some type
  made : Made u paths (own (local 0 i))
  starts : (final u paths (parameter_at u paths i)).start ≡ any_start
  any : (zs : Numbers) → are_any (final u paths (parameter_at u paths i)).kind.int_type (count_of (final u paths (parameter_at u paths i)).kind.length) zs ≡ are_any type 1 zs

parameter_is : (u : UnitTree) (entry : ℕ) (paths : List CallPath) (l : IsListing u entry paths) (h : AreTyped u paths) (some : 0 < length paths) (i : ℕ) → i < length (parameters_of u entry) → IsParameter u paths i
parameter_is u entry paths l h some i b =
    let types = entry_types u entry paths l h some in
    let t = some_at (function_of (program_of u paths) 0).parameters i (subst (λ (ts : List IntType). i < length ts) (sym types) b) in
    let kind = parameter_there u paths h 0 i t.0 some t.1 in
    let y = parameter_at u paths i in
    let out = entry_outer u entry paths l h i b in
    let f : function_from paths 0 ≡ entry = function_at_path paths 0 (entry_path entry) (first_path u entry paths l) in
    let same : locals_at u paths 0 ≡ (body_at u entry).locals = ap (λ (j : ℕ). (body_at u j).locals) f in
    let few : i < length (function_at u (function_from paths 0)).parameters = subst (λ (j : ℕ). i < length (function_at u j).parameters) (sym f) (subst (λ (ts : List IntType). i < length ts) (parameters_same u.functions entry) b) in
    let m : IsLocal u paths 0 i y = record {
      number = refl;
      path = some;
      declared = omega (few, arith);
      kind = scalar_kind t.0;
      is = ap (λ (xs : List LocalTree). kind_among xs i) (locals_are u paths 0 (h.parts 0 some)) ∙ kind.1;
      final = inr (record { path = entry_path entry; there = first_path u entry paths l; entry = refl; parameter = b }, out ∙ ap (λ (xs : List LocalTree). outer_object xs 0 i) (sym same));
    } in
    let starts = ap (λ (v : VariableOf). v.start) out in
    record {
      type = t.0;
      there = t.1;
      made = (is_there u paths y starts, m);
      starts = starts;
      any = λ zs. ap (λ (q : Kind). are_any q.int_type (count_of q.length) zs) (final_kind u paths h 0 i y m);
    }

-- ---- all variables

-- a variable that begins with given numbers
abbrev IsFixed : VariableOf → Type 0
IsFixed v = (ns : Numbers) × (v.start ≡ number_start ns)

both_fixed : (v : VariableOf) (a b : Numbers) → IsFixed v → BeginsWith v v.start a → BeginsWith v v.start b → a ≡ b
both_fixed v a b f = by v.start f.1 where
  by : (s : StartOf) → s ≡ number_start f.0 → BeginsWith v s a → BeginsWith v s b → a ≡ b
  by any_start e h k = absurd (cc e)
  by (number_start ns) e h k = h ∙ sym k

-- a parameter of the entry, or fixed
fixed_or_parameter : (u : UnitTree) (entry : ℕ) (paths : List CallPath) (l : IsListing u entry paths) (h : AreTyped u paths) (x : Object) → Made u paths (own x)
    → IsFixed (final u paths (naming u paths (own x))) ⊎ ((i : ℕ) × (x ≡ local 0 i) × (i < length (parameters_of u entry)))
fixed_or_parameter u entry paths l h (file i) m =
    let f = file_is u paths h i m.1.1 in
    let z = fixed f.0.start in inl (z.0, ap (λ (v : VariableOf). v.start) f.2 ∙ z.1) where
      fixed : (s : StartTree) → (ns : Numbers) × (start_of_object s ≡ number_start ns)
      fixed (scalar_start z) = (z ∷ [], refl)
      fixed (array_start n zs) = (zs, refl)
fixed_or_parameter u entry paths l h (result k) m = inl ([], ap (λ (v : VariableOf). v.start) m.1.final)
fixed_or_parameter u entry paths l h (local k i) m = elim m.1.final [
  | inl e ↦ inl ([], ap (λ (v : VariableOf). v.start) e)
  | inr e ↦ (let z = is_parameter u entry paths l k i e.0 in inr (i, ap (λ (n : ℕ). local n i) z.0, z.1))
]

-- the run's objects, and the store that mirrors them
pub record BeginsSo (u : UnitTree) (paths : List CallPath) (s : Stored) : Type 0 where
  pub choice : Numbers
  pub objects : Objects
  pub is : with_arguments 0 (function_of (program_of u paths) 0).parameters choice (first_objects (program_of u paths)) ≡ Some objects
  pub mirrors : Mirrors (naming u paths) (Made u paths) (length (by_numbers u paths).made) (first_memory objects) s

zero_first : (n : ℕ) → number_at (replicate n (pos 0)) 0 ≡ pos 0
zero_first zero = refl
zero_first (suc n) = refl

zeros_first : (v : VariableOf) (zs : Numbers) → v.start ≡ number_start [] → BeginsWith v v.start zs → number_at zs 0 ≡ pos 0
zeros_first v zs e = by v.start e where
  by : (s : StartOf) → s ≡ number_start [] → BeginsWith v s zs → number_at zs 0 ≡ pos 0
  by any_start e h = absurd (cc e)
  by (number_start ns) e h =
      let none : ns ≡ [] = ap inner e in
      ap (λ ys. number_at ys 0) (h ∙ ap (λ (ys : Numbers). ys ++ replicate (count_of v.kind.length - length ys) (pos 0)) none) ∙ zero_first (count_of v.kind.length - 0)
    where
      inner : StartOf → Numbers
      inner any_start = []
      inner (number_start ys) = ys

pub begins_so : (u : UnitTree) (entry : ℕ) (paths : List CallPath) → IsUnit u → (l : IsListing u entry paths) (h : AreTyped u paths) → 0 < length paths → (shown : List PathOf) (s : Stored) → Begins (numbered shown (by_numbers u paths)) s → BeginsSo u paths s
begins_so u entry paths unit l h some shown s begins = record { choice = listed 0 types F; objects = a.objects; is = a.is; mirrors = record { size = begins.size; same = same } } where
  f : Slot → ℕ
  f = naming u paths

  made_same : (by_numbers u paths).made ≡ (whole u paths).made
  made_same = ap (λ (d : DraftOf ℕ). d.made) (numbers_are u paths)

  -- what each variable begins with
  each : (y : ℕ) → y < length (whole u paths).made → BeginsWith (final u paths y) (final u paths y).start (stores.numbers_of s y)
  each y b =
      let size = ap length made_same in
      subst (λ (v : VariableOf). BeginsWith v v.start (stores.numbers_of s y)) (ap (λ (ms : List VariableOf). variable_in ms y) made_same) (begins.each y (omega (b, size, arith)))

  types : List IntType
  types = (function_of (program_of u paths) 0).parameters

  many : types ≡ parameters_of u entry
  many = entry_types u entry paths l h some

  F : ℕ → ℤ
  F i = number_at (stores.numbers_of s (parameter_at u paths i)) 0

  its : (i : ℕ) → i < length types → IsParameter u paths i
  its i b = parameter_is u entry paths l h some i (subst (λ (ts : List IntType). i < length ts) many b)

  its_number : (i : ℕ) (q : IsParameter u paths i) → (stores.numbers_of s (parameter_at u paths i) ≡ F i ∷ []) × (is_in_type q.type (F i) ≡ true)
  its_number i q = one_number q.type (stores.numbers_of s (parameter_at u paths i)) (sym (q.any (stores.numbers_of s (parameter_at u paths i))) ∙ subst (λ b. BeginsWith (final u paths (parameter_at u paths i)) b (stores.numbers_of s (parameter_at u paths i))) q.starts (each (parameter_at u paths i) q.made.0))

  within : (j : ℕ) (t : IntType) → slice_get types j ≡ Some t → j < length types
  within j t e = slice_get_within types j t e

  a : Hold 0 types F (first_objects (program_of u paths))
  a = arguments 0 types F (first_objects (program_of u paths)) (λ j t e.
      let q = its j (within j t e) in
      let one : q.type ≡ t = ap (λ (o : Option IntType). unwrap_or o q.type) (sym q.there ∙ e) in
      subst (λ n. is_in_type t (F n) ≡ true) (omega arith) (subst (λ x. is_in_type x (F j) ≡ true) one (its_number j q).1))

  starts : StartsWith (naming u paths) (Made u paths) (by_numbers u paths) a.objects
  starts = starts_with u entry paths unit l h a.objects (record { given = arguments_given 0 types (listed 0 types F) (first_objects (program_of u paths)) a.objects a.is })

  mine : (x : Object) → Made u paths (own x) → BeginsWith (final u paths (f (own x))) (final u paths (f (own x))).start (numbers_of x a.objects)
  mine x m = subst (λ (v : VariableOf). BeginsWith v v.start (numbers_of x a.objects)) (ap (λ (ms : List VariableOf). variable_in ms (f (own x))) made_same) (starts.own_starts (f (own x)) x (starts.below (own x) m) (starts.back (own x) m))

  parameter : (i : ℕ) → i < length (parameters_of u entry) → stores.numbers_of s (f (own (local 0 i))) ≡ numbers_of (local 0 i) a.objects
  parameter i b =
      let q = its i (subst (λ (ts : List IntType). i < length ts) (sym many) b) in
      let at : 0 + i ≡ i = omega arith in
      let size = (first_fits u paths unit (local 0 i) (scalar_kind q.type) (parameter_there u paths h 0 i q.type some q.there)).0 in
      let room : 0 < length (numbers_of (local 0 (0 + i)) (first_objects (program_of u paths))) = subst (λ (n : ℕ). 0 < length (numbers_of (local 0 n) (first_objects (program_of u paths)))) (sym at) (omega (size, arith)) in
      let z = a.each i q.type q.there room in
      (its_number i q).0 ∙ ap (λ n. F n ∷ []) (sym at) ∙ sym z ∙ ap (λ n. numbers_of (local 0 n) a.objects) at

  own_same : (x : Object) → Made u paths (own x) → stores.numbers_of s (f (own x)) ≡ numbers_of x a.objects
  own_same x m = by (fixed_or_parameter u entry paths l h x m) where
    by : IsFixed (final u paths (f (own x))) ⊎ ((i : ℕ) × (x ≡ local 0 i) × (i < length (parameters_of u entry))) → stores.numbers_of s (f (own x)) ≡ numbers_of x a.objects
    by (inl k) = both_fixed (final u paths (f (own x))) (stores.numbers_of s (f (own x))) (numbers_of x a.objects) k (each (f (own x)) m.0) (mine x m)
    by (inr (i, e, b)) = subst (λ (y : Object). stores.numbers_of s (f (own y)) ≡ numbers_of y a.objects) (sym e) (parameter i b)

  same : (x : Slot) → Made u paths x → AsMuch x (memory_numbers x (first_memory a.objects)) (stores.numbers_of s (f x))
  same (own x) m = own_same x m
  same (temporary n) m =
      let z = starts.zero_starts (f (temporary n)) n (starts.below (temporary n) m) (starts.back (temporary n) m) in
      zeros_first (final u paths (f (temporary n))) (stores.numbers_of s (f (temporary n))) (sym (ap (λ (ms : List VariableOf). (variable_in ms (f (temporary n))).start) made_same) ∙ z) (each (f (temporary n)) m.0)
