-- The draft before the first part.
use Rattle.std.proofs.Common.{◌≡◌, ◌≢◌, ℕ, ◌+◌, zero, suc, ◌<◌, ◌≤◌, ◌⊎◌, inl, inr, List, [], ◌∷◌, ◌++◌, Option, Some, None, length, map, refl, ap, sym, subst, ◌∙◌, arith, slice_index_or, length-set, length-append}
use Rattle.std.proofs.lemmas.List.{get_or-set_same, get_or-set_other, length-map}
use Rattle.std.proofs.lemmas.List.Elements.{All-push, All-append}
use Rattle.std.proofs.lemmas.Option.{none-some, slice_get_within}
use Rattle.std.specs.Prelude.{slice_get, unwrap_or, All, replicate}
use Rattle.std.specs.Option.{option_map}
use Rattle.pk_ctypes.specs.Types.{InType}
use Rattle.pk_typed.specs.Trees.{FileObjectTree, StartTree, scalar_start, array_start, UnitTree}
use Rattle.pk_calls.specs.declared.listings.CallPath.{CallPath}
use Rattle.pk_calls.specs.Paths.{entry_path}
use Rattle.pk_graph.specs.declared.graphs.Scope.{Scope}
use Rattle.pk_graph.specs.Kinds.{kind_at, Kind}
use Rattle.pk_graph.specs.Graphs.{VariableOf, no_variable, naming}
use Rattle.pk_graph.specs.WellMade.{IsStartOf}
use Rattle.pk_draft.specs.declared.drafts.Region.{Region}
use Rattle.pk_draft.specs.declared.drafts.Label.{Label}
use Rattle.pk_draft.specs.declared.drafts.Size.{Size}
use Rattle.pk_draft.specs.Drafts.{Names, DraftOf, no_label, no_region, file_scopes, first_draft, entry_point}
use Rattle.pk_lower.specs.Parts as part
use Rattle.pk_lower.specs.Parts.{file_variable, whole_size}
use Rattle.pk_welltyped.specs.WellTyped.{IsStart, kind_in_file}
use Rattle.pk_lower_laws.proofs.Drafts.Places.{region_at, IsKept, In, IsMade, variable_in, AreChained}
use Rattle.pk_lower_laws.proofs.Drafts.Verbs.{either}
use Rattle.pk_lower_laws.proofs.Drafts.Chains.{chained_last}
use Rattle.pk_lower_laws.proofs.Drafts.Plans.{World, Draft, sizes, base, size_of, Plan, AllTyped, replicated}
use Rattle.pk_lower_laws.proofs.Drafts.Wholes.{kinds_of, kind_is}
use Rattle.pk_typed.specs.Defaults.{length_of_start}

-- ---- lists

replicate_at : {A : Type 0} (n j : ℕ) (x : A) → slice_index_or (replicate n x) j x ≡ x
replicate_at zero j x = refl
replicate_at (suc n) zero x = refl
replicate_at (suc n) (suc j) x = replicate_at n j x

behind_at : {A : Type 0} (xs : List A) (n j : ℕ) (x : A) → length xs ≤ j → slice_index_or (xs ++ replicate n x) j x ≡ x
behind_at [] n j x h = replicate_at n j x
behind_at (y ∷ xs) n zero x h = absurd (omega (h, arith))
behind_at (y ∷ xs) n (suc j) x h = behind_at xs n j x (omega (h, arith))

before_at : {A : Type 0} (xs ys : List A) (j : ℕ) (d x : A) → slice_get xs j ≡ Some x → slice_index_or (xs ++ ys) j d ≡ x
before_at [] ys j d x h = absurd (none-some x h)
before_at (y ∷ xs) ys zero d x h = ap (λ (o : Option _). unwrap_or o x) h
before_at (y ∷ xs) ys (suc j) d x h = before_at xs ys j d x h

all_replicate : {A : Type 0} (Q : A → Type 0) (n : ℕ) (x : A) → Q x → All Q (replicate n x)
all_replicate Q zero x h k d l = absurd (omega (l, arith))
all_replicate Q (suc n) x h zero d l = h
all_replicate Q (suc n) x h (suc k) d l = all_replicate Q n x h k d (omega (l, arith))

mapped_at : (xs : List FileObjectTree) (i : ℕ) (x : FileObjectTree) → slice_get xs i ≡ Some x → slice_get (map file_variable xs) i ≡ Some (file_variable x)
mapped_at [] i x h = absurd (none-some x h)
mapped_at (y ∷ xs) zero x h = ap (option_map file_variable) h
mapped_at (y ∷ xs) (suc i) x h = mapped_at xs i x h

-- ---- the file's objects

start_is : (x : FileObjectTree) → IsStart x.int_type x.start → IsStartOf (file_variable x) (file_variable x).start
start_is x h = by_start x.start h
  where
    by_start : (s : StartTree) → IsStart x.int_type s → IsStartOf (record { name = Some x.name; kind = record { int_type = x.int_type; length = length_of_start s }; path = None; start = part.start_of_object s }) (part.start_of_object s)
    by_start (scalar_start z) h = (omega arith, first)
      where
        first : All (InType x.int_type) (z ∷ [])
        first zero d l = h
        first (suc k) d l = absurd (omega (l, arith))
    by_start (array_start n zs) h = (h.0, h.1)

starts_are : (xs : List FileObjectTree) → All (λ (x : FileObjectTree). IsStart x.int_type x.start) xs → All (λ (x : VariableOf). IsStartOf x x.start) (map file_variable xs)
starts_are [] h k d l = absurd (omega (l, arith))
starts_are (x ∷ xs) h zero d l = start_is x (h 0 x (omega arith))
starts_are (x ∷ xs) h (suc k) d l = starts_are xs (λ i e m. h (suc i) e (omega (m, arith))) k d (omega (l, arith))

scopes_are : (P : ℕ → Type 0) (m n : ℕ) → n ≤ m → ((i : ℕ) → i < n → P i) → All (λ (s : Scope). (s.entry.variable < m) × P s.entry.variable) (file_scopes n)
scopes_are P m zero h f = λ k d l. absurd (omega (l, arith))
scopes_are P m (suc n) h f = All-push (λ (s : Scope). (s.entry.variable < m) × P s.entry.variable) (file_scopes n) (record { entry = naming n; outer = n }) (scopes_are P m n (omega (h, arith)) (λ i l. f i (omega (l, arith)))) (omega (h, arith), f n (omega arith))

pub scopes_many : (n : ℕ) → length (file_scopes n) ≡ n
scopes_many zero = refl
scopes_many (suc n) = let z = scopes_many n in let q = length-append (file_scopes n) (record { entry = naming n; outer = n } ∷ []) in omega (z, q, arith)

chain_of : (n : ℕ) → AreChained (file_scopes n)
chain_of zero = λ k z h. absurd (none-some z h)
chain_of (suc n) = let z = scopes_many n in chained_last (file_scopes n) (record { entry = naming n; outer = n }) (chain_of n) (omega (z, arith))

-- the draft before the first part
abbrev pub first : {V : Type 0} → Names V → UnitTree → List CallPath → Size → DraftOf V
first names u paths s = first_draft names (map file_variable u.objects) (length paths) s

-- what its variables are
abbrev pub first_made : UnitTree → Size → List VariableOf
first_made u s = map file_variable u.objects ++ replicate s.variables no_variable

-- the kinds of variables of which the first are the file's objects
pub files_are : (u : UnitTree) (s : Size) (ms : List VariableOf) → length u.objects ≤ length ms → ((y : ℕ) → y < length u.objects → variable_in ms y ≡ variable_in (first_made u s) y)
    → (i : ℕ) (k : Kind) → kind_in_file u i ≡ Some k → (i < length u.objects) × (kind_at (kinds_of ms) i ≡ k)
files_are u s ms few low i k h = known (slice_get u.objects i) refl h
  where
    known : (o : Option FileObjectTree) → slice_get u.objects i ≡ o → option_map (λ (x : FileObjectTree). record { int_type = x.int_type; length = length_of_start x.start }) o ≡ Some k → (i < length u.objects) × (kind_at (kinds_of ms) i ≡ k)
    known None at e = absurd (none-some k e)
    known (Some x) at e =
        let there = slice_get_within u.objects i x at in
        let is : record { int_type = x.int_type; length = length_of_start x.start } ≡ k = ap (λ (o : Option Kind). unwrap_or o k) e in
        let v : variable_in (first_made u s) i ≡ file_variable x = before_at (map file_variable u.objects) (replicate s.variables no_variable) i no_variable (file_variable x) (mapped_at u.objects i x at) in
        let kind : kind_at (kinds_of ms) i ≡ record { int_type = x.int_type; length = length_of_start x.start } = kind_is ms i ∙ ap (λ (y : VariableOf). y.kind) (low i there ∙ v) in
        (there, kind ∙ is)

-- ---- the plan before the first part

-- what is known of the world's numbers
pub record Counted (W : World) : Type 0 where
  pub some : 0 < length W.paths
  pub files : W.files ≡ length W.unit.objects
  pub kinds : length W.kinds ≡ W.files + (whole_size (sizes W) W.paths).variables
  pub points : W.points ≡ (whole_size (sizes W) W.paths).points + 2

whole_is : (W : World) → 0 < length W.paths → whole_size (sizes W) W.paths ≡ size_of W 0
whole_is W h = by_paths W.paths h
  where
    by_paths : (ps : List CallPath) → 0 < length ps → whole_size (sizes W) ps ≡ Rattle.pk_lower_row.specs.Contexts.size_in (sizes W) (slice_index_or ps 0 (entry_path 0)).function
    by_paths [] h = absurd (omega (h, arith))
    by_paths (p ∷ ps) h = refl

abbrev entry_region : ℕ → Region
entry_region n = record { at = entry_point; points = entry_point + 1; variables = n }

abbrev pub start : (W : World) → Draft W
start W = first W.table.names W.unit W.paths (whole_size (sizes W) W.paths)

many_objects : (W : World) → length (map file_variable W.unit.objects) ≡ length W.unit.objects
many_objects W = length-map W.unit.objects file_variable

first_region : (W : World) → 0 < length W.paths → region_at (start W).regions 0 ≡ entry_region (length (map file_variable W.unit.objects))
first_region W h = get_or-set_same (replicate (length W.paths) no_region) 0 (entry_region (length (map file_variable W.unit.objects))) no_region (omega (replicated (length W.paths) no_region, h, arith))

no_other : (W : World) (j : ℕ) → j ≢ 0 → IsKept (start W).regions j → ⊥
no_other W j o k =
    let same : region_at (start W).regions j ≡ no_region = get_or-set_other (replicate (length W.paths) no_region) 0 j (entry_region (length (map file_variable W.unit.objects))) no_region o ∙ replicate_at (length W.paths) j no_region in
    let none : 0 < 0 = subst (λ (r : Region). 0 < r.points) same k in
    absurd (omega (none, arith))

pub first_plan : (W : World) → Counted W → Plan W 0 1 (start W)
first_plan W c =
    let xs = map file_variable W.unit.objects in
    let s = whole_size (sizes W) W.paths in
    let r = entry_region (length xs) in
    let is = first_region W c.some in
    let size = whole_is W c.some in
    let many : length xs ≡ W.files = many_objects W ∙ sym c.files in
    record {
      many = length-append xs (replicate s.variables no_variable) ∙ omega (many, replicated s.variables no_variable, c.kinds, arith);
      count = length-set (replicate (length W.paths) no_region) 0 r ∙ replicated (length W.paths) no_region;
      kept = λ j l. let zero_is : 0 ≡ j = omega (l, arith) in
          subst (λ (i : ℕ). IsMade (base W) i (region_at (start W).regions i)) zero_is (subst (IsMade (base W) 0) (sym is) (record {
            kept = omega arith;
            points = omega (c.points, ap (λ (z : Size). z.points) size, arith);
            variables = omega (c.kinds, many, ap (λ (z : Size). z.variables) size, arith);
            files = omega (many, arith);
          }));
      unkept = λ j l k. no_other W j (λ e. absurd (omega (e, l, arith))) k;
      pending = λ j y l i. elim (either j 0) [
        | inr o ↦ absurd (no_other W j o i.kept)
        | inl e ↦ (let q : In (base W) (start W).regions 0 y = subst (λ (z : ℕ). In (base W) (start W).regions z y) e i in
            let from : length xs ≤ y = subst (λ (z : Region). z.variables ≤ y) is q.from in
            let to : y < length xs + (size_of W 0).variables = subst (λ (z : Region). y < z.variables + (size_of W 0).variables) is q.to in
            (ap (λ (v : VariableOf). v.path) (behind_at xs s.variables y no_variable from), omega (to, many, c.kinds, ap (λ (z : Size). z.variables) size, arith)))
      ];
      apart = λ i j y l m a b. elim (either i 0) [
        | inr o ↦ absurd (no_other W i o a.kept)
        | inl e ↦ elim (either j 0) [ inr o ↦ absurd (no_other W j o b.kept) | inl f ↦ e ∙ sym f ]
      ];
      parted = λ i j y l m a b. elim (either i 0) [
        | inr o ↦ absurd (no_other W i o a.kept)
        | inl e ↦ elim (either j 0) [ inr o ↦ absurd (no_other W j o b.kept) | inl f ↦ e ∙ sym f ]
      ];
    }

pub first_typed : (W : World) → Counted W → All (λ (x : FileObjectTree). IsStart x.int_type x.start) W.unit.objects → ((i : ℕ) → i < W.files → W.CanBeNamed i) → ((i : ℕ) → i < W.files → W.CanBegin i) → AllTyped W (start W)
first_typed W c h named begun =
    let xs = map file_variable W.unit.objects in
    let s = whole_size (sizes W) W.paths in
    let many : length xs ≡ W.files = many_objects W ∙ sym c.files in
    record {
      names = refl;
      labels = record { many = replicated (s.points + (entry_point + 1)) no_label ∙ omega (c.points, arith); paths = all_replicate (λ (l : Label). l.path < length W.paths) (s.points + (entry_point + 1)) no_label c.some };
      scopes = scopes_are W.CanBeNamed (length W.kinds) (length xs) (omega (many, c.kinds, arith)) (λ i l. named i (omega (l, many, arith)));
      starts = All-append (λ (x : VariableOf). IsStartOf x x.start) xs (replicate s.variables no_variable) (starts_are W.unit.objects h)
          (all_replicate (λ (x : VariableOf). IsStartOf x x.start) s.variables no_variable (omega arith, λ k d l. absurd (omega (l, arith))));
      chain = chain_of (length xs);
      files = let z = scopes_many (length xs) in omega (z, many, arith);
      zeros = λ y. elim (split y (length xs)) [
        | inl l ↦ inr (begun y (omega (l, many, arith)))
        | inr l ↦ inl (ap (λ (v : VariableOf). v.start) (behind_at xs s.variables y no_variable l))
      ];
      edges = λ k d l. absurd (omega (l, arith));
      places = λ j k. elim (either j 0) [
        | inr o ↦ absurd (no_other W j o k)
        | inl e ↦ subst (λ (i : ℕ). (region_at (start W).regions i).at < W.points) (sym e) (subst (λ (r : Region). r.at < W.points) (sym (first_region W c.some)) (omega (c.points, arith)))
      ];
    }
  where
    split : (i l : ℕ) → (i < l) ⊎ (l ≤ i)
    split i l = grind arith
