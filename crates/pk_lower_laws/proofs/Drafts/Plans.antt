-- All parts: regions don't meet, and what callers rely on is made.
use Rattle.std.proofs.Common.{◌≡◌, ℕ, ◌+◌, zero, suc, ◌<◌, ◌≤◌, ◌⊎◌, inl, inr, false, List, [], ◌∷◌, Option, Some, None, length, refl, ap, sym, subst, ◌∙◌, arith, slice_index_or}
use Rattle.std.proofs.lemmas.Option.{slice_get_within, get_or_from_slice_get}
use Rattle.std.specs.Prelude.{slice_get, unwrap_or, All, replicate}
use Rattle.std.specs.Option.{option_map, option_and_then}
use Rattle.pk_ctypes.specs.declared.types.IntType.{IntType}
use Rattle.pk_typed.specs.declared.units.CallSite.{CallSite}
use Rattle.pk_typed.specs.Trees.{BodyTree, FunctionTree, UnitTree}
use Rattle.pk_calls.specs.declared.listings.Caller.{Caller}
use Rattle.pk_calls.specs.declared.listings.CallPath.{CallPath}
use Rattle.pk_calls.specs.Calls as calls
use Rattle.pk_calls.specs.Paths.{entry_path, path_by}
use Rattle.pk_graph.specs.declared.graphs.Scope.{Scope}
use Rattle.pk_graph.specs.Kinds.{Kinds, Kind}
use Rattle.pk_graph.specs.Graphs.{VariableOf, number_start}
use Rattle.pk_graph.specs.Trees.{InstrOf, Skip, Set, Havoc, Clear, Load, Store, Guard, Check}
use Rattle.pk_graph.specs.WellMade.{IsStartOf}
use Rattle.pk_draft.specs.declared.drafts.Region.{Region}
use Rattle.pk_draft.specs.declared.drafts.Size.{Size}
use Rattle.pk_draft.specs.Drafts.{DraftOf, EdgeFrom, inner}
use Rattle.pk_lower_row.specs.Contexts.{size_in, parameters_of}
use Rattle.pk_lower.specs.Parts as part
use Rattle.pk_lower_laws.specs.Parts.Listed.{CallsLeadBehind, IsListed}
use Rattle.pk_lower_laws.proofs.Parts.Measures.{parts_fill_regions}
use Rattle.pk_welltyped.specs.Listed.{Numbered, numbered}
use Rattle.pk_welltyped.specs.WellTyped as good
use Rattle.pk_welltyped.specs.WellTyped.{IsBody, AreParameters, AreItems}
use Rattle.pk_lower_laws.proofs.Drafts.Tables.{Table}
use Rattle.pk_lower_laws.proofs.Drafts.Places.{Place, Ends, Has, IsOwn, IsObjectOf, IsNoObject, returned_by, Promised, region_at, IsKept, In, Holds, variable_in, IsFresh, MadeIs, Foreseen, ResultIs, ObjectsForeseen, HasOtherWay, EdgeIs, LabelsAre, AreChained, Grown, Stage, PlacesAre, Typed, Below, IsMade, Before, After}
use Rattle.pk_lower_laws.proofs.Drafts.Verbs.{IsCallee}
use Rattle.pk_lower_laws.proofs.Drafts.Expressions.{CallsAre}
use Rattle.pk_lower_laws.proofs.Drafts.Parts.{ParametersAt, ComeFromOutside, parameters_at, AreWritten, IsWrittenIf, Stays, all_stay, if_stays, begun_here, PartIs, made_part, ends, part_step, part_points, part_made}
use Rattle.pk_typed.specs.Defaults.{no_body, no_function}

-- The unit and its call paths; the table of the variables, and by their numbers what they are in the end and their kinds; the edges of the whole draft; what becomes of the objects of each path; which variables may come into scope, and which may begin with something else than 0; which objects of a path get any value from outside; how many points there are, and how many objects the file has.
pub record World : Type 1 where
  pub unit : UnitTree
  pub paths : List CallPath
  pub table : Table
  pub kinds : Kinds
  pub final : ℕ → VariableOf
  pub IsEdge : EdgeFrom table.Variable → Type 0
  pub ends : (path : ℕ) → Ends
  pub CanBeNamed : ℕ → Type 0
  pub CanBegin : ℕ → Type 0
  pub FromOutside : (path : ℕ) → ℕ → Type 0
  pub points : ℕ
  pub files : ℕ

abbrev pub Draft : World → Type 0
Draft W = DraftOf W.table.Variable

abbrev pub sizes : World → List (Option Size)
sizes W = part.sizes_of W.unit W.paths

abbrev pub function_of : World → ℕ → ℕ
function_of W j = (slice_index_or W.paths j (entry_path 0)).function

abbrev pub size_of : World → ℕ → Size
size_of W j = size_in (sizes W) (function_of W j)

-- path k, of function f, whose first call leads to path n, and where its regions end
abbrev pub place : World → (k n f limit last : ℕ) → Place
place W k n f limit last = record {
  context = part.context W.unit (sizes W) k n f;
  table = W.table;
  kinds = W.kinds;
  final = W.final;
  IsEdge = W.IsEdge;
  points = W.points;
  paths = length W.paths;
  function = function_of W;
  limit = limit;
  last = last;
  files = W.files;
  ends = W.ends k;
  CanBeNamed = W.CanBeNamed;
  CanBegin = W.CanBegin;
  FromOutside = W.FromOutside k;
}

abbrev pub base : World → Place
base W = place W 0 0 0 0 0

-- what is so of the unit and its paths
pub record Lasting (W : World) : Type 0 where
  pub points : 0 < W.points
  pub files : (i : ℕ) (k : Kind) → good.kind_in_file W.unit i ≡ Some k → Has W.table (W.table.names.file i) k.int_type k.length
  pub objects_of_file : W.files ≡ length W.unit.objects
  pub behind : CallsLeadBehind W.unit W.paths
  pub listed : (k : ℕ) (p : CallPath) → slice_get W.paths k ≡ Some p → IsListed W.paths p.function
  pub temporaries : (k n f l q : ℕ) (y : ℕ) (t : IntType) → k < length W.paths → IsOwn (place W k n f l q) y (inner None t None k) → IsNoObject (place W k n f l q) y → Has W.table (W.table.names.temporary y) t None
  pub objects : (k n l q : ℕ) (p : CallPath) (i : ℕ) (h : Kind) (x : VariableOf) → slice_get W.paths k ≡ Some p → i < (W.ends k).objects → good.kind_among (part.body_at W.unit p.function).locals i ≡ Some h
      → IsOwn (place W k n p.function l q) ((W.ends k).numbers i) x → IsObjectOf (place W k n p.function l q) i x → Has W.table (W.table.names.object k i ((W.ends k).numbers i)) h.int_type h.length
  pub results : (k n l q : ℕ) (p : CallPath) (t : IntType) → slice_get W.paths k ≡ Some p → (part.function_at W.unit p.function).returns ≡ Some t → IsOwn (place W k n p.function l q) (W.ends k).result (inner None t None k)
      → Has W.table (W.table.names.result k (W.ends k).result) t None
  pub named : (k i : ℕ) → k < length W.paths → i < (W.ends k).objects → W.CanBeNamed ((W.ends k).numbers i)
  pub begun : (k i : ℕ) → k < length W.paths → i < (W.ends k).objects → W.CanBegin ((W.ends k).numbers i)
  pub shared : (i : ℕ) → i < length W.unit.objects → (i < length W.kinds) × W.CanBeNamed i
  pub outside : (k i : ℕ) (p : CallPath) → slice_get W.paths k ≡ Some p → p.caller ≡ None → i < length (parameters_of W.unit p.function) → W.FromOutside k i

-- before the part of path k is made, where the paths before n have their regions
pub record Plan (W : World) (k n : ℕ) (d : Draft W) : Type 0 where
  pub many : length d.made ≡ length W.kinds
  pub count : length d.regions ≡ length W.paths
  pub kept : (j : ℕ) → j < n → IsMade (base W) j (region_at d.regions j)
  pub unkept : (j : ℕ) → n ≤ j → IsKept d.regions j → ⊥
  pub pending : (j y : ℕ) → k ≤ j → In (base W) d.regions j y → IsFresh d.made y × (y < length W.kinds)
  pub apart : (i j y : ℕ) → k ≤ i → k ≤ j → In (base W) d.regions i y → In (base W) d.regions j y → i ≡ j
  pub parted : (i j q : ℕ) → k ≤ i → k ≤ j → Holds (base W) d.regions i q → Holds (base W) d.regions j q → i ≡ j

-- path k is of a function with a body, and its calls lead to paths from n on
pub record PathIs (W : World) (k n : ℕ) (p : CallPath) : Type 0 where
  pub path : slice_get W.paths k ≡ Some p
  pub function : FunctionTree
  pub body : BodyTree
  pub there : slice_get W.unit.functions p.function ≡ Some function
  pub has : function.body ≡ Some body
  pub is_body : IsBody W.unit function body
  pub below : k < n
  pub leads : (i : ℕ) (c : CallSite) → slice_get body.calls i ≡ Some c → slice_get W.paths (n + i) ≡ Some (path_by k i c.function)

-- ---- one part

pub function_is : (W : World) (k : ℕ) (p : CallPath) → slice_get W.paths k ≡ Some p → function_of W k ≡ p.function
function_is W k p h = ap (λ (q : CallPath). q.function) (get_or_from_slice_get W.paths k p (entry_path 0) h)

pub its_function : (u : UnitTree) (f : ℕ) (g : FunctionTree) → slice_get u.functions f ≡ Some g → part.function_at u f ≡ g
its_function u f g h = get_or_from_slice_get u.functions f g no_function h

pub its_body : (u : UnitTree) (f : ℕ) (g : FunctionTree) (b : BodyTree) → slice_get u.functions f ≡ Some g → g.body ≡ Some b → calls.body_of u f ≡ Some b
unfolding calls.body_of
its_body u f g b h k = ap (option_and_then (λ (x : FunctionTree). x.body)) h ∙ k

pub body_at_is : (u : UnitTree) (f : ℕ) (g : FunctionTree) (b : BodyTree) → slice_get u.functions f ≡ Some g → g.body ≡ Some b → part.body_at u f ≡ b
body_at_is u f g b h k = ap (λ (o : Option BodyTree). unwrap_or o no_body) (its_body u f g b h k)

calls_from : (w : Place) (m : ℕ) (cs : List CallSite) → ((i : ℕ) (c : CallSite) → slice_get cs i ≡ Some c → IsCallee w (w.context.first + (m + i)) c.function) → CallsAre w m (numbered m cs) (m + length cs)
calls_from w m [] h = omega arith
calls_from w m (c ∷ cs) h =
    let at : m + zero ≡ m = omega arith in
    let next : (i : ℕ) → m + suc i ≡ m + 1 + i = λ i. omega arith in
    let end : m + 1 + length cs ≡ m + length (c ∷ cs) = omega arith in (
      refl,
      subst (λ (q : ℕ). IsCallee w (w.context.first + q) c.function) at (h zero c refl),
      subst (CallsAre w (m + 1) (numbered (m + 1) cs)) end (calls_from w (m + 1) cs (λ i d e. subst (λ (q : ℕ). IsCallee w (w.context.first + q) d.function) (next i) (h (suc i) d e))),
    )

-- the region of a path in a plan
abbrev pub limit_of : World → ℕ → Region → ℕ
limit_of W k r = r.variables + (size_of W k).variables

abbrev pub last_of : World → ℕ → Region → ℕ
last_of W k r = r.points + (size_of W k).points

abbrev pub place_at : World → (k n : ℕ) → CallPath → Region → Place
place_at W k n p r = place W k n p.function (limit_of W k r) (last_of W k r)

its_types : (u : UnitTree) (f : ℕ) (g : FunctionTree) → slice_get u.functions f ≡ Some g → g.parameters ≡ parameters_of u f
its_types u f g h = sym (ap (λ (o : Option FunctionTree). unwrap_or (option_map (λ (x : FunctionTree). x.parameters) o) []) h)

from_outside : (W : World) → Lasting W → (k n : ℕ) (p : CallPath) (r : Region) → slice_get W.paths k ≡ Some p → (i : ℕ) (ts : List IntType) → i + length ts ≤ length (parameters_of W.unit p.function) → ComeFromOutside (place_at W k n p r) p.caller i ts
from_outside W l k n p r h i [] m = tt
from_outside W l k n p r h i (t ∷ ts) m = (λ e. l.outside k i p h e (omega (m, arith)), from_outside W l k n p r h (i + 1) ts (omega (m, arith)))

pub part_is : (W : World) → Lasting W → (k n : ℕ) (p : CallPath) (r : Region) → (h : PathIs W k n p) → IsMade (base W) k r → PartIs (place_at W k n p r) (length h.body.calls) h.function h.body p.caller
part_is W l k n p r h made =
    let w = place_at W k n p r in
    let f = p.function in
    let bodies : part.body_at W.unit f ≡ h.body = body_at_is W.unit f h.function h.body h.there h.has in
    let locals : w.context.locals ≡ h.body.locals = ap (λ (b : BodyTree). b.locals) bodies in
    let callee : (i : ℕ) (c : CallSite) → slice_get h.body.calls i ≡ Some c → IsCallee w (n + (0 + i)) c.function = λ i c e.
    let q = h.leads i c e in
    let at : 0 + i ≡ i = omega arith in
    subst (λ (j : ℕ). IsCallee w (n + j) c.function) (sym at) (record { behind = omega (h.below, arith); there = slice_get_within W.paths (n + i) (path_by k i c.function) q; function = function_is W (n + i) (path_by k i c.function) q }) in
    let end : 0 + length h.body.calls ≡ length h.body.calls = omega arith in
    record {
      proper = let there = slice_get_within W.paths k p h.path in record {
        path = there;
        limit = made.variables;
        points = l.points;
        last = made.points;
        files = l.files;
        temporaries = λ y t o e. l.temporaries k n p.function (limit_of W k r) (last_of W k r) y t there o e;
        objects = λ i q x m e o b. l.objects k n (limit_of W k r) (last_of W k r) p i q x h.path m e o b;
        results = λ t e o. l.results k n (limit_of W k r) (last_of W k r) p t h.path e o;
        named = λ i m. l.named k i there m;
        begun = λ i m. l.begun k i there m;
        shared = l.shared;
      };
      locals = locals;
      returns = ap (λ (g : FunctionTree). g.returns) (sym (its_function W.unit f h.function h.there));
      outside = from_outside W l k n p r h.path 0 h.function.parameters (let z = ap length (its_types W.unit p.function h.function h.there) in omega (z, arith));
      parameters = parameters_at w.context.locals h.function.parameters (subst (AreParameters h.function.parameters) (sym locals) h.is_body.parameters);
      items = subst (λ (xs : _). AreItems (record { unit = W.unit; locals = xs; objects = length h.function.parameters }) (record { labels = h.body.labels; returns = h.function.returns; cases = 0; has_default = false }) h.body.items) (sym locals) h.is_body.items;
      calls = subst (λ (xs : List Numbered). CallsAre w 0 xs (length h.body.calls)) (sym h.is_body.calls) (subst (CallsAre w 0 (numbered 0 h.body.calls)) end (calls_from w 0 h.body.calls callee));
    }

-- the parameters of a path's function are its first objects
pub its_parameters : (W : World) (k n : ℕ) (p : CallPath) (h : PathIs W k n p) → ParametersAt (part.body_at W.unit p.function).locals 0 (parameters_of W.unit p.function)
its_parameters W k n p h =
    let locals : (part.body_at W.unit p.function).locals ≡ h.body.locals = ap (λ (b : BodyTree). b.locals) (body_at_is W.unit p.function h.function h.body h.there h.has) in
    let ts : h.function.parameters ≡ parameters_of W.unit p.function = sym (ap (λ (o : Option FunctionTree). unwrap_or (option_map (λ (g : FunctionTree). g.parameters) o) []) h.there) in
    subst (ParametersAt (part.body_at W.unit p.function).locals 0) ts (parameters_at (part.body_at W.unit p.function).locals h.function.parameters (subst (AreParameters h.function.parameters) (sym locals) h.is_body.parameters))

-- the part as it is made
pub part_made_is : (W : World) (k n : ℕ) (p : CallPath) (h : PathIs W k n p) (from : Option Caller) (r : Region) (d : Draft W)
    → part.part (part.context W.unit (sizes W) k n p.function) p.function from r d ≡ made_part (place_at W k n p r) h.function h.body from r d
unfolding part.part
part_made_is W k n p h from r d =
    let c = part.context W.unit (sizes W) k n p.function in
    ap (λ (g : FunctionTree). part.part_of c g (calls.body_of W.unit p.function) from r d) (its_function W.unit p.function h.function h.there)
    ∙ ap (λ (o : Option BodyTree). part.part_of c h.function o from r d) (its_body W.unit p.function h.function h.body h.there h.has)

in_place : (W : World) (k n : ℕ) (p : CallPath) (r : Region) (rs : List Region) (j y : ℕ) → In (place_at W k n p r) rs j y → In (base W) rs j y
in_place W k n p r rs j y i = record { kept = i.kept; from = i.from; to = i.to }

held_in : (W : World) (k n : ℕ) (p : CallPath) (r : Region) (rs : List Region) (j y : ℕ) → Holds (place_at W k n p r) rs j y → Holds (base W) rs j y
held_in W k n p r rs j y i = record { kept = i.kept; from = i.from; to = i.to }

held_from : (W : World) (k n : ℕ) (p : CallPath) (r : Region) (rs : List Region) (j y : ℕ) → Holds (base W) rs j y → Holds (place_at W k n p r) rs j y
held_from W k n p r rs j y i = record { kept = i.kept; from = i.from; to = i.to }

from_place : (W : World) (k n : ℕ) (p : CallPath) (r : Region) (rs : List Region) (j y : ℕ) → In (base W) rs j y → In (place_at W k n p r) rs j y
from_place W k n p r rs j y i = record { kept = i.kept; from = i.from; to = i.to }

made_in : (W : World) (k n : ℕ) (p : CallPath) (r : Region) (j : ℕ) (q : Region) → IsMade (place_at W k n p r) j q → IsMade (base W) j q
made_in W k n p r j q m = record { kept = m.kept; points = m.points; variables = m.variables; files = m.files }

where_is : (y v l : ℕ) → (y < v) ⊎ ((v ≤ y) × (y < l)) ⊎ (l ≤ y)
where_is y v l = elim (split y v) [ inl a ↦ inl a | inr a ↦ elim (split y l) [ inl b ↦ inr (inl (a, b)) | inr b ↦ inr (inr b) ] ]
  where
    split : (i l : ℕ) → (i < l) ⊎ (l ≤ i)
    split i l = grind arith

-- what a number is more than another
more_by : (n j : ℕ) → n ≤ j → (i : ℕ) × (j ≡ n + i)
more_by zero j h = (j, omega arith)
more_by (suc n) zero h = absurd (omega (h, arith))
more_by (suc n) (suc j) h = let r = more_by n j (omega (h, arith)) in (r.0, omega (r.1, arith))

pub replicated : {A : Type 0} (n : ℕ) (x : A) → length (replicate n x) ≡ n
replicated zero x = refl
replicated (suc n) x = ap suc (replicated n x)

-- what holds before the part
pub before_part : (W : World) (k n : ℕ) (p : CallPath) (h : PathIs W k n p) (d : Draft W) → Plan W k n d
    → Before (place_at W k n p (region_at d.regions k)) 0 (length h.body.calls) (begun_here (place_at W k n p (region_at d.regions k)) h.body (region_at d.regions k) d)
before_part W k n p h d plan =
    let r = region_at d.regions k in
    let w = place_at W k n p r in
    let made = plan.kept k h.below in
    record {
      laid = record {
        many = plan.many;
        count = plan.count;
        free = λ y l m. (plan.pending k y (omega arith) (record { kept = made.kept; from = l; to = m })).0;
        pending = λ j y l i. let q = in_place W k n p r d.regions j y i in let a = plan.pending j y (omega (l, arith)) q in (
          a.0,
          a.1,
          elim (where_is y r.variables (limit_of W k r)) [
            | inl o ↦ inl o
            | inr o ↦ elim o [ inl c ↦ absurd (omega (plan.apart k j y (omega arith) (omega (l, arith)) (record { kept = made.kept; from = c.0; to = c.1 }) q, l, arith)) | inr c ↦ inr c ]
          ],
        );
        apart = λ i j y l m a b. plan.apart i j y (omega (l, arith)) (omega (m, arith)) (in_place W k n p r d.regions i y a) (in_place W k n p r d.regions j y b);
        behind = λ j y l i. let q = held_in W k n p r d.regions j y i in elim (where_is y r.points (last_of W k r)) [
          | inl o ↦ inl o
          | inr o ↦ elim o [ inl c ↦ absurd (omega (plan.parted k j y (omega arith) (omega (l, arith)) (record { kept = made.kept; from = c.0; to = c.1 }) q, l, arith)) | inr c ↦ inr c ]
        ];
        parted = λ i j y l m a b. plan.parted i j y (omega (l, arith)) (omega (m, arith)) (held_in W k n p r d.regions i y a) (held_in W k n p r d.regions j y b);
      };
      not_made = λ i l m q. plan.unkept (n + i) (omega arith) q;
      positive = made.kept;
      files = made.files;
      slots = replicated (length w.context.locals + 1) 0;
    }

-- the part ends inside its region
pub below_part : (W : World) → Lasting W → (k n : ℕ) (p : CallPath) (h : PathIs W k n p) (d : Draft W) → Plan W k n d
    → (let r = region_at d.regions k in let e = made_part (place_at W k n p r) h.function h.body p.caller r d in Below (place_at W k n p r) e)
below_part W l k n p h d plan =
    let r = region_at d.regions k in
    let made = plan.kept k h.below in
    let f = p.function in
    let e = part_made_is W k n p h p.caller r d in
    let law = parts_fill_regions W.table.Variable in
    let same : function_of W k ≡ f = function_is W k p h.path in
    let size : size_in (sizes W) f ≡ size_of W k = ap (size_in (sizes W)) (sym same) in
    let v = law.variables W.unit W.paths k n f p.caller r d l.behind (l.listed k p h.path) in
    let q = law.points W.unit W.paths k n f p.caller r d l.behind (l.listed k p h.path) in
    (omega (ap (λ (x : Draft W). x.variables) e, v, ap (λ (s : Size). s.variables) size, arith), omega (ap (λ (x : Draft W). x.points) e, q, ap (λ (s : Size). s.points) size, made.points, arith), omega (ap (λ (x : Draft W). x.points) e, q, ap (λ (s : Size). s.points) size, arith))

pub plan_next : (W : World) → Lasting W → (k n : ℕ) (p : CallPath) (h : PathIs W k n p) (d : Draft W) → Plan W k n d
    → (let r = region_at d.regions k in let e = made_part (place_at W k n p r) h.function h.body p.caller r d in Plan W (k + 1) (n + length h.body.calls) e)
plan_next W l k n p h d plan =
    let r = region_at d.regions k in
    let w = place_at W k n p r in
    let e = made_part w h.function h.body p.caller r d in
    let m = length h.body.calls in
    let s = part_step w m h.function h.body p.caller (part_is W l k n p r h (plan.kept k h.below)) r d in
    let a = s.after (before_part W k n p h d plan) (below_part W l k n p h d plan) in
    record {
      many = a.laid.many;
      count = a.laid.count;
      kept = λ j c. which j (split j n) c a;
      unkept = λ j c q. plan.unkept j (omega (c, arith)) (subst (λ (x : Region). 0 < x.points) (a.same j (inr (omega (c, arith)))) q);
      pending = λ j y c i. let q = a.laid.pending j y (omega (c, arith)) (from_place W k n p r e.regions j y i) in (q.0, q.1);
      apart = λ i j y c o x z. a.laid.apart i j y (omega (c, arith)) (omega (o, arith)) (from_place W k n p r e.regions i y x) (from_place W k n p r e.regions j y z);
      parted = λ i j y c o x z. a.laid.parted i j y (omega (c, arith)) (omega (o, arith)) (held_from W k n p r e.regions i y x) (held_from W k n p r e.regions j y z);
    }
  where
    split : (i l : ℕ) → (i < l) ⊎ (l ≤ i)
    split i l = grind arith

    which : (j : ℕ) → (j < n) ⊎ (n ≤ j) → j < n + length h.body.calls
        → After (place_at W k n p (region_at d.regions k)) 0 (length h.body.calls) (begun_here (place_at W k n p (region_at d.regions k)) h.body (region_at d.regions k) d) (made_part (place_at W k n p (region_at d.regions k)) h.function h.body p.caller (region_at d.regions k) d)
        → IsMade (base W) j (region_at (made_part (place_at W k n p (region_at d.regions k)) h.function h.body p.caller (region_at d.regions k) d).regions j)
    which j (inl o) c a = subst (IsMade (base W) j) (sym (a.same j (inl (omega (o, arith))))) (plan.kept j o)
    which j (inr o) c a =
        let q = more_by n j o in
        let r = region_at d.regions k in
        let e = made_part (place_at W k n p r) h.function h.body p.caller r d in
        subst (λ (x : ℕ). IsMade (base W) x (region_at e.regions x)) (sym q.1) (made_in W k n p r (n + q.0) (region_at e.regions (n + q.0)) (a.made q.0 (omega arith) (omega (q.1, c, arith))))

-- ---- drafts between parts

pub record Foreknown (W : World) (d : Draft W) : Type 0 where
  pub made : MadeIs (base W) d.made
  pub regions : (j : ℕ) → IsKept d.regions j → Promised (base W) j (function_of W j) (region_at d.regions j).variables × ((region_at d.regions j).points < W.points)
  pub edges : All W.IsEdge d.edges

pub record AllTyped (W : World) (d : Draft W) : Type 0 where
  pub names : d.names ≡ W.table.names
  pub labels : LabelsAre (base W) d.labels
  pub scopes : All (λ (s : Scope). (s.entry.variable < length W.kinds) × W.CanBeNamed s.entry.variable) d.scopes
  pub chain : AreChained d.scopes
  pub files : W.files ≤ length d.scopes
  pub starts : All (λ (x : VariableOf). IsStartOf x x.start) d.made
  pub zeros : (y : ℕ) → ((variable_in d.made y).start ≡ number_start []) ⊎ W.CanBegin y
  pub edges : All (EdgeIs (base W)) d.edges
  pub places : PlacesAre (base W) d.regions

pub all_map : {A : Type 0} (P Q : A → Type 0) (xs : List A) → ((x : A) → P x → Q x) → All P xs → All Q xs
all_map P Q xs f h k d l = f (slice_index_or xs k d) (h k d l)

other_in : (W : World) (k n : ℕ) (p : CallPath) (r : Region) (q : ℕ) (i : InstrOf W.table.Variable) → HasOtherWay (base W) q i → HasOtherWay (place_at W k n p r) q i
other_in W k n p r q Skip h = tt
other_in W k n p r q (Set x e) h = absurd h
other_in W k n p r q (Havoc x t c) h = absurd h
other_in W k n p r q (Clear a) h = absurd h
other_in W k n p r q (Load x a s b i) h = absurd h
other_in W k n p r q (Store a s b i e) h = absurd h
other_in W k n p r q (Guard e b) h = h
other_in W k n p r q (Check s e) h = absurd h

other_from : (W : World) (k n : ℕ) (p : CallPath) (r : Region) (q : ℕ) (i : InstrOf W.table.Variable) → HasOtherWay (place_at W k n p r) q i → HasOtherWay (base W) q i
other_from W k n p r q Skip h = tt
other_from W k n p r q (Set x e) h = absurd h
other_from W k n p r q (Havoc x t c) h = absurd h
other_from W k n p r q (Clear a) h = absurd h
other_from W k n p r q (Load x a s b i) h = absurd h
other_from W k n p r q (Store a s b i e) h = absurd h
other_from W k n p r q (Guard e b) h = h
other_from W k n p r q (Check s e) h = absurd h

pub begins_typed : (W : World) (k n : ℕ) (p : CallPath) (r : Region) (b : BodyTree) (d : Draft W) → r.at < W.points → b.visible ≤ W.files → AllTyped W d → Typed (place_at W k n p r) (record { objects = 0; result = None }) (begun_here (place_at W k n p r) b r d)
begins_typed W k n p r b d l visible t =
    let w = place_at W k n p r in
    record {
      names = t.names;
      point = l;
      here = refl;
      scope = let z = t.files in omega (z, visible, arith);
      chain = t.chain;
      labels = record { many = t.labels.many; paths = t.labels.paths };
      scopes = t.scopes;
      starts = t.starts;
      zeros = t.zeros;
      edges = all_map (EdgeIs (base W)) (EdgeIs w) d.edges (λ e h. record { from = h.from; to = h.to; typed = h.typed; other = λ z. other_in W k n p r e.from e.instr (h.other z) }) t.edges;
      objects = record { many = replicated (length w.context.locals + 1) 0; each = λ i c. absurd (omega (c, arith)); result = tt; kinds = λ i c. absurd (omega (c, arith)); below = λ i c. absurd (omega (c, arith)); result_below = tt; rising = λ i j a c. absurd (omega (c, arith)); result_apart = λ i c. absurd (omega (c, arith)) };
      places = t.places;
    }

ends_typed : (W : World) (k n : ℕ) (p : CallPath) (r : Region) (s : Stage) (d : Draft W) → W.files ≤ length d.scopes → Typed (place_at W k n p r) s d → AllTyped W d
ends_typed W k n p r s d many t =
    let w = place_at W k n p r in
    record {
      names = t.names;
      labels = record { many = t.labels.many; paths = t.labels.paths };
      scopes = t.scopes;
      chain = t.chain;
      files = many;
      starts = t.starts;
      zeros = t.zeros;
      edges = all_map (EdgeIs w) (EdgeIs (base W)) d.edges (λ e h. record { from = h.from; to = h.to; typed = h.typed; other = λ z. other_from W k n p r e.from e.instr (h.other z) }) t.edges;
      places = t.places;
    }

promised_at : (W : World) (k n : ℕ) (p : CallPath) (r : Region) (j f v : ℕ) → Promised (base W) j f v → Promised (place_at W k n p r) j f v
promised_at W k n p r j f v h = record { parameters = h.parameters; result = h.result }

promised_in : (W : World) (k n : ℕ) (p : CallPath) (r : Region) (j f v : ℕ) → Promised (place_at W k n p r) j f v → Promised (base W) j f v
promised_in W k n p r j f v h = record { parameters = h.parameters; result = h.result }

-- What becomes of the objects of path k is what has become of them behind its part.
abbrev pub EndsAre : (W : World) (k n : ℕ) (p : CallPath) → (r : Region) → FunctionTree → BodyTree → Draft W → Type 0
EndsAre W k n p r g b e = ObjectsForeseen (place_at W k n p r) (ends g b) e.variables e.objects

-- ---- what callers rely on

-- what has been made for the callers of a path
pub record PathMade (W : World) (j : ℕ) (p : CallPath) (d : Draft W) : Type 0 where
  pub parameters : AreWritten (part.body_at W.unit p.function).locals j p.caller d.made 0 (region_at d.regions j).variables (parameters_of W.unit p.function)
  pub result : IsWrittenIf j d.made ((region_at d.regions j).variables + length (parameters_of W.unit p.function)) (returned_by W.unit p.function)
  pub points : (region_at d.regions j).points < W.points
  pub declared : length (parameters_of W.unit p.function) ≤ (W.ends j).objects
  pub numbers : (i : ℕ) → i < length (parameters_of W.unit p.function) → (W.ends j).numbers i ≡ (region_at d.regions j).variables + i
  pub result_number : ResultIs (returned_by W.unit p.function) (λ y. (W.ends j).result ≡ y) ((region_at d.regions j).variables + length (parameters_of W.unit p.function))

pub path_stays : (W : World) (j : ℕ) (p : CallPath) (d e : Draft W) → Stays d.made e.made → region_at e.regions j ≡ region_at d.regions j → PathMade W j p d → PathMade W j p e
path_stays W j p d e s r h =
    let v : (region_at e.regions j).variables ≡ (region_at d.regions j).variables = ap (λ (x : Region). x.variables) r in
    let ts = parameters_of W.unit p.function in
    record {
      parameters = subst (λ (x : ℕ). AreWritten (part.body_at W.unit p.function).locals j p.caller e.made 0 x ts) (sym v) (all_stay (part.body_at W.unit p.function).locals j p.caller d.made e.made 0 (region_at d.regions j).variables ts s h.parameters);
      result = subst (λ (x : ℕ). IsWrittenIf j e.made (x + length ts) (returned_by W.unit p.function)) (sym v) (if_stays j d.made e.made ((region_at d.regions j).variables + length ts) (returned_by W.unit p.function) s h.result);
      points = subst (λ (x : Region). x.points < W.points) (sym r) h.points;
      declared = h.declared;
      numbers = λ i l. subst (λ (x : ℕ). (W.ends j).numbers i ≡ x + i) (sym v) (h.numbers i l);
      result_number = subst (λ (x : ℕ). ResultIs (returned_by W.unit p.function) (λ y. (W.ends j).result ≡ y) (x + length ts)) (sym v) h.result_number;
    }

pub path_made : (W : World) → Lasting W → (k n : ℕ) (p : CallPath) (h : PathIs W k n p) (d : Draft W) → Plan W k n d
    → (let r = region_at d.regions k in let e = made_part (place_at W k n p r) h.function h.body p.caller r d in EndsAre W k n p r h.function h.body e → PathMade W k p e)
path_made W l k n p h d plan = λ o.
    let r = region_at d.regions k in
    let w = place_at W k n p r in
    let e = made_part w h.function h.body p.caller r d in
    let m = length h.body.calls in
    let is = part_is W l k n p r h (plan.kept k h.below) in
    let b = before_part W k n p h d plan in
    let y = below_part W l k n p h d plan in
    let s = part_step w m h.function h.body p.caller is r d in
    let a = s.after b y in
    let made = part_made w m h.function h.body p.caller is r d b y o in
    let same : region_at e.regions k ≡ r = a.same k (inl (omega (h.below, arith))) in
    let ts : h.function.parameters ≡ parameters_of W.unit p.function = sym (ap (λ (o : Option FunctionTree). unwrap_or (option_map (λ (g : FunctionTree). g.parameters) o) []) h.there) in
    let rs : h.function.returns ≡ returned_by W.unit p.function = sym (ap (option_and_then (λ (g : FunctionTree). g.returns)) h.there) in
    record {
      parameters = subst (λ (x : Region). AreWritten w.context.locals k p.caller e.made 0 x.variables (parameters_of W.unit p.function)) (sym same) (subst (AreWritten w.context.locals k p.caller e.made 0 r.variables) ts made.parameters);
      result = subst (λ (x : Region). IsWrittenIf k e.made (x.variables + length (parameters_of W.unit p.function)) (returned_by W.unit p.function)) (sym same)
          (subst (λ (x : List IntType). IsWrittenIf k e.made (r.variables + length x) (returned_by W.unit p.function)) ts (subst (IsWrittenIf k e.made (r.variables + length h.function.parameters)) rs made.result));
      points = subst (λ (x : Region). x.points < W.points) (sym same) (omega (part_points w m h.function h.body p.caller is r d, y.1, arith));
      declared = subst (λ (x : List IntType). length x ≤ (W.ends k).objects) ts made.declared;
      numbers = λ i c.
          let q : (W.ends k).numbers i ≡ r.variables + i = made.numbers i (subst (λ (x : List IntType). i < length x) (sym ts) c) in
          subst (λ (x : Region). (W.ends k).numbers i ≡ x.variables + i) (sym same) q;
      result_number = subst (λ (x : Region). ResultIs (returned_by W.unit p.function) (λ y. (W.ends k).result ≡ y) (x.variables + length (parameters_of W.unit p.function))) (sym same)
          (subst (λ (x : List IntType). ResultIs (returned_by W.unit p.function) (λ y. (W.ends k).result ≡ y) (r.variables + length x)) ts (subst (λ (x : Option IntType). ResultIs x (λ y. (W.ends k).result ≡ y) (r.variables + length h.function.parameters)) rs made.result_number));
    }

-- what is known behind the part of a path, seen from it
pub seen_at : (W : World) (k n : ℕ) (p : CallPath) (r : Region) (g : FunctionTree) (b : BodyTree) (e : Draft W) → EndsAre W k n p r g b e → Foreknown W e → Foreseen (place_at W k n p r) (ends g b) e
seen_at W k n p r g b e o f = record {
  made = f.made;
  regions = λ j c q. let z = f.regions j q in (promised_at W k n p r j (function_of W j) (region_at e.regions j).variables z.0, z.1);
  objects = o;
  edges = f.edges;
}

-- from before the part of a path to behind it
pub record OnePart (W : World) (n : ℕ) (d e : Draft W) : Type 0 where
  pub regions : (j : ℕ) → j < n → region_at e.regions j ≡ region_at d.regions j
  pub low : (y : ℕ) → y < W.files → variable_in e.made y ≡ variable_in d.made y
  pub stays : Stays d.made e.made
  pub scopes : Grown d.scopes e.scopes
  pub foreknown : Foreknown W e → Foreknown W d
  pub typed : Foreknown W e → AllTyped W d → AllTyped W e

pub one_part : (W : World) → Lasting W → (k n : ℕ) (p : CallPath) (h : PathIs W k n p) (d : Draft W) → Plan W k n d
    → (let r = region_at d.regions k in let e = made_part (place_at W k n p r) h.function h.body p.caller r d in EndsAre W k n p r h.function h.body e → OnePart W n d e)
one_part W l k n p h d plan = λ end.
    let r = region_at d.regions k in
    let w = place_at W k n p r in
    let e = made_part w h.function h.body p.caller r d in
    let m = length h.body.calls in
    let is = part_is W l k n p r h (plan.kept k h.below) in
    let b = before_part W k n p h d plan in
    let y = below_part W l k n p h d plan in
    let s = part_step w m h.function h.body p.caller is r d in
    let a = s.after b y in
    let seen : Foreknown W e → Foreseen w (ends h.function h.body) e = seen_at W k n p r h.function h.body e end in
    record {
      regions = λ j c. a.same j (inl (omega (c, arith)));
      low = λ i c. a.low i (omega (c, (plan.kept k h.below).files, arith));
      stays = a.old;
      scopes = s.scopes;
      foreknown = λ f. let g = s.before b y (seen f) in record {
        made = g.made;
        regions = λ j q. elim (split k j) [
          | inl c ↦ (let z = g.regions j c q in (promised_in W k n p r j (function_of W j) (region_at d.regions j).variables z.0, z.1))
          | inr c ↦ (let same : region_at e.regions j ≡ region_at d.regions j = a.same j (inl (omega (c, h.below, arith))) in
              subst (λ (x : Region). Promised (base W) j (function_of W j) x.variables × (x.points < W.points)) same (f.regions j (subst (λ (x : Region). 0 < x.points) (sym same) q)))
        ];
        edges = g.edges;
      };
      typed = λ f t. ends_typed W k n p r (ends h.function h.body) e (let x = s.scopes.many in let z = t.files in omega (x, z, arith)) (s.typed b y (seen f) (begins_typed W k n p r h.body d (t.places k (plan.kept k h.below).kept) (let z = h.is_body.visible in let q = l.objects_of_file in omega (z, q, arith)) t) tt).0;
    }
  where
    split : (i l : ℕ) → (i < l) ⊎ (l ≤ i)
    split i l = grind arith
