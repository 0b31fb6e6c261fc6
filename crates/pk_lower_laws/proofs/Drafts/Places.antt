-- A part of a draft that is made while what becomes of all variables is known: what holds of the draft before and after a step.
use Rattle.std.proofs.Common.{◌≡◌, ℕ, ◌+◌, ◌<◌, ◌≤◌, ◌⊎◌, inl, inr, List, [], ◌∷◌, Option, Some, None, length, ap, sym, subst, ◌∙◌, arith, slice_index_or, not}
use Rattle.std.specs.Prelude.{All, slice_get}
use Rattle.std.specs.Option.{option_and_then}
use Rattle.pk_ctypes.specs.declared.types.IntType.{IntType}
use Rattle.pk_typed.specs.Trees.{LocalTree, FunctionTree, UnitTree}
use Rattle.pk_graph.specs.declared.graphs.Scope.{Scope}
use Rattle.pk_graph.specs.Kinds.{Kinds, count_of, Kind}
use Rattle.pk_graph.specs.Graphs.{VariableOf, no_variable, number_start}
use Rattle.pk_graph.specs.Trees.{InstrOf, Skip, Set, Havoc, Clear, Load, Store, Guard, Check}
use Rattle.pk_graph.specs.WellMade.{IsStartOf}
use Rattle.pk_draft.specs.declared.drafts.Region.{Region}
use Rattle.pk_draft.specs.declared.drafts.Label.{Label}
use Rattle.pk_draft.specs.Drafts.{DraftOf, EdgeFrom, no_region, nowhere, inner}
use Rattle.pk_lower_row.specs.Contexts.{Context, size_in, parameters_of}
use Rattle.pk_lower.specs.Parts.{entry_parameter}
use Rattle.pk_welltyped.specs.WellTyped as good
use Rattle.pk_lower_laws.proofs.Drafts.Tables.{Table, IsTypedInstr}
use Rattle.pk_typed.specs.Defaults.{no_local}

-- What becomes of a path's objects: how many it declares, the variable of each, and that of its result.
pub record Ends : Type 0 where
  pub objects : ℕ
  pub numbers : ℕ → ℕ
  pub result : ℕ

-- The path whose part is made; the table of the variables, and by their numbers what they are in the end and their kinds; the edges of the whole draft; how many points and paths there are, the function of each path, where the path's regions of variables and of points end, and how many objects the file has; what becomes of the path's objects; which variables may come into scope, and which may begin with something else than 0; which objects get any value from outside.
pub record Place : Type 1 where
  pub context : Context
  pub table : Table
  pub kinds : Kinds
  pub final : ℕ → VariableOf
  pub IsEdge : EdgeFrom table.Variable → Type 0
  pub points : ℕ
  pub paths : ℕ
  pub function : ℕ → ℕ
  pub limit : ℕ
  pub last : ℕ
  pub files : ℕ
  pub ends : Ends
  pub CanBeNamed : ℕ → Type 0
  pub CanBegin : ℕ → Type 0
  pub FromOutside : ℕ → Type 0

abbrev pub D : Place → Type 0
D w = DraftOf w.table.Variable

-- ---- variables

-- a variable of the kind
pub record Has (ks : Table) (x : ks.Variable) (t : IntType) (n : Option ℕ) : Type 0 where
  pub there : ks.is_there x
  pub kind : ks.kind x ≡ record { int_type = t; length = n }

abbrev pub HasIf : (ks : Table) → ks.Variable → Option IntType → Type 0
HasIf ks x None = Unit {0}
HasIf ks x (Some t) = Has ks x t None

-- the objects of path j from number i on are scalars of the types, whose variables are those from x on
abbrev pub HasAll : (ks : Table) → (j i x : ℕ) → List IntType → Type 0
HasAll ks j i x [] = Unit {0}
HasAll ks j i x (t ∷ ts) = Has ks (ks.names.object j i x) t None × HasAll ks j (i + 1) (x + 1) ts

-- what an object of a path is as a variable: it holds 0 when a run begins, or any number from outside
abbrev pub inner_object : List LocalTree → (path i : ℕ) → VariableOf
inner_object xs k i = let x = slice_index_or xs i no_local in inner x.name x.int_type x.length k

abbrev pub outer_object : List LocalTree → (path i : ℕ) → VariableOf
outer_object xs k i = let x = slice_index_or xs i no_local in entry_parameter x.name x.int_type x.length k

abbrev pub IsObjectOf : Place → ℕ → VariableOf → Type 0
IsObjectOf w i x = (x ≡ inner_object w.context.locals w.context.path i) ⊎ (w.FromOutside i × (x ≡ outer_object w.context.locals w.context.path i))

-- by its number: this in the end
pub record IsOwn (w : Place) (y : ℕ) (x : VariableOf) : Type 0 where
  pub there : y < length w.kinds
  pub is : w.final y ≡ x

abbrev pub returned_by : UnitTree → ℕ → Option IntType
returned_by u f = option_and_then (λ (g : FunctionTree). g.returns) (slice_get u.functions f)

-- what the callers of path j, of a function, rely on, whose variables begin at v
pub record Promised (w : Place) (j f v : ℕ) : Type 0 where
  pub parameters : HasAll w.table j 0 v (parameters_of w.context.unit f)
  pub result : HasIf w.table (w.table.names.result j (v + length (parameters_of w.context.unit f))) (returned_by w.context.unit f)

-- ---- what has been made of variables and regions

abbrev pub region_at : List Region → ℕ → Region
region_at rs j = slice_index_or rs j no_region

abbrev pub IsKept : List Region → ℕ → Type 0
IsKept rs j = 0 < (region_at rs j).points

-- variable y is kept for the path, point q is
pub record In (w : Place) (rs : List Region) (j y : ℕ) : Type 0 where
  pub kept : IsKept rs j
  pub from : (region_at rs j).variables ≤ y
  pub to : y < (region_at rs j).variables + (size_in w.context.sizes (w.function j)).variables

pub record Holds (w : Place) (rs : List Region) (j q : ℕ) : Type 0 where
  pub kept : IsKept rs j
  pub from : (region_at rs j).points ≤ q
  pub to : q < (region_at rs j).points + (size_in w.context.sizes (w.function j)).points

abbrev pub variable_in : List VariableOf → ℕ → VariableOf
variable_in ms y = slice_index_or ms y no_variable

abbrev pub IsFresh : List VariableOf → ℕ → Type 0
IsFresh ms y = (variable_in ms y).path ≡ None

-- The variables from v on to the region's end are free, and those that are kept for later paths, none twice; so with points from p on.
pub record Laid (w : Place) (v p : ℕ) (ms : List VariableOf) (rs : List Region) : Type 0 where
  pub many : length ms ≡ length w.kinds
  pub count : length rs ≡ w.paths
  pub free : (y : ℕ) → v ≤ y → y < w.limit → IsFresh ms y
  pub pending : (j y : ℕ) → w.context.path < j → In w rs j y → IsFresh ms y × (y < length w.kinds) × ((y < v) ⊎ (w.limit ≤ y))
  pub apart : (i j y : ℕ) → w.context.path < i → w.context.path < j → In w rs i y → In w rs j y → i ≡ j
  pub behind : (j q : ℕ) → w.context.path < j → Holds w rs j q → (q < p) ⊎ (w.last ≤ q)
  pub parted : (i j q : ℕ) → w.context.path < i → w.context.path < j → Holds w rs i q → Holds w rs j q → i ≡ j

-- ---- what has been made of points and edges

-- an edge to nowhere is a guard or does nothing; beside a guard stands its other way
abbrev pub HasOtherWay : (w : Place) → ℕ → InstrOf w.table.Variable → Type 0
HasOtherWay w p Skip = Unit {0}
HasOtherWay w p (Set x e) = ⊥
HasOtherWay w p (Havoc x t n) = ⊥
HasOtherWay w p (Clear a) = ⊥
HasOtherWay w p (Load x a s b i) = ⊥
HasOtherWay w p (Store a s b i e) = ⊥
HasOtherWay w p (Guard e b) = (q : ℕ) × w.IsEdge (record { from = p; instr = Guard e (not b); to = q }) × (q ≡ nowhere → ⊥)
HasOtherWay w p (Check s e) = ⊥

pub record EdgeIs (w : Place) (e : EdgeFrom w.table.Variable) : Type 0 where
  pub from : e.from < w.points
  pub to : e.to < w.points
  pub typed : IsTypedInstr w.table e.instr
  pub other : e.to ≡ nowhere → HasOtherWay w e.from e.instr

pub record LabelsAre (w : Place) (ls : List Label) : Type 0 where
  pub many : length ls ≡ w.points
  pub paths : All (λ (l : Label). l.path < w.paths) ls

-- how many objects are declared, and of which type the result is, where it is made
pub record Stage : Type 0 where
  pub objects : ℕ
  pub result : Option IntType

abbrev pub own_number : List ℕ → ℕ → ℕ
own_number os i = slice_index_or os i 0

-- the result's variable, where it is made, is such
abbrev pub ResultIs : Option IntType → (ℕ → Type 0) → ℕ → Type 0
ResultIs None P y = Unit {0}
ResultIs (Some t) P y = P y

-- the objects of the function so far, and its result, whose variables are below v
pub record ObjectsAre (w : Place) (s : Stage) (v : ℕ) (os : List ℕ) : Type 0 where
  pub many : length os ≡ length w.context.locals + 1
  pub each : (i : ℕ) → i < s.objects → (k : Kind) → good.kind_among w.context.locals i ≡ Some k → Has w.table (w.table.names.object w.context.path i (own_number os i)) k.int_type k.length
  pub result : HasIf w.table (w.table.names.result w.context.path (own_number os (length w.context.locals))) s.result
  pub kinds : (i : ℕ) → i < s.objects → (k : Kind) × (good.kind_among w.context.locals i ≡ Some k) × (0 < count_of k.length)
  pub below : (i : ℕ) → i < s.objects → own_number os i < v
  pub rising : (i j : ℕ) → i < j → j < s.objects → own_number os i < own_number os j
  pub result_apart : (i : ℕ) → i < s.objects → ResultIs s.result (λ y. own_number os i ≡ y → ⊥) (own_number os (length w.context.locals))
  pub result_below : ResultIs s.result (λ y. y < v) (own_number os (length w.context.locals))

-- the points where regions are entered are there
abbrev pub PlacesAre : Place → List Region → Type 0
PlacesAre w rs = (j : ℕ) → IsKept rs j → (region_at rs j).at < w.points

-- a scope is around earlier ones alone
abbrev pub AreChained : List Scope → Type 0
AreChained ss = (n : ℕ) (z : Scope) → slice_get ss n ≡ Some z → z.outer ≤ n

-- scopes are only added
pub record Grown (ss us : List Scope) : Type 0 where
  pub many : length ss ≤ length us
  pub stay : (n : ℕ) (z : Scope) → slice_get ss n ≡ Some z → slice_get us n ≡ Some z

pub same_scopes : (ss us : List Scope) → us ≡ ss → Grown ss us
same_scopes ss us e = record { many = let z = ap length e in omega (z, arith); stay = λ n z h. ap (λ (xs : List Scope). slice_get xs n) e ∙ h }

pub grown_both : (ss us vs : List Scope) → Grown ss us → Grown us vs → Grown ss vs
grown_both ss us vs a b = record { many = let x = a.many in let y = b.many in omega (x, y, arith); stay = λ n z h. b.stay n z (a.stay n z h) }

pub record Typed (w : Place) (n : Stage) (d : D w) : Type 0 where
  pub names : d.names ≡ w.table.names
  pub point : d.point < w.points
  pub here : d.here.path ≡ w.context.path
  pub scope : d.here.scope ≤ length d.scopes
  pub chain : AreChained d.scopes
  pub labels : LabelsAre w d.labels
  pub scopes : All (λ (s : Scope). (s.entry.variable < length w.kinds) × w.CanBeNamed s.entry.variable) d.scopes
  pub starts : All (λ (x : VariableOf). IsStartOf x x.start) d.made
  pub zeros : (y : ℕ) → ((variable_in d.made y).start ≡ number_start []) ⊎ w.CanBegin y
  pub edges : All (EdgeIs w) d.edges
  pub objects : ObjectsAre w n d.variables d.objects
  pub places : PlacesAre w d.regions

-- What is known of the end of the path's objects: the variables of those that have been declared, and that the others come later.
pub record ObjectsForeseen (w : Place) (s : Stage) (v : ℕ) (os : List ℕ) : Type 0 where
  pub declared : s.objects ≤ w.ends.objects
  pub objects : (i : ℕ) → i < s.objects → w.ends.numbers i ≡ own_number os i
  pub result : ResultIs s.result (λ y. w.ends.result ≡ y) (own_number os (length w.context.locals))
  pub later : (i : ℕ) → s.objects ≤ i → i < w.ends.objects → v ≤ w.ends.numbers i
  pub result_later : s.result ≡ None → v ≤ w.ends.result

-- of the variables of paths that have been made: they stay so
abbrev pub MadeIs : Place → List VariableOf → Type 0
MadeIs w ms = (y k : ℕ) → (variable_in ms y).path ≡ Some k → w.final y ≡ variable_in ms y

-- of the later paths: what they make
abbrev pub RegionsForeseen : Place → List Region → Type 0
RegionsForeseen w rs = (j : ℕ) → w.context.path < j → IsKept rs j → Promised w j (w.function j) (region_at rs j).variables × ((region_at rs j).points < w.points)

-- what is known of the end; the edges are the whole draft's
pub record Foreseen (w : Place) (s : Stage) (d : D w) : Type 0 where
  pub made : MadeIs w d.made
  pub regions : RegionsForeseen w d.regions
  pub objects : ObjectsForeseen w s d.variables d.objects
  pub edges : All w.IsEdge d.edges

-- no object of the path
pub record IsNoObject (w : Place) (y : ℕ) : Type 0 where
  pub objects : (i : ℕ) → i < w.ends.objects → w.ends.numbers i ≡ y → ⊥
  pub result : w.ends.result ≡ y → ⊥

-- what is so all along
pub record Proper (w : Place) : Type 0 where
  pub path : w.context.path < w.paths
  pub limit : w.limit ≤ length w.kinds
  pub points : 0 < w.points
  pub last : w.last ≤ w.points
  pub files : (i : ℕ) (k : Kind) → good.kind_in_file w.context.unit i ≡ Some k → Has w.table (w.table.names.file i) k.int_type k.length
  pub temporaries : (y : ℕ) (t : IntType) → IsOwn w y (inner None t None w.context.path) → IsNoObject w y → Has w.table (w.table.names.temporary y) t None
  pub objects : (i : ℕ) (k : Kind) (x : VariableOf) → i < w.ends.objects → good.kind_among w.context.locals i ≡ Some k → IsOwn w (w.ends.numbers i) x → IsObjectOf w i x
      → Has w.table (w.table.names.object w.context.path i (w.ends.numbers i)) k.int_type k.length
  pub results : (t : IntType) → w.context.returns ≡ Some t → IsOwn w w.ends.result (inner None t None w.context.path) → Has w.table (w.table.names.result w.context.path w.ends.result) t None
  pub named : (i : ℕ) → i < w.ends.objects → w.CanBeNamed (w.ends.numbers i)
  pub begun : (i : ℕ) → i < w.ends.objects → w.CanBegin (w.ends.numbers i)
  pub shared : (i : ℕ) → i < length w.context.unit.objects → (i < length w.kinds) × w.CanBeNamed i

-- ---- steps

abbrev pub Below : (w : Place) → D w → Type 0
Below w d = (d.variables ≤ w.limit) × (d.points ≤ w.points) × (d.points ≤ w.last)

-- calls m to n of the function aren't made yet
abbrev pub NotMade : Place → (m n : ℕ) → List Region → Type 0
NotMade w m n rs = (i : ℕ) → m ≤ i → i < n → IsKept rs (w.context.first + i) → ⊥

pub record Before (w : Place) (m n : ℕ) (d : D w) : Type 0 where
  pub laid : Laid w d.variables d.points d.made d.regions
  pub not_made : NotMade w m n d.regions
  pub positive : 0 < d.points
  pub files : w.files ≤ d.variables
  pub slots : length d.objects ≡ length w.context.locals + 1

-- a region that is kept for a path, inside those that are there
pub record IsMade (w : Place) (j : ℕ) (r : Region) : Type 0 where
  pub kept : 0 < r.points
  pub points : r.points + (size_in w.context.sizes (w.function j)).points ≤ w.points
  pub variables : r.variables + (size_in w.context.sizes (w.function j)).variables ≤ length w.kinds
  pub files : w.files ≤ r.variables

pub record After (w : Place) (m n : ℕ) (d e : D w) : Type 0 where
  pub laid : Laid w e.variables e.points e.made e.regions
  pub same : (j : ℕ) → (j < w.context.first + m) ⊎ (w.context.first + n ≤ j) → region_at e.regions j ≡ region_at d.regions j
  pub made : (i : ℕ) → m ≤ i → i < n → IsMade w (w.context.first + i) (region_at e.regions (w.context.first + i))
  pub low : (y : ℕ) → y < d.variables → variable_in e.made y ≡ variable_in d.made y
  pub old : (y k : ℕ) → (variable_in d.made y).path ≡ Some k → variable_in e.made y ≡ variable_in d.made y
  pub slots : length e.objects ≡ length d.objects

-- From d to e calls m to n are made, and objects i to k declared; P is asked, Q is given.
pub record Step (w : Place) (m n : ℕ) (i k : Stage) (d e : D w) (P Q : Type 0) : Type 0 where
  pub order : m ≤ n
  pub variables : d.variables ≤ e.variables
  pub points : d.points ≤ e.points
  pub scopes : Grown d.scopes e.scopes
  pub after : Before w m n d → Below w e → After w m n d e
  pub objects : Before w m n d → Below w e → ObjectsForeseen w k e.variables e.objects → ObjectsForeseen w i d.variables d.objects
  pub before : Before w m n d → Below w e → Foreseen w k e → Foreseen w i d
  pub typed : Before w m n d → Below w e → Foreseen w k e → Typed w i d → P → Typed w k e × Q

below_before : (w : Place) (d e : D w) → d.variables ≤ e.variables → d.points ≤ e.points → Below w e → Below w d
below_before w d e v p b = (omega (v, b.0, arith), omega (p, b.1, arith), omega (p, b.2, arith))

before_first : (w : Place) (m l n : ℕ) (d : D w) → l ≤ n → Before w m n d → Before w m l d
before_first w m l n d o b = record { laid = b.laid; not_made = λ i a c k. b.not_made i a (omega (c, o, arith)) k; positive = b.positive; files = b.files; slots = b.slots }

before_second : (w : Place) (m l n : ℕ) (d e : D w) → m ≤ l → d.variables ≤ e.variables → d.points ≤ e.points → Before w m n d → After w m l d e → Before w l n e
before_second w m l n d e o v p b a = record {
  laid = a.laid;
  not_made = λ i c f k. b.not_made i (omega (o, c, arith)) f (subst (λ (r : Region). 0 < r.points) (a.same (w.context.first + i) (inr (omega (c, arith)))) k);
  positive = omega (b.positive, p, arith);
  files = omega (b.files, v, arith);
  slots = a.slots ∙ b.slots;
}

after_both : (w : Place) (m l n : ℕ) (d e g : D w) → m ≤ l → l ≤ n → d.variables ≤ e.variables → After w m l d e → After w l n e g → After w m n d g
after_both w m l n d e g o p v a b = record {
  laid = b.laid;
  same = λ j c. both j c;
  made = λ i x y. made i x y;
  low = λ y x. b.low y (omega (x, v, arith)) ∙ a.low y x;
  old = λ y k x. let o = a.old y k x in b.old y k (ap (λ (v : VariableOf). v.path) o ∙ x) ∙ o;
  slots = b.slots ∙ a.slots;
}
  where
    both : (j : ℕ) → (j < w.context.first + m) ⊎ (w.context.first + n ≤ j) → region_at g.regions j ≡ region_at d.regions j
    both j (inl c) = b.same j (inl (omega (c, o, arith))) ∙ a.same j (inl c)
    both j (inr c) = b.same j (inr c) ∙ a.same j (inr (omega (c, p, arith)))

    which : (i : ℕ) → (i < l) ⊎ (l ≤ i) → m ≤ i → i < n → IsMade w (w.context.first + i) (region_at g.regions (w.context.first + i))
    which i (inl c) x y = subst (IsMade w (w.context.first + i)) (sym (b.same (w.context.first + i) (inl (omega (c, arith))))) (a.made i x c)
    which i (inr c) x y = b.made i c y

    made : (i : ℕ) → m ≤ i → i < n → IsMade w (w.context.first + i) (region_at g.regions (w.context.first + i))
    made i x y = which i (split i l) x y
      where
        split : (i l : ℕ) → (i < l) ⊎ (l ≤ i)
        split i l = grind arith

pub step : (w : Place) (m l n : ℕ) (i j k : Stage) (d e g : D w) (P Q R : Type 0) → Step w m l i j d e P Q → Step w l n j k e g Q R → Step w m n i k d g P R
step w m l n i j k d e g P Q R a b = record {
  order = omega (a.order, b.order, arith);
  variables = omega (a.variables, b.variables, arith);
  points = omega (a.points, b.points, arith);
  scopes = grown_both d.scopes e.scopes g.scopes a.scopes b.scopes;
  after = λ x y. let be = below_before w e g b.variables b.points y in let f = a.after (before_first w m l n d b.order x) be in
      after_both w m l n d e g a.order b.order a.variables f (b.after (before_second w m l n d e a.order a.variables a.points x f) y);
  objects = λ x y z. let be = below_before w e g b.variables b.points y in let f = a.after (before_first w m l n d b.order x) be in
      a.objects (before_first w m l n d b.order x) be (b.objects (before_second w m l n d e a.order a.variables a.points x f) y z);
  before = λ x y z. let be = below_before w e g b.variables b.points y in let f = a.after (before_first w m l n d b.order x) be in
      a.before (before_first w m l n d b.order x) be (b.before (before_second w m l n d e a.order a.variables a.points x f) y z);
  typed = λ x y z t p. let be = below_before w e g b.variables b.points y in let x1 = before_first w m l n d b.order x in let f = a.after x1 be in let x2 = before_second w m l n d e a.order a.variables a.points x f in
      let r = a.typed x1 be (b.before x2 y z) t p in b.typed x2 y z r.0 r.1;
}

-- what is given and asked otherwise
pub step_for : (w : Place) (m n : ℕ) (i k : Stage) (d e : D w) (P Q R S : Type 0) → (R → P) → (Q → S) → Step w m n i k d e P Q → Step w m n i k d e R S
step_for w m n i k d e P Q R S f g a = record {
  order = a.order;
  variables = a.variables;
  points = a.points;
  scopes = a.scopes;
  after = a.after;
  objects = a.objects;
  before = a.before;
  typed = λ x y z t p. let r = a.typed x y z t (f p) in (r.0, g r.1);
}

-- and what is known beside it
pub step_beside : (w : Place) (m n : ℕ) (i k : Stage) (d e : D w) (P Q R : Type 0) → Step w m n i k d e P Q → Step w m n i k d e (P × R) (Q × R)
step_beside w m n i k d e P Q R a = record {
  order = a.order;
  variables = a.variables;
  points = a.points;
  scopes = a.scopes;
  after = a.after;
  objects = a.objects;
  before = a.before;
  typed = λ x y z t p. let r = a.typed x y z t p.0 in (r.0, (r.1, p.1));
}

pub laid_more : (w : Place) (v p q : ℕ) (ms : List VariableOf) (rs : List Region) → p ≤ q → Laid w v p ms rs → Laid w v q ms rs
laid_more w v p q ms rs o h = record {
  many = h.many;
  count = h.count;
  free = h.free;
  pending = h.pending;
  apart = h.apart;
  behind = λ j x l i. elim (h.behind j x l i) [ inl a ↦ inl (omega (a, o, arith)) | inr a ↦ inr a ];
  parted = h.parted;
}

-- no variable, no region and no object is made
pub quiet : (w : Place) (m : ℕ) (i : Stage) (d e : D w) (P Q : Type 0) → e.variables ≡ d.variables → e.made ≡ d.made → e.regions ≡ d.regions → e.objects ≡ d.objects → (All w.IsEdge e.edges → All w.IsEdge d.edges) → Grown d.scopes e.scopes → d.points ≤ e.points
    → (0 < d.points → Below w e → All w.IsEdge e.edges → Typed w i d → P → Typed w i e × Q) → Step w m m i i d e P Q
quiet w m i d e P Q v s r o a u p t = record {
  order = omega arith;
  variables = omega (v, arith);
  points = p;
  scopes = u;
  after = λ x y. record {
    laid = laid_more w e.variables d.points e.points e.made e.regions p (rw (v, s, r) x.laid);
    same = λ j c. ap (λ (rs : List Region). region_at rs j) r;
    made = λ j a b. absurd (omega (a, b, arith));
    low = λ j l. ap (λ (ms : List VariableOf). variable_in ms j) s;
    old = λ j l c. ap (λ (ms : List VariableOf). variable_in ms j) s;
    slots = ap length o;
  };
  objects = λ x y z. subst (λ (n : ℕ). ObjectsForeseen w i n d.objects) v (subst (ObjectsForeseen w i e.variables) o z);
  before = λ x y z. record {
    made = subst (MadeIs w) s z.made;
    regions = subst (RegionsForeseen w) r z.regions;
    objects = subst (λ (n : ℕ). ObjectsForeseen w i n d.objects) v (subst (ObjectsForeseen w i e.variables) o z.objects);
    edges = a z.edges;
  };
  typed = λ x y z f q. t x.positive y z.edges f q;
}

-- steps of which the first makes the later calls
pub step_back : (w : Place) (m l n : ℕ) (i j k : Stage) (d e g : D w) (P Q R : Type 0) → Step w l n i j d e P Q → Step w m l j k e g Q R → Step w m n i k d g P R
step_back w m l n i j k d e g P Q R a b = record {
  order = omega (a.order, b.order, arith);
  variables = omega (a.variables, b.variables, arith);
  points = omega (a.points, b.points, arith);
  scopes = grown_both d.scopes e.scopes g.scopes a.scopes b.scopes;
  after = λ x y. let f = a.after (inner x) (below_before w e g b.variables b.points y) in let h = b.after (own x f) y in record {
    laid = h.laid;
    same = λ q c. elim c [
      | inl o ↦ h.same q (inl o) ∙ f.same q (inl (omega (o, b.order, arith)))
      | inr o ↦ h.same q (inr (omega (o, a.order, arith))) ∙ f.same q (inr o)
    ];
    made = λ q o c. which q (split q l) o c f h;
    low = λ q o. h.low q (omega (o, a.variables, arith)) ∙ f.low q o;
    old = λ q o c. let u = f.old q o c in h.old q o (ap (λ (v : VariableOf). v.path) u ∙ c) ∙ u;
    slots = h.slots ∙ f.slots;
  };
  objects = λ x y z. let be = below_before w e g b.variables b.points y in let f = a.after (inner x) be in a.objects (inner x) be (b.objects (own x f) y z);
  before = λ x y z. let be = below_before w e g b.variables b.points y in let f = a.after (inner x) be in a.before (inner x) be (b.before (own x f) y z);
  typed = λ x y z t p. let be = below_before w e g b.variables b.points y in let f = a.after (inner x) be in let r = a.typed (inner x) be (b.before (own x f) y z) t p in b.typed (own x f) y z r.0 r.1;
}
  where
    split : (i l : ℕ) → (i < l) ⊎ (l ≤ i)
    split i l = grind arith

    inner : Before w m n d → Before w l n d
    inner x = record { laid = x.laid; not_made = λ q o c. x.not_made q (omega (o, b.order, arith)) c; positive = x.positive; files = x.files; slots = x.slots }

    own : Before w m n d → After w l n d e → Before w m l e
    own x f = record {
      laid = f.laid;
      not_made = λ q o c h. x.not_made q o (omega (c, a.order, arith)) (subst (λ (r : Region). 0 < r.points) (f.same (w.context.first + q) (inl (omega (c, arith)))) h);
      positive = omega (x.positive, a.points, arith);
      files = omega (x.files, a.variables, arith);
      slots = f.slots ∙ x.slots;
    }

    which : (q : ℕ) → (q < l) ⊎ (l ≤ q) → m ≤ q → q < n → After w l n d e → After w m l e g → IsMade w (w.context.first + q) (region_at g.regions (w.context.first + q))
    which q (inl o) c r f h = h.made q c o
    which q (inr o) c r f h = subst (IsMade w (w.context.first + q)) (sym (h.same (w.context.first + q) (inr (omega (o, arith))))) (f.made q o r)

-- a call whose arguments have later calls
pub step_around : (w : Place) (m n : ℕ) (i j k : Stage) (d e g : D w) (P Q R : Type 0) → Step w (m + 1) n i j d e P Q → Step w m (m + 1) j k e g Q R → Step w m n i k d g P R
step_around w m n i j k d e g P Q R a b = step_back w m (m + 1) n i j k d e g P Q R a b
