-- A graph under construction, and the few verbs in which the lowering is said.
use Rattle.std.specs.Prelude.{ℕ, zero, suc, ◌+◌, List, [], ◌∷◌, ◌++◌, length, slice_set, slice_index_or, replicate, Option, Some, None}
use Rattle.pk_ctypes.specs.declared.places.Pos.{Pos}
use Rattle.pk_ctypes.specs.declared.types.IntType.{IntType}
use Rattle.pk_graph.specs.Trees.{TreeOf, variable, InstrOf, Skip, Set}
use Rattle.pk_graph.specs.Graphs.{VariableOf, number_start, no_variable, naming, hiding}
use Rattle.pk_graph.specs.declared.graphs.Entry.{Entry}
use Rattle.pk_graph.specs.declared.graphs.Scope.{Scope}
use Rattle.pk_draft.specs.declared.drafts.Region.{Region}
use Rattle.pk_draft.specs.declared.drafts.Label.{Label}
use Rattle.pk_draft.specs.declared.drafts.Size.{Size}

-- How the variables V are named: an object of the file by its number; an object of a call path by the path, its number in the function and its variable; the result of a path by the path and its variable; a temporary by its variable. A variable of a graph is the number by which it is named last.
pub record Names (V : Type 0) : Type 0 where
  pub file : ℕ → V
  pub object : (path i x : ℕ) → V
  pub result : (path x : ℕ) → V
  pub temporary : (x : ℕ) → V

abbrev pub by_number : Names ℕ
by_number = record { file = λ i. i; object = λ k i x. x; result = λ k x. x; temporary = λ x. x }

pub record EdgeFrom (V : Type 0) : Type 0 where
  pub from : ℕ
  pub instr : InstrOf V
  pub to : ℕ

-- A scope is a place in a chain, which points share: nothing is in scope at place 0; place k + 1 adds an entry to those of the place around it.
-- The current point, what a point made here is, the next point and the next variable, and what is known so far: of each point what it is, of each variable what it is, of each object of
-- the function at hand, and behind them of its result, its variable, of each call path its region; and the edges in the order in which they were made.
pub record DraftOf (V : Type 0) : Type 0 where
  pub names : Names V
  pub point : ℕ
  pub here : Label
  pub points : ℕ
  pub variables : ℕ
  pub labels : List Label
  pub made : List VariableOf
  pub objects : List ℕ
  pub regions : List Region
  pub scopes : List Scope
  pub edges : List (EdgeFrom V)

-- a tree, and the draft after it
abbrev pub Given : Type 0 → Type 0
Given V = TreeOf V × DraftOf V

-- a point that is none: an edge to it isn't made
abbrev pub nowhere : ℕ
nowhere = 0

abbrev pub at : {V : Type 0} → ℕ → DraftOf V → DraftOf V
at p d = record d { point = p }

abbrev pub standing : {V : Type 0} → Label → DraftOf V → DraftOf V
standing l d = record d { here = l }

-- the position of what is lowered from here on
abbrev pub on : {V : Type 0} → Pos → DraftOf V → DraftOf V
on p d = standing (record { at = p; path = d.here.path; scope = d.here.scope }) d

abbrev pub in_scope : {V : Type 0} → ℕ → DraftOf V → DraftOf V
in_scope k d = standing (record { at = d.here.at; path = d.here.path; scope = k }) d

abbrev pub with_entry : {V : Type 0} → Entry → DraftOf V → DraftOf V
with_entry e d =
    in_scope (length d.scopes + 1)
    (record d { scopes = d.scopes ++ record { entry = e; outer = d.here.scope } ∷ [] })

-- the name of a variable comes into scope
abbrev pub with_name : {V : Type 0} → ℕ → DraftOf V → DraftOf V
with_name x d = with_entry (naming x) d

-- and is hidden by a name that is no variable's
abbrev pub with_hidden : {V : Type 0} → ℕ → DraftOf V → DraftOf V
with_hidden x d = with_entry (hiding x) d

-- names in scope inside a block alone
abbrev pub scoped : {V : Type 0} → (DraftOf V → DraftOf V) → DraftOf V → DraftOf V
scoped f d = in_scope d.here.scope (f d)

-- a point that was made before is here
abbrev pub placed : {V : Type 0} → ℕ → DraftOf V → DraftOf V
placed p d = record d { labels = slice_set d.labels p d.here }

-- n points from p on are here
abbrev pub all_placed : {V : Type 0} → (n p : ℕ) → DraftOf V → DraftOf V
all_placed zero p d = d
all_placed (suc n) p d = all_placed n (p + 1) (placed p d)

-- n new points
abbrev pub fresh : {V : Type 0} → ℕ → DraftOf V → DraftOf V
fresh n d = let e = all_placed n d.points d in record e { points = d.points + n }

-- a new variable
abbrev pub with_variable : {V : Type 0} → VariableOf → DraftOf V → DraftOf V
with_variable x d = record d { variables = d.variables + 1; made = slice_set d.made d.variables x }

-- a variable of a path that holds 0 when a run begins
abbrev pub inner : Option (List ℕ) → IntType → Option ℕ → (path : ℕ) → VariableOf
inner name t n k =
    record { name = name; kind = record { int_type = t; length = n }; path = Some k; start = number_start [] }

-- a new variable is object i of the function at hand
abbrev pub with_object : {V : Type 0} → ℕ → VariableOf → DraftOf V → DraftOf V
with_object i x d = with_variable x (record d { objects = slice_set d.objects i d.variables })

-- the variable of object i of the function at hand
abbrev pub object_number : {V : Type 0} → ℕ → DraftOf V → ℕ
object_number i d = slice_index_or d.objects i 0

-- a new temporary, which is the next variable
abbrev pub with_temporary : {V : Type 0} → IntType → DraftOf V → DraftOf V
with_temporary t d = with_variable (inner None t None d.here.path) d

abbrev pub next_temporary : {V : Type 0} → DraftOf V → V
next_temporary d = d.names.temporary d.variables

-- an edge from the current point, which stays
abbrev pub link : {V : Type 0} → InstrOf V → ℕ → DraftOf V → DraftOf V
link i q d = record d { edges = d.edges ++ record { from = d.point; instr = i; to = q } ∷ [] }

-- an edge from the current point, and on at its end
abbrev pub go : {V : Type 0} → InstrOf V → ℕ → DraftOf V → DraftOf V
go i q d = at q (link i q d)

-- an edge to a new point
abbrev pub emit : {V : Type 0} → InstrOf V → DraftOf V → DraftOf V
emit i d = go i d.points (fresh 1 d)

-- an edge away; on at a new point
abbrev pub away : {V : Type 0} → ℕ → DraftOf V → DraftOf V
away q d = at d.points (fresh 1 (link Skip q d))

-- an edge to a point that was made before and is here
abbrev pub come : {V : Type 0} → ℕ → DraftOf V → DraftOf V
come p d = go Skip p (placed p d)

-- a tree put in a fresh temporary
abbrev pub stored : {V : Type 0} → IntType → TreeOf V → DraftOf V → Given V
stored t e d = (variable (next_temporary d), emit (Set (next_temporary d) e) (with_temporary t d))

-- The body of a call path from here. Its part makes as many points and variables as its size says; the first of these points is its exit, where the caller goes on.
abbrev pub entered : {V : Type 0} → (path : ℕ) → Size → DraftOf V → DraftOf V
entered k s d = record d {
  point = d.points;
  points = d.points + s.points;
  variables = d.variables + s.variables;
  regions = slice_set d.regions k (record { at = d.point; points = d.points; variables = d.variables });
}

-- ---- where a draft begins

abbrev pub no_label : Label
no_label = record { at = record { line = 0; column = 0 }; path = 0; scope = 0 }

abbrev pub no_region : Region
no_region = record { at = 0; points = 0; variables = 0 }

abbrev pub empty_draft : {V : Type 0} → Names V → DraftOf V
empty_draft names = record {
  names = names;
  point = 0;
  here = no_label;
  points = 0;
  variables = 0;
  labels = [];
  made = [];
  objects = [];
  regions = [];
  scopes = [];
  edges = [];
}

abbrev pub region_of : {V : Type 0} → (path : ℕ) → DraftOf V → Region
region_of k d = slice_index_or d.regions k no_region

-- the part of a path is made from here on, of whose n objects none is a variable yet
abbrev pub begun_at : {V : Type 0} → Region → Label → (n : ℕ) → DraftOf V → DraftOf V
begun_at r l n d =
    record d { point = r.at; here = l; points = r.points; variables = r.variables; objects = replicate n 0 }

abbrev pub entry_point : ℕ
entry_point = 1

-- the first n objects of the file come into scope in order
abbrev pub file_scopes : ℕ → List Scope
file_scopes zero = []
file_scopes (suc n) = file_scopes n ++ record { entry = naming n; outer = n } ∷ []

-- the regions of so many paths where that of the entry alone is known, behind so many objects of the file
abbrev pub first_regions : (objects paths : ℕ) → List Region
first_regions n k =
    slice_set (replicate k no_region) 0 (record { at = entry_point; points = entry_point + 1; variables = n })

-- Before the first part: nowhere, the entry, and the file's objects.
abbrev pub first_draft : {V : Type 0} → Names V → (objects : List VariableOf) → (paths : ℕ) → Size → DraftOf V
first_draft names xs k s = record (empty_draft names) {
  labels = replicate (s.points + (entry_point + 1)) no_label;
  made = xs ++ replicate s.variables no_variable;
  regions = first_regions (length xs) k;
  scopes = file_scopes (length xs);
}
