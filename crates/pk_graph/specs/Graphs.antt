-- Control-flow graphs.
use Rattle.std.specs.List.{filter}
use Rattle.std.specs.Prelude.{ℕ, true, false, not, List, [], ◌∷◌, ◌++◌, map, slice_index_or, Option, None}
use Rattle.pk_ctypes.specs.declared.places.Pos.{Pos}
use Rattle.pk_ctypes.specs.declared.types.IntType.TheVariants.{Int}
use Rattle.pk_graph.specs.declared.trees.Site.{Site}
use Rattle.pk_graph.specs.declared.graphs.Path.{Path}
use Rattle.pk_graph.specs.declared.graphs.Start.{Start}
use Rattle.pk_graph.specs.declared.graphs.Start.TheVariants as starts
use Rattle.pk_graph.specs.declared.graphs.Variable.{Variable}
use Rattle.pk_graph.specs.declared.graphs.Entry.{Entry}
use Rattle.pk_graph.specs.declared.graphs.Scope.{Scope}
use Rattle.pk_graph.specs.declared.graphs.Edge.{Edge}
use Rattle.pk_graph.specs.declared.graphs.Point.{Point}
use Rattle.pk_graph.specs.Trees.{InstrOf}
use Rattle.pk_graph.specs.Views.{instr_view}
use Rattle.pk_graph.specs.Kinds.{Kind, Kinds}
use Rattle.pk_graph.specs.Steps.{Numbers}

-- a call path: the name of its function, and the call that enters it, by the caller's path and the place of the name there; nothing calls the entry
pub record PathOf : Type 0 where
  pub name : List ℕ
  pub call : Option Site

-- what a variable holds when a run begins: any numbers of its type, or these for the first of its numbers and 0 for the others
pub data StartOf : Type 0 where
  any_start : StartOf
  number_start : Numbers → StartOf

-- a variable: results, temporaries and parameters without a name have none; an object of the file belongs to no call path
pub record VariableOf : Type 0 where
  pub name : Option (List ℕ)
  pub kind : Kind
  pub path : Option ℕ
  pub start : StartOf

pub record EdgeOf : Type 0 where
  pub instr : InstrOf ℕ
  pub to : ℕ

-- A point: its position, its call path, the entries of its scope, newest first (a variable whose name comes into scope, or is hidden by one that is no variable's), and the edges that begin there, in the order in which they were made.
pub record PointOf : Type 0 where
  pub at : Pos
  pub path : ℕ
  pub scope : List Entry
  pub edges : List EdgeOf

pub record GraphOf : Type 0 where
  pub paths : List PathOf
  pub variables : List VariableOf
  pub points : List PointOf

abbrev pub no_variable : VariableOf
no_variable =
    record { name = None; kind = record { int_type = Int; length = None }; path = None; start = number_start [] }

abbrev pub variable_at : GraphOf → ℕ → VariableOf
variable_at g x = slice_index_or g.variables x no_variable

abbrev pub no_point : PointOf
no_point = record { at = record { line = 0; column = 0 }; path = 0; scope = []; edges = [] }

abbrev pub point_at : GraphOf → ℕ → PointOf
point_at g p = slice_index_or g.points p no_point

-- a variable's name comes into scope; a name that is no variable's hides it
abbrev pub naming : ℕ → Entry
naming x = record { variable = x; hides = false }

abbrev pub hiding : ℕ → Entry
hiding x = record { variable = x; hides = true }

-- the variables whose names are in scope, newest first, the hidden ones too
abbrev pub named_in : List Entry → List ℕ
named_in es = map (λ (e : Entry). e.variable) (filter (λ (e : Entry). not e.hides) es)

abbrev pub names_at : GraphOf → ℕ → List ℕ
names_at g p = named_in (point_at g p).scope

abbrev pub kinds_of : GraphOf → Kinds
kinds_of g = map (λ (x : VariableOf). x.kind) g.variables

-- ---- what the code keeps

unfoldable pub path_view : Path → PathOf
path_view p = record { name = p.name; call = p.call }

unfoldable pub start_view : Start → StartOf
start_view starts.Any = any_start
start_view (starts.Numbers ns) = number_start ns.items

unfoldable pub variable_view : Variable → VariableOf
variable_view x =
    record {
      name = x.name;
      kind = record { int_type = x.int_type; length = x.length };
      path = x.path;
      start = start_view x.start;
    }

unfoldable pub edge_view : Edge → EdgeOf
edge_view e = record { instr = instr_view e.instr; to = e.to }

-- The lists of entries that a chain of scopes stands for: nothing is in scope at place 0; place k + 1 adds its entry to those of the place around it.
abbrev pub chained : List (List Entry) → List Scope → List (List Entry)
chained known [] = known
chained known (s ∷ ss) = chained (known ++ (s.entry ∷ slice_index_or known s.outer []) ∷ []) ss

abbrev pub scope_at : List Scope → ℕ → List Entry
scope_at ss k = slice_index_or (chained ([] ∷ []) ss) k []

unfoldable pub point_view : List Scope → Point → PointOf
point_view ss p = record { at = p.at; path = p.path; scope = scope_at ss p.scope; edges = map edge_view p.edges.items }

abbrev pub graph_of : List Path → List Variable → List Scope → List Point → GraphOf
graph_of paths variables scopes points = record {
  paths = map path_view paths;
  variables = map variable_view variables;
  points = map (point_view scopes) points;
}
