-- The parts of a draft: each call path makes one, whose size is known before the path is lowered.
use Rattle.std.specs.Prelude.{ℕ, ◌+◌, Bool, codes, if◌then◌else◌, List, [], ◌∷◌, length, map, replicate, slice_index_or, slice_set, Option, Some, None, unwrap_or, pos}
use Rattle.std.specs.Str.{bytes_eq}
use Rattle.pk_ctypes.specs.declared.types.IntType.{IntType}
use Rattle.pk_typed.specs.Trees.{BodyTree, FunctionTree, StartTree, scalar_start, array_start, FileObjectTree, UnitTree}
use Rattle.pk_calls.specs.declared.listings.Caller.{Caller}
use Rattle.pk_calls.specs.declared.listings.CallPath.{CallPath}
use Rattle.pk_calls.specs.Calls.{body_of, calls_of}
use Rattle.pk_graph.specs.Trees.{constant, Set, Havoc, Skip}
use Rattle.pk_graph.specs.Graphs.{StartOf, any_start, number_start, VariableOf}
use Rattle.pk_draft.specs.declared.drafts.Region.{Region}
use Rattle.pk_draft.specs.declared.drafts.Label.{Label}
use Rattle.pk_draft.specs.declared.drafts.Size.{Size}
use Rattle.pk_draft.specs.Drafts.{Names, by_number, no_region, empty_draft, first_draft, DraftOf, region_of, begun_at, on, standing, fresh, placed, inner, with_object, go, emit}
use Rattle.pk_lower_row.specs.Contexts.{no_size, size_in, Context, own_result, local_at}
use Rattle.pk_lower_statement.specs.Statements.{named, introduced, lowered_items}
use Rattle.pk_lower_statement.specs.declared.statements.Exits.{Exits}
use Rattle.pk_typed.specs.Defaults.{no_body, no_function, length_of_start}

-- ---- the function of a path

abbrev pub function_at : UnitTree → ℕ → FunctionTree
function_at u f = slice_index_or u.functions f no_function

abbrev pub body_at : UnitTree → ℕ → BodyTree
body_at u f = unwrap_or (body_of u f) no_body

-- of path k, of function f, whose first call leads to path n
abbrev pub context : UnitTree → (sizes : List (Option Size)) → (k n f : ℕ) → Context
context u sizes k n f = record {
  unit = u;
  path = k;
  first = n;
  locals = (body_at u f).locals;
  returns = (function_at u f).returns;
  sizes = sizes;
}

-- ---- a path's part

-- a parameter of the entry: it holds any number when a run begins
abbrev pub entry_parameter : Option (List ℕ) → IntType → Option ℕ → (path : ℕ) → VariableOf
entry_parameter name t n k = record (inner name t n k) { start = any_start }

-- parameter i as the next variable, with its name in scope; where a call enters the part, the call sets it
abbrev pub introduced_parameter : {V : Type 0} → Context → Option Caller → ℕ → DraftOf V → DraftOf V
introduced_parameter c None i d =
    let x = local_at c i in
    named x.name d.variables (with_object i (entry_parameter x.name x.int_type x.length c.path) d)
introduced_parameter c (Some caller) i d = introduced c i d

-- parameters, which are the first objects, from number i on: as many as there are types
unfoldable pub all_introduced : {V : Type 0} → Context → Option Caller → ℕ → List IntType → DraftOf V → DraftOf V
all_introduced c from i [] d = d
all_introduced c from i (t ∷ ts) d = all_introduced c from (i + 1) ts (introduced_parameter c from i d)

-- the result, behind the objects
abbrev pub with_result : {V : Type 0} → Context → Option IntType → DraftOf V → DraftOf V
with_result c None d = d
with_result c (Some t) d = with_object (length c.locals) (inner None t None c.path) d

-- A path is entered, at the function's `{`, with the file's names in scope: its parameters, whose names are in scope, and its result.
abbrev pub begun : {V : Type 0} → Context → FunctionTree → BodyTree → Option Caller → Region → DraftOf V → DraftOf V
begun c g b from r d =
    let here : Label = record { at = b.opened; path = c.path; scope = b.visible } in
    with_result c g.returns (all_introduced c from 0 g.parameters (begun_at r here (length c.locals + 1) d))

-- nothing leads to the entry, so that its point is made here
abbrev pub placed_entry : {V : Type 0} → Option Caller → DraftOf V → DraftOf V
placed_entry None d = placed d.point d
placed_entry (Some c) d = d

abbrev pub is_main : (name : List ℕ) → Bool
is_main name = bytes_eq name (codes "main")

-- falling off the end of a body: no result, 0 of main (C99 5.1.2.2.3), else any number (6.9.1)
abbrev pub ended : {V : Type 0} → Context → List ℕ → Option IntType → DraftOf V → DraftOf V
ended c name None d = d
ended c name (Some t) d =
    if is_main name then emit (Set (own_result c d) (constant t (pos 0))) d else emit (Havoc (own_result c d) t 1) d

-- the exit, then the labels
abbrev pub start_exits : ℕ → Exits
start_exits e = record { broken = e; continued = e; left = e; labels = e + 1; cases = e; otherwise = e }

-- a body from where it begins, between its braces, to a new exit
unfoldable pub body_draft : {V : Type 0} → Context → FunctionTree → BodyTree → DraftOf V → DraftOf V
body_draft c g b d =
    let e = lowered_items c b.items (start_exits d.points) (fresh (b.labels + 1) d) in
    go Skip d.points (ended c g.name g.returns (on b.closed (standing d.here e)))

-- what a path of a function makes; nothing without a body
abbrev pub part_of : {V : Type 0} → Context → FunctionTree → Option BodyTree → Option Caller → Region → DraftOf V →
    DraftOf V
part_of c g None from r d = d
part_of c g (Some b) from r d = body_draft c g b (placed_entry from (begun c g b from r d))

unfoldable pub part : {V : Type 0} → Context → (f : ℕ) → Option Caller → Region → DraftOf V → DraftOf V
part c f from r d = part_of c (function_at c.unit f) (body_of c.unit f) from r d

-- ---- sizes

-- how much a part of function f makes: all numbers begin at 0
abbrev pub measured : UnitTree → List (Option Size) → ℕ → Size
measured u sizes f =
    let d = part (context u sizes 0 0 f) f None no_region (empty_draft by_number) in
    record { points = d.points; variables = d.variables }

-- a function that has no size yet is measured
abbrev pub with_size : UnitTree → ℕ → Option Size → List (Option Size) → List (Option Size)
with_size u f None sizes = slice_set sizes f (Some (measured u sizes f))
with_size u f (Some s) sizes = sizes

-- The sizes of the functions of listed paths, from the last path backwards: a path's calls lead to paths behind it.
unfoldable pub sizes_of : UnitTree → List CallPath → List (Option Size)
sizes_of u [] = replicate (length u.functions) None
sizes_of u (p ∷ ps) = let sizes = sizes_of u ps in with_size u p.function (slice_index_or sizes p.function None) sizes

-- ---- all parts

-- the objects of the file hold their initialisers, and 0 behind them (C99 6.7.8)
abbrev pub start_of_object : StartTree → StartOf
start_of_object (scalar_start z) = number_start (z ∷ [])
start_of_object (array_start n zs) = number_start zs

abbrev pub file_variable : FileObjectTree → VariableOf
file_variable x =
    record {
      name = Some x.name;
      kind = record { int_type = x.int_type; length = length_of_start x.start };
      path = None;
      start = start_of_object x.start;
    }

-- the size of the entry's part, in which all others are
abbrev pub whole_size : List (Option Size) → List CallPath → Size
whole_size sizes [] = no_size
whole_size sizes (p ∷ ps) = size_in sizes p.function

-- how many points are made, reached or not
abbrev pub point_count : UnitTree → List CallPath → ℕ
point_count u paths = 1 + (whole_size (sizes_of u paths) paths).points

-- The parts of listed paths in order, which are numbered from k on, and the paths by their calls from n on. A path's region is known from the path that leads to it.
unfoldable pub parts_from : {V : Type 0} → UnitTree → List (Option Size) → (k n : ℕ) → List CallPath → DraftOf V →
    DraftOf V
parts_from u sizes k n [] d = d
parts_from u sizes k n (p ∷ ps) d =
    parts_from u sizes (k + 1) (n + length (calls_of u p.function)) ps
    (part (context u sizes k n p.function) p.function p.caller (region_of k d) d)

abbrev pub program_draft : {V : Type 0} → Names V → UnitTree → List CallPath → DraftOf V
program_draft names u paths =
    let sizes = sizes_of u paths in parts_from u sizes 0 1 paths
    (first_draft names (map file_variable u.objects) (length paths) (whole_size sizes paths))
