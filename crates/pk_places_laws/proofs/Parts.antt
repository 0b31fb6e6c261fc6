-- The parts of a draft, and the whole draft, keep what holds of places and names.
use Rattle.std.specs.Prelude.{ℕ, zero, suc, ◌+◌, ◌≤◌, List, [], ◌∷◌, Bool, true, false, if◌then◌else◌, pos, Option, Some, None, IfSome, All, length, replicate, map, slice_get, unwrap_or}
use Rattle.std.specs.Option.{option_and_then}
use Rattle.std.proofs.Common.{arith}
use Rattle.std.proofs.lemmas.List.Elements.{All-replicate, All-append, All-map, All-nil, All-head, All-tail}
use Rattle.pk_ctypes.specs.declared.types.IntType.{IntType}
use Rattle.pk_typed.specs.Trees.{LocalTree, BodyTree, FunctionTree, FileObjectTree, UnitTree}
use Rattle.pk_typed.specs.Defaults.{nowhere_in_text, no_body}
use Rattle.pk_calls.specs.declared.listings.Caller.{Caller}
use Rattle.pk_calls.specs.declared.listings.CallPath.{CallPath}
use Rattle.pk_calls.specs.Calls.{body_of, calls_of}
use Rattle.pk_graph.specs.Graphs.{VariableOf, no_variable}
use Rattle.pk_graph.specs.Trees.{constant, Set, Havoc}
use Rattle.pk_draft.specs.declared.drafts.Region.{Region}
use Rattle.pk_draft.specs.declared.drafts.Label.{Label}
use Rattle.pk_draft.specs.declared.drafts.Size.{Size}
use Rattle.pk_draft.specs.Drafts.{Names, no_label, first_draft, region_of, begun_at, standing, on, fresh, emit, with_object}
use Rattle.pk_lower_row.specs.Contexts.{Context, own_result, local_at}
use Rattle.pk_lower_statement.specs.Statements.{lowered_items}
use Rattle.pk_lower.specs.Parts as made
use Rattle.pk_lower.specs.Parts.{context, function_at, part, parts_from, program_draft, sizes_of, file_variable, entry_parameter}
use Rattle.pk_places_laws.specs.Places as places
use Rattle.pk_places_laws.specs.Names as names
use Rattle.pk_places_laws.proofs.Told.{Asked, IsTold, Keeps, placing, making, linking, standing_at, freshening, emitting}
use Rattle.pk_places_laws.proofs.Expressions.{Stands}
use Rattle.pk_places_laws.proofs.Statements.{named_told, local_named, introduced_told, items}

-- ---- a path's part

parameters_told : (V : Type 0) (w : Asked) (c : Context) (from : Option Caller) (i : ℕ) (ts : List IntType) → Stands w c → Keeps {V = V} w (made.all_introduced c from i ts)
unfolding made.all_introduced
parameters_told V w c from i [] s d z = z
parameters_told V w c None i (t ∷ ts) s d z =
    let x = local_at c i in
    parameters_told V w c None (i + 1) ts s (made.introduced_parameter c None i d)
    (named_told w x.name d.variables (with_object i (entry_parameter x.name x.int_type x.length c.path) d) (making _ _ (local_named w c i s) z))
parameters_told V w c (Some caller) i (t ∷ ts) s d z =
    parameters_told V w c (Some caller) (i + 1) ts s (made.introduced_parameter c (Some caller) i d) (introduced_told V w c i s d z)

result_told : (V : Type 0) (w : Asked) (c : Context) (t : Option IntType) → Keeps {V = V} w (made.with_result c t)
result_told V w c None d z = z
result_told V w c (Some t) d z = making _ _ tt z

entry_told : (V : Type 0) (w : Asked) (from : Option Caller) → Keeps {V = V} w (made.placed_entry from)
entry_told V w None d z = placing _ _ z
entry_told V w (Some caller) d z = z

end_told : (V : Type 0) (w : Asked) (c : Context) (name : List ℕ) (t : Option IntType) → Keeps {V = V} w (made.ended c name t)
end_told V w c name None d z = z
end_told V w c name (Some t) d z = by (made.is_main name)
  where
    by : (b : Bool) → IsTold w (if b then emit (Set (own_result c d) (constant t (pos 0))) d else emit (Havoc (own_result c d) t 1) d)
    by true = emitting w _ d tt z
    by false = emitting w _ d tt z

body_told : (V : Type 0) (w : Asked) (c : Context) (g : FunctionTree) (b : BodyTree) → Stands w c → places.InBody w.P b → Keeps {V = V} w (made.body_draft c g b)
unfolding made.body_draft
body_told V w c g b s h d z =
    let start = fresh (b.labels + 1) d in
    let e = lowered_items c b.items (made.start_exits d.points) start in
    let inside = items V w c b.items s h.items (made.start_exits d.points) start (freshening w (b.labels + 1) d z) in
    linking _ _ _ tt (end_told V w c g.name g.returns (on b.closed (standing d.here e)) (standing_at h.closed inside))

part_of_told : (V : Type 0) (w : Asked) (c : Context) (g : FunctionTree) (b : Option BodyTree) (from : Option Caller) (r : Region) → Stands w c → IfSome b (places.InBody w.P) → Keeps {V = V} w (made.part_of c g b from r)
part_of_told V w c g None from r s h d z = z
part_of_told V w c g (Some b) from r s h d z =
    let here : Label = record { at = b.opened; path = c.path; scope = b.visible } in
    let first = begun_at r here (length c.locals + 1) d in
    let second = made.all_introduced c from 0 g.parameters first in
    let third = made.begun c g b from r d in
    body_told V w c g b s h (made.placed_entry from third)
    (entry_told V w from third (result_told V w c g.returns second (parameters_told V w c from 0 g.parameters s first (standing_at h.opened z))))

pub part_told : (V : Type 0) (w : Asked) (c : Context) (f : ℕ) (from : Option Caller) (r : Region) → Stands w c → IfSome (body_of c.unit f) (places.InBody w.P) → Keeps {V = V} w (part c f from r)
unfolding part
part_told V w c f from r s h d z = part_of_told V w c (function_at c.unit f) (body_of c.unit f) from r s h d z

-- ---- functions of a unit

pub at_number : {A : Type 0} (Q : A → Type 0) (xs : List A) (k : ℕ) → All Q xs → IfSome (slice_get xs k) Q
at_number Q [] k h = tt
at_number Q (x ∷ xs) zero h = All-head Q x xs h
at_number Q (x ∷ xs) (suc k) h = at_number Q xs k (All-tail Q x xs h)

of_body : (Q : BodyTree → Type 0) (o : Option FunctionTree) → IfSome o (λ (g : FunctionTree). IfSome g.body Q) → IfSome (option_and_then (λ (g : FunctionTree). g.body) o) Q
of_body Q None h = tt
of_body Q (Some g) h = h

pub at_body : (Q : BodyTree → Type 0) (u : UnitTree) (f : ℕ) → All (λ (g : FunctionTree). IfSome g.body Q) u.functions → IfSome (body_of u f) Q
unfolding body_of
at_body Q u f h = of_body Q (slice_get u.functions f) (at_number (λ (g : FunctionTree). IfSome g.body Q) u.functions f h)

locals_named : (N : List ℕ → Type 0) (b : Option BodyTree) → IfSome b (names.InLocals N) → All (λ (x : LocalTree). IfSome x.name N) (unwrap_or b no_body).locals
locals_named N None h = All-nil (λ (x : LocalTree). IfSome x.name N)
locals_named N (Some b) h = h

-- ---- all parts

-- each place and each name of a unit is such, and that of no place
pub record Holds (w : Asked) (u : UnitTree) : Type 0 where
  pub nowhere : w.P nowhere_in_text
  pub places : places.InUnit w.P u
  pub objects : All (λ (x : FileObjectTree). w.N x.name) u.objects
  pub locals : All (λ (g : FunctionTree). IfSome g.body (names.InLocals w.N)) u.functions

parts_told : (V : Type 0) (w : Asked) (u : UnitTree) (sizes : List (Option Size)) (k n : ℕ) (ps : List CallPath) → Holds w u → k + length ps ≤ w.paths → Keeps {V = V} w (parts_from u sizes k n ps)
unfolding parts_from
parts_told V w u sizes k n [] h l d z = z
parts_told V w u sizes k n (p ∷ ps) h l d z =
    let c = context u sizes k n p.function in
    let stands : Stands w c = record { path = omega (l, arith); locals = locals_named w.N (body_of u p.function) (at_body (names.InLocals w.N) u p.function h.locals) } in
    parts_told V w u sizes (k + 1) (n + length (calls_of u p.function)) ps h (omega (l, arith)) (part c p.function p.caller (region_of k d) d)
    (part_told V w c p.function p.caller (region_of k d) stands (at_body (places.InBody w.P) u p.function h.places) d z)

first_told : (V : Type 0) (w : Asked) (names : Names V) (u : UnitTree) (k : ℕ) (s : Size) → Holds w u → IsTold w (first_draft names (map file_variable u.objects) k s)
first_told V w names u k s h = record {
  here = h.nowhere;
  labels = All-replicate (λ (l : Label). w.P l.at) (s.points + 2) no_label h.nowhere;
  made = All-append (λ (x : VariableOf). IfSome x.name w.N) (map file_variable u.objects) (replicate s.variables no_variable)
      (All-map (λ (x : VariableOf). IfSome x.name w.N) file_variable u.objects h.objects)
      (All-replicate (λ (x : VariableOf). IfSome x.name w.N) s.variables no_variable tt);
  edges = All-nil _;
}

-- the draft of a unit with so many call paths
pub program_told : (V : Type 0) (w : Asked) (names : Names V) (u : UnitTree) (paths : List CallPath) → Holds w u → length paths ≤ w.paths → IsTold w (program_draft names u paths)
program_told V w names u paths h l =
    let sizes = sizes_of u paths in
    let s = made.whole_size sizes paths in
    parts_told V w u sizes 0 1 paths h (omega (l, arith)) (first_draft names (map file_variable u.objects) (length paths) s) (first_told V w names u (length paths) s h)
