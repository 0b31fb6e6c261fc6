-- The part of a call path adds no more than the operators of its function's body count that are kept.
use Rattle.std.specs.Prelude.{ℕ, ◌+◌, ◌≤◌, List, [], ◌∷◌, Bool, true, false, if◌then◌else◌, pos, Option, Some, None, length, map}
use Rattle.std.proofs.Common.{arith}
use Rattle.pk_ctypes.specs.declared.types.IntType.{IntType}
use Rattle.pk_typed.specs.Trees.{BodyTree, FunctionTree, UnitTree}
use Rattle.pk_calls.specs.declared.listings.Caller.{Caller}
use Rattle.pk_calls.specs.declared.listings.CallPath.{CallPath}
use Rattle.pk_calls.specs.Calls.{body_of, calls_of}
use Rattle.pk_graph.specs.Trees.{constant, Skip, Set, Havoc}
use Rattle.pk_draft.specs.declared.drafts.Region.{Region}
use Rattle.pk_draft.specs.declared.drafts.Label.{Label}
use Rattle.pk_draft.specs.declared.drafts.Size.{Size}
use Rattle.pk_draft.specs.Drafts.{DraftOf, Names, first_draft, region_of, begun_at, standing, on, fresh, emit, with_object}
use Rattle.pk_lower_row.specs.Contexts.{Context, own_result, local_at}
use Rattle.pk_lower_statement.specs.Statements.{lowered_items}
use Rattle.pk_lower.specs.Parts as made
use Rattle.pk_lower.specs.Parts.{context, function_at, part, parts_from, program_draft, sizes_of, file_variable, entry_parameter}
use Rattle.pk_access_laws.specs.Operators.{Counting, if_some}
use Rattle.pk_access_laws.specs.Kept.{kept_in_items}
use Rattle.pk_access_laws.proofs.Spent.{Asked, in_edges, in_points, Adds, then_adds, no_more, linking, freshening, emitting}
use Rattle.pk_access_laws.proofs.Rows.{Keeps}
use Rattle.pk_access_laws.proofs.Expressions.{counting}
use Rattle.pk_access_laws.proofs.Statements.{named_told, introduced_told, items}

parameters_told : (V : Type 0) (w : Asked) (c : Context) (from : Option Caller) (i : ℕ) (ts : List IntType) → Keeps {V = V} w 0 (made.all_introduced c from i ts)
unfolding made.all_introduced
parameters_told V w c from i [] d = no_more
parameters_told V w c None i (t ∷ ts) d =
    let x = local_at c i in
    let first = named_told w x.name d.variables (with_object i (entry_parameter x.name x.int_type x.length c.path) d) in
    let rest = parameters_told V w c None (i + 1) ts (made.introduced_parameter c None i d) in
    record { most = omega (arith, first.most, rest.most) }
parameters_told V w c (Some caller) i (t ∷ ts) d =
    let first = introduced_told V w c i d in
    let rest = parameters_told V w c (Some caller) (i + 1) ts (made.introduced_parameter c (Some caller) i d) in
    record { most = omega (arith, first.most, rest.most) }

result_told : (V : Type 0) (w : Asked) (c : Context) (t : Option IntType) → Keeps {V = V} w 0 (made.with_result c t)
result_told V w c None d = no_more
result_told V w c (Some t) d = no_more

entry_told : (V : Type 0) (w : Asked) (from : Option Caller) → Keeps {V = V} w 0 (made.placed_entry from)
entry_told V w None d = no_more
entry_told V w (Some caller) d = no_more

end_told : (V : Type 0) (w : Asked) (c : Context) (name : List ℕ) (t : Option IntType) → Keeps {V = V} w 0 (made.ended c name t)
end_told V w c name None d = no_more
end_told V w c name (Some t) d = by (made.is_main name)
  where
    by : (b : Bool) → Adds (in_edges w d.edges) 0 (in_edges w (if b then emit (Set (own_result c d) (constant t (pos 0))) d else emit (Havoc (own_result c d) t 1) d).edges)
    by true = emitting w _ d
    by false = emitting w _ d

abbrev pub in_body : Counting → BodyTree → ℕ
in_body q b = kept_in_items q b.items

body_told : (V : Type 0) (w : Asked) (c : Context) (g : FunctionTree) (b : BodyTree) → Keeps {V = V} w (in_body (counting w c) b) (made.body_draft c g b)
unfolding made.body_draft
body_told V w c g b d =
    let start : DraftOf V = fresh (b.labels + 1) d in
    let begin = freshening w (b.labels + 1) d in
    let e : DraftOf V = lowered_items c b.items (made.start_exits d.points) start in
    let inside = items V w c b.items (made.start_exits d.points) start in
    let f : DraftOf V = on b.closed (standing d.here e) in
    let end = end_told V w c g.name g.returns f in
    let g : DraftOf V = made.ended c g.name g.returns f in
    let left = linking w g.edges g.point d.points Skip in
    record { most = omega (arith, begin.most, inside.most, end.most, left.most) }

part_of_told : (V : Type 0) (w : Asked) (c : Context) (g : FunctionTree) (b : Option BodyTree) (from : Option Caller) (r : Region) → Keeps {V = V} w (if_some (in_body (counting w c)) b) (made.part_of c g b from r)
part_of_told V w c g None from r d = no_more
part_of_told V w c g (Some b) from r d =
    let here : Label = record { at = b.opened; path = c.path; scope = b.visible } in
    let first : DraftOf V = begun_at r here (length c.locals + 1) d in
    let second : DraftOf V = made.all_introduced c from 0 g.parameters first in
    let third : DraftOf V = made.begun c g b from r d in
    let one = parameters_told V w c from 0 g.parameters first in
    let two = result_told V w c g.returns second in
    let three = entry_told V w from third in
    let four = body_told V w c g b (made.placed_entry from third) in
    record { most = omega (arith, one.most, two.most, three.most, four.most) }

part_told : (V : Type 0) (w : Asked) (c : Context) (f : ℕ) (from : Option Caller) (r : Region) → Keeps {V = V} w (if_some (in_body (counting w c)) (body_of c.unit f)) (part c f from r)
unfolding part
part_told V w c f from r d = part_of_told V w c (function_at c.unit f) (body_of c.unit f) from r d

-- ---- all parts

-- what an operator counts on a path
abbrev pub on_path : Asked → ℕ → Counting
on_path w k at = w.count (record { path = k; at = at })

abbrev pub in_parts : Asked → UnitTree → (k : ℕ) → List CallPath → ℕ
in_parts w u k [] = 0
in_parts w u k (p ∷ ps) = if_some (in_body (on_path w k)) (body_of u p.function) + in_parts w u (k + 1) ps

parts_told : (V : Type 0) (w : Asked) (u : UnitTree) (sizes : List (Option Size)) (k n : ℕ) (ps : List CallPath) → Keeps {V = V} w (in_parts w u k ps) (parts_from u sizes k n ps)
unfolding parts_from
parts_told V w u sizes k n [] d = no_more
parts_told V w u sizes k n (p ∷ ps) d =
    let c = context u sizes k n p.function in
    then_adds (part_told V w c p.function p.caller (region_of k d) d)
    (parts_told V w u sizes (k + 1) (n + length (calls_of u p.function)) ps (part c p.function p.caller (region_of k d) d))

no_edges : (V : Type 0) (w : Asked) (ps : List ℕ) → in_points {V = V} w ps [] ≤ 0
no_edges V w [] = omega arith
no_edges V w (p ∷ ps) = omega (arith, no_edges V w ps)

-- the draft of a unit
pub program_told : (V : Type 0) (w : Asked) (names : Names V) (u : UnitTree) (paths : List CallPath) → in_edges w (program_draft names u paths).edges ≤ in_parts w u 0 paths
program_told V w names u paths =
    let sizes = sizes_of u paths in
    let h = parts_told V w u sizes 0 1 paths (first_draft names (map file_variable u.objects) (length paths) (made.whole_size sizes paths)) in
    omega (arith, h.most, no_edges V w w.points)
