-- Parts of paths and whole drafts whose variables are renamed: the lowering makes the same of them.
use Rattle.std.proofs.Common.{◌≡◌, ℕ, ◌+◌, List, [], ◌∷◌, length, map, Bool, true, false, if◌then◌else◌, refl, ap, ◌∙◌, pos}
use Rattle.std.specs.Prelude.{Option, Some, None}
use Rattle.pk_ctypes.specs.declared.types.IntType.{IntType}
use Rattle.pk_typed.specs.Trees.{BodyTree, FunctionTree, UnitTree}
use Rattle.pk_calls.specs.declared.listings.Caller.{Caller}
use Rattle.pk_calls.specs.declared.listings.CallPath.{CallPath}
use Rattle.pk_calls.specs.Calls.{body_of, calls_of}
use Rattle.pk_graph.specs.Trees.{constant, Set, Havoc, Skip}
use Rattle.pk_draft.specs.declared.drafts.Region.{Region}
use Rattle.pk_draft.specs.declared.drafts.Size.{Size}
use Rattle.pk_draft.specs.declared.drafts.Label.{Label}
use Rattle.pk_draft.specs.Drafts.{Names, DraftOf, first_draft, region_of, begun_at, on, standing, fresh, with_object, go, emit}
use Rattle.pk_lower_row.specs.Contexts.{Context, own_result, local_at}
use Rattle.pk_lower_statement.specs.Statements.{lowered_items}
use Rattle.pk_lower.specs.Parts as parts
use Rattle.pk_lower.specs.Parts.{context, start_exits, body_draft, part_of, part, parts_from, program_draft, sizes_of, function_at, file_variable, whole_size}
use Rattle.pk_visits.proofs.Numbered.Names.{names_by, draft_by, go_by, emit_by, fresh_by}
use Rattle.pk_visits.proofs.Numbered.Rows.{Works}
use Rattle.pk_visits.proofs.Numbered.Statements.{named_by, introduced_by}
use Rattle.pk_visits.proofs.Numbered.ForLoops.{lowered_items_by}

-- ---- where a part begins

introduced_parameter_by : {V W : Type 0} (f : V → W) (c : Context) (from : Option Caller) (i : ℕ) → Works f (parts.introduced_parameter c from i) (parts.introduced_parameter c from i)
introduced_parameter_by f c None i d = let x = local_at c i in named_by f x.name d.variables (with_object i (parts.entry_parameter x.name x.int_type x.length c.path) d)
introduced_parameter_by f c (Some caller) i d = introduced_by f c i d

all_introduced_by : (V W : Type 0) (f : V → W) (c : Context) (from : Option Caller) (i : ℕ) (ts : List IntType) → Works f (parts.all_introduced c from i ts) (parts.all_introduced c from i ts)
unfolding parts.all_introduced
all_introduced_by V W f c from i [] d = refl
all_introduced_by V W f c from i (t ∷ ts) d =
    ap (parts.all_introduced c from (i + 1) ts) (introduced_parameter_by f c from i d) ∙ all_introduced_by V W f c from (i + 1) ts (parts.introduced_parameter c from i d)

with_result_by : {V W : Type 0} (f : V → W) (c : Context) (r : Option IntType) → Works f (parts.with_result c r) (parts.with_result c r)
with_result_by f c None d = refl
with_result_by f c (Some t) d = refl

pub part_begun_by : (V W : Type 0) (f : V → W) (c : Context) (g : FunctionTree) (b : BodyTree) (from : Option Caller) (r : Region) → Works f (parts.begun c g b from r) (parts.begun c g b from r)
part_begun_by V W f c g b from r d =
    let here : Label = record { at = b.opened; path = c.path; scope = b.visible } in
    let e = begun_at r here (length c.locals + 1) d in
    ap (parts.with_result c g.returns) (all_introduced_by V W f c from 0 g.parameters e) ∙ with_result_by f c g.returns (parts.all_introduced c from 0 g.parameters e)

pub placed_entry_by : {V W : Type 0} (f : V → W) (from : Option Caller) → Works f (parts.placed_entry from) (parts.placed_entry from)
placed_entry_by f None d = refl
placed_entry_by f (Some c) d = refl

-- ---- bodies

either_emit : {V W : Type 0} (f : V → W) (b : Bool) (c : Context) (t : IntType) (d : DraftOf V)
    → (if b then emit (Set (f (own_result c d)) (constant t (pos 0))) (draft_by f d) else emit (Havoc (f (own_result c d)) t 1) (draft_by f d)) ≡ draft_by f (if b then emit (Set (own_result c d) (constant t (pos 0))) d else emit (Havoc (own_result c d) t 1) d)
either_emit f true c t d = emit_by f (Set (own_result c d) (constant t (pos 0))) d
either_emit f false c t d = emit_by f (Havoc (own_result c d) t 1) d

ended_by : {V W : Type 0} (f : V → W) (c : Context) (name : List ℕ) (r : Option IntType) → Works f (parts.ended c name r) (parts.ended c name r)
ended_by f c name None d = refl
ended_by f c name (Some t) d = either_emit f (parts.is_main name) c t d

body_draft_by : (V W : Type 0) (f : V → W) (c : Context) (g : FunctionTree) (b : BodyTree) → Works f (body_draft c g b) (body_draft c g b)
unfolding body_draft
body_draft_by V W f c g b d =
    let x = start_exits d.points in
    let u = fresh (b.labels + 1) d in
    let e = lowered_items c b.items x u in
    let v = on b.closed (standing d.here e) in
    ap (λ z. go Skip d.points (parts.ended c g.name g.returns (on b.closed (standing d.here (lowered_items c b.items x z))))) (fresh_by f (b.labels + 1) d)
    ∙ ap (λ z. go Skip d.points (parts.ended c g.name g.returns (on b.closed (standing d.here z)))) (lowered_items_by V W f c b.items x u)
    ∙ ap (go Skip d.points) (ended_by f c g.name g.returns v)
    ∙ go_by f Skip d.points (parts.ended c g.name g.returns v)

-- ---- parts

part_of_by : (V W : Type 0) (f : V → W) (c : Context) (g : FunctionTree) (b : Option BodyTree) (from : Option Caller) (r : Region) → Works f (part_of c g b from r) (part_of c g b from r)
part_of_by V W f c g None from r d = refl
part_of_by V W f c g (Some b) from r d =
    let e = parts.begun c g b from r d in
    ap (λ z. body_draft c g b (parts.placed_entry from z)) (part_begun_by V W f c g b from r d)
    ∙ ap (body_draft c g b) (placed_entry_by f from e)
    ∙ body_draft_by V W f c g b (parts.placed_entry from e)

pub part_by : (V W : Type 0) (f : V → W) (c : Context) (g : ℕ) (from : Option Caller) (r : Region) → Works f (part c g from r) (part c g from r)
unfolding part
part_by V W f c g from r d = part_of_by V W f c (function_at c.unit g) (body_of c.unit g) from r d

pub parts_from_by : (V W : Type 0) (f : V → W) (u : UnitTree) (sizes : List (Option Size)) (k n : ℕ) (ps : List CallPath) → Works f (parts_from u sizes k n ps) (parts_from u sizes k n ps)
unfolding parts_from
parts_from_by V W f u sizes k n [] d = refl
parts_from_by V W f u sizes k n (p ∷ ps) d =
    let c = context u sizes k n p.function in
    ap (parts_from u sizes (k + 1) (n + length (calls_of u p.function)) ps) (part_by V W f c p.function p.caller (region_of k d) d)
    ∙ parts_from_by V W f u sizes (k + 1) (n + length (calls_of u p.function)) ps (part c p.function p.caller (region_of k d) d)

-- The draft of a unit under renamed names is its draft, renamed.
pub program_by : (V W : Type 0) (f : V → W) (names : Names V) (u : UnitTree) (paths : List CallPath) → program_draft (names_by f names) u paths ≡ draft_by f (program_draft names u paths)
program_by V W f names u paths =
    parts_from_by V W f u (sizes_of u paths) 0 1 paths (first_draft names (map file_variable u.objects) (length paths) (whole_size (sizes_of u paths) paths))
