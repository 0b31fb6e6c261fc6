-- A part makes as many points and variables as the same function's part from 0 on.
use Rattle.std.proofs.Common.{ℕ, zero, ◌+◌, List, [], ◌∷◌, length, sym}
use Rattle.std.proofs.Math.Nat.{add-zero}
use Rattle.std.proofs.lemmas.Bool.{false≢true}
use Rattle.std.specs.Prelude.{Option, Some, None, IsSome, unwrap_or, pos}
use Rattle.pk_ctypes.specs.declared.types.IntType.{IntType}
use Rattle.pk_typed.specs.Trees.{FunctionTree, BodyTree, UnitTree}
use Rattle.pk_calls.specs.declared.listings.Caller.{Caller}
use Rattle.pk_calls.specs.Calls.{HasBody, body_of}
use Rattle.pk_graph.specs.Trees.{Set, Havoc, constant}
use Rattle.pk_draft.specs.declared.drafts.Region.{Region}
use Rattle.pk_draft.specs.declared.drafts.Label.{Label}
use Rattle.pk_draft.specs.declared.drafts.Size.{Size}
use Rattle.pk_draft.specs.Drafts.{DraftOf, by_number, no_region, empty_draft, begun_at, on, standing, fresh, inner, with_object, emit}
use Rattle.pk_lower_row.specs.Contexts.{Context, local_at, own_result}
use Rattle.pk_lower_statement.specs.Statements.{lowered_items}
use Rattle.pk_lower.specs.Parts as part
use Rattle.pk_lower_laws.specs.Parts.Called.{AtItems}
use Rattle.pk_lower_laws.specs.Parts.Steps.{AgreeAt, InStep, AsMuch, moved}
use Rattle.pk_lower_laws.specs.Parts.Laws.{PartsMakeTheirSize}
use Rattle.pk_lower_laws.proofs.Parts.Verbs.{pointed, valued, either, freshened}
use Rattle.pk_lower_laws.proofs.Parts.Statements.{naming, introducing, items}
use Rattle.pk_typed.specs.Defaults.{no_body}

-- parameters, whether a call sets them or not
parameter : {V W : Type 0} (c b : Context) (from by : Option Caller) (i : ℕ) → AsMuch (part.introduced_parameter {V = V} c from i) (part.introduced_parameter {V = W} b by i)
parameter c b None None i p v d e s =
    let x = local_at c i in
    let y = local_at b i in
    naming x.name y.name d.variables e.variables p v
    (with_object i (part.entry_parameter x.name x.int_type x.length c.path) d) (with_object i (part.entry_parameter y.name y.int_type y.length b.path) e) (valued 1 s)
parameter c b None (Some m) i p v d e s =
    let x = local_at c i in
    let y = local_at b i in
    naming x.name y.name d.variables e.variables p v
    (with_object i (part.entry_parameter x.name x.int_type x.length c.path) d) (with_object i (inner y.name y.int_type y.length b.path) e) (valued 1 s)
parameter c b (Some l) None i p v d e s =
    let x = local_at c i in
    let y = local_at b i in
    naming x.name y.name d.variables e.variables p v
    (with_object i (inner x.name x.int_type x.length c.path) d) (with_object i (part.entry_parameter y.name y.int_type y.length b.path) e) (valued 1 s)
parameter c b (Some l) (Some m) i p v d e s = introducing c b i p v d e s

parameters : {V W : Type 0} (c b : Context) (from by : Option Caller) (i : ℕ) (ts : List IntType) → AsMuch (part.all_introduced {V = V} c from i ts) (part.all_introduced {V = W} b by i ts)
unfolding part.all_introduced
parameters c b from by i [] p v d e s = s
parameters c b from by i (t ∷ ts) p v d e s =
    parameters c b from by (i + 1) ts p v (part.introduced_parameter c from i d) (part.introduced_parameter b by i e) (parameter c b from by i p v d e s)

result : {V W : Type 0} (c b : Context) (t : Option IntType) → AsMuch (part.with_result {V = V} c t) (part.with_result {V = W} b t)
result c b None p v d e s = s
result c b (Some t) p v d e s = valued 1 s

entry : {V W : Type 0} (from by : Option Caller) → AsMuch (part.placed_entry {V = V} from) (part.placed_entry {V = W} by)
entry None None p v d e s = s
entry None (Some m) p v d e s = s
entry (Some l) None p v d e s = s
entry (Some l) (Some m) p v d e s = s

ending : {V W : Type 0} (c b : Context) (name : List ℕ) (t : Option IntType) → AsMuch (part.ended {V = V} c name t) (part.ended {V = W} b name t)
ending c b name None p v d e s = s
ending c b name (Some t) p v d e s =
    either p v (part.is_main name) (emit (Set (own_result c d) (constant t (pos zero))) d) (emit (Havoc (own_result c d) t 1) d)
    (emit (Set (own_result b e) (constant t (pos zero))) e) (emit (Havoc (own_result b e) t 1) e) (pointed 1 s) (pointed 1 s)

body : (V W : Type 0) (c : Context) (k n : ℕ) (ss : List (Option Size)) (g : FunctionTree) (b : BodyTree) → AtItems (AgreeAt c.sizes ss) b.items → AsMuch (part.body_draft {V = V} c g b) (part.body_draft {V = W} (moved k n ss c) g b)
unfolding part.body_draft
body V W c k n ss g b h p v d e s =
    let f = lowered_items c b.items (part.start_exits d.points) (fresh (b.labels + 1) d) in
    let m = lowered_items (moved k n ss c) b.items (part.start_exits e.points) (fresh (b.labels + 1) e) in
    ending c (moved k n ss c) g.name g.returns p v (on b.closed (standing d.here f)) (on b.closed (standing e.here m))
    (items V W c k n ss b.items h (part.start_exits d.points) (part.start_exits e.points) p v (fresh (b.labels + 1) d) (fresh (b.labels + 1) e) (freshened p v (b.labels + 1) d e s))

beginning : (V W : Type 0) (c : Context) (k n : ℕ) (ss : List (Option Size)) (g : FunctionTree) (b : BodyTree) (from by : Option Caller) (r : Region) (d : DraftOf V) (e : DraftOf W)
    → InStep r.points r.variables (part.begun c g b from r d) (part.begun (moved k n ss c) g b by no_region e)
beginning V W c k n ss g b from by r d e =
    let here : Label = record { at = b.opened; path = c.path; scope = b.visible } in
    let there : Label = record { at = b.opened; path = k; scope = b.visible } in
    let x = begun_at r here (length c.locals + 1) d in
    let y = begun_at no_region there (length c.locals + 1) e in
    result c (moved k n ss c) g.returns r.points r.variables (part.all_introduced c from 0 g.parameters x) (part.all_introduced (moved k n ss c) by 0 g.parameters y)
    (parameters c (moved k n ss c) from by 0 g.parameters r.points r.variables x y (record { points = sym (add-zero r.points); variables = sym (add-zero r.variables) }))

of_body : (V W : Type 0) (c : Context) (k n : ℕ) (ss : List (Option Size)) (g : FunctionTree) (b : Option BodyTree) → IsSome b → AtItems (AgreeAt c.sizes ss) (unwrap_or b no_body).items → (from by : Option Caller) (r : Region) (d : DraftOf V) (e : DraftOf W)
    → InStep r.points r.variables (part.part_of c g b from r d) (part.part_of (moved k n ss c) g b by no_region e)
of_body V W c k n ss g None h a from by r d e = absurd (false≢true h)
of_body V W c k n ss g (Some b) h a from by r d e =
    let x = part.begun c g b from r d in
    let y = part.begun (moved k n ss c) g b by no_region e in
    body V W c k n ss g b a r.points r.variables (part.placed_entry from x) (part.placed_entry by y) (entry from by r.points r.variables x y (beginning V W c k n ss g b from by r d e))

pub parts : (V W : Type 0) (c : Context) (k n : ℕ) (ss : List (Option Size)) (f : ℕ) (from by : Option Caller) (r : Region) (d : DraftOf V) (e : DraftOf W) → HasBody c.unit f → AtItems (AgreeAt c.sizes ss) (part.body_at c.unit f).items
    → InStep r.points r.variables (part.part c f from r d) (part.part (moved k n ss c) f by no_region e)
unfolding part.part
parts V W c k n ss f from by r d e h a = of_body V W c k n ss (part.function_at c.unit f) (body_of c.unit f) h a from by r d e

measure : (V : Type 0) (u : UnitTree) (sizes ss : List (Option Size)) (k n f : ℕ) (from : Option Caller) (r : Region) (d : DraftOf V) → HasBody u f → AtItems (AgreeAt sizes ss) (part.body_at u f).items
    → InStep r.points r.variables (part.part (part.context u sizes k n f) f from r d) (part.part (part.context u ss 0 0 f) f None no_region (empty_draft by_number))
measure V u sizes ss k n f from r d h a = parts V ℕ (part.context u sizes k n f) 0 0 ss f from None r d (empty_draft by_number) h a

pub parts_make_their_size : (V : Type 0) → PartsMakeTheirSize V
parts_make_their_size V = record {
  points = λ u sizes ss k n f from r d h a. (measure V u sizes ss k n f from r d h a).points;
  variables = λ u sizes ss k n f from r d h a. (measure V u sizes ss k n f from r d h a).variables;
}
