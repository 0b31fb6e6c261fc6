-- Each path's body stands in the graph of its unit, where its first point shows its place, what it declares is settled, and its end is closed.
use Rattle.std.proofs.Common.{◌≡◌, ℕ, ◌+◌, ◌<◌, List, length, false, refl, ap, sym, subst, ◌∙◌, arith}
use Rattle.pk_typed.specs.Trees.{BodyTree, UnitTree}
use Rattle.pk_calls.specs.declared.listings.CallPath.{CallPath}
use Rattle.pk_welltyped.specs.Listed.{calls_in_items}
use Rattle.pk_welltyped.specs.WellTyped.{Marks, AreItems}
use Rattle.pk_draft.specs.declared.drafts.Region.{Region}
use Rattle.pk_draft.specs.Drafts.{DraftOf}
use Rattle.pk_lower_row.specs.Contexts.{Context}
use Rattle.pk_lower.specs.Parts as part
use Rattle.pk_lower_statement.specs.declared.statements.Exits.{Exits}
use Rattle.pk_lower_statement.specs.Statements.{lowered_items}
use Rattle.pk_meaning.specs.Programs.{block_of, body_scope}
use Rattle.pk_meaning.specs.Work.{Place}
use Rattle.pk_meaning.specs.Steps.{place}
use Rattle.pk_lower_laws.proofs.Drafts.Plans.{World, Draft, Lasting}
use Rattle.pk_visits.proofs.Slots.{Slot, Among, region_at}
use Rattle.pk_visits.proofs.Settled.Trees.{SettleAll}
use Rattle.pk_visits.proofs.Grows.Statements.{upto, upto_has}
use Rattle.pk_visits.proofs.Stages.{among_front}
use Rattle.pk_visits.proofs.Stands.{Whole, context_of, final, Held, AreCalm, Stage, Marking, Ended, BodyOf}
use Rattle.pk_visits.proofs.Cases.{fresh_point}
use Rattle.pk_visits.proofs.Grows.Parts.{begun_point, begun_points, placed_point, placed_points}
use Rattle.pk_visits.proofs.Numbered.Names.{draft_by}
use Rattle.pk_ctypes.specs.declared.places.Pos.{Pos}
use Rattle.pk_draft.specs.declared.drafts.Label.{Label}
use Rattle.pk_meaning.specs.Objects.{Scope}
use Rattle.pk_visits_laws.proofs.Followed.Basics.{either_is}
use Rattle.pk_visits_laws.proofs.Followed.Paths.{function_is}
use Rattle.pk_visits_laws.proofs.Followed.BodyCloses.{body_closes}
use Rattle.pk_visits_laws.proofs.Followed.Pairs.{slot_of, whole, world, AreTyped}
use Rattle.pk_visits_laws.proofs.Followed.Graphs.{graph}
use Rattle.pk_visits_laws.proofs.Followed.PartAdds.{context_at, body_begun, body_exit, part_adds}
use Rattle.pk_visits_laws.proofs.Followed.Pending.{PathAt}
use Rattle.pk_visits_laws.proofs.Followed.KeptPoints.{kept_points}
use Rattle.pk_visits_laws.proofs.Followed.Bodies.{behind, body_marks, rest_adds}
use Rattle.pk_visits_laws.proofs.Followed.BodyStages.{IsWholeOf, begun_grows, body_stage, stage_marks}

-- a path's region is the one with which its part begins
pub region_stays : (W : World) (l : Lasting W) (f : W.table.Variable → Slot) (d : Draft W) (g : Whole) → IsWholeOf W f d g → (k : ℕ) (q : PathAt W f d k) → region_at g.regions k ≡ region_at q.before.regions k
region_stays W l f d g is k q =
    let low = q.place.below in
    ap (λ rs. region_at rs k) is.graph.regions
    ∙ ((rest_adds W l f d k q).regions k (omega (low, arith)) ∙ either_is ((part_adds W l f k q.first q.path q.place q.before).regions k) (λ x. let y = x.0 in absurd (omega (y, low, arith))))

-- the body's exits
abbrev pub exits_of : (W : World) (f : W.table.Variable → Slot) (d : Draft W) (k : ℕ) → PathAt W f d k → Exits
exits_of W f d k q = part.start_exits (body_exit W f k q.first q.path q.place q.before)

-- the labels of its function, which has no cases
abbrev pub marks_of : (W : World) (f : W.table.Variable → Slot) (d : Draft W) (k : ℕ) → PathAt W f d k → Marks
marks_of W f d k q = record { labels = q.place.body.labels; returns = q.place.function.returns; cases = 0; has_default = false }

body_marking : (W : World) (f : W.table.Variable → Slot) (d : Draft W) (k : ℕ) (q : PathAt W f d k) → Marking (exits_of W f d k q) (marks_of W f d k q) (body_marks W f d k q)
body_marking W f d k q =
    let p = body_exit W f k q.first q.path q.place q.before in
    let many = (body_begun W f k q.first q.path q.place q.before).points in
    record {
      labels = λ i low. among_front (upto many 0) (kept_points W (behind W f d k q).regions (length W.paths) (k + 1)) (p + 1 + i) (subst (λ x. Among x (upto many 0)) (omega arith) (upto_has many 0 (p + 1 + i) (omega (low, arith))));
      cases = λ i low. absurd (omega (low, arith));
      default = λ h. absurd (cc h);
    }

-- a stage with the marking of its marks, of a body in a context
abbrev Marked : (g : Whole) (k : ℕ) (h : Place) (x : Exits) (m : Marks) (o : DraftOf Slot) → BodyTree → Context → Type 0
Marked g k h x m o b c = (s : Stage g k h (calls_in_items b.items) o (lowered_items c b.items x o)) × Marking x m s.marks

-- The body of path k stands, from what is left to be known of it.
pub body_stands : (W : World) (l : Lasting W) (f : W.table.Variable → Slot) (d : Draft W) (g : Whole) → IsWholeOf W f d g → g.program.unit ≡ W.unit → (k : ℕ) (q : PathAt W f d k) → k < length W.paths
    → (let o = body_begun W f k q.first q.path q.place q.before in let x = exits_of W f d k q in
    g.shows o.here k (place o.here.at (body_scope g.program k)) → SettleAll (final g k) (context_of g k) (block_of g.program k).items x o
    → ((hs : List Held) → AreCalm o.variables hs → Ended g k x (lowered_items (context_of g k) (block_of g.program k).items x o).point hs) → BodyOf g k)
body_stands W l f d g is unit k q there here settled ended = record {
  exits = x;
  draft = o;
  objects = length q.place.function.parameters;
  mark = m;
  enters = fresh_point (q.place.body.labels + 1) (part.placed_entry q.path.caller b) ∙ (placed_point q.path.caller b ∙ (begun_point c q.place.function q.place.body q.path.caller r (draft_by f q.before) ∙ ap (λ (z : Region). z.at) (sym same)));
  bare = record { broken = refl; continued = refl };
  leaves = placed_points q.path.caller b ∙ (begun_points c q.place.function q.place.body q.path.caller r (draft_by f q.before) ∙ ap (λ (z : Region). z.points) (sym same));
  variables = let v = (begun_grows W f k q.first q.path q.place q.before).variables in let z = ap (λ (y : Region). y.variables) same in omega (v, z, arith);
  fits = subst (λ u. AreItems (record { unit = u; locals = (block_of g.program k).locals; objects = length q.place.function.parameters }) m (block_of g.program k).items) (sym unit)
      (subst (λ (y : BodyTree). AreItems (record { unit = W.unit; locals = y.locals; objects = length q.place.function.parameters }) m y.items) (sym (is.blocks k q)) q.place.is_body.items);
  stage = marked.0;
  marking = marked.1;
  settled = settled;
  ended = ended;
} where
  o : DraftOf Slot
  o = body_begun W f k q.first q.path q.place q.before

  x : Exits
  x = exits_of W f d k q

  m : Marks
  m = marks_of W f d k q

  c : Context
  c = context_at W k q.first q.path

  r : Region
  r = region_at q.before.regions k

  b : DraftOf Slot
  b = part.begun c q.place.function q.place.body q.path.caller r (draft_by f q.before)

  same : region_at g.regions k ≡ r
  same = region_stays W l f d g is k q

  h : Place
  h = place o.here.at (body_scope g.program k)

  marked : Marked g k h x m o (block_of g.program k) (context_of g k)
  marked = subst (λ y. Marked g k h x m o (block_of g.program k) y) (sym (is.contexts k q)) (subst (λ y. Marked g k h x m o y c) (sym (is.blocks k q)) (body_stage W l f d g is k q there h here, subst (Marking x m) (sym (stage_marks W l f d g is k q there h here)) (body_marking W f d k q)))

-- The body of path k stands in the graph of its unit, where its first point shows its place and what it declares is settled.
pub path_body : (u : UnitTree) (paths : List CallPath) → AreTyped u paths → IsWholeOf (world u paths) slot_of (whole u paths) (graph u paths)
    → ((i : Label) (k : ℕ) (xs : Scope) (p : Pos) → (graph u paths).shows i k (place i.at xs) → (graph u paths).shows (record { at = p; path = i.path; scope = i.scope }) k (place p xs))
    → (k : ℕ) (q : PathAt (world u paths) slot_of (whole u paths) k) → k < length paths
    → (let o = body_begun (world u paths) slot_of k q.first q.path q.place q.before in let x = exits_of (world u paths) slot_of (whole u paths) k q in
    (graph u paths).shows o.here k (place o.here.at (body_scope (graph u paths).program k)) → SettleAll (final (graph u paths) k) (context_of (graph u paths) k) (block_of (graph u paths).program k).items x o → BodyOf (graph u paths) k)
path_body u paths a is positions k q there here settled =
    let W = world u paths in
    let f = slot_of in
    let d = whole u paths in
    let g = graph u paths in
    let o = body_begun W f k q.first q.path q.place q.before in
    let x = exits_of W f d k q in
    let functions = λ (j : ℕ) (r : PathAt W f d j). function_is W j r.first r.path r.place in
    body_stands W a.lasts f d g is refl k q there here settled
    (λ hs calm. subst (λ (c : Context). Ended g k x (lowered_items c (block_of g.program k).items x o).point hs) (sym (is.contexts k q))
    (subst (λ (b : BodyTree). Ended g k x (lowered_items (context_at W k q.first q.path) b.items x o).point hs) (sym (is.blocks k q))
    (body_closes W a.lasts f d g is functions positions k q here o.variables hs calm)))
