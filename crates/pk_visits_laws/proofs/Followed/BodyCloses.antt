-- The end of a path's body: what falling off it does, and the way to its exit.
use Rattle.std.proofs.Common.{◌≡◌, ℕ, ◌+◌, ◌<◌, ◌≤◌, inr, List, length, Bool, true, false, Option, Some, None, if◌then◌else◌, refl, ap, sym, subst, ◌∙◌, arith, pos}
use Rattle.std.proofs.lemmas.List.{get_or-set_same}
use Rattle.pk_ctypes.specs.declared.places.Pos.{Pos}
use Rattle.pk_ctypes.specs.declared.types.IntType.{IntType}
use Rattle.pk_typed.specs.Trees.{BodyTree, FunctionTree}
use Rattle.pk_graph.specs.Trees.{constant, Set, Havoc, Skip}
use Rattle.pk_draft.specs.declared.drafts.Label.{Label}
use Rattle.pk_draft.specs.Drafts.{Names, DraftOf, no_label, on, standing, go, emit, fresh}
use Rattle.pk_lower_row.specs.Contexts.{Context, own_result}
use Rattle.pk_lower.specs.Parts as part
use Rattle.pk_meaning.specs.Objects.{Scope, result}
use Rattle.pk_meaning.specs.Programs.{function_of, block_of, body_scope}
use Rattle.pk_meaning.specs.Steps.{place, body_place}
use Rattle.pk_lower_laws.proofs.Drafts.Plans.{World, Draft, Lasting}
use Rattle.pk_visits.proofs.Slots.{Slot, own, Edge, edge, Among, label_at, front_among, last_among, Uncalled}
use Rattle.pk_visits.proofs.Grows.Statements.{fresh_grows}
use Rattle.pk_visits.proofs.Stands.{Whole, Held, AreCalm, EndedBy, Ended, end_place}
use Rattle.pk_visits.proofs.Doom.{calm_plain}
use Rattle.pk_visits.proofs.Operands.{all_own}
use Rattle.pk_visits.proofs.Grows.Parts.{begun_position, placed_here}
use Rattle.pk_visits.proofs.Numbered.Names.{draft_by}
use Rattle.pk_visits_laws.proofs.Followed.PartAdds.{context_at, part_at, body_begun, body_exit, body_ended, closed_is, part_adds, part_ends}
use Rattle.pk_visits_laws.proofs.Followed.Pending.{PathAt}
use Rattle.pk_visits_laws.proofs.Followed.Bodies.{behind, rest_adds, part_closes}
use Rattle.pk_visits_laws.proofs.Followed.BodyStages.{IsWholeOf}
use Rattle.pk_visits_laws.proofs.Followed.BodyEnds.{own_label, exit_label}

-- the end of a body, whose result is s
abbrev pub finish : Bool → Option IntType → Slot → DraftOf Slot → DraftOf Slot
finish b None s d = d
finish true (Some t) s d = emit (Set s (constant t (pos 0))) d
finish false (Some t) s d = emit (Havoc s t 1) d

finish_is : (c : Context) (name : List ℕ) (t : Option IntType) (d : DraftOf Slot) → part.ended c name t d ≡ finish (part.is_main name) t (own_result c d) d
finish_is c name None d = refl
finish_is c name (Some t) d = by (part.is_main name) where
  by : (b : Bool) → (if b then emit (Set (own_result c d) (constant t (pos 0))) d else emit (Havoc (own_result c d) t 1) d) ≡ finish b (Some t) (own_result c d) d
  by true = refl
  by false = refl

-- what it does in a graph that has its edges and the labels of its points
falls : (g : Whole) (k : ℕ) (b : Bool) (t : Option IntType) (s : Slot) (d : DraftOf Slot) (p n : ℕ) (hs : List Held) → s ≡ own (result k) → ((x : Edge) → Among x (go Skip p (finish b t s d)).edges → Among x g.edges)
    → (finish b t s d).points ≤ length d.labels → ((x : ℕ) → d.points ≤ x → x < (finish b t s d).points → label_at g.labels x ≡ label_at (finish b t s d).labels x) → g.shows d.here k (end_place g.program k) → AreCalm n hs
    → EndedBy g k b t d.point (finish b t s d).point hs
falls g k b None s d p n hs is edges room labels shows calm = refl
falls g k true (Some t) s d p n hs is edges room labels shows calm = record {
  there = subst (λ (y : Slot). Among (edge d.point (Set y (constant t (pos 0))) d.points) g.edges) is (edges _ (front_among (emit (Set s (constant t (pos 0))) d).edges _ _ (last_among d.edges (edge d.point (Set s (constant t (pos 0))) d.points))));
  shown = subst (λ (l : Label). g.shows l k (end_place g.program k)) (sym (labels d.points (omega arith) (omega arith) ∙ get_or-set_same d.labels d.points d.here no_label (omega (room, arith)))) shows;
  apart = all_own n (result k) hs calm;
  plain = calm_plain n hs calm;
}
falls g k false (Some t) s d p n hs is edges room labels shows calm = record {
  there = subst (λ (y : Slot). Among (edge d.point (Havoc y t 1) d.points) g.edges) is (edges _ (front_among (emit (Havoc s t 1) d).edges _ _ (last_among d.edges (edge d.point (Havoc s t 1) d.points))));
  shown = subst (λ (l : Label). g.shows l k (end_place g.program k)) (sym (labels d.points (omega arith) (omega arith) ∙ get_or-set_same d.labels d.points d.here no_label (omega (room, arith)))) shows;
  apart = all_own n (result k) hs calm;
  plain = calm_plain n hs calm;
}

-- The end of path k's body, where its first point shows its place.
pub body_closes : (W : World) (l : Lasting W) (f : W.table.Variable → Slot) (d : Draft W) (g : Whole) → IsWholeOf W f d g → ((k : ℕ) (q : PathAt W f d k) → function_of g.program k ≡ q.place.function)
    → ((i : Label) (k : ℕ) (xs : Scope) (p : Pos) → g.shows i k (place i.at xs) → g.shows (record { at = p; path = i.path; scope = i.scope }) k (place p xs))
    → (k : ℕ) (q : PathAt W f d k) → (let o = body_begun W f k q.first q.path q.place q.before in g.shows o.here k (place o.here.at (body_scope g.program k))
    → (n : ℕ) (hs : List Held) → AreCalm n hs → Ended g k (part.start_exits (body_exit W f k q.first q.path q.place q.before)) (body_ended W f k q.first q.path q.place q.before).point hs)
body_closes W l f d g is functions positions k q here n hs calm = record {
  to = F.point;
  falls = subst (λ (h : FunctionTree). EndedBy g k (part.is_main h.name) h.returns Z.point F.point hs) (sym (functions k q)) (falls g k b t s D p n hs named edges room labels shows calm);
  leaves = edges _ (last_among F.edges (edge F.point Skip p));
  exit = subst (λ (i : Label). g.shows i k (body_place g.program k)) (sym (exit_label W l f d g is.graph k q)) (subst (λ (y : Pos). g.shows O.here k (place y (body_scope g.program k))) opened here);
} where
  Z : DraftOf Slot
  Z = body_ended W f k q.first q.path q.place q.before

  O : DraftOf Slot
  O = body_begun W f k q.first q.path q.place q.before

  c : Context
  c = context_at W k q.first q.path

  o : DraftOf Slot
  o = part.placed_entry q.path.caller (part.begun c q.place.function q.place.body q.path.caller (Rattle.pk_visits.proofs.Slots.region_at q.before.regions k) (draft_by f q.before))

  D : DraftOf Slot
  D = on q.place.body.closed (standing o.here Z)

  p : ℕ
  p = body_exit W f k q.first q.path q.place q.before

  b : Bool
  b = part.is_main q.place.function.name

  t : Option IntType
  t = q.place.function.returns

  s : Slot
  s = own_result c D

  F : DraftOf Slot
  F = finish b t s D

  closed : go Skip p F ≡ draft_by f (part_at W k q.first q.path q.before)
  closed = ap (λ (z : DraftOf Slot). go Skip p z) (sym (finish_is c q.place.function.name t D)) ∙ closed_is W f k q.first q.path q.place q.before

  named : s ≡ own (result k)
  named =
      let a = (part_closes W f k q.first q.path q.place q.before).names in
      let e = (part_adds W l f k q.first q.path q.place q.before).names in
      ap (λ (ns : Names Slot). ns.result k (Rattle.pk_draft.specs.Drafts.object_number (length c.locals) D)) (sym a ∙ (e ∙ q.names))

  edges : (x : Edge) → Among x (go Skip p F).edges → Among x g.edges
  edges x m = subst (Among x) (sym is.graph.edges) ((rest_adds W l f d k q).edges x (subst (λ (z : DraftOf Slot). Among x z.edges) closed m))

  same_points : F.points ≡ (behind W f d k q).points
  same_points = ap (λ (z : DraftOf Slot). z.points) closed

  room : F.points ≤ length D.labels
  room =
      let a = (part_closes W f k q.first q.path q.place q.before).size in
      let e = (rest_adds W l f d k q).size in
      let w = is.graph.room in
      let ends = part_ends W l k q.first q.path q.place q.before in
      let made = (q.plan.kept k q.place.below).points in
      let same = same_points in
      omega (a, e, w, ends, made, same, arith)

  positive : 0 < D.points
  positive = let a = (Rattle.pk_visits_laws.proofs.Followed.BodyEnds.items_grow W f k q.first q.path q.place q.before).points in omega (a, arith)

  labels : (x : ℕ) → D.points ≤ x → x < F.points → label_at g.labels x ≡ label_at F.labels x
  labels x low high =
      let up = positive in
      let same = same_points in
      own_label W l f d g is.graph k q x (inr (low, omega (high, same, arith))) (omega (low, up, arith)) ∙ sym (ap (λ (z : DraftOf Slot). label_at z.labels x) closed)

  start : O.here ≡ o.here
  start = (fresh_grows Uncalled (q.place.body.labels + 1) o).here

  shows : g.shows D.here k (end_place g.program k)
  shows = subst (λ (y : BodyTree). g.shows D.here k (place y.closed (body_scope g.program k))) (sym (is.blocks k q))
      (positions o.here k (body_scope g.program k) q.place.body.closed (subst (λ (i : Label). g.shows i k (place i.at (body_scope g.program k))) start here))

  opened : O.here.at ≡ (block_of g.program k).opened
  opened =
      ap (λ (i : Label). i.at) (start ∙ placed_here q.path.caller (part.begun c q.place.function q.place.body q.path.caller (Rattle.pk_visits.proofs.Slots.region_at q.before.regions k) (draft_by f q.before)))
      ∙ (begun_position c q.place.function q.place.body q.path.caller (Rattle.pk_visits.proofs.Slots.region_at q.before.regions k) (draft_by f q.before) ∙ ap (λ (y : BodyTree). y.opened) (sym (is.blocks k q)))
