-- The part of a path: what it adds, and its loops into which nothing jumps.
use Rattle.std.proofs.Common.{ℕ, ◌+◌, List, Bool, true, false, if◌then◌else◌, Option, Some, None, subst, inl, inr, arith}
use Rattle.std.specs.Prelude.{pos}
use Rattle.pk_ctypes.specs.declared.places.Pos.{Pos}
use Rattle.pk_ctypes.specs.declared.types.IntType.{IntType}
use Rattle.pk_typed.specs.Trees.{StatementTree, BodyTree, FunctionTree}
use Rattle.pk_calls.specs.declared.listings.Caller.{Caller}
use Rattle.pk_welltyped.specs.Listed.{calls_in_items}
use Rattle.pk_welltyped.specs.WellTyped.{Around, AreItems}
use Rattle.pk_welltyped.specs.Marks.{times_in}
use Rattle.pk_meaning.specs.Steps.{Mark, labelled, numbered, otherwise}
use Rattle.pk_graph.specs.Trees.{constant, Skip, Set, Havoc}
use Rattle.pk_draft.specs.declared.drafts.Region.{Region}
use Rattle.pk_draft.specs.Drafts.{DraftOf, on, standing, fresh, go, emit}
use Rattle.pk_lower_row.specs.Contexts.{Context, own_result}
use Rattle.pk_lower_statement.specs.Statements.{lowered_items}
use Rattle.pk_lower.specs.Parts.{begun, placed_entry, is_main, ended, start_exits, body_draft, part_of}
use Rattle.pk_visits.specs.Turns.{turns_of_body, turns_of_part}
use Rattle.pk_visits.proofs.Settled.Bodies.{labels_of}
use Rattle.pk_visits_laws.proofs.Ways.Parts.{begun_stays}
use Rattle.pk_edge_laws.specs.Jumps.{gotos_in, HasNoCase}
use Rattle.pk_edge_laws.specs.Edges.{GoesBy, NoPoint, Goes, AreSized, IsLabelIn}
use Rattle.pk_edge_laws.proofs.Goes.{goes_then, splits_then, going_on}
use Rattle.pk_edge_laws.proofs.Rows.{goes_refl, emit_goes}
use Rattle.pk_edge_laws.proofs.Statements.{New, with_more, leads, from_fresh, placing, AreEnds, AreNamed, items_of}
use Rattle.pk_loop_heads.specs.Loops.{HasLoopIn}
use Rattle.pk_loop_heads.proofs.Enters.{Turns, IsFree, turns_before, edge_behind}
use Rattle.pk_loop_heads.proofs.Within.{KeepsAll, AreLow, loop_among}

-- ---- its body

ended_goes : {V : Type 0} {z : ℕ → ℕ} (c : Context) (name : List ℕ) (t : Option IntType) (d : DraftOf V) → Goes z d (ended c name t d)
ended_goes c name None d = goes_refl d
ended_goes {V} {z} c name (Some t) d = by (is_main name) where
  by : (b : Bool) → Goes z d (if b then emit (Set (own_result c d) (constant t (pos 0))) d else emit (Havoc (own_result c d) t 1) d)
  by true = emit_goes (Set (own_result c d) (constant t (pos 0))) d
  by false = emit_goes (Havoc (own_result c d) t 1) d

-- its exit and its labels are its first points
body_ends : (b : BodyTree) (r : Option IntType) (n : ℕ) (t : ℕ → ℕ) → AreEnds (New NoPoint n (b.labels + 1)) (labels_of b r) (start_exits n) t
body_ends b r n t = record {
  broken = inr (omega arith, omega arith);
  continued = inr (omega arith, omega arith);
  left = inr (omega arith, omega arith);
  labels = λ l h some. inr (omega arith, omega (arith, h));
}

body_named : (b : BodyTree) (r : Option IntType) (n : ℕ) (t : Mark → ℕ) → AreNamed (New NoPoint n (b.labels + 1)) (New NoPoint n (b.labels + 1)) (start_exits n) (labels_of b r) t
body_named b r n t (labelled l) is some = (inr (omega arith, omega (arith, is)), inr (omega arith, omega (arith, is)))
body_named b r n t (numbered i) is some = absurd (omega (arith, is))
body_named b r n t otherwise is some = absurd (grind (arith, is))

-- the exit is before the labels
body_low : (b : BodyTree) (w : StatementTree) (r : Option IntType) (n : ℕ) → AreLow (IsLabelIn (n + 1) b.labels w) (labels_of b r) (start_exits n) (n + (b.labels + 1))
body_low b w r n = record {
  below = λ y k. let u = k.1 in let e = k.3 in omega (arith, u, e);
  broken = exit;
  continued = exit;
  left = exit;
  labels = λ l h. omega (arith, h);
  cases = λ i h. absurd (omega (arith, h));
  default = λ h. absurd (grind (arith, h));
} where
  exit : IsFree (IsLabelIn (n + 1) b.labels w) (n + (b.labels + 1)) n
  exit = (omega arith, λ k. let e = k.3 in absurd (omega (arith, e)))

body_goes : {V : Type 0} (z : ℕ → ℕ) (c : Context) (g : FunctionTree) (b : BodyTree) (a : Around) (d : DraftOf V) → AreItems a (labels_of b g.returns) b.items → AreSized z c (calls_in_items b.items) → Goes z d (body_draft c g b d)
unfolding body_draft
body_goes {V} z c g b a d fits called =
    let n = d.points in
    let x = start_exits n in
    let m = labels_of b g.returns in
    let N = New NoPoint n (b.labels + 1) in
    let o = fresh (b.labels + 1) d in
    let e = lowered_items c b.items x o in
    let f = on b.closed (standing d.here e) in
    let i = ended c g.name g.returns f in
    let items = items_of V z N N c a m b.items x o fits called (body_ends b g.returns n (λ k. gotos_in k b.items)) (body_named b g.returns n (λ k. times_in k b.items)) in
    let ends = with_more N N (ended_goes {z = z} c g.name g.returns f) in
    going_on {K = NoPoint} {L = NoPoint} {M = N} {N = N} (b.labels + 1) n (omega arith, omega arith) (λ y k. k) (λ y k. k)
    (from_fresh N N (b.labels + 1) d (go Skip n i) (splits_then (goes_then items ends) (leads N N n i (inr (omega arith, omega arith)))))

body_turns : {V : Type 0} (z : ℕ → ℕ) (l : Pos) (w : StatementTree) (c : Context) (g : FunctionTree) (b : BodyTree) (a : Around) (d : DraftOf V) → HasNoCase w → AreItems a (labels_of b g.returns) b.items → AreSized z c (calls_in_items b.items) → KeepsAll b.labels w b.items → HasLoopIn l w b.items
    → Turns z (IsLabelIn (d.points + 1) b.labels w) l (d.points + (b.labels + 1)) d.edges d.regions (body_draft c g b d).points (body_draft c g b d).edges (body_draft c g b d).regions (turns_of_body c b d)
unfolding body_draft
body_turns {V} z l w c g b a d none fits called keeps has =
    let n = d.points in
    let x = start_exits n in
    let m = labels_of b g.returns in
    let K = IsLabelIn (n + 1) b.labels w in
    let o = fresh (b.labels + 1) d in
    let e = lowered_items c b.items x o in
    let f = on b.closed (standing d.here e) in
    let i = ended c g.name g.returns f in
    let y = go Skip n i in
    let low = body_low b w g.returns n in
    let inner = loop_among V z l w c a m b.items x o none fits called low keeps has in
    let ends = ended_goes {z = z} c g.name g.returns f in
    let all = edge_behind i.points i.point Skip n low.below (inl low.left) (omega arith) (turns_before {K = K} {N = NoPoint} low.below (λ y none. absurd none) (omega arith) ends.splits inner) in
    subst (λ es. Turns z K l (n + (b.labels + 1)) es d.regions y.points y.edges y.regions (turns_of_body c b d)) (placing (b.labels + 1) n d).1
    (subst (λ rs. Turns z K l (n + (b.labels + 1)) o.edges rs y.points y.edges y.regions (turns_of_body c b d)) (placing (b.labels + 1) n d).2 all)

-- ---- from where its region says

pub part_goes : {V : Type 0} (z : ℕ → ℕ) (c : Context) (g : FunctionTree) (b : BodyTree) (from : Option Caller) (r : Region) (a : Around) (d : DraftOf V) → AreItems a (labels_of b g.returns) b.items → AreSized z c (calls_in_items b.items)
    → let e = part_of c g (Some b) from r d in GoesBy z NoPoint NoPoint r.at r.points d.edges d.regions e.point e.points e.edges e.regions
part_goes {V} z c g b from r a d fits called =
    let e = part_of c g (Some b) from r d in
    let f = placed_entry from (begun c g b from r d) in
    let s = begun_stays c g b from r d in
    subst (λ p. GoesBy z NoPoint NoPoint p r.points d.edges d.regions e.point e.points e.edges e.regions) s.0
    (subst (λ n. GoesBy z NoPoint NoPoint f.point n d.edges d.regions e.point e.points e.edges e.regions) s.1
    (subst (λ es. GoesBy z NoPoint NoPoint f.point f.points es d.regions e.point e.points e.edges e.regions) s.2
    (subst (λ rs. GoesBy z NoPoint NoPoint f.point f.points f.edges rs e.point e.points e.edges e.regions) s.3 (body_goes z c g b a f fits called))))

-- a loop of it is behind its exit and its labels
pub part_turns : {V : Type 0} (z : ℕ → ℕ) (l : Pos) (w : StatementTree) (c : Context) (g : FunctionTree) (b : BodyTree) (from : Option Caller) (r : Region) (a : Around) (d : DraftOf V) → HasNoCase w → AreItems a (labels_of b g.returns) b.items → AreSized z c (calls_in_items b.items) → KeepsAll b.labels w b.items → HasLoopIn l w b.items
    → let e = part_of c g (Some b) from r d in Turns z (IsLabelIn (r.points + 1) b.labels w) l (r.points + (b.labels + 1)) d.edges d.regions e.points e.edges e.regions (turns_of_part c g (Some b) from r d)
part_turns {V} z l w c g b from r a d none fits called keeps has =
    let e = part_of c g (Some b) from r d in
    let f = placed_entry from (begun c g b from r d) in
    let s = begun_stays c g b from r d in
    let us = turns_of_part c g (Some b) from r d in
    subst (λ n. Turns z (IsLabelIn (n + 1) b.labels w) l (n + (b.labels + 1)) d.edges d.regions e.points e.edges e.regions us) s.1
    (subst (λ es. Turns z (IsLabelIn (f.points + 1) b.labels w) l (f.points + (b.labels + 1)) es d.regions e.points e.edges e.regions us) s.2
    (subst (λ rs. Turns z (IsLabelIn (f.points + 1) b.labels w) l (f.points + (b.labels + 1)) f.edges rs e.points e.edges e.regions us) s.3 (body_turns z l w c g b a f none fits called keeps has)))
