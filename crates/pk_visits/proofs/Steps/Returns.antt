-- The graph follows the program at the end of a body; from the work of a `return` to that of its value.
use Rattle.std.proofs.Common.{◌≡◌, ℕ, ◌<◌, List, [], ◌∷◌, length, Bool, true, false, ◌&&◌, nat_eq, if◌then◌else◌, refl, sym, ap, subst, arith, Option, Some, None}
use Rattle.std.specs.Prelude.{pos}
use Rattle.std.proofs.lemmas.Bool.{eqb-true}
use Rattle.pk_ctypes.specs.declared.places.Pos.{Pos}
use Rattle.pk_ctypes.specs.declared.types.IntType.{IntType}
use Rattle.pk_ctypes.proofs.Wrapped.{zero_in}
use Rattle.pk_typed.specs.Trees.{ValueTree}
use Rattle.pk_typed.specs.Trees as tree
use Rattle.pk_typed.specs.Types.{type_of}
use Rattle.pk_graph.specs.Trees.{constant, Set, Havoc, Skip}
use Rattle.pk_graph.specs.Steps as steps
use Rattle.pk_graph.specs.Steps.{Numbers, are_any, all_in_type}
use Rattle.pk_draft.specs.Drafts.{on, emit, away, link, Names, object_number}
use Rattle.pk_draft.specs.Folding.{conversion}
use Rattle.pk_lower_row.specs.Contexts.{own_result}
use Rattle.pk_lower_row.specs.Rows as rows
use Rattle.pk_lower_expression.specs.Expressions.{ways}
use Rattle.pk_lower_statement.specs.declared.statements.Exits.{Exits}
use Rattle.pk_lower_statement.specs.Statements.{lowered}
use Rattle.pk_welltyped.specs.Listed.{Numbered, calls_in}
use Rattle.pk_welltyped.specs.WellTyped.{IsValue}
use Rattle.pk_meaning.specs.Objects.{Objects, result, with_numbers, is_in_scope}
use Rattle.pk_meaning.specs.Programs.{function_of, is_main}
use Rattle.pk_meaning.specs.Work as work
use Rattle.pk_meaning.specs.Work.{Place, Caller, Ahead}
use Rattle.pk_meaning.specs.Steps as meaning
use Rattle.pk_meaning.specs.Steps.{place, step_of, caller_of}
use Rattle.pk_visits.proofs.Settled.Trees.{Settles}
use Rattle.pk_visits.proofs.Slots.{Slot, own, Draft, Memory, with_memory, Among, edge, last_among, Uncalled}
use Rattle.pk_visits.proofs.Stands.{Whole, Proper, context_of, Held, around, ArePlain, AreCalm, ShowsAt, Means, FitsObjects, Writes, EndedBy, end_place, Stage, LaidWay, LaidAhead, LaidCaller, Laid}
use Rattle.pk_visits.proofs.Stores.{Fitting, fits_written, means_apart}
use Rattle.pk_visits.proofs.Follow.{Answers, config, still, moved, kind_is, scalar_written}
use Rattle.pk_visits.proofs.Stages.{ways_grow, stage_at, stage_until, stage_edge, forth_here}
use Rattle.pk_visits.proofs.Grows.Rows.{grows_trans, emit_grows, link_grows, fresh_one_grows}
use Rattle.pk_visits.proofs.Steps.Tells.{Any, sane}
use Rattle.pk_visits.proofs.Steps.Trees.{stage_names}
use Rattle.pk_visits.proofs.Operands.{all_own}
use Rattle.pk_visits.proofs.Doom.{calm_plain}
use Rattle.pk_graph.specs.Kinds.{Kind, scalar_kind}

both_true : (a b : Bool) → (a && b) ≡ true → (a ≡ true) × (b ≡ true)
both_true true b h = (refl, h)
both_true false b h = absurd (grind (arith, h))

-- what waits for the function's end, from any place in its body
pub caller_laid : (g : Whole) (k : ℕ) (x : Exits) (a : Ahead) (p : ℕ) (hs : List Held) → LaidAhead g k x a p hs → ShowsAt g x.left k (meaning.body_place g.program k) × LaidCaller g k (caller_of a) x.left hs
caller_laid g k x (work.Rest xs is a) p hs (d, n, m, is', fits, calm, s, marking, settled, l) = caller_laid g k x a _ hs l
caller_laid g k x (work.Join h a) p hs (q, there, shown, l) = caller_laid g k x a q hs l
caller_laid g k x (work.Again h loop e a) p hs (y, b, there, shown, same, loops, cont, behind, l) =
    subst (λ (z : Exits). ShowsAt g z.left k (meaning.body_place g.program k) × LaidCaller g k (caller_of a) z.left hs) (sym same) (caller_laid g k y a _ hs l)
caller_laid g k x (work.Close h a) p hs (y, there, shown, same, l) =
    subst (λ (z : Exits). ShowsAt g z.left k (meaning.body_place g.program k) × LaidCaller g k (caller_of a) z.left hs) (sym same) (caller_laid g k y a _ hs l)
caller_laid g k x (work.End c) p hs (ended, body, l, bare) = (ended.exit, l)

-- ---- the end of a body

end_follows : (j : Place) (g : Whole) (chosen : Numbers) (p q : ℕ) (m : Memory) (k : ℕ) (w : work.Work) (c : Caller) (vs : Numbers) (s : Objects) (b : Bool) (x : Exits) (hs : List Held) (r : Option IntType) → k < length g.program.paths
    → (function_of g.program k).returns ≡ r → EndedBy g k (is_main g.program k) r p q hs → ArePlain hs → Among (edge q Skip x.left) g.edges → ShowsAt g x.left k (meaning.body_place g.program k) → LaidCaller g k c x.left hs
    → Means m hs vs → m.objects ≡ s → FitsObjects g.program s
    → Answers g chosen k j p m (meaning.falls g.program chosen (config k (end_place g.program k) w vs s b) r c)
end_follows j g chosen p q m k w c vs s b x hs None there is l plain way shown caller e same f =
    still g chosen p m k (end_place g.program k) (work.Leave c) vs s x hs (plain, subst (λ o. Among (edge o Skip x.left) g.edges) (sym l) way, shown, caller) e same f
end_follows j g chosen p q m k w c vs s b x hs (Some t) there is l plain way shown caller e same f = by (is_main g.program k) l where
  any : (y : Bool) → are_any t 1 chosen ≡ y → Writes g k (end_place g.program k) p (own (result k)) (Havoc (own (result k)) t 1) q hs
      → Answers g chosen k j p m (if y then meaning.writes (config k (end_place g.program k) w vs s b) (result k) chosen (work.Leave c) vs else meaning.Wants t 1)
  any false no_choice z = (q, own (result k), z.there, no_choice)
  any true choice z =
      let a = both_true (nat_eq (length chosen) 1) (all_in_type t chosen) choice in
      let one : length chosen ≡ 1 = eqb-true (length chosen) 1 a.0 in
      moved g chosen p q m (with_memory (own (result k)) chosen m) (Havoc (own (result k)) t 1) k (end_place g.program k) (work.Leave c) vs (with_numbers (result k) chosen s) (is_in_scope (result k) (end_place g.program k).scope) x hs
      z.there (ap (λ y. if y then steps.To (with_memory (own (result k)) chosen m) else steps.Wants t 1) choice) (refl, z.shown) (plain, way, shown, caller)
      (means_apart (own (result k)) chosen m hs vs z.apart e) (ap (with_numbers (result k) chosen) same)
      (fits_written g.program (result k) chosen s (λ n j. subst (λ (v : Kind). Fitting v chosen) (kind_is g.program (result k) (scalar_kind t) n (there, t, is, refl) j) (one, a.1)) f)

  by : (y : Bool) → EndedBy g k y (Some t) p q hs
      → Answers g chosen k j p m (if y then meaning.writes (config k (end_place g.program k) w vs s b) (result k) (pos 0 ∷ []) (work.Leave c) vs
      else meaning.with_choice t 1 chosen (meaning.writes (config k (end_place g.program k) w vs s b) (result k) chosen (work.Leave c) vs))
  by true z =
      moved g chosen p q m (with_memory (own (result k)) (pos 0 ∷ []) m) (Set (own (result k)) (constant t (pos 0))) k (end_place g.program k) (work.Leave c) vs (with_numbers (result k) (pos 0 ∷ []) s) (is_in_scope (result k) (end_place g.program k).scope) x hs
      z.there refl (refl, z.shown) (plain, way, shown, caller) (means_apart (own (result k)) (pos 0 ∷ []) m hs vs z.apart e) (ap (with_numbers (result k) (pos 0 ∷ [])) same)
      (scalar_written g.program (result k) t (pos 0) s (there, t, is, refl) (let z = zero_in t in record { from = z.0; to = z.1 }) f)
  by false z = any (are_any t 1 chosen) refl z

pub fall : (g : Whole) (chosen : Numbers) (p : ℕ) (m : Memory) (k : ℕ) (h : Place) (c : Caller) (vs : Numbers) (s : Objects) (b : Bool) (x : Exits) (hs : List Held)
    → Laid g k h x (work.Go (work.End c)) p hs → Means m hs vs → m.objects ≡ s → FitsObjects g.program s
    → Answers g chosen k h p m (step_of g.program chosen (config k h (work.Go (work.End c)) vs s b) (work.Go (work.End c)))
fall g chosen p m k h c vs s b x hs (plain, (ended, body, caller, bare)) e same f =
    end_follows h g chosen p ended.to m k (work.Go (work.End c)) c vs s b x hs (function_of g.program k).returns body.stage.path refl ended.falls plain ended.leaves ended.exit caller e same f

-- ---- jumps

-- the edge of a jump
pub jump_edge : (g : Whole) (k : ℕ) (h : Place) (xs : List Numbered) (p : Pos) (q : ℕ) (d : Draft) → Stage g k h xs d (away q (on p d)) → Among (edge d.point Skip q) g.edges
jump_edge g k h xs p q d s = s.leads.edges _ (last_among d.edges (edge d.point Skip q))

pub broken_laid : (g : Whole) (k : ℕ) (x : Exits) (a : Ahead) (p : ℕ) (hs : List Held) → (x.broken ≡ x.left → ⊥) → ArePlain hs → LaidAhead g k x a p hs → LaidWay g k (meaning.broken a) x.broken hs
broken_laid g k x (work.Rest xs is a) p hs none plain (d, n, m, is', fits, calm, s, marking, settled, l) = broken_laid g k x a _ hs none plain l
broken_laid g k x (work.Join h a) p hs none plain (q, there, shown, l) = broken_laid g k x a q hs none plain l
broken_laid g k x (work.Again h loop e a) p hs none plain (y, b, there, shown, same, loops, cont, behind, l) = (behind, (y, (plain, l)))
broken_laid g k x (work.Close h a) p hs none plain (y, there, shown, same, l) = (shown, (y, (plain, l)))
broken_laid g k x (work.End c) p hs none plain l = absurd (none l.3.broken)

-- `break`: the edge, and what is behind
pub break_laid : (g : Whole) (k : ℕ) (h : Place) (x : Exits) (p : Pos) (a : Ahead) (pt : ℕ) (hs : List Held) → Laid g k h x (work.Do (tree.break p) a) pt hs
    → Among (edge pt Skip x.broken) g.edges × LaidWay g k (meaning.broken a) x.broken hs
unfolding lowered Settles
break_laid g k h x p a pt hs (d, n, m, is, fits, calm, s, marking, settled, l) =
    (subst (λ q. Among (edge q Skip x.broken) g.edges) is (jump_edge g k _ _ p x.broken d s), broken_laid g k x a _ hs settled (calm_plain d.variables hs calm) l)

-- `return` without a value
pub leave_laid : (g : Whole) (k : ℕ) (h : Place) (x : Exits) (p : Pos) (e : Option ValueTree) (a : Ahead) (pt : ℕ) (hs : List Held) (d : Draft) (xs : List Numbered) → d.point ≡ pt → AreCalm d.variables hs → Stage g k h xs d (away x.left (on p d))
    → LaidAhead g k x a (on p d).points hs → Laid g k (place p h.scope) x (work.Leave (caller_of a)) pt hs
leave_laid g k h x p e a pt hs d xs is calm s l =
    let r = caller_laid g k x a d.points hs l in
    (calm_plain d.variables hs calm, subst (λ q. Among (edge q Skip x.left) g.edges) is (jump_edge g k h xs p x.left d s), r.0, r.1)

-- and with one
pub value_laid : (g : Whole) (proper : Proper g) (k : ℕ) (h : Place) (x : Exits) (p : Pos) (t : IntType) (e : ValueTree) (a : Ahead) (n : ℕ) (d : Draft) (hs : List Held) → (function_of g.program k).returns ≡ Some t
    → IsValue (around g k n) e → AreCalm d.variables hs → Stage g k (place d.here.at h.scope) (calls_in e) d (away x.left (rows.set_after t (type_of e) (own_result (context_of g k) (on p d)) ((ways (context_of g k) e).value (on p d))))
    → LaidAhead g k x a (away x.left (rows.set_after t (type_of e) (own_result (context_of g k) (on p d)) ((ways (context_of g k) e).value (on p d)))).point hs
    → Laid g k (place p h.scope) x (work.Evaluate e (work.Put t (result k) (work.Leave (caller_of a)))) d.point hs
value_laid g proper k h x p t e a n d hs is fits calm s l =
    let c = context_of g k in
    let o = on p d in
    let j = place p h.scope in
    let r = (ways c e).value o in
    let v = own_result c o in
    let i = Set v (conversion (type_of e) t r.0) in
    let u = emit i r.1 in
    let f = away x.left u in
    let so = stage_at g k _ j (calls_in e) d o f s (forth_here g d.points d.regions) (proper.positions d.here k h.scope p s.here) in
    let ge = (ways_grow c e).value o in
    let away_grows = grows_trans (link_grows Any Skip x.left u) (fresh_one_grows Any (link Skip x.left u)) in
    let none = grows_trans (link_grows Uncalled Skip x.left u) (fresh_one_grows Uncalled (link Skip x.left u)) in
    let ns = stage_names g k j (calls_in e) Any o f so (grows_trans ((sane c e).value o) (grows_trans (emit_grows Any i r.1) away_grows)) in
    let same : v ≡ own (result k) = ap (λ (b : Names Slot). b.result k (object_number (length c.locals) o)) ns in
    let z = stage_edge g k j Uncalled (calls_in e) o r.1 f i so ge none in
    let w = caller_laid g k x a f.point hs l in (
      o,
      n,
      refl,
      fits,
      (λ m. calm),
      stage_until g k j (calls_in e) o r.1 f so (grows_trans (emit_grows Uncalled i r.1) none),
      (
        r.1.points,
        (s.path, t, is, refl),
        record {
          there = subst (λ q. Among (edge r.1.point (Set q (conversion (type_of e) t r.0)) r.1.points) g.edges) same z.0;
          shown = z.1;
          apart = all_own d.variables (result k) hs calm;
          plain = calm_plain d.variables hs calm;
        },
        (calm_plain d.variables hs calm, s.leads.edges _ (last_among u.edges (edge u.point Skip x.left)), w.0, w.1),
      ),
    )
