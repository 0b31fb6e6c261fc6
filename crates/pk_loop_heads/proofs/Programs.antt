-- All parts of a unit: each loop of each path into which nothing jumps is entered where it begins again.
use Rattle.std.proofs.Common.{◌≡◌, ℕ, zero, suc, ◌+◌, ◌<◌, ◌⊎◌, inl, inr, List, [], ◌∷◌, Option, Some, length, refl, ap, sym, subst, ◌∙◌, arith, slice_index_or}
use Rattle.std.proofs.lemmas.List.{length-map}
use Rattle.std.proofs.lemmas.Option.{none-some, get_or_from_slice_get, slice_get_within}
use Rattle.std.specs.List.{Contains}
use Rattle.std.specs.Prelude.{slice_get, unwrap_or}
use Rattle.pk_ctypes.specs.declared.places.Pos.{Pos}
use Rattle.pk_typed.specs.Trees.{StatementTree, BodyTree, FunctionTree, UnitTree}
use Rattle.pk_calls.specs.declared.listings.CallPath.{CallPath}
use Rattle.pk_calls.specs.Calls as calls
use Rattle.pk_calls.specs.Calls.{HasBody, calls_of}
use Rattle.pk_calls.specs.Laws.{AreCallPaths}
use Rattle.pk_calls.specs.Paths.{entry_path, path_by, IsListing}
use Rattle.pk_graph.specs.Graphs.{VariableOf}
use Rattle.pk_welltyped.specs.Listed.{Numbered, calls_in_items}
use Rattle.pk_welltyped.specs.WellTyped.{Around, IsUnit}
use Rattle.pk_welltyped.specs.Marks.{times, IsMarked, IsMarkedIf, AreMarked}
use Rattle.pk_meaning.specs.Steps.{labelled}
use Rattle.pk_draft.specs.declared.drafts.Region.{Region}
use Rattle.pk_draft.specs.declared.drafts.Size.{Size}
use Rattle.pk_draft.specs.Drafts.{DraftOf, EdgeFrom, by_number, region_of, entry_point}
use Rattle.pk_lower_row.specs.Contexts.{Context, size_in}
use Rattle.pk_lower.specs.Parts as part
use Rattle.pk_lower.specs.Parts.{whole_size, sizes_of, file_variable}
use Rattle.pk_lower_laws.specs.Parts.Listed.{CallsLeadBehind}
use Rattle.pk_lower_laws.proofs.Parts.Leading.{listings_lead_behind}
use Rattle.pk_lower_laws.proofs.Parts.Measures.{parts_fill_regions}
use Rattle.pk_lower_laws.proofs.Drafts.Tables.{numbers}
use Rattle.pk_lower_laws.proofs.Drafts.Noted.{calls_are_noted}
use Rattle.pk_lower_laws.proofs.Drafts.Parts.{part_points}
use Rattle.pk_lower_laws.proofs.Drafts.Plans.{World, Draft, sizes, size_of, function_of, place, place_at, Lasting, Plan, PathIs, function_is, its_function, its_body, part_is, part_made_is}
use Rattle.pk_lower_laws.proofs.Drafts.Wholes.{Paths, kinds_of, kind_is, next_plan}
use Rattle.pk_lower_laws.proofs.Drafts.Declarations.{object_kind}
use Rattle.pk_lower_laws.proofs.Drafts.Drafts.{ends_in, function_from, behind_part, whole_made}
use Rattle.pk_lower_laws.proofs.Drafts.Places.{variable_in}
use Rattle.pk_lower_laws.proofs.Drafts.Firsts.{first, files_are, Counted, first_plan}
use Rattle.pk_lower_laws.proofs.Drafts.Listings.{listed, listing_paths}
use Rattle.pk_visits.specs.Turns.{TurnPoint, turning, turns_of_part, turns_from, program_turns}
use Rattle.pk_visits.proofs.Slots.{Among}
use Rattle.pk_visits.proofs.Stands.{IsCalled}
use Rattle.pk_visits.proofs.Stages.{all_called}
use Rattle.pk_visits.proofs.Grows.Expressions.{AllCalled}
use Rattle.pk_visits_laws.proofs.Followed.Basics.{all_get}
use Rattle.pk_visits_laws.proofs.Followed.Paths.{numbered_at}
use Rattle.pk_edge_laws.specs.Edges.{region_at, IsBehindExit, HasPoints, AreSized, IsLabelIn, IsInLoop}
use Rattle.pk_loop_heads.specs.Loops.{IsClosed, HasLoopIn}
use Rattle.pk_loop_heads.specs.Laws.{IsPlainLoop}
use Rattle.pk_loop_heads.proofs.Enters.{IsEntry, Enters}
use Rattle.pk_loop_heads.proofs.Within.{KeepsAll}
use Rattle.pk_loop_heads.proofs.Parts.{part_goes, part_turns}
use Rattle.pk_loop_heads.proofs.Between.{IsKept, IsClear, IsApart, IsPart, clear_next, IsHeld, held_first, held_next}

-- ---- the unit's world by numbers

abbrev pub begins : UnitTree → List CallPath → DraftOf ℕ
begins u paths = first by_number u paths (whole_size (sizes_of u paths) paths)

-- its variables in the end
abbrev in_the_end : UnitTree → List CallPath → List VariableOf
in_the_end u paths = (part.program_draft by_number u paths).made

abbrev pub world : UnitTree → List CallPath → World
world u paths = record {
  unit = u;
  paths = paths;
  table = numbers (kinds_of (in_the_end u paths));
  kinds = kinds_of (in_the_end u paths);
  final = variable_in (in_the_end u paths);
  IsEdge = λ e. Unit {0};
  ends = λ k. ends_in u (function_from paths k) (behind_part u (sizes_of u paths) 0 1 paths (begins u paths) k);
  CanBeNamed = λ y. Unit {0};
  CanBegin = λ y. Unit {0};
  FromOutside = λ k i. Unit {0};
  points = (whole_size (sizes_of u paths) paths).points + 2;
  files = length u.objects;
}

counted : (u : UnitTree) (entry : ℕ) (paths : List CallPath) → IsUnit u → HasBody u entry → IsListing u entry paths → AreCallPaths u entry paths → Counted (world u paths)
counted u entry paths unit has l are = record {
  some = let h = ap length l.in_order in omega (h, arith);
  files = refl;
  kinds = length-map (in_the_end u paths) (λ (x : VariableOf). x.kind) ∙ (whole_made u entry paths unit has l are).0;
  points = refl;
}

lasting : (u : UnitTree) (entry : ℕ) (paths : List CallPath) → IsUnit u → HasBody u entry → IsListing u entry paths → AreCallPaths u entry paths → CallsLeadBehind u paths → Lasting (world u paths)
lasting u entry paths unit has l are b =
    let ms = in_the_end u paths in
    let made = whole_made u entry paths unit has l are in
    let k = made.0 in
    record {
      points = omega arith;
      files = λ i q h. let f = files_are u (whole_size (sizes_of u paths) paths) ms (omega (k, arith)) made.1 i q h in record { there = omega (f.0, k, length-map ms (λ (x : VariableOf). x.kind), arith); kind = f.1 };
      objects_of_file = refl;
      behind = b;
      listed = listed paths;
      temporaries = λ k n f l q y t m o e. record { there = o.there; kind = kind_is ms y ∙ ap (λ (v : VariableOf). v.kind) o.is };
      objects = λ k n l q p i h x m e f o b. record { there = o.there; kind = kind_is ms _ ∙ (ap (λ (v : VariableOf). v.kind) o.is ∙ object_kind (place (world u paths) k n p.function l q) i h x f b) };
      results = λ k n l q p t m r o. record { there = o.there; kind = kind_is ms _ ∙ ap (λ (v : VariableOf). v.kind) o.is };
      named = λ k i l m. tt;
      begun = λ k i l m. tt;
      shared = λ i l. (omega (l, k, length-map ms (λ (x : VariableOf). x.kind), arith), tt);
      outside = λ k i p h e l. tt;
    }

-- ---- one part

-- how many points the part of a path makes
abbrev pub points_of : World → ℕ → ℕ
points_of W j = (size_of W j).points

abbrev context_at : World → (k n : ℕ) → CallPath → Context
context_at W k n p = part.context W.unit (sizes W) k n p.function

abbrev pub part_at : (W : World) → (k n : ℕ) → CallPath → Draft W → Draft W
part_at W k n p d = part.part (context_at W k n p) p.function p.caller (region_of k d) d

-- the part of a function with a body
body_part : (W : World) (k n : ℕ) (p : CallPath) (h : PathIs W k n p) (r : Region) (d : Draft W) → part.part (context_at W k n p) p.function p.caller r d ≡ part.part_of (context_at W k n p) h.function (Some h.body) p.caller r d
unfolding part.part
body_part W k n p h r d =
    let c = context_at W k n p in
    ap (λ (g : FunctionTree). part.part_of c g (calls.body_of W.unit p.function) p.caller r d) (its_function W.unit p.function h.function h.there)
    ∙ ap (λ (o : Option BodyTree). part.part_of c h.function o p.caller r d) (its_body W.unit p.function h.function h.body h.there h.has)

-- and its turns
body_turns_are : (W : World) (k n : ℕ) (p : CallPath) (h : PathIs W k n p) (r : Region) (d : Draft W) → turns_of_part (context_at W k n p) (part.function_at W.unit p.function) (calls.body_of W.unit p.function) p.caller r d ≡ turns_of_part (context_at W k n p) h.function (Some h.body) p.caller r d
body_turns_are W k n p h r d =
    let c = context_at W k n p in
    ap (λ (g : FunctionTree). turns_of_part c g (calls.body_of W.unit p.function) p.caller r d) (its_function W.unit p.function h.function h.there)
    ∙ ap (λ (o : Option BodyTree). turns_of_part c h.function o p.caller r d) (its_body W.unit p.function h.function h.body h.there h.has)

next_part : (W : World) → Lasting W → (k n : ℕ) (p : CallPath) (h : PathIs W k n p) (d : Draft W) → Plan W k n d → Plan W (k + 1) (n + length (calls_of W.unit p.function)) (part_at W k n p d)
next_part W l k n p h d plan = subst (Plan W (k + 1) (n + length (calls_of W.unit p.function))) (sym (part_made_is W k n p h p.caller (region_of k d) d)) (next_plan W l k n p h d plan)

-- it ends where its region does
part_ends : (W : World) → Lasting W → (k n : ℕ) (p : CallPath) (h : PathIs W k n p) (d : Draft W) → (part_at W k n p d).points ≡ (region_at d.regions k).points + points_of W k
part_ends W l k n p h d =
    let law = parts_fill_regions W.table.Variable in
    law.points W.unit W.paths k n p.function p.caller (region_at d.regions k) d l.behind (l.listed k p h.path)
    ∙ ap (λ (g : ℕ). (region_at d.regions k).points + (size_in (sizes W) g).points) (sym (function_is W k p h.path))

-- and has a point
part_some : (W : World) → Lasting W → (k n : ℕ) (p : CallPath) (h : PathIs W k n p) (d : Draft W) → Plan W k n d → 0 < points_of W k
part_some W l k n p h d plan =
    let r = region_at d.regions k in
    let one = part_points (place_at W k n p r) (length h.body.calls) h.function h.body p.caller (part_is W l k n p r h (plan.kept k h.below)) r d in
    let ends = part_ends W l k n p h d in
    let same = ap (λ (e : Draft W). e.points) (part_made_is W k n p h p.caller r d) in
    omega (one, ends, same, arith)

-- so has the part of each of these paths
parts_some : (W : World) → Lasting W → (k n : ℕ) (ps : List CallPath) → Paths W k n ps → (d : Draft W) → Plan W k n d → (i : ℕ) → i < length ps → 0 < points_of W (k + i)
parts_some W l k n [] h d plan i low = absurd (omega (low, arith))
parts_some W l k n (p ∷ ps) h d plan zero low = subst (λ j. 0 < points_of W j) (omega arith) (part_some W l k n p h.0 d plan)
parts_some W l k n (p ∷ ps) h d plan (suc i) low =
    subst (λ j. 0 < points_of W j) (omega arith) (parts_some W l (k + 1) (n + length (calls_of W.unit p.function)) ps h.1 (part_at W k n p d) (next_part W l k n p h.0 d plan) i (omega (low, arith)))

abbrev HaveExits : World → Type 0
HaveExits W = (j : ℕ) → j < length W.paths → 0 < points_of W j

-- ---- what is called

-- of its size, and one of the list
called : (W : World) → HaveExits W → (k n : ℕ) (p : CallPath) (h : PathIs W k n p) (j : ℕ) (s : Size) → IsCalled (context_at W k n p) (calls_in_items h.body.items) j s → HasPoints (points_of W j) s
called W some k n p h j s (z, a, e, is) =
    let r = numbered_at 0 h.body.calls z (subst (Among z) h.is_body.calls a) in
    let at = r.1 in
    let there : slice_get W.paths (n + r.0) ≡ Some (path_by k r.0 z.call.function) = h.leads r.0 z.call r.2 in
    let same : n + r.0 ≡ j = omega (e, at, arith) in
    let function : function_of W j ≡ z.call.function =
    ap (function_of W) (sym same) ∙ ap (λ (q : CallPath). q.function) (get_or_from_slice_get W.paths (n + r.0) (path_by k r.0 z.call.function) (entry_path 0) there) in
    let within = slice_get_within W.paths (n + r.0) (path_by k r.0 z.call.function) there in
    let size : s ≡ size_of W j = is ∙ ap (size_in (sizes W)) (sym function) in
    let points = ap (λ (x : Size). x.points) size in
    let one = some j (omega (same, within, arith)) in
    (points, omega (points, one, arith))

all_sized : (C : ℕ → Size → Type 0) (z : ℕ → ℕ) (c : Context) (xs : List Numbered) → ((k : ℕ) (s : Size) → C k s → HasPoints (z k) s) → AllCalled C c xs → AreSized z c xs
all_sized C z c [] more h = tt
all_sized C z c (x ∷ xs) more h = (more _ _ h.0, all_sized C z c xs more h.1)

sized : (W : World) → HaveExits W → (k n : ℕ) (p : CallPath) (h : PathIs W k n p) → AreSized (points_of W) (context_at W k n p) (calls_in_items h.body.items)
sized W some k n p h =
    let c = context_at W k n p in
    let xs = calls_in_items h.body.items in
    all_sized (IsCalled c xs) (points_of W) c xs (called W some k n p h) (all_called c xs)

abbrev around : (W : World) → {k n : ℕ} → {p : CallPath} → PathIs W k n p → Around
around W h = record { unit = W.unit; locals = h.body.locals; objects = length h.function.parameters }

-- the part of path k
is_part : (W : World) → HaveExits W → (k n : ℕ) (p : CallPath) (h : PathIs W k n p) (d : Draft W) → (let e = part_at W k n p d in IsPart (points_of W) k d.edges d.regions e.points e.edges e.regions)
is_part W some k n p h d =
    let r = region_at d.regions k in
    subst (λ (e : Draft W). IsPart (points_of W) k d.edges d.regions e.points e.edges e.regions) (sym (body_part W k n p h r d))
    (part_goes (points_of W) (context_at W k n p) h.function h.body p.caller r (around W h) d h.is_body.items (sized W some k n p h)).splits

is_kept : (W : World) (k n : ℕ) (p : CallPath) (h : PathIs W k n p) (d : Draft W) → Plan W k n d → IsKept d.regions k
is_kept W k n p h d plan = (plan.kept k h.below).kept

is_apart : (W : World) (k n : ℕ) (p : CallPath) (h : PathIs W k n p) (d : Draft W) → Plan W k n d → IsApart (points_of W) k d.regions
is_apart W k n p h d plan j x le has i o =
    let e = plan.parted k j x (omega arith) (omega (le, arith)) (record { kept = is_kept W k n p h d plan; from = o.0; to = o.1 }) (record { kept = has; from = i.0; to = i.1 }) in
    absurd (omega (e, le, arith))

-- ---- all parts

-- a loop at this place with the body w begins again at a point that is told, at which it is entered alone
pub record IsEntered {V : Type 0} (es : List (EdgeFrom V)) (w : StatementTree) (at : Pos) (us : List TurnPoint) : Type 0 where
  pub head : ℕ
  pub last : ℕ
  pub from : ℕ
  pub first : ℕ
  pub labels : ℕ
  pub told : Contains us (turning at head)
  pub low : entry_point < head
  pub behind : entry_point < first
  pub some : head < last
  pub edges : (f : EdgeFrom V) → Contains es f → IsEntry (IsInLoop (IsLabelIn first labels w) head last) from head f

-- behind the loop's path
parts_held : (W : World) → Lasting W → HaveExits W → (k n : ℕ) (ps : List CallPath) → Paths W k n ps → (d : Draft W) → Plan W k n d → (S : ℕ → Type 0) (q h : ℕ) → IsHeld (points_of W) k S q h d.edges d.regions
    → (f : EdgeFrom W.table.Variable) → Contains (part.parts_from W.unit (sizes W) k n ps d).edges f → IsEntry S q h f
unfolding part.parts_from
parts_held W l some k n [] h d plan S q i held f c = held.edges f c
parts_held W l some k n (p ∷ ps) h d plan S q i held f c =
    parts_held W l some (k + 1) (n + length (calls_of W.unit p.function)) ps h.1 (part_at W k n p d) (next_part W l k n p h.0 d plan) S q i
    (held_next (is_kept W k n p h.0 d plan) (part_ends W l k n p h.0 d) (is_part W some k n p h.0 d) held) f c

none_or_some : (n : ℕ) → (n ≡ 0) ⊎ (0 < n)
none_or_some n = grind arith

-- into which nothing jumps: since each label stands once, b's own stand in it alone
closed_keeps : (b : BodyTree) (w : StatementTree) → IsMarked b → IsClosed b.items w → KeepsAll b.labels w b.items
closed_keeps b w marked closed l less some =
    let same = closed.labels l some in
    let once = marked.labels l less in
    (omega (arith, same), elim (none_or_some (times (labelled l) w)) [ inl none ↦ absurd (some none) | inr one ↦ omega (arith, once, one) ])

pub parts_entered : (W : World) → Lasting W → HaveExits W → AreMarked W.unit → (k n : ℕ) (ps : List CallPath) → Paths W k n ps → (d : Draft W) → Plan W k n d → IsClear (points_of W) k d.edges d.regions → (i : ℕ) (at : Pos) (has : IsPlainLoop W.unit ps i at)
    → IsEntered (part.parts_from W.unit (sizes W) k n ps d).edges has.inner at (slice_index_or (turns_from W.unit (sizes W) k n ps d) i [])
unfolding part.parts_from turns_from
parts_entered W l some marked k n [] h d plan clear i at has = absurd (none-some has.body has.is_body)
parts_entered W l some marked k n (p ∷ ps) h d plan clear zero at has =
    let z = points_of W in
    let one = h.0 in
    let c = context_at W k n p in
    let r = region_at d.regions k in
    let e = part_at W k n p d in
    let w = has.inner in
    let body : one.body ≡ has.body = ap (λ (o : Option BodyTree). unwrap_or o has.body) (sym (its_body W.unit p.function one.function one.body one.there one.has) ∙ has.is_body) in
    let loop : HasLoopIn at w one.body.items = subst (λ (b : BodyTree). HasLoopIn at w b.items) (sym body) has.loop in
    let closed : IsClosed one.body.items w = subst (λ (b : BodyTree). IsClosed b.items w) (sym body) has.closed in
    let own : IsMarked one.body = subst IsMarkedIf one.has (all_get (λ (f : FunctionTree). IsMarkedIf f.body) W.unit.functions p.function one.function marked one.there) in
    let turns = part_turns z at w c one.function one.body p.caller r (around W one) d closed.no_case one.is_body.items (sized W some k n p one) (closed_keeps one.body w own closed) loop in
    let S = IsInLoop (IsLabelIn (r.points + 1) one.body.labels w) turns.head turns.last in
    let enters = subst (λ (g : Draft W). Enters z S turns.from turns.head d.edges d.regions g.edges g.regions) (sym (body_part W k n p one r d)) turns.enters in
    let low = turns.low in
    let kept = is_kept W k n p one d plan in
    let ends = part_ends W l k n p one d in
    let same = ap (λ (g : Draft W). g.points) (body_part W k n p one r d) in
    let high = turns.high in
    let some_points = turns.some in
    let within : (x : ℕ) → S x → IsBehindExit (z k) r x = λ x i. elim i [
      | inl t ↦ (let less = t.1 in let is = t.3 in (omega (is, arith), omega (is, less, low, some_points, high, same, ends, arith)))
      | inr t ↦ (let from = t.0 in let to = t.1 in (omega (from, low, arith), omega (to, high, same, ends, arith)))
    ] in
    let held = held_first {q = turns.from} {h = turns.head} {S = S} kept (is_apart W k n p one d plan) clear within enters in
    record {
      head = turns.head;
      last = turns.last;
      from = turns.from;
      first = r.points + 1;
      labels = one.body.labels;
      told = subst (λ us. Contains us (turning at turns.head)) (sym (body_turns_are W k n p one r d)) turns.told;
      low = omega (low, kept, arith);
      behind = omega (kept, arith);
      some = turns.some;
      edges = parts_held W l some (k + 1) (n + length (calls_of W.unit p.function)) ps h.1 e (next_part W l k n p one d plan) S turns.from turns.head held;
    }
parts_entered W l some marked k n (p ∷ ps) h d plan clear (suc i) at has =
    parts_entered W l some marked (k + 1) (n + length (calls_of W.unit p.function)) ps h.1 (part_at W k n p d) (next_part W l k n p h.0 d plan)
    (clear_next {m = (part_at W k n p d).points} (is_kept W k n p h.0 d plan) (part_ends W l k n p h.0 d) (is_apart W k n p h.0 d plan) (is_part W some k n p h.0 d) clear) i at
    (record { body = has.body; is_body = has.is_body; inner = has.inner; loop = has.loop; closed = has.closed })

-- In the draft of a unit.
pub unit_entered : (u : UnitTree) (entry : ℕ) (paths : List CallPath) → IsUnit u → AreMarked u → HasBody u entry → IsListing u entry paths → AreCallPaths u entry paths → (k : ℕ) (at : Pos) (plain : IsPlainLoop u paths k at) → IsEntered (part.program_draft by_number u paths).edges plain.inner at (program_turns by_number u paths k)
unit_entered u entry paths unit marked has l are k at plain =
    let W = world u paths in
    let b = listings_lead_behind u entry paths has l are (calls_are_noted u unit) in
    let lasts = lasting u entry paths unit has l are b in
    let ps = listing_paths W entry unit l b in
    let start = first_plan W (counted u entry paths unit has l are) in
    let some : HaveExits W = λ j low. subst (λ i. 0 < points_of W i) (omega arith) (parts_some W lasts 0 1 paths ps (begins u paths) start j low) in
    parts_entered W lasts some marked 0 1 paths ps (begins u paths) start (λ j f le kept c i. let none = c.1 in absurd (omega (none, arith))) k at plain
