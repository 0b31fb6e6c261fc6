-- All parts of a program, one after the other.
use Rattle.std.proofs.Common.{◌≡◌, ℕ, ◌+◌, ◌<◌, List, [], ◌∷◌, length, sym, ap, subst, arith}
use Rattle.std.specs.Prelude.{map}
use Rattle.pk_typed.specs.Trees.{FunctionTree, UnitTree}
use Rattle.pk_calls.specs.declared.listings.CallPath.{CallPath}
use Rattle.pk_calls.specs.Calls.{HasBody, calls_of}
use Rattle.pk_calls.specs.Paths.{IsListing}
use Rattle.pk_calls.specs.Laws.{AreCallPaths}
use Rattle.pk_welltyped.specs.Listed.{Numbered, calls_in_items}
use Rattle.pk_welltyped.specs.WellTyped.{Around, IsUnit}
use Rattle.pk_draft.specs.declared.drafts.Size.{Size}
use Rattle.pk_lower_row.specs.Contexts.{Context}
use Rattle.pk_lower.specs.Parts as part
use Rattle.pk_welltyped.specs.Marks.{IsMarked, IsMarkedIf, AreMarked}
use Rattle.pk_lower_laws.proofs.Drafts.Plans.{World, Draft, sizes, size_of, Lasting, Plan, PathIs}
use Rattle.pk_lower_laws.proofs.Drafts.Wholes.{Paths}
use Rattle.pk_visits.proofs.Slots.{Never, region_at}
use Rattle.pk_visits.proofs.Stands.{IsCalled}
use Rattle.pk_visits.proofs.Stages.{all_called}
use Rattle.pk_visits.proofs.Grows.Expressions.{AllCalled}
use Rattle.pk_visits_laws.proofs.Followed.Basics.{all_get}
use Rattle.pk_visits_laws.proofs.Followed.Pairs.{whole, begins, world, AreTyped}
use Rattle.pk_visits_laws.proofs.Followed.PartAdds.{context_at, part_at, body_part, called_size, called_within, part_ends}
use Rattle.pk_visits_laws.proofs.Followed.Pending.{next_part}
use Rattle.pk_visits_laws.proofs.Followed.WholeGraph.{begins_plan, paths_at, part_some}
use Rattle.pk_visits_laws.proofs.Ways.Ways.{from, IsWay}
use Rattle.pk_visits_laws.proofs.Ways.Goes.{GoesBy}
use Rattle.pk_visits_laws.proofs.Ways.Rows.{Fits}
use Rattle.pk_visits_laws.proofs.Ways.Expressions.{Sized}
use Rattle.pk_visits_laws.proofs.Ways.Parts.{part_goes}
use Rattle.pk_visits_laws.proofs.Ways.Regions.{exit_point, IsTidy, tidy_part, tidy_first}

all_fit : (C D : ℕ → Size → Type 0) (c : Context) (xs : List Numbered) → ((k : ℕ) (s : Size) → C k s → D k s) → AllCalled C c xs → AllCalled D c xs
all_fit C D c [] more h = tt
all_fit C D c (x ∷ xs) more h = (more _ _ h.0, all_fit C D c xs more h.1)

-- how many points the part of a path makes
abbrev pub points_of : World → ℕ → ℕ
points_of W j = (size_of W j).points

-- each part has a point
abbrev pub HaveExits : World → Type 0
HaveExits W = (j : ℕ) → j < length W.paths → 0 < points_of W j

its_marks : (W : World) (k n : ℕ) (p : CallPath) (h : PathIs W k n p) → AreMarked W.unit → IsMarked h.body
its_marks W k n p h marked = subst IsMarkedIf h.has (all_get (λ (f : FunctionTree). IsMarkedIf f.body) W.unit.functions p.function h.function marked h.there)

next_tidy : (W : World) → Lasting W → HaveExits W → AreMarked W.unit → (k n : ℕ) (p : CallPath) (h : PathIs W k n p) (d : Draft W) → Plan W k n d → IsTidy (points_of W) k d.edges d.regions
    → IsTidy (points_of W) (k + 1) (part_at W k n p d).edges (part_at W k n p d).regions
next_tidy W l some marked k n p h d plan t =
    let z = points_of W in
    let c = context_at W k n p in
    let r = region_at d.regions k in
    let a : Around = record { unit = W.unit; locals = h.body.locals; objects = length h.function.parameters } in
    let sized : Sized z c (calls_in_items h.body.items) = all_fit (IsCalled c (calls_in_items h.body.items)) (Fits z) c (calls_in_items h.body.items) (λ j s is. fits j s (called_size W k n p h j s is).1 (called_within W k n p h j s is)) (all_called c (calls_in_items h.body.items)) in
    tidy_part (plan.kept k h.below).kept (part_ends W l k n p h d) t
    (subst (λ (e : Draft W). GoesBy z Never r.at r.points d.edges d.regions r.points e.points e.edges e.regions) (sym (body_part W k n p h p.caller r d))
    (part_goes z c h.function h.body p.caller r a d h.is_body.items (its_marks W k n p h marked) sized))
  where
    fits : (j : ℕ) (s : Size) → s ≡ size_of W j → j < length W.paths → Fits (points_of W) j s
    fits j s e low = let i = ap (λ (s : Size). s.points) e in let o = some j low in (i, omega (arith, i, o))

parts_way : (W : World) → Lasting W → HaveExits W → AreMarked W.unit → (k n : ℕ) (ps : List CallPath) → Paths W k n ps → (d : Draft W) → Plan W k n d → IsTidy (points_of W) k d.edges d.regions
    → (x : ℕ) → IsWay (from x (part.parts_from W.unit (sizes W) k n ps d).edges)
unfolding part.parts_from
parts_way W l some marked k n [] h d plan t x = t.ways x
parts_way W l some marked k n (p ∷ ps) h d plan t x =
    parts_way W l some marked (k + 1) (n + length (calls_of W.unit p.function)) ps h.1 (part_at W k n p d) (next_part W l k n p h.0 d plan) (next_tidy W l some marked k n p h.0 d plan t) x

parts_exit : (W : World) → Lasting W → HaveExits W → AreMarked W.unit → (k n : ℕ) (ps : List CallPath) → Paths W k n ps → (d : Draft W) → Plan W k n d → IsTidy (points_of W) k d.edges d.regions
    → from exit_point (part.parts_from W.unit (sizes W) k n ps d).edges ≡ []
unfolding part.parts_from
parts_exit W l some marked k n [] h d plan t = t.exit
parts_exit W l some marked k n (p ∷ ps) h d plan t =
    parts_exit W l some marked (k + 1) (n + length (calls_of W.unit p.function)) ps h.1 (part_at W k n p d) (next_part W l k n p h.0 d plan) (next_tidy W l some marked k n p h.0 d plan t)

-- In the draft of a unit.
pub whole_way : (u : UnitTree) (entry : ℕ) (paths : List CallPath) → IsUnit u → AreMarked u → HasBody u entry → IsListing u entry paths → AreCallPaths u entry paths → AreTyped u paths → (x : ℕ) → IsWay (from x (whole u paths).edges)
whole_way u entry paths unit marked has l are a x =
    let W = world u paths in
    parts_way W a.lasts (λ j low. part_some u paths a.lasts j (paths_at u entry paths unit has l are a j low)) marked 0 1 paths a.paths_are (begins u paths) (begins_plan u entry paths unit has l are a)
    (tidy_first (points_of W) (length (map part.file_variable u.objects)) (length paths)) x

-- the exit of the entry's part has no edges
pub whole_exit : (u : UnitTree) (entry : ℕ) (paths : List CallPath) → IsUnit u → AreMarked u → HasBody u entry → IsListing u entry paths → AreCallPaths u entry paths → AreTyped u paths → from exit_point (whole u paths).edges ≡ []
whole_exit u entry paths unit marked has l are a =
    let W = world u paths in
    parts_exit W a.lasts (λ j low. part_some u paths a.lasts j (paths_at u entry paths unit has l are a j low)) marked 0 1 paths a.paths_are (begins u paths) (begins_plan u entry paths unit has l are a)
    (tidy_first (points_of W) (length (map part.file_variable u.objects)) (length paths))
