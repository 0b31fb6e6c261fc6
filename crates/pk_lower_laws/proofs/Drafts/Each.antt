-- The part of each path, where it stands between the first draft and the last.
use Rattle.std.proofs.Common.{◌≡◌, ℕ, zero, suc, ◌+◌, ◌<◌, List, [], ◌∷◌, length, sym, subst, ◌∙◌, arith}
use Rattle.pk_calls.specs.declared.listings.CallPath.{CallPath}
use Rattle.pk_calls.specs.Calls.{calls_of}
use Rattle.pk_lower.specs.Parts as part
use Rattle.std.specs.Prelude.{Option, Some, None}
use Rattle.pk_ctypes.specs.declared.types.IntType.{IntType}
use Rattle.pk_lower_laws.proofs.Drafts.Places.{region_at, ResultIs, own_number, ObjectsAre}
use Rattle.pk_lower_laws.proofs.Drafts.Parts.{made_part, ends, part_step}
use Rattle.pk_lower_laws.proofs.Drafts.Plans.{World, Draft, sizes, Lasting, Plan, PathIs, place_at, part_is, part_made_is, before_part, below_part, EndsAre, Foreknown, AllTyped, begins_typed, seen_at, OnePart, one_part}
use Rattle.pk_lower_laws.proofs.Drafts.Wholes.{Paths, HaveEnds, next_plan, wholes}

-- Path j, the draft before its part, and what is known of that part and of what comes behind it, up to the draft g.
pub record PartOf (W : World) (g : Draft W) (j : ℕ) : Type 1 where
  pub first : ℕ
  pub path : CallPath
  pub place : PathIs W j first path
  pub before : Draft W
  pub plan : Plan W j first before
  pub typed : AllTyped W before
  pub ends : EndsAre W j first path (region_at before.regions j) place.function place.body (made_part (place_at W j first path (region_at before.regions j)) place.function place.body path.caller (region_at before.regions j) before)
  pub known : Foreknown W (made_part (place_at W j first path (region_at before.regions j)) place.function place.body path.caller (region_at before.regions j) before)
  pub rest : OnePart W (first + length (calls_of W.unit path.function)) (made_part (place_at W j first path (region_at before.regions j)) place.function place.body path.caller (region_at before.regions j) before) g

pub part_of : (W : World) → Lasting W → (k n : ℕ) (ps : List CallPath) (h : Paths W k n ps) (d : Draft W) → Plan W k n d → HaveEnds W k n ps h d → AllTyped W d → Foreknown W (part.parts_from W.unit (sizes W) k n ps d) → (i : ℕ) → i < length ps
    → PartOf W (part.parts_from W.unit (sizes W) k n ps d) (k + i)
unfolding part.parts_from
part_of W l k n [] h d plan o t f i c = absurd (omega (c, arith))
part_of W l k n (p ∷ ps) h d plan o t f i c =
    let one = h.0 in
    let r = region_at d.regions k in
    let e = made_part (place_at W k n p r) one.function one.body p.caller r d in
    let m = n + length (calls_of W.unit p.function) in
    let next = next_plan W l k n p one d plan in
    let is = part_made_is W k n p one p.caller r d in
    let g = part.parts_from W.unit (sizes W) (k + 1) m ps e in
    let f' : Foreknown W g = subst (λ (x : Draft W). Foreknown W (part.parts_from W.unit (sizes W) (k + 1) m ps x)) is f in
    let rest = wholes W l (k + 1) m ps h.1 e next o.1 in
    let here = one_part W l k n p one d plan o.0 in
    let known = rest.part.foreknown f' in
    subst (λ (x : Draft W). PartOf W (part.parts_from W.unit (sizes W) (k + 1) m ps x) (k + i)) (sym is) (by i c (record { first = n; path = p; place = one; before = d; plan = plan; typed = t; ends = o.0; known = known; rest = rest.part }) (λ j b. part_of W l (k + 1) m ps h.1 e next o.1 (here.typed known t) f' j b))
  where
    by : (i : ℕ) → i < length (p ∷ ps)
        → PartOf W (part.parts_from W.unit (sizes W) (k + 1) (n + length (calls_of W.unit p.function)) ps (made_part (place_at W k n p (region_at d.regions k)) h.0.function h.0.body p.caller (region_at d.regions k) d)) k
        → ((j : ℕ) → j < length ps → PartOf W (part.parts_from W.unit (sizes W) (k + 1) (n + length (calls_of W.unit p.function)) ps (made_part (place_at W k n p (region_at d.regions k)) h.0.function h.0.body p.caller (region_at d.regions k) d)) (k + 1 + j))
        → PartOf W (part.parts_from W.unit (sizes W) (k + 1) (n + length (calls_of W.unit p.function)) ps (made_part (place_at W k n p (region_at d.regions k)) h.0.function h.0.body p.caller (region_at d.regions k) d)) (k + i)
    by zero c x f = let at : k ≡ k + zero = omega arith in subst (PartOf W (part.parts_from W.unit (sizes W) (k + 1) (n + length (calls_of W.unit p.function)) ps (made_part (place_at W k n p (region_at d.regions k)) h.0.function h.0.body p.caller (region_at d.regions k) d))) at x
    by (suc i) c x f = let at : k + 1 + i ≡ k + suc i = omega arith in
        subst (PartOf W (part.parts_from W.unit (sizes W) (k + 1) (n + length (calls_of W.unit p.function)) ps (made_part (place_at W k n p (region_at d.regions k)) h.0.function h.0.body p.caller (region_at d.regions k) d))) at (f i (omega (c, arith)))

-- ---- what becomes of a path's objects

-- behind its part
pub objects_of : (W : World) → Lasting W → (g : Draft W) (j : ℕ) (h : PartOf W g j)
    → (let r = region_at h.before.regions j in let w = place_at W j h.first h.path r in let e = made_part w h.place.function h.place.body h.path.caller r h.before in ObjectsAre w (ends h.place.function h.place.body) e.variables e.objects)
objects_of W l g j h =
    let r = region_at h.before.regions j in
    let w = place_at W j h.first h.path r in
    let m = length h.place.body.calls in
    let made = h.plan.kept j h.place.below in
    let e = made_part w h.place.function h.place.body h.path.caller r h.before in
    let s = part_step w m h.place.function h.place.body h.path.caller (part_is W l j h.first h.path r h.place made) r h.before in
    let f = seen_at W j h.first h.path r h.place.function h.place.body e h.ends h.known in
    (s.typed (before_part W j h.first h.path h.place h.before h.plan) (below_part W l j h.first h.path h.place h.before h.plan) f (begins_typed W j h.first h.path r h.place.body h.before (h.typed.places j made.kept) (let z = h.place.is_body.visible in let q = l.objects_of_file in omega (z, q, arith)) h.typed) tt).0.objects

-- later objects have later variables
pub numbers_rise : (W : World) → Lasting W → (g : Draft W) (j : ℕ) (h : PartOf W g j) → (a b : ℕ) → a < b → b < (ends h.place.function h.place.body).objects → (W.ends j).numbers a < (W.ends j).numbers b
numbers_rise W l g j h a b c d =
    let o = objects_of W l g j h in
    let x = h.ends.objects a (omega (c, d, arith)) in
    let y = h.ends.objects b d in
    let z = o.rising a b c d in omega (x, y, z, arith)

result_unlike : (n y z : ℕ) (t : Option IntType) (u : IntType) → t ≡ Some u → ResultIs t (λ x. z ≡ x) y → ResultIs t (λ x. n ≡ x → ⊥) y → n ≡ z → ⊥
result_unlike n y z None u e a b q = absurd (cc e)
result_unlike n y z (Some t) u e a b q = b (q ∙ a)

-- and the result has another one
pub result_is_apart : (W : World) → Lasting W → (g : Draft W) (j : ℕ) (h : PartOf W g j) → (u : IntType) → h.place.function.returns ≡ Some u → (a : ℕ) → a < (ends h.place.function h.place.body).objects → (W.ends j).numbers a ≡ (W.ends j).result → ⊥
result_is_apart W l g j h u t a c q =
    let o = objects_of W l g j h in
    result_unlike (own_number _ a) _ (W.ends j).result h.place.function.returns u t h.ends.result (o.result_apart a c) (sym (h.ends.objects a c) ∙ q)
