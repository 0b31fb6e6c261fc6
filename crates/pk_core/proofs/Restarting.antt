-- A component that is gone through again.
use Rattle.std.proofs.Common.{◌≡◌, ℕ, ◌+◌, ◌<◌, ◌≤◌, List, [], ◌∷◌, ◌++◌, length, take, get_or, refl, sym, ap, subst, ◌∙◌, arith, Contains}
use Rattle.std.proofs.lemmas.List.{take_more, take_all}
use Rattle.std.proofs.lemmas.List.Elements.{Contains-get_or}
use Rattle.pk_plan.specs.declared.components.Component.{Component}
use Rattle.pk_plan.specs.Plans.{PlanView, members_of}
use Rattle.pk_plan.specs.Axioms.{Axioms as PlanAxioms}
use Rattle.pk_plan.specs.Shape.{component_of}
use Rattle.pk_plan.proofs.PlanLemmas.{Of, stands_inside}
use Rattle.pk_core.specs.declared.events.Status.{Status}
use Rattle.pk_core.specs.Shown.{Standing, CoreView}
use Rattle.pk_core.specs.Entries.{changed, with_new_status, after_run, armed, rearmed, restarted, AreKept}
use Rattle.pk_iterate.specs.Behaviour.{Behaviour}
use Rattle.pk_core.proofs.Changed_at.{length_changed, kept_changed}

-- ---- one member more

pub member_below : (p : PlanView) (c : Component) (items : List ℕ) (i : ℕ) → PlanAxioms p → Of p c → items ≡ members_of p c → i < length items → get_or items i 0 < p.elements
member_below p c items i axioms of same in_range = (stands_inside p c (get_or items i 0) axioms of (subst (λ (es : List ℕ). Contains es (get_or items i 0)) same (Contains-get_or items i 0 in_range))).within

rearmed_more : {C : Type 0} (p : PlanView) (c : Component) (es : List ℕ) (e : ℕ) (xs : List (Standing C)) → rearmed p c (es ++ e ∷ []) xs ≡ changed (rearmed p c es xs) e (with_new_status (armed p c e))
rearmed_more p c [] e xs = refl
rearmed_more p c (k ∷ es) e xs = rearmed_more p c es e (changed xs k (with_new_status (armed p c k)))

pub rearm_step : {C : Type 0} (p : PlanView) (c : Component) (ms items : List ℕ) (i : ℕ) (xs now : List (Standing C)) (status : Status) → items ≡ ms → i < length items → now ≡ rearmed p c (take i ms) xs → status ≡ armed p c (get_or items i 0) → changed now (get_or items i 0) (with_new_status status) ≡ rearmed p c (take (i + 1) ms) xs
rearm_step p c ms items i xs now status same in_range so_far is =
    let e : ℕ = get_or items i 0 in
    let more : take (i + 1) ms ≡ take i ms ++ e ∷ [] = ap (take (i + 1)) (sym same) ∙ take_more items i 0 in_range ∙ ap (λ (l : List ℕ). take i l ++ e ∷ []) same in
    ap (λ (zs : List (Standing _)). changed zs e (with_new_status status)) so_far
    ∙ ap (λ (st : Status). changed (rearmed p c (take i ms) xs) e (with_new_status st)) is
    ∙ sym (rearmed_more p c (take i ms) e xs)
    ∙ ap (λ (l : List ℕ). rearmed p c l xs) (sym more)

-- ---- a core that has gone back

pub gone_back : {C : Type 0} (p : PlanView) (c : Component) (cell : C) (xs ys now : List (Standing C)) → now ≡ restarted p c cell ys → ys ≡ xs → now ≡ restarted p c cell xs
gone_back {C} p c cell xs ys now gone same = gone ∙ ap (λ (zs : List (Standing C)). restarted p c cell zs) same

abbrev pub seen : {Y C : Type 0} → Y → PlanView → List (Standing C) → CoreView Y C
seen y p xs = record { system = y; plan = p; elements = xs }

abbrev pub back_at : {Y C : Type 0} → ℕ → C → CoreView Y C → CoreView Y C
back_at x cell v = seen v.system v.plan (restarted v.plan (component_of v.plan x) cell v.elements)

pub went_back : {Y C : Type 0} (y : Y) (p : PlanView) (c : Component) (x : ℕ) (cell : C) (xs now : List (Standing C)) (old : CoreView Y C) → seen y p xs ≡ old → now ≡ restarted p c cell xs → c ≡ component_of p x → seen y p now ≡ back_at x cell old
went_back {Y} {C} y p c x cell xs now old is gone at =
    let back : now ≡ restarted p (component_of p x) cell xs = gone ∙ ap (λ (d : Component). restarted p d cell xs) at in
    let here : seen y p now ≡ back_at x cell (seen y p xs) = ap (seen y p) back in
    here ∙ ap (back_at x cell) is

-- ---- what is kept

length_rearmed : {C : Type 0} (p : PlanView) (c : Component) (es : List ℕ) (xs : List (Standing C)) → length (rearmed p c es xs) ≡ length xs
length_rearmed p c [] xs = refl
length_rearmed p c (e ∷ es) xs = length_rearmed p c es (changed xs e (with_new_status (armed p c e))) ∙ length_changed xs e (with_new_status (armed p c e))

kept_rearmed : {C : Type 0} (b : Behaviour C) (may_hold : ℕ → C → Type 0) (n : ℕ) (p : PlanView) (c : Component) (es : List ℕ) (xs : List (Standing C)) → AreKept b may_hold n xs → AreKept b may_hold n (rearmed p c es xs)
kept_rearmed b may_hold n p c [] xs kept = kept
kept_rearmed b may_hold n p c (e ∷ es) xs kept = kept_rearmed b may_hold n p c es (changed xs e (with_new_status (armed p c e))) (kept_changed b may_hold n xs e (with_new_status (armed p c e)) kept (λ x held. held))

-- all members are armed
pub rearm_done : {C : Type 0} (p : PlanView) (c : Component) (ms items : List ℕ) (i : ℕ) (xs now : List (Standing C)) → items ≡ ms → length items ≤ i → now ≡ rearmed p c (take i ms) xs → now ≡ rearmed p c ms xs
rearm_done p c ms items i xs now same past so_far =
    let all : take i ms ≡ ms = take_all i ms (omega (arith, past, ap length same)) in
    so_far ∙ ap (λ (l : List ℕ). rearmed p c l xs) all

pub restart_long : {C : Type 0} (p : PlanView) (c : Component) (es : List ℕ) (xs : List (Standing C)) (e : ℕ) (f : Standing C → Standing C) → length (rearmed p c es (changed xs e f)) ≡ length xs
restart_long p c es xs e f = length_rearmed p c es (changed xs e f) ∙ length_changed xs e f

pub restart_kept : {C : Type 0} (b : Behaviour C) (may_hold : ℕ → C → Type 0) (n : ℕ) (p : PlanView) (c : Component) (es : List ℕ) (xs : List (Standing C)) (status : Status) (cell : C) → AreKept b may_hold n xs → may_hold c.exit cell → AreKept b may_hold n (rearmed p c es (changed xs c.exit (after_run status cell)))
restart_kept b may_hold n p c es xs status cell kept held =
    kept_rearmed b may_hold n p c es (changed xs c.exit (after_run status cell)) (kept_changed b may_hold n xs c.exit (after_run status cell) kept (λ x h. held))
