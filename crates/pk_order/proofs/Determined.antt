-- A digraph has one order.
use Rattle.std.proofs.Common.{◌≡◌, ℕ, zero, suc, ◌+◌, ◌*◌, ◌<◌, ◌≤◌, List, [], ◌∷◌, length, get_or, map, sym, ap, subst, ◌∙◌, arith, All, Contains, slice_index}
use Rattle.std.specs.List.Sorted.{IsStrictlyIncreasing}
use Rattle.std.proofs.lemmas.List.{get_or-map, length-map}
use Rattle.std.proofs.lemmas.List.Elements.{All-map, All-get_or, Contains-get_or}
use Rattle.pk_plan.specs.declared.components.Component.{Component}
use Rattle.pk_plan.specs.Order.{Level}
use Rattle.pk_plan.specs.Plans.{PlanView}
use Rattle.pk_plan.specs.Axioms.{Axioms}
use Rattle.pk_plan.proofs.PlanLemmas.{Of}
use Rattle.pk_nest.proofs.ComponentLemmas.{components_agree}
use Rattle.pk_wpo.specs.Same.{AreAlike}
use Rattle.pk_wpo.proofs.Alike.{alike}
use Rattle.pk_linear.proofs.Determined.{linear_same}
use Rattle.pk_order.specs.Ordered.{IsOrdered, heads_of}
use Rattle.pk_order.proofs.OrderLemmas.{IsSame, IsWithin, linear_of_other}

-- two nests of a digraph hold the same, so their plans are alike
plans_alike : (g : List (List ℕ)) (p q : PlanView) (one other : Level) → IsOrdered g p one → IsOrdered g q other → AreAlike p q
plans_alike g p q one other x y =
    alike g x.nest y.nest p q (λ h u. components_agree g x.nest y.nest h u x.is_nest y.is_nest) x.axioms y.axioms x.is_plan y.is_plan

-- what maps of two lists have at a place
mapped_same : (f : Component → ℕ) (cs ds : List Component) (c : Component) (k : ℕ) → map f cs ≡ map f ds → k < length cs → k < length ds → f (get_or cs k c) ≡ f (get_or ds k c)
mapped_same f cs ds c k same in_cs in_ds = sym (get_or-map f cs k c 0 in_cs) ∙ ap (λ (xs : List ℕ). get_or xs k 0) same ∙ get_or-map f ds k c 0 in_ds

-- each component of one plan is one of the other
component_same : (p q : PlanView) → AreAlike p q → (c : Component) → Of p c → (d : Component) × Of q d × IsSame p q c d
component_same p q same c of =
    let k = of.0 in
    let below : k < length q.components = (
    let heads = ap (λ (xs : List ℕ). length xs) same.heads in
    let many_p = length-map p.components (λ (x : Component). x.head) in
    let many_q = length-map q.components (λ (x : Component). x.head) in
    omega (arith, of.1, heads, many_p, many_q)) in
    let d : Component = get_or q.components k c in
    let of_d : Of q d = Contains-get_or q.components k c below in
    let heads : c.head ≡ d.head =
    ap (λ (x : Component). x.head) (sym of.2) ∙ mapped_same (λ (x : Component). x.head) p.components q.components c k same.heads of.1 below in
    let exits : c.exit ≡ d.exit =
    ap (λ (x : Component). x.exit) (sym of.2) ∙ mapped_same (λ (x : Component). x.exit) p.components q.components c k same.exits of.1 below in
    (d, of_d, record { head = heads; exit = exits; members = λ e. same.members c d e of of_d heads })

within : (p q : PlanView) → AreAlike p q → IsWithin p q
within p q same = record {
  constrains = λ a b constrains. subst (λ (lists : List (List ℕ)). Contains (get_or lists a []) b) same.successors constrains;
  component = component_same p q same;
}

pub heads_same : (g : List (List ℕ)) (p q : PlanView) (one other : Level) → IsOrdered g p one → IsOrdered g q other → heads_of p ≡ heads_of q
heads_same g p q one other x y = (plans_alike g p q one other x y).heads

-- the points, the exits and END
counted_of : (g : List (List ℕ)) (p : PlanView) (one : Level) → IsOrdered g p one → p.elements ≡ length g + length (heads_of p) + 1
counted_of g p one x =
    let heads = length-map p.components (λ (c : Component). c.head) in
    omega (arith, heads, x.axioms.counted, x.is_plan.points)

pub elements_same : (g : List (List ℕ)) (p q : PlanView) (one other : Level) → IsOrdered g p one → IsOrdered g q other → p.elements ≡ q.elements
elements_same g p q one other x y =
    counted_of g p one x ∙ ap (λ (hs : List ℕ). length g + length hs + 1) (heads_same g p q one other x y) ∙ sym (counted_of g q other y)

pub order_same : (g : List (List ℕ)) (p q : PlanView) (one other : Level) → IsOrdered g p one → IsOrdered g q other → one ≡ other
order_same g p q one other x y =
    linear_same q one other y.axioms
    (linear_of_other p q (elements_same g p q one other x y) (within p q (plans_alike g p q one other x y)) (within q p (plans_alike g q p other one y x)) one x.is_linear)
    y.is_linear

-- the heads are vertices
pub heads_within : (g : List (List ℕ)) (p : PlanView) → Axioms p → p.points ≡ length g → All (λ h. h < length g) (heads_of p)
heads_within g p axioms points =
    All-map (λ (h : ℕ). h < length g) (λ (c : Component). c.head) p.components
    (subst (λ (n : ℕ). All (λ (c : Component). c.head < n) p.components) points axioms.points)

-- numbers that rise below n are n at most
at_least : (xs : List ℕ) → IsStrictlyIncreasing xs → (k : ℕ) → k < length xs → k ≤ slice_index xs k
at_least xs rises zero l = omega arith
at_least xs rises (suc k) l =
    let next = rises k (omega (arith, l)) in
    let here = at_least xs rises k (omega (arith, l)) in
    let same : k + 1 ≡ suc k = omega arith in
    let up : slice_index xs k < slice_index xs (suc k) = subst (λ (i : ℕ). slice_index xs k < slice_index xs i) same next in
    omega (arith, up, here)

rising_few : (n : ℕ) (xs : List ℕ) → IsStrictlyIncreasing xs → All (λ x. x < n) xs → length xs ≤ n
rising_few n [] rises below = omega arith
rising_few n (x ∷ xs) rises below =
    let last : length xs < length (x ∷ xs) = omega arith in
    let here = at_least (x ∷ xs) rises (length xs) last in
    let there = All-get_or (λ y. y < n) (x ∷ xs) (length xs) 0 last below in
    omega (arith, here, there)

-- so there are at most twice as many elements as vertices, and one
pub few_elements : (g : List (List ℕ)) (p : PlanView) → Axioms p → p.points ≡ length g → p.elements ≤ 2 * length g + 1
few_elements g p axioms points =
    let heads = length-map p.components (λ (c : Component). c.head) in
    let few = rising_few (length g) (heads_of p) axioms.heads (heads_within g p axioms points) in
    omega (arith, heads, few, axioms.counted, points)
