-- A digraph has one order with one peak.
use Rattle.std.specs.Prelude.{◌≡◌, ℕ, ◌==◌, ◌&&◌, ◌||◌, ◌++◌, List, [], length, map, fold, max, count_by, nat_lt, nat_le, slice_index_or, if◌then◌else◌}
use Rattle.std.specs.List.{range_with_len, list_any}
use Rattle.std.proofs.Common.{arith, ap, ◌∙◌}
use Rattle.std.proofs.lemmas.List.{length-map}
use Rattle.pk_plan.specs.declared.components.Component.{Component}
use Rattle.pk_plan.specs.Order.{Level}
use Rattle.pk_plan.specs.Plans.{PlanView, end_of}
use Rattle.pk_plan.specs.Linear.{items_of}
use Rattle.pk_nest.proofs.ComponentLemmas.{components_agree}
use Rattle.pk_wpo.specs.Same.{AreAlike}
use Rattle.pk_wpo.proofs.Alike.{alike}
use Rattle.pk_linear.specs.Texts.{order_text}
use Rattle.pk_order.specs.Ordered.{IsOrdered, OrderIsDetermined}
use Rattle.pk_peak.specs.Peak.{item_of, peak_of}
use Rattle.pk_peak.specs.Texts.{OrderLinesAreDetermined, peak_line}

-- the peak, of what it depends on in a plan
abbrev most_kept : (points end : ℕ) → List (List ℕ) → Level → ℕ
most_kept points end predecessors order =
    fold max 0 (map (λ j. count_by (λ e. (item_of (items_of order) e == j)
    || (nat_lt (item_of (items_of order) e) j
    && list_any (λ b. nat_le j (item_of (items_of order) b) && list_any (λ a. item_of (items_of order) a == item_of (items_of order) e) (slice_index_or predecessors b [])) (range_with_len 0 end)))
    (range_with_len 0 points)) (range_with_len 0 (length (items_of order))))

ends_alike : (p q : PlanView) → AreAlike p q → end_of p ≡ end_of q
ends_alike p q same =
    let heads = ap (λ (xs : List ℕ). length xs) same.heads in
    let many_p = length-map p.components (λ (c : Component). c.head) in
    let many_q = length-map q.components (λ (c : Component). c.head) in
    omega (arith, heads, many_p, many_q, same.points)

peak_alike : (p q : PlanView) (one other : Level) → AreAlike p q → one ≡ other → peak_of p one ≡ peak_of q other
peak_alike p q one other same order =
    ap (λ (n : ℕ). most_kept n (end_of p) p.predecessors one) same.points
    ∙ ap (λ (n : ℕ). most_kept q.points n p.predecessors one) (ends_alike p q same)
    ∙ ap (λ (lists : List (List ℕ)). most_kept q.points (end_of q) lists one) same.predecessors
    ∙ ap (λ (l : Level). most_kept q.points (end_of q) q.predecessors l) order

-- two nests of a digraph hold the same, so their plans are alike
peak_same : (g : List (List ℕ)) (p q : PlanView) (one other : Level) → IsOrdered g p one → IsOrdered g q other → one ≡ other → peak_of p one ≡ peak_of q other
peak_same g p q one other x y order =
    peak_alike p q one other
    (alike g x.nest y.nest p q (λ h u. components_agree g x.nest y.nest h u x.is_nest y.is_nest) x.axioms y.axioms x.is_plan y.is_plan)
    order

pub lines_same : OrderIsDetermined → OrderLinesAreDetermined
lines_same law g p q one other with_peak x y =
    let elements = law.elements g p q one other x y in
    let order = law.order g p q one other x y in
    ap (λ (n : ℕ). order_text (record { elements = n; order = one }) ++ (if with_peak then peak_line (peak_of p one) else [])) elements
    ∙ ap (λ (l : Level). order_text (record { elements = q.elements; order = l }) ++ (if with_peak then peak_line (peak_of p one) else [])) order
    ∙ ap (λ (n : ℕ). order_text (record { elements = q.elements; order = other }) ++ (if with_peak then peak_line n else [])) (peak_same g p q one other x y order)
