-- The edges that lead to a point are those of the graph that do.
use Rattle.std.proofs.Common.{◌≡◌, ◌<◌, ◌+◌, ◌==◌, ℕ, zero, suc, ap, ◌∙◌, sym, subst, refl, Bool, true, false, if◌then◌else◌, inl, inr, List, [], ◌∷◌, length, drop, All, Contains, arith}
use Rattle.std.specs.List.{slice_index_or}
use Rattle.std.proofs.Math.ListN.{get_or-map}
use Rattle.std.proofs.lemmas.Bool.Decides.{eqb_tells}
use Rattle.std.proofs.lemmas.List.{drop_more, length-drop, length-map}
use Rattle.std.proofs.lemmas.List as lists
use Rattle.std.proofs.lemmas.List.Elements.{All-nil, All-cons, All-append, Contains-append_left, Contains-append_right}
use Rattle.pk_graph.specs.Graphs.{EdgeOf, PointOf, GraphOf, no_point, point_at, kinds_of}
use Rattle.pk_graph.specs.WellMade.{IsGraph}
use Rattle.pk_plan.specs.Digraphs.{Edge}
use Rattle.pk_linear.proofs.ListLemmas.{contains_here, contains_there}
use Rattle.pk_state.specs.Layouts.{Layout}
use Rattle.pk_transfer.specs.Trees.{IsOver}
use Rattle.pk_transfer.specs.Transfers.{IsInstrOver}
use Rattle.pk_transfer.proofs.Layouting.{graphs_over}
use Rattle.pk_transfer.proofs.Forms.{equal_numbers}
use Rattle.pk_analysis.specs.declared.arrows.Arrow.{Arrow}
use Rattle.pk_analysis.specs.Arrows.{arrows_along, arrows_from, arrows_at, origins, no_edge, instr_of}
use Rattle.pk_analysis.specs.Digraphs.{targets_of, digraph_of}

-- an edge of the graph that leads to v
pub record IsArrowTo (g : GraphOf) (v : ℕ) (a : Arrow) : Type 0 where
  pub point : a.from < length g.points
  pub edge : a.edge < length (point_at g a.from).edges
  pub leads : (slice_index_or (point_at g a.from).edges a.edge no_edge).to ≡ v

-- what is left of a list begins with its next element
dropped : {X : Type 0} (k : ℕ) (xs : List X) (x : X) (rest : List X) (d : X) → drop k xs ≡ x ∷ rest → (k < length xs) × (slice_index_or xs k d ≡ x) × (drop (k + 1) xs ≡ rest)
dropped k xs x rest d e =
    let inside : k < length xs = omega (arith, ap (λ ys. length ys) e, length-drop k xs) in
    let both : slice_index_or xs k d ∷ drop (k + 1) xs ≡ x ∷ rest = sym (drop_more xs k d inside) ∙ e in
    (inside, cc, cc)

to_along : (g : GraphOf) (v u j : ℕ) (es : List EdgeOf) → u < length g.points → drop j (point_at g u).edges ≡ es → All (IsArrowTo g v) (arrows_along v u j es)
to_along g v u j [] h is = All-nil (IsArrowTo g v)
to_along g v u j (e ∷ es) h is =
    let d = dropped j (point_at g u).edges e es no_edge is in
    by d.0 d.1 (e.to == v) refl (to_along g v u (j + 1) es h d.2)
  where
    by : j < length (point_at g u).edges → slice_index_or (point_at g u).edges j no_edge ≡ e → (b : Bool) → (e.to == v) ≡ b → All (IsArrowTo g v) (arrows_along v u (j + 1) es)
        → All (IsArrowTo g v) (if b then record { from = u; edge = j } ∷ arrows_along v u (j + 1) es else arrows_along v u (j + 1) es)
    by inside here true test rest =
        All-cons (IsArrowTo g v) (record { from = u; edge = j }) (arrows_along v u (j + 1) es)
        (record { point = h; edge = inside; leads = ap (λ (x : EdgeOf). x.to) here ∙ equal_numbers e.to v test }) rest
    by inside here false test rest = rest

to_from : (g : GraphOf) (v u : ℕ) (ps : List PointOf) → drop u g.points ≡ ps → All (IsArrowTo g v) (arrows_from v u ps)
to_from g v u [] is = All-nil (IsArrowTo g v)
to_from g v u (p ∷ ps) is =
    let d = dropped u g.points p ps no_point is in
    All-append (IsArrowTo g v) (arrows_along v u 0 p.edges) (arrows_from v (u + 1) ps)
    (to_along g v u 0 p.edges d.0 (ap (λ (q : PointOf). q.edges) d.1)) (to_from g v (u + 1) ps d.2)

pub arrows_to : (g : GraphOf) (v : ℕ) → All (IsArrowTo g v) (arrows_at g v)
arrows_to g v = to_from g v 0 g.points refl

-- ---- each edge is among them

along_has : (v u j k n : ℕ) (es : List EdgeOf) → k < length es → (slice_index_or es k no_edge).to ≡ v → n ≡ j + k → Contains (arrows_along v u j es) (record { from = u; edge = n })
along_has v u j k n [] h to is = absurd (omega (arith, h))
along_has v u j zero n (e ∷ es) h to is = by (e.to == v) refl
  where
    same : n ≡ j
    same = omega (arith, is)

    by : (b : Bool) → (e.to == v) ≡ b → Contains (if b then record { from = u; edge = j } ∷ arrows_along v u (j + 1) es else arrows_along v u (j + 1) es) (record { from = u; edge = n })
    by true test = subst (λ (m : ℕ). Contains (record { from = u; edge = j } ∷ arrows_along v u (j + 1) es) (record { from = u; edge = m })) (sym same) (contains_here (record { from = u; edge = j }) (arrows_along v u (j + 1) es))
    by false test = elim (eqb_tells e.to v) [ inl equal ↦ absurd (cc (equal.0, test)) | inr differs ↦ absurd (differs.1 to) ]
along_has v u j (suc k) n (e ∷ es) h to is = by (e.to == v) (along_has v u (j + 1) k n es (omega (arith, h)) to (omega (arith, is)))
  where
    by : (b : Bool) → Contains (arrows_along v u (j + 1) es) (record { from = u; edge = n }) → Contains (if b then record { from = u; edge = j } ∷ arrows_along v u (j + 1) es else arrows_along v u (j + 1) es) (record { from = u; edge = n })
    by true rest = contains_there (record { from = u; edge = j }) (arrows_along v u (j + 1) es) rest
    by false rest = rest

from_has : (v u i k n : ℕ) (ps : List PointOf) → i < length ps → k < length (slice_index_or ps i no_point).edges → (slice_index_or (slice_index_or ps i no_point).edges k no_edge).to ≡ v → n ≡ u + i → Contains (arrows_from v u ps) (record { from = n; edge = k })
from_has v u i k n [] h l to is = absurd (omega (arith, h))
from_has v u zero k n (p ∷ ps) h l to is =
    let same : n ≡ u = omega (arith, is) in
    subst (λ (m : ℕ). Contains (arrows_from v u (p ∷ ps)) (record { from = m; edge = k })) (sym same)
    (Contains-append_left (arrows_along v u 0 p.edges) (arrows_from v (u + 1) ps) (record { from = u; edge = k }) (along_has v u 0 k k p.edges l to (omega arith)))
from_has v u (suc i) k n (p ∷ ps) h l to is =
    Contains-append_right (arrows_along v u 0 p.edges) (arrows_from v (u + 1) ps) (record { from = n; edge = k }) (from_has v (u + 1) i k n ps (omega (arith, h)) l to (omega (arith, is)))

pub has_arrow : (g : GraphOf) (v u k : ℕ) → u < length g.points → k < length (point_at g u).edges → (slice_index_or (point_at g u).edges k no_edge).to ≡ v → Contains (arrows_at g v) (record { from = u; edge = k })
has_arrow g v u k h l to = from_has v 0 u k u g.points h l to (omega arith)

-- ---- what they are

-- an edge of the digraph
arrow_edge : (g : GraphOf) (v : ℕ) (a : Arrow) → IsArrowTo g v a → Edge (digraph_of g) a.from v
arrow_edge g v a h =
    subst (λ (vs : List ℕ). Contains vs v) (sym (get_or-map (λ (p : PointOf). targets_of p.edges) g.points a.from no_point))
    (a.edge, omega (arith, h.edge, length-map (point_at g a.from).edges (λ (e : EdgeOf). e.to)), lists.get_or-map (λ (e : EdgeOf). e.to) (point_at g a.from).edges a.edge no_edge v h.edge ∙ h.leads)

pub origin_edge : (g : GraphOf) (v u : ℕ) → Contains (origins (arrows_at g v)) u → Edge (digraph_of g) u v
origin_edge g v u has =
    let none : Arrow = record { from = u; edge = 0 } in
    let inside : has.0 < length (arrows_at g v) = omega (arith, has.1, length-map (arrows_at g v) (λ (a : Arrow). a.from)) in
    let a : Arrow = slice_index_or (arrows_at g v) has.0 none in
    let is : a.from ≡ u = sym (lists.get_or-map (λ (x : Arrow). x.from) (arrows_at g v) has.0 none u inside) ∙ has.2 in
    subst (λ (w : ℕ). Edge (digraph_of g) w v) is (arrow_edge g v a (arrows_to g v has.0 none inside))

-- its instruction may be transferred
pub arrow_over : (g : GraphOf) (y : Layout) (v : ℕ) (a : Arrow) → IsGraph g → IsOver (kinds_of g) y → IsArrowTo g v a → IsInstrOver y (instr_of g a)
arrow_over g y v a made over h = graphs_over.instructions g y a.from made over h.point a.edge no_edge h.edge
