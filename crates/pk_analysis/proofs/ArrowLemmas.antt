-- The edges that lead to each point, edge by edge and point by point.
use Rattle.std.proofs.Common.{◌≡◌, ◌≢◌, ◌<◌, ◌≤◌, ◌+◌, ◌==◌, ℕ, zero, suc, map, ap, ◌∙◌, sym, subst, refl, Bool, true, false, cond, inl, inr, List, [], ◌∷◌, ◌++◌, length, drop, replicate, set, append_assoc, append-nil, All, arith}
use Rattle.std.specs.List.{slice_index_or}
use Rattle.std.proofs.Math.ListN.{length-set}
use Rattle.std.proofs.lemmas.Bool.{eq-eqb, ne_eqb}
use Rattle.std.proofs.lemmas.Bool.Decides.{eqb_tells}
use Rattle.std.proofs.lemmas.List.{drop_more, drop_all, length-drop, get_or-drop, get_or-map, length-replicate, get_or-set_same, get_or-set_other}
use Rattle.std.proofs.lemmas.List.Elements.{All-nil, All-cons, All-append, All-head, All-tail}
use Rattle.pk_graph.specs.declared.graphs.Edge.{Edge}
use Rattle.pk_graph.specs.Graphs.{EdgeOf, edge_view, PointOf, GraphOf, no_point, point_at}
use Rattle.pk_graph.specs.WellMade.{IsGraph}
use Rattle.pk_analysis.specs.declared.arrows.Arrow.{Arrow}
use Rattle.pk_analysis.specs.Arrows.{arrows_along, arrows_from, arrows_at, no_edge, row_at, AreArrows, AreMore, IsArrow}

along_first : (v u j : ℕ) (e : EdgeOf) (es : List EdgeOf) → e.to ≡ v → arrows_along v u j (e ∷ es) ≡ record { from = u; edge = j } ∷ arrows_along v u (j + 1) es
along_first v u j e es to = ap (λ (b : Bool). cond b (record { from = u; edge = j } ∷ arrows_along v u (j + 1) es) (arrows_along v u (j + 1) es)) (eq-eqb e.to v to)

along_other : (v u j : ℕ) (e : EdgeOf) (es : List EdgeOf) → e.to ≢ v → arrows_along v u j (e ∷ es) ≡ arrows_along v u (j + 1) es
along_other v u j e es to = ap (λ (b : Bool). cond b (record { from = u; edge = j } ∷ arrows_along v u (j + 1) es) (arrows_along v u (j + 1) es)) (ne_eqb e.to v to)

-- the first k edges were added, and the others would be
pub record SoFar (from k : ℕ) (es : List EdgeOf) (old new : List (List Arrow)) : Type 0 where
  pub size : length new ≡ length old
  pub each : (v : ℕ) → v < length old → row_at new v ++ arrows_along v from k (drop k es) ≡ row_at old v ++ arrows_along v from 0 es

pub so_far_start : (from : ℕ) (es : List EdgeOf) (old : List (List Arrow)) → SoFar from 0 es old old
so_far_start from es old = record { size = refl; each = λ v h. refl }

pub so_far_next : (from k to : ℕ) (es : List EdgeOf) (old mid new : List (List Arrow)) (a : Arrow) → k < length es → SoFar from k es old mid → to < length mid
    → (slice_index_or es k no_edge).to ≡ to → a ≡ record { from = from; edge = k } → new ≡ set mid to (row_at mid to ++ a ∷ []) → SoFar from (k + 1) es old new
so_far_next from k to es old mid new a h s within leads is made =
    record { size = ap (λ (rows : List (List Arrow)). length rows) made ∙ length-set mid to (row_at mid to ++ a ∷ []) ∙ s.size; each = each }
  where
    e : EdgeOf
    e = slice_index_or es k no_edge

    rest : List EdgeOf
    rest = drop (k + 1) es

    each : (v : ℕ) → v < length old → row_at new v ++ arrows_along v from (k + 1) (drop (k + 1) es) ≡ row_at old v ++ arrows_along v from 0 es
    each v l = elim (eqb_tells to v) [
      | inl same ↦ (let here : (slice_index_or es k no_edge).to ≡ v = leads ∙ same.1 in
          let now : row_at new v ≡ row_at mid v ++ a ∷ [] = ap (λ (rows : List (List Arrow)). row_at rows v) made ∙ subst (λ (w : ℕ). row_at (set mid to (row_at mid to ++ a ∷ [])) w ≡ row_at mid w ++ a ∷ []) same.1 (get_or-set_same mid to (row_at mid to ++ a ∷ []) [] within) in
          ap (λ (row : List Arrow). row ++ arrows_along v from (k + 1) (drop (k + 1) es)) now
          ∙ append_assoc (row_at mid v) (a ∷ []) (arrows_along v from (k + 1) (drop (k + 1) es))
          ∙ ap (λ (b : Arrow). row_at mid v ++ (b ∷ arrows_along v from (k + 1) (drop (k + 1) es))) is
          ∙ ap (λ (row : List Arrow). row_at mid v ++ row) (sym (along_first v from k (slice_index_or es k no_edge) (drop (k + 1) es) here))
          ∙ ap (λ (fs : List EdgeOf). row_at mid v ++ arrows_along v from k fs) (sym (drop_more es k no_edge h))
          ∙ s.each v l)
      | inr other ↦ (let apart : (slice_index_or es k no_edge).to ≢ v = (λ is. absurd (other.1 (sym leads ∙ is))) in
          let now : row_at new v ≡ row_at mid v = ap (λ (rows : List (List Arrow)). row_at rows v) made ∙ get_or-set_other mid to v (row_at mid to ++ a ∷ []) [] (λ is. other.1 (sym is)) in
          ap (λ (row : List Arrow). row ++ arrows_along v from (k + 1) (drop (k + 1) es)) now
          ∙ ap (λ (row : List Arrow). row_at mid v ++ row) (sym (along_other v from k (slice_index_or es k no_edge) (drop (k + 1) es) apart))
          ∙ ap (λ (fs : List EdgeOf). row_at mid v ++ arrows_along v from k fs) (sym (drop_more es k no_edge h))
          ∙ s.each v l)
    ]

pub so_far_end : (from k : ℕ) (es : List EdgeOf) (old new : List (List Arrow)) → length es ≤ k → SoFar from k es old new → AreMore (λ v. arrows_along v from 0 es) old new
so_far_end from k es old new h s = record {
  size = s.size;
  each = λ v l. sym (append-nil (row_at new v)) ∙ ap (λ (fs : List EdgeOf). row_at new v ++ arrows_along v from k fs) (sym (drop_all k es h)) ∙ s.each v l;
}

-- those of the first u points were added
pub record UpTo (ps : List PointOf) (u : ℕ) (rows : List (List Arrow)) : Type 0 where
  pub size : length rows ≡ length ps
  pub each : (v : ℕ) → v < length ps → row_at rows v ++ arrows_from v u (drop u ps) ≡ arrows_from v 0 ps

none_at : (n v : ℕ) → row_at {A = Arrow} (replicate n []) v ≡ []
none_at zero v = refl
none_at (suc n) zero = refl
none_at (suc n) (suc v) = none_at n v

pub up_to_start : (ps : List PointOf) (rows : List (List Arrow)) → rows ≡ replicate (length ps) [] → UpTo ps 0 rows
up_to_start ps rows is = record {
  size = ap (λ (rs : List (List Arrow)). length rs) is ∙ length-replicate (length ps) [];
  each = λ v h. ap (λ (rs : List (List Arrow)). row_at rs v ++ arrows_from v 0 ps) is ∙ ap (λ (row : List Arrow). row ++ arrows_from v 0 ps) (none_at (length ps) v);
}

pub up_to_next : (ps : List PointOf) (u : ℕ) (old new : List (List Arrow)) → u < length ps → UpTo ps u old → AreMore (λ v. arrows_along v u 0 (slice_index_or ps u no_point).edges) old new → UpTo ps (u + 1) new
up_to_next ps u old new h s more = record {
  size = more.size ∙ s.size;
  each = λ v l.
      ap (λ (row : List Arrow). row ++ arrows_from v (u + 1) (drop (u + 1) ps)) (more.each v (subst (λ (n : ℕ). v < n) (sym s.size) l))
      ∙ append_assoc (row_at old v) (arrows_along v u 0 (slice_index_or ps u no_point).edges) (arrows_from v (u + 1) (drop (u + 1) ps))
      ∙ ap (λ (qs : List PointOf). row_at old v ++ arrows_from v u qs) (sym (drop_more ps u no_point h))
      ∙ s.each v l;
}

pub up_to_end : (g : GraphOf) (u : ℕ) (rows : List (List Arrow)) → length g.points ≤ u → UpTo g.points u rows → AreArrows g rows
up_to_end g u rows h s = record {
  size = s.size;
  each = λ v l. sym (append-nil (row_at rows v)) ∙ ap (λ (qs : List PointOf). row_at rows v ++ arrows_from v u qs) (sym (drop_all u g.points h)) ∙ s.each v l;
}

-- ---- each is an edge of the graph

within_along : (g : GraphOf) (v u j : ℕ) (es : List EdgeOf) → u < length g.points → j + length es ≤ length (point_at g u).edges → All (IsArrow g) (arrows_along v u j es)
within_along g v u j [] h l = All-nil (IsArrow g)
within_along g v u j (e ∷ es) h l =
    let rest = within_along g v u (j + 1) es h (omega (arith, l)) in
    by (e.to == v) rest
  where
    by : (b : Bool) → All (IsArrow g) (arrows_along v u (j + 1) es) → All (IsArrow g) (cond b (record { from = u; edge = j } ∷ arrows_along v u (j + 1) es) (arrows_along v u (j + 1) es))
    by true rest = All-cons (IsArrow g) (record { from = u; edge = j }) (arrows_along v u (j + 1) es) (record { point = h; edge = omega (arith, l) }) rest
    by false rest = rest

within_from : (g : GraphOf) (v u : ℕ) (ps : List PointOf) → drop u g.points ≡ ps → All (IsArrow g) (arrows_from v u ps)
within_from g v u [] is = All-nil (IsArrow g)
within_from g v u (p ∷ ps) is =
    let here : slice_index_or g.points u no_point ≡ p = sym (get_or-drop u g.points 0 no_point ∙ ap (λ (k : ℕ). slice_index_or g.points k no_point) (omega arith)) ∙ ap (λ (qs : List PointOf). slice_index_or qs 0 no_point) is in
    let below : u < length g.points = inside u g.points p ps is in
    let next : drop (u + 1) g.points ≡ ps = after u g.points p ps is in
    All-append (IsArrow g) (arrows_along v u 0 p.edges) (arrows_from v (u + 1) ps)
    (within_along g v u 0 p.edges below (omega (arith, ap (λ (q : PointOf). length q.edges) here)))
    (within_from g v (u + 1) ps next)
  where
    inside : (k : ℕ) (qs : List PointOf) (q : PointOf) (rest : List PointOf) → drop k qs ≡ q ∷ rest → k < length qs
    inside k qs q rest e = omega (arith, ap (λ (xs : List PointOf). length xs) e, length-drop k qs)

    after : (k : ℕ) (qs : List PointOf) (q : PointOf) (rest : List PointOf) → drop k qs ≡ q ∷ rest → drop (k + 1) qs ≡ rest
    after k qs q rest e = let both : slice_index_or qs k q ∷ drop (k + 1) qs ≡ q ∷ rest = sym (drop_more qs k q (inside k qs q rest e)) ∙ e in cc

pub arrows_within : (g : GraphOf) (v : ℕ) → All (IsArrow g) (arrows_at g v)
arrows_within g v = within_from g v 0 g.points refl

-- ---- none leads past the points

none_along : (n v u j : ℕ) (es : List EdgeOf) → n ≤ v → All (λ (e : EdgeOf). e.to < n) es → arrows_along v u j es ≡ []
none_along n v u j [] h below = refl
none_along n v u j (e ∷ es) h below =
    let first : e.to < n = All-head (λ (x : EdgeOf). x.to < n) e es below in
    along_other v u j e es (λ is. absurd (omega (arith, first, h, is))) ∙ none_along n v u (j + 1) es h (All-tail (λ (x : EdgeOf). x.to < n) e es below)

none_from : (n v u : ℕ) (ps : List PointOf) → n ≤ v → All (λ (p : PointOf). All (λ (e : EdgeOf). e.to < n) p.edges) ps → arrows_from v u ps ≡ []
none_from n v u [] h below = refl
none_from n v u (p ∷ ps) h below =
    ap (λ (row : List Arrow). row ++ arrows_from v (u + 1) ps) (none_along n v u 0 p.edges h (All-head (λ (q : PointOf). All (λ (e : EdgeOf). e.to < n) q.edges) p ps below))
    ∙ none_from n v (u + 1) ps h (All-tail (λ (q : PointOf). All (λ (e : EdgeOf). e.to < n) q.edges) p ps below)

pub edges_below : (g : GraphOf) → IsGraph g → All (λ (p : PointOf). All (λ (e : EdgeOf). e.to < length g.points) p.edges) g.points
edges_below g made = λ k d h. λ j e l. ((made.points k d h).edges j e l).leads_to_a_point

pub none_past : (g : GraphOf) (v : ℕ) → IsGraph g → length g.points ≤ v → arrows_at g v ≡ []
none_past g v made h = none_from (length g.points) v 0 g.points h (edges_below g made)

-- ---- edges of the code

pub edge_leads : (es : List Edge) (k : ℕ) (e : Edge) → k < length es → (slice_index_or (map edge_view es) k no_edge).to ≡ (slice_index_or es k e).to
unfolding edge_view
edge_leads es k e h = ap (λ (x : EdgeOf). x.to) (get_or-map edge_view es k e no_edge h)
