-- Points with some of their edges.
use Rattle.std.proofs.Common.{◌≡◌, ◌<◌, ◌≤◌, ◌+◌, ℕ, zero, suc, refl, ap, sym, ◌∙◌, subst, Bool, true, false, ◌&&◌, ◌||◌, if◌then◌else◌, List, [], ◌∷◌, length, slice_index_or, arith, map, take}
use Rattle.std.specs.List.{list_any, filter, All}
use Rattle.std.proofs.lemmas.List.{get_or-map, length-map}
use Rattle.pk_graph.specs.declared.graphs.Edge.{Edge}
use Rattle.pk_graph.specs.Trees.{Skip}
use Rattle.pk_graph.specs.Graphs.{EdgeOf, PointOf, no_point, edge_view}
use Rattle.pk_graph.specs.OctagonVariables.{is_asked_by, is_asked_on, AreMarked}
use Rattle.pk_packs.proofs.MarkLemmas.{marked_begin, marked_next, marked_end, marked_same}
use Rattle.pk_packs.specs.Packs.{with_edges}

pub length-with_edges : (f : ℕ → EdgeOf → Bool) (n : ℕ) (ps : List PointOf) → length (with_edges f n ps) ≡ length ps
length-with_edges f n [] = refl
length-with_edges f n (p ∷ ps) = ap suc (length-with_edges f (n + 1) ps)

-- a point with those of its edges alone that f takes
abbrev pub kept : (EdgeOf → Bool) → PointOf → PointOf
kept f p = record p { edges = filter f p.edges }

pub with_edges_at : (f : ℕ → EdgeOf → Bool) (n : ℕ) (ps : List PointOf) (k : ℕ) → k < length ps
    → slice_index_or (with_edges f n ps) k no_point ≡ kept (f (n + k)) (slice_index_or ps k no_point)
with_edges_at f n [] k h = absurd (omega (arith, h))
with_edges_at f n (p ∷ ps) zero h = let e : n ≡ n + 0 = omega arith in ap (λ (m : ℕ). kept (f m) p) e
with_edges_at f n (p ∷ ps) (suc k) h =
    let e : (n + 1) + k ≡ n + suc k = omega arith in
    with_edges_at f (n + 1) ps k (omega (arith, h)) ∙ ap (λ (m : ℕ). kept (f m) (slice_index_or ps k no_point)) e

-- an edge that f takes asks for x
abbrev pub is_asked_of : (EdgeOf → Bool) → ℕ → List EdgeOf → Bool
is_asked_of f x es = list_any (λ (e : EdgeOf). f e && is_asked_by x e.instr) es

any-filter_at : {E : Type 0} (f g : E → Bool) (x : E) (xs : List E) (b : Bool) → list_any g (filter f xs) ≡ list_any (λ (e : E). f e && g e) xs
    → list_any g (if b then x ∷ filter f xs else filter f xs) ≡ ((b && g x) || list_any (λ (e : E). f e && g e) xs)
any-filter_at f g x xs true h = ap (λ (r : Bool). g x || r) h
any-filter_at f g x xs false h = h

pub any-filter : {E : Type 0} (f g : E → Bool) (xs : List E) → list_any g (filter f xs) ≡ list_any (λ (e : E). f e && g e) xs
any-filter f g [] = refl
any-filter f g (x ∷ xs) = any-filter_at f g x xs (f x) (any-filter f g xs)

pub asked_at : (f : ℕ → EdgeOf → Bool) (ps : List PointOf) (x k : ℕ) → k < length ps
    → is_asked_on x (slice_index_or (with_edges f 0 ps) k no_point).edges ≡ is_asked_of (f k) x (slice_index_or ps k no_point).edges
asked_at f ps x k h =
    let here : slice_index_or (with_edges f 0 ps) k no_point ≡ kept (f (0 + k)) (slice_index_or ps k no_point) = with_edges_at f 0 ps k h in
    let number : 0 + k ≡ k = omega arith in
    let asked : is_asked_on x (slice_index_or (with_edges f 0 ps) k no_point).edges ≡ is_asked_on x (kept (f (0 + k)) (slice_index_or ps k no_point)).edges =
    ap (λ (p : PointOf). is_asked_on x p.edges) here in
    let same : is_asked_on x (kept (f (0 + k)) (slice_index_or ps k no_point)).edges ≡ is_asked_on x (kept (f k) (slice_index_or ps k no_point)).edges =
    ap (λ (m : ℕ). is_asked_on x (kept (f m) (slice_index_or ps k no_point)).edges) number in
    asked ∙ same ∙ any-filter (f k) (λ (e : EdgeOf). is_asked_by x e.instr) (slice_index_or ps k no_point).edges

no_edge : EdgeOf
no_edge = record { instr = Skip; to = 0 }

-- where an edge leads to
pub leads_to : (es : List Edge) (k : ℕ) (e : Edge) (n : ℕ) → All (λ (d : EdgeOf). d.to < n) (map edge_view es) → k < length es → (slice_index_or es k e).to < n
unfolding edge_view
leads_to es k e n all h =
    subst (λ (d : EdgeOf). d.to < n) (get_or-map edge_view es k e no_edge h) (all k no_edge (subst (λ (m : ℕ). k < m) (sym (length-map es edge_view)) h))

-- one edge more of a list
pub edge_next : (f : EdgeOf → Bool) (es : List Edge) (k : ℕ) (d e : Edge) (taken : Bool) (a b c : List Bool) → k < length es
    → e ≡ slice_index_or es k e → taken ≡ f (edge_view (slice_index_or es k d))
    → AreMarked (λ x. is_asked_of f x (take k (map edge_view es))) a b
    → AreMarked (λ x. taken && is_asked_by x (edge_view e).instr) b c
    → AreMarked (λ x. is_asked_of f x (take (k + 1) (map edge_view es))) a c
edge_next f es k d e taken a b c h is same before now =
    let here : EdgeOf = slice_index_or (map edge_view es) k no_edge in
    let first : here ≡ edge_view (slice_index_or es k d) = get_or-map edge_view es k d no_edge h in
    let second : here ≡ edge_view e = get_or-map edge_view es k e no_edge h ∙ ap edge_view (sym is) in
    marked_next (λ x (g : EdgeOf). f g && is_asked_by x g.instr) (map edge_view es) k no_edge a b c
    (subst (λ (m : ℕ). k < m) (sym (length-map es edge_view)) h)
    before
    (marked_same (λ x. taken && is_asked_by x (edge_view e).instr) (λ x. f here && is_asked_by x here.instr) b c
    (λ x. ap (λ (t : Bool). t && is_asked_by x (edge_view e).instr) (same ∙ ap f (sym first)) ∙ ap (λ (g : EdgeOf). f here && is_asked_by x g.instr) (sym second))
    now)

pub edges_begin : (f : EdgeOf → Bool) (es : List Edge) (a : List Bool) → AreMarked (λ x. is_asked_of f x (take 0 (map edge_view es))) a a
edges_begin f es a = marked_begin (λ x (g : EdgeOf). f g && is_asked_by x g.instr) (map edge_view es) a

pub edges_end : (f : EdgeOf → Bool) (es : List Edge) (k : ℕ) (a b : List Bool) → length es ≤ k
    → AreMarked (λ x. is_asked_of f x (take k (map edge_view es))) a b → AreMarked (λ x. is_asked_of f x (map edge_view es)) a b
edges_end f es k a b h p =
    marked_end (λ x (g : EdgeOf). f g && is_asked_by x g.instr) (map edge_view es) k a b (subst (λ (m : ℕ). m ≤ k) (sym (length-map es edge_view)) h) p
