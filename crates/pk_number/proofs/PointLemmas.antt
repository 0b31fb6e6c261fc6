-- Edges and points with their numbers, one by one.
use Rattle.std.proofs.Common.{◌≡◌, ◌<◌, ◌≤◌, ◌+◌, ◌-◌, ℕ, refl, ap, ◌∙◌, sym, subst, true, false, ◌⊎◌, inl, inr, List, [], ◌∷◌, ◌++◌, length, map, take, drop, slice_index_or, slice_set, append_assoc, append-nil, arith, min}
use Rattle.std.proofs.lemmas.List.{length-map, length-take, length-append, length-drop, get_or-map, get_or-append_right, get_or-drop, drop_more, drop_all, take_all, map-set, set_at, map_more}
use Rattle.pk_graph.specs.declared.graphs.Edge.{Edge}
use Rattle.pk_graph.specs.Graphs.{EdgeOf, edge_view}
use Rattle.std.specs.declared.vec.Vec.{Vec}
use Rattle.std.specs.declared.alloc.Global.{Global}
use Rattle.std.proofs.lemmas.List.{take_more, map-append, map_push, get_or-set_other, length-set}
use Rattle.pk_graph.specs.declared.graphs.Point.{Point}
use Rattle.pk_draft.specs.declared.drafts.Label.{Label}
use Rattle.pk_draft.specs.Drafts.{no_label}
use Rattle.pk_number.specs.Preorders.{is_among}
use Rattle.pk_number.specs.Rows.{rows_view, row_at, IsDistinct, renumbered, Placed, placed_view, placed}
use Rattle.pk_number.proofs.AmongLemmas.{true_or_false, among_here, among_left, among_right, not_before}
use Rattle.pk_number.proofs.RowLemmas.{row_set}

-- the first k edges have numbers, the others don't
abbrev pub AreRenumbered : List ℕ → List EdgeOf → ℕ → List Edge → Type 0
AreRenumbered ns first k edges = map edge_view edges ≡ map (renumbered ns) (take k first) ++ drop k first

long : (ns : List ℕ) (first : List EdgeOf) (k : ℕ) (edges : List Edge) → AreRenumbered ns first k edges → length edges ≡ length first
long ns first k edges e =
    sym (length-map edges edge_view) ∙ ap length e ∙ length-append (map (renumbered ns) (take k first)) (drop k first)
    ∙ count (length-map (take k first) (renumbered ns)) (length-take k first) (length-drop k first)
  where
    count : {a b c : ℕ} → a ≡ b → b ≡ min k (length first) → c ≡ length first - k → a + c ≡ length first
    count p q r = omega (arith, p, q, r)

front : (ns : List ℕ) (first : List EdgeOf) (k : ℕ) → k ≤ length first → length (map (renumbered ns) (take k first)) ≡ k
front ns first k h = length-map (take k first) (renumbered ns) ∙ length-take k first ∙ least
  where
    least : min k (length first) ≡ k
    least = omega (arith, h)

pub edge_read : (ns : List ℕ) (first : List EdgeOf) (k : ℕ) (edges : List Edge) (d : Edge) → k < length edges → AreRenumbered ns first k edges → edge_view (slice_index_or edges k d) ≡ slice_index_or first k (edge_view d)
edge_read ns first k edges d h e =
    let inside : k < length first = subst (λ (n : ℕ). k < n) (long ns first k edges e) h in
    let none : k - k ≡ 0 = omega arith in
    let all : k + 0 ≡ k = omega arith in
    sym (get_or-map edge_view edges k d (edge_view d) h)
    ∙ ap (λ (xs : List EdgeOf). slice_index_or xs k (edge_view d)) e
    ∙ get_or-append_right (map (renumbered ns) (take k first)) (drop k first) k k (edge_view d) (front ns first k (omega (arith, inside))) (omega arith)
    ∙ ap (λ (i : ℕ). slice_index_or (drop k first) i (edge_view d)) none
    ∙ get_or-drop k first 0 (edge_view d)
    ∙ ap (λ (i : ℕ). slice_index_or first i (edge_view d)) all

pub edge_inside : (ns : List ℕ) (first : List EdgeOf) (k : ℕ) (edges : List Edge) → k < length edges → AreRenumbered ns first k edges → k < length first
edge_inside ns first k edges h e = subst (λ (n : ℕ). k < n) (long ns first k edges e) h

pub renumbered_next : (ns : List ℕ) (first : List EdgeOf) (k : ℕ) (edges : List Edge) (d new : Edge) → k < length edges → edge_view new ≡ renumbered ns (edge_view (slice_index_or edges k d)) → AreRenumbered ns first k edges
    → AreRenumbered ns first (k + 1) (slice_set edges k new)
renumbered_next ns first k edges d new h f e =
    let inside : k < length first = edge_inside ns first k edges h e in
    let x : EdgeOf = slice_index_or first k (edge_view d) in
    map-set edge_view edges k new
    ∙ ap (λ (xs : List EdgeOf). slice_set xs k (edge_view new)) e
    ∙ ap (λ (xs : List EdgeOf). slice_set (map (renumbered ns) (take k first) ++ xs) k (edge_view new)) (drop_more first k (edge_view d) inside)
    ∙ set_at (map (renumbered ns) (take k first)) x (drop (k + 1) first) (edge_view new) k (front ns first k (omega (arith, inside)))
    ∙ ap (λ (y : EdgeOf). map (renumbered ns) (take k first) ++ y ∷ drop (k + 1) first) (f ∙ ap (renumbered ns) (edge_read ns first k edges d h e))
    ∙ sym (append_assoc (map (renumbered ns) (take k first)) (renumbered ns x ∷ []) (drop (k + 1) first))
    ∙ ap (λ (xs : List EdgeOf). xs ++ drop (k + 1) first) (sym (map_more (renumbered ns) first k (edge_view d) inside))

pub renumbered_end : (ns : List ℕ) (first : List EdgeOf) (k : ℕ) (edges : List Edge) → length edges ≤ k → AreRenumbered ns first k edges → map edge_view edges ≡ map (renumbered ns) first
renumbered_end ns first k edges h e =
    let past : length first ≤ k = subst (λ (n : ℕ). n ≤ k) (long ns first k edges e) h in
    e
    ∙ ap (λ (xs : List EdgeOf). map (renumbered ns) (take k first) ++ xs) (drop_all k first past)
    ∙ append-nil (map (renumbered ns) (take k first))
    ∙ ap (map (renumbered ns)) (take_all k first past)

-- ---- points

-- the points of the first k of the order are made; the rows of the others are as they were
pub record AreMade (labels : List Label) (first : List (List EdgeOf)) (ns order : List ℕ) (k : ℕ) (rows : List (Vec Edge Global)) (points : List Point) : Type 0 where
  pub size : length rows ≡ length labels
  pub made : map placed_view points ≡ map (placed labels first ns) (take k order)
  pub kept : (p : ℕ) → is_among p (take k order) ≡ false → row_at (rows_view rows) p ≡ row_at first p

pub made_begin : (labels : List Label) (ns order : List ℕ) (rows : List (Vec Edge Global)) (points : List Point) → length rows ≡ length labels → points ≡ [] → AreMade labels (rows_view rows) ns order 0 rows points
made_begin labels ns order rows points h e = record { size = h; made = ap (map placed_view) e; kept = λ p f. refl }

pub row_left : (labels : List Label) (first : List (List EdgeOf)) (ns order : List ℕ) (k : ℕ) (rows : List (Vec Edge Global)) (points : List Point) → k < length order → IsDistinct order → AreMade labels first ns order k rows points
    → row_at (rows_view rows) (slice_index_or order k 0) ≡ row_at first (slice_index_or order k 0)
row_left labels first ns order k rows points h d m = m.kept (slice_index_or order k 0) (not_before order k 0 d h)

pub made_next : (labels : List Label) (first : List (List EdgeOf)) (ns order : List ℕ) (k : ℕ) (rows : List (Vec Edge Global)) (points new : List Point) (row : Vec Edge Global) (point : Point) → k < length order → IsDistinct order
    → new ≡ points ++ point ∷ [] → placed_view point ≡ (record { label = slice_index_or labels (slice_index_or order k 0) no_label; edges = map (renumbered ns) (row_at (rows_view rows) (slice_index_or order k 0)) })
    → AreMade labels first ns order k rows points → AreMade labels first ns order (k + 1) (slice_set rows (slice_index_or order k 0) row) new
made_next labels first ns order k rows points new row point h d e f m = record {
  size = length-set rows p row ∙ m.size;
  made =
      ap (map placed_view) e
      ∙ map_push placed_view points point
      ∙ ap (λ (x : Placed). map placed_view points ++ x ∷ []) (f ∙ ap (λ (xs : List EdgeOf). let x : Placed = record { label = slice_index_or labels p no_label; edges = map (renumbered ns) xs } in x) (row_left labels first ns order k rows points h d m))
      ∙ ap (λ (xs : List Placed). xs ++ placed labels first ns p ∷ []) m.made
      ∙ sym (map-append (placed labels first ns) (take k order) (p ∷ []))
      ∙ ap (map (placed labels first ns)) (sym more);
  kept = λ q g. others q (ap (is_among q) (sym more) ∙ g);
}
  where
    p : ℕ
    p = slice_index_or order k 0

    more : take (k + 1) order ≡ take k order ++ p ∷ []
    more = take_more order k 0 h

    before : (q : ℕ) → is_among q (take k order ++ p ∷ []) ≡ false → (is_among q (take k order) ≡ true) ⊎ (is_among q (take k order) ≡ false) → is_among q (take k order) ≡ false
    before q g (inl i) = absurd (cc (among_left q (take k order) (p ∷ []) i, g))
    before q g (inr i) = i

    apart : (q : ℕ) → is_among q (take k order ++ p ∷ []) ≡ false → q ≡ p → ⊥
    apart q g i = cc (among_right q (take k order) (p ∷ []) (ap (λ (n : ℕ). is_among n (p ∷ [])) i ∙ among_here p []), g)

    others : (q : ℕ) → is_among q (take k order ++ p ∷ []) ≡ false → row_at (rows_view (slice_set rows p row)) q ≡ row_at first q
    others q g =
        ap (λ (xs : List (List EdgeOf)). row_at xs q) (row_set rows p row)
        ∙ get_or-set_other (rows_view rows) p q (map edge_view row.items) [] (apart q g)
        ∙ m.kept q (before q g (true_or_false (is_among q (take k order))))

pub made_end : (labels : List Label) (first : List (List EdgeOf)) (ns order : List ℕ) (k : ℕ) (rows : List (Vec Edge Global)) (points : List Point) → length order ≤ k → AreMade labels first ns order k rows points
    → map placed_view points ≡ map (placed labels first ns) order
made_end labels first ns order k rows points h m = m.made ∙ ap (map (placed labels first ns)) (take_all k order h)
