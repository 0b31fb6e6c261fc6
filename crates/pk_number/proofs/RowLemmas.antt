-- Rows of edges, edge by edge.
use Rattle.std.proofs.Common.{◌≡◌, ◌≢◌, ◌<◌, ◌+◌, ℕ, refl, ap, ◌∙◌, sym, subst, nat_eq, Bool, true, false, not, ◌&&◌, cond, if◌then◌else◌, ◌⊎◌, inl, inr, List, [], ◌∷◌, ◌++◌, length, map, replicate, slice_index_or, slice_set, length-set}
use Rattle.std.specs.List.{All}
use Rattle.std.specs.declared.vec.Vec.{Vec}
use Rattle.std.specs.declared.alloc.Global.{Global}
use Rattle.std.proofs.lemmas.Bool.Decides.{eqb_tells}
use Rattle.std.proofs.lemmas.List.{map-append, map-set, get_or-map, get_or-set_same, get_or-set_other, get_or-replicate, length-replicate, length-map, replicate_more, map_push, append-nil}
use Rattle.std.proofs.lemmas.List.Elements.{filter-append}
use Rattle.pk_graph.specs.declared.graphs.Edge.{Edge}
use Rattle.pk_graph.specs.Graphs.{EdgeOf, edge_view}
use Rattle.pk_draft.specs.declared.drafts.DraftEdge.{DraftEdge}
use Rattle.pk_draft.specs.Drafts.{EdgeFrom, nowhere}
use Rattle.pk_draft.specs.Answers as drafts
use Rattle.pk_number.specs.Numbering.{is_from, edges_from}
use Rattle.pk_number.specs.Rows.{bare, rows_view, row_at, with_edge, AreRows}

pub one_more_row : (rows new : List (Vec Edge Global)) (k : ℕ) (row : Vec Edge Global) → new ≡ rows ++ row ∷ [] → row.items ≡ [] → rows_view rows ≡ replicate k [] → rows_view new ≡ replicate (k + 1) []
one_more_row rows new k row e f h =
    ap rows_view e ∙ map_push (λ (r : Vec Edge Global). map edge_view r.items) rows row
    ∙ ap (λ (xs : List (List EdgeOf)). xs ++ map edge_view row.items ∷ []) h
    ∙ ap (λ (xs : List Edge). replicate k [] ++ map edge_view xs ∷ []) f
    ∙ replicate_more k []

-- the code's rows with a row in its place
pub row_set : (rows : List (Vec Edge Global)) (k : ℕ) (row : Vec Edge Global) → rows_view (slice_set rows k row) ≡ slice_set (rows_view rows) k (map edge_view row.items)
row_set rows k row = map-set (λ (r : Vec Edge Global). map edge_view r.items) rows k row

pub row_read : (rows : List (Vec Edge Global)) (k : ℕ) (row : Vec Edge Global) → k < length rows → row ≡ slice_index_or rows k row → row_at (rows_view rows) k ≡ map edge_view row.items
row_read rows k row h e = get_or-map (λ (r : Vec Edge Global). map edge_view r.items) rows k row [] h ∙ ap (λ (r : Vec Edge Global). map edge_view r.items) (sym e)

-- the edges so far are in their rows
pub rows_begin : (n : ℕ) (rows : List (List EdgeOf)) → rows ≡ replicate n [] → AreRows n [] rows
rows_begin n rows e = record {
  size = ap length e ∙ length-replicate n [];
  each = λ p h. ap (λ (xs : List (List EdgeOf)). row_at xs p) e ∙ get_or-replicate n p [] [] h;
}

one_more_from : (p : ℕ) (es : List (EdgeFrom ℕ)) (e : EdgeFrom ℕ) → edges_from p (es ++ e ∷ []) ≡ edges_from p es ++ cond (is_from p e) (e ∷ []) []
one_more_from p es e = filter-append (is_from p) es (e ∷ [])

kept_row : (n p : ℕ) (es : List (EdgeFrom ℕ)) (rows : List (List EdgeOf)) (e : EdgeFrom ℕ) → is_from p e ≡ false → p < n → AreRows n es rows → row_at rows p ≡ map bare (edges_from p (es ++ e ∷ []))
kept_row n p es rows e f h r =
    r.each p h
    ∙ ap (map bare) (sym (one_more_from p es e ∙ ap (λ (b : Bool). edges_from p es ++ cond b (e ∷ []) []) f ∙ append-nil (edges_from p es)))

longer_row : (n p : ℕ) (es : List (EdgeFrom ℕ)) (rows : List (List EdgeOf)) (e : EdgeFrom ℕ) → is_from p e ≡ true → p < n → AreRows n es rows → row_at rows p ++ bare e ∷ [] ≡ map bare (edges_from p (es ++ e ∷ []))
longer_row n p es rows e f h r =
    ap (λ (xs : List EdgeOf). xs ++ bare e ∷ []) (r.each p h)
    ∙ sym (ap (map bare) (one_more_from p es e ∙ ap (λ (b : Bool). edges_from p es ++ cond b (e ∷ []) []) f) ∙ map-append bare (edges_from p es) (e ∷ []))

pub rows_next : (n : ℕ) (es : List (EdgeFrom ℕ)) (rows : List (List EdgeOf)) (e : EdgeFrom ℕ) → e.from < n → AreRows n es rows → AreRows n (es ++ e ∷ []) (with_edge e rows)
rows_next n es rows e h r = told (eqb_tells e.to nowhere)
  where
    told : ((nat_eq e.to nowhere ≡ true) × (e.to ≡ nowhere)) ⊎ ((nat_eq e.to nowhere ≡ false) × (e.to ≢ nowhere)) → AreRows n (es ++ e ∷ []) (with_edge e rows)
    told (inl f) =
        subst (λ (b : Bool). AreRows n (es ++ e ∷ []) (if b then rows else slice_set rows e.from (row_at rows e.from ++ bare e ∷ []))) (sym f.0)
        (record {
          size = r.size;
          each = λ p i. kept_row n p es rows e (ap (λ (b : Bool). nat_eq e.from p && not b) f.0 ∙ and_false (nat_eq e.from p)) i r;
        })
      where
        and_false : (b : Bool) → (b && false) ≡ false
        and_false true = refl
        and_false false = refl
    told (inr f) =
        subst (λ (b : Bool). AreRows n (es ++ e ∷ []) (if b then rows else slice_set rows e.from (row_at rows e.from ++ bare e ∷ []))) (sym f.0)
        (record {
          size = length-set rows e.from (row_at rows e.from ++ bare e ∷ []) ∙ r.size;
          each = λ p i. own p i (eqb_tells e.from p);
        })
      where
        own : (p : ℕ) → p < n → ((nat_eq e.from p ≡ true) × (e.from ≡ p)) ⊎ ((nat_eq e.from p ≡ false) × (e.from ≢ p))
            → row_at (slice_set rows e.from (row_at rows e.from ++ bare e ∷ [])) p ≡ map bare (edges_from p (es ++ e ∷ []))
        own p i (inl g) =
            ap (row_at (slice_set rows e.from (row_at rows e.from ++ bare e ∷ []))) (sym g.1)
            ∙ get_or-set_same rows e.from (row_at rows e.from ++ bare e ∷ []) [] (subst (λ (m : ℕ). e.from < m) (sym r.size) h)
            ∙ ap (λ (k : ℕ). row_at rows k ++ bare e ∷ []) g.1
            ∙ longer_row n p es rows e (ap (λ (b : Bool). b && not (nat_eq e.to nowhere)) g.0 ∙ ap not f.0) i r
        own p i (inr g) =
            get_or-set_other rows e.from p (row_at rows e.from ++ bare e ∷ []) [] (λ j. g.1 (sym j))
            ∙ kept_row n p es rows e (ap (λ (b : Bool). b && not (nat_eq e.to nowhere)) g.0) i r

-- ---- the code's rows

pub edge_dropped : (rows : List (List EdgeOf)) (e : EdgeFrom ℕ) → e.to ≡ 0 → rows ≡ with_edge e rows
edge_dropped rows e h = told (eqb_tells e.to nowhere)
  where
    told : ((nat_eq e.to nowhere ≡ true) × (e.to ≡ nowhere)) ⊎ ((nat_eq e.to nowhere ≡ false) × (e.to ≢ nowhere)) → rows ≡ with_edge e rows
    told (inl f) = sym (ap (λ (b : Bool). if b then rows else slice_set rows e.from (row_at rows e.from ++ bare e ∷ [])) f.0)
    told (inr f) = absurd (f.1 h)

pub edge_added : (rows : List (Vec Edge Global)) (e : EdgeFrom ℕ) (d new : Vec Edge Global) (edge : Edge) → e.to ≢ 0 → e.from < length rows → new.items ≡ (slice_index_or rows e.from d).items ++ edge ∷ [] → edge_view edge ≡ bare e
    → rows_view (slice_set rows e.from new) ≡ with_edge e (rows_view rows)
edge_added rows e d new edge n h f g =
    row_set rows e.from new
    ∙ ap (λ (xs : List EdgeOf). slice_set (rows_view rows) e.from xs) row
    ∙ told (eqb_tells e.to nowhere)
  where
    row : map edge_view new.items ≡ row_at (rows_view rows) e.from ++ bare e ∷ []
    row =
        ap (map edge_view) f
        ∙ map_push edge_view (slice_index_or rows e.from d).items edge
        ∙ ap (λ (x : EdgeOf). map edge_view (slice_index_or rows e.from d).items ++ x ∷ []) g
        ∙ ap (λ (xs : List EdgeOf). xs ++ bare e ∷ []) (sym (get_or-map (λ (r : Vec Edge Global). map edge_view r.items) rows e.from d [] h))

    told : ((nat_eq e.to nowhere ≡ true) × (e.to ≡ nowhere)) ⊎ ((nat_eq e.to nowhere ≡ false) × (e.to ≢ nowhere))
        → slice_set (rows_view rows) e.from (row_at (rows_view rows) e.from ++ bare e ∷ []) ≡ with_edge e (rows_view rows)
    told (inl f) = absurd (n f.1)
    told (inr f) = sym (ap (λ (b : Bool). if b then rows_view rows else slice_set (rows_view rows) e.from (row_at (rows_view rows) e.from ++ bare e ∷ [])) f.0)

pub edge_read : (n : ℕ) (es : List DraftEdge) (k : ℕ) (e : DraftEdge) → All (λ (f : EdgeFrom ℕ). f.from < n) (map drafts.edge_view es) → k < length es → e ≡ slice_index_or es k e → (drafts.edge_view e).from < n
edge_read n es k e h i f =
    subst (λ (g : EdgeFrom ℕ). g.from < n) (get_or-map drafts.edge_view es k e (drafts.edge_view e) i ∙ ap drafts.edge_view (sym f))
    (h k (drafts.edge_view e) (subst (λ (m : ℕ). k < m) (sym (length-map es drafts.edge_view)) i))

pub rows_after : (n : ℕ) (es : List DraftEdge) (e : DraftEdge) (rows : List (Vec Edge Global)) (new : List (List EdgeOf)) → (drafts.edge_view e).from < n → new ≡ with_edge (drafts.edge_view e) (rows_view rows)
    → AreRows n (map drafts.edge_view es) (rows_view rows) → AreRows n (map drafts.edge_view (es ++ e ∷ [])) new
rows_after n es e rows new h f r =
    subst (λ (fs : List (EdgeFrom ℕ)). AreRows n fs new) (sym (map_push drafts.edge_view es e))
    (subst (λ (xs : List (List EdgeOf)). AreRows n (map drafts.edge_view es ++ drafts.edge_view e ∷ []) xs) (sym f) (rows_next n (map drafts.edge_view es) (rows_view rows) (drafts.edge_view e) h r))

pub rows_size : (n : ℕ) (es : List (EdgeFrom ℕ)) (rows : List (Vec Edge Global)) → AreRows n es (rows_view rows) → length rows ≡ n
rows_size n es rows r = sym (length-map rows (λ (row : Vec Edge Global). map edge_view row.items)) ∙ r.size

pub row_got : (rows : List (Vec Edge Global)) (k : ℕ) (d : Vec Edge Global) → k < length rows → map edge_view (slice_index_or rows k d).items ≡ row_at (rows_view rows) k
row_got rows k d h = sym (get_or-map (λ (r : Vec Edge Global). map edge_view r.items) rows k d [] h)
