-- The graph of a text has no more points than its draft.
use Rattle.std.specs.Prelude.{◌≡◌, ℕ, zero, suc, ◌+◌, ◌<◌, ◌≤◌, nat_eq, Bool, true, false, not, ◌&&◌, ◌||◌, if◌then◌else◌, List, [], ◌∷◌, ◌++◌, length, map, All}
use Rattle.std.proofs.Common.{arith, ap, cond, refl, sym, subst, ◌∙◌, length-append}
use Rattle.std.proofs.lemmas.List.{length-map}
use Rattle.pk_calls.proofs.CallPathLemmas.{paths_are_all}
use Rattle.pk_graph.specs.Graphs.{GraphOf, PathOf}
use Rattle.pk_draft.specs.Drafts.{DraftOf, EdgeFrom, by_number, entry_point, nowhere}
use Rattle.pk_lower.specs.Parts.{program_draft}
use Rattle.pk_lower.specs.Paths.{path_of}
use Rattle.pk_lower_laws.specs.Drafts.Laws.{DraftsHaveLabels}
use Rattle.pk_number.specs.Numbering.{edges_from, ends, is_from, numbered, point_of, reached}
use Rattle.pk_number.specs.Preorders.{is_among, preorder}
use Rattle.pk_number.specs.Rows.{AreBelow}
use Rattle.pk_number.specs.Typed.{IsTypedDraft}
use Rattle.pk_number.proofs.AmongLemmas.{absent, absent_less, among_append, below_both, below_head, below_one, below_tail, not_among}
use Rattle.pk_number.proofs.GraphLemmas.{tos}
use Rattle.pk_number.proofs.ReachedLemmas.{ends_below}
use Rattle.pk_number.proofs.WalkLemmas.{AreEndsBelow, kept}
use Rattle.pk_welltyped_texts.specs.Laws.{DraftsOfTextsAreTyped, TextsAreWellTyped}
use Rattle.pk_text_graph.specs.Graphs.{GraphsAreFew}

-- ---- no walk comes to no point

first_of : (a b : Bool) → (a || b) ≡ false → a ≡ false
first_of true b e = e
first_of false b e = refl

second_of : (a b : Bool) → (a || b) ≡ false → b ≡ false
second_of true b e = absurd (cc)
second_of false b e = e

neither : (a b : Bool) → a ≡ false → b ≡ false → (a || b) ≡ false
neither a b e f = ap (λ (x : Bool). x || b) e ∙ f

leads_somewhere : (a b : Bool) → (a && not b) ≡ true → b ≡ true → ⊥
leads_somewhere true true e f = absurd (cc)
leads_somewhere true false e f = absurd (cc)
leads_somewhere false b e f = absurd (cc)

no_end : (es : List (EdgeFrom ℕ)) (p : ℕ) → is_among nowhere (ends es p) ≡ false
no_end [] p = refl
no_end (e ∷ es) p = by (is_from p e) refl (no_end es p)
  where
    by : (b : Bool) → is_from p e ≡ b → is_among nowhere (ends es p) ≡ false → is_among nowhere (map (λ (f : EdgeFrom ℕ). f.to) (cond b (e ∷ edges_from p es) (edges_from p es))) ≡ false
    by true is rest = not_among nowhere e.to (ends es p) rest (λ same. leads_somewhere (nat_eq e.from p) (nat_eq e.to nowhere) is (ap (λ n. nat_eq n nowhere) (sym same)))
    by false is rest = rest

-- ---- how many points are reached

one_absent : (m : ℕ) (xs : List ℕ) → 0 < m → is_among 0 xs ≡ false → 1 ≤ absent m xs
one_absent zero xs l e = absurd (omega (arith, l))
one_absent (suc zero) xs l e = subst (λ (b : Bool). 1 ≤ (if b then 0 else 1) + 0) (sym e) (omega arith)
one_absent (suc (suc m)) xs l e = omega (arith, one_absent (suc m) xs (omega arith) e)

-- what a walk has seen and what waits are points
record IsInside (m : ℕ) (ps seen : List ℕ) : Type 0 where
  waiting : AreBelow m ps
  none_waits : is_among nowhere ps ≡ false
  none_seen : is_among nowhere seen ≡ false
  counted : length seen + absent m seen ≡ m

walk_less : (ends : ℕ → List ℕ) (m : ℕ) → 0 < m → AreEndsBelow ends m → ((p : ℕ) → is_among nowhere (ends p) ≡ false) → (n : ℕ) (ps seen : List ℕ) → IsInside m ps seen → length (preorder ends n ps seen) < m
walk_less ends m some below none = kept ends (λ n ps seen. IsInside m ps seen) (λ xs. length xs < m) (record {
  before = λ n p ps seen e i. record {
    waiting = below_tail m p ps i.waiting;
    none_waits = second_of (nat_eq nowhere p) (is_among nowhere ps) i.none_waits;
    none_seen = i.none_seen;
    counted = i.counted;
  };
  now = λ n p ps seen e i. record {
    waiting = below_both m (ends p) ps (below p) (below_tail m p ps i.waiting);
    none_waits = among_append nowhere (ends p) ps ∙ neither (is_among nowhere (ends p)) (is_among nowhere ps) (none p) (second_of (nat_eq nowhere p) (is_among nowhere ps) i.none_waits);
    none_seen = among_append nowhere seen (p ∷ []) ∙ neither (is_among nowhere seen) (is_among nowhere (p ∷ [])) i.none_seen
        (neither (nat_eq nowhere p) false (first_of (nat_eq nowhere p) (is_among nowhere ps) i.none_waits) refl);
    counted = more p seen (absent_less m p seen (below_head m p ps i.waiting) e) i.counted;
  };
  out = λ ps seen i. few seen i.none_seen i.counted;
  done = λ n seen i. few seen i.none_seen i.counted;
})
  where
    more : (p : ℕ) (seen : List ℕ) → absent m seen ≡ suc (absent m (seen ++ p ∷ [])) → length seen + absent m seen ≡ m → length (seen ++ p ∷ []) + absent m (seen ++ p ∷ []) ≡ m
    more p seen e f = omega (arith, e, f, length-append seen (p ∷ []))

    few : (seen : List ℕ) → is_among nowhere seen ≡ false → length seen + absent m seen ≡ m → length seen < m
    few seen e f = omega (arith, f, one_absent m seen some e)

absent_none : (m : ℕ) → absent m [] ≡ m
absent_none zero = refl
absent_none (suc m) = omega (arith, absent_none m)

reached_less : (m : ℕ) (es : List (EdgeFrom ℕ)) → entry_point < m → All (λ (e : EdgeFrom ℕ). e.to < m) es → length (reached es) < m
reached_less m es entry to =
    walk_less (ends es) m (omega (arith, entry)) (ends_below m es to) (no_end es) (2 + length es) (entry_point ∷ []) []
    (record { waiting = below_one m entry_point entry; none_waits = refl; none_seen = refl; counted = omega (arith, absent_none m) })

-- the graph of a typed draft has fewer points than the draft has labels
few_numbered : (k : ℕ) (ps : List PathOf) (d : DraftOf ℕ) → IsTypedDraft k d → length (numbered ps d).points < length d.labels
few_numbered k ps d typed = omega (arith, length-map (reached d.edges) (point_of (reached d.edges) d), reached_less (length d.labels) d.edges typed.entry (tos k d typed))

pub graphs_are_few : TextsAreWellTyped → DraftsOfTextsAreTyped → DraftsHaveLabels → GraphsAreFew
graphs_are_few well typed labels text entry g h =
    let c = h.called.called.0 in
    let many = labels h.unit c.entry h.paths (well text h.unit h.called.typed) c.is_entry.0.0 c.is_listing (paths_are_all.all h.unit c.entry c.seen h.paths c.walks c.is_listing) in
    let few = few_numbered (length h.paths) (map (path_of h.unit h.paths) h.paths) (program_draft by_number h.unit h.paths) (typed text entry h.unit h.paths h.called h.few) in
    let graph = ap (λ (q : GraphOf). length q.points) h.graph in
    omega (arith, graph, few, many, h.few)
