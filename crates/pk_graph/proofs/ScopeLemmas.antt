-- Scopes, place by place.
use Rattle.std.proofs.Common.{◌≡◌, ◌<◌, ◌≤◌, ◌+◌, ◌-◌, ℕ, zero, suc, refl, ap, ◌∙◌, sym, subst, List, [], ◌∷◌, ◌++◌, length, slice_index_or, arith, add-zero, append_assoc, append-nil}
use Rattle.std.proofs.lemmas.List.{get_or_append_left, get_or_at, get_or_past, length_push}
use Rattle.pk_graph.specs.declared.graphs.Entry.{Entry}
use Rattle.pk_graph.specs.declared.graphs.Scope.{Scope}
use Rattle.pk_graph.specs.Graphs.{chained, scope_at}

abbrev one_more : List (List Entry) → Scope → List (List Entry)
one_more known s = known ++ (s.entry ∷ slice_index_or known s.outer []) ∷ []

chained_length : (known : List (List Entry)) (ss : List Scope) → length (chained known ss) ≡ length known + length ss
chained_length known [] = sym (add-zero (length known))
chained_length known (s ∷ ss) = chained_length (one_more known s) ss ∙ more
  where
    more : length (one_more known s) + length ss ≡ length known + suc (length ss)
    more = omega (arith, length_push known (s.entry ∷ slice_index_or known s.outer []))

chained_keeps : (known : List (List Entry)) (ss : List Scope) (k : ℕ) → k < length known → slice_index_or (chained known ss) k [] ≡ slice_index_or known k []
chained_keeps known [] k h = refl
chained_keeps known (s ∷ ss) k h =
    chained_keeps (one_more known s) ss k (omega (arith, length_push known (s.entry ∷ slice_index_or known s.outer [])))
    ∙ get_or_append_left known ((s.entry ∷ slice_index_or known s.outer []) ∷ []) [] k h

-- entry j, behind those known, adds its variable to the place around it
chained_inner : (known : List (List Entry)) (ss : List Scope) (j : ℕ) (d : Scope) → j < length ss → (slice_index_or ss j d).outer < length known + j
    → slice_index_or (chained known ss) (length known + j) [] ≡ (slice_index_or ss j d).entry ∷ slice_index_or (chained known ss) (slice_index_or ss j d).outer []
chained_inner known [] j d h o = absurd (omega (arith, h))
chained_inner known (s ∷ ss) zero d h o =
    ap (λ (k : ℕ). slice_index_or (chained (one_more known s) ss) k []) (add-zero (length known))
    ∙ chained_keeps (one_more known s) ss (length known) (omega (arith, length_push known (s.entry ∷ slice_index_or known s.outer [])))
    ∙ get_or_at known (s.entry ∷ slice_index_or known s.outer []) [] [] (length known) refl
    ∙ ap (λ (xs : List Entry). s.entry ∷ xs) (sym (chained_keeps (one_more known s) ss s.outer (omega (arith, o, length_push known (s.entry ∷ slice_index_or known s.outer [])))
    ∙ get_or_append_left known ((s.entry ∷ slice_index_or known s.outer []) ∷ []) [] s.outer (omega (arith, o))))
chained_inner known (s ∷ ss) (suc j) d h o =
    let more : length known + suc j ≡ length (one_more known s) + j = omega (arith, length_push known (s.entry ∷ slice_index_or known s.outer [])) in
    ap (λ (k : ℕ). slice_index_or (chained (one_more known s) ss) k []) more
    ∙ chained_inner (one_more known s) ss j d (omega (arith, h)) (subst (λ (n : ℕ). (slice_index_or ss j d).outer < n) more o)

chained_outer : (known : List (List Entry)) (ss : List Scope) (j : ℕ) (d : Scope) → j < length ss → length known + j ≤ (slice_index_or ss j d).outer
    → slice_index_or (chained known ss) (length known + j) [] ≡ (slice_index_or ss j d).entry ∷ []
chained_outer known [] j d h o = absurd (omega (arith, h))
chained_outer known (s ∷ ss) zero d h o =
    ap (λ (k : ℕ). slice_index_or (chained (one_more known s) ss) k []) (add-zero (length known))
    ∙ chained_keeps (one_more known s) ss (length known) (omega (arith, length_push known (s.entry ∷ slice_index_or known s.outer [])))
    ∙ get_or_at known (s.entry ∷ slice_index_or known s.outer []) [] [] (length known) refl
    ∙ ap (λ (xs : List Entry). s.entry ∷ xs) (get_or_past known s.outer [] (omega (arith, o)))
chained_outer known (s ∷ ss) (suc j) d h o =
    let more : length known + suc j ≡ length (one_more known s) + j = omega (arith, length_push known (s.entry ∷ slice_index_or known s.outer [])) in
    ap (λ (k : ℕ). slice_index_or (chained (one_more known s) ss) k []) more
    ∙ chained_outer (one_more known s) ss j d (omega (arith, h)) (subst (λ (n : ℕ). n ≤ (slice_index_or ss j d).outer) more o)

-- what is left of a walk along the chain
abbrev pub IsLeft : List Scope → (place left : ℕ) → List Entry → Type 0
IsLeft ss place left list = list ++ scope_at ss left ≡ scope_at ss place

place_inner : (ss : List Scope) (k : ℕ) (d : Scope) → k < length ss → (slice_index_or ss k d).outer < k + 1
    → scope_at ss (k + 1) ≡ (slice_index_or ss k d).entry ∷ scope_at ss (slice_index_or ss k d).outer
place_inner ss k d h o =
    let swap : k + 1 ≡ 1 + k = omega arith in
    ap (scope_at ss) swap ∙ chained_inner ([] ∷ []) ss k d h (subst (λ (n : ℕ). (slice_index_or ss k d).outer < n) swap o)

place_outer : (ss : List Scope) (k : ℕ) (d : Scope) → k < length ss → k + 1 ≤ (slice_index_or ss k d).outer
    → scope_at ss (k + 1) ≡ (slice_index_or ss k d).entry ∷ []
place_outer ss k d h o =
    let swap : k + 1 ≡ 1 + k = omega arith in
    ap (scope_at ss) swap ∙ chained_outer ([] ∷ []) ss k d h (subst (λ (n : ℕ). n ≤ (slice_index_or ss k d).outer) swap o)

none_at_first : (ss : List Scope) → scope_at ss 0 ≡ []
none_at_first ss = chained_keeps ([] ∷ []) ss 0 (omega arith)

pub inner_left : (ss : List Scope) (place left : ℕ) (s d : Scope) (list new : List Entry) → 0 < left → left ≤ length ss → s ≡ slice_index_or ss (left - 1) d → s.outer < left
    → new ≡ list ++ s.entry ∷ [] → IsLeft ss place left list → IsLeft ss place s.outer new
inner_left ss place left s d list new some h e o f p =
    let is : (left - 1) + 1 ≡ left = omega arith in
    let at : scope_at ss left ≡ s.entry ∷ scope_at ss s.outer =
    ap (scope_at ss) (sym is)
    ∙ place_inner ss (left - 1) d (omega arith) (subst (λ (t : Scope). t.outer < (left - 1) + 1) e (omega (arith, o)))
    ∙ ap (λ (t : Scope). t.entry ∷ scope_at ss t.outer) (sym e) in
    ap (λ (xs : List Entry). xs ++ scope_at ss s.outer) f ∙ append_assoc list (s.entry ∷ []) (scope_at ss s.outer) ∙ ap (λ (xs : List Entry). list ++ xs) (sym at) ∙ p

pub outer_left : (ss : List Scope) (place left : ℕ) (s d : Scope) (list new : List Entry) → 0 < left → left ≤ length ss → s ≡ slice_index_or ss (left - 1) d → left ≤ s.outer
    → new ≡ list ++ s.entry ∷ [] → IsLeft ss place left list → IsLeft ss place 0 new
outer_left ss place left s d list new some h e o f p =
    let is : (left - 1) + 1 ≡ left = omega arith in
    let at : scope_at ss left ≡ s.entry ∷ [] =
    ap (scope_at ss) (sym is)
    ∙ place_outer ss (left - 1) d (omega arith) (subst (λ (t : Scope). (left - 1) + 1 ≤ t.outer) e (omega (arith, o)))
    ∙ ap (λ (t : Scope). t.entry ∷ []) (sym e) in
    ap (λ (xs : List Entry). xs ++ scope_at ss 0) f ∙ append_assoc list (s.entry ∷ []) (scope_at ss 0)
    ∙ ap (λ (xs : List Entry). list ++ (s.entry ∷ xs)) (none_at_first ss) ∙ ap (λ (xs : List Entry). list ++ xs) (sym at) ∙ p

-- at place 0, or behind the chain, nothing is left
pub none_left : (ss : List Scope) (place left : ℕ) (list : List Entry) → left ≡ 0 → IsLeft ss place left list → list ≡ scope_at ss place
none_left ss place left list e p =
    sym (append-nil list) ∙ ap (λ (xs : List Entry). list ++ xs) (sym (ap (scope_at ss) e ∙ none_at_first ss)) ∙ p

pub past_left : (ss : List Scope) (place left : ℕ) (list : List Entry) → length ss < left → IsLeft ss place left list → list ≡ scope_at ss place
past_left ss place left list h p =
    sym (append-nil list) ∙ ap (λ (xs : List Entry). list ++ xs) (sym (get_or_past (chained ([] ∷ []) ss) left [] (omega (arith, h, chained_length ([] ∷ []) ss)))) ∙ p
