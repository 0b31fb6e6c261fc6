-- The variables in scope, one by one.
use Rattle.std.proofs.Common.{◌≡◌, ◌<◌, ◌≤◌, ◌+◌, ℕ, refl, ap, ◌∙◌, sym, Bool, true, false, if◌then◌else◌, cond, List, [], ◌∷◌, ◌++◌, length, drop, slice_index_or, append_assoc, append-nil}
use Rattle.std.specs.List.{filter}
use Rattle.std.proofs.lemmas.List.{drop_more, drop_all}
use Rattle.pk_graph.specs.declared.graphs.Entry.{Entry}
use Rattle.pk_graph.specs.Graphs.{VariableOf}
use Rattle.pk_graph.specs.Visible.{Names, no_name, with_name, is_shown, name_at, not_hidden}

-- those found so far, and those of the entries from k on, are all
abbrev pub AreShown : List VariableOf → List Entry → ℕ → Names → List ℕ → Type 0
AreShown vs es k has list = list ++ not_hidden vs has (drop k es) ≡ not_hidden vs no_name es

split : (vs : List VariableOf) (es : List Entry) (k : ℕ) (e d : Entry) (has : Names) → k < length es → e ≡ slice_index_or es k d → not_hidden vs has (drop k es) ≡ not_hidden vs has (e ∷ drop (k + 1) es)
split vs es k e d has h is =
    ap (not_hidden vs has) (drop_more es k d h) ∙ ap (λ (z : Entry). not_hidden vs has (z ∷ drop (k + 1) es)) (sym is)

at_entry : (vs : List VariableOf) (has : Names) (e : Entry) (es : List Entry) (b : Bool) → is_shown (name_at vs e.variable) e.hides has ≡ b
    → not_hidden vs has (e ∷ es) ≡ (if b then e.variable ∷ not_hidden vs (with_name (name_at vs e.variable) has) es else not_hidden vs (with_name (name_at vs e.variable) has) es)
unfolding not_hidden
at_entry vs has e es b h = ap (λ (c : Bool). if c then e.variable ∷ not_hidden vs (with_name (name_at vs e.variable) has) es else not_hidden vs (with_name (name_at vs e.variable) has) es) h

pub shown_next : (vs : List VariableOf) (es : List Entry) (k : ℕ) (e d : Entry) (has more : Names) (list new : List ℕ) → k < length es → e ≡ slice_index_or es k d → is_shown (name_at vs e.variable) e.hides has ≡ true
    → new ≡ list ++ e.variable ∷ [] → more ≡ with_name (name_at vs e.variable) has → AreShown vs es k has list → AreShown vs es (k + 1) more new
shown_next vs es k e d has more list new h is b f m p =
    ap (λ (ys : List ℕ). ys ++ not_hidden vs more (drop (k + 1) es)) f
    ∙ append_assoc list (e.variable ∷ []) (not_hidden vs more (drop (k + 1) es))
    ∙ ap (λ (n : Names). list ++ (e.variable ∷ not_hidden vs n (drop (k + 1) es))) m
    ∙ ap (λ (ys : List ℕ). list ++ ys) (sym (at_entry vs has e (drop (k + 1) es) true b))
    ∙ ap (λ (ys : List ℕ). list ++ ys) (sym (split vs es k e d has h is))
    ∙ p

pub hidden_next : (vs : List VariableOf) (es : List Entry) (k : ℕ) (e d : Entry) (has more : Names) (list new : List ℕ) → k < length es → e ≡ slice_index_or es k d → is_shown (name_at vs e.variable) e.hides has ≡ false
    → new ≡ list → more ≡ with_name (name_at vs e.variable) has → AreShown vs es k has list → AreShown vs es (k + 1) more new
hidden_next vs es k e d has more list new h is b f m p =
    ap (λ (ys : List ℕ). ys ++ not_hidden vs more (drop (k + 1) es)) f
    ∙ ap (λ (n : Names). list ++ not_hidden vs n (drop (k + 1) es)) m
    ∙ ap (λ (ys : List ℕ). list ++ ys) (sym (at_entry vs has e (drop (k + 1) es) false b))
    ∙ ap (λ (ys : List ℕ). list ++ ys) (sym (split vs es k e d has h is))
    ∙ p

none : (vs : List VariableOf) (has : Names) → not_hidden vs has [] ≡ []
unfolding not_hidden
none vs has = refl

pub all_shown : (vs : List VariableOf) (es : List Entry) (k : ℕ) (has : Names) (list : List ℕ) → length es ≤ k → AreShown vs es k has list → list ≡ not_hidden vs no_name es
all_shown vs es k has list h p =
    sym (append-nil list)
    ∙ ap (λ (ys : List ℕ). list ++ ys) (sym (ap (not_hidden vs has) (drop_all k es h) ∙ none vs has))
    ∙ p

-- ---- parts of a list

-- those found so far, and those from k on, are all that pass
abbrev pub ArePassing : (ℕ → Bool) → List ℕ → ℕ → List ℕ → Type 0
ArePassing p xs k list = list ++ filter p (drop k xs) ≡ filter p xs

at_next : (p : ℕ → Bool) (xs : List ℕ) (k x : ℕ) (b : Bool) → k < length xs → x ≡ slice_index_or xs k 0 → p x ≡ b
    → filter p (drop k xs) ≡ cond b (x ∷ filter p (drop (k + 1) xs)) (filter p (drop (k + 1) xs))
at_next p xs k x b h e t =
    ap (filter p) (drop_more xs k 0 h)
    ∙ (ap (λ (y : ℕ). filter p (y ∷ drop (k + 1) xs)) (sym e)
    ∙ ap (λ (c : Bool). cond c (x ∷ filter p (drop (k + 1) xs)) (filter p (drop (k + 1) xs))) t)

pub passes_next : (p : ℕ → Bool) (xs : List ℕ) (k x : ℕ) (list new : List ℕ) → k < length xs → x ≡ slice_index_or xs k 0 → p x ≡ true → new ≡ list ++ x ∷ [] → ArePassing p xs k list → ArePassing p xs (k + 1) new
passes_next p xs k x list new h e t f q =
    ap (λ (ys : List ℕ). ys ++ filter p (drop (k + 1) xs)) f
    ∙ (append_assoc list (x ∷ []) (filter p (drop (k + 1) xs))
    ∙ (ap (λ (ys : List ℕ). list ++ ys) (sym (at_next p xs k x true h e t)) ∙ q))

pub fails_next : (p : ℕ → Bool) (xs : List ℕ) (k x : ℕ) (list new : List ℕ) → k < length xs → x ≡ slice_index_or xs k 0 → p x ≡ false → new ≡ list → ArePassing p xs k list → ArePassing p xs (k + 1) new
fails_next p xs k x list new h e t f q =
    ap (λ (ys : List ℕ). ys ++ filter p (drop (k + 1) xs)) f
    ∙ (ap (λ (ys : List ℕ). list ++ ys) (sym (at_next p xs k x false h e t)) ∙ q)

pub all_passing : (p : ℕ → Bool) (xs : List ℕ) (k : ℕ) (list : List ℕ) → length xs ≤ k → ArePassing p xs k list → list ≡ filter p xs
all_passing p xs k list h q = sym (append-nil list) ∙ (ap (λ (ys : List ℕ). list ++ ys) (sym (ap (filter p) (drop_all k xs h))) ∙ q)
