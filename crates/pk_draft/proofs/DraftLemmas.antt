-- Edges and variables of the code, one more and one in its place.
use Rattle.std.proofs.Common.{◌≡◌, ap, sym, ◌∙◌, arith, ℕ, suc, ◌+◌, ◌-◌, ◌<◌, ◌≤◌, List, [], ◌∷◌, ◌++◌, map, replicate, slice_set, append_assoc}
use Rattle.std.proofs.lemmas.List.{append-nil, map-append, map-set}
use Rattle.pk_graph.specs.declared.graphs.Variable.{Variable}
use Rattle.pk_graph.specs.Graphs.{VariableOf, no_variable, variable_view}
use Rattle.pk_draft.specs.declared.drafts.DraftEdge.{DraftEdge}
use Rattle.pk_draft.specs.Drafts.{DraftOf, placed, all_placed}
use Rattle.pk_draft.specs.Answers.{edge_view}

pub one_more_edge : (es : List DraftEdge) (e : DraftEdge) → map edge_view (es ++ e ∷ []) ≡ map edge_view es ++ edge_view e ∷ []
one_more_edge es e = map-append edge_view es (e ∷ [])

pub variable_in_place : (xs : List Variable) (i : ℕ) (x : Variable) → map variable_view (slice_set xs i x) ≡ slice_set (map variable_view xs) i (variable_view x)
variable_in_place xs i x = map-set variable_view xs i x

pub all_placed_next : (p e : ℕ) (d : DraftOf ℕ) → p < e → all_placed (e - p) p d ≡ all_placed (e - (p + 1)) (p + 1) (placed p d)
all_placed_next p e d h =
    let is : e - p ≡ suc (e - (p + 1)) = omega arith in ap (λ (k : ℕ). all_placed k p d) is

pub all_placed_none : (p e : ℕ) (d : DraftOf ℕ) → e ≤ p → all_placed (e - p) p d ≡ d
all_placed_none p e d h = let is : e - p ≡ 0 = omega arith in ap (λ (k : ℕ). all_placed k p d) is

-- one variable more, one less to come
pub space_next : (xs : List Variable) (x : Variable) (i n : ℕ) → i < n → variable_view x ≡ no_variable
    → map variable_view xs ++ replicate (n - i) no_variable ≡ map variable_view (xs ++ x ∷ []) ++ replicate (n - (i + 1)) no_variable
space_next xs x i n h e =
    let is : n - i ≡ suc (n - (i + 1)) = omega arith in
    ap (λ (k : ℕ). map variable_view xs ++ replicate k no_variable) is
    ∙ (ap (λ (v : VariableOf). map variable_view xs ++ v ∷ replicate (n - (i + 1)) no_variable) (sym e)
    ∙ (sym (append_assoc (map variable_view xs) (variable_view x ∷ []) (replicate (n - (i + 1)) no_variable))
    ∙ ap (λ (vs : List VariableOf). vs ++ replicate (n - (i + 1)) no_variable) (sym (map-append variable_view xs (x ∷ [])))))

pub space_end : (xs : List VariableOf) (i n : ℕ) → n ≤ i → xs ++ replicate (n - i) no_variable ≡ xs
space_end xs i n h =
    let is : n - i ≡ 0 = omega arith in ap (λ (k : ℕ). xs ++ replicate k no_variable) is ∙ append-nil xs
