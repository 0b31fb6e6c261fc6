-- The first asked variables, one by one.
use Rattle.std.proofs.Common.{◌≡◌, ◌<◌, ◌≤◌, ◌+◌, ◌-◌, ◌≢◌, ℕ, zero, suc, refl, ap, ◌∙◌, sym, subst, Bool, true, false, ◌&&◌, if◌then◌else◌, List, [], ◌∷◌, ◌++◌, length, drop, slice_index_or, append_assoc, append-nil, arith, map}
use Rattle.std.proofs.lemmas.List.{drop_more, drop_all, get_or-map, get_or_default}
use Rattle.pk_graph.specs.declared.graphs.Variable.{Variable}
use Rattle.pk_graph.specs.Graphs.{VariableOf, PointOf, no_variable, variable_view}
use Rattle.pk_graph.specs.OctagonVariables.{is_asked_in, is_named_scalar, first_asked, AreMarks}

-- those found so far, and the first `left` of the variables from `number` on, are the first `most` of all
abbrev pub AreFound : List PointOf → List VariableOf → ℕ → List ℕ → ℕ → ℕ → Type 0
AreFound ps vs most found left number = found ++ first_asked ps left number (drop number vs) ≡ first_asked ps most 0 vs

abbrev pub wanted : List PointOf → ℕ → VariableOf → Bool
wanted ps k v = is_asked_in k ps && is_named_scalar v

taken : (ps : List PointOf) (n k : ℕ) (v : VariableOf) (vs : List VariableOf) → wanted ps k v ≡ true → first_asked ps (suc n) k (v ∷ vs) ≡ k ∷ first_asked ps n (k + 1) vs
unfolding first_asked
taken ps n k v vs e = ap (λ (b : Bool). if b then k ∷ first_asked ps n (k + 1) vs else first_asked ps (suc n) (k + 1) vs) e

passed : (ps : List PointOf) (n k : ℕ) (v : VariableOf) (vs : List VariableOf) → wanted ps k v ≡ false → first_asked ps n k (v ∷ vs) ≡ first_asked ps n (k + 1) vs
unfolding first_asked
passed ps zero k v vs e = refl
passed ps (suc n) k v vs e = ap (λ (b : Bool). if b then k ∷ first_asked ps n (k + 1) vs else first_asked ps (suc n) (k + 1) vs) e

nothing_left : (ps : List PointOf) (n k : ℕ) → first_asked ps n k [] ≡ []
unfolding first_asked
nothing_left ps zero k = refl
nothing_left ps (suc n) k = refl

none_wanted : (ps : List PointOf) (k : ℕ) (vs : List VariableOf) → first_asked ps 0 k vs ≡ []
unfolding first_asked
none_wanted ps k vs = refl

pub found_next : (ps : List PointOf) (vs : List VariableOf) (most : ℕ) (found new : List ℕ) (left number : ℕ) (d : VariableOf) → number < length vs → left ≢ 0
    → wanted ps number (slice_index_or vs number d) ≡ true → new ≡ found ++ number ∷ [] → AreFound ps vs most found left number → AreFound ps vs most new (left - 1) (number + 1)
found_next ps vs most found new left number d h some e f p =
    ap (λ (xs : List ℕ). xs ++ first_asked ps (left - 1) (number + 1) (drop (number + 1) vs)) f
    ∙ append_assoc found (number ∷ []) (first_asked ps (left - 1) (number + 1) (drop (number + 1) vs))
    ∙ ap (λ (xs : List ℕ). found ++ xs) (sym (taken ps (left - 1) number (slice_index_or vs number d) (drop (number + 1) vs) e))
    ∙ ap (λ (n : ℕ). found ++ first_asked ps n number (slice_index_or vs number d ∷ drop (number + 1) vs)) (more left some)
    ∙ ap (λ (xs : List VariableOf). found ++ first_asked ps left number xs) (sym (drop_more vs number d h))
    ∙ p
  where
    more : (n : ℕ) → n ≢ 0 → suc (n - 1) ≡ n
    more n h = omega (arith, h)

pub found_same : (ps : List PointOf) (vs : List VariableOf) (most : ℕ) (found : List ℕ) (left number : ℕ) (d : VariableOf) → number < length vs
    → wanted ps number (slice_index_or vs number d) ≡ false → AreFound ps vs most found left number → AreFound ps vs most found left (number + 1)
found_same ps vs most found left number d h e p =
    ap (λ (xs : List ℕ). found ++ xs) (sym (passed ps left number (slice_index_or vs number d) (drop (number + 1) vs) e))
    ∙ ap (λ (xs : List VariableOf). found ++ first_asked ps left number xs) (sym (drop_more vs number d h))
    ∙ p

pub found_most : (ps : List PointOf) (vs : List VariableOf) (most : ℕ) (found : List ℕ) (left number : ℕ) → left ≡ 0 → AreFound ps vs most found left number → found ≡ first_asked ps most 0 vs
found_most ps vs most found left number e p =
    sym (append-nil found)
    ∙ ap (λ (xs : List ℕ). found ++ xs) (sym (none_wanted ps number (drop number vs)))
    ∙ ap (λ (n : ℕ). found ++ first_asked ps n number (drop number vs)) (sym e)
    ∙ p

pub found_all : (ps : List PointOf) (vs : List VariableOf) (most : ℕ) (found : List ℕ) (left number : ℕ) → length vs ≤ number → AreFound ps vs most found left number → found ≡ first_asked ps most 0 vs
found_all ps vs most found left number h p =
    sym (append-nil found)
    ∙ ap (λ (xs : List ℕ). found ++ xs) (sym (nothing_left ps left number))
    ∙ ap (λ (xs : List VariableOf). found ++ first_asked ps left number xs) (sym (drop_all number vs h))
    ∙ p

-- what the code asks of a variable and its mark
pub wanted_is : (ps : List PointOf) (vs : List Variable) (marks : List Bool) (k : ℕ) (v : Variable) (mark : Bool) → k < length vs → AreMarks ps (length vs) marks
    → v ≡ slice_index_or vs k v → mark ≡ slice_index_or marks k mark
    → (mark && is_named_scalar (variable_view v)) ≡ wanted ps k (slice_index_or (map variable_view vs) k no_variable)
wanted_is ps vs marks k v mark h are e f =
    let asked : mark ≡ is_asked_in k ps =
    f ∙ get_or_default marks k mark false (subst (λ (n : ℕ). k < n) (sym are.size) h) ∙ are.each k h in
    let same : slice_index_or (map variable_view vs) k no_variable ≡ variable_view v = get_or-map variable_view vs k v no_variable h ∙ ap variable_view (sym e) in
    ap (λ (b : Bool). b && is_named_scalar (variable_view v)) asked ∙ ap (λ (x : VariableOf). wanted ps k x) (sym same)
