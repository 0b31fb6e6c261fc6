-- What is visible is there, heads are marked.
use Rattle.std.proofs.Common.{◌≡◌, ◌≢◌, ◌<◌, ◌≤◌, ◌+◌, ◌-◌, ℕ, refl, ap, ◌∙◌, sym, subst, nat_eq, Bool, true, false, ◌||◌, if◌then◌else◌, not, ◌⊎◌, inl, inr, List, [], ◌∷◌, ◌++◌, length, take, reverse, replicate, slice_index_or, slice_set, Option, Some, None, arith, length-set}
use Rattle.std.specs.Prelude.{codes}
use Rattle.std.specs.List.{All, filter, flat_map}
use Rattle.std.proofs.lemmas.Bool.Decides.{eqb_tells}
use Rattle.std.proofs.lemmas.List.{get_or-reverse, length-reverse, get_or-set_same, get_or-set_other, get_or-replicate, length-replicate, take_all}
use Rattle.std.proofs.lemmas.List.Elements.{All-nil, All-cons, All-head, All-tail, All-append, All-filter}
use Rattle.std.proofs.lemmas.List.Folds.{list_any_more}
use Rattle.pk_graph.specs.declared.graphs.Entry.{Entry}
use Rattle.pk_graph.specs.Graphs.{VariableOf, GraphOf, no_point, point_at}
use Rattle.pk_graph.specs.WellMade.{IsGraph}
use Rattle.pk_graph.specs.Visible.{Names, no_name, with_name, is_shown, name_at, not_hidden, is_of_file, files_first, visible_at}
use Rattle.pk_state.specs.Layouts.{Layout}
use Rattle.pk_state.specs.Facts.{Facts}
use Rattle.pk_report.specs.Values.{related, of_pairs, value_lines_if, pair_lines_if, facts_lines}
use Rattle.pk_report.specs.Reports.{is_head, AreHeads}

-- ---- facts

pub none_known : (g : GraphOf) (l : Layout) (facts : Option Facts) (xs : List ℕ) → facts ≡ None → codes "  unreachable\n" ≡ facts_lines g l facts xs
none_known g l facts xs e = sym (ap (λ (f : Option Facts). facts_lines g l f xs) e)

pub some_known : (g : GraphOf) (l : Layout) (facts : Option Facts) (xs : List ℕ) → (facts ≡ None → ⊥) → flat_map (value_lines_if g l facts) xs ++ of_pairs (pair_lines_if g l facts) (related l xs) ≡ facts_lines g l facts xs
some_known g l None xs h = absurd (h refl)
some_known g l (Some f) xs h = refl

-- ---- visible variables

abbrev AreBelow : ℕ → List ℕ → Type 0
AreBelow n xs = All (λ (x : ℕ). x < n) xs

not_hidden_below : (n : ℕ) (vs : List VariableOf) (has : Names) (es : List Entry) → All (λ (e : Entry). e.variable < n) es → AreBelow n (not_hidden vs has es)
unfolding not_hidden
not_hidden_below n vs has [] h = All-nil (λ (x : ℕ). x < n)
not_hidden_below n vs has (e ∷ es) h =
    told (is_shown (name_at vs e.variable) e.hides has) (not_hidden_below n vs (with_name (name_at vs e.variable) has) es (All-tail (λ (z : Entry). z.variable < n) e es h))
  where
    told : (b : Bool) → AreBelow n (not_hidden vs (with_name (name_at vs e.variable) has) es)
        → AreBelow n (if b then e.variable ∷ not_hidden vs (with_name (name_at vs e.variable) has) es else not_hidden vs (with_name (name_at vs e.variable) has) es)
    told true i = All-cons (λ (y : ℕ). y < n) e.variable (not_hidden vs (with_name (name_at vs e.variable) has) es) (All-head (λ (z : Entry). z.variable < n) e es h) i
    told false i = i

reverse_below : (n : ℕ) (xs : List ℕ) → AreBelow n xs → AreBelow n (reverse xs)
reverse_below n xs h k d i =
    let inside : k < length xs = subst (λ (m : ℕ). k < m) (length-reverse xs) i in
    subst (λ (x : ℕ). x < n) (sym (get_or-reverse xs k d inside)) (h (length xs - 1 - k) d (omega (arith, inside)))

files_first_below : (n : ℕ) (vs : List VariableOf) (xs : List ℕ) → AreBelow n xs → AreBelow n (files_first vs xs)
files_first_below n vs xs h =
    All-append (λ (x : ℕ). x < n) (filter (is_of_file vs) xs) (filter (λ (x : ℕ). not (is_of_file vs x)) xs)
    (All-filter (is_of_file vs) (λ (x : ℕ). x < n) xs h) (All-filter (λ (x : ℕ). not (is_of_file vs x)) (λ (x : ℕ). x < n) xs h)

pub visible_below : (g : GraphOf) (p : ℕ) → IsGraph g → p < length g.points → AreBelow (length g.variables) (visible_at g p)
visible_below g p m h =
    let shown = not_hidden g.variables no_name (point_at g p).scope in
    files_first_below (length g.variables) g.variables (reverse shown)
    (reverse_below (length g.variables) shown (not_hidden_below (length g.variables) g.variables no_name (point_at g p).scope (m.points p no_point h).scope))

-- ---- heads

-- the first k heads are marked
pub record AreMarked (n : ℕ) (heads : List ℕ) (k : ℕ) (marks : List Bool) : Type 0 where
  pub size : length marks ≡ n
  pub each : (v : ℕ) → v < n → slice_index_or marks v false ≡ is_head (take k heads) v

pub marks_begin : (n : ℕ) (heads : List ℕ) (marks : List Bool) → marks ≡ replicate n false → AreMarked n heads 0 marks
marks_begin n heads marks e = record {
  size = ap length e ∙ length-replicate n false;
  each = λ v h. ap (λ (bs : List Bool). slice_index_or bs v false) e ∙ get_or-replicate n v false false h;
}

or_true : (b : Bool) → (b || true) ≡ true
or_true true = refl
or_true false = refl

or_false : (b : Bool) → (b || false) ≡ b
or_false true = refl
or_false false = refl

pub marks_next : (n : ℕ) (heads : List ℕ) (k : ℕ) (marks : List Bool) → k < length heads → slice_index_or heads k 0 < n → AreMarked n heads k marks → AreMarked n heads (k + 1) (slice_set marks (slice_index_or heads k 0) true)
marks_next n heads k marks h i m = record {
  size = length-set marks (slice_index_or heads k 0) true ∙ m.size;
  each = λ v j. told v j (eqb_tells v (slice_index_or heads k 0));
}
  where
    told : (v : ℕ) → v < n → ((nat_eq v (slice_index_or heads k 0) ≡ true) × (v ≡ slice_index_or heads k 0)) ⊎ ((nat_eq v (slice_index_or heads k 0) ≡ false) × (v ≢ slice_index_or heads k 0))
        → slice_index_or (slice_set marks (slice_index_or heads k 0) true) v false ≡ is_head (take (k + 1) heads) v
    told v j (inl e) =
        ap (λ (x : ℕ). slice_index_or (slice_set marks (slice_index_or heads k 0) true) x false) e.1
        ∙ get_or-set_same marks (slice_index_or heads k 0) true false (subst (λ (x : ℕ). slice_index_or heads k 0 < x) (sym m.size) i)
        ∙ sym (list_any_more (nat_eq v) heads k 0 h ∙ ap (λ (b : Bool). is_head (take k heads) v || b) e.0 ∙ or_true (is_head (take k heads) v))
    told v j (inr e) =
        get_or-set_other marks (slice_index_or heads k 0) v true false e.1
        ∙ m.each v j
        ∙ sym (list_any_more (nat_eq v) heads k 0 h ∙ ap (λ (b : Bool). is_head (take k heads) v || b) e.0 ∙ or_false (is_head (take k heads) v))

-- a head behind the points is none of them
pub marks_past : (n : ℕ) (heads : List ℕ) (k : ℕ) (marks : List Bool) → k < length heads → n ≤ slice_index_or heads k 0 → AreMarked n heads k marks → AreMarked n heads (k + 1) marks
marks_past n heads k marks h i m = record { size = m.size; each = λ v j. told v j (eqb_tells v (slice_index_or heads k 0)) }
  where
    told : (v : ℕ) → v < n → ((nat_eq v (slice_index_or heads k 0) ≡ true) × (v ≡ slice_index_or heads k 0)) ⊎ ((nat_eq v (slice_index_or heads k 0) ≡ false) × (v ≢ slice_index_or heads k 0))
        → slice_index_or marks v false ≡ is_head (take (k + 1) heads) v
    told v j (inl e) = absurd (omega (arith, j, i, e.1))
    told v j (inr e) =
        m.each v j ∙ sym (list_any_more (nat_eq v) heads k 0 h ∙ ap (λ (b : Bool). is_head (take k heads) v || b) e.0 ∙ or_false (is_head (take k heads) v))

pub marks_end : (n : ℕ) (heads : List ℕ) (k : ℕ) (marks : List Bool) → length heads ≤ k → AreMarked n heads k marks → AreHeads n heads marks
marks_end n heads k marks h m = record { size = m.size; each = λ v i. m.each v i ∙ ap (λ (xs : List ℕ). is_head xs v) (take_all k heads h) }
