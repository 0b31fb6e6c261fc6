-- One more of a list of expressions, each of which is used.
use Rattle.std.proofs.Math.Seq.{drop-cons}
use Rattle.std.proofs.Common.{◌≡◌, ℕ, zero, suc, ◌+◌, ◌<◌, ◌≤◌, drop, get_or, add-one, List, [], ◌∷◌, ◌++◌, Option, Some, None, refl, ap, sym, ◌∙◌, append_assoc, length, length-append, arith, append-nil}
use Rattle.pk_ast.specs.declared.expressions.Expression.{Expression}
use Rattle.pk_ast.specs.Trees.{ExpressionTree, ExpressionTrees, no_expressions, expression_then}
use Rattle.pk_ast.specs.Views.{expression_tree, expression_trees}
use Rattle.pk_typed.specs.Trees.{ValueTree, ValueTrees, no_values, value_before}
use Rattle.pk_type_scope.specs.Declarations.{Names}
use Rattle.pk_type_expression.specs.Forms.{append_values, with_last}
use Rattle.pk_type_expression.specs.Mentions.{Mentioned, mentions, mentions_of_each}
use Rattle.pk_type_expression.specs.Rules.{failures_used}
use Rattle.pk_type_expression.specs.Typed.{typed, typed_all, calls, calls_in_all, value_of, of_both}
use Rattle.pk_type_scope.specs.Notes.{Noted}
use Rattle.pk_type_expression.specs.Views.{Known, known, after_used, after_all}
use Rattle.pk_type_scope.proofs.FailureLemmas.{noted_append, same_noted}
use Rattle.pk_type_expression.proofs.ListLemmas.{append_values_none, append_values_assoc}

-- values after values, where each list has them
abbrev pub appended : Option ValueTrees → Option ValueTrees → Option ValueTrees
appended vs ws = of_both append_values vs ws

-- what is left begins with the next one
pub next : (list : List Expression) (i : ℕ) (e : Expression) → i < length list → e ≡ get_or list i e → expression_trees (drop i list) ≡ expression_then (expression_tree e) (expression_trees (drop (i + 1) list))
next list i e h is = rw add-one (ap expression_trees (drop-cons list i e h ∙ ap (λ x. x ∷ drop (suc i) list) (sym is)))

drop_past : (list : List Expression) (i : ℕ) → length list ≤ i → drop i list ≡ []
drop_past [] zero h = refl
drop_past [] (suc i) h = refl
drop_past (e ∷ es) zero h = absurd (omega (arith, h))
drop_past (e ∷ es) (suc i) h = drop_past es i (omega (arith, h))

pub at_end : (list : List Expression) (i : ℕ) → length list ≤ i → expression_trees (drop i list) ≡ no_expressions
at_end list i h = ap expression_trees (drop_past list i h)

-- one step
notes_step : (d : Names) (e : ExpressionTree) (es : ExpressionTrees) (s : Noted) → after_all d es (after_used d e s) ≡ after_all d (expression_then e es) s
unfolding failures_used calls_in_all
notes_step d e es s = same_noted _ _ _ _ (simp noted_append) (append_assoc s.calls (calls d e) (calls_in_all d es))

pub next_notes : (d : Names) (e : ExpressionTree) (now rest : ExpressionTrees) (s t all : Noted) → now ≡ expression_then e rest → after_all d now s ≡ all → t ≡ after_used d e s → after_all d rest t ≡ all
next_notes d e now rest s t all p q r = ap (after_all d rest) r ∙ (notes_step d e rest s ∙ (ap (λ es. after_all d es s) (sym p) ∙ q))

mentions_step : (d : Names) (e : ExpressionTree) (es : ExpressionTrees) (ms : List Mentioned) → (ms ++ mentions d e ∷ []) ++ mentions_of_each d es ≡ ms ++ mentions_of_each d (expression_then e es)
unfolding mentions_of_each
mentions_step d e es ms = append_assoc ms (mentions d e ∷ []) (mentions_of_each d es)

pub next_mentions : (d : Names) (n : ℕ) (e : ExpressionTree) (now rest : ExpressionTrees) (k : Known) (ms ns all : List Mentioned) → now ≡ expression_then e rest → ms ++ mentions_of_each d now ≡ all → k ≡ known d n e → ns ≡ ms ++ k.mentions ∷ [] → ns ++ mentions_of_each d rest ≡ all
next_mentions d n e now rest k ms ns all p q r h =
    ap (λ x. x ++ mentions_of_each d rest) (h ∙ ap (λ x. ms ++ x.mentions ∷ []) r) ∙ (mentions_step d e rest ms ∙ (ap (λ es. ms ++ mentions_of_each d es) (sym p) ∙ q))

appended_step : (vs : Option ValueTrees) (v : Option ValueTree) (ws : Option ValueTrees) → appended (with_last vs v) ws ≡ appended vs (of_both value_before v ws)
appended_step None None ws = refl
appended_step None (Some v) None = refl
appended_step None (Some v) (Some ws) = refl
appended_step (Some vs) None ws = refl
appended_step (Some vs) (Some v) None = refl
appended_step (Some vs) (Some v) (Some ws) = ap Some (append_values_assoc vs (value_before v no_values) ws)

values_step : (d : Names) (n : ℕ) (e : ExpressionTree) (es : ExpressionTrees) (vs : Option ValueTrees) → appended (with_last vs (value_of (typed d n e))) (typed_all d (n + length (calls d e)) es) ≡ appended vs (typed_all d n (expression_then e es))
unfolding typed_all
values_step d n e es vs = appended_step vs (value_of (typed d n e)) (typed_all d (n + length (calls d e)) es)

pub next_values : (d : Names) (e : ExpressionTree) (now rest : ExpressionTrees) (k : Known) (s t : Noted) (vs ws all : Option ValueTrees)
    → now ≡ expression_then e rest → appended vs (typed_all d (length s.calls) now) ≡ all → t ≡ after_used d e s → k ≡ known d (length s.calls) e → ws ≡ with_last vs (value_of k.tree) → appended ws (typed_all d (length t.calls) rest) ≡ all
next_values d e now rest k s t vs ws all p q r known_e h =
    let count : length t.calls ≡ length s.calls + length (calls d e) = ap (λ u. length u.calls) r ∙ length-append s.calls (calls d e) in
    ap (λ n. appended ws (typed_all d n rest)) count
    ∙ (ap (λ x. appended x (typed_all d (length s.calls + length (calls d e)) rest)) (h ∙ ap (λ x. with_last vs (value_of x.tree)) known_e)
    ∙ (values_step d (length s.calls) e rest vs ∙ (ap (λ es. appended vs (typed_all d (length s.calls) es)) (sym p) ∙ q)))

-- none more
pub end_notes : (d : Names) (now : ExpressionTrees) (s all : Noted) → now ≡ no_expressions → after_all d now s ≡ all → s ≡ all
unfolding failures_used calls_in_all
end_notes d now s all p q = same_noted _ _ _ _ refl (sym (append-nil s.calls)) ∙ (ap (λ es. after_all d es s) (sym p) ∙ q)

pub end_mentions : (d : Names) (now : ExpressionTrees) (ms all : List Mentioned) → now ≡ no_expressions → ms ++ mentions_of_each d now ≡ all → ms ≡ all
unfolding mentions_of_each
end_mentions d now ms all p q = sym (append-nil ms) ∙ (ap (λ es. ms ++ mentions_of_each d es) (sym p) ∙ q)

appended_none : (vs : Option ValueTrees) → appended vs (Some no_values) ≡ vs
appended_none None = refl
appended_none (Some vs) = ap Some (append_values_none vs)

pub end_values : (d : Names) (n : ℕ) (now : ExpressionTrees) (vs all : Option ValueTrees) → now ≡ no_expressions → appended vs (typed_all d n now) ≡ all → vs ≡ all
unfolding typed_all
end_values d n now vs all p q = sym (appended_none vs) ∙ (ap (λ es. appended vs (typed_all d n es)) (sym p) ∙ q)

-- none before
appended_before : (ws : Option ValueTrees) → appended (Some no_values) ws ≡ ws
appended_before None = refl
appended_before (Some ws) = refl

pub begin_values : (vs ws : Option ValueTrees) → vs ≡ Some no_values → appended vs ws ≡ ws
begin_values vs ws h = ap (λ x. appended x ws) h ∙ appended_before ws
