-- The values of an initialiser, item by item.
use Rattle.std.proofs.Common.{◌≡◌, ℕ, ◌+◌, List, [], ◌∷◌, ◌++◌, Option, Some, None, option_map, length, length-append, append_assoc, append-nil, refl, ap, sym, ◌∙◌, arith, Vec, Global}
use Rattle.std.specs.declared.boxed.Box.{Box}
use Rattle.pk_ast.specs.Trees.{ExpressionTree, ExpressionTrees, no_expressions, expression_then, InitializerItemTree, item_value}
use Rattle.pk_typed.specs.declared.units.CallSite.{CallSite}
use Rattle.pk_typed.specs.declared.values.Value.{Value}
use Rattle.pk_typed.specs.Trees.{ValueTrees, no_values, value_before}
use Rattle.pk_typed.specs.Views.{value_tree, value_trees, optional_values}
use Rattle.pk_type_scope.specs.declared.failures.Failure.{Failure}
use Rattle.pk_type_scope.specs.Declarations.{Names}
use Rattle.pk_type_scope.specs.Failures.{noted}
use Rattle.pk_type_scope.proofs.FailureLemmas.{noted_append}
use Rattle.pk_type_expression.specs.Forms.{append_values}
use Rattle.pk_type_expression.specs.Rules.{failures, void, used_failures, failures_used}
use Rattle.pk_type_expression.specs.Typed.{of_both, value_of, typed, typed_all, calls, calls_in_all}
use Rattle.pk_type_expression.proofs.ListLemmas.{append_values_assoc}
use Rattle.pk_type_expression.proofs.WalkLemmas.{appended, end_values}
use Rattle.pk_type_declaration.specs.Initializers.{followed_by, item_values, items_values}
use Rattle.pk_type_declaration.specs.Parts.{joined}
use Rattle.pk_type_declaration.specs.Walks.{Walked, here, after_value, after_values, value_at, values_at}
use Rattle.pk_type_declaration.specs.Rules.{noting}

abbrev State : Type 0
State = Walked (Option Failure)

-- what is found, called and typed in expressions, and in others behind them
pub failures_followed : (d : Names) (es fs : ExpressionTrees) → failures_used d (followed_by es fs) ≡ failures_used d es ++ failures_used d fs
unfolding failures_used
failures_followed d no_expressions fs = refl
failures_followed d (expression_then e es) fs =
    ap (λ x. (failures d e ++ void d e) ++ x) (failures_followed d es fs) ∙ sym (append_assoc (failures d e ++ void d e) (failures_used d es) (failures_used d fs))

pub calls_followed : (d : Names) (es fs : ExpressionTrees) → calls_in_all d (followed_by es fs) ≡ calls_in_all d es ++ calls_in_all d fs
unfolding calls_in_all
calls_followed d no_expressions fs = refl
calls_followed d (expression_then e es) fs =
    ap (λ x. calls d e ++ x) (calls_followed d es fs) ∙ sym (append_assoc (calls d e) (calls_in_all d es) (calls_in_all d fs))

appended_before : (ws : Option ValueTrees) → ws ≡ appended (Some no_values) ws
appended_before None = refl
appended_before (Some ws) = refl

appended_assoc : (a b c : Option ValueTrees) → appended (appended a b) c ≡ appended a (appended b c)
appended_assoc None b c = refl
appended_assoc (Some a) None c = refl
appended_assoc (Some a) (Some b) None = refl
appended_assoc (Some a) (Some b) (Some c) = ap Some (append_values_assoc a b c)

-- values, and others, behind one
behind_one : {V : Type 0} (f : V → ValueTrees → ValueTrees) → ((v : V) (vs ws : ValueTrees) → f v (append_values vs ws) ≡ append_values (f v vs) ws)
    → (v : Option V) (vs ws : Option ValueTrees) → of_both f v (appended vs ws) ≡ appended (of_both f v vs) ws
behind_one f h None vs ws = refl
behind_one f h (Some v) None ws = refl
behind_one f h (Some v) (Some vs) None = refl
behind_one f h (Some v) (Some vs) (Some ws) = ap Some (h v vs ws)

pub typed_followed : (d : Names) (n : ℕ) (es fs : ExpressionTrees) → typed_all d n (followed_by es fs) ≡ appended (typed_all d n es) (typed_all d (n + length (calls_in_all d es)) fs)
unfolding typed_all calls_in_all
typed_followed d n no_expressions fs =
    ap (λ m. typed_all d m fs) (let z : n ≡ n + 0 = omega arith in z) ∙ appended_before (typed_all d (n + 0) fs)
typed_followed d n (expression_then e es) fs =
    let m = n + length (calls d e) in
    let count : m + length (calls_in_all d es) ≡ n + length (calls d e ++ calls_in_all d es) =
    let h : length (calls d e ++ calls_in_all d es) ≡ length (calls d e) + length (calls_in_all d es) = length-append (calls d e) (calls_in_all d es) in omega (arith, h)
    in
    ap (of_both value_before (value_of (typed d n e))) (typed_followed d m es fs ∙ ap (λ k. appended (typed_all d m es) (typed_all d k fs)) count)
    ∙ behind_one value_before (λ v vs ws. refl) (value_of (typed d n e)) (typed_all d m es) (typed_all d (n + length (calls d e ++ calls_in_all d es)) fs)

-- two states at the same place
same_state : (w : State) (f g : Option Failure) (c e : List CallSite) → f ≡ g → c ≡ e → ◌≡◌ {A = State} (record { scoping = w.scoping; found = f; calls = c; locals = w.locals; statics = w.statics }) (record { scoping = w.scoping; found = g; calls = e; locals = w.locals; statics = w.statics })
same_state w f g c e p q =
    ap (λ x. record { scoping = w.scoping; found = x; calls = c; locals = w.locals; statics = w.statics }) p
    ∙ ap (λ x. record { scoping = w.scoping; found = g; calls = x; locals = w.locals; statics = w.statics }) q

pub walked_followed : (es fs : ExpressionTrees) (w : State) → after_values noting (followed_by es fs) w ≡ after_values noting fs (after_values noting es w)
walked_followed es fs w =
    same_state w _ _ _ _ (ap (noted w.found) (failures_followed (here w) es fs) ∙ noted_append w.found (failures_used (here w) es) (failures_used (here w) fs))
    (ap (λ x. w.calls ++ x) (calls_followed (here w) es fs) ∙ sym (append_assoc w.calls (calls_in_all (here w) es) (calls_in_all (here w) fs)))

pub values_followed : (es fs : ExpressionTrees) (w : State) → values_at w (followed_by es fs) ≡ appended (values_at w es) (values_at (after_values noting es w) fs)
values_followed es fs w =
    typed_followed (here w) (length w.calls) es fs
    ∙ ap (λ n. appended (values_at w es) (typed_all (here w) n fs)) (sym (length-append w.calls (calls_in_all (here w) es)))

-- one value
pub walked_alone : (e : ExpressionTree) (w v : State) → v ≡ after_value noting e w → v ≡ after_values noting (expression_then e no_expressions) w
unfolding failures_used calls_in_all
walked_alone e w v h =
    h ∙ same_state w _ _ _ _ (ap (noted w.found) (sym (append-nil (used_failures (here w) e)))) (ap (λ x. w.calls ++ x) (sym (append-nil (calls (here w) e))))

-- a row
pub walked_row : (e : ExpressionTree) (es : ExpressionTrees) (w v u : State) → v ≡ after_value noting e w → u ≡ after_values noting es v → u ≡ after_values noting (expression_then e es) w
unfolding failures_used calls_in_all
walked_row e es w v u p q =
    q ∙ (ap (after_values noting es) p
    ∙ same_state w _ _ _ _ (sym (noted_append w.found (used_failures (here w) e) (failures_used (here w) es))) (append_assoc w.calls (calls (here w) e) (calls_in_all (here w) es)))

-- lists of values, as they lie in memory
abbrev pub Values : Type 0
Values = Option (Vec Value Global)

abbrev pub items_of : Values → Option (List Value)
items_of = option_map (λ v. v.items)

trees_append : (xs ys : List Value) → value_trees (xs ++ ys) ≡ append_values (value_trees xs) (value_trees ys)
trees_append [] ys = refl
trees_append (x ∷ xs) ys = ap (value_before (value_tree x)) (trees_append xs ys)

of_items : (vs : Values) → optional_values vs ≡ option_map value_trees (items_of vs)
of_items None = refl
of_items (Some vs) = refl

joined_trees : (xs ys : Option (List Value)) → option_map value_trees (joined xs ys) ≡ appended (option_map value_trees xs) (option_map value_trees ys)
joined_trees None ys = refl
joined_trees (Some xs) None = refl
joined_trees (Some xs) (Some ys) = ap Some (trees_append xs ys)

pub trees_together : (vs xs ys : Values) → items_of vs ≡ joined (items_of xs) (items_of ys) → optional_values vs ≡ appended (optional_values xs) (optional_values ys)
trees_together vs xs ys h =
    of_items vs ∙ (ap (option_map value_trees) h ∙ (joined_trees (items_of xs) (items_of ys)
    ∙ (ap (λ t. appended t (option_map value_trees (items_of ys))) (sym (of_items xs)) ∙ ap (appended (optional_values xs)) (sym (of_items ys)))))

-- items one by one
pub items_walked : (i : InitializerItemTree) (now rest : List InitializerItemTree) (w v all : State) → now ≡ i ∷ rest → v ≡ after_values noting (item_values i) w → after_values noting (items_values now) w ≡ all → after_values noting (items_values rest) v ≡ all
items_walked i now rest w v all p q h =
    ap (after_values noting (items_values rest)) q ∙ (sym (walked_followed (item_values i) (items_values rest) w) ∙ (ap (λ is. after_values noting (items_values is) w) (sym p) ∙ h))

pub items_ended : (now : List InitializerItemTree) (w all : State) → now ≡ [] → after_values noting (items_values now) w ≡ all → w ≡ all
unfolding failures_used calls_in_all
items_ended now w all p h = same_state w _ _ _ _ refl (sym (append-nil w.calls)) ∙ (ap (λ is. after_values noting (items_values is) w) (sym p) ∙ h)

pub items_typed : (i : InitializerItemTree) (now rest : List InitializerItemTree) (w v : State) (vs is us all : Option ValueTrees) → now ≡ i ∷ rest → v ≡ after_values noting (item_values i) w → is ≡ values_at w (item_values i) → us ≡ appended vs is
    → appended vs (values_at w (items_values now)) ≡ all → appended us (values_at v (items_values rest)) ≡ all
items_typed i now rest w v vs is us all p q r s h =
    ap (λ x. appended us (values_at x (items_values rest))) q
    ∙ (ap (λ x. appended x (values_at (after_values noting (item_values i) w) (items_values rest))) (s ∙ ap (appended vs) r)
    ∙ (appended_assoc vs (values_at w (item_values i)) (values_at (after_values noting (item_values i) w) (items_values rest))
    ∙ (ap (appended vs) (sym (values_followed (item_values i) (items_values rest) w))
    ∙ (ap (λ x. appended vs (values_at w (items_values x))) (sym p) ∙ h))))

pub items_done : (now : List InitializerItemTree) (w : State) (vs all : Option ValueTrees) → now ≡ [] → appended vs (values_at w (items_values now)) ≡ all → vs ≡ all
items_done now w vs all p h = end_values (here w) (length w.calls) (items_values now) vs all (ap items_values p) h

-- the first item, then the others
pub all_walked : (i : InitializerItemTree) (is : List InitializerItemTree) (w v u : State) → v ≡ after_values noting (item_values i) w → u ≡ after_values noting (items_values is) v → u ≡ after_values noting (items_values (i ∷ is)) w
all_walked i is w v u p q = q ∙ (ap (after_values noting (items_values is)) p ∙ sym (walked_followed (item_values i) (items_values is) w))

pub all_typed : (i : InitializerItemTree) (is : List InitializerItemTree) (w v : State) (xs ys vs : Option ValueTrees) → v ≡ after_values noting (item_values i) w → xs ≡ values_at w (item_values i) → ys ≡ values_at v (items_values is) → vs ≡ appended xs ys
    → vs ≡ values_at w (items_values (i ∷ is))
all_typed i is w v xs ys vs p q r h =
    h ∙ (ap (λ x. appended x ys) q ∙ (ap (appended (values_at w (item_values i))) (r ∙ ap (λ x. values_at x (items_values is)) p) ∙ sym (values_followed (item_values i) (items_values is) w)))

-- one value, in a list of its own
pub value_alone : (vs : Values) (b : Option (Box Value Global)) → items_of vs ≡ option_map (λ x. x.value ∷ []) b → optional_values vs ≡ of_both value_before (option_map (λ x. value_tree x.value) b) (Some no_values)
value_alone vs None h = of_items vs ∙ ap (option_map value_trees) h
value_alone vs (Some b) h = of_items vs ∙ ap (option_map value_trees) h

-- a value, and others behind it
pub row_typed : (e : ExpressionTree) (es : ExpressionTrees) (w v : State) (b : Option (Box Value Global)) (xs ys vs : Values) → v ≡ after_value noting e w → option_map (λ x. value_tree x.value) b ≡ value_at w e → items_of xs ≡ option_map (λ x. x.value ∷ []) b
    → optional_values ys ≡ values_at v es → items_of vs ≡ joined (items_of xs) (items_of ys) → optional_values vs ≡ values_at w (expression_then e es)
unfolding typed_all
row_typed e es w v b xs ys vs p q r s h =
    let d : Names = here w in
    let first : optional_values xs ≡ of_both value_before (value_at w e) (Some no_values) = value_alone xs b r ∙ ap (λ x. of_both value_before x (Some no_values)) q in
    let more : optional_values ys ≡ typed_all d (length w.calls + length (calls d e)) es = s ∙ (ap (λ x. values_at x es) p ∙ ap (λ n. typed_all d n es) (length-append w.calls (calls d e))) in
    trees_together vs xs ys h
    ∙ (ap (λ x. appended x (optional_values ys)) first
    ∙ (ap (appended (of_both value_before (value_at w e) (Some no_values))) more
    ∙ (sym (behind_one value_before (λ x y z. refl) (value_at w e) (Some no_values) (typed_all d (length w.calls + length (calls d e)) es))
    ∙ ap (of_both value_before (value_at w e)) (sym (appended_before (typed_all d (length w.calls + length (calls d e)) es))))))

-- an item that is a value
pub value_walked : (i : InitializerItemTree) (e : ExpressionTree) (w v : State) → i ≡ item_value e → v ≡ after_value noting e w → v ≡ after_values noting (item_values i) w
value_walked i e w v is h = walked_alone e w v h ∙ ap (λ x. after_values noting (item_values x) w) (sym is)

pub value_typed : (i : InitializerItemTree) (e : ExpressionTree) (w : State) (b : Option (Box Value Global)) (vs : Values) → i ≡ item_value e → option_map (λ x. value_tree x.value) b ≡ value_at w e → items_of vs ≡ option_map (λ x. x.value ∷ []) b → optional_values vs ≡ values_at w (item_values i)
unfolding typed_all
value_typed i e w b vs is q r =
    value_alone vs b r ∙ (ap (λ x. of_both value_before x (Some no_values)) q ∙ ap (λ x. values_at w (item_values x)) (sym is))
