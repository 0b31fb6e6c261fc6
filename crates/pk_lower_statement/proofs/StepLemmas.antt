-- Each form of declaration and statement from what its steps made.
use Rattle.std.proofs.Common.{◌≡◌, ◌<◌, ◌≤◌, ℕ, suc, ◌+◌, List, ◌∷◌, length, get_or, drop, Bool, refl, sym, ◌∙◌, ap, drop-cons, add-one}
use Rattle.std.specs.Prelude.{ℤ, Option}
use Rattle.std.proofs.lemmas.List.{drop_all}
use Rattle.pk_ctypes.specs.declared.places.Pos.{Pos}
use Rattle.pk_ctypes.specs.declared.types.IntType.{IntType}
use Rattle.pk_typed.specs.declared.values.Value.{Value}
use Rattle.pk_typed.specs.declared.statements.Declared.{Declared}
use Rattle.pk_typed.specs.declared.statements.Statement.{Statement}
use Rattle.pk_typed.specs.declared.statements.Item.{Item}
use Rattle.pk_typed.specs.declared.statements.Item.TheVariants as item
use Rattle.pk_typed.specs.Trees.{ValueTree, EffectTree, ForStartTree, StatementTree, ItemTrees}
use Rattle.pk_typed.specs.Trees as tree
use Rattle.pk_typed.specs.Types.{type_of}
use Rattle.pk_typed.specs.Views.{value_tree, value_trees, declared_tree, declared_trees, statement_tree, item_trees}
use Rattle.pk_graph.specs.declared.trees.Site.{Site}
use Rattle.pk_graph.specs.Trees.{TreeOf, InstrOf, Skip}
use Rattle.pk_draft.specs.Drafts.{DraftOf, Given, at, on, in_scope, go, away, come}
use Rattle.pk_lower_row.specs.Contexts.{Context, site}
use Rattle.pk_lower_row.specs.Rows.{Ways, Operand, operand}
use Rattle.pk_lower_expression.specs.Expressions.{ways, performed}
use Rattle.pk_lower_statement.specs.declared.statements.Exits.{Exits}
use Rattle.pk_lower_statement.specs.Statements as rows
use Rattle.pk_lower_statement.specs.Statements.{items, declared, all_declared, case_test, case_tests, branching, meeting, if_draft, while_draft, do_draft, for_draft, in_switch, switch_begun, switch_draft, tested, returned, performed_if, for_start, for_test, lowered, lowered_items}
use Rattle.pk_lower_statement.proofs.FormLemmas.{items_none, items_before, declared_none, declared_before, tests_none, tests_before, lowered_none, lowered_declared, lowered_statement, lowered_block, lowered_empty, lowered_effect, lowered_label, lowered_case, lowered_default, lowered_if, lowered_if_else, lowered_switch, lowered_while, lowered_do, lowered_for, lowered_goto, lowered_continue, lowered_break, lowered_return}

-- ---- lists

split : {A : Type 0} (xs : List A) (n : ℕ) (x : A) → n < length xs → x ≡ get_or xs n x → drop n xs ≡ x ∷ drop (n + 1) xs
split {A} xs n x lt at =
    drop-cons xs n x lt ∙ (ap (λ (z : A). z ∷ drop (suc n) xs) (sym at) ∙ ap (λ (m : ℕ). x ∷ drop m xs) (sym (add-one n)))

begins : (is : List Item) (n : ℕ) (i w : Item) → n < length is → i ≡ get_or is n i → i ≡ w → drop n is ≡ w ∷ drop (n + 1) is
begins is n i w lt at e = split is n i lt at ∙ ap (λ (z : Item). z ∷ drop (n + 1) is) e

pub items_next : (c : Context) (i n : ℕ) (vs : List Value) (v : Value) (d0 d1 : DraftOf ℕ)
    → n < length vs → v ≡ get_or vs n v → d1 ≡ rows.item c i n (type_of (value_tree v)) (ways c (value_tree v)) d0
    → items c i (n + 1) (value_trees (drop (n + 1) vs)) d1 ≡ items c i n (value_trees (drop n vs)) d0
items_next c i n vs v d0 d1 lt at e =
    ap (items c i (n + 1) (value_trees (drop (n + 1) vs))) e
    ∙ (sym (items_before c i n (value_tree v) (value_trees (drop (n + 1) vs)) d0)
    ∙ sym (ap (λ (l : List Value). items c i n (value_trees l) d0) (split vs n v lt at)))

pub items_end : (c : Context) (i n : ℕ) (vs : List Value) (d : DraftOf ℕ) → length vs ≤ n → d ≡ items c i n (value_trees (drop n vs)) d
items_end c i n vs d h = sym (ap (λ (l : List Value). items c i n (value_trees l) d) (drop_all n vs h) ∙ items_none c i n d)

pub declared_next : (c : Context) (n : ℕ) (xs : List Declared) (x : Declared) (d0 d1 : DraftOf ℕ)
    → n < length xs → x ≡ get_or xs n x → d1 ≡ declared c (declared_tree x) d0
    → all_declared c (declared_trees (drop (n + 1) xs)) d1 ≡ all_declared c (declared_trees (drop n xs)) d0
declared_next c n xs x d0 d1 lt at e =
    ap (all_declared c (declared_trees (drop (n + 1) xs))) e
    ∙ (sym (declared_before c (declared_tree x) (declared_trees (drop (n + 1) xs)) d0)
    ∙ sym (ap (λ (l : List Declared). all_declared c (declared_trees l) d0) (split xs n x lt at)))

pub declared_end : (c : Context) (n : ℕ) (xs : List Declared) (d : DraftOf ℕ) → length xs ≤ n → d ≡ all_declared c (declared_trees (drop n xs)) d
declared_end c n xs d h = sym (ap (λ (l : List Declared). all_declared c (declared_trees l) d) (drop_all n xs h) ∙ declared_none c d)

pub tests_next : (s : Site) (t : IntType) (r : TreeOf ℕ) (n p q : ℕ) (zs : List ℤ) (z : ℤ) (d0 d1 : DraftOf ℕ)
    → n < length zs → z ≡ get_or zs n z → q ≡ p + 1 → d1 ≡ case_test s t r z p d0
    → case_tests s t r (drop (n + 1) zs) q d1 ≡ case_tests s t r (drop n zs) p d0
tests_next s t r n p q zs z d0 d1 lt at step e =
    ap (λ (m : ℕ). case_tests s t r (drop (n + 1) zs) m d1) step
    ∙ (ap (case_tests s t r (drop (n + 1) zs) (p + 1)) e
    ∙ (sym (tests_before s t r z (drop (n + 1) zs) p d0)
    ∙ sym (ap (λ (l : List ℤ). case_tests s t r l p d0) (split zs n z lt at))))

pub tests_end : (s : Site) (t : IntType) (r : TreeOf ℕ) (n p : ℕ) (zs : List ℤ) (d : DraftOf ℕ) → length zs ≤ n → d ≡ case_tests s t r (drop n zs) p d
tests_end s t r n p zs d h = sym (ap (λ (l : List ℤ). case_tests s t r l p d) (drop_all n zs h) ∙ tests_none s t r p d)

pub next_declared : (c : Context) (n : ℕ) (is : List Item) (i : Item) (v : Declared) (x : Exits) (d0 d1 d2 : DraftOf ℕ)
    → n < length is → i ≡ get_or is n i → i ≡ item.Declared v → d1 ≡ declared c (declared_tree v) d0 → d2 ≡ d1
    → lowered_items c (item_trees (drop (n + 1) is)) x d2 ≡ lowered_items c (item_trees (drop n is)) x d0
next_declared c n is i v x d0 d1 d2 lt at e e1 e2 =
    ap (lowered_items c (item_trees (drop (n + 1) is)) x) (e2 ∙ e1)
    ∙ (sym (lowered_declared c (declared_tree v) (item_trees (drop (n + 1) is)) x d0)
    ∙ sym (ap (λ (l : List Item). lowered_items c (item_trees l) x d0) (begins is n i (item.Declared v) lt at e)))

pub next_statement : (c : Context) (n : ℕ) (is : List Item) (i : Item) (s : Statement) (x : Exits) (d0 d1 d2 : DraftOf ℕ)
    → n < length is → i ≡ get_or is n i → i ≡ item.Statement s → d1 ≡ lowered c (statement_tree s) x d0 → d2 ≡ d1
    → lowered_items c (item_trees (drop (n + 1) is)) x d2 ≡ lowered_items c (item_trees (drop n is)) x d0
next_statement c n is i s x d0 d1 d2 lt at e e1 e2 =
    ap (lowered_items c (item_trees (drop (n + 1) is)) x) (e2 ∙ e1)
    ∙ (sym (lowered_statement c (statement_tree s) (item_trees (drop (n + 1) is)) x d0)
    ∙ sym (ap (λ (l : List Item). lowered_items c (item_trees l) x d0) (begins is n i (item.Statement s) lt at e)))

pub items_done : (c : Context) (n : ℕ) (is : List Item) (x : Exits) (d : DraftOf ℕ) → length is ≤ n → d ≡ lowered_items c (item_trees (drop n is)) x d
items_done c n is x d h = sym (ap (λ (l : List Item). lowered_items c (item_trees l) x d) (drop_all n is h) ∙ lowered_none c x d)

-- ---- a switch

pub switch_is : (c : Context) (p : Pos) (s : Site) (t : IntType) (v : Operand ℕ) (zs : List ℤ) (b : Bool) (body : StatementTree) (x y : Exits) (e : ℕ) (i : InstrOf ℕ) (k : Given ℕ) (d0 d1 d2 d3 d4 : DraftOf ℕ)
    → s ≡ site c p → d1 ≡ d0 → k ≡ tested t v d1 → e ≡ k.1.points → d2 ≡ switch_begun s t zs b k → y ≡ in_switch e (length zs) x → d3 ≡ lowered c body y d2 → i ≡ Skip → d4 ≡ go i e d3
    → d4 ≡ switch_draft (site c p) t v zs b (lowered c body) x d0
switch_is c p s t v zs b body x y e i k d0 d1 d2 d3 d4 es e1 ek ee e2 ey e3 ei e4 =
    let g : (m : ℕ) → Site → Given ℕ → DraftOf ℕ = λ m z r. go Skip m (lowered c body (in_switch m (length zs) x) (switch_begun z t zs b r)) in
    e4 ∙ (ap (λ (j : InstrOf ℕ). go j e d3) ei
    ∙ (ap (go Skip e) (e3 ∙ (ap (λ (z : Exits). lowered c body z d2) ey ∙ ap (lowered c body (in_switch e (length zs) x)) e2))
    ∙ (ap (λ (m : ℕ). g m s k) ee ∙ (ap (λ (z : Site). g k.1.points z k) es ∙ ap (λ (r : Given ℕ). g r.1.points (site c p) r) (ek ∙ ap (tested t v) e1)))))

-- ---- statements

pub by_form : (c : Context) (s t : StatementTree) (x : Exits) (d e : DraftOf ℕ) → s ≡ t → e ≡ lowered c t x d → e ≡ lowered c s x d
by_form c s t x d e is h = h ∙ sym (ap (λ (r : StatementTree). lowered c r x d) is)

pub block_is : (c : Context) (s : StatementTree) (p : Pos) (is same : ItemTrees) (x : Exits) (k : ℕ) (d0 d1 d2 : DraftOf ℕ)
    → s ≡ tree.block p is → k ≡ d0.here.scope → same ≡ is → d1 ≡ lowered_items c same x d0 → d2 ≡ in_scope k d1 → d2 ≡ lowered c s x d0
block_is c s p is same x k d0 d1 d2 e ek ei e1 e2 =
    by_form c s (tree.block p is) x d0 d2 e
    (e2 ∙ (ap (in_scope k) (e1 ∙ ap (λ (l : ItemTrees). lowered_items c l x d0) ei) ∙ (ap (λ (l : ℕ). in_scope l (lowered_items c is x d0)) ek ∙ sym (lowered_block c p is x d0))))

pub empty_is : (c : Context) (s : StatementTree) (p : Pos) (x : Exits) (d : DraftOf ℕ) → s ≡ tree.empty p → d ≡ lowered c s x d
empty_is c s p x d e = by_form c s (tree.empty p) x d d e (sym (lowered_empty c p x d))

pub effect_is : (c : Context) (s : StatementTree) (p : Pos) (f : EffectTree) (x : Exits) (d0 d1 d2 : DraftOf ℕ)
    → s ≡ tree.effect p f → d1 ≡ on p d0 → d2 ≡ performed c f d1 → d2 ≡ lowered c s x d0
effect_is c s p f x d0 d1 d2 e e1 e2 =
    by_form c s (tree.effect p f) x d0 d2 e (e2 ∙ (ap (performed c f) e1 ∙ sym (lowered_effect c p f x d0)))

come_on : (c : Context) (b same : StatementTree) (p : Pos) (x : Exits) (q to : ℕ) (d0 d1 d2 d3 : DraftOf ℕ)
    → d1 ≡ on p d0 → q ≡ to → d2 ≡ come q d1 → same ≡ b → d3 ≡ lowered c same x d2 → d3 ≡ lowered c b x (come to (on p d0))
come_on c b same p x q to d0 d1 d2 d3 e1 eq e2 eb e3 =
    e3 ∙ (ap (λ (r : StatementTree). lowered c r x d2) eb ∙ ap (lowered c b x) (e2 ∙ (ap (come q) e1 ∙ ap (λ (m : ℕ). come m (on p d0)) eq)))

pub label_is : (c : Context) (s : StatementTree) (p : Pos) (l : ℕ) (b same : StatementTree) (x : Exits) (q : ℕ) (d0 d1 d2 d3 : DraftOf ℕ)
    → s ≡ tree.label p l b → d1 ≡ on p d0 → q ≡ x.labels + l → d2 ≡ come q d1 → same ≡ b → d3 ≡ lowered c same x d2 → d3 ≡ lowered c s x d0
label_is c s p l b same x q d0 d1 d2 d3 e e1 eq e2 eb e3 =
    by_form c s (tree.label p l b) x d0 d3 e (come_on c b same p x q (x.labels + l) d0 d1 d2 d3 e1 eq e2 eb e3 ∙ sym (lowered_label c p l b x d0))

pub case_is : (c : Context) (s : StatementTree) (p : Pos) (i : ℕ) (b same : StatementTree) (x : Exits) (q : ℕ) (d0 d1 d2 d3 : DraftOf ℕ)
    → s ≡ tree.case p i b → d1 ≡ on p d0 → q ≡ x.cases + i → d2 ≡ come q d1 → same ≡ b → d3 ≡ lowered c same x d2 → d3 ≡ lowered c s x d0
case_is c s p i b same x q d0 d1 d2 d3 e e1 eq e2 eb e3 =
    by_form c s (tree.case p i b) x d0 d3 e (come_on c b same p x q (x.cases + i) d0 d1 d2 d3 e1 eq e2 eb e3 ∙ sym (lowered_case c p i b x d0))

pub default_is : (c : Context) (s : StatementTree) (p : Pos) (b same : StatementTree) (x : Exits) (d0 d1 d2 d3 : DraftOf ℕ)
    → s ≡ tree.default p b → d1 ≡ on p d0 → d2 ≡ come x.otherwise d1 → same ≡ b → d3 ≡ lowered c same x d2 → d3 ≡ lowered c s x d0
default_is c s p b same x d0 d1 d2 d3 e e1 e2 eb e3 =
    by_form c s (tree.default p b) x d0 d3 e (come_on c b same p x x.otherwise x.otherwise d0 d1 d2 d3 e1 refl e2 eb e3 ∙ sym (lowered_default c p b x d0))

-- both branches meet; without a second one r does nothing
both_branches : (p : Pos) (w : Ways ℕ) (a r : DraftOf ℕ → DraftOf ℕ) (n m : ℕ) (d0 d1 d2 d3 d4 d5 : DraftOf ℕ)
    → d1 ≡ branching p w d0 → n ≡ d0.points → d2 ≡ a d1 → m ≡ d2.point → d3 ≡ at (n + 1) d2 → d4 ≡ r d3 → d5 ≡ meeting p m d4 → d5 ≡ if_draft p w a r d0
both_branches p w a r n m d0 d1 d2 d3 d4 d5 e1 en e2 em e3 e4 e5 =
    let g : ℕ → DraftOf ℕ → DraftOf ℕ = λ l t. meeting p t.point (r (at (l + 1) t)) in
    e5 ∙ (ap (meeting p m) (e4 ∙ ap r e3)
    ∙ (ap (λ (k : ℕ). meeting p k (r (at (n + 1) d2))) em
    ∙ (ap (g n) (e2 ∙ ap a e1) ∙ ap (λ (l : ℕ). g l (a (branching p w d0))) en)))

pub if_is : (c : Context) (s : StatementTree) (p : Pos) (v : ValueTree) (b same : StatementTree) (x : Exits) (n m : ℕ) (d0 d1 d2 d3 d4 : DraftOf ℕ)
    → s ≡ tree.if_then p v b → d1 ≡ branching p (ways c v) d0 → n ≡ d0.points → same ≡ b → d2 ≡ lowered c same x d1 → m ≡ d2.point → d3 ≡ at (n + 1) d2 → d4 ≡ meeting p m d3 → d4 ≡ lowered c s x d0
if_is c s p v b same x n m d0 d1 d2 d3 d4 e e1 en eb e2 em e3 e4 =
    by_form c s (tree.if_then p v b) x d0 d4 e
    (both_branches p (ways c v) (lowered c b x) (λ f. f) n m d0 d1 d2 d3 d3 d4 e1 en (e2 ∙ ap (λ (r : StatementTree). lowered c r x d1) eb) em e3 refl e4
    ∙ sym (lowered_if c p v b x d0))

pub if_else_is : (c : Context) (s : StatementTree) (p : Pos) (v : ValueTree) (a b same other : StatementTree) (x : Exits) (n m : ℕ) (d0 d1 d2 d3 d4 d5 : DraftOf ℕ)
    → s ≡ tree.if_else p v a b → d1 ≡ branching p (ways c v) d0 → n ≡ d0.points → same ≡ a → d2 ≡ lowered c same x d1 → m ≡ d2.point → d3 ≡ at (n + 1) d2 → other ≡ b → d4 ≡ lowered c other x d3 → d5 ≡ meeting p m d4
    → d5 ≡ lowered c s x d0
if_else_is c s p v a b same other x n m d0 d1 d2 d3 d4 d5 e e1 en ea e2 em e3 eb e4 e5 =
    by_form c s (tree.if_else p v a b) x d0 d5 e
    (both_branches p (ways c v) (lowered c a x) (lowered c b x) n m d0 d1 d2 d3 d4 d5 e1 en (e2 ∙ ap (λ (r : StatementTree). lowered c r x d1) ea) em e3 (e4 ∙ ap (λ (r : StatementTree). lowered c r x d3) eb) e5
    ∙ sym (lowered_if_else c p v a b x d0))

away_on : (p : Pos) (q to : ℕ) (d0 d1 d2 : DraftOf ℕ) → d1 ≡ on p d0 → q ≡ to → d2 ≡ away q d1 → d2 ≡ away to (on p d0)
away_on p q to d0 d1 d2 e1 eq e2 = e2 ∙ (ap (away q) e1 ∙ ap (λ (m : ℕ). away m (on p d0)) eq)

pub goto_is : (c : Context) (s : StatementTree) (p : Pos) (l : ℕ) (x : Exits) (q : ℕ) (d0 d1 d2 : DraftOf ℕ)
    → s ≡ tree.goto p l → d1 ≡ on p d0 → q ≡ x.labels + l → d2 ≡ away q d1 → d2 ≡ lowered c s x d0
goto_is c s p l x q d0 d1 d2 e e1 eq e2 = by_form c s (tree.goto p l) x d0 d2 e (away_on p q (x.labels + l) d0 d1 d2 e1 eq e2 ∙ sym (lowered_goto c p l x d0))

pub continue_is : (c : Context) (s : StatementTree) (p : Pos) (x : Exits) (d0 d1 d2 : DraftOf ℕ)
    → s ≡ tree.continue p → d1 ≡ on p d0 → d2 ≡ away x.continued d1 → d2 ≡ lowered c s x d0
continue_is c s p x d0 d1 d2 e e1 e2 = by_form c s (tree.continue p) x d0 d2 e (away_on p x.continued x.continued d0 d1 d2 e1 refl e2 ∙ sym (lowered_continue c p x d0))

pub break_is : (c : Context) (s : StatementTree) (p : Pos) (x : Exits) (d0 d1 d2 : DraftOf ℕ)
    → s ≡ tree.break p → d1 ≡ on p d0 → d2 ≡ away x.broken d1 → d2 ≡ lowered c s x d0
break_is c s p x d0 d1 d2 e e1 e2 = by_form c s (tree.break p) x d0 d2 e (away_on p x.broken x.broken d0 d1 d2 e1 refl e2 ∙ sym (lowered_break c p x d0))

pub return_is : (c : Context) (s : StatementTree) (p : Pos) (v : Option ValueTree) (x : Exits) (d0 d1 d2 : DraftOf ℕ)
    → s ≡ tree.return p v → d1 ≡ on p d0 → d2 ≡ returned c x.left c.returns v d1 → d2 ≡ lowered c s x d0
return_is c s p v x d0 d1 d2 e e1 e2 = by_form c s (tree.return p v) x d0 d2 e (e2 ∙ (ap (returned c x.left c.returns v) e1 ∙ sym (lowered_return c p v x d0)))

pub switch_form : (c : Context) (s : StatementTree) (p : Pos) (t : IntType) (v : ValueTree) (zs ys : List ℤ) (b : Bool) (body same : StatementTree) (x : Exits) (d0 d1 : DraftOf ℕ)
    → s ≡ tree.switch p t v zs b body → ys ≡ zs → same ≡ body → d1 ≡ switch_draft (site c p) t (operand v (ways c v)) ys b (lowered c same) x (on p d0) → d1 ≡ lowered c s x d0
switch_form c s p t v zs ys b body same x d0 d1 e ez eb e1 =
    by_form c s (tree.switch p t v zs b body) x d0 d1 e
    (e1 ∙ (ap (λ (l : List ℤ). switch_draft (site c p) t (operand v (ways c v)) l b (lowered c same) x (on p d0)) ez
    ∙ (ap (λ (r : StatementTree). switch_draft (site c p) t (operand v (ways c v)) zs b (lowered c r) x (on p d0)) eb ∙ sym (lowered_switch c p t v zs b body x d0))))

pub while_form : (c : Context) (s : StatementTree) (p : Pos) (v : ValueTree) (body same : StatementTree) (x : Exits) (d0 d1 : DraftOf ℕ)
    → s ≡ tree.while p v body → same ≡ body → d1 ≡ while_draft (ways c v) (lowered c same) x (on p d0) → d1 ≡ lowered c s x d0
while_form c s p v body same x d0 d1 e eb e1 =
    by_form c s (tree.while p v body) x d0 d1 e
    (e1 ∙ (ap (λ (r : StatementTree). while_draft (ways c v) (lowered c r) x (on p d0)) eb ∙ sym (lowered_while c p v body x d0)))

pub do_form : (c : Context) (s : StatementTree) (p : Pos) (body same : StatementTree) (v : ValueTree) (x : Exits) (d0 d1 : DraftOf ℕ)
    → s ≡ tree.do_while p body v → same ≡ body → d1 ≡ do_draft p (ways c v) (lowered c same) x (on p d0) → d1 ≡ lowered c s x d0
do_form c s p body same v x d0 d1 e eb e1 =
    by_form c s (tree.do_while p body v) x d0 d1 e
    (e1 ∙ (ap (λ (r : StatementTree). do_draft p (ways c v) (lowered c r) x (on p d0)) eb ∙ sym (lowered_do c p body v x d0)))

pub for_form : (c : Context) (s : StatementTree) (p : Pos) (start : ForStartTree) (test : Option ValueTree) (third : Option EffectTree) (body : StatementTree) (x : Exits) (d0 d1 : DraftOf ℕ)
    → s ≡ tree.for_loop p start test third body → d1 ≡ for_draft p (for_start c start) (for_test c test) (performed_if c third) (lowered c body) x (on p d0) → d1 ≡ lowered c s x d0
for_form c s p start test third body x d0 d1 e e1 = by_form c s (tree.for_loop p start test third body) x d0 d1 e (e1 ∙ sym (lowered_for c p start test third body x d0))
