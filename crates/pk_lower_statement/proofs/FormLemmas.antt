-- Each form of declaration and statement by its row.
use Rattle.std.proofs.Common.{◌≡◌, ℕ, ◌+◌, List, [], ◌∷◌, Bool, refl}
use Rattle.std.specs.Prelude.{ℤ, Option}
use Rattle.pk_ctypes.specs.declared.places.Pos.{Pos}
use Rattle.pk_ctypes.specs.declared.types.IntType.{IntType}
use Rattle.pk_typed.specs.Trees.{ValueTree, EffectTree, ValueTrees, DeclaredTree, ForStartTree, StatementTree, ItemTrees}
use Rattle.pk_typed.specs.Trees as tree
use Rattle.pk_typed.specs.Types.{type_of}
use Rattle.pk_graph.specs.declared.trees.Site.{Site}
use Rattle.pk_graph.specs.Trees.{TreeOf}
use Rattle.pk_draft.specs.Drafts.{DraftOf, on, scoped, away, come}
use Rattle.pk_lower_row.specs.Contexts.{Context, site}
use Rattle.pk_lower_row.specs.Rows.{operand}
use Rattle.pk_lower_expression.specs.Expressions.{ways, performed}
use Rattle.pk_lower_statement.specs.declared.statements.Exits.{Exits}
use Rattle.pk_lower_statement.specs.Statements.{item, items, declared, all_declared, case_test, case_tests, if_draft, while_draft, do_draft, for_draft, switch_draft, returned, performed_if, for_start, for_test, lowered, lowered_items}

-- ---- lists

pub items_none : (c : Context) (i j : ℕ) (d : DraftOf ℕ) → items c i j tree.no_values d ≡ d
unfolding items
items_none c i j d = refl

pub items_before : (c : Context) (i j : ℕ) (e : ValueTree) (es : ValueTrees) (d : DraftOf ℕ) → items c i j (tree.value_before e es) d ≡ items c i (j + 1) es (item c i j (type_of e) (ways c e) d)
unfolding items
items_before c i j e es d = refl

pub declared_none : (c : Context) (d : DraftOf ℕ) → all_declared c [] d ≡ d
unfolding all_declared
declared_none c d = refl

pub declared_before : (c : Context) (x : DeclaredTree) (xs : List DeclaredTree) (d : DraftOf ℕ) → all_declared c (x ∷ xs) d ≡ all_declared c xs (declared c x d)
unfolding all_declared
declared_before c x xs d = refl

pub tests_none : (s : Site) (t : IntType) (r : TreeOf ℕ) (p : ℕ) (d : DraftOf ℕ) → case_tests s t r [] p d ≡ d
unfolding case_tests
tests_none s t r p d = refl

pub tests_before : (s : Site) (t : IntType) (r : TreeOf ℕ) (z : ℤ) (zs : List ℤ) (p : ℕ) (d : DraftOf ℕ) → case_tests s t r (z ∷ zs) p d ≡ case_tests s t r zs (p + 1) (case_test s t r z p d)
unfolding case_tests
tests_before s t r z zs p d = refl

pub lowered_none : (c : Context) (x : Exits) (d : DraftOf ℕ) → lowered_items c tree.no_items x d ≡ d
unfolding lowered_items
lowered_none c x d = refl

pub lowered_declared : (c : Context) (v : DeclaredTree) (is : ItemTrees) (x : Exits) (d : DraftOf ℕ) → lowered_items c (tree.declared_before v is) x d ≡ lowered_items c is x (declared c v d)
unfolding lowered_items
lowered_declared c v is x d = refl

pub lowered_statement : (c : Context) (s : StatementTree) (is : ItemTrees) (x : Exits) (d : DraftOf ℕ) → lowered_items c (tree.statement_before s is) x d ≡ lowered_items c is x (lowered c s x d)
unfolding lowered_items
lowered_statement c s is x d = refl

-- ---- statements

pub lowered_block : (c : Context) (p : Pos) (is : ItemTrees) (x : Exits) (d : DraftOf ℕ) → lowered c (tree.block p is) x d ≡ scoped (lowered_items c is x) d
unfolding lowered
lowered_block c p is x d = refl

pub lowered_empty : (c : Context) (p : Pos) (x : Exits) (d : DraftOf ℕ) → lowered c (tree.empty p) x d ≡ d
unfolding lowered
lowered_empty c p x d = refl

pub lowered_effect : (c : Context) (p : Pos) (e : EffectTree) (x : Exits) (d : DraftOf ℕ) → lowered c (tree.effect p e) x d ≡ performed c e (on p d)
unfolding lowered
lowered_effect c p e x d = refl

pub lowered_label : (c : Context) (p : Pos) (l : ℕ) (s : StatementTree) (x : Exits) (d : DraftOf ℕ) → lowered c (tree.label p l s) x d ≡ lowered c s x (come (x.labels + l) (on p d))
unfolding lowered
lowered_label c p l s x d = refl

pub lowered_case : (c : Context) (p : Pos) (i : ℕ) (s : StatementTree) (x : Exits) (d : DraftOf ℕ) → lowered c (tree.case p i s) x d ≡ lowered c s x (come (x.cases + i) (on p d))
unfolding lowered
lowered_case c p i s x d = refl

pub lowered_default : (c : Context) (p : Pos) (s : StatementTree) (x : Exits) (d : DraftOf ℕ) → lowered c (tree.default p s) x d ≡ lowered c s x (come x.otherwise (on p d))
unfolding lowered
lowered_default c p s x d = refl

pub lowered_if : (c : Context) (p : Pos) (e : ValueTree) (s : StatementTree) (x : Exits) (d : DraftOf ℕ) → lowered c (tree.if_then p e s) x d ≡ if_draft p (ways c e) (lowered c s x) (λ f. f) d
unfolding lowered
lowered_if c p e s x d = refl

pub lowered_if_else : (c : Context) (p : Pos) (e : ValueTree) (s r : StatementTree) (x : Exits) (d : DraftOf ℕ) → lowered c (tree.if_else p e s r) x d ≡ if_draft p (ways c e) (lowered c s x) (lowered c r x) d
unfolding lowered
lowered_if_else c p e s r x d = refl

pub lowered_switch : (c : Context) (p : Pos) (t : IntType) (e : ValueTree) (zs : List ℤ) (b : Bool) (s : StatementTree) (x : Exits) (d : DraftOf ℕ) → lowered c (tree.switch p t e zs b s) x d ≡ switch_draft (site c p) t (operand e (ways c e)) zs b (lowered c s) x (on p d)
unfolding lowered
lowered_switch c p t e zs b s x d = refl

pub lowered_while : (c : Context) (p : Pos) (e : ValueTree) (s : StatementTree) (x : Exits) (d : DraftOf ℕ) → lowered c (tree.while p e s) x d ≡ while_draft (ways c e) (lowered c s) x (on p d)
unfolding lowered
lowered_while c p e s x d = refl

pub lowered_do : (c : Context) (p : Pos) (s : StatementTree) (e : ValueTree) (x : Exits) (d : DraftOf ℕ) → lowered c (tree.do_while p s e) x d ≡ do_draft p (ways c e) (lowered c s) x (on p d)
unfolding lowered
lowered_do c p s e x d = refl

pub lowered_for : (c : Context) (p : Pos) (start : ForStartTree) (e : Option ValueTree) (third : Option EffectTree) (s : StatementTree) (x : Exits) (d : DraftOf ℕ) → lowered c (tree.for_loop p start e third s) x d ≡ for_draft p (for_start c start) (for_test c e) (performed_if c third) (lowered c s) x (on p d)
unfolding lowered
lowered_for c p start e third s x d = refl

pub lowered_goto : (c : Context) (p : Pos) (l : ℕ) (x : Exits) (d : DraftOf ℕ) → lowered c (tree.goto p l) x d ≡ away (x.labels + l) (on p d)
unfolding lowered
lowered_goto c p l x d = refl

pub lowered_continue : (c : Context) (p : Pos) (x : Exits) (d : DraftOf ℕ) → lowered c (tree.continue p) x d ≡ away x.continued (on p d)
unfolding lowered
lowered_continue c p x d = refl

pub lowered_break : (c : Context) (p : Pos) (x : Exits) (d : DraftOf ℕ) → lowered c (tree.break p) x d ≡ away x.broken (on p d)
unfolding lowered
lowered_break c p x d = refl

pub lowered_return : (c : Context) (p : Pos) (e : Option ValueTree) (x : Exits) (d : DraftOf ℕ) → lowered c (tree.return p e) x d ≡ returned c x.left c.returns e (on p d)
unfolding lowered
lowered_return c p e x d = refl
