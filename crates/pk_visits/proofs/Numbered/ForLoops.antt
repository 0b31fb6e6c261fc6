-- Loops `for` and switches as a whole, returns, and all statements, whose variables are renamed: the lowering makes the same of them.
use Rattle.std.proofs.Common.{◌≡◌, ℕ, ◌+◌, List, length, Bool, if◌then◌else◌, refl, ap, ◌∙◌, ℤ}
use Rattle.std.specs.Prelude.{Option, Some, None}
use Rattle.pk_ctypes.specs.declared.places.Pos.{Pos}
use Rattle.pk_ctypes.specs.declared.types.IntType.{IntType}
use Rattle.pk_typed.specs.Trees.{ValueTree, EffectTree, ForStartTree, StatementTree, ItemTrees}
use Rattle.pk_typed.specs.Trees as tree
use Rattle.pk_typed.specs.Types.{type_of}
use Rattle.pk_lower_statement.specs.declared.statements.Exits.{Exits}
use Rattle.pk_graph.specs.declared.trees.Site.{Site}
use Rattle.pk_graph.specs.Trees.{Skip}
use Rattle.pk_draft.specs.Drafts.{DraftOf, Given, at, on, in_scope, fresh, go, away, come}
use Rattle.pk_lower_row.specs.declared.shapes.Waiting.TheVariants.{Strong}
use Rattle.pk_lower_row.specs.Shapes.{converted_shape}
use Rattle.pk_lower_row.specs.Contexts.{Context, site, own_result}
use Rattle.pk_lower_row.specs.Rows as rows
use Rattle.pk_lower_row.specs.Rows.{Ways, Operand, operand}
use Rattle.pk_lower_expression.specs.Expressions.{ways}
use Rattle.pk_lower_statement.specs.Statements as statements
use Rattle.pk_lower_statement.specs.Statements.{in_switch, case_tests, lowered, lowered_items}
use Rattle.pk_visits.proofs.Numbered.Names.{tree_by, draft_by, given_by, conversion_by, link_by, go_by, away_by, come_by, fresh_by}
use Rattle.pk_visits.proofs.Numbered.Rows.{Works, WaysBy, beside, held_by}
use Rattle.pk_visits.proofs.Numbered.Forms.{set_after_by}
use Rattle.pk_visits.proofs.Numbered.Expressions.{ways_by, performed_by}
use Rattle.pk_visits.proofs.Numbered.Statements.{declared_by, all_declared_by}
use Rattle.pk_visits.proofs.Numbered.Loops.{Does, begun_by, if_by, while_by, do_by}
use Rattle.pk_visits.proofs.Numbered.Switches.{for_from_by, case_tests_by}

-- ---- loops `for`

abbrev rest_of : {W : Type 0} → Pos → ((p q : ℕ) → DraftOf W → DraftOf W) → (DraftOf W → DraftOf W) → (Exits → DraftOf W → DraftOf W) → Exits → (scope e h : ℕ) → DraftOf W → DraftOf W
rest_of p t a s x k e h d = in_scope k (at e (statements.for_from p t a s x (h + 1) (h + 2) e d))

pub for_by : {V W : Type 0} (f : V → W) (p : Pos) (m : DraftOf V → DraftOf V) (n : DraftOf W → DraftOf W) (t : (p q : ℕ) → DraftOf V → DraftOf V) (u : (p q : ℕ) → DraftOf W → DraftOf W) (a : DraftOf V → DraftOf V) (b : DraftOf W → DraftOf W)
    (s : Exits → DraftOf V → DraftOf V) (r : Exits → DraftOf W → DraftOf W) (x : Exits)
    → Works f m n → ((p q : ℕ) → Works f (t p q) (u p q)) → Works f a b → Does f s r → Works f (statements.for_draft p m t a s x) (statements.for_draft p n u b r x)
for_by f p m n t u a b s r x first test third body d =
    let e = d.points in
    let g = on p (m (fresh 1 d)) in
    let h = g.points in
    ap (λ z. rest_of p u b r x d.here.scope e (on p (n z)).points (statements.loop_begun (on p (n z)))) (fresh_by f 1 d)
    ∙ ap (λ z. rest_of p u b r x d.here.scope e (on p z).points (statements.loop_begun (on p z))) (first (fresh 1 d))
    ∙ ap (rest_of p u b r x d.here.scope e h) (begun_by f g)
    ∙ ap (λ z. in_scope d.here.scope (at e z)) (for_from_by f p t u a b s r x (h + 1) (h + 2) e test third body (statements.loop_begun g))

-- ---- switches

pub tested_by : {V W : Type 0} (f : V → W) (t : IntType) (v : Operand V) (z : Ways W) → WaysBy f v.ways z → (d : DraftOf V) → statements.tested t (beside v z) (draft_by f d) ≡ given_by f (statements.tested t v d)
tested_by f t v z h d =
    let r = v.ways.value d in
    ap (λ k. rows.held Strong (converted_shape v.int_type t v.shape) t (rows.convert_after v.int_type t k)) (h.value d)
    ∙ ap (λ e. rows.held Strong (converted_shape v.int_type t v.shape) t (e, draft_by f r.1)) (conversion_by f v.int_type t r.0)
    ∙ held_by f Strong (converted_shape v.int_type t v.shape) t (rows.convert_after v.int_type t r)

pub switch_begun_by : {V W : Type 0} (f : V → W) (s : Site) (t : IntType) (zs : List ℤ) (b : Bool) (k : Given V) → statements.switch_begun s t zs b (given_by f k) ≡ draft_by f (statements.switch_begun s t zs b k)
switch_begun_by {V = V} {W = W} f s t zs b k =
    let e = k.1.points in
    let n = length zs in
    let q = if b then e + 1 + n else e in
    let d = fresh (1 + n + (if b then 1 else 0)) k.1 in
    ap (λ (y : DraftOf W). away q (case_tests s t (tree_by f k.0) zs (e + 1) y)) (fresh_by f (1 + n + (if b then 1 else 0)) k.1)
    ∙ ap (away q) (case_tests_by V W f s t k.0 zs (e + 1) d)
    ∙ away_by f q (case_tests s t k.0 zs (e + 1) d)

abbrev from_tested : {W : Type 0} → Site → IntType → List ℤ → Bool → (Exits → DraftOf W → DraftOf W) → Exits → Given W → DraftOf W
from_tested s t zs b body x k = go Skip k.1.points (body (in_switch k.1.points (length zs) x) (statements.switch_begun s t zs b k))

pub switch_by : {V W : Type 0} (f : V → W) (s : Site) (t : IntType) (v : Operand V) (z : Ways W) (zs : List ℤ) (b : Bool) (m : Exits → DraftOf V → DraftOf V) (n : Exits → DraftOf W → DraftOf W) (x : Exits)
    → WaysBy f v.ways z → Does f m n → Works f (statements.switch_draft s t v zs b m x) (statements.switch_draft s t (beside v z) zs b n x)
switch_by f s t v z zs b m n x h g d =
    let k = statements.tested t v d in
    let e = k.1.points in
    let y = in_switch e (length zs) x in
    let u = statements.switch_begun s t zs b k in
    ap (from_tested s t zs b n x) (tested_by f t v z h d)
    ∙ ap (λ w. go Skip e (n y w)) (switch_begun_by f s t zs b k)
    ∙ ap (go Skip e) (g y u)
    ∙ go_by f Skip e (m y u)

-- ---- the forms

returned_by : (V W : Type 0) (f : V → W) (c : Context) (left : ℕ) (r : Option IntType) (e : Option ValueTree) → Works f (statements.returned c left r e) (statements.returned c left r e)
returned_by V W f c left None None d = away_by f left d
returned_by V W f c left None (Some e) d = away_by f left d
returned_by V W f c left (Some t) None d = away_by f left d
returned_by V W f c left (Some t) (Some e) d =
    let r = (ways c e).value d in
    ap (λ k. away left (rows.set_after t (type_of e) (f (own_result c d)) k)) ((ways_by V W f c e).value d)
    ∙ ap (away left) (set_after_by f t (type_of e) (own_result c d) r)
    ∙ away_by f left (rows.set_after t (type_of e) (own_result c d) r)

performed_if_by : (V W : Type 0) (f : V → W) (c : Context) (e : Option EffectTree) → Works f (statements.performed_if c e) (statements.performed_if c e)
performed_if_by V W f c None d = refl
performed_if_by V W f c (Some e) d = performed_by V W f c e d

pub for_start_by : (V W : Type 0) (f : V → W) (c : Context) (s : ForStartTree) → Works f (statements.for_start c s) (statements.for_start c s)
for_start_by V W f c (tree.declarations xs) d = all_declared_by V W f c xs d
for_start_by V W f c (tree.expression e) d = performed_if_by V W f c e d

pub for_test_by : (V W : Type 0) (f : V → W) (c : Context) (e : Option ValueTree) (p q : ℕ) → Works f (statements.for_test c e p q) (statements.for_test c e p q)
for_test_by V W f c None p q d = link_by f Skip p d
for_test_by V W f c (Some e) p q d = (ways_by V W f c e).choice p q d

mutual
  unfolding lowered lowered_items

  pub lowered_by : (V W : Type 0) (f : V → W) (c : Context) (s : StatementTree) (x : Exits) → Works f (lowered c s x) (lowered c s x)
  lowered_by V W f c (tree.block p is) x d = ap (in_scope d.here.scope) (lowered_items_by V W f c is x d)
  lowered_by V W f c (tree.empty p) x d = refl
  lowered_by V W f c (tree.effect p e) x d = performed_by V W f c e (on p d)
  lowered_by V W f c (tree.label p l s) x d = ap (lowered c s x) (come_by f (x.labels + l) (on p d)) ∙ lowered_by V W f c s x (come (x.labels + l) (on p d))
  lowered_by V W f c (tree.case p i s) x d = ap (lowered c s x) (come_by f (x.cases + i) (on p d)) ∙ lowered_by V W f c s x (come (x.cases + i) (on p d))
  lowered_by V W f c (tree.default p s) x d = ap (lowered c s x) (come_by f x.otherwise (on p d)) ∙ lowered_by V W f c s x (come x.otherwise (on p d))
  lowered_by V W f c (tree.if_then p e s) x d = if_by f p (ways c e) (ways c e) (lowered c s x) (λ r. r) (lowered c s x) (λ r. r) (ways_by V W f c e) (lowered_by V W f c s x) (λ r. refl) d
  lowered_by V W f c (tree.if_else p e s r) x d = if_by f p (ways c e) (ways c e) (lowered c s x) (lowered c r x) (lowered c s x) (lowered c r x) (ways_by V W f c e) (lowered_by V W f c s x) (lowered_by V W f c r x) d
  lowered_by V W f c (tree.switch p t e zs b s) x d = switch_by f (site c p) t (operand e (ways c e)) (ways c e) zs b (lowered c s) (lowered c s) x (ways_by V W f c e) (λ y. lowered_by V W f c s y) (on p d)
  lowered_by V W f c (tree.while p e s) x d = while_by f (ways c e) (ways c e) (lowered c s) (lowered c s) x (ways_by V W f c e) (λ y. lowered_by V W f c s y) (on p d)
  lowered_by V W f c (tree.do_while p s e) x d = do_by f p (ways c e) (ways c e) (lowered c s) (lowered c s) x (ways_by V W f c e) (λ y. lowered_by V W f c s y) (on p d)
  lowered_by V W f c (tree.for_loop p start e third s) x d =
      for_by f p (statements.for_start c start) (statements.for_start c start) (statements.for_test c e) (statements.for_test c e) (statements.performed_if c third) (statements.performed_if c third) (lowered c s) (lowered c s) x
      (for_start_by V W f c start) (for_test_by V W f c e) (performed_if_by V W f c third) (λ y. lowered_by V W f c s y) (on p d)
  lowered_by V W f c (tree.goto p l) x d = away_by f (x.labels + l) (on p d)
  lowered_by V W f c (tree.continue p) x d = away_by f x.continued (on p d)
  lowered_by V W f c (tree.break p) x d = away_by f x.broken (on p d)
  lowered_by V W f c (tree.return p e) x d = returned_by V W f c x.left c.returns e (on p d)

  pub lowered_items_by : (V W : Type 0) (f : V → W) (c : Context) (is : ItemTrees) (x : Exits) → Works f (lowered_items c is x) (lowered_items c is x)
  lowered_items_by V W f c tree.no_items x d = refl
  lowered_items_by V W f c (tree.declared_before v is) x d = ap (lowered_items c is x) (declared_by V W f c v d) ∙ lowered_items_by V W f c is x (statements.declared c v d)
  lowered_items_by V W f c (tree.statement_before s is) x d = ap (lowered_items c is x) (lowered_by V W f c s x d) ∙ lowered_items_by V W f c is x (lowered c s x d)
