-- Statements in which no rule fails have typed trees.
use Rattle.std.proofs.Common.{◌≡◌, ℕ, Bool, true, false, not, List, [], ◌∷◌, ◌++◌, Option, Some, None, length, refl, ap, sym, subst, ◌∙◌, if◌then◌else◌}
use Rattle.std.proofs.lemmas.Bool.{false≢true}
use Rattle.std.specs.Prelude.{is_some, ◌||◌}
use Rattle.std.specs.Option.{option_map}
use Rattle.pk_ctypes.specs.declared.places.Pos.{Pos}
use Rattle.pk_ctypes.specs.declared.types.IntType.{IntType}
use Rattle.pk_ctypes.specs.declared.words.Rule.TheVariants as rule
use Rattle.pk_ctypes.specs.Conversions.{promoted}
use Rattle.pk_ctypes.specs.Types.{wrapped}
use Rattle.pk_ast.specs.declared.expressions.Identifier.{Identifier}
use Rattle.pk_ast.specs.Places.{first_place_of}
use Rattle.pk_ast.specs.Trees as ast
use Rattle.pk_ast.specs.Trees.{ExpressionTree, ForStartTree, declaration, expression, StatementTree, ItemTrees, no_items, declaration_then, statement_then}
use Rattle.pk_typed.specs.Trees as tree
use Rattle.pk_type_scope.specs.declared.declarations.Typing.{Typing}
use Rattle.pk_type_scope.specs.declared.declarations.Typing.TheVariants.{Void, Integer, Unknown}
use Rattle.pk_type_scope.specs.declared.failures.Failure.{Failure}
use Rattle.pk_type_scope.specs.Failures.{fails_if, noted}
use Rattle.pk_type_scope.specs.Scopes.{Scoping, spelled}
use Rattle.pk_type_expression.specs.Rules.{failures, used_failures}
use Rattle.pk_type_expression.specs.Typed as expressions
use Rattle.pk_type_expression.specs.Typed.{EvaluatedTree, value, effect, value_of}
use Rattle.pk_type_expression.specs.Types.{type_of}
use Rattle.pk_type_constant.specs.declared.constants.Constant.{Constant}
use Rattle.pk_type_constant.specs.declared.constants.Constant.TheVariants.{Number, Faulty, NotConstant}
use Rattle.pk_type_constant.specs.Forms.{is_constant_form}
use Rattle.pk_type_declaration.specs.Constants.{given_by, evaluated, is_faulty, is_refused, number_of, number_in, after_constant}
use Rattle.pk_type_declaration.specs.Statics.{declaration_trees_at, after_block_declaration, block_declaration_at}
use Rattle.pk_type_declaration.specs.Walks.{here, after_value, value_at, effect_at}
use Rattle.pk_type_declaration.specs.Rules as declarations
use Rattle.pk_type_declaration.specs.Rules.{failing}
use Rattle.pk_type_jump.specs.declared.labels.Label.{Label}
use Rattle.pk_type_jump.specs.declared.labels.Within.{Within}
use Rattle.pk_type_jump.specs.Labels.{Listed, with_label, with_declaration, listed, listed_items}
use Rattle.pk_type_jump.specs.Labels as label
use Rattle.pk_type_jump.specs.Jumps as jump
use Rattle.pk_type_jump.specs.Jumps.{Around, Jumped, misplaced_if, is_out_of_place, with_default_flag, looped, switched, within_next, jumped, jumped_items}
use Rattle.pk_type_statement.specs.declared.statements.Case.{Case}
use Rattle.pk_type_statement.specs.Statements.{Passed, on, inside, after, after_items, with_case, with_default, in_switch, after_start, after_optional_value, after_optional_effect, after_head, after_return}
use Rattle.pk_type_statement.specs.Trees.{Labels, numbered, label_at, of_three, case_numbers, ended_as, ended, switch_of, optional_value_at, optional_effect_at, start_at, head_at, a_head, for_tree, declared_all, typed, typed_items}
use Rattle.pk_type_statement.specs.Rules as statements
use Rattle.pk_type_statement.specs.Rules.{returns_otherwise, repeated_cases}
use Rattle.pk_type_statement.proofs.KeepLemmas.{kept_block_declaration, kept_head}
use Rattle.pk_type_laws.proofs.Accepted.Declarations.{or_left}
use Rattle.pk_type_laws.proofs.Accepted.Forms.{Gives, Numeric, numeric}
use Rattle.pk_type_laws.proofs.Accepted.Statements.{later_statement, later_items, same_scope}
use Rattle.pk_type_laws.proofs.Accepted.Walks.{W, none_found}
use Rattle.pk_type_laws.proofs.Bodies.Labels.{Covers, labels_stay, items_stay, its_label, gone_there, unknown_before, items_unknown_before}
use Rattle.pk_type_laws.proofs.Bodies.Parts.{mapped_there, both_there, Known, known_opened, used_integer, value_is, effect_is, declaration_there, block_declaration_there}
use Rattle.pk_type_expression.proofs.TreeLemmas.{holds_not}

abbrev pub P : Type 0
P = Passed (Option Failure)

three_there : {A B C D : Type 0} (f : A → B → C → D) (a : Option A) (b : Option B) (c : Option C) → is_some a ≡ true → is_some b ≡ true → is_some c ≡ true → is_some (of_three f a b c) ≡ true
three_there f None b c h k l = absurd (false≢true h)
three_there f (Some x) b c h k l = both_there (f x) b c k l

-- ---- parts that may be none

optional_value_there : (e : Option ExpressionTree) (w : W) → Known w.scoping → (after_optional_value declarations.noting e w).found ≡ None → is_some (optional_value_at w e) ≡ true
optional_value_there None w k h = refl
optional_value_there (Some e) w k h = mapped_there Some (value_at w e) (value_is w e k h)

optional_effect_there : (e : Option ExpressionTree) (w : W) → Known w.scoping → (after_optional_effect declarations.noting e w).found ≡ None → is_some (optional_effect_at w e) ≡ true
optional_effect_there None w k h = refl
optional_effect_there (Some e) w k h = mapped_there Some (effect_at w e) (effect_is w e k h)

pub value_before : (e : Option ExpressionTree) (w : W) → (after_optional_value declarations.noting e w).found ≡ None → w.found ≡ None
value_before None w h = h
value_before (Some e) w h = (none_found w.found (used_failures (here w) e) h).0

pub effect_before : (e : Option ExpressionTree) (w : W) → (after_optional_effect declarations.noting e w).found ≡ None → w.found ≡ None
effect_before None w h = h
effect_before (Some e) w h = (none_found w.found (failures (here w) e) h).0

pub value_scope : (e : Option ExpressionTree) (w : W) → (after_optional_value declarations.noting e w).scoping ≡ w.scoping
value_scope None w = refl
value_scope (Some e) w = refl

pub effect_scope : (e : Option ExpressionTree) (w : W) → (after_optional_effect declarations.noting e w).scoping ≡ w.scoping
effect_scope None w = refl
effect_scope (Some e) w = refl

return_there : (r : Typing) (at : Pos) (e : Option ExpressionTree) (w : W) → Known w.scoping → (after_return statements.noting r at e w).found ≡ None → is_some (optional_value_at w e) ≡ true
return_there r at None w k h = refl
return_there r at (Some e) w k h =
    let v = failing noted (fails_if (returns_otherwise r true) rule.Return at) w in
    mapped_there Some (value_at w e) (value_is v e k h)

start_there : (s : ForStartTree) (w : W) → Known w.scoping → (after_start declarations.noting s w).found ≡ None → (is_some (start_at declarations.noting s w) ≡ true) × Known (after_start declarations.noting s w).scoping
start_there (declaration d) w k h = let one = declaration_there d w k h in (mapped_there tree.declarations (declaration_trees_at declarations.noting d w) one.0, one.1)
start_there (expression e) w k h = (mapped_there tree.expression (optional_effect_at w e) (optional_effect_there e w k h), subst Known (sym (effect_scope e w)) k)

pub head_there : (s : ForStartTree) (test step : Option ExpressionTree) (w : W) → Known w.scoping → (after_head declarations.noting s test step w).found ≡ None
    → (is_some (head_at declarations.noting s test step w) ≡ true) × Known (after_head declarations.noting s test step w).scoping
head_there s test step w k h =
    let v = after_start declarations.noting s w in
    let x = after_optional_value declarations.noting test v in
    let hx : x.found ≡ None = effect_before step x h in
    let hv : v.found ≡ None = value_before test v hx in
    let one = start_there s w k hv in
    let kx : Known x.scoping = subst Known (sym (value_scope test v)) one.1 in (
      three_there a_head (start_at declarations.noting s w) (optional_value_at v test) (optional_effect_at x step) one.0 (optional_value_there test v one.1 hx) (optional_effect_there step x kx h),
      subst Known (sym (effect_scope step x)) kx,
    )

-- ---- cases

-- each has its value
abbrev pub HaveValues : List Case → Type 0
HaveValues [] = Unit {0}
HaveValues (c ∷ cs) = (is_some c.value ≡ true) × HaveValues cs

one_more : (cs : List Case) (c : Case) → HaveValues cs → is_some c.value ≡ true → HaveValues (cs ++ c ∷ [])
one_more [] c h k = (k, tt)
one_more (d ∷ cs) c h k = (h.0, one_more cs c h.1 k)

numbers_there : (t : IntType) (cs : List Case) → HaveValues cs → is_some (case_numbers t cs) ≡ true
numbers_there t [] h = refl
numbers_there t (c ∷ cs) h = both_there (λ n ns. n ∷ ns) (option_map (wrapped t) c.value) (case_numbers t cs) (mapped_there (wrapped t) c.value h.0) (numbers_there t cs h.1)

ended_there : (t : Typing) (p : P) → (u : IntType) → t ≡ Integer u → HaveValues p.cases → is_some (ended t p) ≡ true
ended_there Void p u is h = absurd (void_is_none is)
  where
    void_is_none : Void ≡ Integer u → ⊥
    void_is_none e = cc
ended_there (Integer t) p u is h = mapped_there (ended_as (promoted t) p.has_default) (case_numbers (promoted t) p.cases) (numbers_there (promoted t) p.cases h)
ended_there Unknown p u is h = absurd (unknown_is_none is)
  where
    unknown_is_none : Unknown ≡ Integer u → ⊥
    unknown_is_none e = cc

number_there : (b : Bool) (c : Constant) → (not b || is_faulty c) ≡ false → Gives c → is_some (if not b || is_faulty c then None else number_of c) ≡ true
number_there true (Number n) h g = refl
number_there true (Faulty f) h g = absurd (false≢true (sym h))
number_there true NotConstant h g = absurd g
number_there false c h g = absurd (false≢true (sym h))

number_given : (e : Option EvaluatedTree) → Numeric e → is_some (value_of e) ≡ true → Gives (given_by (value_of e))
number_given None n h = absurd (false≢true h)
number_given (Some (value v)) n h = n
number_given (Some (effect x)) n h = absurd (false≢true h)

case_there : (w : W) (e : ExpressionTree) → Known w.scoping → (after_constant declarations.noting e w).found ≡ None → is_some (number_in (evaluated w e)) ≡ true
case_there w e k h =
    let r = none_found (after_value declarations.noting e w).found (fails_if (is_refused (evaluated w e)) rule.Constant (first_place_of e)) h in
    let is : is_refused (evaluated w e) ≡ false = holds_not _ _ _ r.1 in
    let t = expressions.typed (here w) (length w.calls) e in
    number_there (is_constant_form (here w) e) (given_by (value_of t)) is
    (number_given t (numeric (here w) (length w.calls) e (or_left (is_constant_form (here w) e) _ is)) (value_is w e k r.0))

-- ---- a statement declares no name

same_text : (text : List ℕ) (r : Typing) (p : P) (s : StatementTree) → p.walked.scoping.text ≡ text → (after statements.noting r p s).walked.scoping.text ≡ text
same_text text r p s e = ap (λ (c : Scoping). c.text) (same_scope r p s) ∙ e

pub known_after : (r : Typing) (p : P) (s : StatementTree) → Known p.walked.scoping → Known (after statements.noting r p s).walked.scoping
known_after r p s k = subst Known (sym (same_scope r p s)) k

-- ---- statements

label_there : (text : List ℕ) (ls : Labels) (w : W) (x : Identifier) → w.scoping.text ≡ text → is_some (ls (spelled text x)) ≡ true → is_some (label_at ls w x) ≡ true
label_there text ls w x e h = numbered_there (ls (spelled w.scoping.text x)) (subst (λ (t : List ℕ). is_some (ls (spelled t x)) ≡ true) (sym e) h)
  where
    numbered_there : (l : Option Label) → is_some l ≡ true → is_some (numbered l) ≡ true
    numbered_there None h = absurd (false≢true h)
    numbered_there (Some l) h = refl

-- its tree is there, and its cases have their values
record Done (r : Typing) (ls : Labels) (p : P) (s : StatementTree) : Type 0 where
  pub there : is_some (typed statements.noting r ls p s) ≡ true
  pub cases : HaveValues (after statements.noting r p s).cases

pub record AllDone (r : Typing) (ls : Labels) (p : P) (is : ItemTrees) : Type 0 where
  pub there : is_some (typed_items statements.noting r ls p is) ≡ true
  pub cases : HaveValues (after_items statements.noting r p is).cases

mutual
  unfolding typed typed_items after after_items jumped jumped_items listed listed_items

  statement_there : (text : List ℕ) (r : Typing) (ls : Labels) (a : Around) (j : Jumped) (v : Within) (l : Listed) (p : P) (s : StatementTree) → p.walked.scoping.text ≡ text → Known p.walked.scoping → HaveValues p.cases
      → Covers (listed text v l s).labels ls → (jumped text ls a j s).unknown ≡ [] → (after statements.noting r p s).walked.found ≡ None → Done r ls p s
  statement_there text r ls a j v l p (ast.block opened items closed) e k c m g h =
      let b = items_there text r ls a j v l (inside p) items e (known_opened p.walked.scoping k) c m g h in record { there = mapped_there (tree.block opened) _ b.there; cases = b.cases }
  statement_there text r ls a j v l p (ast.empty at) e k c m g h = record { there = refl; cases = c }
  statement_there text r ls a j v l p (ast.expression_statement x) e k c m g h = record { there = mapped_there (tree.effect (first_place_of x)) (effect_at p.walked x) (effect_is p.walked x k h); cases = c }
  statement_there text r ls a j v l p (ast.label x s) e k c m g h =
      let b = statement_there text r ls a j v (with_label text v x l) p s e k c m g h in
      let its = label_there text ls p.walked x e (m (spelled text x) (its_label text v x l s)) in
      record { there = both_there (tree.label x.at) (label_at ls p.walked x) (typed statements.noting r ls p s) its b.there; cases = b.cases }
  statement_there text r ls a j v l p (ast.case at x s) e k c m g h =
      let q = with_case declarations.noting at x p in
      let hq : q.walked.found ≡ None = (later_statement r q s).walked.found h in
      let b = statement_there text r ls a (misplaced_if (is_out_of_place a) at j) v l q s e k (one_more p.cases _ c (case_there p.walked x k hq)) m g h in
      record { there = mapped_there (tree.case at (length p.cases)) (typed statements.noting r ls q s) b.there; cases = b.cases }
  statement_there text r ls a j v l p (ast.default at s) e k c m g h =
      let b = statement_there text r ls a (jump.with_default a at j) v l (with_default p) s e k c m g h in record { there = mapped_there (tree.default at) (typed statements.noting r ls (with_default p) s) b.there; cases = b.cases }
  statement_there text r ls a j v l p (ast.if_then at x s) e k c m g h =
      let q = on (after_value declarations.noting x) p in
      let b = statement_there text r ls a j v l q s e k c m g h in
      record { there = both_there (tree.if_then at) (value_at p.walked x) (typed statements.noting r ls q s) (value_is p.walked x k ((later_statement r q s).walked.found h)) b.there; cases = b.cases }
  statement_there text r ls a j v l p (ast.if_else at x s t) e k c m g h =
      let q = on (after_value declarations.noting x) p in
      let n = after statements.noting r q s in
      let hn : n.walked.found ≡ None = (later_statement r n t).walked.found h in
      let b = statement_there text r ls a j v l q s e k c (λ y i. m y (labels_stay text v (listed text v l s) t y i)) (unknown_before text ls a (jumped text ls a j s) t g) hn in
      let d = statement_there text r ls a (jumped text ls a j s) v (listed text v l s) n t (same_text text r q s e) (known_after r q s k) b.cases m g h in
      record {
        there = three_there (tree.if_else at) (value_at p.walked x) (typed statements.noting r ls q s) (typed statements.noting r ls n t) (value_is p.walked x k ((later_statement r q s).walked.found hn)) b.there d.there;
        cases = d.cases;
      }
  statement_there text r ls a j v l p (ast.switch at x s) e k c m g h =
      let q = in_switch (on (after_value declarations.noting x) p) in
      let n = after statements.noting r q s in
      let hn : n.walked.found ≡ None = (none_found n.walked.found (repeated_cases (type_of (here p.walked) x) n.cases) h).0 in
      let hx = (later_statement r q s).walked.found hn in
      let b = statement_there text r ls (switched a) (with_default_flag false j) v l q s e k tt m g hn in
      let t = used_integer p.walked x k hx in
      record {
        there = three_there (switch_of at) (value_at p.walked x) (ended (type_of (here p.walked) x) n) (typed statements.noting r ls q s) (value_is p.walked x k hx) (ended_there (type_of (here p.walked) x) n t.0 t.1 b.cases) b.there;
        cases = c;
      }
  statement_there text r ls a j v l p (ast.while at x s) e k c m g h =
      let q = on (after_value declarations.noting x) p in
      let b = statement_there text r ls (looped a) j v l q s e k c m g h in
      record { there = both_there (tree.while at) (value_at p.walked x) (typed statements.noting r ls q s) (value_is p.walked x k ((later_statement r q s).walked.found h)) b.there; cases = b.cases }
  statement_there text r ls a j v l p (ast.do_while at s x) e k c m g h =
      let n = after statements.noting r p s in
      let hn : n.walked.found ≡ None = (none_found n.walked.found (used_failures (here n.walked) x) h).0 in
      let b = statement_there text r ls (looped a) j v l p s e k c m g hn in
      record { there = both_there (tree.do_while at) (typed statements.noting r ls p s) (value_at n.walked x) b.there (value_is n.walked x (known_after r p s k) h); cases = b.cases }
  statement_there text r ls a j v l p (ast.for_loop at (declaration d) test step s) e k c m g h =
      let i = inside p in
      let q = on (after_head declarations.noting (declaration d) test step) i in
      let f = head_there (declaration d) test step i.walked (known_opened p.walked.scoping k) ((later_statement r q s).walked.found h) in
      let b = statement_there text r ls (looped (within_next j a)) (jump.with_declaration j) (label.inside l.declarations v) (with_declaration l) q s ((kept_head declarations.noting (declaration d) test step i.walked).text ∙ e) f.1 c m g h in
      record { there = both_there (for_tree at) (head_at declarations.noting (declaration d) test step i.walked) (typed statements.noting r ls q s) f.0 b.there; cases = b.cases }
  statement_there text r ls a j v l p (ast.for_loop at (expression x) test step s) e k c m g h =
      let i = inside p in
      let q = on (after_head declarations.noting (expression x) test step) i in
      let f = head_there (expression x) test step i.walked (known_opened p.walked.scoping k) ((later_statement r q s).walked.found h) in
      let b = statement_there text r ls (looped a) j v l q s ((kept_head declarations.noting (expression x) test step i.walked).text ∙ e) f.1 c m g h in
      record { there = both_there (for_tree at) (head_at declarations.noting (expression x) test step i.walked) (typed statements.noting r ls q s) f.0 b.there; cases = b.cases }
  statement_there text r ls a j v l p (ast.goto at x) e k c m g h =
      record { there = mapped_there (tree.goto at) (label_at ls p.walked x) (label_there text ls p.walked x e (gone_there (ls (spelled text x)) a x.at j g)); cases = c }
  statement_there text r ls a j v l p (ast.continue at) e k c m g h = record { there = refl; cases = c }
  statement_there text r ls a j v l p (ast.break at) e k c m g h = record { there = refl; cases = c }
  statement_there text r ls a j v l p (ast.return at x) e k c m g h = record { there = mapped_there (tree.return at) (optional_value_at p.walked x) (return_there r at x p.walked k h); cases = c }

  pub items_there : (text : List ℕ) (r : Typing) (ls : Labels) (a : Around) (j : Jumped) (v : Within) (l : Listed) (p : P) (is : ItemTrees) → p.walked.scoping.text ≡ text → Known p.walked.scoping → HaveValues p.cases
      → Covers (listed_items text v l is).labels ls → (jumped_items text ls a j is).unknown ≡ [] → (after_items statements.noting r p is).walked.found ≡ None → AllDone r ls p is
  items_there text r ls a j v l p no_items e k c m g h = record { there = refl; cases = c }
  items_there text r ls a j v l p (declaration_then x d is) e k c m g h =
      let q = on (after_block_declaration declarations.noting x d) p in
      let f = block_declaration_there x d p.walked k ((later_items r q is).walked.found h) in
      let b = items_there text r ls (within_next j a) (jump.with_declaration j) (label.inside l.declarations v) (with_declaration l) q is ((kept_block_declaration declarations.noting x d p.walked).text ∙ e) f.1 c m g h in
      record { there = both_there declared_all (block_declaration_at declarations.noting x d p.walked) (typed_items statements.noting r ls q is) f.0 b.there; cases = b.cases }
  items_there text r ls a j v l p (statement_then s is) e k c m g h =
      let q = after statements.noting r p s in
      let b = statement_there text r ls a j v l p s e k c (λ y i. m y (items_stay text v (listed text v l s) is y i)) (items_unknown_before text ls a (jumped text ls a j s) is g) ((later_items r q is).walked.found h) in
      let d = items_there text r ls a (jumped text ls a j s) v (listed text v l s) q is (same_text text r p s e) (known_after r p s k) b.cases m g h in
      record { there = both_there tree.statement_before (typed statements.noting r ls p s) (typed_items statements.noting r ls q is) b.there d.there; cases = d.cases }
