-- Statements in which no rule fails are well typed.
use Rattle.std.proofs.lemmas.Bool.{false≢true}
use Rattle.std.proofs.Common.{false, true, ◌≡◌, ℕ, zero, suc, ◌+◌, ◌<◌, ◌≤◌, true, List, [], ◌∷◌, ◌++◌, Option, Some, None, length, refl, ap, sym, subst, ◌∙◌, arith, length-append, append_assoc}
use Rattle.std.proofs.Math.Nat.{add-zero}
use Rattle.std.specs.Prelude.{ℤ, All, is_some, unwrap_or}
use Rattle.std.proofs.lemmas.Option.{none-some}
use Rattle.std.specs.Option.{option_map}
use Rattle.pk_ctypes.specs.declared.places.Pos.{Pos}
use Rattle.pk_ctypes.specs.declared.types.IntType.{IntType}
use Rattle.pk_ctypes.specs.declared.words.Rule.TheVariants as rule
use Rattle.pk_ctypes.specs.Types.{InType, wrapped}
use Rattle.pk_ctypes.specs.Conversions.{promoted}
use Rattle.pk_ctypes.proofs.Wrapped.{wrapped_in}
use Rattle.pk_ast.specs.Places.{first_place_of}
use Rattle.pk_ast.specs.Trees as ast
use Rattle.pk_ast.specs.Trees.{ExpressionTree, ForStartTree, declaration, expression, StatementTree, ItemTrees, no_items, declaration_then, statement_then}
use Rattle.pk_typed.specs.Trees as tree
use Rattle.pk_typed.specs.Trees.{LocalTree, ValueTree, EffectTree, DeclaredTree, UnitTree}
use Rattle.pk_type_scope.specs.declared.declarations.Typing.{Typing}
use Rattle.pk_type_scope.specs.declared.declarations.Typing.TheVariants.{Void, Integer, Unknown}
use Rattle.pk_type_scope.specs.declared.failures.Failure.{Failure}
use Rattle.pk_type_scope.specs.Declarations.{is_unknown}
use Rattle.pk_type_scope.specs.Failures.{fails_if, noted}
use Rattle.pk_type_scope.specs.Scopes.{Scoping, names_in, spelled}
use Rattle.pk_type_expression.specs.Typed.{of_both}
use Rattle.pk_type_expression.specs.Types.{type_of}
use Rattle.pk_type_declaration.specs.Constants.{evaluated, number_in}
use Rattle.pk_type_declaration.specs.Declarations.{integer_in}
use Rattle.pk_type_declaration.specs.Statics.{after_declaration, declaration_trees_at, after_block_declaration, block_declaration_at}
use Rattle.pk_type_declaration.specs.Walks.{here, after_value, after_effect, value_at, effect_at}
use Rattle.pk_type_declaration.specs.Rules as declaration_rules
use Rattle.pk_type_declaration.specs.Rules.{failing}
use Rattle.pk_type_jump.specs.declared.labels.Label.{Label}
use Rattle.pk_type_statement.specs.declared.statements.Case.{Case}
use Rattle.pk_type_statement.specs.Statements.{Passed, on, inside, outside, after_optional_value, after_optional_effect, after_return, with_case, with_default, in_switch, after_switch, after_start, after_head, after, after_items}
use Rattle.pk_type_statement.specs.Trees.{Labels, numbered, of_three, case_numbers, ended_as, ended, switch_of, optional_value_at, optional_effect_at, start_at, a_head, for_tree, declared_all, typed, typed_items}
use Rattle.pk_type_statement.specs.Rules as statement_rules
use Rattle.pk_type_statement.specs.Rules.{returns_otherwise, repeated_cases}
use Rattle.pk_welltyped.specs.Listed as listed
use Rattle.pk_welltyped.specs.Listed.{Numbered, calls_in, calls_if, calls_in_effect_if, calls_in_declared, calls_in_all_declared, calls_at_start, calls_in_statement, calls_in_items, objects_in_declared, objects_in_all_declared, objects_at_start, objects_in, objects_in_items}
use Rattle.pk_welltyped.specs.WellTyped as good
use Rattle.pk_welltyped.specs.WellTyped.{Around, IsValueIf, IsEffectIf, AreDeclared, IsForStart, Marks, IsReturned, IsStatement, AreItems}
use Rattle.pk_type_laws.specs.Accepted.Constants.{HasConstantsIf, StartHas, StatementHas, ItemsHave}
use Rattle.pk_type_laws.specs.Accepted.Names.{NamesAre}
use Rattle.pk_type_laws.proofs.Accepted.Walks.{none_found, W, around, Later, later_same, later, later_failing, later_value, later_effect, Steps, steps_none, steps, steps_as, ValuePart, EffectPart, value_part, effect_part}
use Rattle.pk_type_laws.proofs.Accepted.Declarations.{names_later, names_opened, Begins, begins_before, constant_steps, later_constant, AllDeclaredPart}
use Rattle.pk_type_laws.proofs.Accepted.Statics as declarations
use Rattle.pk_type_laws.proofs.Accepted.Statics.{later_declaration, later_block_declaration, block_declaration}
use Rattle.pk_type_expression.proofs.TreeLemmas.{holds_not}

abbrev pub P : Type 0
P = Passed (Option Failure)

-- ---- later places, whatever fails

pub record LaterPlace (p q : P) : Type 0 where
  pub walked : Later p.walked q.walked
  pub cases : length p.cases ≤ length q.cases
  pub default : p.has_default ≡ true → q.has_default ≡ true

place_same : (p : P) → LaterPlace p p
place_same p = record { walked = later_same p.walked; cases = omega arith; default = λ h. h }

place_later : (p q r : P) → LaterPlace p q → LaterPlace q r → LaterPlace p r
place_later p q r a b = record { walked = later p.walked q.walked r.walked a.walked b.walked; cases = omega (a.cases, b.cases, arith); default = λ h. b.default (a.default h) }

later_on : (f : W → W) (p : P) → Later p.walked (f p.walked) → LaterPlace p (on f p)
later_on f p l = record { walked = l; cases = omega arith; default = λ h. h }

later_optional_value : (e : Option ExpressionTree) (w : W) → Later w (after_optional_value declaration_rules.noting e w)
later_optional_value None w = later_same w
later_optional_value (Some e) w = later_value e w

later_optional_effect : (e : Option ExpressionTree) (w : W) → Later w (after_optional_effect declaration_rules.noting e w)
later_optional_effect None w = later_same w
later_optional_effect (Some e) w = later_effect e w

later_start : (start : ForStartTree) (w : W) → Later w (after_start declaration_rules.noting start w)
later_start (declaration d) w = later_declaration d w
later_start (expression e) w = later_optional_effect e w

later_head : (start : ForStartTree) (test step : Option ExpressionTree) (w : W) → Later w (after_head declaration_rules.noting start test step w)
later_head start test step w =
    let v = after_start declaration_rules.noting start w in
    let x = after_optional_value declaration_rules.noting test v in
    later w v _ (later_start start w) (later v x _ (later_optional_value test v) (later_optional_effect step x))

longer : (cs : List Case) (c : Case) → length cs ≤ length (cs ++ c ∷ [])
longer cs c = omega (length-append cs (c ∷ []), arith)

one_longer : (cs : List Case) (c : Case) (n : ℕ) → length (cs ++ c ∷ []) ≤ n → length cs < n
one_longer cs c n h = omega (length-append cs (c ∷ []), h, arith)

later_case : (at : Pos) (e : ExpressionTree) (p : P) → LaterPlace p (with_case declaration_rules.noting at e p)
later_case at e p = record { walked = later_constant e p.walked; cases = longer p.cases (record { at = at; value = number_in (evaluated p.walked e) }); default = λ h. h }

-- into a scope, and out of it
later_inside : (p q : P) → LaterPlace (inside p) q → LaterPlace p (outside p q)
later_inside p q l = record { walked = record { found = l.walked.found; more = l.walked.more; locals = l.walked.locals; statics = l.walked.statics }; cases = l.cases; default = l.default }

later_switch : (t : Typing) (p q r : P) → LaterPlace (in_switch q) r → LaterPlace p q → LaterPlace p (after_switch statement_rules.noting t p.cases p.has_default r)
later_switch t p q r l k = record {
  walked = later p.walked q.walked _ k.walked (later q.walked r.walked _ l.walked (later_failing (repeated_cases t r.cases) r.walked));
  cases = omega arith;
  default = λ h. h;
}

mutual
  unfolding after after_items

  pub later_statement : (r : Typing) (p : P) (s : StatementTree) → LaterPlace p (after statement_rules.noting r p s)
  later_statement r p (ast.block opened items closed) = later_inside p (after_items statement_rules.noting r (inside p) items) (later_items r (inside p) items)
  later_statement r p (ast.empty at) = place_same p
  later_statement r p (ast.expression_statement e) = later_on (after_effect declaration_rules.noting e) p (later_effect e p.walked)
  later_statement r p (ast.label x s) = later_statement r p s
  later_statement r p (ast.case at e s) = place_later p (with_case declaration_rules.noting at e p) _ (later_case at e p) (later_statement r (with_case declaration_rules.noting at e p) s)
  later_statement r p (ast.default at s) =
      let l = later_statement r (with_default p) s in record { walked = l.walked; cases = l.cases; default = λ h. l.default refl }
  later_statement r p (ast.if_then at e s) = let q = on (after_value declaration_rules.noting e) p in place_later p q _ (later_on (after_value declaration_rules.noting e) p (later_value e p.walked)) (later_statement r q s)
  later_statement r p (ast.if_else at e s t) =
      let q = on (after_value declaration_rules.noting e) p in
      let x = after statement_rules.noting r q s in
      place_later p q _ (later_on (after_value declaration_rules.noting e) p (later_value e p.walked)) (place_later q x _ (later_statement r q s) (later_statement r x t))
  later_statement r p (ast.switch at e s) =
      let q = on (after_value declaration_rules.noting e) p in later_switch (type_of (here p.walked) e) p q (after statement_rules.noting r (in_switch q) s) (later_statement r (in_switch q) s) (later_on (after_value declaration_rules.noting e) p (later_value e p.walked))
  later_statement r p (ast.while at e s) = let q = on (after_value declaration_rules.noting e) p in place_later p q _ (later_on (after_value declaration_rules.noting e) p (later_value e p.walked)) (later_statement r q s)
  later_statement r p (ast.do_while at s e) = let q = after statement_rules.noting r p s in place_later p q _ (later_statement r p s) (later_on (after_value declaration_rules.noting e) q (later_value e q.walked))
  later_statement r p (ast.for_loop at start test step s) =
      let i = inside p in
      let q = on (after_head declaration_rules.noting start test step) i in
      later_inside p (after statement_rules.noting r q s) (place_later i q _ (later_on (after_head declaration_rules.noting start test step) i (later_head start test step i.walked)) (later_statement r q s))
  later_statement r p (ast.goto at x) = place_same p
  later_statement r p (ast.continue at) = place_same p
  later_statement r p (ast.break at) = place_same p
  later_statement r p (ast.return at e) =
      let v = failing noted (fails_if (returns_otherwise r (is_some e)) rule.Return at) p.walked in
      later_on (after_return statement_rules.noting r at e) p (later p.walked v _ (later_failing (fails_if (returns_otherwise r (is_some e)) rule.Return at) p.walked) (later_optional_value e v))

  pub later_items : (r : Typing) (p : P) (is : ItemTrees) → LaterPlace p (after_items statement_rules.noting r p is)
  later_items r p no_items = place_same p
  later_items r p (declaration_then x d is) = let q = on (after_block_declaration declaration_rules.noting x d) p in place_later p q _ (later_on (after_block_declaration declaration_rules.noting x d) p (later_block_declaration x d p.walked)) (later_items r q is)
  later_items r p (statement_then s is) = let q = after statement_rules.noting r p s in place_later p q _ (later_statement r p s) (later_items r q is)

-- ---- a statement declares no name

pub same_scope : (r : Typing) (p : P) (s : StatementTree) → (after statement_rules.noting r p s).walked.scoping ≡ p.walked.scoping
unfolding after
same_scope r p (ast.block opened items closed) = refl
same_scope r p (ast.empty at) = refl
same_scope r p (ast.expression_statement e) = refl
same_scope r p (ast.label x s) = same_scope r p s
same_scope r p (ast.case at e s) = same_scope r (with_case declaration_rules.noting at e p) s
same_scope r p (ast.default at s) = same_scope r (with_default p) s
same_scope r p (ast.if_then at e s) = same_scope r (on (after_value declaration_rules.noting e) p) s
same_scope r p (ast.if_else at e s t) = let q = on (after_value declaration_rules.noting e) p in same_scope r (after statement_rules.noting r q s) t ∙ same_scope r q s
same_scope r p (ast.switch at e s) = same_scope r (in_switch (on (after_value declaration_rules.noting e) p)) s
same_scope r p (ast.while at e s) = same_scope r (on (after_value declaration_rules.noting e) p) s
same_scope r p (ast.do_while at s e) = same_scope r p s
same_scope r p (ast.for_loop at start test step s) = refl
same_scope r p (ast.goto at x) = refl
same_scope r p (ast.continue at) = refl
same_scope r p (ast.break at) = refl
same_scope r p (ast.return at None) = refl
same_scope r p (ast.return at (Some e)) = refl

-- ---- where the walk ends

pub record Ends (u : UnitTree) (ls : List LocalTree) (m : Marks) (q : P) : Type 0 where
  pub begins : Begins u ls q.walked
  pub found : q.walked.found ≡ None
  pub cases : length q.cases ≤ m.cases
  pub default : q.has_default ≡ true → m.has_default ≡ true

ends_before : (u : UnitTree) (ls : List LocalTree) (m : Marks) (p q : P) → LaterPlace p q → Ends u ls m q → Ends u ls m p
ends_before u ls m p q l e = record { begins = begins_before u ls p.walked q.walked l.walked e.begins; found = l.walked.found e.found; cases = omega (l.cases, e.cases, arith); default = λ h. e.default (l.default h) }

-- ---- labels

abbrev pub LabelBelow : ℕ → Option Label → Type 0
LabelBelow n None = Unit {0}
LabelBelow n (Some l) = l.number < n

abbrev pub Below : ℕ → Labels → Type 0
Below n labels = (q : List ℕ) → LabelBelow n (labels q)

-- ---- parts

abbrev StatementPart : UnitTree → List LocalTree → Marks → (w v : W) → Option tree.StatementTree → Type 0
StatementPart u ls m w v None = Unit {0}
StatementPart u ls m w v (Some t) = IsStatement (around u ls w) m t × Steps w v (calls_in_statement t) (objects_in t)

abbrev pub ItemsPart : UnitTree → List LocalTree → Marks → (w v : W) → Option tree.ItemTrees → Type 0
ItemsPart u ls m w v None = Unit {0}
ItemsPart u ls m w v (Some is) = AreItems (around u ls w) m is × Steps w v (calls_in_items is) (objects_in_items is)

still : (w v : W) (ns : List Numbered) → Steps w v ns 0 → length v.locals ≡ length w.locals
still w v ns s = s.objects ∙ add-zero (length w.locals)

-- with another number of objects before
abbrev at : UnitTree → List LocalTree → ℕ → Around
at u ls n = record { unit = u; locals = ls; objects = n }

value_steps : (w v x : W) (ms ns : List Numbered) (k : ℕ) → Steps w v ms 0 → Steps v x ns k → Steps w x (ms ++ ns) k
value_steps w v x ms ns k a b = steps_as w x (ms ++ ns) (ms ++ ns) (0 + k) k (steps w v x ms ns 0 k a b) refl (omega arith)

steps_value : (w v x : W) (ms ns : List Numbered) (k : ℕ) → Steps w v ms k → Steps v x ns 0 → Steps w x (ms ++ ns) k
steps_value w v x ms ns k a b = steps_as w x (ms ++ ns) (ms ++ ns) (k + 0) k (steps w v x ms ns k 0 a b) refl (sym (add-zero k))

effect_statement : (u : UnitTree) (ls : List LocalTree) (m : Marks) (w v : W) (p : Pos) (e : Option EffectTree) → EffectPart (around u ls w) w v e → StatementPart u ls m w v (option_map (tree.effect p) e)
unfolding IsStatement calls_in_statement objects_in
effect_statement u ls m w v p None h = tt
effect_statement u ls m w v p (Some e) h = h

block_statement : (u : UnitTree) (ls : List LocalTree) (m : Marks) (w x v y : W) (p : Pos) (is : Option tree.ItemTrees) → x.calls ≡ w.calls → x.locals ≡ w.locals → y.calls ≡ v.calls → y.locals ≡ v.locals
    → ItemsPart u ls m x v is → StatementPart u ls m w y (option_map (tree.block p) is)
unfolding IsStatement calls_in_statement objects_in
block_statement u ls m w x v y p None a b c d h = tt
block_statement u ls m w x v y p (Some is) a b c d h = (
  subst (λ (n : ℕ). AreItems (at u ls n) m is) (ap length b) h.0,
  record {
    sites = h.1.sites;
    calls = c ∙ (h.1.calls ∙ ap (λ (l : List _). l ++ h.1.sites) a);
    listed = h.1.listed ∙ ap (λ (l : List _). listed.numbered (length l) h.1.sites) a;
    objects = ap length d ∙ (h.1.objects ∙ ap (λ (l : List LocalTree). length l + objects_in_items is) b);
  },
)

label_statement : (u : UnitTree) (ls : List LocalTree) (m : Marks) (w v : W) (p : Pos) (l : Option Label) (s : Option tree.StatementTree) → LabelBelow m.labels l → StatementPart u ls m w v s
    → StatementPart u ls m w v (of_both (tree.label p) (numbered l) s)
unfolding IsStatement calls_in_statement objects_in
label_statement u ls m w v p None s b h = tt
label_statement u ls m w v p (Some l) None b h = tt
label_statement u ls m w v p (Some l) (Some s) b h = ((b, h.0), h.1)

goto_statement : (u : UnitTree) (ls : List LocalTree) (m : Marks) (w : W) (p : Pos) (l : Option Label) → LabelBelow m.labels l → StatementPart u ls m w w (option_map (tree.goto p) (numbered l))
unfolding IsStatement calls_in_statement objects_in
goto_statement u ls m w p None b = tt
goto_statement u ls m w p (Some l) b = (b, steps_none w w refl refl)

case_statement : (u : UnitTree) (ls : List LocalTree) (m : Marks) (w v x : W) (p : Pos) (i : ℕ) (s : Option tree.StatementTree) → i < m.cases → Steps w v [] 0 → StatementPart u ls m v x s → StatementPart u ls m w x (option_map (tree.case p i) s)
unfolding IsStatement calls_in_statement objects_in
case_statement u ls m w v x p i None b g h = tt
case_statement u ls m w v x p i (Some s) b g h = ((b, subst (λ (n : ℕ). IsStatement (at u ls n) m s) (still w v [] g) h.0), value_steps w v x [] (calls_in_statement s) (objects_in s) g h.1)

default_statement : (u : UnitTree) (ls : List LocalTree) (m : Marks) (w v : W) (p : Pos) (s : Option tree.StatementTree) → m.has_default ≡ true → StatementPart u ls m w v s → StatementPart u ls m w v (option_map (tree.default p) s)
unfolding IsStatement calls_in_statement objects_in
default_statement u ls m w v p None b h = tt
default_statement u ls m w v p (Some s) b h = ((b, h.0), h.1)

then_statement : (u : UnitTree) (ls : List LocalTree) (m : Marks) (w v x : W) (p : Pos) (c : Option ValueTree) (s : Option tree.StatementTree) → ValuePart (around u ls w) w v c → StatementPart u ls m v x s
    → StatementPart u ls m w x (of_both (tree.if_then p) c s)
unfolding IsStatement calls_in_statement objects_in
then_statement u ls m w v x p None s g h = tt
then_statement u ls m w v x p (Some c) None g h = tt
then_statement u ls m w v x p (Some c) (Some s) g h =
    ((g.0, subst (λ (n : ℕ). IsStatement (at u ls n) m s) (still w v (calls_in c) g.1) h.0), value_steps w v x (calls_in c) (calls_in_statement s) (objects_in s) g.1 h.1)

while_statement : (u : UnitTree) (ls : List LocalTree) (m : Marks) (w v x : W) (p : Pos) (c : Option ValueTree) (s : Option tree.StatementTree) → ValuePart (around u ls w) w v c → StatementPart u ls m v x s
    → StatementPart u ls m w x (of_both (tree.while p) c s)
unfolding IsStatement calls_in_statement objects_in
while_statement u ls m w v x p None s g h = tt
while_statement u ls m w v x p (Some c) None g h = tt
while_statement u ls m w v x p (Some c) (Some s) g h =
    ((g.0, subst (λ (n : ℕ). IsStatement (at u ls n) m s) (still w v (calls_in c) g.1) h.0), value_steps w v x (calls_in c) (calls_in_statement s) (objects_in s) g.1 h.1)

else_statement : (u : UnitTree) (ls : List LocalTree) (m : Marks) (w v x y : W) (p : Pos) (c : Option ValueTree) (s t : Option tree.StatementTree) → ValuePart (around u ls w) w v c → StatementPart u ls m v x s → StatementPart u ls m x y t
    → StatementPart u ls m w y (of_three (tree.if_else p) c s t)
unfolding IsStatement calls_in_statement objects_in
else_statement u ls m w v x y p None s t g h k = tt
else_statement u ls m w v x y p (Some c) None t g h k = tt
else_statement u ls m w v x y p (Some c) (Some s) None g h k = tt
else_statement u ls m w v x y p (Some c) (Some s) (Some t) g h k =
    let one = value_steps w v x (calls_in c) (calls_in_statement s) (objects_in s) g.1 h.1 in (
      (g.0, subst (λ (n : ℕ). IsStatement (at u ls n) m s) (still w v (calls_in c) g.1) h.0, subst (λ (n : ℕ). IsStatement (at u ls n) m t) one.objects k.0),
      steps w x y (calls_in c ++ calls_in_statement s) (calls_in_statement t) (objects_in s) (objects_in t) one k.1,
    )

do_statement : (u : UnitTree) (ls : List LocalTree) (m : Marks) (w v x : W) (p : Pos) (s : Option tree.StatementTree) (c : Option ValueTree) → StatementPart u ls m w v s → ValuePart (around u ls w) v x c
    → StatementPart u ls m w x (of_both (tree.do_while p) s c)
unfolding IsStatement calls_in_statement objects_in
do_statement u ls m w v x p None c g h = tt
do_statement u ls m w v x p (Some s) None g h = tt
do_statement u ls m w v x p (Some s) (Some c) g h = ((g.0, h.0), steps_value w v x (calls_in_statement s) (calls_in c) (objects_in s) g.1 h.1)

some : {A : Type 0} {p q : A} → Some p ≡ Some q → p ≡ q
some {A = A} {p = p} e = ap (λ (o : Option A). unwrap_or o p) e

all_first : (t : IntType) (z : ℤ) (zs : List ℤ) → InType t z → All (InType t) zs → All (InType t) (z ∷ zs)
all_first t z zs h k zero d l = h
all_first t z zs h k (suc i) d l = k i d (omega (l, arith))

both_values : (t : IntType) (cs : List Case) (v : Option ℤ) (o : Option (List ℤ)) (zs : List ℤ) → ((ns : List ℤ) → o ≡ Some ns → (length ns ≡ length cs) × All (InType t) ns) → of_both (λ n ns. n ∷ ns) (option_map (wrapped t) v) o ≡ Some zs
    → (length zs ≡ suc (length cs)) × All (InType t) zs
both_values t cs None o zs k e = absurd (none-some zs e)
both_values t cs (Some v) None zs k e = absurd (none-some zs e)
both_values t cs (Some v) (Some ns) zs k e =
    let r = k ns refl in subst (λ (l : List ℤ). (length l ≡ suc (length cs)) × All (InType t) l) (some e) (ap suc r.0, all_first t (wrapped t v) ns (wrapped_in t v) r.1)

-- the values of all cases, in their type
case_values : (t : IntType) (cs : List Case) (zs : List ℤ) → case_numbers t cs ≡ Some zs → (length zs ≡ length cs) × All (InType t) zs
case_values t [] zs h = subst (λ (l : List ℤ). (length l ≡ 0) × All (InType t) l) (some h) (refl, λ k d l. absurd (omega (l, arith)))
case_values t (c ∷ cs) zs h = both_values t cs c.value (case_numbers t cs) zs (λ ns is. case_values t cs ns is) h

switch_statement : (u : UnitTree) (ls : List LocalTree) (m : Marks) (w v x y : W) (p : Pos) (q : P) (c : Option ValueTree) (ty : Typing) (s : Option tree.StatementTree) → y.calls ≡ x.calls → y.locals ≡ x.locals
    → ValuePart (around u ls w) w v c → StatementPart u ls (good.in_switch (length q.cases) q.has_default m) v x s → StatementPart u ls m w y (of_three (switch_of p) c (ended ty q) s)
unfolding IsStatement calls_in_statement objects_in
switch_statement u ls m w v x y p q None ty s a b g h = tt
switch_statement u ls m w v x y p q (Some c) Void s a b g h = tt
switch_statement u ls m w v x y p q (Some c) Unknown s a b g h = tt
switch_statement u ls m w v x y p q (Some c) (Integer t) s a b g h = known (case_numbers (promoted t) q.cases) refl s h
  where
    known : (o : Option (List ℤ)) → case_numbers (promoted t) q.cases ≡ o → (s : Option tree.StatementTree) → StatementPart u ls (good.in_switch (length q.cases) q.has_default m) v x s
        → StatementPart u ls m w y (of_three (switch_of p) (Some c) (option_map (ended_as (promoted t) q.has_default) o) s)
    known None is s h = tt
    known (Some zs) is None h = tt
    known (Some zs) is (Some s) h =
        let cs = case_values (promoted t) q.cases zs is in
        let all = value_steps w v x (calls_in c) (calls_in_statement s) (objects_in s) g.1 h.1 in (
          (g.0, cs.1, subst (λ (n : ℕ). IsStatement (around u ls w) (good.in_switch n q.has_default m) s) (sym cs.0) (subst (λ (n : ℕ). IsStatement (at u ls n) (good.in_switch (length q.cases) q.has_default m) s) (still w v (calls_in c) g.1) h.0)),
          record { sites = all.sites; calls = a ∙ all.calls; listed = all.listed; objects = ap length b ∙ all.objects },
        )

return_statement : (u : UnitTree) (ls : List LocalTree) (m : Marks) (w v : W) (p : Pos) (t : IntType) (e : Option ValueTree) → m.returns ≡ Some t → ValuePart (around u ls w) w v e
    → StatementPart u ls m w v (option_map (tree.return p) (option_map Some e))
unfolding IsStatement calls_in_statement objects_in
return_statement u ls m w v p t None r h = tt
return_statement u ls m w v p t (Some e) r h = (subst (λ (q : Option IntType). IsReturned (around u ls w) q (Some e)) (sym r) h.0, h.1)

-- the rule on `return` (6.8.6.4)
returns_value : (r : Typing) → returns_otherwise r true ≡ false → is_unknown r ≡ false → (t : IntType) × (integer_in r ≡ Some t)
returns_value Void h k = absurd (false≢true (sym h))
returns_value (Integer t) h k = (t, refl)
returns_value Unknown h k = absurd (false≢true (sym k))

returns_nothing : (r : Typing) → returns_otherwise r false ≡ false → is_unknown r ≡ false → integer_in r ≡ None
returns_nothing Void h k = refl
returns_nothing (Integer t) h k = absurd (false≢true (sym h))
returns_nothing Unknown h k = absurd (false≢true (sym k))

-- labels are below their number, and the function's type is known
abbrev pub Fitting : Marks → Typing → Labels → Type 0
Fitting m r labels = Below m.labels labels × (m.returns ≡ integer_in r) × (is_unknown r ≡ false)

-- ---- the parentheses of a `for`

abbrev OptionalPart : Around → (w v : W) → Option (Option ValueTree) → Type 0
OptionalPart a w v None = Unit {0}
OptionalPart a w v (Some e) = IsValueIf a e × Steps w v (calls_if e) 0

abbrev OptionalEffectPart : Around → (w v : W) → Option (Option EffectTree) → Type 0
OptionalEffectPart a w v None = Unit {0}
OptionalEffectPart a w v (Some e) = IsEffectIf a e × Steps w v (calls_in_effect_if e) 0

optional_value : (a : Around) (w : W) (e : Option ExpressionTree) → NamesAre a (here w) → HasConstantsIf e → (after_optional_value declaration_rules.noting e w).found ≡ None → OptionalPart a w (after_optional_value declaration_rules.noting e w) (optional_value_at w e)
optional_value a w None n k h = (tt, steps_none w w refl refl)
optional_value a w (Some e) n k h = some (value_at w e) (value_part a w e n k h)
  where
    some : (o : Option ValueTree) → ValuePart a w (after_value declaration_rules.noting e w) o → OptionalPart a w (after_value declaration_rules.noting e w) (option_map Some o)
    some None p = tt
    some (Some e) p = p

optional_effect : (a : Around) (w : W) (e : Option ExpressionTree) → NamesAre a (here w) → HasConstantsIf e → (after_optional_effect declaration_rules.noting e w).found ≡ None → OptionalEffectPart a w (after_optional_effect declaration_rules.noting e w) (optional_effect_at w e)
optional_effect a w None n k h = (tt, steps_none w w refl refl)
optional_effect a w (Some e) n k h = some (effect_at w e) (effect_part a w e n k h)
  where
    some : (o : Option EffectTree) → EffectPart a w (after_effect declaration_rules.noting e w) o → OptionalEffectPart a w (after_effect declaration_rules.noting e w) (option_map Some o)
    some None p = tt
    some (Some e) p = p

abbrev StartPart : UnitTree → List LocalTree → (w v : W) → Option tree.ForStartTree → Type 0
StartPart u ls w v None = Unit {0}
StartPart u ls w v (Some t) = IsForStart (around u ls w) t × Steps w v (calls_at_start t) (objects_at_start t)

record Starting (u : UnitTree) (ls : List LocalTree) (w v : W) (o : Option tree.ForStartTree) : Type 0 where
  names : NamesAre (around u ls v) (here v)
  part : StartPart u ls w v o

optional_names : (u : UnitTree) (ls : List LocalTree) (w : W) (e : Option ExpressionTree) → NamesAre (around u ls w) (here w) → NamesAre (around u ls (after_optional_effect declaration_rules.noting e w)) (here (after_optional_effect declaration_rules.noting e w))
optional_names u ls w None n = n
optional_names u ls w (Some e) n = n

optional_value_names : (u : UnitTree) (ls : List LocalTree) (w : W) (e : Option ExpressionTree) → NamesAre (around u ls w) (here w) → NamesAre (around u ls (after_optional_value declaration_rules.noting e w)) (here (after_optional_value declaration_rules.noting e w))
optional_value_names u ls w None n = n
optional_value_names u ls w (Some e) n = n

starting : (u : UnitTree) (ls : List LocalTree) (w : W) (s : ForStartTree) → NamesAre (around u ls w) (here w) → StartHas s → Begins u ls (after_start declaration_rules.noting s w) → (after_start declaration_rules.noting s w).found ≡ None
    → Starting u ls w (after_start declaration_rules.noting s w) (start_at declaration_rules.noting s w)
starting u ls w (declaration d) n k b h =
    let all = declarations.declaration u ls d k w n b h in
    record { names = all.names; part = listed (declaration_trees_at declaration_rules.noting d w) all.part }
  where
    listed : (o : Option (List DeclaredTree)) → AllDeclaredPart u ls w (after_declaration declaration_rules.noting d w) o → StartPart u ls w (after_declaration declaration_rules.noting d w) (option_map tree.declarations o)
    listed None p = tt
    listed (Some ds) p = p
starting u ls w (expression e) n k b h = record { names = optional_names u ls w e n; part = some (optional_effect_at w e) (optional_effect (around u ls w) w e n k h) }
  where
    some : (o : Option (Option EffectTree)) → OptionalEffectPart (around u ls w) w (after_optional_effect declaration_rules.noting e w) o → StartPart u ls w (after_optional_effect declaration_rules.noting e w) (option_map tree.expression o)
    some None p = tt
    some (Some e) p = p

for_statement : (u : UnitTree) (ls : List LocalTree) (m : Marks) (o w v x y z e : W) (p : Pos) (start : Option tree.ForStartTree) (test : Option (Option ValueTree)) (third : Option (Option EffectTree)) (s : Option tree.StatementTree)
    → w.calls ≡ o.calls → w.locals ≡ o.locals → e.calls ≡ z.calls → e.locals ≡ z.locals
    → StartPart u ls w v start → OptionalPart (around u ls v) v x test → OptionalEffectPart (around u ls v) x y third → StatementPart u ls m y z s
    → StatementPart u ls m o e (of_both (for_tree p) (of_three a_head start test third) s)
unfolding IsStatement calls_in_statement objects_in
for_statement u ls m o w v x y z e p None test third s a b c d g h k l = tt
for_statement u ls m o w v x y z e p (Some start) None third s a b c d g h k l = tt
for_statement u ls m o w v x y z e p (Some start) (Some test) None s a b c d g h k l = tt
for_statement u ls m o w v x y z e p (Some start) (Some test) (Some third) None a b c d g h k l = tt
for_statement u ls m o w v x y z e p (Some start) (Some test) (Some third) (Some s) a b c d g h k l =
    let n = objects_at_start start in
    let one = steps_value w v x (calls_at_start start) (calls_if test) n g.1 h.1 in
    let two = steps_value w x y (calls_at_start start ++ calls_if test) (calls_in_effect_if third) n one k.1 in
    let all = steps w y z (calls_at_start start ++ calls_if test ++ calls_in_effect_if third) (calls_in_statement s) n (objects_in s) two l.1 in
    let begins : length w.locals ≡ length o.locals = ap length b in
    let behind_start : length v.locals ≡ length o.locals + n = g.1.objects ∙ ap (λ (i : ℕ). i + n) begins in
    let behind_third : length y.locals ≡ length o.locals + n = two.objects ∙ ap (λ (i : ℕ). i + n) begins in (
      (
        subst (λ (i : ℕ). IsForStart (at u ls i) start) begins g.0,
        subst (λ (i : ℕ). IsValueIf (at u ls i) test) behind_start h.0,
        subst (λ (i : ℕ). IsEffectIf (at u ls i) third) behind_start k.0,
        subst (λ (i : ℕ). IsStatement (at u ls i) m s) behind_third l.0,
      ),
      record {
        sites = all.sites;
        calls = c ∙ (all.calls ∙ ap (λ (cs : List _). cs ++ all.sites) a);
        listed = all.listed ∙ ap (λ (cs : List _). listed.numbered (length cs) all.sites) a;
        objects = ap length d ∙ (all.objects ∙ ap (λ (i : ℕ). i + (n + objects_in s)) begins);
      },
    )

-- ---- items

declared_items : (u : UnitTree) (ls : List LocalTree) (m : Marks) (k : ℕ) (ds : List DeclaredTree) (is : tree.ItemTrees) → AreDeclared (at u ls k) ds → AreItems (at u ls (k + objects_in_all_declared ds)) m is → AreItems (at u ls k) m (declared_all ds is)
unfolding AreItems
declared_items u ls m k [] is g h = subst (λ (n : ℕ). AreItems (at u ls n) m is) (add-zero k) h
declared_items u ls m k (d ∷ ds) is g h =
    let one = objects_in_declared d in
    let same : k + (one + objects_in_all_declared ds) ≡ k + one + objects_in_all_declared ds = omega arith in
    (g.0, declared_items u ls m (k + one) ds is g.1 (subst (λ (n : ℕ). AreItems (at u ls n) m is) same h))

declared_calls : (ds : List DeclaredTree) (is : tree.ItemTrees) → calls_in_items (declared_all ds is) ≡ calls_in_all_declared ds ++ calls_in_items is
unfolding calls_in_items
declared_calls [] is = refl
declared_calls (d ∷ ds) is = ap (λ (cs : List Numbered). calls_in_declared d ++ cs) (declared_calls ds is) ∙ sym (append_assoc (calls_in_declared d) (calls_in_all_declared ds) (calls_in_items is))

declared_objects : (ds : List DeclaredTree) (is : tree.ItemTrees) → objects_in_items (declared_all ds is) ≡ objects_in_all_declared ds + objects_in_items is
unfolding objects_in_items
declared_objects [] is = omega arith
declared_objects (d ∷ ds) is = let h = declared_objects ds is in omega (h, arith)

declared_first : (u : UnitTree) (ls : List LocalTree) (m : Marks) (w v x : W) (ds : Option (List DeclaredTree)) (is : Option tree.ItemTrees) → AllDeclaredPart u ls w v ds → ItemsPart u ls m v x is → ItemsPart u ls m w x (of_both declared_all ds is)
declared_first u ls m w v x None is g h = tt
declared_first u ls m w v x (Some ds) None g h = tt
declared_first u ls m w v x (Some ds) (Some is) g h = (
  declared_items u ls m (length w.locals) ds is g.0 (subst (λ (n : ℕ). AreItems (at u ls n) m is) g.1.objects h.0),
  steps_as w x (calls_in_all_declared ds ++ calls_in_items is) (calls_in_items (declared_all ds is)) (objects_in_all_declared ds + objects_in_items is) (objects_in_items (declared_all ds is))
      (steps w v x (calls_in_all_declared ds) (calls_in_items is) (objects_in_all_declared ds) (objects_in_items is) g.1 h.1) (declared_calls ds is) (declared_objects ds is),
)

statement_first : (u : UnitTree) (ls : List LocalTree) (m : Marks) (w v x : W) (s : Option tree.StatementTree) (is : Option tree.ItemTrees) → StatementPart u ls m w v s → ItemsPart u ls m v x is
    → ItemsPart u ls m w x (of_both tree.statement_before s is)
unfolding AreItems calls_in_items objects_in_items
statement_first u ls m w v x None is g h = tt
statement_first u ls m w v x (Some s) None g h = tt
statement_first u ls m w v x (Some s) (Some is) g h =
    ((g.0, subst (λ (n : ℕ). AreItems (at u ls n) m is) g.1.objects h.0), steps w v x (calls_in_statement s) (calls_in_items is) (objects_in s) (objects_in_items is) g.1 h.1)

-- ---- the walk

from_there : (a : Around) (w v x : W) (o : Option ValueTree) → v.calls ≡ w.calls → v.locals ≡ w.locals → ValuePart a v x o → ValuePart a w x o
from_there a w v x None b c h = tt
from_there a w v x (Some e) b c h = (h.0, value_steps w v x [] (calls_in e) 0 (steps_none w v b c) h.1)

-- a statement that adds nothing
nothing : (u : UnitTree) (ls : List LocalTree) (m : Marks) (w v : W) (t : tree.StatementTree) → v.calls ≡ w.calls → v.locals ≡ w.locals → IsStatement (around u ls w) m t → calls_in_statement t ≡ [] → objects_in t ≡ 0
    → StatementPart u ls m w v (Some t)
nothing u ls m w v t a b h c k = (h, steps_as w v [] (calls_in_statement t) 0 (objects_in t) (steps_none w v a b) c k)

no_items_part : (u : UnitTree) (ls : List LocalTree) (m : Marks) (w : W) → ItemsPart u ls m w w (Some tree.no_items)
unfolding AreItems calls_in_items objects_in_items
no_items_part u ls m w = (tt, steps_none w w refl refl)

-- the names at the third part of a `for`, where no more objects are declared than at its test
value_names : (u : UnitTree) (ls : List LocalTree) (w : W) (e : Option ExpressionTree) → NamesAre (around u ls w) (here w) → NamesAre (around u ls w) (here (after_optional_value declaration_rules.noting e w))
value_names u ls w None n = n
value_names u ls w (Some e) n = n

names_behind : (u : UnitTree) (ls : List LocalTree) (w v : W) → Later w v → v.scoping ≡ w.scoping → NamesAre (around u ls w) (here w) → NamesAre (around u ls v) (here v)
names_behind u ls w v l same n = subst (λ (s : Scoping). NamesAre (around u ls v) (names_in s)) (sym same) (names_later u ls w v (here w) l n)

mutual
  unfolding after after_items typed typed_items StatementHas ItemsHave IsStatement calls_in_statement objects_in

  pub statements : (u : UnitTree) (ls : List LocalTree) (r : Typing) (labels : Labels) (m : Marks) → Fitting m r labels → (p : P) (s : StatementTree) → NamesAre (around u ls p.walked) (here p.walked) → StatementHas s
      → Ends u ls m (after statement_rules.noting r p s) → StatementPart u ls m p.walked (after statement_rules.noting r p s).walked (typed statement_rules.noting r labels p s)
  statements u ls r labels m b p (ast.block opened items closed) n k e =
      let i = inside p in
      let q = after_items statement_rules.noting r i items in
      block_statement u ls m p.walked i.walked q.walked (outside p q).walked opened (typed_items statement_rules.noting r labels i items) refl refl refl refl
      (items_part u ls r labels m b i items (names_opened (around u ls i.walked) p.walked.scoping n) k (record { begins = record { rest = e.begins.rest; is = e.begins.is; statics = e.begins.statics }; found = e.found; cases = e.cases; default = e.default }))
  statements u ls r labels m b p (ast.empty at) n k e = nothing u ls m p.walked p.walked (tree.empty at) refl refl tt refl refl
  statements u ls r labels m b p (ast.expression_statement x) n k e =
      effect_statement u ls m p.walked (after_effect declaration_rules.noting x p.walked) (first_place_of x) (effect_at p.walked x) (effect_part (around u ls p.walked) p.walked x n k e.found)
  statements u ls r labels m b p (ast.label x s) n k e =
      label_statement u ls m p.walked (after statement_rules.noting r p s).walked x.at (labels (spelled p.walked.scoping.text x)) (typed statement_rules.noting r labels p s) (b.0 (spelled p.walked.scoping.text x)) (statements u ls r labels m b p s n k e)
  statements u ls r labels m b p (ast.case at x s) n k e =
      let q = with_case declaration_rules.noting at x p in
      let l = ends_before u ls m q _ (later_statement r q s) e in
      case_statement u ls m p.walked q.walked (after statement_rules.noting r q s).walked at (length p.cases) (typed statement_rules.noting r labels q s) (one_longer p.cases (record { at = at; value = number_in (evaluated p.walked x) }) m.cases l.cases) (constant_steps x p.walked l.found)
      (statements u ls r labels m b q s n k.1 e)
  statements u ls r labels m b p (ast.default at s) n k e =
      let q = with_default p in
      default_statement u ls m p.walked (after statement_rules.noting r q s).walked at (typed statement_rules.noting r labels q s) (e.default ((later_statement r q s).default refl)) (statements u ls r labels m b q s n k e)
  statements u ls r labels m b p (ast.if_then at x s) n k e =
      let q = on (after_value declaration_rules.noting x) p in
      let l = ends_before u ls m q _ (later_statement r q s) e in
      then_statement u ls m p.walked q.walked (after statement_rules.noting r q s).walked at (value_at p.walked x) (typed statement_rules.noting r labels q s) (value_part (around u ls p.walked) p.walked x n k.0 l.found) (statements u ls r labels m b q s n k.1 e)
  statements u ls r labels m b p (ast.if_else at x s t) n k e =
      let q = on (after_value declaration_rules.noting x) p in
      let o = after statement_rules.noting r q s in
      let l = ends_before u ls m o _ (later_statement r o t) e in
      let i = ends_before u ls m q _ (later_statement r q s) l in
      else_statement u ls m p.walked q.walked o.walked (after statement_rules.noting r o t).walked at (value_at p.walked x) (typed statement_rules.noting r labels q s) (typed statement_rules.noting r labels o t) (value_part (around u ls p.walked) p.walked x n k.0 i.found)
      (statements u ls r labels m b q s n k.1 l) (statements u ls r labels m b o t (names_behind u ls q.walked o.walked (later_statement r q s).walked (same_scope r q s) n) k.2 e)
  statements u ls r labels m b p (ast.switch at x s) n k e =
      let q = in_switch (on (after_value declaration_rules.noting x) p) in
      let o = after statement_rules.noting r q s in
      let t = type_of (here p.walked) x in
      let f = (later_failing (repeated_cases t o.cases) o.walked).found e.found in
      let inner : Ends u ls (good.in_switch (length o.cases) o.has_default m) o = record { begins = record { rest = e.begins.rest; is = e.begins.is; statics = e.begins.statics }; found = f; cases = omega arith; default = λ h. h } in
      let l = ends_before u ls (good.in_switch (length o.cases) o.has_default m) q o (later_statement r q s) inner in
      switch_statement u ls m p.walked q.walked o.walked (after_switch statement_rules.noting t p.cases p.has_default o).walked at o (value_at p.walked x) t (typed statement_rules.noting r labels q s) refl refl (value_part (around u ls p.walked) p.walked x n k.0 l.found)
      (statements u ls r labels (good.in_switch (length o.cases) o.has_default m) b q s n k.1 inner)
  statements u ls r labels m b p (ast.while at x s) n k e =
      let q = on (after_value declaration_rules.noting x) p in
      let l = ends_before u ls m q _ (later_statement r q s) e in
      while_statement u ls m p.walked q.walked (after statement_rules.noting r q s).walked at (value_at p.walked x) (typed statement_rules.noting r labels q s) (value_part (around u ls p.walked) p.walked x n k.0 l.found) (statements u ls r labels m b q s n k.1 e)
  statements u ls r labels m b p (ast.do_while at s x) n k e =
      let q = after statement_rules.noting r p s in
      let l = ends_before u ls m q (on (after_value declaration_rules.noting x) q) (later_on (after_value declaration_rules.noting x) q (later_value x q.walked)) e in
      do_statement u ls m p.walked q.walked (after_value declaration_rules.noting x q.walked) at (typed statement_rules.noting r labels p s) (value_at q.walked x) (statements u ls r labels m b p s n k.0 l)
      (value_part (around u ls p.walked) q.walked x (subst (λ (c : Scoping). NamesAre (around u ls p.walked) (names_in c)) (sym (same_scope r p s)) n) k.1 e.found)
  statements u ls r labels m b p (ast.for_loop at start test step s) n k e =
      let i = inside p in
      let v = after_start declaration_rules.noting start i.walked in
      let x = after_optional_value declaration_rules.noting test v in
      let y = after_optional_effect declaration_rules.noting step x in
      let q = on (after_head declaration_rules.noting start test step) i in
      let o = after statement_rules.noting r q s in
      let inner : Ends u ls m o = record { begins = record { rest = e.begins.rest; is = e.begins.is; statics = e.begins.statics }; found = e.found; cases = e.cases; default = e.default } in
      let l = ends_before u ls m q o (later_statement r q s) inner in
      let fx = (later_optional_effect step x).found l.found in
      let fv = (later_optional_value test v).found fx in
      let bv = begins_before u ls v y (later v x y (later_optional_value test v) (later_optional_effect step x)) l.begins in
      let first = starting u ls i.walked start (names_opened (around u ls i.walked) p.walked.scoping n) k.0 bv fv in
      let nx = optional_value_names u ls v test first.names in
      for_statement u ls m p.walked i.walked v x y o.walked (outside p o).walked at (start_at declaration_rules.noting start i.walked) (optional_value_at v test) (optional_effect_at x step) (typed statement_rules.noting r labels q s) refl refl refl refl
      first.part (optional_value (around u ls v) v test first.names k.1 fx) (optional_effect (around u ls v) x step (value_names u ls v test first.names) k.2 l.found)
      (statements u ls r labels m b q s (optional_names u ls x step nx) k.3 inner)
  statements u ls r labels m b p (ast.goto at x) n k e = goto_statement u ls m p.walked at (labels (spelled p.walked.scoping.text x)) (b.0 (spelled p.walked.scoping.text x))
  statements u ls r labels m b p (ast.continue at) n k e = nothing u ls m p.walked p.walked (tree.continue at) refl refl tt refl refl
  statements u ls r labels m b p (ast.break at) n k e = nothing u ls m p.walked p.walked (tree.break at) refl refl tt refl refl
  statements u ls r labels m b p (ast.return at None) n k e = nothing u ls m p.walked (after statement_rules.noting r p (ast.return at None)).walked (tree.return at None) refl refl
      (let none = returns_nothing r (holds_not _ _ _ (none_found p.walked.found (fails_if (returns_otherwise r false) rule.Return at) e.found).1) b.2 in subst (λ (q : Option IntType). IsReturned (around u ls p.walked) q None) (sym (b.1 ∙ none)) tt) refl refl
  statements u ls r labels m b p (ast.return at (Some x)) n k e =
      let fs = fails_if (returns_otherwise r true) rule.Return at in
      let w = failing noted fs p.walked in
      let s = value_part (around u ls p.walked) w x n k e.found in
      let some = returns_value r (holds_not _ _ _ (none_found p.walked.found fs ((later_value x w).found e.found)).1) b.2 in
      return_statement u ls m p.walked (after_value declaration_rules.noting x w) at some.0 (value_at w x) (b.1 ∙ some.1) (from_there (around u ls p.walked) p.walked w (after_value declaration_rules.noting x w) (value_at w x) refl refl s)

  pub items_part : (u : UnitTree) (ls : List LocalTree) (r : Typing) (labels : Labels) (m : Marks) → Fitting m r labels → (p : P) (is : ItemTrees) → NamesAre (around u ls p.walked) (here p.walked) → ItemsHave is
      → Ends u ls m (after_items statement_rules.noting r p is) → ItemsPart u ls m p.walked (after_items statement_rules.noting r p is).walked (typed_items statement_rules.noting r labels p is)
  items_part u ls r labels m b p no_items n k e = no_items_part u ls m p.walked
  items_part u ls r labels m b p (declaration_then x d is) n k e =
      let q = on (after_block_declaration declaration_rules.noting x d) p in
      let l = ends_before u ls m q _ (later_items r q is) e in
      let all = block_declaration u ls x d k.0 p.walked n l.begins l.found in
      declared_first u ls m p.walked q.walked (after_items statement_rules.noting r q is).walked (block_declaration_at declaration_rules.noting x d p.walked) (typed_items statement_rules.noting r labels q is) all.part (items_part u ls r labels m b q is all.names k.1 e)
  items_part u ls r labels m b p (statement_then s is) n k e =
      let q = after statement_rules.noting r p s in
      let l = ends_before u ls m q _ (later_items r q is) e in
      statement_first u ls m p.walked q.walked (after_items statement_rules.noting r q is).walked (typed statement_rules.noting r labels p s) (typed_items statement_rules.noting r labels q is) (statements u ls r labels m b p s n k.0 l)
      (items_part u ls r labels m b q is (names_behind u ls p.walked q.walked (later_statement r p s).walked (same_scope r p s) n) k.1 e)
