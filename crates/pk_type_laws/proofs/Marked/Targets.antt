-- In accepted functions jumps out of loops and switches have their targets.
use Rattle.std.proofs.Common.{◌≡◌, ℕ, Bool, true, false, not, List, [], ◌∷◌, Option, Some, None, refl, subst}
use Rattle.std.specs.Prelude.{◌||◌, is_some}
use Rattle.std.specs.Option.{option_map}
use Rattle.pk_ctypes.specs.declared.places.Pos.{Pos}
use Rattle.pk_ast.specs.Places.{first_place_of}
use Rattle.pk_ast.specs.Trees as ast
use Rattle.pk_ast.specs.Trees.{declaration, expression, StatementTree, ItemTrees, no_items, declaration_then, statement_then}
use Rattle.pk_ctypes.specs.Conversions.{promoted}
use Rattle.std.specs.Prelude.{ℤ}
use Rattle.pk_typed.specs.Trees as tree
use Rattle.pk_typed.specs.Trees.{ValueTree, EffectTree, DeclaredTree}
use Rattle.pk_type_scope.specs.declared.declarations.Typing.{Typing}
use Rattle.pk_type_scope.specs.declared.declarations.Typing.TheVariants.{Void, Integer, Unknown}
use Rattle.pk_type_scope.specs.Scopes.{spelled}
use Rattle.pk_type_expression.specs.Typed.{of_both}
use Rattle.pk_type_expression.specs.Types.{type_of}
use Rattle.pk_type_declaration.specs.Statics.{after_block_declaration, block_declaration_at}
use Rattle.pk_type_declaration.specs.Walks.{here, after_value, value_at, effect_at}
use Rattle.pk_type_declaration.specs.Rules as declarations
use Rattle.pk_type_jump.specs.declared.labels.Label.{Label}
use Rattle.pk_type_jump.specs.Jumps as jump
use Rattle.pk_type_jump.specs.Jumps.{Around, Jumped, misplaced_if, is_out_of_place, with_default_flag, looped, switched, within_next, jumped, jumped_items}
use Rattle.pk_type_statement.specs.Statements as statements
use Rattle.pk_type_statement.specs.Statements.{on, with_case, with_default, in_switch, after_head, after, after_items}
use Rattle.pk_type_statement.specs.Trees.{numbered, label_at, of_three, case_numbers, ended_as, ended, switch_of, optional_value_at, HeadTree, head_at, for_tree, declared_all, typed, typed_items}
use Rattle.pk_type_statement.specs.Rules as statement_rules
use Rattle.pk_welltyped.specs.Marks.{HasTargets, HaveTargets}
use Rattle.pk_type_laws.proofs.Accepted.Jumps.{before, items_before, none_after}
use Rattle.pk_type_laws.proofs.Accepted.Statements.{P}

abbrev pub TargetsIf : (bs cs : Bool) → Option tree.StatementTree → Type 0
TargetsIf bs cs None = Unit {0}
TargetsIf bs cs (Some t) = HasTargets bs cs t

abbrev pub ItemTargetsIf : (bs cs : Bool) → Option tree.ItemTrees → Type 0
ItemTargetsIf bs cs None = Unit {0}
ItemTargetsIf bs cs (Some t) = HaveTargets bs cs t

-- where a loop or a switch is around
abbrev breaks : Around → Bool
breaks a = a.in_loop || is_some a.switch

-- ---- statements of their parts

effect_reaches : (bs cs : Bool) (p : Pos) (e : Option EffectTree) → TargetsIf bs cs (option_map (tree.effect p) e)
unfolding HasTargets
effect_reaches bs cs p None = tt
effect_reaches bs cs p (Some e) = tt

return_reaches : (bs cs : Bool) (p : Pos) (e : Option (Option ValueTree)) → TargetsIf bs cs (option_map (tree.return p) e)
unfolding HasTargets
return_reaches bs cs p None = tt
return_reaches bs cs p (Some e) = tt

goto_reaches : (bs cs : Bool) (p : Pos) (l : Option ℕ) → TargetsIf bs cs (option_map (tree.goto p) l)
unfolding HasTargets
goto_reaches bs cs p None = tt
goto_reaches bs cs p (Some l) = tt

block_reaches : (bs cs : Bool) (p : Pos) (is : Option tree.ItemTrees) → ItemTargetsIf bs cs is → TargetsIf bs cs (option_map (tree.block p) is)
unfolding HasTargets
block_reaches bs cs p None h = tt
block_reaches bs cs p (Some is) h = h

label_reaches : (bs cs : Bool) (p : Pos) (o : Option Label) (s : Option tree.StatementTree) → TargetsIf bs cs s → TargetsIf bs cs (of_both (tree.label p) (numbered o) s)
unfolding HasTargets
label_reaches bs cs p None s h = tt
label_reaches bs cs p (Some l) None h = tt
label_reaches bs cs p (Some l) (Some s) h = h

case_reaches : (bs cs : Bool) (p : Pos) (i : ℕ) (s : Option tree.StatementTree) → TargetsIf bs cs s → TargetsIf bs cs (option_map (tree.case p i) s)
unfolding HasTargets
case_reaches bs cs p i None h = tt
case_reaches bs cs p i (Some s) h = h

default_reaches : (bs cs : Bool) (p : Pos) (s : Option tree.StatementTree) → TargetsIf bs cs s → TargetsIf bs cs (option_map (tree.default p) s)
unfolding HasTargets
default_reaches bs cs p None h = tt
default_reaches bs cs p (Some s) h = h

then_reaches : (bs cs : Bool) (p : Pos) (e : Option ValueTree) (s : Option tree.StatementTree) → TargetsIf bs cs s → TargetsIf bs cs (of_both (tree.if_then p) e s)
unfolding HasTargets
then_reaches bs cs p None s h = tt
then_reaches bs cs p (Some e) None h = tt
then_reaches bs cs p (Some e) (Some s) h = h

else_reaches : (bs cs : Bool) (p : Pos) (v : Option ValueTree) (s t : Option tree.StatementTree) → TargetsIf bs cs s → TargetsIf bs cs t → TargetsIf bs cs (of_three (tree.if_else p) v s t)
unfolding HasTargets
else_reaches bs cs p None s t h k = tt
else_reaches bs cs p (Some v) None t h k = tt
else_reaches bs cs p (Some v) (Some s) None h k = tt
else_reaches bs cs p (Some v) (Some s) (Some t) h k = (h, k)

while_reaches : (bs cs : Bool) (p : Pos) (e : Option ValueTree) (s : Option tree.StatementTree) → TargetsIf true true s → TargetsIf bs cs (of_both (tree.while p) e s)
unfolding HasTargets
while_reaches bs cs p None s h = tt
while_reaches bs cs p (Some e) None h = tt
while_reaches bs cs p (Some e) (Some s) h = h

do_reaches : (bs cs : Bool) (p : Pos) (s : Option tree.StatementTree) (e : Option ValueTree) → TargetsIf true true s → TargetsIf bs cs (of_both (tree.do_while p) s e)
unfolding HasTargets
do_reaches bs cs p None e h = tt
do_reaches bs cs p (Some s) None h = tt
do_reaches bs cs p (Some s) (Some e) h = h

for_reaches : (bs cs : Bool) (p : Pos) (e : Option HeadTree) (s : Option tree.StatementTree) → TargetsIf true true s → TargetsIf bs cs (of_both (for_tree p) e s)
unfolding HasTargets
for_reaches bs cs p None s h = tt
for_reaches bs cs p (Some e) None h = tt
for_reaches bs cs p (Some e) (Some s) h = h

switch_reaches : (bs cs : Bool) (p : Pos) (v : Option ValueTree) (ty : Typing) (q : P) (s : Option tree.StatementTree) → TargetsIf true cs s → TargetsIf bs cs (of_three (switch_of p) v (ended ty q) s)
unfolding HasTargets
switch_reaches bs cs p None ty q s h = tt
switch_reaches bs cs p (Some v) Void q s h = tt
switch_reaches bs cs p (Some v) Unknown q s h = tt
switch_reaches bs cs p (Some v) (Integer t) q s h = known (case_numbers (promoted t) q.cases) s h
  where
    known : (o : Option (List ℤ)) → (s : Option tree.StatementTree) → TargetsIf true cs s → TargetsIf bs cs (of_three (switch_of p) (Some v) (option_map (ended_as (promoted t) q.has_default) o) s)
    known None s h = tt
    known (Some zs) None h = tt
    known (Some zs) (Some s) h = h

-- ---- items

declared_first : (bs cs : Bool) (ds : List DeclaredTree) (is : tree.ItemTrees) → HaveTargets bs cs is → HaveTargets bs cs (declared_all ds is)
unfolding HaveTargets
declared_first bs cs [] is h = h
declared_first bs cs (v ∷ ds) is h = declared_first bs cs ds is h

declared_reach : (bs cs : Bool) (ds : Option (List DeclaredTree)) (is : Option tree.ItemTrees) → ItemTargetsIf bs cs is → ItemTargetsIf bs cs (of_both declared_all ds is)
declared_reach bs cs None is h = tt
declared_reach bs cs (Some ds) None h = tt
declared_reach bs cs (Some ds) (Some is) h = declared_first bs cs ds is h

items_reach : (bs cs : Bool) (s : Option tree.StatementTree) (is : Option tree.ItemTrees) → TargetsIf bs cs s → ItemTargetsIf bs cs is → ItemTargetsIf bs cs (of_both tree.statement_before s is)
unfolding HaveTargets
items_reach bs cs None is h k = tt
items_reach bs cs (Some s) None h k = tt
items_reach bs cs (Some s) (Some is) h k = (h, k)

nothing_reaches : (bs cs : Bool) → ItemTargetsIf bs cs (Some tree.no_items)
unfolding HaveTargets
nothing_reaches bs cs = tt

-- ---- the walk

or_true : (b : Bool) → (b || true) ≡ true
or_true true = refl
or_true false = refl

-- a jump that isn't misplaced
is_placed : (b : Bool) (at : Pos) (j : Jumped) → (misplaced_if (not b) at j).misplaced ≡ [] → b ≡ true
is_placed true at j h = refl
is_placed false at j h = absurd (one (none_after j.misplaced (at ∷ []) h)) where
  one : at ∷ [] ≡ [] → ⊥
  one e = absurd (cc e)

mutual
  unfolding after after_items typed typed_items jumped jumped_items HasTargets HaveTargets

  reaches : (text : List ℕ) (f : List ℕ → Option Label) (r : Typing) (a : Around) (j : Jumped) (p : P) (s : StatementTree) → (jumped text f a j s).misplaced ≡ [] → TargetsIf (breaks a) a.in_loop (typed statement_rules.noting r f p s)
  reaches text f r a j p (ast.block opened items closed) k = block_reaches (breaks a) a.in_loop opened (typed_items statement_rules.noting r f (statements.inside p) items) (reaches_all text f r a j (statements.inside p) items k)
  reaches text f r a j p (ast.empty at) k = tt
  reaches text f r a j p (ast.expression_statement x) k = effect_reaches (breaks a) a.in_loop (first_place_of x) (effect_at p.walked x)
  reaches text f r a j p (ast.label x s) k = label_reaches (breaks a) a.in_loop x.at (f (spelled p.walked.scoping.text x)) (typed statement_rules.noting r f p s) (reaches text f r a j p s k)
  reaches text f r a j p (ast.case at x s) k =
      let q = with_case declarations.noting at x p in case_reaches (breaks a) a.in_loop at _ (typed statement_rules.noting r f q s) (reaches text f r a (misplaced_if (is_out_of_place a) at j) q s k)
  reaches text f r a j p (ast.default at s) k =
      let q = with_default p in default_reaches (breaks a) a.in_loop at (typed statement_rules.noting r f q s) (reaches text f r a (jump.with_default a at j) q s k)
  reaches text f r a j p (ast.if_then at x s) k =
      let q = on (after_value declarations.noting x) p in then_reaches (breaks a) a.in_loop at (value_at p.walked x) (typed statement_rules.noting r f q s) (reaches text f r a j q s k)
  reaches text f r a j p (ast.if_else at x s o) k =
      let q = on (after_value declarations.noting x) p in
      let v = after statement_rules.noting r q s in
      let i = jumped text f a j s in
      else_reaches (breaks a) a.in_loop at (value_at p.walked x) (typed statement_rules.noting r f q s) (typed statement_rules.noting r f v o) (reaches text f r a j q s (before text f a i o k)) (reaches text f r a i v o k)
  reaches text f r a j p (ast.switch at x s) k =
      let q = in_switch (on (after_value declarations.noting x) p) in
      let v = after statement_rules.noting r q s in
      switch_reaches (breaks a) a.in_loop at (value_at p.walked x) (type_of (here p.walked) x) v (typed statement_rules.noting r f q s)
      (subst (λ b. TargetsIf b a.in_loop (typed statement_rules.noting r f q s)) (or_true a.in_loop) (reaches text f r (switched a) (with_default_flag false j) q s k))
  reaches text f r a j p (ast.while at x s) k =
      let q = on (after_value declarations.noting x) p in while_reaches (breaks a) a.in_loop at (value_at p.walked x) (typed statement_rules.noting r f q s) (reaches text f r (looped a) j q s k)
  reaches text f r a j p (ast.do_while at s x) k = do_reaches (breaks a) a.in_loop at (typed statement_rules.noting r f p s) (value_at (after statement_rules.noting r p s).walked x) (reaches text f r (looped a) j p s k)
  reaches text f r a j p (ast.for_loop at (declaration x) test third s) k =
      let i = statements.inside p in
      let q = on (after_head declarations.noting (declaration x) test third) i in
      for_reaches (breaks a) a.in_loop at (head_at declarations.noting (declaration x) test third i.walked) (typed statement_rules.noting r f q s) (reaches text f r (looped (within_next j a)) (jump.with_declaration j) q s k)
  reaches text f r a j p (ast.for_loop at (expression x) test third s) k =
      let i = statements.inside p in
      let q = on (after_head declarations.noting (expression x) test third) i in
      for_reaches (breaks a) a.in_loop at (head_at declarations.noting (expression x) test third i.walked) (typed statement_rules.noting r f q s) (reaches text f r (looped a) j q s k)
  reaches text f r a j p (ast.goto at x) k = goto_reaches (breaks a) a.in_loop at (label_at f p.walked x)
  reaches text f r a j p (ast.continue at) k = is_placed a.in_loop at j k
  reaches text f r a j p (ast.break at) k = is_placed (breaks a) at j k
  reaches text f r a j p (ast.return at x) k = return_reaches (breaks a) a.in_loop at (optional_value_at p.walked x)

  pub reaches_all : (text : List ℕ) (f : List ℕ → Option Label) (r : Typing) (a : Around) (j : Jumped) (p : P) (is : ItemTrees) → (jumped_items text f a j is).misplaced ≡ [] → ItemTargetsIf (breaks a) a.in_loop (typed_items statement_rules.noting r f p is)
  reaches_all text f r a j p no_items k = nothing_reaches (breaks a) a.in_loop
  reaches_all text f r a j p (declaration_then z x is) k =
      let q = on (after_block_declaration declarations.noting z x) p in
      declared_reach (breaks a) a.in_loop (block_declaration_at declarations.noting z x p.walked) (typed_items statement_rules.noting r f q is) (reaches_all text f r (within_next j a) (jump.with_declaration j) q is k)
  reaches_all text f r a j p (statement_then s is) k =
      let q = after statement_rules.noting r p s in
      let i = jumped text f a j s in
      items_reach (breaks a) a.in_loop (typed statement_rules.noting r f p s) (typed_items statement_rules.noting r f q is) (reaches text f r a j p s (items_before text f a i is k)) (reaches_all text f r a i q is k)
