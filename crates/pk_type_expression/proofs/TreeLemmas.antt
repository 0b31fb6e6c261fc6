-- An expression in which no rule fails has a type, and a typed tree of that type.
use Rattle.std.proofs.Common.{◌≡◌, ℕ, ◌+◌, Bool, true, false, not, ◌&&◌, List, [], ◌∷◌, ◌++◌, Option, Some, None, length, refl, ap, sym, subst, ◌∙◌, arith, nat_eq, if◌then◌else◌}
use Rattle.std.proofs.lemmas.Bool.Decides.{nat_tests}
use Rattle.std.specs.Option.{is_some, option_map}
use Rattle.pk_ctypes.specs.declared.places.Pos.{Pos}
use Rattle.pk_ctypes.specs.declared.types.IntType.{IntType}
use Rattle.pk_ctypes.specs.declared.types.IntType.TheVariants.{Int}
use Rattle.pk_ctypes.specs.declared.types.Op.{Op}
use Rattle.pk_ctypes.specs.declared.words.Rule.{Rule}
use Rattle.pk_ctypes.specs.Conversions.{usual_of}
use Rattle.pk_ast.specs.declared.declarations.Specifier.{Specifier}
use Rattle.pk_ast.specs.declared.expressions.Identifier.{Identifier}
use Rattle.pk_ast.specs.declared.operators.StepOperator.{StepOperator}
use Rattle.pk_ast.specs.Operators.{binary_number_operator, unary_number_operator, assignment_number_operator}
use Rattle.pk_ast.specs.Trees as ast
use Rattle.pk_ast.specs.Trees.{OneOrMore, ExpressionTree, ExpressionTrees, name, call, index, constant, character, parenthesized, postfix, prefix, unary, cast, binary, conditional, assignment, comma, no_expressions, expression_then}
use Rattle.pk_typed.specs.declared.values.Variable.{Variable}
use Rattle.pk_typed.specs.Trees.{PlaceTree, ValueTree, ValueTrees, scalar, element, read, any, abort, no_values, value_before}
use Rattle.pk_typed.specs.Types as trees
use Rattle.pk_typed.specs.Types.{type_of_place}
use Rattle.pk_type_scope.specs.declared.declarations.Callee.{Callee}
use Rattle.pk_type_scope.specs.declared.declarations.Callee.TheVariants.{Ordinary, Any, Assume, Assert, Abort}
use Rattle.pk_type_scope.specs.declared.declarations.Declaration.{Declaration}
use Rattle.pk_type_scope.specs.declared.declarations.Declaration.TheVariants.{Object, Function, Enumerator, TypeName}
use Rattle.pk_type_expression.specs.declared.names.Target.{Target}
use Rattle.pk_type_scope.specs.declared.declarations.NamedType.{NamedType}
use Rattle.pk_type_scope.specs.declared.declarations.Typing.{Typing}
use Rattle.pk_type_scope.specs.declared.declarations.Typing.TheVariants.{Void, Integer, Unknown}
use Rattle.pk_type_scope.specs.declared.failures.Failure.{Failure}
use Rattle.pk_type_scope.specs.Declarations.{Names, HasTypes, is_void, is_unknown, is_object, is_function, is_array, is_scalar, is_type_name, type_meant, returned_by, arguments_of, own_site}
use Rattle.pk_type_scope.specs.Failures.{fails_if}
use Rattle.pk_type_scope.specs.Specifiers.{type_name_among, type_by, type_named, failures_by, word_failures}
use Rattle.pk_type_expression.specs.Types.{type_of, target_of, of_object, scalar_target, element_target, type_of_target, type_of_name, type_of_call, of_integer, of_integers, unary_type, binary_type}
use Rattle.pk_type_expression.specs.Typed.{EvaluatedTree, value, effect, value_of, effect_of, valued, operand_of, place_of, of_both, name_value, element_value, typed_call, call_of, called, if_none, only, step_value, unary_value, typed_cast, is_or, logical_value, binary_value, typed_conditional, assignment_value, comma_after, typed, typed_all, calls_after}
use Rattle.pk_type_expression.specs.Rules.{when, count, takes_others, undeclared, void, array, place, constness, arguments, unsequenced, own, failures, failures_used}
use Rattle.pk_type_expression.proofs.FailureLemmas.{when_fails_if}
use Rattle.pk_type_expression.specs.Laws.{IsTreeOf, AcceptedExpressionsHaveTrees}

-- no failures of two lists
pub none_before : (fs gs : List Failure) → fs ++ gs ≡ [] → fs ≡ []
none_before [] gs h = refl
none_before (f ∷ fs) gs h = absurd (cc)

pub none_after : (fs gs : List Failure) → fs ++ gs ≡ [] → gs ≡ []
none_after [] gs h = h
none_after (f ∷ fs) gs h = absurd (cc)

-- the rows at one expression
record NoneOfSix (a b c d e f : List Failure) : Type 0 where
  undeclared : a ≡ []
  array : b ≡ []
  place : c ≡ []
  constness : d ≡ []
  arguments : e ≡ []
  unsequenced : f ≡ []

none_of_six : (a b c d e f : List Failure) → a ++ b ++ c ++ d ++ e ++ f ≡ [] → NoneOfSix a b c d e f
none_of_six a b c d e f p =
    let p5 : a ++ b ++ c ++ d ++ e ≡ [] = none_before (a ++ b ++ c ++ d ++ e) f p in
    let p4 : a ++ b ++ c ++ d ≡ [] = none_before (a ++ b ++ c ++ d) e p5 in
    let p3 : a ++ b ++ c ≡ [] = none_before (a ++ b ++ c) d p4 in
    let p2 : a ++ b ≡ [] = none_before (a ++ b) c p3 in
    record {
      undeclared = none_before a b p2;
      array = none_after a b p2;
      place = none_after (a ++ b) c p3;
      constness = none_after (a ++ b ++ c) d p4;
      arguments = none_after (a ++ b ++ c ++ d) e p5;
      unsequenced = none_after (a ++ b ++ c ++ d ++ e) f p;
    }

abbrev OwnNone : Names → ExpressionTree → Type 0
OwnNone d e = NoneOfSix (undeclared d e) (array d e) (place d e) (constness d e) (arguments d e) (unsequenced d e)

own_none : (d : Names) (e : ExpressionTree) → own d e ≡ [] → OwnNone d e
own_none d e = none_of_six (undeclared d e) (array d e) (place d e) (constness d e) (arguments d e) (unsequenced d e)

pub holds_not : (b : Bool) (r : Rule) (at : Pos) → fails_if b r at ≡ [] → b ≡ false
holds_not true r at h = absurd (cc)
holds_not false r at h = refl

negated : (b : Bool) → not b ≡ false → b ≡ true
negated true h = refl
negated false h = absurd (cc)

pub same_number : (a b : ℕ) → not (nat_eq a b) ≡ false → a ≡ b
same_number a b h = grind (arith, nat_tests)

-- words that fail no row name a type, where each type name in scope has one
abbrev pub TypesAre : Names → Type 0
TypesAre d = (x : Identifier) (t : NamedType) → d x ≡ Some (TypeName t) → is_unknown t.typing ≡ false

pub types_are : (d : Names) → ((x : Identifier) → HasTypes (d x)) → TypesAre d
types_are d h x t is = subst HasTypes is (h x)

type_there : (o : Option Declaration) → ((t : NamedType) → o ≡ Some (TypeName t) → is_unknown t.typing ≡ false) → not (is_type_name o) ≡ false → is_unknown (type_meant o) ≡ false
type_there None h p = absurd (cc)
type_there (Some (Object o)) h p = absurd (cc)
type_there (Some (Function f)) h p = absurd (cc)
type_there (Some (Enumerator n)) h p = absurd (cc)
type_there (Some (TypeName t)) h p = h t refl

known_by : (d : Names) → TypesAre d → (o : Option Identifier) (words : OneOrMore Specifier) → failures_by d o words ≡ [] → is_unknown (type_by d o words) ≡ false
known_by d h None words p = holds_not _ _ _ p
known_by d h (Some x) words p = type_there (d x) (h x) (holds_not _ _ _ p)

pub known_type : (d : Names) → TypesAre d → (words : OneOrMore Specifier) → word_failures d words ≡ [] → is_unknown (type_named d words) ≡ false
unfolding type_named word_failures
known_type d h words p = known_by d h (type_name_among words) words p

-- a value of its type
record IsValue (t : Typing) (e : Option EvaluatedTree) : Type 0 where
  int_type : IntType
  tree : ValueTree
  is_type : t ≡ Integer int_type
  is_tree : e ≡ Some (value tree)
  has_type : trees.type_of tree ≡ int_type

value_there : (t : Typing) (e : Option EvaluatedTree) → IsTreeOf t e → is_void t ≡ false → IsValue t e
value_there t None h p = absurd h
value_there Void (Some (value v)) h p = absurd h
value_there Void (Some (effect e)) h p = absurd (cc)
value_there (Integer t) (Some (value v)) h p = record { int_type = t; tree = v; is_type = refl; is_tree = refl; has_type = h }
value_there (Integer t) (Some (effect e)) h p = absurd h
value_there Unknown (Some e) h p = absurd h

-- a place of what is changed
record IsPlace (t : Option Target) (e : Option EvaluatedTree) : Type 0 where
  tree : PlaceTree
  is_type : type_of_target t ≡ Integer (type_of_place tree)
  is_place : place_of e ≡ Some tree

name_tree : (o : Option Declaration) → HasTypes o → not (is_object o) ≡ false → is_array o ≡ false → IsTreeOf (type_of_name o) (valued (name_value o))
unfolding trees.type_of
name_tree None h p q = absurd (cc)
name_tree (Some (Object o)) h p q = rw (q, h.1) refl
name_tree (Some (Function f)) h p q = absurd (cc)
name_tree (Some (Enumerator v)) h p q = rw h.1 refl
name_tree (Some (TypeName t)) h p q = absurd (cc)

element_tree : (o : Option Declaration) (at : Pos) (t : Typing) (e : Option EvaluatedTree) → HasTypes o → not (is_object o) ≡ false → is_scalar o ≡ false → IsValue t e → IsTreeOf (type_of_target (of_object (element_target at) o)) (valued (of_object (element_value at (value_of e)) o))
unfolding trees.type_of
element_tree None at t e h p q v = absurd (cc)
element_tree (Some (Object o)) at t e h p q v = let is : o.is_array ≡ true = negated o.is_array q in rw (is, h.1, v.is_tree) refl
element_tree (Some (Function f)) at t e h p q v = absurd (cc)
element_tree (Some (Enumerator n)) at t e h p q v = absurd (cc)
element_tree (Some (TypeName u)) at t e h p q v = absurd (cc)

name_place_of : (b : Bool) (t : Option IntType) (x : Variable) (c : Bool)
    → IsTreeOf (type_of_target (if b then None else Some (record { variable = x; int_type = t; is_const = c; bracket = None }))) (valued (if b then None else option_map (λ u. read (scalar u x)) t))
    → IsPlace (if b then None else Some (record { variable = x; int_type = t; is_const = c; bracket = None })) (valued (if b then None else option_map (λ u. read (scalar u x)) t))
name_place_of true t x c h = absurd h
name_place_of false None x c h = absurd h
name_place_of false (Some t) x c h = record { tree = scalar t x; is_type = refl; is_place = refl }

name_place : (o : Option Declaration) → IsTreeOf (type_of_name o) (valued (name_value o)) → not (is_some (of_object scalar_target o)) ≡ false → IsPlace (of_object scalar_target o) (valued (name_value o))
name_place None h p = absurd h
name_place (Some (Function f)) h p = absurd h
name_place (Some (Enumerator n)) h p = absurd (cc)
name_place (Some (TypeName t)) h p = absurd h
name_place (Some (Object o)) h p = name_place_of o.is_array o.int_type o.variable o.is_const h

element_place_of : (b : Bool) (t : Option IntType) (x : Variable) (c : Bool) (at : Pos) (v : Option ValueTree)
    → IsTreeOf (type_of_target (if b then Some (record { variable = x; int_type = t; is_const = c; bracket = Some at }) else None)) (valued (if b then of_both (λ u w. read (element u x at w)) t v else None))
    → IsPlace (if b then Some (record { variable = x; int_type = t; is_const = c; bracket = Some at }) else None) (valued (if b then of_both (λ u w. read (element u x at w)) t v else None))
element_place_of false t x c at v h = absurd h
element_place_of true None x c at v h = absurd h
element_place_of true (Some t) x c at None h = absurd h
element_place_of true (Some t) x c at (Some v) h = record { tree = element t x at v; is_type = refl; is_place = refl }

element_place : (o : Option Declaration) (at : Pos) (v : Option ValueTree) → IsTreeOf (type_of_target (of_object (element_target at) o)) (valued (of_object (element_value at v) o)) → IsPlace (of_object (element_target at) o) (valued (of_object (element_value at v) o))
element_place None at v h = absurd h
element_place (Some (Function f)) at v h = absurd h
element_place (Some (Enumerator n)) at v h = absurd h
element_place (Some (TypeName t)) at v h = absurd h
element_place (Some (Object o)) at v h = element_place_of o.is_array o.int_type o.variable o.is_const at v h

-- what may be changed is read at its place
place_there : (d : Names) (n : ℕ) (e : ExpressionTree) → IsTreeOf (type_of d e) (typed d n e) → not (is_some (target_of d e)) ≡ false → IsPlace (target_of d e) (typed d n e)
unfolding type_of target_of typed
place_there d n (name x) h p = name_place (d x) h p
place_there d n (index x at i) h p = element_place (d x) at (value_of (typed d n i)) h
place_there d n (ast.element x at e column_at c) h p = absurd (cc)
place_there d n (parenthesized at e) h p = place_there d n e h p
place_there d n (call x es) h p = absurd (cc)
place_there d n (constant at t v) h p = absurd (cc)
place_there d n (character at v) h p = absurd (cc)
place_there d n (postfix op at e) h p = absurd (cc)
place_there d n (prefix op at e) h p = absurd (cc)
place_there d n (unary op at e) h p = absurd (cc)
place_there d n (cast at words e) h p = absurd (cc)
place_there d n (binary op at a b) h p = absurd (cc)
place_there d n (conditional at a b c) h p = absurd (cc)
place_there d n (assignment op at a b) h p = absurd (cc)
place_there d n (comma at a b) h p = absurd (cc)

step_tree : (op : StepOperator) (before : Bool) (at : Pos) (t : Option Target) (e : Option EvaluatedTree) → IsPlace t e → IsTreeOf (type_of_target t) (valued (option_map (step_value op before at) (place_of e)))
unfolding trees.type_of
step_tree op before at t e p = rw (p.is_type, p.is_place) refl

unary_has_type : (op : Option Op) (at : Pos) (t : IntType) (v : ValueTree) → trees.type_of (unary_value op at (record { int_type = t; tree = v })) ≡ unary_type op t
unfolding trees.type_of
unary_has_type None at t v = refl
unary_has_type (Some op) at t v = refl

unary_tree : (op : Option Op) (at : Pos) (t : Typing) (e : Option EvaluatedTree) → IsValue t e → IsTreeOf (of_integer (unary_type op) t) (valued (option_map (unary_value op at) (operand_of t e)))
unary_tree op at t e v = rw (v.is_type, v.is_tree) (unary_has_type op at v.int_type v.tree)

cast_tree : (to t : Typing) (e : Option EvaluatedTree) → is_unknown to ≡ false → IsTreeOf t e → (not (is_void to) && is_void t) ≡ false → IsTreeOf to (typed_cast to e)
unfolding trees.type_of
cast_tree Void t None p h q = absurd h
cast_tree Void t (Some e) p h q = tt
cast_tree (Integer u) t e p h q = let v : IsValue t e = value_there t e h q in rw v.is_tree refl
cast_tree Unknown t e p h q = absurd (cc)

logical_has_type : (b : Bool) (v w : ValueTree) → trees.type_of (logical_value b v w) ≡ Int
unfolding trees.type_of
logical_has_type true v w = refl
logical_has_type false v w = refl

binary_has_type : (op : Option Op) (b : Bool) (at : Pos) (t u : IntType) (v w : ValueTree) → trees.type_of (binary_value op b at (record { int_type = t; tree = v }) (record { int_type = u; tree = w })) ≡ binary_type op t u
unfolding trees.type_of
binary_has_type None b at t u v w = logical_has_type b v w
binary_has_type (Some op) b at t u v w = refl

binary_tree : (op : Option Op) (b : Bool) (at : Pos) (t u : Typing) (e f : Option EvaluatedTree) → IsValue t e → IsValue u f → IsTreeOf (of_integers (binary_type op) t u) (valued (of_both (binary_value op b at) (operand_of t e) (operand_of u f)))
binary_tree op b at t u e f v w = rw (v.is_type, v.is_tree, w.is_type, w.is_tree) (binary_has_type op b at v.int_type w.int_type v.tree w.tree)

conditional_tree : (t u v : Typing) (e f g : Option EvaluatedTree) → IsValue t e → IsValue u f → IsValue v g → IsTreeOf (of_integers usual_of u v) (valued (typed_conditional (operand_of t e) (operand_of u f) (operand_of v g)))
unfolding trees.type_of
conditional_tree t u v e f g x y z = rw (x.is_type, x.is_tree, y.is_type, y.is_tree, z.is_type, z.is_tree) refl

assignment_has_type : (op : Option Op) (at : Pos) (p : PlaceTree) (t : IntType) (v : ValueTree) → trees.type_of (assignment_value op at p (record { int_type = t; tree = v })) ≡ type_of_place p
unfolding trees.type_of
assignment_has_type None at p t v = refl
assignment_has_type (Some op) at p t v = refl

assignment_tree : (op : Option Op) (at : Pos) (o : Option Target) (e : Option EvaluatedTree) (u : Typing) (f : Option EvaluatedTree) → IsPlace o e → IsValue u f → IsTreeOf (type_of_target o) (valued (of_both (assignment_value op at) (place_of e) (operand_of u f)))
assignment_tree op at o e u f p w = rw (p.is_type, p.is_place, w.is_type, w.is_tree) (assignment_has_type op at p.tree w.int_type w.tree)

comma_tree : (t u : Typing) (e f : Option EvaluatedTree) → IsTreeOf t e → IsTreeOf u f → IsTreeOf u (of_both comma_after (effect_of e) f)
unfolding trees.type_of
comma_tree t u None f h k = absurd h
comma_tree t u (Some e) None h k = absurd k
comma_tree t Void (Some e) (Some (value v)) h k = absurd k
comma_tree t Void (Some e) (Some (effect f)) h k = tt
comma_tree t (Integer u) (Some e) (Some (value v)) h k = k
comma_tree t (Integer u) (Some e) (Some (effect f)) h k = absurd k
comma_tree t Unknown (Some e) (Some f) h k = absurd k

-- an expression that is used
used_value : (d : Names) (n : ℕ) (e : ExpressionTree) → void d e ≡ [] → IsTreeOf (type_of d e) (typed d n e) → IsValue (type_of d e) (typed d n e)
unfolding void
used_value d n e p h = value_there (type_of d e) (typed d n e) h (holds_not _ _ _ p)

-- values of all arguments
length_of : ValueTrees → ℕ
length_of no_values = 0
length_of (value_before v vs) = 1 + length_of vs

record AreValues (n : ℕ) (vs : Option ValueTrees) : Type 0 where
  trees : ValueTrees
  is_trees : vs ≡ Some trees
  has_length : length_of trees ≡ n

one_more : (n : ℕ) (t : Typing) (e : Option EvaluatedTree) (vs : Option ValueTrees) → IsValue t e → AreValues n vs → AreValues (1 + n) (of_both value_before (value_of e) vs)
unfolding length_of
one_more n t e vs v ws = record {
  trees = value_before v.tree ws.trees;
  is_trees = rw (v.is_tree, ws.is_trees) refl;
  has_length = ap (λ m. 1 + m) ws.has_length;
}

no_argument : {A : Type 0} (vs : ValueTrees) (x : A) → length_of vs ≡ 0 → if_none vs x ≡ Some x
unfolding length_of
no_argument no_values x h = refl
no_argument (value_before v vs) x h = absurd (omega (arith, h))

record HasOnly (vs : ValueTrees) : Type 0 where
  tree : ValueTree
  is : only vs ≡ Some tree

one_argument : (vs : ValueTrees) → length_of vs ≡ 1 → HasOnly vs
unfolding length_of
one_argument no_values h = absurd (omega (arith, h))
one_argument (value_before v no_values) h = record { tree = v; is = refl }
one_argument (value_before v (value_before w vs)) h = absurd (omega (arith, h))

called_tree : (t : Typing) (f n : ℕ) (at : Pos) (vs : ValueTrees) → is_unknown t ≡ false → IsTreeOf t (called t f n at vs)
unfolding trees.type_of
called_tree Void f n at vs p = tt
called_tree (Integer t) f n at vs p = refl
called_tree Unknown f n at vs p = absurd (cc)

callee_tree : (c : Callee) (f n : ℕ) (at : Pos) (vs : ValueTrees) → is_unknown (returned_by c) ≡ false → arguments_of c ≡ length_of vs → IsTreeOf (returned_by c) (call_of c f n at vs)
unfolding trees.type_of
callee_tree (Ordinary t k) f n at vs p h = called_tree t f n at vs p
callee_tree (Any t) f n at vs p h = rw (no_argument vs (any t at) (sym h)) refl
callee_tree Assume f n at vs p h = let o : HasOnly vs = one_argument vs (sym h) in rw o.is tt
callee_tree Assert f n at vs p h = let o : HasOnly vs = one_argument vs (sym h) in rw o.is tt
callee_tree Abort f n at vs p h = rw (no_argument vs (abort at) (sym h)) tt

call_tree : (o : Option Declaration) (n : ℕ) (at : Pos) (k : ℕ) (vs : Option ValueTrees) → HasTypes o → not (is_function o) ≡ false → takes_others o k ≡ false → AreValues k vs → IsTreeOf (type_of_call o) (typed_call o n at vs)
call_tree None n at k vs h p q v = absurd (cc)
call_tree (Some (Object o)) n at k vs h p q v = absurd (cc)
call_tree (Some (Enumerator m)) n at k vs h p q v = absurd (cc)
call_tree (Some (TypeName t)) n at k vs h p q v = absurd (cc)
call_tree (Some (Function f)) n at k vs h p q v = rw v.is_trees (callee_tree f.callee f.number n at v.trees h (same_number (arguments_of f.callee) k q ∙ sym v.has_length))

-- the walk
mutual
  unfolding failures failures_used undeclared array place constness arguments unsequenced void type_of target_of typed typed_all length_of trees.type_of

  tree_there : (d : Names) → ((x : Identifier) → HasTypes (d x)) → (n : ℕ) → (e : ExpressionTree) → failures d e ≡ [] → IsTreeOf (type_of d e) (typed d n e)
  tree_there d h n (name x) p =
      let o : OwnNone d (name x) = own_none d (name x) p in
      name_tree (d x) (h x) (holds_not _ _ _ o.undeclared) (holds_not _ _ _ o.array)
  tree_there d h n (call x es) p =
      let q : failures_used d es ++ own d (call x es) ≡ [] = p in
      let o : OwnNone d (call x es) = own_none d (call x es) (none_after (failures_used d es) (own d (call x es)) q) in
      call_tree (d x) n x.at (count es) (typed_all d (n + length (own_site x.at (d x))) es) (h x) (holds_not _ _ _ o.undeclared) (holds_not _ _ _ o.arguments)
      (trees_there d h (n + length (own_site x.at (d x))) es (none_before (failures_used d es) (own d (call x es)) q))
  tree_there d h n (index x at e) p =
      let q : failures d e ++ void d e ++ own d (index x at e) ≡ [] = p in
      let o : OwnNone d (index x at e) = own_none d (index x at e) (none_after (failures d e ++ void d e) (own d (index x at e)) q) in
      let used : failures d e ++ void d e ≡ [] = none_before (failures d e ++ void d e) (own d (index x at e)) q in
      element_tree (d x) at (type_of d e) (typed d n e) (h x) (holds_not _ _ _ o.undeclared) (holds_not _ _ _ o.array)
      (used_value d n e (none_after (failures d e) (void d e) used) (tree_there d h n e (none_before (failures d e) (void d e) used)))
  tree_there d h n (ast.element x at e column_at c) p =
      let q : failures d e ++ void d e ++ failures d c ++ void d c ++ own d (ast.element x at e column_at c) ≡ [] = p in
      let o : OwnNone d (ast.element x at e column_at c) = own_none d (ast.element x at e column_at c) (none_after (failures d e ++ void d e ++ failures d c ++ void d c) (own d (ast.element x at e column_at c)) q) in
      absurd (let t : true ≡ false = holds_not _ _ _ o.array in cc)
  tree_there d h n (constant at t v) p = refl
  tree_there d h n (character at v) p = refl
  tree_there d h n (parenthesized at e) p = tree_there d h n e p
  tree_there d h n (postfix op at e) p =
      let q : failures d e ++ void d e ++ own d (postfix op at e) ≡ [] = p in
      let o : OwnNone d (postfix op at e) = own_none d (postfix op at e) (none_after (failures d e ++ void d e) (own d (postfix op at e)) q) in
      let used : failures d e ++ void d e ≡ [] = none_before (failures d e ++ void d e) (own d (postfix op at e)) q in
      step_tree op false at (target_of d e) (typed d n e) (place_there d n e (tree_there d h n e (none_before (failures d e) (void d e) used)) (holds_not _ _ _ o.place))
  tree_there d h n (prefix op at e) p =
      let q : failures d e ++ void d e ++ own d (prefix op at e) ≡ [] = p in
      let o : OwnNone d (prefix op at e) = own_none d (prefix op at e) (none_after (failures d e ++ void d e) (own d (prefix op at e)) q) in
      let used : failures d e ++ void d e ≡ [] = none_before (failures d e ++ void d e) (own d (prefix op at e)) q in
      step_tree op true at (target_of d e) (typed d n e) (place_there d n e (tree_there d h n e (none_before (failures d e) (void d e) used)) (holds_not _ _ _ o.place))
  tree_there d h n (unary op at e) p =
      let q : failures d e ++ void d e ≡ [] = p in
      unary_tree (unary_number_operator op) at (type_of d e) (typed d n e)
      (used_value d n e (none_after (failures d e) (void d e) q) (tree_there d h n e (none_before (failures d e) (void d e) q)))
  tree_there d h n (cast at words e) p =
      let when_void : List Failure = when (not (is_void (type_named d words))) (void d e) in
      let q : word_failures d words ++ failures d e ++ when_void ≡ [] = p in
      let both : word_failures d words ++ failures d e ≡ [] = none_before (word_failures d words ++ failures d e) when_void q in
      cast_tree (type_named d words) (type_of d e) (typed d n e) (known_type d (types_are d h) words (none_before (word_failures d words) (failures d e) both))
      (tree_there d h n e (none_after (word_failures d words) (failures d e) both))
      (holds_not _ _ _ (sym (when_fails_if (not (is_void (type_named d words))) (is_void (type_of d e)) _ _) ∙ none_after (word_failures d words ++ failures d e) when_void q))
  tree_there d h n (binary op at a b) p =
      let m = calls_after d n a in
      let o : List Failure = own d (binary op at a b) in
      let q : failures d a ++ void d a ++ failures d b ++ void d b ++ o ≡ [] = p in
      let q4 : failures d a ++ void d a ++ failures d b ++ void d b ≡ [] = none_before (failures d a ++ void d a ++ failures d b ++ void d b) o q in
      let q3 : failures d a ++ void d a ++ failures d b ≡ [] = none_before (failures d a ++ void d a ++ failures d b) (void d b) q4 in
      let q2 : failures d a ++ void d a ≡ [] = none_before (failures d a ++ void d a) (failures d b) q3 in
      binary_tree (binary_number_operator op) (is_or op) at (type_of d a) (type_of d b) (typed d n a) (typed d m b)
      (used_value d n a (none_after (failures d a) (void d a) q2) (tree_there d h n a (none_before (failures d a) (void d a) q2)))
      (used_value d m b (none_after (failures d a ++ void d a ++ failures d b) (void d b) q4) (tree_there d h m b (none_after (failures d a ++ void d a) (failures d b) q3)))
  tree_there d h n (conditional at a b c) p =
      let m = calls_after d n a in
      let k = calls_after d m b in
      let q : failures d a ++ void d a ++ failures d b ++ void d b ++ failures d c ++ void d c ≡ [] = p in
      let q5 : failures d a ++ void d a ++ failures d b ++ void d b ++ failures d c ≡ [] = none_before (failures d a ++ void d a ++ failures d b ++ void d b ++ failures d c) (void d c) q in
      let q4 : failures d a ++ void d a ++ failures d b ++ void d b ≡ [] = none_before (failures d a ++ void d a ++ failures d b ++ void d b) (failures d c) q5 in
      let q3 : failures d a ++ void d a ++ failures d b ≡ [] = none_before (failures d a ++ void d a ++ failures d b) (void d b) q4 in
      let q2 : failures d a ++ void d a ≡ [] = none_before (failures d a ++ void d a) (failures d b) q3 in
      conditional_tree (type_of d a) (type_of d b) (type_of d c) (typed d n a) (typed d m b) (typed d k c)
      (used_value d n a (none_after (failures d a) (void d a) q2) (tree_there d h n a (none_before (failures d a) (void d a) q2)))
      (used_value d m b (none_after (failures d a ++ void d a ++ failures d b) (void d b) q4) (tree_there d h m b (none_after (failures d a ++ void d a) (failures d b) q3)))
      (used_value d k c (none_after (failures d a ++ void d a ++ failures d b ++ void d b ++ failures d c) (void d c) q) (tree_there d h k c (none_after (failures d a ++ void d a ++ failures d b ++ void d b) (failures d c) q5)))
  tree_there d h n (assignment op at a b) p =
      let m = calls_after d n a in
      let when_void : List Failure = when (is_some (assignment_number_operator op)) (void d a) in
      let q : failures d a ++ when_void ++ failures d b ++ void d b ++ own d (assignment op at a b) ≡ [] = p in
      let o : OwnNone d (assignment op at a b) = own_none d (assignment op at a b) (none_after (failures d a ++ when_void ++ failures d b ++ void d b) (own d (assignment op at a b)) q) in
      let q4 : failures d a ++ when_void ++ failures d b ++ void d b ≡ [] = none_before (failures d a ++ when_void ++ failures d b ++ void d b) (own d (assignment op at a b)) q in
      let q3 : failures d a ++ when_void ++ failures d b ≡ [] = none_before (failures d a ++ when_void ++ failures d b) (void d b) q4 in
      let q2 : failures d a ++ when_void ≡ [] = none_before (failures d a ++ when_void) (failures d b) q3 in
      assignment_tree (assignment_number_operator op) at (target_of d a) (typed d n a) (type_of d b) (typed d m b)
      (place_there d n a (tree_there d h n a (none_before (failures d a) when_void q2)) (holds_not _ _ _ o.place))
      (used_value d m b (none_after (failures d a ++ when_void ++ failures d b) (void d b) q4) (tree_there d h m b (none_after (failures d a ++ when_void) (failures d b) q3)))
  tree_there d h n (comma at a b) p =
      let q : failures d a ++ failures d b ≡ [] = p in
      comma_tree (type_of d a) (type_of d b) (typed d n a) (typed d (calls_after d n a) b)
      (tree_there d h n a (none_before (failures d a) (failures d b) q)) (tree_there d h (calls_after d n a) b (none_after (failures d a) (failures d b) q))

  trees_there : (d : Names) → ((x : Identifier) → HasTypes (d x)) → (n : ℕ) → (es : ExpressionTrees) → failures_used d es ≡ [] → AreValues (count es) (typed_all d n es)
  trees_there d h n no_expressions p = record { trees = no_values; is_trees = refl; has_length = refl }
  trees_there d h n (expression_then e es) p =
      let q : failures d e ++ void d e ++ failures_used d es ≡ [] = p in
      let used : failures d e ++ void d e ≡ [] = none_before (failures d e ++ void d e) (failures_used d es) q in
      one_more (count es) (type_of d e) (typed d n e) (typed_all d (calls_after d n e) es)
      (used_value d n e (none_after (failures d e) (void d e) used) (tree_there d h n e (none_before (failures d e) (void d e) used)))
      (trees_there d h (calls_after d n e) es (none_after (failures d e ++ void d e) (failures_used d es) q))

pub accepted_expressions_have_trees : AcceptedExpressionsHaveTrees
accepted_expressions_have_trees d h n e = tree_there d h n e
