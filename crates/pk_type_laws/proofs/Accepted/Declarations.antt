-- Declared objects of a function in which no rule fails are well typed, each the next of its function.
use Rattle.std.proofs.Common.{◌≡◌, ℕ, ◌+◌, ◌<◌, ◌≤◌, zero, suc, Bool, true, false, not, List, [], ◌∷◌, ◌++◌, Option, Some, None, length, refl, ap, sym, subst, ◌∙◌, arith, length-append, append_assoc, if◌then◌else◌}
use Rattle.std.proofs.Math.Nat.{add-zero}
use Rattle.std.proofs.lemmas.Bool.{false≢true}
use Rattle.std.specs.Prelude.{ℤ, pos, is_some, slice_get, unsigned_abs, ◌&&◌, ◌||◌, int_le, ◌≤ℤ◌}
use Rattle.pk_ctypes.proofs.Values.{test_le}
use Rattle.std.proofs.lemmas.Int.{ints}
use Rattle.std.specs.Option.{option_map}
use Rattle.pk_ctypes.specs.declared.places.Pos.{Pos}
use Rattle.pk_ctypes.specs.declared.types.IntType.{IntType}
use Rattle.pk_ctypes.specs.declared.words.Rule.TheVariants as rule
use Rattle.pk_ast.specs.declared.expressions.Identifier.{Identifier}
use Rattle.pk_ast.specs.Places.{first_place_of}
use Rattle.pk_ast.specs.Trees.{ExpressionTree, ExpressionTrees, no_expressions, expression_then, InitializerItemTree, item_value, item_row, InitializerTree, single, braced, DimensionsTree, DeclaratorTree}
use Rattle.pk_typed.specs.declared.values.Variable.{Variable}
use Rattle.pk_typed.specs.declared.values.Variable.TheVariants.{File, Local}
use Rattle.pk_typed.specs.Trees as tree
use Rattle.pk_typed.specs.Trees.{LocalTree, FileObjectTree, ValueTree, ValueTrees, DeclaredTree, UnitTree}
use Rattle.pk_type_scope.specs.declared.declarations.Callee.{Callee}
use Rattle.pk_type_scope.specs.declared.declarations.Callee.TheVariants.{Ordinary, Any, Assume, Assert, Abort}
use Rattle.pk_type_scope.specs.declared.declarations.Declaration.{Declaration}
use Rattle.pk_type_scope.specs.declared.declarations.Declaration.TheVariants.{Object, Function, Enumerator, TypeName}
use Rattle.pk_type_scope.specs.declared.declarations.Typing.{Typing}
use Rattle.pk_type_scope.specs.declared.declarations.Typing.TheVariants.{Void, Integer, Unknown}
use Rattle.pk_type_scope.specs.Declarations.{Names, HasTypes, is_void, is_unknown}
use Rattle.pk_type_scope.specs.Failures.{fails_if, noted}
use Rattle.pk_type_scope.specs.Scopes.{Scoping, Key, Layer, names_in, opened, declaring, first_of, found_up, key_of, is_same}
use Rattle.pk_type_expression.specs.Laws.{IsTreeOf}
use Rattle.pk_type_expression.specs.Rules.{void, failures, used_failures, count}
use Rattle.pk_type_expression.specs.Typed.{EvaluatedTree, value, effect, value_of, of_both, typed, calls}
use Rattle.pk_type_expression.specs.Types.{type_of}
use Rattle.pk_type_expression.proofs.TreeLemmas.{accepted_expressions_have_trees, none_before, none_after, holds_not}
use Rattle.pk_type_constant.specs.declared.constants.Constant.{Constant}
use Rattle.pk_type_constant.specs.declared.constants.Constant.TheVariants.{Number, Faulty, NotConstant}
use Rattle.pk_type_constant.specs.Forms.{is_constant_form}
use Rattle.pk_type_declaration.specs.declared.words.Words.{Words}
use Rattle.pk_type_declaration.specs.Constants.{given_by, evaluated, is_refused, is_refused_length, is_outside, is_length, number_of, magnitude, length_in, after_constant, after_length}
use Rattle.pk_type_declaration.specs.Declarations.{integer_in, type_or_int, object_at, after_initializer, length_at, after_columns, after_dimensions, length_or_1, local_of, after_object, after_head, after_declarator, after_declarators, scalar_tree, array_tree, declarator_tree_at, declarator_trees_at}
use Rattle.pk_type_declaration.specs.Initializers.{followed_by, item_values, items_values, braced_values}
use Rattle.pk_type_declaration.specs.Walks.{StaticsTree, here, after_value, after_values, value_at, values_at}
use Rattle.pk_type_declaration.specs.Rules as declarations
use Rattle.pk_type_declaration.specs.Rules.{at_name, redeclared, void_object, special_object, braces, misfit, misfit_at, first_misfit, failing}
use Rattle.pk_welltyped.specs.Listed.{numbered, calls_in_declared, calls_in_all_declared, objects_in_declared, objects_in_all_declared}
use Rattle.pk_welltyped.specs.WellTyped as good
use Rattle.pk_welltyped.specs.WellTyped.{Around, IsObject, AreValues, kind_among, IsDeclared, AreDeclared, IsValueIf, AreValuesIf}
use Rattle.pk_type_laws.specs.Accepted.Constants.{HaveConstants, InitializerItemHas, InitializerItemsHave, InitializerHas, DimensionsHave, DeclaratorsHave}
use Rattle.pk_type_laws.specs.Accepted.Names.{ObjectIs, EnumeratorIs, CalleeIs, DeclarationIs, NamesAre}
use Rattle.pk_type_laws.proofs.Accepted.Forms.{no_calls, Gives, Numeric, numeric}
use Rattle.pk_type_laws.proofs.Accepted.Walks.{W, around, none_found, LaterStatics, statics_same, Later, later_same, later, later_failing, later_value, later_values, Steps, steps_none, steps, steps_as, ValuePart, ValuesPart, value_part, values_part}
use Rattle.pk_graph.specs.Kinds.{Kind, scalar_kind, array_kind}

-- ---- names

has_type : (a : Around) (b : Bool) (t : Option IntType) (x : Variable) → ObjectIs a b t x → (u : IntType) × (t ≡ Some u)
has_type a b None x h = absurd h
has_type a b (Some t) x h = (t, refl)

known : (a : Around) (f : ℕ) (c : Callee) → CalleeIs a f c → is_unknown (Rattle.pk_type_scope.specs.Declarations.returned_by c) ≡ false
known a f (Ordinary Void n) h = refl
known a f (Ordinary (Integer t) n) h = refl
known a f (Ordinary Unknown n) h = absurd h
known a f (Any t) h = refl
known a f Assume h = refl
known a f Assert h = refl
known a f Abort h = refl

has_value : (v : Option ℤ) → EnumeratorIs v → (n : ℤ) × (v ≡ Some n)
has_value None h = absurd h
has_value (Some n) h = (n, refl)

pub has_types : (a : Around) (d : Option Declaration) → DeclarationIs a d → HasTypes d
has_types a None h = tt
has_types a (Some (Object o)) h = has_type a o.is_array o.int_type o.variable h
has_types a (Some (Function f)) h = known a f.number f.callee h
has_types a (Some (Enumerator v)) h = has_value v h
has_types a (Some (TypeName t)) h = h

-- what is declared before a place is so before a later one
object_later : (u : UnitTree) (ls : List LocalTree) (m n : ℕ) (k : Kind) (x : Variable) → m ≤ n → IsObject (record { unit = u; locals = ls; objects = m }) k x → IsObject (record { unit = u; locals = ls; objects = n }) k x
object_later u ls m n k (File i) l h = h
object_later u ls m n k (Local i) l h = (omega (l, h.0, arith), h.1)

objects_later : (u : UnitTree) (ls : List LocalTree) (m n : ℕ) (b : Bool) (t : Option IntType) (x : Variable) → m ≤ n → ObjectIs (record { unit = u; locals = ls; objects = m }) b t x → ObjectIs (record { unit = u; locals = ls; objects = n }) b t x
objects_later u ls m n b None x l h = absurd h
objects_later u ls m n false (Some t) x l h = object_later u ls m n (scalar_kind t) x l h
objects_later u ls m n true (Some t) x l h = (h.0, object_later u ls m n (array_kind t h.0) x l h.1)

callees_later : (u : UnitTree) (ls : List LocalTree) (m n f : ℕ) (c : Callee) → CalleeIs (record { unit = u; locals = ls; objects = m }) f c → CalleeIs (record { unit = u; locals = ls; objects = n }) f c
callees_later u ls m n f (Ordinary Void k) h = h
callees_later u ls m n f (Ordinary (Integer t) k) h = h
callees_later u ls m n f (Ordinary Unknown k) h = h
callees_later u ls m n f (Any t) h = h
callees_later u ls m n f Assume h = h
callees_later u ls m n f Assert h = h
callees_later u ls m n f Abort h = h

declaration_later : (u : UnitTree) (ls : List LocalTree) (m n : ℕ) (d : Option Declaration) → m ≤ n → DeclarationIs (record { unit = u; locals = ls; objects = m }) d → DeclarationIs (record { unit = u; locals = ls; objects = n }) d
declaration_later u ls m n None l h = tt
declaration_later u ls m n (Some (Object o)) l h = objects_later u ls m n o.is_array o.int_type o.variable l h
declaration_later u ls m n (Some (Function f)) l h = callees_later u ls m n f.number f.callee h
declaration_later u ls m n (Some (Enumerator v)) l h = h
declaration_later u ls m n (Some (TypeName t)) l h = h

pub names_later : (u : UnitTree) (ls : List LocalTree) (w v : W) (d : Names) → Later w v → NamesAre (around u ls w) d → NamesAre (around u ls v) d
names_later u ls w v d l h x =
    let is : length v.locals ≡ length w.locals + length l.more = ap length l.locals ∙ length-append w.locals l.more in
    declaration_later u ls (length w.locals) (length v.locals) (d x) (omega (is, arith)) (h x)

picked : (P : Option Declaration → Type 0) (b : Bool) (o : Declaration) (l other : Option Declaration) → P (Some o) → P (first_of l other) → P (first_of (if b then Some o else l) other)
picked P true o l other h k = h
picked P false o l other h k = k

-- what holds of each name in scope does so behind a declaration of which it holds
pub all_declaring : (P : Option Declaration → Type 0) (s : Scoping) (x : Identifier) (o : Declaration) → ((y : Identifier) → P (names_in s y)) → P (Some o) → (y : Identifier) → P (names_in (declaring s x o) y)
unfolding names_in
all_declaring P s x o h k y = let q = key_of s.text y in picked P (is_same (key_of s.text x) q) o (s.inner q) (found_up s.outer q None) k (h y)

pub names_declaring : (a : Around) (s : Scoping) (x : Identifier) (o : Declaration) → NamesAre a (names_in s) → DeclarationIs a (Some o) → NamesAre a (names_in (declaring s x o))
names_declaring a = all_declaring (DeclarationIs a)

pub found_last : (ls : List Layer) (l : Layer) (q : Key) (f : Option Declaration) → found_up (ls ++ l ∷ []) q f ≡ first_of (l q) (found_up ls q f)
found_last [] l q f = refl
found_last (m ∷ ls) l q f = found_last ls l q (first_of (m q) f)

pub names_opened : (a : Around) (s : Scoping) → NamesAre a (names_in s) → NamesAre a (names_in (opened s))
unfolding names_in
names_opened a s h y = subst (DeclarationIs a) (sym (found_last s.outer s.inner (key_of s.text y) None)) (h y)

-- ---- places of the function's objects

-- the unit's objects are those of the file, and behind them first the static ones before the place
pub record StaticsStand (u : UnitTree) (s : StaticsTree) : Type 0 where
  pub before : List FileObjectTree
  pub first : length before ≡ s.first
  pub rest : List FileObjectTree
  pub objects : u.objects ≡ before ++ (s.made ++ rest)

pub statics_before : (u : UnitTree) (s t : StaticsTree) → LaterStatics s t → StaticsStand u t → StaticsStand u s
statics_before u s t l k = record {
  before = k.before;
  first = k.first ∙ l.first;
  rest = l.more ++ k.rest;
  objects = k.objects ∙ ap (λ (xs : List FileObjectTree). k.before ++ xs) (ap (λ (xs : List FileObjectTree). xs ++ k.rest) l.made ∙ append_assoc s.made l.more k.rest);
}

-- the function's objects begin with those before the place, and the unit has the static ones
pub record Begins (u : UnitTree) (ls : List LocalTree) (w : W) : Type 0 where
  pub rest : List LocalTree
  pub is : ls ≡ w.locals ++ rest
  pub statics : StaticsStand u w.statics

pub begins_before : (u : UnitTree) (ls : List LocalTree) (w v : W) → Later w v → Begins u ls v → Begins u ls w
begins_before u ls w v l b = record {
  rest = l.more ++ b.rest;
  is = b.is ∙ (ap (λ (xs : List LocalTree). xs ++ b.rest) l.locals ∙ append_assoc w.locals l.more b.rest);
  statics = statics_before u w.statics v.statics l.statics b.statics;
}

pub nth : {A : Type 0} (xs : List A) (x : A) (ys : List A) → slice_get (xs ++ x ∷ ys) (length xs) ≡ Some x
nth [] x ys = refl
nth (y ∷ xs) x ys = nth xs x ys

-- ---- constant expressions

pub no_site : (e : ExpressionTree) (w : W) → is_constant_form (here w) e ≡ true → Steps w (after_value declarations.noting e w) [] 0
no_site e w h = record { sites = calls (here w) e; calls = refl; listed = sym (ap (numbered (length w.calls)) (no_calls (here w) e h)); objects = sym (add-zero (length w.locals)) }

pub or_left : (a b : Bool) → (not a || b) ≡ false → a ≡ true
or_left true b h = refl
or_left false b h = absurd (false≢true (sym h))

or_right : (a b : Bool) → (not a || b) ≡ false → b ≡ false
or_right true b h = h
or_right false b h = absurd (false≢true (sym h))

pub constant_steps : (e : ExpressionTree) (w : W) → (after_constant declarations.noting e w).found ≡ None → Steps w (after_constant declarations.noting e w) [] 0
constant_steps e w h =
    let r = none_found (after_value declarations.noting e w).found (fails_if (is_refused (evaluated w e)) rule.Constant (first_place_of e)) h in
    let s = no_site e w (or_left (is_constant_form (here w) e) _ (holds_not _ _ _ r.1)) in
    record { sites = s.sites; calls = s.calls; listed = s.listed; objects = s.objects }

pub later_constant : (e : ExpressionTree) (w : W) → Later w (after_constant declarations.noting e w)
later_constant e w = later w (after_value declarations.noting e w) _ (later_value e w) (later_failing (fails_if (is_refused (evaluated w e)) rule.Constant (first_place_of e)) (after_value declarations.noting e w))

pub later_length : (e : ExpressionTree) (w : W) → Later w (after_length declarations.noting e w)
later_length e w = later w (after_value declarations.noting e w) _ (later_value e w) (later_failing (fails_if (is_refused_length (evaluated w e)) rule.Constant (first_place_of e)) (after_value declarations.noting e w))

-- ---- lengths of arrays

-- an array's length that is known
abbrev pub KnownLength : Option ℕ → Type 0
KnownLength o = (n : ℕ) × (o ≡ Some n) × (n ≤ 1048576) × (1 ≤ n)

magnitude_in : (z : ℤ) → pos 1 ≤ℤ z → z ≤ℤ pos 1048576 → (unsigned_abs z ≤ 1048576) × (1 ≤ unsigned_abs z)
magnitude_in z l h = (omega (l, h, arith, ints), omega (l, h, arith, ints))

in_bounds : (z : ℤ) → is_length z ≡ true → (unsigned_abs z ≤ 1048576) × (1 ≤ unsigned_abs z)
in_bounds z h =
    let low : pos 1 ≤ℤ z = test_le (pos 1) z (first (int_le (pos 1) z) (int_le z (pos 1048576)) h) in
    let high : z ≤ℤ pos 1048576 = test_le z (pos 1048576) (second (int_le (pos 1) z) (int_le z (pos 1048576)) h) in
    magnitude_in z low high
  where
    first : (a b : Bool) → (a && b) ≡ true → a ≡ true
    first true b h = refl
    first false b h = absurd (false≢true h)

    second : (a b : Bool) → (a && b) ≡ true → b ≡ true
    second true b h = h
    second false b h = absurd (false≢true h)

length_of_number : (c : Constant) → is_outside c ≡ false → Gives c → KnownLength (magnitude (number_of c))
length_of_number (Number z) h g = let b = in_bounds z (negated (is_length z) h) in (unsigned_abs z, refl, b.0, b.1)
  where
    negated : (b : Bool) → not b ≡ false → b ≡ true
    negated true h = refl
    negated false h = absurd (false≢true (sym h))
length_of_number (Faulty f) h g = absurd (false≢true (sym h))
length_of_number NotConstant h g = absurd g

length_of : (b : Bool) (c : Constant) → (not b || is_outside c) ≡ false → Gives c → KnownLength (if not b || is_outside c then None else magnitude (number_of c))
length_of b c h g = rw h (length_of_number c (or_right b (is_outside c) h) g)

pub value_gives : (t : Typing) (e : Option EvaluatedTree) → IsTreeOf t e → is_void t ≡ false → Numeric e → Gives (given_by (value_of e))
value_gives t None h v n = absurd h
value_gives Void (Some (value v)) h p n = absurd h
value_gives Void (Some (effect e)) h p n = absurd (false≢true (sym p))
value_gives (Integer t) (Some (value v)) h p n = n
value_gives (Integer t) (Some (effect e)) h p n = absurd h
value_gives Unknown (Some e) h p n = absurd h

pub is_used : (d : Names) (e : ExpressionTree) → void d e ≡ [] → is_void (type_of d e) ≡ false
unfolding void
is_used d e h = holds_not _ _ _ h

pub length_has : (w : W) (e : ExpressionTree) → ((x : Identifier) → HasTypes (here w x)) → (after_length declarations.noting e w).found ≡ None → KnownLength (length_in (evaluated w e))
length_has w e k h =
    let r = none_found (after_value declarations.noting e w).found (fails_if (is_refused_length (evaluated w e)) rule.Constant (first_place_of e)) h in
    let f : used_failures (here w) e ≡ [] = (none_found w.found (used_failures (here w) e) r.0).1 in
    let is : is_refused_length (evaluated w e) ≡ false = holds_not _ _ _ r.1 in
    let t = accepted_expressions_have_trees (here w) k (length w.calls) e (none_before (failures (here w) e) (void (here w) e) f) in
    length_of (is_constant_form (here w) e) (given_by (value_at w e)) is
    (value_gives (type_of (here w) e) (typed (here w) (length w.calls) e) t (is_used (here w) e (none_after (failures (here w) e) (void (here w) e) f)) (numeric (here w) (length w.calls) e (or_left (is_constant_form (here w) e) _ is)))

pub length_known : (u : UnitTree) (ls : List LocalTree) (w : W) (e : ExpressionTree) → NamesAre (around u ls w) (here w) → (after_length declarations.noting e w).found ≡ None → KnownLength (length_in (evaluated w e))
length_known u ls w e n h = length_has w e (λ x. has_types (around u ls w) (here w x) (n x)) h

-- a length calls nothing
pub length_steps : (e : ExpressionTree) (w : W) → (after_length declarations.noting e w).found ≡ None → Steps w (after_length declarations.noting e w) [] 0
length_steps e w h =
    let r = none_found (after_value declarations.noting e w).found (fails_if (is_refused_length (evaluated w e)) rule.Constant (first_place_of e)) h in
    let s = no_site e w (or_left (is_constant_form (here w) e) _ (holds_not _ _ _ r.1)) in
    record { sites = s.sites; calls = s.calls; listed = s.listed; objects = s.objects }

-- ---- what an object begins with

pub room : (is : List InitializerItemTree) (n : ℕ) → misfit_at (first_misfit n is) ≡ [] → count (items_values is) ≤ n
room [] n h = omega arith
room (item_row at e es ∷ is) n h = absurd (cc)
room (item_value e ∷ is) zero h = absurd (cc)
room (item_value e ∷ is) (suc n) h = let l = room is n h in omega (l, arith)

followed_have : (es fs : ExpressionTrees) → HaveConstants es → HaveConstants fs → HaveConstants (followed_by es fs)
unfolding HaveConstants
followed_have no_expressions fs h k = k
followed_have (expression_then e es) fs h k = (h.0, followed_have es fs h.1 k)

item_has : (i : InitializerItemTree) → InitializerItemHas i → HaveConstants (item_values i)
unfolding HaveConstants
item_has (item_value e) h = (h, tt)
item_has (item_row at e es) h = h

items_have : (is : List InitializerItemTree) → InitializerItemsHave is → HaveConstants (items_values is)
unfolding HaveConstants
items_have [] h = tt
items_have (i ∷ is) h = followed_have (item_values i) (items_values is) (item_has i h.0) (items_have is h.1)

abbrev InitialPart : UnitTree → List LocalTree → W → W → (i : ℕ) → Option DeclaredTree → Type 0
InitialPart u ls w v i None = Unit {0}
InitialPart u ls w v i (Some (tree.scalar_object k at e)) = (k ≡ i) × IsValueIf (around u ls w) e × Steps w v (calls_in_declared (tree.scalar_object k at e)) 0
InitialPart u ls w v i (Some (tree.array_object k at es)) = ⊥
InitialPart u ls w v i (Some (tree.static_object k at)) = ⊥
InitialPart u ls w v i (Some (tree.hiding_constant x at)) = ⊥

scalar_part : (u : UnitTree) (ls : List LocalTree) (w : W) (i : ℕ) (at : Pos) (x : Option InitializerTree) → NamesAre (around u ls w) (here w) → InitializerHas x → (after_initializer declarations.noting x w).found ≡ None
    → InitialPart u ls w (after_initializer declarations.noting x w) i (scalar_tree i at x w)
scalar_part u ls w i at None n k h = (refl, tt, steps_none w w refl refl)
scalar_part u ls w i at (Some (single e)) n k h = valued (value_at w e) (value_part (around u ls w) w e n k h)
  where
    valued : (o : Option ValueTree) → ValuePart (around u ls w) w (after_value declarations.noting e w) o → InitialPart u ls w (after_value declarations.noting e w) i (option_map (λ v. tree.scalar_object i at (Some v)) o)
    valued None p = tt
    valued (Some v) p = (refl, p.0, p.1)
scalar_part u ls w i at (Some (braced o is)) n k h = tt

-- so many items
abbrev ArrayPart : UnitTree → List LocalTree → W → W → (i n : ℕ) → Option DeclaredTree → Type 0
ArrayPart u ls w v i n None = Unit {0}
ArrayPart u ls w v i n (Some (tree.scalar_object k at e)) = ⊥
ArrayPart u ls w v i n (Some (tree.array_object k at es)) = (k ≡ i) × (good.count_if es ≤ n) × AreValuesIf (around u ls w) es × Steps w v (calls_in_declared (tree.array_object k at es)) 0
ArrayPart u ls w v i n (Some (tree.static_object k at)) = ⊥
ArrayPart u ls w v i n (Some (tree.hiding_constant x at)) = ⊥

items_part : (u : UnitTree) (ls : List LocalTree) (w v : W) (i n m : ℕ) (at : Pos) (es : Option ValueTrees) → m ≤ n → ValuesPart (around u ls w) w v m es → ArrayPart u ls w v i n (option_map (λ vs. tree.array_object i at (Some vs)) es)
items_part u ls w v i n m at None l h = tt
items_part u ls w v i n m at (Some es) l h = (refl, omega (l, h.2, arith), h.0, h.1)

array_part : (u : UnitTree) (ls : List LocalTree) (w : W) (i n : ℕ) (at : Pos) (x : Option InitializerTree) → NamesAre (around u ls w) (here w) → InitializerHas x → misfit (Some n) x ≡ []
    → (after_initializer declarations.noting x w).found ≡ None → ArrayPart u ls w (after_initializer declarations.noting x w) i n (array_tree i at x w)
array_part u ls w i n at None g k s h = (refl, omega arith, tt, steps_none w w refl refl)
array_part u ls w i n at (Some (single e)) g k s h = tt
array_part u ls w i n at (Some (braced o is)) g k s h =
    let all = is.first ∷ is.more in
    items_part u ls w (after_values declarations.noting (items_values all) w) i n (count (items_values all)) at (values_at w (items_values all)) (room all n s) (values_part (around u ls w) w (items_values all) g (items_have all k) h)

-- ---- a declarator

-- objects of a type and length
object_is : (u : UnitTree) (ls : List LocalTree) (k m : ℕ) (t : Typing) (b : Bool) (n : Option ℕ) → is_void t ≡ false → is_unknown t ≡ false → k < m → kind_among ls k ≡ Some (record { int_type = type_or_int t; length = length_or_1 b n })
    → ObjectIs (record { unit = u; locals = ls; objects = m }) b (integer_in t) (Local k)
object_is u ls k m Void b n p q l h = absurd (false≢true (sym p))
object_is u ls k m Unknown b n p q l h = absurd (false≢true (sym q))
object_is u ls k m (Integer t) false n p q l h = (l, h)
object_is u ls k m (Integer t) true None p q l h = (1, (l, h))
object_is u ls k m (Integer t) true (Some n) p q l h = (n, (l, h))

-- of a declared object, its kind among the function's objects, and the names behind it
pub record Declared (u : UnitTree) (ls : List LocalTree) (w v : W) (t : IntType) (n : Option ℕ) : Type 0 where
  pub later : Later w v
  pub kind : kind_among ls (length w.locals) ≡ Some (record { int_type = t; length = n })
  pub names : NamesAre (around u ls v) (here v)
  pub calls : Steps w v [] 1

pub not_void : (words : Words) (b : Bool) (n : Option ℕ) (x : Identifier) (w : W) → (after_object declarations.noting words b n x w).found ≡ None → is_void words.typing ≡ false
not_void words b n x w h =
    let rows : redeclared w.scoping x ++ void_object words.typing x.at ++ special_object w.scoping x ≡ [] = (none_found w.found (at_name w.scoping words.typing x) h).1 in
    holds_not _ _ _ (none_after (redeclared w.scoping x) (void_object words.typing x.at) (none_before (redeclared w.scoping x ++ void_object words.typing x.at) (special_object w.scoping x) rows))

pub object_declared : (u : UnitTree) (ls : List LocalTree) (words : Words) (b : Bool) (n : Option ℕ) (x : Identifier) (w : W) → NamesAre (around u ls w) (here w) → is_unknown words.typing ≡ false
    → Begins u ls (after_object declarations.noting words b n x w) → (after_object declarations.noting words b n x w).found ≡ None → Declared u ls w (after_object declarations.noting words b n x w) (type_or_int words.typing) (length_or_1 b n)
object_declared u ls words b n x w g unknown begins h =
    let v = after_object declarations.noting words b n x w in
    let l = local_of words.typing w.scoping b n x in
    let fs = none_found w.found (at_name w.scoping words.typing x) h in
    let void : is_void words.typing ≡ false = not_void words b n x w h in
    let later : Later w v = record { found = λ f. fs.0; more = l ∷ []; locals = refl; statics = statics_same w.statics } in
    let is : ls ≡ w.locals ++ l ∷ begins.rest = begins.is ∙ append_assoc w.locals (l ∷ []) begins.rest in
    let kind : kind_among ls (length w.locals) ≡ Some (record { int_type = type_or_int words.typing; length = length_or_1 b n }) = rw is (ap (option_map (λ (y : LocalTree). record { int_type = y.int_type; length = y.length })) (nth w.locals l begins.rest)) in
    let many : length v.locals ≡ length w.locals + 1 = length-append w.locals (l ∷ []) in
    record {
      later = later;
      kind = kind;
      names = names_declaring (around u ls v) w.scoping x (object_at words b w) (names_later u ls w v (here w) later g)
          (object_is u ls (length w.locals) (length v.locals) words.typing b n void unknown (omega (many, arith)) kind);
      calls = record { sites = []; calls = append_none w.calls; listed = refl; objects = many };
    }
  where
    append_none : {A : Type 0} (xs : List A) → xs ≡ xs ++ []
    append_none [] = refl
    append_none (x ∷ xs) = ap (λ (l : List _). x ∷ l) (append_none xs)

-- ---- later places, whatever fails

later_columns : (at : Pos) (e : Option ExpressionTree) (w : W) → Later w (after_columns declarations.noting at e w)
later_columns at None w = later_same w
later_columns at (Some e) w = later w (after_length declarations.noting e w) _ (later_length e w) (later_failing (fails_if true rule.Array at) (after_length declarations.noting e w))

pub later_dimensions : (at : Pos) (d : Option DimensionsTree) (w : W) → Later w (after_dimensions declarations.noting at d w)
later_dimensions at None w = later_same w
later_dimensions at (Some d) w = later w (after_length declarations.noting d.length w) _ (later_length d.length w) (later_columns at d.columns (after_length declarations.noting d.length w))

-- an array of rows and columns isn't accepted
pub no_columns : (at : Pos) (e : ExpressionTree) (w : W) → (after_columns declarations.noting at (Some e) w).found ≡ None → ⊥
no_columns at e w h = false≢true (sym (holds_not true rule.Array at (none_found (after_length declarations.noting e w).found (fails_if true rule.Array at) h).1))

pub later_object : (words : Words) (b : Bool) (n : Option ℕ) (x : Identifier) (w : W) → Later w (after_object declarations.noting words b n x w)
later_object words b n x w = record { found = λ h. (none_found w.found (at_name w.scoping words.typing x) h).0; more = local_of words.typing w.scoping b n x ∷ []; locals = refl; statics = statics_same w.statics }

later_head : (words : Words) (d : DeclaratorTree) (w : W) → Later w (after_head declarations.noting words d w)
later_head words d w =
    let n = length_at w d.dimensions in
    let w1 = after_dimensions declarations.noting d.name.at d.dimensions w in
    let v = after_object declarations.noting words (is_some d.dimensions) n d.name w1 in
    later w w1 _ (later_dimensions d.name.at d.dimensions w) (later w1 v _ (later_object words (is_some d.dimensions) n d.name w1) (later_failing (braces (is_some d.dimensions) d.initializer d.name.at ++ misfit n d.initializer) v))

later_initializer : (x : Option InitializerTree) (w : W) → Later w (after_initializer declarations.noting x w)
later_initializer None w = later_same w
later_initializer (Some (single e)) w = later_value e w
later_initializer (Some (braced at is)) w = later_values (braced_values is) w

pub later_declarator : (words : Words) (d : DeclaratorTree) (w : W) → Later w (after_declarator declarations.noting words d w)
unfolding after_declarator
later_declarator words d w = later w (after_head declarations.noting words d w) _ (later_head words d w) (later_initializer d.initializer (after_head declarations.noting words d w))

pub later_declarators : (words : Words) (ds : List DeclaratorTree) (w : W) → Later w (after_declarators declarations.noting words ds w)
unfolding after_declarators
later_declarators words [] w = later_same w
later_declarators words (d ∷ ds) w = later w (after_declarator declarations.noting words d w) _ (later_declarator words d w) (later_declarators words ds (after_declarator declarations.noting words d w))

-- ---- declarators

abbrev pub DeclaredPart : UnitTree → List LocalTree → W → W → Option DeclaredTree → Type 0
DeclaredPart u ls w v None = Unit {0}
DeclaredPart u ls w v (Some t) = IsDeclared (around u ls w) t × Steps w v (calls_in_declared t) (objects_in_declared t)

scalar_declared : (u : UnitTree) (ls : List LocalTree) (w v x : W) (t : IntType) (o : Option DeclaredTree) → kind_among ls (length w.locals) ≡ Some (scalar_kind t) → Steps w v [] 1
    → InitialPart u ls v x (length w.locals) o → DeclaredPart u ls w x o
scalar_declared u ls w v x t None k s p = tt
scalar_declared u ls w v x t (Some (tree.array_object i at es)) k s p = absurd p
scalar_declared u ls w v x t (Some (tree.static_object i at)) k s p = absurd p
scalar_declared u ls w v x t (Some (tree.hiding_constant y at)) k s p = absurd p
scalar_declared u ls w v x t (Some (tree.scalar_object i at e)) k s p =
    ((p.0, (t, ap (kind_among ls) p.0 ∙ k), subst (λ (n : ℕ). IsValueIf (record { unit = u; locals = ls; objects = n }) e) s.objects p.1), steps w v x [] (calls_in_declared (tree.scalar_object i at e)) 1 0 s p.2)

array_declared : (u : UnitTree) (ls : List LocalTree) (w v x : W) (t : IntType) (n : ℕ) (o : Option DeclaredTree) → kind_among ls (length w.locals) ≡ Some (array_kind t n) → n ≤ 1048576 → 1 ≤ n → Steps w v [] 1
    → ArrayPart u ls v x (length w.locals) n o → DeclaredPart u ls w x o
array_declared u ls w v x t n None k few some s p = tt
array_declared u ls w v x t n (Some (tree.scalar_object i at e)) k few some s p = absurd p
array_declared u ls w v x t n (Some (tree.static_object i at)) k few some s p = absurd p
array_declared u ls w v x t n (Some (tree.hiding_constant y at)) k few some s p = absurd p
array_declared u ls w v x t n (Some (tree.array_object i at es)) k few some s p =
    ((p.0, (t, n, ap (kind_among ls) p.0 ∙ k, p.1, few, some), subst (λ (m : ℕ). AreValuesIf (record { unit = u; locals = ls; objects = m }) es) s.objects p.2), steps w v x [] (calls_in_declared (tree.array_object i at es)) 1 0 s p.3)

initial_names : (u : UnitTree) (ls : List LocalTree) (x : Option InitializerTree) (w : W) → NamesAre (around u ls w) (here w) → NamesAre (around u ls (after_initializer declarations.noting x w)) (here (after_initializer declarations.noting x w))
initial_names u ls None w h = h
initial_names u ls (Some (single e)) w h = h
initial_names u ls (Some (braced at is)) w h = h

record Declaring (u : UnitTree) (ls : List LocalTree) (w v : W) (o : Option DeclaredTree) : Type 0 where
  names : NamesAre (around u ls v) (here v)
  part : DeclaredPart u ls w v o

-- of an array
array_of : (u : UnitTree) (ls : List LocalTree) (words : Words) (x : Identifier) (e : ExpressionTree) (c : Option ExpressionTree) (i : Option InitializerTree) (w : W) → NamesAre (around u ls w) (here w) → is_unknown words.typing ≡ false
    → InitializerHas i
    → (let d : DeclaratorTree = record { name = x; dimensions = Some (record { length = e; columns = c }); initializer = i } in let v = after_declarator declarations.noting words d w in Begins u ls v → v.found ≡ None → Declaring u ls w v (declarator_tree_at declarations.noting words d w))
unfolding after_declarator declarator_tree_at
array_of u ls words x e None i w n unknown ki begins h =
    let d : DeclaratorTree = record { name = x; dimensions = Some (record { length = e; columns = None }); initializer = i } in
    let w1 = after_length declarations.noting e w in
    let m = length_in (evaluated w e) in
    let fs = braces true i x.at ++ misfit m i in
    let v0 = after_object declarations.noting words true m x w1 in
    let v1 = failing noted fs v0 in
    let f1 : v1.found ≡ None = (later_initializer i v1).found h in
    let f0 = none_found v0.found fs f1 in
    let fw : w1.found ≡ None = (later_object words true m x w1).found f0.0 in
    let b1 = begins_before u ls v1 _ (later_initializer i v1) begins in
    let o = object_declared u ls words true m x w1 n unknown (record { rest = b1.rest; is = b1.is; statics = b1.statics }) f0.0 in
    let k = length_known u ls w e n fw in
    let s1 : Steps w w1 [] 0 = length_steps e w fw in
    let s : Steps w1 v1 [] 1 = record { sites = o.calls.sites; calls = o.calls.calls; listed = o.calls.listed; objects = o.calls.objects } in
    let fits : misfit (Some k.0) i ≡ [] = rw k.1 at (none_after (braces true i x.at) (misfit m i) f0.1) in
    let kind : kind_among ls (length w.locals) ≡ Some (array_kind (type_or_int words.typing) k.0) = o.kind ∙ ap (λ (q : Option ℕ). Some (record { int_type = type_or_int words.typing; length = length_or_1 true q })) k.1 in
    record {
      names = initial_names u ls i v1 o.names;
      part = array_declared u ls w v1 (after_initializer declarations.noting i v1) (type_or_int words.typing) k.0 (array_tree (length w.locals) x.at i v1) kind k.2 k.3 (steps w w1 v1 [] [] 0 1 s1 s)
          (array_part u ls v1 (length w.locals) k.0 x.at i o.names ki fits h);
    }
array_of u ls words x e (Some c) i w n unknown ki begins h =
    let w1 = after_length declarations.noting e w in
    let w2 = after_columns declarations.noting x.at (Some c) w1 in
    let m = length_in (evaluated w e) in
    let fs = braces true i x.at ++ misfit m i in
    let v0 = after_object declarations.noting words true m x w2 in
    let f0 = none_found v0.found fs ((later_initializer i (failing noted fs v0)).found h) in
    absurd (no_columns x.at c w1 ((later_object words true m x w2).found f0.0))

declarator_of : (u : UnitTree) (ls : List LocalTree) (words : Words) (x : Identifier) (e : Option DimensionsTree) (i : Option InitializerTree) (w : W) → NamesAre (around u ls w) (here w) → is_unknown words.typing ≡ false
    → DimensionsHave e → InitializerHas i → (let d : DeclaratorTree = record { name = x; dimensions = e; initializer = i } in let v = after_declarator declarations.noting words d w in Begins u ls v → v.found ≡ None → Declaring u ls w v (declarator_tree_at declarations.noting words d w))
unfolding after_declarator declarator_tree_at
declarator_of u ls words x None i w n unknown ke ki begins h =
    let d : DeclaratorTree = record { name = x; dimensions = None; initializer = i } in
    let fs = braces false i x.at ++ misfit None i in
    let v0 = after_object declarations.noting words false None x w in
    let v1 = failing noted fs v0 in
    let f1 : v1.found ≡ None = (later_initializer i v1).found h in
    let f0 = none_found v0.found fs f1 in
    let b1 = begins_before u ls v1 _ (later_initializer i v1) begins in
    let o = object_declared u ls words false None x w n unknown (record { rest = b1.rest; is = b1.is; statics = b1.statics }) f0.0 in
    let s : Steps w v1 [] 1 = record { sites = o.calls.sites; calls = o.calls.calls; listed = o.calls.listed; objects = o.calls.objects } in
    record {
      names = initial_names u ls i v1 o.names;
      part = scalar_declared u ls w v1 (after_initializer declarations.noting i v1) (type_or_int words.typing) (scalar_tree (length w.locals) x.at i v1) o.kind s (scalar_part u ls v1 (length w.locals) x.at i o.names ki h);
    }
declarator_of u ls words x (Some e) i w n unknown ke ki begins h = array_of u ls words x e.length e.columns i w n unknown ki begins h

abbrev pub AllDeclaredPart : UnitTree → List LocalTree → W → W → Option (List DeclaredTree) → Type 0
AllDeclaredPart u ls w v None = Unit {0}
AllDeclaredPart u ls w v (Some ts) = AreDeclared (around u ls w) ts × Steps w v (calls_in_all_declared ts) (objects_in_all_declared ts)

pub record AllDeclaring (u : UnitTree) (ls : List LocalTree) (w v : W) (o : Option (List DeclaredTree)) : Type 0 where
  pub names : NamesAre (around u ls v) (here v)
  pub part : AllDeclaredPart u ls w v o

pub one_more : (u : UnitTree) (ls : List LocalTree) (w v x : W) (o : Option DeclaredTree) (os : Option (List DeclaredTree)) → DeclaredPart u ls w v o → AllDeclaredPart u ls v x os → AllDeclaredPart u ls w x (of_both (λ t ts. t ∷ ts) o os)
one_more u ls w v x None os p q = tt
one_more u ls w v x (Some t) None p q = tt
one_more u ls w v x (Some t) (Some ts) p q = (
  (p.0, subst (λ (n : ℕ). AreDeclared (record { unit = u; locals = ls; objects = n }) ts) p.1.objects q.0),
  steps w v x (calls_in_declared t) (calls_in_all_declared ts) (objects_in_declared t) (objects_in_all_declared ts) p.1 q.1,
)

pub declarators : (u : UnitTree) (ls : List LocalTree) (words : Words) → is_unknown words.typing ≡ false → (ds : List DeclaratorTree) → DeclaratorsHave ds → (w : W) → NamesAre (around u ls w) (here w)
    → Begins u ls (after_declarators declarations.noting words ds w) → (after_declarators declarations.noting words ds w).found ≡ None → AllDeclaring u ls w (after_declarators declarations.noting words ds w) (declarator_trees_at declarations.noting words ds w)
unfolding after_declarators declarator_trees_at
declarators u ls words unknown [] k w n begins h = record { names = n; part = (tt, steps_none w w refl refl) }
declarators u ls words unknown (d ∷ ds) k w n begins h =
    let v = after_declarator declarations.noting words d w in
    let l = later_declarators words ds v in
    let one = declarator_of u ls words d.name d.dimensions d.initializer w n unknown k.0.0 k.0.1 (begins_before u ls v _ l begins) (l.found h) in
    let more = declarators u ls words unknown ds k.1 v one.names begins h in
    record { names = more.names; part = one_more u ls w v _ (declarator_tree_at declarations.noting words d w) (declarator_trees_at declarations.noting words ds v) one.part more.part }

pub moved : (u : UnitTree) (ls : List LocalTree) (w v x : W) (o : Option (List DeclaredTree)) → Steps w v [] 0 → v.locals ≡ w.locals → AllDeclaredPart u ls v x o → AllDeclaredPart u ls w x o
moved u ls w v x None a b p = tt
moved u ls w v x (Some ts) a b p = (
  subst (λ (n : ℕ). AreDeclared (record { unit = u; locals = ls; objects = n }) ts) (ap length b) p.0,
  steps_as w x (calls_in_all_declared ts) (calls_in_all_declared ts) (0 + objects_in_all_declared ts) (objects_in_all_declared ts) (steps w v x [] (calls_in_all_declared ts) 0 (objects_in_all_declared ts) a p.1) refl (omega arith),
)
