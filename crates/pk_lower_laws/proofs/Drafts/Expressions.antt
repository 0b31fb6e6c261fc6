-- Well-typed expressions are lowered typed.
use Rattle.std.proofs.Common.{◌≡◌, ℕ, ◌+◌, List, [], ◌∷◌, ◌++◌, Option, Some, None, refl, ap, sym, subst, ◌∙◌, slice_index_or}
use Rattle.std.proofs.lemmas.Option.{none-some, get_or_from_slice_get}
use Rattle.std.specs.Prelude.{slice_get, unwrap_or}
use Rattle.std.specs.Option.{option_map, option_and_then}
use Rattle.pk_ctypes.specs.declared.types.IntType.{IntType}
use Rattle.pk_typed.specs.declared.values.Variable.{Variable}
use Rattle.pk_typed.specs.declared.values.Variable.TheVariants.{File, Local}
use Rattle.pk_typed.specs.Trees.{PlaceTree, ValueTree, EffectTree, ValueTrees, LocalTree, FileObjectTree}
use Rattle.pk_typed.specs.Trees as tree
use Rattle.pk_typed.specs.Types.{type_of, type_of_place}
use Rattle.pk_graph.specs.Kinds.{count_of, Kind, scalar_kind, array_kind}
use Rattle.pk_draft.specs.Drafts.{Names}
use Rattle.pk_lower_row.specs.declared.shapes.Shape.TheVariants.{Named}
use Rattle.pk_lower_row.specs.Shapes.{any_makes}
use Rattle.pk_lower_row.specs.Contexts.{site, local_at, length_of, variable_of, array_of}
use Rattle.pk_lower_row.specs.Rows as row
use Rattle.pk_lower_row.specs.Rows.{Ways, Operand, operand, types_of, and_choice, or_choice, called}
use Rattle.pk_lower_expression.specs.Expressions.{target, ways, performed, passed}
use Rattle.pk_welltyped.specs.Listed.{Numbered, calls_at_place, calls_in, calls_in_effect, calls_in_values}
use Rattle.pk_welltyped.specs.WellTyped as good
use Rattle.pk_welltyped.specs.WellTyped.{Around, IsPlace, IsValue, IsEffect, AreValues, kind_among, IsObject}
use Rattle.pk_lower_laws.proofs.Drafts.Places.{D, Place, Has, Stage, Typed, Proper, Step, step}
use Rattle.pk_lower_laws.proofs.Drafts.Verbs.{IsCallee}
use Rattle.pk_lower_laws.proofs.Drafts.Rows.{Gives, Works, WaysAre, HasArray, idle, value_are}
use Rattle.pk_lower_laws.proofs.Drafts.Targets.{TargetIs, type_of_target, read_are, assign_are, update_are, step_are, constant_are}
use Rattle.pk_lower_laws.proofs.Drafts.Operators.{any_are, convert_are, unary_are, binary_are, and_chooses, or_chooses, truth_are, conditional_are, then_are, assumed_works, int_chooses, zero_chooses, check_works}
use Rattle.pk_lower_laws.proofs.Drafts.Calls.{Passes, passing, called_gives, called_works}
use Rattle.pk_typed.specs.Defaults.{no_local, length_of_start}

-- ---- calls in order

-- the calls have the numbers from m to n, and lead to paths of their functions
abbrev pub CallsAre : (w : Place) → ℕ → List Numbered → ℕ → Type 0
CallsAre w m [] n = m ≡ n
CallsAre w m (x ∷ xs) n = (x.number ≡ m) × IsCallee w (w.context.first + m) x.call.function × CallsAre w (m + 1) xs n

pub record Split (w : Place) (m n : ℕ) (xs ys : List Numbered) : Type 0 where
  pub middle : ℕ
  pub first : CallsAre w m xs middle
  pub second : CallsAre w middle ys n

pub split : (w : Place) (m n : ℕ) (xs ys : List Numbered) → CallsAre w m (xs ++ ys) n → Split w m n xs ys
split w m n [] ys h = record { middle = m; first = refl; second = h }
split w m n (x ∷ xs) ys h = let k = split w (m + 1) n xs ys h.2 in record { middle = k.middle; first = (h.0, h.1, k.first); second = k.second }

-- ---- objects

-- what is declared around the place
abbrev pub around : (w : Place) → Stage → Around
around w s = record { unit = w.context.unit; locals = w.context.locals; objects = s.objects }

pub object_is : (w : Place) → Proper w → (s : Stage) (k : Kind) (x : Variable) → IsObject (around w s) k x → (d : D w) → Typed w s d → Has w.table (variable_of w.context x d) k.int_type k.length
object_is w g s k (File i) h d t = subst (λ (n : Names w.table.Variable). Has w.table (n.file i) k.int_type k.length) (sym t.names) (g.files i k h)
object_is w g s k (Local i) h d t = subst (λ (n : Names w.table.Variable). Has w.table (n.object w.context.path i (slice_index_or d.objects i 0)) k.int_type k.length) (sym t.names) (t.objects.each i h.0 k h.1)

file_length : (t : IntType) (n : ℕ) (o : Option FileObjectTree) → option_map (λ (x : FileObjectTree). record { int_type = x.int_type; length = length_of_start x.start }) o ≡ Some (array_kind t n)
    → count_of (option_and_then (λ (x : FileObjectTree). length_of_start x.start) o) ≡ n
file_length t n None e = absurd (none-some (array_kind t n) e)
file_length t n (Some x) e = ap count_of (ap (λ (k : Option Kind). (unwrap_or k (array_kind t n)).length) e)

pub local_length : (w : Place) (i : ℕ) (k : Kind) → kind_among w.context.locals i ≡ Some k → (local_at w.context i).length ≡ k.length
local_length w i k e = known (slice_get w.context.locals i) refl e
  where
    known : (o : Option LocalTree) → slice_get w.context.locals i ≡ o → option_map (λ (x : LocalTree). record { int_type = x.int_type; length = x.length }) o ≡ Some k → (local_at w.context i).length ≡ k.length
    known None is e = absurd (none-some k e)
    known (Some x) is e = ap (λ (l : LocalTree). l.length) (get_or_from_slice_get w.context.locals i x no_local is) ∙ ap (λ (q : Option Kind). (unwrap_or q k).length) e

array_length : (w : Place) (s : Stage) (t : IntType) (n : ℕ) (x : Variable) → IsObject (around w s) (array_kind t n) x → count_of (length_of w.context x) ≡ n
array_length w s t n (File i) h = file_length t n (slice_get w.context.unit.objects i) h
array_length w s t n (Local i) h = ap count_of (local_length w i (array_kind t n) h.1)

pub array_there : (w : Place) → Proper w → (s : Stage) (t : IntType) (x : Variable) → good.IsArray (around w s) t x → (d : D w) → Typed w s d → HasArray w.table (array_of w.context x d) t
array_there w g s t x h d z =
    record { array = subst (λ (n : ℕ). Has w.table (variable_of w.context x d) t (Some n)) (sym (array_length w s t h.0 x h.1)) (object_is w g s (array_kind t h.0) x h.1 d z) }

-- ---- ranges

to_end : (w : Place) (m n : ℕ) (s : Stage) (t : IntType) (f : Ways w.table.Variable) → m ≡ n → WaysAre w m m s t f → WaysAre w m n s t f
to_end w m n s t f e h = subst (λ (k : ℕ). WaysAre w m k s t f) e h

abbrev lowered : (w : Place) → ValueTree → Operand w.table.Variable
lowered w e = operand e (ways w.context e)

mutual
  unfolding target ways performed passed IsPlace IsValue IsEffect AreValues calls_at_place calls_in calls_in_effect calls_in_values type_of

  targets : (w : Place) → Proper w → (m n : ℕ) (s : Stage) (p : PlaceTree) → IsPlace (around w s) p → CallsAre w m (calls_at_place p) n → TargetIs w m n s (target w.context p)
  targets w g m n s (tree.scalar t x) h c = (c, object_is w g s (scalar_kind t) x h)
  targets w g m n s (tree.element t x o i) h c = (values w g m n s i h.1 c, array_there w g s t x h.0)

  same_type : (w : Place) (p : PlaceTree) → type_of_target (target {V = w.table.Variable} w.context p) ≡ type_of_place p
  same_type w (tree.scalar t x) = refl
  same_type w (tree.element t x o i) = refl

  pub values : (w : Place) → Proper w → (m n : ℕ) (s : Stage) (v : ValueTree) → IsValue (around w s) v → CallsAre w m (calls_in v) n → WaysAre w m n s (type_of v) (ways w.context v)
  values w g m n s (tree.constant t z) h c = to_end w m n s t (ways w.context (tree.constant t z)) c (constant_are w g m s t z h)
  values w g m n s (tree.read p) h c = subst (λ (t : IntType). WaysAre w m n s t (ways w.context (tree.read p))) (same_type w p) (read_are w g m n s (target w.context p) (targets w g m n s p h c))
  values w g m n s (tree.assign o p e) h c =
      let k = split w m n (calls_at_place p) (calls_in e) c in
      subst (λ (t : IntType). WaysAre w m n s t (ways w.context (tree.assign o p e))) (same_type w p)
      (assign_are w g m k.middle n s (target w.context p) (lowered w e) (targets w g m k.middle s p h.0 k.first) (values w g k.middle n s e h.1 k.second))
  values w g m n s (tree.update op o t p e) h c =
      let k = split w m n (calls_at_place p) (calls_in e) c in
      subst (λ (u : IntType). WaysAre w m n s u (ways w.context (tree.update op o t p e))) (same_type w p)
      (update_are w g m k.middle n s op h.0 (site w.context o) t (target w.context p) (lowered w e) (targets w g m k.middle s p h.1 k.first) (values w g k.middle n s e h.2 k.second))
  values w g m n s (tree.step op o t p prefix) h c =
      subst (λ (u : IntType). WaysAre w m n s u (ways w.context (tree.step op o t p prefix))) (same_type w p) (step_are w g m n s op h.0 (site w.context o) t (target w.context p) prefix (targets w g m n s p h.1 c))
  values w g m n s (tree.call t f k o xs) h c =
      value_are w g m n s Named t (called w.context f k (types_of xs) (passed w.context xs))
      (subst (λ (j : ℕ). Gives w m n s t (called w.context f j (types_of xs) (passed w.context xs))) (sym c.0)
      (called_gives w g m n s t f (good.count xs) (types_of xs) (passed w.context xs) c.1 h.0 (arguments w g (m + 1) n s xs h.1 c.2)))
  values w g m n s (tree.any t o) h c = to_end w m n s t (ways w.context (tree.any t o)) c (any_are w g m s t)
  values w g m n s (tree.unary op o t e) h c = unary_are w g m n s op h.0 (site w.context o) t (lowered w e) (values w g m n s e h.1 c)
  values w g m n s (tree.convert t e) h c = convert_are w g m n s t (lowered w e) (values w g m n s e h c)
  values w g m n s (tree.binary op o t a b) h c =
      let k = split w m n (calls_in a) (calls_in b) c in
      binary_are w g m k.middle n s op h.0 (site w.context o) t (lowered w a) (lowered w b) (values w g m k.middle s a h.1 k.first) (values w g k.middle n s b h.2 k.second)
  values w g m n s (tree.and a b) h c =
      let k = split w m n (calls_in a) (calls_in b) c in
      truth_are w g m n s (and_choice (ways w.context a) (ways w.context b))
      (and_chooses w g m k.middle n s (ways w.context a) (ways w.context b) (values w g m k.middle s a h.0 k.first).choice (values w g k.middle n s b h.1 k.second).choice)
  values w g m n s (tree.or a b) h c =
      let k = split w m n (calls_in a) (calls_in b) c in
      truth_are w g m n s (or_choice (ways w.context a) (ways w.context b))
      (or_chooses w g m k.middle n s (ways w.context a) (ways w.context b) (values w g m k.middle s a h.0 k.first).choice (values w g k.middle n s b h.1 k.second).choice)
  values w g m n s (tree.conditional t e a b) h c =
      let k = split w m n (calls_in e ++ calls_in a) (calls_in b) c in
      let l = split w m k.middle (calls_in e) (calls_in a) k.first in
      conditional_are w g m l.middle k.middle n s t (ways w.context e) (lowered w a) (lowered w b) (values w g m l.middle s e h.0 l.first).choice (values w g l.middle k.middle s a h.1 l.second) (values w g k.middle n s b h.2 k.second)
  values w g m n s (tree.then_value e v) h c =
      let k = split w m n (calls_in_effect e) (calls_in v) c in
      then_are w m k.middle n s (type_of v) (performed w.context e) (ways w.context v) (effects w g m k.middle s e h.0 k.first) (values w g k.middle n s v h.1 k.second)

  pub effects : (w : Place) → Proper w → (m n : ℕ) (s : Stage) (e : EffectTree) → IsEffect (around w s) e → CallsAre w m (calls_in_effect e) n → Works w m n s (performed w.context e)
  effects w g m n s (tree.unused v) h c = (values w g m n s v h c).unused
  effects w g m n s (tree.run f k o xs) h c =
      subst (λ (j : ℕ). Works w m n s (λ d. (called w.context f j (types_of xs) (passed w.context xs) d).1)) (sym c.0) (called_works w g m n s f (types_of xs) (passed w.context xs) c.1 (arguments w g (m + 1) n s xs h.1 c.2))
  effects w g m n s (tree.assume o v) h c = assumed_works w g m n s (row.as_int (lowered w v)) (int_chooses w g m n s (lowered w v) (values w g m n s v h c))
  effects w g m n s (tree.assert o v) h c = check_works w g m n s (site w.context o) (type_of v) (ways w.context v).value (values w g m n s v h c).value
  effects w g m n s (tree.abort o) h c = subst (λ (k : ℕ). Works w m k s (performed w.context (tree.abort o))) c (assumed_works w g m m s row.zero_ways (zero_chooses w g m s))
  effects w g m n s (tree.then_effect a b) h c =
      let k = split w m n (calls_in_effect a) (calls_in_effect b) c in
      λ d. step w m k.middle n s s s d (performed w.context a d) (performed w.context b (performed w.context a d)) (Unit {0}) (Unit {0}) (Unit {0}) (effects w g m k.middle s a h.0 k.first d) (effects w g k.middle n s b h.1 k.second (performed w.context a d))

  pub arguments : (w : Place) → Proper w → (m n : ℕ) (s : Stage) (xs : ValueTrees) → AreValues (around w s) xs → CallsAre w m (calls_in_values xs) n → Passes w m n s (types_of xs) (passed w.context xs)
  arguments w g m n s tree.no_values h c = λ d. subst (λ (k : ℕ). Step w m k s s d d (Unit {0}) (Unit {0})) c (idle w m s d (Unit {0}))
  arguments w g m n s (tree.value_before e xs) h c =
      let k = split w m n (calls_in e) (calls_in_values xs) c in
      passing w g m k.middle n s (any_makes xs) (lowered w e) (types_of xs) (passed w.context xs) (values w g m k.middle s e h.0 k.first) (arguments w g k.middle n s xs h.1 k.second)
