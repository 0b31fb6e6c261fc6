-- Expressions whose variables are renamed: the lowering makes the same of them.
use Rattle.std.proofs.Common.{◌≡◌, ℕ, List, Bool, true, false, if◌then◌else◌, refl, ap, ◌∙◌, pos}
use Rattle.pk_ctypes.specs.declared.types.IntType.{IntType}
use Rattle.pk_ctypes.specs.declared.types.IntType.TheVariants.{Int}
use Rattle.pk_ctypes.specs.declared.types.Op.{Op}
use Rattle.pk_ctypes.specs.Types.{represents}
use Rattle.pk_typed.specs.declared.values.Variable.{Variable}
use Rattle.pk_typed.specs.declared.values.Variable.TheVariants.{File, Local}
use Rattle.pk_typed.specs.Trees.{PlaceTree, ValueTree, EffectTree, ValueTrees}
use Rattle.pk_typed.specs.Trees as tree
use Rattle.pk_typed.specs.Types.{type_of}
use Rattle.pk_graph.specs.declared.trees.Site.{Site}
use Rattle.pk_graph.specs.Trees.{constant, variable, ArrayOf}
use Rattle.pk_graph.specs.Kinds.{count_of}
use Rattle.pk_draft.specs.Drafts.{DraftOf, Given, stored}
use Rattle.pk_lower_row.specs.declared.shapes.Shape.TheVariants.{Fixed, Named}
use Rattle.pk_lower_row.specs.Shapes.{any_makes}
use Rattle.pk_lower_row.specs.Contexts.{Context, site, callee, size_in, parameters_of, variable_of, array_of, length_of}
use Rattle.pk_lower_row.specs.Rows as rows
use Rattle.pk_lower_row.specs.Rows.{Ways, Target, operand, types_of}
use Rattle.pk_lower_expression.specs.Expressions.{target, ways, performed, passed}
use Rattle.pk_visits.proofs.Numbered.Names.{array_by, draft_by, stored_by}
use Rattle.pk_visits.proofs.Numbered.Rows.{Works, Gives, WaysBy, beside, TargetsBy, scalars, elements, both_by, value_by, read_by, any_by, convert_by, unary_ways_by, binary_ways_by, and_by, or_by, then_by}
use Rattle.pk_visits.proofs.Numbered.Forms.{assign_by, update_scalar_by, update_by, loads_by, renew_old_by, renew_unused_by, given, truth_by, conditional_by, assumed_by, check_by, Passes, call_after_by, passed_before_by}

-- ---- steps

one_by : {V W : Type 0} (f : V → W) → WaysBy f (rows.one {V = V}).ways (rows.one {V = W}).ways
one_by f = value_by f (Fixed (pos 1)) Int (λ d. (constant Int (pos 1), d)) (λ d. (constant Int (pos 1), d)) (λ d. refl)

abbrev stepped : {W : Type 0} → Op → Site → (o t : IntType) → W → Given W → Given W
stepped op s o t x r = (r.0, rows.update_scalar op s o t x rows.one r.1)

after_by : {V W : Type 0} (f : V → W) (op : Op) (s : Site) (o : IntType) (x : Target V) (y : Target W) → TargetsBy f x y → WaysBy f (rows.after_ways op s o x) (rows.after_ways op s o y)
after_by {V = V} {W = W} f op s o x y (scalars {t = t} {x = v} {y = u} h) =
    both_by f (λ d. rows.after_scalar op s o t (v d) d) (λ d. rows.after_scalar op s o t (u d) d) (λ d. rows.update_scalar op s o t (v d) rows.one d) (λ d. rows.update_scalar op s o t (u d) rows.one d)
    (λ d. ap (λ z. rows.after_scalar op s o t z (draft_by f d)) (h d)
    ∙ ap (stepped op s o t (f (v d))) (stored_by f t (variable (v d)) d)
    ∙ ap (given (variable (f (d.names.temporary d.variables)))) (update_scalar_by f op s o t (v d) (rows.one {V = V}) (rows.one {V = W}).ways (one_by f) (stored t (variable (v d)) d).1))
    (λ d. ap (λ z. rows.update_scalar op s o t z rows.one (draft_by f d)) (h d) ∙ update_scalar_by f op s o t (v d) (rows.one {V = V}) (rows.one {V = W}).ways (one_by f) d)
after_by {V = V} {W = W} f op s o x y (elements {t = t} {s = r} {a = a} {b = b} {i = i} {z = z} h k) =
    both_by f (λ d. rows.after_element op s o t r (a d) i d) (λ d. rows.after_element op s o t r (b d) (beside i z) d)
    (λ d. rows.renew_unused op s o t r (a d) Int (rows.loaded t r (a d) i rows.one d)) (λ d. rows.renew_unused op s o t r (b d) Int (rows.loaded t r (b d) (beside i z) rows.one d))
    (λ d. ap (λ c. rows.renew_old op s o t r c (rows.loaded t r (b (draft_by f d)) (beside i z) rows.one (draft_by f d))) (h d)
    ∙ ap (rows.renew_old op s o t r (array_by f (a d))) (loads_by f t r a b i (rows.one {V = V}) z (rows.one {V = W}).ways h k (one_by f) d)
    ∙ renew_old_by f op s o t r (a d) (rows.loaded t r (a d) i rows.one d))
    (λ d. ap (λ c. rows.renew_unused op s o t r c Int (rows.loaded t r (b (draft_by f d)) (beside i z) rows.one (draft_by f d))) (h d)
    ∙ ap (rows.renew_unused op s o t r (array_by f (a d)) Int) (loads_by f t r a b i (rows.one {V = V}) z (rows.one {V = W}).ways h k (one_by f) d)
    ∙ renew_unused_by f op s o t r (a d) Int (rows.loaded t r (a d) i rows.one d))

step_by : {V W : Type 0} (f : V → W) (op : Op) (s : Site) (o : IntType) (x : Target V) (y : Target W) (prefix : Bool) → TargetsBy f x y → WaysBy f (rows.step_ways op s o x prefix) (rows.step_ways op s o y prefix)
step_by {V = V} {W = W} f op s o x y true h = update_by f op s o x y (rows.one {V = V}) (rows.one {V = W}).ways h (one_by f)
step_by f op s o x y false h = after_by f op s o x y h

-- ---- the forms

pub variable_by : {V W : Type 0} (f : V → W) (c : Context) (x : Variable) (d : DraftOf V) → variable_of c x (draft_by f d) ≡ f (variable_of c x d)
variable_by f c (File i) d = refl
variable_by f c (Local i) d = refl

abbrev array_at : {W : Type 0} → ℕ → W → ArrayOf W
array_at n x = record { variable = x; length = n }

pub array_of_by : {V W : Type 0} (f : V → W) (c : Context) (x : Variable) (d : DraftOf V) → array_of c x (draft_by f d) ≡ array_by f (array_of c x d)
array_of_by f c x d = ap (array_at (count_of (length_of c x))) (variable_by f c x d)

either_ways : {V W : Type 0} (f : V → W) (b : Bool) (w x : Ways V) (z y : Ways W) → WaysBy f w z → WaysBy f x y → WaysBy f (if b then w else x) (if b then z else y)
either_ways f true w x z y h k = h
either_ways f false w x z y h k = k

zero_by : {V W : Type 0} (f : V → W) → WaysBy f (rows.zero_ways {V = V}) (rows.zero_ways {V = W})
zero_by f = value_by f (Fixed (pos 0)) Int (λ d. (constant Int (pos 0), d)) (λ d. (constant Int (pos 0), d)) (λ d. refl)

called_by : {V W : Type 0} (f : V → W) (c : Context) (g n : ℕ) (ts : List IntType) (a : DraftOf V → rows.Passed V) (b : DraftOf W → rows.Passed W) → Passes f a b → Gives f (rows.called c g n ts a) (rows.called c g n ts b)
called_by f c g n ts a b h d =
    ap (rows.call_after (callee c n) (size_in c.sizes g) (parameters_of c.unit g) ts) (h d) ∙ call_after_by f (callee c n) (size_in c.sizes g) (parameters_of c.unit g) ts (a d)

mutual
  unfolding target ways performed passed

  pub target_by : (V W : Type 0) (f : V → W) (c : Context) (r : PlaceTree) → TargetsBy f (target c r) (target c r)
  target_by V W f c (tree.scalar t x) = scalars (variable_by f c x)
  target_by V W f c (tree.element t x o i) = elements (array_of_by f c x) (ways_by V W f c i)

  pub ways_by : (V W : Type 0) (f : V → W) (c : Context) (v : ValueTree) → WaysBy f (ways c v) (ways c v)
  ways_by V W f c (tree.constant t z) = value_by f (Fixed z) t (λ d. (constant t z, d)) (λ d. (constant t z, d)) (λ d. refl)
  ways_by V W f c (tree.read r) = read_by f (target c r) (target c r) (target_by V W f c r)
  ways_by V W f c (tree.assign o r a) = assign_by f (target c r) (target c r) (operand a (ways c a)) (ways c a) (target_by V W f c r) (ways_by V W f c a)
  ways_by V W f c (tree.update op o t r a) = update_by f op (site c o) t (target c r) (target c r) (operand a (ways c a)) (ways c a) (target_by V W f c r) (ways_by V W f c a)
  ways_by V W f c (tree.step op o t r prefix) = step_by f op (site c o) t (target c r) (target c r) prefix (target_by V W f c r)
  ways_by V W f c (tree.call t g n o es) =
      value_by f Named t (rows.called c g n (types_of es) (passed c es)) (rows.called c g n (types_of es) (passed c es)) (called_by f c g n (types_of es) (passed c es) (passed c es) (arguments_by V W f c es))
  ways_by V W f c (tree.any t o) = any_by f t
  ways_by V W f c (tree.unary op o t a) = unary_ways_by f op (site c o) t (operand a (ways c a)) (ways c a) (ways_by V W f c a)
  ways_by V W f c (tree.convert t a) = convert_by f t (operand a (ways c a)) (ways c a) (ways_by V W f c a)
  ways_by V W f c (tree.binary op o t a b) = binary_ways_by f op (site c o) t (operand a (ways c a)) (operand b (ways c b)) (ways c a) (ways c b) (ways_by V W f c a) (ways_by V W f c b)
  ways_by V W f c (tree.and a b) = truth_by f (rows.and_choice (ways c a) (ways c b)) (rows.and_choice (ways c a) (ways c b)) (and_by f (ways c a) (ways c b) (ways c a) (ways c b) (ways_by V W f c a) (ways_by V W f c b))
  ways_by V W f c (tree.or a b) = truth_by f (rows.or_choice (ways c a) (ways c b)) (rows.or_choice (ways c a) (ways c b)) (or_by f (ways c a) (ways c b) (ways c a) (ways c b) (ways_by V W f c a) (ways_by V W f c b))
  ways_by V W f c (tree.conditional t e a b) =
      conditional_by f t (ways c e) (ways c e) (operand a (ways c a)) (operand b (ways c b)) (ways c a) (ways c b) (ways_by V W f c e) (ways_by V W f c a) (ways_by V W f c b)
  ways_by V W f c (tree.then_value e v) = then_by f (performed c e) (performed c e) (ways c v) (ways c v) (performed_by V W f c e) (ways_by V W f c v)

  pub performed_by : (V W : Type 0) (f : V → W) (c : Context) (e : EffectTree) → Works f (performed c e) (performed c e)
  performed_by V W f c (tree.unused v) = (ways_by V W f c v).unused
  performed_by V W f c (tree.run g n o es) = λ d. ap (λ r. r.1) (called_by f c g n (types_of es) (passed c es) (passed c es) (arguments_by V W f c es) d)
  performed_by V W f c (tree.assume o v) =
      assumed_by f (rows.as_int (operand v (ways c v))) (rows.as_int (operand v (ways c v)))
      (either_ways f (represents Int (type_of v)) (ways c v) (rows.convert_ways Int (operand v (ways c v))) (ways c v) (rows.convert_ways Int (operand v (ways c v))) (ways_by V W f c v)
      (convert_by f Int (operand v (ways c v)) (ways c v) (ways_by V W f c v)))
  performed_by V W f c (tree.assert o v) = λ d. ap (rows.check_after (site c o) (type_of v)) ((ways_by V W f c v).value d) ∙ check_by f (site c o) (type_of v) ((ways c v).value d)
  performed_by V W f c (tree.abort o) = assumed_by f rows.zero_ways rows.zero_ways (zero_by f)
  performed_by V W f c (tree.then_effect a b) = λ d. ap (performed c b) (performed_by V W f c a d) ∙ performed_by V W f c b (performed c a d)

  pub arguments_by : (V W : Type 0) (f : V → W) (c : Context) (es : ValueTrees) → Passes f (passed c es) (passed c es)
  arguments_by V W f c tree.no_values = λ d. refl
  arguments_by V W f c (tree.value_before e es) = passed_before_by f (any_makes es) (operand e (ways c e)) (ways c e) (passed c es) (passed c es) (ways_by V W f c e) (arguments_by V W f c es)
