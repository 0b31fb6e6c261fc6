-- The shape of an expression is that of its tree, wherever it is lowered.
use Rattle.std.proofs.Common.{◌≡◌, length, List, [], ◌∷◌, ℕ, ◌+◌, ◌<◌, ◌≤◌, Bool, true, false, if◌then◌else◌, refl, sym, ap, ◌∙◌, subst, arith, ℤ, Some}
use Rattle.std.specs.Prelude.{Result, Ok, Err, pos}
use Rattle.pk_ctypes.specs.declared.faults.Fault.{Fault}
use Rattle.pk_ctypes.specs.declared.types.IntType.{IntType}
use Rattle.pk_ctypes.specs.declared.types.IntType.TheVariants.{Int}
use Rattle.pk_ctypes.specs.declared.types.Op.{Op}
use Rattle.pk_ctypes.specs.Types.{represents}
use Rattle.pk_ctypes.specs.Operators.{value_of, result_type}
use Rattle.pk_typed.specs.declared.values.Variable.{Variable}
use Rattle.pk_typed.specs.declared.values.Variable.TheVariants.{File, Local}
use Rattle.pk_typed.specs.Trees.{PlaceTree, ValueTree, EffectTree}
use Rattle.pk_typed.specs.Trees as tree
use Rattle.pk_typed.specs.Types.{type_of}
use Rattle.pk_graph.specs.declared.trees.Site.{Site}
use Rattle.pk_graph.specs.Trees.{constant, variable, unary, binary}
use Rattle.pk_draft.specs.Drafts.{Given, Names, at, fresh, with_temporary, next_temporary, object_number}
use Rattle.pk_draft.specs.Folding.{conversion, kept_if, folded, unary_tree, binary_tree, right_type}
use Rattle.pk_draft.specs.declared.drafts.Size.{Size}
use Rattle.pk_lower_row.specs.declared.shapes.Shape.{Shape}
use Rattle.pk_lower_row.specs.declared.shapes.Shape.TheVariants.{Fixed, Temporary, Named, Other}
use Rattle.pk_lower_row.specs.declared.shapes.Waiting.{Waiting}
use Rattle.pk_lower_row.specs.declared.shapes.Waiting.TheVariants.{Loose, Strong, Weak}
use Rattle.pk_lower_row.specs.Shapes.{shape_of_place, folded_shape, kept_shape_if, converted_shape, unary_shape, binary_shape, operated_shape, shape_of, strong_if, strong_or_weak}
use Rattle.pk_lower_row.specs.Contexts.{Context, variable_of, array_of, site, callee, parameters_of}
use Rattle.pk_lower_row.specs.Rows as rows
use Rattle.pk_lower_row.specs.Rows.{Operand, held, two, one}
use Rattle.pk_lower_expression.specs.Expressions.{target, ways, performed, passed}
use Rattle.pk_welltyped.specs.Listed.{Numbered, calls_in, calls_in_effect, calls_in_values}
use Rattle.pk_meaning.specs.Objects.{Object, result}
use Rattle.pk_meaning.specs.Programs.{object_of}
use Rattle.pk_visits.proofs.Slots.{Slot, own, temporary, slots, SlotTree, Draft}
use Rattle.pk_visits.proofs.Grows.Rows.{WaysGrow, Makes, Gives, Chooses, two_grows, loaded_grows, and_grows, or_grows, grows_refl, one_grows, held_grows}
use Rattle.pk_visits.proofs.Grows.Expressions.{AllCalled, values, effects, arguments, lowered}

-- what a shape says of a tree, of which n variables are made
abbrev pub Tells : ℕ → Shape → SlotTree → Type 0
Tells n (Fixed z) e = (t : IntType) × (e ≡ constant t z)
Tells n Temporary e = (m : ℕ) × (m < n) × (e ≡ variable (temporary m))
Tells n Named e = (x : Object) × (e ≡ variable (own x))
Tells n Other e = Unit {0}

pub tells_more : (m n : ℕ) (s : Shape) (e : SlotTree) → m ≤ n → Tells m s e → Tells n s e
tells_more m n (Fixed z) e le h = h
tells_more m n Temporary e le h = (h.0, let k = h.1 in omega (arith, k, le), h.2)
tells_more m n Named e le h = h
tells_more m n Other e le h = tt

-- ---- conversions and operators

kept_tells : (n : ℕ) (b : Bool) (t : IntType) (x : Slot) (s : Shape) → Tells n s (variable x) → Tells n (kept_shape_if b s) (kept_if b t (variable x))
kept_tells n true t x s h = h
kept_tells n false t x s h = tt

other_tells : (n : ℕ) (b : Bool) (e : SlotTree) → Tells n (kept_shape_if b Other) e
other_tells n true e = tt
other_tells n false e = tt

pub converted_tells : (n : ℕ) (u t : IntType) (s : Shape) (e : SlotTree) → Tells n s e → Tells n (converted_shape u t s) (conversion u t e)
converted_tells n u t (Fixed z) e h = (t, ap (conversion u t) h.1)
converted_tells n u t Temporary e h =
    subst (λ f. Tells n (converted_shape u t Temporary) (conversion u t f)) (sym h.2) (kept_tells n (represents t u) t (temporary h.0) Temporary (h.0, h.1, refl))
converted_tells n u t Named e h =
    subst (λ f. Tells n (converted_shape u t Named) (conversion u t f)) (sym h.1) (kept_tells n (represents t u) t (own h.0) Named (h.0, refl))
converted_tells n u t Other e h = other_tells n (represents t u) (conversion u t e)

folded_tells : (n : ℕ) (t : IntType) (e : SlotTree) (r : Result ℤ Fault) → Tells n (folded_shape Other (Some r)) (folded t e (Some r))
folded_tells n t e (Ok z) = (t, refl)
folded_tells n t e (Err f) = tt

pub unary_tells : (n : ℕ) (op : Op) (r : Site) (t : IntType) (s : Shape) (e : SlotTree) → Tells n s e → Tells n (unary_shape op t s) (unary_tree op r t e)
unary_tells n op r t (Fixed z) e h =
    subst (λ f. Tells n (unary_shape op t (Fixed z)) (unary_tree op r t f)) (sym h.1) (folded_tells n (result_type op t) (unary op r t (constant h.0 z)) (value_of op t z z))
unary_tells n op r t Temporary e h = tt
unary_tells n op r t Named e h = tt
unary_tells n op r t Other e h = tt

-- what is asked of an operand: the number of a constant
abbrev pub Half : Shape → SlotTree → Type 0
Half (Fixed z) e = (t : IntType) × (e ≡ constant t z)
Half Temporary e = Unit {0}
Half Named e = Unit {0}
Half Other e = Unit {0}

pub half_of : (n : ℕ) (s : Shape) (e : SlotTree) → Tells n s e → Half s e
half_of n (Fixed z) e h = h
half_of n Temporary e h = tt
half_of n Named e h = tt
half_of n Other e h = tt

pub converted_half : (u t : IntType) (s : Shape) (e : SlotTree) → Half s e → Half (converted_shape u t s) (conversion u t e)
converted_half u t (Fixed z) e h = (t, ap (conversion u t) h.1)
converted_half u t Temporary e h = temporary_half (represents t u) (conversion u t e) where
  temporary_half : (b : Bool) (f : SlotTree) → Half (kept_shape_if b Temporary) f
  temporary_half true f = tt
  temporary_half false f = tt
converted_half u t Named e h = named_half (represents t u) (conversion u t e) where
  named_half : (b : Bool) (f : SlotTree) → Half (kept_shape_if b Named) f
  named_half true f = tt
  named_half false f = tt
converted_half u t Other e h = other_half (represents t u) (conversion u t e) where
  other_half : (b : Bool) (f : SlotTree) → Half (kept_shape_if b Other) f
  other_half true f = tt
  other_half false f = tt

both_fixed : (n : ℕ) (op : Op) (r : Site) (t : IntType) (z w : ℤ) (a b : SlotTree) → Half (Fixed z) a → Half (Fixed w) b → Tells n (binary_shape op t (Fixed z) (Fixed w)) (binary_tree op r t a b)
both_fixed n op r t z w a b h k =
    subst (λ f. Tells n (binary_shape op t (Fixed z) (Fixed w)) (binary_tree op r t f b)) (sym h.1)
    (subst (λ f. Tells n (binary_shape op t (Fixed z) (Fixed w)) (binary_tree op r t (constant h.0 z) f)) (sym k.1)
    (folded_tells n (result_type op t) (binary op r t (constant h.0 z) (constant k.0 w)) (value_of op t z w)))

pub binary_tells : (n : ℕ) (op : Op) (r : Site) (t : IntType) (s q : Shape) (a b : SlotTree) → Half s a → Half q b → Tells n (binary_shape op t s q) (binary_tree op r t a b)
binary_tells n op r t (Fixed z) (Fixed w) a b h k = both_fixed n op r t z w a b h k
binary_tells n op r t (Fixed z) Temporary a b h k = tt
binary_tells n op r t (Fixed z) Named a b h k = tt
binary_tells n op r t (Fixed z) Other a b h k = tt
binary_tells n op r t Temporary (Fixed w) a b h k = tt
binary_tells n op r t Temporary Temporary a b h k = tt
binary_tells n op r t Temporary Named a b h k = tt
binary_tells n op r t Temporary Other a b h k = tt
binary_tells n op r t Named (Fixed w) a b h k = tt
binary_tells n op r t Named Temporary a b h k = tt
binary_tells n op r t Named Named a b h k = tt
binary_tells n op r t Named Other a b h k = tt
binary_tells n op r t Other (Fixed w) a b h k = tt
binary_tells n op r t Other Temporary a b h k = tt
binary_tells n op r t Other Named a b h k = tt
binary_tells n op r t Other Other a b h k = tt

-- a constant stays one where it waits
pub held_half : (how : Waiting) (s : Shape) (t : IntType) (r : Given Slot) → Half s r.0 → Half s (held how s t r).0
held_half Loose (Fixed z) t r h = h
held_half Strong (Fixed z) t r h = h
held_half Weak (Fixed z) t r h = h
held_half how Temporary t r h = tt
held_half how Named t r h = tt
held_half how Other t r h = tt

-- ---- names

pub new_temporary : (d : Draft) → d.names ≡ slots → Tells (d.variables + 1) Temporary (variable (next_temporary d))
new_temporary d n = (d.variables, omega arith, ap (λ (ns : Names Slot). variable (ns.temporary d.variables)) n)

pub variable_is : (c : Context) (x : Variable) (d : Draft) → d.names ≡ slots → variable_of c x d ≡ own (object_of c.path x)
variable_is c (File i) d n = ap (λ (ns : Names Slot). ns.file i) n
variable_is c (Local i) d n = ap (λ (ns : Names Slot). ns.object c.path i (object_number i d)) n

named_tells : (m : ℕ) (c : Context) (x : Variable) (d : Draft) → d.names ≡ slots → Tells m Named (variable (variable_of c x d))
named_tells m c x d n = (object_of c.path x, ap variable (variable_is c x d n))

-- ---- expressions

pub any_called : (c : Context) (xs : List Numbered) → AllCalled (λ k s. Unit {0}) c xs
any_called c [] = tt
any_called c (x ∷ xs) = (tt, any_called c xs)

abbrev pub Any : ℕ → Size → Type 0
Any k s = Unit {0}

pub sane : (c : Context) (e : ValueTree) → WaysGrow Any (ways c e)
sane c e = values Any c e (any_called c (calls_in e))

pub sane_effect : (c : Context) (e : EffectTree) → Makes Any (performed c e)
sane_effect c e = effects Any c e (any_called c (calls_in_effect e))

-- the temporary that both branches set is made
joined_more : (t : IntType) (choice : (p q : ℕ) → Draft → Draft) (a b : Draft → Given Slot) → Chooses Any choice → Gives Any a → Gives Any b → (d : Draft)
    → d.variables + 1 ≤ (rows.joined t choice a b d).1.variables
joined_more t choice a b x y z d =
    let e = choice d.points (d.points + 1) (with_temporary t (fresh 3 d)) in
    let v = next_temporary d in
    let m = rows.set_between v (d.points + 2) (d.points + 1) (a (at d.points e)) in
    let g1 = (x d.points (d.points + 1) (with_temporary t (fresh 3 d))).variables in
    let g2 = (y (at d.points e)).variables in
    let g3 = (z m).variables in
    omega (arith, g1, g2, g3)

joined_tells : (t : IntType) (choice : (p q : ℕ) → Draft → Draft) (a b : Draft → Given Slot) → Chooses Any choice → Gives Any a → Gives Any b → (d : Draft) → d.names ≡ slots
    → Tells (rows.joined t choice a b d).1.variables Temporary (rows.joined t choice a b d).0
joined_tells t choice a b x y z d n = tells_more (d.variables + 1) _ Temporary _ (joined_more t choice a b x y z d) (new_temporary d n)

binary_shapes : (op : Op) (s : Site) (t : IntType) (a b : Operand Slot) (d : Draft) → WaysGrow Any a.ways → d.names ≡ slots → Half a.shape (a.ways.value d).0
    → ((e : Draft) → e.names ≡ slots → Half b.shape (b.ways.value e).0) → Tells (rows.binary_value op s t a b d).1.variables (operated_shape op t a.int_type b.int_type a.shape b.shape) (rows.binary_value op s t a b d).0
binary_shapes op s t a b d g n h k =
    let r = a.ways.value d in
    let f = held (strong_if b.makes) a.shape a.int_type r in
    let q = b.ways.value f.1 in
    let m = (held_grows Any (strong_if b.makes) a.shape a.int_type r).names ∙ (g.value d).names ∙ n in
    binary_tells q.1.variables op s t (converted_shape a.int_type t a.shape) (converted_shape b.int_type (right_type op b.int_type t) b.shape) (conversion a.int_type t f.0) (conversion b.int_type (right_type op b.int_type t) q.0)
    (converted_half a.int_type t a.shape f.0 (held_half (strong_if b.makes) a.shape a.int_type r h))
    (converted_half b.int_type (right_type op b.int_type t) b.shape q.0 (k f.1 m))

-- `++x` or `x++`
step_shapes : (c : Context) (op : Op) (s : Site) (o : IntType) (r : PlaceTree) (prefix : Bool) (d : Draft) → d.names ≡ slots
    → Tells ((rows.step_ways op s o (target c r) prefix).value d).1.variables (if prefix then shape_of_place r else Temporary) ((rows.step_ways op s o (target c r) prefix).value d).0
unfolding target
step_shapes c op s o (tree.scalar t x) true d n = named_tells 0 c x d n
step_shapes c op s o (tree.scalar t x) false d n = new_temporary d n
step_shapes c op s o (tree.element t x at i) true d n =
    let p = rows.loaded t (site c at) (array_of c x d) (lowered c i) one d in
    new_temporary p.draft ((loaded_grows Any t (site c at) (array_of c x d) (lowered c i) one (sane c i) (one_grows Any) d).names ∙ n)
step_shapes c op s o (tree.element t x at i) false d n =
    let q = two (strong_or_weak (one {V = Slot}).makes) (lowered c i) one d in
    let k = held Weak (one {V = Slot}).shape Int (q.second, q.draft) in
    new_temporary k.1 ((held_grows Any Weak (one {V = Slot}).shape Int (q.second, q.draft)).names
    ∙ (two_grows Any (strong_or_weak (one {V = Slot}).makes) (lowered c i) one (sane c i) (one_grows Any) d).names ∙ n)

pub shapes : (c : Context) (e : ValueTree) (d : Draft) → d.names ≡ slots → Tells ((ways c e).value d).1.variables (shape_of e) ((ways c e).value d).0
unfolding target ways
shapes c (tree.constant t z) d n = (t, refl)
shapes c (tree.read (tree.scalar t x)) d n = named_tells 0 c x d n
shapes c (tree.read (tree.element t x at i)) d n = new_temporary ((ways c i).value d).1 (((sane c i).value d).names ∙ n)
shapes c (tree.assign at (tree.scalar t x) e) d n = named_tells 0 c x d n
shapes c (tree.assign at (tree.element t x q i) e) d n =
    let p = two (strong_or_weak (lowered c e).makes) (lowered c i) (lowered c e) d in
    new_temporary p.draft ((two_grows Any (strong_or_weak (lowered c e).makes) (lowered c i) (lowered c e) (sane c i) (sane c e) d).names ∙ n)
shapes c (tree.update op at o (tree.scalar t x) e) d n = named_tells 0 c x d n
shapes c (tree.update op at o (tree.element t x q i) e) d n =
    let p = rows.loaded t (site c q) (array_of c x d) (lowered c i) (lowered c e) d in
    new_temporary p.draft ((loaded_grows Any t (site c q) (array_of c x d) (lowered c i) (lowered c e) (sane c i) (sane c e) d).names ∙ n)
shapes c (tree.step op at o r prefix) d n = step_shapes c op (site c at) o r prefix d n
shapes c (tree.call t f m at es) d n =
    let r = passed c es d in
    (result (callee c m), ap (λ (ns : Names Slot). variable (ns.result (callee c m) (r.draft.variables + length (parameters_of c.unit f)))) ((arguments Any c es (any_called c (calls_in_values es)) d).names ∙ n))
shapes c (tree.any t at) d n = new_temporary d n
shapes c (tree.unary op at t e) d n =
    unary_tells ((ways c e).value d).1.variables op (site c at) t (converted_shape (type_of e) t (shape_of e)) (conversion (type_of e) t ((ways c e).value d).0)
    (converted_tells ((ways c e).value d).1.variables (type_of e) t (shape_of e) ((ways c e).value d).0 (shapes c e d n))
shapes c (tree.convert t e) d n = converted_tells ((ways c e).value d).1.variables (type_of e) t (shape_of e) ((ways c e).value d).0 (shapes c e d n)
shapes c (tree.binary op at t a b) d n =
    binary_shapes op (site c at) t (lowered c a) (lowered c b) d (sane c a) n (half_of ((ways c a).value d).1.variables (shape_of a) ((ways c a).value d).0 (shapes c a d n))
    (λ e m. half_of ((ways c b).value e).1.variables (shape_of b) ((ways c b).value e).0 (shapes c b e m))
shapes c (tree.and a b) d n =
    joined_tells Int (rows.and_choice (ways c a) (ways c b)) (λ f. (constant Int (pos 1), f)) (λ f. (constant Int (pos 0), f)) (and_grows Any (ways c a) (ways c b) (sane c a) (sane c b)) (grows_refl Any) (grows_refl Any) d n
shapes c (tree.or a b) d n =
    joined_tells Int (rows.or_choice (ways c a) (ways c b)) (λ f. (constant Int (pos 1), f)) (λ f. (constant Int (pos 0), f)) (or_grows Any (ways c a) (ways c b) (sane c a) (sane c b)) (grows_refl Any) (grows_refl Any) d n
shapes c (tree.conditional t e a b) d n =
    joined_tells t (ways c e).choice (rows.convert_value t (lowered c a)) (rows.convert_value t (lowered c b)) (sane c e).choice (λ f. (sane c a).value f) (λ f. (sane c b).value f) d n
shapes c (tree.then_value f v) d n = shapes c v (performed c f d) ((sane_effect c f d).names ∙ n)
