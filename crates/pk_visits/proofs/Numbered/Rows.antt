-- Expressions whose variables are renamed: each row of the lowering makes the same of them.
use Rattle.std.proofs.Common.{◌≡◌, ℕ, Bool, true, false, if◌then◌else◌, refl, ap, ◌∙◌}
use Rattle.pk_ctypes.specs.declared.types.IntType.{IntType}
use Rattle.pk_ctypes.specs.declared.types.Op.{Op}
use Rattle.pk_ctypes.specs.Operators.{result_type, is_not}
use Rattle.pk_graph.specs.declared.trees.Site.{Site}
use Rattle.pk_graph.specs.Trees.{TreeOf, variable, ArrayOf, Set, Havoc, Load, Guard}
use Rattle.pk_draft.specs.Drafts.{DraftOf, Given, at, fresh, with_temporary, next_temporary, link}
use Rattle.pk_draft.specs.Folding.{conversion, unary_tree}
use Rattle.pk_lower_row.specs.declared.shapes.Shape.{Shape}
use Rattle.pk_lower_row.specs.declared.shapes.Shape.TheVariants.{Temporary, Named}
use Rattle.pk_lower_row.specs.declared.shapes.Waiting.{Waiting}
use Rattle.pk_lower_row.specs.Shapes.{converted_shape, unary_shape, operated_shape, is_plain, strong_if, stays}
use Rattle.pk_lower_row.specs.Rows as rows
use Rattle.pk_lower_row.specs.Rows.{Ways, Operand, Target, scalar, element, Two}
use Rattle.pk_visits.proofs.Numbered.Names.{tree_by, array_by, draft_by, given_by, conversion_by, unary_by, operated_by, link_by, emit_by, stored_by}

-- what these make of a renamed draft is what those make, renamed
abbrev pub Works : {V W : Type 0} → (V → W) → (DraftOf V → DraftOf V) → (DraftOf W → DraftOf W) → Type 0
Works {V = V} f a b = (d : DraftOf V) → b (draft_by f d) ≡ draft_by f (a d)

abbrev pub Gives : {V W : Type 0} → (V → W) → (DraftOf V → Given V) → (DraftOf W → Given W) → Type 0
Gives {V = V} f a b = (d : DraftOf V) → b (draft_by f d) ≡ given_by f (a d)

pub record WaysBy {V W : Type 0} (f : V → W) (w : Ways V) (z : Ways W) : Type 0 where
  pub value : Gives f w.value z.value
  pub choice : (p q : ℕ) → Works f (w.choice p q) (z.choice p q)
  pub unused : Works f w.unused z.unused

-- the same operand with other ways
abbrev pub beside : {V W : Type 0} → Operand V → Ways W → Operand W
beside a z = record { int_type = a.int_type; shape = a.shape; makes = a.makes; ways = z }

pub data TargetsBy {V W : Type 0} (f : V → W) : Target V → Target W → Type 0 where
  scalars : {t : IntType} {x : DraftOf V → V} {y : DraftOf W → W} → ((d : DraftOf V) → y (draft_by f d) ≡ f (x d)) → TargetsBy f (scalar t x) (scalar t y)
  elements : {t : IntType} {s : Site} {a : DraftOf V → ArrayOf V} {b : DraftOf W → ArrayOf W} {i : Operand V} {z : Ways W} → ((d : DraftOf V) → b (draft_by f d) ≡ array_by f (a d)) → WaysBy f i.ways z
      → TargetsBy f (element t s a i) (element t s b (beside i z))

abbrev pub two_by : {V W : Type 0} → (V → W) → Two V → Two W
two_by f p = record { first = tree_by f p.first; second = tree_by f p.second; draft = draft_by f p.draft }

-- ---- trees that wait, that aren't used, that decide

pub unless_by : {V W : Type 0} (f : V → W) (b : Bool) (t : IntType) (r : Given V) → rows.stored_unless b t (given_by f r) ≡ given_by f (rows.stored_unless b t r)
unless_by f true t r = refl
unless_by f false t r = stored_by f t r.0 r.1

pub held_by : {V W : Type 0} (f : V → W) (how : Waiting) (s : Shape) (t : IntType) (r : Given V) → rows.held how s t (given_by f r) ≡ given_by f (rows.held how s t r)
held_by f how s t r = unless_by f (stays how s) t r

pub dropped_by : {V W : Type 0} (f : V → W) (s : Shape) (t : IntType) (a : DraftOf V → Given V) (b : DraftOf W → Given W) → Gives f a b → Works f (λ d. rows.dropped s t (a d)) (λ d. rows.dropped s t (b d))
dropped_by f s t a b h d = ap (rows.dropped s t) (h d) ∙ ap (λ r. r.1) (unless_by f (is_plain s) t (a d))

pub guards_by : {V W : Type 0} (f : V → W) (p q : ℕ) (r : Given V) → rows.guards p q (given_by f r) ≡ draft_by f (rows.guards p q r)
guards_by f p q r = ap (link (Guard (tree_by f r.0) false) q) (link_by f (Guard r.0 true) p r.1) ∙ link_by f (Guard r.0 false) q (link (Guard r.0 true) p r.1)

pub both_by : {V W : Type 0} (f : V → W) (a : DraftOf V → Given V) (b : DraftOf W → Given W) (u : DraftOf V → DraftOf V) (v : DraftOf W → DraftOf W) → Gives f a b → Works f u v → WaysBy f (rows.by_both a u) (rows.by_both b v)
both_by f a b u v h k = record { value = h; choice = λ p q d. ap (rows.guards p q) (h d) ∙ guards_by f p q (a d); unused = k }

pub value_by : {V W : Type 0} (f : V → W) (s : Shape) (t : IntType) (a : DraftOf V → Given V) (b : DraftOf W → Given W) → Gives f a b → WaysBy f (rows.by_value s t a) (rows.by_value s t b)
value_by f s t a b h = both_by f a b _ _ h (dropped_by f s t a b h)

pub choice_by : {V W : Type 0} (f : V → W) (s : Shape) (t : IntType) (a : DraftOf V → Given V) (b : DraftOf W → Given W) (u : (p q : ℕ) → DraftOf V → DraftOf V) (v : (p q : ℕ) → DraftOf W → DraftOf W)
    → Gives f a b → ((p q : ℕ) → Works f (u p q) (v p q)) → WaysBy f (rows.by_choice s t a u) (rows.by_choice s t b v)
choice_by f s t a b u v h k = record { value = h; choice = k; unused = dropped_by f s t a b h }

-- ---- two operands

abbrev then_second : {W : Type 0} → Ways W → Given W → Two W
then_second z k = record { first = k.0; second = (z.value k.1).0; draft = (z.value k.1).1 }

abbrev behind_first : {W : Type 0} → TreeOf W → Given W → Two W
behind_first e r = record { first = e; second = r.0; draft = r.1 }

pub pair_by : {V W : Type 0} (f : V → W) (how : Waiting) (a b : Operand V) (y z : Ways W) → WaysBy f a.ways y → WaysBy f b.ways z → (d : DraftOf V)
    → rows.two how (beside a y) (beside b z) (draft_by f d) ≡ two_by f (rows.two how a b d)
pair_by f how a b y z h g d =
    let k = rows.held how a.shape a.int_type (a.ways.value d) in
    ap (λ r. then_second z (rows.held how a.shape a.int_type r)) (h.value d)
    ∙ ap (then_second z) (held_by f how a.shape a.int_type (a.ways.value d))
    ∙ ap (behind_first (tree_by f k.0)) (g.value k.1)

-- ---- names and elements

load_by : {V W : Type 0} (f : V → W) (t : IntType) (s : Site) (a : ArrayOf V) (r : Given V) → rows.load t s (array_by f a) (given_by f r) ≡ given_by f (rows.load t s a r)
load_by f t s a r = ap (rows.kept_beside (f (next_temporary r.1))) (emit_by f (Load (next_temporary r.1) a s true r.0) (with_temporary t r.1))

pub read_by : {V W : Type 0} (f : V → W) (x : Target V) (y : Target W) → TargetsBy f x y → WaysBy f (rows.read_ways x) (rows.read_ways y)
read_by f x y (scalars {t = t} {x = v} {y = w} h) = value_by f Named t (λ d. (variable (v d), d)) (λ d. (variable (w d), d)) (λ d. ap (λ z. rows.kept_beside z (draft_by f d)) (h d))
read_by f x y (elements {t = t} {s = s} {a = a} {b = b} {i = i} {z = z} h g) =
    value_by f Temporary t (λ d. rows.element_value t s (a d) i d) (λ d. rows.element_value t s (b d) (beside i z) d)
    (λ d. ap (λ c. rows.load t s c (z.value (draft_by f d))) (h d) ∙ ap (rows.load t s (array_by f (a d))) (g.value d) ∙ load_by f t s (a d) (i.ways.value d))

-- ---- operators

pub any_by : {V W : Type 0} (f : V → W) (t : IntType) → WaysBy f (rows.by_value Temporary t (rows.any_value t)) (rows.by_value Temporary t (rows.any_value t))
any_by f t = value_by f Temporary t (rows.any_value t) (rows.any_value t) (λ d. ap (rows.kept_beside (f (next_temporary d))) (emit_by f (Havoc (next_temporary d) t 1) (with_temporary t d)))

abbrev with_tree : {W : Type 0} → DraftOf W → TreeOf W → Given W
with_tree d e = (e, d)

pub convert_by : {V W : Type 0} (f : V → W) (t : IntType) (a : Operand V) (z : Ways W) → WaysBy f a.ways z → WaysBy f (rows.convert_ways t a) (rows.convert_ways t (beside a z))
convert_by f t a z h =
    value_by f (converted_shape a.int_type t a.shape) t (rows.convert_value t a) (rows.convert_value t (beside a z))
    (λ d. ap (rows.convert_after a.int_type t) (h.value d) ∙ ap (with_tree (draft_by f (a.ways.value d).1)) (conversion_by f a.int_type t (a.ways.value d).0))

unary_value_by : {V W : Type 0} (f : V → W) (op : Op) (s : Site) (t : IntType) (a : Operand V) (z : Ways W) → WaysBy f a.ways z → Gives f (rows.unary_value op s t a) (rows.unary_value op s t (beside a z))
unary_value_by f op s t a z h d =
    ap (rows.unary_after op s a.int_type t) (h.value d)
    ∙ ap (λ e. with_tree (draft_by f (a.ways.value d).1) (unary_tree op s t e)) (conversion_by f a.int_type t (a.ways.value d).0)
    ∙ ap (with_tree (draft_by f (a.ways.value d).1)) (unary_by f op s t (conversion a.int_type t (a.ways.value d).0))

either_by : {V W : Type 0} (f : V → W) (b : Bool) (d e : DraftOf V) (x y : DraftOf W) → x ≡ draft_by f d → y ≡ draft_by f e → (if b then x else y) ≡ draft_by f (if b then d else e)
either_by f true d e x y h k = h
either_by f false d e x y h k = k

pub unary_ways_by : {V W : Type 0} (f : V → W) (op : Op) (s : Site) (t : IntType) (a : Operand V) (z : Ways W) → WaysBy f a.ways z → WaysBy f (rows.unary_ways op s t a) (rows.unary_ways op s t (beside a z))
unary_ways_by f op s t a z h =
    choice_by f (unary_shape op t (converted_shape a.int_type t a.shape)) (result_type op t) (rows.unary_value op s t a) (rows.unary_value op s t (beside a z))
    (rows.unary_choice op s t a) (rows.unary_choice op s t (beside a z)) (unary_value_by f op s t a z h)
    (λ p q d. either_by f (is_not op) (a.ways.choice q p d) (rows.guards p q (rows.unary_value op s t a d)) (z.choice q p (draft_by f d)) (rows.guards p q (rows.unary_value op s t (beside a z) (draft_by f d)))
    (h.choice q p d) (ap (rows.guards p q) (unary_value_by f op s t a z h d) ∙ guards_by f p q (rows.unary_value op s t a d)))

pub binary_ways_by : {V W : Type 0} (f : V → W) (op : Op) (s : Site) (t : IntType) (a b : Operand V) (y z : Ways W) → WaysBy f a.ways y → WaysBy f b.ways z
    → WaysBy f (rows.binary_ways op s t a b) (rows.binary_ways op s t (beside a y) (beside b z))
binary_ways_by f op s t a b y z h g =
    value_by f (operated_shape op t a.int_type b.int_type a.shape b.shape) (result_type op t) (rows.binary_value op s t a b) (rows.binary_value op s t (beside a y) (beside b z))
    (λ d. let p = rows.two (strong_if b.makes) a b d in
    ap (rows.binary_after op s t a.int_type b.int_type) (pair_by f (strong_if b.makes) a b y z h g d)
    ∙ ap (with_tree (draft_by f p.draft)) (operated_by f op s t a.int_type b.int_type p.first p.second))

pub and_by : {V W : Type 0} (f : V → W) (a b : Ways V) (y z : Ways W) → WaysBy f a y → WaysBy f b z → (p q : ℕ) → Works f (rows.and_choice a b p q) (rows.and_choice y z p q)
and_by f a b y z h g p q d =
    ap (λ e. z.choice p q (at d.points e)) (h.choice d.points q (fresh 1 d)) ∙ g.choice p q (at d.points (a.choice d.points q (fresh 1 d)))

pub or_by : {V W : Type 0} (f : V → W) (a b : Ways V) (y z : Ways W) → WaysBy f a y → WaysBy f b z → (p q : ℕ) → Works f (rows.or_choice a b p q) (rows.or_choice y z p q)
or_by f a b y z h g p q d =
    ap (λ e. z.choice p q (at d.points e)) (h.choice p d.points (fresh 1 d)) ∙ g.choice p q (at d.points (a.choice p d.points (fresh 1 d)))

pub between_by : {V W : Type 0} (f : V → W) (x : V) (p q : ℕ) (r : Given V) → rows.set_between (f x) p q (given_by f r) ≡ draft_by f (rows.set_between x p q r)
between_by f x p q r = ap (at q) (link_by f (Set x r.0) p r.1)

pub then_by : {V W : Type 0} (f : V → W) (u : DraftOf V → DraftOf V) (v : DraftOf W → DraftOf W) (w : Ways V) (z : Ways W) → Works f u v → WaysBy f w z → WaysBy f (rows.then_ways u w) (rows.then_ways v z)
then_by f u v w z h k = record {
  value = λ d. ap z.value (h d) ∙ k.value (u d);
  choice = λ p q d. ap (z.choice p q) (h d) ∙ k.choice p q (u d);
  unused = λ d. ap z.unused (h d) ∙ k.unused (u d);
}
