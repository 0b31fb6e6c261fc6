-- The rows of the lowering of expressions: what each form makes of what its parts gave.
use Rattle.std.specs.Prelude.{ℕ, ◌+◌, List, [], ◌∷◌, length, Bool, true, false, if◌then◌else◌, pos}
use Rattle.pk_ctypes.specs.declared.types.IntType.{IntType}
use Rattle.pk_ctypes.specs.declared.types.IntType.TheVariants.{Int}
use Rattle.pk_ctypes.specs.declared.types.Op.{Op}
use Rattle.pk_ctypes.specs.Types.{represents}
use Rattle.pk_ctypes.specs.Operators.{result_type, is_not}
use Rattle.pk_typed.specs.Trees.{ValueTree, ValueTrees}
use Rattle.pk_typed.specs.Trees as tree
use Rattle.pk_typed.specs.Types.{type_of}
use Rattle.pk_graph.specs.declared.trees.Site.{Site}
use Rattle.pk_graph.specs.Trees.{TreeOf, constant, variable, ArrayOf, Set, Havoc, Load, Store, Guard, Check}
use Rattle.pk_draft.specs.declared.drafts.Size.{Size}
use Rattle.pk_draft.specs.Drafts.{DraftOf, Given, nowhere, at, fresh, with_temporary, next_temporary, link, emit, stored, entered}
use Rattle.pk_draft.specs.Folding.{conversion, unary_tree, operated_tree, updated_tree}
use Rattle.pk_lower_row.specs.declared.shapes.Shape.{Shape}
use Rattle.pk_lower_row.specs.declared.shapes.Shape.TheVariants.{Fixed, Temporary, Named}
use Rattle.pk_lower_row.specs.declared.shapes.Waiting.{Waiting}
use Rattle.pk_lower_row.specs.declared.shapes.Waiting.TheVariants.{Weak}
use Rattle.pk_lower_row.specs.Shapes.{converted_shape, unary_shape, operated_shape, shape_of, is_plain, makes, strong_if, strong_or_weak, stays}
use Rattle.pk_lower_row.specs.Contexts.{Context, callee, size_in, parameters_of}

-- How an expression is lowered: to a tree; to a choice between two points; for its effects alone.
pub record Ways (V : Type 0) : Type 0 where
  pub value : DraftOf V → Given V
  pub choice : (p q : ℕ) → DraftOf V → DraftOf V
  pub unused : DraftOf V → DraftOf V

-- an expression as an operand: its type, what its tree is, whether it makes an edge
pub record Operand (V : Type 0) : Type 0 where
  pub int_type : IntType
  pub shape : Shape
  pub makes : Bool
  pub ways : Ways V

abbrev pub operand : {V : Type 0} → ValueTree → Ways V → Operand V
operand e w = record { int_type = type_of e; shape = shape_of e; makes = makes e; ways = w }

-- ---- trees that wait, that aren't used, that decide

abbrev pub stored_unless : {V : Type 0} → Bool → IntType → Given V → Given V
stored_unless true t r = r
stored_unless false t r = stored t r.0 r.1

-- a tree of this shape and type waits for a later operand
abbrev pub held : {V : Type 0} → Waiting → Shape → IntType → Given V → Given V
held how s t r = stored_unless (stays how s) t r

-- an unused value whose tree is no variable or constant is put in a temporary
abbrev pub dropped : {V : Type 0} → Shape → IntType → Given V → DraftOf V
dropped s t r = (stored_unless (is_plain s) t r).1

abbrev pub guards : {V : Type 0} → (p q : ℕ) → Given V → DraftOf V
guards p q r = link (Guard r.0 false) q (link (Guard r.0 true) p r.1)

-- an expression with a tree of its own, which decides by two guards; it has its own way where it isn't used
abbrev pub by_both : {V : Type 0} → (DraftOf V → Given V) → (DraftOf V → DraftOf V) → Ways V
by_both f g = record { value = f; choice = λ p q d. guards p q (f d); unused = g }

-- the same, and where it isn't used its tree is dropped
abbrev pub by_value : {V : Type 0} → Shape → IntType → (DraftOf V → Given V) → Ways V
by_value s t f = by_both f (λ d. dropped s t (f d))

-- an expression that decides in a way of its own
abbrev pub by_choice : {V : Type 0} → Shape → IntType → (DraftOf V → Given V) → ((p q : ℕ) → DraftOf V → DraftOf V) →
    Ways V
by_choice s t f choice = record { value = f; choice = choice; unused = λ d. dropped s t (f d) }

-- two operands in order, the first of which waits
pub record Two (V : Type 0) : Type 0 where
  pub first : TreeOf V
  pub second : TreeOf V
  pub draft : DraftOf V

abbrev pub paired : {V : Type 0} → (first second : TreeOf V) → DraftOf V → Two V
paired a b d = record { first = a; second = b; draft = d }

-- a variable, and a draft
abbrev pub kept_beside : {V : Type 0} → V → DraftOf V → Given V
kept_beside x d = (variable x, d)

abbrev pub two : {V : Type 0} → Waiting → Operand V → Operand V → DraftOf V → Two V
two how a b d =
    let k = held how a.shape a.int_type (a.ways.value d) in
    let r = b.ways.value k.1 in
    record { first = k.0; second = r.0; draft = r.1 }

-- ---- names and elements

-- what is read or assigned: a scalar; an element, with the place of its `[` and its index
pub data Target (V : Type 0) : Type 0 where
  scalar : IntType → (DraftOf V → V) → Target V
  element : IntType → Site → (DraftOf V → ArrayOf V) → Operand V → Target V

-- an element, by its index, in a temporary
abbrev pub load : {V : Type 0} → IntType → Site → ArrayOf V → Given V → Given V
load t s a r = (variable (next_temporary r.1), emit (Load (next_temporary r.1) a s true r.0) (with_temporary t r.1))

-- a[i]
abbrev pub element_value : {V : Type 0} → IntType → Site → ArrayOf V → Operand V → DraftOf V → Given V
element_value t s a i d = load t s a (i.ways.value d)

abbrev pub read_ways : {V : Type 0} → Target V → Ways V
read_ways (scalar t x) = by_value Named t (λ d. (variable (x d), d))
read_ways (element t s a i) = by_value Temporary t (λ d. element_value t s (a d) i d)

-- of a[i] = e, with a right side of type u, what comes behind both: not used, and used
abbrev pub put_after : {V : Type 0} → (t u : IntType) → Site → ArrayOf V → Two V → DraftOf V
put_after t u s a p = emit (Store a s true p.first (conversion u t p.second)) p.draft

-- a value that was stored goes into an element, and is given
abbrev pub written : {V : Type 0} → ArrayOf V → Site → Bool → (index : TreeOf V) → Given V → Given V
written a s is_access i v = (v.0, emit (Store a s is_access i v.0) v.1)

abbrev pub kept_after : {V : Type 0} → (t u : IntType) → Site → ArrayOf V → Two V → Given V
kept_after t u s a p = written a s true p.first (stored t (conversion u t p.second) p.draft)

abbrev pub put_unused : {V : Type 0} → IntType → Site → ArrayOf V → Operand V → Operand V → DraftOf V → DraftOf V
put_unused t s a i e d = put_after t e.int_type s a (two (strong_if e.makes) i e d)

abbrev pub put_used : {V : Type 0} → IntType → Site → ArrayOf V → Operand V → Operand V → DraftOf V → Given V
put_used t s a i e d = kept_after t e.int_type s a (two (strong_or_weak e.makes) i e d)

-- x = e, with a right side of type u, behind it
abbrev pub set_after : {V : Type 0} → (t u : IntType) → V → Given V → DraftOf V
set_after t u x r = emit (Set x (conversion u t r.0)) r.1

abbrev pub assign_ways : {V : Type 0} → Target V → Operand V → Ways V
assign_ways (scalar t x) e = by_value Named t (λ d. (variable (x d), set_after t e.int_type (x d) (e.ways.value d)))
assign_ways (element t s a i) e = by_both (λ d. put_used t s (a d) i e d) (λ d. put_unused t s (a d) i e d)

-- x op= e, with a right side of type u, behind it
abbrev pub update_after : {V : Type 0} → Op → Site → (o t u : IntType) → V → Given V → DraftOf V
update_after op s o t u x r = emit (Set x (updated_tree op s o t u (variable x) r.0)) r.1

abbrev pub update_scalar : {V : Type 0} → Op → Site → (o t : IntType) → V → Operand V → DraftOf V → DraftOf V
update_scalar op s o t x e d = update_after op s o t e.int_type x (e.ways.value d)

-- of `a[i] op= e` the index and the right side, which wait, and the element in the next temporary
pub record Loaded (V : Type 0) : Type 0 where
  pub index : TreeOf V
  pub right : TreeOf V
  pub element : TreeOf V
  pub draft : DraftOf V

-- behind both, of which the right side has a shape and type
abbrev pub loaded_after : {V : Type 0} → IntType → Site → ArrayOf V → Shape → (u : IntType) → Two V → Loaded V
loaded_after t s a shape u p =
    let k = held Weak shape u (p.second, p.draft) in
    record {
      index = p.first;
      right = k.0;
      element = variable (next_temporary k.1);
      draft = emit (Load (next_temporary k.1) a s true p.first) (with_temporary t k.1);
    }

abbrev pub loaded : {V : Type 0} → IntType → Site → ArrayOf V → Operand V → Operand V → DraftOf V → Loaded V
loaded t s a i e d = loaded_after t s a e.shape e.int_type (two (strong_or_weak e.makes) i e d)

-- what is written back, with a right side of type u
abbrev pub renewed_tree : {V : Type 0} → Op → Site → (o t u : IntType) → Loaded V → TreeOf V
renewed_tree op s o t u p = updated_tree op s o t u p.element p.right

abbrev pub renew_unused : {V : Type 0} → Op → Site → (o t : IntType) → Site → ArrayOf V → (u : IntType) → Loaded V →
    DraftOf V
renew_unused op s o t r a u p = emit (Store a r false p.index (renewed_tree op s o t u p)) p.draft

abbrev pub renew_used : {V : Type 0} → Op → Site → (o t : IntType) → Site → ArrayOf V → (u : IntType) → Loaded V →
    Given V
renew_used op s o t r a u p = written a r false p.index (stored t (renewed_tree op s o t u p) p.draft)

-- what was there before is given
abbrev pub renew_old : {V : Type 0} → Op → Site → (o t : IntType) → Site → ArrayOf V → Loaded V → Given V
renew_old op s o t r a p = (p.element, renew_unused op s o t r a Int p)

-- an assignment with an operator in type o
abbrev pub update_ways : {V : Type 0} → Op → Site → (o : IntType) → Target V → Operand V → Ways V
update_ways op s o (scalar t x) e = by_value Named t (λ d. (variable (x d), update_scalar op s o t (x d) e d))
update_ways op s o (element t r a i) e = by_both
    (λ d. renew_used op s o t r (a d) e.int_type (loaded t r (a d) i e d))
    (λ d. renew_unused op s o t r (a d) e.int_type (loaded t r (a d) i e d))

abbrev pub one_tree : {V : Type 0} → TreeOf V
one_tree = constant Int (pos 1)

-- the constant 1
abbrev pub one : {V : Type 0} → Operand V
one = record {
  int_type = Int;
  shape = Fixed (pos 1);
  makes = false;
  ways = by_value (Fixed (pos 1)) Int (λ d. (constant Int (pos 1), d));
}

-- x++: used, the old value in a temporary
abbrev pub after_scalar : {V : Type 0} → Op → Site → (o t : IntType) → V → DraftOf V → Given V
after_scalar op s o t x d = let r = stored t (variable x) d in (r.0, update_scalar op s o t x one r.1)

abbrev pub after_element : {V : Type 0} → Op → Site → IntType → IntType → Site → ArrayOf V → Operand V → DraftOf V →
    Given V
after_element op s o t r a i d = renew_old op s o t r a (loaded t r a i one d)

-- `x++` and `x--`; where they aren't used they are `++x` and `--x`
abbrev pub after_ways : {V : Type 0} → Op → Site → (o : IntType) → Target V → Ways V
after_ways op s o (scalar t x) = by_both (λ d. after_scalar op s o t (x d) d) (λ d. update_scalar op s o t (x d) one d)
after_ways op s o (element t r a i) = by_both
    (λ d. after_element op s o t r (a d) i d)
    (λ d. renew_unused op s o t r (a d) Int (loaded t r (a d) i one d))

-- `++x` is `x += 1`
abbrev pub step_ways : {V : Type 0} → Op → Site → (o : IntType) → Target V → Bool → Ways V
step_ways op s o x true = update_ways op s o x one
step_ways op s o x false = after_ways op s o x

-- ---- operators

abbrev pub any_value : {V : Type 0} → IntType → DraftOf V → Given V
any_value t d = (variable (next_temporary d), emit (Havoc (next_temporary d) t 1) (with_temporary t d))

abbrev pub convert_after : {V : Type 0} → (u t : IntType) → Given V → Given V
convert_after u t r = (conversion u t r.0, r.1)

abbrev pub convert_value : {V : Type 0} → IntType → Operand V → DraftOf V → Given V
convert_value t e d = convert_after e.int_type t (e.ways.value d)

abbrev pub convert_ways : {V : Type 0} → IntType → Operand V → Ways V
convert_ways t e = by_value (converted_shape e.int_type t e.shape) t (convert_value t e)

abbrev pub unary_after : {V : Type 0} → Op → Site → (u t : IntType) → Given V → Given V
unary_after op s u t r = (unary_tree op s t (conversion u t r.0), r.1)

abbrev pub unary_value : {V : Type 0} → Op → Site → IntType → Operand V → DraftOf V → Given V
unary_value op s t e d = unary_after op s e.int_type t (e.ways.value d)

-- the choice of `!a` is that of a, exchanged
abbrev pub unary_choice : {V : Type 0} → Op → Site → IntType → Operand V → (p q : ℕ) → DraftOf V → DraftOf V
unary_choice op s t e p q d = if is_not op then e.ways.choice q p d else guards p q (unary_value op s t e d)

abbrev pub unary_ways : {V : Type 0} → Op → Site → IntType → Operand V → Ways V
unary_ways op s t e =
    by_choice (unary_shape op t (converted_shape e.int_type t e.shape)) (result_type op t) (unary_value op s t e)
    (unary_choice op s t e)

abbrev pub binary_after : {V : Type 0} → Op → Site → (t u v : IntType) → Two V → Given V
binary_after op s t u v p = (operated_tree op s t u v p.first p.second, p.draft)

abbrev pub binary_value : {V : Type 0} → Op → Site → IntType → Operand V → Operand V → DraftOf V → Given V
binary_value op s t a b d = binary_after op s t a.int_type b.int_type (two (strong_if b.makes) a b d)

abbrev pub binary_ways : {V : Type 0} → Op → Site → IntType → Operand V → Operand V → Ways V
binary_ways op s t a b =
    by_value (operated_shape op t a.int_type b.int_type a.shape b.shape) (result_type op t) (binary_value op s t a b)

abbrev pub and_choice : {V : Type 0} → Ways V → Ways V → (p q : ℕ) → DraftOf V → DraftOf V
and_choice a b p q d = b.choice p q (at d.points (a.choice d.points q (fresh 1 d)))

abbrev pub or_choice : {V : Type 0} → Ways V → Ways V → (p q : ℕ) → DraftOf V → DraftOf V
or_choice a b p q d = b.choice p q (at d.points (a.choice p d.points (fresh 1 d)))

-- a tree is put into a variable on the way to a point; on at another
abbrev pub set_between : {V : Type 0} → V → (p q : ℕ) → Given V → DraftOf V
set_between x p q r = at q (link (Set x r.0) p r.1)

-- new points for both truths and behind them, and a temporary; a tree at each, put into it
abbrev pub joined : {V : Type 0} → IntType → ((p q : ℕ) → DraftOf V → DraftOf V) → (a b : DraftOf V → Given V) →
    DraftOf V → Given V
joined t choice a b d =
    let x = next_temporary d in
    let c = choice d.points (d.points + 1) (with_temporary t (fresh 3 d)) in
    let m = set_between x (d.points + 2) (d.points + 1) (a (at d.points c)) in
    (variable x, set_between x (d.points + 2) (d.points + 2) (b m))

abbrev pub truth_value : {V : Type 0} → ((p q : ℕ) → DraftOf V → DraftOf V) → DraftOf V → Given V
truth_value choice = joined Int choice (λ d. (constant Int (pos 1), d)) (λ d. (constant Int (pos 0), d))

-- the same behind the choice, with points for both truths and behind them, and a temporary
abbrev pub truths : {V : Type 0} → (p q behind : ℕ) → V → DraftOf V → Given V
truths p q behind x d =
    let m = set_between x behind q (constant Int (pos 1), at p d) in
    (variable x, set_between x behind behind (constant Int (pos 0), m))

abbrev pub truth_ways : {V : Type 0} → ((p q : ℕ) → DraftOf V → DraftOf V) → Ways V
truth_ways choice = by_choice Temporary Int (truth_value choice) choice

abbrev pub conditional_ways : {V : Type 0} → IntType → Ways V → Operand V → Operand V → Ways V
conditional_ways t c a b = by_value Temporary t (joined t c.choice (convert_value t a) (convert_value t b))

-- an expression after another that isn't used
abbrev pub then_ways : {V : Type 0} → (DraftOf V → DraftOf V) → Ways V → Ways V
then_ways f w =
    record { value = λ d. w.value (f d); choice = λ p q d. w.choice p q (f d); unused = λ d. w.unused (f d) }

-- ---- calls

-- The parameters of a path are set, from number i on, from trees of these types; they are its first variables, from x on.
abbrev pub bound : {V : Type 0} → (path i x : ℕ) → (parameters types : List IntType) → List (TreeOf V) → DraftOf V →
    DraftOf V
bound k i x [] us rs d = d
bound k i x (t ∷ ts) [] rs d = d
bound k i x (t ∷ ts) (u ∷ us) [] d = d
bound k i x (t ∷ ts) (u ∷ us) (r ∷ rs) d =
    bound k (i + 1) (x + 1) ts us rs (emit (Set (d.names.object k i x) (conversion u t r)) d)

abbrev pub types_of : ValueTrees → List IntType
types_of tree.no_values = []
types_of (tree.value_before e es) = type_of e ∷ types_of es

pub record Passed (V : Type 0) : Type 0 where
  pub trees : List (TreeOf V)
  pub draft : DraftOf V

-- the first argument waits for the others
abbrev pub passed_before : {V : Type 0} → Bool → Operand V → (DraftOf V → Passed V) → DraftOf V → Passed V
passed_before later e rest d =
    let k = held (strong_if later) e.shape e.int_type (e.ways.value d) in
    let r = rest k.1 in
    record { trees = k.0 ∷ r.trees; draft = r.draft }

-- A call that leads to a path of this size, of a function with these parameters, behind its arguments, which have these types. The result's variable is behind the parameters.
abbrev pub entered_after : {V : Type 0} → (path : ℕ) → Size → (parameters types : List IntType) → List (TreeOf V) →
    DraftOf V → DraftOf V
entered_after k s ts us rs d = entered k s (bound k 0 d.variables ts us rs d)

abbrev pub call_after : {V : Type 0} → (path : ℕ) → Size → (parameters types : List IntType) → Passed V → Given V
call_after k s ts us r =
    (variable (r.draft.names.result k (r.draft.variables + length ts)), entered_after k s ts us r.trees r.draft)

-- call n of the function at hand, of function f
abbrev pub called : {V : Type 0} → Context → (f n : ℕ) → (types : List IntType) → (DraftOf V → Passed V) →
    DraftOf V → Given V
called c f n us arguments d = call_after (callee c n) (size_in c.sizes f) (parameters_of c.unit f) us (arguments d)

-- a condition that is true from here on: the edge where it is false isn't made
abbrev pub assumed : {V : Type 0} → Ways V → DraftOf V → DraftOf V
assumed w d = at d.points (w.choice d.points nowhere (fresh 1 d))

-- converted to int, where that changes a value
abbrev pub as_int : {V : Type 0} → Operand V → Ways V
as_int e = if represents Int e.int_type then e.ways else convert_ways Int e

abbrev pub zero_ways : {V : Type 0} → Ways V
zero_ways = by_value (Fixed (pos 0)) Int (λ d. (constant Int (pos 0), d))

-- an assertion behind its condition, which has type u
abbrev pub check_after : {V : Type 0} → Site → (u : IntType) → Given V → DraftOf V
check_after s u r = emit (Check s (conversion u Int r.0)) r.1
