-- The rows of operators, conditions and calls: each adds what its operators count, and what its parts add.
use Rattle.std.specs.Prelude.{ℕ, ◌+◌, ◌≤◌, List, [], ◌∷◌, Bool, true, false, if◌then◌else◌, pos}
use Rattle.std.proofs.Common.{refl, arith}
use Rattle.pk_ctypes.specs.declared.types.IntType.{IntType}
use Rattle.pk_ctypes.specs.declared.types.IntType.TheVariants.{Int}
use Rattle.pk_ctypes.specs.declared.types.Op.{Op}
use Rattle.pk_ctypes.specs.Operators.{result_type, is_not}
use Rattle.pk_ctypes.specs.Types.{represents}
use Rattle.pk_graph.specs.declared.trees.Site.{Site}
use Rattle.pk_graph.specs.Trees.{TreeOf, constant, variable, Set, Havoc, Check}
use Rattle.pk_draft.specs.Drafts.{DraftOf, Given, nowhere, at, fresh, emit, next_temporary, with_temporary}
use Rattle.pk_draft.specs.Folding.{conversion, unary_tree, operated_tree}
use Rattle.pk_lower_row.specs.declared.shapes.Shape.{Shape}
use Rattle.pk_lower_row.specs.declared.shapes.Shape.TheVariants.{Fixed, Temporary, Named}
use Rattle.pk_lower_row.specs.Shapes.{strong_if, unary_shape, converted_shape, operated_shape}
use Rattle.pk_lower_row.specs.Contexts.{Context, callee, parameters_of}
use Rattle.pk_lower_row.specs.Rows as rows
use Rattle.pk_lower_row.specs.Rows.{Ways, Operand, Two, Passed}
use Rattle.pk_access_laws.proofs.Spent.{Asked, in_tree, in_edges, can_fault, less_if, Adds, then_adds, up_to, linking, emitting}
use Rattle.pk_access_laws.specs.Kept.{unless_fixed}
use Rattle.pk_access_laws.proofs.Shaped.{at_most_kept, conversion_less, unary_less, operated_less, conversion_shaped, unary_shaped, operated_shaped}
use Rattle.pk_access_laws.proofs.Rows.{Keeps, Chooses, Gave, Gives, WaysTold, guarded, by_value, by_choice, two_told, held_told}

-- ---- operators

pub any_told : (V : Type 0) (w : Asked) (t : IntType) → WaysTold {V = V} w 0 Temporary (rows.by_value Temporary t (rows.any_value t))
any_told V w t =
    by_value w 0 Temporary t (rows.any_value t)
    (λ d. let h = emitting w (Havoc (next_temporary d) t 1) (with_temporary t d) in record { spent = omega (arith, h.most); shaped = refl })

converted_told : {V : Type 0} (w : Asked) (m : ℕ) (t : IntType) (e : Operand V) → WaysTold w m e.shape e.ways → Gives w m (converted_shape e.int_type t e.shape) (rows.convert_value t e)
converted_told w m t e h d =
    let r = h.value d in
    record {
      spent = omega (arith, r.spent, conversion_less w e.int_type t (e.ways.value d).0);
      shaped = conversion_shaped w e.int_type t e.shape (e.ways.value d).0 r.shaped;
    }

pub convert_told : {V : Type 0} (w : Asked) (m : ℕ) (t : IntType) (e : Operand V) → WaysTold w m e.shape e.ways → WaysTold w m (converted_shape e.int_type t e.shape) (rows.convert_ways t e)
convert_told w m t e h = by_value w m (converted_shape e.int_type t e.shape) t (rows.convert_value t e) (converted_told w m t e h)

unary_value : {V : Type 0} (w : Asked) (m : ℕ) (op : Op) (s : Site) (t : IntType) (e : Operand V) → WaysTold w m e.shape e.ways → Gives w (unless_fixed (unary_shape op t (converted_shape e.int_type t e.shape)) (w.count s) 0 + m) (unary_shape op t (converted_shape e.int_type t e.shape)) (rows.unary_value op s t e)
unary_value {V = V} w m op s t e h d =
    let r = h.value d in
    let g : Given V = e.ways.value d in
    let shaped = unary_shaped w op s t (converted_shape e.int_type t e.shape) (conversion e.int_type t g.0) (conversion_shaped w e.int_type t e.shape g.0 r.shaped) in
    let kept = at_most_kept w (unary_shape op t (converted_shape e.int_type t e.shape)) (unary_tree op s t (conversion e.int_type t g.0)) (in_edges w g.1.edges) (in_edges w d.edges + m) (w.count s) shaped
    (omega (arith, r.spent))
    (omega (arith, r.spent, conversion_less w e.int_type t g.0, unary_less w op s t (conversion e.int_type t g.0), less_if (can_fault op) (w.count s))) in
    record { spent = omega (arith, kept); shaped = shaped }

either : {V : Type 0} (w : Asked) (x m : ℕ) (b : Bool) (d e : DraftOf V) → Adds x m (in_edges w d.edges) → Adds x m (in_edges w e.edges) → Adds x m (in_edges w (if b then d else e).edges)
either w x m true d e h k = h
either w x m false d e h k = k

pub unary_told : {V : Type 0} (w : Asked) (m : ℕ) (op : Op) (s : Site) (t : IntType) (e : Operand V) → WaysTold w m e.shape e.ways → WaysTold w (unless_fixed (unary_shape op t (converted_shape e.int_type t e.shape)) (w.count s) 0 + m) (unary_shape op t (converted_shape e.int_type t e.shape)) (rows.unary_ways op s t e)
unary_told w m op s t e h =
    let shape = unary_shape op t (converted_shape e.int_type t e.shape) in
    let k = unless_fixed shape (w.count s) 0 + m in
    by_choice w k shape (result_type op t) (rows.unary_value op s t e) (rows.unary_choice op s t e) (unary_value w m op s t e h)
    (λ p q d. either w (in_edges w d.edges) k (is_not op) (e.ways.choice q p d) (rows.guards p q (rows.unary_value op s t e d)) (up_to (h.choice q p d) (omega arith))
    (guarded w p q (in_edges w d.edges) k shape (rows.unary_value op s t e d) (unary_value w m op s t e h d)))

binary_value : {V : Type 0} (w : Asked) (m k : ℕ) (op : Op) (s : Site) (t : IntType) (a b : Operand V) → WaysTold w m a.shape a.ways → WaysTold w k b.shape b.ways
    → Gives w (unless_fixed (operated_shape op t a.int_type b.int_type a.shape b.shape) (w.count s) 0 + m + k) (operated_shape op t a.int_type b.int_type a.shape b.shape) (rows.binary_value op s t a b)
binary_value {V = V} w m k op s t a b h g d =
    let p : Two V = rows.two (strong_if b.makes) a b d in
    let f = two_told w m k (strong_if b.makes) a b d h g in
    let shaped = operated_shaped w op s t a.int_type b.int_type a.shape b.shape p.first p.second f.before f.shaped in
    let kept = at_most_kept w (operated_shape op t a.int_type b.int_type a.shape b.shape) (operated_tree op s t a.int_type b.int_type p.first p.second) (in_edges w p.draft.edges) (in_edges w d.edges + (m + k)) (w.count s) shaped
    (omega (arith, f.spent))
    (omega (arith, f.spent, operated_less w op s t a.int_type b.int_type p.first p.second)) in
    record { spent = omega (arith, kept); shaped = shaped }

pub binary_told : {V : Type 0} (w : Asked) (m k : ℕ) (op : Op) (s : Site) (t : IntType) (a b : Operand V) → WaysTold w m a.shape a.ways → WaysTold w k b.shape b.ways
    → WaysTold w (unless_fixed (operated_shape op t a.int_type b.int_type a.shape b.shape) (w.count s) 0 + m + k) (operated_shape op t a.int_type b.int_type a.shape b.shape) (rows.binary_ways op s t a b)
binary_told w m k op s t a b h g =
    by_value w (unless_fixed (operated_shape op t a.int_type b.int_type a.shape b.shape) (w.count s) 0 + m + k) (operated_shape op t a.int_type b.int_type a.shape b.shape) (result_type op t) (rows.binary_value op s t a b) (binary_value w m k op s t a b h g)

pub and_told : {V : Type 0} (w : Asked) (m k : ℕ) (a b : Ways V) → Chooses w m a.choice → Chooses w k b.choice → Chooses w (m + k) (rows.and_choice a b)
and_told w m k a b h g p q d = then_adds (h d.points q (fresh 1 d)) (g p q (at d.points (a.choice d.points q (fresh 1 d))))

pub or_told : {V : Type 0} (w : Asked) (m k : ℕ) (a b : Ways V) → Chooses w m a.choice → Chooses w k b.choice → Chooses w (m + k) (rows.or_choice a b)
or_told w m k a b h g p q d = then_adds (h p d.points (fresh 1 d)) (g p q (at d.points (a.choice p d.points (fresh 1 d))))

set_between : {V : Type 0} (w : Asked) (x : V) (p q : ℕ) (r : Given V) → in_edges w (rows.set_between x p q r).edges ≤ in_tree w r.0 + in_edges w r.1.edges
set_between w x p q r = let h = linking w r.1.edges r.1.point p (Set x r.0) in omega (arith, h.most)

joined : {V : Type 0} (w : Asked) (l m k : ℕ) (r s : Shape) (t : IntType) (c : (p q : ℕ) → DraftOf V → DraftOf V) (a b : DraftOf V → Given V) → Chooses w l c → Gives w m r a → Gives w k s b → Gives w (l + m + k) Temporary (rows.joined t c a b)
joined {V = V} w l m k r s t c a b h g f d =
    let x = next_temporary d in
    let e : DraftOf V = c d.points (d.points + 1) (with_temporary t (fresh 3 d)) in
    let chosen = h d.points (d.points + 1) (with_temporary t (fresh 3 d)) in
    let first = g (at d.points e) in
    let one : Given V = a (at d.points e) in
    let n : DraftOf V = rows.set_between x (d.points + 2) (d.points + 1) one in
    let set = set_between w x (d.points + 2) (d.points + 1) one in
    let second = f n in
    let two : Given V = b n in
    let again = set_between w x (d.points + 2) (d.points + 2) two in
    record { spent = omega (arith, chosen.most, first.spent, set, second.spent, again); shaped = refl }

pub truth_told : {V : Type 0} (w : Asked) (m : ℕ) (c : (p q : ℕ) → DraftOf V → DraftOf V) → Chooses w m c → WaysTold w m Temporary (rows.truth_ways c)
truth_told {V = V} w m c h =
    by_choice w m Temporary Int (rows.truth_value c) c
    (λ d. let v = joined w m 0 0 (Fixed (pos 1)) (Fixed (pos 0)) Int c (λ (e : DraftOf V). (constant Int (pos 1), e)) (λ (e : DraftOf V). (constant Int (pos 0), e)) h
    (λ e. record { spent = omega arith; shaped = refl }) (λ e. record { spent = omega arith; shaped = refl }) d in
    record { spent = omega (arith, v.spent); shaped = refl }) h

pub conditional_told : {V : Type 0} (w : Asked) (l m k : ℕ) (s : Shape) (t : IntType) (c : Ways V) (a b : Operand V) → WaysTold w l s c → WaysTold w m a.shape a.ways → WaysTold w k b.shape b.ways → WaysTold w (l + m + k) Temporary (rows.conditional_ways t c a b)
conditional_told w l m k s t c a b h g f =
    by_value w (l + m + k) Temporary t (rows.joined t c.choice (rows.convert_value t a) (rows.convert_value t b))
    (joined w l m k (converted_shape a.int_type t a.shape) (converted_shape b.int_type t b.shape) t c.choice (rows.convert_value t a) (rows.convert_value t b) h.choice (converted_told w m t a g) (converted_told w k t b f))

pub then_told : {V : Type 0} (w : Asked) (m k : ℕ) (s : Shape) (f : DraftOf V → DraftOf V) (a : Ways V) → Keeps w m f → WaysTold w k s a → WaysTold w (m + k) s (rows.then_ways f a)
then_told w m k s f a h g = record {
  value = λ d. let v = g.value (f d) in let b = h d in record { spent = omega (arith, v.spent, b.most); shaped = v.shaped };
  choice = λ p q d. then_adds (h d) (g.choice p q (f d));
  unused = λ d. then_adds (h d) (g.unused (f d));
}

-- ---- calls

abbrev pub in_trees : {V : Type 0} → Asked → List (TreeOf V) → ℕ
in_trees w [] = 0
in_trees w (r ∷ rs) = in_tree w r + in_trees w rs

abbrev pub Passes : {V : Type 0} → Asked → ℕ → (DraftOf V → Passed V) → Type 0
Passes {V = V} w m f = (d : DraftOf V) → Adds (in_edges w d.edges) m (in_trees w (f d).trees + in_edges w (f d).draft.edges)

pub passed_before : {V : Type 0} (w : Asked) (m k : ℕ) (later : Bool) (e : Operand V) (rest : DraftOf V → Passed V) → WaysTold w m e.shape e.ways → Passes w k rest → Passes w (m + k) (rows.passed_before later e rest)
passed_before w m k later e rest h g d =
    let f = held_told w (in_edges w d.edges) m (strong_if later) e.shape e.int_type (e.ways.value d) (h.value d) in
    let r = g (rows.held (strong_if later) e.shape e.int_type (e.ways.value d)).1 in
    record { most = omega (arith, f.spent, r.most) }

bound_told : {V : Type 0} (w : Asked) (k i x : ℕ) (ts us : List IntType) (rs : List (TreeOf V)) (d : DraftOf V) → in_edges w (rows.bound k i x ts us rs d).edges ≤ in_trees w rs + in_edges w d.edges
bound_told w k i x [] us rs d = omega arith
bound_told w k i x (t ∷ ts) [] rs d = omega arith
bound_told w k i x (t ∷ ts) (u ∷ us) [] d = omega arith
bound_told {V = V} w k i x (t ∷ ts) (u ∷ us) (r ∷ rs) d =
    let e : DraftOf V = emit (Set (d.names.object k i x) (conversion u t r)) d in
    let h = emitting w (Set (d.names.object k i x) (conversion u t r)) d in
    omega (arith, h.most, conversion_less w u t r, bound_told w k (i + 1) (x + 1) ts us rs e)

pub called_told : {V : Type 0} (w : Asked) (m : ℕ) (c : Context) (f n : ℕ) (us : List IntType) (a : DraftOf V → Passed V) → Passes w m a → Gives w m Named (rows.called c f n us a)
called_told {V = V} w m c f n us a h d =
    let r : Passed V = a d in
    let b = h d in
    record { spent = omega (arith, b.most, bound_told w (callee c n) 0 r.draft.variables (parameters_of c.unit f) us r.trees r.draft); shaped = refl }

pub assumed_told : {V : Type 0} (w : Asked) (m : ℕ) (s : Shape) (a : Ways V) → WaysTold w m s a → Keeps w m (rows.assumed a)
assumed_told w m s a h d = h.choice d.points nowhere (fresh 1 d)

pub as_int_told : {V : Type 0} (w : Asked) (m : ℕ) (e : Operand V) → WaysTold w m e.shape e.ways → Keeps w m (rows.assumed (rows.as_int e))
as_int_told {V = V} w m e h = by (represents Int e.int_type)
  where
    by : (b : Bool) → Keeps w m (rows.assumed (if b then e.ways else rows.convert_ways Int e))
    by true = assumed_told w m e.shape e.ways h
    by false = assumed_told w m (converted_shape e.int_type Int e.shape) (rows.convert_ways Int e) (convert_told w m Int e h)

pub check_told : {V : Type 0} (w : Asked) (x m : ℕ) (q : Shape) (s : Site) (u : IntType) (r : Given V) → Gave w x m q r → Adds x (w.count s + m) (in_edges w (rows.check_after s u r).edges)
check_told w x m q s u r h =
    let e = emitting w (Check s (conversion u Int r.0)) r.1 in
    record { most = omega (arith, h.spent, e.most, conversion_less w u Int r.0) }
