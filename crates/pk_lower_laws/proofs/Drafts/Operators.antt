-- Operators, choices and conditions.
use Rattle.std.proofs.Common.{◌≡◌, ℕ, ◌+◌, ◌<◌, ◌≤◌, Bool, true, false, None, refl, ap, arith, if◌then◌else◌}
use Rattle.std.specs.Prelude.{ℤ, pos}
use Rattle.std.proofs.lemmas.Int.{ints}
use Rattle.pk_ctypes.specs.declared.types.IntType.{IntType}
use Rattle.pk_ctypes.specs.declared.types.IntType.TheVariants.{Int}
use Rattle.pk_ctypes.specs.declared.types.Op.{Op}
use Rattle.pk_ctypes.specs.Types.{InType, represents}
use Rattle.pk_ctypes.specs.Operators.{result_type, is_not}
use Rattle.pk_ctypes.proofs.Wrapped.{zero_in}
use Rattle.pk_graph.specs.declared.trees.Site.{Site}
use Rattle.pk_graph.specs.Trees.{constant, variable, Set, Havoc, Check}
use Rattle.pk_graph.specs.Kinds.{Kind, count_of}
use Rattle.pk_lower_laws.proofs.Drafts.Tables.{Table, IsOfType, IsTypedInstr}
use Rattle.pk_draft.specs.Drafts.{Given, at, fresh, with_temporary, next_temporary, link, nowhere}
use Rattle.pk_draft.specs.Folding.{conversion}
use Rattle.pk_lower_row.specs.declared.shapes.Shape.TheVariants.{Temporary}
use Rattle.pk_lower_row.specs.Shapes.{strong_if, converted_shape, unary_shape, operated_shape}
use Rattle.pk_lower_row.specs.Rows as row
use Rattle.pk_lower_row.specs.Rows.{Ways, Operand, two, guards}
use Rattle.pk_welltyped.specs.WellTyped.{operands}
use Rattle.pk_lower_laws.proofs.Drafts.Places.{D, Place, Has, Stage, Proper, Step, step, step_for, step_beside, quiet, same_scopes}
use Rattle.pk_lower_laws.proofs.Drafts.Trees.{constant_is, conversion_is, unary_is, operated_is}
use Rattle.pk_lower_laws.proofs.Drafts.Verbs.{all_shorter, typed_at, typed_link, fresh_step, fresh_behind, at_step}
use Rattle.pk_lower_laws.proofs.Drafts.Rows.{Gives, Works, Reaches, Chooses, WaysAre, OperandIs, seen, type_is, variable_is, set_is, temporary_step, choice_of, value_are, choice_are, two_step, then_emit, weaker}
use Rattle.pk_lower_laws.proofs.Drafts.Targets.{constant_are}

-- ---- any number, conversions, operators

havoc_is : (ks : Table) (x : ks.Variable) (t : IntType) → Has ks x t None → IsTypedInstr ks (Havoc x t 1)
havoc_is ks x t h = (h.there, type_is ks x t None h, ap (λ (k : Kind). count_of k.length) h.kind)

pub any_are : (w : Place) → Proper w → (m : ℕ) (s : Stage) (t : IntType) → WaysAre w m m s t (row.by_value Temporary t (row.any_value t))
any_are w g m s t = value_are w g m m s Temporary t (row.any_value t)
    (λ d. let x = next_temporary d in
    let h = Has w.table x t None in
    weaker w m m s d (row.any_value t d).1 (Unit {0}) h (IsOfType w.table t (variable x)) (variable_is w.table x t)
    (then_emit w g m m s d (with_temporary t d) (Havoc x t 1) (Unit {0}) h (temporary_step w g m s t d) (havoc_is w.table x t)))

pub convert_gives : (w : Place) (m n : ℕ) (s : Stage) (t : IntType) (e : Operand w.table.Variable) → OperandIs w m n s e → Gives w m n s t (row.convert_value t e)
convert_gives w m n s t e h d =
    let r = e.ways.value d in
    weaker w m n s d r.1 (Unit {0}) (IsOfType w.table e.int_type r.0) (IsOfType w.table t (conversion e.int_type t r.0)) (conversion_is w.table e.int_type t r.0) (h.value d)

pub convert_are : (w : Place) → Proper w → (m n : ℕ) (s : Stage) (t : IntType) (e : Operand w.table.Variable) → OperandIs w m n s e → WaysAre w m n s t (row.convert_ways t e)
convert_are w g m n s t e h = value_are w g m n s (converted_shape e.int_type t e.shape) t (row.convert_value t e) (convert_gives w m n s t e h)

unary_gives : (w : Place) (m n : ℕ) (s : Stage) (op : Op) → operands op ≡ 1 → (o : Site) (t : IntType) (e : Operand w.table.Variable) → OperandIs w m n s e → Gives w m n s (result_type op t) (row.unary_value op o t e)
unary_gives w m n s op z o t e h d =
    let r = e.ways.value d in
    weaker w m n s d r.1 (Unit {0}) (IsOfType w.table e.int_type r.0) (IsOfType w.table (result_type op t) (row.unary_value op o t e d).0)
    (λ k. unary_is w.table op o t (conversion e.int_type t r.0) z (conversion_is w.table e.int_type t r.0 k)) (h.value d)

pub unary_are : (w : Place) → Proper w → (m n : ℕ) (s : Stage) (op : Op) → operands op ≡ 1 → (o : Site) (t : IntType) (e : Operand w.table.Variable) → OperandIs w m n s e → WaysAre w m n s (result_type op t) (row.unary_ways op o t e)
unary_are w g m n s op z o t e h =
    choice_are w g m n s (unary_shape op t (converted_shape e.int_type t e.shape)) (result_type op t) (row.unary_value op o t e) (row.unary_choice op o t e) (unary_gives w m n s op z o t e h)
    (λ p q d. chosen p q d (is_not op))
  where
    chosen : (p q : ℕ) (d : D w) (b : Bool) → Step w m n s s d (if b then e.ways.choice q p d else guards p q (row.unary_value op o t e d)) (Reaches w p q) (Unit {0})
    chosen p q d true = step_for w m n s s d (e.ways.choice q p d) (Reaches w q p) (Unit {0}) (Reaches w p q) (Unit {0}) (λ x. (x.1, x.0, λ a b. x.2 b a)) (λ x. x) (h.choice q p d)
    chosen p q d false = choice_of w m n s (result_type op t) (row.unary_value op o t e) (unary_gives w m n s op z o t e h) p q d

pub binary_are : (w : Place) → Proper w → (m l n : ℕ) (s : Stage) (op : Op) → operands op ≡ 2 → (o : Site) (t : IntType) (a b : Operand w.table.Variable) → OperandIs w m l s a → OperandIs w l n s b → WaysAre w m n s (result_type op t) (row.binary_ways op o t a b)
binary_are w g m l n s op z o t a b h k =
    value_are w g m n s (operated_shape op t a.int_type b.int_type a.shape b.shape) (result_type op t) (row.binary_value op o t a b)
    (λ d. let p = two (strong_if b.makes) a b d in
    weaker w m n s d p.draft (Unit {0}) (IsOfType w.table a.int_type p.first × IsOfType w.table b.int_type p.second) (IsOfType w.table (result_type op t) (row.binary_value op o t a b d).0)
    (λ q. operated_is w.table op o t a.int_type b.int_type p.first p.second z q.0 q.1) (two_step w g m l n s (strong_if b.makes) a b h k d))

-- ---- conditions

-- a condition between new points
pub fresh_choice : (w : Place) → Proper w → (m n : ℕ) (s : Stage) (c : (p q : ℕ) → D w → D w) → Chooses w m n s c → (p q : ℕ) (d : D w) (R : Type 0) → (R → (d.points + 1 ≤ w.points) → (0 < d.points) → Reaches w p q)
    → Step w m n s s d (at d.points (c p q (fresh 1 d))) R R
fresh_choice w g m n s c h p q d R f =
    let e = fresh 1 d in
    let x = c p q e in
    let b = (d.points + 1 ≤ w.points) × (0 < d.points) in
    let t = Reaches w p q in
    let one = step_for w m m s s d e (Unit {0} × R) (b × R) R (R × b) (λ r. (tt, r)) (λ r. (r.1, r.0)) (step_beside w m m s s d e (Unit {0}) b R (fresh_behind w g m 1 s d)) in
    let two = step_for w m n s s e x (t × (R × b)) (Unit {0} × (R × b)) (R × b) (R × b) (λ r. (f r.0 r.1.0 r.1.1, r)) (λ r. r.1) (step_beside w m n s s e x t (Unit {0}) (R × b) (h p q e)) in
    let three = step_for w n n s s x (at d.points x) ((d.points < w.points) × R) (Unit {0} × R) (R × b) R (λ r. (omega (r.1.0, arith), r.0)) (λ r. r.1) (step_beside w n n s s x (at d.points x) (d.points < w.points) (Unit {0}) R (at_step w n s d.points x)) in
    step w m n n s s s d x (at d.points x) R (R × b) R (step w m m n s s s d e x R (R × b) (R × b) one two) three

pub and_chooses : (w : Place) → Proper w → (m l n : ℕ) (s : Stage) (a b : Ways w.table.Variable) → Chooses w m l s a.choice → Chooses w l n s b.choice → Chooses w m n s (row.and_choice a b)
and_chooses w g m l n s a b h k p q d =
    let t = Reaches w p q in
    let e = at d.points (a.choice d.points q (fresh 1 d)) in
    step w m l n s s s d e (b.choice p q e) t t (Unit {0}) (fresh_choice w g m l s a.choice h d.points q d t (λ r o z. (omega (o, arith), r.1, λ a b. absurd (omega (a, z, arith))))) (k p q e)

pub or_chooses : (w : Place) → Proper w → (m l n : ℕ) (s : Stage) (a b : Ways w.table.Variable) → Chooses w m l s a.choice → Chooses w l n s b.choice → Chooses w m n s (row.or_choice a b)
or_chooses w g m l n s a b h k p q d =
    let t = Reaches w p q in
    let e = at d.points (a.choice p d.points (fresh 1 d)) in
    step w m l n s s s d e (b.choice p q e) t t (Unit {0}) (fresh_choice w g m l s a.choice h p d.points d t (λ r o z. (r.0, omega (o, arith), λ a b. absurd (omega (b, z, arith))))) (k p q e)

-- a tree put into a variable on the way
between_step : (w : Place) (m : ℕ) (s : Stage) (t : IntType) (x : w.table.Variable) (p q : ℕ) (r : Given w.table.Variable) (R : Type 0) → (R → Has w.table x t None × (p < w.points) × (q < w.points) × (p ≡ nowhere → ⊥)) → Step w m m s s r.1 (row.set_between x p q r) (IsOfType w.table t r.0 × R) R
between_step w m s t x p q r R f = quiet w m s r.1 (row.set_between x p q r) (IsOfType w.table t r.0 × R) R refl refl refl refl (all_shorter w.IsEdge r.1.edges _) (same_scopes _ _ refl) (omega arith)
    (λ o b e z k. let c = f k.1 in (typed_at w s q (link (Set x r.0) p r.1) c.2 (typed_link w s (Set x r.0) p r.1 c.1 (set_is w.table x t r.0 c.0 k.0) (λ a. absurd (c.3 a)) z), k.1))

pub joined_gives : (w : Place) → Proper w → (m l k n : ℕ) (s : Stage) (t : IntType) (c : (p q : ℕ) → D w → D w) (a b : D w → Given w.table.Variable) → Chooses w m l s c → Gives w l k s t a → Gives w k n s t b → Gives w m n s t (row.joined t c a b)
joined_gives w g m l k n s t c a b h i j d =
    let x = next_temporary d in
    let f = fresh 3 d in
    let v = with_temporary t f in
    let p = c d.points (d.points + 1) v in
    let pa = at d.points p in
    let ra = a pa in
    let ma = row.set_between x (d.points + 2) (d.points + 1) ra in
    let rb = b ma in
    let mb = row.set_between x (d.points + 2) (d.points + 2) rb in
    let few = d.points + 3 ≤ w.points in
    let has = Has w.table x t None in
    let R = has × few in
    let one = fresh_step w g m 3 s d in
    let two = step_for w m m s s f v (Unit {0} × few) (has × few) few R (λ q. (tt, q)) (λ q. q) (step_beside w m m s s f v (Unit {0}) has few (temporary_step w g m s t f)) in
    let z = Reaches w d.points (d.points + 1) in
    let three = step_for w m l s s v p (z × R) (Unit {0} × R) R R (λ q. ((omega (q.1, arith), omega (q.1, arith), λ a b. absurd (omega (b, arith))), q)) (λ q. q.1) (step_beside w m l s s v p z (Unit {0}) R (h d.points (d.points + 1) v)) in
    let four = step_for w l l s s p pa ((d.points < w.points) × R) (Unit {0} × R) R R (λ q. (omega (q.1, arith), q)) (λ q. q.1) (step_beside w l l s s p pa (d.points < w.points) (Unit {0}) R (at_step w l s d.points p)) in
    let ta = IsOfType w.table t ra.0 in
    let five = step_for w l k s s pa ra.1 (Unit {0} × R) (ta × R) R (ta × R) (λ q. (tt, q)) (λ q. q) (step_beside w l k s s pa ra.1 (Unit {0}) ta R (i pa)) in
    let six = between_step w k s t x (d.points + 2) (d.points + 1) ra R (λ q. (q.0, omega (q.1, arith), omega (q.1, arith), λ e. absurd (omega (e, arith)))) in
    let tb = IsOfType w.table t rb.0 in
    let seven = step_for w k n s s ma rb.1 (Unit {0} × R) (tb × R) R (tb × R) (λ q. (tt, q)) (λ q. q) (step_beside w k n s s ma rb.1 (Unit {0}) tb R (j ma)) in
    let eight = between_step w n s t x (d.points + 2) (d.points + 2) rb R (λ q. (q.0, omega (q.1, arith), omega (q.1, arith), λ e. absurd (omega (e, arith)))) in
    let to_v = step w m m m s s s d f v (Unit {0}) few R one two in
    let to_p = step w m m l s s s d v p (Unit {0}) R R to_v three in
    let to_pa = step w m l l s s s d p pa (Unit {0}) R R to_p four in
    let to_ra = step w m l k s s s d pa ra.1 (Unit {0}) R (ta × R) to_pa five in
    let to_ma = step w m k k s s s d ra.1 ma (Unit {0}) (ta × R) R to_ra six in
    let to_rb = step w m k n s s s d ma rb.1 (Unit {0}) R (tb × R) to_ma seven in
    let to_mb = step w m n n s s s d rb.1 mb (Unit {0}) (tb × R) R to_rb eight in
    weaker w m n s d mb (Unit {0}) R (IsOfType w.table t (variable x)) (λ q. variable_is w.table x t q.0) to_mb

constant_gives : (w : Place) (m : ℕ) (s : Stage) (t : IntType) (z : ℤ) → InType t z → Gives w m m s t (λ d. (constant t z, d))
constant_gives w m s t z h d = seen w m s d (Unit {0}) (IsOfType w.table t (constant t z)) (λ x q. constant_is w.table t z h)

one_in : InType Int (pos 1)
one_in = record { from = omega (arith, ints); to = omega (arith, ints) }

zero_is : InType Int (pos 0)
zero_is = record { from = (zero_in Int).0; to = (zero_in Int).1 }

pub truth_are : (w : Place) → Proper w → (m n : ℕ) (s : Stage) (c : (p q : ℕ) → D w → D w) → Chooses w m n s c → WaysAre w m n s Int (row.truth_ways c)
truth_are w g m n s c h =
    choice_are w g m n s Temporary Int (row.truth_value c) c
    (joined_gives w g m n n n s Int c (λ d. (constant Int (pos 1), d)) (λ d. (constant Int (pos 0), d)) h (constant_gives w n s Int (pos 1) one_in) (constant_gives w n s Int (pos 0) zero_is)) h

pub conditional_are : (w : Place) → Proper w → (m l k n : ℕ) (s : Stage) (t : IntType) (c : Ways w.table.Variable) (a b : Operand w.table.Variable) → Chooses w m l s c.choice → OperandIs w l k s a → OperandIs w k n s b → WaysAre w m n s t (row.conditional_ways t c a b)
conditional_are w g m l k n s t c a b h i j =
    value_are w g m n s Temporary t (row.joined t c.choice (row.convert_value t a) (row.convert_value t b)) (joined_gives w g m l k n s t c.choice (row.convert_value t a) (row.convert_value t b) h (convert_gives w l k s t a i) (convert_gives w k n s t b j))

-- ---- sequences, assumptions, assertions

pub then_are : (w : Place) (m l n : ℕ) (s : Stage) (t : IntType) (f : D w → D w) (v : Ways w.table.Variable) → Works w m l s f → WaysAre w l n s t v → WaysAre w m n s t (row.then_ways f v)
then_are w m l n s t f v h k = record {
  value = λ d. step w m l n s s s d (f d) (v.value (f d)).1 (Unit {0}) (Unit {0}) (IsOfType w.table t (v.value (f d)).0) (h d) (k.value (f d));
  choice = λ p q d. let c = Reaches w p q in
      step w m l n s s s d (f d) (v.choice p q (f d)) c c (Unit {0}) (step_for w m l s s d (f d) (Unit {0} × c) (Unit {0} × c) c c (λ x. (tt, x)) (λ x. x.1) (step_beside w m l s s d (f d) (Unit {0}) (Unit {0}) c (h d))) (k.choice p q (f d));
  unused = λ d. step w m l n s s s d (f d) (v.unused (f d)) (Unit {0}) (Unit {0}) (Unit {0}) (h d) (k.unused (f d));
}

pub assumed_works : (w : Place) → Proper w → (m n : ℕ) (s : Stage) (v : Ways w.table.Variable) → Chooses w m n s v.choice → Works w m n s (row.assumed v)
assumed_works w g m n s v h d = fresh_choice w g m n s v.choice h d.points nowhere d (Unit {0}) (λ r o z. (omega (o, arith), g.points, λ a b. absurd (omega (a, z, arith))))

pub int_chooses : (w : Place) → Proper w → (m n : ℕ) (s : Stage) (e : Operand w.table.Variable) → OperandIs w m n s e → Chooses w m n s (row.as_int e).choice
int_chooses w g m n s e h = chosen (represents Int e.int_type)
  where
    chosen : (b : Bool) → Chooses w m n s (if b then e.ways else row.convert_ways Int e).choice
    chosen true = h.choice
    chosen false = (convert_are w g m n s Int e h).choice

pub zero_chooses : (w : Place) → Proper w → (m : ℕ) (s : Stage) → Chooses w m m s (row.zero_ways {V = w.table.Variable}).choice
zero_chooses w g m s = (constant_are w g m s Int (pos 0) zero_is).choice

pub check_works : (w : Place) → Proper w → (m n : ℕ) (s : Stage) (o : Site) (u : IntType) (f : D w → Given w.table.Variable) → Gives w m n s u f → Works w m n s (λ d. row.check_after o u (f d))
check_works w g m n s o u f h d =
    let r = f d in
    let k = IsOfType w.table u r.0 in
    weaker w m n s d (row.check_after o u r) (Unit {0}) k (Unit {0}) (λ q. tt)
    (then_emit w g m n s d r.1 (Check o (conversion u Int r.0)) (Unit {0}) k (h d) (λ q. (conversion_is w.table u Int r.0 q).typed))
