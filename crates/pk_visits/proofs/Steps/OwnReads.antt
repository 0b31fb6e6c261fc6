-- The tree of an expression reads no objects of other paths.
use Rattle.std.proofs.Common.{◌≡◌, ℕ, ◌+◌, length, Bool, true, false, refl, sym, ap, ◌∙◌, subst, ℤ}
use Rattle.std.specs.Prelude.{Result, Ok, Err, Some}
use Rattle.pk_ctypes.specs.declared.faults.Fault.{Fault}
use Rattle.pk_ctypes.specs.declared.types.IntType.{IntType}
use Rattle.pk_ctypes.specs.declared.types.Op.{Op}
use Rattle.pk_ctypes.specs.Types.{represents}
use Rattle.pk_ctypes.specs.Operators.{value_of, result_type}
use Rattle.pk_typed.specs.declared.values.Variable.{Variable}
use Rattle.pk_typed.specs.declared.values.Variable.TheVariants.{File, Local}
use Rattle.pk_typed.specs.Trees.{ValueTree, ValueTrees}
use Rattle.pk_typed.specs.Trees as tree
use Rattle.pk_typed.specs.Types.{type_of}
use Rattle.pk_graph.specs.declared.trees.Site.{Site}
use Rattle.pk_graph.specs.Trees.{constant, variable, converted, unary, binary}
use Rattle.pk_draft.specs.Drafts.{Given, Names, next_temporary}
use Rattle.pk_draft.specs.Folding.{conversion, kept_if, folded, unary_tree, binary_tree, right_type}
use Rattle.pk_lower_row.specs.declared.shapes.Waiting.{Waiting}
use Rattle.pk_lower_row.specs.declared.shapes.Waiting.TheVariants.{Weak}
use Rattle.pk_lower_row.specs.Shapes.{shape_of, stays, makes, any_makes, strong_if, strong_or_weak}
use Rattle.pk_lower_row.specs.Contexts.{Context, variable_of, array_of, site, callee, parameters_of}
use Rattle.pk_lower_row.specs.Rows as rows
use Rattle.pk_lower_row.specs.Rows.{Operand, two, one, stored_unless, types_of}
use Rattle.pk_lower_expression.specs.Expressions.{target, ways, performed, passed}
use Rattle.pk_meaning.specs.Objects.{file, local, result}
use Rattle.pk_welltyped.specs.Listed.{calls_in_values}
use Rattle.pk_visits.proofs.Slots.{Slot, own, temporary, slots, SlotTree, Draft}
use Rattle.pk_visits.proofs.Grows.Rows.{two_grows, loaded_grows, held_grows, one_grows}
use Rattle.pk_visits.proofs.Grows.Expressions.{lowered, arguments}
use Rattle.pk_visits.proofs.Steps.Tells.{Any, any_called, sane, sane_effect, variable_is}
use Rattle.pk_visits.proofs.Operands.{next_is}
use Rattle.pk_visits.proofs.Stands.{IsApart}
use Rattle.pk_visits.proofs.Steps.Passing.{AsMany, AllApart}

-- of path k
abbrev pub ReadsSlot : ℕ → Slot → Type 0
ReadsSlot k (own (file i)) = Unit {0}
ReadsSlot k (own (local j i)) = j ≡ k
ReadsSlot k (own (result j)) = Unit {0}
ReadsSlot k (temporary n) = Unit {0}

abbrev pub Reads : ℕ → SlotTree → Type 0
Reads k (constant t z) = Unit {0}
Reads k (variable y) = ReadsSlot k y
Reads k (converted t e) = Reads k e
Reads k (unary op s t e) = Reads k e
Reads k (binary op s t a b) = Reads k a × Reads k b

kept_reads : (k : ℕ) (b : Bool) (t : IntType) (e : SlotTree) → Reads k e → Reads k (kept_if b t e)
kept_reads k true t e h = h
kept_reads k false t e h = h

conversion_reads : (k : ℕ) (u t : IntType) (e : SlotTree) → Reads k e → Reads k (conversion u t e)
conversion_reads k u t (constant v z) h = tt
conversion_reads k u t (variable y) h = kept_reads k (represents t u) t (variable y) h
conversion_reads k u t (converted v e) h = kept_reads k (represents t u) t (converted v e) h
conversion_reads k u t (unary op s v e) h = kept_reads k (represents t u) t (unary op s v e) h
conversion_reads k u t (binary op s v a b) h = kept_reads k (represents t u) t (binary op s v a b) h

folded_reads : (k : ℕ) (t : IntType) (e : SlotTree) (r : Result ℤ Fault) → Reads k e → Reads k (folded t e (Some r))
folded_reads k t e (Ok z) h = tt
folded_reads k t e (Err f) h = h

unary_reads : (k : ℕ) (op : Op) (s : Site) (t : IntType) (e : SlotTree) → Reads k e → Reads k (unary_tree op s t e)
unary_reads k op s t (constant u z) h = folded_reads k (result_type op t) (unary op s t (constant u z)) (value_of op t z z) tt
unary_reads k op s t (variable y) h = h
unary_reads k op s t (converted u e) h = h
unary_reads k op s t (unary o r u e) h = h
unary_reads k op s t (binary o r u a b) h = h

constant_reads : (k : ℕ) (op : Op) (s : Site) (t u : IntType) (z : ℤ) (b : SlotTree) → Reads k b → Reads k (binary_tree op s t (constant u z) b)
constant_reads k op s t u z (constant v w) h = folded_reads k (result_type op t) (binary op s t (constant u z) (constant v w)) (value_of op t z w) (tt, tt)
constant_reads k op s t u z (variable y) h = (tt, h)
constant_reads k op s t u z (converted v e) h = (tt, h)
constant_reads k op s t u z (unary o r v e) h = (tt, h)
constant_reads k op s t u z (binary o r v a b) h = (tt, h)

binary_reads : (k : ℕ) (op : Op) (s : Site) (t : IntType) (a b : SlotTree) → Reads k a → Reads k b → Reads k (binary_tree op s t a b)
binary_reads k op s t (constant u z) b g h = constant_reads k op s t u z b h
binary_reads k op s t (variable y) b g h = (g, h)
binary_reads k op s t (converted u e) b g h = (g, h)
binary_reads k op s t (unary o r u e) b g h = (g, h)
binary_reads k op s t (binary o r u a c) b g h = (g, h)

new_reads : (k : ℕ) (d : Draft) → d.names ≡ slots → Reads k (variable (next_temporary d))
new_reads k d n = subst (ReadsSlot k) (sym (next_is d n)) tt

held_reads : (k : ℕ) (b : Bool) (t : IntType) (r : Given Slot) → r.1.names ≡ slots → Reads k r.0 → Reads k (stored_unless b t r).0
held_reads k true t r n h = h
held_reads k false t r n h = new_reads k r.1 n

named_reads : (c : Context) (x : Variable) (d : Draft) → d.names ≡ slots → Reads c.path (variable (variable_of c x d))
named_reads c (File i) d n = subst (ReadsSlot c.path) (sym (variable_is c (File i) d n)) tt
named_reads c (Local i) d n = subst (ReadsSlot c.path) (sym (variable_is c (Local i) d n)) refl

two_named : (c : Context) (how : Waiting) (i e : ValueTree) (d : Draft) → d.names ≡ slots → (two how (lowered c i) (lowered c e) d).draft.names ≡ slots
two_named c how i e d n = (two_grows Any how (lowered c i) (lowered c e) (sane c i) (sane c e) d).names ∙ n

loaded_reads : (k : ℕ) (c : Context) (t : IntType) (s : Site) (x : Variable) (i : ValueTree) (e : Operand Slot) (d : Draft) → (two (strong_or_weak e.makes) (lowered c i) e d).draft.names ≡ slots
    → Reads k (rows.loaded t s (array_of c x d) (lowered c i) e d).element
loaded_reads k c t s x i e d n =
    let p = two (strong_or_weak e.makes) (lowered c i) e d in
    let v = rows.held Weak e.shape e.int_type (p.second, p.draft) in
    new_reads k v.1 ((held_grows Any Weak e.shape e.int_type (p.second, p.draft)).names ∙ n)

pub reads : (c : Context) (e : ValueTree) (d : Draft) → d.names ≡ slots → Reads c.path ((ways c e).value d).0
unfolding target ways
reads c (tree.constant t z) d n = tt
reads c (tree.read (tree.scalar t x)) d n = named_reads c x d n
reads c (tree.read (tree.element t x at i)) d n = new_reads c.path ((ways c i).value d).1 (((sane c i).value d).names ∙ n)
reads c (tree.assign at (tree.scalar t x) e) d n = named_reads c x d n
reads c (tree.assign at (tree.element t x q i) e) d n = new_reads c.path (two (strong_or_weak (makes e)) (lowered c i) (lowered c e) d).draft (two_named c (strong_or_weak (makes e)) i e d n)
reads c (tree.update op at o (tree.scalar t x) e) d n = named_reads c x d n
reads c (tree.update op at o (tree.element t x q i) e) d n =
    new_reads c.path (rows.loaded t (site c q) (array_of c x d) (lowered c i) (lowered c e) d).draft
    ((loaded_grows Any t (site c q) (array_of c x d) (lowered c i) (lowered c e) (sane c i) (sane c e) d).names ∙ n)
reads c (tree.step op at o (tree.scalar t x) true) d n = named_reads c x d n
reads c (tree.step op at o (tree.scalar t x) false) d n = new_reads c.path d n
reads c (tree.step op at o (tree.element t x q i) true) d n =
    new_reads c.path (rows.loaded t (site c q) (array_of c x d) (lowered c i) one d).draft ((loaded_grows Any t (site c q) (array_of c x d) (lowered c i) one (sane c i) (one_grows Any) d).names ∙ n)
reads c (tree.step op at o (tree.element t x q i) false) d n =
    loaded_reads c.path c t (site c q) x i one d ((two_grows Any (strong_or_weak (one {V = Slot}).makes) (lowered c i) one (sane c i) (one_grows Any) d).names ∙ n)
reads c (tree.call t f m at es) d n =
    let r = passed c es d in
    subst (ReadsSlot c.path) (sym (ap (λ (ns : Names Slot). ns.result (callee c m) (r.draft.variables + length (parameters_of c.unit f))) ((arguments Any c es (any_called c (calls_in_values es)) d).names ∙ n))) tt
reads c (tree.any t at) d n = new_reads c.path d n
reads c (tree.unary op at t e) d n = unary_reads c.path op (site c at) t (conversion (type_of e) t ((ways c e).value d).0) (conversion_reads c.path (type_of e) t ((ways c e).value d).0 (reads c e d n))
reads c (tree.convert t e) d n = conversion_reads c.path (type_of e) t ((ways c e).value d).0 (reads c e d n)
reads c (tree.binary op at t a b) d n =
    let r = (ways c a).value d in
    let f = rows.held (strong_if (makes b)) (shape_of a) (type_of a) r in
    let q = (ways c b).value f.1 in
    let nr = ((sane c a).value d).names ∙ n in
    let nf = (held_grows Any (strong_if (makes b)) (shape_of a) (type_of a) r).names ∙ nr in
    binary_reads c.path op (site c at) t (conversion (type_of a) t f.0) (conversion (type_of b) (right_type op (type_of b) t) q.0)
    (conversion_reads c.path (type_of a) t f.0 (held_reads c.path (stays (strong_if (makes b)) (shape_of a)) (type_of a) r nr (reads c a d n)))
    (conversion_reads c.path (type_of b) (right_type op (type_of b) t) q.0 (reads c b f.1 nf))
reads c (tree.and a b) d n = new_reads c.path d n
reads c (tree.or a b) d n = new_reads c.path d n
reads c (tree.conditional t e a b) d n = new_reads c.path d n
reads c (tree.then_value f v) d n = reads c v (performed c f d) ((sane_effect c f d).names ∙ n)

-- ---- arguments

abbrev path_of_slot : Slot → ℕ → ℕ
path_of_slot (own (file i)) k = k
path_of_slot (own (local j i)) k = j
path_of_slot (own (result j)) k = k
path_of_slot (temporary n) k = k

abbrev is_local : Slot → Type 0
is_local (own (file i)) = ⊥
is_local (own (local j i)) = Unit {0}
is_local (own (result j)) = ⊥
is_local (temporary n) = ⊥

apart_slot : (k m j : ℕ) (y : Slot) → (m ≡ k → ⊥) → ReadsSlot k y → own (local m j) ≡ y → ⊥
apart_slot k m j (own (file i)) h r e = subst is_local e tt
apart_slot k m j (own (local p i)) h r e = h (ap (λ (y : Slot). path_of_slot y k) e ∙ r)
apart_slot k m j (own (result p)) h r e = subst is_local e tt
apart_slot k m j (temporary n) h r e = subst is_local e tt

reads_apart : (k m j : ℕ) (e : SlotTree) → (m ≡ k → ⊥) → Reads k e → IsApart (own (local m j)) e
reads_apart k m j (constant t z) h r = tt
reads_apart k m j (variable y) h r = apart_slot k m j y h r
reads_apart k m j (converted t e) h r = reads_apart k m j e h r
reads_apart k m j (unary op s t e) h r = reads_apart k m j e h r
reads_apart k m j (binary op s t a b) h r = (reads_apart k m j a h r.0, reads_apart k m j b h r.1)

pub passed_apart : (c : Context) (m j : ℕ) (es : ValueTrees) (d : Draft) → (m ≡ c.path → ⊥) → d.names ≡ slots → AllApart (own (local m j)) (passed c es d).trees
unfolding passed
passed_apart c m j tree.no_values d h n = tt
passed_apart c m j (tree.value_before e es) d h n =
    let r = (ways c e).value d in
    let f = rows.held (strong_if (any_makes es)) (shape_of e) (type_of e) r in
    let nr = ((sane c e).value d).names ∙ n in
    let nf = (held_grows Any (strong_if (any_makes es)) (shape_of e) (type_of e) r).names ∙ nr in
    (reads_apart c.path m j f.0 h (held_reads c.path (stays (strong_if (any_makes es)) (shape_of e)) (type_of e) r nr (reads c e d n)), passed_apart c m j es f.1 h nf)

pub passed_many : (c : Context) (es : ValueTrees) (d : Draft) → AsMany (types_of es) (passed c es d).trees
unfolding passed
passed_many c tree.no_values d = tt
passed_many c (tree.value_before e es) d = passed_many c es _
