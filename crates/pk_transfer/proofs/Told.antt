-- What is known of a tree's value has the value.
use Rattle.std.specs.Prelude.{◌≡◌, ℕ, ◌<◌, ℤ, ◌≤ℤ◌, length, Option, Some, None, IfSome, Result, Ok, Err}
use Rattle.std.proofs.Common.{◌∙◌, ap, arith, refl, sym, subst}
use Rattle.std.proofs.Math.ListN.{get_or-map}
use Rattle.std.proofs.lemmas.List.{length-map}
use Rattle.pk_ctypes.specs.declared.types.IntType.{IntType}
use Rattle.pk_ctypes.specs.declared.types.IntType.TheVariants.{Int}
use Rattle.pk_ctypes.specs.declared.types.Op.{Op}
use Rattle.pk_ctypes.specs.declared.types.Op.TheVariants.{Add, Sub, Mul, Div, Rem, Shl, Shr, And, Or, Xor, Lt, Gt, Le, Ge, Eq, Ne, Neg, BitNot, Not}
use Rattle.pk_ctypes.specs.declared.faults.Fault.{Fault}
use Rattle.pk_ctypes.specs.Types.{Represents, wrapped}
use Rattle.pk_ctypes.specs.Operators.{value_of, result_type}
use Rattle.pk_interval.specs.Ranges.{Range, IsIn}
use Rattle.pk_interval.specs.Operators.{HasRightIn}
use Rattle.pk_interval.proofs.Keeping.{stays}
use Rattle.pk_congr.specs.Laws.{IsOf as IsOfType}
use Rattle.pk_graph.specs.declared.trees.Site.{Site}
use Rattle.pk_graph.specs.Trees.{TreeOf, constant, variable, converted, unary, binary}
use Rattle.pk_graph.specs.Kinds.{Kind, Kinds, kind_at, type_of, IsRight, IsTyped}
use Rattle.pk_graph.specs.Kinds as kinds
use Rattle.pk_graph.specs.Steps.{number_at, Failure, at_site, and_then, tree_value}
use Rattle.pk_graph.specs.Stores.{Stored, storing, numbers_of}
use Rattle.pk_value.specs.Known.{Known, IsOf, IsKnown, exactly}
use Rattle.pk_value.specs.Values as values
use Rattle.pk_value.proofs.Sound.{Knows, knows_one, exactly_knows, operated_knows, converted_knows}
use Rattle.pk_octagons.specs.Values.{type_at, IsValue}
use Rattle.pk_state.specs.Layouts.{Layout}
use Rattle.pk_state.specs.Facts.{Facts, AreFactsIf}
use Rattle.pk_state.specs.Members.{Member}
use Rattle.pk_state.specs.Changes.{known_in}
use Rattle.pk_transfer.specs.Trees.{known_with, tree_known, kind_of, kinds_of, IsOver, TreesAreSound}
use Rattle.pk_transfer.proofs.Slotting.{own_there, own_type}

-- ---- types

pub kinds_type : (l : Layout) (x : ℕ) → kinds.type_at (kinds_of l) x ≡ type_at l.types x
kinds_type l x = ap (λ (k : Kind). k.int_type) (get_or-map kind_of l.types x Int)

-- ---- values

-- what goes on with a number has the number
pub then_ok : (r : Result ℤ Failure) (f : ℤ → Result ℤ Failure) (z : ℤ) → and_then r f ≡ Ok z → (y : ℤ) × (r ≡ Ok y) × (f y ≡ Ok z)
then_ok (Ok y) f z e = (y, refl, e)
then_ok (Err x) f z e = absurd (cc)

pub site_ok : (s : Site) (r : Result ℤ Fault) (z : ℤ) → at_site s r ≡ Ok z → r ≡ Ok z
site_ok s (Ok y) z e = let same : y ≡ z = cc in ap Ok same
site_ok s (Err f) z e = absurd (cc)

knows_with : (t u : IntType) (o : Option Known) (f : Known → Option Known) (y z : ℤ) → Knows t o y → ((k : Known) → IsOf k y → IsKnown t k → Knows u (f k) z) → Knows u (known_with o f) z
knows_with t u None f y z h g = absurd h
knows_with t u (Some k) f y z h g = g k h.0 h.1

pub in_wider : (t u : IntType) (r : Range) → Represents t u → IsIn u r → IsIn t r
in_wider t u r w i = record { from = w r.lo i.from; to = w r.hi i.to }

right_in : (op : Op) (t : IntType) (r : Range) → IsIn t r → HasRightIn op t r
right_in op t r h = stays.right_operands op t r h

-- the right operand of an operator
pub right_wider : (op : Op) (t u : IntType) (r : Range) → IsRight op t u → IsIn u r → HasRightIn op t r
right_wider Shl t u r w i = tt
right_wider Shr t u r w i = tt
right_wider Add t u r w i = right_in Add t r (in_wider t u r w i)
right_wider Sub t u r w i = right_in Sub t r (in_wider t u r w i)
right_wider Mul t u r w i = right_in Mul t r (in_wider t u r w i)
right_wider Div t u r w i = right_in Div t r (in_wider t u r w i)
right_wider Rem t u r w i = right_in Rem t r (in_wider t u r w i)
right_wider And t u r w i = right_in And t r (in_wider t u r w i)
right_wider Or t u r w i = right_in Or t r (in_wider t u r w i)
right_wider Xor t u r w i = right_in Xor t r (in_wider t u r w i)
right_wider Lt t u r w i = right_in Lt t r (in_wider t u r w i)
right_wider Gt t u r w i = right_in Gt t r (in_wider t u r w i)
right_wider Le t u r w i = right_in Le t r (in_wider t u r w i)
right_wider Ge t u r w i = right_in Ge t r (in_wider t u r w i)
right_wider Eq t u r w i = right_in Eq t r (in_wider t u r w i)
right_wider Ne t u r w i = right_in Ne t r (in_wider t u r w i)
right_wider Neg t u r w i = absurd w
right_wider BitNot t u r w i = absurd w
right_wider Not t u r w i = absurd w

-- the operands of an operator, in what is asked of them
pub unary_in : (ks : Kinds) (op : Op) (p : Site) (t : IntType) (e : TreeOf ℕ) (k : Known) → IsTyped ks (unary op p t e) → IsValue (type_of ks e) k → IsIn t k.range
unary_in ks op p t e k h v = in_wider t (type_of ks e) k.range h.2 v.inside

pub unary_right : (ks : Kinds) (op : Op) (p : Site) (t : IntType) (e : TreeOf ℕ) (k : Known) → IsTyped ks (unary op p t e) → IsValue (type_of ks e) k → HasRightIn op t k.range
unary_right ks op p t e k h v = right_in op t k.range (unary_in ks op p t e k h v)

pub left_in : (ks : Kinds) (op : Op) (p : Site) (t : IntType) (a b : TreeOf ℕ) (k : Known) → IsTyped ks (binary op p t a b) → IsValue (type_of ks a) k → IsIn t k.range
left_in ks op p t a b k h v = in_wider t (type_of ks a) k.range h.2 v.inside

pub binary_right : (ks : Kinds) (op : Op) (p : Site) (t : IntType) (a b : TreeOf ℕ) (k : Known) → IsTyped ks (binary op p t a b) → IsValue (type_of ks b) k → HasRightIn op t k.range
binary_right ks op p t a b k h v = right_wider op t (type_of ks b) k.range h.3 v.inside

pub value_from : (t : IntType) (o : Option Known) → IfSome o (λ k. IsIn t k.range) → IfSome o (λ k. IsOfType t k.class) → IfSome o (λ k. k.range.lo ≤ℤ k.range.hi) → IfSome o (IsValue t)
value_from t None i c s = tt
value_from t (Some k) i c s = record { inside = i; some = s; class = c.reduced }

-- a variable's number
variable_knows : (l : Layout) (f : Option Facts) (s : Stored) (x : ℕ) → AreFactsIf l f → Member l f s → x < length l.types → Knows (type_at l.types x) (known_in f x) (number_at (numbers_of s x) 0)
variable_knows l None s x h m p = absurd m
variable_knows l (Some f) s x h m p =
    let here : x < length f.values = omega (arith, p, h.values.size) in
    (m.values.each x 0 here (m.values.some x here), record { inside = h.values.inside x here; modulus = (h.values.classes x here).from })

pub tree_knows : (l : Layout) (f : Option Facts) (s : Stored) (e : TreeOf ℕ) (z : ℤ) → AreFactsIf l f → Member l f s → IsTyped (kinds_of l) e → tree_value storing e s ≡ Ok z → Knows (type_of (kinds_of l) e) (tree_known (known_in f) e) z
tree_knows l f s (variable x) z a m h e =
    let here : x < length l.types = omega (arith, h.there, length-map l.types kind_of) in
    let same : number_at (numbers_of s x) 0 ≡ z = cc in
    subst (λ v. Knows (kinds.type_at (kinds_of l) x) (known_in f x) v) same (subst (λ t. Knows t (known_in f x) (number_at (numbers_of s x) 0)) (sym (kinds_type l x)) (variable_knows l f s x a m here))
tree_knows l f s (constant t c) z a m h e =
    let same : c ≡ z = cc in
    subst (λ v. Knows t (Some (exactly c)) v) same (exactly_knows t c h)
tree_knows l f s (converted t e) z a m h k =
    let is = then_ok (tree_value storing e s) (λ v. Ok (wrapped t v)) z k in
    let same : wrapped t is.0 ≡ z = cc in
    knows_with (type_of (kinds_of l) e) t (tree_known (known_in f) e) (values.converted t) is.0 z (tree_knows l f s e is.0 a m h is.1)
    (λ j g i. subst (λ v. Knows t (values.converted t j) v) same (converted_knows t j is.0 i.modulus g))
tree_knows l f s (unary op p t e) z a m h k =
    let is = then_ok (tree_value storing e s) (λ v. at_site p (value_of op t v v)) z k in
    let u = type_of (kinds_of l) e in
    knows_with u (result_type op t) (tree_known (known_in f) e) (λ j. values.operated op t j j) is.0 z (tree_knows l f s e is.0 a m h.1 is.1)
    (λ j g i. let inside = in_wider t u j.range h.2 i.inside in operated_knows op t j j is.0 is.0 z inside (right_in op t j.range inside) i.modulus g g (site_ok p (value_of op t is.0 is.0) z is.2))
tree_knows l f s (binary op p t d b) z a m h k =
    let left = then_ok (tree_value storing d s) (λ x. and_then (tree_value storing b s) (λ y. at_site p (value_of op t x y))) z k in
    let right = then_ok (tree_value storing b s) (λ y. at_site p (value_of op t left.0 y)) z left.2 in
    let u = type_of (kinds_of l) d in
    let w = type_of (kinds_of l) b in
    knows_with u (result_type op t) (tree_known (known_in f) d) (λ j. known_with (tree_known (known_in f) b) (λ n. values.operated op t j n)) left.0 z (tree_knows l f s d left.0 a m h.0 left.1)
    (λ j g i. knows_with w (result_type op t) (tree_known (known_in f) b) (λ n. values.operated op t j n) right.0 z (tree_knows l f s b right.0 a m h.1 right.1)
    (λ n g' i'. operated_knows op t j n left.0 right.0 z (in_wider t u j.range h.2 i.inside) (right_wider op t w n.range h.3 i'.inside) i.modulus g g' (site_ok p (value_of op t left.0 right.0) z right.2)))

-- ---- a layout's types

pub typed_in : (ks : Kinds) (l : Layout) (e : TreeOf ℕ) → IsOver ks l → IsTyped ks e → IsTyped (kinds_of l) e × (type_of (kinds_of l) e ≡ type_of ks e)
typed_in ks l (variable x) o h =
    let same : kinds.type_at (kinds_of l) x ≡ kinds.type_at ks x = kinds_type l x ∙ own_type ks l o x h.there in
    let scalar : (kind_at (kinds_of l) x).length ≡ None = ap (λ (k : Kind). k.length) (get_or-map kind_of l.types x Int) in
    (record { there = omega (arith, own_there ks l o x h.there, length-map l.types kind_of); scalar = scalar }, same)
typed_in ks l (constant t c) o h = (h, refl)
typed_in ks l (converted t e) o h = ((typed_in ks l e o h).0, refl)
typed_in ks l (unary op p t e) o h =
    let r = typed_in ks l e o h.1 in
    ((h.0, r.0, subst (Represents t) (sym r.1) h.2), refl)
typed_in ks l (binary op p t a b) o h =
    let r = typed_in ks l a o h.0 in
    let q = typed_in ks l b o h.1 in
    ((r.0, q.0, subst (Represents t) (sym r.1) h.2, subst (IsRight op t) (sym q.1) h.3), refl)

pub trees_sound : TreesAreSound
trees_sound = record {
  typed = λ ks l e o h. (typed_in ks l e o h).0;
  values = λ l f s e z a m h v. knows_one (type_of (kinds_of l) e) (tree_known (known_in f) e) z (tree_knows l f s e z a m h v);
}
