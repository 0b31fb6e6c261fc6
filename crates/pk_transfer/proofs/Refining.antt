-- Guards keep the stores in which their trees have the wanted truth.
use Rattle.std.specs.Prelude.{◌≡◌, ℕ, Bool, true, false, not, if◌then◌else◌, ℤ, pos, ◌+ℤ◌, ◌-ℤ◌, ◌≤ℤ◌, ◌<ℤ◌, int_lt, int_le, Option, Some, None, Ok, IfSome}
use Rattle.std.specs.Ordering.{int_eq}
use Rattle.std.specs.Int.{int_min, int_max}
use Rattle.std.proofs.Common.{arith, refl, ap, sym, subst, ◌∙◌}
use Rattle.std.proofs.lemmas.Int.{ints, clamps}
use Rattle.std.proofs.lemmas.Bool.Decides.{Decides-int_eq}
use Rattle.pk_ctypes.specs.declared.types.IntType.{IntType}
use Rattle.pk_ctypes.specs.declared.types.Op.{Op}
use Rattle.pk_ctypes.specs.declared.types.Op.TheVariants.{Add, Sub, Mul, Div, Rem, Shl, Shr, And, Or, Xor, Lt, Gt, Le, Ge, Eq, Ne, Neg, BitNot, Not}
use Rattle.pk_ctypes.specs.declared.faults.Fault.TheVariants.{Overflow}
use Rattle.pk_ctypes.specs.Operators.{truth, fitted, value_of}
use Rattle.pk_ctypes.proofs.Values.{fitted_inside, truth_in, le_test}
use Rattle.pk_interval.specs.Ranges.{Range, Holds, HeldBy, IsIn, range_from, met}
use Rattle.pk_congr.specs.Classes.{Class, IsMember, met as met_classes}
use Rattle.pk_congr.proofs.Meets.{meet_is_both}
use Rattle.pk_graph.specs.declared.trees.Site.{Site}
use Rattle.pk_graph.specs.Trees.{TreeOf, constant, variable, converted, unary, binary}
use Rattle.pk_graph.specs.Steps.{is_true, at_site, and_then, tree_value}
use Rattle.pk_graph.specs.Stores.{Stored, storing}
use Rattle.pk_value.specs.Known.{Known, IsOf, IsOneOf}
use Rattle.pk_value.specs.Values.{is_constant}
use Rattle.pk_value.proofs.Sound.{equal_by_test}
use Rattle.pk_transfer.proofs.Told.{then_ok, site_ok}
use Rattle.pk_transfer.specs.Guards.{negated, flipped, is_comparison, is_zero, condition_of, test_of, HoldsIn, with_both, other_than, refined, GuardsKeep}
use Rattle.pk_octagons.specs.Reduced.{with_range}

-- ---- tests

test_by_equal : (x y : ℤ) → x ≡ y → int_eq x y ≡ true
test_by_equal x y e = go (Decides-int_eq x y)
  where
    go : (int_eq x y ≡ true → x ≡ y) × (x ≡ y → int_eq x y ≡ true) → int_eq x y ≡ true
    go d = d.1 e

lt_test : (x y : ℤ) → x <ℤ y → int_lt x y ≡ true
lt_test x y h = by (int_lt x y) refl
  where
    by : (b : Bool) → int_lt x y ≡ b → b ≡ true
    by true e = refl
    by false e = absurd (omega (arith, ints, e, h))

not_true : (b : Bool) → not b ≡ true → b ≡ false
not_true true e = sym e
not_true false e = refl

not_false : (b : Bool) → not b ≡ false → b ≡ true
not_false true e = refl
not_false false e = sym e

-- ---- refining

pub ranged : (k : Known) (lo hi a : ℤ) → lo ≤ℤ a → a ≤ℤ hi → IsMember k.class a → IsOneOf (with_range k (range_from lo hi)) a
ranged k lo hi a h g m = by (int_le lo hi) refl
  where
    by : (b : Bool) → int_le lo hi ≡ b → IsOneOf (with_range k (let r : Range = record { lo = lo; hi = hi } in if b then Some r else None)) a
    by true e = record { in_range = record { from = h; to = g }; in_class = m }
    by false e = absurd (omega (arith, ints, e, h, g))

held_both : (r q : Range) (a : ℤ) → Holds r a → Holds q a → HeldBy (met r q) a
held_both r q a h g = by (int_le (int_max r.lo q.lo) (int_min r.hi q.hi)) refl
  where
    by : (b : Bool) → int_le (int_max r.lo q.lo) (int_min r.hi q.hi) ≡ b → HeldBy (let p : Range = record { lo = int_max r.lo q.lo; hi = int_min r.hi q.hi } in if b then Some p else None) a
    by true e = record { from = omega (arith, ints, clamps, h.from, g.from); to = omega (arith, ints, clamps, h.to, g.to) }
    by false e = absurd (omega (arith, ints, clamps, e, h.from, h.to, g.from, g.to))

both_kept : (o : Option Range) (n : Option Class) (a : ℤ) → HeldBy o a → (n ≡ None → ⊥) → ((c : Class) → n ≡ Some c → IsMember c a) → IsOneOf (with_both o n) a
both_kept None n a h f g = absurd h
both_kept (Some r) None a h f g = absurd (f refl)
both_kept (Some r) (Some c) a h f g = record { in_range = h; in_class = g c refl }

raised_from : (lo a z : ℤ) → lo ≤ℤ a → int_eq a z ≡ false → (if int_eq lo z then lo +ℤ pos 1 else lo) ≤ℤ a
raised_from lo a z h n = by (int_eq lo z) refl
  where
    by : (b : Bool) → int_eq lo z ≡ b → (if b then lo +ℤ pos 1 else lo) ≤ℤ a
    by true e = apart (int_le (lo +ℤ pos 1) a) refl
      where
        apart : (c : Bool) → int_le (lo +ℤ pos 1) a ≡ c → (lo +ℤ pos 1) ≤ℤ a
        apart true f = omega (arith, ints, f)
        apart false f =
            let here : a ≡ lo = omega (arith, ints, f, h) in
            let same = test_by_equal a z (here ∙ equal_by_test lo z e) in
            absurd (cc)
    by false e = h

lowered_to : (hi a z : ℤ) → a ≤ℤ hi → int_eq a z ≡ false → a ≤ℤ (if int_eq hi z then hi -ℤ pos 1 else hi)
lowered_to hi a z h n = by (int_eq hi z) refl
  where
    by : (b : Bool) → int_eq hi z ≡ b → a ≤ℤ (if b then hi -ℤ pos 1 else hi)
    by true e = apart (int_le a (hi -ℤ pos 1)) refl
      where
        apart : (c : Bool) → int_le a (hi -ℤ pos 1) ≡ c → a ≤ℤ (hi -ℤ pos 1)
        apart true f = omega (arith, ints, f)
        apart false f =
            let here : a ≡ hi = omega (arith, ints, f, h) in
            let same = test_by_equal a z (here ∙ equal_by_test hi z e) in
            absurd (cc)
    by false e = h

differs_kept : (x v : Known) (a b : ℤ) → IsOf x a → IsOf v b → int_eq a b ≡ false → IsOneOf (if is_constant v then other_than x v.range.lo else Some x) a
differs_kept x v a b h g n = by (is_constant v) refl
  where
    by : (c : Bool) → is_constant v ≡ c → IsOneOf (if c then other_than x v.range.lo else Some x) a
    by true e =
        let one = equal_by_test v.range.lo v.range.hi e in
        let same : b ≡ v.range.lo = omega (arith, ints, one, g.in_range.from, g.in_range.to) in
        let apart : int_eq a v.range.lo ≡ false = ap (λ w. int_eq a w) (sym same) ∙ n in
        ranged x _ _ a (raised_from x.range.lo a v.range.lo h.in_range.from apart) (lowered_to x.range.hi a v.range.lo h.in_range.to apart) h.in_class
    by false e = h

refined_left : (op : Op) (x v : Known) (a b : ℤ) → IsOf x a → IsOf v b → test_of op a b ≡ true → IsOneOf (refined op x v) a
refined_left Lt x v a b h g e = ranged x x.range.lo (int_min x.range.hi (v.range.hi -ℤ pos 1)) a h.in_range.from (omega (arith, ints, clamps, e, h.in_range.to, g.in_range.to)) h.in_class
refined_left Le x v a b h g e = ranged x x.range.lo (int_min x.range.hi v.range.hi) a h.in_range.from (omega (arith, ints, clamps, e, h.in_range.to, g.in_range.to)) h.in_class
refined_left Gt x v a b h g e = ranged x (int_max x.range.lo (v.range.lo +ℤ pos 1)) x.range.hi a (omega (arith, ints, clamps, e, h.in_range.from, g.in_range.from)) h.in_range.to h.in_class
refined_left Ge x v a b h g e = ranged x (int_max x.range.lo v.range.lo) x.range.hi a (omega (arith, ints, clamps, e, h.in_range.from, g.in_range.from)) h.in_range.to h.in_class
refined_left Eq x v a b h g e =
    let same = equal_by_test a b e in
    let here : Holds v.range a = subst (Holds v.range) (sym same) g.in_range in
    let there : IsMember v.class a = subst (IsMember v.class) (sym same) g.in_class in
    both_kept (met x.range v.range) (met_classes x.class v.class) a (held_both x.range v.range a h.in_range here)
    (λ n. meet_is_both.none x.class v.class n a h.in_class there)
    (λ c n. meet_is_both.all x.class v.class c n a h.in_class there)
refined_left Ne x v a b h g e = differs_kept x v a b h g (not_true (int_eq a b) e)
refined_left Add x v a b h g e = h
refined_left Sub x v a b h g e = h
refined_left Mul x v a b h g e = h
refined_left Div x v a b h g e = h
refined_left Rem x v a b h g e = h
refined_left Shl x v a b h g e = h
refined_left Shr x v a b h g e = h
refined_left And x v a b h g e = h
refined_left Or x v a b h g e = h
refined_left Xor x v a b h g e = h
refined_left Neg x v a b h g e = h
refined_left BitNot x v a b h g e = h
refined_left Not x v a b h g e = h

pub turned : (op : Op) (a b : ℤ) → test_of op a b ≡ true → test_of (flipped op) b a ≡ true
turned Eq a b e = test_by_equal b a (sym (equal_by_test a b e))
turned Ne a b e = by (int_eq b a) refl
  where
    by : (c : Bool) → int_eq b a ≡ c → not c ≡ true
    by true f = let same = test_by_equal a b (sym (equal_by_test b a f)) in let other = not_true (int_eq a b) e in absurd (cc)
    by false f = refl
turned Lt a b e = e
turned Gt a b e = e
turned Le a b e = e
turned Ge a b e = e
turned Add a b e = e
turned Sub a b e = e
turned Mul a b e = e
turned Div a b e = e
turned Rem a b e = e
turned Shl a b e = e
turned Shr a b e = e
turned And a b e = e
turned Or a b e = e
turned Xor a b e = e
turned Neg a b e = e
turned BitNot a b e = e
turned Not a b e = e

-- ---- types

pub part_in : (t : IntType) (r : Range) (lo hi : ℤ) → IsIn t r → r.lo ≤ℤ lo → lo ≤ℤ hi → hi ≤ℤ r.hi → IsIn t (record { lo = lo; hi = hi })
part_in t r lo hi h a b c =
    record {
      from = record { from = omega (arith, ints, h.from.from, a); to = omega (arith, ints, h.to.to, b, c) };
      to = record { from = omega (arith, ints, h.from.from, a, b); to = omega (arith, ints, h.to.to, c) };
    }

pub met_in : (t : IntType) (r q : Range) → IsIn t r → IfSome (met r q) (IsIn t)
met_in t r q h = by (int_le (int_max r.lo q.lo) (int_min r.hi q.hi)) refl
  where
    by : (b : Bool) → int_le (int_max r.lo q.lo) (int_min r.hi q.hi) ≡ b → IfSome (let p : Range = record { lo = int_max r.lo q.lo; hi = int_min r.hi q.hi } in if b then Some p else None) (IsIn t)
    by true e = part_in t r (int_max r.lo q.lo) (int_min r.hi q.hi) h (omega (arith, ints, clamps)) (omega (arith, ints, e)) (omega (arith, ints, clamps))
    by false e = tt

-- ---- conditions

negated_holds : (op : Op) (x y : ℤ) → is_comparison op ≡ true → test_of op x y ≡ false → test_of (negated op) x y ≡ true
negated_holds Lt x y c e = le_test y x (omega (arith, ints, e))
negated_holds Gt x y c e = le_test x y (omega (arith, ints, e))
negated_holds Le x y c e = lt_test y x (omega (arith, ints, e))
negated_holds Ge x y c e = lt_test x y (omega (arith, ints, e))
negated_holds Eq x y c e = ap not e
negated_holds Ne x y c e = not_false (int_eq x y) e
negated_holds Add x y c e = absurd (cc)
negated_holds Sub x y c e = absurd (cc)
negated_holds Mul x y c e = absurd (cc)
negated_holds Div x y c e = absurd (cc)
negated_holds Rem x y c e = absurd (cc)
negated_holds Shl x y c e = absurd (cc)
negated_holds Shr x y c e = absurd (cc)
negated_holds And x y c e = absurd (cc)
negated_holds Or x y c e = absurd (cc)
negated_holds Xor x y c e = absurd (cc)
negated_holds Neg x y c e = absurd (cc)
negated_holds BitNot x y c e = absurd (cc)
negated_holds Not x y c e = absurd (cc)

comparison_holds : (op : Op) (l r : TreeOf ℕ) (b : Bool) (s : Stored) (x y : ℤ) → is_comparison op ≡ true → tree_value storing l s ≡ Ok x → tree_value storing r s ≡ Ok y → test_of op x y ≡ b → HoldsIn s (record { op = if b then op else negated op; left = l; right = r })
comparison_holds op l r true s x y c e f h = record { x = x; y = y; left_is = e; right_is = f; holds = h }
comparison_holds op l r false s x y c e f h = record { x = x; y = y; left_is = e; right_is = f; holds = negated_holds op x y c h }

zero_holds : (e : TreeOf ℕ) (b : Bool) (s : Stored) (z : ℤ) → tree_value storing e s ≡ Ok z → is_true z ≡ b → HoldsIn s (is_zero e b)
zero_holds e true s z h f = record { x = z; y = pos 0; left_is = h; right_is = refl; holds = f }
zero_holds e false s z h f = record { x = z; y = pos 0; left_is = h; right_is = refl; holds = not_false (int_eq z (pos 0)) f }

truth_back : (n : Bool) → is_true (truth n) ≡ n
truth_back true = refl
truth_back false = refl

truth_told : (t : IntType) (n : Bool) (z : ℤ) → fitted Overflow t (truth n) ≡ Ok z → is_true z ≡ n
truth_told t n z e = let same : truth n ≡ z = cc (fitted_inside Overflow t (truth n) (truth_in t n)) in ap is_true (sym same) ∙ truth_back n

not_not : (n b : Bool) → n ≡ b → not n ≡ not b
not_not n b e = ap not e

two_values : (op : Op) (p : Site) (t : IntType) (l r : TreeOf ℕ) (s : Stored) (z : ℤ) → tree_value storing (binary op p t l r) s ≡ Ok z → (x : ℤ) × (y : ℤ) × (tree_value storing l s ≡ Ok x) × (tree_value storing r s ≡ Ok y) × (value_of op t x y ≡ Ok z)
two_values op p t l r s z e =
    let left = then_ok (tree_value storing l s) (λ x. and_then (tree_value storing r s) (λ y. at_site p (value_of op t x y))) z e in
    let right = then_ok (tree_value storing r s) (λ y. at_site p (value_of op t left.0 y)) z left.2 in
    (left.0, right.0, left.1, right.1, site_ok p (value_of op t left.0 right.0) z right.2)

condition_holds : (e : TreeOf ℕ) (b : Bool) (s : Stored) (z : ℤ) → tree_value storing e s ≡ Ok z → is_true z ≡ b → HoldsIn s (condition_of e b)
condition_holds (constant t n) b s z k f = zero_holds (constant t n) b s z k f
condition_holds (variable x) b s z k f = zero_holds (variable x) b s z k f
condition_holds (converted t e) b s z k f = zero_holds (converted t e) b s z k f
condition_holds (unary op p t e) b s z k f = by op k (condition_holds e (not b) s)
  where
    by : (op : Op) → tree_value storing (unary op p t e) s ≡ Ok z → ((y : ℤ) → tree_value storing e s ≡ Ok y → is_true y ≡ not b → HoldsIn s (condition_of e (not b))) → HoldsIn s (condition_of (unary op p t e) b)
    by Not k ih =
        let is = then_ok (tree_value storing e s) (λ v. at_site p (value_of Not t v v)) z k in
        ih is.0 is.1 (not_not (int_eq is.0 (pos 0)) b (sym (truth_told t (int_eq is.0 (pos 0)) z (site_ok p (value_of Not t is.0 is.0) z is.2)) ∙ f))
    by Add k ih = zero_holds (unary Add p t e) b s z k f
    by Sub k ih = zero_holds (unary Sub p t e) b s z k f
    by Mul k ih = zero_holds (unary Mul p t e) b s z k f
    by Div k ih = zero_holds (unary Div p t e) b s z k f
    by Rem k ih = zero_holds (unary Rem p t e) b s z k f
    by Shl k ih = zero_holds (unary Shl p t e) b s z k f
    by Shr k ih = zero_holds (unary Shr p t e) b s z k f
    by And k ih = zero_holds (unary And p t e) b s z k f
    by Or k ih = zero_holds (unary Or p t e) b s z k f
    by Xor k ih = zero_holds (unary Xor p t e) b s z k f
    by Lt k ih = zero_holds (unary Lt p t e) b s z k f
    by Gt k ih = zero_holds (unary Gt p t e) b s z k f
    by Le k ih = zero_holds (unary Le p t e) b s z k f
    by Ge k ih = zero_holds (unary Ge p t e) b s z k f
    by Eq k ih = zero_holds (unary Eq p t e) b s z k f
    by Ne k ih = zero_holds (unary Ne p t e) b s z k f
    by Neg k ih = zero_holds (unary Neg p t e) b s z k f
    by BitNot k ih = zero_holds (unary BitNot p t e) b s z k f
condition_holds (binary op p t l r) b s z k f = by op k
  where
    by : (op : Op) → tree_value storing (binary op p t l r) s ≡ Ok z → HoldsIn s (condition_of (binary op p t l r) b)
    by Lt k = let is = two_values Lt p t l r s z k in comparison_holds Lt l r b s is.0 is.1 refl is.2 is.3 (sym (truth_told t (test_of Lt is.0 is.1) z is.4) ∙ f)
    by Gt k = let is = two_values Gt p t l r s z k in comparison_holds Gt l r b s is.0 is.1 refl is.2 is.3 (sym (truth_told t (test_of Gt is.0 is.1) z is.4) ∙ f)
    by Le k = let is = two_values Le p t l r s z k in comparison_holds Le l r b s is.0 is.1 refl is.2 is.3 (sym (truth_told t (test_of Le is.0 is.1) z is.4) ∙ f)
    by Ge k = let is = two_values Ge p t l r s z k in comparison_holds Ge l r b s is.0 is.1 refl is.2 is.3 (sym (truth_told t (test_of Ge is.0 is.1) z is.4) ∙ f)
    by Eq k = let is = two_values Eq p t l r s z k in comparison_holds Eq l r b s is.0 is.1 refl is.2 is.3 (sym (truth_told t (test_of Eq is.0 is.1) z is.4) ∙ f)
    by Ne k = let is = two_values Ne p t l r s z k in comparison_holds Ne l r b s is.0 is.1 refl is.2 is.3 (sym (truth_told t (test_of Ne is.0 is.1) z is.4) ∙ f)
    by Add k = zero_holds (binary Add p t l r) b s z k f
    by Sub k = zero_holds (binary Sub p t l r) b s z k f
    by Mul k = zero_holds (binary Mul p t l r) b s z k f
    by Div k = zero_holds (binary Div p t l r) b s z k f
    by Rem k = zero_holds (binary Rem p t l r) b s z k f
    by Shl k = zero_holds (binary Shl p t l r) b s z k f
    by Shr k = zero_holds (binary Shr p t l r) b s z k f
    by And k = zero_holds (binary And p t l r) b s z k f
    by Or k = zero_holds (binary Or p t l r) b s z k f
    by Xor k = zero_holds (binary Xor p t l r) b s z k f
    by Neg k = zero_holds (binary Neg p t l r) b s z k f
    by BitNot k = zero_holds (binary BitNot p t l r) b s z k f
    by Not k = zero_holds (binary Not p t l r) b s z k f

pub guards_keep : GuardsKeep
guards_keep = record {
  condition = condition_holds;
  left = refined_left;
  right = λ op x v a b h g e. refined_left (flipped op) v x b a g h (turned op a b e);
}
