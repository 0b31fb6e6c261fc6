-- Laws of what is known.
use Rattle.std.specs.Prelude.{◌≡◌, ◌+◌, ◌*◌, ℕ, ◌<◌, ◌≤◌, true, false, ℤ, pos, ◌≤ℤ◌, List, length, Some, Ok}
use Rattle.pk_ctypes.specs.declared.types.IntType.{IntType}
use Rattle.pk_ctypes.specs.declared.types.Op.{Op}
use Rattle.pk_ctypes.specs.Types.{wrapped}
use Rattle.pk_ctypes.specs.Operators.{value_of}
use Rattle.pk_interval.specs.Ranges.{IsIn}
use Rattle.pk_interval.specs.Operators.{HasRightIn}
use Rattle.pk_interval.specs.Widening.{moves}
use Rattle.pk_congr.specs.Classes.{IsMember, IsReduced, constant}
use Rattle.pk_congr.specs.Laws.{IsOf as IsOfType, divisions}
use Rattle.pk_value.specs.Known.{Known, IsOf, IsOneOf, red_known, joined, is_within, widened, narrowed}
use Rattle.pk_value.specs.Values.{operated, converted}

-- The result of numbers that are known is one of the numbers known of it.
pub record ValuesAreSound : Type 0 where
  pub operator : (op : Op) (t : IntType) (a b : Known) (x y z : ℤ) → IsIn t a.range → HasRightIn op t b.range →
      pos 0 ≤ℤ a.class.m → IsOf a x → IsOf b y → value_of op t x y ≡ Ok z → IsOneOf (operated op t a b) z
  pub conversion : (t : IntType) (k : Known) (z : ℤ) → pos 0 ≤ℤ k.class.m → IsOf k z →
      IsOneOf (converted t k) (wrapped t z)

-- Joins and widening steps are above both; what is within has no other numbers; and what changes nothing.
pub record IsLattice : Type 0 where
  pub join_left : (a b : Known) (z : ℤ) → IsOf a z → IsOf (joined a b) z
  pub join_right : (a b : Known) (z : ℤ) → IsOf b z → IsOf (joined a b) z
  pub join_same : (a b : Known) → IsReduced a.class.m a.class.r → is_within b a ≡ true → joined a b ≡ a
  pub within : (a b : Known) (z : ℤ) → is_within a b ≡ true → IsOf a z → IsOf b z
  pub widen_held : (t : IntType) (thresholds : List ℤ) (h n : Known) (z : ℤ) → IsIn t h.range → IsIn t n.range →
      IsOf h z → IsOf (widened t thresholds h n) z
  pub widen_next : (t : IntType) (thresholds : List ℤ) (h n : Known) (z : ℤ) → IsIn t h.range → IsIn t n.range →
      IsOf n z → IsOf (widened t thresholds h n) z
  pub widen_same : (t : IntType) (thresholds : List ℤ) (h n : Known) → IsReduced h.class.m h.class.r →
      is_within n h ≡ true → widened t thresholds h n ≡ h
  pub widen_above : (t : IntType) (thresholds : List ℤ) (h n : Known) → IsIn t h.range → IsIn t n.range →
      is_within h (widened t thresholds h n) ≡ true
  pub narrow_keeps : (t : IntType) (h n : Known) (z : ℤ) → IsOf h z → IsOf n z → IsOf (narrowed t h n) z
  pub narrow_same : (t : IntType) (h : Known) → narrowed t h h ≡ h

-- how often a value can still move
abbrev pub rank_of : IntType → List ℤ → Known → ℕ
rank_of t thresholds k = moves t thresholds k.range + divisions k.class

-- a value of a type: its range lies in it, and its class is of it
pub record IsOfIts (t : IntType) (k : Known) : Type 0 where
  pub inside : IsIn t k.range
  pub class : IsOfType t k.class

-- It is a rank of widening steps: few, never more after a step, fewer after one that isn't within; and a step is a value of the type.
pub record IsRank : Type 0 where
  pub few : (t : IntType) (thresholds : List ℤ) (h : Known) → rank_of t thresholds h ≤ 2 * (length thresholds + 1) + 65
  pub stays : (t : IntType) (thresholds : List ℤ) (h n : Known) → IsOfIts t h → IsOfIts t n →
      rank_of t thresholds (widened t thresholds h n) ≤ rank_of t thresholds h
  pub falls : (t : IntType) (thresholds : List ℤ) (h n : Known) → IsOfIts t h → IsOfIts t n → is_within n h ≡ false →
      rank_of t thresholds (widened t thresholds h n) < rank_of t thresholds h
  pub step : (t : IntType) (thresholds : List ℤ) (h n : Known) → IsOfIts t h → IsOfIts t n →
      IsOfIts t (widened t thresholds h n)

-- both bounds are numbers of the class, and one number alone is a constant
pub record IsTight (k : Known) : Type 0 where
  pub some : k.range.lo ≤ℤ k.range.hi
  pub least : IsMember k.class k.range.lo
  pub greatest : IsMember k.class k.range.hi
  pub one : k.range.lo ≡ k.range.hi → k.class ≡ constant k.range.lo

-- What is tight is its own reduction, what is reduced is tight, and so are joins of tight values.
pub record TightIsReduced : Type 0 where
  pub again : (k : Known) → pos 0 ≤ℤ k.class.m → IsTight k → red_known k ≡ Some k
  pub tight : (k r : Known) → pos 0 ≤ℤ k.class.m → red_known k ≡ Some r → IsTight r
  pub joins : (a b : Known) → IsReduced a.class.m a.class.r → IsTight a → IsTight b → IsTight (joined a b)
