-- What the operations on classes mean for the numbers in them.
use Rattle.std.specs.Prelude.{◌≡◌, ◌↔◌, ℕ, zero, suc, ◌+◌, ◌≤◌, ◌<◌, ◌^◌, nat_le, if◌then◌else◌, true, false, ℤ, pos, ◌+ℤ◌, ◌-ℤ◌, ◌≤ℤ◌, unsigned_abs, List, [], ◌∷◌, length, Option, Some, None, Ok}
use Rattle.std.specs.Int.{IsGcd}
use Rattle.std.specs.Ordering.{int_eq}
use Rattle.pk_ctypes.specs.declared.types.IntType.{IntType}
use Rattle.pk_ctypes.specs.declared.types.Op.{Op}
use Rattle.pk_ctypes.specs.declared.types.Op.TheVariants.{BitNot}
use Rattle.pk_ctypes.specs.Types.{InType, wrapped}
use Rattle.pk_ctypes.specs.Operators.{exact}
use Rattle.pk_congr.specs.Classes.{Class, IsMember, IsReduced, gcd, int_lcm, has_member, is_within, joined, are_apart, met, widened, narrowed, next_up_of, next_down_of}
use Rattle.pk_congr.specs.Operators.{result_of, wrapped_class}

-- each number of the first is one of the second
abbrev pub Within : Class → Class → Type 0
Within a b = (x : ℤ) → IsMember a x → IsMember b x

-- Euclid's algorithm gives the greatest common divisor (Elements VII.2).
abbrev pub EuclidIsRight : Type 0
EuclidIsRight = (a b : ℕ) → IsGcd a b (gcd a b)

-- the tests say what they are named for
pub record TestsAreRight : Type 0 where
  pub member : (c : Class) (x : ℤ) → (has_member c x ≡ true) ↔ IsMember c x
  pub within : (a b : Class) → is_within a b ≡ true → Within a b
  pub not_within : (a b : Class) → is_within a b ≡ false → (x : ℤ) × IsMember a x × (IsMember b x → ⊥)
  pub apart : (a b : Class) → are_apart a b ≡ true → (x : ℤ) → IsMember a x → IsMember b x → ⊥
  pub not_apart : (a b : Class) → are_apart a b ≡ false → (x : ℤ) × IsMember a x × IsMember b x

-- two constants are less than 2 ^ 127 apart, or one class is no constant
abbrev pub AreNear : Class → Class → Type 0
AreNear a b = a.m ≡ pos 0 → b.m ≡ pos 0 → unsigned_abs (a.r -ℤ b.r) < 2 ^ 127

-- the join is above both, and the least that is
pub record JoinIsLeast : Type 0 where
  pub left : (a b : Class) → Within a (joined a b)
  pub right : (a b : Class) → Within b (joined a b)
  pub least : (a b c : Class) → IsReduced a.m a.r → IsReduced b.m b.r → AreNear a b → Within a c → Within b c →
      Within (joined a b) c

-- the meet has the numbers of both, and no others; it may have more of the first where the least common multiple is too large
pub record MeetIsBoth : Type 0 where
  pub none : (a b : Class) → met a b ≡ None → (x : ℤ) → IsMember a x → IsMember b x → ⊥
  pub all : (a b c : Class) → met a b ≡ Some c → (x : ℤ) → IsMember a x → IsMember b x → IsMember c x
  pub only : (a b c : Class) → met a b ≡ Some c → unsigned_abs (int_lcm a.m b.m) < 2 ^ 127 → (x : ℤ) → IsMember c x →
      IsMember a x × IsMember b x
  pub first : (a b c : Class) → met a b ≡ Some c → 2 ^ 127 ≤ unsigned_abs (int_lcm a.m b.m) → c ≡ a

-- narrowing keeps the numbers of both
abbrev pub NarrowingKeeps : Type 0
NarrowingKeeps = (h n : Class) (x : ℤ) → IsMember h x → IsMember n x → IsMember (narrowed h n) x

-- each exact result of an operator at members is a member of the result; the operand of `~` is a number of the type
abbrev pub OperatorsAreSound : Type 0
OperatorsAreSound =
    (op : Op) (t : IntType) (a b : Class) (x y z : ℤ) → (op ≡ BitNot → InType t x) → IsMember a x → IsMember b y →
    exact op t x y ≡ Ok z → IsMember (result_of op t a b) z

-- the number that was added took z into the type; where there is none, nothing is known
abbrev pub TookIn : IntType → ℤ → Option ℤ → Type 0
TookIn t z (Some added) = z +ℤ added ≡ wrapped t z
TookIn t z None = Unit {0}

-- the conversion of a member is a member after the wrap
abbrev pub WrappingIsSound : Type 0
WrappingIsSound =
    (t : IntType) (a : Class) (added : Option ℤ) (z : ℤ) → IsMember a z → TookIn t z added →
    IsMember (wrapped_class t a added) (wrapped t z)

-- the modulus is at most 2 ^ 64, and a constant is a number of the type
pub record IsOf (t : IntType) (c : Class) : Type 0 where
  pub reduced : IsReduced c.m c.r
  pub modulus : c.m ≤ℤ pos (2 ^ 64)
  pub constant : c.m ≡ pos 0 → InType t c.r

-- each class is one that is not yet within, and is widened into what there is
abbrev pub IsChain : IntType → Class → List Class → Type 0
IsChain t h [] = Unit {0}
IsChain t h (n ∷ ns) = IsOf t n × (is_within n h ≡ false) × IsChain t (widened h n) ns

-- a step that is not below rises, and no list of such steps is longer than this
pub record WideningEnds : Type 0 where
  pub above : (h n : Class) → is_within h (widened h n) ≡ true
  pub rises : (h n : Class) → is_within n h ≡ false → is_within (widened h n) h ≡ false
  pub ends : (t : IntType) (h : Class) (ns : List Class) → IsOf t h → IsChain t h ns → length ns ≤ 65

-- how many of 2, 4, 8, .. up to the k-th power are at most m
unfoldable pub powers_within : ℕ → ℕ → ℕ
powers_within zero m = 0
powers_within (suc k) m = (if nat_le (2 ^ suc k) m then 1 else 0) + powers_within k m

-- how often a class's modulus can still be divided; a constant's once more than any
abbrev pub divisions : Class → ℕ
divisions c = if int_eq c.m (pos 0) then 65 else powers_within 64 (unsigned_abs c.m)

-- The divisions are a rank for widening: few, never more after a step, and fewer after one that isn't within.
pub record DivisionsAreRanks : Type 0 where
  pub few : (h : Class) → divisions h ≤ 65
  pub stays : (t : IntType) (h n : Class) → IsOf t h → IsOf t n → divisions (widened h n) ≤ divisions h
  pub falls : (t : IntType) (h n : Class) → IsOf t h → IsOf t n → is_within n h ≡ false →
      divisions (widened h n) < divisions h

-- the least member at or above x
pub record IsNextUp (c : Class) (x y : ℤ) : Type 0 where
  pub member : IsMember c y
  pub above : x ≤ℤ y
  pub least : (z : ℤ) → IsMember c z → x ≤ℤ z → y ≤ℤ z

-- the greatest member at or below x
pub record IsNextDown (c : Class) (x y : ℤ) : Type 0 where
  pub member : IsMember c y
  pub below : y ≤ℤ x
  pub greatest : (z : ℤ) → IsMember c z → z ≤ℤ x → z ≤ℤ y

pub record NextMembersAreRight : Type 0 where
  pub up : (c : Class) (x y : ℤ) → pos 0 ≤ℤ c.m → next_up_of c x ≡ Some y → IsNextUp c x y
  pub no_up : (c : Class) (x : ℤ) → next_up_of c x ≡ None → (z : ℤ) → IsMember c z → x ≤ℤ z → ⊥
  pub down : (c : Class) (x y : ℤ) → pos 0 ≤ℤ c.m → next_down_of c x ≡ Some y → IsNextDown c x y
  pub no_down : (c : Class) (x : ℤ) → next_down_of c x ≡ None → (z : ℤ) → IsMember c z → z ≤ℤ x → ⊥

-- What changes nothing: a join or a widening with what is within, and a narrowing by the class itself; and what a widening step is of.
pub record NothingChanges : Type 0 where
  pub joins : (a b : Class) → IsReduced a.m a.r → is_within b a ≡ true → joined a b ≡ a
  pub narrowings : (h : Class) → narrowed h h ≡ h
  pub widened_of : (t : IntType) (h n : Class) → IsOf t h → IsOf t n → IsOf t (widened h n)
  pub within_itself : (a : Class) → is_within a a ≡ true
