-- Join, order, widening and narrowing, part by part.
use Rattle.std.specs.Prelude.{◌≡◌, ◌<◌, ◌≤◌, Bool, true, false, ℤ, List}
use Rattle.std.proofs.Common.{arith, refl, ap, sym, ◌∙◌}
use Rattle.pk_ctypes.specs.declared.types.IntType.{IntType}
use Rattle.pk_interval.specs.Ranges.{Range}
use Rattle.pk_interval.specs.Ranges as ranges
use Rattle.pk_interval.specs.Widening as widening
use Rattle.pk_interval.specs.Widening.{moves}
use Rattle.pk_interval.proofs.Order.{lattice as range_lattice}
use Rattle.pk_interval.proofs.Ends.{widens, moves_are_ranks}
use Rattle.pk_interval.proofs.Keeping.{unchanged as range_unchanged, stays}
use Rattle.pk_congr.specs.Classes.{Class}
use Rattle.pk_congr.specs.Classes as classes
use Rattle.pk_congr.specs.Laws.{divisions}
use Rattle.pk_congr.proofs.Order.{tests, join_is_least}
use Rattle.pk_congr.proofs.Keeping.{unchanged as class_unchanged}
use Rattle.pk_congr.proofs.Widening.{widening_ends, divisions_are_ranks}
use Rattle.pk_congr.proofs.Next.{narrowing}
use Rattle.pk_ctypes.proofs.Small.{and_true, both_true}
use Rattle.pk_value.specs.Known.{Known, is_within, widened}
use Rattle.pk_value.specs.Laws.{IsLattice, IsOfIts, IsRank, rank_of}
use Rattle.pk_value.proofs.Narrowing.{range_narrowing}

-- a pair of parts that are equal
same_known : (r s : Range) (c d : Class) → r ≡ s → c ≡ d → (let k : Known = record { range = r; class = c } in let l : Known = record { range = s; class = d } in k ≡ l)
same_known r s c d e f = ap (λ (u : Range). let k : Known = record { range = u; class = c } in k) e ∙ ap (λ (v : Class). let k : Known = record { range = s; class = v } in k) f

range_part : (a b : Known) → is_within a b ≡ true → ranges.is_within a.range b.range ≡ true
range_part a b e = (both_true (ranges.is_within a.range b.range) (classes.is_within a.class b.class) e).0

class_part : (a b : Known) → is_within a b ≡ true → classes.is_within a.class b.class ≡ true
class_part a b e = (both_true (ranges.is_within a.range b.range) (classes.is_within a.class b.class) e).1

pub lattice : IsLattice
lattice = record {
  join_left = λ a b z h. record { in_range = range_lattice.upper a.range b.range z h.in_range; in_class = join_is_least.left a.class b.class z h.in_class };
  join_right = λ a b z h. record { in_range = range_lattice.upper_too a.range b.range z h.in_range; in_class = join_is_least.right a.class b.class z h.in_class };
  join_same = λ a b h e. same_known _ a.range _ a.class (range_unchanged.joins a.range b.range (range_part b a e)) (class_unchanged.joins a.class b.class h (class_part b a e));
  within = λ a b z e h. record { in_range = range_lattice.included a.range b.range (range_part a b e) z h.in_range; in_class = tests.within a.class b.class (class_part a b e) z h.in_class };
  widen_held = λ t cs h n z i j k. record { in_range = widens.keeps t cs h.range n.range z i j k.in_range; in_class = join_is_least.left h.class n.class z k.in_class };
  widen_next = λ t cs h n z i j k. record { in_range = widens.takes t cs h.range n.range z i j k.in_range; in_class = join_is_least.right h.class n.class z k.in_class };
  widen_same = λ t cs h n r e. same_known _ h.range _ h.class (range_unchanged.widenings t cs h.range n.range (range_part n h e)) (class_unchanged.joins h.class n.class r (class_part n h e));
  widen_above = λ t cs h n i j. and_true _ _ (stays.above_held t cs h.range n.range i j) (widening_ends.above h.class n.class);
  narrow_keeps = λ t h n z k l. record { in_range = range_narrowing t h.range n.range z k.in_range l.in_range; in_class = narrowing h.class n.class z k.in_class l.in_class };
  narrow_same = λ t h. same_known _ h.range _ h.class (range_unchanged.narrowings t h.range) (class_unchanged.narrowings h.class);
}

-- ---- ranks

falls_by : (t : IntType) (cs : List ℤ) (h n : Known) → IsOfIts t h → IsOfIts t n → is_within n h ≡ false → rank_of t cs (widened t cs h n) < rank_of t cs h
falls_by t cs h n f g e = by (ranges.is_within n.range h.range) refl (classes.is_within n.class h.class) refl
  where
    up : moves t cs (widening.widened t cs h.range n.range) ≤ moves t cs h.range
    up = moves_are_ranks.stays t cs h.range n.range g.inside

    divided : divisions (classes.widened h.class n.class) ≤ divisions h.class
    divided = divisions_are_ranks.stays t h.class n.class f.class g.class

    by : (a : Bool) → ranges.is_within n.range h.range ≡ a → (b : Bool) → classes.is_within n.class h.class ≡ b → rank_of t cs (widened t cs h n) < rank_of t cs h
    by false p b q = omega (arith, moves_are_ranks.falls t cs h.range n.range g.inside p, divided)
    by true p false q = omega (arith, up, divisions_are_ranks.falls t h.class n.class f.class g.class q)
    by true p true q = let both = and_true _ _ p q in let no : true ≡ false = sym both ∙ e in absurd (cc)

pub rank : IsRank
rank = record {
  few = λ t cs h. omega (arith, moves_are_ranks.few t cs h.range, divisions_are_ranks.few h.class);
  stays = λ t cs h n f g. omega (arith, moves_are_ranks.stays t cs h.range n.range g.inside, divisions_are_ranks.stays t h.class n.class f.class g.class);
  falls = falls_by;
  step = λ t cs h n f g. record { inside = stays.widenings t cs h.range n.range f.inside g.inside; class = class_unchanged.widened_of t h.class n.class f.class g.class };
}
