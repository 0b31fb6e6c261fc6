-- From the work of a call to that of its arguments, its parameters and its body.
use Rattle.std.proofs.Common.{◌≡◌, ℕ, suc, ◌+◌, List, [], ◌∷◌, ◌++◌, length, false, refl, ap, subst, arith, Some}
use Rattle.std.specs.Prelude.{slice_get}
use Rattle.pk_ctypes.specs.declared.types.IntType.{IntType}
use Rattle.pk_typed.specs.Trees.{ValueTree, ValueTrees}
use Rattle.pk_typed.specs.Trees as tree
use Rattle.pk_typed.specs.Types.{type_of}
use Rattle.pk_graph.specs.Trees.{Set}
use Rattle.pk_draft.specs.Drafts.{Names, emit}
use Rattle.pk_draft.specs.Folding.{conversion}
use Rattle.pk_lower_row.specs.Rows as rows
use Rattle.pk_lower_row.specs.Rows.{types_of}
use Rattle.pk_meaning.specs.Objects.{local, is_in_scope}
use Rattle.pk_meaning.specs.Work.{Place}
use Rattle.pk_welltyped.specs.Listed.{Numbered}
use Rattle.pk_visits.proofs.Slots.{Slot, own, slots, SlotTree, Draft, Among, edge, Grows}
use Rattle.pk_visits.proofs.Grows.Rows.{grows_trans, emit_grows, bound_grows}
use Rattle.pk_visits.proofs.Stands.{Whole, Held, held, IsApart, AreApart, ArePlain, ArePlainUnder, IsScalar, Passes, picked, pushed, Binds, Stage, context_of, IsCalled}
use Rattle.pk_visits.proofs.Stages.{stage_edge}
use Rattle.pk_visits.proofs.Steps.Tells.{Any}

-- ---- trees of arguments on the stack

abbrev pub stacked : List IntType → List SlotTree → List Held → List Held
stacked [] rs hs = hs
stacked (u ∷ us) [] hs = hs
stacked (u ∷ us) (r ∷ rs) hs = stacked us rs (held r u ∷ hs)

pub pushed_is : (es : ValueTrees) (rs : List SlotTree) (hs : List Held) → pushed es rs hs ≡ stacked (types_of es) rs hs
pushed_is tree.no_values rs hs = refl
pushed_is (tree.value_before e es) [] hs = refl
pushed_is (tree.value_before e es) (r ∷ rs) hs = pushed_is es rs (held r (type_of e) ∷ hs)

-- as many trees as types
abbrev pub AsMany : List IntType → List SlotTree → Type 0
AsMany [] [] = Unit {0}
AsMany [] (r ∷ rs) = ⊥
AsMany (u ∷ us) [] = ⊥
AsMany (u ∷ us) (r ∷ rs) = AsMany us rs

picked_top : (top hs : List Held) (a : Held) (F : Held → List Held → Type 0) → F a (top ++ hs) → picked (length top) (top ++ a ∷ hs) F
picked_top [] hs a F f = f
picked_top (b ∷ top) hs a F f = picked_top top hs a (λ c rest. F c (b ∷ rest)) f

picked_stacked : (us : List IntType) (rs : List SlotTree) (top hs : List Held) (a : Held) (F : Held → List Held → Type 0) → AsMany us rs → F a (stacked us rs (top ++ hs))
    → picked (length us + length top) (stacked us rs (top ++ a ∷ hs)) F
picked_stacked [] [] top hs a F m f = subst (λ n. picked n (top ++ a ∷ hs) F) (omega arith) (picked_top top hs a F f)
picked_stacked [] (r ∷ rs) top hs a F m f = absurd m
picked_stacked (u ∷ us) [] top hs a F m f = absurd m
picked_stacked (u ∷ us) (r ∷ rs) top hs a F m f =
    subst (λ n. picked n (stacked us rs (held r u ∷ top ++ a ∷ hs)) F) (omega arith) (picked_stacked us rs (held r u ∷ top) hs a F m f)

under_top : (top hs : List Held) → ArePlain hs → ArePlainUnder (length top) (top ++ hs)
under_top [] hs h = h
under_top (b ∷ top) hs h = under_top top hs h

under_stacked : (us : List IntType) (rs : List SlotTree) (top hs : List Held) → AsMany us rs → ArePlain hs → ArePlainUnder (length us + length top) (stacked us rs (top ++ hs))
under_stacked [] [] top hs m h = subst (λ n. ArePlainUnder n (top ++ hs)) (omega arith) (under_top top hs h)
under_stacked [] (r ∷ rs) top hs m h = absurd m
under_stacked (u ∷ us) [] top hs m h = absurd m
under_stacked (u ∷ us) (r ∷ rs) top hs m h = subst (λ n. ArePlainUnder n (stacked us rs (held r u ∷ top ++ hs))) (omega arith) (under_stacked us rs (held r u ∷ top) hs m h)

-- each tree of the arguments is apart from an object
abbrev pub AllApart : Slot → List SlotTree → Type 0
AllApart x [] = Unit {0}
AllApart x (r ∷ rs) = IsApart x r × AllApart x rs

apart_stacked : (x : Slot) (us : List IntType) (rs : List SlotTree) (hs : List Held) → AllApart x rs → AreApart x hs → AreApart x (stacked us rs hs)
apart_stacked x [] rs hs a h = h
apart_stacked x (u ∷ us) [] hs a h = h
apart_stacked x (u ∷ us) (r ∷ rs) hs a h = apart_stacked x us rs (held r u ∷ hs) a.1 (a.0, h)

-- a conversion reads what its operand reads
-- ---- parameters

-- The parameters' edges of path m from number i on.
pub binds_laid : (g : Whole) (k : ℕ) (h : Place) (m i y : ℕ) (ts us : List IntType) (rs : List SlotTree) (rest : ℕ → List Held → Type 0) (d e f : Draft) (hs : List Held) (zs : List Numbered)
    → length us ≡ length ts → AsMany us rs → ((j : ℕ) (t : IntType) → slice_get ts j ≡ Some t → IsScalar g (local m (i + j)) t) → ((j : ℕ) → is_in_scope (local m j) h.scope ≡ false)
    → ((j : ℕ) → AllApart (own (local m j)) rs) → ((j : ℕ) → AreApart (own (local m j)) hs) → ArePlain hs → e.names ≡ slots
    → Stage g k h zs d f → Grows (IsCalled (context_of g k) zs) d e → Grows Any (rows.bound m i y ts us rs e) f → rest (rows.bound m i y ts us rs e).point hs
    → Binds g k h m i ts rest e.point (stacked us rs hs)
binds_laid g k h m i y [] [] [] rest d e f hs zs n a kinds hidden apart under plain ns s u v l = l
binds_laid g k h m i y [] [] (r ∷ rs) rest d e f hs zs n a kinds hidden apart under plain ns s u v l = absurd a
binds_laid g k h m i y [] (w ∷ us) rs rest d e f hs zs n a kinds hidden apart under plain ns s u v l = absurd (grind (arith, n))
binds_laid g k h m i y (t ∷ ts) [] rs rest d e f hs zs n a kinds hidden apart under plain ns s u v l = absurd (grind (arith, n))
binds_laid g k h m i y (t ∷ ts) (w ∷ us) [] rest d e f hs zs n a kinds hidden apart under plain ns s u v l = absurd a
binds_laid g k h m i y (t ∷ ts) (w ∷ us) (r ∷ rs) rest d e f hs zs n a kinds hidden apart under plain ns s u v l =
    let j = Set (e.names.object m i y) (conversion w t r) in
    let o = emit j e in
    let z = stage_edge g k h Any zs d e f j s u (grows_trans (bound_grows Any m (i + 1) (y + 1) ts us rs o) v) in
    let same : e.names.object m i y ≡ own (local m i) = ap (λ (q : Names Slot). q.object m i y) ns in
    let len : length us ≡ length ts = omega (arith, n) in
    subst (λ c. picked c (stacked us rs (held r w ∷ hs)) (λ b hs. (q : ℕ) × IsScalar g (local m i) t × Passes g k h (length ts) e.point (local m i) (conversion b.int_type t b.tree) q hs × Binds g k h m (i + 1) ts rest q hs)) (omega (arith, len))
    (picked_stacked us rs [] hs (held r w) _ a (
      e.points,
      subst (λ c. IsScalar g (local m c) t) (omega arith) (kinds 0 t refl),
      record {
        there = subst (λ q. Among (edge e.point (Set q (conversion w t r)) e.points) g.edges) same z.0;
        shown = z.1;
        apart = apart_stacked (own (local m i)) us rs hs (apart i).1 (under i);
        hidden = hidden i;
        plain = subst (λ c. ArePlainUnder c (stacked us rs hs)) (omega (arith, len)) (under_stacked us rs [] hs a plain);
      },
      binds_laid g k h m (i + 1) (y + 1) ts us rs rest d o f hs zs len a (λ b q is. subst (λ c. IsScalar g (local m c) q) (omega arith) (kinds (suc b) q is)) hidden (λ b. (apart b).1) under plain ns s
          (grows_trans u (emit_grows (IsCalled (context_of g k) zs) j e)) v l,
    ))
