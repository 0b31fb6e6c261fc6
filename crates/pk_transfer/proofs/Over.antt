-- Instructions that are typed in a table, over a layout of it.
use Rattle.std.specs.Prelude.{ℕ, ◌<◌, length}
use Rattle.std.proofs.Common.{subst, sym}
use Rattle.pk_ctypes.specs.declared.types.IntType.{IntType}
use Rattle.pk_ctypes.specs.Types.{Represents}
use Rattle.pk_graph.specs.Trees.{TreeOf}
use Rattle.pk_graph.specs.Kinds.{Kinds, type_of, IsTyped, IsOfType}
use Rattle.pk_graph.specs.Kinds as kinds
use Rattle.pk_octagons.specs.Values.{type_at}
use Rattle.pk_state.specs.Layouts.{Layout}
use Rattle.pk_transfer.specs.Trees.{kinds_of, IsOver}
use Rattle.pk_transfer.proofs.Slotting.{own_type}
use Rattle.pk_transfer.proofs.Told.{typed_in}

pub tree_over : (ks : Kinds) (l : Layout) (e : TreeOf ℕ) → IsOver ks l → IsTyped ks e → IsTyped (kinds_of l) e
tree_over ks l e o h = (typed_in ks l e o h).0

pub fits_over : (ks : Kinds) (l : Layout) (x : ℕ) (e : TreeOf ℕ) → IsOver ks l → x < length ks → IsOfType ks (kinds.type_at ks x) e → Represents (type_at l.types x) (type_of (kinds_of l) e)
fits_over ks l x e o h t =
    subst (λ (u : IntType). Represents u (type_of (kinds_of l) e)) (sym (own_type ks l o x h))
    (subst (Represents (kinds.type_at ks x)) (sym (typed_in ks l e o t.typed).1) t.fits)
