-- The items of a block from a place on.
use Rattle.std.proofs.Math.Seq.{drop-cons}
use Rattle.std.proofs.Common.{◌≡◌, ℕ, zero, suc, ◌+◌, ◌<◌, ◌≤◌, drop, get_or, add-one, List, [], ◌∷◌, refl, ap, sym, ◌∙◌, length, arith}
use Rattle.pk_ast.specs.declared.statements.BlockItem.{BlockItem}
use Rattle.pk_ast.specs.Trees.{no_items}
use Rattle.pk_ast.specs.Views.{item_trees}

-- one of them, and those after it
pub next : (list : List BlockItem) (i : ℕ) (x y : BlockItem) → i < length list → x ≡ get_or list i x → x ≡ y → item_trees (drop i list) ≡ item_trees (y ∷ drop (i + 1) list)
next list i x y h is e = rw add-one (ap item_trees (drop-cons list i x h ∙ ap (λ z. z ∷ drop (suc i) list) (sym is ∙ e)))

drop_past : (list : List BlockItem) (i : ℕ) → length list ≤ i → drop i list ≡ []
drop_past [] zero h = refl
drop_past [] (suc i) h = refl
drop_past (e ∷ es) zero h = absurd (omega (arith, h))
drop_past (e ∷ es) (suc i) h = drop_past es i (omega (arith, h))

-- none are left
pub at_end : (list : List BlockItem) (i : ℕ) → length list ≤ i → item_trees (drop i list) ≡ no_items
at_end list i h = ap item_trees (drop_past list i h)
