-- Items in braces from a place on.
use Rattle.std.proofs.Math.Seq.{drop-cons}
use Rattle.std.proofs.lemmas.List.{drop_all}
use Rattle.std.proofs.Common.{◌≡◌, ℕ, zero, suc, ◌+◌, ◌<◌, ◌≤◌, List, [], ◌∷◌, length, drop, get_or, Option, Some, None, refl, ap, sym, ◌∙◌, add-one, arith}
use Rattle.pk_ctypes.specs.declared.places.Pos.{Pos}
use Rattle.pk_ast.specs.declared.declarations.InitializerItem.{InitializerItem}
use Rattle.pk_ast.specs.Places.{first_place_of}
use Rattle.pk_ast.specs.Trees.{ExpressionTree, InitializerItemTree, item_value}
use Rattle.pk_ast.specs.Views.{initializer_item_tree, initializer_item_trees}
use Rattle.pk_type_declaration.specs.Rules.{first_misfit}

pub next_item : (list : List InitializerItem) (i : ℕ) (x : InitializerItem) → i < length list → x ≡ get_or list i x → initializer_item_trees (drop i list) ≡ initializer_item_tree x ∷ initializer_item_trees (drop (i + 1) list)
next_item list i x h is = rw add-one (ap initializer_item_trees (drop-cons list i x h ∙ ap (λ z. z ∷ drop (suc i) list) (sym is)))

pub last_item : (list : List InitializerItem) (i : ℕ) → length list ≤ i → initializer_item_trees (drop i list) ≡ []
last_item list i h = ap initializer_item_trees (drop_all i list h)

-- a value that fits, and one past the length
pub value_fits : (e : ExpressionTree) (is : List InitializerItemTree) (n m : ℕ) → m ≡ n + 1 → first_misfit m (item_value e ∷ is) ≡ first_misfit n is
value_fits e is n m h = rw h (rw add-one refl)

pub value_past : (e : ExpressionTree) (is : List InitializerItemTree) (n : ℕ) → n < 1 → first_misfit n (item_value e ∷ is) ≡ Some (first_place_of e)
value_past e is zero h = refl
value_past e is (suc n) h = absurd (omega (arith, h))

-- the item that is looked at
pub misfit_left : (i : InitializerItemTree) (now rest : List InitializerItemTree) (n m : ℕ) (all : Option Pos) → now ≡ i ∷ rest → ((is : List InitializerItemTree) → first_misfit n (i ∷ is) ≡ first_misfit m is) → first_misfit n now ≡ all → first_misfit m rest ≡ all
misfit_left i now rest n m all p h q = sym (h rest) ∙ (ap (first_misfit n) (sym p) ∙ q)

pub misfit_found : (i : InitializerItemTree) (now rest : List InitializerItemTree) (n : ℕ) (at : Pos) (all : Option Pos) → now ≡ i ∷ rest → ((is : List InitializerItemTree) → first_misfit n (i ∷ is) ≡ Some at) → first_misfit n now ≡ all → Some at ≡ all
misfit_found i now rest n at all p h q = sym (h rest) ∙ (ap (first_misfit n) (sym p) ∙ q)

pub misfit_none : (now : List InitializerItemTree) (n : ℕ) (all : Option Pos) → now ≡ [] → first_misfit n now ≡ all → None ≡ all
misfit_none now n all p q = ap (first_misfit n) (sym p) ∙ q
