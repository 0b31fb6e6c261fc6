-- What is known where a guard passes.
use Rattle.std.specs.Prelude.{◌≡◌, ℕ, Bool, ℤ, pos, ◌-ℤ◌, List, [], ◌∷◌, ◌++◌, Option, Some, None, Ok}
use Rattle.pk_ctypes.specs.declared.types.Op.{Op}
use Rattle.pk_ctypes.specs.declared.types.Op.TheVariants.{Lt, Gt, Le, Ge, Eq}
use Rattle.pk_graph.specs.Trees.{TreeOf, variable}
use Rattle.pk_graph.specs.Kinds.{Kinds, IsTyped}
use Rattle.pk_graph.specs.Steps.{tree_value, is_true}
use Rattle.pk_graph.specs.Stores.{Stored, storing, IsStore}
use Rattle.pk_value.specs.Known.{Known}
use Rattle.pk_state.specs.Layouts.{Layout}
use Rattle.pk_state.specs.Facts.{Facts, AreFactsIf}
use Rattle.pk_state.specs.Members.{Member}
use Rattle.pk_state.specs.Changes.{known_in, guarded_in}
use Rattle.pk_transfer.specs.Slots.{spread}
use Rattle.pk_transfer.specs.Trees.{known_with, tree_known, IsOver}
use Rattle.pk_transfer.specs.Linear.{Linear, difference, variables_of, linear}
use Rattle.pk_transfer.specs.Assignments.{with_known_if}
use Rattle.pk_transfer.specs.Guards.{Condition, condition_of, flipped, refined}

-- ---- the octagons

-- the sum of at most two places is at most c, in each octagon that is over each variable that is read
abbrev pub places_in : Layout → Option Facts → List ℕ → ℤ → List ℕ → Option Facts
places_in y f [] c over = guarded_in y f None None c over
places_in y f (a ∷ []) c over = guarded_in y f (Some a) None c over
places_in y f (a ∷ (b ∷ [])) c over = guarded_in y f (Some a) (Some b) c over
places_in y f (a ∷ (b ∷ (d ∷ ps))) c over = f

-- l and n are at most r
abbrev pub le_in : Layout → Option Facts → Option Linear → Option Linear → ℤ → List ℕ → Option Facts
le_in y f None r n over = f
le_in y f (Some l) None n over = f
le_in y f (Some l) (Some r) n over =
    places_in y f (difference l r).places ((r.constant -ℤ n) -ℤ l.constant) over

-- a comparison of two forms holds
abbrev pub compared_in : Op → Layout → Option Facts → Option Linear → Option Linear → List ℕ → Option Facts
compared_in Lt y f l r over = le_in y f l r (pos 1) over
compared_in Gt y f l r over = le_in y f r l (pos 1) over
compared_in Le y f l r over = le_in y f l r (pos 0) over
compared_in Ge y f l r over = le_in y f r l (pos 0) over
compared_in Eq y f l r over = le_in y (le_in y f l r (pos 0) over) r l (pos 0) over
compared_in op y f l r over = f

-- ---- the operands

-- an operand that is a variable is refined by what was known of the other
abbrev pub with_operand : Option Facts → TreeOf ℕ → Op → Known → Option Facts
with_operand f (variable x) op v = with_known_if f x (known_with (known_in f x) (λ k. refined op k v))
with_operand f e op v = f

abbrev pub if_some : Option Known → Option Facts → Option Facts
if_some None f = None
if_some (Some k) f = f

-- No store is left where an operand is empty, or refining one leaves nothing of it: then the comparison is surely false. Each operand is refined by what was known of
-- the other before, so that one variable on both sides is refined twice.
abbrev pub refined_in : Option Facts → Condition → Option Known → Option Known → Option Facts
refined_in f c None v = None
refined_in f c (Some k) None = None
refined_in f c (Some k) (Some v) =
    if_some (refined c.op k v) (with_operand (with_operand f c.left c.op v) c.right (flipped c.op) k)

abbrev pub holds_in : Layout → Option Facts → Condition → Option Facts
holds_in y f c =
    let g = known_in f in
    let over = variables_of c.left ++ variables_of c.right in
    refined_in (compared_in c.op y f (linear y.packs g c.left) (linear y.packs g c.right) over) c (tree_known g c.left)
    (tree_known g c.right)

-- A guard on a tree passes.
abbrev pub guard_in : Layout → Option Facts → TreeOf ℕ → Bool → Option Facts
guard_in y f e b = holds_in y f (condition_of e b)

-- A store of a state in which a typed tree has the wanted truth is one of the state after the guard.
abbrev pub GuardsPass : Type 0
GuardsPass =
    (ks : Kinds) (y : Layout) (f : Option Facts) (s : Stored) (e : TreeOf ℕ) (b : Bool) (z : ℤ) → IsOver ks y →
    IsStore ks s → AreFactsIf y f → Member y f (spread s) → IsTyped ks e → tree_value storing e s ≡ Ok z →
    is_true z ≡ b → Member y (guard_in y f e b) (spread s)
