-- What is known of a tree's value.
use Rattle.std.specs.Prelude.{◌≡◌, ℕ, ℤ, map, Option, Some, None, Ok}
use Rattle.pk_ctypes.specs.declared.types.IntType.{IntType}
use Rattle.pk_graph.specs.Trees.{TreeOf, constant, variable, converted, unary, binary}
use Rattle.pk_graph.specs.Kinds.{Kind, Kinds, IsScalar, IsTyped}
use Rattle.pk_graph.specs.Steps.{tree_value}
use Rattle.pk_graph.specs.Stores.{Stored, storing}
use Rattle.pk_value.specs.Known.{Known, exactly, IsOneOf}
use Rattle.pk_value.specs.Values as values
use Rattle.pk_octagons.specs.Members.{IsChosen}
use Rattle.pk_state.specs.Layouts.{Layout}
use Rattle.pk_state.specs.Facts.{Facts, AreFactsIf}
use Rattle.pk_state.specs.Members.{Member}
use Rattle.pk_state.specs.Changes.{known_in}
use Rattle.pk_transfer.specs.Slots.{slot_types, further_of}

-- goes on with what is known; where nothing is possible, nothing is
abbrev pub known_with : Option Known → (Known → Option Known) → Option Known
known_with None f = None
known_with (Some k) f = f k

-- what is known of a tree's value, where g says what is known of each variable
abbrev pub tree_known : (ℕ → Option Known) → TreeOf ℕ → Option Known
tree_known g (constant t n) = Some (exactly n)
tree_known g (variable x) = g x
tree_known g (converted t e) = known_with (tree_known g e) (values.converted t)
tree_known g (unary op s t e) = known_with (tree_known g e) (λ k. values.operated op t k k)
tree_known g (binary op s t a b) =
    known_with (tree_known g a) (λ j. known_with (tree_known g b) (λ k. values.operated op t j k))

-- a table with a layout's types, as if each slot were a scalar
abbrev pub kind_of : IntType → Kind
kind_of t = record { int_type = t; length = None }

abbrev pub kinds_of : Layout → Kinds
kinds_of l = map kind_of l.types

-- a layout has the slots of a table, and its octagons are over scalars
pub record IsOver (ks : Kinds) (l : Layout) : Type 0 where
  pub types : l.types ≡ slot_types ks
  pub further : l.further ≡ further_of ks
  pub scalars : (x : ℕ) → IsChosen l.packs x → IsScalar ks x

-- What is typed in a table is so in a layout over it, and where a typed tree has a value in a store of a state, it is one of the numbers that are known of it.
pub record TreesAreSound : Type 0 where
  pub typed : (ks : Kinds) (l : Layout) (e : TreeOf ℕ) → IsOver ks l → IsTyped ks e → IsTyped (kinds_of l) e
  pub values : (l : Layout) (f : Option Facts) (s : Stored) (e : TreeOf ℕ) (z : ℤ) → AreFactsIf l f → Member l f s →
      IsTyped (kinds_of l) e → tree_value storing e s ≡ Ok z → IsOneOf (tree_known (known_in f) e) z
