-- The stores of a state (the concretisation), and what the operations mean for them.
use Rattle.std.specs.Prelude.{◌≡◌, ◌⊎◌, ℕ, ◌<◌, ℤ, List, length, Option, Some, None}
use Rattle.pk_graph.specs.Steps.{number_at}
use Rattle.pk_graph.specs.Stores.{Stored, numbers_of, number_of}
use Rattle.pk_value.specs.Known.{Known, IsOf}
use Rattle.pk_octagons.specs.Values.{known_at}
use Rattle.pk_octagons.specs.Members.{IsChosen, MeetAll}
use Rattle.pk_state.specs.Layouts.{Layout, IsLayout}
use Rattle.pk_state.specs.Facts.{Facts, AreFactsIf, joined, widened, narrowed, IsBelow}
use Rattle.pk_state.specs.Reduced.{reduced}

-- each number of each variable is one that is known of it
pub record AreOf (vs : List Known) (s : Stored) : Type 0 where
  pub each : (x i : ℕ) → x < length vs → i < length (numbers_of s x) →
      IsOf (known_at vs x) (number_at (numbers_of s x) i)
  pub some : (x : ℕ) → x < length vs → 0 < length (numbers_of s x)

-- that, the octagons' variables are scalars, and their numbers meet all octagons
pub record IsStoreOf (l : Layout) (f : Facts) (s : Stored) : Type 0 where
  pub values : AreOf f.values s
  pub scalars : (x : ℕ) → IsChosen l.packs x → length (numbers_of s x) ≡ 1
  pub octagons : MeetAll l.packs f.octagons (number_of s)

abbrev pub Member : Layout → Option Facts → Stored → Type 0
Member l None s = ⊥
Member l (Some f) s = IsStoreOf l f s

-- Joins and widening steps are above both; what is below has no other stores; narrowing keeps what both have; a reduction keeps exactly the stores.
pub record StatesAreSound : Type 0 where
  pub joins : (l : Layout) (a b : Option Facts) (s : Stored) → AreFactsIf l a → AreFactsIf l b →
      Member l a s ⊎ Member l b s → Member l (joined a b) s
  pub within : (l : Layout) (a b : Option Facts) (s : Stored) → AreFactsIf l a → AreFactsIf l b → IsBelow a b →
      Member l a s → Member l b s
  pub widenings : (l : Layout) (thresholds : List ℤ) (h n : Option Facts) (s : Stored) → AreFactsIf l h →
      AreFactsIf l n → Member l h s ⊎ Member l n s → Member l (widened l thresholds h n) s
  pub narrowings : (l : Layout) (h n : Option Facts) (s : Stored) → AreFactsIf l h → AreFactsIf l n → Member l h s →
      Member l n s → Member l (narrowed l h n) s
  pub kept : (l : Layout) (f : Option Facts) (s : Stored) → IsLayout l → AreFactsIf l f → Member l f s →
      Member l (reduced l f) s
  pub only : (l : Layout) (f : Option Facts) (s : Stored) → IsLayout l → AreFactsIf l f → Member l (reduced l f) s →
      Member l f s

-- What is made of a layout's facts are facts of the layout.
pub record FactsStay : Type 0 where
  pub joins : (l : Layout) (a b : Option Facts) → AreFactsIf l a → AreFactsIf l b → AreFactsIf l (joined a b)
  pub widenings : (l : Layout) (thresholds : List ℤ) (h n : Option Facts) → AreFactsIf l h → AreFactsIf l n →
      AreFactsIf l (widened l thresholds h n)
  pub narrowings : (l : Layout) (h n : Option Facts) → AreFactsIf l h → AreFactsIf l n → AreFactsIf l (narrowed l h n)
  pub reductions : (l : Layout) (f : Option Facts) → IsLayout l → AreFactsIf l f → AreFactsIf l (reduced l f)
