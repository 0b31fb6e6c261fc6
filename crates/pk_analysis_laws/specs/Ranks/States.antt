-- How long a chain of widening steps of states can be.
use Rattle.std.specs.List.{sum_by}
use Rattle.std.specs.Prelude.{◌≡◌, ◌≢◌, ℕ, ◌+◌, ◌<◌, ◌≤◌, false, ℤ, List, [], ◌∷◌, length, Option, Some, None}
use Rattle.pk_congr.specs.Laws.{IsOf}
use Rattle.pk_value.specs.Known.{Known}
use Rattle.pk_value.specs.Laws.{rank_of}
use Rattle.pk_octops.specs.Chains.{numbers_of}
use Rattle.pk_octagons.specs.Values.{type_at, known_at}
use Rattle.pk_state.specs.Layouts.{Layout, IsLayout}
use Rattle.pk_state.specs.Facts.{Facts, AreFacts, AreFactsIf, IsBelow, joined, widened, narrowed}
use Rattle.pk_state.specs.Reduced.{reduced}
use Rattle.pk_thresh.specs.Chains.{chain_bound_of}
use Rattle.pk_packs.specs.Chains.{entries_of}
use Rattle.pk_analysis.specs.Orders.{is_below}

-- facts of the layout, each class one of its variable's type: the modulus is at most 2^64, and a constant is a number of the type
pub record AreBoundedFacts (l : Layout) (f : Facts) : Type 0 where
  pub facts : AreFacts l f
  pub classes : (x : ℕ) → x < length f.values → IsOf (type_at l.types x) (known_at f.values x).class

-- a state of the layout: none, or such facts
abbrev pub IsStateOf : Layout → Option Facts → Type 0
IsStateOf l None = Unit {0}
IsStateOf l (Some f) = AreBoundedFacts l f

-- how often the values of the variables from x on can still move
abbrev pub moves_from : Layout → List ℤ → ℕ → List Known → ℕ
moves_from l thresholds x [] = 0
moves_from l thresholds x (k ∷ ks) = rank_of (type_at l.types x) thresholds k + moves_from l thresholds (x + 1) ks

abbrev pub bound_of : Layout → List ℤ → ℕ
bound_of l thresholds = chain_bound_of (length l.types) (length thresholds) 0 + entries_of l.packs

-- how often a state can still move, with the numbers among the octagons' bounds; where no fact is known, once more than any that has facts
abbrev pub rank_in : Layout → List ℤ → Option Facts → ℕ
rank_in l thresholds None = bound_of l thresholds
rank_in l thresholds (Some f) = moves_from l thresholds 0 f.values + sum_by numbers_of f.octagons

-- It is a rank of widening steps: at most the bound, never more after a step, fewer after one by a state that isn't below.
pub record StatesAreRanked : Type 0 where
  pub few : (l : Layout) (thresholds : List ℤ) (h : Option Facts) → IsStateOf l h →
      rank_in l thresholds h ≤ bound_of l thresholds
  pub stays : (l : Layout) (thresholds : List ℤ) (h n : Option Facts) → IsStateOf l h → IsStateOf l n →
      rank_in l thresholds (widened l thresholds h n) ≤ rank_in l thresholds h
  pub falls : (l : Layout) (thresholds : List ℤ) (h n : Option Facts) → IsStateOf l h → IsStateOf l n →
      is_below n h ≡ false → rank_in l thresholds (widened l thresholds h n) < rank_in l thresholds h

-- each state is one that isn't below what there is, and is widened into it
abbrev pub IsChain : Layout → List ℤ → Option Facts → List (Option Facts) → Type 0
IsChain l thresholds h [] = Unit {0}
IsChain l thresholds h (n ∷ ns) =
    IsStateOf l n × (is_below n h ≡ false) × IsChain l thresholds (widened l thresholds h n) ns

-- A widening step is above what there was, and where the new state isn't below that, it is another; no list of such steps is longer than the bound.
pub record WideningChainsEnd : Type 0 where
  pub above : (l : Layout) (thresholds : List ℤ) (h n : Option Facts) → IsStateOf l h → IsStateOf l n →
      IsBelow h (widened l thresholds h n)
  pub differs : (l : Layout) (thresholds : List ℤ) (h n : Option Facts) → IsStateOf l h → IsStateOf l n →
      is_below n h ≡ false → widened l thresholds h n ≢ h
  pub ends : (l : Layout) (thresholds : List ℤ) (h : Option Facts) (ns : List (Option Facts)) → IsStateOf l h →
      IsChain l thresholds h ns → length ns ≤ bound_of l thresholds

-- What is made of such states is one; and the reduction of any facts of the layout is.
pub record StatesStay : Type 0 where
  pub joins : (l : Layout) (a b : Option Facts) → IsStateOf l a → IsStateOf l b → IsStateOf l (joined a b)
  pub widenings : (l : Layout) (thresholds : List ℤ) (h n : Option Facts) → IsStateOf l h → IsStateOf l n →
      IsStateOf l (widened l thresholds h n)
  pub narrowings : (l : Layout) (h n : Option Facts) → IsStateOf l h → IsStateOf l n → IsStateOf l (narrowed l h n)
  pub reductions : (l : Layout) (f : Option Facts) → IsLayout l → AreFactsIf l f → IsStateOf l (reduced l f)
