-- What is known after an instruction, in a layout.
use Rattle.std.specs.Prelude.{ℕ, Option}
use Rattle.pk_graph.specs.Trees.{InstrOf}
use Rattle.pk_state.specs.Layouts.{Layout, IsLayout}
use Rattle.pk_state.specs.Facts.{Facts, AreFactsIf}
use Rattle.pk_transfer.specs.Transfers.{IsInstrOver, applied, transferred}

-- Of a layout's facts an instruction that is typed over it makes facts of the layout.
pub record TransfersStay : Type 0 where
  pub applied : (y : Layout) (f : Option Facts) (i : InstrOf ℕ) → AreFactsIf y f → IsInstrOver y i →
      AreFactsIf y (applied y f i)
  pub transferred : (y : Layout) (f : Option Facts) (i : InstrOf ℕ) → IsLayout y → AreFactsIf y f → IsInstrOver y i →
      AreFactsIf y (transferred y f i)
