-- Transfers keep the stores of a state.
use Rattle.std.specs.Prelude.{◌≡◌, ℕ, Option, Result, Ok, Err, IfOk}
use Rattle.std.proofs.Common.{subst, sym}
use Rattle.pk_graph.specs.Trees.{InstrOf}
use Rattle.pk_state.specs.Layouts.{Layout, IsLayout}
use Rattle.pk_state.specs.Facts.{Facts, Stated, AreFactsIf}
use Rattle.pk_state.specs.Reduced.{reduced}
use Rattle.pk_state.proofs.Sound.{states_sound}
use Rattle.pk_state.proofs.Held.{facts_stay}
use Rattle.pk_transfer.specs.Slots.{spread}
use Rattle.pk_transfer.specs.Transfers.{applied, transferred, IsKept}
use Rattle.pk_transfer.proofs.Transferring.{transfers_keep}

pub transferred_keeps : (y : Layout) (f : Option Facts) (i : InstrOf ℕ) → IsLayout y → AreFactsIf y f → AreFactsIf y (applied y (reduced y f) i) → IsKept y f i (transferred y f i)
transferred_keeps y f i lay a b = λ ks s t ch over st m typed e.
    states_sound.kept y (applied y (reduced y f) i) (spread t) lay b
    (transfers_keep ks y (reduced y f) s t ch i over st lay (facts_stay.reductions y f lay a) (states_sound.kept y f (spread s) lay a m) typed e)

-- what holds of the facts that a call gives
pub facts_have : {E : Type 0} (r : Result Stated E) (y : Layout) (f : Option Facts) (P : Option Facts → Type 0) → IfOk r (λ (s : Stated). s ≡ record { layout = y; facts = f }) → P f → IfOk r (λ (s : Stated). P s.facts)
facts_have (Ok s) y f P e h = subst (λ (v : Stated). P v.facts) (sym e) h
facts_have (Err x) y f P e h = tt
