-- How a board is stopped.
use Rattle.std.specs.Prelude.{◌≡◌, ℕ, Some, false}
use Rattle.pk_iterate.specs.Behaviour.{Behaviour}
use Rattle.pk_layout.specs.Wirings.{Wiring}
use Rattle.pk_words.specs.declared.view.View.{View}
use Rattle.pk_words.specs.declared.why.Why.{Why}
use Rattle.pk_words.specs.Views.{knows_stop, stop_view, stop_note_view}
use Rattle.pk_words.specs.Board.{why_of, IsCause}

-- the pass stopped the board and said why
pub record IsStop (w : Wiring) (why : Why) (old new : View) : Type 0 where
  pub word : ℕ
  pub why_is : why_of w.limit word ≡ Some why
  pub view : new ≡ stop_view word old

-- the stop word that was found says why
pub record IsStopped {C : Type 0} (b : Behaviour C) (w : Wiring) (why : Why) (old new : View) : Type 0 where
  pub word : ℕ
  pub why_is : why_of w.limit word ≡ Some why
  pub cause : IsCause b w why
  pub view : new ≡ stop_note_view word old

-- the stop word was found to be 0: the pass hasn't stopped the board before, nor found it stopped
pub record IsGoing (old new : View) : Type 0 where
  pub unknown : knows_stop old ≡ false
  pub view : new ≡ stop_note_view 0 old
