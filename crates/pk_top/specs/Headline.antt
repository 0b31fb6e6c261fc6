-- What a call of the command has done, by the status that it gave.
use Rattle.std.specs.Prelude.{◌≡◌, ◌⊎◌, ℕ, ◌<◌, List, [], length, take}
use Rattle.std.specs.declared.option.Option.{Option}
use Rattle.std.specs.Io.KnownBytes.{Appends, Keeps}
use Rattle.pk_status.specs.declared.status.Status.{Status}
use Rattle.pk_status.specs.declared.status.Status.TheVariants.{Ok, ReadFault, WriteFault, Memory}
use Rattle.pk_command.specs.declared.asked.Command.{Command}
use Rattle.pk_text_report.specs.Answers.{IsAnswer, IsLong, limit_of}

abbrev pub IsSuccess : Status → Type 0
IsSuccess (Ok unknown) = Unit {0}
IsSuccess status = ⊥

-- the status is the answer's, and exactly its bytes were written
pub record Gives (words : List (List ℕ)) (text : List ℕ) (status : Status)
    (before after : Option (List ℕ)) : Type 0 where
  pub bytes : List ℕ
  pub answer : IsAnswer words text status bytes
  pub written : Appends before after bytes

-- a report was to be told, and its first `sent` bytes were written, fewer than all
pub record IsCutShort (words : List (List ℕ)) (text : List ℕ) (sent : ℕ) (before after : Option (List ℕ)) : Type 0 where
  pub unknown : ℕ
  pub bytes : List ℕ
  pub answer : IsAnswer words text (Ok unknown) bytes
  pub fewer : sent < length bytes
  pub written : Appends before after (take sent bytes)

-- the status and what was written are the answer's, unless a read, a write or the memory failed
abbrev pub Answers : List (List ℕ) → List ℕ → Status → Option (List ℕ) → Option (List ℕ) → Type 0
Answers words text ReadFault before after = Keeps before after
Answers words text Memory before after = Keeps before after
Answers words text (WriteFault sent) before after = IsCutShort words text sent before after
Answers words text status before after = Gives words text status before after

-- at every status but a success and a fault of writing the sink is as it was
abbrev pub KeepsUnlessTold : Status → Option (List ℕ) → Option (List ℕ) → Type 0
KeepsUnlessTold (Ok unknown) before after = Unit {0}
KeepsUnlessTold (WriteFault sent) before after = Unit {0}
KeepsUnlessTold status before after = Keeps before after

-- ---- without a report

-- the answer is this status with nothing told, unless a read or the memory failed
abbrev pub IsUntold : List (List ℕ) → List ℕ → Status → Type 0
IsUntold words text (Ok unknown) = ⊥
IsUntold words text (WriteFault sent) = ⊥
IsUntold words text ReadFault = Unit {0}
IsUntold words text Memory = Unit {0}
IsUntold words text status = IsAnswer words text status []

-- a status that ends a call before anything is written
abbrev pub IsStop : Status → Type 0
IsStop (Ok unknown) = ⊥
IsStop (WriteFault sent) = ⊥
IsStop status = Unit {0}

-- what a source tells wasn't read: it is more than so many bytes, and the status is the one for that, or a read or the memory failed
abbrev pub IsUnread : (most : ℕ) → Status → List ℕ → Status → Type 0
IsUnread most over text s = ((most < length text) × (s ≡ over)) ⊎ ((s ≡ ReadFault) ⊎ (s ≡ Memory))

-- there is no text for a command
abbrev pub IsTextless : List ℕ → Command → Status → Type 0
IsTextless text command s = (IsLong text command × (s ≡ limit_of command)) ⊎ ((s ≡ ReadFault) ⊎ (s ≡ Memory))
