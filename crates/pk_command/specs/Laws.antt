-- What holds of the command line, whatever the words.
use Rattle.std.specs.Prelude.{◌≡◌, false, IsTrue, List, [], ◌∷◌, codes}
use Rattle.clap.specs.Words.{Text}
use Rattle.pk_command.specs.declared.asked.Command.{Command}
use Rattle.pk_command.specs.declared.asked.Command.TheVariants.{Run, Order, Gen, Cert, Check}
use Rattle.pk_command.specs.CommandLine.{is_taken}
use Rattle.pk_command.specs.Given.{AsksFor}

-- the word `run` alone asks for a run with every default
abbrev pub RunIsTaken : Type 0
RunIsTaken = AsksFor (codes "run" ∷ []) (Run (record {
  workers = 4;
  delay = 0;
  narrow = 2;
  oct = 16;
  max_runs = 1000000;
  entry = codes "main";
  points = false;
  lean = false;
  packs = false;
}))

-- the word `order` alone asks for the order from `main`, without its peak
abbrev pub OrderIsTaken : Type 0
OrderIsTaken = AsksFor (codes "order" ∷ []) (Order (record { entry = codes "main"; peak = false }))

-- the word `gen` with a seed and a size asks for their program
abbrev pub GenIsTaken : Type 0
GenIsTaken =
    AsksFor (codes "gen" ∷ codes "--seed" ∷ codes "2" ∷ codes "--size" ∷ codes "1" ∷ [])
    (Gen (record { seed = 2; size = 1; workers = 4 }))

-- the word `gen` isn't taken without a size, nor without a seed
abbrev pub GenNeedsOptions : Type 0
GenNeedsOptions = (is_taken (codes "gen" ∷ codes "--seed" ∷ codes "2" ∷ []) ≡ false)
    × (is_taken (codes "gen" ∷ codes "--size" ∷ codes "1" ∷ []) ≡ false)

-- the word `cert` alone asks for a certificate with every default
abbrev pub CertIsTaken : Type 0
CertIsTaken = AsksFor (codes "cert" ∷ []) (Cert (record {
  workers = 4;
  delay = 0;
  narrow = 2;
  oct = 16;
  max_runs = 1000000;
  entry = codes "main";
}))

-- the word `cert` isn't taken with the options of `run` that it lacks
abbrev pub CertTakesNoFlag : Type 0
CertTakesNoFlag = (is_taken (codes "cert" ∷ codes "--points" ∷ []) ≡ false)
    × (is_taken (codes "cert" ∷ codes "--lean" ∷ []) ≡ false)
    × (is_taken (codes "cert" ∷ codes "--packs" ∷ []) ≡ false)

-- the word `check` alone asks for a check
abbrev pub CheckIsTaken : Type 0
CheckIsTaken = AsksFor (codes "check" ∷ []) Check

-- the word `check` isn't taken with an option of `run` and `cert`
abbrev pub CheckTakesNoOct : Type 0
CheckTakesNoOct = is_taken (codes "check" ∷ codes "--oct" ∷ codes "1" ∷ []) ≡ false

-- words that are taken ask for a command
abbrev pub TakenAsks : Type 0
TakenAsks = (words : List Text) → IsTrue (is_taken words) → (command : Command) × AsksFor words command

-- words ask for at most one command
abbrev pub OneCommand : Type 0
OneCommand = (words : List Text) (a b : Command) → AsksFor words a → AsksFor words b → a ≡ b
