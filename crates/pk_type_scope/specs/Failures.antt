-- Failures of rules, and which of them is answered.
use Rattle.std.specs.Prelude.{◌≡◌, ◌≤◌, ℕ, Bool, true, false, List, [], ◌∷◌, Option, Some, None, MatchOption, if◌then◌else◌, nat_lt, nat_eq}
use Rattle.pk_ctypes.specs.declared.places.Pos.{Pos}
use Rattle.pk_ctypes.specs.declared.words.Rule.{Rule}
use Rattle.pk_ctypes.specs.declared.words.Rule.TheVariants.{Specifiers, Redeclared, Extern, Undeclared, Void, Array, Constant, Initialiser, Place, Const, Arguments, Special, Return, Label, Jump, Unsequenced}
use Rattle.pk_ctypes.specs.Places.{Before}
use Rattle.pk_type_scope.specs.declared.failures.Failure.{Failure}

abbrev pub fails_if : Bool → Rule → Pos → List Failure
fails_if true r at = record { rule = r; at = at } ∷ []
fails_if false r at = []

-- the rows of the table of rules, from above
abbrev pub row_of : Rule → ℕ
row_of Specifiers = 0
row_of Redeclared = 1
row_of Extern = 2
row_of Undeclared = 3
row_of Void = 4
row_of Array = 5
row_of Constant = 6
row_of Initialiser = 7
row_of Place = 8
row_of Const = 9
row_of Arguments = 10
row_of Special = 11
row_of Return = 12
row_of Label = 13
row_of Jump = 14
row_of Unsequenced = 15

-- by line, then by column, then by row
abbrev pub is_before : Failure → Failure → Bool
is_before f g =
    if nat_eq f.at.line g.at.line
    then (if nat_eq f.at.column g.at.column then nat_lt (row_of f.rule) (row_of g.rule)
    else nat_lt f.at.column g.at.column)
    else nat_lt f.at.line g.at.line

-- the first of two, where the second isn't before it
abbrev pub earlier : Option Failure → Failure → Option Failure
earlier None g = Some g
earlier (Some f) g = if is_before g f then Some g else Some f

-- what is answered after a list of failures, where something or nothing was found before
abbrev pub noted : Option Failure → List Failure → Option Failure
noted found [] = found
noted found (f ∷ fs) = noted (earlier found f) fs

-- the failure that is answered, of a list
abbrev pub first_of : List Failure → Option Failure
first_of fs = noted None fs

pub data Among (f : Failure) : List Failure → Type 0 where
  here : (fs : List Failure) → Among f (f ∷ fs)
  later : (g : Failure) (fs : List Failure) → Among f fs → Among f (g ∷ fs)

-- a failure of these; none stands at an earlier place, and none at its place has an upper rule
pub record IsFirst (fs : List Failure) (f : Failure) : Type 0 where
  pub there : Among f fs
  pub earliest : (g : Failure) → Among g fs → ¬ (Before g.at f.at)
  pub uppermost : (g : Failure) → Among g fs → g.at ≡ f.at → row_of f.rule ≤ row_of g.rule

-- What is answered of some failures is the first of them, and nothing only where there are none.
abbrev pub TheFirstIsAnswered : Type 0
TheFirstIsAnswered = (fs : List Failure) → MatchOption (first_of fs) (fs ≡ []) (IsFirst fs)
