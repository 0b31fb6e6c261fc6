-- When a device may answer a failure, and how it counts its failures.
use Rattle.std.specs.Prelude.{◌≡◌, ℕ, ◌+◌, ◌-◌, ◌^◌, ◌<◌, ◌≤◌, min, ◌⊎◌, Ok, Err, OnErr}
use Rattle.std.specs.declared.result.Result.{Result}

-- the count is greater than before, or it stands at 2 ^ 64 - 1
abbrev pub Rose : ℕ → ℕ → Type 0
Rose before now = (before < now) ⊎ (now ≡ 2 ^ 64 - 1)

-- the count of faults has not fallen, and at `Err` it rose
pub record HasCause {T E : Type 0} (before now : ℕ) (result : Result T E) : Type 0 where
  pub later : before ≤ now
  pub failed : OnErr result (Rose before now)

-- one more, in a count that stops at 2 ^ 64 - 1
abbrev pub one_more : ℕ → ℕ
one_more count = min (count + 1) (2 ^ 64 - 1)

-- the count of faults after one more answer
abbrev pub faults_after : {T E : Type 0} → ℕ → Result T E → ℕ
faults_after faults (Ok value) = faults
faults_after faults (Err failure) = one_more faults
