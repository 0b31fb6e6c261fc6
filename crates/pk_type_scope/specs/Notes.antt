-- What is noted on the way over a function.
use Rattle.std.specs.Prelude.{List, Option}
use Rattle.pk_typed.specs.declared.units.CallSite.{CallSite}
use Rattle.pk_type_scope.specs.declared.failures.Failure.{Failure}
use Rattle.pk_type_scope.specs.declared.failures.Notes.{Notes}
use Rattle.pk_type_scope.specs.Failures.{noted}

-- the failure that would be answered so far, and the calls so far
pub record Noted : Type 0 where
  pub found : Option Failure
  pub calls : List CallSite

abbrev pub noted_in : Notes → Noted
noted_in s = record { found = s.found; calls = s.calls.items }

-- and some failures
abbrev pub with_failures : Noted → List Failure → Noted
with_failures s fs = record { found = noted s.found fs; calls = s.calls }
