-- The line on standard error and the exit code of each status.
use Rattle.std.specs.Prelude.{ℕ, List, [], ◌++◌, codes, if◌then◌else◌, ◌==◌}
use Rattle.std.specs.Fmt.{decimal}
use Rattle.pk_ctypes.specs.Words.{quantity_text}
use Rattle.pk_front.specs.declared.failures.TextError.{TextError}
use Rattle.pk_front.specs.declared.failures.TextError.TheVariants as errors
use Rattle.pk_front.specs.Refusals.{refusal_text}
use Rattle.pk_status.specs.declared.status.Status.{Status}
use Rattle.pk_status.specs.declared.status.Status.TheVariants.{Ok, Usage, Refused, Limit, RunLimit, CertLimit, CertByte, CertState, CertFails, ReadFault, WriteFault, Memory}

-- how a command ends about a text without a graph
abbrev pub status_of : TextError → Status
status_of (errors.Refused refusal) = Refused refusal
status_of (errors.Limit what number) = Limit what number
status_of errors.Memory = Memory

abbrev pub status_text : Status → List ℕ
status_text (Ok unknown) = []
status_text Usage = codes "pikos: usage"
status_text (Refused refusal) = codes "pikos: refused: " ++ refusal_text refusal
status_text (Limit what number) = codes "pikos: limit " ++ quantity_text what ++ codes " " ++ decimal number
status_text (RunLimit max_runs) = codes "pikos: run limit " ++ decimal max_runs
status_text CertLimit = codes "pikos: limit cert 67108864"
status_text (CertByte offset) = codes "pikos: refused: certificate byte " ++ decimal offset
status_text (CertState point) = codes "pikos: refused: certificate state " ++ decimal point
status_text (CertFails point) = codes "pikos: certificate fails at point " ++ decimal point
status_text ReadFault = codes "pikos: read fault"
status_text (WriteFault sent) = codes "pikos: write fault after " ++ decimal sent ++ codes " bytes"
status_text Memory = codes "pikos: memory"

abbrev pub status_code : Status → ℕ
status_code (Ok unknown) = if unknown == 0 then 0 else 1
status_code Usage = 2
status_code (Refused refusal) = 3
status_code (Limit what number) = 4
status_code (RunLimit max_runs) = 4
status_code CertLimit = 4
status_code (CertByte offset) = 3
status_code (CertState point) = 3
status_code (CertFails point) = 8
status_code ReadFault = 5
status_code (WriteFault sent) = 6
status_code Memory = 7
