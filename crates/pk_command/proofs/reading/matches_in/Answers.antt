use Rattle.std.proofs.Common.{◌≡◌, ◌∙◌, map, string_bytes}
use Rattle.clap.specs.Words.{app_of, fault_of, kind_of}
use Rattle.clap.specs.declared.error.kind.ErrorKind.TheVariants.{OutOfMemory}
use Rattle.pk_command.specs.CommandLine.{is_taken, pikos_app}
use Rattle.pk_command.proofs.Taken.{a_fault, no_fault_of, rows_of_app, a_fault_of}
use Rattle.pk_command.proofs.reading.matches_in.Goals as goal

pub returns-in-Ok-clause-taken : goal.returns-in-Ok-clause-taken
returns-in-Ok-clause-taken c =
    no_fault_of (app_of c.in_ok-command_line.field-0) (map string_bytes c.args.words.now) c.in_ok-command_line.ensures c.in-Ok.ensures.kinds

pub returns-in-Ok-clause-given : goal.returns-in-Ok-clause-given
returns-in-Ok-clause-given c =
    rows_of_app (app_of c.in_ok-command_line.field-0) (map string_bytes c.args.words.now) c.in_ok-command_line.ensures c.in-Ok.matches c.in-Ok.ensures.matches

pub returns-clause-usage : goal.returns-clause-usage
unfolding is_taken
returns-clause-usage c = λ usage.
    let words = map string_bytes c.args.words.now in
    let other : c.kind.result ≡ OutOfMemory → ⊥ = λ e. let bad = rw e at c.if-eq.ensures in cc in
    a_fault (fault_of pikos_app words)
    (a_fault_of (app_of c.in_ok-command_line.field-0) words c.in_ok-command_line.ensures (kind_of c.in-Err.error) (λ e. other (c.kind.ensures ∙ e)) c.in-Err.ensures.kinds)
