use Rattle.std.proofs.Common.{map, string_bytes, ap, Err}
use Rattle.pk_top.proofs.Replies.{ended_so, complete_so}
use Rattle.pk_top.proofs.Truthful.{holding, no_fault, no_success, pointing, truthful}
use Rattle.pk_top.proofs.top.pikos.Goals as goal

pub returns-in-Err-clause-answer : goal.returns-in-Err-clause-answer
returns-in-Err-clause-answer g c = λ text about. ended_so (map string_bytes c.args.words.now) text c.in-Err.status (g.K.Sink.written c.args.out.now) (c.in-Err.ensures.untold text about)

pub returns-in-Err-clause-complete : goal.returns-in-Err-clause-complete
returns-in-Err-clause-complete g c = λ unrisen still known text about.
    complete_so (map string_bytes c.args.words.now) text c.in-Err.status (g.K.Sink.written c.args.out.now) (c.in-Err.ensures.untold text about)
    (λ e. unrisen (c.in-Err.ensures.fault (ap Err e))) known

pub returns-clause-answer : goal.returns-clause-answer
returns-clause-answer g c = λ text about. record {
  unknown = c.in-Ok.made.1;
  bytes = c.in-Ok.made.0.items;
  answer = c.in-Ok.ensures.made text about;
  fewer = rw c.deref.ensures.value at c.in-Err-write_all.ensures.part;
  written = rw c.deref.ensures.value at c.in-Err-write_all.ensures.sent;
}

pub returns-in-Err-clause-truth : goal.returns-in-Err-clause-truth
returns-in-Err-clause-truth g c = λ text about unknown is. absurd (no_success c.in-Err.status unknown c.in-Err.ensures.stop is)

pub returns-clause-truth : goal.returns-clause-truth
returns-clause-truth g c = λ text about unknown is. absurd (cc)

pub returns-in-Ok-write_all-clause-truth : goal.returns-in-Ok-write_all-clause-truth
returns-in-Ok-write_all-clause-truth g c = λ text about unknown is.
    truthful c.reports_are_true_of_programs.ensures c.checks_are_true_of_programs.ensures (map string_bytes c.args.words.now) text c.in-Ok.made.1 unknown c.in-Ok.made.0.items c.deref.result.now (g.K.Sink.written c.args.out.now) (g.K.Sink.written c.write_all.new.out)
    is c.in-Ok.ensures.range (c.in-Ok.ensures.made text about) c.deref.ensures.value c.in-Ok-write_all.ensures.all

pub returns-in-Err-clause-holds : goal.returns-in-Err-clause-holds
returns-in-Err-clause-holds g c = λ text about unknown is. absurd (no_success c.in-Err.status unknown c.in-Err.ensures.stop is)

pub returns-clause-holds : goal.returns-clause-holds
returns-clause-holds g c = λ text about unknown is. absurd (cc)

pub returns-in-Ok-write_all-clause-holds : goal.returns-in-Ok-write_all-clause-holds
returns-in-Ok-write_all-clause-holds g c = λ text about unknown is.
    holding c.accepted_are_programs.ensures (map string_bytes c.args.words.now) text unknown (g.K.Sink.written c.args.out.now) (g.K.Sink.written c.write_all.new.out)
    (truthful c.reports_are_true_of_programs.ensures c.checks_are_true_of_programs.ensures (map string_bytes c.args.words.now) text c.in-Ok.made.1 unknown c.in-Ok.made.0.items c.deref.result.now (g.K.Sink.written c.args.out.now) (g.K.Sink.written c.write_all.new.out)
    is c.in-Ok.ensures.range (c.in-Ok.ensures.made text about) c.deref.ensures.value c.in-Ok-write_all.ensures.all)

pub returns-in-Err-clause-points : goal.returns-in-Err-clause-points
returns-in-Err-clause-points g c = λ text about unknown is. absurd (no_success c.in-Err.status unknown c.in-Err.ensures.stop is)

pub returns-clause-points : goal.returns-clause-points
returns-clause-points g c = λ text about unknown is. absurd (cc)

pub returns-in-Ok-write_all-clause-points : goal.returns-in-Ok-write_all-clause-points
returns-in-Ok-write_all-clause-points g c = λ text about unknown is.
    pointing c.accepted_are_programs.ensures (map string_bytes c.args.words.now) text unknown (g.K.Sink.written c.args.out.now) (g.K.Sink.written c.write_all.new.out)
    (truthful c.reports_are_true_of_programs.ensures c.checks_are_true_of_programs.ensures (map string_bytes c.args.words.now) text c.in-Ok.made.1 unknown c.in-Ok.made.0.items c.deref.result.now (g.K.Sink.written c.args.out.now) (g.K.Sink.written c.write_all.new.out)
    is c.in-Ok.ensures.range (c.in-Ok.ensures.made text about) c.deref.ensures.value c.in-Ok-write_all.ensures.all)

pub returns-in-Err-clause-no_fault : goal.returns-in-Err-clause-no_fault
returns-in-Err-clause-no_fault g c = λ text about is. absurd (no_success c.in-Err.status 0 c.in-Err.ensures.stop is)

pub returns-clause-no_fault : goal.returns-clause-no_fault
returns-clause-no_fault g c = λ text about is. absurd (cc)

pub returns-in-Ok-write_all-clause-no_fault : goal.returns-in-Ok-write_all-clause-no_fault
returns-in-Ok-write_all-clause-no_fault g c = λ text about is.
    no_fault c.programs_are_faultless.ensures c.checks_are_faultless.ensures (map string_bytes c.args.words.now) text c.in-Ok.made.1 c.in-Ok.made.0.items is c.in-Ok.ensures.range (c.in-Ok.ensures.made text about)

-- a success: written out, so that a wrong body is refused at once

pub returns-in-Ok-write_all-clause-answer : goal.returns-in-Ok-write_all-clause-answer
returns-in-Ok-write_all-clause-answer g c = λ text about. record {
  bytes = c.in-Ok.made.0.items;
  answer = c.in-Ok.ensures.made text about;
  written = rw c.deref.ensures.value at c.in-Ok-write_all.ensures.all;
}

pub returns-in-Ok-write_all-clause-complete : goal.returns-in-Ok-write_all-clause-complete
returns-in-Ok-write_all-clause-complete g c = λ unread unwritten known text about. record {
  bytes = c.in-Ok.made.0.items;
  answer = c.in-Ok.ensures.made text about;
  written = rw c.deref.ensures.value at c.in-Ok-write_all.ensures.all;
}
