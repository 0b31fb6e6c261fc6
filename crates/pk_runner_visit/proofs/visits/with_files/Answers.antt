use Rattle.std.proofs.Common.{◌≡◌, ◌-◌, ◌++◌, ◌∙◌, ap, sym, arith, map, ℕ}
use Rattle.std.proofs.lemmas.List.{append-nil}
use Rattle.pk_meaning.specs.Programs.{file_scope}
use Rattle.pk_runner_frame.specs.Frames.{object_in}
use Rattle.pk_runner_visit.proofs.SeenLemmas.{file_next}
use Rattle.pk_runner_visit.proofs.visits.with_files.Goals as goal

pub loop-left-preserved : goal.loop-left-preserved
loop-left-preserved c =
    file_next c.loop-left.list.items c.push.new.self.items c.loop-left.left (c.loop-left.left - 1) (map object_in c.args.list.now.items ++ file_scope c.args.count) (omega (arith, c.loop-left-test.true)) c.in_ok-push.ensures.items c.loop-left.invariant

pub returns : goal.returns
returns c =
    let none : c.loop-left.left ≡ 0 = omega (arith, c.loop-left-test.false) in
    sym (append-nil (map object_in c.loop-left.list.items)) ∙ (sym (ap (λ (n : ℕ). map object_in c.loop-left.list.items ++ file_scope n) none) ∙ c.loop-left.invariant)
