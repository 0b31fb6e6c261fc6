use Rattle.std.proofs.Common.{◌≡◌, suc, ◌+◌, sym, ◌∙◌, arith, drop}
use Rattle.pk_meaning.specs.Programs.{number_by}
use Rattle.pk_runner_state.proofs.ProgramLemmas.{by_found, by_next}
use Rattle.pk_runner_state.proofs.programs.callee.Goals as goal

pub returns-then-is_by : goal.returns-then-is_by
returns-then-is_by c =
    let none : number_by c.args.path c.args.call (drop c.loop-number.number c.args.program.now.paths.now)
    ≡ 0 = by_found c.args.path c.args.call c.loop-number.number c.args.program.now.paths.now c.path.result c.path.ensures (sym c.is_by.ensures ∙ c.if-is_by.true) in
    let before = c.loop-number.invariant in
    omega (arith, none, before)

pub loop-number-preserved : goal.loop-number-preserved
loop-number-preserved c =
    let more : number_by c.args.path c.args.call (drop c.loop-number.number c.args.program.now.paths.now) ≡ suc (number_by c.args.path c.args.call (drop (c.loop-number.number + 1) c.args.program.now.paths.now)) =
    by_next c.args.path c.args.call c.loop-number.number c.args.program.now.paths.now c.path.result c.path.ensures (sym c.is_by.ensures ∙ c.if-is_by.false) in
    let before = c.loop-number.invariant in
    omega (arith, more, before)
