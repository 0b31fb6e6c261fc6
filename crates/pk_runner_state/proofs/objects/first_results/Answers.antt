use Rattle.std.proofs.Common.{arith, get_or}
use Rattle.std.specs.Prelude.{pos, [], ◌∷◌}
use Rattle.pk_calls.specs.declared.listings.CallPath.{CallPath}
use Rattle.std.specs.Prelude.{ℤ}
use Rattle.std.specs.declared.vec.Vec.{Vec}
use Rattle.std.specs.declared.alloc.Global.{Global}
use Rattle.pk_runner_state.proofs.ProgramLemmas.{made_next, made_end}
use Rattle.std.proofs.lemmas.List.{get_or_default}
use Rattle.pk_calls.specs.Paths.{entry_path}
use Rattle.pk_runner_state.proofs.objects.first_results.Goals as goal

pub loop-preserved : goal.loop-preserved
loop-preserved c =
    let q : CallPath = get_or c.args.program.now.paths.now c.loop.counter (entry_path 0) in
    made_next (λ (v : Vec ℤ Global). v.items) (λ (q : CallPath). pos 0 ∷ []) c.loop.rows.items c.push.new.self.items c.args.program.now.paths.now c.loop.counter c.in_ok-zeros.field-0 q
    (omega arith) c.in_ok-push.ensures.items
    (get_or_default c.args.program.now.paths.now c.loop.counter (entry_path 0) q (omega arith)) c.in_ok-zeros.ensures c.loop.invariant

pub returns : goal.returns
returns c = made_end (λ (v : Vec ℤ Global). v.items) (λ (q : CallPath). pos 0 ∷ []) c.loop.rows.items c.args.program.now.paths.now c.loop.counter (omega arith) c.loop.invariant
