use Rattle.std.proofs.Common.{map, ap, arith}
use Rattle.std.specs.Prelude.{unwrap_or}
use Rattle.pk_typed.specs.Views.{unit_tree}
use Rattle.pk_calls.specs.declared.listings.CallPath.{CallPath}
use Rattle.pk_calls.specs.Calls.{body_of}
use Rattle.pk_meaning.specs.Programs.{zeros_of}
use Rattle.pk_runner_state.proofs.ObjectLemmas.{rows_of}
use Rattle.std.specs.Prelude.{ℤ}
use Rattle.std.specs.declared.vec.Vec.{Vec}
use Rattle.std.specs.declared.alloc.Global.{Global}
use Rattle.pk_runner_state.proofs.ProgramLemmas.{made_next, made_end, path_at}
use Rattle.pk_runner_state.proofs.objects.first_locals.Goals as goal
use Rattle.pk_typed.specs.Defaults.{no_body}

pub loop-path-preserved : goal.loop-path-preserved
loop-path-preserved c =
    made_next (λ (vs : Vec (Vec ℤ Global) Global). rows_of vs.items) (λ (q : CallPath). map zeros_of (unwrap_or (body_of
    (unit_tree c.args.program.now.unit.now) q.function) no_body).locals) c.loop-path.rows.items c.push.new.self.items c.args.program.now.paths.now c.loop-path.path
    c.in_ok-zeros_of.field-0 c.path.result (omega arith) c.in_ok-push.ensures.items
    (path_at c.args.program.now.paths.now c.loop-path.path c.path.result c.path.ensures) c.in_ok-zeros_of.ensures c.loop-path.invariant

pub returns : goal.returns
returns c = made_end (λ (vs : Vec (Vec ℤ Global) Global). rows_of vs.items) (λ (q : CallPath). map zeros_of (unwrap_or (body_of
    (unit_tree c.args.program.now.unit.now) q.function) no_body).locals) c.loop-path.rows.items c.args.program.now.paths.now c.loop-path.path (omega arith) c.loop-path.invariant
