use Rattle.std.proofs.Common.{◌<◌, ◌+◌, ℕ, List, [], slice_index_or, All, subst, sym, arith}
use Rattle.std.specs.declared.vec.Vec.{Vec}
use Rattle.std.specs.declared.alloc.Global.{Global}
use Rattle.pk_plan.specs.Digraphs.{lists_of}
use Rattle.pk_board_tests.specs.Prepared.{MayRead}
use Rattle.pk_board_tests.proofs.plans.summing_over.Goals as goal
use Rattle.pk_board_tests.proofs.Fitting.{row_more}

pub loop-e-preserved : goal.loop-e-preserved
loop-e-preserved c =
    let is = c.in_ok-push.ensures.items in
    record {
      long = omega (arith, c.in_ok-push.ensures.len, c.loop-e.invariant.long);
      each = subst (λ (vs : List (Vec ℕ Global)). (u : ℕ) → u < c.loop-e.e + 1 → All (MayRead c.args.plan.now u) (slice_index_or (lists_of vs) u [])) (sym is) (row_more c.args.plan.now c.loop-e.rows.items c.in_ok-row.field-0 c.loop-e.e c.loop-e.invariant.long c.loop-e.invariant.each c.in_ok-row.ensures);
    }
