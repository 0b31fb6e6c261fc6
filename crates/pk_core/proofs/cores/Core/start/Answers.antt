use Rattle.pk_core.proofs.Asked.{start_shown, start_kept}
use Rattle.pk_core.proofs.cores.Core.start.Goals as goal

pub invariant_of-result : goal.invariant_of-result
invariant_of-result g c = start_kept _ _ c.args.plan.now _ c.in_ok-entries.ensures (λ e. g.met.Y.System.first_held c.args.system.now e) c.requires

pub returns-clause-start : goal.returns-clause-start
returns-clause-start g c = start_shown _ c.args.plan.now _ c.in_ok-entries.ensures
