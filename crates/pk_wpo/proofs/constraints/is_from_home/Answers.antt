use Rattle.std.proofs.Common.{ℕ, subst}
use Rattle.pk_wpo.proofs.Orders.{HasIn}
use Rattle.pk_wpo.proofs.Steps.{home_is_one}
use Rattle.pk_wpo.proofs.constraints.is_from_home.Goals as goal

pub returns-in-Some : goal.returns-in-Some
returns-in-Some c =
    let l = c.args.layout.now in (
      (λ told. record { home = c.in-Some.h; is_home = c.in-Some.ensures; inside = c.has.ensures.0 told }),
      (λ x. c.has.ensures.1 (subst (λ (i : ℕ). HasIn l i c.args.a) (home_is_one l c.args.b x.home c.in-Some.h c.laid.ensures x.is_home c.in-Some.ensures) x.inside)),
    )
