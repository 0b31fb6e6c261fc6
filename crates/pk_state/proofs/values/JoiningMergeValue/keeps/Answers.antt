use Rattle.std.proofs.Common.{◌∙◌, sym, subst}
use Rattle.pk_congr.specs.Classes.{IsReduced}
use Rattle.pk_value.specs.Known.{Known}
use Rattle.pk_value.proofs.Orders.{lattice}
use Rattle.pk_state.proofs.values.JoiningMergeValue.keeps.Goals as goal

pub returns : goal.returns
returns c e =
    let reduced = subst (λ (k : Known). IsReduced k.class.m k.class.r) c.a.view_is c.reduced_law.ensures in
    lattice.join_same c.args.a.now c.args.b.now reduced (sym c.leq.ensures ∙ e)
