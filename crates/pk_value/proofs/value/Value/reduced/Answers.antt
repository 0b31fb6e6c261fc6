use Rattle.std.proofs.Common.{◌∙◌, ap, sym, subst}
use Rattle.pk_interval.specs.Ranges.{IsIn}
use Rattle.pk_value.specs.Known.{Known, red_known}
use Rattle.pk_value.proofs.Tight.{tight_is_reduced, class_of_tight}
use Rattle.pk_value.proofs.value.Value.reduced.Goals as goal

pub returns-then-is_plain-clause-value : goal.returns-then-is_plain-clause-value
returns-then-is_plain-clause-value c =
    let k : Known = record { range = c.self.inside.interval; class = c.self.inside.congr } in
    sym (tight_is_reduced.again k c.reduced_law.ensures.from (c.is_plain.ensures c.if-is_plain.true)) ∙ ap red_known c.self.view_is

pub returns-then-is_plain-clause-class : goal.returns-then-is_plain-clause-class
returns-then-is_plain-clause-class c =
    let k : Known = record { range = c.self.inside.interval; class = c.self.inside.congr } in
    class_of_tight c.args.t k (subst (λ (q : Known). IsIn c.args.t q.range) (sym c.self.view_is) c.requires) c.reduced_law.ensures (c.is_plain.ensures c.if-is_plain.true)
