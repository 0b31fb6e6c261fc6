use Rattle.std.specs.Prelude.{◌≡◌, Some, pos}
use Rattle.std.specs.Int.{w128}
use Rattle.std.proofs.Common.{◌∙◌, ap, arith, sym, of_z}
use Rattle.std.proofs.lemmas.Int.{ints}
use Rattle.pk_congr.specs.Classes.{Class}
use Rattle.pk_congr.proofs.Meets.{meet_none, meet_first, meet_second, meet_both}
use Rattle.pk_congr.proofs.congr.Congr.meet.Goals as goal

pub returns-else-other-eq0 : goal.returns-else-other-eq0
returns-else-other-eq0 c =
    ap Some c.both.ensures
    ∙ sym (meet_both c.args.self.now c.args.other.now (sym c.apart.ensures ∙ c.if-apart.false)
    (λ e. c.if-self-eq0.false (ap (of_z w128) (ap (λ (v : Class). v.m) c.self.view_is ∙ e)))
    (λ e. c.if-other-eq0.false (ap (of_z w128) (ap (λ (v : Class). v.m) c.other.view_is ∙ e))))

pub returns-then-apart : goal.returns-then-apart
returns-then-apart c = sym (meet_none c.args.self.now c.args.other.now (sym c.apart.ensures ∙ c.if-apart.true))

pub returns-then-self-eq0 : goal.returns-then-self-eq0
returns-then-self-eq0 c =
    let same = ap (λ (v : Class). v.m) c.self.view_is in
    let zero : c.args.self.now.m ≡ pos 0 = omega (arith, ints, c.if-self-eq0.true) in
    ap Some c.self.view_is ∙ sym (meet_first c.args.self.now c.args.other.now (sym c.apart.ensures ∙ c.if-apart.false) zero)

pub returns-then-other-eq0 : goal.returns-then-other-eq0
returns-then-other-eq0 c =
    let same = ap (λ (v : Class). v.m) c.other.view_is in
    let zero : c.args.other.now.m ≡ pos 0 = omega (arith, ints, c.if-other-eq0.true) in
    ap Some c.other.view_is
    ∙ sym (meet_second c.args.self.now c.args.other.now (sym c.apart.ensures ∙ c.if-apart.false)
    (λ e. c.if-self-eq0.false (ap (of_z w128) (ap (λ (v : Class). v.m) c.self.view_is ∙ e)))
    zero)
