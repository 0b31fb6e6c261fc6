use Rattle.std.specs.Prelude.{◌≡◌, ◌+◌, ◌/◌, Some, pos}
use Rattle.std.proofs.Common.{◌∙◌, ap, arith, refl, subst, sym}
use Rattle.pk_octmat.specs.Bounds.{AtMost, is_negative}
use Rattle.pk_octmat.specs.Half.{kept_at}
use Rattle.pk_octclose.specs.After.{lined}
use Rattle.pk_octclose.proofs.Lined.{lined_cycle, pair_each}
use Rattle.pk_octclose.proofs.Lowered.{line_read, pair_lined}
use Rattle.pk_octclose.proofs.Sums.{negative_from}
use Rattle.pk_octclose.proofs.after.lower_pair.Goals as goal

pub returns-then-is_below_zero-clause-cycle : goal.returns-then-is_below_zero-clause-cycle
returns-then-is_below_zero-clause-cycle g c = λ e. lined_cycle c.args.d (kept_at c.args.d c.args.cells.now) (c.args.p / 2) c.args.p refl (ap is_negative (sym (line_read c.line_of.new.line c.args.p c.index-first-p.result c.line_of.ensures.own (omega (arith, c.requires.place, c.requires.few)) c.index-first-p.is ∙ c.line_of.ensures.lowered c.args.p (omega (arith, c.requires.place)))) ∙ sym c.is_below_zero.ensures.value ∙ c.if-is_below_zero.true)

pub returns-then-is_below_zero-2-clause-cycle : goal.returns-then-is_below_zero-2-clause-cycle
returns-then-is_below_zero-2-clause-cycle g c = λ e.
    let next : (c.args.p + 1) / 2 ≡ c.args.p / 2 = omega (arith, c.requires.even) in
    lined_cycle c.args.d (kept_at c.args.d c.args.cells.now) (c.args.p / 2) (c.args.p + 1) next (ap is_negative (sym (line_read c.line_of-2.new.line (c.args.p + 1) c.index-second-p.result c.line_of-2.ensures.own (omega (arith, c.requires.place, c.requires.few)) c.index-second-p.is ∙ c.line_of-2.ensures.lowered (c.args.p + 1) c.requires.place
    ∙ ap (λ k. lined c.args.d (kept_at c.args.d c.args.cells.now) k (c.args.p + 1) (c.args.p + 1)) next)) ∙ sym c.is_below_zero-2.ensures.value ∙ c.if-is_below_zero-2.true)

pub returns-clause-lowered : goal.returns-clause-lowered
returns-clause-lowered g c = λ e.
    let next : (c.args.p + 1) / 2 ≡ c.args.p / 2 = omega (arith, c.requires.even) in
    pair_lined c.args.d c.args.p (kept_at c.args.d c.args.cells.now) c.args.cells.now c.write_rows.new.cells c.requires.pairs c.requires.even c.requires.whole.whole.coherent.turned (λ a b. refl)
    (λ b bd. c.write_rows.ensures.first b bd ∙ c.line_of.ensures.lowered b bd)
    (λ b bd. c.write_rows.ensures.second b bd ∙ c.line_of-2.ensures.lowered b bd ∙ ap (λ k. lined c.args.d (kept_at c.args.d c.args.cells.now) k (c.args.p + 1) b) next) c.write_rows.ensures.others

pub returns-clause-diagonal : goal.returns-clause-diagonal
returns-clause-diagonal g c = λ e i id h.
    let next : (c.args.p + 1) / 2 ≡ c.args.p / 2 = omega (arith, c.requires.even) in
    let first = subst (λ o. AtMost (Some (pos 0)) o) (line_read c.line_of.new.line c.args.p c.index-first-p.result c.line_of.ensures.own (omega (arith, c.requires.place, c.requires.few)) c.index-first-p.is ∙ c.line_of.ensures.lowered c.args.p (omega (arith, c.requires.place))) (negative_from _ (sym c.is_below_zero.ensures.value ∙ c.if-is_below_zero.false)) in
    let second = subst (λ o. AtMost (Some (pos 0)) o) (line_read c.line_of-2.new.line (c.args.p + 1) c.index-second-p.result c.line_of-2.ensures.own (omega (arith, c.requires.place, c.requires.few)) c.index-second-p.is ∙ c.line_of-2.ensures.lowered (c.args.p + 1) c.requires.place
    ∙ ap (λ k. lined c.args.d (kept_at c.args.d c.args.cells.now) k (c.args.p + 1) (c.args.p + 1)) next) (negative_from _ (sym c.is_below_zero-2.ensures.value ∙ c.if-is_below_zero-2.false)) in
    pair_each c.args.p (λ q. lined c.args.d (kept_at c.args.d c.args.cells.now) (c.args.p / 2) q q) c.requires.even first second i h
