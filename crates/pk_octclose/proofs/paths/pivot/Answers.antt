use Rattle.std.specs.Prelude.{◌≡◌, ◌+◌, ◌<◌, ℕ, Some, pos}
use Rattle.std.proofs.Common.{◌∙◌, ap, arith, inl, inr, subst, sym}
use Rattle.pk_octmat.specs.Bounds.{AtMost, is_negative}
use Rattle.pk_octmat.specs.Half.{kept_at}
use Rattle.pk_octclose.specs.Walks.{relaxed}
use Rattle.pk_octclose.proofs.Pairs.{pair_lowered}
use Rattle.pk_octclose.proofs.Sums.{negative_from}
use Rattle.pk_octclose.proofs.Twice.{near_from, relaxed_near}
use Rattle.pk_octclose.proofs.Whole.{round_is}
use Rattle.pk_octclose.proofs.paths.pivot.Given as given
use Rattle.pk_octclose.proofs.paths.pivot.Goals as goal

pub plus-round-requires-clause-left : goal.plus-round-requires-clause-left
plus-round-requires-clause-left g c = near_from _ _ c.cell.ensures (c.requires.near c.args.p (c.args.p + 1) (omega arith) c.requires.place)

pub plus-round-requires-clause-right : goal.plus-round-requires-clause-right
plus-round-requires-clause-right g c = near_from _ _ c.cell-2.ensures (c.requires.near (c.args.p + 1) c.args.p c.requires.place (omega arith))

pub returns-then-is_below_zero-clause-no : goal.returns-then-is_below_zero-clause-no
returns-then-is_below_zero-clause-no g c = λ e.
    let round = round_is (kept_at c.args.d c.args.cells.now) c.args.p c.plus-round.result c.cell.result c.cell-2.result c.plus-round.ensures c.cell.ensures c.cell-2.ensures in
    inl (ap is_negative (sym round) ∙ sym c.is_below_zero.ensures.value ∙ c.if-is_below_zero.true)

pub lower_rows-requires-clause-one : goal.lower_rows-requires-clause-one
lower_rows-requires-clause-one g c = λ b bd.
    relaxed_near (kept_at c.args.d c.args.cells.now) (c.args.p + 1) c.args.p b _ (c.join_rows.ensures.first b bd) (c.requires.near c.args.p b (omega arith) bd) (c.requires.near c.args.p (c.args.p + 1) (omega arith) c.requires.place)
    (c.requires.near (c.args.p + 1) b c.requires.place bd)

pub lower_rows-requires-clause-two : goal.lower_rows-requires-clause-two
lower_rows-requires-clause-two g c = λ b bd.
    relaxed_near (kept_at c.args.d c.args.cells.now) c.args.p (c.args.p + 1) b _ (c.join_rows.ensures.second b bd) (c.requires.near (c.args.p + 1) b c.requires.place bd) (c.requires.near (c.args.p + 1) c.args.p c.requires.place (omega arith))
    (c.requires.near c.args.p b (omega arith) bd)

-- what the two places lower
lowered : (g : given.Over) (c : goal.After-is_nonnegative g) → (a b : ℕ) → a < c.args.d → b < c.args.d → kept_at c.args.d c.lower_rows.new.cells a b ≡ relaxed (relaxed (kept_at c.args.d c.args.cells.now) c.args.p) (c.args.p + 1) a b
lowered g c =
    let round = round_is (kept_at c.args.d c.args.cells.now) c.args.p c.plus-round.result c.cell.result c.cell-2.result c.plus-round.ensures c.cell.ensures c.cell-2.ensures in
    pair_lowered c.args.d c.args.p c.args.cells.now c.join_rows.new.cells c.lower_rows.new.cells c.requires.pairs c.requires.even c.requires.place c.requires.zero
    (subst (λ o. AtMost (Some (pos 0)) o) round (negative_from _ (sym c.is_below_zero.ensures.value ∙ c.if-is_below_zero.false)))
    c.join_rows.ensures.first c.join_rows.ensures.second c.join_rows.ensures.others c.lower_rows.ensures.lowered c.lower_rows.ensures.own

pub returns-clause-lowered : goal.returns-clause-lowered
returns-clause-lowered g c = λ e. lowered g c

pub returns-clause-no : goal.returns-clause-no
returns-clause-no g c = λ e.
    let n = c.is_nonnegative.ensures.no e in
    inr (record { at = n.at; place = n.place; negative = ap is_negative (sym (lowered g c n.at n.at n.place n.place)) ∙ n.negative })
