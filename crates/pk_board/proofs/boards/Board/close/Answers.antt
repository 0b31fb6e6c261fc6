use Rattle.std.proofs.Common.{◌≡◌, length, false, sym, ap, ◌∙◌, subst}
use Rattle.std.specs.Mem.Slots.{slots_items, slots_counts}
use Rattle.atomic_table.specs.Table.{Final, Seen}
use Rattle.pk_layout.specs.Layouts.{slots_of}
use Rattle.pk_words.specs.Kinds.{kind_of}
use Rattle.pk_lean_words.proofs.Lean_ends.{lean_closes, lean_leaves_cells}
use Rattle.pk_board.specs.Boards.{lean_of, rule_of}
use Rattle.pk_board.specs.Calls.{IsOutcome}
use Rattle.pk_board.proofs.boards.Board.close.Goals as goal

pub gathered-requires-clause-result : goal.gathered-requires-clause-result
gathered-requires-clause-result g c κs within =
    let s = c.self.inside.subject in
    let r = c.close_with.result in
    let seat = c.pass.inside.seat in
    let meaning = g.Y.System.meaning in
    let part = g.Y.Parted.part_of in
    let long : length (slots_items r.slots) ≡ slots_of s.wiring.layout = sym (slots_counts r.slots).0 ∙ c.close_with.ensures.counts.1 ∙ c.self.invariant.kept.slots in
    let final = subst (λ k. Final (Seen (rule_of meaning part k) seat.id seat.me.0) (slots_items r.words) (slots_items r.slots)) c.self.invariant.kept.about c.close_with.ensures.values.2 in
    lean_closes (meaning s.system) s.wiring (lean_of part s) kind_of seat.id seat.me.0 (slots_items r.words) (slots_items r.slots) long (ap (λ p. p.view.ended) c.pass.view_is ∙ c.requires.ended) final

pub gathered-requires-clause-cells : goal.gathered-requires-clause-cells
gathered-requires-clause-cells g c κs within = λ e low x at.
    let s = c.self.inside.subject in
    let r = c.close_with.result in
    let seat = c.pass.inside.seat in
    let meaning = g.Y.System.meaning in
    let part = g.Y.Parted.part_of in
    let long : length (slots_items r.slots) ≡ slots_of s.wiring.layout = sym (slots_counts r.slots).0 ∙ c.close_with.ensures.counts.1 ∙ c.self.invariant.kept.slots in
    let final = subst (λ k. Final (Seen (rule_of meaning part k) seat.id seat.me.0) (slots_items r.words) (slots_items r.slots)) c.self.invariant.kept.about c.close_with.ensures.values.2 in
    let never : s.lean ≡ false = ap (λ b. b.subject.lean) c.self.view_is ∙ c.requires.whole in
    lean_leaves_cells (meaning s.system) s.wiring (lean_of part s) kind_of seat.id seat.me.0 (slots_items r.words) (slots_items r.slots) long (ap (λ p. p.view.ended) c.pass.view_is ∙ c.requires.ended) final never c.self.invariant.kept.ends e low x at

pub returns : goal.returns
returns g c = subst (λ v. IsOutcome (g.Y.System.meaning v.subject.system) v.subject.wiring c.gathered.result) c.self.view_is c.gathered.ensures
