use Rattle.std.proofs.Common.{◌≡◌, length, map, true, sym, ap, ◌∙◌, subst}
use Rattle.std.specs.List.{range_with_len}
use Rattle.std.specs.Mem.Slots.{slots_items, slots_counts}
use Rattle.atomic_table.specs.Table.{Final, Seen}
use Rattle.pk_iterate.specs.Ending.{result_cell, result_count}
use Rattle.pk_layout.specs.Layouts.{slots_of}
use Rattle.pk_words.specs.Kinds.{kind_of}
use Rattle.pk_lean_words.proofs.Lean_ends.{lean_leaves_parts}
use Rattle.pk_board.specs.Boards.{lean_of, rule_of}
use Rattle.pk_board.specs.Parts.{AreParts}
use Rattle.pk_board.proofs.Ending_parts.{is_outcome, parts_by}
use Rattle.pk_board.proofs.boards.Board.close_parts.Goals as goal

pub parted-requires-clause-items : goal.parted-requires-clause-items
parted-requires-clause-items g c κs within = c.self.invariant.items (ap (λ b. b.subject.lean) c.self.view_is ∙ c.requires.lean)

pub parted-requires-clause-parts : goal.parted-requires-clause-parts
parted-requires-clause-parts g c κs within = λ j x item at.
    let s = c.self.inside.subject in
    let r = c.close_with.result in
    let seat = c.pass.inside.seat in
    let meaning = g.Y.System.meaning in
    let part = g.Y.Parted.part_of in
    let long : length (slots_items r.slots) ≡ slots_of s.wiring.layout = sym (slots_counts r.slots).0 ∙ c.close_with.ensures.counts.1 ∙ c.self.invariant.kept.slots in
    let final = subst (λ k. Final (Seen (rule_of meaning part k) seat.id seat.me.0) (slots_items r.words) (slots_items r.slots)) c.self.invariant.kept.about c.close_with.ensures.values.2 in
    let goes : s.lean ≡ true = ap (λ b. b.subject.lean) c.self.view_is ∙ c.requires.lean in
    lean_leaves_parts (meaning s.system) s.wiring (lean_of part s) kind_of seat.id seat.me.0 (slots_items r.words) (slots_items r.slots) long (ap (λ p. p.view.ended) c.pass.view_is ∙ c.requires.ended) final goes c.self.invariant.kept.ends j item x at

pub returns : goal.returns
returns g c =
    let s = c.self.inside.subject in
    let r = c.close_with.result in
    let seat = c.pass.inside.seat in
    let meaning = g.Y.System.meaning in
    let part = g.Y.Parted.part_of in
    let has_end = c.self.invariant.kept.ends in
    let n = s.wiring.plan.elements in
    let long : length (slots_items r.slots) ≡ slots_of s.wiring.layout = sym (slots_counts r.slots).0 ∙ c.close_with.ensures.counts.1 ∙ c.self.invariant.kept.slots in
    let final = subst (λ k. Final (Seen (rule_of meaning part k) seat.id seat.me.0) (slots_items r.words) (slots_items r.slots)) c.self.invariant.kept.about c.close_with.ensures.values.2 in
    let cells = map (result_cell has_end.1) (range_with_len 0 n) in
    subst (λ b. AreParts (meaning b.subject.system) b.subject.wiring (part b.subject.system) c.parted.result.items) c.self.view_is (record {
      outcome = record { cells = cells; runs = map (result_count has_end.1) (range_with_len 0 n) };
      left = is_outcome (meaning s.system) s.wiring (lean_of part s) seat.id seat.me.0 (slots_items r.words) (slots_items r.slots) long (ap (λ p. p.view.ended) c.pass.view_is ∙ c.requires.ended) final has_end;
      made = parts_by (meaning s.system) s.wiring.plan (part s.system) c.parted.result.items cells c.self.invariant.kept.wired.axioms has_end (λ i. cells) c.parted.ensures;
    })
