use Rattle.std.proofs.Common.{◌∙◌, ap, sym, subst, length}
use Rattle.atomic_table.specs.Table.{opening}
use Rattle.pk_iterate.specs.Behaviour.{ReadsWithin}
use Rattle.pk_layout.specs.Wirings.{Wiring}
use Rattle.pk_layout.proofs.Existing.{reads_within}
use Rattle.pk_words.specs.Kinds.{kind_of}
use Rattle.pk_words.specs.Subjects.{SubjectView}
use Rattle.pk_words.specs.Views.{first_view}
use Rattle.pk_lean_words.proofs.Lean_ends.{lean_opens}
use Rattle.pk_board.specs.Boards.{lean_of, rule_of}
use Rattle.pk_board.proofs.Starting.{wired_from, whole_from}
use Rattle.pk_board.proofs.boards.Board.start.Goals as goal

pub new-requires-after_bounds : goal.new-requires-after_bounds
new-requires-after_bounds g c κs within =
    let b = g.Y.System.meaning c.args.system.now in
    subst (ReadsWithin b) (sym c.elements-2.ensures) (reads_within b c.args.plan.now c.axioms.ensures.axioms c.requires.fits)

pub new-subject-requires-after_bounds : goal.new-subject-requires-after_bounds
new-subject-requires-after_bounds g c κs within =
    let b = g.Y.System.meaning c.args.system.now in
    wired_from b c.args.plan.now c.args.max_runs c.elements-2.result c.in_ok-layout.layout c.axioms.ensures.axioms c.requires.fits c.requires.few c.requires.most c.elements-2.ensures c.in_ok-layout.ensures

pub new-requires-2 : goal.new-requires-2
new-requires-2 g c =
    let b = g.Y.System.meaning c.args.system.now in
    let part = g.Y.Parted.part_of in
    let p = c.args.plan.now in
    let l = c.in_ok-layout.layout in
    let w : Wiring = record { plan = p; limit = c.args.max_runs; layout = l } in
    let subject : SubjectView g.row.Y.Denot = record { system = c.args.system.now; wiring = w; lean = c.args.lean } in
    let wired = wired_from b p c.args.max_runs c.elements-2.result l c.axioms.ensures.axioms c.requires.fits c.requires.few c.requires.most c.elements-2.ensures c.in_ok-layout.ensures in
    subst (λ k. rule_of g.Y.System.meaning part k (opening c.deref.result.now c.in_ok-slots.slots.items first_view)) (sym c.new-subject.ensures)
    (subst (λ ws. rule_of g.Y.System.meaning part subject (opening ws c.in_ok-slots.slots.items first_view)) (sym c.deref.ensures.value)
    (lean_opens b w (lean_of part subject) kind_of c.in_ok-words.words.items c.in_ok-slots.slots.items wired c.in_ok-words.ensures.long c.in_ok-words.ensures.going c.in_ok-words.ensures.each c.in_ok-slots.ensures.each))

pub invariant_of-board : goal.invariant_of-board
invariant_of-board g c =
    let p = c.args.plan.now in
    let l = c.in_ok-layout.layout in
    let ok = c.in-Ok.ensures.ok in
    let subject : SubjectView g.row.Y.Denot = record { system = c.args.system.now; wiring = record { plan = p; limit = c.args.max_runs; layout = l }; lean = c.args.lean } in
    let wired = wired_from (g.Y.System.meaning c.args.system.now) p c.args.max_runs c.elements-2.result l c.axioms.ensures.axioms c.requires.fits c.requires.few c.requires.most c.elements-2.ensures c.in_ok-layout.ensures in
    whole_from g.Y.System.meaning subject c.new-subject.result c.in-Ok.table.shared.key c.in-Ok.table.shared.table_id c.in_ok-earliest.earliest c.in_ok-results.results c.in_ok-leaning.leaning c.elements.result c.new-subject.ensures ok.5 (ok.0 ∙ ap length c.deref.ensures.value ∙ c.in_ok-words.ensures.long) (ok.1 ∙ c.in_ok-slots.ensures.long)
    wired c.requires.ends c.in_ok-earliest.ensures c.in_ok-results.ensures c.elements.ensures c.in_ok-leaning.ensures
