use Rattle.std.proofs.Common.{◌≡◌, ◌≢◌, ℕ, ◌<◌, ◌∷◌, get_or, sym, ap, subst, ◌∙◌, arith}
use Rattle.pk_plan.specs.Plans.{PlanView, place_of}
use Rattle.pk_plan.specs.Shape.{has}
use Rattle.pk_items.specs.Items.{top_of}
use Rattle.pk_layout.specs.Layouts.{LayoutView, slots_of, first_of, reader_of}
use Rattle.pk_words.specs.declared.slot.Slot.TheVariants.{Gone}
use Rattle.pk_words.specs.Views.{take_view}
use Rattle.pk_board.specs.Emptying.{IsEmptying}
use Rattle.pk_board.proofs.Asking.{at_board}
use Rattle.pk_board.proofs.Item_places.{member_at}
use Rattle.pk_board.proofs.Reading_slots.{first_in, first_reader}
use Rattle.pk_board.proofs.Emptying_slots.{taken_one, taken_more, left_empty, between_home, inputs_home, firsts_apart, emptied_one}
use Rattle.pk_board.proofs.boards.Board.empty_members.Goals as goal

pub leave-requires-clause-slot : goal.leave-requires-clause-slot
leave-requires-clause-slot g c κs within =
    let board = c.args.self.now in
    let w = board.subject.wiring in
    let kept = at_board g.Y.System.meaning c.args.self.now c.self.inside.subject c.self.inside.table.shared.key c.self.inside.table.shared.table_id c.self.view_is c.self.invariant.kept in
    let at = c.loop-at.at in
    let u = get_or c.listing.result.now at 0 in
    let i = c.loop-at.invariant in
    let m = member_at w.plan c.plan-plan.result.now c.listing.result.now c.args.last c.args.start at c.place-at-end.result kept.wired.axioms c.requires.item c.requires.start (c.plan-plan.ensures ∙ ap (λ b. b.subject.wiring.plan) c.self.view_is) c.listing.ensures c.place-at-end.ensures c.loop-at.auto.at c.loop-at-test.true in
    let first : c.first_slot.result ≡ first_of w.layout u = c.first_slot.ensures ∙ ap (λ (l : LayoutView). first_of l u) (c.layout.ensures ∙ ap (λ b. b.subject.wiring.layout) c.self.view_is) in
    subst (λ (k : ℕ). k < slots_of w.layout) (sym first) (first_in kept.wired.laid_out u m.0.low).0

pub leave-requires-clause-reader : goal.leave-requires-clause-reader
leave-requires-clause-reader g c κs within =
    let board = c.args.self.now in
    let w = board.subject.wiring in
    let kept = at_board g.Y.System.meaning c.args.self.now c.self.inside.subject c.self.inside.table.shared.key c.self.inside.table.shared.table_id c.self.view_is c.self.invariant.kept in
    let at = c.loop-at.at in
    let u = get_or c.listing.result.now at 0 in
    let i = c.loop-at.invariant in
    let m = member_at w.plan c.plan-plan.result.now c.listing.result.now c.args.last c.args.start at c.place-at-end.result kept.wired.axioms c.requires.item c.requires.start (c.plan-plan.ensures ∙ ap (λ b. b.subject.wiring.plan) c.self.view_is) c.listing.ensures c.place-at-end.ensures c.loop-at.auto.at c.loop-at-test.true in
    let first : c.first_slot.result ≡ first_of w.layout u = c.first_slot.ensures ∙ ap (λ (l : LayoutView). first_of l u) (c.layout.ensures ∙ ap (λ b. b.subject.wiring.layout) c.self.view_is) in
    ap (λ (k : ℕ). top_of w.plan (reader_of w.layout k)) first ∙ ap (top_of w.plan) (first_reader kept.wired.laid_out u m.0.low) ∙ m.0.top

pub leave-requires-clause-at_home : goal.leave-requires-clause-at_home
leave-requires-clause-at_home g c κs within =
    let board = c.args.self.now in
    let w = board.subject.wiring in
    let kept = at_board g.Y.System.meaning c.args.self.now c.self.inside.subject c.self.inside.table.shared.key c.self.inside.table.shared.table_id c.self.view_is c.self.invariant.kept in
    let at = c.loop-at.at in
    let u = get_or c.listing.result.now at 0 in
    let i = c.loop-at.invariant in
    let m = member_at w.plan c.plan-plan.result.now c.listing.result.now c.args.last c.args.start at c.place-at-end.result kept.wired.axioms c.requires.item c.requires.start (c.plan-plan.ensures ∙ ap (λ b. b.subject.wiring.plan) c.self.view_is) c.listing.ensures c.place-at-end.ensures c.loop-at.auto.at c.loop-at-test.true in
    let first : c.first_slot.result ≡ first_of w.layout u = c.first_slot.ensures ∙ ap (λ (l : LayoutView). first_of l u) (c.layout.ensures ∙ ap (λ b. b.subject.wiring.layout) c.self.view_is) in
    let by : reader_of w.layout c.first_slot.result ≡ u = ap (reader_of w.layout) first ∙ first_reader kept.wired.laid_out u m.0.low in
    ap (has c.first_slot.result) i.taken.out ∙ between_home w c.args.last c.args.start at c.first_slot.result c.loop-at.seat.me i.emptying (ap (top_of w.plan) by ∙ m.0.top) (omega (arith, m.0.place, ap (place_of w.plan) by))

pub empty_inputs-requires-clause-at_home : goal.empty_inputs-requires-clause-at_home
empty_inputs-requires-clause-at_home g c κs within = λ k in_slots by other.
    let board = c.args.self.now in
    let w = board.subject.wiring in
    let kept = at_board g.Y.System.meaning c.args.self.now c.self.inside.subject c.self.inside.table.shared.key c.self.inside.table.shared.table_id c.self.view_is c.self.invariant.kept in
    let at = c.loop-at.at in
    let u = get_or c.listing.result.now at 0 in
    let i = c.loop-at.invariant in
    let m = member_at w.plan c.plan-plan.result.now c.listing.result.now c.args.last c.args.start at c.place-at-end.result kept.wired.axioms c.requires.item c.requires.start (c.plan-plan.ensures ∙ ap (λ b. b.subject.wiring.plan) c.self.view_is) c.listing.ensures c.place-at-end.ensures c.loop-at.auto.at c.loop-at-test.true in
    let first : c.first_slot.result ≡ first_of w.layout u = c.first_slot.ensures ∙ ap (λ (l : LayoutView). first_of l u) (c.layout.ensures ∙ ap (λ b. b.subject.wiring.layout) c.self.view_is) in
    inputs_home w c.args.last c.args.start at u k c.first_slot.result c.loop-at.seat.me c.leave.new.seat.me Gone i.emptying c.leave.ensures.left first by other m.0.top (omega (arith, m.0.place))

pub loop-at-preserved : goal.loop-at-preserved
loop-at-preserved g c =
    let board = c.args.self.now in
    let w = board.subject.wiring in
    let kept = at_board g.Y.System.meaning c.args.self.now c.self.inside.subject c.self.inside.table.shared.key c.self.inside.table.shared.table_id c.self.view_is c.self.invariant.kept in
    let at = c.loop-at.at in
    let u = get_or c.listing.result.now at 0 in
    let i = c.loop-at.invariant in
    let m = member_at w.plan c.plan-plan.result.now c.listing.result.now c.args.last c.args.start at c.place-at-end.result kept.wired.axioms c.requires.item c.requires.start (c.plan-plan.ensures ∙ ap (λ b. b.subject.wiring.plan) c.self.view_is) c.listing.ensures c.place-at-end.ensures c.loop-at.auto.at c.loop-at-test.true in
    let first : c.first_slot.result ≡ first_of w.layout u = c.first_slot.ensures ∙ ap (λ (l : LayoutView). first_of l u) (c.layout.ensures ∙ ap (λ b. b.subject.wiring.layout) c.self.view_is) in
    let last = c.args.last in
    let old = c.args.seat.now.me in
    let me = c.loop-at.seat.me in
    let mid = c.leave.new.seat.me in
    let new = c.empty_inputs.new.seat.me in
    let left = c.leave.ensures.left in
    let in_slots = subst (λ (k : ℕ). k < slots_of w.layout) (sym first) (first_in kept.wired.laid_out u m.0.low).0 in
    let by : reader_of w.layout c.first_slot.result ≡ u = ap (reader_of w.layout) first ∙ first_reader kept.wired.laid_out u m.0.low in
    let apart : u ≢ last = λ q. absurd (omega (arith, m.1, m.0.place, ap (place_of w.plan) q)) in
    let other : c.first_slot.result ≢ first_of w.layout last = λ q. firsts_apart kept.wired.laid_out last u c.requires.item.element m.0.low apart (sym first ∙ q) in
    record {
      same = (c.empty_inputs.ensures.same.0 ∙ c.leave.ensures.same.0 ∙ i.same.0, c.empty_inputs.ensures.same.1 ∙ c.leave.ensures.same.1 ∙ i.same.1);
      taken = taken_more old mid new (taken_one c.first_slot.result old me mid Gone i.taken left) c.empty_inputs.ensures.taken;
      left = λ cell part h. c.empty_inputs.ensures.left cell part (left_empty kept.wired last c.first_slot.result u cell part me mid m.0.low in_slots by m.0.top other left (i.left cell part h));
      emptying = emptied_one kept.wired last c.args.start at u me mid new Gone m.0.low m.0.place c.loop-at.auto.at i.emptying
          (subst (λ (k : ℕ). mid ≡ (take_view k me.0, (k, Gone) ∷ me.1)) first left) c.empty_inputs.ensures.inputs;
    }

pub returns-clause-emptying : goal.returns-clause-emptying
returns-clause-emptying g c =
    let w = c.args.self.now.subject.wiring in
    let end : c.place-at-end.result ≡ place_of w.plan c.args.last = c.place-at-end.ensures ∙ ap (λ (p : PlanView). place_of p c.args.last) (c.plan-plan.ensures ∙ ap (λ b. b.subject.wiring.plan) c.self.view_is) in
    subst (λ (k : ℕ). IsEmptying w c.args.last c.args.start k c.loop-at.seat.me) (omega (arith, c.loop-at-test.false, c.loop-at.auto.at-end, c.loop-at.auto.at, end, c.requires.start.within)) c.loop-at.invariant.emptying
