use Rattle.std.proofs.Common.{ℕ, ◌+◌, ◌<◌, length, set, sym, ap, subst, arith}
use Rattle.pk_board.proofs.Reading_slots.{AreReadBelow, AreReadTo, first_in, read_none, read_first, read_input, read_all_of, read_whole}
use Rattle.pk_board.proofs.lean.readers.Goals as goal

pub index_mut-requires : goal.index_mut-requires
index_mut-requires g c = omega (arith, c.first_slot-in-loop-e.ensures, (first_in c.requires c.loop-e.e c.loop-e-test.true).0, c.loop-e.invariant.long, c.loop-e.readers.ok)

pub loop-e-init : goal.loop-e-init
loop-e-init g c = read_none c.args.layout.now c.in_ok-readers.readers.items (grind (arith, c.in_ok-readers.ensures.items, c.first_slot.ensures, c.requires.ends))

pub loop-place-init : goal.loop-place-init
loop-place-init g c =
    let l = c.args.layout.now in
    let e = c.loop-e.e in
    let rs = c.loop-e.readers.items in
    subst (λ (k : ℕ). AreReadTo l e 0 (set rs k e)) (sym c.first_slot-in-loop-e.ensures) (read_first c.requires e rs c.loop-e-test.true c.loop-e.invariant)

pub loop-place-preserved : goal.loop-place-preserved
loop-place-preserved g c =
    let l = c.args.layout.now in
    let e = c.loop-e.e in
    let rs = c.loop-place.readers.items in
    let in_range : c.loop-place.place < length ((g.Y.System.meaning c.args.system.now).reads e) = omega (arith, c.loop-place-test.true, ap length c.reads-place-end.ensures) in
    subst (λ (k : ℕ). AreReadTo l e (c.loop-place.place + 1) (set rs k e)) (sym c.input_slot.ensures) (read_input c.requires e c.loop-place.place rs c.loop-e-test.true in_range c.loop-place.invariant)

pub loop-e-preserved : goal.loop-e-preserved
loop-e-preserved g c =
    read_all_of c.requires c.loop-e.e c.loop-place.place c.loop-place.readers.items c.loop-e-test.true (omega (arith, c.loop-place-test.false, c.loop-place.auto.place-end, ap length c.reads-place-end.ensures)) c.loop-place.invariant

pub returns : goal.returns
returns g c = read_whole c.requires c.loop-e.readers.items (subst (λ (n : ℕ). AreReadBelow c.args.layout.now n c.loop-e.readers.items) (omega (arith, c.loop-e-test.false, c.loop-e.auto.e-end)) c.loop-e.invariant)
