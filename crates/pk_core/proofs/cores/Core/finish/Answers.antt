use Rattle.std.proofs.Common.{◌≡◌, ◌∙◌, ◌^◌, ◌-◌, ap, sym, length, map, subst, arith}
use Rattle.std.specs.Arc.{arc_value}
use Rattle.pk_core.specs.declared.events.Status.TheVariants.{Done}
use Rattle.pk_core.specs.Entries.{standing_of, changed, after_run, with_sends}
use Rattle.pk_core.proofs.Changed_at.{kept_changed, length_changed, kept_written, room_at}
use Rattle.pk_core.proofs.cores.Core.finish.Goals as goal

pub finish-requires-clause-room : goal.finish-requires-clause-room
finish-requires-clause-room g c =
    room_at c.deref_mut.result.now c.args.self.now.elements c.args.e (2 ^ 64 - 1) (ap (map standing_of) c.deref_mut.ensures.value ∙ ap (λ v. v.elements) c.self.view_is) c.requires.room

pub invariant_of-self : goal.invariant_of-self
invariant_of-self g c =
    let items = c.self.inside.entries.items in
    let in_all : length items ≡ c.self.inside.entries.len = omega (arith, c.self.inside.entries.ok.0) in
    let run = after_run Done (arc_value c.args.cell) in
    let leave = with_sends c.in_ok-sends.sends.items in
    let ran = changed (map standing_of items) c.args.e run in
    let held = subst (λ v. g.Y.System.may_hold v.system c.args.e (arc_value c.args.cell)) (sym c.self.view_is) c.requires.held in
    kept_written _ _ _ c.finish.new.entries items c.self.inside.entries.len (changed ran c.args.e leave)
    (c.finish.ensures ∙ ap (λ xs. changed (changed (map standing_of xs) c.args.e run) c.args.e leave) c.deref_mut.ensures.value)
    (length_changed ran c.args.e leave ∙ length_changed (map standing_of items) c.args.e run) in_all
    (kept_changed _ _ _ ran c.args.e leave (kept_changed _ _ _ (map standing_of items) c.args.e run c.self.invariant (λ x h. held)) (λ x h. h))
