use Rattle.std.proofs.Common.{◌≡◌, ◌∙◌, ◌<◌, ◌^◌, ◌-◌, ℕ, Some, slice_get, ap, sym, length, map, refl, subst, arith, IsTrue}
use Rattle.std.specs.Arc.{arc_value}
use Rattle.pk_plan.specs.Plans.{members_of, inner_count}
use Rattle.pk_core.specs.declared.entries.Entry.{Entry}
use Rattle.pk_core.specs.declared.events.Status.TheVariants.{Waiting}
use Rattle.pk_core.specs.Entries.{standing_of, after_run, restarted}
use Rattle.pk_core.proofs.Changed_at.{kept_written, written_all, room_at}
use Rattle.pk_core.proofs.Restarting.{restart_long, restart_kept, gone_back, went_back}
use Rattle.pk_core.proofs.Asked.{as_long}
use Rattle.pk_plan.specs.Axioms.{Axioms}
use Rattle.pk_plan.specs.Shape.{exits}
use Rattle.pk_core.proofs.cores.Core.go_back.Goals as goal

pub component_of-component-requires : goal.component_of-component-requires
component_of-component-requires g c = subst (λ v. IsTrue (exits v.plan c.args.x)) (sym c.self.view_is) c.requires.exit

pub restart-requires-clause-long : goal.restart-requires-clause-long
restart-requires-clause-long g c = ap length c.deref_mut.ensures.value ∙ as_long c.self.inside.entries.items (map standing_of c.self.inside.entries.items) refl ∙ c.self.invariant.long

pub restart-requires-clause-component : goal.restart-requires-clause-component
restart-requires-clause-component g c = c.component_of-component.ensures.of

pub restart-requires-clause-room : goal.restart-requires-clause-room
restart-requires-clause-room g c =
    subst (λ (e : ℕ). (x : Entry g.row.Y-Cell.Denot) → slice_get c.deref_mut.result.now e ≡ Some x → x.run < 2 ^ 64 - 1) (sym c.component_of-component.ensures.exit)
    (room_at c.deref_mut.result.now c.args.self.now.elements c.args.x (2 ^ 64 - 1) (ap (map standing_of) c.deref_mut.ensures.value ∙ ap (λ v. v.elements) c.self.view_is) c.requires.room)

pub returns-clause-axioms : goal.returns-clause-axioms
returns-clause-axioms g c = subst (λ v. Axioms v.plan) c.self.view_is c.axioms.ensures.axioms

pub returns-clause-new : goal.returns-clause-new
returns-clause-new g c =
    let items = c.self.inside.entries.items in
    let p = c.self.inside.plan.now in
    let k = c.component_of-component.result.now in
    let cell = arc_value c.args.cell in
    let gone : map standing_of c.restart.new.entries ≡ restarted p k cell (map standing_of items) =
    gone_back p k cell (map standing_of items) (map standing_of c.deref_mut.result.now) (map standing_of c.restart.new.entries) c.restart.ensures (ap (map standing_of) c.deref_mut.ensures.value) in
    let long : length (restarted p k cell (map standing_of items)) ≡ length (map standing_of items) = restart_long p k (members_of p k) (map standing_of items) k.exit (after_run (Waiting (inner_count p k k.exit)) cell) in
    went_back c.self.inside.system.now p k c.args.x cell (map standing_of items) _ c.args.self.now
    c.self.view_is (written_all c.restart.new.entries items c.self.inside.entries.len (restarted p k cell (map standing_of items)) gone long (omega (arith, c.self.inside.entries.ok.0))) c.component_of-component.ensures.component

pub invariant_of-self : goal.invariant_of-self
invariant_of-self g c =
    let items = c.self.inside.entries.items in
    let p = c.self.inside.plan.now in
    let k = c.component_of-component.result.now in
    let ms = members_of p k in
    let status = Waiting (inner_count p k k.exit) in
    let cell = arc_value c.args.cell in
    let at_x = subst (λ v. g.Y.System.may_hold v.system c.args.x cell) (sym c.self.view_is) c.requires.held in
    let held = subst (λ (e : ℕ). g.Y.System.may_hold c.self.inside.system.now e cell) (sym c.component_of-component.ensures.exit) at_x in
    let gone : map standing_of c.restart.new.entries ≡ restarted p k cell (map standing_of items) =
    gone_back p k cell (map standing_of items) (map standing_of c.deref_mut.result.now) (map standing_of c.restart.new.entries) c.restart.ensures (ap (map standing_of) c.deref_mut.ensures.value) in
    kept_written _ _ _ c.restart.new.entries items c.self.inside.entries.len (restarted p k cell (map standing_of items)) gone
    (restart_long p k ms (map standing_of items) k.exit (after_run status cell)) (omega (arith, c.self.inside.entries.ok.0))
    (restart_kept _ _ _ p k ms (map standing_of items) status cell c.self.invariant held)
