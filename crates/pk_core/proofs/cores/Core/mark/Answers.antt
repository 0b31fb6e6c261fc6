use Rattle.std.proofs.Common.{◌≡◌, ◌∙◌, ap, length, map, rules}
use Rattle.pk_core.specs.Entries.{standing_of, changed, with_new_status}
use Rattle.pk_core.proofs.Changed_at.{kept_changed, length_changed, kept_written}
use Rattle.pk_core.proofs.cores.Core.mark.Goals as goal

pub invariant_of-self : goal.invariant_of-self
invariant_of-self g c =
    let items = c.self.inside.entries.items in
    let in_all : length items ≡ c.self.inside.entries.len = search rules in
    kept_written _ _ _ c.set_status.new.entries items c.self.inside.entries.len (changed (map standing_of items) c.args.e (with_new_status c.args.status))
    (c.set_status.ensures ∙ ap (λ xs. changed (map standing_of xs) c.args.e (with_new_status c.args.status)) c.deref_mut.ensures.value)
    (length_changed (map standing_of items) c.args.e (with_new_status c.args.status)) in_all
    (kept_changed _ _ _ (map standing_of items) c.args.e (with_new_status c.args.status) c.self.invariant (λ x held. held))
