use Rattle.std.proofs.Common.{◌≡◌, ◌∙◌, ap, length, map, rules}
use Rattle.pk_core.specs.Entries.{standing_of, changed, without_send, with_arrival}
use Rattle.pk_core.proofs.Changed_at.{kept_changed, length_changed, kept_written}
use Rattle.pk_core.proofs.cores.Core.tell.Goals as goal

pub invariant_of-self : goal.invariant_of-self
invariant_of-self g c =
    let items = c.self.inside.entries.items in
    let left = changed (map standing_of items) c.args.u (without_send c.args.v) in
    let in_all : length items ≡ c.self.inside.entries.len = search rules in
    kept_written _ _ _ c.send.new.entries items c.self.inside.entries.len (changed left c.args.v with_arrival)
    (c.send.ensures ∙ ap (λ xs. changed (changed (map standing_of xs) c.args.u (without_send c.args.v)) c.args.v with_arrival) c.deref_mut.ensures.value)
    (length_changed left c.args.v with_arrival ∙ length_changed (map standing_of items) c.args.u (without_send c.args.v)) in_all
    (kept_changed _ _ _ left c.args.v with_arrival (kept_changed _ _ _ (map standing_of items) c.args.u (without_send c.args.v) c.self.invariant (λ x held. held)) (λ x held. held))
