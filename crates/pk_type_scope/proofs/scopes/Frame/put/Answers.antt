-- The clause of the map, at a key of these bytes.
use Rattle.std.proofs.Common.{refl}
use Rattle.pk_type_scope.proofs.ScopeLemmas.{at_tag, at_name}
use Rattle.pk_type_scope.proofs.scopes.Frame.put.Goals as goal

pub returns-in_ok-old-clause-declared : goal.returns-in_ok-old-clause-declared
returns-in_ok-old-clause-declared c =
    rw c.if-is_tag.true
    (λ q. at_tag q.is_tag c.args.name.now q.bytes c.args.declaration c.args.self.now (record { declared = c.args.self.now.declared; tags = c.insert.new.self }) refl (c.in_ok-old.ensures.updates.0 (record { ref_ptr = (0, 0); now = q.bytes })))

pub returns-in_ok-old-2-clause-declared : goal.returns-in_ok-old-2-clause-declared
returns-in_ok-old-2-clause-declared c =
    rw c.if-is_tag.false
    (λ q. at_name q.is_tag c.args.name.now q.bytes c.args.declaration c.args.self.now (record { declared = c.insert-else-is_tag.new.self; tags = c.args.self.now.tags }) refl (c.in_ok-old-2.ensures.updates.0 (record { ref_ptr = (0, 0); now = q.bytes })))
