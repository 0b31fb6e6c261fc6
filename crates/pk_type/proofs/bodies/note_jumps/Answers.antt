use Rattle.std.proofs.Common.{◌∙◌, ap, sym, ◌++◌}
use Rattle.pk_ctypes.specs.declared.words.Rule.TheVariants as rule
use Rattle.pk_type_scope.specs.Failures.{noted}
use Rattle.pk_type_declaration.specs.Views.{walked_in}
use Rattle.pk_type_declaration.specs.Rules.{failing}
use Rattle.pk_type_statement.proofs.CaseLemmas.{failing_twice}
use Rattle.pk_type.specs.Rules.{each_at}
use Rattle.pk_type.proofs.bodies.note_jumps.Goals as goal

pub returns : goal.returns
returns c =
    let w = walked_in c.args.walk.now in
    let a = each_at rule.Label c.args.labels.now.repeated.items in
    let b = each_at rule.Label c.args.jumps.now.unknown.items in
    let d = each_at rule.Jump c.args.jumps.now.misplaced.items in
    (c.note_all-3.ensures ∙ ap (λ ps. failing noted (each_at rule.Jump ps) (walked_in c.note_all-2.new.walk)) c.deref-3.ensures.value)
    ∙ (ap (failing noted d) ((c.note_all-2.ensures ∙ ap (λ ps. failing noted (each_at rule.Label ps) (walked_in c.note_all.new.walk)) c.deref-2.ensures.value)
    ∙ (ap (failing noted b) (c.note_all.ensures ∙ ap (λ ps. failing noted (each_at rule.Label ps) w) c.deref.ensures.value) ∙ sym (failing_twice a b w)))
    ∙ sym (failing_twice (a ++ b) d w))
