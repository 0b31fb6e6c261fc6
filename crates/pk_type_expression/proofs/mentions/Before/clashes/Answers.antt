-- Either test, by what the sets stand for.
use Rattle.std.proofs.Common.{◌∙◌}
use Rattle.pk_type_expression.specs.Views.{mentioned_in}
use Rattle.pk_type_expression.proofs.MentionLemmas.{clashes_then, clashes_else}
use Rattle.pk_type_expression.proofs.mentions.Before.clashes.Goals as goal

pub returns-then-named : goal.returns-then-named
returns-then-named c = λ before h. c.if-named.true ∙ clashes_then before (mentioned_in c.args.mentions.now) c.args.self.now _ _ _ _ h c.deref.ensures.value c.deref-2.ensures.value c.meets-named.ensures c.meets-changed.ensures c.if-named.true

pub returns-else-named : goal.returns-else-named
returns-else-named c = λ before h. clashes_else before (mentioned_in c.args.mentions.now) c.args.self.now _ _ _ _ h c.deref.ensures.value c.deref-2.ensures.value c.meets-named.ensures c.meets-changed.ensures c.if-named.false
