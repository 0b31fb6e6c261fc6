-- Each set has those of its list too.
use Rattle.pk_type_expression.proofs.MentionLemmas.{set_of_slice}
use Rattle.pk_type_expression.proofs.mentions.Before.add.Goals as goal

pub returns : goal.returns
returns c = λ before h. record {
  named = set_of_slice before.named c.args.mentions.now.named.items c.deref.result.now c.args.self.now.named c.add_all.new.self c.deref.ensures.value h.named c.in_ok-add_all.ensures;
  changed = set_of_slice before.changed c.args.mentions.now.changed.items c.deref-2.result.now c.args.self.now.changed c.add_all-2.new.self c.deref-2.ensures.value h.changed c.in_ok-add_all-2.ensures;
}
