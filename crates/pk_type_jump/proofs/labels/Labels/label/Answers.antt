use Rattle.std.proofs.Common.{◌∙◌, ap}
use Rattle.std.specs.HashMap.{get_by}
use Rattle.std.specs.Str.{bytes_eq}
use Rattle.pk_type_jump.specs.Views.{labels_in, listed_in}
use Rattle.pk_type_jump.proofs.LabelLemmas.{after_label}
use Rattle.pk_type_jump.proofs.labels.Labels.label.Goals as goal

pub returns : goal.returns
returns c =
    after_label c.args.text.now c.spelling.result.now c.args.within c.args.name (listed_in c.args.self.now) _ (labels_in c.put.new.self) _ _ c.in_ok-old.old _ c.put.new.self.repeated.items
    c.spelling.ensures (ap (λ m. λ q. get_by (λ k. bytes_eq q k.now) m) c.in_ok-repeat.ensures.names) c.in_ok-old.ensures.named c.in_ok-count.ensures (c.in_ok-repeat.ensures.declarations ∙ c.in_ok-old.ensures.declarations)
    c.in_ok-old.ensures.again c.in_ok-repeat.ensures.repeated c.in_ok-old.ensures.repeated
