use Rattle.std.proofs.Common.{sym, [], Bor}
use Rattle.std.proofs.lemmas.List.{get_or-map}
use Rattle.pk_graph.specs.Steps.{Numbers}
use Rattle.pk_runner.proofs.runs.choice.Goals as goal

pub returns : goal.returns
returns c = sym (get_or-map (λ (zs : Bor Numbers). zs.now) c.args.choices.now c.args.taken _ [] c.requires)
