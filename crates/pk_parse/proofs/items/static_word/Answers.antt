use Rattle.pk_parse.proofs.ItemLemmas.{run_static}
use Rattle.pk_parse.proofs.items.static_word.Goals as goal

pub returns-in-Some-clause-reads : goal.returns-in-Some-clause-reads
returns-in-Some-clause-reads c = λ b h. run_static _ b _ c.in-Some.token c.in-Some.rest.now c.in-Some.ensures h
