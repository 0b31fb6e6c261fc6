use Rattle.std.proofs.lemmas.Result.{on_ok_weaker}
use Rattle.pk_type_declaration.proofs.StartLemmas.{braced_walked, braced_numbers}
use Rattle.pk_type_declaration.proofs.starts.braced.Goals as goal

pub returns-clause-walked : goal.returns-clause-walked
returns-clause-walked c = on_ok_weaker c.items.result (braced_walked _ _ _ _ _ c.in_ok-item.ensures.walked) c.items.ensures.walked

pub returns-clause-numbers : goal.returns-clause-numbers
returns-clause-numbers c = on_ok_weaker c.items.result (braced_numbers c.args.int_type _ _ _ _ _ _ _ c.in_ok-item.ensures.walked c.in_ok-item.ensures.numbers) c.items.ensures.numbers
