use Rattle.std.proofs.Common.{[]}
use Rattle.pk_typenames.proofs.LawLemmas as lemmas
use Rattle.pk_typenames.proofs.laws.one_marking.Goals as goal

pub returns : goal.returns
returns c = record { some = lemmas.some_marking; one = λ text tokens a b g h. lemmas.one_marking text [] tokens a b g h }
