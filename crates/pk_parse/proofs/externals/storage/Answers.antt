use Rattle.std.proofs.Common.{refl, sym, ◌∙◌}
use Rattle.pk_parse.proofs.RunExternals.{run_storage}
use Rattle.pk_parse.proofs.externals.storage.Goals as goal

pub returns-in-Some-storage_word-clause-reads : goal.returns-in-Some-storage_word-clause-reads
returns-in-Some-storage_word-clause-reads c = λ before.
    run_storage _ before _ c.in-Some.token.now c.in-Some.rest.now c.in-Some-storage_word.word c.in-Some.ensures.cases.0 (sym c.storage_word.ensures ∙ c.in-Some-storage_word.is)

pub returns-in_default-clause-reads : goal.returns-in_default-clause-reads
returns-in_default-clause-reads c = λ before. refl

pub returns-in-None-clause-reads : goal.returns-in-None-clause-reads
returns-in-None-clause-reads c = λ before. refl
