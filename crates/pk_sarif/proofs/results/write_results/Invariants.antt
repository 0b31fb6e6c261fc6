use Rattle.std.proofs.Common.{◌≡◌, ◌++◌, drop}
use Rattle.pk_sarif.specs.Results.{results}
use Rattle.pk_sarif.specs.Texts.{listed, is_later}
use Rattle.pk_sarif.proofs.results.write_results.Given as goal

-- what is written so far stands before what is left
abbrev pub invariant-loop-k : goal.invariant-loop-k
invariant-loop-k l = record {
  text : l.bytes.items ++ listed l.there (results l.text (drop l.k l.operations)) ≡
      l.initial.bytes.items ++ listed l.later (results l.text l.operations);
  later : is_later l.there (results l.text (drop l.k l.operations)) ≡ is_later l.later (results l.text l.operations);
}
