use Rattle.std.specs.Prelude.{List, ℕ}
use Rattle.std.proofs.Common.{subst}
use Rattle.std.proofs.lemmas.List.{take_rest}
use Rattle.pk_cert.specs.Beginnings.{TextsOf, IsStop}
use Rattle.pk_cert.specs.Pieces.{value_of, IsBetween, IsCount, counted}
use Rattle.pk_cert.proofs.SymbolLemmas.{stops_below_0, reads_below_0}
use Rattle.pk_cert.proofs.symbols.negative.Goals as goal

pub returns-in-Ok : goal.returns-in-Ok
returns-in-Ok c =
    reads_below_0 c.args.bounds c.args.behind c.args.bytes.now c.in-Ok.n (value_of c.longest.result) c.end_of.result c.longest.ensures.value c.end_of.ensures
    c.in-Ok.number c.seen.result c.requires.some c.requires.first
    (subst (λ (x : List ℕ). IsCount 1 (value_of c.longest.result) c.end_of.result x c.in-Ok.number c.in-Ok.n) (take_rest c.args.bytes.now 1) c.in-Ok.ensures) c.seen.ensures

pub returns-in-Err : goal.returns-in-Err
returns-in-Err c =
    stops_below_0 c.args.bounds c.args.behind c.args.bytes.now c.in-Err.n (value_of c.longest.result) c.end_of.result c.longest.ensures.value c.end_of.ensures
    c.requires.some c.requires.first
    (subst (λ (x : List ℕ). IsStop (TextsOf (IsBetween 1 (value_of c.longest.result)) (counted c.end_of.result)) x c.in-Err.n) (take_rest c.args.bytes.now 1) c.in-Err.ensures)
