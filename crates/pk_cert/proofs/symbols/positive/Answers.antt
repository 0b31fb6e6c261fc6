use Rattle.pk_cert.specs.Pieces.{value_of}
use Rattle.pk_cert.proofs.SymbolLemmas.{stops_above, reads_above}
use Rattle.pk_cert.proofs.symbols.positive.Goals as goal

pub returns-in-Ok : goal.returns-in-Ok
returns-in-Ok c =
    reads_above c.args.bounds c.args.behind c.args.bytes.now c.in-Ok.n (value_of c.longest.result) c.end_of.result c.longest.ensures.value c.end_of.ensures
    c.in-Ok.number c.seen.result c.in-Ok.ensures c.seen.ensures

pub returns-in-Err : goal.returns-in-Err
returns-in-Err c =
    stops_above c.args.bounds c.args.behind c.args.bytes.now c.in-Err.n (value_of c.longest.result) c.end_of.result c.longest.ensures.value c.end_of.ensures
    c.requires c.in-Err.ensures
