use Rattle.std.specs.Prelude.{List, [], Some}
use Rattle.std.proofs.Common.{arith, refl, sym, ap}
use Rattle.pk_cert.specs.declared.rows.Symbol.{Symbol}
use Rattle.pk_cert.specs.declared.rows.Row.TheVariants.{Symbols}
use Rattle.pk_cert.proofs.Lines.{empty_stops, line_stops_at, line_read}
use Rattle.pk_cert.proofs.reading.line.Goals as goal

pub returns-in-Err : goal.returns-in-Err
returns-in-Err c = empty_stops c.args.shape c.args.bytes.now c.in-Err.n c.requires.first c.if-count-eq0.true c.in-Err.ensures

pub returns-in-Ok : goal.returns-in-Ok
returns-in-Ok c = record {
  line = Some [];
  is = record { size = sym c.if-count-eq0.true; each = tt };
  seen = ap (λ (l : List Symbol). Some l) c.new.ensures.items;
  first = c.in-Ok.ensures;
}

pub returns-in-Err-symbols : goal.returns-in-Err-symbols
returns-in-Err-symbols c = line_stops_at c.args.shape c.args.bytes.now c.in-Err-symbols.e c.requires.first (omega arith) c.in-Err-symbols.ensures

pub returns-in-Ok-symbols : goal.returns-in-Ok-symbols
returns-in-Ok-symbols c =
    line_read c.args.shape c.args.bytes.now (Symbols c.in-Ok-symbols.symbols) c.in-Ok-symbols.symbols.items c.in-Ok-symbols.at (omega arith) refl c.in-Ok-symbols.ensures
