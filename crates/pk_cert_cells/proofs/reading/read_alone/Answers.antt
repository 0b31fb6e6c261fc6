use Rattle.pk_cert_cells.proofs.reading.read_alone.Goals as goal

pub returns-in_ok-add_cell-in-Ok-clause-line : goal.returns-in_ok-add_cell-in-Ok-clause-line
returns-in_ok-add_cell-in-Ok-clause-line c =
    let r = c.in-Ok.ensures in
    record {
      line = r.line;
      is = r.is;
      first = r.first;
      cells_of = λ lines size h. c.in_ok-add_cell-in-Ok.ensures.cells lines r.line size r.seen h;
    }
