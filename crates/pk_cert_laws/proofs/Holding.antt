-- What a check that ends well says of the runs.
use Rattle.pk_transfer.specs.Graphs.{GraphsAreOver, layout_of}
use Rattle.pk_sound.specs.Families.{IsLaidOut}
use Rattle.pk_sound.specs.FamilyRuns.{FamiliesHoldRuns, FamiliesJudge, FamiliesBound, FamiliesTellFaults}
use Rattle.pk_cert_check.specs.Checked.{known_by}
use Rattle.pk_cert_laws.specs.Runs.{CheckedCellsHoldRuns}

pub checked_cells_hold_runs : GraphsAreOver → FamiliesHoldRuns → FamiliesJudge → FamiliesBound → FamiliesTellFaults → CheckedCellsHoldRuns
checked_cells_hold_runs over holds judge bound tell g oct cells made few solved =
    let laid : IsLaidOut g (layout_of g oct) = record { graph = made; layout = over.layouts g oct few; over = over.over g oct } in
    let known = known_by (layout_of g oct) cells in
    record {
      stores = holds g (layout_of g oct) known laid solved;
      judged = judge g (layout_of g oct) known laid solved;
      bounds = bound g (layout_of g oct) known laid solved;
      faults = tell g (layout_of g oct) known laid solved;
    }
