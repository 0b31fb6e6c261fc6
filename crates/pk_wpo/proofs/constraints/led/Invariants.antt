use Rattle.std.proofs.Common.{◌≡◌, length}
use Rattle.pk_wpo.specs.Layouts.{end_number}
use Rattle.pk_plan.proofs.Drawing.{Rows, RowTo}
use Rattle.pk_wpo.proofs.Steps.{LedTo}
use Rattle.pk_wpo.proofs.constraints.led.Given as goal

-- the marks of what the elements so far lead into
abbrev pub invariant-loop-a : goal.invariant-loop-a
invariant-loop-a l =
    record {
      long : length l.led.items ≡ end_number l.layout;
      marks : LedTo l.layout l.constraints (Rows l.constraints l.a) l.led.items;
    }

abbrev pub invariant-loop-b : goal.invariant-loop-b
invariant-loop-b l =
    record {
      long : length l.led.items ≡ end_number l.layout;
      marks : LedTo l.layout l.constraints (RowTo l.constraints l.a l.b-items l.b-index) l.led.items;
    }
