use Rattle.std.proofs.Common.{◌≡◌, ◌++◌, take, drop}
use Rattle.pk_value.specs.Known.{narrowed}
use Rattle.pk_blocks.specs.Rows.{merged_from}
use Rattle.pk_octagons.specs.Values.{type_at, AreMarked}
use Rattle.pk_state.proofs.values.narrow_values.Given as goal

-- so many are narrowed
abbrev pub invariant-loop-x : goal.invariant-loop-x
invariant-loop-x l = (l.out ≡ merged_from (λ x. narrowed (type_at l.frame.types x)) 0 (take l.x l.held) (take l.x l.next) ++ drop l.x l.held) × AreMarked l.out l.loose.items
