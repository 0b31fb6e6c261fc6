use Rattle.std.proofs.Common.{◌≡◌, ◌<◌, length, vec_len}
use Rattle.std.specs.Prelude.{All}
use Rattle.pk_pieces.specs.Pieces.{PieceOf, put_each}
use Rattle.pk_parts.specs.Kept.{pieces_in}
use Rattle.pk_parts.proofs.kept.put_kept.Given as goal

abbrev pub invariant-loop-item : goal.invariant-loop-item
invariant-loop-item l = record {
  placed : put_each l.pieces (pieces_in l.left.items) ≡ put_each l.initial.pieces (pieces_in l.initial.left.items);
  within : All (λ (p : PieceOf). p.point < length l.pieces) (pieces_in l.left.items);
}

abbrev pub decreases-loop-item : goal.decreases-loop-item
decreases-loop-item l = vec_len l.left
