use Rattle.std.proofs.Common.{◌≡◌, ◌<◌, length, vec_len}
use Rattle.std.specs.Prelude.{All}
use Rattle.pk_pieces.specs.Pieces.{PieceOf, put_each}
use Rattle.pk_pieces.proofs.places.Pieces.put_all.Given as goal

abbrev pub invariant-loop-piece : goal.invariant-loop-piece
invariant-loop-piece l = record {
  placed : put_each l.self l.left.items ≡ put_each l.initial.self l.initial.left.items;
  within : All (λ (p : PieceOf). p.point < length l.self) l.left.items;
}

abbrev pub decreases-loop-piece : goal.decreases-loop-piece
decreases-loop-piece l = vec_len l.left
