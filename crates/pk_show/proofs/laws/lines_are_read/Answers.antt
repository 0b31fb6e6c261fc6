use Rattle.std.proofs.Common.{refl, lit≤}
use Rattle.pk_show.proofs.LineLemmas.{opening_read, heading_read, value_read, bound_read, counts_read}
use Rattle.pk_show.proofs.PathLemmas.{path_read, path_lacks}
use Rattle.pk_show.proofs.laws.lines_are_read.Goals as goal

pub returns : goal.returns
returns c = record {
  path = path_read;
  one_word = λ p h. path_lacks 32 p refl (lit≤ tt) refl refl refl h;
  opening = opening_read;
  heading = heading_read;
  value = value_read;
  bound = bound_read;
  counts = counts_read;
}
