-- Every text and entry has an end.
use Rattle.std.specs.Prelude.{ℕ, List}
use Rattle.pk_front.specs.Laws.{HasEnd}

-- They lead to call paths, or are left for a cause other than want of memory.
abbrev pub EveryTextEnds : Type 0
EveryTextEnds = (text entry : List ℕ) → HasEnd text entry
