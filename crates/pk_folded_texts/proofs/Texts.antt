-- The access that is evaluated is the one at the place, since no two of a text's graph are the same.
use Rattle.std.specs.Prelude.{◌≡◌, ℕ, zero, suc, ◌<◌, List, [], ◌∷◌, length, Contains, Some, slice_get, slice_index_or}
use Rattle.std.proofs.Common.{arith, sym, ap, ◌∙◌}
use Rattle.pk_graph.specs.Accesses.{AccessOf}
use Rattle.pk_access_laws.specs.Laws.{NoneTwice, IsSame}

at_index : (xs : List AccessOf) (k : ℕ) (a : AccessOf) → k < length xs → slice_index_or xs k a ≡ a → slice_get xs k ≡ Some a
at_index [] k a l h = absurd (omega (arith, l))
at_index (x ∷ xs) zero a l h = ap Some h
at_index (x ∷ xs) (suc k) a l h = at_index xs k a (omega (arith, l)) h

pub one_access : (xs : List AccessOf) (a b : AccessOf) → NoneTwice xs → Contains xs a → Contains xs b → IsSame a b → a ≡ b
one_access xs a b none h k same =
    let first = at_index xs h.0 a h.1 h.2 in
    let second = at_index xs k.0 b k.1 k.2 in
    let both : Some a ≡ Some b = sym first ∙ ap (slice_get xs) (none h.0 k.0 a b first second same) ∙ second in
    cc both
