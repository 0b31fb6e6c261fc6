-- The reduction of a state: what the values say of the octagons, their closings, and what these say of the values.
use Rattle.std.specs.Prelude.{List, [], ◌∷◌, Option, Some}
use Rattle.pk_value.specs.Known.{Known, red_known}
use Rattle.pk_octmat.specs.Octagon.{Octagon}
use Rattle.pk_octagons.specs.Changes.{then_with}
use Rattle.pk_octagons.specs.Reduced.{with_first, closed_octagons, bounded_values}
use Rattle.pk_state.specs.Layouts.{Layout}
use Rattle.pk_state.specs.Facts.{Facts}

-- each value reduced; none where one is empty
abbrev pub red_all : List Known → Option (List Known)
red_all [] = Some []
red_all (k ∷ ks) = with_first (red_known k) (red_all ks)

-- with the values that the closed octagons leave, reduced once more
abbrev pub with_closed : Layout → List Known → List Octagon → Option Facts
with_closed l vs ms =
    then_with (bounded_values l.packs ms vs) (λ ws.
    then_with (red_all ws) (λ us.
    Some (record { values = us; octagons = ms })))

-- The reduction; none where a value or an octagon is empty.
abbrev pub reduced_facts : Layout → Facts → Option Facts
reduced_facts l f =
    then_with (red_all f.values) (λ vs. then_with (closed_octagons l.packs vs f.octagons) (with_closed l vs))

abbrev pub reduced : Layout → Option Facts → Option Facts
reduced l o = then_with o (reduced_facts l)
