-- What a state knows: a value of each variable and an octagon for each pack, or that no run comes there.
use Rattle.std.specs.Prelude.{◌≡◌, ℕ, ◌<◌, true, List, map, length, ℤ, Option, Some, None}
use Rattle.pk_value.specs.Known.{Known, any_of}
use Rattle.pk_value.specs.Known as known
use Rattle.pk_octmat.specs.Octagon.{Octagon}
use Rattle.pk_blocks.specs.Rows.{merged_from}
use Rattle.pk_octagons.specs.Values.{type_at, known_at, AreValues}
use Rattle.pk_octagons.specs.Octagons.{AreOctagons, AreBelow, top_octagons, joined_octagons, widened_octagons, narrowed_octagons}
use Rattle.pk_state.specs.Layouts.{Layout}

-- what is known of each variable, and of those of each pack together
pub record Facts : Type 0 where
  pub values : List Known
  pub octagons : List Octagon

-- the variables, and what is known; none where no run comes there
pub record Stated : Type 0 where
  pub layout : Layout
  pub facts : Option Facts

-- values of the layout's types, and an octagon for each of its packs
pub record AreFacts (l : Layout) (f : Facts) : Type 0 where
  pub values : AreValues l.types f.values
  pub octagons : AreOctagons l.packs f.octagons

abbrev pub AreFactsIf : Layout → Option Facts → Type 0
AreFactsIf l None = Unit {0}
AreFactsIf l (Some f) = AreFacts l f

-- ---- part by part

abbrev pub joined_values : List Known → List Known → List Known
joined_values = merged_from (λ x. known.joined) 0

abbrev pub widened_values : Layout → List ℤ → List Known → List Known → List Known
widened_values l thresholds = merged_from (λ x. known.widened (type_at l.types x) thresholds) 0

abbrev pub narrowed_values : Layout → List Known → List Known → List Known
narrowed_values l = merged_from (λ x. known.narrowed (type_at l.types x)) 0

-- no fact is neutral for a join
abbrev pub joined : Option Facts → Option Facts → Option Facts
joined None b = b
joined (Some a) None = Some a
joined (Some a) (Some b) =
    Some (record {
      values = joined_values a.values b.values;
      octagons = joined_octagons a.octagons b.octagons;
    })

abbrev pub widened : Layout → List ℤ → Option Facts → Option Facts → Option Facts
widened l thresholds None n = n
widened l thresholds (Some h) None = Some h
widened l thresholds (Some h) (Some n) =
    Some (record {
      values = widened_values l thresholds h.values n.values;
      octagons = widened_octagons h.octagons n.octagons;
    })

abbrev pub narrowed : Layout → Option Facts → Option Facts → Option Facts
narrowed l None n = None
narrowed l (Some h) None = Some h
narrowed l (Some h) (Some n) =
    Some (record {
      values = narrowed_values l h.values n.values;
      octagons = narrowed_octagons h.octagons n.octagons;
    })

-- each part of a is within that of b; no fact is below all
pub record AreWithin (a b : Facts) : Type 0 where
  pub values : (x : ℕ) → x < length a.values → known.is_within (known_at a.values x) (known_at b.values x) ≡ true
  pub octagons : AreBelow a.octagons b.octagons

abbrev pub IsBelow : Option Facts → Option Facts → Type 0
IsBelow None b = Unit {0}
IsBelow (Some a) None = ⊥
IsBelow (Some a) (Some b) = AreWithin a b

-- any number of each variable's type, and no bound
abbrev pub top_facts : Layout → Facts
top_facts l = record { values = map any_of l.types; octagons = top_octagons l.packs }
