-- Sets of spellings.
use Rattle.std.specs.Prelude.{ℕ, List, Option, Some, None, Bool, true, if◌then◌else◌}
use Rattle.std.specs.Str.{bytes_eq}
use Rattle.indexmap.specs.IndexMap.{get_by}
use Rattle.pk_typenames.specs.declared.spellings.Spellings.{Spellings}

abbrev pub Layer : Type 0
Layer = List ℕ → Option Bool

abbrev pub empty : Layer
empty q = None

abbrev pub with_name : Layer → List ℕ → Layer
with_name l name q = if bytes_eq name q then Some true else l q

-- with the pending spelling too, where its declaration ends
abbrev pub noted : Layer → Bool → Option (List ℕ) → Layer
noted l ends None q = l q
noted l ends (Some name) q = if ends then with_name l name q else l q

-- what a `Spellings` shows
abbrev pub layer_of : Spellings → Layer
layer_of f q = get_by (λ k. bytes_eq q k.now) f.declared
