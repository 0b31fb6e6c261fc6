use Rattle.std.proofs.Common.{◌∙◌, ap, ◌++◌, ◌∷◌, []}
use Rattle.std.specs.Prelude.{List, replicate}
use Rattle.std.proofs.Math.Nat.{le_antisymm}
use Rattle.std.proofs.lemmas.List.{replicate_more}
use Rattle.pk_octagons.specs.declared.packs.Place.{Place}
use Rattle.pk_octagons.proofs.packs.no_places.Goals as goal

pub loop-preserved : goal.loop-preserved
loop-preserved c = c.in_ok-push.ensures.items ∙ ap (λ (x : List Place). c.loop.table.items ++ x ∷ []) c.new.ensures.items ∙ ap (λ (xs : List (List Place)). xs ++ [] ∷ []) c.loop.invariant ∙ replicate_more c.loop.counter []

pub returns : goal.returns
returns c = c.loop.invariant ∙ ap (λ n. replicate n []) (le_antisymm c.loop.auto.counter-end c.loop-test.false)
