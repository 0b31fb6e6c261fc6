use Rattle.std.proofs.Common.{◌≡◌, ◌∙◌, ◌+◌, ◌≤◌, List, Option, ap, length, arith, rules}
use Rattle.pk_typed.specs.declared.units.CallSite.{CallSite}
use Rattle.pk_typed.specs.Views.{unit_tree}
use Rattle.pk_draft.specs.declared.drafts.Size.{Size}
use Rattle.pk_draft.specs.Shown.{drafted}
use Rattle.pk_lower.specs.Parts.{context, whole_size}
use Rattle.pk_lower.proofs.ProgramLemmas.{parts_next, parts_end, points_fit}
use Rattle.pk_lower.proofs.programs.draft.Goals as goal

pub loop-number-preserved : goal.loop-number-preserved
loop-number-preserved c =
    let u = unit_tree c.args.unit.now in
    let first : c.in_ok-first.first ≡ c.loop-number.first + length c.calls.result.now = search rules in
    parts_next u c.in_ok-sizes.sizes.items c.args.paths.now c.loop-number.number c.loop-number.first c.in_ok-first.first (length c.calls.result.now) c.path-path.result _ _ (drafted c.loop-number.draft) _ c.path-path.ensures
    (c.context-context.ensures ∙ ap (λ (s : List (Option Size)). context u s c.loop-number.number c.loop-number.first c.path-path.result.function) c.deref-in-loop-number.ensures.value)
    c.region-region.ensures c.in_ok-lower_part.ensures first (ap (λ (xs : List CallSite). length xs) c.calls.ensures)
    ∙ c.loop-number.invariant

pub returns : goal.returns
returns c =
    let u = unit_tree c.args.unit.now in
    let past : length c.args.paths.now ≤ c.loop-number.number = omega arith in (
      parts_end u c.in_ok-sizes.sizes.items c.args.paths.now c.loop-number.number c.loop-number.first (drafted c.loop-number.draft) past ∙ c.loop-number.invariant,
      points_fit u c.args.paths.now c.in_ok-sizes.sizes.items _ c.in_ok-sizes.ensures (c.whole_size-size.ensures ∙ ap (λ (s : List (Option Size)). whole_size s c.args.paths.now) c.deref.ensures.value) c.if-size-ge-POINT_LIMIT.false,
    )
