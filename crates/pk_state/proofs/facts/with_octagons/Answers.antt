use Rattle.std.proofs.Common.{ap, sym, subst, ◌∙◌, ◌≡◌, Some}
use Rattle.std.specs.Prelude.{List}
use Rattle.pk_value.specs.Known.{Known}
use Rattle.pk_octagons.specs.Reduced.{BoundNone}
use Rattle.pk_state.specs.Facts.{Facts}
use Rattle.pk_state.specs.Marks.{IsSettled}
use Rattle.pk_state.proofs.Settled.{closed_rests}
use Rattle.pk_state.proofs.facts.with_octagons.Goals as goal
use Rattle.pk_state.proofs.facts.with_octagons.Goals.{Then-is_none_listed}

-- no value was changed
still : (c : Then-is_none_listed) → (c.bound_values.new.values ≡ c.args.values) × BoundNone c.args.frame.now.packs c.args.values c.args.octagons
still c =
    let l = c.args.frame.now in
    let it = c.in_ok-bound_values.ensures.still c.if-not-branch.false (sym c.deref.ensures.value ∙ c.is_none_listed.ensures c.if-is_none_listed.true) in
    (it.0, subst (λ packs. BoundNone packs c.args.values c.args.octagons) c.packs.ensures it.1)

pub returns-then-is_none_listed-clause-value : goal.returns-then-is_none_listed-clause-value
returns-then-is_none_listed-clause-value c =
    let ms = c.args.octagons in
    ap (λ (us : List Known). let r : Facts = record { values = us; octagons = ms } in Some r) (still c).0 ∙ sym (closed_rests c.args.frame.now c.args.values ms c.requires.values c.requires.tight c.requires.octagons (still c).1)

pub returns-then-is_none_listed-clause-settled : goal.returns-then-is_none_listed-clause-settled
returns-then-is_none_listed-clause-settled c = λ e.
    let ms = c.args.octagons in
    subst (λ (us : List Known). IsSettled c.args.frame.now (record { values = us; octagons = ms })) (sym (still c).0) (record { tight = c.requires.tight; resting = c.requires.rest c.if-rest.true; bounded = (still c).1 })
