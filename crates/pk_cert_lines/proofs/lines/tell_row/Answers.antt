use Rattle.std.proofs.Common.{◌≡◌, ℕ, refl, sym, subst, arith, ◌∙◌, inl, inr}
use Rattle.std.specs.Prelude.{Option, IfSome}
use Rattle.std.proofs.lemmas.Bool.{cases_eq}
use Rattle.pk_state.specs.Changes.{known_in}
use Rattle.pk_cert_lines.proofs.lines.tell_row.Goals as goal

pub loop-y-init : goal.loop-y-init
loop-y-init c = (c.requires.told, omega arith, λ y p. refl, λ y p q. absurd (omega (arith, p, q)))

pub tell_value-requires-clause-told : goal.tell_value-requires-clause-told
tell_value-requires-clause-told c = c.loop-y.invariant.0

pub returns-in-None-clause-before : goal.returns-in-None-clause-before
returns-in-None-clause-before c = λ y p. c.in_ok-tell_value.ensures.others y (λ e. omega (arith, e, p, c.loop-y.invariant.1)) ∙ c.loop-y.invariant.2 y p

pub loop-y-preserved : goal.loop-y-preserved
loop-y-preserved c =
    let here = subst (λ (o : Option ℕ). IfSome o (λ _. known_in c.tell_value.new.told.state.facts c.loop-y.y ≡ known_in c.args.state.now.facts c.loop-y.y)) c.in-Some.is c.in_ok-tell_value.ensures.value in (
      c.in_ok-tell_value.ensures.told,
      omega (arith, c.loop-y.invariant.1),
      λ y p. c.in_ok-tell_value.ensures.others y (λ e. omega (arith, e, p, c.loop-y.invariant.1)) ∙ c.loop-y.invariant.2 y p,
      λ y p q. elim (cases_eq y c.loop-y.y) [
        | inl e ↦ subst (λ z. known_in c.tell_value.new.told.state.facts z ≡ known_in c.args.state.now.facts z) (sym e) here
        | inr n ↦ c.in_ok-tell_value.ensures.others y n ∙ c.loop-y.invariant.3 y p (omega (arith, q, n))
      ],
    )

pub returns-clause-told : goal.returns-clause-told
returns-clause-told c = c.loop-y.invariant.0

pub returns-clause-before : goal.returns-clause-before
returns-clause-before c = c.loop-y.invariant.2

pub returns-clause-values : goal.returns-clause-values
returns-clause-values c = λ y p q r.
    c.loop-y.invariant.3 y p (omega (arith, p, q, r, c.loop-y-test.false, c.min-y-end.ensures, c.saturating_add.ensures))
