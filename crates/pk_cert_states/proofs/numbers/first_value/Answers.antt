use Rattle.std.proofs.Common.{rules, ◌≡◌, ◌∙◌, sym, ap, Some, to_z, of_z}
use Rattle.std.specs.Int.{w128}
use Rattle.pk_cert_states.proofs.Fours.{four_symbols}
use Rattle.pk_cert_states.proofs.numbers.first_value.Goals as goal

pub returns-in-Some-value_of : goal.returns-in-Some-value_of
returns-in-Some-value_of c =
    let s = c.in-Some in
    let n = c.in-Some-Some-Some-Some in
    let lo : n.lo ≡ to_z w128 (of_z w128 n.lo) = search rules in
    let hi : n.hi ≡ to_z w128 (of_z w128 n.hi) = search rules in
    let m : n.m ≡ to_z w128 (of_z w128 n.m) = search rules in
    let r : n.r ≡ to_z w128 (of_z w128 n.r) = search rules in (
      c.in-Some-value_of.ensures.0,
      s.ensures
          ∙ four_symbols s.lo s.hi s.m s.r s.rest.now (to_z w128 (of_z w128 n.lo)) (to_z w128 (of_z w128 n.hi)) (to_z w128 (of_z w128 n.m)) (to_z w128 (of_z w128 n.r)) c.in-Some-value_of.value
          (sym c.number.ensures ∙ n.is-0 ∙ ap (λ z. Some z) lo) (sym c.number-in-Some.ensures ∙ n.is-1 ∙ ap (λ z. Some z) hi)
          (sym c.number-in-Some-2.ensures ∙ n.is-2 ∙ ap (λ z. Some z) m) (sym c.number-in-Some-3.ensures ∙ n.is-3 ∙ ap (λ z. Some z) r) c.in-Some-value_of.ensures.1,
    )
