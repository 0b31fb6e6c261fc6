use Rattle.std.proofs.Common.{◌≡◌, ℕ, ◌≤◌, ◌==◌, Bool, false, sym, ap, ◌∙◌, Some, arith}
use Rattle.std.specs.Option.{option_map}
use Rattle.std.proofs.lemmas.Bool.{eqb-true, eqb-false}
use Rattle.pk_lex.specs.Bytes.{value_in}
use Rattle.pk_lex.specs.Numbers.{typed, constant}
use Rattle.pk_lex.proofs.ConstantLemmas.{IsCut, cut_digits, no_digits, some_digits, too_large}
use Rattle.pk_lex.proofs.numbers.integer.Goals as goal
use Rattle.pk_lex.proofs.numbers.integer.Goals.{After-is_empty}

cut : (c : After-is_empty) → IsCut c.args.number.now c.without_mark-text.result.now c.split_at.result.0.now c.split_at.result.1.now c.base-base.result c.digit_count.result
cut c = record {
  base_is = c.base-base.ensures.base;
  text_is = c.without_mark-text.ensures;
  count_is = c.digit_count.ensures;
  front = c.split_at.ensures.front;
  back = c.split_at.ensures.back;
}

filled : (n : ℕ) (empty : Bool) → empty ≡ (n == 0) → empty ≡ false → 1 ≤ n
filled n empty e f = let g = eqb-false n 0 (sym e ∙ f) in omega (arith, g)

pub returns-then-is_empty : goal.returns-then-is_empty
returns-then-is_empty c = no_digits (cut (goal.at.returns-then-is_empty c).After-is_empty) (eqb-true _ _ (sym c.is_empty.ensures ∙ c.if-is_empty.true))

pub value-requires-clause-digits : goal.value-requires-clause-digits
value-requires-clause-digits c = cut_digits (cut (goal.at.value-requires-clause-digits c).After-is_empty)

pub returns-in_default : goal.returns-in_default
returns-in_default c =
    let e = some_digits (cut (goal.at.returns-in_default c).After-is_empty) (filled _ _ c.is_empty.ensures c.if-is_empty.false) in
    sym (e ∙ ap (typed (c.base-base.result == 10) (value_in c.base-base.result c.split_at.result.0.now)) (sym c.suffix_of_bytes.ensures ∙ c.in_default.is))

pub returns-in_default-value : goal.returns-in_default-value
returns-in_default-value c =
    let e = some_digits (cut (goal.at.returns-in_default-value c).After-is_empty) (filled _ _ c.is_empty.ensures c.if-is_empty.false) in
    sym (e ∙ ap (typed (c.base-base.result == 10) (value_in c.base-base.result c.split_at.result.0.now)) (sym c.suffix_of_bytes.ensures ∙ c.in-Some.is)
    ∙ too_large (c.base-base.result == 10) c.in-Some.suffix (value_in c.base-base.result c.split_at.result.0.now) c.in_default-value.ensures)

pub returns-in_default-constant_type : goal.returns-in_default-constant_type
returns-in_default-constant_type c =
    let e = some_digits (cut (goal.at.returns-in_default-constant_type c).After-is_empty) (filled _ _ c.is_empty.ensures c.if-is_empty.false) in
    sym (e ∙ ap (typed (c.base-base.result == 10) (value_in c.base-base.result c.split_at.result.0.now)) (sym c.suffix_of_bytes.ensures ∙ c.in-Some.is)
    ∙ ap (λ v. typed (c.base-base.result == 10) v (Some c.in-Some.suffix)) (sym c.in-Some-value.ensures)
    ∙ ap (option_map (constant c.in-Some-value.value)) (sym c.constant_type.ensures ∙ c.in_default-constant_type.is))

pub returns : goal.returns
returns c =
    let e = some_digits (cut (goal.at.returns c).After-is_empty) (filled _ _ c.is_empty.ensures c.if-is_empty.false) in
    sym (e ∙ ap (typed (c.base-base.result == 10) (value_in c.base-base.result c.split_at.result.0.now)) (sym c.suffix_of_bytes.ensures ∙ c.in-Some.is)
    ∙ ap (λ v. typed (c.base-base.result == 10) v (Some c.in-Some.suffix)) (sym c.in-Some-value.ensures)
    ∙ ap (option_map (constant c.in-Some-value.value)) (sym c.constant_type.ensures ∙ c.in-Some-constant_type.is))
