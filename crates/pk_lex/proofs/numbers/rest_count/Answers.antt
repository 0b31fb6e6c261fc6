use Rattle.std.proofs.Common.{◌≡◌, sym, ◌∙◌, subst, arith, length}
use Rattle.pk_lex.specs.Numbers.{is_rest_of_number}
use Rattle.pk_lex.specs.Words.{IsLongest}
use Rattle.pk_lex.proofs.NumberLemmas.{number_run, number_longest, run_stops, run_goes, run_ends}
use Rattle.pk_lex.proofs.numbers.rest_count.Goals as goal

pub returns-then-not-continues : goal.returns-then-not-continues
returns-then-not-continues c =
    let z = run_stops c.args.text.now c.loop-i.i c.loop-i.last c.loop-i-test.true (sym c.continues.ensures ∙ c.if-not-continues.true) in
    let e : number_run c.args.before c.args.text.now ≡ c.loop-i.i = omega (arith, z, c.loop-i.invariant) in
    subst (λ n. IsLongest (is_rest_of_number c.args.before) c.args.text.now n) e (number_longest c.args.before c.args.text.now)

pub loop-i-preserved : goal.loop-i-preserved
loop-i-preserved c =
    let z = run_goes c.args.text.now c.loop-i.i c.loop-i.last c.loop-i-test.true (sym c.continues.ensures ∙ c.if-not-continues.false) in
    omega (arith, z, c.loop-i.invariant)

pub returns : goal.returns
returns c =
    let z = run_ends c.args.text.now c.loop-i.i c.loop-i.last c.loop-i-test.false in
    let e : number_run c.args.before c.args.text.now ≡ length c.args.text.now = omega (arith, z, c.loop-i.invariant) in
    subst (λ n. IsLongest (is_rest_of_number c.args.before) c.args.text.now n) e (number_longest c.args.before c.args.text.now)
