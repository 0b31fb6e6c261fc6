use Rattle.std.proofs.Common.{◌≡◌, ◌+◌, false, drop, eq-eqb, subst}
use Rattle.std.specs.Option.{option_map}
use Rattle.std.proofs.lemmas.Bool.{ne_eqb}
use Rattle.pk_lex.proofs.StringLemmas.{string_stops, string_ends, string_closes, string_run}
use Rattle.pk_lex.proofs.characters.close_count.Goals as goal

pub returns-then-b-eq10 : goal.returns-then-b-eq10
returns-then-b-eq10 c = string_stops c.args.text.now c.loop-i.i c.loop-i.escaped c.loop-i-test.true (eq-eqb _ _ c.if-b-eq10.true) c.loop-i.invariant

pub returns-then-b-eq34 : goal.returns-then-b-eq34
returns-then-b-eq34 c =
    string_closes c.args.text.now c.loop-i.i c.loop-i-test.true (ne_eqb _ _ c.if-b-eq10.false) (eq-eqb _ _ c.if-b-eq34.true)
    (let start : option_map (λ n. c.loop-i.i + n) (string_run c.loop-i.escaped (drop c.loop-i.i c.args.text.now)) ≡ string_run false c.args.text.now = c.loop-i.invariant in
    subst (λ e. option_map (λ n. c.loop-i.i + n) (string_run e (drop c.loop-i.i c.args.text.now)) ≡ string_run false c.args.text.now) c.if-escaped.false start)

pub returns : goal.returns
returns c = string_ends c.args.text.now c.loop-i.i c.loop-i.escaped c.loop-i-test.false c.loop-i.invariant
