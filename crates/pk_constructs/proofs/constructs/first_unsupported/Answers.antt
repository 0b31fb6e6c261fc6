use Rattle.std.proofs.Common.{length, sym, ap, ◌∙◌, arith}
use Rattle.std.proofs.Math.Dec.{ltb}
use Rattle.std.proofs.lemmas.Bool.{ltb-true, lt-ltb}
use Rattle.pk_constructs.proofs.ScanLemmas.{at_most_one, unsupported_here, scanned_more}
use Rattle.pk_constructs.proofs.constructs.first_unsupported.Goals as goal

pub returns-in-Some-shows : goal.returns-in-Some-shows
returns-in-Some-shows c =
    unsupported_here c.args.tokens.now c.loop-token.rest.now c.loop-token.last c.loop-token.braces c.loop-token.invariant.0 c.in-Some.token.now c.in-Some.after.now c.in-Some.ensures.cases.0
    (ltb 0 c.loop-token.braces) (ltb-true 0 c.loop-token.braces) (lt-ltb 0 c.loop-token.braces) c.in-Some-shows.construct (sym c.shows.ensures ∙ c.in-Some-shows.is)

pub loop-token-preserved : goal.loop-token-preserved
loop-token-preserved c =
    let cut = c.in-Some.ensures.cases.0 in (
      scanned_more c.args.tokens.now c.loop-token.rest.now c.loop-token.last c.loop-token.braces c.loop-token.invariant.0 c.in-Some.token.now c.in-Some.after.now cut
          (ltb 0 c.loop-token.braces) (ltb-true 0 c.loop-token.braces) (lt-ltb 0 c.loop-token.braces) (sym c.shows.ensures ∙ c.in_default-shows.is)
          c.before_of-last.result c.braces_after-braces.result (sym c.before_of-last.ensures) c.braces_after-braces.ensures,
      (let many = at_most_one _ _ _ c.braces_after-braces.ensures in let was = c.loop-token.invariant.1 in omega (arith, ap length cut)),
    )
