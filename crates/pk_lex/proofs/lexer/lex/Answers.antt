use Rattle.std.proofs.Common.{ℕ, ◌+◌, not, cond, [], ◌∷◌, ◌++◌, sym, ap, ◌∙◌, subst, arith}
use Rattle.pk_ctypes.specs.declared.places.Pos.{Pos}
use Rattle.pk_lex.specs.declared.token.Kind.{Kind}
use Rattle.pk_ctypes.specs.Places.{start_of_text}
use Rattle.pk_lex.specs.declared.token.Token.{Token}
use Rattle.pk_lex.proofs.StepLemmas.{token_positive}
use Rattle.pk_lex.proofs.LexLemmas.{IsReached, reached_start, reached_white, reached_token, fails_here}
use Rattle.pk_lex.proofs.lexer.lex.Goals as goal

pub loop-start-init : goal.loop-start-init
loop-start-init c = record {
  reached = subst (λ ts. IsReached c.args.text.now ts 0 start_of_text) (sym c.new-tokens.ensures.items) (reached_start c.args.text.now);
  within = omega arith;
  line_bound = omega arith;
  column_bound = omega arith;
}

pub loop-start-preserved-in-Some : goal.loop-start-preserved-in-Some
loop-start-preserved-in-Some c =
    let w = c.in-Some.ensures in
    let f = w.fits in
    record {
      reached =
          reached_white c.args.text.now c.split_at.result.0.now c.split_at.result.1.now c.loop-start.tokens.items c.loop-start.start c.loop-start.at
          c.loop-start.invariant.within c.split_at.ensures.front c.split_at.ensures.back c.loop-start.invariant.reached
          c.in-Some.count c.split_at-in-Some.result.0.now c.after-at.result w c.split_at-in-Some.ensures.front c.after-at.ensures.place;
      within = omega arith;
      line_bound = omega arith;
      column_bound = omega arith;
    }

pub returns-in-Err-clause-refused : goal.returns-in-Err-clause-refused
returns-in-Err-clause-refused c =
    fails_here c.args.text.now c.split_at.result.0.now c.split_at.result.1.now c.loop-start.tokens.items c.loop-start.start c.loop-start.at
    c.loop-start.invariant.within c.split_at.ensures.front c.split_at.ensures.back c.loop-start.invariant.reached
    c.loop-start-test.true c.in_default.ensures c.in-Err.ensures.0 c.in-Err.kind c.in-Err.ensures.1

pub loop-start-smaller : goal.loop-start-smaller
loop-start-smaller c =
    let p = token_positive c.split_at.result.0.now c.split_at.result.1.now c.in-Ok.found.0 c.in-Ok.found.1 c.in-Ok.ensures in
    omega (arith, p)

abbrev made : Kind → ℕ → ℕ → Pos → Token
made k start n at = record { kind = k; start = start; end = start + n; at = at }

pub loop-start-preserved : goal.loop-start-preserved
loop-start-preserved c =
    let t = c.in-Ok.ensures in
    let f = t.fits in
    let r = reached_token c.args.text.now c.split_at.result.0.now c.split_at.result.1.now c.loop-start.tokens.items c.loop-start.start c.loop-start.at
    c.loop-start.invariant.within c.split_at.ensures.front c.split_at.ensures.back c.loop-start.invariant.reached
    c.in-Ok.found.0 c.in-Ok.found.1 c.split_at-in-loop-start.result.0.now c.after-at-in-loop-start.result t c.split_at-in-loop-start.ensures.front c.after-at-in-loop-start.ensures.place in
    record {
      reached =
          subst (λ ts. IsReached c.args.text.now ts (c.loop-start.start + c.in-Ok.found.0) c.after-at-in-loop-start.result)
          (sym (c.push.ensures.items ∙ ap (λ t. cond t (c.loop-start.tokens.items ++ made c.in-Ok.found.1 c.loop-start.start c.in-Ok.found.0 c.loop-start.at ∷ []) c.loop-start.tokens.items) (c.is_err.ensures.negation ∙ ap not c.if-is_err.false)))
          r;
      within = omega arith;
      line_bound = omega arith;
      column_bound = omega arith;
    }
