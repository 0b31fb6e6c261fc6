use Rattle.std.proofs.Common.{ℕ, ◌+◌, ◌*◌, ◌++◌, ◌∷◌, [], ℤ, Option, List, take, ap, ◌∙◌}
use Rattle.pk_state.specs.Changes.{entry_in}
use Rattle.pk_cert_lines.specs.Symbols.{spaced, cells_in}
use Rattle.pk_cert_lines.proofs.Spacing.{spaced_on, bounds_more}
use Rattle.pk_cert_lines.proofs.values.write_bounds.Goals as goal

pub loop-j-preserved : goal.loop-j-preserved
loop-j-preserved c =
    let s = c.args.state.now in
    let before = c.args.bytes.now.items in
    let done = take (c.loop-i.i * (2 * c.args.n) + c.loop-j.j) (cells_in s.facts) in
    c.in_ok-write_symbol.ensures
    ∙ ap (λ (z : Option ℤ). c.loop-j.bytes.items ++ spaced (z ∷ [])) c.entry.ensures
    ∙ ap (λ (r : List ℕ). r ++ spaced (entry_in s.facts 0 c.loop-i.i c.loop-j.j ∷ [])) c.loop-j.invariant
    ∙ spaced_on before done (entry_in s.facts 0 c.loop-i.i c.loop-j.j ∷ [])
    ∙ ap (λ (zs : List (Option ℤ)). before ++ spaced zs)
    (bounds_more s.layout s.facts c.args.n c.loop-i.i c.loop-j.j c.requires.one c.is_stated.ensures.facts c.requires.some c.requires.size c.loop-i-test.true c.loop-j-test.true)
