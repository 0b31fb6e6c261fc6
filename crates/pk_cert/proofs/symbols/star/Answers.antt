use Rattle.std.specs.Prelude.{◌≡◌, ℕ, List, [], ◌∷◌}
use Rattle.std.proofs.Common.{subst}
use Rattle.pk_cert.specs.Beginnings.{IsStop}
use Rattle.pk_cert.proofs.SymbolLemmas.{star_stops}
use Rattle.pk_cert.proofs.symbols.star.Goals as goal

pub returns-in-Err : goal.returns-in-Err
returns-in-Err c =
    star_stops c.args.bounds c.args.behind c.args.bytes.now c.in-Err.n c.requires.star c.requires.first
    (subst (λ (e : ℕ). IsStop (λ (t : List ℕ). t ≡ 42 ∷ e ∷ []) c.args.bytes.now c.in-Err.n) c.end_of.ensures c.in-Err.ensures)
