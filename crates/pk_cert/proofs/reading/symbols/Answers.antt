use Rattle.std.specs.Prelude.{◌≡◌, ◌-◌, List, ℕ}
use Rattle.std.proofs.Common.{arith, subst}
use Rattle.std.proofs.lemmas.List.{take_rest}
use Rattle.pk_cert.specs.Beginnings.{TextsOf, IsStop}
use Rattle.pk_cert.specs.Rows.{IsSymbol, ended_text}
use Rattle.pk_cert.specs.Pieces.{IsSymbolRead}
use Rattle.pk_cert.proofs.Lines.{SymbolsSo, symbols_begun, symbols_next, symbols_stop, symbols_ended}
use Rattle.pk_cert.proofs.reading.symbols.Goals as goal

pub loop-k-init : goal.loop-k-init
loop-k-init c = rw c.new-symbols.ensures.items (symbols_begun c.args.bounds c.args.count c.args.bytes.now)

pub loop-k-preserved : goal.loop-k-preserved
loop-k-preserved c = rw c.in_ok-push-in-Ok.ensures.items
    (symbols_next c.args.bounds c.args.count c.args.bytes.now c.loop-k.symbols.items c.loop-k.k c.loop-k.at c.in-Ok.next c.in-Ok.n c.loop-k.invariant c.loop-k-test.true
    (subst (λ (x : List ℕ). IsSymbolRead c.args.bounds (c.args.count - 1 - c.loop-k.k) x c.in-Ok.next c.in-Ok.n) (take_rest c.args.bytes.now c.loop-k.at) c.in-Ok.ensures))

pub returns-in-Err : goal.returns-in-Err
returns-in-Err c =
    symbols_stop c.args.bounds c.args.count c.args.bytes.now c.loop-k.symbols.items c.loop-k.k c.loop-k.at c.in-Err.n c.loop-k.invariant c.loop-k-test.true
    (subst (λ (x : List ℕ). IsStop (TextsOf (IsSymbol c.args.bounds (c.args.count - 1 - c.loop-k.k)) (ended_text (c.args.count - 1 - c.loop-k.k))) x c.in-Err.n)
    (take_rest c.args.bytes.now c.loop-k.at) c.in-Err.ensures)

pub returns : goal.returns
returns c =
    let e : c.loop-k.k ≡ c.args.count = omega arith in
    symbols_ended c.args.bounds c.args.count c.args.bytes.now c.loop-k.symbols.items c.loop-k.at
    (subst (λ (j : ℕ). SymbolsSo c.args.bounds c.args.count c.args.bytes.now c.loop-k.symbols.items j c.loop-k.at) e c.loop-k.invariant)
