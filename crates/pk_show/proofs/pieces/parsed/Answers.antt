use Rattle.std.proofs.Common.{◌≡◌, sym, ◌∙◌, subst, arith, Ok}
use Rattle.std.proofs.lemmas.Fmt.{parse-decimal_wide, IsAscii-decimal_wide}
use Rattle.std.proofs.lemmas.Str.{IsUtf8-from_ascii}
use Rattle.std.specs.Str.{IsUtf8}
use Rattle.pk_show.proofs.pieces.parsed.Goals as goal

pub returns-in-Err : goal.returns-in-Err
returns-in-Err c = λ n h e. absurd (c.in-Err.ensures.cases.0 (subst IsUtf8 (sym e) (IsUtf8-from_ascii _ (IsAscii-decimal_wide n (omega arith)))))

pub returns-in-Ok-parse : goal.returns-in-Ok-parse
returns-in-Ok-parse c = λ n h e.
    let read : c.parse.result ≡ Ok n = parse-decimal_wide 128 n c.in-Ok.text.now c.parse.result (omega arith) (omega arith) (c.in-Ok.ensures.cases.0 ∙ e) c.parse.ensures.value.0 in
    let was = c.in-Ok-parse.is in
    cc

pub returns-in-Err-parse : goal.returns-in-Err-parse
returns-in-Err-parse c = λ n h e.
    let read : c.parse.result ≡ Ok n = parse-decimal_wide 128 n c.in-Ok.text.now c.parse.result (omega arith) (omega arith) (c.in-Ok.ensures.cases.0 ∙ e) c.parse.ensures.value.0 in
    let was = c.in-Err-parse.is in
    cc
