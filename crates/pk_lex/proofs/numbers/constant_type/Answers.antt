use Rattle.std.proofs.Common.{◌∙◌, ◌&&◌, rules, tests}
use Rattle.std.specs.Prelude.{pos}
use Rattle.std.proofs.lemmas.Iterator.{YieldsList-from_slice}
use Rattle.std.proofs.lemmas.Iterator.Search.{find_from_yields_List}
use Rattle.pk_ctypes.specs.Types.{is_in_type}
use Rattle.pk_lex.specs.Numbers.{allows}
use Rattle.pk_lex.proofs.numbers.constant_type.Goals as goal

pub returns : goal.returns
returns c =
    c.copied.ensures
    ∙ find_from_yields_List (λ t. allows c.args.is_decimal c.args.suffix t && is_in_type t (pos c.args.value)) _ _ _ c.find.ensures.ran (YieldsList-from_slice _ c.iter.ensures.rest)
    (λ x b q k. search (rules, tests))
