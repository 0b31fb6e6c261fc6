use Rattle.std.proofs.Common.{◌∙◌, ap, List}
use Rattle.std.specs.Prelude.{ℕ, codes}
use Rattle.std.specs.Str.{bytes_eq}
use Rattle.pk_lower.proofs.parts.is_main.Goals as goal

pub returns : goal.returns
returns c = c.eq.ensures ∙ ap (λ (n : List ℕ). bytes_eq n (codes "main")) c.as_str.ensures
