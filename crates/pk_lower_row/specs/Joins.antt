-- Where the truths of a condition meet.
use Rattle.std.specs.Prelude.{◌≡◌, ℕ, ◌+◌}
use Rattle.pk_lower_row.specs.declared.rows.Join.{Join}

pub record IsJoin (j : Join) (point variable : ℕ) : Type 0 where
  pub if_true : j.if_true ≡ point
  pub if_false : j.if_false ≡ point + 1
  pub behind : j.behind ≡ point + 2
  pub variable_is : j.variable ≡ variable
