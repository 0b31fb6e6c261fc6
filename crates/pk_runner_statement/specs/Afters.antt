-- What comes behind a declared object.
use Rattle.pk_typed.specs.Views.{declared_trees, item_trees}
use Rattle.pk_meaning.specs.Objects.{Scope}
use Rattle.pk_meaning.specs.Work.{Work, Go, Rest, Declare}
use Rattle.std.specs.Prelude.{List}
use Rattle.pk_runner_statement.specs.declared.declarations.After.{After}
use Rattle.pk_runner_statement.specs.declared.declarations.After.TheVariants as afters
use Rattle.pk_runner_frame.specs.Frames.{Reading, Held, work_at, ahead_at}

-- with the scope behind it
abbrev pub after_in : Reading → List Held → Scope → After → Work
after_in s hs xs (afters.Items is a) = Go (Rest xs (item_trees is.now) (ahead_at hs a))
after_in s hs xs (afters.Objects ds w) = Declare (declared_trees ds.now) (work_at hs w)
