-- What a jump looks for, and where it leads.
use Rattle.std.specs.Prelude.{List, Option, Some, None}
use Rattle.pk_typed.specs.Views.{statement_tree}
use Rattle.pk_meaning.specs.Work.{Way, Onward, Lost, Ahead, Rest, Join, Again, Close, End, Do, Go}
use Rattle.pk_meaning.specs.Steps.{Mark, labelled, numbered, otherwise, resumed}
use Rattle.pk_runner_jump.specs.declared.jumps.Mark as code_mark
use Rattle.pk_runner_jump.specs.declared.jumps.Mark.TheVariants as marks
use Rattle.pk_runner_jump.specs.declared.jumps.Found.{Found}
use Rattle.pk_runner_jump.specs.declared.jumps.Outward.{Outward}
use Rattle.pk_runner_jump.specs.declared.jumps.Outward.TheVariants as outwards
use Rattle.pk_runner_frame.specs.Frames.{Reading, Held, ahead_at, place_in}

abbrev pub mark_in : code_mark.Mark → Mark
mark_in (marks.Label l) = labelled l
mark_in (marks.Case i) = numbered i
mark_in marks.Default = otherwise

-- the way to what was found, else another
abbrev pub found_in : Reading → List Held → Option Found → Way → Way
found_in s hs None o = o
found_in s hs (Some x) o = Onward (place_in s x.here) (Do (statement_tree x.statement.now) (ahead_at hs x.ahead))

-- on at the end of a loop's body
abbrev pub again : Ahead → Way
again (Rest xs is a) = Lost
again (Join h a) = Lost
again (Again h l e a) = Onward h (resumed h l e a)
again (Close h a) = Lost
again (End c) = Lost

-- behind a loop or a switch
abbrev pub past : Ahead → Way
past (Rest xs is a) = Lost
past (Join h a) = Lost
past (Again h l e a) = Onward e (Go a)
past (Close h a) = Onward h (Go a)
past (End c) = Lost

-- a way outwards from what comes behind a statement: further out, here, or nowhere
abbrev pub outward : (f g : Ahead → Way) → List Held → Ahead → Outward → Way
outward f g hs a (outwards.On n) = f (ahead_at hs n)
outward f g hs a outwards.Here = g a
outward f g hs a outwards.Nowhere = Lost
