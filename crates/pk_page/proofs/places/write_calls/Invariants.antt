use Rattle.std.proofs.Common.{◌≡◌, ◌++◌, drop}
use Rattle.std.specs.List.{flat_map}
use Rattle.pk_html.specs.Parts.{parts_text}
use Rattle.pk_page.specs.Places.{call_parts}
use Rattle.pk_page.proofs.places.write_calls.Given as goal

-- what is written so far stands before what is left
abbrev pub invariant-loop-k : goal.invariant-loop-k
invariant-loop-k l =
    l.bytes.items ++ parts_text (flat_map (call_parts l.number l.text) (drop l.k l.calls)) ≡
    l.initial.bytes.items ++ parts_text (flat_map (call_parts l.number l.text) l.calls)
