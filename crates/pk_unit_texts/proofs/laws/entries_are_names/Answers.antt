use Rattle.std.proofs.Common.{◌≡◌, true, subst}
use Rattle.pk_lex.specs.Words.{is_name}
use Rattle.pk_places_laws.proofs.Graphs.{name_told}
use Rattle.pk_unit_texts.proofs.laws.entries_are_names.Goals as goal

pub returns : goal.returns
returns c = λ text entry u paths h.
    let walk = h.called.0 in
    subst (λ name. is_name name ≡ true) walk.is_entry.0.1
    (name_told (λ name. is_name name ≡ true) u walk.entry walk.is_entry.0.0 (c.units_have_names.ensures text u h.typed).functions)
