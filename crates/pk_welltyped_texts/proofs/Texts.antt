-- The typed unit of a text is well typed, and so its draft is typed.
use Rattle.std.proofs.Common.{sym, subst}
use Rattle.pk_calls.proofs.CallPathLemmas.{paths_are_all}
use Rattle.pk_lower_laws.proofs.Drafts.Drafts.{drafts_are_typed}
use Rattle.pk_welltyped.specs.WellTyped.{IsUnit}
use Rattle.pk_type_laws.proofs.Bodies.Units.{units_are_well_typed}
use Rattle.pk_welltyped_texts.specs.Laws.{TextsHaveConstants, TextsAreWellTyped, DraftsOfTextsAreTyped}
use Rattle.pk_welltyped_texts.proofs.Tokens.{read_tokens_are}
use Rattle.pk_welltyped_texts.proofs.Trees.{parsed_have}

pub texts_have_constants : TextsHaveConstants
texts_have_constants text xs h =
    let p = h.parsed.parsed in parsed_have xs p.marked h.tokens p.tokens_are p.derived (read_tokens_are text h.tokens h.read)

pub texts_are_well_typed : TextsAreWellTyped
texts_are_well_typed text u h = subst IsUnit (sym h.unit) (units_are_well_typed text h.all (texts_have_constants text h.all h.parsed) h.accepted)

pub drafts_of_texts_are_typed : DraftsOfTextsAreTyped
drafts_of_texts_are_typed text entry u paths h few =
    let c = h.called.0 in
    drafts_are_typed u c.entry paths (texts_are_well_typed text u h.typed) c.is_entry.0.0 c.is_listing (paths_are_all.all u c.entry c.seen paths c.walks c.is_listing) few
