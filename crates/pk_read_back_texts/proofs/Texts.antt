-- The unit of a text can be told, and so the report on it is read back.
use Rattle.std.proofs.Common.{◌≡◌, ℕ, ◌≤◌, true, List, [], ◌∷◌, length, sym, subst, arith}
use Rattle.pk_ctypes.specs.declared.places.Pos.{Pos}
use Rattle.pk_lex.specs.Words.{is_name}
use Rattle.pk_calls.specs.Laws.{PathsAreAll}
use Rattle.pk_graph.specs.Graphs.{GraphOf}
use Rattle.pk_text_laws.specs.Names.Laws.{NamesStandInTexts}
use Rattle.pk_welltyped_texts.specs.Laws.{TextsAreWellTyped}
use Rattle.pk_unit_texts.specs.Standing.{IsPlaceIn}
use Rattle.pk_unit_texts.specs.Laws.{PlacesAreBounded}
use Rattle.pk_unit_texts.proofs.Texts.{names_hold, places_hold}
use Rattle.pk_text_report.specs.Answers.{text_limit, options_of}
use Rattle.pk_graph_report.specs.Reported.{IsReport}
use Rattle.pk_show.specs.Laws.{IsPlace}
use Rattle.pk_show.specs.Pieces.{is_identifier}
use Rattle.pk_read_back_laws.specs.Laws.{IsReadBack, ReportsAreReadBack}
use Rattle.pk_read_back_texts.specs.Laws.{TextsAreTellable, RunsAreReadBack}

-- a name by the lexis is an identifier
is_one : (name : List ℕ) → is_name name ≡ true → is_identifier name ≡ true
unfolding is_identifier
is_one [] h = h
is_one (b ∷ bytes) h = h

is_small : (text : List ℕ) → length text ≤ text_limit → PlacesAreBounded → (at : Pos) → IsPlaceIn text at → IsPlace at
is_small text few bounded at s =
    let b = bounded text at s in
    let limit : length text ≤ 4194304 = few in
    record { line = omega (arith, b.line, limit); column = omega (arith, b.column, limit) }

pub texts_are_tellable : NamesStandInTexts → PlacesAreBounded → TextsAreWellTyped → PathsAreAll → TextsAreTellable
texts_are_tellable stand bounded welltyped paths_all text entry u paths h few points =
    let c = h.called.0 in
    record {
      typed = welltyped text u h.typed;
      entry_has_body = c.is_entry.0.0;
      listing = c.is_listing;
      call_paths = paths_all.all u c.entry c.seen paths c.walks c.is_listing;
      points = points;
      names = names_hold (λ name. is_identifier name ≡ true) is_one stand text u h.typed;
      places = places_hold IsPlace text (is_small text few bounded) u h.typed;
    }

pub runs_are_read_back : TextsAreTellable → ReportsAreReadBack → RunsAreReadBack
runs_are_read_back tellable read text o unknown bytes run few oct short =
    let g = run.has_graph in
    let report = subst (λ (x : GraphOf). IsReport x (options_of o) o.max_runs o.points unknown bytes) g.graph run.report in
    subst (λ (x : GraphOf). IsReadBack x (options_of o) o.max_runs o.points bytes) (sym g.graph)
    (read g.unit g.called.called.0.entry g.paths (options_of o) o.max_runs o.points unknown bytes (tellable text o.entry g.unit g.paths g.called few g.few) oct short report)
