-- The draft of a text is typed.
use Rattle.std.specs.Prelude.{◌≡◌, ℕ, ◌≤◌, List, length, map}
use Rattle.std.proofs.Common.{◌∙◌, ap, sym, subst}
use Rattle.std.proofs.lemmas.List.{length-map}
use Rattle.pk_typed.specs.Trees.{UnitTree}
use Rattle.pk_calls.specs.declared.listings.CallPath.{CallPath}
use Rattle.pk_graph.specs.declared.graphs.Path.{Path}
use Rattle.pk_graph.specs.Graphs.{PathOf, path_view}
use Rattle.pk_draft.specs.Drafts.{DraftOf, by_number}
use Rattle.pk_lower.specs.Answers.{point_limit}
use Rattle.pk_lower.specs.Parts.{point_count, program_draft}
use Rattle.pk_lower.specs.Paths.{path_of}
use Rattle.pk_number.specs.Typed.{IsTypedDraft}
use Rattle.pk_front.specs.Texts.{HasPaths}
use Rattle.pk_welltyped_texts.specs.Laws.{DraftsOfTextsAreTyped}

pub typed_of : (text entry : List ℕ) (u : UnitTree) (paths : List CallPath) (d : DraftOf ℕ) (list : List Path) → DraftsOfTextsAreTyped → HasPaths text entry u paths → d ≡ program_draft by_number u paths → point_count u paths ≤ point_limit
    → map path_view list ≡ map (path_of u paths) paths → IsTypedDraft (length list) d
typed_of text entry u paths d list law has is few same =
    let size = sym (length-map list path_view) ∙ ap (λ (ps : List PathOf). length ps) same ∙ length-map paths (path_of u paths) in
    subst (λ (e : DraftOf ℕ). IsTypedDraft (length list) e) (sym is) (subst (λ n. IsTypedDraft n (program_draft by_number u paths)) (sym size) (law text entry u paths has few))
