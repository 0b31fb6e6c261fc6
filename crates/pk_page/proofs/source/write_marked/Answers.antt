use Rattle.std.proofs.Common.{◌≡◌, ◌++◌, ◌+◌, ℕ, List, [], map, subst, Bor}
use Rattle.std.proofs.Math.ListN.{length-map}
use Rattle.std.specs.Prelude.{OnOk, slice_index_or}
use Rattle.pk_html.specs.Parts.{parts_text}
use Rattle.pk_html.specs.declared.parts.Part.{Part}
use Rattle.pk_page.specs.Source.{line_in, mark_at}
use Rattle.pk_page.proofs.LineLemmas.{row_bytes}
use Rattle.pk_page.proofs.source.write_marked.Goals as goal

pub returns : goal.returns
returns c =
    let k = c.args.k in
    let lines : List (List ℕ) = map (λ (line : Bor (List ℕ)). line.now) c.args.lines.now in
    subst (λ (parts : List Part). OnOk c.write_bytes.result (c.write_bytes.new.bytes.items ≡ c.args.bytes.now.items ++ parts_text parts))
    (row_bytes (mark_at c.args.operations.now (k + 1)) c.row_of.result.now (slice_index_or c.args.rows.now k [])
    c.line_of.result.now (line_in lines k) c.row_of.ensures c.line_of.ensures
    (λ j h. c.requires.marks.each k j (simp length-map c.requires.within) h))
    c.write_bytes.ensures
