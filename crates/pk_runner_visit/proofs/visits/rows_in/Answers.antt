use Rattle.std.proofs.Common.{rules, ◌≡◌, ◌<◌, ◌≤◌, ◌++◌, ◌∙◌, ap, sym, arith, length, map, suc, ℕ, List}
use Rattle.pk_runner_frame.specs.declared.works.Scope.{Scope}
use Rattle.pk_runner_frame.specs.declared.works.Scope.TheVariants as scopes
use Rattle.pk_runner_frame.specs.Frames.{object_in, scope_in}
use Rattle.pk_runner_state.specs.declared.tables.Row.{Row}
use Rattle.pk_runner_state.specs.Rows.{rows_of_scope}
use Rattle.pk_runner_visit.proofs.SeenLemmas.{row_next}
use Rattle.pk_runner_visit.proofs.visits.rows_in.Goals as goal

within : (rows : List Row) (x : Scope) (number : ℕ) → x ≡ scopes.Row number → rows_of_scope x ≤ length rows → number < length rows
within rows x number e h = let is : rows_of_scope x ≡ suc number = ap rows_of_scope e in omega (arith, h, is)

pub loop-left-init : goal.loop-left-init
loop-left-init c = record { there = c.requires; rest = λ s a. ap (λ xs. map object_in xs ++ scope_in s c.args.scope) c.new-list.ensures.items }

pub returns-in-File : goal.returns-in-File
returns-in-File c = λ s a. sym (ap (λ (x : Scope). map object_in c.loop-left.list.items ++ scope_in s x) c.in-File.is) ∙ c.loop-left.invariant.rest s a

pub index-row-requires : goal.index-row-requires
index-row-requires c =
    let there : c.in-Row.number < length c.args.table.now.rows.items = within c.args.table.now.rows.items c.loop-left.left c.in-Row.number c.in-Row.is c.loop-left.invariant.there in
    search (rules, there)

pub loop-left-smaller : goal.loop-left-smaller
loop-left-smaller c =
    let rows : List Row = c.args.table.now.rows.items in
    let there : c.in-Row.number < length rows = within rows c.loop-left.left c.in-Row.number c.in-Row.is c.loop-left.invariant.there in
    let low : rows_of_scope c.index-row.result.now.parent ≤ c.in-Row.number = c.args.table.now.orderly c.in-Row.number c.index-row.result.now there (sym c.index-row.ensures) in
    let is : rows_of_scope c.loop-left.left ≡ suc c.in-Row.number = ap rows_of_scope c.in-Row.is in
    omega (arith, low, is)

pub loop-left-preserved : goal.loop-left-preserved
loop-left-preserved c =
    let rows : List Row = c.args.table.now.rows.items in
    let there : c.in-Row.number < length rows = within rows c.loop-left.left c.in-Row.number c.in-Row.is c.loop-left.invariant.there in
    let low : rows_of_scope c.index-row.result.now.parent ≤ c.in-Row.number = c.args.table.now.orderly c.in-Row.number c.index-row.result.now there (sym c.index-row.ensures) in
    record {
      there = omega (arith, low, there);
      rest = λ s a.
          row_next s rows c.loop-left.list.items c.push.new.self.items c.in-Row.number c.index-row.result.now (scope_in s c.args.scope) a there c.index-row.ensures
          c.in_ok-push-in-Row.ensures.items (ap (λ (x : Scope). map object_in c.loop-left.list.items ++ scope_in s x) (sym c.in-Row.is) ∙ c.loop-left.invariant.rest s a);
    }
