use Rattle.std.proofs.Common.{ℕ, ◌≡◌, ◌<◌, ◌+◌, ap, sym, ◌∙◌, arith, length, List, vec_len}
use Rattle.std.specs.Prelude.{slice_index_or}
use Rattle.pk_state.proofs.Loose.{listed_without}
use Rattle.pk_state.proofs.marks.unlist.Goals as goal

pub returns-in-Some : goal.returns-in-Some
returns-in-Some c =
    let xs = c.args.loose.now.items in
    let k = c.in-Some.k in
    let place : k < length xs = omega (arith, c.in-Some.ensures.0, ap (λ (ys : List ℕ). length ys) c.deref.ensures.value) in
    let here : slice_index_or xs k 0 ≡ c.args.x = sym (ap (λ (ys : List ℕ). slice_index_or ys k 0) c.deref.ensures.value) ∙ c.in-Some.ensures.1 in
    let many : vec_len c.args.loose.now ≡ length xs = omega (arith, c.args.loose.now.ok) in
    let size : length c.swap_remove.new.self.items + 1 ≡ length xs = omega (arith, c.swap_remove.ensures.len, c.swap_remove.new.self.ok, many) in
    listed_without xs c.swap_remove.new.self.items (vec_len c.args.loose.now) k c.args.x many place here size c.swap_remove.ensures.by_index.0 c.swap_remove.ensures.by_index.1
