use Rattle.std.proofs.Common.{◌≡◌, ℕ, ◌<◌, ◌≤◌, length, true, ap, subst, option_map, rules}
use Rattle.pk_typed.specs.Views.{body_tree}
use Rattle.pk_type.specs.Views.{signature_tree, filed_in}
use Rattle.pk_type.proofs.FunctionLemmas.{entry_set, no_entry}
use Rattle.pk_type.proofs.files.File.define.Goals as goal

pub returns-then-number-len : goal.returns-then-number-len
returns-then-number-len c =
    let v = c.index_mut-entry.ensures.value in
    let Below : ℕ → Type 0 = λ n. c.args.number < n in
    ap (λ xs. record { walked = (filed_in c.args.self.now).walked; objects = (filed_in c.args.self.now).objects; functions = xs })
    (entry_set c.args.self.now.functions.items c.args.number c.index_mut-entry.result.now _ (option_map body_tree c.args.body) (let h : c.len.result ≡ length c.args.self.now.functions.items = search (rules, c.len.ensures) in subst Below h c.if-number-len.true)
    (ap (λ r. record { name = r.name; signature = signature_tree r.signature; is_defined = true; body = option_map body_tree c.args.body }) v))

pub returns-else-number-len : goal.returns-else-number-len
returns-else-number-len c =
    let Past : ℕ → Type 0 = λ n. n ≤ c.args.number in
    ap (λ xs. record { walked = (filed_in c.args.self.now).walked; objects = (filed_in c.args.self.now).objects; functions = xs })
    (no_entry c.args.self.now.functions.items c.args.number (option_map body_tree c.args.body) (let h : c.len.result ≡ length c.args.self.now.functions.items = search (rules, c.len.ensures) in subst Past h c.if-number-len.false))
