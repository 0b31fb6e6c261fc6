use Rattle.std.proofs.Common.{◌≡◌, ◌+◌, ℕ, Bool, is_some, List, take, get_or, sym, ap, ◌∙◌, subst, arith}
use Rattle.std.proofs.lemmas.Bool.{both_ways}
use Rattle.pk_lex.specs.Words.{IsLongest}
use Rattle.pk_lex.specs.Steps.{quote_at}
use Rattle.pk_lex.specs.Characters.{is_character, code_of}
use Rattle.pk_lex.proofs.CharacterLemmas.{empty_no_character, other_no_character, no_character, longest_character}
use Rattle.pk_lex.proofs.characters.character_count.Goals as goal

pub returns-in_default : goal.returns-in_default
returns-in_default c = empty_no_character c.args.text.now c.in_default.ensures

pub returns-then-b-ne39 : goal.returns-then-b-ne39
returns-then-b-ne39 c = other_no_character c.args.text.now c.in-Some.b c.in-Some.rest.now c.in-Some.ensures c.if-b-ne39.true

pub returns-then-rest-count : goal.returns-then-rest-count
returns-then-rest-count c =
    no_character c.args.text.now c.in-Some.b c.in-Some.rest.now c.in-Some.ensures
    (λ lt e h. omega (arith, lt, c.quote_count-count.ensures, c.if-rest-count.true))

pub returns-then-rest-count-ne39 : goal.returns-then-rest-count-ne39
returns-then-rest-count-ne39 c =
    no_character c.args.text.now c.in-Some.b c.in-Some.rest.now c.in-Some.ensures
    (λ lt e h. c.if-rest-count-ne39.true (ap (λ n. get_or c.in-Some.rest.now n 0) c.quote_count-count.ensures ∙ e))

-- the code's test, at the place of the quote
tested : (rest front : List ℕ) (count : ℕ) (t : Bool) → count ≡ quote_at rest → front ≡ take count rest → t ≡ is_some (code_of front) → t ≡ is_some (code_of (take (quote_at rest) rest))
tested rest front count t e f g = g ∙ ap (λ w. is_some (code_of w)) (f ∙ ap (λ n. take n rest) e)

pub returns-then-is_some : goal.returns-then-is_some
returns-then-is_some c =
    let rest = c.in-Some.rest.now in
    let t = tested rest c.split_at.result.0.now c.quote_count-count.result c.is_some.result c.quote_count-count.ensures c.split_at.ensures.front (c.is_some.ensures ∙ ap is_some c.code.ensures) in
    subst (λ n. IsLongest is_character c.args.text.now (n + 2)) (sym c.quote_count-count.ensures)
    (longest_character c.args.text.now c.in-Some.b rest c.in-Some.ensures c.if-b-ne39.false
    (omega (arith, c.quote_count-count.ensures, c.if-rest-count.false)) (ap (λ n. get_or rest n 0) (sym c.quote_count-count.ensures) ∙ c.if-rest-count-ne39.false) (sym t ∙ c.if-is_some.true))

pub returns-else-is_some : goal.returns-else-is_some
returns-else-is_some c =
    let rest = c.in-Some.rest.now in
    let t = tested rest c.split_at.result.0.now c.quote_count-count.result c.is_some.result c.quote_count-count.ensures c.split_at.ensures.front (c.is_some.ensures ∙ ap is_some c.code.ensures) in
    no_character c.args.text.now c.in-Some.b rest c.in-Some.ensures (λ lt e h. both_ways c.is_some.result c.if-is_some.false (t ∙ h))
