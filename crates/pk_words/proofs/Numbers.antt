-- Words as numbers.
use Rattle.std.proofs.Common.{◌≡◌, ℕ, zero, suc, ◌+◌, ◌*◌, ◌/◌, ◌%◌, ◌<◌, refl, sym, ap, ◌∙◌, arith}
use Rattle.pk_core.specs.declared.events.Status.{Status}
use Rattle.pk_core.specs.declared.events.Status.TheVariants.{Waiting, Open, Held, Done}
use Rattle.pk_core.specs.States.{Element, run_number}
use Rattle.pk_words.specs.Board.{low, word_shown}
use Rattle.pk_words.proofs.Facts.{Narrow}

pub low_part : (r l : ℕ) → l < 1048576 → (r * 1048576 + l) % 1048576 ≡ l
low_part r l h = omega (arith, h)

pub high_part : (r l : ℕ) → l < 1048576 → (r * 1048576 + l) / 1048576 ≡ r
high_part r l h = omega (arith, h)

pub small : (st : Status) → Narrow st → low st < 1048576
small (Waiting n) h = omega (arith, h.1)
small Open h = omega arith
small Held h = omega arith
small Done h = omega arith

-- a word's run is the element's
pub run_shown : {C : Type 0} (left : ℕ) (x : Element C) (n : ℕ) → Narrow x.status → word_shown left x ≡ n → n / 1048576 ≡ run_number x
run_shown zero x n narrow is = ap (λ (m : ℕ). m / 1048576) (sym is) ∙ high_part (run_number x) (low x.status) (small x.status narrow)
run_shown (suc left) x n narrow is = ap (λ (m : ℕ). m / 1048576) (sym is) ∙ high_part (run_number x) 262145 (omega arith)

is_open : (st : Status) → Narrow st → low st ≡ 262144 → st ≡ Open
is_open (Waiting n) h e = absurd (omega (arith, h.1, e))
is_open Open h e = refl
is_open Held h e = absurd (omega (arith, e))
is_open Done h e = absurd (omega (arith, e))

-- an open word is that of an open element
pub open_word : {C : Type 0} (left : ℕ) (x : Element C) (n : ℕ) → Narrow x.status → word_shown left x ≡ n → n % 1048576 ≡ 262144 → x.status ≡ Open
open_word zero x n narrow is open_low =
    is_open x.status narrow (sym (low_part (run_number x) (low x.status) (small x.status narrow)) ∙ ap (λ (m : ℕ). m % 1048576) is ∙ open_low)
open_word (suc left) x n narrow is open_low =
    absurd (let l : 262145 ≡ 262144 = sym (low_part (run_number x) 262145 (omega arith)) ∙ ap (λ (m : ℕ). m % 1048576) is ∙ open_low in omega (arith, l))

is_done : (st : Status) → Narrow st → low st ≡ 262145 → st ≡ Done
is_done (Waiting n) h e = absurd (omega (arith, h.1, e))
is_done Open h e = absurd (omega (arith, e))
is_done Held h e = absurd (omega (arith, e))
is_done Done h e = refl

-- a done word is that of an element that is done, if it isn't to be armed
pub done_word : {C : Type 0} (left : ℕ) (x : Element C) (n : ℕ) → Narrow x.status → word_shown left x ≡ n → left ≡ 0 → n % 1048576 ≡ 262145 → x.status ≡ Done
done_word zero x n narrow is none done_low =
    is_done x.status narrow (sym (low_part (run_number x) (low x.status) (small x.status narrow)) ∙ ap (λ (m : ℕ). m % 1048576) is ∙ done_low)
done_word (suc left) x n narrow is none done_low = absurd (omega (arith, none))
