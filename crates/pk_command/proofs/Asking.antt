-- What words ask for, for the crates above.
use Rattle.std.proofs.Common.{◌≡◌, ◌∙◌, ap, refl, sym, ℕ, false, List, Some, codes, IsTrue}
use Rattle.std.specs.Prelude.{option_map}
use Rattle.std.specs.Str.{bytes_eq}
use Rattle.clap.specs.Words.{Row, Text}
use Rattle.pk_command.specs.declared.asked.RunOptions.{RunOptions}
use Rattle.pk_command.specs.declared.asked.OrderOptions.{OrderOptions}
use Rattle.pk_command.specs.declared.asked.GenOptions.{GenOptions}
use Rattle.pk_command.specs.declared.asked.CertOptions.{CertOptions}
use Rattle.pk_command.specs.declared.asked.Command.{Command}
use Rattle.pk_command.specs.declared.asked.Command.TheVariants.{Run, Order, Gen, Cert, Check}
use Rattle.pk_command.specs.CommandLine.{is_taken}
use Rattle.pk_command.specs.Given.{AsksFor, IsGen, cert_options, given_by, number_given, number_of, order_options, run_options}
use Rattle.pk_command.specs.Laws.{OneCommand}
use Rattle.pk_command.proofs.Taken.{other_names, pair_rows}

-- words that ask for a command are taken
pub asked_taken : (words : List Text) (command : Command) → AsksFor words command → IsTrue (is_taken words)
unfolding AsksFor
asked_taken words (Run options) asked = asked.0
asked_taken words (Order options) asked = asked.0
asked_taken words (Gen options) asked = asked.0
asked_taken words (Cert options) asked = asked.0
asked_taken words Check asked = asked.0

-- words ask for one run
pub one_run : (words : List Text) (a b : RunOptions) → AsksFor words (Run a) → AsksFor words (Run b) → a ≡ b
unfolding AsksFor
one_run words a b left right =
    let rows : left.1.0 ≡ right.1.0 = pair_rows (given_by words) left.1.0 right.1.0 (codes "run") (ap (option_map (λ p. p.1)) left.1.1.0) right.1.1.0 in
    left.1.1.1 ∙ ap run_options rows ∙ sym right.1.1.1

-- words ask for one order
pub one_order : (words : List Text) (a b : OrderOptions) → AsksFor words (Order a) → AsksFor words (Order b) → a ≡ b
unfolding AsksFor
one_order words a b left right =
    let rows : left.1.0 ≡ right.1.0 = pair_rows (given_by words) left.1.0 right.1.0 (codes "order") (ap (option_map (λ p. p.1)) left.1.1.0) right.1.1.0 in
    left.1.1.1 ∙ ap order_options rows ∙ sym right.1.1.1

same_number : (name : Text) (rows given : List Row) (a b : ℕ) → rows ≡ given → number_given name rows ≡ Some a → number_given name given ≡ Some b → a ≡ b
same_number name rows given a b same left right = some_same a b (sym left ∙ ap (number_given name) same ∙ right)
  where
    some_same : (x y : ℕ) → Some x ≡ Some y → x ≡ y
    some_same x y e = cc

same_options : (a b : GenOptions) → a.seed ≡ b.seed → a.size ≡ b.size → a.workers ≡ b.workers → a ≡ b
same_options a b seed size workers = rw (seed, size, workers) refl

-- words ask for one program
pub one_gen : (words : List Text) (a b : GenOptions) → AsksFor words (Gen a) → AsksFor words (Gen b) → a ≡ b
unfolding AsksFor
one_gen words a b left right =
    let rows : left.1.0 ≡ right.1.0 = pair_rows (given_by words) left.1.0 right.1.0 (codes "gen") (ap (option_map (λ p. p.1)) left.1.1.0) right.1.1.0 in
    let first : IsGen left.1.0 a = left.1.1.1 in
    let second : IsGen right.1.0 b = right.1.1.1 in
    same_options a b
    (same_number (codes "seed") left.1.0 right.1.0 a.seed b.seed rows first.seed second.seed)
    (same_number (codes "size") left.1.0 right.1.0 a.size b.size rows first.size second.size)
    (first.workers ∙ ap (number_of (codes "workers") 4) rows ∙ sym second.workers)

-- words ask for one certificate
pub one_cert : (words : List Text) (a b : CertOptions) → AsksFor words (Cert a) → AsksFor words (Cert b) → a ≡ b
unfolding AsksFor
one_cert words a b left right =
    let rows : left.1.0 ≡ right.1.0 = pair_rows (given_by words) left.1.0 right.1.0 (codes "cert") (ap (option_map (λ p. p.1)) left.1.1.0) right.1.1.0 in
    left.1.1.1 ∙ ap cert_options rows ∙ sym right.1.1.1

-- a command's word
abbrev word_of : Command → Text
word_of (Run options) = codes "run"
word_of (Order options) = codes "order"
word_of (Gen options) = codes "gen"
word_of (Cert options) = codes "cert"
word_of Check = codes "check"

word_given : (words : List Text) (command : Command) → AsksFor words command → (rows : List Row) × (given_by words ≡ Some (word_of command, rows))
unfolding AsksFor
word_given words (Run options) asked = (asked.1.0, asked.1.1.0)
word_given words (Order options) asked = (asked.1.0, asked.1.1.0)
word_given words (Gen options) asked = (asked.1.0, asked.1.1.0)
word_given words (Cert options) asked = (asked.1.0, asked.1.1.0)
word_given words Check asked = asked.1

-- no words ask for commands of two words
never_both : (words : List Text) (a b : Command) → bytes_eq (word_of a) (word_of b) ≡ false → AsksFor words a → AsksFor words b → ⊥
never_both words a b differ left right =
    let first = word_given words a left in
    let second = word_given words b right in
    other_names (given_by words) (word_of a) (word_of b) first.0 second.0 differ first.1 second.1

pub one_asked : OneCommand
one_asked words (Run a) (Run b) left right = ap Run (one_run words a b left right)
one_asked words (Run a) (Order b) left right = absurd (never_both words (Run a) (Order b) refl left right)
one_asked words (Run a) (Gen b) left right = absurd (never_both words (Run a) (Gen b) refl left right)
one_asked words (Run a) (Cert b) left right = absurd (never_both words (Run a) (Cert b) refl left right)
one_asked words (Run a) Check left right = absurd (never_both words (Run a) Check refl left right)
one_asked words (Order a) (Run b) left right = absurd (never_both words (Order a) (Run b) refl left right)
one_asked words (Order a) (Order b) left right = ap Order (one_order words a b left right)
one_asked words (Order a) (Gen b) left right = absurd (never_both words (Order a) (Gen b) refl left right)
one_asked words (Order a) (Cert b) left right = absurd (never_both words (Order a) (Cert b) refl left right)
one_asked words (Order a) Check left right = absurd (never_both words (Order a) Check refl left right)
one_asked words (Gen a) (Run b) left right = absurd (never_both words (Gen a) (Run b) refl left right)
one_asked words (Gen a) (Order b) left right = absurd (never_both words (Gen a) (Order b) refl left right)
one_asked words (Gen a) (Gen b) left right = ap Gen (one_gen words a b left right)
one_asked words (Gen a) (Cert b) left right = absurd (never_both words (Gen a) (Cert b) refl left right)
one_asked words (Gen a) Check left right = absurd (never_both words (Gen a) Check refl left right)
one_asked words (Cert a) (Run b) left right = absurd (never_both words (Cert a) (Run b) refl left right)
one_asked words (Cert a) (Order b) left right = absurd (never_both words (Cert a) (Order b) refl left right)
one_asked words (Cert a) (Gen b) left right = absurd (never_both words (Cert a) (Gen b) refl left right)
one_asked words (Cert a) (Cert b) left right = ap Cert (one_cert words a b left right)
one_asked words (Cert a) Check left right = absurd (never_both words (Cert a) Check refl left right)
one_asked words Check (Run b) left right = absurd (never_both words Check (Run b) refl left right)
one_asked words Check (Order b) left right = absurd (never_both words Check (Order b) refl left right)
one_asked words Check (Gen b) left right = absurd (never_both words Check (Gen b) refl left right)
one_asked words Check (Cert b) left right = absurd (never_both words Check (Cert b) refl left right)
one_asked words Check Check left right = refl
